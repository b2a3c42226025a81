-- Loads and stores find the cells that the program's find.
use Rattle.std.proofs.Common.{◌≡◌, ℕ, ◌+◌, ◌*◌, false, ltb, sym, ap, ◌∙◌, arith, List, ℤ}
use Rattle.std.proofs.lemmas.Bool.Decides.{nat_tests}
use Rattle.bril_tree.specs.State.{Block}
use Rattle.rv64_words.specs.Region.{Sizes}
use Rattle.rv64_words_laws.specs.stretches.Core.{Core}
use Rattle.rv64_words_laws.specs.values.Cells.{is_inside}
use Rattle.rv64_words_laws.specs.blocks.Laws.{CoreHolds, FindsCell, AccessesAreAlike, LoadsAreAlike, StoresAreAlike}
use Rattle.rv64_words_laws.proofs.lemmas.blocks.Finding.{CellFound, cell_found, cell_missing, value_found, fresh_found}
use Rattle.rv64_words_laws.proofs.lemmas.blocks.Storing.{store_keeps}

pub accesses : AccessesAreAlike
accesses z blocks c block offset h le none n is =
    let out : ltb n (c.table (2 * block + 1)) ≡ false = sym (ap (λ i. is_inside i (c.table (2 * block + 1))) is) ∙ cell_missing z blocks c.table c.cells c.blocks c.next_free h block offset le none in
    grind (arith, nat_tests)

module _ (z : Sizes) (blocks : List Block) (c : Core) (h : CoreHolds z blocks c) (block n : ℕ) (offset : ℤ) (f : CellFound z blocks c.table c.cells c.blocks c.next_free h block n offset) where
  finds : FindsCell z c block n (h.first block + n)
  finds =
      let size = f.size in
      let below = f.below in
      let address = f.address in
      let inside = f.inside in
      let room = h.room in
      record { inside = omega arith; address = omega arith; within = omega arith }

pub loads : LoadsAreAlike
loads z blocks c block n offset h le there =
    let f = cell_found z blocks c.table c.cells c.blocks c.next_free h block n offset le there in (
      h.first block + n,
      f.offset_is,
      finds z blocks c h block n offset f,
      λ v e. value_found z blocks c.table c.cells c.blocks c.next_free h block n offset v f e,
      λ e. fresh_found z blocks c.table c.cells c.blocks c.next_free h block n offset f e,
    )

pub stores : StoresAreAlike
stores z blocks c block n w offset v h le there word =
    let f = cell_found z blocks c.table c.cells c.blocks c.next_free h block n offset le there in
    (h.first block + n, finds z blocks c h block n offset f, store_keeps z blocks c.table c.cells c.blocks c.next_free h block n w offset v f word)
