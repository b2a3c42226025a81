-- A block is live in the machine's memory exactly where one is in the program's.
use Rattle.std.proofs.Common.{◌≡◌, ℕ, zero, suc, ◌+◌, ◌*◌, ◌<◌, ◌≤◌, Bool, true, false, ◌||◌, cond, eqb, refl, sym, ap, ◌∙◌, arith, List, length, take, not}
use Rattle.std.specs.List.{list_any}
use Rattle.std.proofs.Math.Bool.{or_comm}
use Rattle.std.proofs.Math.Seq.{take-length}
use Rattle.std.proofs.lemmas.Bool.Decides.{nat_tests}
use Rattle.std.proofs.lemmas.List.Folds.{list_any_more}
use Rattle.std.proofs.lemmas.Option.{get_or_from_slice_get}
use Rattle.bril_tree.specs.Memory as bril
use Rattle.bril_tree.specs.State.{Block}
use Rattle.bril_tree.proofs.Elements.{get_inside}
use Rattle.rv64_words.specs.Environment as rv64
use Rattle.rv64_words.specs.Region.{Sizes}
use Rattle.rv64_emit_laws.proofs.Relation.{MemoryHolds}

sized : (live : Bool) (size : ℕ) → (live ≡ true → 1 ≤ size) → not (eqb (cond live size 0) 0) ≡ live
sized true size some = let one : 1 ≤ size = some refl in let e : eqb size 0 ≡ false = grind (arith, nat_tests) in ap not e
sized false size some = refl

module _ (z : Sizes) (blocks : List Block) (table cells : ℕ → ℕ) (made next_free : ℕ) (h : MemoryHolds z blocks table cells made next_free) where
  live_before : (n : ℕ) → n ≤ length blocks → rv64.is_live_any table n ≡ list_any (λ b. b.is_live) (take n blocks)
  live_before zero le = refl
  live_before (suc n) le =
      let inside : n < length blocks = omega arith in
      let found = get_inside blocks n inside in
      let b = found.0 in
      let here = h.each n b found.1 in
      let this : not (eqb (table (2 * suc n + 1)) 0) ≡ b.is_live = ap (λ m. not (eqb m 0)) here.size ∙ sized b.is_live b.size (λ live. (h.lies n b found.1 live).some) in
      let next : n + 1 ≡ suc n = omega arith in
      ap (λ t. t || rv64.is_live_any table n) this
      ∙ (ap (λ t. b.is_live || t) (live_before n (omega arith))
      ∙ (or_comm b.is_live (list_any (λ x. x.is_live) (take n blocks))
      ∙ (ap (λ x. list_any (λ x. x.is_live) (take n blocks) || x.is_live) (sym (get_or_from_slice_get blocks n b b found.1))
      ∙ (sym (list_any_more (λ x. x.is_live) blocks n b inside)
      ∙ ap (λ m. list_any (λ x. x.is_live) (take m blocks)) next))))

  pub live_alike : rv64.is_live_any table made ≡ bril.is_live_any blocks
  live_alike =
      let all : length blocks ≤ length blocks = omega arith in
      ap (rv64.is_live_any table) h.count ∙ (live_before (length blocks) all ∙ ap (list_any (λ b. b.is_live)) (take-length blocks))
