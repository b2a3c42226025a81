-- The key is put last.
use Rattle.std.proofs.Common.{◌∙◌, ap, not, List, ℕ}
use Rattle.std.specs.Borrow.{Bor}
use Rattle.import_linker.specs.Names.{contains}
use Rattle.import_linker.proofs.Held.{adds, contains_is}
use Rattle.import_linker.proofs.table.Table.add.Goals as goal

abbrev now_of : Bor (List ℕ) → List ℕ
now_of k = k.now

pub returns-clause-ok : goal.returns-clause-ok
returns-clause-ok c =
    let keys = c.self.inside.held.keys in
    let name = c.args.name.now in (
      c.in_ok-insert.ensures.added ∙ ap not (contains_is now_of keys name ∙ ap (λ n. contains n name) c.self.view_is),
      adds now_of keys c.insert.new.self.keys c.args.name c.args.self.now c.self.view_is c.in_ok-insert.ensures.keys,
    )
