-- A key has the name.
use Rattle.std.proofs.Common.{◌∙◌, ap, List, ℕ}
use Rattle.std.specs.Borrow.{Bor}
use Rattle.import_linker.specs.Names.{contains}
use Rattle.import_linker.proofs.Held.{contains_is}
use Rattle.import_linker.proofs.table.Table.has.Goals as goal

pub returns : goal.returns
returns c = c.contains.ensures ∙ contains_is (λ (k : Bor (List ℕ)). k.now) c.self.inside.held.keys c.args.name.now ∙ ap (λ n. contains n c.args.name.now) c.self.view_is
