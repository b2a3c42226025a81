-- The place of the key.
use Rattle.std.proofs.Common.{◌∙◌, ap, bytes_eq, List, ℕ}
use Rattle.std.specs.Borrow.{Bor}
use Rattle.std.specs.Prelude.{position}
use Rattle.import_linker.specs.Names.{contains}
use Rattle.import_linker.proofs.Held.{contains_is, position_is}
use Rattle.import_linker.proofs.table.Table.find.Goals as goal

abbrev now_of : Bor (List ℕ) → List ℕ
now_of k = k.now

pub returns-clause-place : goal.returns-clause-place
returns-clause-place c = c.get_index_of.ensures.index ∙ position_is now_of c.self.inside.held.keys c.args.name.now ∙ ap (position (bytes_eq c.args.name.now)) c.self.view_is

pub returns-clause-found : goal.returns-clause-found
returns-clause-found c = c.get_index_of.ensures.found ∙ contains_is now_of c.self.inside.held.keys c.args.name.now ∙ ap (λ n. contains n c.args.name.now) c.self.view_is
