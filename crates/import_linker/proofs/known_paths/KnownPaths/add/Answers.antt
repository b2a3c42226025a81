-- The path is put last.
use Rattle.std.proofs.Common.{◌∙◌, ap}
use Rattle.std.specs.String.{string_bytes}
use Rattle.import_linker.specs.Order.{added}
use Rattle.import_linker.proofs.Held.{adds}
use Rattle.import_linker.proofs.known_paths.KnownPaths.add.Goals as goal

pub returns-clause-ok : goal.returns-clause-ok
returns-clause-ok c =
    adds string_bytes c.self.inside.held.keys c.insert.new.self.keys c.in_ok-copy.copy c.args.self.now c.self.view_is c.in_ok-insert.ensures.keys
    ∙ ap (added c.args.self.now) c.in_ok-copy.ensures.ok
