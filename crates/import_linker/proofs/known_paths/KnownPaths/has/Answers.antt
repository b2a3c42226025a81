-- A key is the path.
use Rattle.std.proofs.Common.{◌∙◌, ap}
use Rattle.std.specs.String.{string_bytes}
use Rattle.import_linker.specs.Order.{is_known}
use Rattle.import_linker.proofs.Held.{contains_is}
use Rattle.import_linker.proofs.known_paths.KnownPaths.has.Goals as goal

pub returns : goal.returns
returns c = c.contains.ensures ∙ contains_is string_bytes c.self.inside.held.keys c.args.path.now ∙ ap (is_known c.args.path.now) c.self.view_is
