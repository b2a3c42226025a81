-- The key of the number.
use Rattle.std.proofs.Common.{◌∙◌, ap, sym, Some}
use Rattle.std.specs.Prelude.{option_map, slice_get}
use Rattle.std.specs.String.{string_bytes}
use Rattle.import_linker.proofs.Held.{slice_get-map}
use Rattle.import_linker.proofs.known_paths.KnownPaths.get.Goals as goal

pub returns : goal.returns
returns c =
    let keys = c.self.inside.held.keys in
    ap (λ l. slice_get l c.args.number) (sym c.self.view_is) ∙ slice_get-map string_bytes keys c.args.number ∙ ap (option_map string_bytes) (sym c.in_ok-path.ensures.key)
    ∙ ap Some (sym c.as_str.ensures.value)
