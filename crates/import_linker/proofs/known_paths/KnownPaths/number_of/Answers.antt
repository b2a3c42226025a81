-- The place of the key, or the number of all.
use Rattle.std.proofs.Common.{◌∙◌, ap, bytes_eq}
use Rattle.std.specs.List.{position_or_len}
use Rattle.std.specs.String.{string_bytes}
use Rattle.import_linker.proofs.Held.{place_is, place_none, place_some}
use Rattle.import_linker.proofs.known_paths.KnownPaths.number_of.Goals as goal

pub returns-in-Some : goal.returns-in-Some
returns-in-Some c =
    let keys = c.self.inside.held.keys in
    let path = c.args.path.now in
    place_some (λ k. bytes_eq path (string_bytes k)) keys c.in-Some.number c.in-Some.ensures.index ∙ place_is string_bytes keys path ∙ ap (position_or_len (bytes_eq path)) c.self.view_is

pub returns-in-None : goal.returns-in-None
returns-in-None c =
    let keys = c.self.inside.held.keys in
    let path = c.args.path.now in
    c.len.ensures.len ∙ place_none (λ k. bytes_eq path (string_bytes k)) keys c.in-None.ensures.found ∙ place_is string_bytes keys path ∙ ap (position_or_len (bytes_eq path)) c.self.view_is
