-- The name is an identifier.
use Rattle.std.proofs.Common.{◌≡◌, ◌∙◌, ◌++◌, ◌∷◌, ap, sym, List, ℕ, true}
use Rattle.std.specs.Prelude.{replicate}
use Rattle.std.specs.Fmt.{decimal}
use Rattle.bril_tree.specs.Identifier.{is_identifier}
use Rattle.import_linker.proofs.SpelledNames.{is_name}
use Rattle.import_linker.proofs.fresh_run.spelled_name.Goals as goal

pub of_identifier-requires : goal.of_identifier-requires
of_identifier-requires c =
    let bytes : c.as_slice.result.now ≡ replicate c.args.run 95 ++ decimal c.args.file ++ 46 ∷ c.args.name.now =
    c.as_slice.ensures.value ∙ c.in_ok-bytes.ensures ∙ ap (λ (n : List ℕ). replicate c.args.run 95 ++ decimal c.args.file ++ 46 ∷ n) c.as_bytes.ensures.value in
    let ident : is_identifier c.args.name.now ≡ true = sym (ap is_identifier c.as_bytes.ensures.value) ∙ c.as_bytes.ensures.ident in
    ap is_identifier bytes ∙ is_name c.args.run c.args.file c.args.name.now c.requires c.ranges.file.fits ident
