-- The name is an identifier.
use Rattle.std.proofs.Common.{◌≡◌, ◌∙◌, ◌<◌, ◌^◌, ap, sym, arith}
use Rattle.bril_tree.specs.Identifier.{is_identifier}
use Rattle.ssa_build.specs.fresh_names.Names.{made_name}
use Rattle.ssa_build.proofs.lemmas.fresh_names.Texts.{made-ident}
use Rattle.ssa_build.proofs.fresh_names.names.made_name.Goals as goal

pub of_identifier-requires : goal.of_identifier-requires
of_identifier-requires c =
    let bytes : c.as_slice.result.now ≡ made_name c.args.front c.args.name.now c.args.number = c.as_slice.ensures.value ∙ c.in_ok-bytes.ensures in
    let small : c.args.number < 2 ^ 64 = omega arith in
    ap is_identifier bytes ∙ made-ident c.args.front c.args.name.now c.args.number small c.requires
