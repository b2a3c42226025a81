-- The source has tokens.
use Rattle.std.proofs.Common.{◌≡◌, ◌∙◌, sym}
use Rattle.bril_lex.specs.declared.cut.LexFault.{LexFault}
use Rattle.bril_lex.specs.declared.cut.LexFault.TheVariants.{At, Memory}
use Rattle.bril_explain.proofs.locate.byte_of.Goals as goal

pub unreachable-requires : goal.unreachable-requires
unreachable-requires c =
    let both : ◌≡◌ {A = LexFault} (At c.in-Err-At.field-0-0) Memory = sym c.in-Err-At.field-0-is ∙ c.in-Err-At.ensures.cut c.requires.cut.0 c.requires.cut.1 in
    cc
