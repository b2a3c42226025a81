use Rattle.std.proofs.Common.{◌∙◌}
use Rattle.bril_lex.proofs.Utf8.{is_ok-is_utf8}
use Rattle.bril_lex.proofs.scan.is_utf8.Goals as goal

pub returns : goal.returns
returns c = c.is_ok.ensures.value ∙ is_ok-is_utf8 c.from_utf8.result c.args.bytes.now _ _ c.from_utf8.ensures.cases
