use Rattle.bril_json.proofs.Identifiers.{identifier_utf8}
use Rattle.bril_json.proofs.writing.part.name_text.Goals as goal

pub unreachable-requires : goal.unreachable-requires
unreachable-requires c = c.in-Err.ensures.cases.0 (identifier_utf8 c.as_bytes.result.now c.as_bytes.ensures.ident)
