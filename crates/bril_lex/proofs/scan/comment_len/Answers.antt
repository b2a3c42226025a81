use Rattle.std.proofs.Common.{sym, ap, ◌∙◌, take}
use Rattle.std.specs.Str.Lossy.{utf8_valid_len}
use Rattle.std.proofs.lemmas.Str.{utf8_valid_len-IsUtf8}
use Rattle.bril_lex.proofs.scan.comment_len.Goals as goal

-- where the whole line is UTF-8 all of it is valid
pub returns-in-Ok-clause-value : goal.returns-in-Ok-clause-value
returns-in-Ok-clause-value c =
    sym (utf8_valid_len-IsUtf8 _ c.in-Ok.ensures.cases.1) ∙ ap (λ n. utf8_valid_len (take n c.args.bytes.now)) c.line_bytes.ensures.count
