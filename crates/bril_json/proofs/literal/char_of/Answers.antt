use Rattle.std.proofs.Common.{◌≡◌, ◌<◌, ◌++◌, length, Err, sym, ap, ◌∙◌, arith}
use Rattle.std.specs.Prelude.{encode_utf8}
use Rattle.std.proofs.lemmas.Grind.{common_steps}
use Rattle.bril_json.proofs.Chars.{one_char, more_chars}
use Rattle.bril_json.proofs.literal.char_of.Goals as goal

pub returns-then-is_empty : goal.returns-then-is_empty
returns-then-is_empty c =
    let is : c.args.text.now ≡ encode_utf8 c.in-Some.scalar ++ c.as_str.result.now =
    sym c.chars-scalars.ensures.rest ∙ c.in-Some.ensures.steps.0 ∙ ap (λ r. encode_utf8 c.in-Some.scalar ++ r) (sym c.as_str.ensures) in
    let none : length c.as_str.result.now ≡ 0 = grind (arith, common_steps) in
    sym (one_char c.args.position c.args.text.now c.as_str.result.now c.in-Some.scalar c.utf8.text is none)

pub returns-else-is_empty : goal.returns-else-is_empty
returns-else-is_empty c =
    let is : c.args.text.now ≡ encode_utf8 c.in-Some.scalar ++ c.as_str.result.now =
    sym c.chars-scalars.ensures.rest ∙ c.in-Some.ensures.steps.0 ∙ ap (λ r. encode_utf8 c.in-Some.scalar ++ r) (sym c.as_str.ensures) in
    let some : 0 < length c.as_str.result.now = grind (arith, common_steps) in
    ap Err c.shape-else-is_empty.ensures ∙ sym (more_chars c.args.position c.args.text.now c.as_str.result.now c.in-Some.scalar c.utf8.text is c.as_str.utf8 some)
