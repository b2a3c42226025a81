use Rattle.std.proofs.Common.{◌≡◌, ◌++◌, Some, length, sym, ap, ◌∙◌, arith}
use Rattle.std.specs.Prelude.{encode_utf8}
use Rattle.std.proofs.lemmas.Grind.{common_steps}
use Rattle.bril_arguments.proofs.Letters.{no_letter, one_letter}
use Rattle.bril_arguments.proofs.spelling.read_char.Goals as goal

pub returns-in_err-letter-clause-each : goal.returns-in_err-letter-clause-each
returns-in_err-letter-clause-each c = λ letter is scalar. absurd (no_letter c.args.word.now letter (ap length (sym c.chars-letters.ensures.rest) ∙ c.in_err-letter.ensures.steps.0.0) is)

pub returns-then-is_empty-clause-each : goal.returns-then-is_empty-clause-each
returns-then-is_empty-clause-each c = λ letter is scalar.
    let begins : c.args.word.now ≡ encode_utf8 c.in_ok-letter.letter ++ c.as_str.result.now =
    sym c.chars-letters.ensures.rest ∙ c.in_ok-letter.ensures.steps.0 ∙ ap (λ r. encode_utf8 c.in_ok-letter.letter ++ r) (sym c.as_str.ensures) in
    ap Some (one_letter c.args.word.now c.as_str.result.now c.in_ok-letter.letter letter begins is).0

pub returns-else-is_empty-clause-each : goal.returns-else-is_empty-clause-each
returns-else-is_empty-clause-each c = λ letter is scalar.
    let begins : c.args.word.now ≡ encode_utf8 c.in_ok-letter.letter ++ c.as_str.result.now =
    sym c.chars-letters.ensures.rest ∙ c.in_ok-letter.ensures.steps.0 ∙ ap (λ r. encode_utf8 c.in_ok-letter.letter ++ r) (sym c.as_str.ensures) in
    let none = ap length (one_letter c.args.word.now c.as_str.result.now c.in_ok-letter.letter letter begins is).1 in
    absurd (grind (arith, common_steps))
