use Rattle.std.proofs.Common.{◌≤◌, [], ◌∷◌, length, map, ap, ◌∙◌, arith}
use Rattle.std.specs.Prelude.{◌==◌}
use Rattle.std.proofs.lemmas.List.{take_all}
use Rattle.profile_text.specs.Form.{choices_text}
use Rattle.profile_text.proofs.Cuts.{equal_not}
use Rattle.profile_text.proofs.Entries.{choices_read}
use Rattle.profile_text.proofs.choices.read_choices.Goals as goal

pub returns-clause-text : goal.returns-clause-text
returns-clause-text c =
    let letters = c.args.letters.now in
    let at_end : length letters ≤ c.loop-letter.letter-index = (let h = c.loop-letter-test.false in omega arith) in
    let other = equal_not letters c.as_slice.result.now (45 ∷ []) c.eq.result c.eq.ensures c.if-eq.false c.as_slice.ensures in
    ap choices_text (choices_read letters c.requires.spelled c.loop-letter.choices other (c.loop-letter.invariant ∙ ap (map (λ b. b == 84)) (take_all c.loop-letter.letter-index letters at_end)))
    ∙ c.requires.spelled.text
