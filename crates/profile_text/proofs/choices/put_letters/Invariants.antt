use Rattle.std.proofs.Common.{◌≡◌, ◌++◌, take, map}
use Rattle.profile_text.specs.Form.{choice_letter}
use Rattle.profile_text.proofs.choices.put_letters.Given as goal

abbrev pub invariant-loop-choice : goal.invariant-loop-choice
invariant-loop-choice l = l.into ≡ l.initial.into ++ map choice_letter (take l.choice-index l.choices)
