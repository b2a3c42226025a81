use Rattle.std.proofs.Common.{◌≡◌, take, map}
use Rattle.std.specs.Prelude.{◌==◌}
use Rattle.profile_text.proofs.choices.read_choices.Given as goal

abbrev pub invariant-loop-letter : goal.invariant-loop-letter
invariant-loop-letter l = l.choices ≡ map (λ b. b == 84) (take l.letter-index l.letters)
