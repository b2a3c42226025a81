-- Numbers of a pass that are told by an equation.
use Rattle.std.proofs.Common.{◌≡◌, ℕ, refl, sym, ◌∙◌}
use Rattle.bril_profile.specs.declared.profile.Profile.{Profile}
use Rattle.bril_tree.specs.declared.program.Prog.{Prog}
use Rattle.pass_law.specs.Meaning.{IsNumber}

pub equation_number : (f : Prog → Profile → ℕ) → IsNumber (λ P profile k. k ≡ f P profile)
equation_number f = record { one = λ P profile j k a b. a ∙ sym b; some = λ P profile accepted. (f P profile, refl) }
