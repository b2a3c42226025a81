-- The numbers of the pass: there is one of each.
use Rattle.std.proofs.Common.{◌≡◌, ℕ, ◌+◌, ◌*◌, refl, sym, ap, ◌∙◌}
use Rattle.bril_tree.specs.declared.program.Prog.{Prog}
use Rattle.bril_tree.specs.Accepted.{IsAccepted}
use Rattle.bril_tree.specs.Size.{item_count}
use Rattle.ssa_laws.proofs.lemmas.live_entries.Existing.{live-entries-one, live-entries-there, widths-there}
use Rattle.pass_law.specs.Meaning.{HasNumbers}
use Rattle.program_numbers.specs.Entries.{IsEntryWidth}
use Rattle.program_numbers.specs.ProgramNumbers.{most_locations}
use Rattle.program_numbers.proofs.Measures.{IsGreatest-one}
use Rattle.ssa_form_laws.specs.form.Laws.{SsaKeepsNumbers}
use Rattle.ssa_form_laws.specs.form.Numbers.{IsSsaBound, IsSsaFactor}
use Rattle.ssa_form_laws.specs.form.Ssa.{ssa_meaning}

one-factor : (P : Prog) (j k : ℕ) → IsSsaFactor P j → IsSsaFactor P k → j ≡ k
one-factor P j k a b = a.is ∙ ap (λ w. 1 + 2 * most_locations P * (w + 1)) (IsGreatest-one (λ f n. IsEntryWidth f.code n) P a.width b.width a.is_width b.is_width) ∙ sym b.is

some-factor : (P : Prog) → IsAccepted P → (k : ℕ) × IsSsaFactor P k
some-factor P accepted = let w = widths-there P accepted in (1 + 2 * most_locations P * (w.0 + 1), record { width = w.0; is_width = w.1; is = refl })

one-bound : (P : Prog) (j k : ℕ) → IsSsaBound P j → IsSsaBound P k → j ≡ k
one-bound P j k a b = a.is ∙ ap (λ n. item_count P + 2 * n) (live-entries-one P a.entries b.entries a.are b.are) ∙ sym b.is

some-bound : (P : Prog) → IsAccepted P → (k : ℕ) × IsSsaBound P k
some-bound P accepted = let e = live-entries-there P accepted in (item_count P + 2 * e.0, record { entries = e.0; are = e.1; is = refl })

pub has-numbers : HasNumbers ssa_meaning
has-numbers = record {
  factor = record { one = λ P profile j k a b. one-factor P j k a b; some = λ P profile accepted. some-factor P accepted };
  bound = record { one = λ P profile j k a b. one-bound P j k a b; some = λ P profile accepted. some-bound P accepted };
}

pub keeps-numbers : SsaKeepsNumbers
keeps-numbers P Q bound is makes = makes.numbers bound is
