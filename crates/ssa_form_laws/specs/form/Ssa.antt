-- What the pass means.
use Rattle.std.specs.Prelude.{codes}
use Rattle.pass_law.specs.Meaning.{Meaning, is_name}
use Rattle.ssa_form_laws.specs.form.Form.{IsSsa}
use Rattle.ssa_form_laws.specs.form.Numbers.{IsSsaBound, IsSsaFactor}

-- It is named `ssa`. One step becomes one and the copies before it, and a program longer by the copies that are put in.
abbrev pub ssa_meaning : Meaning
ssa_meaning = record {
  answers = is_name (codes "ssa");
  IsFactor = λ P profile k. IsSsaFactor P k;
  IsBound = λ P profile k. IsSsaBound P k;
  Makes = λ P profile Q. IsSsa P Q;
}
