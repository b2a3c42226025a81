-- What the pass means.
use Rattle.std.specs.Prelude.{◌≡◌, codes}
use Rattle.bril_tree.specs.Size.{item_count}
use Rattle.pass_law.specs.Meaning.{Meaning, is_name}
use Rattle.tidy_code.specs.Tidied.{IsTidied}

-- It is named `tidy`, makes no step more, and no program longer.
abbrev pub tidy_meaning : Meaning
tidy_meaning = record {
  answers = is_name (codes "tidy");
  IsFactor = λ P profile k. k ≡ 1;
  IsBound = λ P profile k. k ≡ item_count P;
  Makes = λ P profile Q. IsTidied P Q;
}
