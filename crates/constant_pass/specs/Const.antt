-- What the pass means.
use Rattle.std.specs.Prelude.{◌≡◌, codes}
use Rattle.bril_tree.specs.Size.{item_count}
use Rattle.pass_law.specs.Meaning.{Meaning, is_name}
use Rattle.constant_pass.specs.Folded.{IsFolded}

-- It is named `const`, makes no step more, and no program longer.
abbrev pub const_meaning : Meaning
const_meaning = record {
  answers = is_name (codes "const");
  IsFactor = λ P profile k. k ≡ 1;
  IsBound = λ P profile k. k ≡ item_count P;
  Makes = λ P profile Q. IsFolded P Q;
}
