-- What the pass means.
use Rattle.std.specs.Prelude.{◌≡◌, codes}
use Rattle.bril_tree.specs.Size.{item_count}
use Rattle.pass_law.specs.Meaning.{Meaning, is_name}
use Rattle.ssa_exit.specs.Unssaed.{IsUnssaed}

-- It is named `unssa`, makes no step more, and no program longer.
abbrev pub unssa_meaning : Meaning
unssa_meaning = record {
  answers = is_name (codes "unssa");
  IsFactor = λ P profile k. k ≡ 1;
  IsBound = λ P profile k. k ≡ item_count P;
  Makes = λ P profile Q. IsUnssaed P Q;
}
