-- What the pass means.
use Rattle.std.specs.Prelude.{◌≡◌, codes}
use Rattle.bril_tree.specs.Size.{item_count}
use Rattle.pass_law.specs.Meaning.{Meaning, is_name}
use Rattle.dead_code.specs.Emptied.{IsDeadened}

-- It is named `dead`, makes no step more, and no program longer.
abbrev pub dead_meaning : Meaning
dead_meaning = record {
  answers = is_name (codes "dead");
  IsFactor = λ P profile k. k ≡ 1;
  IsBound = λ P profile k. k ≡ item_count P;
  Makes = λ P profile Q. IsDeadened P Q;
}
