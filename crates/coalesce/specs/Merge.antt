-- What the pass means, and what its rounds owe to it.
use Rattle.std.specs.Prelude.{◌≡◌, ◌≤◌, ℕ, List, codes}
use Rattle.bril_tree.specs.Accepted.{IsAccepted}
use Rattle.bril_tree.specs.Run.{Refines}
use Rattle.bril_tree.specs.Size.{item_count}
use Rattle.bril_tree.specs.declared.program.Prog.{Prog}
use Rattle.pass_law.specs.Meaning.{Meaning, is_name}
use Rattle.coalesce.specs.meaning.Merged.{IsMerged, IsRound}

-- It is named `merge`, makes no step more, and no program longer.
abbrev pub merge_meaning : Meaning
merge_meaning = record {
  answers = is_name (codes "merge");
  IsFactor = λ P profile k. k ≡ 1;
  IsBound = λ P profile k. k ≡ item_count P;
  Makes = λ P profile Q. IsMerged P Q;
}

-- a round made Q of P
pub record IsNextRound (P Q : Prog) : Type 0 where
  pub rename : ℕ → List ℕ → List ℕ
  pub round : IsRound P Q rename
  pub accepted : IsAccepted Q
  pub size : item_count Q ≤ item_count P

-- all rounds made Q of P
pub record IsMadeBy (P Q : Prog) : Type 0 where
  pub merged : IsMerged P Q
  pub accepted : IsAccepted Q
  pub refines : Refines P Q 1
  pub size : item_count Q ≤ item_count P
