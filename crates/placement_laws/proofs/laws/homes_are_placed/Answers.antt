use Rattle.placement_laws.proofs.Different.{different_placed, separate_apart, separate_placed}
use Rattle.placement_laws.proofs.laws.homes_are_placed.Goals as goal

pub returns : goal.returns
returns c = record {
  separate = λ p k f g accepted there lowered homes saved. separate_placed p k f g accepted there lowered homes saved;
  different = λ p k f g accepted there lowered homes saved. different_placed p k f g accepted there lowered homes saved;
  live = λ p k f g accepted there lowered homes spans. separate_apart p k f g accepted there lowered homes spans;
}
