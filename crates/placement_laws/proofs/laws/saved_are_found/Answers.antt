use Rattle.placement_laws.proofs.Saving.{reached_lead_out, saved_inside}
use Rattle.placement_laws.proofs.laws.saved_are_found.Goals as goal

pub returns : goal.returns
returns c = record {
  saved = λ p k f accepted there site x. saved_inside p k f accepted there site x;
  found = λ code level label barred arcs guards are all. reached_lead_out code level label barred arcs guards are all;
}
