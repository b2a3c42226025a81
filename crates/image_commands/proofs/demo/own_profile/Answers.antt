-- The run was recorded under the limits of the demo.
use Rattle.image_commands.proofs.demo.own_profile.Goals as goal

pub returns : goal.returns
returns c = record {
  limits = c.demo_limits-limits.result;
  frames_are = c.demo_limits-limits.ensures.0;
  cells_are = c.demo_limits-limits.ensures.1;
  are = c.in_ok-run.ensures.profile;
}
