use Rattle.step_monitor.proofs.monitor.Monitor.new.Goals as goal

pub returns-clause-stands : goal.returns-clause-stands
returns-clause-stands c = record {
  image_is = c.in_ok-machine.ensures.image;
  sizes_are = c.in_ok-machine.ensures.sizes;
  state_is = c.in_ok-machine.ensures.state;
  spots_are = c.in_ok-spots.ensures.spots;
}
