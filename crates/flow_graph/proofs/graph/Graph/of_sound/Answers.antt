use Rattle.flow_graph.proofs.Told.{no_nest}
use Rattle.flow_graph.proofs.graph.Graph.of_sound.Goals as goal

pub unreachable-requires : goal.unreachable-requires
unreachable-requires c = no_nest c.args.func.now.code c.in-Err-Nest.field-0 c.in-Err-Nest.field-0-0 c.requires.sound c.in-Err-Nest.field-0-is c.in-Err-Nest.ensures.fault
