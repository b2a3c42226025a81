use Rattle.trace_recorder.proofs.parts.Parts.named_if_hot.Goals as goal

pub of-requires : goal.of-requires
of-requires c = c.requires.place c.in-Some.arrival c.in-Some.is
