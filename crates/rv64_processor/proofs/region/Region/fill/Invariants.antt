use Rattle.std.proofs.Common.{◌≡◌, ◌-◌, ◌+◌}
use Rattle.rv64_processor.specs.RegionView.{words_in, size_in, written_in}
use Rattle.rv64_processor.proofs.region.Region.fill.Given as goal

abbrev pub invariant-loop-self : goal.invariant-loop-self
invariant-loop-self l = record {
  words : words_in l.self ≡ words_in l.fn.self;
  size : size_in l.self ≡ size_in l.fn.self;
}

abbrev pub decreases-loop-self : goal.decreases-loop-self
decreases-loop-self l = l.k + 1 - written_in l.self
