use Rattle.std.proofs.Common.{◌∙◌}
use Rattle.rv64_processor.proofs.Regions.{words_of-zero}
use Rattle.rv64_processor.proofs.region.Region.fill.Goals as goal

pub loop-self-preserved : goal.loop-self-preserved
loop-self-preserved c = record {
  words = words_of-zero c.loop-self.self.words.items c.push.new.self.items _ c.push.ensures.items ∙ c.loop-self.invariant.words;
  size = c.loop-self.invariant.size;
}
