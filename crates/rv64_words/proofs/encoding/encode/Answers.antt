use Rattle.std.proofs.Common.{ap, ◌∙◌}
use Rattle.rv64_words.specs.Encoding.{decoded}
use Rattle.rv64_words.proofs.Encodings.{decoded-encoded}
use Rattle.rv64_words.proofs.encoding.encode.Goals as goal

pub returns-clause-decodes : goal.returns-clause-decodes
returns-clause-decodes c = ap decoded c.bits_of.ensures.bits ∙ decoded-encoded c.args.word c.bits_of.ensures.ranged
