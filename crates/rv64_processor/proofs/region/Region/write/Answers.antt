use Rattle.std.proofs.Common.{◌<◌, ap, ◌∙◌, length, arith}
use Rattle.rv64_words.specs.State.{assigned}
use Rattle.rv64_words.proofs.Words.{words_of-set}
use Rattle.rv64_processor.proofs.region.Region.write.Goals as goal

pub returns-clause-words : goal.returns-clause-words
returns-clause-words c =
    let words = c.fill.new.self.words in
    let len = words.ok.0 in
    let held : c.args.k < length words.items = omega (arith, c.fill.ensures.held, len) in
    words_of-set words.items c.args.k c.args.value held ∙ ap (λ f. assigned f c.args.k c.args.value) c.fill.ensures.words
