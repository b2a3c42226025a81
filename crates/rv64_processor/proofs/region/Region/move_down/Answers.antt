use Rattle.std.proofs.Common.{◌≡◌, ◌+◌, ◌-◌, ap, ◌∙◌, arith}
use Rattle.rv64_processor.specs.RegionView.{words_in, moved_down}
use Rattle.rv64_processor.proofs.Moving.{moved-none, words_of-moved}
use Rattle.rv64_processor.proofs.region.Region.move_down.Goals as goal

pub returns-then-count-gt0-clause-words : goal.returns-then-count-gt0-clause-words
returns-then-count-gt0-clause-words c =
    let count : (c.args.from + c.args.count) - c.args.from ≡ c.args.count = omega arith in
    let by = c.copy_within.ensures.by_index in
    words_of-moved c.fill.new.self.words.items c.copy_within.new.self.items c.args.from c.args.to ((c.args.from + c.args.count) - c.args.from) by.0 by.1 by.2
    ∙ (ap (λ n. moved_down (words_in c.fill.new.self) c.args.from c.args.to n) count ∙ ap (λ f. moved_down f c.args.from c.args.to c.args.count) c.fill.ensures.words)

pub returns-else-count-gt0-clause-words : goal.returns-else-count-gt0-clause-words
returns-else-count-gt0-clause-words c =
    let none : 0 ≡ c.args.count = omega (arith, c.if-count-gt0.false) in
    moved-none (words_in c.args.self.now) c.args.from c.args.to ∙ ap (λ n. moved_down (words_in c.args.self.now) c.args.from c.args.to n) none
