-- What the words ask for is done.
use Rattle.std.proofs.Common.{List, ℕ, drop, subst}
use Rattle.bril_explain.specs.Executed.{TellsCount}
use Rattle.bril_explain.specs.Explained.{IsExplained}
use Rattle.bril_explain.proofs.command.answer.Goals as goal

pub returns-then-asks_explain-clause-explains : goal.returns-then-asks_explain-clause-explains
returns-then-asks_explain-clause-explains g c =
    λ _. subst (λ (w : List ℕ). IsExplained g.E.Sink.seen c.explain.result (g.F.Files.seen c.args.files.now) (g.F.Files.seen c.explain.new.files) w c.args.err.now c.explain.new.err) c.word_at-file.ensures c.explain.ensures.explained

pub returns-then-asks_count-clause-counts : goal.returns-then-asks_count-clause-counts
returns-then-asks_count-clause-counts g c =
    let words = c.args.words.now in
    let before = g.F.Files.seen c.args.files.now in
    let after = g.F.Files.seen c.count.new.files in
    let s = g.O.Sink.seen c.args.out.now in
    let t = g.O.Sink.seen c.count.new.out in
    λ _ _ _. subst (λ (w : List ℕ). TellsCount g.E.Sink.seen c.count.result before after w (drop 4 words) s t c.args.err.now c.count.new.err) c.word_at-root.ensures
    (subst (λ (l : List (List ℕ)). TellsCount g.E.Sink.seen c.count.result before after c.word_at-root.result.now l s t c.args.err.now c.count.new.err) c.behind_separator-args.ensures c.count.ensures)
