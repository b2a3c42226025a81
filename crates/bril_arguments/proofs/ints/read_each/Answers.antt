use Rattle.std.proofs.Common.{◌≡◌, ◌+◌, [], ◌∷◌, ◌++◌, Some, subst, sym, ◌∙◌}
use Rattle.bril_arguments.specs.Ints.{int_type, int_types}
use Rattle.bril_arguments.proofs.IntWords.{int_at}
use Rattle.bril_arguments.proofs.Outcomes.{AreRead, AreRead-held, AreRead-lost, on_ok, misspelled}
use Rattle.bril_arguments.proofs.ints.read_each.Goals as goal
use Rattle.bril_arguments.proofs.ints.read_each.Goals.{then-is_err, else-is_err}

pub returns-in_default-clause-fault : goal.returns-in_default-clause-fault
returns-in_default-clause-fault c =
    let at = int_at c.args.words.now c.loop-index.index c.index-words-index.result c.loop-index-test.true c.index-words-index.is in
    misspelled (int_types c.args.words.now) c.args.words.now c.loop-index.index (Some int_type) c.index-words-index.result at
    c.loop-index.invariant.read c.loop-index.invariant.spelled (λ value spelled. c.in_default.not-Some value (c.read_value.ensures.each value spelled))

pub loop-index-preserved : goal.loop-index-preserved
loop-index-preserved c =
    let at = int_at c.args.words.now c.loop-index.index c.index-words-index.result c.loop-index-test.true c.index-words-index.is in
    elim c.if-is_err.branch [
      | then-is_err w ↦
          subst (λ wanting. AreRead (int_types c.args.words.now) c.args.words.now (c.loop-index.index + 1) wanting c.push.new.self) (sym w.wanting-is)
          (AreRead-lost (int_types c.args.words.now) c.args.words.now c.loop-index.index (Some int_type) c.index-words-index.result at
          c.loop-index.wanting c.loop-index.values c.push.new.self c.in-Some.value c.loop-index.invariant c.in-Some.ensures.found)
      | else-is_err w ↦
          let held : c.push.new.self ≡ c.loop-index.values ++ c.in-Some.value ∷ [] = on_ok c.push.result (sym c.is_err.ensures.value ∙ w.if-is_err.false) c.push.ensures.ok in
          subst (λ wanting. AreRead (int_types c.args.words.now) c.args.words.now (c.loop-index.index + 1) wanting c.push.new.self) (sym w.wanting-is)
          (AreRead-held (int_types c.args.words.now) c.args.words.now c.loop-index.index (Some int_type) c.index-words-index.result at
          c.loop-index.wanting c.loop-index.values c.push.new.self c.in-Some.value c.loop-index.invariant c.in-Some.ensures.found held)
    ]
