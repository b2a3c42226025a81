use Rattle.std.proofs.Common.{◌≡◌, ◌+◌, ◌<◌, [], ◌∷◌, ◌++◌, length, get_or, subst, sym, ◌∙◌, arith}
use Rattle.std.proofs.lemmas.List.{length-map}
use Rattle.bril_tree.specs.declared.numbered.VarInfo.{VarInfo}
use Rattle.bril_arguments.proofs.Outcomes.{AreRead, AreRead-held, AreRead-lost, on_ok, types_of, misspelled, variable_at}
use Rattle.bril_arguments.proofs.arguments.read_words.Goals as goal
use Rattle.bril_arguments.proofs.arguments.read_words.Goals.{then-is_err, else-is_err}

pub returns-in_default-clause-fault : goal.returns-in_default-clause-fault
returns-in_default-clause-fault c =
    let inside : c.loop-index.index < length c.args.parameters.now = omega arith in
    let at = variable_at c.args.parameters.now c.args.words.now c.loop-index.index c.index-parameters-index.result c.index-words-index.result inside c.loop-index-test.true c.index-words-index.is in (
      omega (arith, length-map c.args.parameters.now (λ (v : VarInfo). v.ty)),
      misspelled (types_of c.args.parameters.now) c.args.words.now c.loop-index.index (get_or c.args.parameters.now c.loop-index.index c.index-parameters-index.result).ty c.index-words-index.result at
          c.loop-index.invariant.read c.loop-index.invariant.spelled (λ value spelled. c.in_default.not-Some value (c.read_value.ensures.each value spelled)),
    )

pub loop-index-preserved : goal.loop-index-preserved
loop-index-preserved c =
    let inside : c.loop-index.index < length c.args.parameters.now = omega arith in
    let at = variable_at c.args.parameters.now c.args.words.now c.loop-index.index c.index-parameters-index.result c.index-words-index.result inside c.loop-index-test.true c.index-words-index.is in
    elim c.if-is_err.branch [
      | then-is_err w ↦
          subst (λ wanting. AreRead (types_of c.args.parameters.now) c.args.words.now (c.loop-index.index + 1) wanting c.push.new.self) (sym w.wanting-is)
          (AreRead-lost (types_of c.args.parameters.now) c.args.words.now c.loop-index.index (get_or c.args.parameters.now c.loop-index.index c.index-parameters-index.result).ty c.index-words-index.result at
          c.loop-index.wanting c.loop-index.values c.push.new.self c.in-Some.value c.loop-index.invariant c.in-Some.ensures.found)
      | else-is_err w ↦
          let held : c.push.new.self ≡ c.loop-index.values ++ c.in-Some.value ∷ [] = on_ok c.push.result (sym c.is_err.ensures.value ∙ w.if-is_err.false) c.push.ensures.ok in
          subst (λ wanting. AreRead (types_of c.args.parameters.now) c.args.words.now (c.loop-index.index + 1) wanting c.push.new.self) (sym w.wanting-is)
          (AreRead-held (types_of c.args.parameters.now) c.args.words.now c.loop-index.index (get_or c.args.parameters.now c.loop-index.index c.index-parameters-index.result).ty c.index-words-index.result at
          c.loop-index.wanting c.loop-index.values c.push.new.self c.in-Some.value c.loop-index.invariant c.in-Some.ensures.found held)
    ]
