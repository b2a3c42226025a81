use Rattle.std.proofs.Common.{sym, ◌∙◌, ap}
use Rattle.std.specs.Prelude.{slice_index}
use Rattle.flow_graph.specs.Location.{number_of}
use Rattle.ssa_search.proofs.lemmas.renaming.Entering.{all-set, gets-tell}
use Rattle.ssa_search.proofs.renaming.now.enter.Goals as goal

pub returns-clause-tells : goal.returns-clause-tells
returns-clause-tells c = λ known got are tells a y told.
    let i = c.loop-get.invariant in
    let is = sym (all-set c.args.gets.now c.loop-get.get-index c.loop-get.definitions c.loop-get-test.false) ∙ i.set in
    ap (λ now. slice_index now (number_of a)) is ∙ gets-tell c.args.gets.now c.args.definitions.now c.requires.within known got are tells a y told
