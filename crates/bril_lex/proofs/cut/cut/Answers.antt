use Rattle.std.proofs.Common.{◌+◌, sym, ap, ◌∙◌, subst, arith, length, length-drop}
use Rattle.std.proofs.lemmas.List.{take_rest}
use Rattle.bril_lex.specs.Scan.{front_of}
use Rattle.bril_lex.proofs.Cuts.{IsCutTo, cut_more, cut_stops}
use Rattle.bril_lex.proofs.cut.cut.Goals as goal

-- nothing begins here
pub returns-in_default-clause-fault : goal.returns-in_default-clause-fault
returns-in_default-clause-fault c =
    cut_stops c.args.source.now c.loop-at.at _ c.loop-at.invariant.cut c.loop-at-test.true
    (c.in_default.ensures.value ∙ ap front_of (take_rest c.args.source.now c.loop-at.at))

-- the piece joins the cut
pub loop-at-preserved : goal.loop-at-preserved
loop-at-preserved c = record {
  within = omega (arith, c.in-Some.ensures.within, ap length (take_rest c.args.source.now c.loop-at.at), length-drop c.loop-at.at c.args.source.now);
  cut = subst (IsCutTo c.args.source.now (c.loop-at.at + c.in-Some.piece.length)) (sym c.in_ok-add.ensures.ok)
      (cut_more c.args.source.now c.loop-at.at _ c.in-Some.piece c.loop-at.invariant.cut
      (c.in-Some.ensures.value ∙ ap front_of (take_rest c.args.source.now c.loop-at.at)));
}
