use Rattle.std.proofs.Common.{◌≡◌, ◌∙◌, true, false, length, sym, ap, subst, arith}
use Rattle.std.specs.Prelude.{is_some}
use Rattle.std.proofs.lemmas.List.{get_or-replicate}
use Rattle.graph_search.specs.Marks.{is_marked}
use Rattle.variable_coloring.specs.Pairs.{ArePairs}
use Rattle.variable_coloring.proofs.Preparing.{clash-goes-on, live-below}
use Rattle.variable_coloring.proofs.pairs.pairs_in.Goals as goal

pub returns : goal.returns
returns c = subst (ArePairs c.args.func.now) (sym c.in_ok-pairs.ensures) c.in_ok-look_at_all.ensures

pub look_at_all-requires-clause-prepared : goal.look_at_all-requires-clause-prepared
look_at_all-requires-clause-prepared c = record {
  is_graph = c.requires.graph;
  marked = λ y low. subst (λ l. is_marked l y ≡ true) (sym (c.as_slice.ensures.value ∙ c.in_ok-marks.ensures.items_if_clones_equal (λ z e. e))) (get_or-replicate (length c.as_slice-count.result.now) y true false (let l = ap length c.as_slice-count.ensures in omega (arith, low, l)));
  few = c.requires.variables;
  below = live-below c.args.func.now (is_some c.args.func.now.ret) c.requires.shaped;
  goes_on = clash-goes-on c.args.func.now (is_some c.args.func.now.ret) c.requires.shaped;
}
