use Rattle.std.proofs.Common.{◌≡◌, ◌+◌, suc, sym, ◌∙◌, subst, arith}
use Rattle.pass_edit_laws.proofs.lemmas.numbers.Edges.{lands}
use Rattle.ssa_search.specs.gets.Found.{AreFoundBefore}
use Rattle.ssa_search.proofs.lemmas.gets.Finding.{found-more}
use Rattle.ssa_search.proofs.gets.found.live_pairs.Goals as goal

pub loop-location-preserved : goal.loop-location-preserved
loop-location-preserved c =
    let code = c.args.func.now.code in
    let inv = c.loop-location.invariant in
    let next : suc c.loop-location.location ≡ c.loop-location.location + 1 = omega arith in
    record {
      nodes = c.in_ok-search_location.ensures.nodes ∙ inv.nodes;
      long = c.in_ok-search_location.ensures.long ∙ inv.long;
      blank = c.in_ok-search_location.ensures.blank;
      found = subst (λ n. AreFoundBefore code n c.search_location.new.found.items) next
          (found-more code c.loop-location.location c.loop-location.found.items c.search_location.new.found.items inv.found
          (c.in_ok-search_location.ensures.found code c.requires.few (λ p w among. lands c.args.func.now p w among) c.in_ok-blocks.ensures));
    }

pub returns : goal.returns
returns c =
    let code = c.args.func.now.code in
    let all : c.loop-location.location ≡ c.args.locations = (let over = c.loop-location-test.false in let e = c.loop-location.auto.location-end in omega (arith, over, e)) in
    subst (AreFoundBefore code c.args.locations) (sym c.in_ok-rows.ensures)
    (subst (λ n. AreFoundBefore code n c.loop-location.found.items) all c.loop-location.invariant.found)
