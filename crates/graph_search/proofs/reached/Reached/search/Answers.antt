use Rattle.std.proofs.Common.{◌≡◌, ◌<◌, ◌↔◌, length, take, ap, ◌∙◌, subst, arith, rules}
use Rattle.std.specs.Prelude.{slice_index}
use Rattle.std.specs.List.{Contains}
use Rattle.std.proofs.lemmas.List.{take_all}
use Rattle.graph_search.specs.Path.{IsReached}
use Rattle.graph_search.proofs.Paths.{none_found, closed_found, seeds_more}
use Rattle.graph_search.proofs.reached.Reached.search.Goals as goal

pub loop-seed-init : goal.loop-seed-init
loop-seed-init g c = record {
  nodes = c.restart.ensures.nodes;
  found = none_found c.args.graph.now.arcs (g.G.Gate.opens c.args.gate.now) c.restart.new.self.found c.restart.ensures.found;
}

pub drain-requires-clause-closed : goal.drain-requires-clause-closed
drain-requires-clause-closed g c =
    let found = c.loop-seed.self.found in
    let view : c.self.inside.found.items ≡ found = ap (λ v. v.found) c.self.view_is in
    let first' : c.len-first.result ≡ length c.self.inside.found.items = search rules in
    let first : c.len-first.result ≡ length found = first' ∙ ap length view in
    λ k low n leads. let low' : k < length found = omega arith in
    closed_found c.args.graph.now.arcs (take c.loop-seed.seed-index c.args.seeds.now) (g.G.Gate.opens c.args.gate.now) found c.visit.new.self.found (λ other. slice_index c.args.seeds.now c.loop-seed.seed-index ≡ other)
    c.loop-seed.invariant.found c.in_ok-visit.ensures.found k low' n leads

pub loop-seed-preserved : goal.loop-seed-preserved
loop-seed-preserved g c = record {
  nodes = c.in_ok-drain.ensures.nodes ∙ c.in_ok-visit.ensures.nodes ∙ c.loop-seed.invariant.nodes;
  found = seeds_more c.args.graph.now.arcs c.args.seeds.now (g.G.Gate.opens c.args.gate.now) c.loop-seed.seed-index c.loop-seed.self.found c.visit.new.self.found c.drain.new.self.found c.loop-seed-test.true
      c.loop-seed.invariant.found c.in_ok-visit.ensures.found c.in_ok-drain.ensures.found;
}

pub returns-clause-found : goal.returns-clause-found
returns-clause-found g c =
    let all : take c.loop-seed.seed-index c.args.seeds.now ≡ c.args.seeds.now = take_all c.loop-seed.seed-index c.args.seeds.now (omega arith) in
    λ n. subst (λ seeds. Contains c.loop-seed.self.found n ↔ IsReached c.args.graph.now.arcs seeds (g.G.Gate.opens c.args.gate.now) n) all (c.loop-seed.invariant.found n)
