use Rattle.std.proofs.Common.{◌≡◌, ◌↔◌, ◌+◌, ◌<◌, ℕ, suc, length, sym, ap, ◌∙◌, subst, arith}
use Rattle.std.specs.List.{All, Contains}
use Rattle.flow_graph.specs.declared.reads.Access.{Access}
use Rattle.ssa_search.specs.gets.Found.{IsLiveNumber}
use Rattle.ssa_search.specs.gets.Rows.{AreRowsBefore}
use Rattle.ssa_search.proofs.lemmas.gets.Finding.{live-below}
use Rattle.ssa_search.proofs.lemmas.gets.Lining.{rows-more}
use Rattle.ssa_search.proofs.lemmas.gets.Wanting.{are-wants, found-row, found-within}
use Rattle.ssa_search.proofs.gets.wants.rows_of.Goals as goal

pub find_row-requires-clause-within : goal.find_row-requires-clause-within
find_row-requires-clause-within c =
    subst (λ n. All (λ (access : Access). access.item < n) c.args.found.now.list) (sym c.in_ok-none.ensures.nodes) (found-within c.args.func.now.code c.args.locations c.args.found.now.list c.requires.found)

pub loop-point-preserved : goal.loop-point-preserved
loop-point-preserved c =
    let F = c.args.func.now in
    let inv = c.loop-point.invariant in
    let next : suc c.loop-point.point ≡ c.loop-point.point + 1 = omega arith in
    let exact : (x : ℕ) → Contains c.found.result.now x ↔ IsLiveNumber F.code c.loop-point.point x = λ x.
    let f = c.in_ok-find_row.ensures.found x in
    let r = found-row F.code c.args.locations c.args.found.now.list c.requires.found (λ a k l. let b = live-below F c.requires.shaped a k l.live in let e = c.requires.locations in omega (arith, b, e)) c.loop-point.point x in
    ((λ h. r.0 (f.0 (subst (λ l. Contains l x) c.found.ensures.value h))), (λ h. subst (λ l. Contains l x) (sym c.found.ensures.value) (f.1 (r.1 h)))) in
    record {
      nodes = c.in_ok-find_row.ensures.nodes ∙ inv.nodes;
      few = c.in_ok-push_row.ensures.few;
      rows = subst (λ p. AreRowsBefore (IsLiveNumber F.code) c.args.base p c.push_row.new.starts.items c.push_row.new.list.items) next
          (rows-more (IsLiveNumber F.code) c.args.base c.loop-point.point c.loop-point.starts.items c.push_row.new.starts.items c.loop-point.list.items c.push_row.new.list.items c.found.result.now inv.rows c.found.ensures.once exact c.in_ok-push_row.ensures.gets c.in_ok-push_row.ensures.starts);
    }

pub returns : goal.returns
returns c =
    let F = c.args.func.now in
    let inv = c.loop-point.invariant in
    let all : c.loop-point.point ≡ length F.code = (let over = c.loop-point-test.false in let e = c.loop-point.auto.point-end in let l = ap length c.as_slice-point-end.ensures in omega (arith, over, e, l)) in
    let rows = subst (λ b. AreRowsBefore (IsLiveNumber F.code) b (length F.code) c.loop-point.starts.items c.loop-point.list.items) c.requires.base (subst (λ p. AreRowsBefore (IsLiveNumber F.code) c.args.base p c.loop-point.starts.items c.loop-point.list.items) all inv.rows) in
    are-wants F c.requires.shaped (record { starts = c.loop-point.starts.items; list = c.loop-point.list.items }) rows (let few = inv.few in let b = c.requires.base in omega (arith, few, b))
