use Rattle.std.proofs.Common.{◌≡◌, ◌+◌, ◌<◌, ◌≤◌, suc, true, length, get_or, take, sym, ap, subst, inl, inr, ⊎_elim, arith}
use Rattle.std.specs.Prelude.{slice_index}
use Rattle.std.specs.List.{Contains}
use Rattle.std.proofs.lemmas.List.{take_all}
use Rattle.bril_tree.specs.Live.{IsLive}
use Rattle.bril_tree.specs.Operand.{Variable}
use Rattle.graph_search.specs.Sets.{has_bit}
use Rattle.variable_coloring.specs.LiveWords.{variable_in}
use Rattle.variable_coloring.specs.Pairs.{AddsPairs}
use Rattle.variable_coloring.proofs.Pairing.{adds-as, adds-then, take-next}
use Rattle.variable_coloring.proofs.pairs.Meetings.look_at.Goals as goal

pub loop-point-preserved : goal.loop-point-preserved
loop-point-preserved c =
    let inv = c.loop-point.invariant in
    let F = c.args.related.func.now in
    let words = c.args.live.now.sets.words in
    let found = c.args.live.now.reached.found in
    let n = c.loop-point.point-index in
    let point = get_or found n 0 in
    let same = c.found-point-items.ensures.value in
    let test = c.loop-point-test.true in
    let low : n < length found = (let l = ap length same in omega (arith, test, l)) in
    let items = c.found-point-items.result.now in
    let at : get_or items n 0 ≡ point = ap (λ l. get_or l n 0) same in
    let added =
    subst (λ q. AddsPairs F c.args.block (λ k p. (k < 64) × (has_bit (slice_index words q) k ≡ true) × (p ≡ q)) c.loop-point.self.list.items c.add_new.new.self.list.items) at
    (subst (λ w. AddsPairs F c.args.block (λ k p. (k < 64) × (has_bit w k ≡ true) × (p ≡ get_or items n 0)) c.loop-point.self.list.items c.add_new.new.self.list.items) c.word-word.ensures c.in_ok-add_new.ensures.adds) in
    record {
      done = c.in_ok-add_new.ensures.done;
      adds = adds-then F c.args.block c.args.self.now.list.items c.loop-point.self.list.items c.add_new.new.self.list.items
          (λ k p. (k < 64) × (has_bit (slice_index words p) k ≡ true) × Contains (take n found) p)
          (λ k p. (k < 64) × (has_bit (slice_index words point) k ≡ true) × (p ≡ point))
          (λ k p. (k < 64) × (has_bit (slice_index words p) k ≡ true) × Contains (take (n + 1) found) p)
          inv.adds added
          (λ item y k r clash. ⊎_elim
          (λ before. inl (r.0, r.1, before))
          (λ here. inr (r.0, subst (λ p. has_bit (slice_index words p) k ≡ true) here r.1, here))
          (take-next found n (suc item) low r.2));
    }

pub returns-clause-adds : goal.returns-clause-adds
returns-clause-adds c =
    let F = c.args.related.func.now in
    let words = c.args.live.now.sets.words in
    let found = c.args.live.now.reached.found in
    let n = c.loop-point.point-index in
    let same = c.found-point-items.ensures.value in
    let test = c.loop-point-test.false in
    let past : length found ≤ n = (let l = ap length same in omega (arith, test, l)) in
    adds-as F c.args.block c.args.self.now.list.items c.loop-point.self.list.items
    (λ k p. (k < 64) × (has_bit (slice_index words p) k ≡ true) × Contains (take n found) p)
    (λ k p. (k < 64) × IsLive F.code (Variable (variable_in c.args.block k)) p)
    c.loop-point.invariant.adds
    (λ item y k r clash.
    let bit = c.requires.live.all (suc item) k r.0 (c.requires.prepared.goes_on item y (variable_in c.args.block k) clash) r.1 in
    inl (r.0, bit, subst (λ l. Contains l (suc item)) (sym (take_all n found past)) (c.requires.there (suc item) k r.0 bit)))
