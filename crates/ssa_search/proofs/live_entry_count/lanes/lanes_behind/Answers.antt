use Rattle.std.proofs.Common.{◌≡◌, ◌+◌, ◌*◌, ◌<◌, true, sym, subst, ⊎_elim, arith}
use Rattle.std.specs.Prelude.{slice_index}
use Rattle.std.proofs.lemmas.Bool.{cases_eq, lt-ltb, ltb-true}
use Rattle.graph_search.specs.Sets.{has_bit}
use Rattle.graph_search.proofs.WordBits.{no-bits, or-cases, or-left, or-right}
use Rattle.ssa_search.proofs.live_entry_count.lanes.lanes_behind.Goals as goal

pub loop-k-init : goal.loop-k-init
loop-k-init c = λ j. ((λ h. absurd (no-bits j h)), (λ h. absurd (let l = h.0 in omega (arith, l))))

pub loop-k-preserved : goal.loop-k-preserved
loop-k-preserved c = λ j.
    let inv = c.loop-k.invariant j in
    let bit = c.lane_bit-bits.result in (
      (λ h. ⊎_elim
          (λ old. let o = inv.0 old in ((let l = o.0 in omega (arith, l)), o.1))
          (λ new. let o = c.lane_bit-bits.ensures.only j new in ((let e = o.0 in omega (arith, e)), subst (λ k. c.args.point < slice_index c.args.points.now (64 * c.args.head + k)) (sym o.0) o.1))
          (or-cases c.loop-k.bits bit j h)),
      (λ h. ⊎_elim
          (λ same. or-right c.loop-k.bits bit j (subst (λ k. has_bit bit k ≡ true) (sym same) (c.lane_bit-bits.ensures.there (subst (λ k. c.args.point < slice_index c.args.points.now (64 * c.args.head + k)) same h.1))))
          (λ differs. or-left c.loop-k.bits bit j (inv.1 ((let l = h.0 in omega (arith, l, differs)), h.1)))
          (cases_eq j c.loop-k.k)),
    )

pub returns : goal.returns
returns c = λ k small.
    let inv = c.loop-k.invariant k in
    let over = c.loop-k-test.false in (
      (λ h. lt-ltb c.args.point (slice_index c.args.points.now (64 * c.args.head + k)) (inv.0 h).1),
      (λ h. inv.1 (omega (arith, small, over), ltb-true c.args.point (slice_index c.args.points.now (64 * c.args.head + k)) h)),
    )
