use Rattle.std.proofs.Common.{◌≡◌, ◌<◌, ◌^◌, ℕ, true, w64, Fits, subst, inl, inr, ⊎_elim, arith}
use Rattle.std.specs.Prelude.{bit_and}
use Rattle.std.specs.Int.{trailing_zeros}
use Rattle.std.proofs.lemmas.Bool.{cases_eq}
use Rattle.graph_search.specs.Sets.{has_bit}
use Rattle.graph_search.proofs.WordBits.{and-both, and-each, no-bits}
use Rattle.variable_coloring.proofs.Clearing.{clear-less, lowest-there}
use Rattle.variable_coloring.proofs.Pairing.{adds-as, adds-then}
use Rattle.variable_coloring.proofs.pairs.Meetings.add_word.Goals as goal

below : (n : ℕ) → Fits w64 n → n < 2 ^ 64
below n fits = omega (arith, fits)

pub add_at-requires-clause-live : goal.add_at-requires-clause-live
add_at-requires-clause-live c =
    let some = c.loop-left-test.true in
    let low = lowest-there c.loop-left.left (omega (arith, some)) (below c.loop-left.left c.loop-left.auto.left-fits) in
    c.requires.live (trailing_zeros w64 c.loop-left.left) low.0 (c.loop-left.invariant.among (trailing_zeros w64 c.loop-left.left) low.1)

pub loop-left-smaller : goal.loop-left-smaller
loop-left-smaller c =
    let some = c.loop-left-test.true in
    let left = c.loop-left.left in
    let low = lowest-there left (omega (arith, some)) (below left c.loop-left.auto.left-fits) in
    clear-less left c.all_but-left.result (trailing_zeros w64 left) low.1 (λ h. (c.all_but-left.ensures (trailing_zeros w64 left) low.0).0 h (let e : trailing_zeros w64 left ≡ trailing_zeros w64 left = omega arith in e))

pub loop-left-preserved : goal.loop-left-preserved
loop-left-preserved c =
    let inv = c.loop-left.invariant in
    let F = c.args.related.func.now in
    let word = c.args.word in
    let left = c.loop-left.left in
    let mask = c.all_but-left.result in
    let low = trailing_zeros w64 left in
    record {
      done = c.in_ok-add_at.ensures.done;
      among = λ k h. inv.among k (and-each left mask k h).0;
      adds = adds-then F c.args.block c.args.self.now.list.items c.loop-left.self.list.items c.add_at.new.self.list.items
          (λ k p. (k < 64) × (has_bit word k ≡ true) × (p ≡ c.args.point) × (has_bit left k ≡ true → ⊥))
          (λ j p. (j ≡ low) × (p ≡ c.args.point))
          (λ k p. (k < 64) × (has_bit word k ≡ true) × (p ≡ c.args.point) × (has_bit (bit_and left mask) k ≡ true → ⊥))
          inv.adds c.in_ok-add_at.ensures.adds
          (λ item y k r clash. ⊎_elim
          (λ same. inr (same, r.2))
          (λ ne. inl (r.0, r.1, r.2, λ h. r.3 (and-both left mask k h ((c.all_but-left.ensures k r.0).1 ne))))
          (cases_eq k low));
    }

pub returns-clause-adds : goal.returns-clause-adds
returns-clause-adds c =
    let F = c.args.related.func.now in
    let word = c.args.word in
    let left = c.loop-left.left in
    let past = c.loop-left-test.false in
    let none : left ≡ 0 = omega (arith, past) in
    adds-as F c.args.block c.args.self.now.list.items c.loop-left.self.list.items
    (λ k p. (k < 64) × (has_bit word k ≡ true) × (p ≡ c.args.point) × (has_bit left k ≡ true → ⊥))
    (λ k p. (k < 64) × (has_bit word k ≡ true) × (p ≡ c.args.point))
    c.loop-left.invariant.adds
    (λ item y k r clash. inl (r.0, r.1, r.2, λ h. no-bits k (subst (λ w. has_bit w k ≡ true) none h)))
