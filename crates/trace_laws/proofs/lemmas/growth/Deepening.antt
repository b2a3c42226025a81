-- Walks of a program with laid traces have at most one open site more than walks of the program, and at most eight.
use Rattle.std.proofs.Common.{◌≡◌, ℕ, suc, ◌<◌, ◌≤◌, List, [], length, Some, ap, arith}
use Rattle.bril_tree.specs.declared.program.Prog.{Prog}
use Rattle.bril_tree.specs.declared.types.Ty.{Ty}
use Rattle.bril_tree.specs.Accepted.{IsAccepted}
use Rattle.bril_tree.specs.Edge.{Branch}
use Rattle.bril_tree.specs.FrameWords.{IsDepth}
use Rattle.bril_tree.specs.Sites.{AreSitesSound, sites_of, most_sites}
use Rattle.bril_tree.specs.Step.{code_of}
use Rattle.bril_tree.specs.Walk.{IsWalk, end_of}
use Rattle.pass_edit_laws.specs.walks.Matched.{MatchedWalk}
use Rattle.pass_edit_laws.proofs.lemmas.walks.Based.{same_length, few_sites}
use Rattle.trace_laws.specs.lines.Traced.{Trace}
use Rattle.trace_laws.specs.refinement.Stitched.{Stitched}
use Rattle.trace_laws.proofs.lemmas.refinement.Plans.{M}
use Rattle.trace_laws.proofs.lemmas.acceptance.Standing.{Inner, InTrace, Door, OnPath, AtGuard, AtJmp, AtBail}
use Rattle.trace_laws.proofs.lemmas.acceptance.Walking.{At, Outside, Within, all-at}

module _ (P Q : Prog) (bool : Ty) (accepted : IsAccepted P) (st : Stitched P Q bool) (f args result_args : ℕ) (sound : AreSitesSound (code_of P f))
    (roomy : (i : ℕ) (t : Trace) → st.traces f i ≡ Some t → (w : List Branch) → IsWalk (code_of P f) w → end_of w ≡ i → length (sites_of (code_of P f) w) < most_sites)
    (start : MatchedWalk (M P Q bool accepted st) P Q f args result_args []) where
  record Low (d : ℕ) (v : List Branch) : Type 0 where
    more : length (sites_of (code_of Q f) v) ≤ suc d
    eight : length (sites_of (code_of Q f) v) ≤ 8

  module _ (d : ℕ) (most : (w : List Branch) → IsWalk (code_of P f) w → length (sites_of (code_of P f) w) ≤ d) (v : List Branch) where
    as-many : (w : List Branch) → IsWalk (code_of P f) w → length (sites_of (code_of P f) w) ≡ length (sites_of (code_of Q f) v) → Low d v
    as-many w is e = let m = most w is in let k = few_sites (code_of P f) sound w is in record { more = omega arith; eight = omega arith }

    inside : (i : ℕ) (t : Trace) (is : st.traces f i ≡ Some t) (w : List Branch) → Inner P Q bool accepted st f args result_args i t is v w → Low d v
    inside i t is w inner =
        let same = same_length (M P Q bool accepted st) P Q f args result_args (sites_of (code_of P f) inner.w0) inner.ss _ _ inner.zip0 in
        let size : length (sites_of (code_of Q f) v) ≡ suc (length inner.ss) = ap length inner.sites in
        let m = most inner.w0 inner.is0 in
        let few = inner.few0 in
        record { more = omega arith; eight = omega arith }

    in-trace : (i : ℕ) (t : Trace) (is : st.traces f i ≡ Some t) → InTrace P Q bool accepted st f args result_args i t is v → Low d v
    in-trace i t is (Door w ew ev few u) = as-many w u.is (same_length (M P Q bool accepted st) P Q f args result_args (sites_of (code_of P f) w) (sites_of (code_of Q f) v) _ _ u.saved)
    in-trace i t is (OnPath w inner fuel room choices n lines stop) = inside i t is w inner
    in-trace i t is (AtGuard w inner fuel room choices n lines stop reads) = inside i t is w inner
    in-trace i t is (AtJmp w w0 is0 end0 xs ys zip near stop line u) = as-many w0 is0 (same_length (M P Q bool accepted st) P Q f args result_args (sites_of (code_of P f) w0) (sites_of (code_of Q f) v) _ _ zip)
    in-trace i t is (AtBail w ew ev u) = as-many w u.is (same_length (M P Q bool accepted st) P Q f args result_args (sites_of (code_of P f) w) (sites_of (code_of Q f) v) _ _ u.saved)

    low : At P Q bool accepted st f args result_args roomy v → Low d v
    low (Outside l) = as-many l.walk l.matches.is (same_length (M P Q bool accepted st) P Q f args result_args (sites_of (code_of P f) l.walk) (sites_of (code_of Q f) v) _ _ l.matches.saved)
    low (Within i t is h) = in-trace i t is h

  pub depth-within : (d e : ℕ) → IsDepth (code_of P f) d → IsDepth (code_of Q f) e → (e ≤ suc d) × (e ≤ 8)
  depth-within d e a b =
      let l = low d a.most b.deepest (all-at P Q bool accepted st f args result_args roomy start b.deepest b.is) in
      let r = b.reaches in
      let m = l.more in
      let n = l.eight in
      (omega arith, omega arith)
