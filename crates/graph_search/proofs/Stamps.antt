-- Stamps that tell what was found.
use Rattle.std.proofs.Common.{◌≡◌, ◌≢◌, ℕ, ◌+◌, ◌*◌, ◌<◌, ◌≤◌, List, [], ◌∷◌, ◌++◌, true, false, cond, eqb, length, get_or, set, take, drop, append-nil, sym, ap, ◌∙◌, subst, ⊎_elim, arith, length-set, get_or-set_same, get_or-set_other}
use Rattle.std.specs.Prelude.{slice_index}
use Rattle.std.specs.List.{All, Contains, count_by, sum_by}
use Rattle.std.proofs.lemmas.Bool.{cases_eq}
use Rattle.std.proofs.lemmas.Bool.Decides.{nat_tests}
use Rattle.std.proofs.lemmas.List.{length_push, drop_all, take_all}
use Rattle.std.proofs.lemmas.List.Elements.{All-push, All-set, All-weaker, All-nil, Contains-push, Contains-push_cases, Contains-append_left, Contains-get_or}
use Rattle.std.proofs.lemmas.List.Quantifiers.{all_pairs_push}
use Rattle.std.proofs.lemmas.List.Sums.{sum_by-set, sum_by-le}
use Rattle.graph_search.specs.Reached.{AreReached}

-- one more node is found and gets the stamp
pub AreReached-push : (stamps found : List ℕ) (stamp node : ℕ) → AreReached stamps stamp found → node < length stamps → slice_index stamps node ≢ stamp →
    AreReached (set stamps node stamp) stamp (found ++ node ∷ [])
AreReached-push stamps found stamp node m here other = record {
  nodes = rw length-set (All-push (λ n. n < length stamps) found node m.nodes here);
  past = All-set (λ s. s ≤ stamp) stamps node stamp (omega arith) m.past;
  marked = λ n h. ⊎_elim
      (λ e. ap (λ k. get_or (set stamps node stamp) k 0) e ∙ get_or-set_same stamps node stamp 0 here)
      (λ ne. get_or-set_other stamps node n stamp 0 ne ∙ ⊎_elim (m.marked n) (λ e. absurd (ne (sym e))) (Contains-push_cases found node n h))
      (cases_eq n node);
  listed = λ n low e. ⊎_elim
      (λ same. subst (Contains (found ++ node ∷ [])) (sym same) (Contains-push found node))
      (λ ne. Contains-append_left found (node ∷ []) n
      (m.listed n (subst (λ k. n < k) (length-set stamps node stamp) low) (sym (get_or-set_other stamps node n stamp 0 ne) ∙ e)))
      (cases_eq n node);
  once = all_pairs_push (λ m n. m ≢ n) found node m.once
      (λ k d low e. other (ap (λ n. get_or stamps n 0) (sym e) ∙ m.marked (get_or found k d) (Contains-get_or found k d low)));
  counted =
      let was : eqb (get_or stamps node 0) stamp ≡ false = grind (arith, nat_tests) in
      let now : eqb stamp stamp ≡ true = grind (arith, nat_tests) in
      let sums = sum_by-set (λ s. cond (eqb s stamp) 1 0) stamps node stamp 0 here in
      let sums' : count_by (λ s. eqb s stamp) (set stamps node stamp) + 0 ≡ count_by (λ s. eqb s stamp) stamps + 1 =
      rw (was, now) at sums in
      let before = m.counted in
      omega (arith, length_push found node);
}

-- no node has a stamp that is new
pub AreReached-none : (stamps : List ℕ) (stamp : ℕ) → All (λ s. s < stamp) stamps → AreReached stamps stamp []
AreReached-none stamps stamp new = record {
  nodes = All-nil (λ n. n < length stamps);
  past = All-weaker (λ s. s < stamp) (λ s. s ≤ stamp) (λ s h. omega arith) stamps new;
  marked = λ n h. absurd (omega (arith, h.1));
  listed = λ n low e. absurd (omega (arith, new n 0 low, e));
  once = λ i j d less low. absurd (omega arith);
  counted =
      let none : sum_by (λ s. cond (eqb s stamp) 1 0) stamps ≤ length stamps * 0 =
      sum_by-le (λ s. cond (eqb s stamp) 1 0) 0 stamps (All-weaker (λ s. s < stamp) (λ s. cond (eqb s stamp) 1 0 ≤ 0) (λ s h. grind (arith, nat_tests)) stamps new) in
      omega arith;
}

-- what a write to the whole table leaves
pub written : (len : ℕ) (new items : List ℕ) → len ≡ length items → length new ≡ length items → take len (new ++ drop (length new) items) ≡ new
written len new items e f =
    let none : drop (length new) items ≡ [] = drop_all (length new) items (omega arith) in
    rw (none, append-nil) (take_all len new (omega arith))
