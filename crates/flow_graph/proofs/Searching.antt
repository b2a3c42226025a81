-- The search for first walks.
use Rattle.std.proofs.Common.{◌≡◌, ℕ, zero, suc, ◌+◌, ◌<◌, ◌≤◌, min, Bool, true, false, ltb, List, [], ◌∷◌, ◌++◌, length, map, set, replicate, Option, Some, None, refl, sym, ap, ◌∙◌, subst, inl, inr, arith, length-set}
use Rattle.std.specs.Prelude.{◌⊎◌, slice_get}
use Rattle.std.proofs.lemmas.Bool.{cases_eq, cases_Bool, cases_order, ltb-true, ltb-false}
use Rattle.std.proofs.lemmas.List.{length-replicate}
use Rattle.std.proofs.lemmas.Option.{slice_get_within}
use Rattle.bril_tree.specs.declared.numbered.Instr.{Instr}
use Rattle.bril_tree.specs.Edge as edge
use Rattle.bril_tree.specs.Edge.{branches_at}
use Rattle.bril_tree.specs.Walk.{IsWalk, IsReached, end_of}
use Rattle.bril_tree.specs.Sites.{Change, Opens, Closes, Keeps, change_of, sites_of, sites_behind, sites_changed, most_sites}
use Rattle.flow_graph.specs.declared.visits.Visit.{Visit}
use Rattle.flow_graph.specs.declared.branches.Branch.{Branch}
use Rattle.flow_graph.specs.declared.branches.Branches.{Branches}
use Rattle.flow_graph.specs.declared.branches.Branches.TheVariants.{Nowhere, Single, Either}
use Rattle.flow_graph.specs.Visits.{Keep, IsVisited, AreVisits, none_open, visit_or_none, visit_at, closed, visit_changed, visit_behind}
use Rattle.flow_graph.specs.Branches.{branch_of, branches_of, lesser_first, visiting}
use Rattle.bril_tree.specs.Membership.{In}
use Rattle.bril_tree.proofs.Members.{in_contains, contains_in, in_append_left, in_append_right, in_append_cases, in_map, in_map_source}
use Rattle.bril_tree.proofs.Branches.{same_branch, branch_from}
use Rattle.flow_graph.proofs.Order.{NotAfter, not_after_trans, not_after_more, shorter_earlier, first_goes_on}

-- ---- lists with one element changed

pub get_set_same : {A : Type 0} (xs : List A) (i : ℕ) (x : A) → i < length xs → slice_get (set xs i x) i ≡ Some x
get_set_same [] i x h = absurd (omega arith)
get_set_same (y ∷ ys) zero x h = refl
get_set_same (y ∷ ys) (suc i) x h = get_set_same ys i x (omega arith)

pub get_set_other : {A : Type 0} (xs : List A) (i j : ℕ) (x : A) → (j ≡ i → ⊥) → slice_get (set xs i x) j ≡ slice_get xs j
get_set_other [] i j x h = refl
get_set_other (y ∷ ys) zero zero x h = absurd (h refl)
get_set_other (y ∷ ys) zero (suc j) x h = refl
get_set_other (y ∷ ys) (suc i) zero x h = refl
get_set_other (y ∷ ys) (suc i) (suc j) x h = get_set_other ys i j x (λ e. h (ap suc e))

pub get_inside : {A : Type 0} (xs : List A) (i : ℕ) → i < length xs → (x : A) × (slice_get xs i ≡ Some x)
get_inside [] i h = absurd (omega arith)
get_inside (y ∷ ys) zero h = (y, refl)
get_inside (y ∷ ys) (suc i) h = get_inside ys i (omega arith)

-- ---- what is kept stays kept

abbrev pub Grows : List (Option Visit) → List (Option Visit) → Type 0
Grows old new = (p : ℕ) (visit : Visit) → slice_get old p ≡ Some (Some visit) → slice_get new p ≡ Some (Some visit)

none_is_not_some : (o : Option (Option Visit)) (visit : Visit) → o ≡ Some None → o ≡ Some (Some visit) → ⊥
none_is_not_some o visit a b = let e : ◌≡◌ {A = Option (Option Visit)} (Some None) (Some (Some visit)) = sym a ∙ b in cc

grows_set : (visits : List (Option Visit)) (to : ℕ) (new : Option Visit) → slice_get visits to ≡ Some None → Grows visits (set visits to new)
grows_set visits to new h p visit e =
    get_set_other visits to p new (λ same. none_is_not_some (slice_get visits to) visit h (sym (ap (λ n. slice_get visits n) same) ∙ e)) ∙ e

keep_grows : (old new : List (Option Visit)) → Grows old new → (visit : Visit) (sites : List ℕ) → Keep old visit sites → Keep new visit sites
keep_grows old new g visit [] k = k
keep_grows old new g visit (site ∷ sites) k =
    let inner = k.2 in (k.0, k.1, (inner.0, g site inner.0 inner.1, keep_grows old new g inner.0 sites inner.2))

pub keep_count : (visits : List (Option Visit)) (visit : Visit) (sites : List ℕ) → Keep visits visit sites → visit.count ≡ min (suc most_sites) (length sites)
keep_count visits visit [] k = k.1
keep_count visits visit (site ∷ sites) k = k.1

keep_closed : (visits : List (Option Visit)) (visit : Visit) (site : ℕ) (sites : List ℕ) → Keep visits visit (site ∷ sites) → Keep visits (closed visits visit.newest visit) sites
keep_closed visits visit site sites k =
    let inner = k.2 in
    let same : closed visits visit.newest visit ≡ inner.0 = ap (λ n. closed visits n visit) k.0 ∙ ap visit_or_none inner.1 in
    subst (λ v. Keep visits v sites) (sym same) inner.2

min_min : (n : ℕ) → min 9 (suc (min 9 n)) ≡ min 9 (suc n)
min_min n = omega arith

keep_changed : (visits : List (Option Visit)) (p : ℕ) (visit : Visit) (sites : List ℕ) → slice_get visits p ≡ Some (Some visit) → Keep visits visit sites → (change : Change) → Keep visits (visit_changed visits change p visit) (sites_changed change p sites)
keep_changed visits p visit sites at k Opens = (refl, ap (λ n. min 9 (suc n)) (keep_count visits visit sites k) ∙ min_min (length sites), (visit, at, k))
keep_changed visits p visit [] at k Closes = subst (λ v. Keep visits v []) (sym (ap (λ n. closed visits n visit) k.0)) k
keep_changed visits p visit (site ∷ sites) at k Closes = keep_closed visits visit site sites k
keep_changed visits p visit sites at k Keeps = k

pub keep_behind : (code : List Instr) (visits : List (Option Visit)) (branch : edge.Branch) (visit : Visit) (sites : List ℕ) → slice_get visits branch.from ≡ Some (Some visit) → Keep visits visit sites → Keep visits (visit_behind code visits branch) (sites_behind code branch sites)
keep_behind code visits branch visit sites at k =
    let here : visit_at visits branch.from ≡ visit = ap visit_or_none at in
    subst (λ v. Keep visits (visit_changed visits (change_of code branch) branch.from v) (sites_behind code branch sites)) (sym here)
    (keep_changed visits branch.from visit sites at k (change_of code branch))

-- ---- the state of a search

-- a branch that waits, and the walk to the point that it leaves
pub record Pending : Type 0 where
  pub branch : Branch
  pub before : List edge.Branch

abbrev pub candidate : Pending → List edge.Branch
candidate c = branch_of c.branch ∷ c.before

abbrev pub pend : List edge.Branch → Branch → Pending
pend before branch = record { branch = branch; before = before }

abbrev pub Rising : List Pending → Type 0
Rising [] = Unit {0}
Rising (c ∷ cs) = ((d : Pending) → In d cs → NotAfter (candidate c) (candidate d)) × Rising cs

pub record IsKept (code : List Instr) (visits : List (Option Visit)) (v : List edge.Branch) : Type 0 where
  pub is : IsWalk code v
  pub visit : Visit
  pub at : slice_get visits (end_of v) ≡ Some (Some visit)
  pub keep : Keep visits visit (sites_of code v)

pub record CameFrom (code : List Instr) (done : List (List edge.Branch)) (c : Pending) : Type 0 where
  pub from : In c.before done
  pub branch : In (branch_of c.branch) (branches_at code (end_of c.before))

pub record LedBy (done : List (List edge.Branch)) (v : List edge.Branch) (e : edge.Branch) : Type 0 where
  pub walk : List edge.Branch
  pub among : In walk done
  pub ends : end_of walk ≡ e.to
  pub before : NotAfter walk (e ∷ v)

abbrev pub Followed : List (List edge.Branch) → List Pending → List edge.Branch → edge.Branch → Type 0
Followed done wait v e = LedBy done v e ⊎ ((c : Pending) × In c wait × (candidate c ≡ e ∷ v))

pub record Searching (code : List Instr) (visits : List (Option Visit)) (done : List (List edge.Branch)) (wait : List Pending) : Type 0 where
  pub long : length visits ≡ length code + 1
  pub start : In [] done
  pub kept : (v : List edge.Branch) → In v done → IsKept code visits v
  pub only : (p : ℕ) (visit : Visit) → slice_get visits p ≡ Some (Some visit) → (v : List edge.Branch) × In v done × (end_of v ≡ p)
  pub one : (v w : List edge.Branch) → In v done → In w done → end_of v ≡ end_of w → v ≡ w
  pub came : (c : Pending) → In c wait → CameFrom code done c
  pub rising : Rising wait
  pub after : (v : List edge.Branch) (c : Pending) → In v done → In c wait → NotAfter v (candidate c)
  pub followed : (v : List edge.Branch) (e : edge.Branch) → In v done → In e (branches_at code (end_of v)) → Followed done wait v e

-- ---- a branch to a point that was visited

pass_followed : (code : List Instr) (visits : List (Option Visit)) (done : List (List edge.Branch)) (c : Pending) (cs : List Pending) → Searching code visits done (c ∷ cs) → (w : List edge.Branch) → In w done → end_of w ≡ c.branch.to → (v : List edge.Branch) (e : edge.Branch) → Followed done (c ∷ cs) v e → Followed done cs v e
pass_followed code visits done c cs s w i ends v e (inl led) = inl led
pass_followed code visits done c cs s w i ends v e (inr (d, inl same, is)) =
    let whole : candidate c ≡ e ∷ v = ap candidate (sym same) ∙ is in
    let last : branch_of c.branch ≡ e = cc in
    inl record {
      walk = w;
      among = i;
      ends = ends ∙ ap (λ (x : edge.Branch). x.to) last;
      before = subst (λ u. NotAfter w u) whole (s.after w c i (inl refl));
    }
pass_followed code visits done c cs s w i ends v e (inr (d, inr j, is)) = inr (d, j, is)

pub pass : (code : List Instr) (visits : List (Option Visit)) (done : List (List edge.Branch)) (c : Pending) (cs : List Pending) → Searching code visits done (c ∷ cs) → (w : List edge.Branch) → In w done → end_of w ≡ c.branch.to → Searching code visits done cs
pass code visits done c cs s w i ends = record {
  long = s.long;
  start = s.start;
  kept = s.kept;
  only = s.only;
  one = s.one;
  came = λ d j. s.came d (inr j);
  rising = s.rising.1;
  after = λ v d j k. s.after v d j (inr k);
  followed = λ v e j k. pass_followed code visits done c cs s w i ends v e (s.followed v e j k);
}

-- ---- the order of the branches from a point

among_both : (w a b : Branch) (swapped : Bool) → In w (lesser_first swapped a b) → In (branch_of w) (branches_of (Either a b))
among_both w a b true (inl e) = inr (inl (ap branch_of e))
among_both w a b true (inr (inl e)) = inl (ap branch_of e)
among_both w a b true (inr (inr h)) = absurd h
among_both w a b false (inl e) = inl (ap branch_of e)
among_both w a b false (inr (inl e)) = inr (inl (ap branch_of e))
among_both w a b false (inr (inr h)) = absurd h

visiting_among : (w : Branch) (row : Branches) → In w (visiting row) → In (branch_of w) (branches_of row)
visiting_among w Nowhere h = h
visiting_among w (Single a) (inl e) = inl (ap branch_of e)
visiting_among w (Single a) (inr h) = absurd h
visiting_among w (Either a b) h = among_both w a b (ltb b.to a.to) h

both_among : (e : edge.Branch) (a b : Branch) (swapped : Bool) → In e (branches_of (Either a b)) → (w : Branch) × In w (lesser_first swapped a b) × (branch_of w ≡ e)
both_among e a b true (inl h) = (a, inr (inl refl), sym h)
both_among e a b true (inr (inl h)) = (b, inl refl, sym h)
both_among e a b true (inr (inr h)) = absurd h
both_among e a b false (inl h) = (a, inl refl, sym h)
both_among e a b false (inr (inl h)) = (b, inr (inl refl), sym h)
both_among e a b false (inr (inr h)) = absurd h

among_visiting : (e : edge.Branch) (row : Branches) → In e (branches_of row) → (w : Branch) × In w (visiting row) × (branch_of w ≡ e)
among_visiting e Nowhere h = absurd h
among_visiting e (Single a) (inl h) = (a, inl refl, sym h)
among_visiting e (Single a) (inr h) = absurd h
among_visiting e (Either a b) h = both_among e a b (ltb b.to a.to) h

few_both : (a b : Branch) (swapped : Bool) → length (lesser_first swapped a b) ≤ 2
few_both a b true = omega arith
few_both a b false = omega arith

pub few_waiting : (row : Branches) → length (visiting row) ≤ 2
few_waiting Nowhere = omega arith
few_waiting (Single a) = omega arith
few_waiting (Either a b) = few_both a b (ltb b.to a.to)

-- of two branches from a point the one that comes first in the order of the search isn't after the other
second_after : (v : List edge.Branch) (a b : Branch) → a.from ≡ b.from → a.aborts ≡ false → (b.aborts ≡ true) ⊎ (b.aborts ≡ false) → a.to ≡ b.to → NotAfter (branch_of a ∷ v) (branch_of b ∷ v)
second_after v a b from goes (inl t) to = inr (inr (refl, inr (to, goes, t)))
second_after v a b from goes (inr f) to = inl (ap (λ w. w ∷ v) (same_branch (branch_of a) (branch_of b) from to (goes ∙ sym f)))

by_points : (v : List edge.Branch) (a b : Branch) → a.from ≡ b.from → a.aborts ≡ false → (a.to ≡ b.to) ⊎ ((a.to < b.to) ⊎ (b.to < a.to)) → a.to ≤ b.to → NotAfter (branch_of a ∷ v) (branch_of b ∷ v)
by_points v a b from goes (inl e) l = second_after v a b from goes (cases_Bool b.aborts) e
by_points v a b from goes (inr (inl h)) l = inr (inr (refl, inl h))
by_points v a b from goes (inr (inr h)) l = absurd (omega arith)

single_rising : (v : List edge.Branch) (a : Branch) → Rising (map (pend v) (a ∷ []))
single_rising v a = ((λ d h. absurd h), tt)

only_last : (v : List edge.Branch) (a b : Branch) → NotAfter (branch_of a ∷ v) (branch_of b ∷ v) → (d : Pending) → In d (pend v b ∷ []) → NotAfter (candidate (pend v a)) (candidate d)
only_last v a b h d (inl e) = subst (λ x. NotAfter (branch_of a ∷ v) (candidate x)) (sym e) h
only_last v a b h d (inr i) = absurd i

both_rising : (v : List edge.Branch) (a b : Branch) → a.from ≡ b.from → a.aborts ≡ false → (swapped : Bool) → ltb b.to a.to ≡ swapped → Rising (map (pend v) (lesser_first swapped a b))
both_rising v a b from goes true e = (only_last v b a (inr (inr (refl, inl (ltb-true b.to a.to e)))), single_rising v a)
both_rising v a b from goes false e =
    (only_last v a b (by_points v a b from goes (cases_order a.to b.to) (ltb-false b.to a.to e)), single_rising v b)

row_rising : (code : List Instr) (p : ℕ) (v : List edge.Branch) (row : Branches) → branches_of row ≡ branches_at code p → Rising (map (pend v) (visiting row))
row_rising code p v Nowhere is = tt
row_rising code p v (Single a) is = single_rising v a
row_rising code p v (Either a b) is =
    let at : (e : edge.Branch) → In e (branches_of (Either a b)) → In e (branches_at code p) = λ e h. subst (λ ws. In e ws) is h in
    let a_from = branch_from code p (branch_of a) (at (branch_of a) (inl refl)) in
    let b_from = branch_from code p (branch_of b) (at (branch_of b) (inr (inl refl))) in
    both_rising v a b (a_from ∙ sym b_from) (first_goes_on code p (branch_of a) (branch_of b ∷ []) (sym is)) (ltb b.to a.to) refl

rising_first : (x : Pending) (xs ys : List Pending) → Rising (x ∷ xs) → ((c d : Pending) → In c (x ∷ xs) → In d ys → NotAfter (candidate c) (candidate d)) → (d : Pending) → In d xs ⊎ In d ys → NotAfter (candidate x) (candidate d)
rising_first x xs ys r h d (inl i) = r.0 d i
rising_first x xs ys r h d (inr i) = h x d (inl refl) i

rising_append : (xs ys : List Pending) → Rising xs → Rising ys → ((c d : Pending) → In c xs → In d ys → NotAfter (candidate c) (candidate d)) → Rising (xs ++ ys)
rising_append [] ys r t h = t
rising_append (x ∷ xs) ys r t h =
    ((λ d i. rising_first x xs ys r h d (in_append_cases d xs ys i)), rising_append xs ys r.1 t (λ c d i j. h c d (inr i) j))

-- ---- a branch to a new point

pub record Entering (code : List Instr) (rows : List Branches) (visits : List (Option Visit)) (done : List (List edge.Branch)) (c : Pending) (cs : List Pending) (row : Branches) : Type 0 where
  pub search : Searching code visits done (c ∷ cs)
  pub new : slice_get visits c.branch.to ≡ Some None
  pub is : branches_of row ≡ branches_at code c.branch.to

abbrev pub behind : List Instr → List (Option Visit) → Pending → List (Option Visit)
behind code visits c = set visits c.branch.to (Some (visit_behind code visits (branch_of c.branch)))

abbrev pub waiting_on : Pending → List Pending → Branches → List Pending
waiting_on c cs row = cs ++ map (pend (candidate c)) (visiting row)

-- no walk that was found leads to the new point
elsewhere : (code : List Instr) (rows : List Branches) (visits : List (Option Visit)) (done : List (List edge.Branch)) (c : Pending) (cs : List Pending) (row : Branches) → Entering code rows visits done c cs row → (v : List edge.Branch) → In v done → end_of v ≡ c.branch.to → ⊥
elsewhere code rows visits done c cs row n v i e =
    let kept = n.search.kept v i in
    none_is_not_some (slice_get visits c.branch.to) kept.visit n.new (ap (λ p. slice_get visits p) (sym e) ∙ kept.at)

enter_kept : (code : List Instr) (rows : List Branches) (visits : List (Option Visit)) (done : List (List edge.Branch)) (c : Pending) (cs : List Pending) (row : Branches) → Entering code rows visits done c cs row → (v : List edge.Branch) → In v (candidate c ∷ done) → IsKept code (behind code visits c) v
enter_kept code rows visits done c cs row n v (inl e) =
    let s = n.search in
    let came = s.came c (inl refl) in
    let before = s.kept c.before came.from in
    let from = branch_from code (end_of c.before) (branch_of c.branch) came.branch in
    let grows = grows_set visits c.branch.to (Some (visit_behind code visits (branch_of c.branch))) n.new in
    let at_from : slice_get visits c.branch.from ≡ Some (Some before.visit) = ap (λ p. slice_get visits p) from ∙ before.at in
    let here : IsKept code (behind code visits c) (candidate c) = record {
      is = (contains_in (branch_of c.branch) (branches_at code (end_of c.before)) came.branch, before.is);
      visit = visit_behind code visits (branch_of c.branch);
      at = get_set_same visits c.branch.to (Some (visit_behind code visits (branch_of c.branch))) (slice_get_within visits c.branch.to None n.new);
      keep = keep_grows visits (behind code visits c) grows (visit_behind code visits (branch_of c.branch)) (sites_of code (candidate c))
          (keep_behind code visits (branch_of c.branch) before.visit (sites_of code c.before) at_from before.keep);
    } in
    subst (λ w. IsKept code (behind code visits c) w) (sym e) here
enter_kept code rows visits done c cs row n v (inr i) =
    let kept = n.search.kept v i in
    let grows = grows_set visits c.branch.to (Some (visit_behind code visits (branch_of c.branch))) n.new in
    record {
      is = kept.is;
      visit = kept.visit;
      at = grows (end_of v) kept.visit kept.at;
      keep = keep_grows visits (behind code visits c) grows kept.visit (sites_of code v) kept.keep;
    }

enter_only : (code : List Instr) (rows : List Branches) (visits : List (Option Visit)) (done : List (List edge.Branch)) (c : Pending) (cs : List Pending) (row : Branches) → Entering code rows visits done c cs row → (p : ℕ) (visit : Visit) → slice_get (behind code visits c) p ≡ Some (Some visit) → (p ≡ c.branch.to) ⊎ (p ≡ c.branch.to → ⊥) → (v : List edge.Branch) × In v (candidate c ∷ done) × (end_of v ≡ p)
enter_only code rows visits done c cs row n p visit h (inl e) = (candidate c, inl refl, sym e)
enter_only code rows visits done c cs row n p visit h (inr differs) =
    let old = n.search.only p visit (sym (get_set_other visits c.branch.to p (Some (visit_behind code visits (branch_of c.branch))) differs) ∙ h) in
    (old.0, inr old.1, old.2)

enter_one : (code : List Instr) (rows : List Branches) (visits : List (Option Visit)) (done : List (List edge.Branch)) (c : Pending) (cs : List Pending) (row : Branches) → Entering code rows visits done c cs row → (v w : List edge.Branch) → In v (candidate c ∷ done) → In w (candidate c ∷ done) → end_of v ≡ end_of w → v ≡ w
enter_one code rows visits done c cs row n v w (inl e) (inl f) ends = e ∙ sym f
enter_one code rows visits done c cs row n v w (inl e) (inr j) ends = absurd (elsewhere code rows visits done c cs row n w j (sym ends ∙ ap end_of e))
enter_one code rows visits done c cs row n v w (inr i) (inl f) ends = absurd (elsewhere code rows visits done c cs row n v i (ends ∙ ap end_of f))
enter_one code rows visits done c cs row n v w (inr i) (inr j) ends = n.search.one v w i j ends

came_more : (code : List Instr) (done : List (List edge.Branch)) (v : List edge.Branch) (c : Pending) → CameFrom code done c → CameFrom code (v ∷ done) c
came_more code done v c came = record { from = inr came.from; branch = came.branch }

enter_came : (code : List Instr) (rows : List Branches) (visits : List (Option Visit)) (done : List (List edge.Branch)) (c : Pending) (cs : List Pending) (row : Branches) → Entering code rows visits done c cs row → (d : Pending) → In d cs ⊎ In d (map (pend (candidate c)) (visiting row)) → CameFrom code (candidate c ∷ done) d
enter_came code rows visits done c cs row n d (inl i) = came_more code done (candidate c) d (n.search.came d (inr i))
enter_came code rows visits done c cs row n d (inr i) =
    let source = in_map_source (pend (candidate c)) d (visiting row) i in
    let branch = subst (λ ws. In (branch_of source.0) ws) n.is (visiting_among source.0 row source.1) in
    let here : CameFrom code (candidate c ∷ done) (pend (candidate c) source.0) = record { from = inl refl; branch = branch } in
    subst (λ x. CameFrom code (candidate c ∷ done) x) (sym source.2) here

-- the walks that wait aren't after the new ones
not_after_new : (code : List Instr) (rows : List Branches) (visits : List (Option Visit)) (done : List (List edge.Branch)) (c : Pending) (cs : List Pending) (row : Branches) → Entering code rows visits done c cs row → (d : Pending) (w : Branch) → In d cs → NotAfter d.before (candidate c) → NotAfter (candidate d) (branch_of w ∷ candidate c)
not_after_new code rows visits done c cs row n d w i (inl e) =
    absurd (elsewhere code rows visits done c cs row n d.before (n.search.came d (inr i)).from (ap end_of e))
not_after_new code rows visits done c cs row n d w i (inr h) = inr (inl h)

enter_across : (code : List Instr) (rows : List Branches) (visits : List (Option Visit)) (done : List (List edge.Branch)) (c : Pending) (cs : List Pending) (row : Branches) → Entering code rows visits done c cs row → (d e : Pending) → In d cs → In e (map (pend (candidate c)) (visiting row)) → NotAfter (candidate d) (candidate e)
enter_across code rows visits done c cs row n d e i j =
    let source = in_map_source (pend (candidate c)) e (visiting row) j in
    let came = n.search.came d (inr i) in
    subst (λ x. NotAfter (candidate d) (candidate x)) (sym source.2)
    (not_after_new code rows visits done c cs row n d source.0 i (n.search.after d.before c came.from (inl refl)))

new_after : (c : Pending) (row : Branches) (e : Pending) → In e (map (pend (candidate c)) (visiting row)) → NotAfter (candidate c) (candidate e)
new_after c row e j =
    let source = in_map_source (pend (candidate c)) e (visiting row) j in
    subst (λ x. NotAfter (candidate c) (candidate x)) (sym source.2)
    (inr (shorter_earlier (candidate c) (branch_of source.0 ∷ candidate c) (omega arith)))

enter_after : (code : List Instr) (rows : List Branches) (visits : List (Option Visit)) (done : List (List edge.Branch)) (c : Pending) (cs : List Pending) (row : Branches) → Entering code rows visits done c cs row → (v : List edge.Branch) (d : Pending) → In v (candidate c ∷ done) → In d cs ⊎ In d (map (pend (candidate c)) (visiting row)) → NotAfter v (candidate d)
enter_after code rows visits done c cs row n v d (inl e) (inl i) = subst (λ w. NotAfter w (candidate d)) (sym e) (n.search.rising.0 d i)
enter_after code rows visits done c cs row n v d (inl e) (inr i) = subst (λ w. NotAfter w (candidate d)) (sym e) (new_after c row d i)
enter_after code rows visits done c cs row n v d (inr j) (inl i) = n.search.after v d j (inr i)
enter_after code rows visits done c cs row n v d (inr j) (inr i) =
    not_after_trans v (candidate c) (candidate d) (n.search.after v c j (inl refl)) (new_after c row d i)

still_followed : (code : List Instr) (done : List (List edge.Branch)) (c : Pending) (cs : List Pending) (row : Branches) (v : List edge.Branch) (e : edge.Branch) → Followed done (c ∷ cs) v e → Followed (candidate c ∷ done) (waiting_on c cs row) v e
still_followed code done c cs row v e (inl led) = inl record { walk = led.walk; among = inr led.among; ends = led.ends; before = led.before }
still_followed code done c cs row v e (inr (d, inl same, is)) =
    let whole : candidate c ≡ e ∷ v = ap candidate (sym same) ∙ is in
    inl record { walk = candidate c; among = inl refl; ends = ap end_of whole; before = inl whole }
still_followed code done c cs row v e (inr (d, inr j, is)) = inr (d, in_append_left d cs (map (pend (candidate c)) (visiting row)) j, is)

enter_followed : (code : List Instr) (rows : List Branches) (visits : List (Option Visit)) (done : List (List edge.Branch)) (c : Pending) (cs : List Pending) (row : Branches) → Entering code rows visits done c cs row → (v : List edge.Branch) (e : edge.Branch) → In v (candidate c ∷ done) → In e (branches_at code (end_of v)) → Followed (candidate c ∷ done) (waiting_on c cs row) v e
enter_followed code rows visits done c cs row n v e (inl same) i =
    let here : In e (branches_of row) = subst (λ ws. In e ws) (ap (λ w. branches_at code (end_of w)) same ∙ sym n.is) i in
    let found = among_visiting e row here in
    let news = map (pend (candidate c)) (visiting row) in
    inr (
      pend (candidate c) found.0,
      in_append_right (pend (candidate c) found.0) cs news (in_map (pend (candidate c)) found.0 (visiting row) found.1),
      ap (λ w. w ∷ candidate c) found.2 ∙ ap (λ w. e ∷ w) (sym same),
    )
enter_followed code rows visits done c cs row n v e (inr j) i = still_followed code done c cs row v e (n.search.followed v e j i)

pub enter : (code : List Instr) (rows : List Branches) (visits : List (Option Visit)) (done : List (List edge.Branch)) (c : Pending) (cs : List Pending) (row : Branches) → Entering code rows visits done c cs row → Searching code (behind code visits c) (candidate c ∷ done) (waiting_on c cs row)
enter code rows visits done c cs row n =
    let news = map (pend (candidate c)) (visiting row) in
    record {
      long = length-set visits c.branch.to (Some (visit_behind code visits (branch_of c.branch))) ∙ n.search.long;
      start = inr n.search.start;
      kept = λ v i. enter_kept code rows visits done c cs row n v i;
      only = λ p visit h. enter_only code rows visits done c cs row n p visit h (cases_eq p c.branch.to);
      one = λ v w i j e. enter_one code rows visits done c cs row n v w i j e;
      came = λ d i. enter_came code rows visits done c cs row n d (in_append_cases d cs news i);
      rising = rising_append cs news n.search.rising.1 (row_rising code c.branch.to (candidate c) row n.is) (enter_across code rows visits done c cs row n);
      after = λ v d i j. enter_after code rows visits done c cs row n v d i (in_append_cases d cs news j);
      followed = λ v e i j. enter_followed code rows visits done c cs row n v e i j;
    }

-- ---- the first point

none_at : (n p : ℕ) (visit : Visit) → slice_get (replicate {A = Option Visit} n None) p ≡ Some (Some visit) → ⊥
none_at zero p visit h = let e : ◌≡◌ {A = Option (Option Visit)} None (Some (Some visit)) = h in cc
none_at (suc n) zero visit h = let e : ◌≡◌ {A = Option (Option Visit)} (Some None) (Some (Some visit)) = h in cc
none_at (suc n) (suc p) visit h = none_at n p visit h

abbrev pub at_start : List Instr → List (Option Visit)
at_start code = set (replicate (length code + 1) None) 0 (Some none_open)

start_only : (code : List Instr) (p : ℕ) (visit : Visit) → slice_get (at_start code) p ≡ Some (Some visit) → (p ≡ 0) ⊎ (p ≡ 0 → ⊥) → (v : List edge.Branch) × In v ([] ∷ []) × (end_of v ≡ p)
start_only code p visit h (inl e) = ([], inl refl, sym e)
start_only code p visit h (inr differs) =
    absurd (none_at (length code + 1) p visit (sym (get_set_other (replicate (length code + 1) None) 0 p (Some none_open) differs) ∙ h))

start_kept : (code : List Instr) (v : List edge.Branch) → In v ([] ∷ []) → IsKept code (at_start code) v
start_kept code v (inl e) =
    let here : IsKept code (at_start code) [] = record {
      is = tt;
      visit = none_open;
      at = get_set_same (replicate (length code + 1) None) 0 (Some none_open) (let l = length-replicate {A = Option Visit} (length code + 1) None in omega arith);
      keep = (refl, refl);
    } in
    subst (λ w. IsKept code (at_start code) w) (sym e) here
start_kept code v (inr h) = absurd h

start_one : (v w : List edge.Branch) → In v ([] ∷ []) → In w ([] ∷ []) → v ≡ w
start_one v w (inl e) (inl f) = e ∙ sym f
start_one v w (inl e) (inr j) = absurd j
start_one v w (inr i) j = absurd i

start_came : (code : List Instr) (row : Branches) → branches_of row ≡ branches_at code 0 → (d : Pending) → In d (map (pend []) (visiting row)) → CameFrom code ([] ∷ []) d
start_came code row is d i =
    let source = in_map_source (pend []) d (visiting row) i in
    let here : CameFrom code ([] ∷ []) (pend [] source.0) = record { from = inl refl; branch = subst (λ ws. In (branch_of source.0) ws) is (visiting_among source.0 row source.1) } in
    subst (λ x. CameFrom code ([] ∷ []) x) (sym source.2) here

start_after : (v : List edge.Branch) (c : Pending) → In v ([] ∷ []) → NotAfter v (candidate c)
start_after v c (inl e) = subst (λ w. NotAfter w (candidate c)) (sym e) (inr tt)
start_after v c (inr h) = absurd h

start_followed : (code : List Instr) (row : Branches) → branches_of row ≡ branches_at code 0 → (v : List edge.Branch) (e : edge.Branch) → In v ([] ∷ []) → In e (branches_at code (end_of v)) → Followed ([] ∷ []) (map (pend []) (visiting row)) v e
start_followed code row is v e (inl same) i =
    let here : In e (branches_of row) = subst (λ ws. In e ws) (ap (λ w. branches_at code (end_of w)) same ∙ sym is) i in
    let found = among_visiting e row here in
    inr (pend [] found.0, in_map (pend []) found.0 (visiting row) found.1, ap (λ w. w ∷ []) found.2 ∙ ap (λ w. e ∷ w) (sym same))
start_followed code row is v e (inr h) i = absurd h

pub start : (code : List Instr) (row : Branches) → branches_of row ≡ branches_at code 0 → Searching code (at_start code) ([] ∷ []) (map (pend []) (visiting row))
start code row is = record {
  long = length-set (replicate (length code + 1) None) 0 (Some none_open) ∙ length-replicate (length code + 1) None;
  start = inl refl;
  kept = start_kept code;
  only = λ p visit h. start_only code p visit h (cases_eq p 0);
  one = λ v w i j e. start_one v w i j;
  came = start_came code row is;
  rising = row_rising code 0 [] row is;
  after = λ v c i j. start_after v c i;
  followed = start_followed code row is;
}

-- ---- where no branch waits, the walks are the first ones

led : (code : List Instr) (visits : List (Option Visit)) (done : List (List edge.Branch)) → Searching code visits done [] → (e : edge.Branch) (u v : List edge.Branch) → NotAfter v u → Followed done [] v e → (w : List edge.Branch) × In w done × (end_of w ≡ e.to) × NotAfter w (e ∷ u)
led code visits done s e u v h (inl l) = (l.walk, l.among, l.ends, not_after_trans l.walk (e ∷ v) (e ∷ u) l.before (not_after_more e v u h))
led code visits done s e u v h (inr (c, i, is)) = absurd i

leads : (code : List Instr) (visits : List (Option Visit)) (done : List (List edge.Branch)) → Searching code visits done [] → (u : List edge.Branch) → IsWalk code u → (w : List edge.Branch) × In w done × (end_of w ≡ end_of u) × NotAfter w u
leads code visits done s [] is = ([], s.start, refl, inl refl)
leads code visits done s (e ∷ u) is =
    let before = leads code visits done s u is.1 in
    let here : In e (branches_at code (end_of before.0)) = subst (λ p. In e (branches_at code p)) (sym before.2) (in_contains e (branches_at code (end_of u)) is.0) in
    led code visits done s e u before.0 before.3 (s.followed before.0 e before.1 here)

are_visited : (code : List Instr) (visits : List (Option Visit)) (done : List (List edge.Branch)) → Searching code visits done [] → (p : ℕ) (visit : Visit) → slice_get visits p ≡ Some (Some visit) → IsVisited code visits p visit
are_visited code visits done s p visit h =
    let own = s.only p visit h in
    let kept = s.kept own.0 own.1 in
    let twice : ◌≡◌ {A = Option (Option Visit)} (Some (Some kept.visit)) (Some (Some visit)) = sym kept.at ∙ ap (λ n. slice_get visits n) own.2 ∙ h in
    let same : kept.visit ≡ visit = cc in
    record {
      walk = own.0;
      first = record {
        is = kept.is;
        ends = own.2;
        first = λ other is ends. let w = leads code visits done s other is in
            subst (λ x. NotAfter x other) (s.one w.0 own.0 w.1 own.1 (w.2 ∙ ends ∙ sym own.2)) w.3;
      };
      kept = subst (λ v. Keep visits v (sites_of code own.0)) same kept.keep;
    }

are_reached : (code : List Instr) (visits : List (Option Visit)) (done : List (List edge.Branch)) → Searching code visits done [] → (p : ℕ) → IsReached code p → (visit : Visit) × (slice_get visits p ≡ Some (Some visit))
are_reached code visits done s p r =
    let w = leads code visits done s r.walk r.is in
    let kept = s.kept w.0 w.1 in
    (kept.visit, ap (λ n. slice_get visits n) (sym (w.2 ∙ r.ends)) ∙ kept.at)

pub searched : (code : List Instr) (visits : List (Option Visit)) (done : List (List edge.Branch)) → Searching code visits done [] → AreVisits code visits
searched code visits done s = record { points = s.long; visited = are_visited code visits done s; reached = are_reached code visits done s }
