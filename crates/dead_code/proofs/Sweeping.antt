-- The sweep: what it knows at a point, and that what it finds isn't live there.
use Rattle.std.proofs.Common.{◌≡◌, ◌⊎◌, ℕ, zero, suc, ◌+◌, ◌-◌, ◌<◌, ◌≤◌, Bool, true, false, cond, List, [], ◌∷◌, ◌++◌, length, map, get_or, set, replicate, take, Option, Some, None, refl, sym, ap, subst, ◌∙◌, inl, inr, ⊎_elim, arith}
use Rattle.std.specs.Prelude.{IfSome, slice_get, slice_index}
use Rattle.std.specs.List.{Contains}
use Rattle.std.specs.Option.{option_to_list}
use Rattle.std.proofs.lemmas.Bool.{cases_eq}
use Rattle.std.proofs.lemmas.List.{get_or-replicate, length-replicate, take_more}
use Rattle.std.proofs.lemmas.Option.{same_Some, slice_get_within, slice_get_past}
use Rattle.bril_tree.specs.declared.numbered.Instr.{Instr}
use Rattle.bril_tree.specs.declared.numbered.Instr.TheVariants.{Label, Const, Act}
use Rattle.bril_tree.specs.declared.operation.Op.TheVariants as op
use Rattle.bril_tree.specs.Assigned.{assigns_at, assigns_of}
use Rattle.bril_tree.specs.Edge.{Branch, branches_from, onward}
use Rattle.bril_tree.specs.Leaving.{Leaves, AbortsFrom}
use Rattle.bril_tree.specs.Live.{IsLive, Here, Later}
use Rattle.bril_tree.specs.Membership.{In}
use Rattle.bril_tree.specs.Numbered.{nop}
use Rattle.bril_tree.specs.Operand.{Location, reads_of}
use Rattle.bril_tree.specs.Sites.{Opens, item_change}
use Rattle.bril_tree.specs.Step.{point_of}
use Rattle.bril_tree.proofs.Assignments.{site_speculates}
use Rattle.bril_tree.proofs.Members.{contains_in, in_contains, in_map}
use Rattle.flow_graph.proofs.Searching.{get_set_other}
use Rattle.flow_graph.specs.Location.{number_at, number_of}
use Rattle.flow_graph.specs.Reads.{item_reads}
use Rattle.flow_graph.specs.declared.reads.Access.{Access}
use Rattle.flow_graph.proofs.Locations.{assigned-number, number-assigned}
use Rattle.dead_code.specs.Removable.{IsRemovable, is_computation}
use Rattle.dead_code.specs.Sweep.{AreNoted, GoesOn, IsQuiet, IsSwept}
use Rattle.dead_code.specs.Work.{IsSound, NoneIdle, remaining}
use Rattle.pass_edit_laws.proofs.lemmas.plan.Marked.{length-with_nops}
use Rattle.dead_code.proofs.Queueing.{among-more, numbers-read}
use Rattle.dead_code.proofs.Step.{branches-same, set-here}
use Rattle.dead_code.proofs.Working.{more-is, more-none_idle, more-sound, remaining-chain}

-- ---- where branches lead

onward-to : (j : ℕ) (b : Branch) → In b (onward j ∷ []) → b.to ≡ suc j
onward-to j b (inl e) = ap (λ (w : Branch). w.to) e
onward-to j b (inr n) = absurd n

-- a point without branches opens no site
none-opens : (code : List Instr) (j : ℕ) (o : Option Instr) → branches_from code j o ≡ [] → item_change o false ≡ Opens → ⊥
none-opens code j None e h = cc
none-opens code j (Some (Label l)) e h = cc
none-opens code j (Some (Const d ty v)) e h = cc
none-opens code j (Some (Act d ty op.Speculate args fns ls)) e h = cc
none-opens code j (Some (Act d ty _ args fns ls)) e h = cc

nop-goes : (code : List Instr) (j : ℕ) → GoesOn code j nop
nop-goes code j = record { onward = λ b i. onward-to j b i ∙ (let n : suc j ≡ j + 1 = omega arith in n); plain = λ h. cc }

module _ (code made : List Instr) where
  aborts-open : (j : ℕ) (b : Branch) → AbortsFrom made j b → item_change (slice_get made j) false ≡ Opens
  aborts-open j b a = site_speculates made a.walk j (subst (In j) (sym a.sites) (inl refl))

  module _ (labels : (l : ℕ) → point_of l made ≡ point_of l code) where
    plain-to : (j : ℕ) (item : Instr) (b : Branch) → slice_get made j ≡ Some item → GoesOn code j item → Leaves made j b → b.to ≡ suc j
    plain-to j item b at g (inl l) =
        let i : In b (branches_from made j (Some item)) = subst (λ o. In b (branches_from made j o)) at (in_contains b _ l.0) in
        g.onward b (subst (In b) (branches-same code made j labels (Some item)) i) ∙ (let n : j + 1 ≡ suc j = omega arith in n)
    plain-to j item b at g (inr a) = absurd (g.plain (ap (λ o. item_change o false) (sym at) ∙ aborts-open j b a))

    end-stops : (j : ℕ) (b : Branch) → branches_from code j (slice_get made j) ≡ [] → Leaves made j b → ⊥
    end-stops j b e (inl l) = subst (In b) (branches-same code made j labels (slice_get made j) ∙ e) (in_contains b _ l.0)
    end-stops j b e (inr a) = none-opens code j (slice_get made j) e (aborts-open j b a)

    -- ---- what is quiet isn't live

    module _ (p : ℕ) (reads assigns : List ℕ) (branch end : ℕ) (s : IsSwept code made p reads assigns branch end) (x : Location) (q : IsQuiet reads assigns branch end (number_of x)) where
      stops : (j : ℕ) → j ≡ q.first → (b : Branch) → Leaves made j b → (Contains (assigns_at (slice_get made j)) x → ⊥) → ⊥
      stops j e b leaves none = ⊎_elim (λ h. assigned (e ∙ h)) (λ h. end-stops j b (ap (λ n. branches_from code n (slice_get made n)) (e ∙ h) ∙ s.ends) leaves) q.is
        where
          assigned : j ≡ slice_index assigns (number_of x) → ⊥
          assigned h = by (slice_get made j) refl
            where
              by : (o : Option Instr) → slice_get made j ≡ o → ⊥
              by None at = end-stops j b (ap (branches_from code j) at) leaves
              by (Some item) at =
                  let n = s.assigned (number_of x) item q.assignable (ap (slice_get made) (sym h) ∙ at) in
                  none (subst (λ o. Contains (assigns_at o) x) (sym at) (contains_in x (assigns_of item) (number-assigned (Some item) x n)))

      not-live : (fuel j : ℕ) → j + fuel ≡ q.first → p ≤ j → IsLive made x j → ⊥
      not-live fuel j e low (Here _ item at c) = absurd (let r = s.unread x j item q.known low at c in let u = q.unread in omega arith)
      not-live zero j e low (Later _ b leaves none live) = stops j (omega arith) b leaves none
      not-live (suc fuel) j e low (Later _ b leaves none live) = by (slice_get made j) refl (not-live fuel (suc j) (omega arith) (omega arith))
        where
          by : (o : Option Instr) → slice_get made j ≡ o → (IsLive made x (suc j) → ⊥) → ⊥
          by None at again = end-stops j b (ap (branches_from code j) at) leaves
          by (Some item) at again = again (subst (IsLive made x) (plain-to j item b at (s.plain j item low (let l = q.plain in omega (arith, e)) at) leaves) live)

      pub quiet : IsLive made x p → ⊥
      quiet live =
          let low : p ≤ q.first = ⊎_elim (λ h. let l = s.later (number_of x) q.assignable in omega (arith, h)) (λ h. let l = s.end_later in omega (arith, h)) q.is in
          not-live (q.first - p) p (omega arith) (omega arith) live

  -- ---- one item

  -- a `nop`
  pub nop-swept : (p : ℕ) (reads assigns : List ℕ) (branch end : ℕ) → slice_get made p ≡ Some nop → IsSwept code made (p + 1) reads assigns branch end → IsSwept code made p reads assigns branch end
  nop-swept p reads assigns branch end here s = record {
    unread = λ x j item low le at c. ⊎_elim (λ e. absurd (subst (In x) (sym (ap reads_of (same_Some nop item (sym here ∙ ap (slice_get made) (sym e) ∙ at)))) (in_contains x (reads_of item) c))) (λ d. s.unread x j item low (omega (arith, d)) at c) (cases_eq j p);
    assigned = s.assigned;
    later = λ k low. let l = s.later k low in omega arith;
    plain = λ j item le less at. ⊎_elim (λ e. subst (GoesOn code j) (same_Some nop item (sym here ∙ ap (slice_get made) (sym e) ∙ at)) (nop-goes code j)) (λ d. s.plain j item (omega (arith, d)) less at) (cases_eq j p);
    ends = s.ends;
    end_later = let l = s.end_later in omega arith;
  }

  -- an item before becomes `nop`
  pub before-swept : (p : ℕ) (reads assigns : List ℕ) (branch end : ℕ) → IsSwept code made (p + 1) reads assigns branch end → IsSwept code (set made p nop) (p + 1) reads assigns branch end
  before-swept p reads assigns branch end s = record {
    unread = λ x j item low le at c. s.unread x j item low le (sym (other j le) ∙ at) c;
    assigned = λ k item low at. s.assigned k item low (sym (other (slice_index assigns k) (s.later k low)) ∙ at);
    later = s.later;
    plain = λ j item le less at. s.plain j item le less (sym (other j le) ∙ at);
    ends = ap (branches_from code end) (other end s.end_later) ∙ s.ends;
    end_later = s.end_later;
  }
    where
      other : (j : ℕ) → p + 1 ≤ j → slice_get (set made p nop) j ≡ slice_get made j
      other j le = get_set_other made p j nop (λ e. omega (arith, le, e))

  -- an item that stays
  module _ (p : ℕ) (item : Instr) (here : slice_get made p ≡ Some item) (reads reads_new assigns assigns_new : List ℕ) (branch end : ℕ) (s : IsSwept code made (p + 1) reads assigns branch end)
      (r : AreNoted p (map number_of (reads_of item)) reads reads_new) (a : AreNoted p (option_to_list (number_at (Some item))) assigns assigns_new) where
    same-item : (j : ℕ) (other : Instr) → j ≡ p → slice_get made j ≡ Some other → item ≡ other
    same-item j other e at = same_Some item other (sym here ∙ ap (slice_get made) (sym e) ∙ at)

    listed-is : (o : Option ℕ) (k : ℕ) → In k (option_to_list o) → o ≡ Some k
    listed-is None k i = absurd i
    listed-is (Some n) k (inl e) = ap Some (sym e)
    listed-is (Some n) k (inr i) = absurd i

    unread : (x : Location) (j : ℕ) (other : Instr) → number_of x < length reads_new → p ≤ j → slice_get made j ≡ Some other → Contains (reads_of other) x → slice_index reads_new (number_of x) ≤ j
    unread x j other low le at c = ⊎_elim this later (cases_eq j p)
      where
        within : number_of x < length reads
        within = subst (λ n. number_of x < n) r.long low

        this : j ≡ p → slice_index reads_new (number_of x) ≤ j
        this e =
            let i : In x (reads_of item) = subst (λ (o : Instr). In x (reads_of o)) (sym (same-item j other e at)) (in_contains x (reads_of other) c) in
            let n = r.noted (number_of x) (contains_in (number_of x) (map number_of (reads_of item)) (in_map number_of x (reads_of item) i)) within in
            omega (arith, n, e)

        later : (j ≡ p → ⊥) → slice_index reads_new (number_of x) ≤ j
        later d = ⊎_elim (λ same. let l = s.unread x j other within (omega (arith, d)) at c in omega (arith, same)) (λ n. omega (arith, n.0)) (r.kept (number_of x))

    assigned : (k : ℕ) (other : Instr) → k < length assigns_new → slice_get made (slice_index assigns_new k) ≡ Some other → number_at (Some other) ≡ Some k
    assigned k other low at = ⊎_elim (λ same. s.assigned k other (subst (λ n. k < n) a.long low) (ap (slice_get made) (sym same) ∙ at)) new (a.kept k)
      where
        new : (slice_index assigns_new k ≡ p) × Contains (option_to_list (number_at (Some item))) k → number_at (Some other) ≡ Some k
        new h = ap (λ (o : Instr). number_at (Some o)) (sym (same-item (slice_index assigns_new k) other h.0 at)) ∙ listed-is (number_at (Some item)) k (in_contains k _ h.1)

    plain : (b : Bool) → (b ≡ false → GoesOn code p item) → (j : ℕ) (other : Instr) → p ≤ j → j < cond b p branch → slice_get made j ≡ Some other → GoesOn code j other
    plain true goes j other le less at = absurd (omega arith)
    plain false goes j other le less at = ⊎_elim (λ h. subst (λ n. GoesOn code n other) (sym h) (subst (GoesOn code p) (same-item j other h at) (goes refl))) (λ d. s.plain j other (omega (arith, d)) less at) (cases_eq j p)

    ends : (b : Bool) → (b ≡ true → branches_from code p (Some item) ≡ []) → (branches_from code (cond b p end) (slice_get made (cond b p end)) ≡ []) × (p ≤ cond b p end)
    ends true none = (ap (branches_from code p) here ∙ none refl, omega arith)
    ends false none = (s.ends, let l = s.end_later in omega arith)

    pub noted-swept : (branching stops : Bool) → (branching ≡ false → GoesOn code p item) → (stops ≡ true → branches_from code p (Some item) ≡ []) → (branch_new end_new : ℕ) → branch_new ≡ cond branching p branch → end_new ≡ cond stops p end → IsSwept code made p reads_new assigns_new branch_new end_new
    noted-swept branching stops goes none branch_new end_new b e = record {
      unread = unread;
      assigned = assigned;
      later = λ k low. ⊎_elim (λ same. let l = s.later k (subst (λ n. k < n) a.long low) in omega (arith, same)) (λ n. omega (arith, n.0)) (a.kept k);
      plain = λ j other le less at. plain branching goes j other le (subst (λ n. j < n) b less) at;
      ends = ap (λ n. branches_from code n (slice_get made n)) e ∙ (ends stops none).0;
      end_later = subst (λ n. p ≤ n) (sym e) (ends stops none).1;
    }

  -- a computation of what is quiet is removable
  pub unused-removable : ((l : ℕ) → point_of l made ≡ point_of l code) → (p : ℕ) (item : Instr) (reads assigns : List ℕ) (branch end : ℕ) (assigned : Option ℕ) → slice_get made p ≡ Some item → is_computation item ≡ true → assigned ≡ number_at (Some item) → IsSwept code made (p + 1) reads assigns branch end → IfSome assigned (IsQuiet reads assigns branch end) → IsRemovable made p
  unused-removable labels p item reads assigns branch end assigned here computes is s q = record {
    item = item;
    here = here;
    why = inl (record {
      computes = computes;
      unused = λ x c live.
          let n : assigned ≡ Some (number_of x) = is ∙ assigned-number (Some item) x (in_contains x (assigns_of item) c) in
          let next : suc p ≡ p + 1 = omega arith in
          quiet labels (p + 1) reads assigns branch end s x (subst (λ o. IfSome o (IsQuiet reads assigns branch end)) n q) (subst (IsLive made x) next live);
    });
  }

-- what the sweep knows when it has marked a computation of what is quiet
pub record Marked (code : List Instr) (dead : List Bool) (p : ℕ) (reads assigns : List ℕ) (branch end : ℕ) : Type 0 where
  pub sound : IsSound code (set dead p true)
  pub none : NoneIdle code (set dead p true)
  pub swept : IsSwept code (remaining code (set dead p true)) p reads assigns branch end

pub marked : (code : List Instr) (dead : List Bool) (p : ℕ) (item : Instr) (reads assigns : List ℕ) (branch end : ℕ) (assigned : Option ℕ) → IsSound code dead → NoneIdle code dead → slice_get (remaining code dead) p ≡ Some item → is_computation item ≡ true → assigned ≡ number_at (Some item)
    → IsSwept code (remaining code dead) (p + 1) reads assigns branch end → IfSome assigned (IsQuiet reads assigns branch end) → Marked code dead p reads assigns branch end
marked code dead p item reads assigns branch end assigned sound none here computes is s q =
    let made = remaining code dead in
    let low : p < length dead = (let l = slice_get_within made p item here in let size = length-with_nops nop dead code in let long = sound.long in omega arith) in
    let r = unused-removable code made (remaining-chain code dead sound).labels p item reads assigns branch end assigned here computes is s q in
    record {
      sound = more-sound code dead sound p low r;
      none = more-none_idle code dead sound p low r none;
      swept = subst (λ l. IsSwept code l p reads assigns branch end) (sym (more-is code dead sound p low r))
          (nop-swept code (set made p nop) p reads assigns branch end (set-here made p item nop here) (before-swept code made p reads assigns branch end s));
    }

-- ---- the start

far-past : (count far n k : ℕ) (xs : List ℕ) → xs ≡ replicate count far → k < length xs → slice_index xs k ≡ far
far-past count far n k xs is low =
    let size = ap length is ∙ length-replicate count far in
    ap (λ l. get_or l k 0) is ∙ get_or-replicate count k far 0 (omega arith)

pub all-swept : (code made : List Instr) (count far : ℕ) (reads assigns : List ℕ) → length made < far → reads ≡ replicate count far → assigns ≡ replicate count far → IsSwept code made (length made) reads assigns far (length made)
all-swept code made count far reads assigns low r a = record {
  unread = λ x j item within le at c. absurd (let l = slice_get_within made j item at in omega arith);
  assigned = λ k item within at. absurd (let l = slice_get_within made (slice_index assigns k) item at in let f = far-past count far 0 k assigns a within in omega arith);
  later = λ k within. let f = far-past count far 0 k assigns a within in omega arith;
  plain = λ j item le less at. absurd (let l = slice_get_within made j item at in omega arith);
  ends = ap (branches_from code (length made)) (slice_get_past made (length made) (omega arith));
  end_later = omega arith;
}

-- ---- notes

pub noted-more : (point k : ℕ) (numbers more : List ℕ) (a b c : List ℕ) → ((n : ℕ) → In n more → In n numbers ⊎ (n ≡ k)) → ((n : ℕ) → In n numbers ⊎ (n ≡ k) → In n more) → AreNoted point numbers a b → AreNoted point (k ∷ []) b c → AreNoted point more a c
noted-more point k numbers more a b c split join first second = record {
  long = second.long ∙ first.long;
  noted = λ n i low. ⊎_elim (λ h. again n (first.noted n (contains_in n numbers h) low)) (λ e. second.noted n (contains_in n (k ∷ []) (inl e)) (let l = first.long in omega arith)) (split n (in_contains n more i));
  kept = λ n. ⊎_elim
      (λ same. ⊎_elim (λ e. inl (same ∙ e)) (λ h. inr (same ∙ h.0, contains_in n more (join n (inl (in_contains n numbers h.1))))) (first.kept n))
      (λ h. inr (h.0, contains_in n more (join n (inr (one n (in_contains n (k ∷ []) h.1)))))) (second.kept n);
}
  where
    one : (n : ℕ) → In n (k ∷ []) → n ≡ k
    one n (inl e) = e
    one n (inr i) = absurd i

    again : (n : ℕ) → slice_index b n ≡ point → slice_index c n ≡ point
    again n e = ⊎_elim (λ same. same ∙ e) (λ h. h.0) (second.kept n)

among-join : (reads : List Access) (read : Access) (n : ℕ) → In n (map (λ (access : Access). access.location) reads) ⊎ (n ≡ read.location) → In n (map (λ (access : Access). access.location) (reads ++ read ∷ []))
among-join [] read n (inl i) = absurd i
among-join [] read n (inr e) = inl e
among-join (r ∷ reads) read n (inl (inl e)) = inl e
among-join (r ∷ reads) read n (inl (inr i)) = inr (among-join reads read n (inl i))
among-join (r ∷ reads) read n (inr e) = inr (among-join reads read n (inr e))

-- one read more is noted
pub read-noted : (point i : ℕ) (reads : List Access) (read : Access) (a b c : List ℕ) → i < length reads → read ≡ get_or reads i read → AreNoted point (map (λ (access : Access). access.location) (take i reads)) a b → AreNoted point (read.location ∷ []) b c → AreNoted point (map (λ (access : Access). access.location) (take (i + 1) reads)) a c
read-noted point i reads read a b c low is first second =
    noted-more point read.location (map (λ (access : Access). access.location) (take i reads)) (map (λ (access : Access). access.location) (take (i + 1) reads)) a b c
    (λ n h. among-more (take i reads) read n (subst (λ l. In n (map (λ (access : Access). access.location) l)) step h))
    (λ n h. subst (λ l. In n (map (λ (access : Access). access.location) l)) (sym step) (among-join (take i reads) read n h)) first second
  where
    step : take (i + 1) reads ≡ take i reads ++ read ∷ []
    step = take_more reads i read low ∙ ap (λ r. take i reads ++ r ∷ []) (sym is)

-- all reads of an item are
pub reads-noted : (point i : ℕ) (item : Instr) (reads : List Access) (a b : List ℕ) → reads ≡ item_reads point item → take i reads ≡ reads → AreNoted point (map (λ (access : Access). access.location) (take i reads)) a b → AreNoted point (map number_of (reads_of item)) a b
reads-noted point i item reads a b is all n = subst (λ l. AreNoted point l a b) (ap (map (λ (access : Access). access.location)) (all ∙ is) ∙ numbers-read point (reads_of item)) n
