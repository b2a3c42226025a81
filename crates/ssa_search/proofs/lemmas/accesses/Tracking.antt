-- What is found of the points before a bound, and of one more.
use Rattle.std.proofs.Common.{◌≡◌, ◌≢◌, ◌⊎◌, ℕ, zero, suc, ◌<◌, ◌≤◌, Bool, true, false, List, [], ◌∷◌, ◌++◌, length, Option, Some, None, refl, sym, ap, subst, ◌∙◌, inl, inr, ⊎_elim, cond, set, arith}
use Rattle.std.specs.Prelude.{nat_le, slice_get, slice_index}
use Rattle.std.specs.List.{Contains}
use Rattle.std.proofs.lemmas.Bool.{cases_eq, cases_lt, leb-true, leb-false}
use Rattle.std.proofs.lemmas.List.{get_or-set_same, get_or-set_other, length-set}
use Rattle.std.proofs.lemmas.List.Elements.{Contains-append_cases, Contains-append_left, Contains-append_right}
use Rattle.std.proofs.lemmas.Option.{same_Some, slice_get_within}
use Rattle.bril_tree.specs.Assigned.{assigns_at}
use Rattle.bril_tree.specs.declared.numbered.Instr.{Instr}
use Rattle.bril_tree.specs.Membership.{In}
use Rattle.bril_tree.specs.Operand.{Location, Variable, Shadow, reads_of}
use Rattle.bril_tree.specs.Walk.{IsReached}
use Rattle.bril_tree.proofs.Members.{contains_in, in_contains, in_flat_map, in_flat_map_source, in_map, in_map_source}
use Rattle.flow_graph.specs.Accesses.{Accesses}
use Rattle.flow_graph.specs.declared.reads.Access.{Access}
use Rattle.flow_graph.specs.Location.{number_at, number_of}
use Rattle.flow_graph.specs.Reads.{access_at, item_reads}
use Rattle.flow_graph.proofs.Locations.{assigned-number, number-assigned, number-one}
use Rattle.ssa_search.specs.accesses.Accesses.{AreAccessesBefore, AreBlockAccesses, AssignsFirst, IsLastWrite, exposed_if, exposed_read, exposed_reads, first_write, last_behind}
use Rattle.ssa_search.specs.placing.Blocks.{IsExposed}
use Rattle.ssa_search.specs.placing.Wanted.{Unassigned, head_of, is_label}

-- ---- the last point that assigns a location

pub last-unassigned : (code : List Instr) (a : Location) (bound end from : ℕ) → IsLastWrite code a bound end → end ≤ from → Unassigned code a from bound
last-unassigned code a bound end from l low q after before = l.after q (omega (arith, low, after)) before

pub unassigned-last : (code : List Instr) (a : Location) (bound end from : ℕ) → IsLastWrite code a bound end → Unassigned code a from bound → end ≤ from
unassigned-last code a bound end from l u = ⊎_elim (λ less. absurd (by end refl less)) (λ low. low) (cases_lt from end)
  where
    by : (e : ℕ) → end ≡ e → from < e → ⊥
    by zero is less = omega (arith, less)
    by (suc q) is less = let w = l.within in u q (omega (arith, less)) (omega (arith, w, is)) (l.stands q (sym is))

-- ---- one more point

module _ (code : List Instr) (p : ℕ) (item : Instr) (at : slice_get code p ≡ Some item) (last : List ℕ) where
  -- the array behind the item
  last-behind_own : (x : Option ℕ) (a : Location) → x ≡ Some (number_of a) → number_of a < length last → slice_index (last_behind p last x) (number_of a) ≡ suc p
  last-behind_own None a e low = absurd cc
  last-behind_own (Some y) a e low =
      let same : number_of a ≡ y = sym (same_Some y (number_of a) e) in
      ap (λ n. slice_index (set last y (suc p)) n) same ∙ get_or-set_same last y (suc p) 0 (omega (arith, low, same))

  last-behind_other : (x : Option ℕ) (a : Location) → x ≢ Some (number_of a) → slice_index (last_behind p last x) (number_of a) ≡ slice_index last (number_of a)
  last-behind_other None a d = refl
  last-behind_other (Some y) a d = get_or-set_other last y (number_of a) (suc p) 0 (λ e. d (ap Some (sym e)))

  pub last-behind_length : (x : Option ℕ) → length (last_behind p last x) ≡ length last
  last-behind_length None = refl
  last-behind_length (Some y) = length-set last y (suc p)

  number-or_not : (x y : Option ℕ) → (x ≡ y) ⊎ (x ≡ y → ⊥)
  number-or_not None None = inl refl
  number-or_not None (Some y) = inr (λ e. cc)
  number-or_not (Some x) None = inr (λ e. cc)
  number-or_not (Some x) (Some y) = ⊎_elim (λ e. inl (ap Some e)) (λ d. inr (λ e. d (same_Some x y e))) (cases_eq x y)

  assigns-at_number : (x : Option ℕ) → x ≡ number_at (Some item) → (a : Location) → Contains (assigns_at (slice_get code p)) a → x ≡ Some (number_of a)
  assigns-at_number x is a c = is ∙ assigned-number (Some item) a (subst (λ o. In a (assigns_at o)) at (in_contains a (assigns_at (slice_get code p)) c))

  number-assigns_at : (x : Option ℕ) → x ≡ number_at (Some item) → (a : Location) → x ≡ Some (number_of a) → Contains (assigns_at (slice_get code p)) a
  number-assigns_at x is a e = contains_in a (assigns_at (slice_get code p)) (subst (λ o. In a (assigns_at o)) (sym at) (number-assigned (Some item) a (sym is ∙ e)))

  pub last-more : (x : Option ℕ) → x ≡ number_at (Some item) → (a : Location) → number_of a < length last → IsLastWrite code a p (slice_index last (number_of a)) → IsLastWrite code a (suc p) (slice_index (last_behind p last x) (number_of a))
  last-more x is a low l = ⊎_elim own other (number-or_not x (Some (number_of a)))
    where
      own : x ≡ Some (number_of a) → IsLastWrite code a (suc p) (slice_index (last_behind p last x) (number_of a))
      own e = subst (IsLastWrite code a (suc p)) (sym (last-behind_own x a e low)) (record {
        within = omega arith;
        stands = λ q h. let same : p ≡ q = omega (arith, h) in subst (λ k. Contains (assigns_at (slice_get code k)) a) same (number-assigns_at x is a e);
        after = λ q from less. absurd (omega (arith, from, less));
      })

      other : x ≢ Some (number_of a) → IsLastWrite code a (suc p) (slice_index (last_behind p last x) (number_of a))
      other d = subst (IsLastWrite code a (suc p)) (sym (last-behind_other x a d)) (record {
        within = let w = l.within in omega (arith, w);
        stands = l.stands;
        after = λ q from less c. ⊎_elim
            (λ same. d (assigns-at_number x is a (subst (λ k. Contains (assigns_at (slice_get code k)) a) same c)))
            (λ differs. l.after q from (omega (arith, less, differs)) c)
            (cases_eq q p);
      })

  module _ (exposed firsts : List Access) (before : AreAccessesBefore code p last exposed firsts)
      (reads-within : (a : Location) → In a (reads_of item) → number_of a < length last) where
    abbrev head : ℕ
    head = head_of code p

    -- ---- reads

    record ExposedHere (a : Location) (h : ℕ) : Type 0 where
      is : h ≡ head
      among : In a (reads_of item)
      low : slice_index last (number_of a) ≤ head

    one-read : (b : Bool) (read y : Access) → nat_le (slice_index last read.location) head ≡ b → In y (cond b (record { item = head; location = read.location } ∷ []) []) → (y.item ≡ head) × (y.location ≡ read.location) × (slice_index last read.location ≤ head)
    one-read true read y e (inl s) = (ap (λ (z : Access). z.item) s, ap (λ (z : Access). z.location) s, leb-true (slice_index last read.location) head e)
    one-read true read y e (inr i) = absurd i
    one-read false read y e i = absurd i

    here-only : (a : Location) (h : ℕ) → In {A = Access} (record { item = h; location = number_of a }) (exposed_reads head last (item_reads p item)) → ExposedHere a h
    here-only a h i =
        let y : Access = record { item = h; location = number_of a } in
        let s = in_flat_map_source (exposed_read head last) y (item_reads p item) i in
        let r = in_map_source (access_at p) s.0 (reads_of item) s.1 in
        let o = one-read (nat_le (slice_index last s.0.location) head) s.0 y refl s.2 in
        let number : s.0.location ≡ number_of r.0 = ap (λ (z : Access). z.location) r.2 in
        let same : r.0 ≡ a = number-one r.0 a (sym number ∙ sym o.1) in
        record { is = o.0; among = subst (λ b. In b (reads_of item)) same r.1; low = subst (λ n. slice_index last n ≤ head) (sym o.1) o.2 }

    here-there : (a : Location) → In a (reads_of item) → slice_index last (number_of a) ≤ head → In {A = Access} (record { item = head; location = number_of a }) (exposed_reads head last (item_reads p item))
    here-there a among low =
        in_flat_map (exposed_read head last) (access_at p a) (record { item = head; location = number_of a }) (item_reads p item) (in_map (access_at p) a (reads_of item) among)
        (by (nat_le (slice_index last (number_of a)) head) refl)
      where
        by : (b : Bool) → nat_le (slice_index last (number_of a)) head ≡ b → In {A = Access} (record { item = head; location = number_of a }) (cond (nat_le (slice_index last (number_of a)) head) (record { item = head; location = number_of a } ∷ []) [])
        by true e = subst (λ b. In {A = Access} (record { item = head; location = number_of a }) (cond b (record { item = head; location = number_of a } ∷ []) [])) (sym e) (inl refl)
        by false e = absurd (let n = leb-false (slice_index last (number_of a)) head e in omega (arith, n, low))

    read-unassigned : (a : Location) → In a (reads_of item) → slice_index last (number_of a) ≤ head → Unassigned code a head p
    read-unassigned a among low = last-unassigned code a p (slice_index last (number_of a)) head (before.last_write a (reads-within a among)) low

    module _ (counts : Bool) (reached : counts ≡ true → IsReached code p) (label : counts ≡ true → is_label (slice_get code head) ≡ true)
        (both : IsReached code p → is_label (slice_get code head) ≡ true → counts ≡ true) where
      more-only : (a : Location) (h : ℕ) (b : Bool) → counts ≡ b → In {A = Access} (record { item = h; location = number_of a }) (exposed_if b head last (item_reads p item)) → (x : IsExposed code a h) × (x.point < suc p)
      more-only a h false e i = absurd i
      more-only a h true e i =
          let w = here-only a h i in (
            record {
              label = subst (λ k. is_label (slice_get code k) ≡ true) (sym w.is) (label e);
              point = p;
              item = item;
              head = w.is;
              reached = reached e;
              at = at;
              reads = contains_in a (reads_of item) w.among;
              unassigned = subst (λ k. Unassigned code a k p) (sym w.is) (read-unassigned a w.among w.low);
            },
            omega arith,
          )

      pub exposed-only : (a : Location) (h : ℕ) → Accesses (exposed ++ exposed_if counts head last (item_reads p item)) (number_of a) h → (x : IsExposed code a h) × (x.point < suc p)
      exposed-only a h c = ⊎_elim
          (λ old. let x = before.exposed_only a h old in (x.0, let less = x.1 in omega (arith, less)))
          (λ new. more-only a h counts refl (in_contains _ (exposed_if counts head last (item_reads p item)) new))
          (Contains-append_cases exposed (exposed_if counts head last (item_reads p item)) (record { item = h; location = number_of a }) c)

      more-there : (a : Location) (h : ℕ) (x : IsExposed code a h) → x.point ≡ p → Accesses (exposed ++ exposed_if counts head last (item_reads p item)) (number_of a) h
      more-there a h x e =
          let is : h ≡ head = x.head ∙ ap (head_of code) e in
          let own : x.item ≡ item = same_Some x.item item (sym x.at ∙ ap (slice_get code) e ∙ at) in
          let among : In a (reads_of item) = subst (λ i. In a (reads_of i)) own (in_contains a (reads_of x.item) x.reads) in
          let u : Unassigned code a head p = subst (λ k. Unassigned code a k p) is (subst (Unassigned code a h) e x.unassigned) in
          let low = unassigned-last code a p (slice_index last (number_of a)) head (before.last_write a (reads-within a among)) u in
          let yes : counts ≡ true = both (subst (IsReached code) e x.reached) (subst (λ k. is_label (slice_get code k) ≡ true) is x.label) in
          let there : In {A = Access} (record { item = head; location = number_of a }) (exposed_if counts head last (item_reads p item)) = subst (λ b. In {A = Access} (record { item = head; location = number_of a }) (exposed_if b head last (item_reads p item))) (sym yes) (here-there a among low) in
          subst (λ k. Accesses (exposed ++ exposed_if counts head last (item_reads p item)) (number_of a) k) (sym is)
          (Contains-append_right exposed (exposed_if counts head last (item_reads p item)) (record { item = head; location = number_of a }) (contains_in (record { item = head; location = number_of a }) (exposed_if counts head last (item_reads p item)) there))

      pub exposed-there : (a : Location) (h : ℕ) (x : IsExposed code a h) → x.point < suc p → Accesses (exposed ++ exposed_if counts head last (item_reads p item)) (number_of a) h
      exposed-there a h x less = ⊎_elim
          (more-there a h x)
          (λ differs. Contains-append_left exposed (exposed_if counts head last (item_reads p item)) (record { item = h; location = number_of a }) (before.exposed_there a h x (omega (arith, less, differs))))
          (cases_eq x.point p)

    -- ---- assignments

    module _ (x : Option ℕ) (is : x ≡ number_at (Some item)) (write-within : (a : Location) → In a (assigns_at (Some item)) → number_of a < length last) where
      own-within : (a : Location) → x ≡ Some (number_of a) → number_of a < length last
      own-within a e = write-within a (number-assigned (Some item) a (sym is ∙ e))

      write-only : (a : Location) (q : ℕ) (o : Option ℕ) → x ≡ o → In {A = Access} (record { item = q; location = number_of a }) (first_write p head last o) → AssignsFirst code a q × (q < suc p)
      write-only a q None e i = absurd i
      write-only a q (Some y) e i = by (nat_le (slice_index last y) head) refl i
        where
          by : (b : Bool) → nat_le (slice_index last y) head ≡ b → In {A = Access} (record { item = q; location = number_of a }) (cond b (record { item = p; location = y } ∷ []) []) → AssignsFirst code a q × (q < suc p)
          by true t (inl s) =
              let here : q ≡ p = ap (λ (z : Access). z.item) s in
              let number : number_of a ≡ y = ap (λ (z : Access). z.location) s in
              let own : x ≡ Some (number_of a) = e ∙ ap Some (sym number) in
              let low : slice_index last (number_of a) ≤ head = subst (λ n. slice_index last n ≤ head) (sym number) (leb-true (slice_index last y) head t) in (
                subst (AssignsFirst code a) (sym here) (record {
                  assigns = number-assigns_at x is a own;
                  unassigned = last-unassigned code a p (slice_index last (number_of a)) head (before.last_write a (own-within a own)) low;
                }),
                omega (arith, here),
              )
          by true t (inr n) = absurd n
          by false t i = absurd i

      pub firsts-only : (a : Location) (q : ℕ) → Accesses (firsts ++ first_write p head last x) (number_of a) q → AssignsFirst code a q × (q < suc p)
      firsts-only a q c = ⊎_elim
          (λ old. let f = before.firsts_only a q old in (f.0, let less = f.1 in omega (arith, less)))
          (λ new. write-only a q x refl (in_contains _ (first_write p head last x) new))
          (Contains-append_cases firsts (first_write p head last x) (record { item = q; location = number_of a }) c)

      write-there : (a : Location) (o : Option ℕ) → x ≡ o → o ≡ Some (number_of a) → slice_index last (number_of a) ≤ head → In {A = Access} (record { item = p; location = number_of a }) (first_write p head last o)
      write-there a None e own low = absurd cc
      write-there a (Some y) e own low = by (nat_le (slice_index last y) head) refl
        where
          number : y ≡ number_of a
          number = same_Some y (number_of a) own

          by : (b : Bool) → nat_le (slice_index last y) head ≡ b → In {A = Access} (record { item = p; location = number_of a }) (cond (nat_le (slice_index last y) head) (record { item = p; location = y } ∷ []) [])
          by true t = subst (λ b. In {A = Access} (record { item = p; location = number_of a }) (cond b (record { item = p; location = y } ∷ []) [])) (sym t) (inl (ap (λ n. record { item = p; location = n }) (sym number)))
          by false t = absurd (let n = leb-false (slice_index last y) head t in let m = ap (slice_index last) number in omega (arith, n, low, m))

      pub firsts-there : (a : Location) (q : ℕ) → AssignsFirst code a q → q < suc p → Accesses (firsts ++ first_write p head last x) (number_of a) q
      firsts-there a q f less = ⊎_elim
          (λ same.
          let g : AssignsFirst code a p = subst (AssignsFirst code a) same f in
          let own = assigns-at_number x is a g.assigns in
          let low = unassigned-last code a p (slice_index last (number_of a)) head (before.last_write a (own-within a own)) g.unassigned in
          subst (λ k. Accesses (firsts ++ first_write p head last x) (number_of a) k) (sym same)
          (Contains-append_right firsts (first_write p head last x) (record { item = p; location = number_of a }) (contains_in _ (first_write p head last x) (write-there a x refl own low))))
          (λ differs. Contains-append_left firsts (first_write p head last x) (record { item = q; location = number_of a }) (before.firsts_there a q f (omega (arith, less, differs))))
          (cases_eq q p)

-- ---- all points

pub accesses-more : (code : List Instr) (p : ℕ) (item : Instr) → slice_get code p ≡ Some item → (last : List ℕ) (exposed firsts : List Access) → AreAccessesBefore code p last exposed firsts
    → ((a : Location) → In a (reads_of item) → number_of a < length last) → (counts : Bool) → (counts ≡ true → IsReached code p) → (counts ≡ true → is_label (slice_get code (head_of code p)) ≡ true) → (IsReached code p → is_label (slice_get code (head_of code p)) ≡ true → counts ≡ true)
    → (x : Option ℕ) → x ≡ number_at (Some item) → ((a : Location) → In a (assigns_at (Some item)) → number_of a < length last)
    → AreAccessesBefore code (suc p) (last_behind p last x) (exposed ++ exposed_if counts (head_of code p) last (item_reads p item)) (firsts ++ first_write p (head_of code p) last x)
accesses-more code p item at last exposed firsts before reads counts reached label both x is writes = record {
  last_write = λ a low. let l : number_of a < length last = let s = last-behind_length code p item at last x in omega (arith, low, s) in last-more code p item at last x is a l (before.last_write a l);
  exposed_there = exposed-there code p item at last exposed firsts before reads counts reached label both;
  exposed_only = exposed-only code p item at last exposed firsts before reads counts reached label both;
  firsts_there = firsts-there code p item at last exposed firsts before reads x is writes;
  firsts_only = firsts-only code p item at last exposed firsts before reads x is writes;
}

pub assigned-within : (code : List Instr) (a : Location) (q : ℕ) → Contains (assigns_at (slice_get code q)) a → q < length code
assigned-within code a q c = by (slice_get code q) refl
  where
    by : (o : Option Instr) → slice_get code q ≡ o → q < length code
    by None at = absurd (subst (λ o. In a (assigns_at o)) at (in_contains a (assigns_at (slice_get code q)) c))
    by (Some item) at = slice_get_within code q item at

pub all-accesses : (code : List Instr) (bound : ℕ) (last : List ℕ) (exposed firsts : List Access) → length code ≤ bound → AreAccessesBefore code bound last exposed firsts → AreBlockAccesses code exposed firsts
all-accesses code bound last exposed firsts all b = record {
  exposed = λ a h. ((λ c. (b.exposed_only a h c).0), (λ x. b.exposed_there a h x (let w = slice_get_within code x.point x.item x.at in omega (arith, w, all))));
  firsts = λ a q. ((λ c. (b.firsts_only a q c).0), (λ f. b.firsts_there a q f (let w = assigned-within code a q f.assigns in omega (arith, w, all))));
}

-- each number is that of a location
pub location-of : (n : ℕ) → (a : Location) × (number_of a ≡ n)
location-of zero = (Variable 0, refl)
location-of (suc n) = by (location-of n).0 (location-of n).1
  where
    by : (a : Location) → number_of a ≡ n → (b : Location) × (number_of b ≡ suc n)
    by (Variable x) e = (Shadow x, omega (arith, e))
    by (Shadow x) e = (Variable (suc x), omega (arith, e))
