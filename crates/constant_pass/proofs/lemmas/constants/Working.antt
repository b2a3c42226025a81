-- The work lists: looking at a point, and at a location.
use Rattle.std.proofs.Common.{◌≡◌, ◌⊎◌, ◌↔◌, ℕ, ◌+◌, ◌<◌, Bool, true, false, List, [], ◌∷◌, ◌++◌, Some, None, refl, sym, ap, subst, ◌∙◌, inl, inr, ⊎_elim, arith, true≢false}
use Rattle.std.specs.Prelude.{slice_get, slice_index_or, is_some}
use Rattle.std.specs.List.{Contains}
use Rattle.std.proofs.lemmas.Bool.{cases_eq}
use Rattle.std.proofs.lemmas.Option.{same_Some, get_or_from_slice_get, slice_get_within}
use Rattle.bril_tree.specs.declared.numbered.Instr.{Instr}
use Rattle.bril_tree.specs.declared.numbered_function.Func.{Func}
use Rattle.bril_tree.specs.Assigned.{assigns_of}
use Rattle.bril_tree.specs.Membership.{In}
use Rattle.bril_tree.specs.Operand.{Location, Variable, reads_of}
use Rattle.bril_tree.specs.Shape.{is_shaped, shape_fault_of}
use Rattle.bril_checker.proofs.Positions.{all_pass}
use Rattle.bril_tree.proofs.Assignments.{in_or_not}
use Rattle.bril_tree.proofs.Members.{in_append_cases, in_contains, contains_in}
use Rattle.flow_graph.specs.Location.{number_at, number_of}
use Rattle.flow_graph.specs.Accesses.{Accesses}
use Rattle.flow_graph.specs.Reads.{access_at, reads_from}
use Rattle.flow_graph.specs.declared.reads.Access.{Access}
use Rattle.flow_graph.proofs.Locations.{assigned-number, number-assigned}
use Rattle.flow_graph.proofs.ReadLists.{read-there}
use Rattle.constant_pass.specs.declared.constants.known.Known.{Known}
use Rattle.constant_pass.specs.declared.constants.known.Known.TheVariants.{Nothing, One, Many}
use Rattle.constant_pass.specs.constants.Known.{IsBelow}
use Rattle.constant_pass.specs.constants.Answer.{Knowledge, answer}
use Rattle.constant_pass.specs.constants.Ways.{item_ways}
use Rattle.constant_pass.specs.constants.Consistent.{IsAtMost, IsConsistent, IsLeast, Table}
use Rattle.graph_search.specs.Marks.{is_marked}
use Rattle.constant_pass.specs.constants.Kept.{kept, table_of}
use Rattle.constant_pass.specs.constants.Work.{IsSettled, ReadsRisen, IsWork, Raises, Assigns, Reaches}
use Rattle.constant_pass.proofs.lemmas.constants.Rules.{below-same, below-trans, answer-same, answer-rises, ways-rise, ways-same}

-- ---- what an item assigns

pub assigned-one : (item : Instr) (number : ℕ) (old new : List Known) (risen longer : List ℕ) → number_at (Some item) ≡ Some number → Raises number (answer (kept old) item) old new risen longer → Assigns item old new risen longer
assigned-one item number old new risen longer at r = record {
  others = λ x n. r.others (number_of x) (λ e. n (number-assigned (Some item) x (at ∙ ap Some (sym e))));
  above = λ x i. subst (λ k. IsBelow (answer (kept old) item) (slice_index_or new k Nothing)) (sym (own x i)) r.above;
  grows = λ x. ⊎_elim (λ e. subst (λ k. IsBelow (slice_index_or old k Nothing) (slice_index_or new k Nothing)) (sym e) r.grows) (λ d. below-same (kept old x) (kept new x) (sym (r.others (number_of x) d))) (cases_eq (number_of x) number);
  least = λ x bound i. subst (λ k. IsBelow (slice_index_or old k Nothing) bound → IsBelow (answer (kept old) item) bound → IsBelow (slice_index_or new k Nothing) bound) (sym (own x i)) (r.least bound);
  queued = λ x. ⊎_elim (λ e. ⊎_elim (λ s. inl (ap (λ l. slice_index_or l (number_of x) Nothing) s)) (λ q. inr (subst (λ k. In k longer) (sym e) q)) r.queued) (λ d. inl (r.others (number_of x) d)) (cases_eq (number_of x) number);
  older = r.older;
  less = r.less;
}
  where
    own : (x : Location) → In x (assigns_of item) → number_of x ≡ number
    own x i = same_Some (number_of x) number (sym (assigned-number (Some item) x i) ∙ at)

-- ---- a point

-- all locations are as they were, or one of them rose
unchanged-or-rose : (xs : List Location) (k l : Knowledge) (risen : List ℕ) → ((x : Location) → (l x ≡ k x) ⊎ In (number_of x) risen) → ((x : Location) → In x xs → l x ≡ k x) ⊎ ((x : Location) × In x xs × In (number_of x) risen)
unchanged-or-rose [] k l risen h = inl (λ x i. absurd i)
unchanged-or-rose (y ∷ xs) k l risen h = ⊎_elim (λ e. ⊎_elim (λ all. inl (λ x i. ⊎_elim (λ s. subst (λ z. l z ≡ k z) (sym s) e) (λ j. all x j) i)) (λ r. inr (r.0, inr r.1, r.2)) (unchanged-or-rose xs k l risen h)) (λ q. inr (y, inl refl, q)) (h y)

module _ (f : Func) (shaped : (point : ℕ) (item : Instr) → slice_get f.code point ≡ Some item → is_shaped (is_some f.ret) item ≡ true)
    (old new : List Known) (marks more : List Bool) (points further risen longer left : List ℕ) (point : ℕ) (item : Instr) (at : slice_get f.code point ≡ Some item) (reached : is_marked marks point ≡ true)
    (a : Assigns item old new risen longer) (g : Reaches (item_ways (kept new) f.code point item) marks more points further) (w : IsWork f old marks points risen (point ∷ left)) where
  -- an item whose reads are as they were has its answer and its ways
  module _ (q : ℕ) (other : Instr) (there : slice_get f.code q ≡ Some other) where
    abbrev Turned : Type 0
    Turned = ReadsRisen other longer ⊎ IsSettled new more f.code q other

    risen-or : (((x : Location) → In x (reads_of other) → kept new x ≡ kept old x) → IsSettled new more f.code q other) → Turned
    risen-or h = ⊎_elim (λ all. inr (h all)) (λ r. inl (record { location = r.0; reads = r.1; rose = r.2 })) (unchanged-or-rose (reads_of other) (kept old) (kept new) longer a.queued)

    still : IsSettled old marks f.code q other → Turned
    still s = risen-or (λ all. record {
      assigned = λ x i. subst (λ z. IsBelow z (kept new x)) (sym (answer-same (is_some f.ret) other (shaped q other there) (kept new) (kept old) all)) (below-trans (answer (kept old) other) (kept old x) (kept new x) (s.assigned x i) (a.grows x));
      leads = λ to i. g.grows to (s.leads to (subst (In to) (ways-same (is_some f.ret) (kept new) (kept old) f.code q other (shaped q other there) all) i));
    })

  here : Turned point item at
  here = risen-or point item at (λ all. record {
    assigned = λ x i. subst (λ z. IsBelow z (kept new x)) (sym (answer-same (is_some f.ret) item (shaped point item at) (kept new) (kept old) all)) (a.above x i);
    leads = λ to i. g.there to i;
  })

  settled-now : (q : ℕ) (other : Instr) → slice_get f.code q ≡ Some other → is_marked more q ≡ true → In q further ⊎ (In q left ⊎ (ReadsRisen other longer ⊎ IsSettled new more f.code q other))
  settled-now q other there m = ⊎_elim was (λ n. inl n.1) (g.only q m)
    where
      was : is_marked marks q ≡ true → In q further ⊎ (In q left ⊎ (ReadsRisen other longer ⊎ IsSettled new more f.code q other))
      was e = ⊎_elim (λ i. inl (g.older q i)) (λ r. ⊎_elim lefts (λ t. inr (inr (turned t))) r) (w.settled q other there e)
        where
          lefts : In q (point ∷ left) → In q further ⊎ (In q left ⊎ (ReadsRisen other longer ⊎ IsSettled new more f.code q other))
          lefts (inl s) = inr (inr (subst (λ (o : Instr). ReadsRisen o longer ⊎ IsSettled new more f.code q o) (same_Some item other (sym at ∙ ap (slice_get f.code) (sym s) ∙ there)) (subst (λ n. ReadsRisen item longer ⊎ IsSettled new more f.code n item) (sym s) here)))
          lefts (inr i) = inr (inl i)

          turned : ReadsRisen other risen ⊎ IsSettled old marks f.code q other → ReadsRisen other longer ⊎ IsSettled new more f.code q other
          turned (inl r) = inl (record { location = r.location; reads = r.reads; rose = a.older (number_of r.location) r.rose })
          turned (inr s) = still q other there s

  forced-now : (u : Table) → IsConsistent f.code f.args u → IsAtMost (table_of new more) u
  forced-now u c = record { known = known; reached = marked }
    where
      was : IsAtMost (table_of old marks) u
      was = w.forced u c

      known : (x : Location) → IsBelow (kept new x) (u.known x)
      known x = ⊎_elim
          (λ i. a.least x (u.known x) i (was.known x)
          (below-trans (answer (kept old) item) (answer u.known item) (u.known x) (answer-rises (is_some f.ret) item (shaped point item at) (kept old) u.known (λ y j. was.known y)) (c.assigned point item at (was.reached point reached) x i)))
          (λ n. subst (λ k. IsBelow k (u.known x)) (sym (a.others x n)) (was.known x)) (in_or_not x (assigns_of item))

      marked : (q : ℕ) → is_marked more q ≡ true → u.reached q ≡ true
      marked q m = ⊎_elim (λ e. was.reached q e) (λ i. c.leads point item at (was.reached point reached) q (ways-rise (kept new) u.known f.code point item q known i.0)) (g.only q m)

  pub visited : IsWork f new more further longer left
  visited = record {
    forced = forced-now;
    arguments = λ x low. ⊎_elim (λ e. e) (λ e. e) (arguments' x low);
    start = g.grows 0 w.start;
    settled = settled-now;
  }
    where
      arguments' : (x : ℕ) → x < f.args → (kept new (Variable x) ≡ Many) ⊎ (kept new (Variable x) ≡ Many)
      arguments' x low = inl (many-stays (kept new (Variable x)) (subst (λ k. IsBelow k (kept new (Variable x))) (w.arguments x low) (a.grows (Variable x))))
        where
          many-stays : (k : Known) → IsBelow Many k → k ≡ Many
          many-stays Nothing h = absurd h
          many-stays (One v) h = absurd h
          many-stays Many h = refl

-- each item has its shape
pub shaped-at : (ret : Bool) (code : List Instr) → shape_fault_of ret code ≡ None → (p : ℕ) (item : Instr) → slice_get code p ≡ Some item → is_shaped ret item ≡ true
shaped-at ret code shaped p item at = subst (λ (a : Instr). is_shaped ret a ≡ true) (get_or_from_slice_get code p item item at) (all_pass (is_shaped ret) code (sym shaped) p item (slice_get_within code p item at))

-- the same by what the two calls change
pub visited-by : (f : Func) → shape_fault_of (is_some f.ret) f.code ≡ None → (k0 k1 k2 : List Known) (m0 m1 m2 : List Bool) (p0 p1 p2 r0 r1 r2 left : List ℕ) (point : ℕ) (item : Instr) → slice_get f.code point ≡ Some item → is_marked m0 point ≡ true
    → k2 ≡ k1 → r2 ≡ r1 → m1 ≡ m0 → p1 ≡ p0 → Assigns item k0 k1 r0 r1 → Reaches (item_ways (kept k1) f.code point item) m1 m2 p1 p2 → IsWork f k0 m0 p0 r0 (point ∷ left) → IsWork f k2 m2 p2 r2 left
visited-by f shaped k0 k1 k2 m0 m1 m2 p0 p1 p2 r0 r1 r2 left point item at reached ek er em ep a g w =
    subst (λ k. IsWork f k m2 p2 r2 left) (sym ek) (subst (λ r. IsWork f k1 m2 p2 r left) (sym er)
    (visited f (λ p item at. shaped-at (is_some f.ret) f.code shaped p item at) k0 k1 m0 m2 p0 p2 r0 r1 left point item at reached a
    (subst (λ m. Reaches (item_ways (kept k1) f.code point item) m m2 p0 p2) em (subst (λ p. Reaches (item_ways (kept k1) f.code point item) m1 m2 p p2) ep g)) w))

-- a point that isn't reached, or the end, needs no look
module _ (f : Func) (known : List Known) (marks : List Bool) (points risen left : List ℕ) (point : ℕ) (w : IsWork f known marks points risen (point ∷ left)) where
  passed-over : ((item : Instr) → slice_get f.code point ≡ Some item → is_marked marks point ≡ true → ⊥) → IsWork f known marks points risen left
  passed-over none = record {
    forced = w.forced;
    arguments = w.arguments;
    start = w.start;
    settled = λ q item at m. ⊎_elim inl (λ r. inr (⊎_elim (λ i. rest q item at m i) inr r)) (w.settled q item at m);
  }
    where
      rest : (q : ℕ) (item : Instr) → slice_get f.code q ≡ Some item → is_marked marks q ≡ true → In q (point ∷ left) → In q left ⊎ (ReadsRisen item risen ⊎ IsSettled known marks f.code q item)
      rest q item at m (inl e) = absurd (none item (ap (slice_get f.code) (sym e) ∙ at) (ap (is_marked marks) (sym e) ∙ m))
      rest q item at m (inr i) = inl i

  pub unreached-passed : is_marked marks point ≡ false → IsWork f known marks points risen left
  unreached-passed e = passed-over (λ item at m. true≢false (sym m ∙ e))

  pub end-passed : slice_get f.code point ≡ None → IsWork f known marks points risen left
  end-passed e = passed-over (λ item at m. let n : None ≡ Some item = sym e ∙ at in cc)

-- ---- the lists

-- a point that is taken off its list is left to be looked at
pub point-taken : (f : Func) (known : List Known) (marks : List Bool) (points shorter risen : List ℕ) (point : ℕ) → points ≡ shorter ++ point ∷ [] → IsWork f known marks points risen [] → IsWork f known marks shorter risen (point ∷ [])
point-taken f known marks points shorter risen point is w = record {
  forced = w.forced;
  arguments = w.arguments;
  start = w.start;
  settled = λ q item at m. ⊎_elim (λ i. ⊎_elim inl (λ j. inr (inl j)) (in_append_cases q shorter (point ∷ []) (subst (In q) is i))) (λ r. inr (⊎_elim (λ i. absurd i) inr r)) (w.settled q item at m);
}

-- a location that is taken off its list leaves the items that read it
pub location-taken : (f : Func) (known : List Known) (marks : List Bool) (points risen : List ℕ) (number : ℕ) (list : List Access) (items : List ℕ) → list ≡ reads_from 0 f.code → ((item : ℕ) → Contains items item ↔ Accesses list number item)
    → IsWork f known marks points (risen ++ number ∷ []) [] → IsWork f known marks points risen items
location-taken f known marks points risen number list items same exact w = record {
  forced = w.forced;
  arguments = w.arguments;
  start = w.start;
  settled = λ q item at m. ⊎_elim inl (λ r. inr (⊎_elim (λ i. absurd i) (λ t. ⊎_elim (read q item at) (λ s. inr (inr s)) t) r)) (w.settled q item at m);
}
  where
    read : (q : ℕ) (item : Instr) → slice_get f.code q ≡ Some item → ReadsRisen item (risen ++ number ∷ []) → In q items ⊎ (ReadsRisen item risen ⊎ IsSettled known marks f.code q item)
    read q item at r = ⊎_elim (λ i. inr (inl (record { location = r.location; reads = r.reads; rose = i }))) (λ i. inl (here (only i))) (in_append_cases (number_of r.location) risen (number ∷ []) r.rose)
      where
        only : In (number_of r.location) (number ∷ []) → number_of r.location ≡ number
        only (inl e) = e
        only (inr i) = absurd i

        here : number_of r.location ≡ number → In q items
        here e = in_contains q items ((exact q).1 (subst (λ n. Accesses list n q) e (subst (λ l. Accesses l (number_of r.location) q) (sym same) (contains_in (access_at q r.location) (reads_from 0 f.code) listed))))
          where
            listed : In (access_at q r.location) (reads_from 0 f.code)
            listed = let z : 0 + q ≡ q = omega arith in subst (λ n. In (access_at n r.location) (reads_from 0 f.code)) z (read-there 0 f.code q item r.location at r.reads)

-- nothing is left: the table is the least
pub all-settled : (f : Func) (known : List Known) (marks : List Bool) → IsWork f known marks [] [] [] → IsLeast f.code f.args (table_of known marks)
all-settled f known marks w = record {
  consistent = record {
    start = w.start;
    arguments = w.arguments;
    assigned = λ p item at m. (now p item at m).assigned;
    leads = λ p item at m. (now p item at m).leads;
  };
  least = w.forced;
}
  where
    now : (p : ℕ) (item : Instr) → slice_get f.code p ≡ Some item → is_marked marks p ≡ true → IsSettled known marks f.code p item
    now p item at m = ⊎_elim (λ i. absurd i) (λ r. ⊎_elim (λ i. absurd i) (λ t. ⊎_elim (λ s. absurd s.rose) (λ s. s) t) r) (w.settled p item at m)
