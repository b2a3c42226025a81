-- The numbers of a tidied program: none is greater than the program's, but for one label more that may be entered from a
-- leave point.
use Rattle.std.proofs.Common.{◌≡◌, ◌⊎◌, ℕ, zero, suc, ◌+◌, ◌<◌, Bool, true, false, List, [], ◌∷◌, length, Option, Some, None, refl, sym, ap, subst, ◌∙◌, inl, inr, ⊎_elim, arith, true≢false}
use Rattle.std.specs.Prelude.{slice_get}
use Rattle.std.specs.List.{Contains}
use Rattle.std.proofs.lemmas.Option.{same_Some, slice_get_within}
use Rattle.bril_tree.specs.declared.edge.Edge.{Edge}
use Rattle.bril_tree.specs.declared.numbered.Instr.{Instr}
use Rattle.bril_tree.specs.declared.numbered.Instr.TheVariants.{Label}
use Rattle.bril_tree.specs.declared.numbered_function.Func.{Func}
use Rattle.bril_tree.specs.declared.program.Prog.{Prog}
use Rattle.bril_tree.specs.Accepted.{IsAccepted}
use Rattle.bril_tree.specs.Edge.{Branch, branches_at, branches_from, onward}
use Rattle.program_numbers.specs.Entries.{Enters}
use Rattle.bril_tree.specs.Leaving.{IsEdge, leave_of}
use Rattle.bril_tree.specs.Membership.{In}
use Rattle.bril_tree.specs.Numbered.{named, tree_at}
use Rattle.bril_tree.specs.Sites.{sites_of}
use Rattle.bril_tree.specs.Step.{code_of, item_at, items_of}
use Rattle.bril_tree.specs.Walk.{IsReached, IsWalk, end_of}
use Rattle.bril_tree.proofs.Members.{contains_in, in_contains}
use Rattle.pass_edit_laws.proofs.lemmas.acceptance.Heads.{start_matched}
use Rattle.pass_edit_laws.specs.walks.Matched.{MatchesWalks}
use Rattle.pass_edit_laws.proofs.lemmas.names.Points.{found}
use Rattle.pass_edit_laws.specs.numbers.Numbers.{FunctionWithin, NumbersWithin}
use Rattle.pass_edit_laws.proofs.lemmas.walks.Accepting.{matched}
use Rattle.pass_edit_laws.proofs.lemmas.numbers.Edges.{edge-back, edge-leaves, label-back, lands}
use Rattle.pass_edit_laws.proofs.lemmas.numbers.Entering.{EntryMatched, LeaveMatched, fewer-entries, point_before, point_before-one, width-within}
use Rattle.pass_edit_laws.proofs.lemmas.numbers.Existing.{one_label}
use Rattle.pass_edit_laws.proofs.lemmas.numbers.Items.{IsOfItems, items-back, unchanged}
use Rattle.pass_edit_laws.proofs.lemmas.numbers.Programs.{by-functions, function-within, functions_bound}
use Rattle.tidy_code.proofs.Accepted.{old-item}
use Rattle.tidy_code.proofs.Kept.{count-dropped, count-kept}
use Rattle.tidy_code.proofs.Points.{kept_count, Tidied}
use Rattle.tidy_code.proofs.Refines.{keeps, kept_label, nop-goes_on, preserves, tidy_plan, tidying}
use Rattle.tidy_code.proofs.Walks.{drawn, matched_walks, nth-count, nth_kept}

-- one label more
abbrev one_more : List ℕ
one_more = 0 ∷ []

module _ (P Q : Prog) (keep : ℕ → ℕ → Bool) (accepted : IsAccepted P) (accepted_q : IsAccepted Q) (t : Tidied P keep Q) (f : ℕ) (F G : Func) (p : slice_get P.funcs f ≡ Some F) (q : slice_get Q.funcs f ≡ Some G) where
  abbrev count : ℕ → ℕ
  count i = kept_count (keep f) 0 i

  here : code_of P f ≡ F.code
  here = ap items_of p

  there : code_of Q f ≡ G.code
  there = ap items_of q

  abbrev Regular : ℕ → Type 0
  Regular i = (keep f i ≡ true) ⊎ (item_at P f i ≡ None)

  walks : MatchesWalks (tidy_plan P Q keep t) P Q f F.args G.args
  walks = matched_walks P Q keep accepted t f F.args G.args (start_matched P Q t.heads f F G p q (tidying P Q keep t) refl)

  -- where a regular point of P is reached, Q has its item at the count
  same-item : (i : ℕ) → IsReached (code_of P f) i → Regular i → tree_at P f i ≡ tree_at Q f (count i)
  same-item i reached regular = (keeps P Q keep t).same f i (count i) reached refl regular

  -- ---- a walk is drawn on past what is dropped

  -- the item at the point is dropped, and a walk leads to it
  record Dropped (i : ℕ) : Type 0 where
    walk : List Branch
    is : IsWalk (code_of P f) walk
    ends : end_of walk ≡ i
    item : Instr
    at : item_at P f i ≡ Some item
    falls : keep f i ≡ false

  record Arrives (first : ℕ) : Type 0 where
    point : ℕ
    reached : IsReached (code_of P f) point
    stays : Regular point
    same : count point ≡ count first
    how : (point ≡ first) ⊎ ((keep f first ≡ false) × ((i : ℕ) × Dropped i × (point ≡ suc i) × (count i ≡ count first)))

  on-edge : (i : ℕ) → (d : Dropped i) → In (onward i) (branches_at (code_of P f) i)
  on-edge i d =
      let on = nop-goes_on d.item (t.dropped f i d.item d.at d.falls (record { walk = d.walk; is = d.is; ends = d.ends })) in
      subst (λ o. In (onward i) (branches_from (code_of P f) i o)) (sym d.at) (subst (In (onward i)) (sym (on.branches (code_of P f) i)) (inl refl))

  count-past : (i : ℕ) → keep f i ≡ false → count (suc i) ≡ count i
  count-past i e = count-dropped (keep f) 0 i (let z : 0 + i ≡ i = omega arith in ap (keep f) z ∙ e)

  walk-past : (i : ℕ) (d : Dropped i) → IsWalk (code_of P f) (onward i ∷ d.walk)
  walk-past i d = (subst (λ k. Contains (branches_at (code_of P f) k) (onward i)) (sym d.ends) (contains_in (onward i) (branches_at (code_of P f) i) (on-edge i d)), d.is)

  -- from a point after a dropped one
  arrive-past : (fuel first i : ℕ) (d : Dropped i) → keep f first ≡ false → count i ≡ count first → length (code_of P f) < fuel + suc i → Arrives first
  arrive-past zero first i d falls same enough = absurd (let low = slice_get_within (code_of P f) i d.item d.at in omega arith)
  arrive-past (suc fuel) first i d falls same enough =
      by (item_at P f (suc i)) (keep f (suc i)) refl refl (λ e. arrive-past fuel first (suc i) e falls (count-past i d.falls ∙ same) (omega arith))
    where
      done : Regular (suc i) → Arrives first
      done stays = record { point = suc i; reached = record { walk = onward i ∷ d.walk; is = walk-past i d; ends = refl }; stays = stays; same = count-past i d.falls ∙ same; how = inr (falls, (i, d, refl, same)) }

      by : (o : Option Instr) (b : Bool) → item_at P f (suc i) ≡ o → keep f (suc i) ≡ b → (Dropped (suc i) → Arrives first) → Arrives first
      by None b at e rest = done (inr at)
      by (Some a) true at e rest = done (inl e)
      by (Some a) false at e rest = rest (record { walk = onward i ∷ d.walk; is = walk-past i d; ends = refl; item = a; at = at; falls = e })

  arrive : (w : List Branch) → IsWalk (code_of P f) w → Arrives (end_of w)
  arrive w is = by (item_at P f (end_of w)) (keep f (end_of w)) refl refl
    where
      done : Regular (end_of w) → Arrives (end_of w)
      done stays = record { point = end_of w; reached = record { walk = w; is = is; ends = refl }; stays = stays; same = refl; how = inl refl }

      by : (o : Option Instr) (b : Bool) → item_at P f (end_of w) ≡ o → keep f (end_of w) ≡ b → Arrives (end_of w)
      by None b at e = done (inr at)
      by (Some a) true at e = done (inl e)
      by (Some a) false at e = arrive-past (length (code_of P f)) (end_of w) (end_of w) (record { walk = w; is = is; ends = refl; item = a; at = at; falls = e }) e refl (omega arith)

  -- ---- entries

  -- the leave point of P for one of Q, from which the label is entered
  abbrev Leaves : Option ℕ → ℕ → Option ℕ → Type 0
  Leaves leave label None = leave ≡ None
  Leaves leave label (Some i) = ((keep f i ≡ true) × (leave ≡ Some (count i))) ⊎ ((keep f i ≡ false) × (leave ≡ point_before (count i)) × (slice_get G.code (count i) ≡ Some (Label label)))

  one-leave : (a c b : Option ℕ) (l k : ℕ) → Leaves a l b → Leaves c k b → a ≡ c
  one-leave a c None l k r s = r ∙ sym s
  one-leave a c (Some i) l k (inl r) (inl s) = r.1 ∙ sym s.1
  one-leave a c (Some i) l k (inl r) (inr s) = absurd (true≢false (sym r.0 ∙ s.0))
  one-leave a c (Some i) l k (inr r) (inl s) = absurd (true≢false (sym s.0 ∙ r.0))
  one-leave a c (Some i) l k (inr r) (inr s) = r.1 ∙ sym s.1

  label-there : (a : ℕ) → (r : Arrives a) → (l : ℕ) → slice_get G.code (count a) ≡ Some (Label l) → (m : ℕ) × (slice_get F.code r.point ≡ Some (Label m)) × (named F.labels m ≡ named G.labels l)
  label-there a r l at = label-back P Q f F G p q r.point (count r.point) l (same-item r.point r.reached r.stays) (ap (slice_get G.code) r.same ∙ at)

  -- from a dropped item on
  through : (a : ℕ) (r : Arrives a) (leave : Option ℕ) (l : ℕ) → slice_get G.code (count a) ≡ Some (Label l) → leave ≡ point_before (count a) → (i : ℕ) → Dropped i → r.point ≡ suc i → count i ≡ count a → EntryMatched F G Leaves leave l
  through a r leave l at is i d next same =
      let m = label-there a r l at in
      let edge : Edge = record { from = i; leave = i; to = suc i } in
      let is_edge : IsEdge (code_of P f) edge = record { walk = d.walk; is = d.is; branch = onward i; at = subst (λ k. Contains (branches_at (code_of P f) k) (onward i)) (sym d.ends) (contains_in (onward i) (branches_at (code_of P f) i) (on-edge i d)); are = refl } in
      record {
        from = Some i;
        to = m.0;
        enters = (edge, subst (λ c. IsEdge c edge) here is_edge, refl, ap (slice_get F.code) (sym next) ∙ m.1);
        leaves = inr (d.falls, is ∙ ap point_before (sym same), ap (slice_get G.code) same ∙ at);
        same = m.2;
      }

  entry-first : (l : ℕ) → slice_get G.code 0 ≡ Some (Label l) → EntryMatched F G Leaves None l
  entry-first l at = by (arrive [] tt)
    where
      by : Arrives 0 → EntryMatched F G Leaves None l
      by r = ⊎_elim direct (λ h. through 0 r None l at refl h.1.0 h.1.1 h.1.2 h.1.3) r.how
        where
          direct : r.point ≡ 0 → EntryMatched F G Leaves None l
          direct same = let m = label-there 0 r l at in record { from = None; to = m.0; enters = ap (slice_get F.code) (sym same) ∙ m.1; leaves = refl; same = m.2 }

  -- an edge of P that goes to where the count is the label's point
  entry-edge : (edge : Edge) → (is : IsEdge (code_of P f) edge) → (leave l : ℕ) → leave ≡ count edge.leave → Regular edge.leave → slice_get G.code (count edge.to) ≡ Some (Label l) → EntryMatched F G Leaves (Some leave) l
  entry-edge edge is leave l leaves regular at = by (arrive (is.branch ∷ is.walk) (is.at, is.is))
    where
      goes : edge.to ≡ is.branch.to
      goes = ap (λ (e : Edge). e.to) is.are

      kept : keep f edge.leave ≡ true
      kept = ⊎_elim (λ e. e) (λ n. absurd (let s = edge-leaves (code_of P f) edge is in let h : None ≡ Some s.0 = sym n ∙ s.1 in cc)) regular

      at_branch : slice_get G.code (count is.branch.to) ≡ Some (Label l)
      at_branch = ap (λ n. slice_get G.code (count n)) (sym goes) ∙ at

      by : Arrives is.branch.to → EntryMatched F G Leaves (Some leave) l
      by r = ⊎_elim direct (λ h. past h.0 h.1.0 h.1.1 h.1.2 h.1.3) r.how
        where
          direct : r.point ≡ is.branch.to → EntryMatched F G Leaves (Some leave) l
          direct same =
              let m = label-there is.branch.to r l at_branch in
              record {
                from = Some edge.leave;
                to = m.0;
                enters = (edge, subst (λ c. IsEdge c edge) here is, refl, ap (slice_get F.code) (goes ∙ sym same) ∙ m.1);
                leaves = inl (kept, ap Some leaves);
                same = m.2;
              }

          past : keep f is.branch.to ≡ false → (i : ℕ) → Dropped i → r.point ≡ suc i → count i ≡ count is.branch.to → EntryMatched F G Leaves (Some leave) l
          past falls i d next same = ⊎_elim on label (lands F (end_of is.walk) is.branch (subst (λ c. In is.branch (branches_at c (end_of is.walk))) here (in_contains is.branch (branches_at (code_of P f) (end_of is.walk)) is.at)))
            where
              on : is.branch ≡ onward (end_of is.walk) → EntryMatched F G Leaves (Some leave) l
              on e =
                  let from : edge.leave ≡ end_of is.walk = ap (λ (d : Edge). d.leave) is.are ∙ ap (λ (b : Branch). leave_of b.aborts b.from (sites_of (code_of P f) is.walk)) e in
                  let next_count : count is.branch.to ≡ suc leave = ap (λ (b : Branch). count b.to) e ∙ ap (λ n. count (suc n)) (sym from) ∙ count-kept (keep f) 0 edge.leave (let z : 0 + edge.leave ≡ edge.leave = omega arith in ap (keep f) z ∙ kept) ∙ ap suc (sym leaves) in
                  through is.branch.to r (Some leave) l at_branch (sym (ap point_before next_count)) i d next same

              label : (k : ℕ) × (slice_get F.code is.branch.to ≡ Some (Label k)) → EntryMatched F G Leaves (Some leave) l
              label k =
                  let tree = found P f is.branch.to (Label k.0) (ap (λ c. slice_get c is.branch.to) here ∙ k.1) in
                  let stays = kept_label P Q keep t f is.branch.to _ (record { walk = is.branch ∷ is.walk; is = (is.at, is.is); ends = refl }) tree.tree in
                  absurd (true≢false (sym stays ∙ falls))

  entry : (leave : Option ℕ) (label : ℕ) → Enters G.code leave label → EntryMatched F G Leaves leave label
  entry None l at = entry-first l at
  entry (Some point) l e =
      let edge : IsEdge (code_of Q f) e.0 = subst (λ c. IsEdge c e.0) (sym there) e.1 in
      let d = drawn P Q keep accepted t f F.args G.args edge.walk (matched (tidy_plan P Q keep t) P Q f F.args G.args walks edge.walk edge.is) in
      let back = edge-back (tidy_plan P Q keep t) P Q f F.args G.args (preserves P Q keep t accepted) edge.walk edge.branch (record { walk = d.matched.walk; matches = d.matched.matches; regular = d.stays }) (in_contains edge.branch (branches_at (code_of Q f) (end_of edge.walk)) edge.at) in
      let leaves : point ≡ count back.edge.leave = sym e.2 ∙ ap (λ (d : Edge). d.leave) edge.are ∙ back.leaves.0 in
      let to : e.0.to ≡ count back.edge.to = ap (λ (d : Edge). d.to) edge.are ∙ back.points in
      entry-edge back.edge back.is point l leaves back.leaves.1 (ap (slice_get G.code) (sym to) ∙ e.3)

  -- ---- the labels that are entered from one leave point

  leave-matched : (leave : Option ℕ) → LeaveMatched F G ℕ one_more leave
  leave-matched None = record {
    from = None;
    IsExtra = λ l x. slice_get G.code 0 ≡ Some (Label l);
    one = λ l k x low high r s. one_label (slice_get G.code 0) l k r s;
    labels = λ l h. inl (0, inl refl, h);
  }
  leave-matched (Some point) = record {
    from = Some place;
    IsExtra = λ l x. slice_get G.code (suc point) ≡ Some (Label l);
    one = λ l k x low high r s. one_label (slice_get G.code (suc point)) l k r s;
    labels = λ l h. by l (entry (Some point) l h);
  }
    where
      place : ℕ
      place = nth_kept (keep f) (length (code_of P f)) 0 point

      by : (l : ℕ) → EntryMatched F G Leaves (Some point) l → ((x : ℕ) × In x one_more × (slice_get G.code (suc point) ≡ Some (Label l))) ⊎ ((m : ℕ) × Enters F.code (Some place) m × (named F.labels m ≡ named G.labels l))
      by l e = from e.from e.enters e.leaves
        where
          from : (o : Option ℕ) → Enters F.code o e.to → Leaves (Some point) l o → ((x : ℕ) × In x one_more × (slice_get G.code (suc point) ≡ Some (Label l))) ⊎ ((m : ℕ) × Enters F.code (Some place) m × (named F.labels m ≡ named G.labels l))
          from None enters leaves = absurd (let n : Some point ≡ None = leaves in cc)
          from (Some i) enters (inr r) = inl (0, inl refl, ap (slice_get G.code) (sym (point_before-one (count i) point r.1)) ∙ r.2)
          from (Some i) enters (inl r) =
              let s = edge-leaves F.code enters.0 enters.1 in
              let low : i < length (code_of P f) = subst (λ n. n < length (code_of P f)) enters.2 (subst (λ c. enters.0.leave < length c) (sym here) (slice_get_within F.code enters.0.leave s.0 s.1)) in
              let z : 0 + i ≡ i = omega arith in
              let same : place ≡ i = ap (nth_kept (keep f) (length (code_of P f)) 0) (same_Some point (count i) r.1) ∙ nth-count (keep f) (length (code_of P f)) 0 i (omega arith) (inl (ap (keep f) z ∙ r.0)) ∙ z in
              inr (e.to, subst (λ n. Enters F.code (Some n) e.to) (sym same) enters, e.same)

  -- ---- the numbers of a function

  of_items : IsOfItems unchanged [] F G
  of_items =
      items-back P Q f F G p q (t.heads.args f F G p q)
      (λ j b at. let o = old-item P Q keep accepted t f F G p q j b (ap (λ c. slice_get c j) there ∙ at) in inr (o.i, sym o.tree))

  function_within : FunctionWithin 1 F G
  function_within = function-within (tidy_plan P Q keep t) unchanged P Q accepted_q f F G p q walks of_items 1 (fewer-entries F G Leaves entry one-leave) (width-within F G ℕ one_more leave-matched)

pub numbers-within : (P Q : Prog) (keep : ℕ → ℕ → Bool) → IsAccepted P → IsAccepted Q → Tidied P keep Q → NumbersWithin P Q 1
numbers-within P Q keep accepted accepted_q t = functions_bound P Q 1 accepted (by-functions P Q t.heads.names (FunctionWithin 1) (λ f F G p q. function_within P Q keep accepted accepted_q t f F G p q))
