-- The work list from its start to its end.
use Rattle.std.proofs.Common.{◌≡◌, ◌⊎◌, ℕ, zero, suc, ◌+◌, ◌<◌, ◌≤◌, Bool, true, false, List, [], ◌∷◌, ◌++◌, length, map, get_or, set, Option, Some, None, refl, sym, ap, subst, ◌∙◌, inl, inr, ⊎_elim, arith, true≢false}
use Rattle.std.specs.Prelude.{slice_get, is_some}
use Rattle.std.specs.List.{All, Contains}
use Rattle.std.specs.Option.{option_to_list}
use Rattle.std.proofs.lemmas.Bool.{cases_Bool, cases_lt}
use Rattle.std.proofs.lemmas.List.{get_or_past, length-append}
use Rattle.std.proofs.lemmas.Option.{same_Some, slice_get_within}
use Rattle.bril_tree.specs.declared.numbered.Instr.{Instr}
use Rattle.bril_tree.specs.declared.numbered.Instr.TheVariants.{Label, Const, Act}
use Rattle.bril_tree.specs.declared.operation.Op.{Op}
use Rattle.bril_tree.specs.declared.operation.Op.TheVariants as op
use Rattle.bril_tree.specs.Assigned.{assigns_of}
use Rattle.bril_tree.specs.FunctionForm.{listed}
use Rattle.bril_tree.specs.Live.{IsLive}
use Rattle.bril_tree.specs.Membership.{In}
use Rattle.bril_tree.specs.Numbered.{nop}
use Rattle.bril_tree.specs.Operand.{Location, Variable}
use Rattle.bril_tree.specs.Shape.{is_shaped, fits_shape, shape_of}
use Rattle.bril_tree.specs.Walk.{IsReached}
use Rattle.bril_tree.proofs.Members.{in_contains, contains_in, in_append_left, in_append_right, in_append_cases}
use Rattle.bril_tree.proofs.Shapes.{dest_there}
use Rattle.flow_graph.specs.Location.{location_at, number_of}
use Rattle.flow_graph.specs.Accesses.{Accesses}
use Rattle.flow_graph.specs.Reads.{access_at}
use Rattle.flow_graph.specs.declared.reads.Access.{Access}
use Rattle.flow_graph.proofs.Locations.{assigned-location, location-assigned}
use Rattle.dead_code.specs.Emptied.{IsCleared, WereRemovable, emptied}
use Rattle.pass_edit_laws.specs.plan.Marked.{with_nops}
use Rattle.dead_code.specs.Removable.{is_computation, is_silent, only_computes, IsUnused, IsIdle, IsRemovable}
use Rattle.graph_search.specs.Marks.{is_marked}
use Rattle.dead_code.specs.Work.{IsSearched, IsSettled, IsSound, IsWork, NoneIdle, assignment_if, assignments_from, remaining}
use Rattle.dead_code.proofs.Chain.{Chain, chain, still_reached, was_reached}
use Rattle.pass_edit_laws.proofs.lemmas.plan.Marked.{with_nops-alive, with_nops-dead, length-with_nops, nops-true, nops-false, nops-before}
use Rattle.dead_code.proofs.Step.{set-here}
use Rattle.dead_code.proofs.Working.{computation-reached, next-reached, remaining-chain}

-- ---- the assignments of computations

one-there : (b : Bool) (k : ℕ) (item : Instr) (x : Location) → b ≡ true → location_at (Some item) ≡ Some x → In (access_at k x) (assignment_if b k item)
one-there true k item x e at = subst (λ o. In (access_at k x) (map (access_at k) (option_to_list o))) (sym at) (inl refl)
one-there false k item x e at = absurd cc

assigned-from : (first : ℕ) (code : List Instr) (k : ℕ) (item : Instr) (x : Location) → slice_get code k ≡ Some item → is_computation item ≡ true → location_at (Some item) ≡ Some x → In (access_at (first + k) x) (assignments_from first code)
assigned-from first [] k item x at c l = absurd (let n : None ≡ Some item = at in cc)
assigned-from first (a ∷ code) zero item x at c l =
    let z : first + zero ≡ first = omega arith in
    let same : item ≡ a = sym (same_Some a item at) in
    in_append_left _ (assignment_if (is_computation a) first a) (assignments_from (suc first) code) (subst (λ n. In (access_at n x) (assignment_if (is_computation a) first a)) (sym z) (one-there (is_computation a) first a x (ap is_computation (sym same) ∙ c) (ap (λ (i : Instr). location_at (Some i)) (sym same) ∙ l)))
assigned-from first (a ∷ code) (suc k) item x at c l =
    let z : suc first + k ≡ first + suc k = omega arith in
    in_append_right _ (assignment_if (is_computation a) first a) (assignments_from (suc first) code) (subst (λ n. In (access_at n x) (assignments_from (suc first) code)) z (assigned-from (suc first) code k item x at c l))

-- an assignment of the list is that of a computation
record AssignedBy (first : ℕ) (code : List Instr) (access : Access) : Type 0 where
  k : ℕ
  item : Instr
  at : slice_get code k ≡ Some item
  computes : is_computation item ≡ true
  x : Location
  assigns : location_at (Some item) ≡ Some x
  is : access ≡ access_at (first + k) x

one-by : (first : ℕ) (a : Instr) (code : List Instr) (access : Access) (b : Bool) → is_computation a ≡ b → (o : Option Location) → location_at (Some a) ≡ o → In access (assignment_if b first a) → AssignedBy first (a ∷ code) access
one-by first a code access true e None l i = absurd (subst (λ o. In access (map (access_at first) (option_to_list o))) l i)
one-by first a code access true e (Some x) l i = by (subst (λ o. In access (map (access_at first) (option_to_list o))) l i)
  where
    by : In access (access_at first x ∷ []) → AssignedBy first (a ∷ code) access
    by (inl same) = let z : first ≡ first + 0 = omega arith in record { k = 0; item = a; at = refl; computes = e; x = x; assigns = l; is = same ∙ ap (λ n. access_at n x) z }
    by (inr n) = absurd n
one-by first a code access false e o l i = absurd i

assigned_by : (first : ℕ) (code : List Instr) (access : Access) → In access (assignments_from first code) → AssignedBy first code access
assigned_by first [] access i = absurd i
assigned_by first (a ∷ code) access i = ⊎_elim (λ h. one-by first a code access (is_computation a) refl (location_at (Some a)) refl h) (λ h. later (assigned_by (suc first) code access h)) (in_append_cases access (assignment_if (is_computation a) first a) (assignments_from (suc first) code) i)
  where
    later : AssignedBy (suc first) code access → AssignedBy first (a ∷ code) access
    later r = let z : suc first + r.k ≡ first + suc r.k = omega arith in record { k = suc r.k; item = r.item; at = r.at; computes = r.computes; x = r.x; assigns = r.assigns; is = r.is ∙ ap (λ n. access_at n r.x) z }

pub assigned-there : (code : List Instr) (k : ℕ) (item : Instr) (x : Location) → slice_get code k ≡ Some item → is_computation item ≡ true → In x (assigns_of item) → Accesses (assignments_from 0 code) (number_of x) k
assigned-there code k item x at c i =
    let z : 0 + k ≡ k = omega arith in
    contains_in _ (assignments_from 0 code) (subst (λ n. In (access_at n x) (assignments_from 0 code)) z (assigned-from 0 code k item x at c (assigned-location (Some item) x i)))

pub record IsAssignment (code : List Instr) (number k : ℕ) : Type 0 where
  pub item : Instr
  pub at : slice_get code k ≡ Some item
  pub computes : is_computation item ≡ true
  pub only : (x : Location) → In x (assigns_of item) → number_of x ≡ number

pub is_assignment : (code : List Instr) (number k : ℕ) → Accesses (assignments_from 0 code) number k → IsAssignment code number k
is_assignment code number k a = by (assigned_by 0 code (record { item = k; location = number }) (in_contains _ (assignments_from 0 code) a))
  where
    by : AssignedBy 0 code (record { item = k; location = number }) → IsAssignment code number k
    by r =
        let z : 0 + r.k ≡ r.k = omega arith in
        let same : k ≡ r.k = ap (λ (d : Access). d.item) r.is ∙ z in
        record {
          item = r.item;
          at = ap (slice_get code) same ∙ r.at;
          computes = r.computes;
          only = λ y i. let l : Some y ≡ Some r.x = sym (assigned-location (Some r.item) y i) ∙ r.assigns in ap number_of (same_Some y r.x l) ∙ sym (ap (λ (d : Access). d.location) r.is);
        }

-- ---- an item that isn't live at the next point is removable

pub removable : (code : List Instr) (dead queued : List Bool) (number k : ℕ) (found : List ℕ) → IsSound code dead → NoneIdle code dead → IsSearched code dead queued number found → (a : IsAssignment code number k) → is_marked dead k ≡ false → (Contains found (suc k) → ⊥)
    → (r : IsRemovable (remaining code dead) k) × (r.item ≡ a.item)
removable code dead queued number k found sound none s a alive away =
    let here : slice_get (remaining code dead) k ≡ Some a.item = with_nops-alive nop dead code k alive ∙ a.at in
    let reached = computation-reached code dead none k a.item here a.computes in
    let next = next-reached code dead sound k a.item here a.computes reached in (
      record { item = a.item; here = here; why = inl (record { computes = a.computes; unused = λ y c live. s.not_live y (a.only y (in_contains y (assigns_of a.item) c)) (suc k) next away live }) },
      refl,
    )

-- ---- a location whose computations were all looked at is settled

pub settled : (code : List Instr) (dead queued : List Bool) (number : ℕ) (found : List ℕ) → IsSound code dead → NoneIdle code dead → IsSearched code dead queued number found → is_marked queued number ≡ false
    → ((k : ℕ) → Accesses (assignments_from 0 code) number k → (is_marked dead k ≡ true) ⊎ Contains found (suc k)) → (x : Location) → number_of x ≡ number → IsSettled code dead x
settled code dead queued number found sound none s off looked x is p item at computes assigns reached = by (cases_Bool (get_or dead p false))
  where
    by : (get_or dead p false ≡ true) ⊎ (get_or dead p false ≡ false) → IsLive (remaining code dead) x (suc p)
    by (inl m) = absurd (let n : nop ≡ item = same_Some nop item (sym (with_nops-dead nop dead code p sound.long m) ∙ at) in let f : false ≡ true = ap is_computation n ∙ computes in cc)
    by (inr m) =
        let was : slice_get code p ≡ Some item = sym (with_nops-alive nop dead code p m) ∙ at in
        ⊎_elim (λ d. absurd (true≢false (sym d ∙ m)))
        (λ there. s.live x is off (suc p) (next-reached code dead sound p item at computes reached) there)
        (looked p (subst (λ n. Accesses (assignments_from 0 code) n p) is (assigned-there code p item x was computes (in_contains x (assigns_of item) assigns))))

-- ---- the end

-- a computation has a destination
has_dest : (o : Op) (ret : Bool) (dest : Option ℕ) (args funcs labels : ℕ) → (shape_of ret o).dest ≡ true → fits_shape (shape_of ret o) (is_some dest) args funcs labels ≡ true → (x : Location) × (slice_get (map Variable (listed dest)) 0 ≡ Some x)
has_dest o ret dest args funcs labels d s = let e = dest_there (shape_of ret o) dest args funcs labels d s in (Variable e.0, ap (λ d. slice_get (map Variable (listed d)) 0) e.1)

operation-assigns : (ret : Bool) (o : Op) (dest : Option ℕ) (ty : _) (args funcs labels : List ℕ) → is_shaped ret (Act dest ty o args funcs labels) ≡ true → only_computes o ≡ true → (x : Location) × (location_at (Some (Act dest ty o args funcs labels)) ≡ Some x)
operation-assigns ret op.Set dest ty args funcs labels s c = (_, refl)
operation-assigns ret op.Undef dest ty args funcs labels s c = has_dest op.Undef ret dest (length args) (length funcs) (length labels) refl s
operation-assigns ret op.Get dest ty args funcs labels s c = has_dest op.Get ret dest (length args) (length funcs) (length labels) refl s
operation-assigns ret op.Id dest ty args funcs labels s c = has_dest op.Id ret dest (length args) (length funcs) (length labels) refl s
operation-assigns ret op.CharToInt dest ty args funcs labels s c = has_dest op.CharToInt ret dest (length args) (length funcs) (length labels) refl s
operation-assigns ret op.Add dest ty args funcs labels s c = has_dest op.Add ret dest (length args) (length funcs) (length labels) refl s
operation-assigns ret op.Sub dest ty args funcs labels s c = has_dest op.Sub ret dest (length args) (length funcs) (length labels) refl s
operation-assigns ret op.Mul dest ty args funcs labels s c = has_dest op.Mul ret dest (length args) (length funcs) (length labels) refl s
operation-assigns ret op.Eq dest ty args funcs labels s c = has_dest op.Eq ret dest (length args) (length funcs) (length labels) refl s
operation-assigns ret op.Lt dest ty args funcs labels s c = has_dest op.Lt ret dest (length args) (length funcs) (length labels) refl s
operation-assigns ret op.Gt dest ty args funcs labels s c = has_dest op.Gt ret dest (length args) (length funcs) (length labels) refl s
operation-assigns ret op.Le dest ty args funcs labels s c = has_dest op.Le ret dest (length args) (length funcs) (length labels) refl s
operation-assigns ret op.Ge dest ty args funcs labels s c = has_dest op.Ge ret dest (length args) (length funcs) (length labels) refl s
operation-assigns ret op.Ceq dest ty args funcs labels s c = has_dest op.Ceq ret dest (length args) (length funcs) (length labels) refl s
operation-assigns ret op.Clt dest ty args funcs labels s c = has_dest op.Clt ret dest (length args) (length funcs) (length labels) refl s
operation-assigns ret op.Cgt dest ty args funcs labels s c = has_dest op.Cgt ret dest (length args) (length funcs) (length labels) refl s
operation-assigns ret op.Cle dest ty args funcs labels s c = has_dest op.Cle ret dest (length args) (length funcs) (length labels) refl s
operation-assigns ret op.Cge dest ty args funcs labels s c = has_dest op.Cge ret dest (length args) (length funcs) (length labels) refl s
operation-assigns ret op.Not dest ty args funcs labels s c = has_dest op.Not ret dest (length args) (length funcs) (length labels) refl s
operation-assigns ret op.And dest ty args funcs labels s c = has_dest op.And ret dest (length args) (length funcs) (length labels) refl s
operation-assigns ret op.Or dest ty args funcs labels s c = has_dest op.Or ret dest (length args) (length funcs) (length labels) refl s
operation-assigns ret _ dest ty args funcs labels s c = absurd cc

item-assigns : (ret : Bool) (item : Instr) → is_shaped ret item ≡ true → is_computation item ≡ true → (x : Location) × In x (assigns_of item)
item-assigns ret (Label l) s c = absurd cc
item-assigns ret (Const dest ty value) s c = (Variable dest, inl refl)
item-assigns ret (Act dest ty o args funcs labels) s c = let l = operation-assigns ret o dest ty args funcs labels s c in (l.0, location-assigned (Some (Act dest ty o args funcs labels)) l.0 l.1)

-- where nothing is queued, nothing removable is left
pub all-cleared : (code : List Instr) (ret : Bool) (dead : List Bool) (queue : List ℕ) (queued : List Bool) (list : List Access) → list ≡ assignments_from 0 code → All (λ (access : Access). access.location < length queued) list → ((item : Instr) (p : ℕ) → slice_get code p ≡ Some item → is_shaped ret item ≡ true)
    → IsWork code dead queue queued (λ n. ⊥) → ((n : ℕ) → is_marked queued n ≡ false) → IsCleared code (remaining code dead)
all-cleared code ret dead queue queued list same above shaped w off = record {
  points = w.sound.points;
  were = w.sound.were;
  is = w.sound.is;
  none = none;
  stays = λ p item at. ⊎_elim inl (λ r. inr (still_reached code made k p r)) (w.none_idle p item at);
}
  where
    made : List Instr
    made = remaining code dead

    k : Chain code (remaining code dead)
    k = remaining-chain code dead w.sound

    none : (p : ℕ) → IsRemovable (remaining code dead) p → ⊥
    none p r = ⊎_elim unused idle r.why
      where
        idle : IsIdle (remaining code dead) p r.item → ⊥
        idle u = ⊎_elim (λ s. true≢false (sym s ∙ u.does)) (λ h. u.unreached (still_reached code (remaining code dead) (remaining-chain code dead w.sound) p h)) (w.none_idle p r.item r.here)

        unused : IsUnused (remaining code dead) p r.item → ⊥
        unused u = by (cases_Bool (get_or dead p false))
          where
            by : (get_or dead p false ≡ true) ⊎ (get_or dead p false ≡ false) → ⊥
            by (inl m) = let n : nop ≡ r.item = same_Some nop r.item (sym (with_nops-dead nop dead code p w.sound.long m) ∙ r.here) in let f : false ≡ true = ap is_computation n ∙ u.computes in cc
            by (inr m) =
                let was : slice_get code p ≡ Some r.item = sym (with_nops-alive nop dead code p m) ∙ r.here in
                let x = item-assigns ret r.item (shaped r.item p was) u.computes in
                let a = assigned-there code p r.item x.0 was u.computes x.1 in
                let inside : number_of x.0 < length queued = (let c = subst (λ l. Accesses l (number_of x.0) p) (sym same) a in subst (λ (d : Access). d.location < length queued) c.2 (above c.0 (record { item = p; location = number_of x.0 }) c.1)) in
                let reached = computation-reached code dead w.none_idle p r.item r.here u.computes in
                let c = contains_in x.0 (assigns_of r.item) x.1 in
                u.unused x.0 c (w.settled x.0 inside (off (number_of x.0)) (λ e. e) p r.item r.here u.computes c reached)

-- ---- the start: idle items

-- The first items are marked where they are idle: they became `nop` one after another.
pub record IsEmptied (code : List Instr) (dead : List Bool) : Type 0 where
  pub points : List ℕ
  pub were : WereRemovable code points
  pub is : remaining code dead ≡ emptied code points
  pub busy : (p : ℕ) (item : Instr) → p < length dead → slice_get (remaining code dead) p ≡ Some item → (is_silent item ≡ true) ⊎ IsReached code p

pub one-emptied : (code : List Instr) (dead : List Bool) (item : Instr) (b : Bool) → slice_get code (length dead) ≡ Some item → (b ≡ true → IsIdle code (length dead) item) → (b ≡ false → (is_silent item ≡ true) ⊎ IsReached code (length dead)) → IsEmptied code dead → IsEmptied code (dead ++ b ∷ [])
one-emptied code dead item b at idle busy e = by b refl
  where
    low : length dead < length code
    low = slice_get_within code (length dead) item at

    here : slice_get (remaining code dead) (length dead) ≡ Some item
    here = with_nops-alive nop dead code (length dead) (get_or_past dead (length dead) false (omega arith)) ∙ at

    long : length (dead ++ b ∷ []) ≡ length dead + 1
    long = length-append dead (b ∷ [])

    before : (p : ℕ) (a : Instr) → p < length dead → slice_get (remaining code (dead ++ b ∷ [])) p ≡ Some a → (is_silent a ≡ true) ⊎ IsReached code p
    before p a less there = e.busy p a less (sym (nops-before nop b dead code p less) ∙ there)

    split : (p : ℕ) → p < length (dead ++ b ∷ []) → (p < length dead) ⊎ (p ≡ length dead)
    split p less = ⊎_elim inl (λ le. inr (omega (arith, long, less, le))) (cases_lt p (length dead))

    by : (c : Bool) → b ≡ c → IsEmptied code (dead ++ b ∷ [])
    by true is = record {
      points = length dead ∷ e.points;
      were = (subst (λ c. IsRemovable c (length dead)) e.is (record { item = item; here = here; why = inr (record { unreached = λ r. (idle is).unreached (was_reached code (remaining code dead) (subst (Chain code) (sym e.is) (chain code e.points e.were)) (length dead) r); does = (idle is).does }) }), e.were);
      is = ap (λ c. with_nops nop (dead ++ c ∷ []) code) is ∙ nops-true nop dead code low ∙ ap (λ c. set c (length dead) nop) e.is;
      busy = λ p a less there. ⊎_elim (λ l. before p a l there) (λ same. inl (emptied-silent p a same there)) (split p less);
    }
      where
        emptied-silent : (p : ℕ) (a : Instr) → p ≡ length dead → slice_get (remaining code (dead ++ b ∷ [])) p ≡ Some a → is_silent a ≡ true
        emptied-silent p a same there =
            let now : slice_get (remaining code (dead ++ b ∷ [])) p ≡ Some nop = ap (λ c. slice_get (with_nops nop (dead ++ c ∷ []) code) p) is ∙ ap (λ l. slice_get l p) (nops-true nop dead code low) ∙ ap (slice_get (set (remaining code dead) (length dead) nop)) same ∙ set-here (remaining code dead) (length dead) item nop here in
            ap is_silent (sym (same_Some nop a (sym now ∙ there)))
    by false is = record {
      points = e.points;
      were = e.were;
      is = ap (λ c. with_nops nop (dead ++ c ∷ []) code) is ∙ nops-false nop dead code ∙ e.is;
      busy = λ p a less there. ⊎_elim (λ l. before p a l there) (λ same. stays p a same there) (split p less);
    }
      where
        stays : (p : ℕ) (a : Instr) → p ≡ length dead → slice_get (remaining code (dead ++ b ∷ [])) p ≡ Some a → (is_silent a ≡ true) ⊎ IsReached code p
        stays p a same there =
            let now : slice_get (remaining code (dead ++ b ∷ [])) p ≡ Some item = ap (λ c. slice_get (with_nops nop (dead ++ c ∷ []) code) p) is ∙ ap (λ l. slice_get l p) (nops-false nop dead code) ∙ ap (slice_get (remaining code dead)) same ∙ here in
            let a_is : item ≡ a = same_Some item a (sym now ∙ there) in
            subst (λ n. (is_silent a ≡ true) ⊎ IsReached code n) (sym same) (subst (λ i. (is_silent i ≡ true) ⊎ IsReached code (length dead)) a_is (busy is))

-- all items
pub all-emptied : (code : List Instr) (dead : List Bool) → length dead ≡ length code → IsEmptied code dead → IsSound code dead × NoneIdle code dead
all-emptied code dead long e = (
  record { long = long; points = e.points; were = e.were; is = e.is },
  (λ p item at. e.busy p item (let w = slice_get_within (remaining code dead) p item at in let l = length-with_nops nop dead code in omega arith) at),
)

-- no more assignments than items
one-assignment : (b : Bool) (k : ℕ) (item : Instr) → length (assignment_if b k item) ≤ 1
one-assignment false k item = omega arith
one-assignment true k item = by (location_at (Some item))
  where
    by : (o : Option Location) → length (map (access_at k) (option_to_list o)) ≤ 1
    by None = omega arith
    by (Some x) = omega arith

pub length-assignments : (k : ℕ) (code : List Instr) → length (assignments_from k code) ≤ length code
length-assignments k [] = omega arith
length-assignments k (item ∷ code) =
    let rest = length-assignments (suc k) code in
    let one = one-assignment (is_computation item) k item in
    let both = length-append (assignment_if (is_computation item) k item) (assignments_from (suc k) code) in
    omega arith
