-- What the `get`s and `set`s that were put in read was assigned: so the walks of code in SSA form are accepted.
use Rattle.std.proofs.Common.{◌≡◌, ◌⊎◌, ℕ, zero, suc, ◌+◌, ◌-◌, ◌<◌, ◌≤◌, false, List, [], ◌∷◌, ◌++◌, length, map, Option, Some, None, refl, sym, ap, subst, ◌∙◌, inl, inr, ⊎_elim, arith}
use Rattle.std.specs.Prelude.{slice_get}
use Rattle.std.specs.List.{range_with_len}
use Rattle.std.proofs.lemmas.Option.{same_Some}
use Rattle.bril_tree.specs.declared.function_tree.Dest.{Dest}
use Rattle.bril_tree.specs.declared.numbered.Instr.{Instr}
use Rattle.bril_tree.specs.declared.numbered.Instr.TheVariants.{Label, Const, Act}
use Rattle.bril_tree.specs.declared.operation.Op.TheVariants as op
use Rattle.bril_tree.specs.declared.program.Prog.{Prog}
use Rattle.bril_tree.specs.declared.types.Ty.{Ty}
use Rattle.bril_tree.specs.Accepted.{IsAccepted}
use Rattle.bril_tree.specs.Assigned.{assigned_of}
use Rattle.bril_tree.specs.Edge.{Branch, branches_at, branches_from, onward}
use Rattle.bril_tree.specs.FunctionForm.{listed}
use Rattle.bril_tree.specs.Numbered.{named, typed_name, dest_tree, item_tree}
use Rattle.bril_tree.specs.Operand.{Location, Variable, Shadow, reads_of}
use Rattle.bril_tree.specs.Step.{code_of, item_at}
use Rattle.bril_tree.specs.Walk.{IsWalk, IsReached, end_of}
use Rattle.bril_tree.specs.Membership.{In}
use Rattle.bril_names.specs.Range.{AreBelow}
use Rattle.bril_tree.specs.Numbered.{names_of_functions}
use Rattle.bril_tree.specs.Numbered.{names_in, tree_at}
use Rattle.pass_edit_laws.proofs.lemmas.names.Points.{Found}
use Rattle.pass_edit_laws.proofs.lemmas.names.Points.{found}
use Rattle.bril_tree.proofs.Trees.{nothing_at}
use Rattle.ssa_laws.specs.inserted_copies.Inserted.{is_jump, sources, held}
use Rattle.ssa_laws.specs.reaching_definitions.Tables.{Tables, behind, passed, else_passed}
use Rattle.ssa_laws.specs.layout.Laid.{Setting, Begins, IsSetBefore, Starts, Falls, Leaves, get_tree, set_tree, Laid}
use Rattle.ssa_laws.specs.layout.Accepted.{Tight}
use Rattle.ssa_laws.proofs.lemmas.layout.Slots.{Slot, InVariable, InShadow, through_gets, through_sets, sets-keep, sets-give, gets-give, one, sets-there, gets-there}
use Rattle.ssa_laws.proofs.lemmas.layout.Refines.{T, L, On, HoldsKnown, base, split, at-index, home-is, low-is, through-sets, is-inserted}
use Rattle.ssa_laws.proofs.lemmas.inserted_copies.Walks.{Assures}
use Rattle.ssa_laws.proofs.lemmas.layout.Available.{available}

-- ---- the rest of a list

from : {X : Type 0} → ℕ → List X → List X
from zero xs = xs
from (suc t) [] = []
from (suc t) (x ∷ xs) = from t xs

from-at : {X : Type 0} (t k : ℕ) (xs : List X) → slice_get (from t xs) k ≡ slice_get xs (t + k)
unfolding from
from-at zero k xs = let e : 0 + k ≡ k = omega arith in ap (slice_get xs) (sym e)
from-at (suc t) k [] = refl
from-at (suc t) k (x ∷ xs) = from-at t k xs ∙ (let e : suc (t + k) ≡ suc t + k = omega arith in ap (slice_get (x ∷ xs)) e)

from-long : {X : Type 0} (t : ℕ) (xs : List X) → t ≤ length xs → length (from t xs) + t ≡ length xs
unfolding from
from-long zero xs h = omega arith
from-long (suc t) [] h = absurd (omega arith)
from-long (suc t) (x ∷ xs) h = let r = from-long t xs (omega arith) in omega (arith, r)

from-in : {X : Type 0} (t : ℕ) (x : X) (xs : List X) → slice_get xs t ≡ Some x → In x (from t xs)
unfolding from
from-in zero x [] e = absurd cc
from-in zero x (y ∷ xs) e = inl (sym (same_Some _ _ e))
from-in (suc t) x [] e = absurd cc
from-in (suc t) x (y ∷ xs) e = from-in t x xs e

from-part : {X : Type 0} (t : ℕ) (x : X) (xs : List X) → In x (from t xs) → In x xs
unfolding from
from-part zero x xs i = i
from-part (suc t) x [] i = i
from-part (suc t) x (y ∷ xs) i = inr (from-part t x xs i)

-- ---- items of `get`s and `set`s

record GetThere (Q : Prog) (f j : ℕ) (n : List ℕ) : Type 0 where
  dest : ℕ
  reads : (item : Instr) → item_at Q f j ≡ Some item → reads_of item ≡ Shadow dest ∷ []
  within : dest < length (names_in (slice_get Q.funcs f))
  is : named (names_in (slice_get Q.funcs f)) dest ≡ n

record SetThere (Q : Prog) (f j : ℕ) (n m : List ℕ) : Type 0 where
  get : ℕ
  source : ℕ
  reads : (item : Instr) → item_at Q f j ≡ Some item → reads_of item ≡ Variable source ∷ []
  get_within : get < length (names_in (slice_get Q.funcs f))
  get_is : named (names_in (slice_get Q.funcs f)) get ≡ n
  within : source < length (names_in (slice_get Q.funcs f))
  is : named (names_in (slice_get Q.funcs f)) source ≡ m

get-item : (Q : Prog) (f j : ℕ) (n : List ℕ) (ty : Ty) → tree_at Q f j ≡ Some (get_tree n ty) → GetThere Q f j n
get-item Q f j n ty tree = by (item_at Q f j) refl
  where
    V : List (List ℕ)
    V = names_in (slice_get Q.funcs f)

    parts : (d : Option ℕ) (s : Option Ty) (args fns ls : List ℕ) → item_at Q f j ≡ Some (Act d s op.Get args fns ls) → dest_tree (names_in (slice_get Q.funcs f)) d s ≡ Some (typed_name n ty) → AreBelow (length (names_in (slice_get Q.funcs f))) (listed d ++ args) → GetThere Q f j n
    parts None s args fns ls at e r = absurd cc
    parts (Some d) None args fns ls at e r = absurd cc
    parts (Some d) (Some s) args fns ls at e r =
        record { dest = d; reads = λ item h. ap reads_of (same_Some _ _ (sym h ∙ at)); within = r.0; is = ap (λ (z : Dest). z.name) (same_Some (typed_name (named (names_in (slice_get Q.funcs f)) d) s) (typed_name n ty) e) }

    by_item : (a : Instr) → item_at Q f j ≡ Some a → (g : Found Q f j a) → item_tree (names_of_functions Q.funcs) (names_in (slice_get Q.funcs f)) g.function.labels a ≡ get_tree n ty → GetThere Q f j n
    by_item (Label l) at g e = absurd cc
    by_item (Const d s v) at g e = absurd cc
    by_item (Act d s o args fns ls) at g e =
        let eo : o ≡ op.Get = cc in
        let ed : dest_tree (names_in (slice_get Q.funcs f)) d s ≡ Some (typed_name n ty) = cc in
        parts d s args fns ls (at ∙ ap (λ z. Some (Act d s z args fns ls)) eo) ed g.range.variables

    by : (o : Option Instr) → item_at Q f j ≡ o → GetThere Q f j n
    by None e = absurd (let x = sym (nothing_at Q f j e) ∙ tree in cc)
    by (Some a) e = let g = found Q f j a e in by_item a e g (same_Some _ _ (sym g.tree ∙ tree))

set-item : (Q : Prog) (f j : ℕ) (n m : List ℕ) → tree_at Q f j ≡ Some (set_tree n m) → SetThere Q f j n m
set-item Q f j n m tree = by (item_at Q f j) refl
  where
    below : (d : Option ℕ) (k : ℕ) (args : List ℕ) → AreBelow k (listed d ++ args) → AreBelow k args
    below None k args r = r
    below (Some x) k args r = r.1

    parts : (d : Option ℕ) (s : Option Ty) (args fns ls : List ℕ) → item_at Q f j ≡ Some (Act d s op.Set args fns ls) → map (named (names_in (slice_get Q.funcs f))) args ≡ n ∷ m ∷ [] → AreBelow (length (names_in (slice_get Q.funcs f))) args → SetThere Q f j n m
    parts d s [] fns ls at e r = absurd cc
    parts d s (x ∷ []) fns ls at e r = absurd cc
    parts d s (x ∷ y ∷ z ∷ args) fns ls at e r = absurd cc
    parts d s (x ∷ y ∷ []) fns ls at e r =
        let ex : named (names_in (slice_get Q.funcs f)) x ≡ n = cc in
        let ey : named (names_in (slice_get Q.funcs f)) y ≡ m = cc in
        record { get = x; source = y; reads = λ item h. ap reads_of (same_Some _ _ (sym h ∙ at)); get_within = r.0; get_is = ex; within = r.1.0; is = ey }

    by_item : (a : Instr) → item_at Q f j ≡ Some a → (g : Found Q f j a) → item_tree (names_of_functions Q.funcs) (names_in (slice_get Q.funcs f)) g.function.labels a ≡ set_tree n m → SetThere Q f j n m
    by_item (Label l) at g e = absurd cc
    by_item (Const d s v) at g e = absurd cc
    by_item (Act d s o args fns ls) at g e =
        let eo : o ≡ op.Set = cc in
        let ea : map (named (names_in (slice_get Q.funcs f))) args ≡ n ∷ m ∷ [] = cc in
        parts d s args fns ls (at ∙ ap (λ z. Some (Act d s z args fns ls)) eo) ea (below d (length (names_in (slice_get Q.funcs f))) args g.range.variables)

    by : (o : Option Instr) → item_at Q f j ≡ o → SetThere Q f j n m
    by None e = absurd (let x = sym (nothing_at Q f j e) ∙ tree in cc)
    by (Some a) e = let g = found Q f j a e in by_item a e g (same_Some _ _ (sym g.tree ∙ tree))

module _ (P Q : Prog) (table : ℕ → Tables) (name : ℕ → ℕ → List ℕ) (gets : ℕ → ℕ → List ℕ) (sets : ℕ → ℕ → List Setting) (c : ℕ) (accepted : IsAccepted P) (t : Laid P Q table name gets sets c) (f args result_args : ℕ)
    (begun : (a : Location) (y : ℕ) → Begins P Q table name gets sets f a y → In a (map Variable (range_with_len 0 args))) (tight : Tight P table sets f) where
  abbrev code : List Instr
  code = code_of P f

  abbrev home' : ℕ → ℕ → ℕ
  home' = T P Q table name gets sets c accepted t

  abbrev low' : ℕ → ℕ → ℕ
  low' = L P Q table name gets sets c accepted t

  abbrev S : Slot → Location → Type 0
  S = On P Q table name gets sets c accepted t f

  abbrev B : (f i : ℕ) → Location → Location → Type 0
  B = base P Q table name gets sets c accepted t

  shadow-is : (y d : ℕ) (b : Location) → d < length (names_in (slice_get Q.funcs f)) → named (names_in (slice_get Q.funcs f)) d ≡ name f y → S (InShadow y) b → b ≡ Shadow d
  shadow-is y d (Variable x) l e h = absurd h
  shadow-is y d (Shadow x) l e h = ap Shadow (one Q f (name f) (t.injective f) x d h.0 l (h.1 ∙ sym e))

  variable-is : (y d : ℕ) (b : Location) → d < length (names_in (slice_get Q.funcs f)) → named (names_in (slice_get Q.funcs f)) d ≡ name f y → S (InVariable y) b → b ≡ Variable d
  variable-is y d (Variable x) l e h = ap Variable (one Q f (name f) (t.injective f) x d h.0 l (h.1 ∙ sym e))
  variable-is y d (Shadow x) l e h = absurd h

  -- what holds a location that is got, behind its `get`
  record SlotThere (p : ℕ) (a : Location) (y : ℕ) : Type 0 where
    slot : Slot
    number : Location
    holds : HoldsKnown P Q table name gets sets c accepted t f (suc p) a slot
    stands : S slot number
    gives : through_sets (sets f (suc p)) slot ≡ InVariable y

  index : (s : Setting) (ss : List Setting) → In s ss → (k : ℕ) × (slice_get ss k ≡ Some s)
  index s [] h = absurd h
  index s (u ∷ ss) (inl e) = (0, ap Some (sym e))
  index s (u ∷ ss) (inr h) = let r = index s ss h in (suc r.0, r.1)

  slot : (p : ℕ) → IsReached code p → IsReached code (suc p) → In (onward p) (branches_at code p) → is_jump (item_at P f p) ≡ false → (a : Location) (z : ℕ) → ((table f).into (suc p) a ≡ Some z) ⊎ ((table f).gets (suc p) a ≡ Some z) → (y d : ℕ)
      → (d < length (names_in (slice_get Q.funcs f))) × (named (names_in (slice_get Q.funcs f)) d ≡ name f y) → behind code (table f) p a ≡ Some y → SlotThere p a y
  slot p pr sr branch leap a z (inl h) y d dd bh =
      let q = through-sets P Q table name gets sets c accepted t f p pr branch leap a (InVariable z) h in
      let same : q.0 ≡ y = same_Some _ _ (sym q.2 ∙ bh) in
      let e : InVariable z ≡ InVariable q.0 = sym (sets-keep (sets f (suc p)) z) ∙ q.1 in
      let zq : z ≡ q.0 = cc in
      record { slot = InVariable z; number = Variable d; holds = h; stands = (dd.0, dd.1 ∙ ap (name f) (sym (zq ∙ same))); gives = q.1 ∙ ap InVariable same }
  slot p pr sr branch leap a z (inr g) y d dd bh =
      let q = through-sets P Q table name gets sets c accepted t f p pr branch leap a (InShadow z) (inl g) in
      let same : q.0 ≡ y = same_Some _ _ (sym q.2 ∙ bh) in
      let u = t.sets_fall f p z a pr leap branch g in
      let k = index (record { get = z; from = u.0 }) (sets f (suc p)) u.1 in
      let item = set-item Q f (low' f (suc p) + length (gets f (suc p)) + k.0) (name f z) (name f u.0) (t.put f (suc p) k.0 (record { get = z; from = u.0 }) sr k.1) in
      record { slot = InShadow z; number = Shadow item.get; holds = inl g; stands = (item.get_within, item.get_is); gives = q.1 ∙ ap InVariable same }

  module _ (w : List Branch) (is : IsWalk code w) where
    abbrev i : ℕ
    i = end_of w

    reached : IsReached code (end_of w)
    reached = record { walk = w; is = is; ends = refl }

    assigned : (a : Location) (y : ℕ) → ((table f).into i a ≡ Some y) ⊎ ((table f).gets i a ≡ Some y) → In a (assigned_of code args w).locations
    assigned a y h = available P Q table name gets sets c accepted t f args begun (length w) w (omega arith) is a y h

    -- a `set`
    set-read : (r : ℕ) (s : Setting) → slice_get (sets f i) r ≡ Some s → r < length (sets f i) → (j : ℕ) → j ≡ low' f i + length (gets f i) + r → (item : Instr) (y : Location) → item_at Q f j ≡ Some item → In y (reads_of item)
        → (x : Location) × held P Q home' B f i j x y × In x (assigned_of code args w).locations
    set-read r s at less j here item y it among =
        let tree : tree_at Q f j ≡ Some (set_tree (name f s.get) (name f s.from)) = ap (tree_at Q f) here ∙ t.put f i r s reached at in
        let g = set-item Q f j (name f s.get) (name f s.from) tree in
        let y-is : y ≡ Variable g.source = ⊎_elim (λ e. e) (λ n. absurd n) (subst (In y) (g.reads item it) among) in
        let rest = from r (sets f i) in
        let long = from-long r (sets f i) (omega arith) in
        let give = sets-give rest s.get s.from (from-in r s (sets f i) at) in
        let same : give.0.from ≡ s.from = tight.alone i give.0 s (from-part r give.0 (sets f i) give.1) (set-in r s (sets f i) at) give.2 in
        let trees : (k : ℕ) (u : Setting) → slice_get rest k ≡ Some u → tree_at Q f (j + k) ≡ Some (set_tree (name f u.get) (name f u.from)) =
        λ k u e. (let n : j + k ≡ low' f i + length (gets f i) + (r + k) = omega (arith, here) in ap (tree_at Q f) n) ∙ t.put f i (r + k) u reached (sym (from-at r k (sets f i)) ∙ e) in
        let there = sets-there Q f (name f) (t.injective f) rest j (InShadow s.get) (Shadow g.get) trees (g.get_within, g.get_is) in
        let stands : S (InVariable s.from) (sources Q f (length rest) j (Shadow g.get)) = subst (λ z. S (InVariable z) (sources Q f (length rest) j (Shadow g.get))) same (subst (λ z. S z (sources Q f (length rest) j (Shadow g.get))) give.3 there) in
        let count : home' f i - j ≡ length rest = (let h = home-is P Q table name gets sets c accepted t f i in omega (arith, h, here, long)) in
        let p = place s (t.sets_are f i s reached (set-in r s (sets f i) at)) in
        (p.0, (Shadow g.get, (InShadow s.get, p.1, (g.get_within, g.get_is)), y-is ∙ sym (variable-is s.from g.source (sources Q f (length rest) j (Shadow g.get)) g.within g.is stands) ∙ ap (λ n. sources Q f n j (Shadow g.get)) (sym count)), p.2)
      where
        set-in : (r : ℕ) (s : Setting) (ss : List Setting) → slice_get ss r ≡ Some s → In s ss
        set-in r s ss e = from-part r s ss (from-in r s ss e)

        place : (s : Setting) → IsSetBefore P Q table name gets sets f (end_of w) s → (x : Location) × HoldsKnown P Q table name gets sets c accepted t f (end_of w) x (InShadow s.get) × In x (assigned_of code args w).locations
        place s (Starts a e g h) = (a, inl (ap (λ n. (table f).gets n a) e ∙ g), assigned a s.get (inr (ap (λ n. (table f).gets n a) e ∙ g)))
        place s (Falls a p e g h) = (a, inl g, assigned a s.get (inr g))
        place s (Leaves a k l g h) = (a, inr (k, l, g), assigned a s.from (inl h))

    -- a `get`
    get-read : (p : ℕ) → end_of w ≡ suc p → (r y : ℕ) → slice_get (gets f (suc p)) r ≡ Some y → r < length (gets f (suc p)) → (j : ℕ) → j ≡ low' f (suc p) + r → (item : Instr) (b : Location) → item_at Q f j ≡ Some item → In b (reads_of item)
        → (x : Location) × held P Q home' B f (suc p) j x b × In x (assigned_of code args w).locations
    get-read p ends r y at less j here item b it among =
        let sr : IsReached code (suc p) = record { walk = w; is = is; ends = ends } in
        let g0 = t.got f (suc p) r y sr at in
        let tree : tree_at Q f j ≡ Some (get_tree (name f y) g0.0) = ap (tree_at Q f) here ∙ g0.1 in
        let g = get-item Q f j (name f y) g0.0 tree in
        let b-is : b ≡ Shadow g.dest = ⊎_elim (λ e. e) (λ n. absurd n) (subst (In b) (g.reads item it) among) in
        let a = t.gets_are f p y (from-part r y (gets f (suc p)) (from-in r y (gets f (suc p)) at)) in
        let pr = tight.reached p y a.0 a.1 in
        let l = (t.consistent f).plain p y a.0 pr a.1 in
        let branch : In (onward p) (branches_at code p) = subst (λ o. In (onward p) (branches_from code p o)) (sym l.1) (inl refl) in
        let leap : is_jump (item_at P f p) ≡ false = ap is_jump l.1 in
        let z = tight.goes p y a.0 a.1 in
        let held' = slot p pr sr branch leap a.0 z.0 z.1 y g.dest (g.within, g.is) (ap (λ o. else_passed o (passed (table f) (item_at P f p) p a.0)) a.1) in
        let rest = from r (gets f (suc p)) in
        let long = from-long r (gets f (suc p)) (omega arith) in
        let ms = length (sets f (suc p)) in
        let sets-at = sets-there Q f (name f) (t.injective f) (sets f (suc p)) (low' f (suc p) + length (gets f (suc p))) held'.slot held'.number (λ k u e. t.put f (suc p) k u sr e) held'.stands in
        let y-at : S (InVariable y) (sources Q f ms (j + length rest) held'.number) =
        (let n : low' f (suc p) + length (gets f (suc p)) ≡ j + length rest = omega (arith, here, long) in subst (λ n. S (InVariable y) (sources Q f ms n held'.number)) n (subst (λ q. S q (sources Q f ms (low' f (suc p) + length (gets f (suc p))) held'.number)) held'.gives sets-at)) in
        let trees : (k u : ℕ) → slice_get rest k ≡ Some u → (ty : Ty) × (tree_at Q f (j + k) ≡ Some (get_tree (name f u) ty)) =
        λ k u e. (let q = t.got f (suc p) (r + k) u sr (sym (from-at r k (gets f (suc p))) ∙ e) in (q.0, (let n : j + k ≡ low' f (suc p) + (r + k) = omega (arith, here) in ap (tree_at Q f) n) ∙ q.1)) in
        let there = gets-there Q f (name f) (t.injective f) rest j ms (InVariable y) held'.number trees y-at in
        let stands : S (InShadow y) (sources Q f (length rest + ms) j held'.number) = subst (λ q. S q (sources Q f (length rest + ms) j held'.number)) (in-shadow rest y (from-in r y (gets f (suc p)) at)) there in
        let count : home' f (suc p) - j ≡ length rest + ms = omega (arith, here, long) in (
          a.0,
          (held'.number, (held'.slot, held'.holds, held'.stands), b-is ∙ sym (shadow-is y g.dest (sources Q f (length rest + ms) j held'.number) g.within g.is stands) ∙ ap (λ n. sources Q f n j held'.number) (sym count)),
          assigned a.0 z.0 (⊎_elim (λ e. inl (ap (λ n. (table f).into n a.0) ends ∙ e)) (λ e. inr (ap (λ n. (table f).gets n a.0) ends ∙ e)) z.1),
        )
      where
        in-shadow : (ys : List ℕ) (y : ℕ) → In y ys → through_gets ys (InVariable y) ≡ InShadow y
        in-shadow ys y h = ⊎_elim (λ q. q.1) (λ q. absurd (q.0 h)) (gets-give ys y)

    -- what the copies read was assigned
    reading : (j : ℕ) (item : Instr) (y : Location) → low' f (end_of w) ≤ j → j < home' f (end_of w) → item_at Q f j ≡ Some item → In y (reads_of item) → (x : Location) × held P Q home' B f (end_of w) j x y × In x (assigned_of code args w).locations
    reading j item y low-j high it among =
        by (split P Q table name gets sets c accepted t (length (gets f (end_of w))) (length (sets f (end_of w))) (j - low' f (end_of w)) (let h = home-is P Q table name gets sets c accepted t f (end_of w) in omega (arith, h)))
      where
        Result : ℕ → Type 0
        Result k = (x : Location) × held P Q home' B f k j x y × In x (assigned_of code args w).locations

        got : (k : ℕ) → end_of w ≡ k → low' f k ≤ j → j - low' f k < length (gets f k) → (x : Location) × held P Q home' B f k j x y × In x (assigned_of code args w).locations
        got zero ends lo h = absurd (let e = ap length (t.no_gets f) in omega (arith, e, h))
        got (suc p) ends lo h =
            let u = at-index P Q table name gets sets c accepted t (gets f (suc p)) (j - low' f (suc p)) h in
            get-read p ends (j - low' f (suc p)) u.0 u.1 h j (omega arith) item y it among

        by : (j - low' f (end_of w) < length (gets f (end_of w))) ⊎ ((l : ℕ) × (j - low' f (end_of w) ≡ length (gets f (end_of w)) + l) × (l < length (sets f (end_of w)))) → (x : Location) × held P Q home' B f (end_of w) j x y × In x (assigned_of code args w).locations
        by (inl h) = got (end_of w) refl low-j h
        by (inr r) =
            let u = at-index P Q table name gets sets c accepted t (sets f (end_of w)) r.0 r.2 in
            let q = r.1 in
            set-read r.0 u.0 u.1 r.2 j (omega (arith, q)) item y it among

  pub assures : Assures P Q home' B c accepted (is-inserted P Q table name gets sets c accepted t) f args result_args
  assures = record { reads = λ w j item y is low-j high it among. reading w is j item y (let l = low-is P Q table name gets sets c accepted t f (end_of w) in omega (arith, l, low-j)) high it among }
