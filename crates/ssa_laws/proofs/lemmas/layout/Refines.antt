-- Code that is laid by consistent tables refines what it is made from.
use Rattle.std.proofs.Common.{◌≡◌, ◌⊎◌, ℕ, zero, suc, ◌+◌, ◌-◌, ◌<◌, ◌≤◌, Bool, true, false, List, [], ◌∷◌, length, Option, Some, None, refl, sym, ap, subst, ◌∙◌, inl, inr, ⊎_elim, cond, arith}
use Rattle.std.specs.Prelude.{slice_get}
use Rattle.std.proofs.lemmas.Option.{same_Some}
use Rattle.bril_tree.specs.declared.function_tree.Item.TheVariants as item
use Rattle.bril_tree.specs.declared.numbered.Instr.{Instr}
use Rattle.bril_tree.specs.declared.numbered.Instr.TheVariants.{Label, Const, Act}
use Rattle.bril_tree.specs.declared.operation.Op.TheVariants as op
use Rattle.bril_tree.specs.declared.program.Prog.{Prog}
use Rattle.bril_tree.specs.declared.types.Ty.{Ty}
use Rattle.bril_tree.specs.Accepted.{IsAccepted}
use Rattle.bril_tree.specs.Assigned.{assigns_at}
use Rattle.bril_tree.specs.Edge.{Branch, branches_at, branches_from, onward, jump}
use Rattle.bril_tree.specs.Operand.{Location, Variable, Shadow, dest_of}
use Rattle.bril_tree.specs.Shape.{is_shaped, shape_of}
use Rattle.bril_tree.specs.Sites.{AreSitesSound, sites_of}
use Rattle.bril_tree.specs.Step.{code_of, item_at}
use Rattle.bril_tree.specs.Walk.{IsWalk, IsReached, end_of}
use Rattle.bril_tree.specs.Membership.{In}
use Rattle.bril_tree.proofs.Members.{contains_in, in_map_source}
use Rattle.pass_edit_laws.proofs.lemmas.steps.Shapes.{shaped_here}
use Rattle.bril_tree.proofs.Shapes.{dest_none}
use Rattle.pass_edit_laws.specs.names.Named.{SameLocation}
use Rattle.bril_tree.specs.Numbered.{names_in, tree_at}
use Rattle.pass_edit_laws.proofs.lemmas.names.Points.{found}
use Rattle.bril_tree.proofs.Trees.{nothing_at}
use Rattle.ssa_laws.specs.inserted_copies.Inserted.{is_copy, is_jump, destination, source, sources, IsNamed, held, low, AreInserted}
use Rattle.ssa_laws.specs.reaching_definitions.Tables.{Tables, is_dest, passed, else_passed, behind, Defines, Writes, Gets}
use Rattle.ssa_laws.specs.layout.Laid.{Setting, LeavesTo, Jumps, Aborts, home, first, Begins, IsSetBefore, Starts, Falls, Leaves, name_of, Laid, LaidRefine}
use Rattle.ssa_laws.proofs.lemmas.inserted_copies.Refines.{copies-refine}
use Rattle.ssa_laws.proofs.lemmas.reaching_definitions.Dominance.{never-own}
use Rattle.ssa_laws.proofs.lemmas.reaching_definitions.Items.{dest-in, dest-out, assigned-plain, label-no_site}
use Rattle.ssa_laws.proofs.lemmas.layout.Slots.{Slot, InVariable, InShadow, through_gets, through_sets, sets-keep, sets-give, gets-give, Stands, sets-there, gets-there}

-- ---- items

jump-goes : (code : List Instr) (i : ℕ) (o : Option Instr) (w : Branch) → is_jump o ≡ true → In w (branches_from code i o) → w.aborts ≡ false
jump-goes code i None w l h = absurd h
jump-goes code i (Some (Label x)) w l h = absurd cc
jump-goes code i (Some (Const d ty v)) w l h = absurd cc
jump-goes code i (Some (Act d ty op.Jmp args fns ls)) w l h = let s = in_map_source (jump code i) w ls h in ap (λ (x : Branch). x.aborts) s.2
jump-goes code i (Some (Act d ty op.Br args fns ls)) w l h = let s = in_map_source (jump code i) w ls h in ap (λ (x : Branch). x.aborts) s.2
jump-goes code i (Some (Act d ty _ args fns ls)) w l h = absurd cc

jump-copies : (o : Option Instr) → is_jump o ≡ true → is_copy o ≡ false
jump-copies None l = refl
jump-copies (Some (Label x)) l = refl
jump-copies (Some (Const d ty v)) l = refl
jump-copies (Some (Act d ty op.Get args fns ls)) l = absurd cc
jump-copies (Some (Act d ty op.Set args fns ls)) l = absurd cc
jump-copies (Some (Act d ty _ args fns ls)) l = refl

jump-none : (ret : Bool) (a : Instr) → is_shaped ret a ≡ true → is_jump (Some a) ≡ true → dest_of a ≡ None
jump-none ret (Label l) s e = absurd cc
jump-none ret (Const d ty v) s e = absurd cc
jump-none ret (Act d ty op.Jmp args fns ls) s e = dest_none (shape_of ret op.Jmp) d (length args) (length fns) (length ls) refl s
jump-none ret (Act d ty op.Br args fns ls) s e = dest_none (shape_of ret op.Br) d (length args) (length fns) (length ls) refl s
jump-none ret (Act d ty _ args fns ls) s e = absurd cc

label-at : (P : Prog) (f k : ℕ) (name : List ℕ) → tree_at P f k ≡ Some (item.Label name) → (l : ℕ) × (item_at P f k ≡ Some (Label l))
label-at P f k name tree = by (item_at P f k) refl
  where
    by_item : (a : Instr) → item_at P f k ≡ Some a → (l : ℕ) × (item_at P f k ≡ Some (Label l))
    by_item (Label l) e = (l, e)
    by_item (Const d ty v) e = absurd (let h = sym (found P f k (Const d ty v) e).tree ∙ tree in cc)
    by_item (Act d ty o args fns ls) e = absurd (let h = sym (found P f k (Act d ty o args fns ls) e).tree ∙ tree in cc)

    by : (o : Option Instr) → item_at P f k ≡ o → (l : ℕ) × (item_at P f k ≡ Some (Label l))
    by None e = absurd (let h = sym (nothing_at P f k e) ∙ tree in cc)
    by (Some a) e = by_item a e

sound-at : (P : Prog) → IsAccepted P → (f i : ℕ) (a : Instr) → item_at P f i ≡ Some a → AreSitesSound (code_of P f)
sound-at P accepted f i a at = (shaped_here P accepted f i a at).sound

module _ (P Q : Prog) (table : ℕ → Tables) (name : ℕ → ℕ → List ℕ) (gets : ℕ → ℕ → List ℕ) (sets : ℕ → ℕ → List Setting) (c : ℕ) (accepted : IsAccepted P) (t : Laid P Q table name gets sets c) where
  abbrev pub code : ℕ → List Instr
  code f = code_of P f

  abbrev pub T : ℕ → ℕ → ℕ
  T = home P Q table name gets sets

  abbrev pub L : ℕ → ℕ → ℕ
  L = first P Q table name gets sets

  abbrev pub On : ℕ → Slot → Location → Type 0
  On f = Stands Q f (name f) (t.injective f)

  -- what holds a location just before item i
  abbrev pub HoldsKnown : (f i : ℕ) → Location → Slot → Type 0
  HoldsKnown f i a (InVariable y) = (table f).into i a ≡ Some y
  HoldsKnown f i a (InShadow y) = ((table f).gets i a ≡ Some y) ⊎ ((k : ℕ) × LeavesTo (code f) i k × ((table f).gets k a ≡ Some y))

  abbrev pub base : (f i : ℕ) → Location → Location → Type 0
  base f i a b = (s : Slot) × HoldsKnown f i a s × On f s b

  -- just behind it, before its `get`s
  abbrev HoldsBehind : (f i : ℕ) → Location → Slot → Type 0
  HoldsBehind f i a (InVariable z) = ((table f).gets i a ≡ None) × (passed (table f) (item_at P f i) i a ≡ Some z)
  HoldsBehind f i a (InShadow y) = (table f).gets i a ≡ Some y

  pub sound : (f i : ℕ) → IsReached (code f) i → (a : Instr) → item_at P f i ≡ Some a → AreSitesSound (code f)
  sound f i reached a at = sound-at P accepted f i a at

  pub some_item : (f i : ℕ) (w : Branch) → In w (branches_at (code f) i) → (a : Instr) × (item_at P f i ≡ Some a)
  some_item f i w h = by (item_at P f i) refl h
    where
      by : (o : Option Instr) → item_at P f i ≡ o → In w (branches_from (code f) i o) → (a : Instr) × (item_at P f i ≡ Some a)
      by None e h = absurd h
      by (Some a) e h = (a, e)

  abbrev Args : ℕ → ℕ → Type 0
  Args f y = (a : Location) × Begins P Q table name gets sets f a y

  pub leaves-reached : (f i k : ℕ) → IsReached (code f) i → LeavesTo (code f) i k → IsReached (code f) k
  leaves-reached f i k reached (Jumps w l h e) = record {
    walk = w ∷ reached.walk;
    is = (contains_in w (branches_at (code f) (end_of reached.walk)) (subst (λ n. In w (branches_at (code f) n)) (sym reached.ends) h), reached.is);
    ends = e;
  }
  leaves-reached f i k reached (Aborts walk w sites is h ab open_sites e) = record { walk = w ∷ walk; is = (contains_in w (branches_at (code f) (end_of walk)) h, is); ends = e }

  -- tables agree along a branch that is no abort, from any reached point
  pub agrees : (f i : ℕ) → IsReached (code f) i → (w : Branch) (a : Location) (y : ℕ) → In w (branches_at (code f) i) → w.aborts ≡ false → (table f).into w.to a ≡ Some y → behind (code f) (table f) i a ≡ Some y
  agrees f i reached w a y h ab e =
      ap (λ n. behind (code f) (table f) n a) (sym reached.ends) ∙ (t.consistent f).next reached.walk w a y reached.is (subst (λ n. In w (branches_at (code f) n)) (sym reached.ends) h) ab e

  -- ---- the `set`s before item i + 1, and what they are set from

  module _ (f i : ℕ) (reached : IsReached (code f) i) (plain-branch : In (onward i) (branches_at (code f) i)) (leap : is_jump (item_at P f i) ≡ false) where
    pub next-reached : IsReached (code f) (suc i)
    next-reached = record {
      walk = onward i ∷ reached.walk;
      is = (contains_in (onward i) (branches_at (code f) (end_of reached.walk)) (subst (λ n. In (onward i) (branches_at (code f) n)) (sym reached.ends) plain-branch), reached.is);
      ends = refl;
    }

    -- the definition that a `set` is from is that of the location whose `get` it serves
    pub set-from : (s : Setting) (k : ℕ) (a : Location) → IsSetBefore P Q table name gets sets f (suc i) s → IsReached (code f) k → (table f).gets k a ≡ Some s.get → behind (code f) (table f) i a ≡ Some s.from
    set-from s k a (Starts b e g h) kr get = absurd cc
    set-from s k a (Falls b p e g h) kr get =
        let same : suc i ≡ k = (t.consistent f).once (suc i) k s.get next-reached kr (Gets b g) (Gets a get) in
        let one : b ≡ a = (t.consistent f).single k s.get b a kr (ap (λ n. (table f).gets n b) (sym same) ∙ g) get in
        let pi : p ≡ i = cc in
        ap (λ n. behind (code f) (table f) n a) (sym pi) ∙ ap (behind (code f) (table f) p) (sym one) ∙ h
    set-from s k a (Leaves b k' l g h) kr get =
        let same : k' ≡ k = (t.consistent f).once k' k s.get (leaves-reached f (suc i) k' next-reached l) kr (Gets b g) (Gets a get) in
        let one : b ≡ a = (t.consistent f).single k s.get b a kr (ap (λ n. (table f).gets n b) (sym same) ∙ g) get in
        agrees f i reached (onward i) a s.from plain-branch refl (ap ((table f).into (suc i)) (sym one) ∙ h)

    pub through-sets : (a : Location) (s : Slot) → HoldsKnown f (suc i) a s → (z : ℕ) × (through_sets (sets f (suc i)) s ≡ InVariable z) × (behind (code f) (table f) i a ≡ Some z)
    through-sets a (InVariable y) h = (y, sets-keep (sets f (suc i)) y, agrees f i reached (onward i) a y plain-branch refl h)
    through-sets a (InShadow y) (inl g) =
        let z = t.sets_fall f i y a reached leap plain-branch g in
        let r = sets-give (sets f (suc i)) y z.0 z.1 in
        (r.0.from, r.3, set-from r.0 (suc i) a (t.sets_are f (suc i) r.0 next-reached r.1) next-reached (g ∙ ap Some (sym r.2)))
    through-sets a (InShadow y) (inr k) =
        let z = t.sets_leave f (suc i) k.0 y a next-reached k.1 k.2 in
        let r = sets-give (sets f (suc i)) y z.0 z.1 in
        (r.0.from, r.3, set-from r.0 k.0 a (t.sets_are f (suc i) r.0 next-reached r.1) (leaves-reached f (suc i) k.0 next-reached k.1) (k.2 ∙ ap Some (sym r.2)))

    -- ---- and the `get`s

    here : (a : Instr) × (item_at P f i ≡ Some a)
    here = some_item f i (onward i) plain-branch

    own : (a : Location) (y : ℕ) → Defines (code f) (table f) i y → (table f).into i a ≡ Some y → ⊥
    own = never-own (code f) (sound f i reached here.0 here.1) (table f) (Args f) (t.consistent f) i reached

    -- what passes an item is no definition of a `get` behind it
    not-got : (a b : Location) (z : ℕ) → (table f).gets i b ≡ Some z → passed (table f) (item_at P f i) i a ≡ Some z → ⊥
    not-got a b z g p =
        let l = (t.consistent f).plain i z b reached g in
        own a z (Gets b g) (sym (ap (λ o. passed (table f) o i a) l.1) ∙ p)

    through-gets : (a : Location) (z : ℕ) → behind (code f) (table f) i a ≡ Some z → HoldsBehind f i a (through_gets (gets f (suc i)) (InVariable z))
    through-gets a z h = by (gets-give (gets f (suc i)) z) ((table f).gets i a) refl h
      where
        by : (In z (gets f (suc i)) × (through_gets (gets f (suc i)) (InVariable z) ≡ InShadow z)) ⊎ ((In z (gets f (suc i)) → ⊥) × (through_gets (gets f (suc i)) (InVariable z) ≡ InVariable z)) → (g : Option ℕ) → (table f).gets i a ≡ g
            → else_passed g (passed (table f) (item_at P f i) i a) ≡ Some z → HoldsBehind f i a (through_gets (gets f (suc i)) (InVariable z))
        by (inl e) None g p = absurd (let b = t.gets_are f i z e.0 in not-got a b.0 z b.1 p)
        by (inl e) (Some u) g p = subst (HoldsBehind f i a) (sym e.1) (g ∙ p)
        by (inr e) None g p = subst (HoldsBehind f i a) (sym e.1) (g, p)
        by (inr e) (Some u) g p = absurd (e.0 (t.gets_all f i z a (g ∙ p)))

    -- all that stands between item i and item i + 1
    between : (a b : Location) → held P Q T base f (suc i) (suc (T f i)) a b → (s : Slot) × HoldsBehind f i a s × On f s b
    between a b (d, (s, holds, stands), e) =
        let ns = length (gets f (suc i)) in
        let ms = length (sets f (suc i)) in
        let start = suc (T f i) in
        let z = through-sets a s holds in
        let after-sets : On f (through_sets (sets f (suc i)) s) (sources Q f ms (start + ns) d) =
        sets-there Q f (name f) (t.injective f) (sets f (suc i)) (start + ns) s d (λ k r q. t.put f (suc i) k r next-reached q) stands in
        let after-gets = gets-there Q f (name f) (t.injective f) (gets f (suc i)) start ms (through_sets (sets f (suc i)) s) d (λ k y q. t.got f (suc i) k y next-reached q) after-sets in
        let count : (suc (T f i) + (ns + ms)) - suc (T f i) ≡ ns + ms = omega arith in
        let there : On f (through_gets (gets f (suc i)) (through_sets (sets f (suc i)) s)) b = subst (On f (through_gets (gets f (suc i)) (through_sets (sets f (suc i)) s))) (sym (e ∙ ap (λ n. sources Q f n start d) count)) after-gets in
        (through_gets (gets f (suc i)) (InVariable z.0), through-gets a z.0 z.2, subst (λ s. On f (through_gets (gets f (suc i)) s) b) z.1 there)

  -- ---- the start

  begins-same : (f : ℕ) (a b : Location) (y : ℕ) → Begins P Q table name gets sets f a y → On f (InVariable y) b → SameLocation (names_in (slice_get P.funcs f)) (names_in (slice_get Q.funcs f)) a b
  begins-same f (Variable x) (Variable y) z h k = (h.0, k.0, h.1 ∙ sym k.1)
  begins-same f (Variable x) (Shadow y) z h k = absurd k
  begins-same f (Shadow x) b z h k = absurd h

  pub zero-reached : (f : ℕ) → IsReached (code f) 0
  zero-reached f = record { walk = []; is = tt; ends = refl }

  pub start-from : (f : ℕ) (s : Setting) (k : ℕ) (a : Location) → IsSetBefore P Q table name gets sets f 0 s → IsReached (code f) k → (table f).gets k a ≡ Some s.get → Begins P Q table name gets sets f a s.from
  start-from f s k a (Starts b e g h) kr get =
      let same : 0 ≡ k = (t.consistent f).once 0 k s.get (zero-reached f) kr (Gets b g) (Gets a get) in
      let one : b ≡ a = (t.consistent f).single k s.get b a kr (ap (λ n. (table f).gets n b) (sym same) ∙ g) get in
      subst (λ x. Begins P Q table name gets sets f x s.from) one h
  start-from f s k a (Falls b p e g h) kr get = absurd cc
  start-from f s k a (Leaves b k' l g h) kr get =
      let same : k' ≡ k = (t.consistent f).once k' k s.get (leaves-reached f 0 k' (zero-reached f) l) kr (Gets b g) (Gets a get) in
      let one : b ≡ a = (t.consistent f).single k s.get b a kr (ap (λ n. (table f).gets n b) (sym same) ∙ g) get in
      t.begin f a s.from (ap ((table f).into 0) (sym one) ∙ h)

  start-sets : (f : ℕ) (a : Location) (s : Slot) → HoldsKnown f 0 a s → (z : ℕ) × (through_sets (sets f 0) s ≡ InVariable z) × Begins P Q table name gets sets f a z
  start-sets f a (InVariable y) h = (y, sets-keep (sets f 0) y, t.begin f a y h)
  start-sets f a (InShadow y) (inl g) =
      let z = t.sets_start f y a g in
      let r = sets-give (sets f 0) y z.0 z.1 in
      (r.0.from, r.3, start-from f r.0 0 a (t.sets_are f 0 r.0 (zero-reached f) r.1) (zero-reached f) (g ∙ ap Some (sym r.2)))
  start-sets f a (InShadow y) (inr k) =
      let z = t.sets_leave f 0 k.0 y a (zero-reached f) k.1 k.2 in
      let r = sets-give (sets f 0) y z.0 z.1 in
      (r.0.from, r.3, start-from f r.0 k.0 a (t.sets_are f 0 r.0 (zero-reached f) r.1) (leaves-reached f 0 k.0 (zero-reached f) k.1) (k.2 ∙ ap Some (sym r.2)))

  starts : (f : ℕ) (a b : Location) → held P Q T base f 0 0 a b → SameLocation (names_in (slice_get P.funcs f)) (names_in (slice_get Q.funcs f)) a b
  starts f a b (d, (s, holds, stands), e) =
      let ms = length (sets f 0) in
      let z = start-sets f a s holds in
      let none : length (gets f 0) ≡ 0 = ap length (t.no_gets f) in
      let after-sets : On f (through_sets (sets f 0) s) (sources Q f ms 0 d) =
      sets-there Q f (name f) (t.injective f) (sets f 0) 0 s d (λ k r q. (let n : 0 + k ≡ 0 + length (gets f 0) + k = omega arith in ap (tree_at Q f) n) ∙ t.put f 0 k r (zero-reached f) q) stands in
      let count : (length (gets f 0) + ms) - 0 ≡ ms = omega arith in
      begins-same f a b z.0 z.2 (subst (λ s. On f s b) z.1 (subst (On f (through_sets (sets f 0) s)) (sym (e ∙ ap (λ n. sources Q f n 0 d) count)) after-sets))

  -- ---- the copies stand in between

  pub split : (n m k : ℕ) → k < n + m → (k < n) ⊎ ((l : ℕ) × (k ≡ n + l) × (l < m))
  split zero m k h = inr (k, omega arith, omega arith)
  split (suc n) m zero h = inl (omega arith)
  split (suc n) m (suc k) h = ⊎_elim (λ l. inl (omega (arith, l))) (λ r. inr (r.0, (let e = r.1 in omega (arith, e)), r.2)) (split n m k (omega arith))

  pub at-index : {X : Type 0} (xs : List X) (k : ℕ) → k < length xs → (x : X) × (slice_get xs k ≡ Some x)
  at-index [] k h = absurd (omega arith)
  at-index (x ∷ xs) zero h = (x, refl)
  at-index (x ∷ xs) (suc k) h = at-index xs k (omega arith)

  get-copies : (f j : ℕ) (y : List ℕ) (ty : Ty) → tree_at Q f j ≡ Some (item.Act (Some (record { name = y; ty = ty })) op.Get [] [] []) → is_copy (item_at Q f j) ≡ true
  get-copies f j y ty tree = by (item_at Q f j) refl
    where
      by_item : (a : Instr) → item_at Q f j ≡ Some a → is_copy (Some a) ≡ true
      by_item (Label l) e = absurd (let h = sym (found Q f j (Label l) e).tree ∙ tree in cc)
      by_item (Const d s v) e = absurd (let h = sym (found Q f j (Const d s v) e).tree ∙ tree in cc)
      by_item (Act d s o args fns ls) e = let h = sym (found Q f j (Act d s o args fns ls) e).tree ∙ tree in let eo : op.Get ≡ o = cc in subst (λ z. is_copy (Some (Act d s z args fns ls)) ≡ true) eo refl

      by : (o : Option Instr) → item_at Q f j ≡ o → is_copy o ≡ true
      by None e = absurd (let h = sym (nothing_at Q f j e) ∙ tree in cc)
      by (Some a) e = by_item a e

  set-copies : (f j : ℕ) (y z : List ℕ) → tree_at Q f j ≡ Some (item.Act None op.Set (y ∷ z ∷ []) [] []) → is_copy (item_at Q f j) ≡ true
  set-copies f j y z tree = by (item_at Q f j) refl
    where
      by_item : (a : Instr) → item_at Q f j ≡ Some a → is_copy (Some a) ≡ true
      by_item (Label l) e = absurd (let h = sym (found Q f j (Label l) e).tree ∙ tree in cc)
      by_item (Const d s v) e = absurd (let h = sym (found Q f j (Const d s v) e).tree ∙ tree in cc)
      by_item (Act d s o args fns ls) e = let h = sym (found Q f j (Act d s o args fns ls) e).tree ∙ tree in let eo : op.Set ≡ o = cc in subst (λ z. is_copy (Some (Act d s z args fns ls)) ≡ true) eo refl

      by : (o : Option Instr) → item_at Q f j ≡ o → is_copy o ≡ true
      by None e = absurd (let h = sym (nothing_at Q f j e) ∙ tree in cc)
      by (Some a) e = by_item a e

  pub home-is : (f i : ℕ) → T f i ≡ L f i + (length (gets f i) + length (sets f i))
  home-is f zero = omega arith
  home-is f (suc i) = refl

  pub low-is : (f i : ℕ) → low P Q T base f i ≡ L f i
  low-is f zero = refl
  low-is f (suc i) = refl

  are-copies : (f i j : ℕ) → IsReached (code f) i → L f i ≤ j → j < T f i → is_copy (item_at Q f j) ≡ true
  are-copies f i j reached low' high = by (split (length (gets f i)) (length (sets f i)) (j - L f i) (let h = home-is f i in omega (arith, h)))
    where
      by : (j - L f i < length (gets f i)) ⊎ ((l : ℕ) × (j - L f i ≡ length (gets f i) + l) × (l < length (sets f i))) → is_copy (item_at Q f j) ≡ true
      by (inl h) =
          let y = at-index (gets f i) (j - L f i) h in
          let g = t.got f i (j - L f i) y.0 reached y.1 in
          let e : L f i + (j - L f i) ≡ j = omega arith in
          get-copies f j (name f y.0) g.0 (ap (tree_at Q f) (sym e) ∙ g.1)
      by (inr r) =
          let s = at-index (sets f i) r.0 r.2 in
          let q = r.1 in
          let e : L f i + length (gets f i) + r.0 ≡ j = omega (arith, q) in
          set-copies f j (name f s.0.get) (name f s.0.from) (ap (tree_at Q f) (sym e) ∙ t.put f i r.0 s.0 reached s.1)

  -- ---- at the items

  next-locations : (f i : ℕ) (a b : Location) → IsReached (code f) i → is_copy (item_at P f i) ≡ false → is_jump (item_at P f i) ≡ false → In (onward i) (branches_at (code f) i) → held P Q T base f (suc i) (suc (T f i)) a b
      → (In a (assigns_at (item_at P f i)) × IsNamed (names_in (slice_get Q.funcs f)) b (name f ((table f).writes i))) ⊎ ((In a (assigns_at (item_at P f i)) → ⊥) × ((x : ℕ) → destination (item_at P f i) ≡ Some x → IsNamed (names_in (slice_get Q.funcs f)) b (name f ((table f).writes i)) → ⊥) × base f i a b)
  next-locations f i a b reached copy leap branch h = let s = between f i reached branch leap a b h in by s.0 s.1 s.2
    where
      Goal : Type 0
      Goal = (In a (assigns_at (item_at P f i)) × IsNamed (names_in (slice_get Q.funcs f)) b (name f ((table f).writes i))) ⊎ ((In a (assigns_at (item_at P f i)) → ⊥) × ((x : ℕ) → destination (item_at P f i) ≡ Some x → IsNamed (names_in (slice_get Q.funcs f)) b (name f ((table f).writes i)) → ⊥) × base f i a b)

      is-named : (y z : ℕ) (b : Location) → On f (InVariable y) b → y ≡ z → IsNamed (names_in (slice_get Q.funcs f)) b (name f z)
      is-named y z (Variable x) h e = (h.0, h.1 ∙ ap (name f) e)
      is-named y z (Shadow x) h e = absurd h

      named-is : (y z : ℕ) (b : Location) → On f (InVariable y) b → IsNamed (names_in (slice_get Q.funcs f)) b (name f z) → y ≡ z
      named-is y z (Variable x) h k = t.injective f y z (sym h.1 ∙ k.1)
      named-is y z (Shadow x) h k = absurd h

      shadow-not : (y : ℕ) (b : Location) (n : List ℕ) → On f (InShadow y) b → IsNamed (names_in (slice_get Q.funcs f)) b n → ⊥
      shadow-not y (Variable x) n h k = h
      shadow-not y (Shadow x) n h k = k

      by_test : (z : ℕ) → On f (InVariable z) b → (d : Bool) → is_dest (destination (item_at P f i)) a ≡ d → cond d (Some ((table f).writes i)) ((table f).into i a) ≡ Some z → Goal
      by_test z stands true e p = inl (subst (In a) (sym (assigned-plain (item_at P f i) copy)) (dest-in (destination (item_at P f i)) a e), is-named z ((table f).writes i) b stands (sym (same_Some _ _ p)))
      by_test z stands false e p = inr (
        (λ k. dest-out (destination (item_at P f i)) a e (subst (In a) (assigned-plain (item_at P f i) copy) k)),
        (λ x d k. own f i reached branch leap a z (Writes x copy d (sym (named-is z ((table f).writes i) b stands k))) p),
        (InVariable z, p, stands),
      )

      by : (s : Slot) → HoldsBehind f i a s → On f s b → Goal
      by (InVariable z) h stands =
          by_test z stands (is_dest (destination (item_at P f i)) a) refl (ap (λ d. cond d ((table f).into i (source (item_at P f i) a)) (cond (is_dest (destination (item_at P f i)) a) (Some ((table f).writes i)) ((table f).into i a))) (sym copy) ∙ h.1)
      by (InShadow y) h stands =
          let l = (t.consistent f).plain i y a reached h in
          inr ((λ k. subst (In a) (ap assigns_at l.1) k), (λ x d k. shadow-not y b (name f ((table f).writes i)) stands k), (InShadow y, inl h, stands))

  copied-locations : (f i : ℕ) (a b : Location) → IsReached (code f) i → is_copy (item_at P f i) ≡ true → held P Q T base f (suc i) (suc (T f i)) a b → base f i (source (item_at P f i) a) b
  copied-locations f i a b reached copy h = let s = between f i reached onward-branch (no-jump (item_at P f i) copy) a b h in by s.0 s.1 s.2
    where
      no-jump : (o : Option Instr) → is_copy o ≡ true → is_jump o ≡ false
      no-jump None e = refl
      no-jump (Some (Label l)) e = refl
      no-jump (Some (Const d ty v)) e = refl
      no-jump (Some (Act d ty op.Jmp args fns ls)) e = absurd cc
      no-jump (Some (Act d ty op.Br args fns ls)) e = absurd cc
      no-jump (Some (Act d ty _ args fns ls)) e = refl

      goes : (o : Option Instr) → is_copy o ≡ true → In (onward i) (branches_from (code f) i o)
      goes None e = absurd cc
      goes (Some (Label l)) e = absurd cc
      goes (Some (Const d ty v)) e = absurd cc
      goes (Some (Act d ty op.Get args fns ls)) e = inl refl
      goes (Some (Act d ty op.Set args fns ls)) e = inl refl
      goes (Some (Act d ty _ args fns ls)) e = absurd cc

      onward-branch : In (onward i) (branches_at (code f) i)
      onward-branch = goes (item_at P f i) copy

      by : (s : Slot) → HoldsBehind f i a s → On f s b → base f i (source (item_at P f i) a) b
      by (InVariable z) h stands = (InVariable z, ap (λ d. cond d ((table f).into i (source (item_at P f i) a)) (cond (is_dest (destination (item_at P f i)) a) (Some ((table f).writes i)) ((table f).into i a))) (sym copy) ∙ h.1, stands)
      by (InShadow y) h stands = absurd (let l = (t.consistent f).plain i y a reached h in let x : false ≡ true = ap is_copy (sym l.1) ∙ copy in cc)

  -- no `set`s stand before a label because of what leaves it
  label-leaves : (f k : ℕ) (n : List ℕ) → tree_at P f k ≡ Some (item.Label n) → (k' : ℕ) → LeavesTo (code f) k k' → ⊥
  label-leaves f k n tree k' (Jumps w l h e) = let x = label-at P f k n tree in let y : false ≡ true = sym (ap is_jump x.1) ∙ l in cc
  label-leaves f k n tree k' (Aborts walk w sites is h ab open_sites e) = let x = label-at P f k n tree in label-no_site (code f) walk k x.0 (subst (In k) (sym open_sites) (inl refl)) x.1

  jump-locations : (f i : ℕ) (w : Branch) (n : List ℕ) (a b : Location) → IsReached (code f) i → is_jump (item_at P f i) ≡ true → In w (branches_at (code f) i) → tree_at P f w.to ≡ Some (item.Label n) → base f w.to a b → base f i a b
  jump-locations f i w n a b reached leap h tree (InVariable y, holds, stands) =
      (InVariable y, by ((table f).gets i a) refl (agrees f i reached w a y h (jump-goes (code f) i (item_at P f i) w leap h) holds), stands)
    where
      o : (q : Instr) × (item_at P f i ≡ Some q)
      o = some_item f i w h

      none : destination (item_at P f i) ≡ None
      none = ap destination o.1 ∙ jump-none (shaped_here P accepted f i o.0 o.1).ret o.0 (shaped_here P accepted f i o.0 o.1).shaped (ap is_jump (sym o.1) ∙ leap)

      by : (g : Option ℕ) → (table f).gets i a ≡ g → else_passed g (passed (table f) (item_at P f i) i a) ≡ Some y → (table f).into i a ≡ Some y
      by None g p =
          sym (ap (λ d. cond d (Some ((table f).writes i)) ((table f).into i a)) (ap (λ d. is_dest d a) none))
          ∙ sym (ap (λ d. cond d ((table f).into i (source (item_at P f i) a)) (cond (is_dest (destination (item_at P f i)) a) (Some ((table f).writes i)) ((table f).into i a))) (jump-copies (item_at P f i) leap)) ∙ p
      by (Some u) g p = absurd (let l = (t.consistent f).plain i u a reached g in let x : false ≡ true = sym (ap is_jump l.1) ∙ leap in cc)
  jump-locations f i w n a b reached leap h tree (InShadow y, inl g, stands) = (InShadow y, inr (w.to, Jumps w leap h refl, g), stands)
  jump-locations f i w n a b reached leap h tree (InShadow y, inr k, stands) = absurd (label-leaves f w.to n tree k.0 k.1)

  back-locations : (f : ℕ) (w : Branch) (n : List ℕ) (walk : List Branch) → IsWalk (code f) walk → In w (branches_at (code f) (end_of walk)) → w.aborts ≡ true → tree_at P f w.to ≡ Some (item.Label n) → (s : ℕ) (sites : List ℕ) → sites_of (code f) walk ≡ s ∷ sites → (a b : Location) → base f w.to a b → base f s a b
  back-locations f w n walk is h ab tree s sites e a b (InVariable y, holds, stands) = (InVariable y, (t.consistent f).back walk w a y is h ab s sites e holds, stands)
  back-locations f w n walk is h ab tree s sites e a b (InShadow y, inl g, stands) = (InShadow y, inr (w.to, Aborts walk w sites is h ab e refl, g), stands)
  back-locations f w n walk is h ab tree s sites e a b (InShadow y, inr k, stands) = absurd (label-leaves f w.to n tree k.0 k.1)

  pub is-inserted : AreInserted P Q T base c
  is-inserted = record {
    heads = t.heads;
    order = λ f i. (let h = home-is f i in let l = low-is f i in omega (arith, h, l));
    few = λ f i. (let h = home-is f i in let l = low-is f i in let m = t.few f i in omega (arith, h, l, m));
    copies = λ f i j reached low' high. are-copies f i j reached (let l = low-is f i in omega (arith, l, low')) high;
    reads = λ f i x. name_of P Q table name gets sets f ((table f).into i (Variable x));
    writes = λ f i. name f ((table f).writes i);
    same = t.same;
    gone = t.gone;
    start = starts;
    read = λ f i a x y reached at copy among within named.
        let u = t.read f i x a reached at copy among in
        (InVariable u.0, u.1, (within, named ∙ ap (name_of P Q table name gets sets f) u.1));
    next = next-locations;
    copied = copied-locations;
    jumps = jump-locations;
    back = back-locations;
  }

pub laid-refine : LaidRefine
laid-refine P Q table name gets sets c accepted t = copies-refine P Q (home P Q table name gets sets) (base P Q table name gets sets c accepted t) c accepted (is-inserted P Q table name gets sets c accepted t)
