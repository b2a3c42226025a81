-- A location that has a definition at a point was assigned on each walk to it.
use Rattle.std.proofs.Common.{◌≡◌, ◌⊎◌, ℕ, zero, suc, ◌<◌, ◌≤◌, Bool, true, false, List, [], ◌∷◌, length, map, Option, Some, None, refl, sym, ap, subst, ◌∙◌, inl, inr, ⊎_elim, cond, arith}
use Rattle.std.specs.Prelude.{slice_get}
use Rattle.std.specs.List.{range_with_len}
use Rattle.bril_tree.specs.declared.numbered.Instr.{Instr}
use Rattle.bril_tree.specs.declared.numbered.Instr.TheVariants.{Label, Const, Act}
use Rattle.bril_tree.specs.declared.operation.Op.TheVariants as op
use Rattle.bril_tree.specs.declared.program.Prog.{Prog}
use Rattle.bril_tree.specs.Accepted.{IsAccepted}
use Rattle.bril_tree.specs.Assigned.{Assigned, assigned_of, assigned_changed, newest_saved, assigns_at}
use Rattle.bril_tree.specs.Edge.{Branch, branches_at, branches_from, onward, abort}
use Rattle.bril_tree.specs.Operand.{Location, Variable}
use Rattle.bril_tree.specs.Sites.{Change, Opens, Closes, Keeps, change_of, item_change, sites_of, sites_changed, without_newest}
use Rattle.bril_tree.specs.Step.{code_of}
use Rattle.bril_tree.specs.Walk.{IsWalk, IsReached, end_of}
use Rattle.bril_tree.specs.Membership.{In}
use Rattle.bril_tree.proofs.Members.{in_contains, in_append_left, in_append_right, in_map_source}
use Rattle.pass_edit_laws.proofs.lemmas.steps.Shapes.{shaped_here}
use Rattle.flow_graph.proofs.Told.{some_site}
use Rattle.bril_tree.proofs.Branches.{branches_from-leave}
use Rattle.bril_tree.proofs.Shapes.{none_assigned}
use Rattle.bril_tree.proofs.Branches.{aborts-close}
use Rattle.bril_tree.proofs.Shapes.{closing_needs}
use Rattle.ssa_laws.specs.inserted_copies.Inserted.{is_copy, is_jump, destination, source}
use Rattle.ssa_laws.specs.reaching_definitions.Tables.{Tables, is_dest, passed, else_passed, behind, Gets}
use Rattle.ssa_laws.specs.layout.Laid.{Setting, LeavesTo, Jumps, Aborts, Begins, IsSetBefore, Starts, Falls, Leaves, Laid}
use Rattle.ssa_laws.proofs.lemmas.layout.Refines.{agrees, start-from, set-from, leaves-reached, zero-reached, next-reached, sound, some_item}
use Rattle.ssa_laws.proofs.lemmas.reaching_definitions.Items.{label-no_site, assigned-plain, dest-in}
use Rattle.ssa_laws.proofs.lemmas.inserted_copies.Walks.{behind-copy}

-- an item that doesn't go to its labels alone, and no abort, goes on
goes-on : (code : List Instr) (i : ℕ) (o : Option Instr) (w : Branch) → is_jump o ≡ false → In w (branches_from code i o) → w.aborts ≡ false → w ≡ onward i
goes-on code i None w l h e = absurd h
goes-on code i (Some (Label x)) w l h e = ⊎_elim (λ s. s) (λ n. absurd n) h
goes-on code i (Some (Const d ty v)) w l h e = ⊎_elim (λ s. s) (λ n. absurd n) h
goes-on code i (Some (Act d ty op.Jmp args fns ls)) w l h e = absurd cc
goes-on code i (Some (Act d ty op.Br args fns ls)) w l h e = absurd cc
goes-on code i (Some (Act d ty op.Ret args fns ls)) w l h e = absurd h
goes-on code i (Some (Act d ty op.Guard args fns ls)) w l h e = ⊎_elim (λ s. s) (λ n. absurd (let s = in_map_source (abort code i) w ls n in let x = ap (λ (x : Branch). x.aborts) s.2 in cc)) h
goes-on code i (Some (Act d ty _ args fns ls)) w l h e = ⊎_elim (λ s. s) (λ n. absurd n) h

-- ---- what is saved was assigned on a walk to its site

module _ (code : List Instr) (args : ℕ) where
  pub record SavedAt (w : List Branch) (s : ℕ) (p : List Location) : Type 0 where
    pub walk : List Branch
    pub shorter : length walk < length w
    pub is : IsWalk code walk
    pub ends : end_of walk ≡ s
    pub locations : p ≡ (assigned_of code args walk).locations

  abbrev pub SavedBy : List Branch → List ℕ → List (List Location) → Type 0
  SavedBy w [] [] = Unit {0}
  SavedBy w (s ∷ ss) (p ∷ ps) = SavedAt w s p × SavedBy w ss ps
  SavedBy w _ _ = ⊥

  later : (x : Branch) (w : List Branch) (ss : List ℕ) (ps : List (List Location)) → SavedBy w ss ps → SavedBy (x ∷ w) ss ps
  later x w [] [] h = tt
  later x w (s ∷ ss) (p ∷ ps) h = (record { walk = h.0.walk; shorter = (let l = h.0.shorter in omega arith); is = h.0.is; ends = h.0.ends; locations = h.0.locations }, later x w ss ps h.1)
  later x w [] (p ∷ ps) h = absurd h
  later x w (s ∷ ss) [] h = absurd h

  rest : (w : List Branch) (ss : List ℕ) (ps : List (List Location)) → SavedBy w ss ps → SavedBy w (without_newest ss) (without_newest ps)
  rest w [] [] h = tt
  rest w (s ∷ ss) (p ∷ ps) h = h.1
  rest w [] (p ∷ ps) h = absurd h
  rest w (s ∷ ss) [] h = absurd h

  pub saved-walks : (w : List Branch) → IsWalk code w → SavedBy w (sites_of code w) (assigned_of code args w).saved
  saved-walks [] is = tt
  saved-walks (x ∷ w) is = by (change_of code x) (saved-walks w is.1)
    where
      by : (c : Change) → SavedBy w (sites_of code w) (assigned_of code args w).saved
          → SavedBy (x ∷ w) (sites_changed c x.from (sites_of code w)) (assigned_changed c (assigns_at (slice_get code x.from)) x.aborts (assigned_of code args w)).saved
      by Opens h = (
        record { walk = w; shorter = omega arith; is = is.1; ends = sym (branches_from-leave code (end_of w) (slice_get code (end_of w)) x (in_contains x (branches_at code (end_of w)) is.0)); locations = refl },
        later x w (sites_of code w) (assigned_of code args w).saved h,
      )
      by Closes h = later x w (without_newest (sites_of code w)) (without_newest (assigned_of code args w).saved) (rest w (sites_of code w) (assigned_of code args w).saved h)
      by Keeps h = later x w (sites_of code w) (assigned_of code args w).saved h

module _ (P Q : Prog) (table : ℕ → Tables) (name : ℕ → ℕ → List ℕ) (gets : ℕ → ℕ → List ℕ) (sets : ℕ → ℕ → List Setting) (c : ℕ) (accepted : IsAccepted P) (t : Laid P Q table name gets sets c) (f args : ℕ)
    (begun : (a : Location) (y : ℕ) → Begins P Q table name gets sets f a y → In a (map Variable (range_with_len 0 args))) where
  abbrev code : List Instr
  code = code_of P f

  abbrev T : Tables
  T = table f

  -- a `set` before an item that is no label serves what leaves there
  leave-from : (i k : ℕ) (a : Location) (s : Setting) → IsReached code i → ((l : ℕ) → slice_get code i ≡ Some (Label l) → ⊥) → LeavesTo code i k → T.gets k a ≡ Some s.get → IsSetBefore P Q table name gets sets f i s → T.into i a ≡ Some s.from
  leave-from i k a s reached none leaves get (Starts b e g h) = absurd (let l = (t.consistent f).plain 0 s.get b (zero-reached P Q table name gets sets c accepted t f) g in none l.0 (ap (slice_get code) e ∙ l.1))
  leave-from i k a s reached none leaves get (Falls b p e g h) = absurd (let l = (t.consistent f).plain i s.get b reached g in none l.0 l.1)
  leave-from i k a s reached none leaves get (Leaves b k' l g h) =
      let kr = leaves-reached P Q table name gets sets c accepted t f i k reached leaves in
      let same : k' ≡ k = (t.consistent f).once k' k s.get (leaves-reached P Q table name gets sets c accepted t f i k' reached l) kr (Gets b g) (Gets a get) in
      let one : b ≡ a = (t.consistent f).single k s.get b a kr (ap (λ n. T.gets n b) (sym same) ∙ g) get in
      ap (T.into i) (sym one) ∙ h

  leap-no_label : (o : Option Instr) → is_jump o ≡ true → (l : ℕ) → o ≡ Some (Label l) → ⊥
  leap-no_label o e l at = let x : false ≡ true = sym (ap is_jump at) ∙ e in cc

  -- ---- what a branch adds

  module _ (x : Branch) (w : List Branch) (among : In x (branches_at code (end_of w))) (ab : x.aborts ≡ false) where
    abbrev i : ℕ
    i = end_of w

    from-i : x.from ≡ i
    from-i = branches_from-leave code i (slice_get code i) x among

    behind-is : assigned_of code args (x ∷ w) ≡ assigned_changed (item_change (slice_get code i) false) (assigns_at (slice_get code i)) false (assigned_of code args w)
    behind-is = ap (λ n. assigned_changed (item_change (slice_get code n) x.aborts) (assigns_at (slice_get code n)) x.aborts (assigned_of code args w)) from-i
        ∙ ap (λ b. assigned_changed (item_change (slice_get code i) b) (assigns_at (slice_get code i)) b (assigned_of code args w)) ab

    grows : (a : Location) → In a (assigned_of code args w).locations → In a (assigned_of code args (x ∷ w)).locations
    grows a h = subst (λ (z : Assigned). In a z.locations) (sym behind-is) (by (item_change (slice_get code i) false))
      where
        by : (c : Change) → In a (assigned_changed c (assigns_at (slice_get code i)) false (assigned_of code args w)).locations
        by Opens = h
        by Closes = h
        by Keeps = in_append_right a (assigns_at (slice_get code i)) (assigned_of code args w).locations h

    adds : (a : Location) → In a (assigns_at (slice_get code i)) → In a (assigned_of code args (x ∷ w)).locations
    adds a h = subst (λ (z : Assigned). In a z.locations) (sym behind-is) (by (item_change (slice_get code i) false) refl)
      where
        none : (item_change (slice_get code i) false ≡ Keeps → ⊥) → ⊥
        none n = by_item (slice_get code i) refl
          where
            by_item : (o : Option Instr) → slice_get code i ≡ o → ⊥
            by_item None e = subst (λ o. In a (assigns_at o)) e h
            by_item (Some b) e =
                let s = shaped_here P accepted f i b e in
                subst (In a) (none_assigned s.ret b false s.shaped (λ k. n (ap (λ o. item_change o false) e ∙ k))) (subst (λ o. In a (assigns_at o)) e h)

        by : (c : Change) → item_change (slice_get code i) false ≡ c → In a (assigned_changed c (assigns_at (slice_get code i)) false (assigned_of code args w)).locations
        by Opens e = absurd (none (λ k. let z : Opens ≡ Keeps = sym e ∙ k in cc))
        by Closes e = absurd (none (λ k. let z : Closes ≡ Keeps = sym e ∙ k in cc))
        by Keeps e = in_append_left a (assigns_at (slice_get code i)) (assigned_of code args w).locations h

    -- what has a definition behind the item
    behind-adds : ((a : Location) (y : ℕ) → (T.into i a ≡ Some y) ⊎ (T.gets i a ≡ Some y) → In a (assigned_of code args w).locations) → (a : Location) (y : ℕ) → behind code T i a ≡ Some y → In a (assigned_of code args (x ∷ w)).locations
    behind-adds rec a y h = by_get (T.gets i a) refl h
      where
        by_item : (o : Option Instr) → slice_get code i ≡ o → (d e : Bool) → is_copy o ≡ d → is_dest (destination o) a ≡ e → cond d (T.into i (source o a)) (cond e (Some (T.writes i)) (T.into i a)) ≡ Some y → In a (assigned_of code args (x ∷ w)).locations
        by_item None at true e dc de p = absurd (let z : false ≡ true = dc in cc)
        by_item (Some b) at true e dc de p =
            ⊎_elim (λ k. adds a (subst (λ o. In a (assigns_at o)) (sym at) k)) (λ k. grows a (subst (λ z. In z (assigned_of code args w).locations) k (rec (source (Some b) a) y (inl p)))) (behind-copy b a dc)
        by_item o at false true dc de p = adds a (subst (λ o. In a (assigns_at o)) (sym at) (subst (In a) (sym (assigned-plain o dc)) (dest-in (destination o) a de)))
        by_item o at false false dc de p = grows a (rec a y (inl p))

        by_get : (g : Option ℕ) → T.gets i a ≡ g → else_passed g (passed T (slice_get code i) i a) ≡ Some y → In a (assigned_of code args (x ∷ w)).locations
        by_get None e p = by_item (slice_get code i) refl (is_copy (slice_get code i)) (is_dest (destination (slice_get code i)) a) refl refl p
        by_get (Some z) e p = grows a (rec a z (inr e))

  -- ---- all walks

  pub available : (m : ℕ) (w : List Branch) → length w ≤ m → IsWalk code w → (a : Location) (y : ℕ) → (T.into (end_of w) a ≡ Some y) ⊎ (T.gets (end_of w) a ≡ Some y) → In a (assigned_of code args w).locations
  available m [] l is a y (inl h) = begun a y (t.begin f a y h)
  available m [] l is a y (inr g) =
      let z = t.sets_start f y a g in
      let r = zero-reached P Q table name gets sets c accepted t f in
      begun a z.0 (start-from P Q table name gets sets c accepted t f (record { get = y; from = z.0 }) 0 a (t.sets_are f 0 (record { get = y; from = z.0 }) r z.1) r g)
  available zero (x ∷ w) l is a y h = absurd (omega arith)
  available (suc m) (x ∷ w) l is a y h = by (λ u k is' b z e. available m u k is' b z e) x.aborts refl
    where
      Rec : Type 0
      Rec = (u : List Branch) → length u ≤ m → IsWalk code u → (b : Location) (z : ℕ) → (T.into (end_of u) b ≡ Some z) ⊎ (T.gets (end_of u) b ≡ Some z) → In b (assigned_of code args u).locations

      among : In x (branches_at code (end_of w))
      among = in_contains x (branches_at code (end_of w)) is.0

      reached : IsReached code (end_of w)
      reached = record { walk = w; is = is.1; ends = refl }

      -- a branch that is no abort
      plain : Rec → x.aborts ≡ false → (T.into x.to a ≡ Some y) ⊎ (T.gets x.to a ≡ Some y) → In a (assigned_of code args (x ∷ w)).locations
      plain rec ab (inl e) = behind-adds x w among ab (λ b z q. rec w (omega arith) is.1 b z q) a y (agrees P Q table name gets sets c accepted t f (end_of w) reached x a y among ab e)
      plain rec ab (inr g) = by_leap (is_jump (slice_get code (end_of w))) refl
        where
          by_leap : (d : Bool) → is_jump (slice_get code (end_of w)) ≡ d → In a (assigned_of code args (x ∷ w)).locations
          by_leap true e =
              let leaves : LeavesTo code (end_of w) x.to = Jumps x e among refl in
              let z = t.sets_leave f (end_of w) x.to y a reached leaves g in
              let s : Setting = record { get = y; from = z.0 } in
              grows x w among ab a (rec w (omega arith) is.1 a z.0 (inl (leave-from (end_of w) x.to a s reached (λ l at. leap-no_label (slice_get code (end_of w)) e l at) leaves g (t.sets_are f (end_of w) s reached z.1))))
          by_leap false e =
              let on : x ≡ onward (end_of w) = goes-on code (end_of w) (slice_get code (end_of w)) x e among ab in
              let branch : In (onward (end_of w)) (branches_at code (end_of w)) = subst (λ b. In b (branches_at code (end_of w))) on among in
              let g' : T.gets (suc (end_of w)) a ≡ Some y = ap (λ (b : Branch). T.gets b.to a) (sym on) ∙ g in
              let z = t.sets_fall f (end_of w) y a reached e branch g' in
              let s : Setting = record { get = y; from = z.0 } in
              let nr = next-reached P Q table name gets sets c accepted t f (end_of w) reached branch e in
              behind-adds x w among ab (λ b z q. rec w (omega arith) is.1 b z q) a z.0 (set-from P Q table name gets sets c accepted t f (end_of w) reached branch e s (suc (end_of w)) a (t.sets_are f (suc (end_of w)) s nr z.1) nr g')

      -- an abort: what was assigned at its site
      at_site : Rec → x.aborts ≡ true → (ss : List ℕ) (ps : List (List Location)) → sites_of code w ≡ ss → SavedBy code args w ss ps → In a (newest_saved (assigned_of code args w).locations ps)
      at_site rec ab [] ps e sv =
          let o = some_item P Q table name gets sets c accepted t f (end_of w) x among in
          absurd (some_site code w (sound P Q table name gets sets c accepted t f (end_of w) reached o.0 o.1) is.1 (closing_needs (slice_get code (end_of w)) true (aborts-close code (end_of w) (slice_get code (end_of w)) x among ab)) e)
      at_site rec ab (s ∷ ss) [] e sv = absurd sv
      at_site rec ab (s ∷ ss) (p ∷ ps) e sv =
          let u = sv.0 in
          let sr : IsReached code s = record { walk = u.walk; is = u.is; ends = u.ends } in
          let none : (l : ℕ) → slice_get code s ≡ Some (Label l) → ⊥ = λ l at. label-no_site code w s l (subst (In s) (sym e) (inl refl)) at in
          let go : (z : ℕ) → T.into s a ≡ Some z → In a p = λ z q. subst (In a) (sym u.locations) (rec u.walk (let k = u.shorter in omega arith) u.is a z (inl (ap (λ n. T.into n a) u.ends ∙ q))) in
          ⊎_elim (λ q. go y ((t.consistent f).back w x a y is.1 among ab s ss e q))
          (λ g.
          let leaves : LeavesTo code s x.to = Aborts w x ss is.1 among ab e refl in
          let z = t.sets_leave f s x.to y a sr leaves g in
          let st : Setting = record { get = y; from = z.0 } in
          go z.0 (leave-from s x.to a st sr none leaves g (t.sets_are f s st sr z.1))) h

      by : Rec → (b : Bool) → x.aborts ≡ b → In a (assigned_of code args (x ∷ w)).locations
      by rec false e = plain rec e h
      by rec true e =
          let close = aborts-close code (end_of w) (slice_get code (end_of w)) x among e in
          let fi = branches_from-leave code (end_of w) (slice_get code (end_of w)) x among in
          let is' : assigned_of code args (x ∷ w) ≡ assigned_changed Closes (assigns_at (slice_get code (end_of w))) true (assigned_of code args w) =
          ap (λ n. assigned_changed (item_change (slice_get code n) x.aborts) (assigns_at (slice_get code n)) x.aborts (assigned_of code args w)) fi
          ∙ ap (λ b. assigned_changed (item_change (slice_get code (end_of w)) b) (assigns_at (slice_get code (end_of w))) b (assigned_of code args w)) e
          ∙ ap (λ c. assigned_changed c (assigns_at (slice_get code (end_of w))) true (assigned_of code args w)) close in
          subst (λ (z : Assigned). In a z.locations) (sym is') (at_site rec e (sites_of code w) (assigned_of code args w).saved refl (saved-walks code args w is.1))
