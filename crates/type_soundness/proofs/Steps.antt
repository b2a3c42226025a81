-- Each step of an accepted program keeps the invariant.
use Rattle.std.proofs.Common.{◌≡◌, ℕ, false, List, [], ◌∷◌, ◌++◌, map, Option, Some, None, refl, sym, ap, subst, ◌∙◌, inl, inr}
use Rattle.std.specs.Prelude.{slice_get, slice_index}
use Rattle.bril_tree.specs.declared.limits.Limits.{Limits}
use Rattle.bril_tree.specs.declared.numbered.Instr.{Instr}
use Rattle.bril_tree.specs.declared.numbered.Instr.TheVariants.{Act}
use Rattle.bril_tree.specs.declared.numbered_function.Func.{Func}
use Rattle.bril_tree.specs.declared.operation.Op.TheVariants as op
use Rattle.bril_tree.specs.declared.program.Prog.{Prog}
use Rattle.bril_tree.specs.declared.types.Ty.{Ty}
use Rattle.bril_tree.specs.declared.value.Value.{Value}
use Rattle.bril_tree.specs.Assigned.{Assigned, assigns_of, assigned_changed, newest_saved}
use Rattle.bril_tree.specs.Edge.{item_branches, onward, jump, abort}
use Rattle.bril_tree.specs.FunctionForm.{listed}
use Rattle.bril_tree.specs.Operand.{Location, Variable, dest_of}
use Rattle.bril_tree.specs.Sites.{Keeps, item_change, without_newest}
use Rattle.bril_tree.specs.State.{Locals, Frame, Block}
use Rattle.bril_tree.specs.Step.{point_of, at_point, advanced, with_locations, assigned, shadowed, dropped, saved}
use Rattle.bril_tree.specs.Typing.{variable_type}
use Rattle.bril_tree.specs.Membership.{In}
use Rattle.bril_tree.proofs.Members.{in_map}
use Rattle.type_soundness.proofs.Frames.{Covers, AllCover, Covers-assigned, Covers-shadowed, Sits, before, goes, goes-onward}
use Rattle.type_soundness.proofs.Invariant.{Stack, Stands}
use Rattle.type_soundness.proofs.Operands.{GoesOn}
use Rattle.type_soundness.proofs.Typed.{Cell, HasType}

-- ---- the newest frame goes on

module _ (p : Prog) (blocks : List Block) (frame : Frame) (older : List Frame) (st : Stands p blocks frame older) where
  -- the newest frame changes, and nothing else
  moved : (g : Frame) → g.function ≡ frame.function → Sits p st.heap st.function g → Stands p blocks g older
  moved g same sits = record { heap = st.heap; memory = st.memory; function = st.function; sits = sits; stack = subst (λ k. Stack p st.heap k older) (sym same) st.stack }

  -- a value for the destination, and the next point
  pub gives-stands : (item : Instr) (v : Value) → slice_get st.function.code frame.point ≡ Some item → GoesOn item → ((x : ℕ) → dest_of item ≡ Some x → HasType st.heap (variable_type st.function.vars x) v)
      → Stands p blocks (advanced (with_locations (assigned (dest_of item) v frame.locations) frame)) older
  gives-stands item v at on typed =
      let now = before p st.heap st.function frame st.sits in
      let covers = Covers-assigned st.heap st.function (dest_of item) v frame.locations now.locations typed st.sits.locations in
      moved _ refl (goes-onward p st.heap st.function frame st.sits item (assigned (dest_of item) v frame.locations) at (on.branch st.function.code frame.point) on.keeps
      (subst (λ list. Covers st.heap st.function (assigned (dest_of item) v frame.locations) (list ++ now.locations)) (sym on.assigns) covers))

  -- the next point alone
  pub advances-stands : (item : Instr) → slice_get st.function.code frame.point ≡ Some item → GoesOn item → dest_of item ≡ None → Stands p blocks (advanced frame) older
  advances-stands item at on none =
      let now = before p st.heap st.function frame st.sits in
      let assigns_none : assigns_of item ≡ [] = on.assigns ∙ ap (λ o. map Variable (listed o)) none in
      moved _ refl (goes-onward p st.heap st.function frame st.sits item frame.locations at (on.branch st.function.code frame.point) on.keeps
      (subst (λ list. Covers st.heap st.function frame.locations (list ++ now.locations)) (sym assigns_none) st.sits.locations))

  -- to a label
  pub jumps-stands : (item : Instr) (l : ℕ) → slice_get st.function.code frame.point ≡ Some item → In (jump st.function.code frame.point l) (item_branches st.function.code frame.point item) → item_change (Some item) false ≡ Keeps → assigns_of item ≡ []
      → Stands p blocks (at_point (point_of l st.function.code) frame) older
  jumps-stands item l at among keeps none =
      let now = before p st.heap st.function frame st.sits in
      let branch = jump st.function.code frame.point l in
      let stays : assigned_changed (item_change (Some item) false) (assigns_of item) false now ≡ now =
      ap (λ c. assigned_changed c (assigns_of item) false now) keeps ∙ ap (λ list. assigned_changed Keeps list false now) none in
      moved _ refl (goes p st.heap st.function frame st.sits item branch frame.locations frame.saves at refl among
      (subst (λ (a : Assigned). Covers st.heap st.function frame.locations a.locations) (sym stays) st.sits.locations)
      (subst (λ (a : Assigned). AllCover st.heap st.function frame.saves a.saved) (sym stays) st.sits.saves))

  -- a save more
  pub speculates-stands : (dest : Option ℕ) (ty : Option Ty) (args funcs labels : List ℕ) → slice_get st.function.code frame.point ≡ Some (Act dest ty op.Speculate args funcs labels) → Stands p blocks (advanced (record frame { saves = frame.locations ∷ frame.saves })) older
  speculates-stands dest ty args funcs labels at =
      moved _ refl (goes p st.heap st.function frame st.sits (Act dest ty op.Speculate args funcs labels) (onward frame.point) frame.locations (frame.locations ∷ frame.saves) at refl (inl refl) st.sits.locations
      (st.sits.locations, st.sits.saves))

  -- the newest save is dropped
  pub commits-stands : (dest : Option ℕ) (ty : Option Ty) (args funcs labels : List ℕ) (saves : List Locals) → slice_get st.function.code frame.point ≡ Some (Act dest ty op.Commit args funcs labels)
      → AllCover st.heap st.function saves (without_newest (before p st.heap st.function frame st.sits).saved) → Stands p blocks (advanced (record frame { saves = saves })) older
  commits-stands dest ty args funcs labels saves at covers =
      moved _ refl (goes p st.heap st.function frame st.sits (Act dest ty op.Commit args funcs labels) (onward frame.point) frame.locations saves at refl (inl refl) st.sits.locations covers)

  -- the newest save is put back
  pub aborts-stands : (dest : Option ℕ) (ty : Option Ty) (args funcs labels : List ℕ) (l : ℕ) (locations : Locals) (saves : List Locals) → slice_get st.function.code frame.point ≡ Some (Act dest ty op.Guard args funcs labels)
      → In l labels → (let now = before p st.heap st.function frame st.sits in Covers st.heap st.function locations (newest_saved now.locations now.saved))
      → AllCover st.heap st.function saves (without_newest (before p st.heap st.function frame st.sits).saved)
      → Stands p blocks (at_point (point_of l st.function.code) (record frame { locations = locations; saves = saves })) older
  aborts-stands dest ty args funcs labels l locations saves at among covers all =
      moved _ refl (goes p st.heap st.function frame st.sits (Act dest ty op.Guard args funcs labels) (abort st.function.code frame.point l) locations saves at refl (inr (in_map (abort st.function.code frame.point) l labels among)) covers all)

  -- a shadow is assigned
  pub sets-stands : (dest : Option ℕ) (ty : Option Ty) (args funcs labels : List ℕ) (v : Value) → slice_get st.function.code frame.point ≡ Some (Act dest ty op.Set args funcs labels)
      → HasType st.heap (variable_type st.function.vars (slice_index args 0)) v → Stands p blocks (advanced (with_locations (shadowed (slice_index args 0) v frame.locations) frame)) older
  sets-stands dest ty args funcs labels v at typed =
      moved _ refl (goes-onward p st.heap st.function frame st.sits (Act dest ty op.Set args funcs labels) (shadowed (slice_index args 0) v frame.locations) at (inl refl) refl
      (Covers-shadowed st.heap st.function (slice_index args 0) v frame.locations (before p st.heap st.function frame st.sits).locations typed st.sits.locations))

-- ---- saves

module _ (p : Prog) (limits : Limits) (heap : List Cell) (f : Func) where
  pub dropped-cover : (saves : List Locals) (list : List (List Location)) → AllCover heap f saves list → AllCover heap f (dropped saves) (without_newest list)
  dropped-cover [] [] h = tt
  dropped-cover [] (x ∷ list) h = absurd h
  dropped-cover (s ∷ saves) [] h = absurd h
  dropped-cover (s ∷ saves) (x ∷ list) h = h.1

  pub saved-cover : (saves : List Locals) (list : List (List Location)) (locations : Locals) (now : List Location) → AllCover heap f saves list → Covers heap f locations now → Covers heap f (saved saves locations) (newest_saved now list)
  saved-cover [] [] locations now h covers = covers
  saved-cover [] (x ∷ list) locations now h covers = absurd h
  saved-cover (s ∷ saves) [] locations now h covers = absurd h
  saved-cover (s ∷ saves) (x ∷ list) locations now h covers = h.0
