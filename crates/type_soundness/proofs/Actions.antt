-- Each operation that does more than compute keeps the invariant.
use Rattle.std.proofs.Common.{◌≡◌, ℕ, zero, suc, ◌<◌, ◌^◌, Bool, true, false, List, [], ◌∷◌, ◌++◌, length, map, Option, Some, None, ℤ, pos, negsuc, refl, sym, ap, subst, ◌∙◌, inl, inr, arith, cond}
use Rattle.std.specs.Prelude.{slice_get, slice_index, is_some, nat_lt, IsSome}
use Rattle.std.proofs.lemmas.Bool.{and_parts, not-true}
use Rattle.bril_tree.specs.declared.limits.Fault.{Fault}
use Rattle.bril_tree.specs.declared.limits.Limits.{Limits}
use Rattle.bril_tree.specs.declared.numbered.Instr.{Instr}
use Rattle.bril_tree.specs.declared.numbered.Instr.TheVariants.{Label, Const, Act}
use Rattle.bril_tree.specs.declared.operation.Op.{Op}
use Rattle.bril_tree.specs.declared.operation.Op.TheVariants as op
use Rattle.bril_tree.specs.declared.program.Prog.{Prog}
use Rattle.bril_tree.specs.declared.types.Base.{Base}
use Rattle.bril_tree.specs.declared.types.Ty.{Ty}
use Rattle.bril_tree.specs.declared.value.Value.{Value}
use Rattle.bril_tree.specs.declared.value.Value.TheVariants.{Ptr}
use Rattle.bril_tree.specs.Accepted.{IsAccepted, IsAcceptedFunction}
use Rattle.bril_tree.specs.Edge.{item_branches, jump}
use Rattle.bril_tree.specs.FunctionForm.{listed}
use Rattle.bril_tree.specs.Memory.{allocation_fault, held, live_block, is_freeable, changed_block, new_block, cells_of, ended_block}
use Rattle.bril_tree.specs.Operand.{Variable, reads_of, dest_of}
use Rattle.bril_tree.specs.Outcome.{HasEffect, outcome_of, action_outcome, argument, block_of, offset_of, int_of, bool_of, divided, char_from, undefined, shadow_given, is_scalar}
use Rattle.bril_tree.specs.Shape.{is_action_shaped, fits_shape, shape_of}
use Rattle.bril_tree.specs.State.{Frame, Block, State, with_value}
use Rattle.bril_tree.specs.Sites.{Keeps, item_change}
use Rattle.bril_tree.specs.Assigned.{assigns_of}
use Rattle.bril_tree.specs.Step.{items_of, code_of, point_of, at_point, advanced, with_locations, assigned, faulted, gives, advances, jumps, guards, dropped, saved, allocates, frees, stores, loads, loads_held, acts, acts_at}
use Rattle.bril_tree.specs.Typing.{variable_type, argument_type, both_typed, points_to, same_type, is_set_typed, is_pointer, if_typed, is_return_typed, is_dest_typed}
use Rattle.bril_tree.specs.Membership.{In}
use Rattle.bril_tree.proofs.Members.{in_map, contains_in}
use Rattle.bril_tree.proofs.Elements.{in_index}
use Rattle.bril_tree.proofs.Shapes.{shape-parts, no_dest, dest_none, dest_there}
use Rattle.type_soundness.proofs.Blocks.{ended-keeps, Remembers, Remembers-push, Remembers-changed, pushed-type, block-fits, stored-keeps, stored-typed, held-typed}
use Rattle.type_soundness.proofs.Calls.{fault-runs, cond-runs, returns-runs, calls-runs}
use Rattle.type_soundness.proofs.Frames.{Sits-more, before}
use Rattle.type_soundness.proofs.Invariant.{Stack-more, Stands, Runs}
use Rattle.type_soundness.proofs.Operands.{HoldsReads, GoesOn, argument-typed, dest-typed, read-typed}
use Rattle.type_soundness.proofs.Locals.{IsTypedAct, act-typed, counted}
use Rattle.bril_tree.proofs.Acceptance.{accepted_function, shaped_at, typed_at}
use Rattle.bril_tree.proofs.Outcomes.{either-yields}
use Rattle.type_soundness.proofs.Standing.{holds-read}
use Rattle.type_soundness.proofs.Steps.{gives-stands, advances-stands, jumps-stands, speculates-stands, commits-stands, aborts-stands, sets-stands, dropped-cover, saved-cover}
use Rattle.type_soundness.proofs.Typed.{Cell, cell_type, IsTyped, HasType, HasType-back, Extends-push}

-- ---- typed operands

set-typed : (heap : List Cell) (s t : Option Ty) (v : Value) → is_set_typed s t ≡ true → HasType heap t v → HasType heap s v
set-typed heap s None v e h = absurd (cc)
set-typed heap None (Some t) v e h = tt
set-typed heap (Some s) (Some t) v e h = HasType-back heap s t v e h

returned : (heap : List Cell) (t : Ty) (o : Option Ty) (v : Value) → if_typed (same_type t) o ≡ true → HasType heap o v → HasType heap (Some t) v
returned heap t None v e h = absurd (cc)
returned heap t (Some s) v e h = HasType-back heap t s v e h

-- what a pointer's block holds
pub loaded : (heap : List Cell) (blocks : List Block) (u ty : Option Ty) (pointer v : Value) (n : ℕ) → Remembers heap blocks → both_typed points_to u ty ≡ true → HasType heap u pointer → held blocks pointer n ≡ Some v → HasType heap ty v
loaded heap blocks None ty pointer v n m e h at = absurd (cc)
loaded heap blocks (Some s) None pointer v n m e h at = absurd (cc)
loaded heap blocks (Some s) (Some t) pointer v n m e h at = held-typed heap blocks s t pointer v n m e h at

stored : (heap : List Cell) (u t : Option Ty) (pointer v : Value) (c : Cell) → both_typed points_to u t ≡ true → HasType heap u pointer → HasType heap t v → cell_type heap (block_of pointer) ≡ Some c → IsTyped heap c.depth c.base v
stored heap None t pointer v c e h g at = absurd (cc)
stored heap (Some s) None pointer v c e h g at = absurd (cc)
stored heap (Some s) (Some t) pointer v c e h g at = stored-typed heap s t pointer v c e h g at

-- the depth of what a pointer of a depth points to
abbrev depth_below : ℕ → ℕ
depth_below zero = zero
depth_below (suc n) = n

new-pointer : (heap : List Cell) (depth : ℕ) (b : Base) (block : ℕ) → nat_lt 0 depth ≡ true → block < 2 ^ 32 → cell_type heap block ≡ Some (record { depth = depth_below depth; base = b }) → IsTyped heap depth b (Ptr block (pos 0))
new-pointer heap zero b block e fits at = absurd (cc)
new-pointer heap (suc depth) b block e fits at = ((fits, record { sfits = omega arith }), inr at)

-- ---- what never acts

divided-gives : (z : Bool) (a b : ℤ) → divided z a b ≡ HasEffect → ⊥
divided-gives true a b e = cc
divided-gives false a b e = cc

char_from-gives : (z : ℤ) → char_from z ≡ HasEffect → ⊥
char_from-gives (pos n) e = either-yields (is_scalar n) _ _ e
char_from-gives (negsuc n) e = cc

module _ (p : Prog) (limits : Limits) where
  -- ---- states from frames

  advances-runs : (s : State) (frame : Frame) (older : List Frame) (st : Stands p s.blocks frame older) (item : Instr) → slice_get st.function.code frame.point ≡ Some item → GoesOn item → dest_of item ≡ None → Runs p (advances p limits frame older s)
  advances-runs s frame older st item at on none = record { frame = advanced frame; older = older; frames = refl; stands = advances-stands p s.blocks frame older st item at on none }

  pub gives-runs : (s : State) (frame : Frame) (older : List Frame) (st : Stands p s.blocks frame older) (item : Instr) (v : Value) → slice_get st.function.code frame.point ≡ Some item → GoesOn item
      → ((x : ℕ) → dest_of item ≡ Some x → HasType st.heap (variable_type st.function.vars x) v) → Runs p (gives p limits (dest_of item) v frame older s)
  gives-runs s frame older st item v at on typed = record {
    frame = advanced (with_locations (assigned (dest_of item) v frame.locations) frame);
    older = older;
    frames = refl;
    stands = gives-stands p s.blocks frame older st item v at on typed;
  }

  -- blocks that hold values of the same types
  abbrev with-blocks : (blocks more : List Block) (frame : Frame) (older : List Frame) (st : Stands p blocks frame older) → Remembers st.heap more → Stands p more frame older
  with-blocks blocks more frame older st memory = record { heap = st.heap; memory = memory; function = st.function; sits = st.sits; stack = st.stack }

  -- one block more
  abbrev with-block : (blocks : List Block) (size : ℕ) (frame : Frame) (older : List Frame) (st : Stands p blocks frame older) (c : Cell) → Stands p (blocks ++ new_block size ∷ []) frame older
  with-block blocks size frame older st c =
      let more = Extends-push st.heap c in
      record {
        heap = st.heap ++ c ∷ [];
        memory = Remembers-push st.heap blocks c size st.memory;
        function = st.function;
        sits = Sits-more p st.heap (st.heap ++ c ∷ []) st.function frame more st.sits;
        stack = Stack-more p st.heap (st.heap ++ c ∷ []) frame.function older more st.stack;
      }

  module _ (accepted : IsAccepted p) (s : State) (frame : Frame) (older : List Frame) (framed : s.frames ≡ frame ∷ older) (st : Stands p s.blocks frame older) where
    runs : Runs p s
    runs = record { frame = frame; older = older; frames = framed; stands = st }

    faults : (kind : Fault) → Runs p (faulted kind s)
    faults kind = fault-runs p limits accepted s kind runs

    facts : IsAcceptedFunction p st.function
    facts = accepted_function p frame.function st.function accepted st.sits.there

    -- the item at which the frame stands
    abbrev IsAt : Instr → Type 0
    IsAt item = slice_get st.function.code frame.point ≡ Some item

    abbrev IsShaped : Op → Option ℕ → List ℕ → List ℕ → List ℕ → Type 0
    IsShaped o dest args funcs labels = is_action_shaped (is_some st.function.ret) o (is_some dest) (length args) (length funcs) (length labels) ≡ true

    reads : (item : Instr) → IsAt item → HoldsReads p st.heap st.function frame.locations item
    reads item at location c = holds-read p st.heap st.function frame facts st.sits item location at c

    -- argument k of an operation that reads its arguments
    operand : (item : Instr) (args : List ℕ) (k : ℕ) → IsAt item → reads_of item ≡ map Variable args → k < length args → HasType st.heap (argument_type st.function.vars args k) (argument frame.locations args k)
    operand item args k at e less = argument-typed p st.heap st.function frame.locations item args k e (reads item at) less

    jumps-runs : (item : Instr) (l : ℕ) → IsAt item → In (jump st.function.code frame.point l) (item_branches st.function.code frame.point item) → item_change (Some item) false ≡ Keeps → assigns_of item ≡ [] → Runs p (jumps p limits l frame older s)
    jumps-runs item l at among keeps none =
        let code : code_of p frame.function ≡ st.function.code = ap items_of st.sits.there in
        record {
          frame = at_point (point_of l (code_of p frame.function)) frame;
          older = older;
          frames = refl;
          stands = subst (λ c. Stands p s.blocks (at_point (point_of l c) frame) older) (sym code) (jumps-stands p s.blocks frame older st item l at among keeps none);
        }

    -- ---- one row for each operation

    advances-row : (o : Op) (dest : Option ℕ) (ty : Option Ty) (args funcs labels : List ℕ) → IsAt (Act dest ty o args funcs labels) → GoesOn (Act dest ty o args funcs labels) → dest ≡ None → Runs p (advances p limits frame older s)
    advances-row o dest ty args funcs labels at on none = advances-runs s frame older st (Act dest ty o args funcs labels) at on none

    none_in : (o : Op) (dest : Option ℕ) (args funcs labels : List ℕ) → (shape_of (is_some st.function.ret) o).dest ≡ false → fits_shape (shape_of (is_some st.function.ret) o) (is_some dest) (length args) (length funcs) (length labels) ≡ true → dest ≡ None
    none_in o dest args funcs labels none shaped = dest_none (shape_of (is_some st.function.ret) o) dest (length args) (length funcs) (length labels) none shaped

    labels_of : (o : Op) (dest : Option ℕ) (args funcs labels : List ℕ) → fits_shape (shape_of (is_some st.function.ret) o) (is_some dest) (length args) (length funcs) (length labels) ≡ true → length labels ≡ (shape_of (is_some st.function.ret) o).labels
    labels_of o dest args funcs labels shaped = (shape-parts (shape_of (is_some st.function.ret) o) (is_some dest) (length args) (length funcs) (length labels) shaped).labels_are

    guards-row : (b : Bool) (dest : Option ℕ) (ty : Option Ty) (args funcs labels : List ℕ) → IsAt (Act dest ty op.Guard args funcs labels) → IsShaped op.Guard dest args funcs labels → Runs p (guards p limits b (slice_index labels 0) frame older s)
    guards-row true dest ty args funcs labels at shaped =
        advances-row op.Guard dest ty args funcs labels at (record { branch = λ code point. inl refl; keeps = refl; assigns = refl }) (none_in op.Guard dest args funcs labels refl shaped)
    guards-row false dest ty args funcs labels at shaped =
        let l = slice_index labels 0 in
        let one : length labels ≡ 1 = labels_of op.Guard dest args funcs labels shaped in
        let now = before p st.heap st.function frame st.sits in
        let locations = saved frame.saves frame.locations in
        let saves = dropped frame.saves in
        let code : code_of p frame.function ≡ st.function.code = ap items_of st.sits.there in
        let covers = saved-cover p limits st.heap st.function frame.saves now.saved frame.locations now.locations st.sits.saves st.sits.locations in
        let all = dropped-cover p limits st.heap st.function frame.saves now.saved st.sits.saves in
        record {
          frame = at_point (point_of l (code_of p frame.function)) (record frame { locations = locations; saves = saves });
          older = older;
          frames = refl;
          stands = subst (λ c. Stands p s.blocks (at_point (point_of l c) (record frame { locations = locations; saves = saves })) older) (sym code)
              (aborts-stands p s.blocks frame older st dest ty args funcs labels l locations saves at (in_index labels 0 (omega arith)) covers all);
        }

    branch : (b : Bool) (labels : List ℕ) → length labels ≡ 2 → In (slice_index labels (cond b 0 1)) labels
    branch true labels n = in_index labels 0 (omega arith)
    branch false labels n = in_index labels 1 (omega arith)

    label : (o : Op) (dest : Option ℕ) (ty : Option Ty) (args funcs labels : List ℕ) (l : ℕ) → IsAt (Act dest ty o args funcs labels) → item_branches st.function.code frame.point (Act dest ty o args funcs labels) ≡ map (jump st.function.code frame.point) labels
        → item_change (Some (Act dest ty o args funcs labels)) false ≡ Keeps → assigns_of (Act dest ty o args funcs labels) ≡ [] → In l labels → Runs p (jumps p limits l frame older s)
    label o dest ty args funcs labels l at branches keeps none among =
        jumps-runs (Act dest ty o args funcs labels) l at (subst (λ list. In (jump st.function.code frame.point l) list) (sym branches) (in_map (jump st.function.code frame.point) l labels among)) keeps none

    returned-value : (ret : Option Ty) (args : List ℕ) → is_return_typed ret st.function.vars args ≡ true → (IsSome ret → HasType st.heap (argument_type st.function.vars args 0) (argument frame.locations args 0)) → HasType st.heap ret (argument frame.locations args 0)
    returned-value None args e h = tt
    returned-value (Some t) args e h = returned st.heap t _ (argument frame.locations args 0) e (h refl)

    value-counted : (ret : Option Ty) (n : ℕ) → IsSome ret → n ≡ cond (is_some ret) 1 0 → 0 < n
    value-counted None n there e = absurd (cc)
    value-counted (Some t) n there e = omega arith

    returns-row : (dest : Option ℕ) (ty : Option Ty) (args funcs labels : List ℕ) → IsAt (Act dest ty op.Ret args funcs labels) → IsShaped op.Ret dest args funcs labels → IsTypedAct p st.function op.Ret dest ty args funcs → Runs p (acts p limits op.Ret dest args funcs labels frame older s)
    returns-row dest ty args funcs labels at shaped t =
        returns-runs p limits accepted (argument frame.locations args 0) older s frame framed st (returned-value st.function.ret args t.operands_typed
        (λ there. operand (Act dest ty op.Ret args funcs labels) args 0 at refl (value-counted st.function.ret (length args) there (counted p st.function op.Ret dest args funcs labels shaped))))

    -- ---- memory

    allocated : (t : Option Ty) (dest : Option ℕ) (args funcs labels : List ℕ) (size : ℕ) → IsAt (Act dest t op.Alloc args funcs labels) → if_typed is_pointer t ≡ true → is_dest_typed p st.function dest t ≡ true → suc (length s.blocks) < 2 ^ 32
        → Runs p (gives p limits dest (Ptr (suc (length s.blocks)) (pos 0)) frame older (record s { blocks = s.blocks ++ new_block size ∷ [] }))
    allocated None dest args funcs labels size at e d fits = absurd (cc)
    allocated (Some t) dest args funcs labels size at e d fits =
        let c : Cell = record { depth = depth_below t.depth; base = t.base } in
        let more = with-block s.blocks size frame older st c in
        let value = Ptr (suc (length s.blocks)) (pos 0) in
        let typed : HasType (st.heap ++ c ∷ []) (Some t) value = new-pointer (st.heap ++ c ∷ []) t.depth t.base (suc (length s.blocks)) e fits (pushed-type st.heap s.blocks c st.memory) in
        gives-runs (record s { blocks = s.blocks ++ new_block size ∷ [] }) frame older more (Act dest (Some t) op.Alloc args funcs labels) value at (record { branch = λ code point. inl refl; keeps = refl; assigns = refl })
        (λ x there. dest-typed p (st.heap ++ c ∷ []) st.function frame.locations dest (Some t) value x d typed there)

    allocates-row : (o : Option Fault) (count : ℤ) (dest : Option ℕ) (ty : Option Ty) (args funcs labels : List ℕ) → allocation_fault limits.cells s.blocks count ≡ o → IsAt (Act dest ty op.Alloc args funcs labels) → IsTypedAct p st.function op.Alloc dest ty args funcs
        → Runs p (allocates p limits o count dest frame older s)
    allocates-row (Some kind) count dest ty args funcs labels e at t = faults kind
    allocates-row None count dest ty args funcs labels e at t =
        allocated ty dest args funcs labels (cells_of count) at (and_parts _ _ t.operands_typed).1 t.dest_typed (block-fits limits.cells s.blocks count e)

    frees-row : (pointer : Value) (ty : Option Ty) (dest : Option ℕ) (args funcs labels : List ℕ) → IsAt (Act dest ty op.Free args funcs labels) → IsShaped op.Free dest args funcs labels → Runs p (frees p limits pointer frame older s)
    frees-row pointer ty dest args funcs labels at shaped =
        let after = changed_block s.blocks (block_of pointer) (λ b. ended_block) in
        let memory = Remembers-changed st.heap s.blocks (block_of pointer) (λ b. ended_block) (λ c e b h. ended-keeps st.heap c) st.memory in
        cond-runs p limits accepted (is_freeable (live_block s.blocks (block_of pointer)) (offset_of pointer)) _ _
        (advances-runs (record s { blocks = after }) frame older (with-blocks s.blocks after frame older st memory) (Act dest ty op.Free args funcs labels) at (record { branch = λ code point. inl refl; keeps = refl; assigns = refl })
        (none_in op.Free dest args funcs labels refl shaped))
        (faults _)

    stores-row : (cell : Option ℕ) (ty : Option Ty) (dest : Option ℕ) (args funcs labels : List ℕ) → IsAt (Act dest ty op.Store args funcs labels) → IsShaped op.Store dest args funcs labels → IsTypedAct p st.function op.Store dest ty args funcs
        → Runs p (stores p limits cell (argument frame.locations args 0) (argument frame.locations args 1) frame older s)
    stores-row None ty dest args funcs labels at shaped t = faults _
    stores-row (Some n) ty dest args funcs labels at shaped t =
        let item = Act dest ty op.Store args funcs labels in
        let two : length args ≡ 2 = counted p st.function op.Store dest args funcs labels shaped in
        let pointer = argument frame.locations args 0 in
        let v = argument frame.locations args 1 in
        let change = λ (b : Block). record b { cells = with_value b.cells n v } in
        let after = changed_block s.blocks (block_of pointer) change in
        let typed = λ (c : Cell) (e : cell_type st.heap (block_of pointer) ≡ Some c).
        stored st.heap (argument_type st.function.vars args 0) (argument_type st.function.vars args 1) pointer v c t.operands_typed (operand item args 0 at refl (omega arith)) (operand item args 1 at refl (omega arith)) e in
        let memory = Remembers-changed st.heap s.blocks (block_of pointer) change (λ c e b h. stored-keeps st.heap c n v b.cells (typed c e) h) st.memory in
        advances-runs (record s { blocks = after }) frame older (with-blocks s.blocks after frame older st memory) item at (record { branch = λ code point. inl refl; keeps = refl; assigns = refl })
        (none_in op.Store dest args funcs labels refl shaped)

    loads_held-row : (o : Option Value) (n : ℕ) (ty : Option Ty) (dest : Option ℕ) (args funcs labels : List ℕ) → held s.blocks (argument frame.locations args 0) n ≡ o → IsAt (Act dest ty op.Load args funcs labels) → IsShaped op.Load dest args funcs labels → IsTypedAct p st.function op.Load dest ty args funcs
        → Runs p (loads_held p limits o dest frame older s)
    loads_held-row None n ty dest args funcs labels e at shaped t = faults _
    loads_held-row (Some v) n ty dest args funcs labels e at shaped t =
        let item = Act dest ty op.Load args funcs labels in
        let one : length args ≡ 1 = counted p st.function op.Load dest args funcs labels shaped in
        let typed = loaded st.heap s.blocks (argument_type st.function.vars args 0) ty (argument frame.locations args 0) v n st.memory t.operands_typed (operand item args 0 at refl (omega arith)) e in
        gives-runs s frame older st item v at (record { branch = λ code point. inl refl; keeps = refl; assigns = refl })
        (λ x there. dest-typed p st.heap st.function frame.locations dest ty v x t.dest_typed typed there)

    loads-row : (cell : Option ℕ) (ty : Option Ty) (dest : Option ℕ) (args funcs labels : List ℕ) → IsAt (Act dest ty op.Load args funcs labels) → IsShaped op.Load dest args funcs labels → IsTypedAct p st.function op.Load dest ty args funcs
        → Runs p (loads p limits cell (argument frame.locations args 0) dest frame older s)
    loads-row None ty dest args funcs labels at shaped t = faults _
    loads-row (Some n) ty dest args funcs labels at shaped t = loads_held-row (held s.blocks (argument frame.locations args 0) n) n ty dest args funcs labels refl at shaped t

    -- ---- shadows and saves

    sets-row : (ty : Option Ty) (dest : Option ℕ) (args funcs labels : List ℕ) → IsAt (Act dest ty op.Set args funcs labels) → IsShaped op.Set dest args funcs labels → IsTypedAct p st.function op.Set dest ty args funcs
        → Runs p (acts p limits op.Set dest args funcs labels frame older s)
    sets-row ty dest args funcs labels at shaped t =
        let item = Act dest ty op.Set args funcs labels in
        let read_here = reads item at (Variable (slice_index args 1)) (contains_in (Variable (slice_index args 1)) (Variable (slice_index args 1) ∷ []) (inl refl)) in
        let typed = set-typed st.heap (argument_type st.function.vars args 0) (argument_type st.function.vars args 1) (argument frame.locations args 1) t.operands_typed (read-typed p st.heap st.function frame.locations (slice_index args 1) read_here) in
        record { frame = _; older = older; frames = refl; stands = sets-stands p s.blocks frame older st dest ty args funcs labels (argument frame.locations args 1) at typed }

    gets-row : (ty : Option Ty) (dest : Option ℕ) (args funcs labels : List ℕ) → IsShaped op.Get dest args funcs labels → shadow_given frame.locations dest ≡ HasEffect → ⊥
    gets-row ty None args funcs labels shaped e =
        let there = dest_there (shape_of (is_some st.function.ret) op.Get) None (length args) (length funcs) (length labels) refl shaped in absurd (cc (there.1))
    gets-row ty (Some x) args funcs labels shaped e = cc

    undefines-row : (ty : Option Ty) (dest : Option ℕ) (args funcs labels : List ℕ) → IsShaped op.Undef dest args funcs labels → IsTypedAct p st.function op.Undef dest ty args funcs → undefined ty ≡ HasEffect → ⊥
    undefines-row None dest args funcs labels shaped t e =
        let there = dest_there (shape_of (is_some st.function.ret) op.Undef) dest (length args) (length funcs) (length labels) refl shaped in
        let typed : is_dest_typed p st.function (Some there.0) None ≡ true = ap (λ d. is_dest_typed p st.function d None) (sym there.1) ∙ t.dest_typed in
        absurd (cc)
    undefines-row (Some t) dest args funcs labels shaped u e = cc

    -- ---- all operations

    row : (o : Op) (dest : Option ℕ) (ty : Option Ty) (args funcs labels : List ℕ) → IsAt (Act dest ty o args funcs labels) → IsShaped o dest args funcs labels → IsTypedAct p st.function o dest ty args funcs
        → action_outcome o dest ty args frame.locations ≡ HasEffect → Runs p (acts p limits o dest args funcs labels frame older s)
    row op.Nop dest ty args funcs labels at shaped t e =
        advances-row op.Nop dest ty args funcs labels at (record { branch = λ code point. inl refl; keeps = refl; assigns = refl }) (none_in op.Nop dest args funcs labels refl shaped)
    row op.Jmp dest ty args funcs labels at shaped t e =
        let one : length labels ≡ 1 = labels_of op.Jmp dest args funcs labels shaped in
        let none = none_in op.Jmp dest args funcs labels refl shaped in
        label op.Jmp dest ty args funcs labels (slice_index labels 0) at refl refl (ap (λ d. map Variable (listed d)) none) (in_index labels 0 (omega arith))
    row op.Br dest ty args funcs labels at shaped t e =
        let two : length labels ≡ 2 = labels_of op.Br dest args funcs labels shaped in
        let none = none_in op.Br dest args funcs labels refl shaped in
        label op.Br dest ty args funcs labels _ at refl refl (ap (λ d. map Variable (listed d)) none) (branch (bool_of (argument frame.locations args 0)) labels two)
    row op.Call dest ty args funcs labels at shaped t e = calls-runs p limits accepted s frame older framed st dest ty args funcs labels at
    row op.Ret dest ty args funcs labels at shaped t e = returns-row dest ty args funcs labels at shaped t
    row op.Print dest ty args funcs labels at shaped t e =
        advances-runs (record s { printed = _ }) frame older st (Act dest ty op.Print args funcs labels) at (record { branch = λ code point. inl refl; keeps = refl; assigns = refl })
        (no_dest dest (not-true _ (and_parts _ _ (and_parts _ _ shaped).0).0))
    row op.Alloc dest ty args funcs labels at shaped t e = allocates-row _ _ dest ty args funcs labels refl at t
    row op.Free dest ty args funcs labels at shaped t e = frees-row (argument frame.locations args 0) ty dest args funcs labels at shaped
    row op.Store dest ty args funcs labels at shaped t e = stores-row _ ty dest args funcs labels at shaped t
    row op.Load dest ty args funcs labels at shaped t e = loads-row _ ty dest args funcs labels at shaped t
    row op.Set dest ty args funcs labels at shaped t e = sets-row ty dest args funcs labels at shaped t
    row op.Speculate dest ty args funcs labels at shaped t e = record { frame = _; older = older; frames = refl; stands = speculates-stands p s.blocks frame older st dest ty args funcs labels at }
    row op.Commit dest ty args funcs labels at shaped t e =
        let now = before p st.heap st.function frame st.sits in
        record {
          frame = _;
          older = older;
          frames = refl;
          stands = commits-stands p s.blocks frame older st dest ty args funcs labels (dropped frame.saves) at (dropped-cover p limits st.heap st.function frame.saves now.saved st.sits.saves);
        }
    row op.Guard dest ty args funcs labels at shaped t e = guards-row (bool_of (argument frame.locations args 0)) dest ty args funcs labels at shaped
    row op.Get dest ty args funcs labels at shaped t e = absurd (gets-row ty dest args funcs labels shaped e)
    row op.Undef dest ty args funcs labels at shaped t e = absurd (undefines-row ty dest args funcs labels shaped t e)
    row op.Div dest ty args funcs labels at shaped t e = absurd (divided-gives _ _ _ e)
    row op.IntToChar dest ty args funcs labels at shaped t e = absurd (char_from-gives (int_of (argument frame.locations args 0)) e)
    row op.PtrAdd dest ty args funcs labels at shaped t e = absurd (either-yields _ _ _ e)
    row _ dest ty args funcs labels at shaped t e = absurd (cc)

    -- what an item does that does more than compute
    pub acts-runs : (item : Instr) → IsAt item → outcome_of item frame.locations ≡ HasEffect → Runs p (acts_at p limits item frame older s)
    acts-runs (Label l) at e = advances-runs s frame older st (Label l) at (record { branch = λ code point. inl refl; keeps = refl; assigns = refl }) refl
    acts-runs (Const dest ty value) at e = absurd (cc)
    acts-runs (Act dest ty o args funcs labels) at e =
        let shaped = shaped_at p st.function facts frame.point (Act dest ty o args funcs labels) at in
        let typed = typed_at p st.function facts frame.point (Act dest ty o args funcs labels) at in
        row o dest ty args funcs labels at shaped (act-typed p st.function o dest ty args funcs labels shaped typed) e
