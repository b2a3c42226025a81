-- At a regular pair of points matched states make steps to matched states.
use Rattle.std.proofs.Common.{◌+ℤ◌, ◌≡◌, ◌⊎◌, ℕ, suc, ◌<◌, Bool, true, false, List, [], ◌∷◌, ◌++◌, length, map, Option, Some, None, ℤ, pos, refl, sym, ap, subst, ◌∙◌, inl, inr, ⊎_elim, cond, arith}
use Rattle.std.specs.Prelude.{slice_get, slice_index, is_some, nat_lt, IsTrue}
use Rattle.std.specs.List.{AllZip}
use Rattle.std.proofs.lemmas.Bool.{and_parts, eqb-true, not-true}
use Rattle.std.proofs.lemmas.List.{length-map}
use Rattle.bril_tree.specs.declared.limits.End.{End}
use Rattle.bril_tree.specs.declared.limits.End.TheVariants.{Ended, Faulted}
use Rattle.bril_tree.specs.declared.limits.Fault.{Fault}
use Rattle.bril_tree.specs.declared.limits.Fault.TheVariants as fault
use Rattle.bril_tree.specs.declared.limits.Limits.{Limits}
use Rattle.bril_tree.specs.declared.numbered.Instr.{Instr}
use Rattle.bril_tree.specs.declared.numbered.Instr.TheVariants.{Label, Const, Act}
use Rattle.bril_tree.specs.declared.operation.Op.{Op}
use Rattle.bril_tree.specs.declared.operation.Op.TheVariants as op
use Rattle.bril_tree.specs.declared.program.Prog.{Prog}
use Rattle.bril_tree.specs.declared.types.Ty.{Ty}
use Rattle.bril_tree.specs.declared.value.Lit.{Lit}
use Rattle.bril_tree.specs.declared.value.Value.{Value}
use Rattle.bril_tree.specs.declared.value.Value.TheVariants.{Ptr}
use Rattle.bril_tree.specs.Accepted.{IsAccepted}
use Rattle.bril_tree.specs.Assigned.{assigns_of, assigns_at}
use Rattle.bril_tree.specs.Edge.{Branch, branches_at, branches_from, item_branches, onward, jump, abort}
use Rattle.bril_tree.specs.FunctionForm.{listed}
use Rattle.bril_tree.specs.Memory.{is_live_any, cell_at, held, live_block, is_freeable, changed_block, allocation_fault, new_block, cells_of, ended_block}
use Rattle.bril_tree.specs.Operand.{Location, Variable, dest_of}
use Rattle.bril_tree.specs.Outcome.{Outcome, Yields, FaultsWith, HasEffect, action_outcome, argument, block_of, offset_of, int_of, bool_of}
use Rattle.bril_tree.specs.Run.{types_of, first_state}
use Rattle.bril_tree.specs.Shape.{same, fits_shape, shape_of}
use Rattle.bril_tree.specs.Sites.{needs_site, Keeps, item_change, sites_changed, sites_of, without_newest}
use Rattle.bril_tree.specs.State.{Locals, Frame, Block, State, read, no_values, with_value}
use Rattle.bril_tree.specs.Step.{code_of, item_at, point_of, with_locations, assigned, shadowed, faulted, gives, advances, jumps, ends, awaited, returns, new_frame, calls, line_of, allocates, frees, stores, loads, loads_held, dropped, saved, guards, acts, by_outcome, item_step, step}
use Rattle.bril_tree.specs.Typing.{return_type, call_fits}
use Rattle.bril_tree.specs.Value.{literal_value}
use Rattle.bril_tree.specs.Walk.{IsReached, end_of}
use Rattle.bril_tree.specs.Membership.{In}
use Rattle.bril_tree.proofs.Members.{in_map, contains_in}
use Rattle.flow_graph.proofs.Told.{some_site}
use Rattle.pass_edit_laws.specs.plan.Plan.{Plan, ValuesMatch, HoldsKnown, Writes, StaysMatched, ActionsMatch, EdgesMatch, StepsMatch, Preserves, SavesMatch, ContentsMatch, FramesMatch, CallersMatch, StacksMatch, StatesMatch}
use Rattle.bril_tree.proofs.Elements.{in_index}
use Rattle.bril_tree.proofs.Shapes.{no_dest, dest_none, HasShape, shape-parts}
use Rattle.bril_tree.proofs.Outcomes.{div-never_acts, int2char-never_acts, ptradd-never_acts, GoesOn, giver-goes_on}
use Rattle.pass_edit_laws.proofs.lemmas.plan.Values.{holds-assigned, holds-shadowed, read-agree, agree-none, agree-assigned, agree-shadowed, reads-agree, read_at-agree}
use Rattle.pass_edit_laws.proofs.lemmas.plan.Outcomes.{action-same}
use Rattle.pass_edit_laws.proofs.lemmas.steps.Shapes.{zip_map-at, Shaped, shaped_here, get-gives, undef-gives, writes-gives}

-- ---- frames and states

abbrev pub frame : ℕ → ℕ → Locals → List Locals → Frame
frame k i p ps = record { function = k; point = i; locations = p; saves = ps }

abbrev pub state : List Frame → List Block → List ℕ → Option End → (ℕ → ℕ → ℕ) → State
state frames blocks printed ended failures = record { frames = frames; blocks = blocks; printed = printed; ended = ended; failures = failures }

module _ (m : Plan) (P Q : Prog) (limits : Limits) (accepted : IsAccepted P) (preserves : Preserves m P Q) where
  abbrev pub R : State → State → Type 0
  R = StatesMatch m P Q

  pub matches : (f g : Frame) (fs gs : List Frame) (blocks : List Block) (printed : List ℕ) (ended : Option End) (x y : ℕ → ℕ → ℕ) → FramesMatch m P Q f g → StacksMatch m P Q f.function fs gs → R (state (f ∷ fs) blocks printed ended x) (state (g ∷ gs) blocks printed ended y)
  matches f g fs gs blocks printed ended x y frames callers = record {
    ended = refl;
    printed = refl;
    blocks = refl;
    frame = f;
    older = fs;
    frames = refl;
    result_frame = g;
    result_older = gs;
    result_frames = refl;
    newest = frames;
    callers = callers;
  }

  cond-alike : (b : Bool) (s t u v : State) → R s u → R t v → R (cond b s t) (cond b u v)
  cond-alike true s t u v h k = h
  cond-alike false s t u v h k = k

  -- saves without the newest
  dropped-alike : (k : ℕ) (sites : List ℕ) (ps qs : List Locals) → SavesMatch m P Q k sites ps qs → SavesMatch m P Q k (without_newest sites) (dropped ps) (dropped qs)
  dropped-alike k [] [] [] h = tt
  dropped-alike k [] [] (q ∷ qs) h = absurd h
  dropped-alike k [] (p ∷ ps) qs h = absurd h
  dropped-alike k (s ∷ sites) [] qs h = absurd h
  dropped-alike k (s ∷ sites) (p ∷ ps) [] h = absurd h
  dropped-alike k (s ∷ sites) (p ∷ ps) (q ∷ qs) h = h.1

  waiting-length : (k : ℕ) (fs gs : List Frame) → StacksMatch m P Q k fs gs → length fs ≡ length gs
  waiting-length k [] [] h = refl
  waiting-length k [] (g ∷ gs) h = absurd h
  waiting-length k (f ∷ fs) [] h = absurd h
  waiting-length k (f ∷ fs) (g ∷ gs) h = let r = waiting-length f.function fs gs h.1 in omega arith

  module _ (k i j : ℕ) (p q : Locals) (ps qs : List Locals) (contents : ContentsMatch m P Q k i j p q ps qs) where
    sites : List ℕ
    sites = sites_of (code_of P k) contents.walk

    -- one branch further
    go : (o u : Option Instr) → item_at P k i ≡ o → (w v : Branch) → w.from ≡ i → In w (branches_from (code_of P k) i o) → EdgesMatch m P Q k i j o u w v → (p' q' : Locals) (ps' qs' : List Locals) → ValuesMatch (m.LocationsMatch k w.to v.to) p' q' → HoldsKnown (m.IsKnown k w.to) p'
        → SavesMatch m P Q k (sites_changed (item_change o w.aborts) i (sites_of (code_of P k) contents.walk)) ps' qs' → ContentsMatch m P Q k w.to v.to p' q' ps' qs'
    go o u at w v from among branches p' q' ps' qs' agree known saves =
        let code = code_of P k in
        let here : slice_get code w.from ≡ o = ap (slice_get code) from ∙ at in
        let among_here : In w (branches_at code i) = subst (λ x. In w (branches_from code i x)) (sym at) among in
        record {
          walk = w ∷ contents.walk;
          is = (contains_in w (branches_at code (end_of contents.walk)) (subst (λ n. In w (branches_at code n)) (sym contents.ends) among_here), contents.is);
          ends = refl;
          points = branches.points;
          locations = agree;
          known = known;
          saves = subst (λ x. SavesMatch m P Q k (sites_changed (item_change x w.aborts) w.from (sites_of code contents.walk)) ps' qs') (sym here)
              (subst (λ n. SavesMatch m P Q k (sites_changed (item_change o w.aborts) n (sites_of code contents.walk)) ps' qs') (sym from) saves);
        }

    -- on to the next point, where nothing is saved or dropped
    onward_branches : (a b : Instr) → StepsMatch m P Q k i j (Some a) (Some b) → item_branches (code_of P k) i a ≡ onward i ∷ [] → item_branches (code_of Q k) j b ≡ onward j ∷ [] → EdgesMatch m P Q k i j (Some a) (Some b) (onward i) (onward j)
    onward_branches a b steps e d = (subst (λ vs. AllZip (EdgesMatch m P Q k i j (Some a) (Some b)) (onward i ∷ []) vs) d (subst (λ ws. AllZip (EdgesMatch m P Q k i j (Some a) (Some b)) ws (item_branches (code_of Q k) j b)) e steps.branches)).0

    -- what is known where nothing is assigned
    kept_known : (o u : Option Instr) (w v : Branch) → w.aborts ≡ false → EdgesMatch m P Q k i j o u w v → assigns_at o ≡ [] → HoldsKnown (m.IsKnown k w.to) p
    kept_known o u w v e branches none a x l = ⊎_elim (λ h. contents.known a x h.1) (λ h. absurd (subst (In a) none h.0)) (branches.learns e a x l)

    gives_contents : (a b : Instr) → item_at P k i ≡ Some a → StepsMatch m P Q k i j (Some a) (Some b) → GoesOn a → GoesOn b → is_some (dest_of a) ≡ is_some (dest_of b) → (v : Value) → ((u : Value) → Writes (Some a) p u → (assigns_of a ≡ []) ⊎ (v ≡ u)) → ContentsMatch m P Q k (suc i) (suc j) (assigned (dest_of a) v p) (assigned (dest_of b) v q) ps qs
    gives_contents a b at steps ga gb dests v given =
        let branches = onward_branches a b steps (ga.branches (code_of P k) i) (gb.branches (code_of Q k) j) in
        let kept : (x y : Location) → m.LocationsMatch k (suc i) (suc j) x y → StaysMatched (map Variable (listed (dest_of a))) (map Variable (listed (dest_of b))) (m.LocationsMatch k i j) x y =
        λ x y h. subst (λ l. StaysMatched (map Variable (listed (dest_of a))) l (m.LocationsMatch k i j) x y) gb.assigns (subst (λ l. StaysMatched l (assigns_of b) (m.LocationsMatch k i j) x y) ga.assigns (branches.kept refl x y h)) in
        go (Some a) (Some b) at (onward i) (onward j) refl (subst (λ l. In (onward i) l) (sym (ga.branches (code_of P k) i)) (inl refl)) branches
        (assigned (dest_of a) v p) (assigned (dest_of b) v q) ps qs
        (agree-assigned (m.LocationsMatch k i j) (m.LocationsMatch k (suc i) (suc j)) p q contents.locations (dest_of a) (dest_of b) v dests kept)
        (holds-assigned (m.IsKnown k i) (m.IsKnown k (suc i)) p contents.known (dest_of a) v
        (λ x u l. subst (λ z. ((In x z → ⊥) × m.IsKnown k i x u) ⊎ (In x z × (v ≡ u))) ga.assigns (⊎_elim inl (λ h. inr (h.0, ⊎_elim (λ none. absurd (subst (In x) none h.0)) (λ e. e) (given u (h.1 p contents.known)))) (branches.learns refl x u l))))
        (subst (λ c. SavesMatch m P Q k (sites_changed c i (sites_of (code_of P k) contents.walk)) ps qs) (sym (ga.keeps false)) contents.saves)

    advances-sits : (a b : Instr) → item_at P k i ≡ Some a → StepsMatch m P Q k i j (Some a) (Some b) → GoesOn a → GoesOn b → dest_of a ≡ None → dest_of b ≡ None → ContentsMatch m P Q k (suc i) (suc j) p q ps qs
    advances-sits a b at steps ga gb da db =
        subst (λ d. ContentsMatch m P Q k (suc i) (suc j) p (assigned d (read no_values 0) q) ps qs) db
        (subst (λ d. ContentsMatch m P Q k (suc i) (suc j) (assigned d (read no_values 0) p) (assigned (dest_of b) (read no_values 0) q) ps qs) da
        (gives_contents a b at steps ga gb (ap is_some da ∙ sym (ap is_some db)) (read no_values 0) (λ u w. inl (ga.assigns ∙ ap (λ d. map Variable (listed d)) da))))

    -- to a label
    jumps-sits : (a b : Instr) (l l' : ℕ) → item_at P k i ≡ Some a → In (jump (code_of P k) i l) (item_branches (code_of P k) i a) → EdgesMatch m P Q k i j (Some a) (Some b) (jump (code_of P k) i l) (jump (code_of Q k) j l')
        → item_change (Some a) false ≡ Keeps → assigns_of a ≡ [] → assigns_of b ≡ [] → ContentsMatch m P Q k (point_of l (code_of P k)) (point_of l' (code_of Q k)) p q ps qs
    jumps-sits a b l l' at among branches keeps na nb =
        go (Some a) (Some b) at (jump (code_of P k) i l) (jump (code_of Q k) j l') refl among branches p q ps qs
        (agree-none (m.LocationsMatch k i j) (m.LocationsMatch k (point_of l (code_of P k)) (point_of l' (code_of Q k))) p q contents.locations
        (λ x y h. subst (λ n. StaysMatched [] n (m.LocationsMatch k i j) x y) nb (subst (λ n. StaysMatched n (assigns_of b) (m.LocationsMatch k i j) x y) na (branches.kept refl x y h))))
        (kept_known (Some a) (Some b) (jump (code_of P k) i l) (jump (code_of Q k) j l') refl branches na)
        (subst (λ c. SavesMatch m P Q k (sites_changed c i (sites_of (code_of P k) contents.walk)) ps qs) (sym keeps) contents.saves)

    -- the newest save is put back
    aborts-locations : (o u : Option Instr) (w v : Branch) → w.aborts ≡ true → EdgesMatch m P Q k i j o u w v → (ts : List ℕ) (rs zs : List Locals) → sites_of (code_of P k) contents.walk ≡ ts → SavesMatch m P Q k ts rs zs → (ts ≡ [] → ⊥)
        → ValuesMatch (m.LocationsMatch k w.to v.to) (saved rs p) (saved zs q)
    aborts-locations o u w v aborts branches [] [] [] e h some = absurd (some refl)
    aborts-locations o u w v aborts branches [] [] (z ∷ zs) e h some = absurd h
    aborts-locations o u w v aborts branches [] (r ∷ rs) zs e h some = absurd h
    aborts-locations o u w v aborts branches (t ∷ ts) [] zs e h some = absurd h
    aborts-locations o u w v aborts branches (t ∷ ts) (r ∷ rs) [] e h some = absurd h
    aborts-locations o u w v aborts branches (t ∷ ts) (r ∷ rs) (z ∷ zs) e h some = λ x y a. h.0.3 x y (branches.back aborts contents.walk contents.is contents.ends t h.0.0 ts e h.0.1 h.0.2 x y a)

    aborts-known : (o u : Option Instr) (w v : Branch) → w.aborts ≡ true → EdgesMatch m P Q k i j o u w v → (ts : List ℕ) (rs zs : List Locals) → sites_of (code_of P k) contents.walk ≡ ts → SavesMatch m P Q k ts rs zs → (ts ≡ [] → ⊥)
        → HoldsKnown (m.IsKnown k w.to) (saved rs p)
    aborts-known o u w v aborts branches [] [] [] e h some = absurd (some refl)
    aborts-known o u w v aborts branches [] [] (z ∷ zs) e h some = absurd h
    aborts-known o u w v aborts branches [] (r ∷ rs) zs e h some = absurd h
    aborts-known o u w v aborts branches (t ∷ ts) [] zs e h some = absurd h
    aborts-known o u w v aborts branches (t ∷ ts) (r ∷ rs) [] e h some = absurd h
    aborts-known o u w v aborts branches (t ∷ ts) (r ∷ rs) (z ∷ zs) e h some = λ x y a. h.0.4 x y (branches.remembers aborts contents.walk contents.is contents.ends t ts e x y a)

    -- ---- states

    module _ (regular : m.IsRegular k i j) (fs gs : List Frame) (callers : StacksMatch m P Q k fs gs) (blocks : List Block) (printed : List ℕ) (x y : ℕ → ℕ → ℕ) where
      abbrev F : Frame
      F = frame k i p ps

      abbrev G : Frame
      G = frame k j q qs

      abbrev S : State
      S = state (F ∷ fs) blocks printed None x

      abbrev T : State
      T = state (G ∷ gs) blocks printed None y

      framed : FramesMatch m P Q F G
      framed = record { function = refl; contents = contents }

      -- a fault
      faults : (kind : Fault) → R (faulted kind S) (faulted kind T)
      faults kind = matches F G fs gs blocks printed (Some (Faulted kind)) x y framed callers

      -- the newest frame goes on, perhaps with other blocks and more output
      lands : (i' j' : ℕ) (p' q' : Locals) (ps' qs' : List Locals) (bs : List Block) (out : List ℕ) (x' y' : ℕ → ℕ → ℕ) → ContentsMatch m P Q k i' j' p' q' ps' qs' → R (state (frame k i' p' ps' ∷ fs) bs out None x') (state (frame k j' q' qs' ∷ gs) bs out None y')
      lands i' j' p' q' ps' qs' bs out x' y' contents' = matches _ _ fs gs bs out None x' y' (record { function = refl; contents = contents' }) callers

      gives_matches : (a b : Instr) (v : Value) (bs : List Block) → item_at P k i ≡ Some a → StepsMatch m P Q k i j (Some a) (Some b) → GoesOn a → GoesOn b → is_some (dest_of a) ≡ is_some (dest_of b) → ((u : Value) → Writes (Some a) p u → (assigns_of a ≡ []) ⊎ (v ≡ u))
          → R (gives P limits (dest_of a) v F fs (record S { blocks = bs })) (gives Q limits (dest_of b) v G gs (record T { blocks = bs }))
      gives_matches a b v bs at steps ga gb dests given = lands (suc i) (suc j) (assigned (dest_of a) v p) (assigned (dest_of b) v q) ps qs bs printed x y (gives_contents a b at steps ga gb dests v given)

      advances-alike : (a b : Instr) (bs : List Block) (out : List ℕ) → item_at P k i ≡ Some a → StepsMatch m P Q k i j (Some a) (Some b) → GoesOn a → GoesOn b → dest_of a ≡ None → dest_of b ≡ None
          → R (advances P limits F fs (record S { blocks = bs; printed = out })) (advances Q limits G gs (record T { blocks = bs; printed = out }))
      advances-alike a b bs out at steps ga gb da db = lands (suc i) (suc j) p q ps qs bs out x y (advances-sits a b at steps ga gb da db)

      -- ---- one operation of the same name on both sides

      module _ (d e : Option ℕ) (s t : Option Ty) (args result_args fns gns ls ms : List ℕ) where
        abbrev A : Op → Instr
        A o = Act d s o args fns ls

        abbrev B : Op → Instr
        B o = Act e t o result_args gns ms

        -- what is known of the two items
        record Row (o : Op) : Type 0 where
          at : item_at P k i ≡ Some (A o)
          steps : StepsMatch m P Q k i j (Some (A o)) (Some (B o))
          act : ActionsMatch (m.LocationsMatch k i j) o o d e s t args result_args fns gns
          shaped : Shaped P k (A o)
          acts : action_outcome o d s args p ≡ HasEffect

        onwards : (o : Op) → Row o → ((code : List Instr) (point : ℕ) → item_branches code point (A o) ≡ onward point ∷ []) → ((code : List Instr) (point : ℕ) → item_branches code point (B o) ≡ onward point ∷ []) → ((b : Bool) → item_change (Some (A o)) b ≡ Keeps)
            → assigns_of (A o) ≡ map Variable (listed d) → assigns_of (B o) ≡ map Variable (listed e) → d ≡ None → (bs : List Block) (out : List ℕ)
            → R (advances P limits F fs (record S { blocks = bs; printed = out })) (advances Q limits G gs (record T { blocks = bs; printed = out }))
        onwards o r wa wb keeps na nb none bs out =
            advances-alike (A o) (B o) bs out r.at r.steps (record { branches = wa; keeps = keeps; assigns = na }) (record { branches = wb; keeps = λ c. keeps c; assigns = nb }) none
            (no_dest e (sym r.act.dest ∙ ap is_some none))

        none_in : (o : Op) (r : Row o) → (shape_of r.shaped.ret o).dest ≡ false → fits_shape (shape_of r.shaped.ret o) (is_some d) (length args) (length fns) (length ls) ≡ true → d ≡ None
        none_in o r none fits = dest_none (shape_of r.shaped.ret o) d (length args) (length fns) (length ls) none fits

        parts : (o : Op) (r : Row o) → fits_shape (shape_of r.shaped.ret o) (is_some d) (length args) (length fns) (length ls) ≡ true → HasShape (shape_of r.shaped.ret o) (is_some d) (length args) (length fns) (length ls)
        parts o r fits = shape-parts (shape_of r.shaped.ret o) (is_some d) (length args) (length fns) (length ls) fits

        -- argument n
        operand : (o : Op) → Row o → AllZip (m.LocationsMatch k i j) (map Variable args) (map Variable result_args) → (n : ℕ) → n < length args → argument p args n ≡ argument q result_args n
        operand o r reads n l = read_at-agree (m.LocationsMatch k i j) (m.LocationsMatch k i j) p q contents.locations args result_args n l reads

        first : (o : Op) → Row o → AllZip (m.LocationsMatch k i j) (map Variable args) (map Variable result_args) → (c : ℕ) → length args ≡ suc c → argument p args 0 ≡ argument q result_args 0
        first o r reads c h = operand o r reads 0 (omega arith)

        row-nop : Row op.Nop → R (advances P limits F fs S) (advances Q limits G gs T)
        row-nop r = onwards op.Nop r (λ c n. refl) (λ c n. refl) (λ b. refl) refl refl (none_in op.Nop r refl r.shaped.shaped) blocks printed

        row-print : Row op.Print → R (acts P limits op.Print d args fns ls F fs S) (acts Q limits op.Print e result_args gns ms G gs T)
        row-print r =
            let vs = reads-agree (m.LocationsMatch k i j) (m.LocationsMatch k i j) p q contents.locations args result_args r.act.reads in
            let none = no_dest d (not-true _ (and_parts _ _ (and_parts _ _ r.shaped.shaped).0).0) in
            let line : line_of (map (read p.vars) args) ≡ line_of (map (read q.vars) result_args) = ap line_of vs in
            subst (λ l. R (acts P limits op.Print d args fns ls F fs S) (advances Q limits G gs (record T { printed = printed ++ l }))) line
            (onwards op.Print r (λ c n. refl) (λ c n. refl) (λ b. refl) refl refl none blocks (printed ++ line_of (map (read p.vars) args)))

        row-free : Row op.Free → R (acts P limits op.Free d args fns ls F fs S) (acts Q limits op.Free e result_args gns ms G gs T)
        row-free r =
            let v = argument p args 0 in
            let e0 = first op.Free r r.act.reads 0 (parts op.Free r r.shaped.shaped).args_are in
            subst (λ w. R (frees P limits v F fs S) (frees Q limits w G gs T)) e0
            (cond-alike (is_freeable (live_block blocks (block_of v)) (offset_of v)) _ _ _ _
            (onwards op.Free r (λ c n. refl) (λ c n. refl) (λ b. refl) refl refl (none_in op.Free r refl r.shaped.shaped) (changed_block blocks (block_of v) (λ b. ended_block)) printed)
            (faults fault.BadFree))

        stored : (o : Option ℕ) (v w : Value) → Row op.Store → R (stores P limits o v w F fs S) (stores Q limits o v w G gs T)
        stored None v w r = faults fault.Access
        stored (Some n) v w r = onwards op.Store r (λ c n. refl) (λ c n. refl) (λ b. refl) refl refl (none_in op.Store r refl r.shaped.shaped) (changed_block blocks (block_of v) (λ b. record b { cells = with_value b.cells n w })) printed

        row-store : Row op.Store → R (acts P limits op.Store d args fns ls F fs S) (acts Q limits op.Store e result_args gns ms G gs T)
        row-store r =
            let v = argument p args 0 in
            let w = argument p args 1 in
            let two = (parts op.Store r r.shaped.shaped).args_are in
            let e0 = first op.Store r r.act.reads 1 two in
            let e1 = operand op.Store r r.act.reads 1 (omega (arith, two)) in
            subst (λ a. R (stores P limits (cell_at blocks v) v w F fs S) (stores Q limits (cell_at blocks a) a (argument q result_args 1) G gs T)) e0
            (subst (λ b. R (stores P limits (cell_at blocks v) v w F fs S) (stores Q limits (cell_at blocks v) v b G gs T)) e1
            (stored (cell_at blocks v) v w r))

        going : (o : Op) → ((code : List Instr) (point : ℕ) (dd : Option ℕ) (ss : Option Ty) (bs cs es : List ℕ) → item_branches code point (Act dd ss o bs cs es) ≡ onward point ∷ []) → ((b : Bool) → item_change (Some (A o)) b ≡ Keeps)
            → ((dd : Option ℕ) (ss : Option Ty) (bs cs es : List ℕ) → assigns_of (Act dd ss o bs cs es) ≡ map Variable (listed dd)) → Row o → (v : Value) (bs : List Block) → ((u : Value) → Writes (Some (A o)) p u → ⊥) → R (gives P limits d v F fs (record S { blocks = bs })) (gives Q limits e v G gs (record T { blocks = bs }))
        going o branches keeps assigns r v bs never =
            gives_matches (A o) (B o) v bs r.at r.steps (record { branches = λ c n. branches c n d s args fns ls; keeps = keeps; assigns = assigns d s args fns ls })
            (record { branches = λ c n. branches c n e t result_args gns ms; keeps = λ c. keeps c; assigns = assigns e t result_args gns ms }) r.act.dest (λ u w. absurd (never u w))

        loaded : (n : ℕ) (o : Option Value) → Row op.Load → R (loads_held P limits o d F fs S) (loads_held Q limits o e G gs T)
        loaded n None r = faults fault.Uninit
        loaded n (Some v) r = going op.Load (λ c n dd ss bs cs es. refl) (λ b. refl) (λ dd ss bs cs es. refl) r v blocks (λ u w. cc)

        loading : (o : Option ℕ) (v : Value) → Row op.Load → R (loads P limits o v d F fs S) (loads Q limits o v e G gs T)
        loading None v r = faults fault.Access
        loading (Some n) v r = loaded n (held blocks v n) r

        row-load : Row op.Load → R (acts P limits op.Load d args fns ls F fs S) (acts Q limits op.Load e result_args gns ms G gs T)
        row-load r =
            let v = argument p args 0 in
            let e0 = first op.Load r r.act.reads 0 (parts op.Load r r.shaped.shaped).args_are in
            subst (λ a. R (loads P limits (cell_at blocks v) v d F fs S) (loads Q limits (cell_at blocks a) a e G gs T)) e0 (loading (cell_at blocks v) v r)

        allocated : (o : Option Fault) (c : ℤ) → Row op.Alloc → R (allocates P limits o c d F fs S) (allocates Q limits o c e G gs T)
        allocated (Some kind) c r = faults kind
        allocated None c r = going op.Alloc (λ c n dd ss bs cs es. refl) (λ b. refl) (λ dd ss bs cs es. refl) r (Ptr (suc (length blocks)) (pos 0)) (blocks ++ new_block (cells_of c) ∷ []) (λ u w. cc)

        row-alloc : Row op.Alloc → R (acts P limits op.Alloc d args fns ls F fs S) (acts Q limits op.Alloc e result_args gns ms G gs T)
        row-alloc r =
            let v = argument p args 0 in
            let e0 = first op.Alloc r r.act.reads 0 (parts op.Alloc r r.shaped.shaped).args_are in
            subst (λ a. R (allocates P limits (allocation_fault limits.cells blocks (int_of v)) (int_of v) d F fs S) (allocates Q limits (allocation_fault limits.cells blocks (int_of a)) (int_of a) e G gs T)) e0
            (allocated (allocation_fault limits.cells blocks (int_of v)) (int_of v) r)

        -- ---- jumps

        jumping : (o : Op) (l l' : ℕ) → Row o → In (jump (code_of P k) i l) (item_branches (code_of P k) i (A o)) → EdgesMatch m P Q k i j (Some (A o)) (Some (B o)) (jump (code_of P k) i l) (jump (code_of Q k) j l')
            → item_change (Some (A o)) false ≡ Keeps → assigns_of (A o) ≡ [] → assigns_of (B o) ≡ [] → R (jumps P limits l F fs S) (jumps Q limits l' G gs T)
        jumping o l l' r among branches keeps na nb = lands (point_of l (code_of P k)) (point_of l' (code_of Q k)) p q ps qs blocks printed x y (jumps-sits (A o) (B o) l l' r.at among branches keeps na nb)

        e_none : (o : Op) → Row o → d ≡ None → map Variable (listed e) ≡ []
        e_none o r none = ap (λ z. map Variable (listed z)) (no_dest e (sym r.act.dest ∙ ap is_some none))

        row-jmp : Row op.Jmp → R (acts P limits op.Jmp d args fns ls F fs S) (acts Q limits op.Jmp e result_args gns ms G gs T)
        row-jmp r =
            let one = (parts op.Jmp r r.shaped.shaped).labels_are in
            let none = none_in op.Jmp r refl r.shaped.shaped in
            jumping op.Jmp (slice_index ls 0) (slice_index ms 0) r (in_map (jump (code_of P k) i) (slice_index ls 0) ls (in_index ls 0 (omega (arith, one))))
            (zip_map-at (EdgesMatch m P Q k i j (Some (A op.Jmp)) (Some (B op.Jmp))) (jump (code_of P k) i) (jump (code_of Q k) j) ls ms 0 (omega (arith, one)) r.steps.branches)
            refl (ap (λ z. map Variable (listed z)) none) (e_none op.Jmp r none)

        branching : (n : ℕ) → n < 2 → Row op.Br → R (jumps P limits (slice_index ls n) F fs S) (jumps Q limits (slice_index ms n) G gs T)
        branching n less r =
            let two = (parts op.Br r r.shaped.shaped).labels_are in
            let none = none_in op.Br r refl r.shaped.shaped in
            jumping op.Br (slice_index ls n) (slice_index ms n) r (in_map (jump (code_of P k) i) (slice_index ls n) ls (in_index ls n (omega (arith, two, less))))
            (zip_map-at (EdgesMatch m P Q k i j (Some (A op.Br)) (Some (B op.Br))) (jump (code_of P k) i) (jump (code_of Q k) j) ls ms n (omega (arith, two, less)) r.steps.branches)
            refl (ap (λ z. map Variable (listed z)) none) (e_none op.Br r none)

        branched : (b : Bool) → Row op.Br → R (jumps P limits (slice_index ls (cond b 0 1)) F fs S) (jumps Q limits (slice_index ms (cond b 0 1)) G gs T)
        branched true r = branching 0 (omega arith) r
        branched false r = branching 1 (omega arith) r

        row-br : Row op.Br → R (acts P limits op.Br d args fns ls F fs S) (acts Q limits op.Br e result_args gns ms G gs T)
        row-br r =
            let v = argument p args 0 in
            let e0 = first op.Br r r.act.reads 0 (parts op.Br r r.shaped.shaped).args_are in
            subst (λ a. R (acts P limits op.Br d args fns ls F fs S) (jumps Q limits (slice_index ms (cond (bool_of a) 0 1)) G gs T)) e0 (branched (bool_of v) r)

        -- ---- shadows and saves

        row-set : Row op.Set → R (acts P limits op.Set d args fns ls F fs S) (acts Q limits op.Set e result_args gns ms G gs T)
        row-set r =
            let v = argument p args 1 in
            let branches = r.steps.branches.0 in
            let e1 : v ≡ argument q result_args 1 = read-agree (m.LocationsMatch k i j) (m.LocationsMatch k i j) p q contents.locations (slice_index args 1) (slice_index result_args 1) r.act.reads.0 in
            subst (λ w. R (acts P limits op.Set d args fns ls F fs S) (advances Q limits (with_locations (shadowed (slice_index result_args 0) w q) G) gs T)) e1
            (lands (suc i) (suc j) (shadowed (slice_index args 0) v p) (shadowed (slice_index result_args 0) v q) ps qs blocks printed x y
            (go (Some (A op.Set)) (Some (B op.Set)) r.at (onward i) (onward j) refl (inl refl) branches _ _ ps qs
            (agree-shadowed (m.LocationsMatch k i j) (m.LocationsMatch k (suc i) (suc j)) p q contents.locations (slice_index args 0) (slice_index result_args 0) v (branches.kept refl))
            (holds-shadowed (m.IsKnown k i) (m.IsKnown k (suc i)) p contents.known (slice_index args 0) v (λ a u l. ⊎_elim inl (λ h. inr (h.0, h.1 p contents.known)) (branches.learns refl a u l)))
            contents.saves))

        -- on, where nothing is assigned
        on : (o : Op) → Row o → In (onward i) (branches_from (code_of P k) i (Some (A o))) → EdgesMatch m P Q k i j (Some (A o)) (Some (B o)) (onward i) (onward j) → assigns_of (A o) ≡ [] → assigns_of (B o) ≡ []
            → (ps' qs' : List Locals) → SavesMatch m P Q k (sites_changed (item_change (Some (A o)) false) i (sites_of (code_of P k) contents.walk)) ps' qs' → R (state (frame k (suc i) p ps' ∷ fs) blocks printed None x) (state (frame k (suc j) q qs' ∷ gs) blocks printed None y)
        on o r among branches na nb ps' qs' saves =
            lands (suc i) (suc j) p q ps' qs' blocks printed x y
            (go (Some (A o)) (Some (B o)) r.at (onward i) (onward j) refl among branches p q ps' qs'
            (agree-none (m.LocationsMatch k i j) (m.LocationsMatch k (suc i) (suc j)) p q contents.locations
            (λ a b h. subst (λ n. StaysMatched [] n (m.LocationsMatch k i j) a b) nb (subst (λ n. StaysMatched n (assigns_of (B o)) (m.LocationsMatch k i j) a b) na (branches.kept refl a b h))))
            (kept_known (Some (A o)) (Some (B o)) (onward i) (onward j) refl branches na) saves)

        row-speculate : Row op.Speculate → R (acts P limits op.Speculate d args fns ls F fs S) (acts Q limits op.Speculate e result_args gns ms G gs T)
        row-speculate r =
            let none = none_in op.Speculate r refl r.shaped.shaped in
            on op.Speculate r (inl refl) r.steps.branches.0 (ap (λ z. map Variable (listed z)) none) (e_none op.Speculate r none) (p ∷ ps) (q ∷ qs) ((j, contents.points, regular, contents.locations, contents.known), contents.saves)

        row-commit : Row op.Commit → R (acts P limits op.Commit d args fns ls F fs S) (acts Q limits op.Commit e result_args gns ms G gs T)
        row-commit r =
            let none = none_in op.Commit r refl r.shaped.shaped in
            on op.Commit r (inl refl) r.steps.branches.0 (ap (λ z. map Variable (listed z)) none) (e_none op.Commit r none) (dropped ps) (dropped qs) (dropped-alike k (sites_of (code_of P k) contents.walk) ps qs contents.saves)

        guarded : (b : Bool) → Row op.Guard → R (guards P limits b (slice_index ls 0) F fs S) (guards Q limits b (slice_index ms 0) G gs T)
        guarded true r =
            let none = none_in op.Guard r refl r.shaped.shaped in
            on op.Guard r (inl refl) r.steps.branches.0 (ap (λ z. map Variable (listed z)) none) (e_none op.Guard r none) ps qs contents.saves
        guarded false r =
            let code = code_of P k in
            let l = slice_index ls 0 in
            let l' = slice_index ms 0 in
            let one = (parts op.Guard r r.shaped.shaped).labels_are in
            let branch = zip_map-at (EdgesMatch m P Q k i j (Some (A op.Guard)) (Some (B op.Guard))) (abort code i) (abort (code_of Q k) j) ls ms 0 (omega (arith, one)) r.steps.branches.1 in
            let here : IsTrue (needs_site (slice_get code (end_of contents.walk))) = subst (λ n. IsTrue (needs_site (slice_get code n))) (sym contents.ends) (subst (λ o. IsTrue (needs_site o)) (sym r.at) refl) in
            lands (point_of l code) (point_of l' (code_of Q k)) (saved ps p) (saved qs q) (dropped ps) (dropped qs) blocks printed _ _
            (go (Some (A op.Guard)) (Some (B op.Guard)) r.at (abort code i l) (abort (code_of Q k) j l') refl (inr (in_map (abort code i) l ls (in_index ls 0 (omega (arith, one))))) branch
            (saved ps p) (saved qs q) (dropped ps) (dropped qs)
            (aborts-locations (Some (A op.Guard)) (Some (B op.Guard)) (abort code i l) (abort (code_of Q k) j l') refl branch (sites_of code contents.walk) ps qs refl contents.saves
            (some_site code contents.walk r.shaped.sound contents.is here))
            (aborts-known (Some (A op.Guard)) (Some (B op.Guard)) (abort code i l) (abort (code_of Q k) j l') refl branch (sites_of code contents.walk) ps qs refl contents.saves
            (some_site code contents.walk r.shaped.sound contents.is here))
            (dropped-alike k (sites_of code contents.walk) ps qs contents.saves))

        row-guard : Row op.Guard → R (acts P limits op.Guard d args fns ls F fs S) (acts Q limits op.Guard e result_args gns ms G gs T)
        row-guard r =
            let v = argument p args 0 in
            let e0 = first op.Guard r r.act.reads 0 (parts op.Guard r r.shaped.shaped).args_are in
            subst (λ a. R (acts P limits op.Guard d args fns ls F fs S) (guards Q limits (bool_of a) (slice_index ms 0) G gs T)) e0 (guarded (bool_of v) r)

  -- ---- returns

  call-goes_on : (u : Op) → op.Call ≡ u → (d : Option ℕ) (t : Option Ty) (args fns ls : List ℕ) → GoesOn (Act d t u args fns ls)
  call-goes_on u e d t args fns ls = subst (λ z. GoesOn (Act d t z args fns ls)) e (record { branches = λ code point. refl; keeps = λ b. refl; assigns = refl })

  -- a caller goes on
  module _ (caller : Frame) (g : Frame) (fs gs : List Frame) (blocks : List Block) (printed : List ℕ) (x y : ℕ → ℕ → ℕ) (fs' gs' : List Frame) (above : ℕ) (w : CallersMatch m P Q above caller g) (callers : StacksMatch m P Q caller.function fs gs) (v v' : Value) (same-values : (v ≡ v') ⊎ (is_some (return_type (slice_get P.funcs above)) ≡ false)) where
    contents' : ContentsMatch m P Q caller.function caller.point g.point caller.locations g.locations caller.saves g.saves
    contents' = w.frames.contents

    abbrev G' : Frame
    G' = frame caller.function g.point g.locations g.saves

    S' : State
    S' = state fs' blocks printed None x

    T' : State
    T' = state gs' blocks printed None y

    reached : IsReached (code_of P caller.function) caller.point
    reached = record { walk = contents'.walk; is = contents'.is; ends = contents'.ends }

    facts : Shaped P caller.function (Act w.call.dest w.call.ty op.Call w.call.args w.call.funcs w.call.labels)
    facts = shaped_here P accepted caller.function caller.point _ w.call.is

    -- the function above returns nothing: no destination
    nothing-taken : is_some (return_type (slice_get P.funcs above)) ≡ false → w.call.dest ≡ None
    nothing-taken none =
        let fits : call_fits P facts.f (slice_get P.funcs (slice_index w.call.funcs 0)) w.call.dest w.call.args ≡ true = facts.called in
        let here = (and_parts _ _ fits).1 in
        no_dest w.call.dest (not-true (is_some w.call.dest) (ap (λ b. same b (is_some w.call.dest)) (sym (ap (λ n. is_some (return_type (slice_get P.funcs n))) w.call.callee_is ∙ none)) ∙ here))

    returned : (u : Option Instr) → StepsMatch m P Q caller.function caller.point g.point (Some (Act w.call.dest w.call.ty op.Call w.call.args w.call.funcs w.call.labels)) u
        → ContentsMatch m P Q caller.function (suc caller.point) (suc g.point) (assigned w.call.dest v caller.locations) (assigned (awaited Q limits u) v' g.locations) caller.saves g.saves
    returned None steps = absurd steps.same
    returned (Some (Label l)) steps = absurd steps.same
    returned (Some (Const z ty value)) steps = absurd steps.same
    returned (Some (Act e t u result_args gns ms)) steps = ⊎_elim equal none same-values
      where
        ga : GoesOn (Act w.call.dest w.call.ty op.Call w.call.args w.call.funcs w.call.labels)
        ga = call-goes_on op.Call refl w.call.dest w.call.ty w.call.args w.call.funcs w.call.labels

        gb : GoesOn (Act e t u result_args gns ms)
        gb = call-goes_on u steps.same.operation e t result_args gns ms

        equal : v ≡ v' → ContentsMatch m P Q caller.function (suc caller.point) (suc g.point) (assigned w.call.dest v caller.locations) (assigned e v' g.locations) caller.saves g.saves
        equal ve = subst (λ z. ContentsMatch m P Q caller.function (suc caller.point) (suc g.point) (assigned w.call.dest v caller.locations) (assigned e z g.locations) caller.saves g.saves) ve
            (gives_contents caller.function caller.point g.point caller.locations g.locations caller.saves g.saves contents' _ _ w.call.is steps ga gb steps.same.dest v (λ u h. absurd (cc)))

        none : is_some (return_type (slice_get P.funcs above)) ≡ false → ContentsMatch m P Q caller.function (suc caller.point) (suc g.point) (assigned w.call.dest v caller.locations) (assigned e v' g.locations) caller.saves g.saves
        none rn =
            let da = nothing-taken rn in
            let db = no_dest e (sym steps.same.dest ∙ ap is_some da) in
            subst (λ z. ContentsMatch m P Q caller.function (suc caller.point) (suc g.point) (assigned w.call.dest v caller.locations) (assigned z v' g.locations) caller.saves g.saves) (sym db)
            (subst (λ z. ContentsMatch m P Q caller.function (suc caller.point) (suc g.point) (assigned z v caller.locations) g.locations caller.saves g.saves) (sym da)
            (advances-sits caller.function caller.point g.point caller.locations g.locations caller.saves g.saves contents' _ _ w.call.is steps ga gb da db))

    caller-goes : R (gives P limits (awaited P limits (item_at P caller.function caller.point)) v caller fs (state fs' blocks printed None x)) (gives Q limits (awaited Q limits (item_at Q caller.function g.point)) v' G' gs (state gs' blocks printed None y))
    caller-goes =
        let steps = preserves.steps caller.function caller.point g.point reached contents'.points w.regular in
        let steps' = subst (λ o. StepsMatch m P Q caller.function caller.point g.point o (item_at Q caller.function g.point)) w.call.is steps in
        subst (λ o. R (gives P limits (awaited P limits o) v caller fs (state fs' blocks printed None x)) (gives Q limits (awaited Q limits (item_at Q caller.function g.point)) v' G' gs (state gs' blocks printed None y))) (sym w.call.is)
        (matches _ _ fs gs blocks printed None x y (record { function = refl; contents = returned (item_at Q caller.function g.point) steps' }) callers)

  -- a frame of the same function is its parts
  same_function : (f g : Frame) → f.function ≡ g.function → g ≡ frame f.function g.point g.locations g.saves
  same_function f g e = ap (λ n. frame n g.point g.locations g.saves) (sym e)

  returns-alike : (k : ℕ) (F G : Frame) → F.function ≡ k → FramesMatch m P Q F G → (fs gs : List Frame) → StacksMatch m P Q k fs gs → (blocks : List Block) (printed : List ℕ) (x y : ℕ → ℕ → ℕ) (v v' : Value) → (v ≡ v') ⊎ (is_some (return_type (slice_get P.funcs k)) ≡ false)
      → R (returns P limits v fs (state (F ∷ fs) blocks printed None x)) (returns Q limits v' gs (state (G ∷ gs) blocks printed None y))
  returns-alike k F G ek framed [] [] w blocks printed x y v v' s = ended-alike (is_live_any blocks)
    where
      ended-alike : (b : Bool) → R (ends P limits b (state (F ∷ []) blocks printed None x)) (ends Q limits b (state (G ∷ []) blocks printed None y))
      ended-alike true = matches F G [] [] blocks printed (Some (Faulted fault.Leak)) x y framed tt
      ended-alike false = matches F G [] [] blocks printed (Some Ended) x y framed tt
  returns-alike k F G ek _ [] (g ∷ gs) w blocks printed x y v v' s = absurd w
  returns-alike k F G ek _ (f ∷ fs) [] w blocks printed x y v v' s = absurd w
  returns-alike k F G ek framed (f ∷ fs) (g ∷ gs) w blocks printed x y v v' s =
      let e = same_function f g w.0.frames.function in
      subst (λ h. R (gives P limits (awaited P limits (item_at P f.function f.point)) v f fs (state (F ∷ f ∷ fs) blocks printed None x)) (gives Q limits (awaited Q limits (item_at Q h.function h.point)) v' h gs (state (G ∷ g ∷ gs) blocks printed None y))) (sym e)
      (caller-goes f g fs gs blocks printed x y (F ∷ f ∷ fs) (G ∷ g ∷ gs) k w.0 w.1 v v' s)

  -- ---- calls

  fresh-sits : (g : ℕ) (vs : List Value) → length vs ≡ length (types_of (slice_get P.funcs g)) → FramesMatch m P Q (new_frame g vs) (new_frame g vs)
  fresh-sits g vs count = record {
    function = refl;
    contents = record {
      walk = [];
      is = tt;
      ends = refl;
      points = preserves.start g;
      locations = preserves.fresh g vs count;
      known = preserves.start_known g vs count;
      saves = tt;
    };
  }

  pub first_states_match : (args : List Value) → length args ≡ length (types_of (slice_get P.funcs P.main)) → R (first_state P limits args) (first_state Q limits args)
  first_states_match args count =
      subst (λ n. R (first_state P limits args) (state (new_frame n args ∷ []) [] [] None (λ f i. 0))) preserves.main
      (matches (new_frame P.main args) (new_frame P.main args) [] [] [] [] None (λ f i. 0) (λ f i. 0) (fresh-sits P.main args count) tt)

  called : (k : ℕ) (F G : Frame) → FramesMatch m P Q F G → (fs gs : List Frame) → StacksMatch m P Q F.function fs gs → (blocks : List Block) (printed : List ℕ) (x y : ℕ → ℕ → ℕ) (g : ℕ) (vs : List Value)
      → CallersMatch m P Q g F G → length vs ≡ length (types_of (slice_get P.funcs g)) → R (calls P limits g vs F fs (state (F ∷ fs) blocks printed None x)) (calls Q limits g vs G gs (state (G ∷ gs) blocks printed None y))
  called k F G here fs gs callers blocks printed x y g vs waits count =
      subst (λ n. R (calls P limits g vs F fs (state (F ∷ fs) blocks printed None x)) (cond (nat_lt (suc n) limits.frames) (state (new_frame g vs ∷ G ∷ gs) blocks printed None y) (faulted fault.Frames (state (G ∷ gs) blocks printed None y)))) (waiting-length F.function fs gs callers)
      (cond-alike (nat_lt (suc (length fs)) limits.frames) _ _ _ _
      (matches (new_frame g vs) (new_frame g vs) (F ∷ fs) (G ∷ gs) blocks printed None x y (fresh-sits g vs count) (waits, callers))
      (matches F G fs gs blocks printed (Some (Faulted fault.Frames)) x y here callers))

  -- ---- all operations

  module _ (k i j : ℕ) (p q : Locals) (ps qs : List Locals) (contents : ContentsMatch m P Q k i j p q ps qs) (regular : m.IsRegular k i j) (fs gs : List Frame) (callers : StacksMatch m P Q k fs gs) (blocks : List Block) (printed : List ℕ) (x y : ℕ → ℕ → ℕ) where
    abbrev F' : Frame
    F' = frame k i p ps

    abbrev H' : Frame
    H' = frame k j q qs

    abbrev source_state : State
    source_state = state (F' ∷ fs) blocks printed None x

    abbrev result_state : State
    result_state = state (H' ∷ gs) blocks printed None y

    here : FramesMatch m P Q F' H'
    here = record { function = refl; contents = contents }

    module _ (d e : Option ℕ) (s t : Option Ty) (args result_args fns gns ls ms : List ℕ) where
      abbrev Row' : Op → Type 0
      Row' o = Row k i j p q ps qs contents regular fs gs callers blocks printed x y d e s t args result_args fns gns ls ms o

      row-call : Row' op.Call → R (acts P limits op.Call d args fns ls F' fs source_state) (acts Q limits op.Call e result_args gns ms H' gs result_state)
      row-call r =
          let vs = map (read p.vars) args in
          let g = slice_index fns 0 in
          let ev : vs ≡ map (read q.vars) result_args = reads-agree (m.LocationsMatch k i j) (m.LocationsMatch k i j) p q contents.locations args result_args r.act.reads in
          let fits : call_fits P r.shaped.f (slice_get P.funcs g) d args ≡ true = r.shaped.called in
          let count = eqb-true (length args) (length (types_of (slice_get P.funcs g))) (and_parts _ _ fits).0 in
          let waits : CallersMatch m P Q g F' H' = record { frames = here; regular = regular; call = record { dest = d; ty = s; args = args; funcs = fns; labels = ls; is = r.at; callee_is = refl } } in
          subst (λ ns. R (acts P limits op.Call d args fns ls F' fs source_state) (calls Q limits (slice_index ns 0) (map (read q.vars) result_args) H' gs result_state)) r.act.funcs
          (subst (λ ws. R (acts P limits op.Call d args fns ls F' fs source_state) (calls Q limits g ws H' gs result_state)) ev
          (called k F' H' here fs gs callers blocks printed x y g vs waits (length-map args (read p.vars) ∙ count)))

      returned-alike : (b : Bool) → Row' op.Ret → b ≡ is_some (return_type (slice_get P.funcs k)) → length args ≡ cond b 1 0 → (argument p args 0 ≡ argument q result_args 0) ⊎ (is_some (return_type (slice_get P.funcs k)) ≡ false)
      returned-alike true r link count = inl (read_at-agree (m.LocationsMatch k i j) (m.LocationsMatch k i j) p q contents.locations args result_args 0 (omega arith) r.act.reads)
      returned-alike false r link count = inr (sym link)

      row-ret : Row' op.Ret → R (acts P limits op.Ret d args fns ls F' fs source_state) (acts Q limits op.Ret e result_args gns ms H' gs result_state)
      row-ret r =
          let count = (shape-parts (shape_of r.shaped.ret op.Ret) (is_some d) (length args) (length fns) (length ls) r.shaped.shaped).args_are in
          returns-alike k F' H' refl here fs gs callers blocks printed x y (argument p args 0) (argument q result_args 0) (returned-alike r.shaped.ret r r.shaped.returns count)

      row : (o : Op) → Row' o → R (acts P limits o d args fns ls F' fs source_state) (acts Q limits o e result_args gns ms H' gs result_state)
      row op.Nop r = row-nop k i j p q ps qs contents regular fs gs callers blocks printed x y d e s t args result_args fns gns ls ms r
      row op.Jmp r = row-jmp k i j p q ps qs contents regular fs gs callers blocks printed x y d e s t args result_args fns gns ls ms r
      row op.Br r = row-br k i j p q ps qs contents regular fs gs callers blocks printed x y d e s t args result_args fns gns ls ms r
      row op.Call r = row-call r
      row op.Ret r = row-ret r
      row op.Print r = row-print k i j p q ps qs contents regular fs gs callers blocks printed x y d e s t args result_args fns gns ls ms r
      row op.Alloc r = row-alloc k i j p q ps qs contents regular fs gs callers blocks printed x y d e s t args result_args fns gns ls ms r
      row op.Free r = row-free k i j p q ps qs contents regular fs gs callers blocks printed x y d e s t args result_args fns gns ls ms r
      row op.Store r = row-store k i j p q ps qs contents regular fs gs callers blocks printed x y d e s t args result_args fns gns ls ms r
      row op.Load r = row-load k i j p q ps qs contents regular fs gs callers blocks printed x y d e s t args result_args fns gns ls ms r
      row op.Set r = row-set k i j p q ps qs contents regular fs gs callers blocks printed x y d e s t args result_args fns gns ls ms r
      row op.Speculate r = row-speculate k i j p q ps qs contents regular fs gs callers blocks printed x y d e s t args result_args fns gns ls ms r
      row op.Commit r = row-commit k i j p q ps qs contents regular fs gs callers blocks printed x y d e s t args result_args fns gns ls ms r
      row op.Guard r = row-guard k i j p q ps qs contents regular fs gs callers blocks printed x y d e s t args result_args fns gns ls ms r
      row op.Get r = absurd (get-gives p d (length args) (length fns) (length ls) r.shaped.shaped r.acts)
      row op.Undef r = absurd (undef-gives P r.shaped.f d s args fns ls r.shaped.shaped r.shaped.typed r.acts)
      row op.Div r = absurd (div-never_acts s (argument p args 0) (argument p args 1) r.acts)
      row op.IntToChar r = absurd (int2char-never_acts s (argument p args 0) (argument p args 1) r.acts)
      row op.PtrAdd r = absurd (ptradd-never_acts s (argument p args 0) (argument p args 1) r.acts)
      row _ r = let h = r.acts in absurd (cc)

      -- by what the operation gives on the first side
      by : (o : Op) (a b : Outcome) → item_at P k i ≡ Some (Act d s o args fns ls) → StepsMatch m P Q k i j (Some (Act d s o args fns ls)) (Some (Act e t o result_args gns ms)) → a ≡ b → action_outcome o d s args p ≡ a → action_outcome o e t result_args q ≡ b
          → R (by_outcome P limits a (Act d s o args fns ls) F' fs source_state) (by_outcome Q limits b (Act e t o result_args gns ms) H' gs result_state)
      by o (Yields v) b at steps same ga gb =
          subst (λ c. R (gives P limits d v F' fs source_state) (by_outcome Q limits c (Act e t o result_args gns ms) H' gs result_state)) same
          (gives_matches k i j p q ps qs contents regular fs gs callers blocks printed x y (Act d s o args fns ls) (Act e t o result_args gns ms) v blocks at steps
          (giver-goes_on (Act d s o args fns ls) p v ga) (giver-goes_on (Act e t o result_args gns ms) q v (gb ∙ sym same)) steps.same.dest (λ u h. inr (writes-gives (Act d s o args fns ls) p v u ga h)))
      by o (FaultsWith kind) b at steps same ga gb =
          subst (λ c. R (faulted kind source_state) (by_outcome Q limits c (Act e t o result_args gns ms) H' gs result_state)) same (faults k i j p q ps qs contents regular fs gs callers blocks printed x y kind)
      by o HasEffect b at steps same ga gb =
          subst (λ c. R (acts P limits o d args fns ls F' fs source_state) (by_outcome Q limits c (Act e t o result_args gns ms) H' gs result_state)) same
          (row o (record { at = at; steps = steps; act = steps.same; shaped = shaped_here P accepted k i (Act d s o args fns ls) at; acts = ga }))

      act-alike : (o : Op) → item_at P k i ≡ Some (Act d s o args fns ls) → StepsMatch m P Q k i j (Some (Act d s o args fns ls)) (Some (Act e t o result_args gns ms))
          → R (item_step P limits (Some (Act d s o args fns ls)) F' fs source_state) (item_step Q limits (Some (Act e t o result_args gns ms)) H' gs result_state)
      act-alike o at steps =
          let facts = shaped_here P accepted k i (Act d s o args fns ls) at in
          by o _ _ at steps (action-same (m.LocationsMatch k i j) p q contents.locations facts.ret o d e s t args result_args fns gns (length ls) facts.shaped steps.same) refl refl

      any-act-alike : (o u : Op) → o ≡ u → item_at P k i ≡ Some (Act d s o args fns ls) → StepsMatch m P Q k i j (Some (Act d s o args fns ls)) (Some (Act e t u result_args gns ms))
          → R (item_step P limits (Some (Act d s o args fns ls)) F' fs source_state) (item_step Q limits (Some (Act e t u result_args gns ms)) H' gs result_state)
      any-act-alike o u e' at =
          subst (λ z. StepsMatch m P Q k i j (Some (Act d s o args fns ls)) (Some (Act e t z result_args gns ms)) → R (item_step P limits (Some (Act d s o args fns ls)) F' fs source_state) (item_step Q limits (Some (Act e t z result_args gns ms)) H' gs result_state)) e' (act-alike o at)

    nothing-returned : (o : Option Instr) → item_at P k i ≡ o → o ≡ None → (read no_values 0 ≡ read no_values 0) ⊎ (is_some (return_type (slice_get P.funcs k)) ≡ false)
    nothing-returned o at e = inl refl

    item-alike : (o u : Option Instr) → item_at P k i ≡ o → StepsMatch m P Q k i j o u → R (item_step P limits o F' fs source_state) (item_step Q limits u H' gs result_state)
    item-alike None None at steps = returns-alike k F' H' refl here fs gs callers blocks printed x y (read no_values 0) (read no_values 0) (inl refl)
    item-alike None (Some b) at steps = absurd steps.same
    item-alike (Some a) None at steps = absurd steps.same
    item-alike (Some (Label l)) (Some (Label l')) at steps =
        advances-alike k i j p q ps qs contents regular fs gs callers blocks printed x y (Label l) (Label l') blocks printed at steps (record { branches = λ c n. refl; keeps = λ b. refl; assigns = refl }) (record { branches = λ c n. refl; keeps = λ b. refl; assigns = refl }) refl refl
    item-alike (Some (Label l)) (Some (Const z ty w)) at steps = absurd steps.same
    item-alike (Some (Label l)) (Some (Act e t u result_args gns ms)) at steps = absurd steps.same
    item-alike (Some (Const z ty v)) (Some (Label l')) at steps = absurd steps.same
    item-alike (Some (Const z ty v)) (Some (Const z' ty' w)) at steps =
        subst (λ (l : Lit). R (gives P limits (Some z) (literal_value v) F' fs source_state) (gives Q limits (Some z') (literal_value l) H' gs result_state)) steps.same
        (gives_matches k i j p q ps qs contents regular fs gs callers blocks printed x y (Const z ty v) (Const z' ty' w) (literal_value v) blocks at steps (record { branches = λ c n. refl; keeps = λ b. refl; assigns = refl }) (record { branches = λ c n. refl; keeps = λ b. refl; assigns = refl }) refl (λ u h. inr (cc)))
    item-alike (Some (Const z ty v)) (Some (Act e t u result_args gns ms)) at steps = absurd steps.same
    item-alike (Some (Act d s o args fns ls)) (Some (Label l')) at steps = absurd steps.same
    item-alike (Some (Act d s o args fns ls)) (Some (Const z ty w)) at steps = absurd steps.same
    item-alike (Some (Act d s o args fns ls)) (Some (Act e t u result_args gns ms)) at steps = any-act-alike d e s t args result_args fns gns ls ms o u steps.same.operation at steps

    -- the newest frames make a step
    frame-alike : R (item_step P limits (item_at P k i) F' fs source_state) (item_step Q limits (item_at Q k j) H' gs result_state)
    frame-alike = item-alike _ _ refl (preserves.steps k i j (record { walk = contents.walk; is = contents.is; ends = contents.ends }) contents.points regular)

  -- Matched states that run, whose newest frames are at a regular pair of points, make a step to matched states.
  pub regular_steps_match : (s t : State) → (r : R s t) → s.ended ≡ None → m.IsRegular r.frame.function r.frame.point r.result_frame.point → R (step P limits s) (step Q limits t)
  regular_steps_match s t r runs regular =
      let F = r.frame in
      let G = r.result_frame in
      let es : s ≡ state (F ∷ r.older) s.blocks s.printed None s.failures = (λ z. state (r.frames z) s.blocks s.printed (runs z) s.failures) in
      let et : t ≡ state (frame F.function G.point G.locations G.saves ∷ r.result_older) s.blocks s.printed None t.failures =
      (λ z. state (r.result_frames z) (sym r.blocks z) (sym r.printed z) ((sym r.ended ∙ runs) z) t.failures)
      ∙ (λ z. state (same_function F G r.newest.function z ∷ r.result_older) s.blocks s.printed None t.failures) in
      subst (λ z. R (step P limits z) (step Q limits t)) (sym es)
      (subst (λ z. R (step P limits (state (F ∷ r.older) s.blocks s.printed None s.failures)) (step Q limits z)) (sym et)
      (frame-alike F.function F.point G.point F.locations G.locations F.saves G.saves r.newest.contents regular r.older r.result_older r.callers s.blocks s.printed s.failures t.failures))

  -- ---- special points

  -- P goes on from an item that neither opens nor closes a site; where Q stands then is for the pass to say.
  pub onward_contents : (k i j : ℕ) (p q : Locals) (ps qs : List Locals) → ContentsMatch m P Q k i j p q ps qs → (a : Instr) → item_at P k i ≡ Some a → item_branches (code_of P k) i a ≡ onward i ∷ [] → item_change (Some a) false ≡ Keeps → (j' : ℕ) (p' q' : Locals) → m.PointsMatch k (suc i) j' → ValuesMatch (m.LocationsMatch k (suc i) j') p' q' → HoldsKnown (m.IsKnown k (suc i)) p'
      → ContentsMatch m P Q k (suc i) j' p' q' ps qs
  onward_contents k i j p q ps qs contents a at goes keeps j' p' q' points agree known =
      let code = code_of P k in
      let among : In (onward i) (branches_at code i) = subst (λ o. In (onward i) (branches_from code i o)) (sym at) (subst (λ l. In (onward i) l) (sym goes) (inl refl)) in
      record {
        walk = onward i ∷ contents.walk;
        is = (contains_in (onward i) (branches_at code (end_of contents.walk)) (subst (λ n. In (onward i) (branches_at code n)) (sym contents.ends) among), contents.is);
        ends = refl;
        points = points;
        locations = agree;
        known = known;
        saves = subst (λ o. SavesMatch m P Q k (sites_changed (item_change o false) i (sites_of code contents.walk)) ps qs) (sym at)
            (subst (λ c. SavesMatch m P Q k (sites_changed c i (sites_of code contents.walk)) ps qs) (sym keeps) contents.saves);
      }
