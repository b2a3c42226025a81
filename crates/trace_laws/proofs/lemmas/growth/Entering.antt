-- The entries of labels of a function with laid traces: each is one of the function that it was made of, or one of three
-- that a trace has. So there are at most three more for each trace.
use Rattle.trace_laws.proofs.lemmas.acceptance.Blocks as blocks
use Rattle.trace_laws.proofs.lemmas.acceptance.Blocks.{same-block}
use Rattle.pass_edit_laws.specs.plan.Plan.{Plan, StepsMatch}
use Rattle.trace_laws.proofs.lemmas.acceptance.Standing.{laid-item}
use Rattle.pass_edit_laws.proofs.lemmas.names.Standing.{ActionAt, action_at, one_target, same_item, IsLabelAt, label_at}
use Rattle.trace_laws.proofs.lemmas.acceptance.Standing.{bailed}
use Rattle.bril_tree.specs.declared.function_tree.Item.TheVariants as item
use Rattle.bril_tree.specs.declared.operation.Op.TheVariants as op
use Rattle.std.proofs.Common.{◌≡◌, ◌⊎◌, ℕ, zero, suc, ◌+◌, ◌*◌, ◌<◌, ◌≤◌, Bool, true, false, List, [], ◌∷◌, ◌++◌, length, map, max, Option, Some, None, refl, sym, ap, subst, ◌∙◌, inl, inr, ⊎_elim, cond, arith}
use Rattle.std.specs.Prelude.{slice_get, is_some, ◌==◌}
use Rattle.std.specs.Option.{option_map}
use Rattle.std.proofs.lemmas.Bool.{eq-eqb}
use Rattle.std.proofs.lemmas.Option.{same_Some, slice_get_within}
use Rattle.bril_tree.specs.declared.edge.Edge.{Edge}
use Rattle.bril_tree.specs.declared.function_tree.Item.{Item}
use Rattle.bril_tree.specs.declared.numbered.Instr.{Instr}
use Rattle.bril_tree.specs.declared.numbered.Instr.TheVariants.{Label, Const, Act}
use Rattle.bril_tree.specs.declared.numbered_function.Func.{Func}
use Rattle.bril_tree.specs.declared.operation.Op.{Op}
use Rattle.bril_tree.specs.declared.program.Prog.{Prog}
use Rattle.bril_tree.specs.declared.types.Ty.{Ty}
use Rattle.bril_tree.specs.Accepted.{IsAccepted}
use Rattle.bril_tree.specs.Edge.{Branch, branches_at, branches_from, item_branches, onward, jump, abort}
use Rattle.program_numbers.specs.Entries.{Enters, IsEntryCount, IsEntryWidth}
use Rattle.bril_tree.specs.FunctionForm.{targets_of}
use Rattle.bril_tree.specs.Leaving.{IsEdge, edge_of, leave_of}
use Rattle.bril_tree.specs.Membership.{In}
use Rattle.bril_tree.specs.Numbered.{named, names_of_functions, point_tree, tree_at, item_tree, variable_names}
use Rattle.bril_tree.specs.Operand.{Location}
use Rattle.bril_tree.specs.Sites.{Keeps, Opens, item_change, sites_of, most_sites}
use Rattle.bril_tree.specs.Shape.{shape_of}
use Rattle.bril_tree.proofs.Shapes.{shape-parts}
use Rattle.pass_edit_laws.proofs.lemmas.steps.Shapes.{Shaped, shaped_here}
use Rattle.bril_tree.proofs.Elements.{in_index}
use Rattle.bril_tree.specs.Step.{code_of, item_at, items_of, point_of}
use Rattle.bril_tree.specs.Walk.{IsWalk, IsReached, end_of}
use Rattle.bril_tree.proofs.Branches.{branch_from}
use Rattle.bril_tree.proofs.Formed.{target_below}
use Rattle.bril_tree.proofs.LabelPoints.{label-point, label-at_point}
use Rattle.bril_tree.proofs.Members.{contains_in, in_contains, in_map_source}
use Rattle.bril_names.proofs.Naming.{one_number}
use Rattle.pass_edit_laws.specs.plan.Plan.{EdgesMatch, ItemsMatch}
use Rattle.pass_edit_laws.proofs.lemmas.plan.Elements.{all_in}
use Rattle.pass_edit_laws.specs.walks.Matched.{MatchedWalk, SavedSetsMatch}
use Rattle.pass_edit_laws.proofs.lemmas.numbers.Different.{in_filter}
use Rattle.bril_tree.proofs.Assignments.{site_speculates}
use Rattle.bril_tree.proofs.Elements.{get_inside}
use Rattle.bril_tree.proofs.Counting.{no_more}
use Rattle.pass_edit_laws.proofs.lemmas.numbers.Twins.{Twin, twin}
use Rattle.pass_edit_laws.proofs.lemmas.numbers.Shares.{owned}
use Rattle.pass_edit_laws.proofs.lemmas.numbers.Edges.{label-back, edge-leaves}
use Rattle.pass_edit_laws.proofs.lemmas.numbers.Entering.{EntryMatched, LeaveMatched, few-entries, label-low, labels-within, point_before}
use Rattle.trace_paths.specs.Path.{Leg, Straight, Turn, stopped, Meeting, Over, To, Lays, Turns, Stops, item_met, operation_met, chosen, path_by, path_from, path_of}
use Rattle.trace_laws.specs.lines.Lines.{TraceNames, guard_line, args_in, leg_lines, end_lines}
use Rattle.pass_edit_laws.specs.plan.Lines.{listed_item}
use Rattle.trace_laws.specs.lines.Traced.{Trace, Laying}
use Rattle.trace_laws.specs.refinement.Stitched.{Stands, IsTracedAt, Stitched}
use Rattle.trace_paths.specs.Fits.{fit_path}
use Rattle.trace_laws.proofs.lemmas.refinement.Straight.{Goes, over-goes, lays-goes, same-lays, to-jmp, IsBr, turns-br}
use Rattle.trace_laws.proofs.lemmas.refinement.Plans.{M, A, preserves}
use Rattle.trace_laws.proofs.lemmas.lines.Quiet.{LegOk, legs-ok}
use Rattle.trace_laws.proofs.lemmas.acceptance.Standing.{bail, behind, Inner, InTrace, Door, OnPath, AtGuard, AtJmp, AtBail, Normal, Ended, Lay, Choose, normal}
use Rattle.trace_laws.proofs.lemmas.acceptance.Walking.{At, Outside, Within, all-at}

-- ---- items that a path walks over or lays

over-act-same : (o : Op) (ls ms : List ℕ) → operation_met o ls ≡ Over → operation_met o ms ≡ Over
over-act-same op.Nop ls ms e = refl
over-act-same _ ls ms e = absurd (cc)

same-over : (B : Location → Location → Type 0) (a b : Instr) → ItemsMatch B a b → item_met (Some a) ≡ Over → item_met (Some b) ≡ Over
same-over B (Label l) (Label m) s e = refl
same-over B (Label l) (Const x t v) s e = absurd s
same-over B (Label l) (Act d r o args fns ls) s e = absurd s
same-over B (Const x t v) b s e = absurd (cc)
same-over B (Act d r o args fns ls) (Label l) s e = absurd s
same-over B (Act d r o args fns ls) (Const x t v) s e = absurd s
same-over B (Act d r o args fns ls) (Act e t u result_args gns ms) s h = ap (λ z. operation_met z ms) (sym s.operation) ∙ over-act-same o ls ms h

goes-on : (B : Location → Location → Type 0) (a b : Instr) → ItemsMatch B a b → (item_met (Some a) ≡ Over) ⊎ (item_met (Some a) ≡ Lays) → Goes b
goes-on B a b same (inl e) = over-goes b (same-over B a b same e)
goes-on B a b same (inr e) = lays-goes b (same-lays B a b same e)

-- ---- where a path stops

-- it stops where it began, behind an item that it walked over or laid, or at a label
abbrev Stopped : List Instr → ℕ → ℕ → Type 0
Stopped code k s = (s ≡ k) ⊎ (((j : ℕ) × (s ≡ suc j) × ((item_met (slice_get code j) ≡ Over) ⊎ (item_met (slice_get code j) ≡ Lays))) ⊎ ((i : ℕ) × (a : Instr) × (slice_get code i ≡ Some a) × ((l : ℕ) × (s ≡ point_of l code) × ((item_met (Some a) ≡ To l) ⊎ ((on : ℕ) × (off : ℕ) × (item_met (Some a) ≡ Turns on off) × ((c : Bool) × (l ≡ chosen c on off)))))))

abbrev Stoppeds : List Instr → ℕ → ℕ → Type 0
Stoppeds code own fuel = (room : ℕ) (choices : List Bool) (k : ℕ) → Stopped code k (path_from code own fuel room choices k).stop

module _ (code : List Instr) (own fuel : ℕ) (rest : Stoppeds code own fuel) (k : ℕ) where
  behind-item : (item_met (slice_get code k) ≡ Over) ⊎ (item_met (slice_get code k) ≡ Lays) → (s : ℕ) → Stopped code (suc k) s → Stopped code k s
  behind-item met s (inl e) = inr (inl (k, e, met))
  behind-item met s (inr h) = inr h

  at-label : (a : Instr) → slice_get code k ≡ Some a → (l : ℕ) → (item_met (Some a) ≡ To l) ⊎ ((on : ℕ) × (off : ℕ) × (item_met (Some a) ≡ Turns on off) × ((c : Bool) × (l ≡ chosen c on off))) → (s : ℕ) → Stopped code (point_of l code) s → Stopped code k s
  at-label a at l met s (inl e) = inr (inr (k, a, at, (l, e, met)))
  at-label a at l met s (inr h) = inr h

  met-stop : (room : ℕ) (choices : List Bool) (o : Option Instr) → slice_get code k ≡ o → (m : Meeting) → item_met o ≡ m → Stopped code k (path_by code (path_from code own fuel) m room choices k).stop
  met-stop room choices o at Over e = behind-item (inl (ap item_met at ∙ e)) _ (rest room choices (suc k))
  met-stop room choices None at (To l) e = absurd (cc)
  met-stop room choices (Some a) at (To l) e = at-label a at l (inl e) _ (rest room choices (point_of l code))
  met-stop zero choices o at Lays e = inl refl
  met-stop (suc room) choices o at Lays e = behind-item (inr (ap item_met at ∙ e)) _ (rest room choices (suc k))
  met-stop zero choices o at (Turns on off) e = inl refl
  met-stop (suc room) [] o at (Turns on off) e = inl refl
  met-stop (suc room) (c ∷ choices) None at (Turns on off) e = absurd (cc)
  met-stop (suc room) (c ∷ choices) (Some a) at (Turns on off) e = at-label a at (chosen c on off) (inr (on, off, e, (c, refl))) _ (rest room choices (point_of (chosen c on off) code))
  met-stop room choices o at Stops e = inl refl

  own-stop : (room : ℕ) (choices : List Bool) (b : Bool) → Stopped code k (cond b (stopped k) (path_by code (path_from code own fuel) (item_met (slice_get code k)) room choices k)).stop
  own-stop room choices true = inl refl
  own-stop room choices false = met-stop room choices (slice_get code k) refl (item_met (slice_get code k)) refl

path-stop : (code : List Instr) (own fuel : ℕ) → Stoppeds code own fuel
path-stop code own zero room choices k = inl refl
path-stop code own (suc fuel) room choices k = own-stop code own fuel (path-stop code own fuel) k room choices (k == own)

-- ---- entries that are new

-- the entries of this function
abbrev pub laid_in : ℕ → List Laying → List Laying
laid_in f laid = owned (λ (x : Laying). x.fit.function) laid f

pub laid-in : (f : ℕ) (laid : List Laying) (x : Laying) → In x laid → x.fit.function ≡ f → In x (laid_in f laid)
laid-in f laid x i e = in_filter (λ (y : Laying). y.fit.function == f) laid x i (eq-eqb x.fit.function f e)

-- The entries that a trace brings: from its guards to the label behind it, from its `jmp`, and from above to the label before which its
-- path stopped.
data Brought : Type 0 where
  FromGuards : Brought
  FromJmp : Brought
  FromAbove : Brought

abbrev tokens : List Laying → List (Laying × Brought)
tokens [] = []
tokens (x ∷ laid) = (x, FromGuards) ∷ (x, FromJmp) ∷ (x, FromAbove) ∷ tokens laid

tokens-length : (laid : List Laying) → length (tokens laid) ≡ 3 * length laid
tokens-length [] = refl
tokens-length (x ∷ laid) = let r = tokens-length laid in omega arith

tokens-in : (laid : List Laying) (x : Laying) (k : Brought) → In x laid → In (x, k) (tokens laid)
tokens-in [] x k i = absurd i
tokens-in (y ∷ laid) x FromGuards (inl e) = inl (ap (λ (z : Laying). (z, FromGuards)) e)
tokens-in (y ∷ laid) x FromJmp (inl e) = inr (inl (ap (λ (z : Laying). (z, FromJmp)) e))
tokens-in (y ∷ laid) x FromAbove (inl e) = inr (inr (inl (ap (λ (z : Laying). (z, FromAbove)) e)))
tokens-in (y ∷ laid) x k (inr i) = inr (inr (inr (tokens-in laid x k i)))

module _ (P Q : Prog) (bool : Ty) (accepted : IsAccepted P) (st : Stitched P Q bool) (laid : List Laying) (f : ℕ) (F G : Func) (p : slice_get P.funcs f ≡ Some F) (q : slice_get Q.funcs f ≡ Some G)
    (roomy : (i : ℕ) (t : Trace) → st.traces f i ≡ Some t → (w : List Branch) → IsWalk (code_of P f) w → end_of w ≡ i → length (sites_of (code_of P f) w) < most_sites)
    (start : MatchedWalk (M P Q bool accepted st) P Q f F.args G.args [])
    -- whose lines these are
    (stop_owner : (i j m : ℕ) → suc m ≤ st.stops f i → j + suc m ≡ st.old f i → (x : Laying) × In x laid × (x.fit.function ≡ f) × ((fit_path P x.fit).stop ≡ i) × (tree_at Q f j ≡ Some (item.Label x.names.stop)))
    (trace_owner : (i : ℕ) (t : Trace) → st.traces f i ≡ Some t → (x : Laying) × In x laid × (x.fit.function ≡ f) × (x.fit.point ≡ i) × (x.names ≡ t.names))
    (plain_stop : (i : ℕ) (label : List ℕ) → tree_at P f i ≡ Some (item.Label label) → st.stops f i ≡ 0)
    (labelled : (x : Laying) → In x laid → x.fit.function ≡ f → (label : List ℕ) × (tree_at P f x.fit.point ≡ Some (item.Label label)))
    (traced_reached : (i : ℕ) (t : Trace) → st.traces f i ≡ Some t → IsReached (code_of P f) i) where
  abbrev C : List Instr
  C = code_of P f

  abbrev D : List Instr
  D = code_of Q f

  here : code_of P f ≡ F.code
  here = ap items_of p

  there : code_of Q f ≡ G.code
  there = ap items_of q

  -- a label of G by its name
  name-there : (j l : ℕ) → slice_get G.code j ≡ Some (Label l) → tree_at Q f j ≡ Some (item.Label (named G.labels l))
  name-there j l at = ap (λ o. point_tree (names_of_functions Q.funcs) o j) q ∙ ap (option_map (item_tree (names_of_functions Q.funcs) (variable_names G.vars) G.labels)) at

  named-so : (j l : ℕ) (name : List ℕ) → slice_get G.code j ≡ Some (Label l) → tree_at Q f j ≡ Some (item.Label name) → named G.labels l ≡ name
  named-so j l name at is = let e : item.Label (named G.labels l) ≡ item.Label name = same_Some _ _ (sym (name-there j l at) ∙ is) in cc

  no-label : (j l : ℕ) (a : Item) → slice_get G.code j ≡ Some (Label l) → tree_at Q f j ≡ Some a → ((name : List ℕ) → a ≡ item.Label name → ⊥) → ⊥
  no-label j l a at is other = other (named G.labels l) (same_Some _ _ (sym is ∙ name-there j l at))

  -- where a leave point of Q comes from
  abbrev L : Option ℕ → Option ℕ → Type 0
  L a None = a ≡ None
  L a (Some i) = ((st.traces f i ≡ None) × (a ≡ Some (st.old f i))) ⊎ ((t : Trace) × (st.traces f i ≡ Some t) × ((n : ℕ) × (a ≡ Some n) × (suc n + st.stops f (suc i) ≡ st.old f (suc i))))

  one-leave : (a c b : Option ℕ) → L a b → L c b → a ≡ c
  one-leave a c None r s = r ∙ sym s
  one-leave a c (Some i) (inl r) (inl s) = r.1 ∙ sym s.1
  one-leave a c (Some i) (inl r) (inr s) = absurd (let h : None ≡ Some s.0 = sym r.0 ∙ s.1 in cc)
  one-leave a c (Some i) (inr r) (inl s) = absurd (let h : None ≡ Some r.0 = sym s.0 ∙ r.1 in cc)
  one-leave a c (Some i) (inr r) (inr s) = let m : r.2.0 ≡ s.2.0 = omega (arith, r.2.2, s.2.2) in r.2.1 ∙ ap Some m ∙ sym s.2.1

  -- the three entries of a trace
  abbrev IsNew : Laying → Brought → Option ℕ → ℕ → Type 0
  IsNew x FromGuards leave l = (named G.labels l ≡ x.names.bail) × (leave ≡ Some (suc (st.old f x.fit.point)))
  IsNew x FromJmp leave l = (named G.labels l ≡ x.names.stop) × ((n : ℕ) × (leave ≡ Some n) × (suc (suc n) + st.stops f (suc x.fit.point) ≡ st.old f (suc x.fit.point)))
  IsNew x FromAbove leave l = (named G.labels l ≡ x.names.stop) × (leave ≡ point_before (point_of l G.code))

  -- an item from which all branches go to one point, and that opens no site
  record Single (n : ℕ) (y : Instr) : Type 0 where
    to : (b c : Branch) → In b (item_branches (code_of Q f) n y) → In c (item_branches (code_of Q f) n y) → b.to ≡ c.to
    goes : (b : Branch) → In b (item_branches (code_of Q f) n y) → b.aborts ≡ false
    keeps : item_change (Some y) false ≡ Keeps

  onward-single : (n : ℕ) (y : Instr) → item_branches (code_of Q f) n y ≡ onward n ∷ [] → item_change (Some y) false ≡ Keeps → Single n y
  onward-single n y e keeps = record { to = λ b c i j. ap (λ (z : Branch). z.to) (one b i) ∙ ap (λ (z : Branch). z.to) (sym (one c j)); goes = λ b i. ap (λ (z : Branch). z.aborts) (one b i); keeps = keeps }
    where
      only : (b : Branch) → In b (onward n ∷ []) → b ≡ onward n
      only b (inl s) = s
      only b (inr z) = absurd z

      one : (b : Branch) → In b (item_branches (code_of Q f) n y) → b ≡ onward n
      one b i = only b (subst (In b) e i)

  -- what stands where a new entry leaves
  data Source (leave : Option ℕ) (l : ℕ) : Type 0 where
    AtStart : leave ≡ None → Source leave l
    AtSingle : (n : ℕ) (y : Instr) → leave ≡ Some n → item_at Q f n ≡ Some y → Single n y → Source leave l
    AtTrace : (i : ℕ) (t : Trace) → st.traces f i ≡ Some t → leave ≡ Some (suc (st.old f i)) → named G.labels l ≡ t.names.bail → Source leave l

  data Entered (leave : Option ℕ) (l : ℕ) : Type 0 where
    Old : (from : Option ℕ) (to : ℕ) → Enters F.code from to → named F.labels to ≡ named G.labels l → L leave from → Entered leave l
    New : (x : Laying) → In x laid → x.fit.function ≡ f → (k : Brought) → IsNew x k leave l → Source leave l → Entered leave l

  -- the label before which it stands
  at-stop : (i j m l : ℕ) (leave : Option ℕ) → suc m ≤ st.stops f i → j + suc m ≡ st.old f i → slice_get G.code j ≡ Some (Label l) → leave ≡ point_before j → Source leave l → Entered leave l
  at-stop i j m l leave few e at is source =
      let o = stop_owner i j m few e in
      New o.0 o.1 o.2 FromAbove (named-so j l o.0.names.stop at o.4, is ∙ ap point_before (sym (label-at_point 0 (length G.labels) G.code G.formed.placed j l at))) source

  reached-to : (edge : Edge) → IsEdge (code_of P f) edge → IsReached (code_of P f) edge.to
  reached-to edge is = record { walk = is.branch ∷ is.walk; is = (is.at, is.is); ends = sym (ap (λ (d : Edge). d.to) is.are) }

  -- P has a label there
  label-tree : (k l : ℕ) → slice_get F.code k ≡ Some (Label l) → tree_at P f k ≡ Some (item.Label (named F.labels l))
  label-tree k l at = ap (λ o. point_tree (names_of_functions P.funcs) o k) p ∙ ap (option_map (item_tree (names_of_functions P.funcs) (variable_names F.vars) F.labels)) at

  target-tree : (i : ℕ) (a : Instr) → item_at P f i ≡ Some a → (l : ℕ) → In l (targets_of a) → tree_at P f (point_of l (code_of P f)) ≡ Some (item.Label (named F.labels l))
  target-tree i a at l among =
      let below = target_below F i a (ap (λ k. slice_get k i) (sym here) ∙ at) l among in
      label-tree (point_of l (code_of P f)) l (ap (λ c. slice_get F.code (point_of l c)) here ∙ label-point l (length F.labels) F.code F.formed.placed below)

  -- a target that the path takes is one of the item's
  taken-target : (a : Instr) (i : ℕ) → item_at P f i ≡ Some a → (l : ℕ) → (item_met (Some a) ≡ To l) ⊎ ((on : ℕ) × (off : ℕ) × (item_met (Some a) ≡ Turns on off) × ((c : Bool) × (l ≡ chosen c on off))) → In l (targets_of a)
  taken-target a i at l (inl e) =
      let j = to-jmp a l e in
      let s = subst (λ z. Shaped P f z) j.is (shaped_here P accepted f i a at) in
      let one = (shape-parts (shape_of s.ret op.Jmp) (is_some j.d) (length j.args) (length j.fns) (length j.ls) s.shaped).labels_are in
      subst (λ z. In l (targets_of z)) (sym j.is) (subst (λ z. In z j.ls) j.label (in_index j.ls 0 (omega arith)))
  taken-target a i at l (inr h) =
      let r = turns-br a h.0 h.1 h.2 in
      let s = subst (λ z. Shaped P f z) r.is (shaped_here P accepted f i a at) in
      let two = (shape-parts (shape_of s.ret op.Br) (is_some r.d) (length r.args) (length r.fns) (length r.ls) s.shaped).labels_are in
      subst (λ z. In l (targets_of z)) (sym r.is) (subst (λ z. In z r.ls) (sym h.3.1) (by r two h.3.0))
    where
      by : (r : IsBr a h.0 h.1) → length r.ls ≡ 2 → (c : Bool) → In (chosen c h.0 h.1) r.ls
      by r two true = subst (λ z. In z r.ls) r.first (in_index r.ls 0 (omega arith))
      by r two false = subst (λ z. In z r.ls) r.second (in_index r.ls 1 (omega arith))

  -- an item before stop labels
  Walked : ℕ → Type 0
  Walked i = (a : Instr) × (item_at P f i ≡ Some a) × ((item_met (Some a) ≡ Over) ⊎ (item_met (Some a) ≡ Lays))

  walked : (i j m : ℕ) → suc m ≤ st.stops f (suc i) → j + suc m ≡ st.old f (suc i) → (a : Instr) × (item_at P f i ≡ Some a) × ((item_met (Some a) ≡ Over) ⊎ (item_met (Some a) ≡ Lays))
  walked i j m few e = by_owner (stop_owner (suc i) j m few e)
    where
      by_item : (o : Option Instr) → item_at P f i ≡ o → (item_met o ≡ Over) ⊎ (item_met o ≡ Lays) → (a : Instr) × (item_at P f i ≡ Some a) × ((item_met (Some a) ≡ Over) ⊎ (item_met (Some a) ≡ Lays))
      by_item None at (inl e) = absurd (cc)
      by_item None at (inr e) = absurd (cc)
      by_item (Some a) at met = (a, at, met)

      by_owner : (x : Laying) × In x laid × (x.fit.function ≡ f) × ((fit_path P x.fit).stop ≡ suc i) × (tree_at Q f j ≡ Some (item.Label x.names.stop)) → (a : Instr) × (item_at P f i ≡ Some a) × ((item_met (Some a) ≡ Over) ⊎ (item_met (Some a) ≡ Lays))
      by_owner o = by (path-stop (code_of P f) o.0.fit.point 1023 256 o.0.fit.choices (suc o.0.fit.point))
        where
          stop : (path_of (code_of P f) o.0.fit.point o.0.fit.choices).stop ≡ suc i
          stop = ap (λ n. (path_of (code_of P n) o.0.fit.point o.0.fit.choices).stop) (sym o.2) ∙ o.3

          by : Stopped (code_of P f) (suc o.0.fit.point) (path_of (code_of P f) o.0.fit.point o.0.fit.choices).stop → (a : Instr) × (item_at P f i ≡ Some a) × ((item_met (Some a) ≡ Over) ⊎ (item_met (Some a) ≡ Lays))
          by (inl e) =
              let same : o.0.fit.point ≡ i = omega (arith, e, stop) in
              let l = labelled o.0 o.1 o.2 in
              let k = label_at P f i l.0 (ap (tree_at P f) (sym same) ∙ l.1) in
              (Label k.number, k.at, inl refl)
          by (inr (inl h)) =
              let same : h.0 ≡ i = omega (arith, h.1, stop) in
              by_item (item_at P f i) refl (subst (λ n. (item_met (slice_get (code_of P f) n) ≡ Over) ⊎ (item_met (slice_get (code_of P f) n) ≡ Lays)) same h.2)
          by (inr (inr h)) =
              let tree = target-tree h.0 h.1 h.2 h.3.0 (taken-target h.1 h.0 h.2 h.3.0 h.3.2) in
              let none = plain_stop (suc i) (named F.labels h.3.0) (ap (tree_at P f) (sym stop ∙ h.3.1) ∙ tree) in
              absurd (omega arith)

  -- an edge of P to an item at which Q has the label
  at-old : (edge : Edge) → IsEdge (code_of P f) edge → (l : ℕ) (leave : Option ℕ) → slice_get G.code (st.old f edge.to) ≡ Some (Label l) → L leave (Some edge.leave) → Entered leave l
  at-old edge is l leave at leaves =
      let m = label-back P Q f F G p q edge.to (st.old f edge.to) l (st.kept f edge.to (reached-to edge is)) at in
      Old (Some edge.leave) m.0 (edge, subst (λ c. IsEdge c edge) here is, refl, m.1) m.2 leaves

  -- ---- where a function begins

  entry-first : (l : ℕ) → slice_get G.code 0 ≡ Some (Label l) → Entered None l
  entry-first l at = by (st.start f).0 (st.start f).1 (st.start f).2
    where
      by : (m : ℕ) → m ≤ st.stops f 0 → 0 + m ≡ st.old f 0 → Entered None l
      by (suc m) few e = at-stop 0 0 m l None few e at refl (AtStart refl)
      by zero few e =
          let m = label-back P Q f F G p q 0 0 l (st.kept f 0 (record { walk = []; is = tt; ends = refl }) ∙ ap (tree_at Q f) (sym e)) at in
          Old None m.0 m.1 m.2 refl

  -- ---- an edge

  module _ (v : List Branch) (b : Branch) (among : In b (branches_at (code_of Q f) (end_of v))) (leave l : ℕ) (leaves : leave ≡ (edge_of (sites_of (code_of Q f) v) b).leave) (at : slice_get G.code b.to ≡ Some (Label l)) where
    one-branch : (c : Branch) → In b (c ∷ []) → b ≡ c
    one-branch c (inl e) = e
    one-branch c (inr n) = absurd n

    only-onward : (y : Instr) → item_at Q f (end_of v) ≡ Some y → item_branches D (end_of v) y ≡ onward (end_of v) ∷ [] → b ≡ onward (end_of v)
    only-onward y is goes = one-branch (onward (end_of v)) (subst (In b) goes (subst (λ o. In b (branches_from D (end_of v) o)) is among))

    from-here : b ≡ onward (end_of v) → leave ≡ end_of v
    from-here e = leaves ∙ ap (λ c. (edge_of (sites_of (code_of Q f) v) c).leave) e

    on-here : b ≡ onward (end_of v) → slice_get G.code (suc (end_of v)) ≡ Some (Label l)
    on-here e = subst (λ (c : Branch). slice_get G.code c.to ≡ Some (Label l)) e at

    not-on : b ≡ onward (end_of v) → (a : Item) → tree_at Q f (suc (end_of v)) ≡ Some a → ((name : List ℕ) → a ≡ item.Label name → ⊥) → Entered (Some leave) l
    not-on e a is other = absurd (no-label (suc (end_of v)) l a (on-here e) is other)

    label-source : b ≡ onward (end_of v) → (k : ℕ) → item_at Q f (end_of v) ≡ Some (Label k) → Source (Some leave) l
    label-source e k label = AtSingle (end_of v) (Label k) (ap Some (from-here e)) label (onward-single (end_of v) (Label k) refl refl)

    -- ---- inside a trace

    module _ (i : ℕ) (t : Trace) (is : st.traces f i ≡ Some t) where
      h : IsTracedAt P Q bool st.old st.stops f i t
      h = st.traced f i t is

      abbrev tail : ℕ → List Leg → List Item
      tail n legs = leg_lines bool (tree_at P f) t.names n legs ++ end_lines bool (tree_at P f) t.names

      -- what comes next inside is no label
      plain-head : (j n : ℕ) (legs : List Leg) → ((leg : Leg) → In leg legs → LegOk (code_of P f) leg) → Stands P Q bool f j (tail n legs) → (name : List ℕ) → tree_at Q f j ≡ Some (item.Label name) → ⊥
      plain-head j n [] ok s name e = let g = sym s.0 ∙ e in cc
      plain-head j n (Turn k true ∷ legs) ok s name e = let g = sym s.0 ∙ e in cc
      plain-head j n (Turn k false ∷ legs) ok s name e = let g = sym s.0 ∙ e in cc
      plain-head j n (Straight k ∷ legs) ok s name e = by (tree_at P f k) refl s (λ s'. plain-head j n legs (λ leg m. ok leg (inr m)) s' name e)
        where
          by : (o : Option Item) → tree_at P f k ≡ o → Stands P Q bool f j ((listed_item o ++ leg_lines bool (tree_at P f) t.names n legs) ++ end_lines bool (tree_at P f) t.names) → (Stands P Q bool f j (tail n legs) → ⊥) → ⊥
          by None none s' rest = rest s'
          by (Some a) some s' rest =
              let m = label_at P f k name (some ∙ sym s'.0 ∙ e) in
              let lays : item_met (item_at P f k) ≡ Lays = ok (Straight k) (inl refl) in
              let bad : item_met (Some (Label m.number)) ≡ Lays = ap item_met (sym m.at) ∙ lays in
              cc

      plain-on : (n : ℕ) (fuel room : ℕ) (choices : List Bool) (k : ℕ) → b ≡ onward (end_of v) → Stands P Q bool f (suc (end_of v)) (tail n (path_from (code_of P f) i fuel room choices k).legs) → Entered (Some leave) l
      plain-on n fuel room choices k e s =
          absurd (plain-head (suc (end_of v)) n (path_from (code_of P f) i fuel room choices k).legs (legs-ok (code_of P f) i fuel room choices k) s (named G.labels l) (name-there (suc (end_of v)) l (on-here e)))

      owner : (x : Laying) × In x laid × (x.fit.function ≡ f) × (x.fit.point ≡ i) × (x.names ≡ t.names)
      owner = trace_owner i t is

      In' : List Branch → Type 0
      In' w = Inner P Q bool accepted st f F.args G.args i t is v w

      -- at a guard
      guard-entry : (w : List Branch) → Inner P Q bool accepted st f F.args G.args i t is v w → (gargs : List (List ℕ)) → tree_at Q f (end_of v) ≡ Some (guard_line gargs t.names.bail) → (n fuel room : ℕ) (choices : List Bool) (k : ℕ) → Stands P Q bool f (suc (end_of v)) (tail n (path_from (code_of P f) i fuel room choices k).legs) → Entered (Some leave) l
      guard-entry w inner gargs line n fuel room choices k s = by (subst (λ z. In b (branches_from D (end_of v) z)) o.at among)
        where
          o : ActionAt Q f (end_of v) None op.Guard gargs [] (t.names.bail ∷ [])
          o = action_at Q f (end_of v) None op.Guard gargs [] (t.names.bail ∷ []) line

          by : In b (onward (end_of v) ∷ map (abort (code_of Q f) (end_of v)) o.targets) → Entered (Some leave) l
          by (inl e) = plain-on n fuel room choices k e s
          by (inr m) =
              let c = in_map_source (abort (code_of Q f) (end_of v)) b o.targets m in
              let to : b.to ≡ bail P Q bool accepted st f F.args G.args i t is = ap (λ (z : Branch). z.to) c.2 ∙ one_target Q f (end_of v) None op.Guard gargs [] t.names.bail o (bail P Q bool accepted st f F.args G.args i t is) (bailed P Q bool accepted st f F.args G.args i t is) c.0 c.1 in
              let name = named-so b.to l t.names.bail at (ap (tree_at Q f) to ∙ bailed P Q bool accepted st f F.args G.args i t is) in
              let left : leave ≡ suc (st.old f i) = leaves ∙ ap (λ z. (edge_of (sites_of (code_of Q f) v) z).leave) c.2 ∙ ap (leave_of true (end_of v)) inner.sites in
              New owner.0 owner.1 owner.2 FromGuards (name ∙ ap (λ (z : TraceNames). z.bail) (sym owner.4), ap Some (left ∙ ap (λ z. suc (st.old f z)) (sym owner.3))) (AtTrace i t is (ap Some left) name)

      normal-entry : Normal P Q bool accepted st f F.args G.args i t is v → Entered (Some leave) l
      normal-entry (Ended w inner lines stop) =
          let o = action_at Q f (end_of v) None op.Commit [] [] [] lines.stands.0 in
          not-on (only-onward (Act o.assigned o.ty op.Commit o.arguments o.callees o.targets) o.at refl) _ lines.stands.1.0 (λ name e. cc)
      normal-entry (Lay w inner fuel room choices n a is-a met lines stop) =
          let it = laid-item P Q bool accepted st f F.args G.args i t is (end_of v) n (end_of w) a (path_from (code_of P f) i fuel room choices (suc (end_of w))) is-a lines in
          let both = it.both in
          let gb = lays-goes both.item (same-lays (A P Q bool accepted st f) a both.item both.same met) in
          plain-on n fuel room choices (suc (end_of w)) (only-onward both.item both.at (gb.branches D (end_of v))) it.after.stands
      normal-entry (Choose w inner fuel room choices n a is-a on off met true lines stop) =
          guard-entry w inner (args_in (tree_at P f (end_of w))) lines.stands.0 n fuel room choices _ lines.stands.1
      normal-entry (Choose w inner fuel room choices n a is-a on off met false lines stop) =
          let o = action_at Q f (end_of v) (Some (record { name = t.names.nots n; ty = bool })) op.Not (args_in (tree_at P f (end_of w))) [] [] lines.stands.0 in
          not-on (only-onward (Act o.assigned o.ty op.Not o.arguments o.callees o.targets) o.at refl) _ lines.stands.1.0 (λ name e. cc)

      trace-entry : InTrace P Q bool accepted st f F.args G.args i t is v → Entered (Some leave) l
      trace-entry (Door w ew ev few u) =
          let o = action_at Q f (end_of v) None op.Speculate [] [] [] (ap (tree_at Q f) ev ∙ h.lines.0) in
          let e = only-onward (Act o.assigned o.ty op.Speculate o.arguments o.callees o.targets) o.at refl in
          plain-on 0 1023 256 t.choices (suc i) e (subst (λ n. Stands P Q bool f (suc n) (tail 0 (path_of (code_of P f) i t.choices).legs)) (sym ev) h.lines.1)
      trace-entry (OnPath w inner fuel room choices n lines stop) = normal-entry (normal P Q bool accepted st f F.args G.args i t is fuel v w inner room choices n lines stop)
      trace-entry (AtGuard w inner fuel room choices n lines stop reads) = guard-entry w inner (t.names.nots n ∷ []) lines.stands.0 (suc n) fuel room choices (end_of w) lines.stands.1
      trace-entry (AtJmp w w0 is0 end0 xs ys zip near stop line u) =
          let o = action_at Q f (end_of v) None op.Jmp [] [] (t.names.stop ∷ []) line in
          let m = subst (λ z. In b (branches_from D (end_of v) z)) o.at among in
          let c = in_map_source (jump (code_of Q f) (end_of v)) b o.targets m in
          let to : b.to ≡ stop.point = ap (λ (z : Branch). z.to) c.2 ∙ one_target Q f (end_of v) None op.Jmp [] [] t.names.stop o stop.point stop.at c.0 c.1 in
          let name = named-so b.to l t.names.stop at (ap (tree_at Q f) to ∙ stop.at) in
          let left : leave ≡ end_of v = leaves ∙ ap (λ z. (edge_of (sites_of (code_of Q f) v) z).leave) c.2 in
          let last = behind P Q bool accepted st f F.args G.args i t is in
          let count : suc (suc (end_of v)) + st.stops f (suc i) ≡ st.old f (suc i) = omega arith in
          New owner.0 owner.1 owner.2 FromJmp (name ∙ ap (λ (z : TraceNames). z.stop) (sym owner.4), (end_of v, ap Some left, subst (λ n. suc (suc (end_of v)) + st.stops f (suc n) ≡ st.old f (suc n)) (sym owner.3) count))
          (AtSingle (end_of v) (Act o.assigned o.ty op.Jmp o.arguments o.callees o.targets) (ap Some left) o.at (record { to = λ x y j k. goes-to o x j ∙ sym (goes-to o y k); goes = λ x j. let s = in_map_source (jump (code_of Q f) (end_of v)) x o.targets j in ap (λ (z : Branch). z.aborts) s.2; keeps = refl }))
        where
          goes-to : (o : ActionAt Q f (end_of v) None op.Jmp [] [] (t.names.stop ∷ [])) (x : Branch) → In x (map (jump (code_of Q f) (end_of v)) o.targets) → x.to ≡ stop.point
          goes-to o x j = let s = in_map_source (jump (code_of Q f) (end_of v)) x o.targets j in ap (λ (z : Branch). z.to) s.2 ∙ one_target Q f (end_of v) None op.Jmp [] [] t.names.stop o stop.point stop.at s.0 s.1
      trace-entry (AtBail w ew ev u) =
          let m = label_at Q f (end_of v) t.names.bail (ap (tree_at Q f) ev ∙ bailed P Q bool accepted st f F.args G.args i t is) in
          let e = only-onward (Label m.number) m.at refl in
          let last : suc (end_of v) + st.stops f (suc i) ≡ st.old f (suc i) = ap (λ n. suc n + st.stops f (suc i)) ev ∙ behind P Q bool accepted st f F.args G.args i t is in
          by (st.stops f (suc i)) refl e last m.number m.at
        where
          r : IsReached (code_of P f) i
          r = traced_reached i t is

          lp : IsLabelAt P f i
          lp = label_at P f i h.label h.labelled

          edge : Edge
          edge = record { from = i; leave = i; to = suc i }

          is_edge : IsEdge (code_of P f) edge
          is_edge = record { walk = r.walk; is = r.is; branch = onward i; at = contains_in (onward i) (branches_at (code_of P f) (end_of r.walk)) (subst (λ k. In (onward i) (branches_at (code_of P f) k)) (sym r.ends) (subst (λ o. In (onward i) (branches_from (code_of P f) i o)) (sym lp.at) (inl refl))); are = refl }

          by : (n : ℕ) → st.stops f (suc i) ≡ n → b ≡ onward (end_of v) → suc (end_of v) + st.stops f (suc i) ≡ st.old f (suc i) → (k : ℕ) → item_at Q f (end_of v) ≡ Some (Label k) → Entered (Some leave) l
          by zero none e last k label =
              let same : suc (end_of v) ≡ st.old f (suc i) = omega arith in
              at-old edge is_edge l (Some leave) (ap (slice_get G.code) (sym same) ∙ on-here e) (inr (t, is, (leave, refl, (let k = from-here e in omega arith))))
          by (suc n) some e last k label = at-stop (suc i) (suc (end_of v)) n l (Some leave) (omega arith) (omega arith) (on-here e) (ap Some (from-here e)) (label-source e k label)

    -- ---- outside

    abbrev N : Plan
    N = M P Q bool accepted st

    outside-entry : MatchedWalk (M P Q bool accepted st) P Q f F.args G.args v → Entered (Some leave) l
    outside-entry w = by w.matches.points.0 w.matches.points.1 w.matches.points.2
      where
        i : ℕ
        i = end_of w.walk

        reached : IsReached (code_of P f) (end_of w.walk)
        reached = record { walk = w.walk; is = w.matches.is; ends = refl }

        -- before an item's stop labels there are none of a label's
        not-label : (k m : ℕ) (name : List ℕ) → tree_at P f k ≡ Some (item.Label name) → suc m ≤ st.stops f k → ⊥
        not-label k m name e few = let none = plain_stop k name e in omega arith

        -- before a stop label that follows it a path walked over the item, or laid it
        walked-on : st.traces f (end_of w.walk) ≡ None → end_of v ≡ st.old f (end_of w.walk) → b ≡ onward (end_of v) → (m : ℕ) → suc m ≤ st.stops f (suc (end_of w.walk)) → b.to + suc m ≡ st.old f (suc (end_of w.walk)) → Source (Some leave) l
        walked-on none e on m few to =
            let met = walked (end_of w.walk) b.to m few to in
            let both = same_item P Q accepted st.heads.names f (end_of w.walk) (end_of v) met.0 met.1 (st.kept f (end_of w.walk) reached ∙ ap (tree_at Q f) (sym e)) in
            let goes = goes-on (A P Q bool accepted st f) met.0 both.item both.same met.2 in
            AtSingle (end_of v) both.item (ap Some (from-here on)) both.at (onward-single (end_of v) both.item (goes.branches (code_of Q f) (end_of v)) goes.keeps)

        regular : st.traces f (end_of w.walk) ≡ None → end_of v ≡ st.old f (end_of w.walk) → Entered (Some leave) l
        regular none e = found-branch (twin (EdgesMatch N P Q f (end_of w.walk) (end_of v) (item_at P f (end_of w.walk)) (item_at Q f (end_of v))) (code_of P f) (code_of Q f) (end_of w.walk) (end_of v) (N.LocationsMatch f (end_of w.walk) (end_of v)) (item_at P f (end_of w.walk)) (item_at Q f (end_of v)) steps.same steps.branches b among)
          where
            steps : StepsMatch N P Q f (end_of w.walk) (end_of v) (item_at P f (end_of w.walk)) (item_at Q f (end_of v))
            steps = (preserves P Q bool accepted st).steps f (end_of w.walk) (end_of v) reached w.matches.points (e, none)

            found-branch : Twin (EdgesMatch N P Q f (end_of w.walk) (end_of v) (item_at P f (end_of w.walk)) (item_at Q f (end_of v))) (code_of P f) (code_of Q f) (end_of w.walk) (end_of v) b (item_at P f (end_of w.walk)) → Entered (Some leave) l
            found-branch c = at-point c.2.points.0 c.2.points.1 c.2.points.2 c.3
              where
                edge : Edge
                edge = edge_of (sites_of (code_of P f) w.walk) c.0

                is_edge : IsEdge (code_of P f) edge
                is_edge = record { walk = w.walk; is = w.matches.is; branch = c.0; at = contains_in c.0 (branches_at (code_of P f) (end_of w.walk)) c.1; are = refl }

                Pair : ℕ → ℕ → Type 0
                Pair s u = (st.traces f s ≡ None) × (u ≡ st.old f s)

                pair : Pair c.0.from b.from
                pair = let mine = branch_from (code_of P f) (end_of w.walk) c.0 c.1 in let theirs = branch_from (code_of Q f) (end_of v) b among in (ap (st.traces f) mine ∙ none, theirs ∙ e ∙ ap (st.old f) (sym mine))

                left : (x y : Bool) → x ≡ y → (ss us : List ℕ) (xs ys : List (List Location)) → SavedSetsMatch N P Q f F.args G.args ss us xs ys → Pair (leave_of x c.0.from ss) (leave_of y b.from us)
                left false false s ss us xs ys h = pair
                left false true s ss us xs ys h = absurd cc
                left true false s ss us xs ys h = absurd cc
                left true true s [] [] [] [] h = pair
                left true true s (k ∷ ss) (u ∷ us) (x ∷ xs) (y ∷ ys) h = (h.0.1.1, h.0.1.0)
                left true true s _ _ _ _ h = absurd h

                come : L (Some leave) (Some edge.leave)
                come = let d = left c.0.aborts b.aborts c.2.aborts (sites_of (code_of P f) w.walk) (sites_of (code_of Q f) v) _ _ w.matches.saved in inl (d.0, ap Some (leaves ∙ d.1))

                at-point : (m : ℕ) → m ≤ st.stops f c.0.to → b.to + m ≡ st.old f c.0.to → ((b ≡ onward (end_of v)) × (c.0 ≡ onward (end_of w.walk))) ⊎ ((a : Instr) × (item_at P f (end_of w.walk) ≡ Some a) × ((k : ℕ) × In k (targets_of a) × (c.0.to ≡ point_of k (code_of P f)))) → Entered (Some leave) l
                at-point zero few to turn = let same : b.to ≡ st.old f c.0.to = omega arith in at-old edge is_edge l (Some leave) (ap (slice_get G.code) (sym same) ∙ at) come
                at-point (suc m) few to (inl on) = at-stop c.0.to b.to m l (Some leave) few to at (ap Some (from-here on.0) ∙ ap (λ (z : Branch). point_before z.to) (sym on.0)) (walked-on none e on.0 m (subst (λ (z : Branch). suc m ≤ st.stops f z.to) on.1 few) (subst (λ (z : Branch). b.to + suc m ≡ st.old f z.to) on.1 to))
                at-point (suc m) few to (inr t) =
                    let below = target_below F (end_of w.walk) t.0 (ap (λ k. slice_get k (end_of w.walk)) (sym here) ∙ t.1) t.2.0 t.2.1 in
                    let label : slice_get F.code c.0.to ≡ Some (Label t.2.0) = ap (slice_get F.code) (t.2.2 ∙ ap (point_of t.2.0) here) ∙ label-point t.2.0 (length F.labels) F.code F.formed.placed below in
                    let tree : tree_at P f c.0.to ≡ Some (item.Label (named F.labels t.2.0)) = ap (λ o. point_tree (names_of_functions P.funcs) o c.0.to) p ∙ ap (option_map (item_tree (names_of_functions P.funcs) (variable_names F.vars) F.labels)) label in
                    absurd (not-label c.0.to m (named F.labels t.2.0) tree few)

        traced : (t : Trace) → st.traces f (end_of w.walk) ≡ Some t → end_of v ≡ st.old f (end_of w.walk) → Entered (Some leave) l
        traced t is e =
            let h = st.traced f (end_of w.walk) t is in
            let m = label_at Q f (end_of v) h.label (ap (tree_at Q f) e ∙ sym (st.kept f (end_of w.walk) reached) ∙ h.labelled) in
            not-on (only-onward (Label m.number) m.at refl) _ (ap (λ n. tree_at Q f (suc n)) e ∙ h.lines.0) (λ name e. cc)

        by_trace : (o : Option Trace) → st.traces f (end_of w.walk) ≡ o → end_of v ≡ st.old f (end_of w.walk) → Entered (Some leave) l
        by_trace None none e = regular none e
        by_trace (Some t) is e = traced t is e

        -- past a stop label stands another, or an item that is no label
        past : (m : ℕ) → b ≡ onward (end_of v) → Source (Some leave) l → suc m ≤ st.stops f (end_of w.walk) → end_of v + suc m ≡ st.old f (end_of w.walk) → Entered (Some leave) l
        past zero on source few e =
            let same : suc (end_of v) ≡ st.old f (end_of w.walk) = omega arith in
            absurd (not-label (end_of w.walk) 0 (named G.labels l) (st.kept f (end_of w.walk) reached ∙ ap (tree_at Q f) (sym same) ∙ name-there (suc (end_of v)) l (on-here on)) few)
        past (suc m) on source few e = at-stop (end_of w.walk) (suc (end_of v)) m l (Some leave) (omega arith) (omega arith) (on-here on) (ap Some (from-here on)) source

        by : (m : ℕ) → m ≤ st.stops f (end_of w.walk) → end_of v + m ≡ st.old f (end_of w.walk) → Entered (Some leave) l
        by zero few e = by_trace (st.traces f (end_of w.walk)) refl (omega arith)
        by (suc m) few e =
            let name = st.stop_label f (end_of w.walk) (end_of v) m few e in
            let label = label_at Q f (end_of v) name.0 name.1 in
            let on = only-onward (Label label.number) label.at refl in past m on (label-source on label.number label.at) few e

    edge-entry : At P Q bool accepted st f F.args G.args roomy v → Entered (Some leave) l
    edge-entry (Outside w) = outside-entry w
    edge-entry (Within i t is s) = trace-entry i t is s

  -- ---- all entries

  entry : (leave : Option ℕ) (l : ℕ) → Enters G.code leave l → Entered leave l
  entry None l at = entry-first l at
  entry (Some point) l e =
      let edge : IsEdge (code_of Q f) e.0 = subst (λ c. IsEdge c e.0) (sym there) e.1 in
      edge-entry edge.walk edge.branch (in_contains edge.branch (branches_at (code_of Q f) (end_of edge.walk)) edge.at) point l (sym e.2 ∙ ap (λ (d : Edge). d.leave) edge.are)
      (ap (λ (d : Edge). slice_get G.code d.to) (sym edge.are) ∙ e.3)
      (all-at P Q bool accepted st f F.args G.args roomy start edge.walk edge.is)

  one-new : (a c : Option ℕ) (l k : ℕ) (x : Laying × Brought) → l < length G.labels → k < length G.labels → IsNew x.0 x.1 a l → IsNew x.0 x.1 c k → (a ≡ c) × (l ≡ k)
  one-new a c l k x low high r s = by x.1 r s
    where
      named-one : named G.labels l ≡ named G.labels k → l ≡ k
      named-one e = one_number G.labels G.formed.labels_differ l k low high e

      by : (b : Brought) → IsNew x.0 b a l → IsNew x.0 b c k → (a ≡ c) × (l ≡ k)
      by FromGuards g h = (g.1 ∙ sym h.1, named-one (g.0 ∙ sym h.0))
      by FromJmp g h = let m : g.1.0 ≡ h.1.0 = omega (arith, g.1.2, h.1.2) in (g.1.1 ∙ ap Some m ∙ sym h.1.1, named-one (g.0 ∙ sym h.0))
      by FromAbove g h = let n = named-one (g.0 ∙ sym h.0) in (g.1 ∙ ap (λ m. point_before (point_of m G.code)) n ∙ sym h.1, n)

  -- at most three entries more for each trace of the function
  pub entries-within : (d e : ℕ) → IsEntryCount F.code d → IsEntryCount G.code e → e ≤ d + 3 * length (laid_in f laid)
  entries-within d e a b =
      let few = few-entries F G (Laying × Brought) (λ leave l from. L leave from) (λ leave l x. IsNew x.0 x.1 leave l) (tokens (laid_in f laid)) matched (λ a c b l k. one-leave a c b) one-new d e a b in
      let three = tokens-length (laid_in f laid) in
      omega arith
    where
      by : (leave : Option ℕ) (l : ℕ) → Entered leave l → EntryMatched F G (λ leave l from. L leave from) leave l ⊎ ((x : Laying × Brought) × In x (tokens (laid_in f laid)) × IsNew x.0 x.1 leave l)
      by leave l (Old from to was same leaves) = inl (record { from = from; to = to; enters = was; leaves = leaves; same = same })
      by leave l (New x among ef k is source) = inr ((x, k), tokens-in (laid_in f laid) x k (laid-in f laid x among ef), is)

      matched : (leave : Option ℕ) (l : ℕ) → Enters G.code leave l → EntryMatched F G (λ leave l from. L leave from) leave l ⊎ ((x : Laying × Brought) × In x (tokens (laid_in f laid)) × IsNew x.0 x.1 leave l)
      matched leave l enters = by leave l (entry leave l enters)

  -- ---- which points of Q are an item's

  abbrev Block : ℕ → ℕ → Type 0
  Block i n = blocks.Block P Q bool st f i n

  in-block : (i n : ℕ) → i < length (code_of P f) → st.old f i ≤ n → suc n + st.stops f (suc i) ≤ st.old f (suc i) → Block i n
  in-block i n less low high = record { inside = omega arith; low = omega arith; high = λ l. high }

  leave-block : (n i : ℕ) → i < length (code_of P f) → L (Some n) (Some i) → Block i n
  leave-block n i less (inl h) = let e : n ≡ st.old f i = same_Some _ _ h.1 in let a = get_inside (code_of P f) i less in let g = st.next f i a.0 a.1 h.0 in in-block i n less (omega arith) (omega arith)
  leave-block n i less (inr h) = let e : n ≡ h.2.0 = same_Some _ _ h.2.1 in let g = (st.traced f i h.0 h.1).behind in let k = h.2.2 in in-block i n less (omega arith) (omega arith)

  traced-within : (i : ℕ) (t : Trace) → st.traces f i ≡ Some t → i < length (code_of P f)
  traced-within i t is = let h = st.traced f i t is in let l = label_at P f i h.label h.labelled in slice_get_within (code_of P f) i (Label l.number) l.at

  -- its `speculate`
  speculate-block : (i : ℕ) (t : Trace) → st.traces f i ≡ Some t → Block i (suc (st.old f i))
  speculate-block i t is = let b = behind P Q bool accepted st f F.args G.args i t is in in-block i (suc (st.old f i)) (traced-within i t is) (omega arith) (omega arith)

  speculates : (i : ℕ) (t : Trace) → st.traces f i ≡ Some t → (y : Instr) → item_at Q f (suc (st.old f i)) ≡ Some y → item_change (Some y) false ≡ Keeps → ⊥
  speculates i t is y at keeps =
      let o = action_at Q f (suc (st.old f i)) None op.Speculate [] [] [] (st.traced f i t is).lines.0 in
      let e : item_change (Some (Act o.assigned o.ty op.Speculate o.arguments o.callees o.targets)) false ≡ Keeps = ap (λ z. item_change z false) (sym o.at ∙ at) ∙ keeps in
      cc

  abbrev HasItem : Option ℕ → Type 0
  HasItem None = Unit {0}
  HasItem (Some i) = i < length (code_of P f)

  enters-item : (from : Option ℕ) (m : ℕ) → Enters F.code from m → HasItem from
  enters-item None m e = tt
  enters-item (Some i) m e =
      let a = edge-leaves F.code e.0 e.1 in
      let w = slice_get_within F.code e.0.leave a.0 a.1 in
      subst (λ c. i < length c) (sym here) (subst (λ n. n < length F.code) e.2 w)

  -- a leave point of Q comes from one of P
  from-one : (leave b c : Option ℕ) → HasItem b → HasItem c → L leave b → L leave c → b ≡ c
  from-one leave None None hb hc r s = refl
  from-one None None (Some j) hb hc r (inl s) = absurd (let h = s.1 in cc)
  from-one None None (Some j) hb hc r (inr s) = absurd (let h = s.2.1 in cc)
  from-one (Some n) None (Some j) hb hc r s = absurd (let h = r in cc)
  from-one None (Some i) c hb hc (inl r) s = absurd (let h = r.1 in cc)
  from-one None (Some i) c hb hc (inr r) s = absurd (let h = r.2.1 in cc)
  from-one (Some n) (Some i) None hb hc r s = absurd (let h = s in cc)
  from-one (Some n) (Some i) (Some j) hb hc r s = ap Some (same-block P Q bool st f n i j (leave-block n i hb r) (leave-block n j hc s))

  -- ---- the labels that are entered from one leave point

  same-label : (o : Option Instr) (l k : ℕ) → o ≡ Some (Label l) → o ≡ Some (Label k) → l ≡ k
  same-label o l k a b = let s : Label l ≡ Label k = same_Some _ _ (sym a ∙ b) in cc

  -- an edge from an item that opens no site is one of its branches
  from-item : (n : ℕ) (y : Instr) → item_at Q f n ≡ Some y → Single n y → (l : ℕ) → Enters G.code (Some n) l → (b : Branch) × In b (item_branches (code_of Q f) n y) × (slice_get G.code b.to ≡ Some (Label l))
  from-item n y at single l e = (edge.branch, by edge.branch.aborts (sites_of (code_of Q f) edge.walk) refl leaves, ap (λ (d : Edge). slice_get G.code d.to) (sym edge.are) ∙ e.3)
    where
      edge : IsEdge (code_of Q f) e.0
      edge = subst (λ c. IsEdge c e.0) (sym there) e.1

      among : In edge.branch (branches_at (code_of Q f) (end_of edge.walk))
      among = in_contains edge.branch (branches_at (code_of Q f) (end_of edge.walk)) edge.at

      leaves : leave_of edge.branch.aborts edge.branch.from (sites_of (code_of Q f) edge.walk) ≡ n
      leaves = sym (ap (λ (d : Edge). d.leave) edge.are) ∙ e.2

      own : edge.branch.from ≡ n → In edge.branch (item_branches (code_of Q f) n y)
      own s =
          let ends : end_of edge.walk ≡ n = sym (branch_from (code_of Q f) (end_of edge.walk) edge.branch among) ∙ s in
          subst (λ o. In edge.branch (branches_from (code_of Q f) n o)) at (subst (λ k. In edge.branch (branches_at (code_of Q f) k)) ends among)

      by : (b : Bool) (ss : List ℕ) → sites_of (code_of Q f) edge.walk ≡ ss → leave_of b edge.branch.from ss ≡ n → In edge.branch (item_branches (code_of Q f) n y)
      by false ss same s = own s
      by true [] same s = own s
      by true (k ∷ ss) same s =
          let opens : item_change (slice_get (code_of Q f) k) false ≡ Opens = site_speculates (code_of Q f) edge.walk k (subst (In k) (sym same) (inl refl)) in
          absurd (let h : item_change (Some y) false ≡ Opens = ap (λ z. item_change z false) (sym at ∙ ap (slice_get (code_of Q f)) (sym s)) ∙ opens in let g = sym single.keeps ∙ h in cc)

  single-one : (n : ℕ) (y : Instr) → item_at Q f n ≡ Some y → Single n y → (l k : ℕ) → Enters G.code (Some n) l → Enters G.code (Some n) k → l ≡ k
  single-one n y at single l k a b =
      let x = from-item n y at single l a in
      let z = from-item n y at single k b in
      same-label (slice_get G.code x.0.to) l k x.2 (ap (slice_get G.code) (single.to x.0 z.0 x.1 z.1) ∙ z.2)

  -- where a new entry leaves, no other label is entered
  new-one : (leave : Option ℕ) (l k : ℕ) → Source leave l → Enters G.code leave l → Enters G.code leave k → l ≡ k
  new-one leave l k (AtStart e) a b = same-label (slice_get G.code 0) l k (subst (λ o. Enters G.code o l) e a) (subst (λ o. Enters G.code o k) e b)
  new-one leave l k (AtSingle n y e at single) a b = single-one n y at single l k (subst (λ o. Enters G.code o l) e a) (subst (λ o. Enters G.code o k) e b)
  new-one leave l k (AtTrace i t is e name) a b = by (entry leave k b)
    where
      other : Source leave k → l ≡ k
      other (AtStart s) = absurd (let h = sym e ∙ s in cc)
      other (AtSingle n y s at single) = let m : suc (st.old f i) ≡ n = same_Some _ _ (sym e ∙ s) in absurd (speculates i t is y (ap (item_at Q f) m ∙ at) single.keeps)
      other (AtTrace j u js s name') =
          let m : suc (st.old f i) ≡ suc (st.old f j) = same_Some _ _ (sym e ∙ s) in
          let same : i ≡ j = same-block P Q bool st f (suc (st.old f i)) i j (speculate-block i t is) (subst (Block j) (sym m) (speculate-block j u js)) in
          let tu : t ≡ u = same_Some _ _ (sym is ∙ ap (st.traces f) same ∙ js) in
          one_number G.labels G.formed.labels_differ l k (label-low G leave l a) (label-low G leave k b) (name ∙ ap (λ (z : Trace). z.names.bail) tu ∙ sym name')

      old : (from : Option ℕ) → HasItem from → L leave from → l ≡ k
      old None h s = absurd (let g = sym e ∙ s in cc)
      old (Some j) h (inl s) =
          let m : suc (st.old f i) ≡ st.old f j = same_Some _ _ (sym e ∙ s.1) in
          let same : i ≡ j = same-block P Q bool st f (suc (st.old f i)) i j (speculate-block i t is) (subst (Block j) (sym m) (leave-block (st.old f j) j h (inl (s.0, refl)))) in
          absurd (let g : None ≡ Some t = sym s.0 ∙ ap (st.traces f) (sym same) ∙ is in cc)
      old (Some j) h (inr s) =
          let m : suc (st.old f i) ≡ s.2.0 = same_Some _ _ (sym e ∙ s.2.1) in
          let last = behind P Q bool accepted st f F.args G.args j s.0 s.1 in
          let z = s.2.2 in
          let same : suc (st.old f i) ≡ bail P Q bool accepted st f F.args G.args j s.0 s.1 = omega arith in
          let label = label_at Q f (suc (st.old f i)) s.0.names.bail (ap (tree_at Q f) same ∙ bailed P Q bool accepted st f F.args G.args j s.0 s.1) in
          absurd (speculates i t is (Label label.number) label.at refl)

      by : Entered leave k → l ≡ k
      by (Old from to was same leaves) = old from (enters-item from to was) leaves
      by (New x among ef n new source) = other source

  -- an entry that is old
  record OldEntry (leave : Option ℕ) (l : ℕ) : Type 0 where
    from : Option ℕ
    to : ℕ
    was : Enters F.code from to
    same : named F.labels to ≡ named G.labels l
    leaves : L leave from

  sort-entries : (leave : Option ℕ) (ks : List ℕ) → ((k : ℕ) → In k ks → Enters G.code leave k) → ((l : ℕ) × Enters G.code leave l × Source leave l) ⊎ ((k : ℕ) → In k ks → OldEntry leave k)
  sort-entries leave [] are = inr (λ k i. absurd i)
  sort-entries leave (l ∷ ks) are = by (entry leave l (are l (inl refl))) (sort-entries leave ks (λ k i. are k (inr i)))
    where
      by : Entered leave l → ((l : ℕ) × Enters G.code leave l × Source leave l) ⊎ ((k : ℕ) → In k ks → OldEntry leave k) → ((l : ℕ) × Enters G.code leave l × Source leave l) ⊎ ((k : ℕ) → In k (l ∷ ks) → OldEntry leave k)
      by (New x among ef k is source) rest = inl (l, are l (inl refl), source)
      by (Old from to was same leaves) (inl r) = inl r
      by (Old from to was same leaves) (inr r) = inr (λ k i. ⊎_elim (λ e. subst (OldEntry leave) (sym e) (record { from = from; to = to; was = was; same = same; leaves = leaves })) (r k) i)

  -- where all are old, they are no more than those of one leave point of P
  from-there : (d e : ℕ) → IsEntryWidth F.code d → (b : IsEntryWidth G.code e) → ((k : ℕ) → In k b.has.members → OldEntry b.widest k) → (from : Option ℕ) → HasItem from → L b.widest from → e ≤ d
  from-there d e a b olds from has leaves = let few = labels-within F G ℕ [] b.widest matched d e a b.has in omega arith
    where
      labels : (l : ℕ) → Enters G.code b.widest l → ((x : ℕ) × In x [] × ⊥) ⊎ ((m : ℕ) × Enters F.code from m × (named F.labels m ≡ named G.labels l))
      labels l enters =
          let o = olds l (in_contains l b.has.members (b.has.all l enters)) in
          let same : o.from ≡ from = from-one b.widest o.from from (enters-item o.from o.to o.was) has o.leaves leaves in
          inr (o.to, subst (λ z. Enters F.code z o.to) same o.was, o.same)

      matched : LeaveMatched F G ℕ [] b.widest
      matched = record { from = from; IsExtra = λ l x. ⊥; one = λ l k x low high r s. absurd r; labels = labels }

  -- no more than before, or one
  pub width-within : (d e : ℕ) → IsEntryWidth F.code d → IsEntryWidth G.code e → e ≤ max d 1
  width-within d e a b = ⊎_elim new (λ olds. old olds b.has.members refl) (sort-entries b.widest b.has.members (λ k i. all_in (Enters G.code b.widest) b.has.members b.has.are k i))
    where
      new : (l : ℕ) × Enters G.code b.widest l × Source b.widest l → e ≤ max d 1
      new h =
          let few = no_more (λ (k : ℕ) (y : ℕ). k ≡ h.0) b.has.members (0 ∷ []) b.has.differ (λ k i. (0, inl refl, sym (new-one b.widest h.0 k h.2 h.1 (all_in (Enters G.code b.widest) b.has.members b.has.are k i)))) (λ x z y r s. r ∙ sym s) in
          let c = b.has.count in omega arith

      old : ((k : ℕ) → In k b.has.members → OldEntry b.widest k) → (ks : List ℕ) → b.has.members ≡ ks → e ≤ max d 1
      old olds [] same = let z = ap length same in let c = b.has.count in omega arith
      old olds (k ∷ ks) same =
          let o = olds k (subst (In k) (sym same) (inl refl)) in
          let l = from-there d e a b olds o.from (enters-item o.from o.to o.was) o.leaves in
          omega arith
