-- Each walk of the result stands over a walk of the given function: at old items, at the labels put before them, or inside
-- a trace, where one more site is open.
use Rattle.pass_edit_laws.proofs.lemmas.names.Standing.{SameItem, same_item}
use Rattle.pass_edit_laws.proofs.lemmas.names.Points.{found}
use Rattle.pass_edit_laws.specs.plan.Lines.{listed_item}
use Rattle.bril_tree.specs.Numbered.{item_tree, names_of_functions}
use Rattle.bril_tree.specs.declared.function_tree.Item.TheVariants as item
use Rattle.bril_tree.specs.declared.operation.Op.TheVariants as op
use Rattle.pass_edit_laws.proofs.lemmas.walks.Under as under
use Rattle.std.proofs.Common.{◌≡◌, ℕ, zero, suc, ◌+◌, ◌<◌, ◌≤◌, Bool, true, false, List, [], ◌∷◌, ◌++◌, length, map, Option, Some, None, refl, sym, ap, subst, ◌∙◌, inl, cond, arith}
use Rattle.std.specs.Prelude.{slice_get, slice_index, ◌==◌, is_some}
use Rattle.std.proofs.lemmas.List.{length-append}
use Rattle.bril_tree.specs.declared.function_tree.Item.{Item}
use Rattle.bril_tree.specs.declared.numbered.Instr.{Instr}
use Rattle.bril_tree.specs.declared.numbered.Instr.TheVariants.{Label, Const, Act}
use Rattle.bril_tree.specs.declared.program.Prog.{Prog}
use Rattle.bril_tree.specs.declared.types.Ty.{Ty}
use Rattle.bril_tree.specs.Accepted.{IsAccepted}
use Rattle.bril_tree.specs.Assigned.{assigned_of, assigns_of}
use Rattle.bril_tree.specs.Edge.{Branch, branches_from, onward, jump}
use Rattle.bril_tree.specs.FunctionForm.{listed}
use Rattle.bril_tree.specs.Numbered.{named, names_in, tree_at}
use Rattle.bril_tree.specs.Operand.{Location, Variable}
use Rattle.bril_tree.specs.Shape.{is_shaped, shape_of}
use Rattle.bril_tree.specs.Sites.{sites_of, most_sites}
use Rattle.bril_tree.specs.Step.{code_of, item_at, point_of}
use Rattle.bril_tree.specs.Walk.{IsWalk, end_of}
use Rattle.pass_edit_laws.specs.walks.Matched.{Covers, SavedSetsMatch, MatchedWalk}
use Rattle.pass_edit_laws.proofs.lemmas.walks.Under.{Keeping, keeping-sites, keeping-assigned, sites-effect, assigned-effect}
use Rattle.trace_paths.specs.Path.{Straight, Turn, Path, stopped, with_leg, Meeting, Over, To, Lays, Turns, Stops, item_met, chosen, path_by, path_from}
use Rattle.trace_laws.specs.lines.Lines.{guard_line, leg_lines, end_lines}
use Rattle.trace_laws.specs.lines.Traced.{Trace}
use Rattle.trace_laws.specs.refinement.Stitched.{Stands, StopsAt, trace_path, IsTracedAt, Stitched}
use Rattle.trace_laws.proofs.lemmas.refinement.Straight.{over-goes, to-jmp}
use Rattle.trace_laws.proofs.lemmas.refinement.Plans.{M, A}
use Rattle.bril_tree.proofs.Elements.{in_index}
use Rattle.trace_laws.proofs.lemmas.refinement.Refining.{stands_append}
use Rattle.bril_tree.specs.Membership.{In}
use Rattle.bril_tree.proofs.Members.{in_map}
use Rattle.bril_tree.proofs.Shapes.{shape-parts, dest_none}
use Rattle.pass_edit_laws.proofs.lemmas.steps.Shapes.{shaped_here}

module _ (P Q : Prog) (bool : Ty) (accepted : IsAccepted P) (st : Stitched P Q bool) (f args result_args : ℕ) where
  abbrev C : List Instr
  C = code_of P f

  abbrev D : List Instr
  D = code_of Q f

  abbrev Saved : List ℕ → List ℕ → List (List Location) → List (List Location) → Type 0
  Saved = SavedSetsMatch (M P Q bool accepted st) P Q f args result_args

  abbrev pub Lift : List Branch → Type 0
  Lift = MatchedWalk (M P Q bool accepted st) P Q f args result_args

  -- a walk of P under one of Q, whose sites and sets are these but for its own
  abbrev pub Under : List Branch → List Branch → List ℕ → List (List Location) → Type 0
  Under w v ss ys = under.Under (M P Q bool accepted st) (A P Q bool accepted st f) P Q f args result_args w v ss ys

  -- ---- one trace

  module _ (p : ℕ) (t : Trace) (is : st.traces f p ≡ Some t) where
    h : IsTracedAt P Q bool st.old st.stops f p t
    h = st.traced f p t is

    abbrev legs0 : List Item
    legs0 = leg_lines bool (tree_at P f) t.names 0 (trace_path P Q bool f p t).legs

    abbrev pub bail : ℕ
    bail = suc (suc (suc (suc (st.old f p)) + length legs0))

    pub bailed : tree_at Q f bail ≡ Some (item.Label t.names.bail)
    bailed = (stands_append P Q bool f (suc (suc (st.old f p))) legs0 (end_lines bool (tree_at P f) t.names) h.lines.1).1.1.0

    pub behind : suc bail + st.stops f (suc p) ≡ st.old f (suc p)
    behind = let b = h.behind in let l = length-append legs0 (end_lines bool (tree_at P f) t.names) in omega arith

    -- lines that stand from a point on to the last of the trace
    pub record Lines (j : ℕ) (lines : List Item) : Type 0 where
      pub stands : Stands P Q bool f j lines
      pub low : suc (suc (st.old f p)) ≤ j
      pub high : j + length lines ≡ suc bail

    pub next-lines : (j : ℕ) (a : Item) (lines : List Item) → Lines j (a ∷ lines) → Lines (suc j) lines
    next-lines j a lines l = let low = l.low in let high = l.high in record { stands = l.stands.1; low = omega arith; high = omega arith }

    -- what is known inside: of the walk w0 of P to the entry, and of the walk w to the path's point
    pub record Inner (v w : List Branch) : Type 0 where
      pub w0 : List Branch
      pub is0 : IsWalk (code_of P f) w0
      pub end0 : end_of w0 ≡ suc p
      pub few0 : length (sites_of (code_of P f) w0) < most_sites
      pub ss : List ℕ
      pub y0 : List Location
      pub ys : List (List Location)
      pub covers0 : Covers (A P Q bool accepted st f) (assigned_of (code_of P f) args w0).locations y0
      pub zip0 : SavedSetsMatch (M P Q bool accepted st) P Q f args result_args (sites_of (code_of P f) w0) ss (assigned_of (code_of P f) args w0).saved ys
      pub under : Under w v ss ys
      pub sites : sites_of (code_of Q f) v ≡ suc (st.old f p) ∷ ss
      pub saved : (assigned_of (code_of Q f) result_args v).saved ≡ y0 ∷ ys

    abbrev pub tail_lines : ℕ → Path → List Item
    tail_lines n path = leg_lines bool (tree_at P f) t.names n path.legs ++ end_lines bool (tree_at P f) t.names

    -- a laid item in Q, and the lines behind it
    pub record LaidItem (j n : ℕ) (a : Instr) (rest : Path) : Type 0 where
      pub both : SameItem P Q f j a
      pub after : Lines (suc j) (tail_lines n rest)

    pub laid-item : (j n i : ℕ) (a : Instr) (rest : Path) → item_at P f i ≡ Some a → Lines j (tail_lines n (with_leg (Straight i) rest)) → LaidItem j n a rest
    laid-item j n i a rest at lines =
        let g = found P f i a at in
        let item : Item = item_tree (names_of_functions P.funcs) (names_in (slice_get P.funcs f)) g.function.labels a in
        let here : Lines j (item ∷ tail_lines n rest) = subst (λ o. Lines j ((listed_item o ++ leg_lines bool (tree_at P f) t.names n rest.legs) ++ end_lines bool (tree_at P f) t.names)) g.tree lines in
        record { both = same_item P Q accepted st.heads.names f i j a at (g.tree ∙ sym here.stands.0); after = next-lines j item (tail_lines n rest) here }

    -- where a walk of Q stands, inside the trace
    pub data InTrace (v : List Branch) : Type 0 where
      Door : (w : List Branch) → end_of w ≡ suc p → end_of v ≡ suc (st.old f p) → length (sites_of (code_of P f) w) < most_sites → Under w v (sites_of (code_of Q f) v) (assigned_of (code_of Q f) result_args v).saved → InTrace v
      OnPath : (w : List Branch) → Inner v w → (fuel room : ℕ) (choices : List Bool) (n : ℕ) → Lines (end_of v) (tail_lines n (path_from (code_of P f) p fuel room choices (end_of w)))
          → StopsAt P Q bool st.old st.stops f (path_from (code_of P f) p fuel room choices (end_of w)).stop t.names.stop → InTrace v
      AtGuard : (w : List Branch) → Inner v w → (fuel room : ℕ) (choices : List Bool) (n : ℕ) → Lines (end_of v) (guard_line (t.names.nots n ∷ []) t.names.bail ∷ tail_lines (suc n) (path_from (code_of P f) p fuel room choices (end_of w)))
          → StopsAt P Q bool st.old st.stops f (path_from (code_of P f) p fuel room choices (end_of w)).stop t.names.stop
          → ((y : ℕ) → y < length (names_in (slice_get Q.funcs f)) → named (names_in (slice_get Q.funcs f)) y ≡ t.names.nots n → In (Variable y) (assigned_of (code_of Q f) result_args v).locations) → InTrace v
      AtJmp : (w w0 : List Branch) → IsWalk (code_of P f) w0 → end_of w0 ≡ suc p → (xs ys : List (List Location)) → SavedSetsMatch (M P Q bool accepted st) P Q f args result_args (sites_of (code_of P f) w0) (sites_of (code_of Q f) v) xs ys → suc (end_of v) ≡ bail
          → StopsAt P Q bool st.old st.stops f (end_of w) t.names.stop → tree_at Q f (end_of v) ≡ Some (item.Act None op.Jmp [] [] (t.names.stop ∷ [])) → Under w v (sites_of (code_of Q f) v) (assigned_of (code_of Q f) result_args v).saved → InTrace v
      AtBail : (w : List Branch) → end_of w ≡ suc p → end_of v ≡ bail → Under w v (sites_of (code_of Q f) v) (assigned_of (code_of Q f) result_args v).saved → InTrace v

    -- the next laid item
    pub data Normal (v : List Branch) : Type 0 where
      Ended : (w : List Branch) → Inner v w → Lines (end_of v) (end_lines bool (tree_at P f) t.names) → StopsAt P Q bool st.old st.stops f (end_of w) t.names.stop → Normal v
      Lay : (w : List Branch) → Inner v w → (fuel room : ℕ) (choices : List Bool) (n : ℕ) (a : Instr) → item_at P f (end_of w) ≡ Some a → item_met (Some a) ≡ Lays
          → Lines (end_of v) (tail_lines n (with_leg (Straight (end_of w)) (path_from (code_of P f) p fuel room choices (suc (end_of w)))))
          → StopsAt P Q bool st.old st.stops f (path_from (code_of P f) p fuel room choices (suc (end_of w))).stop t.names.stop → Normal v
      Choose : (w : List Branch) → Inner v w → (fuel room : ℕ) (choices : List Bool) (n : ℕ) (a : Instr) → item_at P f (end_of w) ≡ Some a → (on off : ℕ) → item_met (Some a) ≡ Turns on off → (c : Bool)
          → Lines (end_of v) (tail_lines n (with_leg (Turn (end_of w) c) (path_from (code_of P f) p fuel room choices (point_of (chosen c on off) (code_of P f)))))
          → StopsAt P Q bool st.old st.stops f (path_from (code_of P f) p fuel room choices (point_of (chosen c on off) (code_of P f))).stop t.names.stop → Normal v

    -- P walks over an item
    inner-P : (v w : List Branch) → Inner v w → (a : Branch) (x : Instr) → Keeping (code_of P f) w a x → In a (branches_from (code_of P f) (end_of w) (Some x)) → assigns_of x ≡ [] → Inner v (a ∷ w)
    inner-P v w i a x ka among none = record {
      w0 = i.w0;
      is0 = i.is0;
      end0 = i.end0;
      few0 = i.few0;
      ss = i.ss;
      y0 = i.y0;
      ys = i.ys;
      covers0 = i.covers0;
      zip0 = i.zip0;
      under = under.under-P (M P Q bool accepted st) (A P Q bool accepted st f) P Q f args result_args w v i.ss i.ys i.under a x ka among none;
      sites = i.sites;
      saved = i.saved;
    }

    -- an item that a path walks over, or a br, assigns nothing
    over-assigns : (ret : Bool) (a : Instr) → is_shaped ret a ≡ true → item_met (Some a) ≡ Over → assigns_of a ≡ []
    over-assigns ret (Label l) s e = refl
    over-assigns ret (Const x r v) s e = absurd (cc)
    over-assigns ret (Act d r op.Nop zs fns ls) s e = ap (λ z. map Variable (listed z)) (dest_none (shape_of ret op.Nop) d (length zs) (length fns) (length ls) refl s)
    over-assigns ret (Act d r _ zs fns ls) s e = absurd (cc)

    abbrev Normals : ℕ → Type 0
    Normals fuel = (v w : List Branch) → Inner v w → (room : ℕ) (choices : List Bool) (n : ℕ) → Lines (end_of v) (tail_lines n (path_from (code_of P f) p fuel room choices (end_of w)))
        → StopsAt P Q bool st.old st.stops f (path_from (code_of P f) p fuel room choices (end_of w)).stop t.names.stop → Normal v

    module _ (fuel : ℕ) (rest : Normals fuel) (v w : List Branch) (i : Inner v w) (n : ℕ) where
      by_meeting : (room : ℕ) (choices : List Bool) (a : Instr) → item_at P f (end_of w) ≡ Some a → (m : Meeting) → item_met (Some a) ≡ m → Lines (end_of v) (tail_lines n (path_by (code_of P f) (path_from (code_of P f) p fuel) m room choices (end_of w)))
          → StopsAt P Q bool st.old st.stops f (path_by (code_of P f) (path_from (code_of P f) p fuel) m room choices (end_of w)).stop t.names.stop → Normal v
      by_meeting room choices a at Over met lines stop =
          let o = over-goes a met in
          let s = shaped_here P accepted f (end_of w) a at in
          rest v (onward (end_of w) ∷ w)
          (inner-P v w i (onward (end_of w)) a (record { at = at; from = refl; goes = refl; keeps = o.keeps }) (subst (λ l. In (onward (end_of w)) l) (sym (o.branches (code_of P f) (end_of w))) (inl refl)) (over-assigns s.ret a s.shaped met)) room choices n lines stop
      by_meeting room choices a at (To l) met lines stop =
          let j = to-jmp a l met in
          let at' : item_at P f (end_of w) ≡ Some (Act j.d j.s op.Jmp j.args j.fns j.ls) = at ∙ ap Some j.is in
          let s = shaped_here P accepted f (end_of w) (Act j.d j.s op.Jmp j.args j.fns j.ls) at' in
          let one = (shape-parts (shape_of s.ret op.Jmp) (is_some j.d) (length j.args) (length j.fns) (length j.ls) s.shaped).labels_are in
          let none = ap (λ z. map Variable (listed z)) (dest_none (shape_of s.ret op.Jmp) j.d (length j.args) (length j.fns) (length j.ls) refl s.shaped) in
          let branch = jump (code_of P f) (end_of w) (slice_index j.ls 0) in
          let i' = inner-P v w i branch (Act j.d j.s op.Jmp j.args j.fns j.ls) (record { at = at'; from = refl; goes = refl; keeps = refl }) (in_map (jump (code_of P f) (end_of w)) (slice_index j.ls 0) j.ls (in_index j.ls 0 (omega arith))) none in
          rest v (branch ∷ w) i' room choices n
          (subst (λ z. Lines (end_of v) (tail_lines n (path_from (code_of P f) p fuel room choices (point_of z (code_of P f))))) (sym j.label) lines)
          (subst (λ z. StopsAt P Q bool st.old st.stops f (path_from (code_of P f) p fuel room choices (point_of z (code_of P f))).stop t.names.stop) (sym j.label) stop)
      by_meeting zero choices a at Lays met lines stop = Ended w i lines stop
      by_meeting (suc room) choices a at Lays met lines stop = Lay w i fuel room choices n a at met lines stop
      by_meeting zero choices a at (Turns on off) met lines stop = Ended w i lines stop
      by_meeting (suc room) [] a at (Turns on off) met lines stop = Ended w i lines stop
      by_meeting (suc room) (c ∷ choices) a at (Turns on off) met lines stop = Choose w i fuel room choices n a at on off met c lines stop
      by_meeting room choices a at Stops met lines stop = Ended w i lines stop

      by_item : (room : ℕ) (choices : List Bool) (o : Option Instr) → item_at P f (end_of w) ≡ o → Lines (end_of v) (tail_lines n (path_by (code_of P f) (path_from (code_of P f) p fuel) (item_met o) room choices (end_of w)))
          → StopsAt P Q bool st.old st.stops f (path_by (code_of P f) (path_from (code_of P f) p fuel) (item_met o) room choices (end_of w)).stop t.names.stop → Normal v
      by_item room choices None at lines stop = Ended w i lines stop
      by_item room choices (Some a) at lines stop = by_meeting room choices a at (item_met (Some a)) refl lines stop

      by_own : (room : ℕ) (choices : List Bool) (b : Bool) → Lines (end_of v) (tail_lines n (cond b (stopped (end_of w)) (path_by (code_of P f) (path_from (code_of P f) p fuel) (item_met (item_at P f (end_of w))) room choices (end_of w))))
          → StopsAt P Q bool st.old st.stops f (cond b (stopped (end_of w)) (path_by (code_of P f) (path_from (code_of P f) p fuel) (item_met (item_at P f (end_of w))) room choices (end_of w))).stop t.names.stop → Normal v
      by_own room choices true lines stop = Ended w i lines stop
      by_own room choices false lines stop = by_item room choices (item_at P f (end_of w)) refl lines stop

    pub normal : (fuel : ℕ) → Normals fuel
    normal zero v w i room choices n lines stop = Ended w i lines stop
    normal (suc fuel) v w i room choices n lines stop = by_own fuel (normal fuel) v w i n room choices (end_of w == p) lines stop
