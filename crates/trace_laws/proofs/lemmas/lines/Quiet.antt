-- What a path lays, and that it is quiet.
use Rattle.bril_tree.specs.declared.operation.Op.TheVariants as op
use Rattle.std.proofs.Common.{◌≡◌, ℕ, zero, suc, Bool, true, false, List, [], ◌∷◌, Option, Some, None, refl, sym, ap, subst, ◌∙◌, inl, inr, ⊎_elim, cond}
use Rattle.std.specs.Prelude.{slice_get}
use Rattle.bril_tree.specs.declared.function_tree.Item.{Item}
use Rattle.bril_tree.specs.declared.program.Prog.{Prog}
use Rattle.bril_tree.specs.declared.types.Ty.{Ty}
use Rattle.bril_tree.specs.Numbered.{tree_at, names_in, names_of_functions, item_tree}
use Rattle.trace_paths.specs.Path.{Leg, Straight, Turn, path_of, Lays, item_met}
use Rattle.trace_laws.specs.lines.Lines.{TraceNames, leg_lines}
use Rattle.pass_edit_laws.specs.plan.Lines.{listed_item}
use Rattle.bril_tree.specs.declared.numbered.Instr.{Instr}
use Rattle.bril_tree.specs.declared.numbered.Instr.TheVariants.{Label as NLabel, Const as NConst, Act as NAct}
use Rattle.bril_tree.specs.Step.{code_of, item_at}
use Rattle.std.proofs.lemmas.Option.{same_Some}
use Rattle.bril_tree.specs.Membership.{In}
use Rattle.bril_tree.proofs.Members.{in_append_cases}
use Rattle.pass_edit_laws.proofs.lemmas.names.Points.{found}
use Rattle.std.specs.Prelude.{◌==◌}
use Rattle.bril_tree.specs.Step.{point_of}
use Rattle.trace_paths.specs.Path.{stopped, Meeting, Over, To, Turns, Stops, chosen, path_by, path_from}
use Rattle.trace_laws.specs.lines.Laws.{IsQuiet}

-- ---- what a path lays

abbrev pub LegOk : List Instr → Leg → Type 0
LegOk code (Straight k) = item_met (slice_get code k) ≡ Lays
LegOk code (Turn k c) = (on : ℕ) × (off : ℕ) × (item_met (slice_get code k) ≡ Turns on off)

abbrev LegsOk : List Instr → ℕ → ℕ → Type 0
LegsOk code own fuel = (room : ℕ) (choices : List Bool) (i : ℕ) (leg : Leg) → In leg (path_from code own fuel room choices i).legs → LegOk code leg

first-or : (code : List Instr) (leg now : Leg) (legs : List Leg) → LegOk code now → (In leg legs → LegOk code leg) → In leg (now ∷ legs) → LegOk code leg
first-or code leg now legs ok rest (inl e) = subst (LegOk code) (sym e) ok
first-or code leg now legs ok rest (inr i) = rest i

met-ok : (code : List Instr) (own fuel : ℕ) → LegsOk code own fuel → (m : Meeting) (room : ℕ) (choices : List Bool) (i : ℕ) → item_met (slice_get code i) ≡ m → (leg : Leg) → In leg (path_by code (path_from code own fuel) m room choices i).legs → LegOk code leg
met-ok code own fuel rest Over room choices i e leg among = rest room choices (suc i) leg among
met-ok code own fuel rest (To l) room choices i e leg among = rest room choices (point_of l code) leg among
met-ok code own fuel rest Lays zero choices i e leg among = absurd among
met-ok code own fuel rest Lays (suc room) choices i e leg among = first-or code leg (Straight i) (path_from code own fuel room choices (suc i)).legs e (rest room choices (suc i) leg) among
met-ok code own fuel rest (Turns on off) zero choices i e leg among = absurd among
met-ok code own fuel rest (Turns on off) (suc room) [] i e leg among = absurd among
met-ok code own fuel rest (Turns on off) (suc room) (c ∷ choices) i e leg among = first-or code leg (Turn i c) (path_from code own fuel room choices (point_of (chosen c on off) code)).legs (on, off, e) (rest room choices (point_of (chosen c on off) code) leg) among
met-ok code own fuel rest Stops room choices i e leg among = absurd among

own-ok : (code : List Instr) (own fuel : ℕ) → LegsOk code own fuel → (room : ℕ) (choices : List Bool) (i : ℕ) (b : Bool) (leg : Leg) → In leg (cond b (stopped i) (path_by code (path_from code own fuel) (item_met (slice_get code i)) room choices i)).legs → LegOk code leg
own-ok code own fuel rest room choices i true leg among = absurd among
own-ok code own fuel rest room choices i false leg among = met-ok code own fuel rest (item_met (slice_get code i)) room choices i refl leg among

pub legs-ok : (code : List Instr) (own fuel : ℕ) → LegsOk code own fuel
legs-ok code own zero room choices i leg among = absurd among
legs-ok code own (suc fuel) room choices i leg among = own-ok code own fuel (legs-ok code own fuel) room choices i (i == own) leg among

-- ---- quiet lines

pub laid-quiet : (bail : List ℕ) (fs vs ls : List (List ℕ)) (b : Instr) → item_met (Some b) ≡ Lays → IsQuiet bail (item_tree fs vs ls b)
laid-quiet bail fs vs ls (NLabel l) e = absurd (cc)
laid-quiet bail fs vs ls (NConst d t v) e = tt
laid-quiet bail fs vs ls (NAct d t op.Nop xs fns ms) e = tt
laid-quiet bail fs vs ls (NAct d t op.Guard xs fns ms) e = absurd (cc)
laid-quiet bail fs vs ls (NAct d t op.Print xs fns ms) e = absurd (cc)
laid-quiet bail fs vs ls (NAct d t op.Store xs fns ms) e = absurd (cc)
laid-quiet bail fs vs ls (NAct d t op.Alloc xs fns ms) e = absurd (cc)
laid-quiet bail fs vs ls (NAct d t op.Free xs fns ms) e = absurd (cc)
laid-quiet bail fs vs ls (NAct d t op.Call xs fns ms) e = absurd (cc)
laid-quiet bail fs vs ls (NAct d t op.Ret xs fns ms) e = absurd (cc)
laid-quiet bail fs vs ls (NAct d t op.Speculate xs fns ms) e = absurd (cc)
laid-quiet bail fs vs ls (NAct d t op.Commit xs fns ms) e = absurd (cc)
laid-quiet bail fs vs ls (NAct d t op.Jmp xs fns ms) e = absurd (cc)
laid-quiet bail fs vs ls (NAct d t op.Br xs fns ms) e = absurd (cc)
laid-quiet bail fs vs ls (NAct d t _ xs fns ms) e = tt

module _ (P : Prog) (f : ℕ) (bool : Ty) (names : TraceNames) (a : Item) where
  copied : (i : ℕ) (o : Option Instr) → item_at P f i ≡ o → item_met o ≡ Lays → tree_at P f i ≡ Some a → IsQuiet names.bail a
  copied i None none met e = absurd (cc)
  copied i (Some b) at met e = let h = found P f i b at in subst (IsQuiet names.bail) (same_Some _ _ (sym h.tree ∙ e)) (laid-quiet names.bail (names_of_functions P.funcs) (names_in (slice_get P.funcs f)) h.function.labels b met)

  in-listed : (i : ℕ) → item_met (slice_get (code_of P f) i) ≡ Lays → (o : Option Item) → tree_at P f i ≡ o → In a (listed_item o) → IsQuiet names.bail a
  in-listed i ok None e among = absurd among
  in-listed i ok (Some b) e (inl s) = copied i (item_at P f i) refl ok (e ∙ ap Some (sym s))
  in-listed i ok (Some b) e (inr n) = absurd n

  pub legs-quiet : (n : ℕ) (legs : List Leg) → ((leg : Leg) → In leg legs → LegOk (code_of P f) leg) → In a (leg_lines bool (tree_at P f) names n legs) → IsQuiet names.bail a
  legs-quiet n [] ok among = absurd among
  legs-quiet n (Straight i ∷ legs) ok among = ⊎_elim (in-listed i (ok (Straight i) (inl refl)) (tree_at P f i) refl) (legs-quiet n legs (λ l j. ok l (inr j))) (in_append_cases a (listed_item (tree_at P f i)) (leg_lines bool (tree_at P f) names n legs) among)
  legs-quiet n (Turn i true ∷ legs) ok among = ⊎_elim (λ e. subst (IsQuiet names.bail) (sym e) refl) (legs-quiet n legs (λ l j. ok l (inr j))) among
  legs-quiet n (Turn i false ∷ legs) ok among = ⊎_elim (λ e. subst (IsQuiet names.bail) (sym e) tt) (λ r. ⊎_elim (λ e. subst (IsQuiet names.bail) (sym e) refl) (legs-quiet (suc n) legs (λ l j. ok l (inr j))) r) among

  pub lines-quiet : (own : ℕ) (choices : List Bool) → In a (leg_lines bool (tree_at P f) names 0 (path_of (code_of P f) own choices).legs) → IsQuiet names.bail a
  lines-quiet own choices among = legs-quiet 0 (path_of (code_of P f) own choices).legs (legs-ok (code_of P f) own 1023 256 choices (suc own)) among
