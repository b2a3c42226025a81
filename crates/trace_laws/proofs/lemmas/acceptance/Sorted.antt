-- Which items stand in a program with laid traces.
use Rattle.bril_tree.specs.declared.function_tree.Item.TheVariants as item
use Rattle.bril_tree.specs.declared.operation.Op.TheVariants as op
use Rattle.std.proofs.Common.{◌≡◌, ◌⊎◌, ℕ, suc, ◌<◌, true, false, List, [], ◌∷◌, Option, Some, None, refl, sym, ap, ◌∙◌, inl, inr, ⊎_elim}
use Rattle.std.specs.Prelude.{slice_get}
use Rattle.std.proofs.lemmas.Option.{same_Some}
use Rattle.bril_tree.specs.declared.function_tree.Dest.{Dest}
use Rattle.bril_tree.specs.declared.function_tree.Item.{Item}
use Rattle.bril_tree.specs.declared.numbered.Instr.{Instr}
use Rattle.bril_tree.specs.declared.numbered.Instr.TheVariants.{Label, Const, Act}
use Rattle.bril_tree.specs.declared.operation.Op.{Op}
use Rattle.bril_tree.specs.declared.types.Ty.{Ty}
use Rattle.bril_tree.specs.FunctionForm.{dest_is_typed}
use Rattle.bril_tree.specs.Numbered.{named, item_tree}
use Rattle.bril_tree.specs.Operand.{dest_of}
use Rattle.bril_names.specs.Range.{IsInRange}
use Rattle.trace_paths.specs.Path.{Leg, Straight, Turn, Lays, Turns, item_met}
use Rattle.trace_laws.specs.lines.Lines.{TraceNames, guard_line, not_line, args_in, leg_lines, end_lines, trace_lines}
use Rattle.pass_edit_laws.specs.plan.Lines.{jmp_line, listed_item}
use Rattle.bril_tree.specs.Membership.{In}
use Rattle.bril_tree.proofs.Members.{in_append_cases, in_append_left, in_append_right}
use Rattle.bril_tree.proofs.Typings.{type_of}
use Rattle.trace_laws.proofs.lemmas.lines.Quiet.{LegOk}

-- ---- the lines of a trace

pub data Line (bool : Ty) (tree : ℕ → Option Item) (names : TraceNames) (code : List Instr) (whole : List Item) (a : Item) : Type 0 where
  Copy : (i : ℕ) → item_met (slice_get code i) ≡ Lays → tree i ≡ Some a → Line bool tree names code whole a
  Bare : (o : Op) → (o ≡ op.Speculate) ⊎ (o ≡ op.Commit) → a ≡ item.Act None o [] [] [] → Line bool tree names code whole a
  Goto : (l : List ℕ) → a ≡ jmp_line l → Line bool tree names code whole a
  Mark : (l : List ℕ) → a ≡ item.Label l → Line bool tree names code whole a
  Checks : (i on off : ℕ) → item_met (slice_get code i) ≡ Turns on off → a ≡ guard_line (args_in (tree i)) names.bail → Line bool tree names code whole a
  Negates : (i on off n : ℕ) → item_met (slice_get code i) ≡ Turns on off → a ≡ not_line bool (names.nots n) (args_in (tree i)) → Line bool tree names code whole a
  ChecksNot : (i on off n : ℕ) → item_met (slice_get code i) ≡ Turns on off → In (not_line bool (names.nots n) (args_in (tree i))) whole → a ≡ guard_line (names.nots n ∷ []) names.bail → Line bool tree names code whole a

module _ (bool : Ty) (tree : ℕ → Option Item) (names : TraceNames) (code : List Instr) (whole : List Item) (a : Item) where
  abbrev L : Type 0
  L = Line bool tree names code whole a

  in-listed : (i : ℕ) → item_met (slice_get code i) ≡ Lays → (o : Option Item) → tree i ≡ o → In a (listed_item o) → Line bool tree names code whole a
  in-listed i ok None e among = absurd among
  in-listed i ok (Some b) e (inl s) = Copy i ok (e ∙ ap Some (sym s))
  in-listed i ok (Some b) e (inr n) = absurd n

  pub leg-line : (n : ℕ) (legs : List Leg) → ((leg : Leg) → In leg legs → LegOk code leg) → ((c : Item) → In c (leg_lines bool tree names n legs) → In c whole) → In a (leg_lines bool tree names n legs) → Line bool tree names code whole a
  leg-line n [] ok sub among = absurd among
  leg-line n (Straight i ∷ legs) ok sub among =
      ⊎_elim (in-listed i (ok (Straight i) (inl refl)) (tree i) refl) (leg-line n legs (λ l j. ok l (inr j)) (λ c j. sub c (in_append_right c (listed_item (tree i)) (leg_lines bool tree names n legs) j))) (in_append_cases a (listed_item (tree i)) (leg_lines bool tree names n legs) among)
  leg-line n (Turn i true ∷ legs) ok sub among = let t = ok (Turn i true) (inl refl) in ⊎_elim (λ e. Checks i t.0 t.1 t.2 e) (leg-line n legs (λ l j. ok l (inr j)) (λ c j. sub c (inr j))) among
  leg-line n (Turn i false ∷ legs) ok sub among =
      let t = ok (Turn i false) (inl refl) in
      ⊎_elim (λ e. Negates i t.0 t.1 n t.2 e) (λ r. ⊎_elim (λ e. ChecksNot i t.0 t.1 n t.2 (sub (not_line bool (names.nots n) (args_in (tree i))) (inl refl)) e) (leg-line (suc n) legs (λ l j. ok l (inr j)) (λ c j. sub c (inr (inr j)))) r) among

  end-line : In a (end_lines bool tree names) → Line bool tree names code whole a
  end-line (inl e) = Bare op.Commit (inr refl) e
  end-line (inr (inl e)) = Goto names.stop e
  end-line (inr (inr (inl e))) = Mark names.bail e
  end-line (inr (inr (inr n))) = absurd n

pub trace-line : (bool : Ty) (tree : ℕ → Option Item) (names : TraceNames) (code : List Instr) (a : Item) (legs : List Leg) → ((leg : Leg) → In leg legs → LegOk code leg) → In a (trace_lines bool tree names legs) → Line bool tree names code (trace_lines bool tree names legs) a
trace-line bool tree names code a legs ok (inl e) = Bare op.Speculate (inl refl) e
trace-line bool tree names code a legs ok (inr among) =
    ⊎_elim (leg-line bool tree names code (trace_lines bool tree names legs) a 0 legs ok (λ c j. inr (in_append_left c (leg_lines bool tree names 0 legs) (end_lines bool tree names) j))) (end-line bool tree names code (trace_lines bool tree names legs) a)
    (in_append_cases a (leg_lines bool tree names 0 legs) (end_lines bool tree names) among)

-- ---- destinations in trees

abbrev pub name_of : Option Dest → Option (List ℕ)
name_of None = None
name_of (Some d) = Some d.name

abbrev pub ty_of : Option Dest → Option Ty
ty_of None = None
ty_of (Some d) = Some d.ty

abbrev pub dest_name : Item → Option (List ℕ)
dest_name (item.Label l) = None
dest_name (item.Const d ty v) = Some d
dest_name (item.Act d o args funcs labels) = name_of d

abbrev pub dest_type : Item → Option Ty
dest_type (item.Label l) = None
dest_type (item.Const d ty v) = Some ty
dest_type (item.Act d o args funcs labels) = ty_of d

module _ (fs W ls : List (List ℕ)) where
  pub dest-named : (b : Instr) (y : ℕ) → dest_is_typed b ≡ true → dest_of b ≡ Some y → dest_name (item_tree fs W ls b) ≡ Some (named W y)
  dest-named (Label l) y t d = absurd cc
  dest-named (Const z ty v) y t d = let e : z ≡ y = cc in ap (λ k. Some (named W k)) e
  dest-named (Act None ty o args fns ms) y t d = absurd cc
  dest-named (Act (Some z) None o args fns ms) y t d = absurd cc
  dest-named (Act (Some z) (Some ty) o args fns ms) y t d = let e : z ≡ y = cc in ap (λ k. Some (named W k)) e

  pub dest-typed-so : (b : Instr) (y : ℕ) → dest_is_typed b ≡ true → dest_of b ≡ Some y → dest_type (item_tree fs W ls b) ≡ type_of b
  dest-typed-so (Label l) y t d = absurd cc
  dest-typed-so (Const z ty v) y t d = refl
  dest-typed-so (Act None ty o args fns ms) y t d = absurd cc
  dest-typed-so (Act (Some z) None o args fns ms) y t d = absurd cc
  dest-typed-so (Act (Some z) (Some ty) o args fns ms) y t d = refl

  pub dest-number : (b : Instr) (n : List ℕ) (f v l : ℕ) → IsInRange f v l b → dest_name (item_tree fs W ls b) ≡ Some n → (x : ℕ) × (x < v) × (named W x ≡ n)
  dest-number (Label k) n f v l r e = absurd cc
  dest-number (Const z ty w) n f v l r e = (z, r.variables.0, same_Some _ _ e)
  dest-number (Act None ty o args fns ms) n f v l r e = absurd cc
  dest-number (Act (Some z) None o args fns ms) n f v l r e = absurd cc
  dest-number (Act (Some z) (Some ty) o args fns ms) n f v l r e = (z, r.variables.0, same_Some _ _ e)
