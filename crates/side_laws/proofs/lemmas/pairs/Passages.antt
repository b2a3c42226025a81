-- What the walk passes over, and the items that are kept: walks can be drawn on through them.
use Rattle.std.proofs.Common.{◌≡◌, ℕ, zero, suc, true, false, List, [], ◌∷◌, ◌++◌, length, map, Option, Some, None, refl, sym, ap, subst, ◌∙◌, inl, arith}
use Rattle.std.specs.Prelude.{slice_get, slice_index, is_some}
use Rattle.bril_tree.specs.declared.numbered.Instr.{Instr}
use Rattle.bril_tree.specs.declared.numbered.Instr.TheVariants.{Label, Const, Act}
use Rattle.bril_tree.specs.declared.operation.Op.{Op}
use Rattle.bril_tree.specs.declared.program.Prog.{Prog}
use Rattle.bril_tree.specs.declared.types.Ty.{Ty}
use Rattle.bril_tree.specs.declared.operation.Op.TheVariants as op
use Rattle.bril_tree.specs.Accepted.{IsAccepted}
use Rattle.bril_tree.specs.Assigned.{assigned_of, assigns_of}
use Rattle.bril_tree.specs.Edge.{Branch, branches_at, branches_from, item_branches, onward, jump}
use Rattle.bril_tree.specs.FunctionForm.{listed}
use Rattle.bril_tree.specs.Membership.{In}
use Rattle.bril_tree.specs.Operand.{Variable}
use Rattle.bril_tree.specs.Shape.{shape_of}
use Rattle.bril_tree.specs.Sites.{Keeps, item_change}
use Rattle.bril_tree.specs.Step.{code_of, point_of}
use Rattle.bril_tree.specs.Walk.{end_of}
use Rattle.bril_tree.proofs.Elements.{in_index}
use Rattle.bril_tree.proofs.Members.{contains_in, in_map}
use Rattle.bril_tree.proofs.Shapes.{dest_none, shape-parts}
use Rattle.pass_edit_laws.proofs.lemmas.steps.Attempts.{is_attempted}
use Rattle.pass_edit_laws.proofs.lemmas.steps.Shapes.{shaped_here}
use Rattle.pass_edit_laws.proofs.lemmas.walks.Under.{Keeping, keeping-sites, keeping-assigned}
use Rattle.side_laws.specs.Paired.{IsKept, IsBranchOn, operation_passing, item_passing, passing, settled}
use Rattle.side_laws.specs.Passage.{Glides, Passage}

-- ---- items that compute go on

pub record GoesOnward (a : Instr) : Type 0 where
  pub branches : (code : List Instr) (point : ℕ) → item_branches code point a ≡ onward point ∷ []
  pub keeps : item_change (Some a) false ≡ Keeps

act-goes : (o : Op) (d : Option ℕ) (s : Option Ty) (args fns ls : List ℕ) → is_attempted (Act d s o args fns ls) ≡ true → GoesOnward (Act d s o args fns ls)
act-goes op.Nop d s args fns ls e = absurd cc
act-goes op.Jmp d s args fns ls e = absurd cc
act-goes op.Br d s args fns ls e = absurd cc
act-goes op.Print d s args fns ls e = absurd cc
act-goes op.Store d s args fns ls e = absurd cc
act-goes op.Alloc d s args fns ls e = absurd cc
act-goes op.Free d s args fns ls e = absurd cc
act-goes op.Call d s args fns ls e = absurd cc
act-goes op.Ret d s args fns ls e = absurd cc
act-goes op.Speculate d s args fns ls e = absurd cc
act-goes op.Commit d s args fns ls e = absurd cc
act-goes op.Guard d s args fns ls e = absurd cc
act-goes _ d s args fns ls e = record { branches = λ c n. refl; keeps = refl }

pub attempted-goes : (a : Instr) → is_attempted a ≡ true → GoesOnward a
attempted-goes (Label l) e = absurd cc
attempted-goes (Const d t v) e = record { branches = λ c n. refl; keeps = refl }
attempted-goes (Act d s o args fns ls) e = act-goes o d s args fns ls e

-- ---- walks drawn on

module _ (code : List Instr) where
  pub stay : (from : ℕ) → Glides code from from
  stay from v is e = record { walk = v; is = is; ends = e; sites = refl; assigned = λ args. refl }

  pub glide-trans : (from via to : ℕ) → Glides code from via → Glides code via to → Glides code from to
  glide-trans from via to g h v is e =
      let d = g v is e in
      let d' = h d.walk d.is d.ends in
      record { walk = d'.walk; is = d'.is; ends = d'.ends; sites = d'.sites ∙ d.sites; assigned = λ args. d'.assigned args ∙ d.assigned args }

  pub glide-one : (i : ℕ) (a : Instr) (b : Branch) → slice_get code i ≡ Some a → b.from ≡ i → b.aborts ≡ false → In b (item_branches code i a) → item_change (Some a) false ≡ Keeps → assigns_of a ≡ [] → Glides code i b.to
  glide-one i a b at from goes among keeps none v is e =
      let at' : slice_get code (end_of v) ≡ Some a = ap (slice_get code) e ∙ at in
      let k : Keeping code v b a = record { at = at'; from = from ∙ sym e; goes = goes; keeps = keeps } in
      record {
        walk = b ∷ v;
        is = (contains_in b (branches_at code (end_of v)) (subst (λ o. In b (branches_from code (end_of v) o)) (sym at') (subst (λ n. In b (item_branches code n a)) (sym e) among)), is);
        ends = refl;
        sites = keeping-sites code v b a k;
        assigned = λ args. keeping-assigned code args v b a k ∙ ap (λ l. record { locations = l ++ (assigned_of code args v).locations; saved = (assigned_of code args v).saved }) none;
      }

  pub passage-glide : (from : ℕ) (kept : List ℕ) (to b : ℕ) → Passage code from kept to → Glides code to b → Passage code from kept b
  passage-glide from [] to b p g = glide-trans from to b p g
  passage-glide from (j ∷ kept) to b p g = (p.0, p.1, p.2, p.3, passage-glide (suc p.0) kept to b p.4 g)

  pub passage-snoc : (from : ℕ) (kept : List ℕ) (to i a : ℕ) → Passage code from kept to → Glides code to a → (h : IsKept code i a) → is_attempted h.item ≡ true → Passage code from (kept ++ i ∷ []) (suc a)
  passage-snoc from [] to i a p g h t = (a, glide-trans from to a p g, h, t, stay (suc a))
  passage-snoc from (j ∷ kept) to i a p g h t = (p.0, p.1, p.2, p.3, passage-snoc (suc p.0) kept to i a p.4 g h t)

  -- a branch is gone along
  pub glide-turn : (a c on off l : ℕ) → IsBranchOn (slice_get code a) c on off → In l (on ∷ off ∷ []) → Glides code a (point_of l code)
  glide-turn a c on off l turns among = glide-one a (Act None None op.Br (c ∷ []) [] (on ∷ off ∷ [])) (jump code a l) turns refl refl (in_map (jump code a) l (on ∷ off ∷ []) among) refl refl

module _ (P : Prog) (accepted : IsAccepted P) (k : ℕ) where
  -- what the walk passes over
  pub settles : (left a : ℕ) → Glides (code_of P k) a (settled (code_of P k) left a).point
  settles zero a = stay (code_of P k) a
  settles (suc left) a = by (slice_get (code_of P k) a) refl (λ a'. settles left a')
    where
      operations : (o : Op) (x : Option ℕ) (ty : Option Ty) (args fns ls : List ℕ) → slice_get (code_of P k) a ≡ Some (Act x ty o args fns ls) → ((a' : ℕ) → Glides (code_of P k) a' (settled (code_of P k) left a').point)
          → Glides (code_of P k) a (passing (code_of P k) (settled (code_of P k) left) (suc left) a (operation_passing o ls)).point
      operations op.Nop x ty args fns ls at rest =
          let s = shaped_here P accepted k a (Act x ty op.Nop args fns ls) at in
          let none = ap (λ z. map Variable (listed z)) (dest_none (shape_of s.ret op.Nop) x (length args) (length fns) (length ls) refl s.shaped) in
          glide-trans (code_of P k) a (suc a) (settled (code_of P k) left (suc a)).point (glide-one (code_of P k) a (Act x ty op.Nop args fns ls) (onward a) at refl refl (inl refl) refl none) (rest (suc a))
      operations op.Jmp x ty args fns ls at rest =
          let s = shaped_here P accepted k a (Act x ty op.Jmp args fns ls) at in
          let one = (shape-parts (shape_of s.ret op.Jmp) (is_some x) (length args) (length fns) (length ls) s.shaped).labels_are in
          let none = ap (λ z. map Variable (listed z)) (dest_none (shape_of s.ret op.Jmp) x (length args) (length fns) (length ls) refl s.shaped) in
          let to = point_of (slice_index ls 0) (code_of P k) in
          glide-trans (code_of P k) a to (settled (code_of P k) left to).point
          (glide-one (code_of P k) a (Act x ty op.Jmp args fns ls) (jump (code_of P k) a (slice_index ls 0)) at refl refl (in_map (jump (code_of P k) a) (slice_index ls 0) ls (in_index ls 0 (omega (arith, one)))) refl none) (rest to)
      operations _ x ty args fns ls at rest = stay (code_of P k) a

      by : (o : Option Instr) → slice_get (code_of P k) a ≡ o → ((a' : ℕ) → Glides (code_of P k) a' (settled (code_of P k) left a').point) → Glides (code_of P k) a (passing (code_of P k) (settled (code_of P k) left) (suc left) a (item_passing o)).point
      by None at rest = stay (code_of P k) a
      by (Some (Label l)) at rest = glide-trans (code_of P k) a (suc a) (settled (code_of P k) left (suc a)).point (glide-one (code_of P k) a (Label l) (onward a) at refl refl (inl refl) refl refl) (rest (suc a))
      by (Some (Const x ty v)) at rest = stay (code_of P k) a
      by (Some (Act x ty o args fns ls)) at rest = operations o x ty args fns ls at rest
