-- What a `get` or a `set` leaves in each location.
use Rattle.std.proofs.Common.{◌≡◌, ℕ, Bool, true, false, List, [], ◌∷◌, Option, Some, None, refl, ap, cond}
use Rattle.std.specs.Prelude.{◌==◌, slice_index}
use Rattle.std.proofs.lemmas.Bool.{eqb-true, eqb-false}
use Rattle.bril_tree.specs.declared.limits.Limits.{Limits}
use Rattle.bril_tree.specs.declared.numbered.Instr.{Instr}
use Rattle.bril_tree.specs.declared.numbered.Instr.TheVariants.{Label, Const, Act}
use Rattle.bril_tree.specs.declared.operation.Op.TheVariants as op
use Rattle.bril_tree.specs.declared.program.Prog.{Prog}
use Rattle.bril_tree.specs.Edge.{item_branches, onward}
use Rattle.bril_tree.specs.Operand.{Location, Variable, Shadow}
use Rattle.bril_tree.specs.Outcome.{argument}
use Rattle.bril_tree.specs.Sites.{Keeps, item_change}
use Rattle.bril_tree.specs.State.{Locals, Frame, read}
use Rattle.bril_tree.specs.Step.{assigned, shadowed}
use Rattle.bril_tree.specs.Locals.{value_at}
use Rattle.pass_edit_laws.proofs.lemmas.plan.Values.{assigned-same, assigned-other, shadowed-same, shadowed-other}
use Rattle.pass_edit_laws.specs.steps.Refinement.{ChangesPlaces}
use Rattle.ssa_laws.specs.inserted_copies.Inserted.{is_copy, source}

-- the locations behind it
abbrev pub fetched : Option ℕ → Locals → Locals
fetched None q = q
fetched (Some x) q = assigned (Some x) (read q.shadows x) q

abbrev pub ran : Instr → Locals → Locals
ran (Label l) q = q
ran (Const d ty v) q = q
ran (Act d ty op.Get args fns ls) q = fetched d q
ran (Act d ty op.Set args fns ls) q = shadowed (slice_index args 0) (argument q args 1) q
ran (Act d ty _ args fns ls) q = q

pub copy-changes : (X : Prog) (limits : Limits) (b : Instr) (f : Frame) → is_copy (Some b) ≡ true → ChangesPlaces X limits b f (ran b f.locations)
copy-changes X limits (Label l) f c older s = absurd cc
copy-changes X limits (Const d ty v) f c older s = absurd cc
copy-changes X limits (Act None ty op.Get args fns ls) f c older s = refl
copy-changes X limits (Act (Some x) ty op.Get args fns ls) f c older s = refl
copy-changes X limits (Act d ty op.Set args fns ls) f c older s = refl
copy-changes X limits (Act d ty _ args fns ls) f c older s = absurd cc

pub copy-branches : (b : Instr) → is_copy (Some b) ≡ true → (code : List Instr) (i : ℕ) → item_branches code i b ≡ onward i ∷ []
copy-branches (Label l) c code i = absurd cc
copy-branches (Const d ty v) c code i = absurd cc
copy-branches (Act d ty op.Get args fns ls) c code i = refl
copy-branches (Act d ty op.Set args fns ls) c code i = refl
copy-branches (Act d ty _ args fns ls) c code i = absurd cc

pub copy-keeps : (b : Instr) → is_copy (Some b) ≡ true → item_change (Some b) false ≡ Keeps
copy-keeps (Label l) c = absurd cc
copy-keeps (Const d ty v) c = absurd cc
copy-keeps (Act d ty op.Get args fns ls) c = refl
copy-keeps (Act d ty op.Set args fns ls) c = refl
copy-keeps (Act d ty _ args fns ls) c = absurd cc

got-value : (x y : ℕ) (q : Locals) (t : Bool) → (y == x) ≡ t → value_at (assigned (Some x) (read q.shadows x) q) (Variable y) ≡ value_at q (cond t (Shadow x) (Variable y))
got-value x y q true e = assigned-same x (read q.shadows x) q (Variable y) (ap Variable (eqb-true y x e))
got-value x y q false e = assigned-other x (read q.shadows x) q (Variable y) (λ h. eqb-false y x e (let s : y ≡ x = cc in s))

put-value : (x z y : ℕ) (q : Locals) (t : Bool) → (y == x) ≡ t → value_at (shadowed x (read q.vars z) q) (Shadow y) ≡ value_at q (cond t (Variable z) (Shadow y))
put-value x z y q true e = shadowed-same x (read q.vars z) q (Shadow y) (ap Shadow (eqb-true y x e))
put-value x z y q false e = shadowed-other x (read q.vars z) q (Shadow y) (λ h. eqb-false y x e (let s : y ≡ x = cc in s))

-- each location holds what its source held
pub ran-value : (b : Instr) (q : Locals) (c : Location) → value_at (ran b q) c ≡ value_at q (source (Some b) c)
ran-value (Label l) q c = refl
ran-value (Const d ty v) q c = refl
ran-value (Act None ty op.Get args fns ls) q c = refl
ran-value (Act (Some x) ty op.Get args fns ls) q (Variable y) = got-value x y q (y == x) refl
ran-value (Act (Some x) ty op.Get args fns ls) q (Shadow y) = refl
ran-value (Act d ty op.Set args fns ls) q (Variable y) = refl
ran-value (Act d ty op.Set args fns ls) q (Shadow y) = put-value (slice_index args 0) (slice_index args 1) y q (y == slice_index args 0) refl
ran-value (Act d ty _ args fns ls) q c = refl
