-- What items assign, and which of them stand at open sites.
use Rattle.std.proofs.Common.{◌≡◌, ℕ, true, false, List, map, Option, Some, None, refl, sym, ap, ◌∙◌, inl, inr}
use Rattle.std.specs.Prelude.{slice_get}
use Rattle.std.proofs.lemmas.Bool.{eqb-true, eqb-false}
use Rattle.bril_tree.specs.declared.numbered.Instr.{Instr}
use Rattle.bril_tree.specs.declared.numbered.Instr.TheVariants.{Label, Const, Act}
use Rattle.bril_tree.specs.declared.operation.Op.TheVariants as op
use Rattle.bril_tree.specs.Assigned.{assigns_at}
use Rattle.bril_tree.specs.Edge.{Branch}
use Rattle.bril_tree.specs.FunctionForm.{listed}
use Rattle.bril_tree.specs.Operand.{Location, Variable, Shadow}
use Rattle.bril_tree.specs.Sites.{Opens, item_change, sites_of}
use Rattle.bril_tree.specs.Membership.{In}
use Rattle.bril_tree.proofs.Assignments.{site_speculates}
use Rattle.ssa_laws.specs.inserted_copies.Inserted.{is_copy, destination}
use Rattle.ssa_laws.specs.reaching_definitions.Tables.{is_dest}

pub dest-in : (d : Option ℕ) (a : Location) → is_dest d a ≡ true → In a (map Variable (listed d))
dest-in None a e = absurd cc
dest-in (Some x) (Variable y) e = inl (ap Variable (eqb-true y x e))
dest-in (Some x) (Shadow y) e = absurd cc

pub dest-out : (d : Option ℕ) (a : Location) → is_dest d a ≡ false → In a (map Variable (listed d)) → ⊥
dest-out None a e i = i
dest-out (Some x) (Variable y) e (inl h) = eqb-false y x e (let s : y ≡ x = cc in s)
dest-out (Some x) (Variable y) e (inr h) = h
dest-out (Some x) (Shadow y) e (inl h) = cc
dest-out (Some x) (Shadow y) e (inr h) = h

pub assigned-plain : (o : Option Instr) → is_copy o ≡ false → assigns_at o ≡ map Variable (listed (destination o))
assigned-plain None c = refl
assigned-plain (Some (Label l)) c = refl
assigned-plain (Some (Const d ty v)) c = refl
assigned-plain (Some (Act d ty op.Set args fns ls)) c = absurd cc
assigned-plain (Some (Act d ty _ args fns ls)) c = refl

-- an open site is no label
pub label-no_site : (code : List Instr) (w : List Branch) (s l : ℕ) → In s (sites_of code w) → slice_get code s ≡ Some (Label l) → ⊥
label-no_site code w s l i at = let h : item_change (Some (Label l)) false ≡ Opens = ap (λ o. item_change o false) (sym at) ∙ site_speculates code w s i in cc
