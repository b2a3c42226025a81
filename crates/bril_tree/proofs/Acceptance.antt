-- What acceptance says of the functions and items of a program.
use Rattle.std.proofs.Common.{◌≡◌, ◌⊎◌, ℕ, ◌<◌, Bool, true, List, length, map, Option, Some, None, refl, sym, ap, subst, ◌∙◌, inl, inr, ⊎_elim, arith}
use Rattle.std.specs.Prelude.{slice_get, is_some, IsTrue}
use Rattle.std.specs.List.{range_with_len}
use Rattle.std.proofs.lemmas.List.Elements.{All-take}
use Rattle.bril_tree.specs.declared.numbered.Instr.{Instr}
use Rattle.bril_tree.specs.declared.numbered_function.Func.{Func}
use Rattle.bril_tree.specs.declared.program.Prog.{Prog}
use Rattle.bril_tree.specs.Accepted.{IsAccepted, IsAcceptedFunction, AreWalksAccepted}
use Rattle.bril_tree.specs.Assigned.{assigned_of}
use Rattle.bril_tree.specs.Edge.{branches_from}
use Rattle.bril_tree.specs.FunctionForm.{targets_of}
use Rattle.bril_tree.specs.Membership.{In}
use Rattle.bril_tree.specs.Operand.{Variable, reads_of}
use Rattle.bril_tree.specs.Shape.{is_shaped, shape_fault_of}
use Rattle.bril_tree.specs.Step.{items_of, code_of, item_at, point_of}
use Rattle.bril_tree.specs.Typing.{is_call_shaped, type_fault}
use Rattle.bril_tree.specs.Walk.{IsReached}
use Rattle.bril_tree.proofs.Assignments.{in_or_not, assigned_from, assigns-dest}
use Rattle.bril_tree.proofs.Elements.{All-at}
use Rattle.bril_tree.proofs.First.{none_failing}
use Rattle.bril_tree.proofs.LabelPoints.{range_high}
use Rattle.bril_tree.proofs.Members.{in_contains, contains_in, in_map_source}
use Rattle.bril_tree.proofs.Shapes.{item_leads}
use Rattle.bril_tree.proofs.Typings.{IsDestination}
use Rattle.bril_tree.proofs.Branches.{reached_on}

pub accepted_function : (p : Prog) (k : ℕ) (f : Func) → IsAccepted p → slice_get p.funcs k ≡ Some f → IsAcceptedFunction p f
accepted_function p k f h e = All-at (IsAcceptedFunction p) p.funcs k f h.functions e

-- what acceptance says of an item
module _ (p : Prog) (f : Func) (accepted : IsAcceptedFunction p f) (k : ℕ) (item : Instr) (at : slice_get f.code k ≡ Some item) where
  pub shaped_at : is_shaped (is_some f.ret) item ≡ true
  shaped_at = All-at (λ (i : Instr). IsTrue (is_shaped (is_some f.ret) i)) f.code k item accepted.shaped at

  pub call_at : is_call_shaped p f item ≡ true
  call_at = All-at (λ (i : Instr). IsTrue (is_call_shaped p f i)) f.code k item accepted.calls at

  pub typed_at : type_fault p f item ≡ None
  typed_at = All-at (λ (i : Instr). type_fault p f i ≡ None) f.code k item accepted.typed at

-- the items of an accepted function have the shapes of their operations
pub shaped_function : (p : Prog) (f : Func) → IsAcceptedFunction p f → shape_fault_of (is_some f.ret) f.code ≡ None
shaped_function p f a = sym (none_failing (is_shaped (is_some f.ret)) f.code (length f.code) (omega arith) (All-take (λ item. is_shaped (is_some f.ret) item ≡ true) (length f.code) f.code a.shaped))

-- the walks of an accepted function
pub function_walks : (p : Prog) (f : Func) → IsAcceptedFunction p f → AreWalksAccepted f.code f.args (is_some f.ret)
function_walks p f facts = record { sites = facts.sites; alone = facts.alone; returns = facts.returns; assigned = facts.assigned }

pub walks_of : (p : Prog) → IsAccepted p → (k : ℕ) (f : Func) → slice_get p.funcs k ≡ Some f → AreWalksAccepted (code_of p k) f.args (is_some f.ret)
walks_of p accepted k f there = subst (λ code. AreWalksAccepted code f.args (is_some f.ret)) (sym (ap items_of there)) (function_walks p f (accepted_function p k f accepted there))

-- the labels that a reached item goes to are reached
pub target_reached : (p : Prog) → IsAccepted p → (f point : ℕ) (item : Instr) (l : ℕ) → item_at p f point ≡ Some item → IsReached (code_of p f) point → In l (targets_of item) → IsReached (code_of p f) (point_of l (code_of p f))
target_reached p accepted f point item l at reached m = by (slice_get p.funcs f) refl
  where
    by : (o : Option Func) → slice_get p.funcs f ≡ o → IsReached (code_of p f) (point_of l (code_of p f))
    by None e = absurd (let h : None ≡ Some item = ap (λ o. slice_get (items_of o) point) (sym e) ∙ at in cc)
    by (Some func) e =
        let here : slice_get func.code point ≡ Some item = ap (λ o. slice_get (items_of o) point) (sym e) ∙ at in
        let branch = item_leads (code_of p f) point (is_some func.ret) item l (shaped_at p func (accepted_function p f func accepted e) point item here) m in
        subst (IsReached (code_of p f)) branch.to (reached_on (code_of p f) point branch.branch reached (subst (λ o. In branch.branch (branches_from (code_of p f) point o)) (sym at) branch.among))

-- a variable that a reached item reads is an argument or a destination
pub read_left : (code : List Instr) (args : ℕ) (returns : Bool) → AreWalksAccepted code args returns → (point : ℕ) (item : Instr) → IsReached code point → slice_get code point ≡ Some item → (x : ℕ) → In (Variable x) (reads_of item) → (x < args) ⊎ IsDestination code x
read_left code args returns walks point item reached at x among = ⊎_elim from_assigned (λ n. absurd (lacks n)) (in_or_not (Variable x) (assigned_of code args reached.walk).locations)
  where
    lacks : (In (Variable x) (assigned_of code args reached.walk).locations → ⊥) → ⊥
    lacks n =
        walks.assigned point item (Variable x) at (contains_in (Variable x) (reads_of item) among)
        (record { walk = reached.walk; is = reached.is; ends = reached.ends; lacks = λ c. n (in_contains (Variable x) (assigned_of code args reached.walk).locations c) })

    argument : In (Variable x) (map Variable (range_with_len 0 args)) → x < args
    argument i =
        let source = in_map_source Variable (Variable x) (range_with_len 0 args) i in
        let same : x ≡ source.0 = cc in
        let high = range_high 0 args source.0 source.1 in
        omega arith

    from_assigned : In (Variable x) (assigned_of code args reached.walk).locations → (x < args) ⊎ IsDestination code x
    from_assigned i =
        ⊎_elim (λ s. inl (argument s)) (λ d. inr (record { point = d.1; item = d.0; at = d.2; dest = assigns-dest d.0 x d.3 }))
        (assigned_from code args reached.walk (Variable x) i)
