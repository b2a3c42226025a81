-- The branches from a point: where they leave, where they lead, and which of them abort.
use Rattle.std.proofs.Common.{◌≡◌, ℕ, suc, ◌<◌, ◌≤◌, Bool, true, List, [], ◌∷◌, length, Option, Some, None, map, refl, sym, ap, subst, inl, inr, arith, false}
use Rattle.std.specs.Prelude.{slice_get}
use Rattle.std.proofs.lemmas.Bool.{cond_both}
use Rattle.std.proofs.lemmas.Option.{slice_get_within}
use Rattle.bril_tree.specs.declared.numbered.Instr.{Instr}
use Rattle.bril_tree.specs.declared.numbered.Instr.TheVariants.{Label, Const, Act}
use Rattle.bril_tree.specs.declared.operation.Op.{Op}
use Rattle.bril_tree.specs.declared.operation.Op.TheVariants as op
use Rattle.bril_tree.specs.declared.types.Ty.{Ty}
use Rattle.bril_tree.specs.Edge.{Branch, onward, jump, abort, branches_from, branches_at, action_branches, item_branches, leads_away}
use Rattle.bril_tree.specs.Membership.{In}
use Rattle.bril_tree.specs.Sites.{Closes, item_change, Opens}
use Rattle.bril_tree.specs.Step.{point_of, is_label}
use Rattle.bril_tree.specs.Walk.{IsWalk, IsReached, end_of}
use Rattle.bril_tree.proofs.Members.{in_contains, contains_in, in_map_source}

-- ---- a branch leaves from its point

from_jumps : (code : List Instr) (p : ℕ) (e : Branch) (labels : List ℕ) → In e (map (jump code p) labels) → e.from ≡ p
from_jumps code p e labels h = let s = in_map_source (jump code p) e labels h in ap (λ (w : Branch). w.from) s.2

from_aborts : (code : List Instr) (p : ℕ) (e : Branch) (labels : List ℕ) → In e (map (abort code p) labels) → e.from ≡ p
from_aborts code p e labels h = let s = in_map_source (abort code p) e labels h in ap (λ (w : Branch). w.from) s.2

from_onward : (p : ℕ) (e : Branch) → In e (onward p ∷ []) → e.from ≡ p
from_onward p e (inl h) = ap (λ (w : Branch). w.from) h
from_onward p e (inr h) = absurd h

from_action : (code : List Instr) (p : ℕ) (operation : Op) (labels : List ℕ) (e : Branch) → In e (action_branches code p operation labels) → e.from ≡ p
from_action code p op.Jmp labels e h = from_jumps code p e labels h
from_action code p op.Br labels e h = from_jumps code p e labels h
from_action code p op.Ret labels e h = absurd h
from_action code p op.Guard labels e (inl h) = ap (λ (w : Branch). w.from) h
from_action code p op.Guard labels e (inr h) = from_aborts code p e labels h
from_action code p _ labels e h = from_onward p e h

from_item : (code : List Instr) (p : ℕ) (item : Instr) (e : Branch) → In e (item_branches code p item) → e.from ≡ p
from_item code p (Label l) e h = from_onward p e h
from_item code p (Const dest ty value) e h = from_onward p e h
from_item code p (Act dest ty operation args funcs labels) e h = from_action code p operation labels e h

pub branches_from-leave : (code : List Instr) (p : ℕ) (item : Option Instr) (e : Branch) → In e (branches_from code p item) → e.from ≡ p
branches_from-leave code p None e h = absurd h
branches_from-leave code p (Some item) e h = from_item code p item e h

pub branch_from : (code : List Instr) (p : ℕ) (e : Branch) → In e (branches_at code p) → e.from ≡ p
branch_from code p e h = branches_from-leave code p _ e h

-- ---- a branch leads to a point of the function

-- a label's point is one of the function
pub label_within : (l : ℕ) (code : List Instr) → point_of l code ≤ length code
label_within l [] = omega arith
label_within l (item ∷ items) = cond_both (is_label l item) 0 (suc (point_of l items)) (λ n. n ≤ suc (length items)) (λ e. omega arith) (λ e. omega (arith, label_within l items))

jumps_inside : (code : List Instr) (p : ℕ) (e : Branch) (labels : List ℕ) → In e (map (jump code p) labels) → e.to ≤ length code
jumps_inside code p e labels h =
    let s = in_map_source (jump code p) e labels h in
    omega (arith, ap (λ (w : Branch). w.to) s.2, label_within s.0 code)

aborts_inside : (code : List Instr) (p : ℕ) (e : Branch) (labels : List ℕ) → In e (map (abort code p) labels) → e.to ≤ length code
aborts_inside code p e labels h =
    let s = in_map_source (abort code p) e labels h in
    omega (arith, ap (λ (w : Branch). w.to) s.2, label_within s.0 code)

onward_inside : (code : List Instr) (p : ℕ) (e : Branch) → p < length code → In e (onward p ∷ []) → e.to ≤ length code
onward_inside code p e l (inl h) = omega (arith, ap (λ (w : Branch). w.to) h)
onward_inside code p e l (inr h) = absurd h

action_inside : (code : List Instr) (p : ℕ) (operation : Op) (labels : List ℕ) (e : Branch) → p < length code → In e (action_branches code p operation labels) → e.to ≤ length code
action_inside code p op.Jmp labels e l h = jumps_inside code p e labels h
action_inside code p op.Br labels e l h = jumps_inside code p e labels h
action_inside code p op.Ret labels e l h = absurd h
action_inside code p op.Guard labels e l (inl h) = omega (arith, ap (λ (w : Branch). w.to) h)
action_inside code p op.Guard labels e l (inr h) = aborts_inside code p e labels h
action_inside code p _ labels e l h = onward_inside code p e l h

option_inside : (code : List Instr) (p : ℕ) (item : Option Instr) (e : Branch) → slice_get code p ≡ item → In e (branches_from code p item) → e.to ≤ length code
option_inside code p None e at h = absurd h
option_inside code p (Some (Label l)) e at h = onward_inside code p e (slice_get_within code p _ at) h
option_inside code p (Some (Const dest ty value)) e at h = onward_inside code p e (slice_get_within code p _ at) h
option_inside code p (Some (Act dest ty operation args funcs labels)) e at h = action_inside code p operation labels e (slice_get_within code p _ at) h

pub branch_inside : (code : List Instr) (p : ℕ) (e : Branch) → In e (branches_at code p) → e.to ≤ length code
branch_inside code p e h = option_inside code p (slice_get code p) e refl h

-- only an item has branches
pub branch_at_item : (code : List Instr) (p : ℕ) (e : Branch) → In e (branches_at code p) → p < length code
branch_at_item code p e h = by (slice_get code p) refl h
  where
    by : (item : Option Instr) → slice_get code p ≡ item → In e (branches_from code p item) → p < length code
    by None at h = absurd h
    by (Some item) at h = slice_get_within code p item at

-- ---- where control goes on, there is a branch on

action-onward : (code : List Instr) (i : ℕ) (operation : Op) (dest : Option ℕ) (ty : Option Ty) (args funcs labels : List ℕ) → leads_away (Some (Act dest ty operation args funcs labels)) ≡ false → In (onward i) (action_branches code i operation labels)
action-onward code i op.Jmp dest ty args funcs labels e = absurd cc
action-onward code i op.Br dest ty args funcs labels e = absurd cc
action-onward code i op.Ret dest ty args funcs labels e = absurd cc
action-onward code i op.Guard dest ty args funcs labels e = inl refl
action-onward code i _ dest ty args funcs labels e = inl refl

pub item-onward : (code : List Instr) (i : ℕ) (item : Instr) → leads_away (Some item) ≡ false → In (onward i) (item_branches code i item)
item-onward code i (Label l) e = inl refl
item-onward code i (Const dest ty value) e = inl refl
item-onward code i (Act dest ty operation args funcs labels) e = action-onward code i operation dest ty args funcs labels e

-- ---- an abort closes a site

aborts-by : (code : List Instr) (p : ℕ) (labels : List ℕ) (branch : Branch) → In branch (map (jump code p) labels) → branch.aborts ≡ true → ⊥
aborts-by code p labels branch h e = let s = in_map_source (jump code p) branch labels h in let t = ap (λ (w : Branch). w.aborts) s.2 in cc

aborts-onward : (p : ℕ) (branch : Branch) → In branch (onward p ∷ []) → branch.aborts ≡ true → ⊥
aborts-onward p branch (inl s) e = let t = ap (λ (w : Branch). w.aborts) s in cc
aborts-onward p branch (inr h) e = h

-- only the item of a guard has a branch that aborts
pub aborts-close : (code : List Instr) (p : ℕ) (item : Option Instr) (branch : Branch) → In branch (branches_from code p item) → branch.aborts ≡ true → item_change item true ≡ Closes
aborts-close code p None branch h e = absurd h
aborts-close code p (Some (Label l)) branch h e = absurd (aborts-onward p branch h e)
aborts-close code p (Some (Const dest ty value)) branch h e = absurd (aborts-onward p branch h e)
aborts-close code p (Some (Act dest ty op.Guard args funcs labels)) branch h e = refl
aborts-close code p (Some (Act dest ty op.Ret args funcs labels)) branch h e = absurd h
aborts-close code p (Some (Act dest ty op.Jmp args funcs labels)) branch h e = absurd (aborts-by code p labels branch h e)
aborts-close code p (Some (Act dest ty op.Br args funcs labels)) branch h e = absurd (aborts-by code p labels branch h e)
aborts-close code p (Some (Act dest ty _ args funcs labels)) branch h e = absurd (aborts-onward p branch h e)

-- ---- walks

pub walk_within : (code : List Instr) (walk : List Branch) → IsWalk code walk → end_of walk ≤ length code
walk_within code [] is = omega arith
walk_within code (branch ∷ walk) is = branch_inside code (end_of walk) branch (in_contains branch (branches_at code (end_of walk)) is.0)

pub reached_start : (code : List Instr) → IsReached code 0
reached_start code = record { walk = []; is = tt; ends = refl }

-- one branch further
pub reached_on : (code : List Instr) (p : ℕ) (branch : Branch) → IsReached code p → In branch (branches_at code p) → IsReached code branch.to
reached_on code p branch r among = record {
  walk = branch ∷ r.walk;
  is = (contains_in branch (branches_at code (end_of r.walk)) (subst (λ n. In branch (branches_at code n)) (sym r.ends) among), r.is);
  ends = refl;
}

-- ---- equality

abbrev branch_of_parts : ℕ → ℕ → Bool → Branch
branch_of_parts from to aborts = record { from = from; to = to; aborts = aborts }

pub same_branch : (e f : Branch) → e.from ≡ f.from → e.to ≡ f.to → e.aborts ≡ f.aborts → e ≡ f
same_branch e f p q r =
    let parts : branch_of_parts e.from e.to e.aborts ≡ branch_of_parts f.from f.to f.aborts = cc in parts

-- no item opens a site and closes one
pub opens-or_closes : (item : Option Instr) → item_change item false ≡ Opens → item_change item true ≡ Closes → ⊥
opens-or_closes None a b = cc
opens-or_closes (Some (Label l)) a b = cc
opens-or_closes (Some (Const dest ty value)) a b = cc
opens-or_closes (Some (Act dest ty op.Speculate args funcs labels)) a b = cc
opens-or_closes (Some (Act dest ty op.Commit args funcs labels)) a b = cc
opens-or_closes (Some (Act dest ty op.Guard args funcs labels)) a b = cc
opens-or_closes (Some (Act dest ty _ args funcs labels)) a b = cc
