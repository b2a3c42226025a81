-- The branches from an item: on to the next point, to a label, or by an abort; and what the item's tree tells of them.
use Rattle.std.proofs.Common.{◌≡◌, ℕ, Bool, true, false, List, [], length, map, Option, Some, None, refl, sym, ap, subst, ◌∙◌, inl, inr}
use Rattle.std.specs.Prelude.{slice_get}
use Rattle.bril_tree.specs.declared.function_tree.Item.{Item}
use Rattle.bril_tree.specs.declared.function_tree.Item.TheVariants as item
use Rattle.bril_tree.specs.declared.numbered.Instr.{Instr}
use Rattle.bril_tree.specs.declared.numbered.Instr.TheVariants.{Label, Const, Act}
use Rattle.bril_tree.specs.declared.numbered_function.Func.{Func}
use Rattle.bril_tree.specs.declared.operation.Op.{Op}
use Rattle.bril_tree.specs.declared.operation.Op.TheVariants as op
use Rattle.bril_tree.specs.Edge.{Branch, abort, branches_at, branches_from, item_branches, jump, onward}
use Rattle.bril_tree.specs.FunctionForm.{targets_of}
use Rattle.bril_tree.specs.Membership.{In}
use Rattle.bril_tree.specs.Numbered.{item_tree, named}
use Rattle.bril_tree.specs.Sites.{Change, Keeps, item_change, operation_change}
use Rattle.bril_tree.specs.Step.{point_of}
use Rattle.bril_tree.proofs.Formed.{target_below}
use Rattle.bril_tree.proofs.LabelPoints.{label-point}
use Rattle.bril_tree.proofs.Members.{in_map, in_map_source}
use Rattle.ssa_build.specs.code.Items.{moved_item}
use Rattle.ssa_build.specs.code.Sweep.{goes_on}
use Rattle.ssa_laws.specs.inserted_copies.Inserted.{is_copy}

-- ---- branches

-- the labels that an item goes to, and those that its aborts go to
abbrev pub operation_jumps : {X : Type 0} → Op → List X → List X
operation_jumps op.Jmp labels = labels
operation_jumps op.Br labels = labels
operation_jumps _ labels = []

abbrev pub operation_aborts : {X : Type 0} → Op → List X → List X
operation_aborts op.Guard labels = labels
operation_aborts _ labels = []

abbrev pub jumps : Instr → List ℕ
jumps (Label l) = []
jumps (Const d ty v) = []
jumps (Act d ty o args fns ls) = operation_jumps o ls

abbrev pub aborts : Instr → List ℕ
aborts (Label l) = []
aborts (Const d ty v) = []
aborts (Act d ty o args fns ls) = operation_aborts o ls

pub data Kind (code : List Instr) (p : ℕ) (b : Instr) (w : Branch) : Type 0 where
  Next : goes_on (Some b) ≡ true → w ≡ onward p → Kind code p b w
  Jump : (l : ℕ) → In l (jumps b) → w ≡ jump code p l → Kind code p b w
  Abort : (l : ℕ) → In l (aborts b) → w ≡ abort code p l → Kind code p b w

pub kind : (code : List Instr) (p : ℕ) (b : Instr) (w : Branch) → In w (item_branches code p b) → Kind code p b w
kind code p (Label l) w (inl e) = Next refl e
kind code p (Label l) w (inr n) = absurd n
kind code p (Const d ty v) w (inl e) = Next refl e
kind code p (Const d ty v) w (inr n) = absurd n
kind code p (Act d ty op.Jmp args fns ls) w i = let s = in_map_source (jump code p) w ls i in Jump s.0 s.1 s.2
kind code p (Act d ty op.Br args fns ls) w i = let s = in_map_source (jump code p) w ls i in Jump s.0 s.1 s.2
kind code p (Act d ty op.Ret args fns ls) w i = absurd i
kind code p (Act d ty op.Guard args fns ls) w (inl e) = Next refl e
kind code p (Act d ty op.Guard args fns ls) w (inr i) = let s = in_map_source (abort code p) w ls i in Abort s.0 s.1 s.2
kind code p (Act d ty _ args fns ls) w (inl e) = Next refl e
kind code p (Act d ty _ args fns ls) w (inr n) = absurd n

-- the item that a branch leaves from
pub leaves-item : (code : List Instr) (p : ℕ) (b : Branch) → In b (branches_at code p) → (q : Instr) × (slice_get code p ≡ Some q) × In b (item_branches code p q)
leaves-item code p b among = by (slice_get code p) refl
  where
    by : (o : Option Instr) → slice_get code p ≡ o → (q : Instr) × (slice_get code p ≡ Some q) × In b (item_branches code p q)
    by None e = absurd (subst (λ o. In b (branches_from code p o)) e among)
    by (Some q) e = (q, e, subst (λ o. In b (branches_from code p o)) e among)

pub next-there : (code : List Instr) (p : ℕ) (b : Instr) → goes_on (Some b) ≡ true → In (onward p) (item_branches code p b)
next-there code p (Label l) e = inl refl
next-there code p (Const d ty v) e = inl refl
next-there code p (Act d ty op.Jmp args fns ls) e = absurd cc
next-there code p (Act d ty op.Br args fns ls) e = absurd cc
next-there code p (Act d ty op.Ret args fns ls) e = absurd cc
next-there code p (Act d ty op.Guard args fns ls) e = inl refl
next-there code p (Act d ty _ args fns ls) e = inl refl

pub jump-there : (code : List Instr) (p : ℕ) (b : Instr) (l : ℕ) → In l (jumps b) → In (jump code p l) (item_branches code p b)
jump-there code p (Label m) l i = absurd i
jump-there code p (Const d ty v) l i = absurd i
jump-there code p (Act d ty op.Jmp args fns ls) l i = in_map (jump code p) l ls i
jump-there code p (Act d ty op.Br args fns ls) l i = in_map (jump code p) l ls i
jump-there code p (Act d ty _ args fns ls) l i = absurd i

pub abort-there : (code : List Instr) (p : ℕ) (b : Instr) (l : ℕ) → In l (aborts b) → In (abort code p l) (item_branches code p b)
abort-there code p (Label m) l i = absurd i
abort-there code p (Const d ty v) l i = absurd i
abort-there code p (Act d ty op.Guard args fns ls) l i = inr (in_map (abort code p) l ls i)
abort-there code p (Act d ty _ args fns ls) l i = absurd i

jumps-target : (b : Instr) (l : ℕ) → In l (jumps b) → In l (targets_of b)
jumps-target (Label m) l i = absurd i
jumps-target (Const d ty v) l i = absurd i
jumps-target (Act d ty op.Jmp args fns ls) l i = i
jumps-target (Act d ty op.Br args fns ls) l i = i
jumps-target (Act d ty _ args fns ls) l i = absurd i

aborts-target : (b : Instr) (l : ℕ) → In l (aborts b) → In l (targets_of b)
aborts-target (Label m) l i = absurd i
aborts-target (Const d ty v) l i = absurd i
aborts-target (Act d ty op.Guard args fns ls) l i = i
aborts-target (Act d ty _ args fns ls) l i = absurd i

-- the labels stand at their points
module _ (H : Func) (p : ℕ) (b : Instr) (at : slice_get H.code p ≡ Some b) (l : ℕ) where
  pub jump-stands : In l (jumps b) → slice_get H.code (point_of l H.code) ≡ Some (Label l)
  jump-stands i = label-point l (length H.labels) H.code H.formed.placed (target_below H p b at l (jumps-target b l i))

  pub abort-stands : In l (aborts b) → slice_get H.code (point_of l H.code) ≡ Some (Label l)
  abort-stands i = label-point l (length H.labels) H.code H.formed.placed (target_below H p b at l (aborts-target b l i))

-- a jump goes nowhere else, and no abort leaves from it
pub jumps-stay : (b : Instr) (l : ℕ) → In l (jumps b) → goes_on (Some b) ≡ false
jumps-stay (Label m) l i = absurd i
jumps-stay (Const d ty v) l i = absurd i
jumps-stay (Act d ty op.Jmp args fns ls) l i = refl
jumps-stay (Act d ty op.Br args fns ls) l i = refl
jumps-stay (Act d ty _ args fns ls) l i = absurd i

-- ---- by trees

abbrev operation_goes : Op → Bool
operation_goes op.Jmp = false
operation_goes op.Br = false
operation_goes op.Ret = false
operation_goes _ = true

abbrev tree_goes : Item → Bool
tree_goes (item.Label l) = true
tree_goes (item.Const d ty v) = true
tree_goes (item.Act d o args fns ls) = operation_goes o

abbrev tree_jumps : Item → List (List ℕ)
tree_jumps (item.Label l) = []
tree_jumps (item.Const d ty v) = []
tree_jumps (item.Act d o args fns ls) = operation_jumps o ls

abbrev tree_aborts : Item → List (List ℕ)
tree_aborts (item.Label l) = []
tree_aborts (item.Const d ty v) = []
tree_aborts (item.Act d o args fns ls) = operation_aborts o ls

abbrev tree_change : Item → Bool → Change
tree_change (item.Label l) b = Keeps
tree_change (item.Const d ty v) b = Keeps
tree_change (item.Act d o args fns ls) b = operation_change o b

abbrev pub tree_copies : Item → Bool
tree_copies (item.Label l) = false
tree_copies (item.Const d ty v) = false
tree_copies (item.Act d op.Get args fns ls) = true
tree_copies (item.Act d op.Set args fns ls) = true
tree_copies (item.Act d _ args fns ls) = false

module _ (fs V ls : List (List ℕ)) where
  goes-tree : (b : Instr) → tree_goes (item_tree fs V ls b) ≡ goes_on (Some b)
  goes-tree (Label l) = refl
  goes-tree (Const d ty v) = refl
  goes-tree (Act d ty op.Jmp args fns ms) = refl
  goes-tree (Act d ty op.Br args fns ms) = refl
  goes-tree (Act d ty op.Ret args fns ms) = refl
  goes-tree (Act d ty _ args fns ms) = refl

  jumps-tree : (b : Instr) → tree_jumps (item_tree fs V ls b) ≡ map (named ls) (jumps b)
  jumps-tree (Label l) = refl
  jumps-tree (Const d ty v) = refl
  jumps-tree (Act d ty op.Jmp args fns ms) = refl
  jumps-tree (Act d ty op.Br args fns ms) = refl
  jumps-tree (Act d ty _ args fns ms) = refl

  aborts-tree : (b : Instr) → tree_aborts (item_tree fs V ls b) ≡ map (named ls) (aborts b)
  aborts-tree (Label l) = refl
  aborts-tree (Const d ty v) = refl
  aborts-tree (Act d ty op.Guard args fns ms) = refl
  aborts-tree (Act d ty _ args fns ms) = refl

  change-tree : (b : Instr) (x : Bool) → tree_change (item_tree fs V ls b) x ≡ item_change (Some b) x
  change-tree (Label l) x = refl
  change-tree (Const d ty v) x = refl
  change-tree (Act d ty o args fns ms) x = refl

  pub copies-tree : (b : Instr) → tree_copies (item_tree fs V ls b) ≡ is_copy (Some b)
  copies-tree (Label l) = refl
  copies-tree (Const d ty v) = refl
  copies-tree (Act d ty op.Get args fns ms) = refl
  copies-tree (Act d ty op.Set args fns ms) = refl
  copies-tree (Act d ty _ args fns ms) = refl

-- what stands in place of a reached item goes where that goes
module _ (args : List (List ℕ)) (w : List ℕ) where
  goes-moved : (t : Item) → tree_goes (moved_item args w t) ≡ tree_goes t
  goes-moved (item.Label l) = refl
  goes-moved (item.Const d ty v) = refl
  goes-moved (item.Act d op.Get old fns ls) = refl
  goes-moved (item.Act d op.Set old fns ls) = refl
  goes-moved (item.Act d _ old fns ls) = refl

  jumps-moved : (t : Item) → tree_jumps (moved_item args w t) ≡ tree_jumps t
  jumps-moved (item.Label l) = refl
  jumps-moved (item.Const d ty v) = refl
  jumps-moved (item.Act d op.Get old fns ls) = refl
  jumps-moved (item.Act d op.Set old fns ls) = refl
  jumps-moved (item.Act d _ old fns ls) = refl

  aborts-moved : (t : Item) → tree_aborts (moved_item args w t) ≡ tree_aborts t
  aborts-moved (item.Label l) = refl
  aborts-moved (item.Const d ty v) = refl
  aborts-moved (item.Act d op.Get old fns ls) = refl
  aborts-moved (item.Act d op.Set old fns ls) = refl
  aborts-moved (item.Act d _ old fns ls) = refl

  change-moved : (t : Item) (x : Bool) → tree_change (moved_item args w t) x ≡ tree_change t x
  change-moved (item.Label l) x = refl
  change-moved (item.Const d ty v) x = refl
  change-moved (item.Act d op.Get old fns ls) x = refl
  change-moved (item.Act d op.Set old fns ls) x = refl
  change-moved (item.Act d _ old fns ls) x = refl

-- an item of the result leads where one of the program does, by the names of labels
pub record AreAlike (F G : Func) (a q : Instr) : Type 0 where
  pub goes : goes_on (Some a) ≡ goes_on (Some q)
  pub jump : map (named F.labels) (jumps a) ≡ map (named G.labels) (jumps q)
  pub abort : map (named F.labels) (aborts a) ≡ map (named G.labels) (aborts q)
  pub change : (x : Bool) → item_change (Some a) x ≡ item_change (Some q) x

pub moved-alike : (fs V fs' V' : List (List ℕ)) (F G : Func) (args : List (List ℕ)) (w : List ℕ) (a q : Instr) → moved_item args w (item_tree fs V F.labels a) ≡ item_tree fs' V' G.labels q → AreAlike F G a q
moved-alike fs V fs' V' F G args w a q e = record {
  goes = sym (goes-moved args w (item_tree fs V F.labels a) ∙ goes-tree fs V F.labels a) ∙ ap tree_goes e ∙ goes-tree fs' V' G.labels q;
  jump = sym (jumps-moved args w (item_tree fs V F.labels a) ∙ jumps-tree fs V F.labels a) ∙ ap tree_jumps e ∙ jumps-tree fs' V' G.labels q;
  abort = sym (aborts-moved args w (item_tree fs V F.labels a) ∙ aborts-tree fs V F.labels a) ∙ ap tree_aborts e ∙ aborts-tree fs' V' G.labels q;
  change = λ x. sym (change-moved args w (item_tree fs V F.labels a) x ∙ change-tree fs V F.labels a x) ∙ ap (λ t. tree_change t x) e ∙ change-tree fs' V' G.labels q x;
}
