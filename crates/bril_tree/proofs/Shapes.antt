-- What an item of its shape has: a destination or none, so many arguments and labels, and what that says of its branches.
use Rattle.std.proofs.Common.{◌≡◌, ℕ, Bool, true, false, List, [], ◌∷◌, length, map, Option, Some, None, refl, sym, ap, ◌∙◌, inr, arith}
use Rattle.std.specs.Prelude.{is_some, IsTrue}
use Rattle.std.proofs.lemmas.Bool.{and_parts, eqb-true, not-true}
use Rattle.bril_tree.specs.declared.numbered.Instr.{Instr}
use Rattle.bril_tree.specs.declared.numbered.Instr.TheVariants.{Label, Const, Act}
use Rattle.bril_tree.specs.declared.operation.Op.{Op}
use Rattle.bril_tree.specs.declared.operation.Op.TheVariants as op
use Rattle.bril_tree.specs.Assigned.{assigns_of}
use Rattle.bril_tree.specs.Edge.{Branch, item_branches, action_branches, jump, abort}
use Rattle.bril_tree.specs.FunctionForm.{listed, targets_of}
use Rattle.bril_tree.specs.Membership.{In}
use Rattle.bril_tree.specs.Operand.{Variable}
use Rattle.bril_tree.specs.Shape.{Shape, same, is_shaped, is_action_shaped, fits_shape, shape_of}
use Rattle.bril_tree.specs.Sites.{Closes, Keeps, item_change, needs_site}
use Rattle.bril_tree.specs.Step.{point_of}
use Rattle.bril_tree.proofs.Members.{in_map}

-- the numbers of an operation's operands are those of its shape
pub record HasShape (shape : Shape) (dest : Bool) (args funcs labels : ℕ) : Type 0 where
  pub dest_is : same shape.dest dest ≡ true
  pub args_are : args ≡ shape.args
  pub funcs_are : funcs ≡ 0
  pub labels_are : labels ≡ shape.labels

pub shape-parts : (shape : Shape) (dest : Bool) (args funcs labels : ℕ) → fits_shape shape dest args funcs labels ≡ true → HasShape shape dest args funcs labels
shape-parts shape dest args funcs labels e =
    let a = and_parts _ _ e in
    let b = and_parts _ _ a.0 in
    let c = and_parts _ _ b.0 in
    record { dest_is = c.0; args_are = eqb-true args shape.args c.1; funcs_are = eqb-true funcs 0 b.1; labels_are = eqb-true labels shape.labels a.1 }

pub no_dest : (dest : Option ℕ) → is_some dest ≡ false → dest ≡ None
no_dest None e = refl
no_dest (Some x) e = absurd (cc)

pub some_dest : (dest : Option ℕ) → is_some dest ≡ true → (x : ℕ) × (dest ≡ Some x)
some_dest None e = absurd (cc)
some_dest (Some x) e = (x, refl)

pub dest_none : (shape : Shape) (dest : Option ℕ) (args funcs labels : ℕ) → shape.dest ≡ false → fits_shape shape (is_some dest) args funcs labels ≡ true → dest ≡ None
dest_none shape dest args funcs labels none e =
    no_dest dest (not-true (is_some dest) (ap (λ b. same b (is_some dest)) (sym none) ∙ (shape-parts shape (is_some dest) args funcs labels e).dest_is))

pub dest_there : (shape : Shape) (dest : Option ℕ) (args funcs labels : ℕ) → shape.dest ≡ true → fits_shape shape (is_some dest) args funcs labels ≡ true → (x : ℕ) × (dest ≡ Some x)
dest_there shape dest args funcs labels there e =
    some_dest dest (ap (λ b. same b (is_some dest)) (sym there) ∙ (shape-parts shape (is_some dest) args funcs labels e).dest_is)

-- ---- what an item does to sites

-- an item that opens or closes a site assigns nothing
pub none_assigned : (returns : Bool) (item : Instr) (aborts : Bool) → is_shaped returns item ≡ true → (item_change (Some item) aborts ≡ Keeps → ⊥) → assigns_of item ≡ []
none_assigned returns (Label l) b s n = refl
none_assigned returns (Const dest ty value) b s n = absurd (n refl)
none_assigned returns (Act dest ty op.Speculate args funcs labels) b s n = ap (λ d. map Variable (listed d)) (dest_none (shape_of returns op.Speculate) dest (length args) (length funcs) (length labels) refl s)
none_assigned returns (Act dest ty op.Commit args funcs labels) b s n = ap (λ d. map Variable (listed d)) (dest_none (shape_of returns op.Commit) dest (length args) (length funcs) (length labels) refl s)
none_assigned returns (Act dest ty op.Guard args funcs labels) b s n = ap (λ d. map Variable (listed d)) (dest_none (shape_of returns op.Guard) dest (length args) (length funcs) (length labels) refl s)
none_assigned returns (Act dest ty _ args funcs labels) b s n = absurd (n refl)

-- an item that closes a site needs one
pub closing_needs : (item : Option Instr) (aborts : Bool) → item_change item aborts ≡ Closes → IsTrue (needs_site item)
closing_needs None b e = absurd cc
closing_needs (Some (Label l)) b e = absurd cc
closing_needs (Some (Const dest ty value)) b e = absurd cc
closing_needs (Some (Act dest ty op.Speculate args funcs labels)) b e = absurd cc
closing_needs (Some (Act dest ty op.Commit args funcs labels)) b e = refl
closing_needs (Some (Act dest ty op.Guard args funcs labels)) b e = refl
closing_needs (Some (Act dest ty _ args funcs labels)) b e = absurd cc

-- ---- a branch leads to each label that an item goes to

none_listed : {A : Type 0} (labels : List ℕ) (l : ℕ) → length labels ≡ 0 → In l labels → A
none_listed [] l e i = absurd i
none_listed (m ∷ labels) l e i = absurd (omega arith)

pub record LeadsTo (code : List Instr) (label : ℕ) (branches : List Branch) : Type 0 where
  pub branch : Branch
  pub among : In branch branches
  pub to : branch.to ≡ point_of label code

act-leads : (code : List Instr) (i : ℕ) (returns dest : Bool) (o : Op) (args funcs : ℕ) (labels : List ℕ) (l : ℕ) → is_action_shaped returns o dest args funcs (length labels) ≡ true → In l labels → LeadsTo code l (action_branches code i o labels)
act-leads code i returns dest op.Jmp args funcs labels l s m = record { branch = jump code i l; among = in_map (jump code i) l labels m; to = refl }
act-leads code i returns dest op.Br args funcs labels l s m = record { branch = jump code i l; among = in_map (jump code i) l labels m; to = refl }
act-leads code i returns dest op.Guard args funcs labels l s m = record { branch = abort code i l; among = inr (in_map (abort code i) l labels m); to = refl }
act-leads code i returns dest op.Call args funcs labels l s m = none_listed labels l (eqb-true (length labels) 0 (and_parts _ _ s).1) m
act-leads code i returns dest op.Print args funcs labels l s m = none_listed labels l (eqb-true (length labels) 0 (and_parts _ _ s).1) m
act-leads code i returns dest o args funcs labels l s m = none_listed labels l (shape-parts (shape_of returns o) dest args funcs (length labels) s).labels_are m

pub item_leads : (code : List Instr) (i : ℕ) (returns : Bool) (item : Instr) (l : ℕ) → is_shaped returns item ≡ true → In l (targets_of item) → LeadsTo code l (item_branches code i item)
item_leads code i returns (Label k) l s m = absurd m
item_leads code i returns (Const dest ty value) l s m = absurd m
item_leads code i returns (Act dest ty o args funcs labels) l s m = act-leads code i returns (is_some dest) o (length args) (length funcs) labels l s m
