-- What items say that copy a variable or assign one.
use Rattle.std.proofs.Common.{◌≡◌, ℕ, ◌<◌, Bool, true, List, [], ◌∷◌, length, map, Option, Some, None, refl, sym, ap, subst, inl, inr, arith}
use Rattle.std.specs.Prelude.{slice_get, slice_index, is_some}
use Rattle.std.proofs.lemmas.Option.{get_or_from_slice_get, slice_get_within}
use Rattle.bril_tree.specs.declared.numbered.Instr.{Instr}
use Rattle.bril_tree.specs.declared.numbered.Instr.TheVariants.{Label, Const, Act}
use Rattle.bril_tree.specs.declared.numbered_function.Func.{Func}
use Rattle.bril_tree.specs.declared.operation.Op.{Op}
use Rattle.bril_tree.specs.declared.operation.Op.TheVariants as op
use Rattle.bril_tree.specs.declared.types.Ty.{Ty}
use Rattle.bril_tree.specs.Assigned.{assigns_of}
use Rattle.bril_tree.specs.Edge.{item_branches, onward}
use Rattle.bril_tree.specs.FunctionForm.{listed, variables_of}
use Rattle.bril_tree.specs.Live.{IsLive, Here, Later}
use Rattle.bril_tree.specs.Membership.{In}
use Rattle.bril_tree.specs.Operand.{Location, Variable, Shadow, reads_of, locations_read, reading_of}
use Rattle.bril_tree.specs.Shape.{is_shaped, shape_fault_of, shape_of}
use Rattle.bril_tree.proofs.Formed.{variable_below}
use Rattle.bril_tree.proofs.Members.{in_contains, contains_in}
use Rattle.bril_tree.proofs.Shapes.{dest_none, shape-parts}
use Rattle.bril_checker.proofs.Positions.{all_pass}
use Rattle.variable_renaming.specs.Apart.{Copies, HasShadow, shadows_in, shadows_of}

-- ---- copies

-- the copy, as an item
pub record Copy (item : Instr) (x y : ℕ) : Type 0 where
  pub ty : Option Ty
  pub args : List ℕ
  pub funcs : List ℕ
  pub labels : List ℕ
  pub is : item ≡ Act (Some x) ty op.Id args funcs labels
  pub source : slice_index args 0 ≡ y

pub copy-is : (item : Instr) (x y : ℕ) → Copies item x y → Copy item x y
copy-is (Label l) x y c = absurd (let e = c.1 in cc)
copy-is (Const d ty v) x y c = absurd (let e = c.1 in cc)
copy-is (Act d ty op.Id args fns ls) x y c = record { ty = ty; args = args; funcs = fns; labels = ls; is = ap (λ z. Act z ty op.Id args fns ls) c.0; source = (let e : Some (slice_index args 0) ≡ Some y = c.1 in cc) }
copy-is (Act d ty _ args fns ls) x y c = absurd (let e = c.1 in cc)

-- ---- the variables of a copy

first_in : (xs : List ℕ) (y : ℕ) → slice_index xs 0 ≡ y → length xs ≡ 1 → In y xs
first_in [] y e n = absurd (omega arith)
first_in (x ∷ xs) y e n = inl (sym e)

-- the variables of a copy are the function's
pub copy-below : (F : Func) → shape_fault_of (is_some F.ret) F.code ≡ None → (point : ℕ) (item : Instr) → slice_get F.code point ≡ Some item → (x y : ℕ) → Copies item x y → (x < length F.vars) × (y < length F.vars)
copy-below F shaped point item at x y c =
    let k = copy-is item x y c in
    let s : is_shaped (is_some F.ret) item ≡ true = subst (λ a. is_shaped (is_some F.ret) a ≡ true) (get_or_from_slice_get F.code point item item at) (all_pass (is_shaped (is_some F.ret)) F.code (sym shaped) point item (slice_get_within F.code point item at)) in
    let one : length k.args ≡ 1 = (shape-parts (shape_of (is_some F.ret) op.Id) true (length k.args) (length k.funcs) (length k.labels) (subst (λ (a : Instr). is_shaped (is_some F.ret) a ≡ true) k.is s)).args_are in
    let vars : In x (variables_of item) × In y (variables_of item) = subst (λ (a : Instr). In x (variables_of a) × In y (variables_of a)) (sym k.is) (inl refl, inr (first_in k.args y k.source one)) in
    (variable_below F point item at x vars.0, variable_below F point item at y vars.1)

-- ---- items that assign a location

no_dest-here : {X : Type 0} (d : Option ℕ) (x : Location) → d ≡ None → In x (map Variable (listed d)) → X
no_dest-here d x none i = absurd (subst (λ o. In x (map Variable (listed o))) none i)

-- they go on to the next point
act-onward : (ret : Bool) (o : Op) (d : Option ℕ) (ty : Option Ty) (args fns ls : List ℕ) → is_shaped ret (Act d ty o args fns ls) ≡ true → (x : Location) → In x (assigns_of (Act d ty o args fns ls)) → (code : List Instr) (i : ℕ) → item_branches code i (Act d ty o args fns ls) ≡ onward i ∷ []
act-onward ret op.Jmp d ty args fns ls s x h code i = no_dest-here d x (dest_none (shape_of ret op.Jmp) d (length args) (length fns) (length ls) refl s) h
act-onward ret op.Br d ty args fns ls s x h code i = no_dest-here d x (dest_none (shape_of ret op.Br) d (length args) (length fns) (length ls) refl s) h
act-onward ret op.Ret d ty args fns ls s x h code i = no_dest-here d x (dest_none (shape_of ret op.Ret) d (length args) (length fns) (length ls) refl s) h
act-onward ret op.Guard d ty args fns ls s x h code i = no_dest-here d x (dest_none (shape_of ret op.Guard) d (length args) (length fns) (length ls) refl s) h
act-onward ret _ d ty args fns ls s x h code i = refl

pub assigning-onward : (ret : Bool) (a : Instr) → is_shaped ret a ≡ true → (x : Location) → In x (assigns_of a) → (code : List Instr) (i : ℕ) → item_branches code i a ≡ onward i ∷ []
assigning-onward ret (Label l) s x h code i = refl
assigning-onward ret (Const d ty v) s x h code i = refl
assigning-onward ret (Act d ty o args fns ls) s x h code i = act-onward ret o d ty args fns ls s x h code i

-- ---- shadows

-- an item that reads a shadow names it
act-read : (o : Op) (d : Option ℕ) (args : List ℕ) (x : ℕ) → In (Shadow x) (locations_read (reading_of o) d args) → In x (shadows_in o d args)
act-read op.Get None args x i = absurd i
act-read op.Get (Some y) args x (inl e) = inl (let h : Shadow x ≡ Shadow y = e in cc)
act-read op.Get (Some y) args x (inr i) = absurd i
act-read op.Set d args x (inl e) = absurd cc
act-read op.Set d args x (inr i) = absurd i
act-read _ d args x i = absurd (no_shadow args i)
  where
    no_shadow : (xs : List ℕ) → In (Shadow x) (map Variable xs) → ⊥
    no_shadow [] i = i
    no_shadow (y ∷ xs) (inl e) = cc
    no_shadow (y ∷ xs) (inr i) = no_shadow xs i

read-shadow : (a : Instr) (x : ℕ) → In (Shadow x) (reads_of a) → In x (shadows_of a)
read-shadow (Label l) x i = absurd i
read-shadow (Const d ty v) x i = absurd i
read-shadow (Act d ty o args fns ls) x i = act-read o d args x i

-- an item that assigns a shadow names it
no_shadow-listed : (d : Option ℕ) (x : ℕ) → In (Shadow x) (map Variable (listed d)) → ⊥
no_shadow-listed None x i = i
no_shadow-listed (Some y) x (inl e) = cc
no_shadow-listed (Some y) x (inr i) = i

pub assigned-shadow : (a : Instr) (x : ℕ) → In (Shadow x) (assigns_of a) → In x (shadows_of a)
assigned-shadow (Label l) x i = absurd i
assigned-shadow (Const d ty v) x (inl e) = absurd cc
assigned-shadow (Const d ty v) x (inr i) = absurd i
assigned-shadow (Act d ty op.Set args fns ls) x (inl e) = inl (let h : Shadow x ≡ Shadow (slice_index args 0) = e in cc)
assigned-shadow (Act d ty op.Set args fns ls) x (inr i) = absurd i
assigned-shadow (Act d ty _ args fns ls) x i = absurd (no_shadow-listed d x i)

-- a shadow that is live is named
pub live-shadow : (code : List Instr) (x point : ℕ) → IsLive code (Shadow x) point → HasShadow code x
live-shadow code x point (Here _ item at reads) = record { point = point; item = item; at = at; names = contains_in x (shadows_of item) (read-shadow item x (in_contains (Shadow x) (reads_of item) reads)) }
live-shadow code x point (Later _ branch leaves none live) = live-shadow code x branch.to live
