-- Items of two functions whose trees are one.
use Rattle.std.proofs.Common.{◌≡◌, ℕ, zero, suc, ◌<◌, Bool, true, List, [], ◌∷◌, length, map, Option, Some, None, refl, sym, ap, subst, ◌∙◌, inl, inr, arith}
use Rattle.std.specs.Prelude.{slice_index, is_some}
use Rattle.std.specs.List.{AllZip}
use Rattle.std.proofs.lemmas.Option.{same_Some}
use Rattle.bril_tree.specs.declared.function_tree.Dest.{Dest}
use Rattle.bril_tree.specs.declared.numbered.Instr.{Instr}
use Rattle.bril_tree.specs.declared.numbered.Instr.TheVariants.{Label, Const, Act}
use Rattle.bril_tree.specs.declared.operation.Op.{Op}
use Rattle.bril_tree.specs.declared.operation.Op.TheVariants as op
use Rattle.bril_tree.specs.declared.types.Ty.{Ty}
use Rattle.bril_tree.specs.Assigned.{assigns_of, operation_assigns}
use Rattle.bril_tree.specs.FunctionForm.{listed, both_or_neither, targets_of, label_at}
use Rattle.bril_tree.specs.Numbered.{named, typed_name, dest_tree, item_tree}
use Rattle.bril_tree.specs.Operand.{dest_of, Location, Variable, locations_read, reading_of, reads_of, shadow_of}
use Rattle.bril_tree.specs.Shape.{is_shaped, is_action_shaped, shape_of}
use Rattle.bril_tree.specs.Membership.{In}
use Rattle.bril_tree.proofs.Shapes.{shape-parts}
use Rattle.bril_tree.proofs.Elements.{zip-find, zip-long}
use Rattle.bril_tree.proofs.Trees.{none_from}
use Rattle.bril_tree.proofs.Typings.{type_of}
use Rattle.bril_names.specs.Faults.{Differ}
use Rattle.bril_names.specs.Range.{AreBelow, IsInRange}
use Rattle.bril_names.proofs.Naming.{AreBelow-append, same_numbers}
use Rattle.pass_edit_laws.specs.plan.Plan.{ItemsMatch}
use Rattle.pass_edit_laws.specs.names.Named.{args_of, SameName, SameLocation}

-- ---- lists

pub zip-and : {X Y : Type 0} (R : X → Y → Type 0) (M : X → Type 0) (xs : List X) (ys : List Y) → AllZip R xs ys → ((x : X) → In x xs → M x) → AllZip (λ x y. R x y × M x) xs ys
zip-and R M [] [] h k = tt
zip-and R M [] (y ∷ ys) h k = absurd h
zip-and R M (x ∷ xs) [] h k = absurd h
zip-and R M (x ∷ xs) (y ∷ ys) h k = ((h.0, k x (inl refl)), zip-and R M xs ys h.1 (λ z i. k z (inr i)))

zip-locations : (V W : List (List ℕ)) (xs ys : List ℕ) → AllZip (SameName V W) xs ys → AllZip (SameLocation V W) (map Variable xs) (map Variable ys)
zip-locations V W [] [] h = tt
zip-locations V W [] (y ∷ ys) h = absurd h
zip-locations V W (x ∷ xs) [] h = absurd h
zip-locations V W (x ∷ xs) (y ∷ ys) h = (h.0, zip-locations V W xs ys h.1)

pub zip-at : (R : ℕ → ℕ → Type 0) (xs ys : List ℕ) (k : ℕ) → k < length xs → AllZip R xs ys → R (slice_index xs k) (slice_index ys k)
zip-at R [] ys k l h = absurd (omega arith)
zip-at R (x ∷ xs) [] k l h = absurd h
zip-at R (x ∷ xs) (y ∷ ys) zero l h = h.0
zip-at R (x ∷ xs) (y ∷ ys) (suc k) l h = zip-at R xs ys k (omega arith) h.1

pub names-zip : (V W : List (List ℕ)) (xs ys : List ℕ) → map (named V) xs ≡ map (named W) ys → AreBelow (length V) xs → AreBelow (length W) ys → AllZip (SameName V W) xs ys
names-zip V W [] [] e a b = tt
names-zip V W [] (y ∷ ys) e a b = absurd cc
names-zip V W (x ∷ xs) [] e a b = absurd cc
names-zip V W (x ∷ xs) (y ∷ ys) e a b =
    let here : named V x ≡ named W y = cc in
    let rest : map (named V) xs ≡ map (named W) ys = cc in
    ((a.0, b.0, here), names-zip V W xs ys rest a.1 b.1)

-- each has one of the same name in the other list
pub name-source : (V W : List (List ℕ)) (xs ys : List ℕ) → map (named V) xs ≡ map (named W) ys → AreBelow (length V) xs → AreBelow (length W) ys → (y : ℕ) → In y ys → (x : ℕ) × In x xs × SameName V W x y
name-source V W xs ys e a b y i = zip-find (SameName V W) xs ys y (names-zip V W xs ys e a b) i

-- and the first ones have one name
pub first_same : (V W : List (List ℕ)) (xs ys : List ℕ) → map (named V) xs ≡ map (named W) ys → AreBelow (length V) xs → AreBelow (length W) ys → 0 < length xs → SameName V W (slice_index xs 0) (slice_index ys 0)
first_same V W xs ys e a b less = zip-at (SameName V W) xs ys 0 less (names-zip V W xs ys e a b)

-- ---- lists of which the names are known

pub name-none : (W : List (List ℕ)) (ys : List ℕ) → map (named W) ys ≡ [] → (y : ℕ) → In y ys → ⊥
name-none W ys e y i = subst (In y) (none_from (named W) ys e) i

pub one-of : (g : ℕ → List ℕ) (xs : List ℕ) (a : List ℕ) → map g xs ≡ a ∷ [] → xs ≡ slice_index xs 0 ∷ []
one-of g [] a e = absurd cc
one-of g (x ∷ []) a e = refl
one-of g (x ∷ y ∷ xs) a e = absurd cc

pub name-only : (W : List (List ℕ)) (ys : List ℕ) (name : List ℕ) → map (named W) ys ≡ name ∷ [] → AreBelow (length W) ys → (y : ℕ) → In y ys → (y < length W) × (named W y ≡ name)
name-only W [] name e b y i = absurd i
name-only W (z ∷ []) name e b y (inl s) = let n : named W z ≡ name = cc in (subst (λ k. k < length W) (sym s) b.0, ap (named W) s ∙ n)
name-only W (z ∷ []) name e b y (inr i) = absurd i
name-only W (z ∷ k ∷ ys) name e b y i = absurd cc

-- the one argument of a name
pub first_named : (W : List (List ℕ)) (ys : List ℕ) (name : List ℕ) → map (named W) ys ≡ name ∷ [] → AreBelow (length W) ys → (slice_index ys 0 < length W) × (named W (slice_index ys 0) ≡ name)
first_named W [] name e b = absurd cc
first_named W (y ∷ ys) name e b = let n : named W y ≡ name = cc in (b.0, n)

-- ---- destinations

pub record SameDest (V W : List (List ℕ)) (d e : Option ℕ) (s t : Option Ty) : Type 0 where
  pub there : is_some d ≡ is_some e
  pub ty : s ≡ t
  pub zip : AllZip (SameName V W) (listed d) (listed e)

pub same_dest : (V W : List (List ℕ)) (d e : Option ℕ) (s t : Option Ty) → dest_tree V d s ≡ dest_tree W e t → both_or_neither d s ≡ true → both_or_neither e t ≡ true → AreBelow (length V) (listed d) → AreBelow (length W) (listed e) → SameDest V W d e s t
same_dest V W None None None None h a b bd be = record { there = refl; ty = refl; zip = tt }
same_dest V W None None None (Some t) h a b bd be = absurd cc
same_dest V W None None (Some s) t h a b bd be = absurd cc
same_dest V W None (Some y) s None h a b bd be = absurd cc
same_dest V W None (Some y) s (Some t) h a b bd be = absurd cc
same_dest V W (Some x) None None t h a b bd be = absurd cc
same_dest V W (Some x) None (Some s) t h a b bd be = absurd cc
same_dest V W (Some x) (Some y) None t h a b bd be = absurd cc
same_dest V W (Some x) (Some y) (Some s) None h a b bd be = absurd cc
same_dest V W (Some x) (Some y) (Some s) (Some t) h a b bd be =
    let one = same_Some (typed_name (named V x) s) (typed_name (named W y) t) h in
    let n : named V x ≡ named W y = ap (λ (z : Dest). z.name) one in
    let u : s ≡ t = ap (λ (z : Dest). z.ty) one in
    record { there = refl; ty = ap Some u; zip = ((bd.0, be.0, n), tt) }

pub no-dest : (W : List (List ℕ)) (d : Option ℕ) (ty : Option Ty) → both_or_neither d ty ≡ true → dest_tree W d ty ≡ None → (d ≡ None) × (ty ≡ None)
no-dest W None None t e = (refl, refl)
no-dest W None (Some s) t e = absurd cc
no-dest W (Some x) None t e = absurd cc
no-dest W (Some x) (Some s) t e = absurd cc

-- a destination of a name
pub record DestNamed (W : List (List ℕ)) (d : Option ℕ) (name : List ℕ) : Type 0 where
  pub x : ℕ
  pub is : d ≡ Some x
  pub within : x < length W
  pub named_so : named W x ≡ name

pub dest_named : (W : List (List ℕ)) (d : Option ℕ) (ty : Option Ty) (name : List ℕ) (t : Ty) → dest_tree W d ty ≡ Some (record { name = name; ty = t }) → AreBelow (length W) (listed d) → DestNamed W d name
dest_named W None ty name t e b = absurd cc
dest_named W (Some x) None name t e b = absurd cc
dest_named W (Some x) (Some s) name t e b = record { x = x; is = refl; within = b.0; named_so = ap (λ (z : Dest). z.name) (same_Some _ _ e) }

shadows : (V W : List (List ℕ)) (d e : Option ℕ) → is_some d ≡ is_some e → AllZip (SameName V W) (listed d) (listed e) → AllZip (SameLocation V W) (shadow_of d) (shadow_of e)
shadows V W None None s h = tt
shadows V W None (Some y) s h = absurd h
shadows V W (Some x) None s h = absurd h
shadows V W (Some x) (Some y) s h = (h.0, tt)

module _ (fs V W lP lQ : List (List ℕ)) (differ : Differ fs) where
  -- what is read
  reads-zip : (ret : Bool) (o : Op) (d e : Option ℕ) (args result_args : List ℕ) (fns labels : ℕ) → is_action_shaped ret o (is_some d) (length args) fns labels ≡ true → AllZip (SameName V W) args result_args → is_some d ≡ is_some e → AllZip (SameName V W) (listed d) (listed e)
      → AllZip (SameLocation V W) (locations_read (reading_of o) d args) (locations_read (reading_of o) e result_args)
  reads-zip ret op.Get d e args result_args fns labels s h there zip = shadows V W d e there zip
  reads-zip ret op.Set d e args result_args fns labels s h there zip =
      let two = (shape-parts (shape_of ret op.Set) (is_some d) (length args) fns labels s).args_are in
      (zip-at (SameName V W) args result_args 1 (omega (arith, two)) h, tt)
  reads-zip ret _ d e args result_args fns labels s h there zip = zip-locations V W args result_args h

  assigns-zip : (ret : Bool) (o : Op) (d e : Option ℕ) (args result_args : List ℕ) (fns labels : ℕ) → is_action_shaped ret o (is_some d) (length args) fns labels ≡ true → AllZip (SameName V W) args result_args → AllZip (SameName V W) (listed d) (listed e)
      → AllZip (SameLocation V W) (operation_assigns o d args) (operation_assigns o e result_args)
  assigns-zip ret op.Set d e args result_args fns labels s h zip =
      let two = (shape-parts (shape_of ret op.Set) (is_some d) (length args) fns labels s).args_are in
      (zip-at (SameName V W) args result_args 0 (omega (arith, two)) h, tt)
  assigns-zip ret _ d e args result_args fns labels s h zip = zip-locations V W (listed d) (listed e) zip

  -- what two items of one tree share
  pub record Shares (M : Location → Type 0) (a b : Instr) : Type 0 where
    pub same : ItemsMatch (λ x y. SameLocation V W x y × M x) a b
    pub assigns : AllZip (SameLocation V W) (assigns_of a) (assigns_of b)
    pub targets : AllZip (SameName lP lQ) (targets_of a) (targets_of b)
    pub labels : AllZip (SameName lP lQ) (label_at a) (label_at b)
    pub dests : AllZip (SameName V W) (listed (dest_of a)) (listed (dest_of b))
    pub operands : AllZip (SameName V W) (args_of a) (args_of b)
    pub types : type_of a ≡ type_of b

  act-shares : (M : Location → Type 0) (ret : Bool) (o : Op) (d e : Option ℕ) (s t : Option Ty) (args result_args fns gns ls ms : List ℕ) → is_shaped ret (Act d s o args fns ls) ≡ true
      → dest_tree V d s ≡ dest_tree W e t → map (named V) args ≡ map (named W) result_args → map (named fs) fns ≡ map (named fs) gns → map (named lP) ls ≡ map (named lQ) ms
      → IsInRange (length fs) (length V) (length lP) (Act d s o args fns ls) → IsInRange (length fs) (length W) (length lQ) (Act e t o result_args gns ms)
      → ((x : Location) → In x (reads_of (Act d s o args fns ls)) → M x) → Shares M (Act d s o args fns ls) (Act e t o result_args gns ms)
  act-shares M ret o d e s t args result_args fns gns ls ms shaped ed ea ef el ra rb matters =
      let va = AreBelow-append (length V) (listed d) args ra.variables in
      let vb = AreBelow-append (length W) (listed e) result_args rb.variables in
      let dest = same_dest V W d e s t ed ra.typed rb.typed va.0 vb.0 in
      let zip = names-zip V W args result_args ea va.1 vb.1 in
      record {
        same = record {
          operation = refl;
          ty = dest.ty;
          dest = dest.there;
          count = zip-long (SameName V W) args result_args zip;
          reads = zip-and (SameLocation V W) M (locations_read (reading_of o) d args) (locations_read (reading_of o) e result_args) (reads-zip ret o d e args result_args (length fns) (length ls) shaped zip dest.there dest.zip) matters;
          funcs = same_numbers fs differ fns gns ra.callees rb.callees ef;
        };
        assigns = assigns-zip ret o d e args result_args (length fns) (length ls) shaped zip dest.zip;
        targets = names-zip lP lQ ls ms el ra.targets rb.targets;
        labels = tt;
        dests = dest.zip;
        operands = zip;
        types = dest.ty;
      }

  pub item-shares : (M : Location → Type 0) (ret : Bool) (a b : Instr) → is_shaped ret a ≡ true → item_tree fs V lP a ≡ item_tree fs W lQ b → IsInRange (length fs) (length V) (length lP) a → IsInRange (length fs) (length W) (length lQ) b
      → ((x : Location) → In x (reads_of a) → M x) → Shares M a b
  item-shares M ret (Label l) (Label k) shaped e ra rb matters =
      let n : named lP l ≡ named lQ k = cc in
      record { same = tt; assigns = tt; targets = tt; labels = ((ra.places.0, rb.places.0, n), tt); dests = tt; operands = tt; types = refl }
  item-shares M ret (Label l) (Const y t w) shaped e ra rb matters = absurd cc
  item-shares M ret (Label l) (Act d t o result_args gns ms) shaped e ra rb matters = absurd cc
  item-shares M ret (Const x s v) (Label k) shaped e ra rb matters = absurd cc
  item-shares M ret (Const x s v) (Const y t w) shaped e ra rb matters =
      let n : named V x ≡ named W y = cc in
      let u : v ≡ w = cc in
      (let k : s ≡ t = cc in record { same = u; assigns = ((ra.variables.0, rb.variables.0, n), tt); targets = tt; labels = tt; dests = ((ra.variables.0, rb.variables.0, n), tt); operands = tt; types = ap Some k })
  item-shares M ret (Const x s v) (Act d t o result_args gns ms) shaped e ra rb matters = absurd cc
  item-shares M ret (Act d s o args fns ls) (Label k) shaped e ra rb matters = absurd cc
  item-shares M ret (Act d s o args fns ls) (Const y t w) shaped e ra rb matters = absurd cc
  item-shares M ret (Act d s o args fns ls) (Act e t u result_args gns ms) shaped h ra rb matters =
      let same : o ≡ u = cc in
      let ed : dest_tree V d s ≡ dest_tree W e t = cc in
      let ea : map (named V) args ≡ map (named W) result_args = cc in
      let ef : map (named fs) fns ≡ map (named fs) gns = cc in
      let el : map (named lP) ls ≡ map (named lQ) ms = cc in
      subst (λ z. IsInRange (length fs) (length W) (length lQ) (Act e t z result_args gns ms) → Shares M (Act d s o args fns ls) (Act e t z result_args gns ms)) same
      (λ r. act-shares M ret o d e s t args result_args fns gns ls ms shaped ed ea ef el ra r matters) rb
