-- What stands at a point of which the tree is known: an instruction by its numbers, with the points of its labels, a label, and in
-- the result the item of a tree of the program.
use Rattle.std.proofs.Common.{◌≡◌, ℕ, List, [], ◌∷◌, length, map, Option, Some, None, refl, sym, ap, subst, ◌∙◌, inl, inr, arith}
use Rattle.std.specs.Prelude.{slice_get, slice_index}
use Rattle.std.proofs.lemmas.List.{length-map}
use Rattle.std.proofs.lemmas.Option.{same_Some}
use Rattle.bril_tree.specs.declared.function_tree.Dest.{Dest}
use Rattle.bril_tree.specs.declared.function_tree.Item.TheVariants as item
use Rattle.bril_tree.specs.declared.numbered.Instr.{Instr}
use Rattle.bril_tree.specs.declared.numbered.Instr.TheVariants.{Label, Const, Act}
use Rattle.bril_tree.specs.declared.numbered_function.Func.{Func}
use Rattle.bril_tree.specs.declared.operation.Op.{Op}
use Rattle.bril_tree.specs.declared.program.Prog.{Prog}
use Rattle.bril_tree.specs.declared.types.Ty.{Ty}
use Rattle.bril_tree.specs.Accepted.{IsAccepted}
use Rattle.bril_tree.specs.Assigned.{assigns_of}
use Rattle.bril_tree.specs.Membership.{In}
use Rattle.bril_tree.specs.Numbered.{dest_tree, item_tree, named, names_in, names_of_functions, tree_at}
use Rattle.bril_tree.specs.Operand.{Location}
use Rattle.bril_tree.specs.Step.{code_of, item_at, point_of}
use Rattle.bril_tree.proofs.Elements.{in_index}
use Rattle.bril_tree.proofs.Trees.{nothing_at}
use Rattle.bril_names.specs.Range.{AreBelow, IsInRange}
use Rattle.pass_edit_laws.specs.plan.Plan.{ItemsMatch, StaysMatched}
use Rattle.pass_edit_laws.specs.names.Named.{SameLocation}
use Rattle.pass_edit_laws.proofs.lemmas.names.Locations.{kept-apart, to_left}
use Rattle.pass_edit_laws.proofs.lemmas.names.Points.{Differ-in, Found, found, label_found, label_once}
use Rattle.pass_edit_laws.proofs.lemmas.names.Preserving.{own_tree}
use Rattle.pass_edit_laws.proofs.lemmas.names.Renaming.{items_share}

-- ---- an instruction

-- the numbers of an instruction whose operation and names are known
pub record ActionAt (X : Prog) (f i : ℕ) (dest : Option Dest) (o : Op) (args funcs labels : List (List ℕ)) : Type 0 where
  pub assigned : Option ℕ
  pub ty : Option Ty
  pub arguments : List ℕ
  pub callees : List ℕ
  pub targets : List ℕ
  pub at : item_at X f i ≡ Some (Act assigned ty o arguments callees targets)
  pub function : Func
  pub there : slice_get X.funcs f ≡ Some function
  pub range : IsInRange (length (names_of_functions X.funcs)) (length (names_in (slice_get X.funcs f))) (length function.labels) (Act assigned ty o arguments callees targets)
  pub has_dest : dest_tree (names_in (slice_get X.funcs f)) assigned ty ≡ dest
  pub has_args : map (named (names_in (slice_get X.funcs f))) arguments ≡ args
  pub has_funcs : map (named (names_of_functions X.funcs)) callees ≡ funcs
  pub has_labels : map (named function.labels) targets ≡ labels

pub action_at : (X : Prog) (f i : ℕ) (dest : Option Dest) (o : Op) (args funcs labels : List (List ℕ)) → tree_at X f i ≡ Some (item.Act dest o args funcs labels) → ActionAt X f i dest o args funcs labels
action_at X f i dest o args funcs labels is = by (item_at X f i) refl
  where
    by_item : (a : Instr) → item_at X f i ≡ Some a → (h : Found X f i a) → item_tree (names_of_functions X.funcs) (names_in (slice_get X.funcs f)) h.function.labels a ≡ item.Act dest o args funcs labels → ActionAt X f i dest o args funcs labels
    by_item (Label l) at h e = absurd cc
    by_item (Const x t v) at h e = absurd cc
    by_item (Act d t u xs fns ls) at h e =
        let same : u ≡ o = cc in
        let with_dest : dest_tree (names_in (slice_get X.funcs f)) d t ≡ dest = cc in
        let with_args : map (named (names_in (slice_get X.funcs f))) xs ≡ args = cc in
        let with_funcs : map (named (names_of_functions X.funcs)) fns ≡ funcs = cc in
        let with_labels : map (named h.function.labels) ls ≡ labels = cc in
        record {
          assigned = d;
          ty = t;
          arguments = xs;
          callees = fns;
          targets = ls;
          at = at ∙ ap (λ (z : Op). Some (Act d t z xs fns ls)) same;
          function = h.function;
          there = h.there;
          range = subst (λ (z : Op). IsInRange (length (names_of_functions X.funcs)) (length (names_in (slice_get X.funcs f))) (length h.function.labels) (Act d t z xs fns ls)) same h.range;
          has_dest = with_dest;
          has_args = with_args;
          has_funcs = with_funcs;
          has_labels = with_labels;
        }

    by : (a : Option Instr) → item_at X f i ≡ a → ActionAt X f i dest o args funcs labels
    by None at = absurd (let h = sym (nothing_at X f i at) ∙ is in cc)
    by (Some a) at = let h = found X f i a at in by_item a at h (same_Some _ _ (sym h.tree ∙ is))

-- where it names one label, each of its targets stands where that label does
pub one_target : (X : Prog) (f i : ℕ) (dest : Option Dest) (o : Op) (args funcs : List (List ℕ)) (label : List ℕ) (a : ActionAt X f i dest o args funcs (label ∷ [])) (point : ℕ) → tree_at X f point ≡ Some (item.Label label) → (l : ℕ) → In l a.targets → point_of l (code_of X f) ≡ point
one_target X f i dest o args funcs label a point is l among = by a.targets a.has_labels a.range.targets among
  where
    by : (ls : List ℕ) → map (named a.function.labels) ls ≡ label ∷ [] → AreBelow (length a.function.labels) ls → In l ls → point_of l (code_of X f) ≡ point
    by [] e below k = absurd k
    by (m ∷ n ∷ ls) e below k = absurd cc
    by (m ∷ []) e below (inl s) =
        let name : named a.function.labels m ≡ label = cc in
        ap (λ z. point_of z (code_of X f)) s ∙ label_once X f (point_of m (code_of X f)) point label (label_found X f a.function m a.there below.0 ∙ ap (λ z. Some (item.Label z)) name) is
    by (m ∷ []) e below (inr k) = absurd k

-- the first of the labels that an act names, where it names one, stands where its name does
pub first_target : (X : Prog) (f j : ℕ) (dest : Option Dest) (o : Op) (args funcs : List (List ℕ)) (label : List ℕ) (n : ActionAt X f j dest o args funcs (label ∷ [])) (point : ℕ) → tree_at X f point ≡ Some (item.Label label) → point_of (slice_index n.targets 0) (code_of X f) ≡ point
first_target X f j dest o args funcs label n point is =
    let many : length n.targets ≡ 1 = sym (length-map n.targets (named n.function.labels)) ∙ ap length n.has_labels in
    one_target X f j dest o args funcs label n point is (slice_index n.targets 0) (in_index n.targets 0 (omega arith))

-- ---- a label

pub record IsLabelAt (X : Prog) (f j : ℕ) : Type 0 where
  pub number : ℕ
  pub at : item_at X f j ≡ Some (Label number)

pub label_at : (X : Prog) (f j : ℕ) (name : List ℕ) → tree_at X f j ≡ Some (item.Label name) → IsLabelAt X f j
label_at X f j name is = by (item_at X f j) refl
  where
    by_item : (a : Instr) → item_at X f j ≡ Some a → (h : Found X f j a) → item_tree (names_of_functions X.funcs) (names_in (slice_get X.funcs f)) h.function.labels a ≡ item.Label name → IsLabelAt X f j
    by_item (Label l) at h e = record { number = l; at = at }
    by_item (Const x t v) at h e = absurd cc
    by_item (Act d t u xs fns ls) at h e = absurd cc

    by : (a : Option Instr) → item_at X f j ≡ a → IsLabelAt X f j
    by None at = absurd (let h = sym (nothing_at X f j at) ∙ is in cc)
    by (Some a) at = let h = found X f j a at in by_item a at h (same_Some _ _ (sym h.tree ∙ is))

-- ---- an item of the result

-- the locations have one name
abbrev pub OneName : (P Q : Prog) (f : ℕ) → Location → Location → Type 0
OneName P Q f x y = SameLocation (names_in (slice_get P.funcs f)) (names_in (slice_get Q.funcs f)) x y × Unit {0}

-- an item of the result that does what one of the program does, with locations of the same names
pub record SameItem (P Q : Prog) (f j : ℕ) (a : Instr) : Type 0 where
  pub item : Instr
  pub at : item_at Q f j ≡ Some item
  pub same : ItemsMatch (OneName P Q f) a item
  pub kept : (x y : Location) → OneName P Q f x y → StaysMatched (assigns_of a) (assigns_of item) (OneName P Q f) x y

-- wherever the tree of the program's item stands
pub same_item : (P Q : Prog) → IsAccepted P → names_of_functions P.funcs ≡ names_of_functions Q.funcs → (f i j : ℕ) (a : Instr) → item_at P f i ≡ Some a → tree_at P f i ≡ tree_at Q f j → SameItem P Q f j a
same_item P Q accepted functions f i j a at equal = by (item_at Q f j) refl
  where
    by : (o : Option Instr) → item_at Q f j ≡ o → SameItem P Q f j a
    by None none = absurd (let h = sym (nothing_at Q f j none) ∙ sym equal ∙ (found P f i a at).tree in cc)
    by (Some b) here =
        let V = names_in (slice_get P.funcs f) in
        let W = names_in (slice_get Q.funcs f) in
        let tree = own_tree (names_of_functions P.funcs) (slice_get P.funcs f) i ∙ equal in
        let shares = items_share P Q accepted functions f i j V refl (λ x. Unit {0}) tree a b at here (λ x k. tt) in
        record {
          item = b;
          at = here;
          same = shares.same;
          kept = λ x y named. kept-apart V W (Differ-in (slice_get Q.funcs f)) (λ z. Unit {0}) (assigns_of a) (assigns_of b) shares.assigns x y named.0 (λ n. tt) (to_left V W (Differ-in (slice_get P.funcs f)) x y named.0 (assigns_of a) (assigns_of b) shares.assigns);
        }
