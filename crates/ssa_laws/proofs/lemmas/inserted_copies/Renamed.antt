-- Items of two functions, of which one is the other under other names.
use Rattle.std.proofs.Common.{◌≡◌, ℕ, suc, ◌<◌, true, false, List, [], ◌∷◌, length, map, Option, Some, None, refl, sym, ap, subst, ◌∙◌, inl, inr}
use Rattle.std.specs.Prelude.{is_some}
use Rattle.std.specs.List.{AllZip}
use Rattle.std.proofs.lemmas.Option.{same_Some}
use Rattle.bril_tree.specs.declared.function_tree.Dest.{Dest}
use Rattle.bril_tree.specs.declared.numbered.Instr.{Instr}
use Rattle.bril_tree.specs.declared.numbered.Instr.TheVariants.{Label, Const, Act}
use Rattle.bril_tree.specs.declared.operation.Op.{Op}
use Rattle.bril_tree.specs.declared.operation.Op.TheVariants as op
use Rattle.bril_tree.specs.declared.types.Ty.{Ty}
use Rattle.bril_tree.specs.FunctionForm.{listed, both_or_neither, targets_of}
use Rattle.bril_tree.specs.Numbered.{named, typed_name, dest_tree, item_tree}
use Rattle.bril_tree.specs.Assigned.{assigns_of}
use Rattle.bril_tree.specs.Operand.{Location, Variable, dest_of, reads_of, reading_of, locations_read}
use Rattle.bril_tree.specs.Membership.{In}
use Rattle.bril_names.specs.Faults.{Differ}
use Rattle.bril_names.specs.Range.{AreBelow, IsInRange}
use Rattle.bril_names.proofs.Naming.{AreBelow-append, same_numbers}
use Rattle.pass_edit_laws.specs.plan.Plan.{ItemsMatch}
use Rattle.pass_edit_laws.specs.names.Named.{SameName}
use Rattle.pass_edit_laws.proofs.lemmas.names.Items.{names-zip}
use Rattle.ssa_laws.specs.inserted_copies.Inserted.{is_copy, renamed_dest, renamed}

pub reads-are : (o : Op) (d : Option ℕ) (s : Option Ty) (args fns ls : List ℕ) → is_copy (Some (Act d s o args fns ls)) ≡ false → reads_of (Act d s o args fns ls) ≡ map Variable args
reads-are op.Get d s args fns ls c = absurd cc
reads-are op.Set d s args fns ls c = absurd cc
reads-are _ d s args fns ls c = refl

module _ (W : List (List ℕ)) (r : ℕ → List ℕ) (A : Location → Location → Type 0) where
  zip-read : (xs ys : List ℕ) → map r xs ≡ map (named W) ys → AreBelow (length W) ys → ((x y : ℕ) → In (Variable x) (map Variable xs) → y < length W → named W y ≡ r x → A (Variable x) (Variable y)) → AllZip A (map Variable xs) (map Variable ys)
  zip-read [] [] e b h = tt
  zip-read [] (y ∷ ys) e b h = absurd cc
  zip-read (x ∷ xs) [] e b h = absurd cc
  zip-read (x ∷ xs) (y ∷ ys) e b h =
      let here : named W y ≡ r x = cc in
      let rest : map r xs ≡ map (named W) ys = cc in
      (h x y (inl refl) b.0 here, zip-read xs ys rest b.1 (λ u v i. h u v (inr i)))

zip_count : (A : Location → Location → Type 0) (xs ys : List ℕ) → AllZip A (map Variable xs) (map Variable ys) → length xs ≡ length ys
zip_count A [] [] h = refl
zip_count A [] (y ∷ ys) h = absurd h
zip_count A (x ∷ xs) [] h = absurd h
zip_count A (x ∷ xs) (y ∷ ys) h = ap suc (zip_count A xs ys h.1)

record OneDest (W : List (List ℕ)) (w : List ℕ) (d e : Option ℕ) (s t : Option Ty) : Type 0 where
  there : is_some d ≡ is_some e
  ty : s ≡ t
  none : d ≡ None → e ≡ None
  some : (x : ℕ) → d ≡ Some x → AreBelow (length W) (listed e) → (y : ℕ) × (e ≡ Some y) × (y < length W) × (named W y ≡ w)

one_dest : (W : List (List ℕ)) (d e : Option ℕ) (s t : Option Ty) (w : List ℕ) → renamed_dest d s w ≡ dest_tree W e t → both_or_neither d s ≡ true → both_or_neither e t ≡ true → OneDest W w d e s t
one_dest W None None None None w h a b = record { there = refl; ty = refl; none = λ e. refl; some = λ x e. absurd cc }
one_dest W None None None (Some t) w h a b = absurd cc
one_dest W None None (Some s) t w h a b = absurd cc
one_dest W None (Some y) s None w h a b = absurd cc
one_dest W None (Some y) s (Some t) w h a b = absurd cc
one_dest W (Some x) None None t w h a b = absurd cc
one_dest W (Some x) None (Some s) t w h a b = absurd cc
one_dest W (Some x) (Some y) None t w h a b = absurd cc
one_dest W (Some x) (Some y) (Some s) None w h a b = absurd cc
one_dest W (Some x) (Some y) (Some s) (Some t) w h a b =
    let one = same_Some (typed_name w s) (typed_name (named W y) t) h in
    record { there = refl; ty = ap Some (ap (λ (z : Dest). z.ty) one); none = λ e. absurd cc; some = λ x' e b'. (y, refl, b'.0, sym (ap (λ (z : Dest). z.name) one)) }

module _ (fs V W lP lQ : List (List ℕ)) (differ : Differ fs) (r : ℕ → List ℕ) (w : List ℕ) (A : Location → Location → Type 0) where
  pub record Matches (a b : Instr) : Type 0 where
    pub same : ItemsMatch A a b
    pub targets : AllZip (SameName lP lQ) (targets_of a) (targets_of b)
    -- what both assign
    pub none : dest_of a ≡ None → assigns_of b ≡ []
    pub some : (x : ℕ) → dest_of a ≡ Some x → (y : ℕ) × (assigns_of b ≡ Variable y ∷ []) × (y < length W) × (named W y ≡ w)

  reads-zip : (o : Op) (d e : Option ℕ) (s : Option Ty) (args result_args fns ls : List ℕ) → is_copy (Some (Act d s o args fns ls)) ≡ false → AllZip A (map Variable args) (map Variable result_args) → AllZip A (locations_read (reading_of o) d args) (locations_read (reading_of o) e result_args)
  reads-zip op.Get d e s args result_args fns ls c z = absurd cc
  reads-zip op.Set d e s args result_args fns ls c z = absurd cc
  reads-zip _ d e s args result_args fns ls c z = z

  assigned-are : (o : Op) (d : Option ℕ) (s : Option Ty) (args fns ls : List ℕ) → is_copy (Some (Act d s o args fns ls)) ≡ false → assigns_of (Act d s o args fns ls) ≡ map Variable (listed d)
  assigned-are op.Set d s args fns ls c = absurd cc
  assigned-are _ d s args fns ls c = refl

  copy-same : (o : Op) (d : Option ℕ) (s : Option Ty) (args fns ls : List ℕ) (e : Option ℕ) (t : Option Ty) (result_args gns ms : List ℕ) → is_copy (Some (Act d s o args fns ls)) ≡ false → is_copy (Some (Act e t o result_args gns ms)) ≡ false
  copy-same op.Get d s args fns ls e t result_args gns ms c = absurd cc
  copy-same op.Set d s args fns ls e t result_args gns ms c = absurd cc
  copy-same _ d s args fns ls e t result_args gns ms c = refl

  act-matches : (o : Op) (d e : Option ℕ) (s t : Option Ty) (args result_args fns gns ls ms : List ℕ) → is_copy (Some (Act d s o args fns ls)) ≡ false
      → renamed_dest d s w ≡ dest_tree W e t → map r args ≡ map (named W) result_args → map (named fs) fns ≡ map (named fs) gns → map (named lP) ls ≡ map (named lQ) ms
      → IsInRange (length fs) (length V) (length lP) (Act d s o args fns ls) → IsInRange (length fs) (length W) (length lQ) (Act e t o result_args gns ms)
      → ((x y : ℕ) → In (Variable x) (reads_of (Act d s o args fns ls)) → y < length W → named W y ≡ r x → A (Variable x) (Variable y)) → Matches (Act d s o args fns ls) (Act e t o result_args gns ms)
  act-matches o d e s t args result_args fns gns ls ms c ed ea ef el ra rb reads =
      let vb = AreBelow-append (length W) (listed e) result_args rb.variables in
      let dest = one_dest W d e s t w ed ra.typed rb.typed in
      let zip = zip-read W r A args result_args ea vb.1 (λ x y i. reads x y (subst (In (Variable x)) (sym (reads-are o d s args fns ls c)) i)) in
      record {
        same = record {
          operation = refl;
          ty = dest.ty;
          dest = dest.there;
          count = zip_count A args result_args zip;
          reads = reads-zip o d e s args result_args fns ls c zip;
          funcs = same_numbers fs differ fns gns ra.callees rb.callees ef;
        };
        targets = names-zip lP lQ ls ms el ra.targets rb.targets;
        none = λ n. assigned-are o e t result_args gns ms (copy-same o d s args fns ls e t result_args gns ms c) ∙ ap (λ z. map Variable (listed z)) (dest.none n);
        some = λ x n. let y = dest.some x n vb.0 in (y.0, assigned-are o e t result_args gns ms (copy-same o d s args fns ls e t result_args gns ms c) ∙ ap (λ z. map Variable (listed z)) y.1, y.2, y.3);
      }

  pub item-matches : (a b : Instr) → is_copy (Some a) ≡ false → renamed fs lP r w a ≡ item_tree fs W lQ b → IsInRange (length fs) (length V) (length lP) a → IsInRange (length fs) (length W) (length lQ) b
      → ((x y : ℕ) → In (Variable x) (reads_of a) → y < length W → named W y ≡ r x → A (Variable x) (Variable y)) → Matches a b
  item-matches (Label l) (Label k) c e ra rb reads = record { same = tt; targets = tt; none = λ n. refl; some = λ x n. absurd cc }
  item-matches (Label l) (Const y t v) c e ra rb reads = absurd cc
  item-matches (Label l) (Act d t o result_args gns ms) c e ra rb reads = absurd cc
  item-matches (Const x s v) (Label k) c e ra rb reads = absurd cc
  item-matches (Const x s v) (Const y t u) c e ra rb reads = let k : v ≡ u = cc in let n : w ≡ named W y = cc in record { same = k; targets = tt; none = λ n. absurd cc; some = λ x' e. (y, refl, rb.variables.0, sym n) }
  item-matches (Const x s v) (Act d t o result_args gns ms) c e ra rb reads = absurd cc
  item-matches (Act d s o args fns ls) (Label k) c e ra rb reads = absurd cc
  item-matches (Act d s o args fns ls) (Const y t v) c e ra rb reads = absurd cc
  item-matches (Act d s o args fns ls) (Act e t u result_args gns ms) c h ra rb reads =
      let same : o ≡ u = cc in
      let ed : renamed_dest d s w ≡ dest_tree W e t = cc in
      let ea : map r args ≡ map (named W) result_args = cc in
      let ef : map (named fs) fns ≡ map (named fs) gns = cc in
      let el : map (named lP) ls ≡ map (named lQ) ms = cc in
      subst (λ z. IsInRange (length fs) (length W) (length lQ) (Act e t z result_args gns ms) → Matches (Act d s o args fns ls) (Act e t z result_args gns ms)) same
      (λ rb'. act-matches o d e s t args result_args fns gns ls ms c ed ea ef el ra rb' reads) rb
