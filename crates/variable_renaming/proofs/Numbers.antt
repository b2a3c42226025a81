-- No number of the program grows: walks stay as they are, and each variable of the result has the new name of one of the
-- program's.
use Rattle.std.proofs.Common.{◌≡◌, ℕ, ◌<◌, ◌≤◌, List, [], ◌∷◌, ◌++◌, length, map, Option, Some, None, refl, sym, ap, subst, ◌∙◌, inr, ⊎_elim, arith}
use Rattle.std.specs.Prelude.{slice_get}
use Rattle.std.specs.List.{Contains}
use Rattle.std.specs.Option.{option_map}
use Rattle.std.proofs.lemmas.List.{length-map, map-append}
use Rattle.std.proofs.lemmas.Option.{same_Some}
use Rattle.bril_tree.specs.declared.function_tree.Dest.{Dest}
use Rattle.bril_tree.specs.declared.function_tree.Item.{Item}
use Rattle.bril_tree.specs.declared.function_tree.Item.TheVariants as item
use Rattle.bril_tree.specs.declared.numbered.Instr.{Instr}
use Rattle.bril_tree.specs.declared.numbered.Instr.TheVariants.{Label}
use Rattle.bril_tree.specs.declared.numbered_function.Func.{Func}
use Rattle.bril_tree.specs.declared.operation.Op.{Op}
use Rattle.bril_tree.specs.declared.operation.Op.TheVariants as op
use Rattle.bril_tree.specs.declared.program.Prog.{Prog}
use Rattle.bril_tree.specs.Accepted.{IsAccepted}
use Rattle.bril_tree.specs.Edge.{Branch}
use Rattle.bril_tree.specs.FrameWords.{IsDepth}
use Rattle.bril_tree.specs.Leaving.{IsEdge, edge_of}
use Rattle.bril_tree.specs.Membership.{In}
use Rattle.bril_tree.specs.Numbered.{item_tree, named, names_in, names_of_functions, nop, nop_item, point_tree, tree_at, variable_names}
use Rattle.bril_tree.specs.Sites.{sites_changed, sites_of}
use Rattle.bril_tree.specs.Step.{code_of, item_at, items_of}
use Rattle.bril_tree.specs.Walk.{IsWalk, end_of}
use Rattle.bril_tree.proofs.Elements.{get_in, in_get}
use Rattle.pass_edit_laws.specs.names.NamedPlan.{SameHeads}
use Rattle.pass_edit_laws.specs.names.Renaming.{renamed_tree}
use Rattle.pass_edit_laws.proofs.lemmas.numbers.Arguments.{no-longer-arguments}
use Rattle.pass_edit_laws.proofs.lemmas.numbers.Edges.{label-tree}
use Rattle.pass_edit_laws.proofs.lemmas.numbers.Entering.{EntryMatched, fewer-entries, width-within}
use Rattle.pass_edit_laws.proofs.lemmas.numbers.ItemTrees.{dest_names, item_names, operation_count, shadow_names, shadow_names_of, tree_passes}
use Rattle.pass_edit_laws.proofs.lemmas.numbers.Items.{IsItemOf, IsOfItems, nop-plain, plain-item, renamed-item}
use Rattle.pass_edit_laws.proofs.lemmas.numbers.Locations.{accepted-locations}
use Rattle.pass_edit_laws.proofs.lemmas.numbers.Programs.{by-functions, functions_bound}
use Rattle.pass_edit_laws.specs.numbers.Numbers.{FunctionWithin, NumbersWithin}
use Rattle.program_numbers.specs.Entries.{Enters}
use Rattle.variable_renaming.specs.Renamed.{IsRenamedAt, IsSelfCopy, name_of, renamed_dest, renamed_item}
use Rattle.variable_renaming.proofs.Names.{tree-renamed}
use Rattle.variable_renaming.proofs.Points.{alike, no-older, nop-there}

-- ---- names

names-of_dest : (r : List ℕ → List ℕ) (d : Option Dest) → dest_names (renamed_dest r d) ≡ map r (dest_names d)
names-of_dest r None = refl
names-of_dest r (Some d) = refl

names-of_item : (r : List ℕ → List ℕ) (i : Item) → item_names (renamed_item r i) ≡ map r (item_names i)
names-of_item r (item.Label n) = refl
names-of_item r (item.Const d ty v) = refl
names-of_item r (item.Act d o args fns ls) = ap (λ l. l ++ map r args) (names-of_dest r d) ∙ sym (map-append r (dest_names d) args)

shadows-of_operation : (r : List ℕ → List ℕ) (o : Op) (d : Option Dest) (args : List (List ℕ)) → shadow_names_of o (renamed_dest r d) (map r args) ≡ map r (shadow_names_of o d args)
shadows-of_operation r op.Get d args = names-of_dest r d
shadows-of_operation r op.Set d [] = refl
shadows-of_operation r op.Set d (x ∷ args) = refl
shadows-of_operation r _ d args = refl

shadows-of_item : (r : List ℕ → List ℕ) (i : Item) → shadow_names (renamed_item r i) ≡ map r (shadow_names i)
shadows-of_item r (item.Label n) = refl
shadows-of_item r (item.Const d ty v) = refl
shadows-of_item r (item.Act d o args fns ls) = shadows-of_operation r o d args

passes-of_item : (r : List ℕ → List ℕ) (i : Item) → tree_passes (renamed_item r i) ≡ tree_passes i
passes-of_item r (item.Label n) = refl
passes-of_item r (item.Const d ty v) = refl
passes-of_item r (item.Act d o args fns ls) = ap (operation_count o) (length-map args r)

module _ (P Q : Prog) (accepted_q : IsAccepted Q) (heads : SameHeads P Q) (f : ℕ) (F G : Func) (p : slice_get P.funcs f ≡ Some F) (q : slice_get Q.funcs f ≡ Some G) (r : List ℕ → List ℕ)
    (arguments : (x : ℕ) → x < F.args → r (name_of F x) ≡ name_of F x) (points : (i : ℕ) → IsRenamedAt P f r Q i) where
  code : code_of P f ≡ F.code
  code = ap items_of p

  result_code : code_of Q f ≡ G.code
  result_code = ap items_of q

  -- ---- walks

  walk-back : (w : List Branch) → IsWalk (code_of Q f) w → IsWalk (code_of P f) w
  walk-back [] is = tt
  walk-back (b ∷ w) is = (subst (λ l. Contains l b) (sym (alike P Q heads f r points (end_of w)).branches) is.0, walk-back w is.1)

  sites-same : (w : List Branch) → sites_of (code_of P f) w ≡ sites_of (code_of Q f) w
  sites-same [] = refl
  sites-same (b ∷ w) = λ i. sites_changed ((alike P Q heads f r points b.from).change b.aborts i) b.from (sites-same w i)

  depth : (d e : ℕ) → IsDepth (code_of P f) d → IsDepth (code_of Q f) e → e ≤ d
  depth d e a b = let m = a.most b.deepest (walk-back b.deepest b.is) in let s = ap length (sites-same b.deepest) in let n = b.reaches in omega arith

  edge-back : (edge : _) → IsEdge (code_of Q f) edge → IsEdge (code_of P f) edge
  edge-back edge e = record {
    walk = e.walk;
    is = walk-back e.walk e.is;
    branch = e.branch;
    at = subst (λ l. Contains l e.branch) (sym (alike P Q heads f r points (end_of e.walk)).branches) e.at;
    are = e.are ∙ ap (λ s. edge_of s e.branch) (sym (sites-same e.walk));
  }

  -- ---- entries

  label-back : (i l : ℕ) → slice_get G.code i ≡ Some (Label l) → (m : ℕ) × (slice_get F.code i ≡ Some (Label m)) × (named F.labels m ≡ named G.labels l)
  label-back i l at = ⊎_elim (λ s. absurd (let n : Label l ≡ nop = same_Some _ _ (sym there ∙ nop-there P Q f r points i s.0) in cc)) (λ k. old k.1) (points i)
    where
      there : item_at Q f i ≡ Some (Label l)
      there = ap (λ o. slice_get (items_of o) i) q ∙ at

      label : tree_at Q f i ≡ Some (item.Label (named G.labels l))
      label = ap (λ o. point_tree (names_of_functions Q.funcs) o i) q ∙ ap (option_map (item_tree (names_of_functions Q.funcs) (variable_names G.vars) G.labels)) at

      old : tree_at Q f i ≡ option_map (renamed_item r) (tree_at P f i) → (m : ℕ) × (slice_get F.code i ≡ Some (Label m)) × (named F.labels m ≡ named G.labels l)
      old same =
          label-tree (names_of_functions P.funcs) (map r (names_in (slice_get P.funcs f))) F.labels (slice_get F.code i) (named G.labels l)
          (sym (ap (λ o. renamed_tree (names_of_functions P.funcs) (map r (names_in (slice_get P.funcs f))) o i) p) ∙ sym (tree-renamed P f i r) ∙ sym same ∙ label)

  abbrev Same : Option ℕ → ℕ → Option ℕ → Type 0
  Same leave label from = leave ≡ from

  entry : (leave : Option ℕ) (label : ℕ) → Enters G.code leave label → EntryMatched F G Same leave label
  entry None l at = let k = label-back 0 l at in record { from = None; to = k.0; enters = k.1; leaves = refl; same = k.2 }
  entry (Some point) l e =
      let is = subst (λ c. IsEdge c e.0) code (edge-back e.0 (subst (λ c. IsEdge c e.0) (sym result_code) e.1)) in
      let k = label-back e.0.to l e.3 in
      record { from = Some point; to = k.0; enters = (e.0, is, e.2, k.1); leaves = refl; same = k.2 }

  -- ---- items

  of_items : IsOfItems r [] F G
  of_items = record { args = heads.args f F G p q; stay = arguments; items = each }
    where
      each : (b : Instr) → In b G.code → IsItemOf r [] F G b
      each b among = ⊎_elim copied (λ k. old (item_at P f i) refl k.1) (points i)
        where
          i : ℕ
          i = (in_get b G.code among).0

          there : item_at Q f i ≡ Some b
          there = ap (λ o. slice_get (items_of o) i) q ∙ (in_get b G.code among).1

          copied : IsSelfCopy P f r i × (tree_at Q f i ≡ Some nop_item) → IsItemOf r [] F G b
          copied s = plain-item r [] F G b (nop-plain r [] F G b (same_Some b nop (sym there ∙ nop-there P Q f r points i s.0)))

          old : (o : Option Instr) → item_at P f i ≡ o → tree_at Q f i ≡ option_map (renamed_item r) (tree_at P f i) → IsItemOf r [] F G b
          old None at same = absurd (no-older P Q heads f i r same at b there)
          old (Some a) at same =
              let here : slice_get F.code i ≡ Some a = ap (λ l. slice_get l i) (sym code) ∙ at in
              let fs = names_of_functions P.funcs in
              let gs = names_of_functions Q.funcs in
              let was = item_tree fs (variable_names F.vars) F.labels a in
              let now = item_tree gs (variable_names G.vars) G.labels b in
              let mine : tree_at P f i ≡ Some was = ap (λ o. point_tree fs o i) p ∙ ap (option_map (item_tree fs (variable_names F.vars) F.labels)) here in
              let theirs : tree_at Q f i ≡ Some now = ap (λ o. point_tree gs o i) q ∙ ap (option_map (item_tree gs (variable_names G.vars) G.labels)) (in_get b G.code among).1 in
              let is : now ≡ renamed_item r was = same_Some _ _ (sym theirs ∙ same ∙ ap (option_map (renamed_item r)) mine) in
              renamed-item r [] fs gs F G a b (get_in F.code i a here) among was now refl refl (sym (names-of_item r was) ∙ ap item_names (sym is)) (sym (shadows-of_item r was) ∙ ap shadow_names (sym is))
              (let e = ap tree_passes is ∙ passes-of_item r was in omega arith)

  -- ---- the numbers of a function

  pub function-within : FunctionWithin 0 F G
  function-within = record {
    locations = let few = accepted-locations r [] F G of_items Q accepted_q f q in omega arith;
    arguments = no-longer-arguments r [] F G of_items;
    depth = λ d e a b. depth d e (subst (λ c. IsDepth c d) (sym code) a) (subst (λ c. IsDepth c e) (sym result_code) b);
    entries = fewer-entries F G Same entry (λ a c b l k s t. s ∙ sym t);
    width = width-within F G ℕ [] (λ leave. record { from = leave; IsExtra = λ l x. ⊥; one = λ l k x low high s t. absurd s; labels = λ l h. inr (let k = entry leave l h in (k.to, subst (λ o. Enters F.code o k.to) (sym k.leaves) k.enters, k.same)) });
  }

-- a function under new names of its variables, arguments keeping theirs
pub record HasNewNames (P Q : Prog) (f : ℕ) (F : Func) : Type 0 where
  pub rename : List ℕ → List ℕ
  pub arguments : (x : ℕ) → x < F.args → rename (name_of F x) ≡ name_of F x
  pub points : (i : ℕ) → IsRenamedAt P f rename Q i

pub numbers-kept : (P Q : Prog) → IsAccepted P → IsAccepted Q → SameHeads P Q → ((f : ℕ) (F : Func) → slice_get P.funcs f ≡ Some F → HasNewNames P Q f F) → NumbersWithin P Q 0
numbers-kept P Q accepted accepted_q heads renamed =
    functions_bound P Q 0 accepted (by-functions P Q heads.names (FunctionWithin 0) (λ f F G p q. let m = renamed f F p in function-within P Q accepted_q heads f F G p q m.rename m.arguments m.points))
