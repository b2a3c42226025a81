-- A program with laid traces is accepted.
use Rattle.bril_tree.specs.declared.function_tree.FuncTree.{FuncTree}
use Rattle.bril_tree.proofs.Trees.{none_from}
use Rattle.pass_edit_laws.proofs.lemmas.names.Standing.{ActionAt, action_at, label_at}
use Rattle.bril_tree.specs.declared.function_tree.Item.TheVariants as item
use Rattle.bril_tree.specs.declared.operation.Op.TheVariants as op
use Rattle.bril_tree.specs.declared.types.Base.TheVariants as base
use Rattle.std.proofs.Common.{◌≡◌, ◌⊎◌, ℕ, suc, ◌<◌, ◌≤◌, true, List, [], ◌∷◌, length, map, Option, Some, None, refl, sym, ap, subst, ◌∙◌, inl, inr, ⊎_elim, arith}
use Rattle.std.specs.Prelude.{slice_get, slice_index, ◌&&◌, is_some}
use Rattle.std.proofs.lemmas.Bool.{cases_lt}
use Rattle.std.proofs.lemmas.List.{length-map}
use Rattle.std.proofs.lemmas.Option.{same_Some, slice_get_within}
use Rattle.bril_tree.specs.declared.function_tree.Dest.{Dest}
use Rattle.bril_tree.specs.declared.function_tree.Item.{Item}
use Rattle.bril_tree.specs.declared.numbered.Instr.{Instr}
use Rattle.bril_tree.specs.declared.numbered.Instr.TheVariants.{Label, Act}
use Rattle.bril_tree.specs.declared.numbered.VarInfo.{VarInfo}
use Rattle.bril_tree.specs.declared.numbered_function.Func.{Func}
use Rattle.bril_tree.specs.declared.operation.Op.{Op}
use Rattle.bril_tree.specs.declared.program.Prog.{Prog}
use Rattle.bril_tree.specs.declared.types.Ty.{Ty}
use Rattle.bril_tree.specs.Accepted.{IsAccepted, IsAcceptedFunction, AreWalksAccepted}
use Rattle.bril_tree.specs.Edge.{Branch}
use Rattle.bril_tree.specs.FunctionForm.{listed, type_assigned}
use Rattle.bril_tree.specs.Numbered.{named, variable_names, dest_tree, item_tree, function_tree, names_of_functions, names_in, tree_at, tree_of}
use Rattle.bril_tree.specs.Operand.{dest_of}
use Rattle.bril_tree.specs.Shape.{shape_of}
use Rattle.bril_tree.specs.Sites.{sites_of, most_sites}
use Rattle.bril_tree.specs.Step.{items_of, code_of, item_at}
use Rattle.bril_tree.specs.Typing.{variable_type, argument_type, same_type, is_plain, if_typed, both_typed, is_dest_typed, type_fault, wrong_unless}
use Rattle.bril_tree.specs.Walk.{IsWalk, end_of}
use Rattle.bril_names.specs.Range.{AreBelow, IsInRange}
use Rattle.bril_names.proofs.Functions.{Differ-variables}
use Rattle.bril_names.proofs.Naming.{one_number, AreBelow-append}
use Rattle.pass_edit_laws.specs.names.Named.{SameName}
use Rattle.pass_edit_laws.specs.names.NamedPlan.{SameHeads}
use Rattle.pass_edit_laws.proofs.lemmas.acceptance.Accepted.{program_accepted}
use Rattle.bril_tree.proofs.Trees.{function_at, tree_at-function, nothing_at}
use Rattle.trace_paths.specs.Path.{Turns, item_met, path_of}
use Rattle.trace_laws.specs.lines.Lines.{not_line, args_in, trace_lines}
use Rattle.pass_edit_laws.specs.plan.Spliced.{spliced, position_of}
use Rattle.trace_laws.specs.lines.Traced.{Trace, Laying, stop_lines, trace_at, lines_behind, IsLaidTree}
use Rattle.trace_laws.specs.refinement.Stitched.{Stitched}
use Rattle.trace_laws.proofs.lemmas.refinement.Straight.{turns-br}
use Rattle.trace_laws.proofs.lemmas.refinement.Plans.{tracing}
use Rattle.pass_edit_laws.proofs.lemmas.names.Items.{first_named, first_same, no-dest, one-of}
use Rattle.trace_laws.proofs.lemmas.lines.Layings.{IsLayable, located, stop_line}
use Rattle.trace_laws.proofs.lemmas.refinement.Laying.{stitched, traces-are, traced, kept-at, heads, stands-in}
use Rattle.trace_laws.proofs.lemmas.acceptance.Placing.{stitched-walks}
use Rattle.pass_edit_laws.proofs.lemmas.acceptance.Heads.{start_matched}
use Rattle.pass_edit_laws.proofs.lemmas.names.Heads.{first_names}
use Rattle.pass_edit_laws.proofs.lemmas.acceptance.Typed.{second-holds}
use Rattle.pass_edit_laws.proofs.lemmas.acceptance.Left.{dest-there, unlost-typed}
use Rattle.trace_laws.proofs.lemmas.lines.Quiet.{legs-ok}
use Rattle.pass_edit_laws.proofs.lemmas.plan.Splicing.{in-spliced}
use Rattle.trace_laws.proofs.lemmas.acceptance.Sorted.{Line, Copy, Bare, Goto, Mark, Checks, Negates, ChecksNot, trace-line, dest_name, dest_type, dest-named, dest-typed-so, dest-number}
use Rattle.bril_tree.specs.Membership.{In}
use Rattle.bril_tree.proofs.Shapes.{shape-parts}
use Rattle.bril_tree.proofs.Elements.{All-at, get_inside, in_get, get_in}
use Rattle.pass_edit_laws.proofs.lemmas.steps.Shapes.{shaped_here}
use Rattle.pass_edit_laws.specs.acceptance.Stays.{FitsByItself, Stays, HasTypeOfDest}
use Rattle.pass_edit_laws.proofs.lemmas.names.Points.{found}
use Rattle.pass_edit_laws.proofs.lemmas.names.Heads.{same_args, main_same, types_same}
use Rattle.pass_edit_laws.proofs.lemmas.acceptance.Staying.{dest_of_tree}
use Rattle.bril_tree.proofs.Typings.{type_of, variable-has, type-assigned, type-assigned_own, first_type-is}

module _ (P Q : Prog) (bool : Ty) (same : same_type bool bool ≡ true) (plain : is_plain base.Bool bool ≡ true) (accepted : IsAccepted P) (laid : List Laying) (layable : (x : Laying) → In x laid → IsLayable P x) (most : length laid ≤ 64)
    (roomy : (x : Laying) → In x laid → (w : List Branch) → IsWalk (code_of P x.fit.function) w → end_of w ≡ x.fit.point → length (sites_of (code_of P x.fit.function) w) < most_sites) (sp : IsLaidTree P bool laid (tree_of Q)) where
  st : Stitched P Q bool
  st = stitched P Q bool laid layable most sp

  same-heads : SameHeads P Q
  same-heads = heads P Q bool laid layable most sp

  module _ (f : ℕ) (F G : Func) (p : slice_get P.funcs f ≡ Some F) (q : slice_get Q.funcs f ≡ Some G) where
    abbrev V : List (List ℕ)
    V = variable_names F.vars

    abbrev W : List (List ℕ)
    W = variable_names G.vars

    inP : names_in (slice_get P.funcs f) ≡ V
    inP = ap names_in p

    inQ : names_in (slice_get Q.funcs f) ≡ W
    inQ = ap names_in q

    -- what stands at a point of Q, in trees
    pub data Sort (j : ℕ) (a : Item) : Type 0 where
      Old : (i : ℕ) → tree_at P f i ≡ Some a → Sort j a
      New : (x : Laying) → In x laid → x.fit.function ≡ f → (whole : List Item) → ((c : Item) → In c whole → (k : ℕ) × (tree_at Q f k ≡ Some c)) → Line bool (tree_at P f) x.names (code_of P f) whole a → Sort j a

    pub sort : (j : ℕ) (a : Item) → tree_at Q f j ≡ Some a → Sort j a
    sort j a at = by (in-spliced (stop_lines P laid f) (λ i. lines_behind P bool f i (trace_at laid f i)) a 0 tP.code (get_in (spliced (stop_lines P laid f) (λ i. lines_behind P bool f i (trace_at laid f i)) 0 tP.code) j a here))
      where
        tP : FuncTree
        tP = function_tree (names_of_functions P.funcs) F

        hP : slice_get (tree_of P).funcs f ≡ Some (function_tree (names_of_functions P.funcs) F)
        hP = function_at P f F p

        hQ : slice_get (tree_of Q).funcs f ≡ Some (function_tree (names_of_functions Q.funcs) G)
        hQ = function_at Q f G q

        here : slice_get (spliced (stop_lines P laid f) (λ i. lines_behind P bool f i (trace_at laid f i)) 0 (function_tree (names_of_functions P.funcs) F).code) j ≡ Some a
        here = sym (tree_at-function Q f j (function_tree (names_of_functions Q.funcs) G) hQ ∙ ap (λ l. slice_get l j) (sp.functions f (function_tree (names_of_functions P.funcs) F) (function_tree (names_of_functions Q.funcs) G) hP hQ).code) ∙ at

        by_trace : (i : ℕ) (o : Option Trace) → trace_at laid f i ≡ o → In a (lines_behind P bool f i o) → Sort j a
        by_trace i None e among = absurd among
        by_trace i (Some t) e among =
            let l = located P laid f i t e in
            New l.x l.among l.function (trace_lines bool (tree_at P f) t.names (path_of (code_of P f) i t.choices).legs)
            (λ c j. stands-in P Q bool f (suc (position_of (stop_lines P laid f) (λ k. lines_behind P bool f k (trace_at laid f k)) i)) (trace_lines bool (tree_at P f) t.names (path_of (code_of P f) i t.choices).legs) c (traced P Q bool laid layable most sp f i t e).lines j)
            (subst (λ (z : Trace). Line bool (tree_at P f) z.names (code_of P f) (trace_lines bool (tree_at P f) t.names (path_of (code_of P f) i t.choices).legs) a) (sym l.is) (trace-line bool (tree_at P f) t.names (code_of P f) a (path_of (code_of P f) i t.choices).legs (legs-ok (code_of P f) i 1023 256 t.choices (suc i)) among))

        by : ((i : ℕ) × (slice_get (function_tree (names_of_functions P.funcs) F).code i ≡ Some a)) ⊎ (((i : ℕ) × In a (stop_lines P laid f i)) ⊎ ((i : ℕ) × In a (lines_behind P bool f i (trace_at laid f i)))) → Sort j a
        by (inl h) = Old h.0 (tree_at-function P f h.0 (function_tree (names_of_functions P.funcs) F) hP ∙ h.1)
        by (inr (inl h)) =
            let k = in_get a (stop_lines P laid f h.0) h.1 in
            let s = stop_line P laid f h.0 k.0 (slice_get_within (stop_lines P laid f h.0) k.0 a k.1) in
            New s.x s.among s.function [] (λ c j. absurd j) (Mark s.x.names.stop (same_Some _ _ (sym k.1 ∙ s.is)))
        by (inr (inr h)) = by_trace h.0 (trace_at laid f h.0) refl h.1

    -- a name of P's is no `not`'s
    apart : (x : Laying) → In x laid → x.fit.function ≡ f → (n v : ℕ) → v < length V → named V v ≡ x.names.nots n → ⊥
    apart x among ef n v less e =
        let names : names_in (slice_get P.funcs x.fit.function) ≡ V = ap (λ k. names_in (slice_get P.funcs k)) ef ∙ inP in
        (layable x among).apart n v (subst (λ l. v < length l) (sym names) less) (ap (λ l. named l v) names ∙ e)

    -- an item of Q, with its tree
    record Stood (j : ℕ) (b : Instr) : Type 0 where
      labels : List (List ℕ)
      range : IsInRange (length (names_of_functions Q.funcs)) (length W) (length labels) b
      tree : tree_at Q f j ≡ Some (item_tree (names_of_functions Q.funcs) W labels b)

    stood : (j : ℕ) (b : Instr) → item_at Q f j ≡ Some b → Stood j b
    stood j b at =
        let h = found Q f j b at in
        record {
          labels = h.function.labels;
          range = subst (λ l. IsInRange (length (names_of_functions Q.funcs)) (length l) (length h.function.labels) b) inQ h.range;
          tree = h.tree ∙ ap (λ l. Some (item_tree (names_of_functions Q.funcs) l h.function.labels b)) inQ;
        }

    -- the item with a destination is one of P's, or a `not`
    data Giver (j y : ℕ) (b : Instr) : Type 0 where
      OldGiver : (i : ℕ) → tree_at Q f j ≡ tree_at P f i → (z : ℕ) → z < length V → named V z ≡ named W y → Giver j y b
      NotGiver : (x : Laying) → In x laid → x.fit.function ≡ f → (n : ℕ) → named W y ≡ x.names.nots n → type_of b ≡ Some bool → Giver j y b

    giver : (j : ℕ) (b : Instr) → item_at Q f j ≡ Some b → (y : ℕ) → dest_of b ≡ Some y → Giver j y b
    giver j b at y d = by (stood j b at)
      where
        lineless : (o : Option (List ℕ)) → o ≡ None → o ≡ Some (named W y) → ⊥
        lineless o e g = let h : None ≡ Some (named W y) = sym e ∙ g in cc

        from-P : (i : ℕ) (a : Item) → tree_at P f i ≡ Some a → dest_name a ≡ Some (named W y) → (z : ℕ) × (z < length V) × (named V z ≡ named W y)
        from-P i a e n = by_item (item_at P f i) refl
          where
            by_item : (o : Option Instr) → item_at P f i ≡ o → (z : ℕ) × (z < length V) × (named V z ≡ named W y)
            by_item None none = absurd (let h = sym (nothing_at P f i none) ∙ e in cc)
            by_item (Some c) here =
                let h = found P f i c here in
                let same-tree : item_tree (names_of_functions P.funcs) (names_in (slice_get P.funcs f)) h.function.labels c ≡ a = same_Some _ _ (sym h.tree ∙ e) in
                let r = dest-number (names_of_functions P.funcs) (names_in (slice_get P.funcs f)) h.function.labels c (named W y) (length (names_of_functions P.funcs)) (length (names_in (slice_get P.funcs f))) (length h.function.labels) h.range (ap dest_name same-tree ∙ n) in
                (r.0, subst (λ l. r.0 < length l) inP r.1, ap (λ l. named l r.0) (sym inP) ∙ r.2)

        by_line : (x : Laying) → In x laid → x.fit.function ≡ f → (whole : List Item) (a : Item) → tree_at Q f j ≡ Some a → Line bool (tree_at P f) x.names (code_of P f) whole a → dest_name a ≡ Some (named W y) → dest_type a ≡ type_of b → Giver j y b
        by_line x among ef whole a ta (Copy i met e) n ty = let r = from-P i a e n in OldGiver i (ta ∙ sym e) r.0 r.1 r.2
        by_line x among ef whole a ta (Bare o k e) n ty = absurd (lineless (dest_name a) (ap dest_name e) n)
        by_line x among ef whole a ta (Goto l e) n ty = absurd (lineless (dest_name a) (ap dest_name e) n)
        by_line x among ef whole a ta (Mark l e) n ty = absurd (lineless (dest_name a) (ap dest_name e) n)
        by_line x among ef whole a ta (Checks i on off met e) n ty = absurd (lineless (dest_name a) (ap dest_name e) n)
        by_line x among ef whole a ta (ChecksNot i on off m met neg e) n ty = absurd (lineless (dest_name a) (ap dest_name e) n)
        by_line x among ef whole a ta (Negates i on off m met e) n ty = NotGiver x among ef m (same_Some _ _ (sym n ∙ ap dest_name e)) (sym ty ∙ ap dest_type e)

        by_sort : (a : Item) → tree_at Q f j ≡ Some a → Sort j a → dest_name a ≡ Some (named W y) → dest_type a ≡ type_of b → Giver j y b
        by_sort a ta (Old i e) n ty = let r = from-P i a e n in OldGiver i (ta ∙ sym e) r.0 r.1 r.2
        by_sort a ta (New x among ef whole placed line) n ty = by_line x among ef whole a ta line n ty

        by : Stood j b → Giver j y b
        by s =
            by_sort (item_tree (names_of_functions Q.funcs) W s.labels b) s.tree (sort j (item_tree (names_of_functions Q.funcs) W s.labels b) s.tree)
            (dest-named (names_of_functions Q.funcs) W s.labels b y s.range.typed d) (dest-typed-so (names_of_functions Q.funcs) W s.labels b y s.range.typed d)

    -- ---- types

    types : (x y : ℕ) → SameName (variable_names F.vars) (variable_names G.vars) x y → variable_type F.vars x ≡ variable_type G.vars y
    types x y name = unlost-typed P Q accepted same-heads f F G p q x y name source (λ i a at d. let u = unlost i a at d in dest-there P Q same-heads f F G p q x y name i a at d u.0 u.1)
      where
        by_giver : (j : ℕ) (b : Instr) → Giver j y b → (i : ℕ) × (tree_at Q f j ≡ tree_at P f i)
        by_giver j b (OldGiver i e z less n) = (i, e)
        by_giver j b (NotGiver l among ef n e ty) = absurd (apart l among ef n x name.0 (name.2 ∙ e))

        same_names : SameName (names_in (slice_get P.funcs f)) (names_in (slice_get Q.funcs f)) x y
        same_names = subst (λ o. SameName o (names_in (slice_get Q.funcs f)) x y) (sym inP) (subst (λ o. SameName (variable_names F.vars) o x y) (sym inQ) name)

        source : (j : ℕ) (b : Instr) → item_at Q f j ≡ Some b → dest_of b ≡ Some y → HasTypeOfDest P f x b
        source j b at d = let g = by_giver j b (giver j b at y d) in dest_of_tree P Q same-heads f x y same_names g.0 j b at d g.1

        unlost : (i : ℕ) (a : Instr) → item_at P f i ≡ Some a → dest_of a ≡ Some x → (j : ℕ) × (tree_at Q f j ≡ tree_at P f i)
        unlost i a at d = (position_of (stop_lines P laid f) (λ k. lines_behind P bool f k (trace_at laid f k)) i, sym (kept-at P Q bool laid layable most sp f F p i (let w = slice_get_within (code_of P f) i a at in omega arith)))

    -- a `not`'s variable is a bool
    not-typed : (x : Laying) → In x laid → x.fit.function ≡ f → (n y : ℕ) → y < length W → named W y ≡ x.names.nots n → (j : ℕ) (b : Instr) → item_at Q f j ≡ Some b → dest_of b ≡ Some y → variable_type G.vars y ≡ Some bool
    not-typed x among ef n y less name j b at d =
        variable-has G.vars y v.0 v.1 ∙ G.formed.types y v.0 past v.1 ∙ first_type-is y bool G.code all b (get_in G.code j b here) (type-assigned_own y b d ∙ typed j b at d)
      where
        count : length (variable_names G.vars) ≡ length G.vars
        count = length-map G.vars (λ (u : VarInfo). u.name)

        v : (u : VarInfo) × (slice_get G.vars y ≡ Some u)
        v = get_inside G.vars y (let c = count in omega arith)

        here : slice_get G.code j ≡ Some b
        here = ap (λ o. slice_get (items_of o) j) (sym q) ∙ at

        not-argument : y < F.args → ⊥
        not-argument l = let few = F.formed.few_args in let c = length-map F.vars (λ (u : VarInfo). u.name) in apart x among ef n y (omega arith) (first_names P Q same-heads f F G p q y l ∙ name)

        past : G.args ≤ y
        past = ⊎_elim (λ l. absurd (not-argument (let c = (same_args P Q same-heads f F G p q).count in omega (arith, l, c)))) (λ l. l) (cases_lt y G.args)

        by_giver : (k : ℕ) (c : Instr) → Giver k y c → type_of c ≡ Some bool
        by_giver k c (OldGiver i e z low same-name) = absurd (apart x among ef n z low (same-name ∙ name))
        by_giver k c (NotGiver l a g m e ty) = ty

        typed : (k : ℕ) (c : Instr) → item_at Q f k ≡ Some c → dest_of c ≡ Some y → type_of c ≡ Some bool
        typed k c ct cd = by_giver k c (giver k c ct y cd)

        all : (c : Instr) → In c G.code → (type_assigned y c ≡ None) ⊎ (type_assigned y c ≡ Some bool)
        all c i =
            let k = in_get c G.code i in
            let there : item_at Q f k.0 ≡ Some c = ap (λ o. slice_get (items_of o) k.0) q ∙ k.1 in
            ⊎_elim (λ h. inr (h.1 ∙ typed k.0 c there h.0)) inl (type-assigned y c)

    -- ---- items that fit by themselves

    abbrev Alone : Instr → Type 0
    Alone b = FitsByItself Q G b

    alone-at : (j : ℕ) (b c : Instr) → item_at Q f j ≡ Some b → item_at Q f j ≡ Some c → FitsByItself Q G c → FitsByItself Q G b
    alone-at j b c at ct h = subst (FitsByItself Q G) (same_Some _ _ (sym ct ∙ at)) h

    bare : (o : Op) (fns ls : List ℕ) (d : Option ℕ) (ty : Option Ty) (xs : List ℕ) → d ≡ None → ty ≡ None → xs ≡ [] → fns ≡ [] → ls ≡ [] → FitsByItself Q G (Act None None o [] [] []) → FitsByItself Q G (Act d ty o xs fns ls)
    bare o fns ls d ty xs ed et ex ef el h = subst (FitsByItself Q G) (λ i. Act (sym ed i) (sym et i) o (sym ex i) (sym ef i) (sym el i)) h

    exact : (o : Op) (j : ℕ) (args labels : List (List ℕ)) (n : ActionAt Q f j None o args [] labels) (xs ls : List ℕ) → n.arguments ≡ xs → n.targets ≡ ls → item_at Q f j ≡ Some (Act None None o xs [] ls)
    exact o j args labels n xs ls ex el =
        let d = no-dest (names_in (slice_get Q.funcs f)) n.assigned n.ty n.range.typed n.has_dest in
        n.at ∙ (λ i. Some (Act (d.0 i) (d.1 i) o (ex i) (none_from (named (names_of_functions Q.funcs)) n.callees n.has_funcs i) (el i)))

    guard-alone : (y l : ℕ) → if_typed (is_plain base.Bool) (variable_type G.vars y) ≡ true → FitsByItself Q G (Act None None op.Guard (y ∷ []) [] (l ∷ []))
    guard-alone y l t = record { shaped = refl; calls = refl; typed = ap (λ c. wrong_unless (true && c)) t }

    -- a br's condition is a bool in Q
    condition-typed : (i on off : ℕ) → item_met (item_at P f i) ≡ Turns on off → (ys : List ℕ) → map (named (names_in (slice_get Q.funcs f))) ys ≡ args_in (tree_at P f i) → AreBelow (length (names_in (slice_get Q.funcs f))) ys
        → (ys ≡ slice_index ys 0 ∷ []) × (if_typed (is_plain base.Bool) (variable_type G.vars (slice_index ys 0)) ≡ true)
    condition-typed i on off met ys e below = by (item_at P f i) refl
      where
        by : (o : Option Instr) → item_at P f i ≡ o → (ys ≡ slice_index ys 0 ∷ []) × (if_typed (is_plain base.Bool) (variable_type G.vars (slice_index ys 0)) ≡ true)
        by None none = absurd (let h = sym met ∙ ap item_met none in cc)
        by (Some a) at =
            let r = turns-br a on off (ap item_met (sym at) ∙ met) in
            let h = found P f i a at in
            let at' : item_at P f i ≡ Some (Act r.d r.s op.Br r.args r.fns r.ls) = at ∙ ap Some r.is in
            let s = shaped_here P accepted f i (Act r.d r.s op.Br r.args r.fns r.ls) at' in
            let one = (shape-parts (shape_of s.ret op.Br) (is_some r.d) (length r.args) (length r.fns) (length r.ls) s.shaped).args_are in
            let tree : args_in (tree_at P f i) ≡ map (named (names_in (slice_get P.funcs f))) r.args = ap args_in (h.tree ∙ ap (λ z. Some (item_tree (names_of_functions P.funcs) (names_in (slice_get P.funcs f)) h.function.labels z)) r.is) in
            let below' = (AreBelow-append (length (names_in (slice_get P.funcs f))) (listed r.d) r.args (subst (λ z. IsInRange (length (names_of_functions P.funcs)) (length (names_in (slice_get P.funcs f))) (length h.function.labels) z) r.is h.range).variables).1 in
            let first = first_same (names_in (slice_get P.funcs f)) (names_in (slice_get Q.funcs f)) r.args ys (sym (e ∙ tree)) below' below (omega arith) in
            let name : SameName (variable_names F.vars) (variable_names G.vars) (slice_index r.args 0) (slice_index ys 0) =
            subst (λ l. SameName (variable_names F.vars) l (slice_index r.args 0) (slice_index ys 0)) inQ (subst (λ l. SameName l (names_in (slice_get Q.funcs f)) (slice_index r.args 0) (slice_index ys 0)) inP first) in
            let facts = All-at (IsAcceptedFunction P) P.funcs f F accepted.functions p in
            let typed = All-at (λ (c : Instr). type_fault P F c ≡ None) F.code i (Act r.d r.s op.Br r.args r.fns r.ls) facts.typed (ap (λ o. slice_get (items_of o) i) (sym p) ∙ at') in
            let bit : if_typed (is_plain base.Bool) (argument_type F.vars r.args 0) ≡ true = second-holds (is_dest_typed P F r.d r.s) (if_typed (is_plain base.Bool) (argument_type F.vars r.args 0)) typed in
            let size : length ys ≡ 1 = sym (length-map ys (named (names_in (slice_get Q.funcs f)))) ∙ ap length (e ∙ tree) ∙ length-map r.args (named (names_in (slice_get P.funcs f))) ∙ one in
            (single ys size, ap (if_typed (is_plain base.Bool)) (sym (types (slice_index r.args 0) (slice_index ys 0) name)) ∙ bit)
          where
            single : (zs : List ℕ) → length zs ≡ 1 → zs ≡ slice_index zs 0 ∷ []
            single [] n = absurd (omega arith)
            single (z ∷ []) n = refl
            single (z ∷ w ∷ zs) n = absurd (omega arith)

    below_args : (j : ℕ) (d : Option Dest) (o : Op) (args labels : List (List ℕ)) (n : ActionAt Q f j d o args [] labels) → AreBelow (length (names_in (slice_get Q.funcs f))) n.arguments
    below_args j d o args labels n = (AreBelow-append (length (names_in (slice_get Q.funcs f))) (listed n.assigned) n.arguments n.range.variables).1

    record NotDest (d : Option ℕ) (ty' : Option Ty) (name : List ℕ) : Type 0 where
      x : ℕ
      is : d ≡ Some x
      ty : ty' ≡ Some bool
      within : x < length (variable_names G.vars)
      named_so : named (variable_names G.vars) x ≡ name

    not-dest : (j : ℕ) (args : List (List ℕ)) (name : List ℕ) (n : ActionAt Q f j (Some (record { name = name; ty = bool })) op.Not args [] []) → NotDest n.assigned n.ty name
    not-dest j args name n = by n.assigned n.ty n.has_dest (AreBelow-append (length (names_in (slice_get Q.funcs f))) (listed n.assigned) n.arguments n.range.variables).0
      where
        by : (d : Option ℕ) (t : Option Ty) → dest_tree (names_in (slice_get Q.funcs f)) d t ≡ Some (record { name = name; ty = bool }) → AreBelow (length (names_in (slice_get Q.funcs f))) (listed d) → NotDest d t name
        by None t e b = absurd cc
        by (Some z) None e b = absurd cc
        by (Some z) (Some s) e b =
            let h = same_Some _ _ e in
            record { x = z; is = refl; ty = ap (λ (k : Dest). Some k.ty) h; within = subst (λ l. z < length l) inQ b.0; named_so = ap (λ l. named l z) (sym inQ) ∙ ap (λ (k : Dest). k.name) h }

    fits-line : (j : ℕ) (b : Instr) (a : Item) → item_at Q f j ≡ Some b → tree_at Q f j ≡ Some a → (x : Laying) → In x laid → x.fit.function ≡ f → (whole : List Item) → ((c : Item) → In c whole → (k : ℕ) × (tree_at Q f k ≡ Some c)) → Line bool (tree_at P f) x.names (code_of P f) whole a → FitsByItself Q G b ⊎ ((i : ℕ) × (tree_at Q f j ≡ tree_at P f i))
    fits-line j b a at ta x among ef whole placed (Copy i met e) = inr (i, ta ∙ sym e)
    fits-line j b a at ta x among ef whole placed (Bare o (inl k) e) =
        let n = action_at Q f j None op.Speculate [] [] [] (ta ∙ ap Some (e ∙ ap (λ z. item.Act None z [] [] []) k)) in
        inl (alone-at j b (Act None None op.Speculate [] [] []) at (exact op.Speculate j [] [] n [] [] (none_from (named (names_in (slice_get Q.funcs f))) n.arguments n.has_args) (none_from (named n.function.labels) n.targets n.has_labels)) (record { shaped = refl; calls = refl; typed = refl }))
    fits-line j b a at ta x among ef whole placed (Bare o (inr k) e) =
        let n = action_at Q f j None op.Commit [] [] [] (ta ∙ ap Some (e ∙ ap (λ z. item.Act None z [] [] []) k)) in
        inl (alone-at j b (Act None None op.Commit [] [] []) at (exact op.Commit j [] [] n [] [] (none_from (named (names_in (slice_get Q.funcs f))) n.arguments n.has_args) (none_from (named n.function.labels) n.targets n.has_labels)) (record { shaped = refl; calls = refl; typed = refl }))
    fits-line j b a at ta x among ef whole placed (Goto l e) =
        let n = action_at Q f j None op.Jmp [] [] (l ∷ []) (ta ∙ ap Some e) in
        inl (alone-at j b (Act None None op.Jmp [] [] (slice_index n.targets 0 ∷ [])) at (exact op.Jmp j [] (l ∷ []) n [] (slice_index n.targets 0 ∷ []) (none_from (named (names_in (slice_get Q.funcs f))) n.arguments n.has_args) (one-of (named n.function.labels) n.targets l n.has_labels)) (record { shaped = refl; calls = refl; typed = refl }))
    fits-line j b a at ta x among ef whole placed (Mark l e) = let n = label_at Q f j l (ta ∙ ap Some e) in inl (alone-at j b (Label n.number) at n.at (record { shaped = refl; calls = refl; typed = refl }))
    fits-line j b a at ta x among ef whole placed (Checks i on off met e) =
        let n = action_at Q f j None op.Guard (args_in (tree_at P f i)) [] (x.names.bail ∷ []) (ta ∙ ap Some e) in
        let c = condition-typed i on off met n.arguments n.has_args (below_args j None op.Guard (args_in (tree_at P f i)) (x.names.bail ∷ []) n) in
        inl (alone-at j b (Act None None op.Guard (slice_index n.arguments 0 ∷ []) [] (slice_index n.targets 0 ∷ [])) at
        (exact op.Guard j (args_in (tree_at P f i)) (x.names.bail ∷ []) n (slice_index n.arguments 0 ∷ []) (slice_index n.targets 0 ∷ []) c.0 (one-of (named n.function.labels) n.targets x.names.bail n.has_labels)) (guard-alone (slice_index n.arguments 0) (slice_index n.targets 0) c.1))
    fits-line j b a at ta x among ef whole placed (ChecksNot i on off m met neg e) = checks-not (action_at Q f j None op.Guard (x.names.nots m ∷ []) [] (x.names.bail ∷ []) (ta ∙ ap Some e))
      where
        -- it stands behind the `not`, whose destination it reads
        checks-not : ActionAt Q f j None op.Guard (x.names.nots m ∷ []) [] (x.names.bail ∷ []) → FitsByItself Q G b ⊎ ((i : ℕ) × (tree_at Q f j ≡ tree_at P f i))
        checks-not n =
            let one = one-of (named (names_in (slice_get Q.funcs f))) n.arguments (x.names.nots m) n.has_args in
            let first = first_named (names_in (slice_get Q.funcs f)) n.arguments (x.names.nots m) n.has_args (below_args j None op.Guard (x.names.nots m ∷ []) (x.names.bail ∷ []) n) in
            let less : slice_index n.arguments 0 < length (variable_names G.vars) = subst (λ l. slice_index n.arguments 0 < length l) inQ first.0 in
            let name : named (variable_names G.vars) (slice_index n.arguments 0) ≡ x.names.nots m = ap (λ l. named l (slice_index n.arguments 0)) (sym inQ) ∙ first.1 in
            let t : variable_type G.vars (slice_index n.arguments 0) ≡ Some bool = given (slice_index n.arguments 0) less name in
            inl (alone-at j b (Act None None op.Guard (slice_index n.arguments 0 ∷ []) [] (slice_index n.targets 0 ∷ [])) at
            (exact op.Guard j (x.names.nots m ∷ []) (x.names.bail ∷ []) n (slice_index n.arguments 0 ∷ []) (slice_index n.targets 0 ∷ []) one (one-of (named n.function.labels) n.targets x.names.bail n.has_labels))
            (guard-alone (slice_index n.arguments 0) (slice_index n.targets 0) (ap (if_typed (is_plain base.Bool)) t ∙ plain)))
          where
            given : (y : ℕ) → y < length (variable_names G.vars) → named (variable_names G.vars) y ≡ x.names.nots m → variable_type G.vars y ≡ Some bool
            given y less name =
                let k = placed (not_line bool (x.names.nots m) (args_in (tree_at P f i))) neg in
                let o = action_at Q f k.0 (Some (record { name = x.names.nots m; ty = bool })) op.Not (args_in (tree_at P f i)) [] [] k.1 in
                let d = not-dest k.0 (args_in (tree_at P f i)) (x.names.nots m) o in
                let one : d.x ≡ y = one_number (variable_names G.vars) (Differ-variables G) d.x y d.within less (d.named_so ∙ sym name) in
                not-typed x among ef m y less name k.0 (Act o.assigned o.ty op.Not o.arguments o.callees o.targets) o.at (d.is ∙ ap Some one)
    fits-line j b a at ta x among ef whole placed (Negates i on off m met e) =
        let n = action_at Q f j (Some (record { name = x.names.nots m; ty = bool })) op.Not (args_in (tree_at P f i)) [] [] (ta ∙ ap Some e) in
        let c = condition-typed i on off met n.arguments n.has_args (below_args j (Some (record { name = x.names.nots m; ty = bool })) op.Not (args_in (tree_at P f i)) [] n) in
        let d = not-dest j (args_in (tree_at P f i)) (x.names.nots m) n in
        let t = not-typed x among ef m d.x d.within d.named_so j (Act n.assigned n.ty op.Not n.arguments n.callees n.targets) n.at d.is in
        let item : item_at Q f j ≡ Some (Act (Some d.x) (Some bool) op.Not (slice_index n.arguments 0 ∷ []) [] []) =
        n.at ∙ (λ z. Some (Act (d.is z) (d.ty z) op.Not (c.0 z) (none_from (named (names_of_functions Q.funcs)) n.callees n.has_funcs z) (none_from (named n.function.labels) n.targets n.has_labels z))) in
        inl (alone-at j b (Act (Some d.x) (Some bool) op.Not (slice_index n.arguments 0 ∷ []) [] []) at item
        (record {
          shaped = refl;
          calls = refl;
          typed = ap (λ z. wrong_unless (both_typed same_type (Some bool) z && (if_typed (is_plain base.Bool) (variable_type G.vars (slice_index n.arguments 0)) && is_plain base.Bool bool))) t
              ∙ ap (λ z. wrong_unless (z && (if_typed (is_plain base.Bool) (variable_type G.vars (slice_index n.arguments 0)) && is_plain base.Bool bool))) same
              ∙ ap (λ z. wrong_unless (true && (z && is_plain base.Bool bool))) c.1 ∙ ap (λ z. wrong_unless (true && (true && z))) plain;
        }))

    fits : (j : ℕ) (b : Instr) → item_at Q f j ≡ Some b → FitsByItself Q G b ⊎ ((i : ℕ) × (tree_at Q f j ≡ tree_at P f i))
    fits j b at = by (stood j b at)
      where
        by_sort : (a : Item) → tree_at Q f j ≡ Some a → Sort j a → FitsByItself Q G b ⊎ ((i : ℕ) × (tree_at Q f j ≡ tree_at P f i))
        by_sort a ta (Old i e) = inr (i, ta ∙ sym e)
        by_sort a ta (New x among ef whole placed line) = fits-line j b a at ta x among ef whole placed line

        by : Stood j b → FitsByItself Q G b ⊎ ((i : ℕ) × (tree_at Q f j ≡ tree_at P f i))
        by s = by_sort (item_tree (names_of_functions Q.funcs) W s.labels b) s.tree (sort j (item_tree (names_of_functions Q.funcs) W s.labels b) s.tree)

    was : AreWalksAccepted (code_of P f) F.args (is_some F.ret)
    was =
        let facts = All-at (IsAcceptedFunction P) P.funcs f F accepted.functions p in
        subst (λ c. AreWalksAccepted c F.args (is_some F.ret)) (sym (ap items_of p)) (record { sites = facts.sites; alone = facts.alone; returns = facts.returns; assigned = facts.assigned })

    roomy-here : (i : ℕ) (t : Trace) → trace_at laid f i ≡ Some t → (w : List Branch) → IsWalk (code_of P f) w → end_of w ≡ i → length (sites_of (code_of P f) w) < most_sites
    roomy-here i t e w is ends =
        let l = located P laid f i t e in
        subst (λ n. length (sites_of (code_of P n) w) < most_sites) l.function (roomy l.x l.among w (subst (λ n. IsWalk (code_of P n) w) (sym l.function) is) (ends ∙ sym l.point))

    now : AreWalksAccepted (code_of Q f) G.args (is_some F.ret)
    unfolding st
    now = stitched-walks P Q bool accepted (stitched P Q bool laid layable most sp) f F.args G.args (is_some F.ret) was (traces-roomy) (start_matched P Q same-heads f F G p q (tracing P Q bool accepted (stitched P Q bool laid layable most sp)) ((stitched P Q bool laid layable most sp).start f))
      where
        traces-roomy : (i : ℕ) (t : Trace) → (stitched P Q bool laid layable most sp).traces f i ≡ Some t → (w : List Branch) → IsWalk (code_of P f) w → end_of w ≡ i → length (sites_of (code_of P f) w) < most_sites
        traces-roomy i t e = roomy-here i t (sym (traces-are P Q bool laid layable most sp f i) ∙ e)

    stays : Stays P Q f F G
    stays = record {
      items = λ j b at. ⊎_elim inl (λ o. inr (record {
        i = o.0;
        tree = o.1;
        dests = λ x y name i. types x y name;
        reads = λ x y name i. types x y name;
        names = λ x y name i. inr (types x y name);
      })) (fits j b at);
      walks = subst (λ r. AreWalksAccepted (code_of Q f) G.args (is_some r)) (same-heads.ret f F G p q) now;
    }

  -- what the pass makes is accepted
  pub spliced-accepted : IsAccepted Q
  spliced-accepted = program_accepted P Q accepted same-heads (main_same P Q same-heads) (λ f F G p q. types_same P Q same-heads f F G p q) (λ f F G p q. stays f F G p q)
