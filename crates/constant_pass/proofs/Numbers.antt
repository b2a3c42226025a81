-- No number of the program grows.
use Rattle.std.proofs.Common.{◌≡◌, ◌⊎◌, ℕ, ◌<◌, false, cond, List, [], ◌∷◌, length, Option, Some, None, refl, sym, ap, subst, ◌∙◌, inl, inr, ⊎_elim, arith}
use Rattle.std.specs.Prelude.{slice_get, slice_index}
use Rattle.std.proofs.lemmas.List.{length-map}
use Rattle.std.proofs.lemmas.Option.{same_Some}
use Rattle.bril_tree.specs.declared.numbered.Instr.{Instr}
use Rattle.bril_tree.specs.declared.numbered.Instr.TheVariants.{Label, Const, Act}
use Rattle.bril_tree.specs.declared.numbered.VarInfo.{VarInfo}
use Rattle.bril_tree.specs.declared.numbered_function.Func.{Func}
use Rattle.bril_tree.specs.declared.operation.Op.TheVariants as op
use Rattle.bril_tree.specs.declared.program.Prog.{Prog}
use Rattle.bril_tree.specs.declared.types.Ty.{Ty}
use Rattle.bril_tree.specs.declared.value.Lit.{Lit}
use Rattle.bril_tree.specs.Accepted.{IsAccepted}
use Rattle.bril_tree.specs.Edge.{Branch, branches_at, branches_from, item_branches, onward, jump}
use Rattle.bril_tree.specs.Leaving.{edge_of}
use Rattle.bril_tree.specs.Membership.{In}
use Rattle.bril_tree.specs.Numbered.{named, names_in, nop, tree_at, variable_names}
use Rattle.bril_tree.specs.Outcome.{bool_of}
use Rattle.bril_tree.specs.Sites.{sites_of}
use Rattle.bril_tree.specs.Step.{code_of, items_of, item_at}
use Rattle.bril_tree.specs.Walk.{end_of}
use Rattle.bril_tree.proofs.Members.{in_map}
use Rattle.bril_tree.proofs.Outcomes.{giver-goes_on}
use Rattle.pass_edit_laws.specs.names.Named.{SameName}
use Rattle.pass_edit_laws.specs.walks.Matched.{MatchedWalk, MatchesWalks}
use Rattle.pass_edit_laws.specs.numbers.Numbers.{FunctionWithin, NumbersWithin}
use Rattle.pass_edit_laws.proofs.lemmas.numbers.Edges.{edge-back, label-back}
use Rattle.pass_edit_laws.proofs.lemmas.numbers.InPlace.{EdgeBack, branch-back, in_place-entries, in_place-width}
use Rattle.pass_edit_laws.proofs.lemmas.numbers.Items.{IsNamed, IsOfItems, IsPlain, bare-plain, items-plain, nop-plain, unchanged}
use Rattle.pass_edit_laws.proofs.lemmas.numbers.Programs.{by-functions, function-within, functions_bound}
use Rattle.constant_pass.specs.constants.Answer.{answer, locals_of}
use Rattle.constant_pass.specs.constants.Consistent.{Table}
use Rattle.bril_tree.specs.Value.{literal_value}
use Rattle.constant_pass.specs.Items.{jump_to}
use Rattle.constant_pass.specs.Folded.{becomes}
use Rattle.constant_pass.proofs.Accepted.{kept_by, br_label, shaped, walks}
use Rattle.constant_pass.proofs.Fates.{Fate, Stays, Folds, Jumps, Passes, fate_at, literal-one, one-answer, given-outcome}
use Rattle.constant_pass.proofs.Plans.{walk_plan, walks_preserve}
use Rattle.constant_pass.proofs.Points.{Folded, IsKept, kept_tree, const_there, const_name, jump_there, nop_there}

module _ (P Q : Prog) (T : ℕ → Table) (accepted : IsAccepted P) (accepted_q : IsAccepted Q) (t : Folded P Q T) (f : ℕ) (F G : Func) (p : slice_get P.funcs f ≡ Some F) (q : slice_get Q.funcs f ≡ Some G) where
  there : code_of Q f ≡ G.code
  there = ap items_of q

  -- what the pass put in at a point: a plain item, that is no label, and whose branches go where one of P's does
  record PutIn (i : ℕ) : Type 0 where
    item : Instr
    at : item_at Q f i ≡ Some item
    plain : IsPlain unchanged [] F G item
    loud : (l : ℕ) → item ≡ Label l → ⊥
    branch : Branch
    stays : branch.aborts ≡ false
    from : branch.from ≡ i
    among : In branch (branches_at (code_of P f) i)
    result : Branch
    only : item_branches (code_of Q f) i item ≡ result ∷ []
    aborts : result.aborts ≡ false
    leaves : result.from ≡ i
    goes : branch.to ≡ result.to

  one-name : (x y : ℕ) (l : Lit) (ty : Ty) → SameName (names_in (slice_get P.funcs f)) (names_in (slice_get Q.funcs f)) x y → IsPlain unchanged [] F G (Const y ty l)
  one-name x y l ty same = record { names = names; shadows = refl; passes = refl }
    where
      names : (z : ℕ) → In z (y ∷ []) → IsNamed unchanged F G z ⊎ In (named (variable_names G.vars) z) []
      names z (inl e) =
          let size = length-map F.vars (λ (v : VarInfo). v.name) in
          let low : x < length (variable_names F.vars) = subst (λ o. x < length (names_in o)) p same.0 in
          inl (record { x = x; low = omega arith; same = ap (λ o. named (names_in o) x) (sym p) ∙ same.2 ∙ ap (λ o. named (names_in o) y) q ∙ ap (named (variable_names G.vars)) (sym e) })
      names z (inr i) = absurd i

  along : (i : ℕ) (a : Instr) → item_at P f i ≡ Some a → (w : Branch) → In w (item_branches (code_of P f) i a) → In w (branches_at (code_of P f) i)
  along i a at w h = subst (λ o. In w (branches_from (code_of P f) i o)) (sym at) h

  put_in : (i : ℕ) (a : Instr) → item_at P f i ≡ Some a → Fate (T f).known a (becomes (T f) i a) → IsKept P Q T t f i ⊎ PutIn i
  put_in i a at (Stays same) = inl (kept_by P Q T accepted t f F G p q i a at same)
  put_in i a at (Folds x ty l dest typed one became) =
      let c = const_there P Q T t f i a at x ty l became in
      let n = const_name P Q T t f i a at x ty l became dest in
      let gives = given-outcome _ a x (locals_of (T f).known) (literal_value l) (shaped P Q T accepted t f F G p q i a at) dest (one-answer (T f).known a (literal_value l) (literal-one (answer (T f).known a) l one)).gives in
      let on = giver-goes_on a (locals_of (T f).known) (literal_value l) gives in
      inr (record {
        item = Const c.y ty l;
        at = c.at;
        plain = one-name x c.y l ty n;
        loud = λ k e. cc;
        branch = onward i;
        stays = refl;
        from = refl;
        among = along i a at (onward i) (subst (In (onward i)) (sym (on.branches (code_of P f) i)) (inl refl));
        result = onward i;
        only = refl;
        aborts = refl;
        leaves = refl;
        goes = refl;
      })
  put_in i a at (Jumps d ty args fs ls u is one became) =
      let at' = at ∙ ap Some is in
      let k = slice_index ls (cond (bool_of u) 0 1) in
      let l_in = br_label P Q T accepted t f F G p q i d ty args fs ls (bool_of u) at' in
      let j = jump_there P Q T t f i d ty args fs ls at' k l_in (ap (becomes (T f) i) (sym is) ∙ became) in
      inr (record {
        item = jump_to j.number;
        at = j.at;
        plain = bare-plain unchanged [] F G (jump_to j.number) refl;
        loud = λ k e. cc;
        branch = jump (code_of P f) i k;
        stays = refl;
        from = refl;
        among = along i (Act d ty op.Br args fs ls) at' (jump (code_of P f) i k) (in_map (jump (code_of P f) i) k ls l_in);
        result = jump (code_of Q f) i j.number;
        only = refl;
        aborts = refl;
        leaves = refl;
        goes = j.to;
      })
  put_in i a at (Passes d ty args fs ls u is one holds became) =
      let at' = at ∙ ap Some is in
      inr (record {
        item = nop;
        at = nop_there P Q T t f i (Act d ty op.Guard args fs ls) at' (ap (becomes (T f) i) (sym is) ∙ became);
        plain = nop-plain unchanged [] F G nop refl;
        loud = λ k e. cc;
        branch = onward i;
        stays = refl;
        from = refl;
        among = along i (Act d ty op.Guard args fs ls) at' (onward i) (inl refl);
        result = onward i;
        only = refl;
        aborts = refl;
        leaves = refl;
        goes = refl;
      })

  kept_or : (i : ℕ) → IsKept P Q T t f i ⊎ PutIn i
  kept_or i = by (item_at P f i) refl
    where
      by : (o : Option Instr) → item_at P f i ≡ o → IsKept P Q T t f i ⊎ PutIn i
      by None e = inl (λ a at. absurd (let n : None ≡ Some a = sym e ∙ at in cc))
      by (Some a) e = ⊎_elim (λ same. inl (kept_by P Q T accepted t f F G p q i a e same)) (λ h. put_in i a e h.1) (fate_at (T f) i a)

  -- an item of Q is plain, or that of P by its tree
  one-item : (i : ℕ) (b : Instr) → slice_get G.code i ≡ Some b → IsPlain unchanged [] F G b ⊎ (tree_at P f i ≡ tree_at Q f i)
  one-item i b at = ⊎_elim (λ kept. inr (kept_tree P Q T t f i kept)) (λ n. inl (subst (IsPlain unchanged [] F G) (same_Some n.item b (sym n.at ∙ ap (λ c. slice_get c i) there ∙ at)) n.plain)) (kept_or i)

  -- a label of Q is that of P
  one-label : (i l : ℕ) → slice_get G.code i ≡ Some (Label l) → (m : ℕ) × (slice_get F.code i ≡ Some (Label m)) × (named F.labels m ≡ named G.labels l)
  one-label i l at = ⊎_elim (λ kept. label-back P Q f F G p q i i l (kept_tree P Q T t f i kept) at) (λ n. absurd (n.loud l (same_Some n.item (Label l) (sym n.at ∙ ap (λ c. slice_get c i) there ∙ at)))) (kept_or i)

  -- ---- entries

  -- an edge of Q is one of P
  edge-same : (v : List Branch) (b : Branch) → (l : MatchedWalk (walk_plan P Q T t) P Q f F.args G.args v) → In b (branches_at (code_of Q f) (end_of v)) → EdgeBack P f (edge_of (sites_of (code_of Q f) v) b).leave b.to
  edge-same v b l among = ⊎_elim regular put (kept_or (end_of l.walk))
    where
      regular : IsKept P Q T t f (end_of l.walk) → EdgeBack P f (edge_of (sites_of (code_of Q f) v) b).leave b.to
      regular kept =
          let e = edge-back (walk_plan P Q T t) P Q f F.args G.args (walks_preserve P Q T t accepted) v b (record { walk = l.walk; matches = l.matches; regular = kept }) among in
          record { edge = e.edge; is = e.is; leaves = e.leaves.0; goes = e.points }

      put : PutIn (end_of l.walk) → EdgeBack P f (edge_of (sites_of (code_of Q f) v) b).leave b.to
      put n =
          let points = l.matches.points in
          let now : item_at Q f (end_of v) ≡ Some n.item = ap (item_at Q f) (sym points) ∙ n.at in
          let result : b ≡ n.result = ⊎_elim (λ s. s) (λ x. absurd x) (subst (In b) n.only (subst (λ i. In b (item_branches (code_of Q f) i n.item)) (sym points) (subst (λ o. In b (branches_from (code_of Q f) (end_of v) o)) now among))) in
          branch-back P f l.walk l.matches.is n.branch b n.among n.stays (ap (λ (w : Branch). w.aborts) result ∙ n.aborts) (n.from ∙ sym n.leaves ∙ ap (λ (w : Branch). w.from) (sym result)) (n.goes ∙ ap (λ (w : Branch). w.to) (sym result)) (sites_of (code_of Q f) v)

  -- ---- the numbers of a function

  of_items : IsOfItems unchanged [] F G
  of_items = items-plain P Q f F G p q [] (t.heads.args f F G p q) (λ i b at. ⊎_elim inl (λ same. inr (i, same)) (one-item i b at))

  matches : MatchesWalks (walk_plan P Q T t) P Q f F.args G.args
  matches = walks P Q T accepted t f F G p q

  function_within : FunctionWithin 0 F G
  function_within =
      function-within (walk_plan P Q T t) unchanged P Q accepted_q f F G p q matches of_items 0 (in_place-entries (walk_plan P Q T t) P Q f F G p q matches one-label edge-same) (in_place-width (walk_plan P Q T t) P Q f F G p q matches one-label edge-same)

pub numbers-within : (P Q : Prog) (T : ℕ → Table) → IsAccepted P → IsAccepted Q → Folded P Q T → NumbersWithin P Q 0
numbers-within P Q T accepted accepted_q t = functions_bound P Q 0 accepted (by-functions P Q t.heads.names (FunctionWithin 0) (λ f F G p q. function_within P Q T accepted accepted_q t f F G p q))
