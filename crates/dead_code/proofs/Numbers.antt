-- The numbers of a deadened program: none is greater than the program's.
use Rattle.std.proofs.Common.{◌≡◌, ◌⊎◌, ℕ, suc, List, [], Some, refl, sym, ap, subst, ◌∙◌, inl, inr, ⊎_elim}
use Rattle.std.specs.Prelude.{slice_get}
use Rattle.std.proofs.lemmas.Option.{same_Some}
use Rattle.bril_tree.specs.declared.numbered.Instr.{Instr}
use Rattle.bril_tree.specs.declared.numbered.Instr.TheVariants.{Label}
use Rattle.bril_tree.specs.declared.numbered_function.Func.{Func}
use Rattle.bril_tree.specs.declared.program.Prog.{Prog}
use Rattle.bril_tree.specs.Accepted.{IsAccepted}
use Rattle.bril_tree.specs.Edge.{Branch, branches_at, branches_from, onward}
use Rattle.bril_tree.specs.Leaving.{edge_of}
use Rattle.bril_tree.specs.Membership.{In}
use Rattle.bril_tree.specs.Numbered.{named, nop, tree_at}
use Rattle.bril_tree.specs.Sites.{sites_of}
use Rattle.bril_tree.specs.Step.{code_of, item_at, items_of}
use Rattle.bril_tree.specs.Walk.{IsReached, end_of}
use Rattle.pass_edit_laws.specs.walks.Matched.{MatchedWalk, MatchesWalks}
use Rattle.pass_edit_laws.specs.numbers.Numbers.{FunctionWithin, NumbersWithin}
use Rattle.pass_edit_laws.proofs.lemmas.numbers.Edges.{edge-back, label-back}
use Rattle.pass_edit_laws.proofs.lemmas.numbers.InPlace.{EdgeBack, branch-back, in_place-entries, in_place-width}
use Rattle.pass_edit_laws.proofs.lemmas.numbers.Items.{IsOfItems, items-back, unchanged}
use Rattle.pass_edit_laws.proofs.lemmas.numbers.Programs.{by-functions, function-within, functions_bound}
use Rattle.dead_code.proofs.Accepted.{walks}
use Rattle.dead_code.proofs.Chain.{Gone}
use Rattle.dead_code.proofs.Step.{computation-on}
use Rattle.dead_code.proofs.Points.{Deadened}
use Rattle.dead_code.proofs.Refines.{dead_plan, gone-nop, preserves, staying-tree}

module _ (P Q : Prog) (made : ℕ → List Instr) (accepted : IsAccepted P) (accepted_q : IsAccepted Q) (t : Deadened P Q made) (f : ℕ) (F G : Func) (p : slice_get P.funcs f ≡ Some F) (q : slice_get Q.funcs f ≡ Some G) where
  there : code_of Q f ≡ G.code
  there = ap items_of q

  -- an item of Q is a `nop`, or that of P by its tree
  one-item : (i : ℕ) (b : Instr) → slice_get G.code i ≡ Some b → (b ≡ nop) ⊎ (tree_at P f i ≡ tree_at Q f i)
  one-item i b at = ⊎_elim (λ same. inr (staying-tree P Q made t f i same)) (λ g. inl (same_Some b nop (sym at ∙ ap (λ c. slice_get c i) (sym there) ∙ gone-nop P Q made t f i g))) ((t.chain f).became i)

  -- a label of Q is that of P
  one-label : (i l : ℕ) → slice_get G.code i ≡ Some (Label l) → (m : ℕ) × (slice_get F.code i ≡ Some (Label m)) × (named F.labels m ≡ named G.labels l)
  one-label i l at = ⊎_elim (λ e. absurd (let n : Label l ≡ nop = e in cc)) (λ same. label-back P Q f F G p q i i l same at) (one-item i (Label l) at)

  -- ---- entries

  -- an edge of Q is one of P
  edge-same : (v : List Branch) (b : Branch) → (l : MatchedWalk (dead_plan P Q made t) P Q f F.args G.args v) → In b (branches_at (code_of Q f) (end_of v)) → EdgeBack P f (edge_of (sites_of (code_of Q f) v) b).leave b.to
  edge-same v b l among = ⊎_elim regular gone ((t.chain f).became (end_of l.walk))
    where
      regular : slice_get (made f) (end_of l.walk) ≡ item_at P f (end_of l.walk) → EdgeBack P f (edge_of (sites_of (code_of Q f) v) b).leave b.to
      regular same =
          let e = edge-back (dead_plan P Q made t) P Q f F.args G.args (preserves P Q made t accepted) v b (record { walk = l.walk; matches = l.matches; regular = same }) among in
          record { edge = e.edge; is = e.is; leaves = e.leaves.0; goes = e.points }

      gone : Gone (code_of P f) (made f) (end_of l.walk) → EdgeBack P f (edge_of (sites_of (code_of Q f) v) b).leave b.to
      gone g =
          let i = end_of l.walk in
          let was : IsReached (code_of P f) i = record { walk = l.walk; is = l.matches.is; ends = refl } in
          let on = computation-on (code_of P f) i g.item (g.why was).computes in
          let now : item_at Q f (end_of v) ≡ Some nop = ap (item_at Q f) (sym l.matches.points) ∙ gone-nop P Q made t f i g in
          let branch : b ≡ onward (end_of v) = ⊎_elim (λ s. s) (λ n. absurd n) (subst (λ o. In b (branches_from (code_of Q f) (end_of v) o)) now among) in
          let step : In (onward i) (branches_at (code_of P f) i) = subst (λ o. In (onward i) (branches_from (code_of P f) i o)) (sym g.was) (subst (In (onward i)) (sym on) (inl refl)) in
          branch-back P f l.walk l.matches.is (onward i) b step refl (ap (λ (w : Branch). w.aborts) branch) (l.matches.points ∙ ap (λ (w : Branch). w.from) (sym branch)) (ap suc l.matches.points ∙ ap (λ (w : Branch). w.to) (sym branch)) (sites_of (code_of Q f) v)

  -- ---- the numbers of a function

  of_items : IsOfItems unchanged [] F G
  of_items = items-back P Q f F G p q (t.heads.args f F G p q) (λ i b at. ⊎_elim inl (λ same. inr (i, same)) (one-item i b at))

  matches : MatchesWalks (dead_plan P Q made t) P Q f F.args G.args
  matches = walks P Q made accepted t f F G p q

  function_within : FunctionWithin 0 F G
  function_within =
      function-within (dead_plan P Q made t) unchanged P Q accepted_q f F G p q matches of_items 0 (in_place-entries (dead_plan P Q made t) P Q f F G p q matches one-label edge-same) (in_place-width (dead_plan P Q made t) P Q f F G p q matches one-label edge-same)

pub numbers-within : (P Q : Prog) (made : ℕ → List Instr) → IsAccepted P → IsAccepted Q → Deadened P Q made → NumbersWithin P Q 0
numbers-within P Q made accepted accepted_q t = functions_bound P Q 0 accepted (by-functions P Q t.heads.names (FunctionWithin 0) (λ f F G p q. function_within P Q made accepted accepted_q t f F G p q))
