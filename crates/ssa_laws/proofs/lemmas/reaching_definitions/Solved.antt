-- What the loop over trivial `get`s found resolves the tables.
use Rattle.std.proofs.Common.{◌≡◌, ◌⊎◌, ℕ, ◌+◌, ◌<◌, true, List, [], ◌∷◌, length, Option, Some, None, refl, sym, ap, subst, ◌∙◌, inl, inr, arith}
use Rattle.std.specs.Prelude.{slice_get}
use Rattle.std.proofs.lemmas.Option.{slice_get_within}
use Rattle.bril_tree.specs.declared.numbered.Instr.{Instr}
use Rattle.bril_tree.specs.Assigned.{assigns_at}
use Rattle.bril_tree.specs.Edge.{Branch, branches_at}
use Rattle.bril_tree.specs.Live.{IsLive, Later}
use Rattle.bril_tree.specs.Operand.{Location}
use Rattle.bril_tree.specs.Sites.{sites_of}
use Rattle.bril_tree.specs.Walk.{IsWalk, IsReached, end_of}
use Rattle.bril_tree.specs.Membership.{In}
use Rattle.bril_tree.proofs.Members.{contains_in, in_contains}
use Rattle.ssa_laws.specs.inserted_copies.Inserted.{destination}
use Rattle.ssa_laws.specs.reaching_definitions.Tables.{Tables, AreResolved}
use Rattle.ssa_laws.specs.reaching_definitions.Told.{LeadToLabels, argument, table_of, AreWanted, FromStart, FromNext, FromBack, IsSolved}
use Rattle.ssa_laws.proofs.lemmas.reaching_definitions.Items.{label-no_site}
use Rattle.ssa_laws.proofs.lemmas.reaching_definitions.Dominance.{Opened, opened, part-walk}
use Rattle.ssa_laws.proofs.lemmas.reaching_definitions.Made.{live-told, edge-told}

module _ (code : List Instr) (args : ℕ) (gets : ℕ → Location → Option ℕ) (leads : LeadToLabels code) (wants : AreWanted code args gets) (IsArgument : ℕ → Type 0)
    (begins : (a : Location) (y : ℕ) → argument args a ≡ Some y → IsArgument y) (few : (y : ℕ) → IsArgument y → y < args)
    (argued : (a : Location) → IsLive code a 0 → (y : ℕ) × (argument args a ≡ Some y)) (opens : (s : ℕ) (walk : List Branch) → IsWalk code walk → In s (sites_of code walk) → assigns_at (slice_get code s) ≡ []) where
  abbrev n : Tables
  n = table_of code args gets

  -- what an abort brings to its label is told just before its `speculate`
  pub back-told : (walk : List Branch) (w : Branch) (a : Location) → IsWalk code walk → In w (branches_at code (end_of walk)) → w.aborts ≡ true → (s : ℕ) (sites : List ℕ) → sites_of code walk ≡ s ∷ sites → IsLive code a w.to → (y : ℕ) × (n.into s a ≡ Some y)
  back-told walk w a is among ab s sites open_sites live = by (live-told code args gets leads wants IsArgument begins few argued s a reached here)
    where
      inside : In s (sites_of code walk)
      inside = subst (In s) (sym open_sites) (inl refl)

      o : Opened code walk s
      o = opened code walk s is inside

      reached : IsReached code s
      reached = record { walk = o.walk; is = (part-walk code (o.branch ∷ o.walk) walk o.part is).1; ends = o.ends }

      here : IsLive code a s
      here = Later s w (inr (record { aborts = ab; walk = walk; is = is; at = contains_in w (branches_at code (end_of walk)) among; older = sites; sites = open_sites }))
          (λ c. subst (In a) (opens s walk is inside) (in_contains a (assigns_at (slice_get code s)) c)) live

      by : (y : ℕ) × ((n.into s a ≡ Some y) ⊎ (gets s a ≡ Some y)) → (y : ℕ) × (n.into s a ≡ Some y)
      by (y, inl e) = (y, e)
      by (y, inr g) = absurd (let l = wants.label s y a g in label-no_site code walk s l.0 inside l.1)

  module _ (find : ℕ → ℕ) (solved : IsSolved code n args (args + length code) find) where
    written-less : (i : ℕ) (x : ℕ) → destination (slice_get code i) ≡ Some x → i < length code
    written-less i x d = by (slice_get code i) refl
      where
        by : (o : Option Instr) → slice_get code i ≡ o → i < length code
        by None at = absurd (let h = sym (ap destination at) ∙ d in cc)
        by (Some q) at = slice_get_within code i q at

    pub solved-resolves : AreResolved code n IsArgument find
    solved-resolves = record {
      writes = λ i x reached copy d. solved.fixed (args + i) (let l = written-less i x d in omega (arith, l));
      arguments = λ y arg. solved.fixed y (let l = few y arg in omega (arith, l));
      first = λ a y g gone. first a y g gone;
      next = λ walk w a y is among ab g gone.
          let t = edge-told code args gets leads wants IsArgument begins few argued walk w a is among ab (wants.live w.to y a g) in
          (t.0, t.1, solved.gone w.to y t.0 a g gone (FromNext walk w is among ab refl t.1));
      back = λ walk w a y is among ab s sites open_sites g gone.
          let t = back-told walk w a is among ab s sites open_sites (wants.live w.to y a g) in
          (t.0, t.1, solved.gone w.to y t.0 a g gone (FromBack walk w s sites is among ab refl open_sites t.1));
    }
      where
        first : (a : Location) (y : ℕ) → gets 0 a ≡ Some y → (find y ≡ y → ⊥) → IsArgument (find y)
        first a y g gone =
            let x = argued a (wants.live 0 y a g) in
            let arg = begins a x.0 x.1 in
            let l = few x.0 arg in
            let e : x.0 ≡ find y = sym (solved.fixed x.0 (omega (arith, l))) ∙ solved.gone 0 y x.0 a g gone (FromStart refl x.1) in
            subst IsArgument e arg
