-- What the loop over trivial `get`s leaves is needed: a `get` that is set from itself alone would be reached by no walk.
use Rattle.std.proofs.Common.{◌≡◌, ℕ, ◌+◌, ◌<◌, true, false, List, ◌∷◌, length, Option, Some, None, refl, sym, ap, subst, ◌∙◌, inl, inr, cond, arith}
use Rattle.bril_tree.specs.declared.numbered.Instr.{Instr}
use Rattle.bril_tree.specs.Edge.{Branch, branches_at}
use Rattle.bril_tree.specs.Membership.{In}
use Rattle.bril_tree.specs.Operand.{Location}
use Rattle.bril_tree.specs.Sites.{AreSitesSound, sites_of}
use Rattle.bril_tree.specs.Walk.{IsWalk, IsReached, end_of}
use Rattle.ssa_build.specs.trivial_phis.Trivial.{IsResolved, OperandsView, Stays}
use Rattle.ssa_build.specs.operands.Operands.{AreOperands, HasTwoSources, LeftAreNeeded, ResolvedAreSolved, base_of}
use Rattle.ssa_laws.proofs.lemmas.reaching_definitions.Dominance.{own-only}
use Rattle.ssa_laws.proofs.lemmas.reaching_definitions.Items.{label-no_site}
use Rattle.ssa_laws.proofs.lemmas.reaching_definitions.Made.{edge-told, tabled-consistent}
use Rattle.ssa_laws.proofs.lemmas.reaching_definitions.Resolving.{behind-resolved, into-else, is-true, resolved-consistent}
use Rattle.ssa_laws.proofs.lemmas.reaching_definitions.Solved.{back-told, solved-resolves}
use Rattle.ssa_laws.proofs.lemmas.reaching_definitions.Tabled.{begins, few}
use Rattle.ssa_laws.specs.reaching_definitions.Laws.{IsArgument, IsTabled}
use Rattle.ssa_laws.specs.reaching_definitions.Tables.{AreConsistent, AreResolved, Tables, behind, kept, resolve}
use Rattle.ssa_laws.specs.reaching_definitions.Told.{FromBack, FromNext, FromStart, IsSolved, Source, table_of}

pub resolved-solved : ResolvedAreSolved
resolved-solved code args gets v find operands resolved = record {
  fixed = resolved.fixed;
  gone = λ k y z a get gone source.
      let t = operands.numbered k y a get in
      let get' : gets k a ≡ Some (base_of code args + t.0) = get ∙ ap Some t.2 in
      let s = (operands.sources k t.0 z a get').0 source in
      resolved.gone t.0 z t.1 (λ e. gone (ap find t.2 ∙ e ∙ sym t.2)) s ∙ ap find (sym t.2);
}

module _ (code : List Instr) (args : ℕ) (gets : ℕ → Location → Option ℕ) (v : OperandsView) (find : ℕ → ℕ) (sound : AreSitesSound code) (tabled : IsTabled code args gets) (operands : AreOperands code args gets v) (resolved : IsResolved v (base_of code args) find) where
  abbrev n : Tables
  n = table_of code args gets

  abbrev Argument : ℕ → Type 0
  Argument = IsArgument args

  solved : IsSolved code n args (base_of code args) find
  solved = resolved-solved code args gets v find operands resolved

  consistent : AreConsistent code n Argument
  consistent = tabled-consistent code args gets tabled.leads tabled.wanted Argument (begins args) (few args)

  resolves : AreResolved code n Argument find
  resolves = solved-resolves code args gets tabled.leads tabled.wanted Argument (begins args) (few args) tabled.argued tabled.opens find solved

  -- no reached `get` that stays is set from itself alone
  never-alone : (k y : ℕ) (a : Location) → gets k a ≡ Some y → find y ≡ y → ((z : ℕ) → Source code n args k a z → find z ≡ y) → ⊥
  never-alone k y a get stays alone =
      own-only code sound (resolve n find) Argument (resolved-consistent code n Argument consistent find resolves) (length r.walk) k y a kept-get start next back r.walk (omega arith) r.is r.ends
    where
      r : IsReached code k
      r = tabled.wanted.reached k y a get

      kept-get : kept find (gets k a) ≡ Some y
      kept-get = ap (kept find) get ∙ ap (λ b. cond b (Some y) None) (is-true code n Argument consistent find resolves y stays)

      start : k ≡ 0 → ⊥
      start e =
          let get' : gets 0 a ≡ Some y = ap (λ i. gets i a) (sym e) ∙ get in
          let x = tabled.argued a (tabled.wanted.live 0 y a get') in
          let low = few args x.0 (a, x.1) in
          let same : x.0 ≡ y = sym (solved.fixed x.0 (omega (arith, low))) ∙ alone x.0 (FromStart e x.1) in
          let high = tabled.wanted.above k y a get in
          omega (arith, low, same, high)

      next : (walk : List Branch) (w : Branch) → IsWalk code walk → In w (branches_at code (end_of walk)) → w.aborts ≡ false → w.to ≡ k → behind code (resolve n find) (end_of walk) a ≡ Some y
      next walk w is among ab e =
          let live = subst (λ i. (z : ℕ) × (gets i a ≡ Some z)) (sym e) (y, get) in
          let t = edge-told code args gets tabled.leads tabled.wanted Argument (begins args) (few args) tabled.argued walk w a is among ab (tabled.wanted.live w.to live.0 a live.1) in
          behind-resolved code n Argument consistent find resolves (end_of walk) t.0 a (record { walk = walk; is = is; ends = refl }) t.1 ∙ ap Some (alone t.0 (FromNext walk w is among ab e t.1))

      back : (walk : List Branch) (w : Branch) → IsWalk code walk → In w (branches_at code (end_of walk)) → w.aborts ≡ true → w.to ≡ k → (s : ℕ) (sites : List ℕ) → sites_of code walk ≡ s ∷ sites → (resolve n find).into s a ≡ Some y
      back walk w is among ab e s sites open_sites =
          let live = subst (λ i. (z : ℕ) × (gets i a ≡ Some z)) (sym e) (y, get) in
          let t = back-told code args gets tabled.leads tabled.wanted Argument (begins args) (few args) tabled.argued tabled.opens walk w a is among ab s sites open_sites (tabled.wanted.live w.to live.0 a live.1) in
          into-else code n Argument consistent find resolves s t.0 a (none (gets s a) refl) t.1 ∙ ap Some (alone t.0 (FromBack walk w s sites is among ab e open_sites t.1))
        where
          -- a site is no label, so it has no `get`
          none : (o : Option ℕ) → gets s a ≡ o → gets s a ≡ None
          none None g = g
          none (Some z) g = absurd (let l = tabled.wanted.label s z a g in label-no_site code walk s l.0 (subst (In s) (sym open_sites) (inl refl)) l.1)

  needed : (k y : ℕ) (a : Location) → gets k a ≡ Some y → find y ≡ y → HasTwoSources code args gets find k y a
  needed k y a get stays = by (resolved.left t.0 t.1 (sym (ap find t.2) ∙ stays ∙ t.2))
    where
      t : (t : ℕ) × (t < v.gets) × (y ≡ base_of code args + t)
      t = operands.numbered k y a get

      get' : gets k a ≡ Some (base_of code args + t.0)
      get' = get ∙ ap Some t.2

      by : Stays v (base_of code args) find t.0 → HasTwoSources code args gets find k y a
      by (inl two) = record {
        first = two.first;
        second = two.second;
        is_first = (operands.sources k t.0 two.first a get').1 two.is_first;
        is_second = (operands.sources k t.0 two.second a get').1 two.is_second;
        differ = two.differ;
        other_first = λ e. two.other_first (e ∙ t.2);
        other_second = λ e. two.other_second (e ∙ t.2);
      }
      by (inr own) = absurd (never-alone k y a get stays (λ z s. own z ((operands.sources k t.0 z a get').0 s) ∙ sym t.2))

pub left-needed : LeftAreNeeded
left-needed code args gets v find sound tabled operands resolved k y a get stays = needed code args gets v find sound tabled operands resolved k y a get stays
