-- The tables kept agree where all trivial `get`s are left out at once.
use Rattle.std.proofs.Common.{◌≡◌, ◌⊎◌, ℕ, Bool, true, false, List, ◌∷◌, Option, Some, None, refl, sym, ap, subst, ◌∙◌, inl, inr, ⊎_elim, cond}
use Rattle.std.specs.Prelude.{slice_get, ◌==◌}
use Rattle.std.proofs.lemmas.Option.{same_Some}
use Rattle.std.proofs.lemmas.Bool.{eqb-true, eqb-false}
use Rattle.bril_tree.specs.declared.numbered.Instr.{Instr}
use Rattle.bril_tree.specs.declared.numbered.Instr.TheVariants.{Label}
use Rattle.bril_tree.specs.Edge.{Branch, branches_at}
use Rattle.bril_tree.specs.Operand.{Location}
use Rattle.bril_tree.specs.Sites.{sites_of}
use Rattle.bril_tree.specs.Walk.{IsWalk, IsReached, end_of}
use Rattle.bril_tree.specs.Membership.{In}
use Rattle.ssa_laws.specs.inserted_copies.Inserted.{is_copy, destination, source}
use Rattle.ssa_laws.specs.reaching_definitions.Tables.{Tables, is_dest, passed, else_passed, behind, Defines, Writes, Gets, AreConsistent, kept, replaced, resolved, resolve, AreResolved}
use Rattle.ssa_laws.proofs.lemmas.reaching_definitions.Items.{label-no_site}
use Rattle.ssa_laws.proofs.lemmas.reaching_definitions.Dominance.{opened as site-walk, part-walk, dest-there}

module _ (code : List Instr) (n : Tables) (IsArgument : ℕ → Type 0) (c : AreConsistent code n IsArgument) (find : ℕ → ℕ) (r : AreResolved code n IsArgument find) where
  abbrev m : Tables
  m = resolve n find

  -- a `get` that stays, and one that is left out
  stays : (y : ℕ) → (find y ≡ y) ⊎ (find y ≡ y → ⊥)
  stays y = by (find y == y) refl
    where
      by : (d : Bool) → (find y == y) ≡ d → (find y ≡ y) ⊎ (find y ≡ y → ⊥)
      by true e = inl (eqb-true (find y) y e)
      by false e = inr (eqb-false (find y) y e)

  pub is-true : (y : ℕ) → find y ≡ y → (find y == y) ≡ true
  is-true y e = by (find y == y) refl
    where
      by : (d : Bool) → (find y == y) ≡ d → (find y == y) ≡ true
      by true h = h
      by false h = absurd (eqb-false (find y) y h e)

  is-false : (y : ℕ) → (find y ≡ y → ⊥) → (find y == y) ≡ false
  is-false y k = by (find y == y) refl
    where
      by : (d : Bool) → (find y == y) ≡ d → (find y == y) ≡ false
      by true h = absurd (k (eqb-true (find y) y h))
      by false h = h

  gets-back : (i y : ℕ) (a : Location) → m.gets i a ≡ Some y → n.gets i a ≡ Some y
  gets-back i y a e = by (n.gets i a) refl e
    where
      by_test : (u : ℕ) (d : Bool) → n.gets i a ≡ Some u → cond d (Some u) None ≡ Some y → n.gets i a ≡ Some y
      by_test u true g h = g ∙ h
      by_test u false g h = absurd (let x : None ≡ Some y = h in cc)

      by : (o : Option ℕ) → n.gets i a ≡ o → kept find o ≡ Some y → n.gets i a ≡ Some y
      by None g h = absurd cc
      by (Some u) g h = by_test u (find u == u) g h

  defines-back : (i y : ℕ) → Defines code m i y → Defines code n i y
  defines-back i y (Writes x p d e) = Writes x p d e
  defines-back i y (Gets a e) = Gets a (gets-back i y a e)

  found-some : (o : Option ℕ) (z : ℕ) → replaced find o ≡ Some z → (u : ℕ) × (o ≡ Some u) × (find u ≡ z)
  found-some None z e = absurd cc
  found-some (Some u) z e = (u, refl, same_Some _ _ e)

  -- what a location has just before an item: of a `get` that is left out, or what it had
  into-cases : (i z : ℕ) (a : Location) → m.into i a ≡ Some z → ((y : ℕ) × (n.gets i a ≡ Some y) × (find y ≡ y → ⊥) × (find y ≡ z)) ⊎ ((u : ℕ) × (n.into i a ≡ Some u) × (find u ≡ z))
  into-cases i z a e = by (n.gets i a) refl e
    where
      by : (o : Option ℕ) → n.gets i a ≡ o → resolved find o (n.into i a) ≡ Some z → ((y : ℕ) × (n.gets i a ≡ Some y) × (find y ≡ y → ⊥) × (find y ≡ z)) ⊎ ((u : ℕ) × (n.into i a ≡ Some u) × (find u ≡ z))
      by None g h = inr (found-some (n.into i a) z h)
      by (Some y) g h = ⊎_elim
          (λ s. inr (found-some (n.into i a) z (sym (ap (λ d. cond d (replaced find (n.into i a)) (Some (find y))) (is-true y s)) ∙ h)))
          (λ s. inl (y, g, s, same_Some _ _ (sym (ap (λ d. cond d (replaced find (n.into i a)) (Some (find y))) (is-false y s)) ∙ h))) (stays y)

  pub into-else : (i u : ℕ) (a : Location) → n.gets i a ≡ None → n.into i a ≡ Some u → m.into i a ≡ Some (find u)
  into-else i u a g e = ap (λ o. resolved find o (n.into i a)) g ∙ ap (replaced find) e

  -- only labels have `get`s
  none-got : (i : ℕ) (a : Location) → IsReached code i → ((l : ℕ) → slice_get code i ≡ Some (Label l) → ⊥) → n.gets i a ≡ None
  none-got i a reached k = by (n.gets i a) refl
    where
      by : (o : Option ℕ) → n.gets i a ≡ o → n.gets i a ≡ None
      by None e = e
      by (Some y) e = absurd (let l = c.plain i y a reached e in k l.0 l.1)

  pub behind-resolved : (i z : ℕ) (a : Location) → IsReached code i → behind code n i a ≡ Some z → behind code m i a ≡ Some (find z)
  behind-resolved i z a reached h = by_get (n.gets i a) refl h
    where
      by_item : (d e : Bool) → is_copy (slice_get code i) ≡ d → is_dest (destination (slice_get code i)) a ≡ e → n.gets i a ≡ None → cond d (n.into i (source (slice_get code i) a)) (cond e (Some (n.writes i)) (n.into i a)) ≡ Some z
          → cond d (m.into i (source (slice_get code i) a)) (cond e (Some (n.writes i)) (m.into i a)) ≡ Some (find z)
      by_item true e dc de g p = into-else i z (source (slice_get code i) a) (none-got i (source (slice_get code i) a) reached (λ l at. let x : false ≡ true = sym (ap is_copy at) ∙ dc in cc)) p
      by_item false true dc de g p =
          let w : n.writes i ≡ z = same_Some _ _ p in
          let dest = dest-there (destination (slice_get code i)) a de in
          ap Some (sym (r.writes i dest.0 reached dc dest.1) ∙ ap find w)
      by_item false false dc de g p = into-else i z a g p

      by_get : (o : Option ℕ) → n.gets i a ≡ o → else_passed o (passed n (slice_get code i) i a) ≡ Some z → behind code m i a ≡ Some (find z)
      by_get None g p = ap (λ o. else_passed (kept find o) (passed m (slice_get code i) i a)) g ∙ by_item (is_copy (slice_get code i)) (is_dest (destination (slice_get code i)) a) refl refl g p
      by_get (Some y) g p = ⊎_elim
          (λ s. ap (λ o. else_passed (kept find o) (passed m (slice_get code i) i a)) g ∙ ap (λ d. else_passed (cond d (Some y) None) (passed m (slice_get code i) i a)) (is-true y s) ∙ ap Some (sym s) ∙ ap (λ k. Some (find k)) yz)
          (λ s.
          let l = c.plain i y a reached g in
          ap (λ o. else_passed (kept find o) (passed m (slice_get code i) i a)) g ∙ ap (λ d. else_passed (cond d (Some y) None) (passed m (slice_get code i) i a)) (is-false y s) ∙ ap (λ o. passed m o i a) l.1
          ∙ ap (λ o. resolved find o (n.into i a)) g ∙ ap (λ d. cond d (replaced find (n.into i a)) (Some (find y))) (is-false y s) ∙ ap (λ k. Some (find k)) yz)
          (stays y)
        where
          yz : y ≡ z
          yz = same_Some _ _ p

  pub resolved-consistent : AreConsistent code m IsArgument
  resolved-consistent = record {
    start = λ a z h. ⊎_elim (λ k. subst IsArgument k.3 (r.first a k.0 k.1 k.2)) (λ u. let g = c.start a u.0 u.1 in subst IsArgument (sym (r.arguments u.0 g) ∙ u.2) g) (into-cases 0 z a h);
    next = λ walk w a z is among e h.
        let reached : IsReached code (end_of walk) = record { walk = walk; is = is; ends = refl } in
        ⊎_elim (λ k. let g = r.next walk w a k.0 is among e k.1 k.2 in behind-resolved (end_of walk) g.0 a reached g.1 ∙ ap Some (g.2 ∙ k.3))
        (λ u. behind-resolved (end_of walk) u.0 a reached (c.next walk w a u.0 is among e u.1) ∙ ap Some u.2) (into-cases w.to z a h);
    back = λ walk w a z is among e s sites opened h. back walk w a z is among e s sites opened h;
    once = λ i j y ri rj d e. c.once i j y ri rj (defines-back i y d) (defines-back j y e);
    apart = λ i y ri d g. c.apart i y ri (defines-back i y d) g;
    single = λ i y a b ri e f. c.single i y a b ri (gets-back i y a e) (gets-back i y b f);
    plain = λ i y a ri e. c.plain i y a ri (gets-back i y a e);
  }
    where
      back : (walk : List Branch) (w : Branch) (a : Location) (z : ℕ) → IsWalk code walk → In w (branches_at code (end_of walk)) → w.aborts ≡ true → (s : ℕ) (sites : List ℕ) → sites_of code walk ≡ s ∷ sites → m.into w.to a ≡ Some z → m.into s a ≡ Some z
      back walk w a z is among e s sites opened h =
          ⊎_elim (λ k. let g = r.back walk w a k.0 is among e s sites opened k.1 k.2 in at_site g.0 g.1 ∙ ap Some (g.2 ∙ k.3))
          (λ u. at_site u.0 (c.back walk w a u.0 is among e s sites opened u.1) ∙ ap Some u.2) (into-cases w.to z a h)
        where
          -- a site has no `get`s
          at_site : (u : ℕ) → n.into s a ≡ Some u → m.into s a ≡ Some (find u)
          at_site u q = by (n.gets s a) refl
            where
              by : (o : Option ℕ) → n.gets s a ≡ o → m.into s a ≡ Some (find u)
              by None g = into-else s u a g q
              by (Some y) g =
                  let among-site : In s (sites_of code walk) = subst (In s) (sym opened) (inl refl) in
                  let o = site-walk code walk s is among-site in
                  let reached : IsReached code s = record { walk = o.walk; is = (part-walk code (o.branch ∷ o.walk) walk o.part is).1; ends = o.ends } in
                  let l = c.plain s y a reached g in
                  absurd (label-no_site code walk s l.0 among-site l.1)
