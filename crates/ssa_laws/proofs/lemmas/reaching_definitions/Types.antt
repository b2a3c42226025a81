-- What a location has at a point is a definition of its type, also once trivial `get`s are left out.
use Rattle.std.proofs.Common.{◌≡◌, ◌⊎◌, ℕ, zero, suc, ◌+◌, ◌<◌, ◌≤◌, Bool, true, false, List, [], ◌∷◌, length, Option, Some, None, refl, sym, ap, subst, ◌∙◌, inl, inr, ⊎_elim, cond, arith}
use Rattle.std.specs.Prelude.{slice_get, ◌==◌}
use Rattle.std.proofs.lemmas.Bool.{eqb-true, eqb-false}
use Rattle.std.proofs.lemmas.Option.{same_Some, slice_get_within}
use Rattle.bril_tree.specs.declared.numbered.Instr.{Instr}
use Rattle.bril_tree.specs.declared.types.Ty.{Ty}
use Rattle.bril_tree.specs.Assigned.{assigns_at}
use Rattle.bril_tree.specs.Edge.{Branch, branches_at}
use Rattle.bril_tree.specs.Live.{IsLive}
use Rattle.bril_tree.specs.Operand.{Location, Variable, Shadow}
use Rattle.bril_tree.specs.Sites.{AreSitesSound, sites_of}
use Rattle.bril_tree.specs.Walk.{IsWalk, IsReached, end_of}
use Rattle.bril_tree.specs.Membership.{In}
use Rattle.bril_tree.proofs.Members.{in_contains}
use Rattle.bril_tree.proofs.Branches.{aborts-close}
use Rattle.bril_tree.proofs.Shapes.{closing_needs}
use Rattle.flow_graph.proofs.Told.{some_site}
use Rattle.ssa_laws.specs.inserted_copies.Inserted.{is_copy, destination, source}
use Rattle.ssa_laws.specs.reaching_definitions.Tables.{Tables, is_dest, passed, else_passed, behind, Defines, Writes, Gets, AreConsistent, replaced, resolve, resolved}
use Rattle.ssa_laws.specs.reaching_definitions.Told.{LeadToLabels, argument, table_of, AreWanted, Source, FromStart, FromNext, FromBack, IsSolved, AreTyped, HasTypeOf}
use Rattle.ssa_laws.proofs.lemmas.reaching_definitions.Dominance.{opened, part-walk, part-long, PassedBy, comes-from, behind-cases}
use Rattle.ssa_laws.proofs.lemmas.reaching_definitions.Made.{tabled-consistent, edge-told, entered-same, into-next}
use Rattle.ssa_laws.proofs.lemmas.reaching_definitions.Solved.{back-told}

module _ (code : List Instr) (sound : AreSitesSound code) (args : ℕ) (gets : ℕ → Location → Option ℕ) (leads : LeadToLabels code) (wants : AreWanted code args gets) (IsArgument : ℕ → Type 0)
    (begins : (a : Location) (y : ℕ) → argument args a ≡ Some y → IsArgument y) (few : (y : ℕ) → IsArgument y → y < args)
    (argued : (a : Location) → IsLive code a 0 → (y : ℕ) × (argument args a ≡ Some y)) (opens : (s : ℕ) (walk : List Branch) → IsWalk code walk → In s (sites_of code walk) → assigns_at (slice_get code s) ≡ [])
    (find : ℕ → ℕ) (solved : IsSolved code (table_of code args gets) args (args + length code) find) (type_at : Location → Option Ty) (types : ℕ → Option Ty) (typed : AreTyped code (table_of code args gets) args type_at types) where
  abbrev n : Tables
  n = table_of code args gets

  abbrev C : AreConsistent code n IsArgument
  C = tabled-consistent code args gets leads wants IsArgument begins few

  abbrev Has : ℕ → Location → Type 0
  Has = HasTypeOf type_at types

  -- an abort has a site
  no-site : (x : Branch) (walk : List Branch) → IsWalk code walk → In x (branches_at code (end_of walk)) → x.aborts ≡ true → sites_of code walk ≡ [] → ⊥
  no-site x walk is among ab e = some_site code walk sound is (closing_needs (slice_get code (end_of walk)) true (aborts-close code (end_of walk) (slice_get code (end_of walk)) x among ab)) e

  -- ---- the tables as they are computed

  dest-at : (d : Option ℕ) (a : Location) → is_dest d a ≡ true → (x : ℕ) × (d ≡ Some x) × (a ≡ Variable x)
  dest-at None a e = absurd cc
  dest-at (Some x) (Variable y) e = (x, refl, ap Variable (eqb-true y x e))
  dest-at (Some x) (Shadow y) e = absurd cc

  passed-typed : (i : ℕ) → ((a : Location) (y : ℕ) → n.into i a ≡ Some y → Has y a) → (a : Location) (y : ℕ) → passed n (slice_get code i) i a ≡ Some y → Has y a
  passed-typed i before a y h = by (is_copy (slice_get code i)) (is_dest (destination (slice_get code i)) a) refl refl h
    where
      copy : (type_at a ≡ None) ⊎ (type_at (source (slice_get code i) a) ≡ type_at a) → Has y (source (slice_get code i) a) → Has y a
      copy (inl e) k = inl e
      copy (inr e) (inl k) = inl (sym e ∙ k)
      copy (inr e) (inr k) = inr (k ∙ e)

      by : (d e : Bool) → is_copy (slice_get code i) ≡ d → is_dest (destination (slice_get code i)) a ≡ e → cond d (n.into i (source (slice_get code i) a)) (cond e (Some (n.writes i)) (n.into i a)) ≡ Some y → Has y a
      by true e dc de k = copy (typed.copied i a dc) (before (source (slice_get code i) a) y k)
      by false true dc de k =
          let x = dest-at (destination (slice_get code i)) a de in
          inr (ap types (sym (same_Some _ _ k)) ∙ typed.write i x.0 dc x.1 ∙ ap type_at (sym x.2))
      by false false dc de k = before a y k

  behind-typed-from : (i : ℕ) → ((a : Location) (y : ℕ) → n.into i a ≡ Some y → Has y a) → (a : Location) (y : ℕ) → behind code n i a ≡ Some y → Has y a
  behind-typed-from i before a y h = by (gets i a) refl h
    where
      by : (g : Option ℕ) → gets i a ≡ g → else_passed g (passed n (slice_get code i) i a) ≡ Some y → Has y a
      by None e k = passed-typed i before a y k
      by (Some z) e k = inr (typed.get i y a (e ∙ k))

  pub into-typed : (i : ℕ) (a : Location) (y : ℕ) → n.into i a ≡ Some y → Has y a
  into-typed zero a y h = inr (typed.argument a y (entered-same (slice_get code 0) (argument args a) y h))
  into-typed (suc i) a y h = behind-typed-from i (λ b z e. into-typed i b z e) a y (into-next code args gets leads wants IsArgument begins few i y a h)

  pub behind-typed : (i : ℕ) (a : Location) (y : ℕ) → behind code n i a ≡ Some y → Has y a
  behind-typed i a y h = behind-typed-from i (λ b z e. into-typed i b z e) a y h

  -- ---- what stands for a definition has its type

  abbrev Keeps : ℕ → Type 0
  Keeps y = types (find y) ≡ types y

  fixed-keeps : (y : ℕ) → y < args + length code → Keeps y
  fixed-keeps y l = ap types (solved.fixed y l)

  written-keeps : (i x y : ℕ) → destination (slice_get code i) ≡ Some x → n.writes i ≡ y → Keeps y
  written-keeps i x y d e = fixed-keeps y (by (slice_get code i) refl)
    where
      by : (o : Option Instr) → slice_get code i ≡ o → y < args + length code
      by None at = absurd (let h = sym (ap destination at) ∙ d in cc)
      by (Some q) at = let l = slice_get_within code i q at in omega (arith, l, e)

  -- by descent on walks to the point behind which the definition is a `get`
  get-keeps : (m : ℕ) (walk : List Branch) → length walk ≤ m → IsWalk code walk → (a : Location) (y : ℕ) → gets (end_of walk) a ≡ Some y → Keeps y
  get-keeps m [] l is a y g = by (find y == y) refl
    where
      x : (z : ℕ) × (argument args a ≡ Some z)
      x = argued a (wants.live 0 y a g)

      by : (b : Bool) → (find y == y) ≡ b → Keeps y
      by true e = ap types (eqb-true (find y) y e)
      by false e =
          let less = few x.0 (begins a x.0 x.1) in
          let same : find x.0 ≡ find y = solved.gone 0 y x.0 a g (eqb-false (find y) y e) (FromStart refl x.1) in
          ap types (sym same) ∙ fixed-keeps x.0 (omega (arith, less)) ∙ typed.argument a x.0 x.1 ∙ sym (typed.get 0 y a g)
  get-keeps zero (x ∷ walk) l is a y g = absurd (omega arith)
  get-keeps (suc m) (x ∷ walk) l is a y g = by (λ u lu iu b z e. get-keeps m u lu iu b z e) (find y == y) refl
    where
      Rec : Type 0
      Rec = (u : List Branch) → length u ≤ m → IsWalk code u → (b : Location) (z : ℕ) → gets (end_of u) b ≡ Some z → Keeps z

      -- the same for what is told at the end of shorter walks
      defined : Rec → (u : List Branch) → length u ≤ m → IsWalk code u → (z : ℕ) → Defines code n (end_of u) z → Keeps z
      defined rec u lu iu z (Writes v c d e) = written-keeps (end_of u) v z d e
      defined rec u lu iu z (Gets b e) = rec u lu iu b z e

      told : Rec → (u : List Branch) → length u ≤ suc m → IsWalk code u → (b : Location) (z : ℕ) → n.into (end_of u) b ≡ Some z → Keeps z
      told rec u lu iu b z h = ⊎_elim (λ k. let less = few z k in fixed-keeps z (omega (arith, less)))
          (λ (p : PassedBy code sound n IsArgument C u z).
          let long = part-long (p.branch ∷ p.rest) u p.part in
          let is' = part-walk code (p.branch ∷ p.rest) u p.part iu in
          defined rec p.rest (omega (arith, long, lu)) is'.1 z p.defines)
          (comes-from code sound n IsArgument C (length u) u (omega arith) iu b z h)

      among : In x (branches_at code (end_of walk))
      among = in_contains x (branches_at code (end_of walk)) is.0

      have : (z : ℕ) → Has z a → types z ≡ type_at a
      have z (inl e) = absurd (let t = typed.typed x.to y a g in let q = sym e ∙ t.1 in cc)
      have z (inr e) = e

      finish : (z : ℕ) → (find y ≡ y → ⊥) → Source code n args x.to a z → Keeps z → Has z a → Keeps y
      finish z gone s k h = ap types (sym (solved.gone x.to y z a g gone s)) ∙ k ∙ have z h ∙ sym (typed.get x.to y a g)

      by_aborts : Rec → (find y ≡ y → ⊥) → (b : Bool) → x.aborts ≡ b → Keeps y
      by_aborts rec gone false ab =
          let t = edge-told code args gets leads wants IsArgument begins few argued walk x a is.1 among ab (wants.live x.to y a g) in
          finish t.0 gone (FromNext walk x is.1 among ab refl t.1)
          (⊎_elim (λ d. defined rec walk (omega arith) is.1 t.0 d) (λ b. told rec walk (omega arith) is.1 b.0 t.0 b.1) (behind-cases code sound n IsArgument C (end_of walk) t.0 a t.1))
          (behind-typed (end_of walk) a t.0 t.1)
      by_aborts rec gone true ab = at_site (sites_of code walk) refl
        where
          at_site : (ss : List ℕ) → sites_of code walk ≡ ss → Keeps y
          at_site [] e = absurd (no-site x walk is.1 among ab e)
          at_site (s ∷ ss) e =
              let t = back-told code args gets leads wants IsArgument begins few argued opens walk x a is.1 among ab s ss e (wants.live x.to y a g) in
              let o = opened code walk s is.1 (subst (In s) (sym e) (inl refl)) in
              let long = part-long (o.branch ∷ o.walk) walk o.part in
              let is' = part-walk code (o.branch ∷ o.walk) walk o.part is.1 in
              finish t.0 gone (FromBack walk x s ss is.1 among ab refl e t.1) (told rec o.walk (omega (arith, long)) is'.1 a t.0 (ap (λ k. n.into k a) o.ends ∙ t.1)) (into-typed s a t.0 t.1)

      by : Rec → (b : Bool) → (find y == y) ≡ b → Keeps y
      by rec true e = ap types (eqb-true (find y) y e)
      by rec false e = by_aborts rec (eqb-false (find y) y e) x.aborts refl

  pub told-keeps : (i : ℕ) → IsReached code i → (a : Location) (y : ℕ) → n.into i a ≡ Some y → Keeps y
  told-keeps i r a y h = ⊎_elim (λ k. let less = few y k in fixed-keeps y (omega (arith, less)))
      (λ (p : PassedBy code sound n IsArgument C r.walk y).
      let is' = part-walk code (p.branch ∷ p.rest) r.walk p.part r.is in
      defined p.rest is'.1 p.defines)
      (comes-from code sound n IsArgument C (length r.walk) r.walk (omega arith) r.is a y (ap (λ k. n.into k a) r.ends ∙ h))
    where
      defined : (u : List Branch) → IsWalk code u → Defines code n (end_of u) y → Keeps y
      defined u iu (Writes v c d e) = written-keeps (end_of u) v y d e
      defined u iu (Gets b e) = get-keeps (length u) u (omega arith) iu b y e

  -- ---- the same of the tables without the `get`s that are left out

  pub resolved-typed : (i : ℕ) → IsReached code i → (a : Location) (y : ℕ) → (resolve n find).into i a ≡ Some y → Has y a
  resolved-typed i r a y h = by (gets i a) refl (n.into i a) refl h
    where
      moved : (z : ℕ) → Keeps z → Has z a → Has (find z) a
      moved z k (inl e) = inl e
      moved z k (inr e) = inr (k ∙ e)

      by : (g : Option ℕ) → gets i a ≡ g → (o : Option ℕ) → n.into i a ≡ o → resolved find g o ≡ Some y → Has y a
      by None e None f k = absurd cc
      by None e (Some z) f k = subst (λ q. Has q a) (same_Some _ _ k) (moved z (told-keeps i r a z f) (into-typed i a z f))
      by (Some z) e o f k = by_test (find z == z) refl k
        where
          here : Keeps z
          here = get-keeps (length r.walk) r.walk (omega arith) r.is a z (ap (λ q. gets q a) r.ends ∙ e)

          by_test : (b : Bool) → (find z == z) ≡ b → cond b (replaced find o) (Some (find z)) ≡ Some y → Has y a
          by_test false q k = subst (λ u. Has u a) (same_Some _ _ k) (moved z here (inr (typed.get i z a e)))
          by_test true q k = by_into o f k
            where
              by_into : (o : Option ℕ) → n.into i a ≡ o → replaced find o ≡ Some y → Has y a
              by_into None f k = absurd cc
              by_into (Some u) f k = subst (λ w. Has w a) (same_Some _ _ k) (moved u (told-keeps i r a u f) (into-typed i a u f))
