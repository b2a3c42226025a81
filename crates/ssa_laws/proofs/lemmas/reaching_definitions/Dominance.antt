-- Where the tables agree along each branch, no location has a definition just before that definition stands: the classic
-- law that a definition dominates its uses, by walks.
use Rattle.std.proofs.Common.{◌≡◌, ◌⊎◌, ℕ, zero, suc, ◌≤◌, Bool, true, false, List, [], ◌∷◌, length, Option, Some, None, refl, sym, ap, subst, ◌∙◌, inl, inr, ⊎_elim, cond, arith}
use Rattle.std.specs.Prelude.{slice_get}
use Rattle.std.proofs.lemmas.Option.{same_Some}
use Rattle.bril_tree.specs.declared.numbered.Instr.{Instr}
use Rattle.bril_tree.specs.Edge.{Branch, branches_at}
use Rattle.bril_tree.specs.Operand.{Location}
use Rattle.bril_tree.specs.Sites.{AreSitesSound, Change, Opens, Closes, Keeps, change_of, sites_of, sites_changed, without_newest}
use Rattle.bril_tree.specs.Walk.{IsWalk, IsReached, end_of}
use Rattle.bril_tree.specs.Membership.{In}
use Rattle.bril_tree.proofs.Members.{in_contains}
use Rattle.flow_graph.proofs.Told.{some_site}
use Rattle.bril_tree.proofs.Shapes.{closing_needs}
use Rattle.bril_tree.proofs.Branches.{aborts-close}
use Rattle.bril_tree.proofs.Branches.{branches_from-leave}
use Rattle.ssa_laws.specs.inserted_copies.Inserted.{is_copy, destination, source}
use Rattle.ssa_laws.specs.reaching_definitions.Tables.{Tables, is_dest, passed, else_passed, behind, Defines, Writes, Gets, AreConsistent}

-- ---- parts of walks

-- the first is the second without some of its newest branches
abbrev pub Part : List Branch → List Branch → Type 0
Part u [] = u ≡ []
Part u (e ∷ w) = (u ≡ e ∷ w) ⊎ Part u w

pub part-long : (u w : List Branch) → Part u w → length u ≤ length w
part-long u [] e = let l = ap length e in omega arith
part-long u (x ∷ w) (inl e) = let l = ap length e in omega arith
part-long u (x ∷ w) (inr p) = let h = part-long u w p in omega arith

pub part-walk : (code : List Instr) (u w : List Branch) → Part u w → IsWalk code w → IsWalk code u
part-walk code u [] e is = subst (IsWalk code) (sym e) is
part-walk code u (x ∷ w) (inl e) is = subst (IsWalk code) (sym e) is
part-walk code u (x ∷ w) (inr p) is = part-walk code u w p is.1

part-on : (v u w : List Branch) → Part v u → Part u w → Part v w
part-on v u [] p e = let none : [] ≡ u = sym e in nothing v u none p
  where
    nothing : (v u : List Branch) → [] ≡ u → Part v u → v ≡ []
    nothing v [] e p = p
    nothing v (x ∷ u) e p = absurd cc
part-on v u (x ∷ w) p (inl e) = subst (Part v) e p
part-on v u (x ∷ w) p (inr q) = inr (part-on v u w p q)

-- a walk to an open site is part of the walk
in_rest : (s : ℕ) (ss : List ℕ) → In s (without_newest ss) → In s ss
in_rest s [] i = i
in_rest s (t ∷ ss) i = inr i

pub record Opened (code : List Instr) (w : List Branch) (s : ℕ) : Type 0 where
  pub branch : Branch
  pub walk : List Branch
  pub part : Part (branch ∷ walk) w
  pub ends : end_of walk ≡ s

pub opened : (code : List Instr) (w : List Branch) (s : ℕ) → IsWalk code w → In s (sites_of code w) → Opened code w s
opened code [] s is i = absurd i
opened code (x ∷ w) s is i = by (λ j. opened code w s is.1 j) (change_of code x) i
  where
    more : (In s (sites_of code w) → Opened code w s) → In s (sites_of code w) → Opened code (x ∷ w) s
    more rec j = let h = rec j in record { branch = h.branch; walk = h.walk; part = inr h.part; ends = h.ends }

    by : (In s (sites_of code w) → Opened code w s) → (c : Change) → In s (sites_changed c x.from (sites_of code w)) → Opened code (x ∷ w) s
    by rec Opens (inl e) = record { branch = x; walk = w; part = inl refl; ends = sym (branches_from-leave code (end_of w) (slice_get code (end_of w)) x (in_contains x (branches_at code (end_of w)) is.0)) ∙ sym e }
    by rec Opens (inr j) = more rec j
    by rec Closes j = more rec (in_rest s (sites_of code w) j)
    by rec Keeps j = more rec j

pub dest-there : (o : Option ℕ) (a : Location) → is_dest o a ≡ true → (x : ℕ) × (o ≡ Some x)
dest-there None a e = absurd cc
dest-there (Some x) a e = (x, refl)

module _ (code : List Instr) (sound : AreSitesSound code) (n : Tables) (IsArgument : ℕ → Type 0) (c : AreConsistent code n IsArgument) where
  -- ---- what is behind an item

  pub Before : ℕ → ℕ → Type 0
  Before i y = (a : Location) × (n.into i a ≡ Some y)

  passed-cases : (i y : ℕ) (a : Location) (o : Option Instr) → slice_get code i ≡ o → (d e : Bool) → is_copy o ≡ d → is_dest (destination o) a ≡ e → cond d (n.into i (source o a)) (cond e (Some (n.writes i)) (n.into i a)) ≡ Some y → Defines code n i y ⊎ ((b : Location) × (n.into i b ≡ Some y))
  passed-cases i y a o at true e dc de h = inr (source o a, h)
  passed-cases i y a o at false true dc de h = let x = dest-there (destination o) a de in inl (Writes x.0 (ap is_copy at ∙ dc) (ap destination at ∙ x.1) (same_Some _ _ h))
  passed-cases i y a o at false false dc de h = inr (a, h)

  pub behind-cases : (i y : ℕ) (a : Location) → behind code n i a ≡ Some y → Defines code n i y ⊎ ((b : Location) × (n.into i b ≡ Some y))
  behind-cases i y a h = by (n.gets i a) refl h
    where
      by : (g : Option ℕ) → n.gets i a ≡ g → else_passed g (passed n (slice_get code i) i a) ≡ Some y → Defines code n i y ⊎ ((b : Location) × (n.into i b ≡ Some y))
      by None e k = passed-cases i y a (slice_get code i) refl (is_copy (slice_get code i)) (is_dest (destination (slice_get code i)) a) refl refl k
      by (Some z) e k = inl (Gets a (e ∙ k))

  -- ---- where a definition comes from

  -- the walk passes a point that is the definition
  pub record PassedBy (walk : List Branch) (y : ℕ) : Type 0 where
    pub branch : Branch
    pub rest : List Branch
    pub part : Part (branch ∷ rest) walk
    pub defines : Defines code n (end_of rest) y

  longer : (u w : List Branch) (y : ℕ) → Part u w → PassedBy u y → PassedBy w y
  longer u w y p h = record { branch = h.branch; rest = h.rest; part = part-on (h.branch ∷ h.rest) u w h.part p; defines = h.defines }

  part-self : (w : List Branch) → Part w w
  part-self [] = refl
  part-self (x ∷ w) = inl refl

  pub comes-from : (m : ℕ) (walk : List Branch) → length walk ≤ m → IsWalk code walk → (a : Location) (y : ℕ) → n.into (end_of walk) a ≡ Some y → IsArgument y ⊎ PassedBy walk y
  comes-from m [] l is a y h = inl (c.start a y h)
  comes-from zero (x ∷ walk) l is a y h = absurd (omega arith)
  comes-from (suc m) (x ∷ walk) l is a y h = by (λ u k is' b e. comes-from m u k is' b y e) x.aborts refl
    where
      Rec : Type 0
      Rec = (u : List Branch) → length u ≤ m → IsWalk code u → (b : Location) → n.into (end_of u) b ≡ Some y → IsArgument y ⊎ PassedBy u y

      among : In x (branches_at code (end_of walk))
      among = in_contains x (branches_at code (end_of walk)) is.0

      earlier : Rec → (b : Location) → n.into (end_of walk) b ≡ Some y → IsArgument y ⊎ PassedBy (x ∷ walk) y
      earlier rec b e = ⊎_elim (λ k. inl k) (λ k. inr (longer walk (x ∷ walk) y (inr (part-self walk)) k)) (rec walk (omega arith) is.1 b e)

      at_site : Rec → (ss : List ℕ) → sites_of code walk ≡ ss → x.aborts ≡ true → IsArgument y ⊎ PassedBy (x ∷ walk) y
      at_site rec [] e ab =
          let close = aborts-close code (end_of walk) (slice_get code (end_of walk)) x among ab in
          absurd (some_site code walk sound is.1 (closing_needs (slice_get code (end_of walk)) true close) e)
      at_site rec (s ∷ ss) e ab =
          let o = opened code walk s is.1 (subst (In s) (sym e) (inl refl)) in
          let held : n.into (end_of o.walk) a ≡ Some y = ap (λ k. n.into k a) o.ends ∙ c.back walk x a y is.1 among ab s ss e h in
          let long = part-long (o.branch ∷ o.walk) walk o.part in
          let is' = part-walk code (o.branch ∷ o.walk) walk o.part is.1 in
          ⊎_elim (λ k. inl k) (λ k. inr (longer o.walk (x ∷ walk) y (inr (part-on o.walk (o.branch ∷ o.walk) walk (inr (part-self o.walk)) o.part)) k)) (rec o.walk (omega arith) is'.1 a held)

      by : Rec → (b : Bool) → x.aborts ≡ b → IsArgument y ⊎ PassedBy (x ∷ walk) y
      by rec true e = at_site rec (sites_of code walk) refl e
      by rec false e = ⊎_elim (λ d. inr (record { branch = x; rest = walk; part = inl refl; defines = d })) (λ b. earlier rec b.0 b.1) (behind-cases (end_of walk) y a (c.next walk x a y is.1 among e h))

  -- no location has a definition before it
  descent : (m : ℕ) (walk : List Branch) → length walk ≤ m → IsWalk code walk → (a : Location) (y : ℕ) → Defines code n (end_of walk) y → n.into (end_of walk) a ≡ Some y → ⊥
  descent zero walk l is a y d h = ⊎_elim (λ k. c.apart (end_of walk) y (record { walk = walk; is = is; ends = refl }) d k) (λ k. let long = part-long (k.branch ∷ k.rest) walk k.part in omega arith) (comes-from (length walk) walk (omega arith) is a y h)
  descent (suc m) walk l is a y d h =
      ⊎_elim (λ k. c.apart (end_of walk) y (record { walk = walk; is = is; ends = refl }) d k)
      (λ k.
      let long = part-long (k.branch ∷ k.rest) walk k.part in
      let is' = part-walk code (k.branch ∷ k.rest) walk k.part is in
      let same : end_of k.rest ≡ end_of walk = c.once (end_of k.rest) (end_of walk) y (record { walk = k.rest; is = is'.1; ends = refl }) (record { walk = walk; is = is; ends = refl }) k.defines d in
      descent m k.rest (omega arith) is'.1 a y k.defines (ap (λ i. n.into i a) same ∙ h))
      (comes-from (length walk) walk (omega arith) is a y h)

  pub never-own : (i : ℕ) → IsReached code i → (a : Location) (y : ℕ) → Defines code n i y → n.into i a ≡ Some y → ⊥
  never-own i reached a y d h =
      descent (length reached.walk) reached.walk (omega arith) reached.is a y (subst (λ k. Defines code n k y) (sym reached.ends) d) (ap (λ k. n.into k a) reached.ends ∙ h)

  -- ---- a `get` of a reachable label is set from another definition somewhere

  -- where a walk passes the definition there is a shorter walk to its label
  pub own-only : (m : ℕ) (k y : ℕ) (a : Location) → n.gets k a ≡ Some y → (k ≡ 0 → ⊥)
      → ((walk : List Branch) (w : Branch) → IsWalk code walk → In w (branches_at code (end_of walk)) → w.aborts ≡ false → w.to ≡ k → behind code n (end_of walk) a ≡ Some y)
      → ((walk : List Branch) (w : Branch) → IsWalk code walk → In w (branches_at code (end_of walk)) → w.aborts ≡ true → w.to ≡ k → (s : ℕ) (sites : List ℕ) → sites_of code walk ≡ s ∷ sites → n.into s a ≡ Some y)
      → (walk : List Branch) → length walk ≤ m → IsWalk code walk → end_of walk ≡ k → ⊥
  own-only m k y a get first next back [] l is e = first (sym e)
  own-only zero k y a get first next back (x ∷ walk) l is e = absurd (omega arith)
  own-only (suc m) k y a get first next back (x ∷ walk) l is e = by (λ u k' is' e'. own-only m k y a get first next back u k' is' e') x.aborts refl
    where
      Rec : Type 0
      Rec = (u : List Branch) → length u ≤ m → IsWalk code u → end_of u ≡ k → ⊥

      among : In x (branches_at code (end_of walk))
      among = in_contains x (branches_at code (end_of walk)) is.0

      here : IsReached code k
      here = record { walk = x ∷ walk; is = is; ends = e }

      back-to : Rec → (u : List Branch) → length u ≤ suc m → IsWalk code u → (b : Location) → n.into (end_of u) b ≡ Some y → ⊥
      back-to rec u l is b h =
          ⊎_elim (λ g. c.apart k y here (Gets a get) g)
          (λ p.
          let long = part-long (p.branch ∷ p.rest) u p.part in
          let is' = part-walk code (p.branch ∷ p.rest) u p.part is in
          rec p.rest (omega arith) is'.1 (c.once (end_of p.rest) k y (record { walk = p.rest; is = is'.1; ends = refl }) here p.defines (Gets a get)))
          (comes-from (length u) u (omega arith) is b y h)

      at_site : Rec → (ss : List ℕ) → sites_of code walk ≡ ss → x.aborts ≡ true → ⊥
      at_site rec [] q ab = some_site code walk sound is.1 (closing_needs (slice_get code (end_of walk)) true (aborts-close code (end_of walk) (slice_get code (end_of walk)) x among ab)) q
      at_site rec (s ∷ ss) q ab =
          let o = opened code walk s is.1 (subst (In s) (sym q) (inl refl)) in
          let long = part-long (o.branch ∷ o.walk) walk o.part in
          let is' = part-walk code (o.branch ∷ o.walk) walk o.part is.1 in
          back-to rec o.walk (omega arith) is'.1 a (ap (λ j. n.into j a) o.ends ∙ back walk x is.1 among ab e s ss q)

      by : Rec → (b : Bool) → x.aborts ≡ b → ⊥
      by rec true ab = at_site rec (sites_of code walk) refl ab
      by rec false ab =
          ⊎_elim (λ d. rec walk (omega arith) is.1 (c.once (end_of walk) k y (record { walk = walk; is = is.1; ends = refl }) here d (Gets a get)))
          (λ b. back-to rec walk (omega arith) is.1 b.0 b.1) (behind-cases (end_of walk) y a (next walk x is.1 among ab e))
