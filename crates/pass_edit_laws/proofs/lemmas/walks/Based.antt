-- The walks of the new function are accepted where each of them stands over a walk of the old one, perhaps with sites
-- of its own.
use Rattle.std.proofs.Common.{◌≡◌, ℕ, suc, ◌+◌, ◌≤◌, Bool, true, List, [], ◌∷◌, ◌++◌, length, Some, None, refl, sym, ap, subst, ◌∙◌, ⊎_elim, arith}
use Rattle.std.specs.Prelude.{slice_get, IsTrue}
use Rattle.std.specs.List.{Contains}
use Rattle.std.proofs.lemmas.Bool.{cases_lt}
use Rattle.std.proofs.lemmas.List.{length-append, nil_from_length}
use Rattle.std.proofs.lemmas.Option.{slice_get_past}
use Rattle.bril_tree.specs.declared.numbered.Instr.{Instr}
use Rattle.bril_tree.specs.declared.program.Prog.{Prog}
use Rattle.bril_tree.specs.Accepted.{IsAccepted, leaves_frame, AreWalksAccepted}
use Rattle.bril_tree.specs.Assigned.{assigned_of, IsMaybeUnassigned}
use Rattle.bril_tree.specs.Edge.{Branch, branches_at}
use Rattle.bril_tree.specs.Operand.{Location, reads_of}
use Rattle.bril_tree.specs.Sites.{AreSitesSound, TooMany, NoSite, Others, AreFirstSites, sites_of, sites_behind, needs_site, most_sites}
use Rattle.bril_tree.specs.Step.{code_of, item_at}
use Rattle.bril_tree.specs.Walk.{IsWalk, IsReached, end_of}
use Rattle.bril_tree.specs.Membership.{In}
use Rattle.bril_tree.proofs.Assignments.{in_or_not}
use Rattle.bril_tree.proofs.Branches.{walk_within}
use Rattle.bril_tree.proofs.Members.{in_contains, contains_in}
use Rattle.bril_tree.proofs.Elements.{past_end}
use Rattle.flow_graph.proofs.OpenSites.{sound_walks_agree}
use Rattle.flow_graph.proofs.Told.{first_sites, some_site}
use Rattle.pass_edit_laws.specs.plan.Plan.{Plan, PointItemsMatch, Preserves}
use Rattle.pass_edit_laws.specs.walks.Matched.{SavedSetsMatch, MatchedWalk}
use Rattle.pass_edit_laws.proofs.lemmas.walks.Items.{leaves_same, needs_same, reads_same, none_same}

-- ---- open sites of sound code

-- at most eight are open
pub few_sites : (code : List Instr) → AreSitesSound code → (w : List Branch) → IsWalk code w → length (sites_of code w) ≤ most_sites
few_sites code sound w is = ⊎_elim (λ many. absurd (sound (end_of w) (TooMany (record { sites = sites_of code w; first = first_sites code w sound is; many = many })))) (λ few. few) (cases_lt most_sites (length (sites_of code w)))

-- all walks to one point have one list
pub sites_agree : (code : List Instr) → AreSitesSound code → (w v : List Branch) → IsWalk code w → IsWalk code v → end_of w ≡ end_of v → sites_of code w ≡ sites_of code v
sites_agree code sound w v is is' e = sound_walks_agree code sound w is (sites_of code v) (subst (λ n. AreFirstSites code n (sites_of code v)) (sym e) (first_sites code v sound is'))

-- ---- lists that match

module _ (m : Plan) (P Q : Prog) (f args result_args : ℕ) where
  pub same_length : (ss ts : List ℕ) (xs ys : List (List Location)) → SavedSetsMatch m P Q f args result_args ss ts xs ys → length ss ≡ length ts
  same_length [] [] [] [] h = refl
  same_length (s ∷ ss) (t ∷ ts) (x ∷ xs) (y ∷ ys) h = ap suc (same_length ss ts xs ys h.1)
  same_length _ _ _ _ h = absurd h

  none_matched : (us : List ℕ) (zs ws : List (List Location)) → SavedSetsMatch m P Q f args result_args [] us zs ws → [] ≡ us
  none_matched [] [] [] k = refl
  none_matched _ _ _ k = absurd k

  record FirstMatched (s : ℕ) (ss us : List ℕ) : Type 0 where
    u : ℕ
    rest : List ℕ
    zs : List (List Location)
    ws : List (List Location)
    is : us ≡ u ∷ rest
    points : m.PointsMatch f s u
    regular : m.IsRegular f s u
    tail : SavedSetsMatch m P Q f args result_args ss rest zs ws

  first_matched : (s : ℕ) (ss us : List ℕ) (zs ws : List (List Location)) → SavedSetsMatch m P Q f args result_args (s ∷ ss) us zs ws → FirstMatched s ss us
  first_matched s ss (u ∷ us) (z ∷ zs) (w ∷ ws) k = record { u = u; rest = us; zs = zs; ws = ws; is = refl; points = k.0.0; regular = k.0.1; tail = k.1 }
  first_matched s ss _ _ _ k = absurd k

  pub one_list : ((s t u : ℕ) → m.PointsMatch f s t → m.IsRegular f s t → m.PointsMatch f s u → m.IsRegular f s u → t ≡ u) → (ss ts us : List ℕ) (xs ys zs ws : List (List Location)) → SavedSetsMatch m P Q f args result_args ss ts xs ys → SavedSetsMatch m P Q f args result_args ss us zs ws → ts ≡ us
  one_list once [] [] us [] [] zs ws h k = none_matched us zs ws k
  one_list once (s ∷ ss) (t ∷ ts) us (x ∷ xs) (y ∷ ys) zs ws h k =
      let c = first_matched s ss us zs ws k in
      let e = once s t c.u h.0.0 h.0.1 c.points c.regular in
      let r = one_list once ss ts c.rest xs ys c.zs c.ws h.1 c.tail in
      (λ i. e i ∷ r i) ∙ sym c.is
  one_list once _ _ _ _ _ _ _ h k = absurd h

-- ---- walks of Q over walks of P

module _ (m : Plan) (P Q : Prog) (f args result_args : ℕ) (ret : Bool) where
  -- what acceptance asks at the end of a walk of Q
  pub record Fine (v : List Branch) : Type 0 where
    pub needs : IsTrue (needs_site (slice_get (code_of Q f) (end_of v))) → sites_of (code_of Q f) v ≡ [] → ⊥
    pub alone : IsTrue (leaves_frame (slice_get (code_of Q f) (end_of v))) → sites_of (code_of Q f) v ≡ []
    pub reads : (item : Instr) (location : Location) → slice_get (code_of Q f) (end_of v) ≡ Some item → In location (reads_of item) → In location (assigned_of (code_of Q f) result_args v).locations
    pub returns : ret ≡ true → slice_get (code_of Q f) (end_of v) ≡ None → ⊥

  -- a walk of P whose sites are those of v but for v's own
  pub record Based (v : List Branch) : Type 0 where
    pub base : List Branch
    pub is : IsWalk (code_of P f) base
    pub own : List ℕ
    pub rest : List ℕ
    pub xs : List (List Location)
    pub ys : List (List Location)
    pub sites : sites_of (code_of Q f) v ≡ own ++ rest
    pub zipped : SavedSetsMatch m P Q f args result_args (sites_of (code_of P f) base) rest xs ys
    pub few : length own + length (sites_of (code_of P f) base) ≤ most_sites
    pub fine : Fine v

  module _ (was : AreWalksAccepted (code_of P f) args ret) where
    -- over a walk whose sites match its own, with none besides
    abbrev pub based_on : (v base : List Branch) → IsWalk (code_of P f) base → (xs ys : List (List Location)) → SavedSetsMatch m P Q f args result_args (sites_of (code_of P f) base) (sites_of (code_of Q f) v) xs ys → Fine v → Based v
    based_on v base is xs ys zipped fine = record {
      base = base;
      is = is;
      own = [];
      rest = sites_of (code_of Q f) v;
      xs = xs;
      ys = ys;
      sites = refl;
      zipped = zipped;
      few = (let h = few_sites (code_of P f) was.sites base is in omega arith);
      fine = fine;
    }

    -- at a regular pair all is as in P
    pub regular-fine : IsAccepted P → Preserves m P Q → (v : List Branch) (l : MatchedWalk m P Q f args result_args v) → m.IsRegular f (end_of l.walk) (end_of v) → Fine v
    regular-fine accepted preserves v l regular = record { needs = needs; alone = alone; reads = reads; returns = returns }
      where
        same : PointItemsMatch (m.LocationsMatch f (end_of l.walk) (end_of v)) (item_at P f (end_of l.walk)) (item_at Q f (end_of v))
        same = (preserves.steps f (end_of l.walk) (end_of v) (record { walk = l.walk; is = l.matches.is; ends = refl }) l.matches.points regular).same

        counted : length (sites_of (code_of P f) l.walk) ≡ length (sites_of (code_of Q f) v)
        counted = same_length m P Q f args result_args (sites_of (code_of P f) l.walk) (sites_of (code_of Q f) v) _ _ l.matches.saved

        needs : IsTrue (needs_site (slice_get (code_of Q f) (end_of v))) → sites_of (code_of Q f) v ≡ [] → ⊥
        needs h none = some_site (code_of P f) l.walk was.sites l.matches.is (needs_same _ _ _ same ∙ h) (nil_from_length _ (counted ∙ ap length none))

        alone : IsTrue (leaves_frame (slice_get (code_of Q f) (end_of v))) → sites_of (code_of Q f) v ≡ []
        alone h = nil_from_length _ (sym counted ∙ ap length (was.alone l.walk l.matches.is (leaves_same _ _ _ same ∙ h)))

        reads : (item : Instr) (location : Location) → slice_get (code_of Q f) (end_of v) ≡ Some item → In location (reads_of item) → In location (assigned_of (code_of Q f) result_args v).locations
        reads item location at among =
            let x = reads_same _ (item_at P f (end_of l.walk)) item location (subst (λ o. PointItemsMatch (m.LocationsMatch f (end_of l.walk) (end_of v)) (item_at P f (end_of l.walk)) o) at same) among in
            ⊎_elim (λ i. l.matches.locations x.1 location x.4 i)
            (λ n. absurd (was.assigned (end_of l.walk) x.0 x.1 x.2 (contains_in x.1 (reads_of x.0) x.3) (record { walk = l.walk; is = l.matches.is; ends = refl; lacks = λ c. n (in_contains x.1 _ c) })))
            (in_or_not x.1 (assigned_of (code_of P f) args l.walk).locations)

        returns : ret ≡ true → slice_get (code_of Q f) (end_of v) ≡ None → ⊥
        returns e none =
            let gone : item_at P f (end_of l.walk) ≡ None = none_same _ _ _ none same in
            let high = past_end (code_of P f) (end_of l.walk) gone in
            let low = walk_within (code_of P f) l.walk l.matches.is in
            was.returns e (record { walk = l.walk; is = l.matches.is; ends = omega arith })

    module _ (once : (s t u : ℕ) → m.PointsMatch f s t → m.IsRegular f s t → m.PointsMatch f s u → m.IsRegular f s u → t ≡ u) (all : (v : List Branch) → IsWalk (code_of Q f) v → Based v)
        (agree : (v v' : List Branch) (is : IsWalk (code_of Q f) v) (is' : IsWalk (code_of Q f) v') → end_of v ≡ end_of v' → ((all v is).own ≡ (all v' is').own) × (end_of (all v is).base ≡ end_of (all v' is').base)) where
      new_agree : (v v' : List Branch) → IsWalk (code_of Q f) v → IsWalk (code_of Q f) v' → end_of v ≡ end_of v' → sites_of (code_of Q f) v ≡ sites_of (code_of Q f) v'
      new_agree v v' is is' e =
          let b = all v is in
          let b' = all v' is' in
          let a = agree v v' is is' e in
          let same = sites_agree (code_of P f) was.sites b.base b'.base b.is b'.is a.1 in
          let r = one_list m P Q f args result_args once (sites_of (code_of P f) b'.base) b.rest b'.rest b.xs b.ys b'.xs b'.ys (subst (λ ss. SavedSetsMatch m P Q f args result_args ss b.rest b.xs b.ys) same b.zipped) b'.zipped in
          b.sites ∙ ap (λ o. o ++ b.rest) a.0 ∙ ap (λ l. b'.own ++ l) r ∙ sym b'.sites

      new_sound : AreSitesSound (code_of Q f)
      new_sound point (TooMany t) =
          let b = all t.first.walk t.first.first.is in
          let many = t.many in
          let few = b.few in
          let l = length-append b.own b.rest in
          let c = same_length m P Q f args result_args (sites_of (code_of P f) b.base) b.rest b.xs b.ys b.zipped in
          let e : length t.sites ≡ length (b.own ++ b.rest) = ap length (sym t.first.are) ∙ ap length b.sites in
          omega arith
      new_sound point (NoSite n) =
          let b = all n.first.walk n.first.first.is in
          b.fine.needs (subst (λ k. IsTrue (needs_site (slice_get (code_of Q f) k))) (sym n.first.first.ends) n.needs) n.first.are
      new_sound point (Others o) =
          let code = code_of Q f in
          let w = o.first_before.walk in
          let at : Contains (branches_at code (end_of w)) o.branch = subst (λ k. Contains (branches_at code k) o.branch) (sym o.first_before.first.ends) o.at in
          let same = new_agree (o.branch ∷ w) o.first.walk (at, o.first_before.first.is) o.first.first.is (o.to ∙ sym o.first.first.ends) in
          o.other (ap (sites_behind code o.branch) (sym o.first_before.are) ∙ same ∙ o.first.are)

      new_assigned : (point : ℕ) (item : Instr) (location : Location) → slice_get (code_of Q f) point ≡ Some item → Contains (reads_of item) location → ¬ IsMaybeUnassigned (code_of Q f) result_args location point
      new_assigned point item location at among u =
          u.lacks (contains_in location _ ((all u.walk u.is).fine.reads item location (ap (slice_get (code_of Q f)) u.ends ∙ at) (in_contains location (reads_of item) among)))

      new_returns : ret ≡ true → ¬ IsReached (code_of Q f) (length (code_of Q f))
      new_returns e reached = (all reached.walk reached.is).fine.returns e (ap (slice_get (code_of Q f)) reached.ends ∙ slice_get_past (code_of Q f) (length (code_of Q f)) (omega arith))

      pub based_walks_accepted : AreWalksAccepted (code_of Q f) result_args ret
      based_walks_accepted = record { sites = new_sound; alone = λ v is h. (all v is).fine.alone h; returns = new_returns; assigned = new_assigned }
