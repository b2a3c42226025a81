-- Where walks lead, which edges a function has, and where a location is live can be decided.
use Rattle.std.proofs.Common.{◌≡◌, ℕ, ◌<◌, Bool, true, false, List, [], ◌∷◌, ◌++◌, length, map, Option, Some, None, refl, sym, ap, subst, ◌∙◌, inl, inr, ⊎_elim, arith}
use Rattle.std.specs.Prelude.{slice_get}
use Rattle.std.specs.List.{Contains, flat_map, range_with_len}
use Rattle.std.proofs.lemmas.Option.{same_Some, slice_get_within}
use Rattle.bril_tree.specs.Assigned.{assigns_at}
use Rattle.bril_tree.specs.declared.edge.Edge.{Edge}
use Rattle.bril_tree.specs.declared.numbered.Instr.{Instr}
use Rattle.bril_tree.specs.Edge.{Branch, branches_at, branches_from}
use Rattle.bril_tree.specs.Leaving.{AbortsFrom, IsEdge, Leaves, edge_of}
use Rattle.bril_tree.specs.Live.{IsLive, Here, Later}
use Rattle.bril_tree.specs.Membership.{In}
use Rattle.bril_tree.specs.Operand.{Location, reads_of}
use Rattle.bril_tree.specs.Sites.{AreSitesSound, sites_of}
use Rattle.bril_tree.specs.Walk.{IsWalk, IsReached, end_of}
use Rattle.bril_tree.proofs.Assignments.{in_or_not}
use Rattle.bril_tree.proofs.LabelPoints.{in_range}
use Rattle.bril_tree.proofs.Members.{contains_in, in_append_cases, in_append_left, in_append_right, in_contains, in_flat_map, in_flat_map_source, in_map, in_map_source}
use Rattle.flow_graph.proofs.Told.{same_sites}
use Rattle.ssa_laws.proofs.lemmas.live_entries.Reaching.{Onward, Path, Start, Step, decide-path, join}
use Rattle.bril_tree.proofs.Deciding.{Decided}
use Rattle.ssa_laws.proofs.lemmas.live_entries.Selecting.{any-of, in-select, select, select-in}

module _ (code : List Instr) where
  branch-within : (o : Option Instr) (p : ℕ) → slice_get code p ≡ o → (b : Branch) → In b (branches_from code p o) → p < length code
  branch-within None p at b i = absurd i
  branch-within (Some item) p at b i = slice_get_within code p item at

  in-points : (p : ℕ) (b : Branch) → In b (branches_at code p) → In p (range_with_len 0 (length code))
  in-points p b i = in_range 0 (length code) p (omega arith) (let l = branch-within (slice_get code p) p refl b i in omega (arith, l))

  -- ---- walks

  abbrev step_of : ℕ → Branch → Step
  step_of p b = record { from = p; to = b.to }

  abbrev walk-steps : List Step
  walk-steps = flat_map (λ p. map (step_of p) (branches_at code p)) (range_with_len 0 (length code))

  walk-path : (walk : List Branch) → IsWalk code walk → Path walk-steps 0 (end_of walk)
  walk-path [] is = Start 0 refl
  walk-path (b ∷ walk) is =
      let i = in_contains b (branches_at code (end_of walk)) is.0 in
      Onward (end_of walk) b.to (walk-path walk is.1) (in_flat_map (λ p. map (step_of p) (branches_at code p)) (end_of walk) (step_of (end_of walk) b) (range_with_len 0 (length code)) (in-points (end_of walk) b i) (in_map (step_of (end_of walk)) b (branches_at code (end_of walk)) i))

  path-walk : (p : ℕ) → Path walk-steps 0 p → IsReached code p
  path-walk p (Start _ e) = record { walk = []; is = tt; ends = sym e }
  path-walk p (Onward mid _ q i) =
      let r = path-walk mid q in
      let s = in_flat_map_source (λ p. map (step_of p) (branches_at code p)) (record { from = mid; to = p }) (range_with_len 0 (length code)) i in
      let b = in_map_source (step_of s.0) (record { from = mid; to = p }) (branches_at code s.0) s.2 in
      let from : s.0 ≡ mid = sym (ap (λ (x : Step). x.from) b.2) in
      let to : b.0.to ≡ p = sym (ap (λ (x : Step). x.to) b.2) in
      let among : In b.0 (branches_at code (end_of r.walk)) = subst (λ k. In b.0 (branches_at code k)) (from ∙ sym r.ends) b.1 in
      record { walk = b.0 ∷ r.walk; is = (contains_in b.0 (branches_at code (end_of r.walk)) among, r.is); ends = to }

  pub decide-reached : (p : ℕ) → Decided (IsReached code p)
  decide-reached p = ⊎_elim (λ q. inl (path-walk p q)) (λ n. inr (λ r. n (subst (Path walk-steps 0) r.ends (walk-path r.walk r.is)))) (decide-path walk-steps 0 p)

  module _ (sound : AreSitesSound code) where
    -- ---- edges

    edges-by : (p : ℕ) → Decided (IsReached code p) → List Edge
    edges-by p (inl r) = map (edge_of (sites_of code r.walk)) (branches_at code p)
    edges-by p (inr n) = []

    pub all-edges : List Edge
    all-edges = flat_map (λ p. edges-by p (decide-reached p)) (range_with_len 0 (length code))

    edge-by-there : (walk : List Branch) (is : IsWalk code walk) (b : Branch) → In b (branches_at code (end_of walk)) → (d : Decided (IsReached code (end_of walk))) → In (edge_of (sites_of code walk) b) (edges-by (end_of walk) d)
    unfolding edges-by
    edge-by-there walk is b i (inl r) = subst (λ s. In (edge_of s b) (map (edge_of (sites_of code r.walk)) (branches_at code (end_of walk)))) (same_sites code sound r.walk walk r.is is r.ends) (in_map (edge_of (sites_of code r.walk)) b (branches_at code (end_of walk)) i)
    edge-by-there walk is b i (inr n) = absurd (n (record { walk = walk; is = is; ends = refl }))

    edge-by-only : (p : ℕ) (edge : Edge) (d : Decided (IsReached code p)) → In edge (edges-by p d) → IsEdge code edge
    unfolding edges-by
    edge-by-only p edge (inl r) i =
        let s = in_map_source (edge_of (sites_of code r.walk)) edge (branches_at code p) i in
        record { walk = r.walk; is = r.is; branch = s.0; at = contains_in s.0 (branches_at code (end_of r.walk)) (subst (λ k. In s.0 (branches_at code k)) (sym r.ends) s.1); are = s.2 }
    edge-by-only p edge (inr n) i = absurd i

    pub edge-there : (edge : Edge) → IsEdge code edge → In edge all-edges
    unfolding all-edges
    edge-there edge e =
        let i = in_contains e.branch (branches_at code (end_of e.walk)) e.at in
        subst (λ x. In x (flat_map (λ p. edges-by p (decide-reached p)) (range_with_len 0 (length code)))) (sym e.are)
        (in_flat_map (λ p. edges-by p (decide-reached p)) (end_of e.walk) (edge_of (sites_of code e.walk) e.branch) (range_with_len 0 (length code)) (in-points (end_of e.walk) e.branch i) (edge-by-there e.walk e.is e.branch i (decide-reached (end_of e.walk))))

    pub edge-only : (edge : Edge) → In edge all-edges → IsEdge code edge
    unfolding all-edges
    edge-only edge i =
        let s = in_flat_map_source (λ p. edges-by p (decide-reached p)) edge (range_with_len 0 (length code)) i in
        edge-by-only s.0 edge (decide-reached s.0) s.2

    -- ---- steps of liveness

    aborts-or_not : (b : Branch) (t : Bool) → b.aborts ≡ t → Decided (b.aborts ≡ true)
    aborts-or_not b true e = inl e
    aborts-or_not b false e = inr (λ h. let x : true ≡ false = sym h ∙ e in cc)

    decide-aborts : (b : Branch) → Decided (b.aborts ≡ true)
    decide-aborts b = aborts-or_not b b.aborts refl

    plain-or_not : (b : Branch) (t : Bool) → b.aborts ≡ t → Decided (b.aborts ≡ false)
    plain-or_not b true e = inr (λ h. let x : true ≡ false = sym e ∙ h in cc)
    plain-or_not b false e = inl e

    decide-plain : (b : Branch) → Decided (b.aborts ≡ false)
    decide-plain b = plain-or_not b b.aborts refl

    abbrev plain-branches : ℕ → List Branch
    plain-branches p = select (λ b. b.aborts ≡ false) decide-plain (branches_at code p)

    abbrev abort-branches : ℕ → List Branch
    abort-branches p = select (λ b. b.aborts ≡ true) decide-aborts (branches_at code p)

    -- the aborts from a guard with these open sites
    abbrev site-steps : List ℕ → ℕ → List Step
    site-steps [] p = []
    site-steps (s ∷ older) p = map (step_of s) (abort-branches p)

    abort-steps : (p : ℕ) → Decided (IsReached code p) → List Step
    abort-steps p (inl r) = site-steps (sites_of code r.walk) p
    abort-steps p (inr n) = []

    abbrev plain-part : List Step
    plain-part = flat_map (λ p. map (step_of p) (plain-branches p)) (range_with_len 0 (length code))

    abbrev abort-part : List Step
    abort-part = flat_map (λ p. abort-steps p (decide-reached p)) (range_with_len 0 (length code))

    site-there : (s : ℕ) (older sites : List ℕ) (p : ℕ) (b : Branch) → sites ≡ s ∷ older → In b (abort-branches p) → In (step_of s b) (site-steps sites p)
    site-there s older sites p b e i = subst (λ l. In (step_of s b) (site-steps l p)) (sym e) (in_map (step_of s) b (abort-branches p) i)

    abort-there : (point : ℕ) (b : Branch) (a : AbortsFrom code point b) (d : Decided (IsReached code (end_of a.walk))) → In (step_of point b) (abort-steps (end_of a.walk) d)
    unfolding abort-steps
    abort-there point b a (inl r) =
        site-there point a.older (sites_of code r.walk) (end_of a.walk) b (same_sites code sound r.walk a.walk r.is a.is r.ends ∙ a.sites)
        (in-select (λ b. b.aborts ≡ true) decide-aborts (branches_at code (end_of a.walk)) b (in_contains b (branches_at code (end_of a.walk)) a.at) a.aborts)
    abort-there point b a (inr n) = absurd (n (record { walk = a.walk; is = a.is; ends = refl }))

    abbrev Leaving : Step → Type 0
    Leaving s = (b : Branch) × Leaves code s.from b × (b.to ≡ s.to)

    site-only : (walk : List Branch) (is : IsWalk code walk) (sites : List ℕ) → sites_of code walk ≡ sites → (s : Step) → In s (site-steps sites (end_of walk)) → Leaving s
    site-only walk is [] e s i = absurd i
    site-only walk is (newest ∷ older) e s i =
        let m = in_map_source (step_of newest) s (abort-branches (end_of walk)) i in
        let k = select-in (λ b. b.aborts ≡ true) decide-aborts (branches_at code (end_of walk)) m.0 m.1 in
        let from : newest ≡ s.from = sym (ap (λ (x : Step). x.from) m.2) in
        (m.0, inr (record { aborts = k.1; walk = walk; is = is; at = contains_in m.0 (branches_at code (end_of walk)) k.0; older = older; sites = e ∙ ap (λ n. n ∷ older) from }), sym (ap (λ (x : Step). x.to) m.2))

    abort-only : (p : ℕ) (d : Decided (IsReached code p)) (s : Step) → In s (abort-steps p d) → Leaving s
    unfolding abort-steps
    abort-only p (inl r) s i = site-only r.walk r.is (sites_of code r.walk) refl s (subst (λ k. In s (site-steps (sites_of code r.walk) k)) (sym r.ends) i)
    abort-only p (inr n) s i = absurd i

    live-steps : List Step
    live-steps = plain-part ++ abort-part

    leaves-step : (point : ℕ) (b : Branch) → Leaves code point b → In (step_of point b) live-steps
    unfolding live-steps
    leaves-step point b (inl plain) =
        let i = in_contains b (branches_at code point) plain.0 in
        in_append_left (step_of point b) plain-part abort-part
        (in_flat_map (λ p. map (step_of p) (plain-branches p)) point (step_of point b) (range_with_len 0 (length code)) (in-points point b i)
        (in_map (step_of point) b (plain-branches point) (in-select (λ b. b.aborts ≡ false) decide-plain (branches_at code point) b i plain.1)))
    leaves-step point b (inr a) =
        let i = in_contains b (branches_at code (end_of a.walk)) a.at in
        in_append_right (step_of point b) plain-part abort-part
        (in_flat_map (λ p. abort-steps p (decide-reached p)) (end_of a.walk) (step_of point b) (range_with_len 0 (length code)) (in-points (end_of a.walk) b i) (abort-there point b a (decide-reached (end_of a.walk))))

    step-leaves : (s : Step) → In s live-steps → Leaving s
    unfolding live-steps
    step-leaves s i = ⊎_elim
        (λ j.
        let f = in_flat_map_source (λ p. map (step_of p) (plain-branches p)) s (range_with_len 0 (length code)) j in
        let m = in_map_source (step_of f.0) s (plain-branches f.0) f.2 in
        let k = select-in (λ b. b.aborts ≡ false) decide-plain (branches_at code f.0) m.0 m.1 in
        let from : f.0 ≡ s.from = sym (ap (λ (x : Step). x.from) m.2) in
        (m.0, inl (subst (λ p. Contains (branches_at code p) m.0) from (contains_in m.0 (branches_at code f.0) k.0), k.1), sym (ap (λ (x : Step). x.to) m.2)))
        (λ j. let f = in_flat_map_source (λ p. abort-steps p (decide-reached p)) s (range_with_len 0 (length code)) j in abort-only f.0 (decide-reached f.0) s f.2)
        (in_append_cases s plain-part abort-part i)

    -- ---- liveness

    module _ (a : Location) where
      abbrev Free : Step → Type 0
      Free s = In a (assigns_at (slice_get code s.from)) → ⊥

      decide-free : (s : Step) → Decided (Free s)
      decide-free s = ⊎_elim (λ i. inr (λ f. f i)) (λ n. inl n) (in_or_not a (assigns_at (slice_get code s.from)))

      abbrev free-steps : List Step
      free-steps = select Free decide-free live-steps

      -- an item reads it
      abbrev Reads : ℕ → Type 0
      Reads q = (item : Instr) × (slice_get code q ≡ Some item) × In a (reads_of item)

      decide-reads : (q : ℕ) → Decided (Reads q)
      decide-reads q = by (slice_get code q) refl
        where
          by : (o : Option Instr) → slice_get code q ≡ o → Decided (Reads q)
          by None at = inr (λ r. let x : None ≡ Some r.0 = sym at ∙ r.1 in cc)
          by (Some item) at = ⊎_elim (λ i. inl (item, at, i)) (λ n. inr (λ r. n (subst (λ x. In a (reads_of x)) (same_Some r.0 item (sym r.1 ∙ at)) r.2))) (in_or_not a (reads_of item))

      abbrev ReadAhead : ℕ → ℕ → Type 0
      ReadAhead k q = Reads q × Path free-steps k q

      decide-ahead : (k q : ℕ) → Decided (ReadAhead k q)
      decide-ahead k q = ⊎_elim
          (λ r. ⊎_elim (λ p. inl (r, p)) (λ n. inr (λ h. n h.1)) (decide-path free-steps k q))
          (λ n. inr (λ h. n h.0))
          (decide-reads q)

      live-ahead : (k : ℕ) → IsLive code a k → (q : ℕ) × ReadAhead k q
      live-ahead k (Here _ item at reads) = (k, ((item, at, in_contains a (reads_of item) reads), Start k refl))
      live-ahead k (Later _ b leaves none live) =
          let r = live-ahead b.to live in
          let i = in-select Free decide-free live-steps (step_of k b) (leaves-step k b leaves) (λ j. none (contains_in a (assigns_at (slice_get code k)) j)) in
          (r.0, (r.1.0, join free-steps k b.to r.0 (Onward k b.to (Start k refl) i) r.1.1))

      path-live : (k to : ℕ) → Path free-steps k to → IsLive code a to → IsLive code a k
      path-live k to (Start _ e) live = subst (IsLive code a) e live
      path-live k to (Onward mid _ p i) live =
          let s = select-in Free decide-free live-steps (record { from = mid; to = to }) i in
          let l = step-leaves (record { from = mid; to = to }) s.0 in
          path-live k mid p (Later mid l.0 l.1 (λ c. s.1 (in_contains a (assigns_at (slice_get code mid)) c)) (subst (IsLive code a) (sym l.2) live))

      ahead-live : (k q : ℕ) → ReadAhead k q → IsLive code a k
      ahead-live k q r = path-live k q r.1 (Here q r.0.0 r.0.1 (contains_in a (reads_of r.0.0) r.0.2))

      reads-within : (q : ℕ) → Reads q → In q (range_with_len 0 (length code))
      reads-within q r = in_range 0 (length code) q (omega arith) (let l = slice_get_within code q r.0 r.1 in omega (arith, l))

      pub decide-live : (k : ℕ) → Decided (IsLive code a k)
      decide-live k = ⊎_elim
          (λ h. inl (ahead-live k h.0 h.2))
          (λ n. inr (λ live. let r = live-ahead k live in n (r.0, reads-within r.0 r.1.0, r.1)))
          (any-of (ReadAhead k) (decide-ahead k) (range_with_len 0 (length code)))

      -- what is live is read somewhere
      pub live-read : (k : ℕ) → IsLive code a k → (q : ℕ) × (item : Instr) × (slice_get code q ≡ Some item) × In a (reads_of item)
      live-read k live = let r = live-ahead k live in (r.0, r.1.0.0, r.1.0.1, r.1.0.2)
