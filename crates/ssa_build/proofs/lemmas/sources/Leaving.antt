-- What a `get` is set from is what the tables tell where edges to its label leave.
use Rattle.std.proofs.Common.{◌≡◌, ℕ, zero, suc, ◌+◌, ◌<◌, Bool, true, false, cond, List, [], ◌∷◌, length, Option, Some, None, refl, sym, ap, subst, ◌∙◌, inl, arith}
use Rattle.std.specs.Prelude.{slice_get}
use Rattle.std.proofs.lemmas.Option.{slice_get_within}
use Rattle.bril_tree.specs.declared.edge.Edge.{Edge}
use Rattle.bril_tree.specs.declared.numbered.Instr.{Instr}
use Rattle.bril_tree.specs.declared.numbered.Instr.TheVariants.{Label, Const, Act}
use Rattle.bril_tree.specs.declared.operation.Op.TheVariants as op
use Rattle.bril_tree.specs.Edge.{Branch, branches_at, branches_from}
use Rattle.bril_tree.specs.Leaving.{IsEdge, edge_of, leave_of}
use Rattle.bril_tree.specs.Membership.{In}
use Rattle.bril_tree.specs.Operand.{Location}
use Rattle.bril_tree.specs.Sites.{AreSitesSound, Opens, item_change, sites_of}
use Rattle.bril_tree.specs.Walk.{IsWalk, end_of}
use Rattle.bril_tree.proofs.Assignments.{site_speculates}
use Rattle.bril_tree.proofs.Branches.{aborts-close, branch_from}
use Rattle.bril_tree.proofs.Members.{contains_in, in_contains}
use Rattle.bril_tree.proofs.Shapes.{closing_needs}
use Rattle.flow_graph.proofs.Told.{some_site}
use Rattle.ssa_search.specs.accesses.Entries.{EntersAt}
use Rattle.ssa_laws.specs.inserted_copies.Inserted.{is_copy, destination, source}
use Rattle.ssa_build.specs.operands.Operands.{base_of}
use Rattle.ssa_build.specs.sources.Sweeping.{IsSetAt, leave_at, told_at}
use Rattle.ssa_laws.proofs.lemmas.reaching_definitions.Items.{assigned-plain, dest-in, label-no_site}
use Rattle.ssa_laws.proofs.lemmas.reaching_definitions.Made.{edge-told}
use Rattle.ssa_laws.proofs.lemmas.reaching_definitions.Solved.{back-told}
use Rattle.ssa_laws.proofs.lemmas.reaching_definitions.Tabled.{begins, few}
use Rattle.ssa_laws.specs.reaching_definitions.Laws.{IsArgument, IsTabled}
use Rattle.ssa_laws.specs.reaching_definitions.Tables.{Tables, behind, else_passed, is_dest, passed}
use Rattle.ssa_laws.specs.reaching_definitions.Told.{FromBack, FromNext, FromStart, Source, table_of}
use Rattle.ssa_search.specs.placing.Wanted.{is_label}

-- what opens a site copies nothing
opens-plain : (o : Option Instr) → item_change o false ≡ Opens → is_copy o ≡ false
opens-plain None e = absurd cc
opens-plain (Some (Label l)) e = refl
opens-plain (Some (Const d ty v)) e = refl
opens-plain (Some (Act d ty op.Get args fns ls)) e = absurd cc
opens-plain (Some (Act d ty op.Set args fns ls)) e = absurd cc
opens-plain (Some (Act d ty _ args fns ls)) e = refl

item-within : (code : List Instr) (p : ℕ) (w : Branch) → In w (branches_at code p) → p < length code
item-within code p w among = by (slice_get code p) refl
  where
    by : (o : Option Instr) → slice_get code p ≡ o → p < length code
    by None at = absurd (subst (λ o. In w (branches_from code p o)) at among)
    by (Some item) at = slice_get_within code p item at

site-within : (code : List Instr) (walk : List Branch) (s : ℕ) → In s (sites_of code walk) → s < length code
site-within code walk s inside = by (slice_get code s) refl
  where
    by : (o : Option Instr) → slice_get code s ≡ o → s < length code
    by None at = absurd (let h : item_change None false ≡ Opens = ap (λ o. item_change o false) (sym at) ∙ site_speculates code walk s inside in cc)
    by (Some item) at = slice_get_within code s item at

module _ (code : List Instr) (args : ℕ) (gets : ℕ → Location → Option ℕ) (sound : AreSitesSound code) (tabled : IsTabled code args gets) where
  abbrev n : Tables
  n = table_of code args gets

  -- behind a site the tables tell what they tell before it
  pub site-behind : (walk : List Branch) → IsWalk code walk → (s : ℕ) → In s (sites_of code walk) → (a : Location) → behind code n s a ≡ n.into s a
  site-behind walk is s inside a =
      ap (λ x. else_passed x (passed n (slice_get code s) s a)) (none (gets s a) refl)
      ∙ ap (λ d. cond d (n.into s (source (slice_get code s) a)) (cond (is_dest (destination (slice_get code s)) a) (Some (n.writes s)) (n.into s a))) plain
      ∙ ap (λ d. cond d (Some (n.writes s)) (n.into s a)) (no-dest (is_dest (destination (slice_get code s)) a) refl)
    where
      none : (o : Option ℕ) → gets s a ≡ o → gets s a ≡ None
      none None g = g
      none (Some z) g = absurd (let l = tabled.wanted.label s z a g in label-no_site code walk s l.0 inside l.1)

      plain : is_copy (slice_get code s) ≡ false
      plain = opens-plain (slice_get code s) (site_speculates code walk s inside)

      no-dest : (b : Bool) → is_dest (destination (slice_get code s)) a ≡ b → is_dest (destination (slice_get code s)) a ≡ false
      no-dest false e = e
      no-dest true e = absurd (subst (In a) (tabled.opens s walk is inside) (subst (In a) (sym (assigned-plain (slice_get code s) plain)) (dest-in (destination (slice_get code s)) a e)))

  -- how an edge leaves
  data Way (p k : ℕ) : Type 0 where
    Next : (walk : List Branch) (w : Branch) → IsWalk code walk → In w (branches_at code (end_of walk)) → w.aborts ≡ false → end_of walk ≡ p → w.to ≡ k → Way p k
    Back : (walk : List Branch) (w : Branch) (s : ℕ) (sites : List ℕ) → IsWalk code walk → In w (branches_at code (end_of walk)) → w.aborts ≡ true → sites_of code walk ≡ s ∷ sites → s ≡ p → w.to ≡ k → Way p k

  way : (p k : ℕ) → EntersAt code (Some p) k → Way p k
  way p k en = by e.branch.aborts refl (sites_of code e.walk) refl
    where
      edge : Edge
      edge = en.1.0

      e : IsEdge code en.1.0
      e = en.1.1

      among : In e.branch (branches_at code (end_of e.walk))
      among = in_contains e.branch (branches_at code (end_of e.walk)) e.at

      to : e.branch.to ≡ k
      to = ap (λ (x : Edge). x.to) (sym e.are) ∙ en.1.3

      leave : (b : Bool) → e.branch.aborts ≡ b → (sites : List ℕ) → sites_of code e.walk ≡ sites → leave_of b e.branch.from sites ≡ p
      leave b aborts sites are = sym (ap (λ (x : Edge). x.leave) e.are ∙ ap (λ b. leave_of b e.branch.from (sites_of code e.walk)) aborts ∙ ap (leave_of b e.branch.from) are) ∙ en.1.2

      by : (b : Bool) → e.branch.aborts ≡ b → (sites : List ℕ) → sites_of code e.walk ≡ sites → Way p k
      by false plain sites are = Next e.walk e.branch e.is among plain (sym (branch_from code (end_of e.walk) e.branch among) ∙ leave false plain sites are) to
      by true aborts [] none = absurd (some_site code e.walk sound e.is (closing_needs (slice_get code (end_of e.walk)) true (aborts-close code (end_of e.walk) (slice_get code (end_of e.walk)) e.branch among aborts)) none)
      by true aborts (s ∷ older) are = Back e.walk e.branch s older e.is among aborts are (leave true aborts (s ∷ older) are) to

  first-site : (walk : List Branch) (s : ℕ) (sites : List ℕ) → sites_of code walk ≡ s ∷ sites → In s (sites_of code walk)
  first-site walk s sites are = subst (In s) (sym are) (inl refl)

  -- what an operand is set from is a source
  pub set-source : (key t z : ℕ) (x : IsSetAt code args gets key t z) → Source code n args x.label x.location z
  set-source zero t z x = FromStart x.enters.1 x.told
  set-source (suc p) t z x = by (way p x.label x.enters)
    where
      by : Way p x.label → Source code n args x.label x.location z
      by (Next walk w is among ab at to) = FromNext walk w is among ab to (ap (λ i. behind code n i x.location) at ∙ x.told)
      by (Back walk w s sites is among ab are at to) = FromBack walk w s sites is among ab to are (sym (site-behind walk is s (first-site walk s sites are) x.location) ∙ ap (λ i. behind code n i x.location) at ∙ x.told)

  enters-is : (k y : ℕ) (a : Location) → gets k a ≡ Some y → is_label (slice_get code k) ≡ true
  enters-is k y a get = ap is_label (tabled.wanted.label k y a get).1

  edge-by : (walk : List Branch) (w : Branch) (k p y : ℕ) (a : Location) → gets k a ≡ Some y → IsWalk code walk → In w (branches_at code (end_of walk)) → w.to ≡ k → leave_of w.aborts w.from (sites_of code walk) ≡ p → EntersAt code (Some p) k
  edge-by walk w k p y a get is among to leaves =
      (enters-is k y a get, (edge_of (sites_of code walk) w, record { walk = walk; is = is; branch = w; at = contains_in w (branches_at code (end_of walk)) among; are = refl }, leaves, to))

  -- and each source is one that some operand is set from
  pub source-set : (k t z : ℕ) (a : Location) → gets k a ≡ Some (base_of code args + t) → Source code n args k a z → (key : ℕ) × (key < suc (length code)) × IsSetAt code args gets key t z
  source-set k t z a get (FromStart first told) = (0, omega arith, record { label = k; location = a; enters = (enters-is k (base_of code args + t) a get, first); get = get; told = told })
  source-set k t z a get (FromNext walk w is among ab to told) =
      let leaves : leave_of w.aborts w.from (sites_of code walk) ≡ end_of walk = ap (λ b. leave_of b w.from (sites_of code walk)) ab ∙ branch_from code (end_of walk) w among in (
        suc (end_of walk),
        (let l = item-within code (end_of walk) w among in omega (arith, l)),
        record { label = k; location = a; enters = edge-by walk w k (end_of walk) (base_of code args + t) a get is among to leaves; get = get; told = told },
      )
  source-set k t z a get (FromBack walk w s sites is among ab to are told) =
      let leaves : leave_of w.aborts w.from (sites_of code walk) ≡ s = ap (λ b. leave_of b w.from (sites_of code walk)) ab ∙ ap (leave_of true w.from) are in
      let inside = first-site walk s sites are in (
        suc s,
        (let l = site-within code walk s inside in omega (arith, l)),
        record { label = k; location = a; enters = edge-by walk w k s (base_of code args + t) a get is among to leaves; get = get; told = site-behind walk is s inside a ∙ told },
      )

  -- where an edge leaves to a label, the tables tell of what it sets there
  pub told-there : (key k y : ℕ) (a : Location) → EntersAt code (leave_at key) k → gets k a ≡ Some y → (z : ℕ) × (told_at code args gets key a ≡ Some z)
  told-there zero k y a en get = tabled.argued a (tabled.wanted.live 0 y a (ap (λ i. gets i a) (sym en.1) ∙ get))
  told-there (suc p) k y a en get = by (way p k en)
    where
      by : Way p k → (z : ℕ) × (behind code n p a ≡ Some z)
      by (Next walk w is among ab at to) =
          let live = tabled.wanted.live w.to y a (ap (λ i. gets i a) to ∙ get) in
          let t = edge-told code args gets tabled.leads tabled.wanted (IsArgument args) (begins args) (few args) tabled.argued walk w a is among ab live in
          (t.0, ap (λ i. behind code n i a) (sym at) ∙ t.1)
      by (Back walk w s sites is among ab are at to) =
          let live = tabled.wanted.live w.to y a (ap (λ i. gets i a) to ∙ get) in
          let t = back-told code args gets tabled.leads tabled.wanted (IsArgument args) (begins args) (few args) tabled.argued tabled.opens walk w a is among ab s sites are live in
          (t.0, ap (λ i. behind code n i a) (sym at) ∙ site-behind walk is s (first-site walk s sites are) a ∙ t.1)
