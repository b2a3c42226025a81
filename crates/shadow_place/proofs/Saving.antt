-- The rows of marks are exactly the saved locations.
use Rattle.std.proofs.Common.{◌≡◌, ◌⊎◌, inl, inr, ⊎_elim, ℕ, zero, suc, ◌+◌, ◌-◌, ◌*◌, ◌<◌, ◌≤◌, Bool, true, false, List, [], ◌∷◌, ◌++◌, length, replicate, Some, None, nat_lt, if◌then◌else◌, refl, sym, ap, ◌∙◌, subst, arith}
use Rattle.std.specs.Prelude.{◌↔◌, IsTrue, slice_get, slice_index}
use Rattle.std.specs.List.{Contains, SomeIndex}
use Rattle.std.proofs.lemmas.List.{get_or-replicate, get_or_past, length-append, length-map, length-replicate}
use Rattle.std.proofs.lemmas.Option.{same_Some}
use Rattle.std.proofs.lemmas.Bool.{cases_lt}
use Rattle.std.proofs.lemmas.Bool.Decides.{nat_tests}
use Rattle.bril_tree.specs.declared.numbered.Instr.{Instr}
use Rattle.bril_tree.specs.declared.numbered_function.Func.{Func}
use Rattle.bril_tree.specs.Assigned.{assigns_at}
use Rattle.bril_tree.specs.Edge.{Branch, branches_at}
use Rattle.bril_tree.specs.Live.{IsLive}
use Rattle.bril_tree.specs.Membership.{In}
use Rattle.bril_tree.specs.Operand.{Location, Variable, Shadow}
use Rattle.bril_tree.specs.Sites.{AreSitesSound, Change, Opens, Closes, Keeps, item_change, most_sites, sites_of}
use Rattle.bril_tree.specs.Walk.{end_of}
use Rattle.bril_tree.proofs.Acceptance.{accepted_function}
use Rattle.bril_tree.proofs.Assignments.{Speculates, site_speculates}
use Rattle.bril_tree.proofs.Branches.{branch_inside, walk_within}
use Rattle.bril_tree.proofs.Elements.{in_index}
use Rattle.bril_tree.proofs.Members.{in_contains}
use Rattle.flow_graph.specs.Graph.{edges_to}
use Rattle.flow_graph.specs.Location.{number_of}
use Rattle.flow_graph.proofs.Locations.{number-one}
use Rattle.flow_graph.proofs.Told.{sites_of_walk}
use Rattle.graph_search.specs.declared.graph.Arc.{Arc}
use Rattle.graph_search.specs.Path.{IsReached, other_than}
use Rattle.placement_laws.specs.Homes.{IsSlotIn}
use Rattle.placement_laws.specs.Laws.{IsAssignedInside}
use Rattle.placement_laws.specs.Needed.{IsLiveOut}
use Rattle.placement_laws.specs.Open.{IsOpen, IsWayOut, IsWayOutOf, LeadsOut, StaysOpen, site_left}
use Rattle.placement_laws.specs.Saved.{IsSaved}
use Rattle.placement_laws.specs.Search.{AreGuards, AreOpenArcs}
use Rattle.placement_laws.proofs.Known.{assigned_slot}
use Rattle.placement_laws.proofs.Opening.{open_at}
use Rattle.placement_laws.proofs.Saving.{reached_lead_out, saved_inside}
use Rattle.placement_laws.proofs.Sites.{way_of_site}
use Rattle.slot_code.specs.declared.slots.SlotFunction.{SlotFunction}
use Rattle.slot_code.specs.Lowered.{AreDepths, open_count}
use Rattle.shadow_place.specs.declared.analyses.Analyses.{Analyses}
use Rattle.shadow_place.specs.Arcs.{guards_of, open_arcs_of}
use Rattle.shadow_place.specs.Marks.{AddsAll, IsMarkedBefore, IsMarkedBelow, IsMarkedIn, IsMarkedOut, first_rows, row_at, row_of_change, site_in, site_told}
use Rattle.shadow_place.specs.Placement.{AreAnalyses, AreSavedRows, IsAcceptedLowered}
use Rattle.graph_search.specs.Marks.{is_marked}
use Rattle.shadow_place.specs.Tables.{is_marked_if}
use Rattle.shadow_place.proofs.Depths.{depth_at_end, few_sites, open_arcs_are}
use Rattle.shadow_place.proofs.Guards.{guards_are}
use Rattle.shadow_place.proofs.Marking.{all_for, all_none, all_then}

newest_below : (k end : ℕ) → k < end + 1 → (k ≡ end) ⊎ (k < end)
newest_below k end less = grind arith

-- ---- labels

module _ (a : Analyses) (level : ℕ) where
  -- what a search found for a label
  pub marks_out : (label : ℕ) (arcs : List Arc) (guards found : List ℕ) (old new : List (List Bool)) → AreOpenArcs a.func.now.code level arcs → AreGuards a.func.now.code level label guards → ((point : ℕ) → Contains found point ↔ IsReached arcs guards (other_than 0) point) →
      AddsAll (IsMarkedIn a level label found) old new → AddsAll (IsMarkedOut a level label) old new
  marks_out label arcs guards found old new are every reached added =
      all_for (IsMarkedIn a level label found) (IsMarkedOut a level label) old new
      (λ s n m. record { point = m.point; leads = (law m.point).0 ((reached m.point).0 m.there); marked = m.marked })
      (λ s n m. record { point = m.point; there = (reached m.point).1 ((law m.point).1 m.leads); marked = m.marked }) added
    where
      law : (point : ℕ) → IsReached arcs guards (other_than 0) point ↔ LeadsOut a.func.now.code level label point
      law point = reached_lead_out a.func.now.code level label 0 arcs guards are every point

  -- one label more
  pub more_labels : (label : ℕ) (old middle new : List (List Bool)) → AddsAll (IsMarkedBefore a level label) old middle → AddsAll (IsMarkedOut a level label) middle new → AddsAll (IsMarkedBefore a level (label + 1)) old new
  more_labels label old middle new before next =
      all_then (IsMarkedBefore a level label) (IsMarkedOut a level label) (IsMarkedBefore a level (label + 1)) old middle new
      (λ s n m. record { label = m.label; before = (let less = m.before in omega arith); out = m.out })
      (λ s n m. record { label = label; before = omega arith; out = m }) split before next
    where
      split : (s n : ℕ) → IsMarkedBefore a level (label + 1) s n → IsMarkedBefore a level label s n ⊎ IsMarkedOut a level label s n
      split s n m = ⊎_elim (λ e. inr (subst (λ l. IsMarkedOut a level l s n) e m.out)) (λ less. inl (record { label = m.label; before = less; out = m.out })) (newest_below m.label label m.before)

-- ---- levels

module _ (a : Analyses) where
  -- one level more
  pub more_levels : (level : ℕ) (old middle new : List (List Bool)) → AddsAll (IsMarkedBelow a level) old middle → AddsAll (IsMarkedBefore a level (length a.func.now.code + 1)) middle new → AddsAll (IsMarkedBelow a (level + 1)) old new
  more_levels level old middle new before next =
      all_then (IsMarkedBelow a level) (IsMarkedBefore a level (length a.func.now.code + 1)) (IsMarkedBelow a (level + 1)) old middle new
      (λ s n m. record { level = m.level; below = (let less = m.below in omega arith); out = m.out })
      (λ s n m. record { level = level; below = omega arith; out = m }) split before next
    where
      split : (s n : ℕ) → IsMarkedBelow a (level + 1) s n → IsMarkedBelow a level s n ⊎ IsMarkedBefore a level (length a.func.now.code + 1) s n
      split s n m = ⊎_elim (λ e. inr (subst (λ l. IsMarkedBefore a l (length a.func.now.code + 1) s n) e m.out)) (λ less. inl (record { level = m.level; below = less; out = m.out })) (newest_below m.level level m.below)

-- ---- the site of a level

-- the oldest of so many sites
pub level_site : (level site : ℕ) (newer older : List ℕ) → length (site ∷ older) ≡ level → site_in level (newer ++ site ∷ older) ≡ Some site
level_site level site newer older long =
    ap (λ b. if b then None else slice_get sites (length sites - level)) (enough (length sites) total) ∙ (ap (slice_get sites) (omega (arith, total)) ∙ behind newer)
  where
    sites : List ℕ
    sites = newer ++ site ∷ older

    total : length sites ≡ length newer + level
    total = omega (arith, length-append newer (site ∷ older), long)

    enough : (n : ℕ) → n ≡ length newer + level → nat_lt n level ≡ false
    enough n e = grind (arith, nat_tests)

    behind : (xs : List ℕ) → slice_get (xs ++ site ∷ older) (length xs) ≡ Some site
    behind [] = refl
    behind (y ∷ xs) = behind xs

-- ---- rows

row_marked : (rows : List (List Bool)) (site n : ℕ) → is_marked_if (slice_get rows site) n ≡ is_marked (row_at rows site) n
row_marked [] site n = sym (get_or_past [] n false (omega arith))
row_marked (row ∷ rows) zero n = refl
row_marked (row ∷ rows) (suc site) n = row_marked rows site n

-- no row has a mark at first
unmarked : (variables : ℕ) (change : Change) (n : ℕ) → is_marked (row_of_change variables change) n ≡ false
unmarked variables Opens n = ⊎_elim (λ less. get_or-replicate (2 * variables) n false false less) (λ more. get_or_past (replicate (2 * variables) false) n false (let long = length-replicate (2 * variables) false in omega arith)) (cases_lt n (2 * variables))
unmarked variables Closes n = refl
unmarked variables Keeps n = refl

first_unmarked : (variables : ℕ) (code : List Instr) (site n : ℕ) → is_marked (row_at (first_rows variables code) site) n ≡ false
first_unmarked variables [] site n = refl
first_unmarked variables (item ∷ code) zero n = unmarked variables (item_change (Some item) false) n
first_unmarked variables (item ∷ code) (suc site) n = first_unmarked variables code site n

-- the row of a `speculate` has a place for each location
first_long : (variables : ℕ) (code : List Instr) (site : ℕ) → Speculates (slice_get code site) → length (row_at (first_rows variables code) site) ≡ 2 * variables
first_long variables [] site e = absurd (let keeps : Keeps ≡ Opens = e in cc)
first_long variables (item ∷ code) zero e = ap (λ c. length (row_of_change variables c)) e ∙ length-replicate (2 * variables) false
first_long variables (item ∷ code) (suc site) e = first_long variables code site e

module _ (f : Func) (g : SlotFunction) (in_prog : IsAcceptedLowered f g) where
  pub sound_code : AreSitesSound f.code
  sound_code = (accepted_function in_prog.prog in_prog.number f in_prog.accepted in_prog.there).sites

  pub depths_are : AreDepths f.code g.depths
  depths_are = in_prog.lowered.depths

  numbered_below : (x : Location) → IsSlotIn g x → number_of x < 2 * g.variables
  numbered_below (Variable x) less = (let l : x < g.variables = less in omega arith)
  numbered_below (Shadow x) h = (let l : x < g.variables = h.0 in omega arith)

  -- at the guard of a way out its level is open
  guard_deep : (level : ℕ) (way : Branch) → IsWayOut f.code level way → SomeIndex g.depths (λ k. level ≤ slice_index g.depths k)
  guard_deep level way out = (end_of out.walk, inside, deep)
    where
      deep : level ≤ slice_index g.depths (end_of out.walk)
      deep = let d = depth_at_end f.code sound_code g.depths depths_are out.walk out.is in let e = out.deep in omega arith

      inside : end_of out.walk < length g.depths
      inside =
          let within = walk_within f.code out.walk out.is in
          let points = depths_are.is.points in
          let long : length g.depths ≡ length depths_are.graph.sites = ap length depths_are.are ∙ length-map depths_are.graph.sites open_count in
          omega arith

  -- where no site is ever open, nothing is saved
  pub no_rows : (SomeIndex g.depths (λ k. 1 ≤ slice_index g.depths k) → ⊥) → AreSavedRows f.code []
  no_rows nowhere site x = (λ h. absurd (let both : false ≡ true = h in cc), λ s. absurd (nowhere (first s.level s.out.some (guard_deep s.level s.way s.out))))
    where
      first : (level : ℕ) → 1 ≤ level → SomeIndex g.depths (λ k. level ≤ slice_index g.depths k) → SomeIndex g.depths (λ k. 1 ≤ slice_index g.depths k)
      first level some d = (d.0, d.1, (let deep = d.2 in omega arith))

module _ (a : Analyses) (are : AreAnalyses a) where
  abbrev code : List Instr
  code = a.func.now.code

  abbrev variables : ℕ
  variables = a.lowered.now.variables

  sound : AreSitesSound code
  sound = sound_code a.func.now a.lowered.now are.lowered

  -- a level that is open nowhere
  pub none_open : (level : ℕ) (rows : List (List Bool)) → (SomeIndex a.lowered.now.depths (λ k. level ≤ slice_index a.lowered.now.depths k) → ⊥) → AddsAll (IsMarkedBefore a level (length a.func.now.code + 1)) rows rows
  none_open level rows nowhere = all_none (IsMarkedBefore a level (length code + 1)) rows (λ s n m. nowhere (guard_deep a.func.now a.lowered.now are.lowered level m.out.leads.way m.out.leads.out))

  -- a point that leads out at a level has at that level the site that is left
  site_there : (level label point : ℕ) (x : Location) (leads : LeadsOut code level label point) → IsLive code x label → site_told level (slice_get a.graph.now.sites point) ≡ Some (site_left code level leads.way leads.out)
  site_there level label point x leads live =
      ap (λ p. site_told level (slice_get a.graph.now.sites p)) (sym o.ends)
      ∙ (ap (site_told level) (sites_of_walk code a.graph.now are.graph sound o.walk o.is) ∙ (ap (site_in level) w.3 ∙ (level_site level w.1 w.0 w.2 w.4 ∙ ap Some (sym w.6))))
    where
      o : IsOpen code level point
      o = open_at code level leads.way.from point leads.stays

      lives_out : IsLiveOut code level (end_of o.walk) x
      lives_out = record { way = leads.way; out = leads.out; stays = subst (StaysOpen code level leads.way.from) (sym o.ends) leads.stays; live = subst (IsLive code x) (sym leads.to) live }

      w : (newer : List ℕ) × (site : ℕ) × (older : List ℕ) × (sites_of code o.walk ≡ newer ++ site ∷ older) × (length (site ∷ older) ≡ level) × IsWayOutOf code site older leads.way × (site_left code level leads.way leads.out ≡ site)
      w = way_of_site code sound o.walk o.is level x o.has lives_out

  -- the label of a way out is a point
  label_within : (site : ℕ) (x : Location) → (i : IsAssignedInside code site x) → i.label < length code + 1
  label_within site x i =
      let out = i.leads.out in
      let inside = branch_inside code (end_of out.walk) i.leads.way (in_contains i.leads.way (branches_at code (end_of out.walk)) out.at) in
      let to = i.leads.to in
      omega arith

  -- its level is one of eight
  level_within : (site : ℕ) (x : Location) → (i : IsAssignedInside code site x) → i.level < most_sites + 1
  level_within site x i =
      let out = i.leads.out in
      let few = few_sites code sound out.walk out.is in
      let deep = out.deep in
      omega arith

  -- the site that it leaves is a `speculate`
  left_speculates : (site : ℕ) (x : Location) → IsAssignedInside code site x → Speculates (slice_get code site)
  left_speculates site x i =
      let out = i.leads.out in
      let deep = out.deep in
      let some = out.some in
      site_speculates code out.walk site (subst (λ s. In s (sites_of code out.walk)) i.left (in_index (sites_of code out.walk) 0 (omega arith)))

  -- the marks of all levels
  pub rows_tell : (rows : List (List Bool)) → AddsAll (IsMarkedBelow a (most_sites + 1)) (first_rows a.lowered.now.variables a.func.now.code) rows → AreSavedRows a.func.now.code rows
  rows_tell rows added site x = (
    λ h. law.1 (inside (⊎_elim (λ m. absurd (clash m)) (λ m. m) ((added site).came (number_of x) (sym (row_marked rows site (number_of x)) ∙ h)))),
    λ s. row_marked rows site (number_of x) ∙ marked (law.0 s),
  )
    where
      law : IsSaved code site x ↔ IsAssignedInside code site x
      law = saved_inside are.lowered.prog are.lowered.number a.func.now are.lowered.accepted are.lowered.there site x

      clash : is_marked (row_at (first_rows variables code) site) (number_of x) ≡ true → ⊥
      clash m = let both : false ≡ true = sym (first_unmarked variables code site (number_of x)) ∙ m in cc

      inside : IsMarkedBelow a (most_sites + 1) site (number_of x) → IsAssignedInside code site x
      inside m =
          let out = m.out.out in
          let at = out.marked in
          let same : at.location ≡ x = number-one at.location x at.numbered in
          let live : IsLive code x m.out.label = subst (λ y. IsLive code y m.out.label) same ((are.live at.location m.out.label).0 at.told) in
          record {
            level = m.level;
            label = m.out.label;
            point = out.point;
            leads = out.leads;
            left = same_Some (site_left code m.level out.leads.way out.leads.out) site (sym (site_there m.level m.out.label out.point x out.leads live) ∙ at.opened);
            assigns = subst (Contains (assigns_at (slice_get code out.point))) same at.assigns;
            live = live;
          }

      marked : IsAssignedInside code site x → IsTrue (is_marked (row_at rows site) (number_of x))
      marked i =
          let below = numbered_below a.func.now a.lowered.now are.lowered x (assigned_slot are.lowered.prog are.lowered.number a.func.now a.lowered.now are.lowered.accepted are.lowered.there are.lowered.lowered i.point x i.assigns) in
          let long = first_long variables code site (left_speculates site x i) in
          (added site).all (number_of x) (subst (λ n. number_of x < n) (sym long) below)
          (record {
            level = i.level;
            below = level_within site x i;
            out = record {
              label = i.label;
              before = label_within site x i;
              out = record {
                point = i.point;
                leads = i.leads;
                marked = record { opened = site_there i.level i.label i.point x i.leads i.live ∙ ap Some i.left; location = x; numbered = refl; assigns = i.assigns; told = (are.live x i.label).1 i.live };
              };
            };
          })

-- ---- searches

-- the guards of a level that abort to a label, and the arcs back where it is open
module _ (a : Analyses) (are : AreAnalyses a) (level : ℕ) where
  pub guards_found : (label : ℕ) (guards : List ℕ) → guards ≡ guards_of a.lowered.now.depths level (edges_to label a.graph.now.edges) → AreGuards a.func.now.code level label guards
  guards_found label guards same =
      let f = a.func.now in
      let g = a.lowered.now in
      subst (AreGuards f.code level label) (sym same) (guards_are f.code (sound_code f g are.lowered) g.depths (depths_are f g are.lowered) a.graph.now are.graph level label)

  pub arcs_found : (arcs : List Arc) → 0 < level → arcs ≡ open_arcs_of a.lowered.now.depths level a.graph.now.edges → AreOpenArcs a.func.now.code level arcs
  arcs_found arcs some same =
      let f = a.func.now in
      let g = a.lowered.now in
      subst (AreOpenArcs f.code level) (sym same) (open_arcs_are f.code (sound_code f g are.lowered) g.depths (depths_are f g are.lowered) a.graph.now are.graph level some)
