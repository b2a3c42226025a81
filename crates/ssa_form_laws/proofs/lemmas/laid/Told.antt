-- What the arrays of the sweep tell: each `set` gives what its location has where an edge leaves.
use Rattle.std.proofs.Common.{◌≡◌, ◌⊎◌, ℕ, zero, suc, ◌+◌, ◌<◌, ◌≤◌, Bool, true, false, cond, List, length, Option, Some, None, is_some, refl, sym, ap, subst, ◌∙◌, inl, inr, ⊎_elim, arith}
use Rattle.std.specs.Prelude.{slice_get, slice_index}
use Rattle.std.proofs.lemmas.Option.{slice_get_within}
use Rattle.bril_tree.specs.declared.edge.Edge.{Edge}
use Rattle.bril_tree.specs.declared.function_tree.FuncTree.{FuncTree}
use Rattle.bril_tree.specs.declared.numbered.Instr.{Instr}
use Rattle.bril_tree.specs.declared.numbered.Instr.TheVariants.{Label, Const, Act}
use Rattle.bril_tree.specs.declared.numbered_function.Func.{Func}
use Rattle.bril_tree.specs.Edge.{branches_at, onward}
use Rattle.bril_tree.specs.Leaving.{IsEdge, edge_of}
use Rattle.bril_tree.specs.Membership.{In}
use Rattle.bril_tree.specs.Operand.{Location, Variable, reads_of}
use Rattle.bril_tree.specs.Shape.{shape_fault_of}
use Rattle.bril_tree.specs.Sites.{AreSitesSound, Opens, item_change, sites_of}
use Rattle.bril_tree.specs.Walk.{IsReached, end_of}
use Rattle.bril_tree.proofs.Assignments.{site_speculates}
use Rattle.bril_tree.proofs.Branches.{branch_at_item}
use Rattle.bril_tree.proofs.Liveness.{live-reads}
use Rattle.bril_tree.proofs.Members.{contains_in, in_append_cases, in_append_left, in_append_right, in_flat_map, in_flat_map_source, in_map, in_map_source}
use Rattle.flow_graph.specs.Location.{number_of}
use Rattle.ssa_search.specs.accesses.Entries.{EntersAt}
use Rattle.ssa_search.proofs.lemmas.accesses.Within.{shaped-at}
use Rattle.ssa_build.specs.code.Items.{standing}
use Rattle.ssa_build.specs.code.Sweep.{falls_at, kept_at, now_at}
use Rattle.ssa_build.proofs.lemmas.code.Laying.{tells-into}
use Rattle.ssa_laws.specs.inserted_copies.Inserted.{destination, is_copy, is_jump, source}
use Rattle.ssa_laws.specs.layout.Laid.{Aborts, Jumps, LeavesTo, Setting}
use Rattle.ssa_build.specs.sources.Sweeping.{told_at}
use Rattle.ssa_build.proofs.lemmas.sources.Leaving.{site-behind, told-there}
use Rattle.ssa_build.proofs.lemmas.sources.Swept.{get-place, into-below, told-below}
use Rattle.ssa_search.specs.renaming.Tells.{TellsNow}
use Rattle.ssa_search.specs.declared.renaming.now.WantedGet.{WantedGet}
use Rattle.ssa_laws.proofs.lemmas.reaching_definitions.Items.{label-no_site}
use Rattle.ssa_laws.proofs.lemmas.reaching_definitions.Resolving.{behind-resolved, into-else}
use Rattle.ssa_laws.proofs.lemmas.reaching_definitions.Solved.{solved-resolves}
use Rattle.ssa_laws.proofs.lemmas.reaching_definitions.Tabled.{begins, few, tables-agree, tables-tell_live}
use Rattle.ssa_laws.specs.reaching_definitions.Laws.{IsArgument, IsTabled}
use Rattle.ssa_laws.specs.reaching_definitions.Tables.{AreConsistent, AreResolved, behind, else_passed, is_dest, passed}
use Rattle.ssa_laws.specs.reaching_definitions.Told.{argument}
use Rattle.ssa_build.specs.tree.Made.{IsLaidFunction}
use Rattle.ssa_search.specs.placing.Wanted.{is_label}
use Rattle.ssa_form_laws.specs.laid.Tables.{setting_of, settings_falling, settings_leaving, settings_to, sets_by}
use Rattle.ssa_form_laws.proofs.lemmas.laid.Kept.{G, find, in-kept, kept-got, kept-is, kept-one, kept-only, l, m, n}
use Rattle.ssa_form_laws.proofs.lemmas.laid.Leaving.{falls-only, jump-bare, labels-at, leaves-by, leaving-edge, row-only, row-there}

module _ (F : Func) (function g : FuncTree) (x : IsLaidFunction F function g) (shaped : shape_fault_of (is_some F.ret) F.code ≡ None) (sound : AreSitesSound F.code) (tabled : IsTabled F.code F.args (G F function g x)) where
  abbrev code : List Instr
  code = F.code

  abbrev got : ℕ → Location → Option ℕ
  got = G F function g x

  abbrev old : ℕ → Location → Option ℕ
  old = (n F function g x).into

  abbrev stands : ℕ → ℕ
  stands = find F function g x

  abbrev array : ℕ → List ℕ
  array i = now_at x.laid.nows i

  -- ---- the tables with and without the trivial `get`s

  pub old-consistent : AreConsistent F.code (n F function g x) (IsArgument F.args)
  old-consistent = (tables-agree F.code F.args (G F function g x) tabled).0

  pub new-consistent : AreConsistent F.code (m F function g x) (IsArgument F.args)
  new-consistent = (tables-agree F.code F.args (G F function g x) tabled).1 (find F function g x) x.solved.solved

  pub resolves : AreResolved F.code (n F function g x) (IsArgument F.args) (find F function g x)
  resolves = solved-resolves code F.args got tabled.leads tabled.wanted (IsArgument F.args) (begins F.args) (few F.args) tabled.argued tabled.opens stands x.solved.solved

  pub behind-found : (i z : ℕ) (a : Location) → IsReached F.code i → behind F.code (n F function g x) i a ≡ Some z → behind F.code (m F function g x) i a ≡ Some (find F function g x z)
  behind-found i z a r e = behind-resolved code (n F function g x) (IsArgument F.args) old-consistent stands resolves i z a r e

  pub into-found : (i z : ℕ) (a : Location) → G F function g x i a ≡ None → (n F function g x).into i a ≡ Some z → (m F function g x).into i a ≡ Some (find F function g x z)
  into-found i z a none e = into-else code (n F function g x) (IsArgument F.args) old-consistent stands resolves i z a none e

  label-at : (k y : ℕ) (a : Location) → got k a ≡ Some y → is_label (slice_get code k) ≡ true
  label-at k y a e = ap is_label (tabled.wanted.label k y a e).1

  -- only labels have `get`s
  pub plain-got : (i : ℕ) (a : Location) → is_label (slice_get F.code i) ≡ false → G F function g x i a ≡ None
  plain-got i a plain = by (got i a) refl
    where
      by : (o : Option ℕ) → got i a ≡ o → got i a ≡ None
      by None e = e
      by (Some y) e = absurd (let h : true ≡ false = sym (label-at i y a e) ∙ plain in cc)

  -- ---- what an item reads is told

  pub read-told : (i v : ℕ) (a : Instr) → IsReached F.code i → slice_get F.code i ≡ Some a → In (Variable v) (reads_of a) → (z : ℕ) × ((n F function g x).into i (Variable v) ≡ Some z) × (G F function g x i (Variable v) ≡ None)
  read-told i v a r at reads = by (tables-tell_live code F.args got tabled i (Variable v) r (live-reads code i a (Variable v) at reads))
    where
      plain : (b : Instr) → In (Variable v) (reads_of b) → is_label (Some b) ≡ false
      plain (Label q) h = absurd h
      plain (Const d ty c) h = refl
      plain (Act d ty o args fns ls) h = refl

      none : got i (Variable v) ≡ None
      none = plain-got i (Variable v) (ap is_label at ∙ plain a reads)

      by : (y : ℕ) × ((old i (Variable v) ≡ Some y) ⊎ (got i (Variable v) ≡ Some y)) → (z : ℕ) × (old i (Variable v) ≡ Some z) × (got i (Variable v) ≡ None)
      by (y, inl e) = (y, e, none)
      by (y, inr e) = absurd (let h : None ≡ Some y = sym none ∙ e in cc)

  -- ---- arrays

  pub array-into : (i : ℕ) → i ≤ length F.code → TellsNow ((n F function g x).into i) (now_at x.laid.nows i)
  array-into i low = tells-into F x.graph.sites (l F function g x) got i (array i) (x.laid.tells i low)

  pub stands-told : (known : Location → Option ℕ) (now : List ℕ) (a : Location) (z location : ℕ) → TellsNow known now → known a ≡ Some z → location ≡ number_of a → standing x.find now location ≡ find F function g x z
  stands-told known now a z location tells e s = ap (λ k. slice_index x.find (slice_index now k)) s ∙ ap (λ k. slice_index x.find k) (tells a z e)

  -- ---- definitions have numbers below those that are told of

  pub get-low : (k y : ℕ) (a : Location) → G F function g x k a ≡ Some y → y < length x.find
  get-low k y a e = let p = get-place F x.wants x.are_wants k y a e in let low = p.1 in let same = p.2 in let long = x.long in omega (arith, low, same, long)

  base-low : F.args + length code ≤ length x.find
  base-low = let long = x.long in omega (arith, long)

  pub into-low : (i z : ℕ) (a : Location) → (n F function g x).into i a ≡ Some z → find F function g x z < length x.find
  into-low i z a e = x.solved.within z (into-below code F.args got (length x.find) base-low (λ k y b h. get-low k y b h) i a z e)

  pub told-low : (key z : ℕ) (a : Location) → told_at F.code F.args (G F function g x) key a ≡ Some z → find F function g x z < length x.find
  told-low key z a e = x.solved.within z (told-below code F.args got (length x.find) base-low (λ k y b h. get-low k y b h) key a z e)

  -- an argument stands for itself
  pub argument-fixed : (a : Location) (z : ℕ) → argument F.args a ≡ Some z → find F function g x z ≡ z
  argument-fixed a z e = let low = few F.args z (a, e) in x.solved.solved.fixed z (omega (arith, low))

  -- ---- what the tables tell before an item from which an edge leaves to a label

  plain-behind : (i : ℕ) (a : Location) → is_copy (slice_get code i) ≡ false → is_dest (destination (slice_get code i)) a ≡ false → got i a ≡ None → behind code (n F function g x) i a ≡ old i a
  plain-behind i a copy dest none =
      ap (λ o. else_passed o (passed (n F function g x) (slice_get code i) i a)) none
      ∙ ap (λ d. cond d (old i (source (slice_get code i) a)) (cond (is_dest (destination (slice_get code i)) a) (Some ((n F function g x).writes i)) (old i a))) copy
      ∙ ap (λ d. cond d (Some ((n F function g x).writes i)) (old i a)) dest

  jump-plain : (o : Option Instr) → is_jump o ≡ true → is_label o ≡ false
  jump-plain None j = absurd cc
  jump-plain (Some (Label q)) j = absurd cc
  jump-plain (Some (Const d ty c)) j = absurd cc
  jump-plain (Some (Act d ty o args fns ls)) j = refl

  -- behind it they tell the same
  leave-behind : (i k : ℕ) (a : Location) → LeavesTo code i k → (got i a ≡ None) × (behind code (n F function g x) i a ≡ old i a)
  leave-behind i k a (Jumps w jumps among to) = by (slice_get code i) refl
    where
      none : got i a ≡ None
      none = plain-got i a (jump-plain (slice_get code i) jumps)

      by : (o : Option Instr) → slice_get code i ≡ o → (got i a ≡ None) × (behind code (n F function g x) i a ≡ old i a)
      by None at = absurd (let h : false ≡ true = ap is_jump (sym at) ∙ jumps in cc)
      by (Some b) at =
          let bare = jump-bare (is_some F.ret) b (shaped-at F shaped i b at) (ap is_jump (sym at) ∙ jumps) in
          (none, plain-behind i a (ap is_copy at ∙ bare.1) (ap (λ o. is_dest (destination o) a) at ∙ ap (λ d. is_dest d a) bare.0) none)
  leave-behind i k a (Aborts walk w sites is among aborts are to) = by (got i a) refl
    where
      inside : In i (sites_of code walk)
      inside = subst (In i) (sym are) (inl refl)

      by : (o : Option ℕ) → got i a ≡ o → (got i a ≡ None) × (behind code (n F function g x) i a ≡ old i a)
      by None e = (e, site-behind code F.args got sound tabled walk is i inside a)
      by (Some y) e = absurd (let q = tabled.wanted.label i y a e in label-no_site code walk i q.0 inside q.1)

  -- ---- why a `set` stands before an item, and what it gives

  pub data SetHere (i : ℕ) (s : Setting) : Type 0 where
    Started : (a : Location) (z : ℕ) → i ≡ 0 → (m F function g x).gets 0 a ≡ Some s.get → argument F.args a ≡ Some z → s.from ≡ z → SetHere i s
    Fallen : (a : Location) (p z : ℕ) → i ≡ suc p → IsReached F.code p → (m F function g x).gets (suc p) a ≡ Some s.get → behind F.code (n F function g x) p a ≡ Some z → s.from ≡ find F function g x z → SetHere i s
    Left : (a : Location) (k z : ℕ) → IsReached F.code i → LeavesTo F.code i k → (m F function g x).gets k a ≡ Some s.get → G F function g x i a ≡ None → (n F function g x).into i a ≡ Some z → s.from ≡ find F function g x z → SetHere i s

  -- the edge to the next item
  edge-on : (p : ℕ) → IsReached code p → In (onward p) (branches_at code p) → (edge : Edge) × IsEdge code edge × (edge.leave ≡ p) × (edge.to ≡ suc p)
  edge-on p r among = (
    edge_of (sites_of code r.walk) (onward p),
    record { walk = r.walk; is = r.is; branch = onward p; at = contains_in (onward p) (branches_at code (end_of r.walk)) (subst (λ q. In (onward p) (branches_at code q)) (sym r.ends) among); are = refl },
    refl,
    refl,
  )

  -- an edge leaves from an item
  leave-low : (i k : ℕ) → LeavesTo code i k → i < length code
  leave-low i k (Jumps w jumps among to) = branch_at_item code i w among
  leave-low i k (Aborts walk w sites is among aborts are to) = site-low (slice_get code i) refl
    where
      site-low : (o : Option Instr) → slice_get code i ≡ o → i < length code
      site-low None at = absurd (let h : item_change None false ≡ Opens = ap (λ o. item_change o false) (sym at) ∙ site_speculates code walk i (subst (In i) (sym are) (inl refl)) in cc)
      site-low (Some b) at = slice_get_within code i b at

  falling : (i : ℕ) (s : Setting) → i ≤ length code → falls_at code x.graph.sites i ≡ true → (get : WantedGet) → In get (kept_at (l F function g x) i) → s ≡ setting_of x.find (array i) get → SetHere i s
  falling zero s low falls get among is =
      let k = kept-only F function g x 0 get among in
      let z = tabled.argued k.location (tabled.wanted.live 0 get.definition k.location k.wanted) in
      let stood = stands-told (argument F.args) (array 0) k.location z.0 get.location (x.laid.tells 0 low) z.1 k.number in
      Started k.location z.0 refl (kept-got F function g x 0 get k ∙ ap (λ (u : Setting). Some u.get) (sym is)) z.1 (ap (λ (u : Setting). u.from) is ∙ stood ∙ argument-fixed k.location z.0 z.1)
  falling (suc p) s low falls get among is =
      let f = falls-only F function g x p falls in
      let k = kept-only F function g x (suc p) get among in
      let en : EntersAt code (Some p) (suc p) = (label-at (suc p) get.definition k.location k.wanted, edge-on p f.0 f.1) in
      let z = told-there code F.args got sound tabled (suc p) (suc p) get.definition k.location en k.wanted in
      let stood = stands-told (λ a. behind code (n F function g x) p a) (array (suc p)) k.location z.0 get.location (x.laid.tells (suc p) low) z.1 k.number in
      Fallen k.location p z.0 refl f.0 (kept-got F function g x (suc p) get k ∙ ap (λ (u : Setting). Some u.get) (sym is)) z.1 (ap (λ (u : Setting). u.from) is ∙ stood)

  leaving : (i : ℕ) (s : Setting) → i ≤ length code → (k : ℕ) → In k (labels-at F function g x i) → (get : WantedGet) → In get (kept_at (l F function g x) k) → s ≡ setting_of x.find (array i) get → SetHere i s
  leaving i s low k inside get among is =
      let e = row-only F function g x i k inside in
      let h = leaves-by code sound e.0 e.1 e.2 in
      let reached : IsReached code i = subst (IsReached code) e.3 h.0 in
      let leaves : LeavesTo code i k = subst (λ p. LeavesTo code p k) e.3 (subst (LeavesTo code e.0.leave) e.4 h.1) in
      let q = kept-only F function g x k get among in
      let en : EntersAt code (Some i) k = (label-at k get.definition q.location q.wanted, (e.0, e.1, e.3, e.4)) in
      let z = told-there code F.args got sound tabled (suc i) k get.definition q.location en q.wanted in
      let b = leave-behind i k q.location leaves in
      let told-here : old i q.location ≡ Some z.0 = sym b.1 ∙ z.1 in
      let stood = stands-told (λ a. old i a) (array i) q.location z.0 get.location (array-into i low) told-here q.number in
      Left q.location k z.0 reached leaves (kept-got F function g x k get q ∙ ap (λ (u : Setting). Some u.get) (sym is)) b.0 told-here (ap (λ (u : Setting). u.from) is ∙ stood)

  -- the `set`s before an item, by their `get`s
  abbrev IsFalling : ℕ → Setting → Type 0
  IsFalling i s = (falls_at code x.graph.sites i ≡ true) × ((get : WantedGet) × In get (kept_at (l F function g x) i) × (s ≡ setting_of x.find (array i) get))

  abbrev IsLeaving : ℕ → Setting → Type 0
  IsLeaving i s = (k : ℕ) × In k (labels-at F function g x i) × ((get : WantedGet) × In get (kept_at (l F function g x) k) × (s ≡ setting_of x.find (array i) get))

  parts : (i : ℕ) (s : Setting) → In s (sets_by F x.graph.sites (l F function g x) x.laid.nows i) → IsFalling i s ⊎ IsLeaving i s
  parts i s h = ⊎_elim (λ a. inl (first (falls_at code x.graph.sites i) refl a)) (λ b. inr (second b)) (in_append_cases s (settings_falling (l F function g x) (array i) (falls_at code x.graph.sites i) i) (settings_leaving (l F function g x) (array i) (labels-at F function g x i)) h)
    where
      first : (b : Bool) → falls_at code x.graph.sites i ≡ b → In s (settings_falling (l F function g x) (array i) b i) → IsFalling i s
      first true e a = (e, in_map_source (setting_of x.find (array i)) s (kept_at (l F function g x) i) a)
      first false e a = absurd a

      second : In s (settings_leaving (l F function g x) (array i) (labels-at F function g x i)) → IsLeaving i s
      second b =
          let u = in_flat_map_source (settings_to (l F function g x) (array i)) s (labels-at F function g x i) b in
          (u.0, u.1, in_map_source (setting_of x.find (array i)) s (kept_at (l F function g x) u.0) u.2)

  pub set-here : (i : ℕ) (s : Setting) → i ≤ length F.code → In s (sets_by F x.graph.sites (l F function g x) x.laid.nows i) → SetHere i s
  set-here i s low h = ⊎_elim (λ a. falling i s low a.0 a.1.0 a.1.1 a.1.2) (λ b. leaving i s low b.0 b.1 b.2.0 b.2.1 b.2.2) (parts i s h)

  -- the `get` of any, with its label
  get-of : (i : ℕ) (s : Setting) → In s (sets_by F x.graph.sites (l F function g x) x.laid.nows i) → (k : ℕ) × (get : WantedGet) × In get (kept_at (l F function g x) k) × (s ≡ setting_of x.find (array i) get)
  get-of i s h = ⊎_elim (λ a. (i, a.1.0, a.1.1, a.1.2)) (λ b. (b.0, b.2.0, b.2.1, b.2.2)) (parts i s h)

  -- before an item each `get` is set from one definition
  pub set-alone : (i : ℕ) (s u : Setting) → In s (sets_by F x.graph.sites (l F function g x) x.laid.nows i) → In u (sets_by F x.graph.sites (l F function g x) x.laid.nows i) → s.get ≡ u.get → s.from ≡ u.from
  set-alone i s u h k e =
      let a = get-of i s h in
      let b = get-of i u k in
      let one = kept-one F function g x a.0 b.0 a.1 b.1 a.2 b.2 (ap (λ (v : Setting). v.get) (sym a.3) ∙ e ∙ ap (λ (v : Setting). v.get) b.3) in
      ap (λ (v : Setting). v.from) a.3 ∙ ap (λ (w : WantedGet). standing x.find (array i) w.location) one ∙ ap (λ (v : Setting). v.from) (sym b.3)

  -- ---- each `get` is set wherever an edge leaves to its label

  set-in : (i k y : ℕ) (a : Location) → (m F function g x).gets k a ≡ Some y → In (record { get = y; from = standing x.find (array i) (number_of a) }) (settings_to (l F function g x) (array i) k)
  set-in i k y a e = in_map (setting_of x.find (array i)) (record { location = number_of a; definition = y }) (kept_at (l F function g x) k) (in-kept F function g x k y a e)

  pub fall-there : (i y : ℕ) (a : Location) → falls_at F.code x.graph.sites i ≡ true → (m F function g x).gets i a ≡ Some y → (z : ℕ) × In (record { get = y; from = z }) (sets_by F x.graph.sites (l F function g x) x.laid.nows i)
  fall-there i y a falls e =
      let s : Setting = record { get = y; from = standing x.find (array i) (number_of a) } in
      let here : In s (settings_falling (l F function g x) (array i) (falls_at code x.graph.sites i) i) = subst (λ b. In s (settings_falling (l F function g x) (array i) b i)) (sym falls) (set-in i i y a e) in (
        s.from,
        in_append_left s (settings_falling (l F function g x) (array i) (falls_at code x.graph.sites i) i) (settings_leaving (l F function g x) (array i) (labels-at F function g x i)) here,
      )

  pub leave-there : (i k y : ℕ) (a : Location) → IsReached F.code i → LeavesTo F.code i k → (m F function g x).gets k a ≡ Some y → (z : ℕ) × In (record { get = y; from = z }) (sets_by F x.graph.sites (l F function g x) x.laid.nows i)
  leave-there i k y a r leaves e =
      let s : Setting = record { get = y; from = standing x.find (array i) (number_of a) } in
      let label = label-at k y a (kept-is F function g x (got k a) y e).0 in
      let d = leaving-edge code sound i k r label leaves in
      let low : i < length code = leave-low i k leaves in
      let row = row-there F function g x sound i k low d.0 d.1 d.2 d.3 d.4 in (
        s.from,
        in_append_right s (settings_falling (l F function g x) (array i) (falls_at code x.graph.sites i) i) (settings_leaving (l F function g x) (array i) (labels-at F function g x i))
            (in_flat_map (settings_to (l F function g x) (array i)) k s (labels-at F function g x i) row (set-in i k y a e)),
      )
