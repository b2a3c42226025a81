-- The names in laid code are those of definitions, so its variables are no more than these. Its lists of arguments are no longer than
-- the function's.
use Rattle.std.proofs.Common.{◌≡◌, ◌⊎◌, ℕ, zero, suc, ◌+◌, ◌*◌, ◌<◌, ◌≤◌, Bool, true, false, List, [], ◌∷◌, length, map, take, Option, Some, None, refl, sym, ap, subst, ◌∙◌, inl, inr, ⊎_elim, arith}
use Rattle.std.specs.Prelude.{slice_get, slice_index}
use Rattle.std.specs.List.{Contains, flat_map, list_any, range_with_len}
use Rattle.std.specs.Option.{option_map}
use Rattle.std.proofs.lemmas.Bool.{cases_lt}
use Rattle.std.proofs.lemmas.List.{get_or_default, get_or-take, length-map, length-take}
use Rattle.std.proofs.lemmas.List.FromFn.{length-range_with_len}
use Rattle.std.proofs.lemmas.List.Sums.{count_by-le-length}
use Rattle.std.proofs.lemmas.Option.{same_Some, slice_get-map, slice_get_within}
use Rattle.bril_names.specs.Faults.{argument_names}
use Rattle.bril_names.proofs.Functions.{Differ-variables}
use Rattle.bril_names.proofs.Naming.{one_number}
use Rattle.bril_names.proofs.Variables.{argument_names_taken, arguments_of, same_arguments}
use Rattle.bril_tree.specs.declared.edge.Edge.{Edge}
use Rattle.bril_tree.specs.declared.function_tree.FuncTree.{FuncTree}
use Rattle.bril_tree.specs.declared.function_tree.Dest.{Dest}
use Rattle.bril_tree.specs.declared.function_tree.Item.{Item}
use Rattle.bril_tree.specs.declared.function_tree.Item.TheVariants as item
use Rattle.bril_tree.specs.declared.numbered.Instr.{Instr}
use Rattle.bril_tree.specs.declared.numbered.Instr.TheVariants.{Label, Const, Act}
use Rattle.bril_tree.specs.declared.numbered.VarInfo.{VarInfo}
use Rattle.bril_tree.specs.declared.numbered_function.Func.{Func}
use Rattle.bril_tree.specs.declared.operation.Op.TheVariants as op
use Rattle.bril_tree.specs.Edge.{Branch}
use Rattle.bril_tree.specs.FrameWords.{location_count, names_shadow}
use Rattle.bril_tree.specs.FunctionForm.{dest_is_typed, variables_of}
use Rattle.bril_tree.specs.Leaving.{edge_of}
use Rattle.bril_tree.specs.Membership.{In}
use Rattle.bril_tree.specs.Numbered.{function_tree, item_tree, named, variable_names}
use Rattle.bril_tree.specs.Operand.{Location}
use Rattle.bril_tree.specs.Sites.{sites_of}
use Rattle.bril_tree.specs.Walk.{IsWalk, end_of}
use Rattle.bril_tree.proofs.Counting.{no_more}
use Rattle.bril_tree.proofs.Elements.{get_in, in_get, passes_in}
use Rattle.bril_tree.proofs.LabelPoints.{in_range, range_high, label-one}
use Rattle.bril_tree.proofs.Members.{in_append_cases, in_contains, in_flat_map_source, in_map, in_map_source}
use Rattle.flow_graph.specs.Location.{number_of}
use Rattle.ssa_laws.specs.live_entries.LiveEntries.{IsLiveEntryCount}
use Rattle.pass_edit_laws.proofs.lemmas.numbers.Different.{range-differ}
use Rattle.pass_edit_laws.proofs.lemmas.numbers.ItemTrees.{dest_names, item_names, names-item, passes-item, tree_passes}
use Rattle.pass_edit_laws.proofs.lemmas.numbers.Locations.{appeared}
use Rattle.pass_edit_laws.proofs.lemmas.numbers.Items.{in-greatest}
use Rattle.pass_edit_laws.proofs.lemmas.numbers.Arguments.{greatest-within}
use Rattle.program_numbers.specs.Cost.{item_passes, longest_in}
use Rattle.program_numbers.specs.Entries.{Enters}
use Rattle.ssa_build.specs.code.Items.{dest_with, laid_item, name_in, read_name, standing}
use Rattle.ssa_build.specs.code.Sweep.{item_args, reached_at}
use Rattle.ssa_search.specs.gets.Wants.{gets_of}
use Rattle.ssa_search.specs.declared.renaming.now.WantedGet.{WantedGet}
use Rattle.ssa_build.specs.tree.Made.{IsLaidFunction}
use Rattle.ssa_form_laws.proofs.lemmas.form.Fronts.{AtLabel, Falls, InFront, IsPut, Leaves, in-front, is-staying, list-apart, staying, total}
use Rattle.ssa_form_laws.proofs.lemmas.form.Points.{Front, Home, Point, front, now, point, tree_in}
use Rattle.ssa_form_laws.proofs.lemmas.form.Single.{argument-name}

-- ---- what a laid item names and passes

dest-named : (w n : List ℕ) (d : Option Dest) → In n (dest_names (dest_with w d)) → n ≡ w
dest-named w n None i = absurd i
dest-named w n (Some d) (inl e) = e
dest-named w n (Some d) (inr i) = absurd i

own-names : (r : Bool) (args : List (List ℕ)) (w : List ℕ) (t : Item) (n : List ℕ) → In n (item_names (laid_item r args w t)) → (n ≡ w) ⊎ In n args
own-names true args w (item.Label l) n i = absurd i
own-names false args w (item.Label l) n i = absurd i
own-names true args w (item.Const d ty v) n (inl e) = inl e
own-names true args w (item.Const d ty v) n (inr i) = absurd i
own-names false args w (item.Const d ty v) n i = absurd i
own-names false args w (item.Act d o was fns ls) n i = absurd i
own-names true args w (item.Act d op.Get was fns ls) n i = absurd i
own-names true args w (item.Act d op.Set was fns ls) n i = absurd i
own-names true args w (item.Act d _ was fns ls) n i = ⊎_elim (λ j. inl (dest-named w n d j)) inr (in_append_cases n (dest_names (dest_with w d)) args i)

own-passes : (fs V ls : List (List ℕ)) (r : Bool) (args : List (List ℕ)) (w : List ℕ) (a : Instr) → length args ≡ length (item_args (Some a)) → tree_passes (laid_item r args w (item_tree fs V ls a)) ≤ item_passes a
own-passes fs V ls true args w (Label l) e = omega arith
own-passes fs V ls false args w (Label l) e = omega arith
own-passes fs V ls true args w (Const d ty v) e = omega arith
own-passes fs V ls false args w (Const d ty v) e = omega arith
own-passes fs V ls false args w (Act d ty o was fns ms) e = omega arith
own-passes fs V ls true args w (Act d ty op.Get was fns ms) e = omega arith
own-passes fs V ls true args w (Act d ty op.Set was fns ms) e = omega arith
own-passes fs V ls true args w (Act d ty op.Call was fns ms) e = omega arith
own-passes fs V ls true args w (Act d ty op.Print was fns ms) e = omega arith
own-passes fs V ls true args w (Act d ty _ was fns ms) e = omega arith

module _ (fs fs' : List (List ℕ)) (F G : Func) (g : FuncTree) (x : IsLaidFunction F (function_tree fs F) g) (same : g ≡ function_tree fs' G) where
  abbrev W : List (List ℕ)
  W = variable_names G.vars

  -- ---- arguments

  arguments-same : arguments_of F.args F.vars ≡ arguments_of G.args G.vars
  arguments-same = sym (ap (λ (h : FuncTree). h.args) x.tree) ∙ ap (λ (h : FuncTree). h.args) same

  count-same : F.args ≡ G.args
  count-same = (same_arguments F.args G.args F.vars G.vars F.formed.few_args G.formed.few_args F.formed.args_typed G.formed.args_typed arguments-same).count

  item-passes : (q : Instr) (j : ℕ) → slice_get G.code j ≡ Some q → item_passes q ≤ longest_in F
  item-passes q j at = by (point fs F g x j (tree_in fs' G q) (at-tree))
    where
      at-tree : slice_get g.code j ≡ Some (tree_in fs' G q)
      at-tree = ap (λ (h : FuncTree). slice_get h.code j) same ∙ slice_get-map (tree_in fs' G) G.code j ∙ ap (option_map (tree_in fs' G)) at

      passes : item_passes q ≡ tree_passes (tree_in fs' G q)
      passes = passes-item fs' W G.labels q

      none : (i : ℕ) (y : Item) → InFront fs F g x i y → tree_passes y ≡ 0
      none i y (AtLabel k e s) = ap tree_passes s.is
      none i y (Falls e p) = ap tree_passes p.is
      none i y (Leaves k e p) = ap tree_passes p.is

      by : Point fs F g x j (tree_in fs' G q) → item_passes q ≤ longest_in F
      by (Home i a here there is) =
          let args = map (read_name x.names x.find (now fs F g x i)) (item_args (slice_get F.code i)) in
          let size : length args ≡ length (item_args (Some a)) = length-map (item_args (slice_get F.code i)) (read_name x.names x.find (now fs F g x i)) ∙ ap (λ o. length (item_args o)) here in
          let most = own-passes fs (variable_names F.vars) F.labels (reached_at (slice_get x.graph.sites i)) args (name_in x.names (F.args + i)) a size in
          let whole = passes ∙ ap tree_passes is in
          let all = in-greatest a F.code (get_in F.code i a here) in
          omega (arith, whole, most, all)
      by (Front i n low here there) =
          let whole = passes ∙ none i (tree_in fs' G q) (in-front fs F g x i (tree_in fs' G q) (get_in (front fs F g x i) n (tree_in fs' G q) here)) in
          omega (arith, whole)

  pub no-longer : longest_in G ≤ longest_in F
  no-longer =
      let c = count-same in
      let items = greatest-within (longest_in F) G.code (λ q i. let at = in_get q G.code i in item-passes q at.0 at.1) in
      omega arith

  -- ---- variables

  abbrev IsDefinitionName : List ℕ → Type 0
  IsDefinitionName n = (z : ℕ) × (z < total fs F g x) × (n ≡ name_in x.names z)

  -- what stands for any number of a location is a definition, where there is one
  standing-high : (now : List ℕ) (location : ℕ) → 0 < total fs F g x → standing x.find now location < total fs F g x
  standing-high now location some = ⊎_elim (λ less. let w = x.solved.within (slice_index now location) less in let l = x.long in omega arith) (λ past. let e = past-end x.find (slice_index now location) past in omega arith) (cases_lt (slice_index now location) (length x.find))
    where
      past-end : (xs : List ℕ) (i : ℕ) → length xs ≤ i → slice_index xs i ≡ 0
      past-end [] i h = refl
      past-end (y ∷ ys) zero h = absurd (omega arith)
      past-end (y ∷ ys) (suc i) h = past-end ys i (omega arith)

  front-named : (i : ℕ) (y : Item) → InFront fs F g x i y → (n : List ℕ) → In n (item_names y) → IsDefinitionName n
  front-named i y front n among = by front
    where
      put : (i k : ℕ) (p : IsPut x.names x.find (now fs F g x i) (staying fs F g x k) y) → IsDefinitionName n
      put i k p =
          let stay = is-staying fs F g x k p.get p.among in
          let high = stay.high in
          ⊎_elim (λ e. (p.get.definition, stay.high, e)) (λ r. ⊎_elim (λ e. (standing x.find (now fs F g x i) p.get.location, standing-high (now fs F g x i) p.get.location (omega arith), e)) (λ z. absurd z) r)
          (subst (λ z. In n (item_names z)) p.is among)

      by : InFront fs F g x i y → IsDefinitionName n
      by (AtLabel k e s) =
          let stay = is-staying fs F g x k s.get s.among in
          ⊎_elim (λ e. (s.get.definition, stay.high, e)) (λ z. absurd z) (subst (λ z. In n (item_names z)) s.is among)
      by (Falls e p) = put i i p
      by (Leaves k e p) = put i k p

  item-named : (j : ℕ) (y : Item) → slice_get g.code j ≡ Some y → (n : List ℕ) → In n (item_names y) → IsDefinitionName n
  item-named j y at n among = by (point fs F g x j y at)
    where
      by : Point fs F g x j y → IsDefinitionName n
      by (Home i a here there is) =
          let low = slice_get_within F.code i a here in
          let args = map (read_name x.names x.find (now fs F g x i)) (item_args (slice_get F.code i)) in
          ⊎_elim
          (λ e. (F.args + i, omega arith, e))
          (λ k. let s = in_map_source (read_name x.names x.find (now fs F g x i)) n (item_args (slice_get F.code i)) k in (standing x.find (now fs F g x i) (2 * s.0), standing-high (now fs F g x i) (2 * s.0) (omega arith), s.2))
          (own-names (reached_at (slice_get x.graph.sites i)) args (name_in x.names (F.args + i)) (tree_in fs F a) n (subst (λ z. In n (item_names z)) is among))
      by (Front i k low here there) = front-named i y (in-front fs F g x i y (get_in (front fs F g x i) k y here)) n among

  argument-named : (y : ℕ) → y < G.args → IsDefinitionName (named W y)
  argument-named y low =
      let few = G.formed.few_args in
      let long = length-map G.vars (λ (v : VarInfo). v.name) in
      let size = length-take G.args W in
      let taken : argument_names g ≡ take G.args W = ap argument_names same ∙ argument_names_taken G.args G.vars G.formed.args_typed in
      let there : Contains (take G.args W) (named W y) = (y, omega arith, get_or-take G.args W y (named W y) low ∙ get_or_default W y (named W y) [] (omega arith)) in
      let z = argument-name fs F g x (named W y) (subst (λ l. Contains l (named W y)) (sym taken) there) in
      let less = z.1 in
      (z.0, omega arith, z.2)

  variable-named : (y : ℕ) → y < length G.vars → IsDefinitionName (named W y)
  variable-named y low = ⊎_elim (argument-named y) later (cases_lt y G.args)
    where
      later : G.args ≤ y → IsDefinitionName (named W y)
      later above =
          let s = in_flat_map_source variables_of y G.code (appeared G.args (flat_map variables_of G.code) (length G.vars) y G.formed.appear above low) in
          let at = in_get s.0 G.code s.1 in
          let typed = passes_in dest_is_typed G.code s.0 G.formed.typed s.1 in
          let tree : slice_get g.code at.0 ≡ Some (tree_in fs' G s.0) =
          ap (λ (h : FuncTree). slice_get h.code at.0) same ∙ slice_get-map (tree_in fs' G) G.code at.0 ∙ ap (option_map (tree_in fs' G)) at.1 in
          item-named at.0 (tree_in fs' G s.0) tree (named W y) (subst (In (named W y)) (sym (names-item fs' W G.labels s.0 typed)) (in_map (named W) y (variables_of s.0) s.2))

  record IsVariable (y z : ℕ) : Type 0 where
    low : y < length G.vars
    is : named W y ≡ name_in x.names z

  few-variables : length G.vars ≤ total fs F g x
  few-variables =
      let few = no_more IsVariable (range_with_len 0 (length G.vars)) (range_with_len 0 (total fs F g x)) (range-differ (length G.vars))
      (λ y i.
      let high = range_high 0 (length G.vars) y i in
      let low : y < length G.vars = omega arith in
      let n = variable-named y low in
      (n.0, in_range 0 (total fs F g x) n.0 (omega arith) (let h = n.1 in omega arith), record { low = low; is = n.2 }))
      (λ y z d a b. let long = length-map G.vars (λ (v : VarInfo). v.name) in let p = a.low in let q = b.low in one_number W (Differ-variables G) y z (omega arith) (omega arith) (a.is ∙ sym b.is)) in
      let mine = length-range_with_len 0 (length G.vars) in
      let theirs = length-range_with_len 0 (total fs F g x) in
      omega arith

  -- ---- wanted `get`s are live entries

  record IsEntryOf (get : WantedGet) (e : Option ℕ × ℕ × Location) : Type 0 where
    point : ℕ
    label : slice_get F.code point ≡ Some (Label e.1)
    location : get.location ≡ number_of e.2
    got : gets_of x.wants point e.2 ≡ Some get.definition

  one-get : (v w : WantedGet) (e : Option ℕ × ℕ × Location) → IsEntryOf v e → IsEntryOf w e → v ≡ w
  one-get v w e a b =
      let k : a.point ≡ b.point = label-one F a.point b.point e.1 a.label b.label in
      let d : v.definition ≡ w.definition = same_Some _ _ (sym a.got ∙ ap (λ n. gets_of x.wants n e.2) k ∙ b.got) in
      let l : v.location ≡ w.location = a.location ∙ sym b.location in
      λ i. record { location = l i; definition = d i }

  -- a reached label is entered
  entered-by : (k l : ℕ) → slice_get F.code k ≡ Some (Label l) → (w : List Branch) → IsWalk F.code w → end_of w ≡ k → (leave : Option ℕ) × Enters F.code leave l
  entered-by k l at [] is ends = (None, ap (slice_get F.code) ends ∙ at)
  entered-by k l at (b ∷ w) is ends =
      let edge : Edge = edge_of (sites_of F.code w) b in
      (Some edge.leave, (edge, record { walk = w; is = is.1; branch = b; at = is.0; are = refl }, refl, ap (slice_get F.code) ends ∙ at))

  module _ (n : ℕ) (entries : IsLiveEntryCount F.code n) where
    few-gets : length x.wants.list ≤ n
    few-gets =
        let few = no_more IsEntryOf x.wants.list entries.members (λ i j d less inside e. list-apart fs F g x i j d less inside (ap (λ (w : WantedGet). w.definition) e)) each one-get in
        let c = entries.count in
        omega arith
      where
        each : (get : WantedGet) → In get x.wants.list → (e : Option ℕ × ℕ × Location) × In e entries.members × IsEntryOf get e
        each get i =
            let at = in_get get x.wants.list i in
            let p = x.are_wants.placed at.0 get at.1 in
            let a = (x.are_wants.rows p.0).only get p.1 in
            let l = x.are_wants.wanted.label p.0 get.definition a.0 a.2 in
            let r = x.are_wants.wanted.reached p.0 get.definition a.0 a.2 in
            let leave = entered-by p.0 l.0 l.1 r.walk r.is r.ends in
            let e : Option ℕ × ℕ × Location = (leave.0, l.0, a.0) in
            (e, in_contains e entries.members (entries.all e (record { enters = leave.1; point = p.0; label = l.1; live = x.are_wants.wanted.live p.0 get.definition a.0 a.2 })), record { point = p.0; label = l.1; location = a.1; got = a.2 })

    -- two locations at most for each definition
    pub few-locations : location_count G ≤ 2 * (F.args + length F.code + n)
    few-locations =
        let vars = few-variables in
        let gets = few-gets in
        let shadows = count_by-le-length (λ y. list_any (names_shadow y) G.code) (range_with_len 0 (length G.vars)) in
        let size = length-range_with_len 0 (length G.vars) in
        omega arith
