-- Walks of laid code go beside walks of its function: by what stands before an item, and then past the item.
use Rattle.std.proofs.Common.{◌≡◌, ℕ, zero, suc, ◌+◌, ◌<◌, ◌≤◌, true, false, List, [], ◌∷◌, ◌++◌, length, map, Option, Some, None, refl, sym, ap, subst, ◌∙◌, inl, ⊎_elim, arith, add-one}
use Rattle.std.specs.Prelude.{slice_get}
use Rattle.std.specs.Option.{option_map}
use Rattle.std.proofs.lemmas.Bool.{cases_lt}
use Rattle.std.proofs.lemmas.List.{length-append, length-map}
use Rattle.std.proofs.lemmas.Option.{same_Some, slice_get-map, slice_get_past, slice_get_within}
use Rattle.bril_names.proofs.Naming.{one_number}
use Rattle.bril_tree.specs.declared.function_tree.FuncTree.{FuncTree}
use Rattle.bril_tree.specs.declared.function_tree.Item.{Item}
use Rattle.bril_tree.specs.declared.function_tree.Item.TheVariants as item
use Rattle.bril_tree.specs.declared.numbered.Instr.{Instr}
use Rattle.bril_tree.specs.declared.numbered.Instr.TheVariants.{Label}
use Rattle.bril_tree.specs.declared.numbered_function.Func.{Func}
use Rattle.bril_tree.specs.Edge.{Branch, abort, branches_at, branches_from, item_branches, jump, onward}
use Rattle.bril_tree.specs.FunctionForm.{label_at}
use Rattle.bril_tree.specs.Membership.{In}
use Rattle.bril_tree.specs.Numbered.{function_tree, named, variable_names}
use Rattle.bril_tree.specs.Sites.{AreSitesSound, Change, Closes, Keeps, Opens, item_change, sites_changed, sites_of}
use Rattle.bril_tree.specs.Step.{point_of}
use Rattle.bril_tree.specs.Walk.{IsReached, IsWalk, end_of}
use Rattle.bril_tree.proofs.Branches.{walk_within}
use Rattle.bril_tree.proofs.Elements.{get_in, get_inside}
use Rattle.bril_tree.proofs.LabelPoints.{range_high, label-one}
use Rattle.bril_tree.proofs.Members.{contains_in, in_contains, in_flat_map}
use Rattle.pass_edit_laws.proofs.lemmas.numbers.Edges.{label-tree}
use Rattle.pass_edit_laws.proofs.lemmas.numbers.ItemTrees.{same_named}
use Rattle.ssa_build.specs.code.Items.{laid_item, name_in, read_name}
use Rattle.ssa_build.specs.code.Sweep.{goes_on, item_args, laid_items, reached_at}
use Rattle.ssa_laws.specs.inserted_copies.Inserted.{is_copy}
use Rattle.ssa_laws.proofs.lemmas.inserted_copies.Copies.{copy-branches, copy-keeps}
use Rattle.ssa_build.specs.tree.Made.{IsLaidFunction}
use Rattle.ssa_build.specs.tree.Standing.{nothing}
use Rattle.pass_edit_laws.specs.plan.Spliced.{position_of, start_of}
use Rattle.ssa_form_laws.proofs.lemmas.form.Edges.{reached-told}
use Rattle.ssa_form_laws.proofs.lemmas.form.Following.{own-label}
use Rattle.ssa_form_laws.proofs.lemmas.form.Fronts.{AtLabel, Falls, InFront, Leaves, in-front}
use Rattle.ssa_form_laws.proofs.lemmas.form.Points.{begin, code-made, front, front-item, home, home-item, long, now, own, piece, tree_in}
use Rattle.ssa_form_laws.proofs.lemmas.numbers.Leading.{Abort, AreAlike, Jump, Kind, Next, abort-stands, abort-there, aborts, copies-tree, jump-stands, jump-there, jumps, jumps-stay, kind, leaves-item, moved-alike, next-there, tree_copies}

-- ---- labels of a function

pub label-below : (H : Func) (j m : ℕ) → slice_get H.code j ≡ Some (Label m) → m < length H.labels
label-below H j m at = let low = range_high 0 (length H.labels) m (subst (In m) H.formed.placed (in_flat_map label_at (Label m) m H.code (get_in H.code j (Label m) at) (inl refl))) in omega arith

-- ---- where laid code ends

ends-at : (b : ℕ → List Item) (f : ℕ → Item → Item) (k : ℕ) (xs : List Item) → start_of b nothing k + length (laid_items (piece b f) k xs ++ b (k + length xs)) ≡ position_of b nothing (k + length xs)
ends-at b f k [] = let e : k + 0 ≡ k = omega arith in let s = ap (start_of b nothing) e in omega arith
ends-at b f k (x ∷ xs) =
    let e : k + length (x ∷ xs) ≡ suc k + length xs = omega arith in
    let end : position_of b nothing (k + length (x ∷ xs)) ≡ position_of b nothing (suc k + length xs) = ap (position_of b nothing) e in
    let last : length (b (k + length (x ∷ xs))) ≡ length (b (suc k + length xs)) = ap (λ n. length (b n)) e in
    let next : length (laid_items (piece b f) (k + 1) xs) ≡ length (laid_items (piece b f) (suc k) xs) = ap (λ n. length (laid_items (piece b f) n xs)) (add-one k) in
    let rest = ends-at b f (suc k) xs in
    let parts = length-append (laid_items (piece b f) (suc k) xs) (b (suc k + length xs)) in
    let all = length-append (laid_items (piece b f) k (x ∷ xs)) (b (k + length (x ∷ xs))) in
    let mine = length-append (b k ++ f k x ∷ []) (laid_items (piece b f) (k + 1) xs) in
    let first = length-append (b k) (f k x ∷ []) in
    omega arith

-- ---- sites, by their points in the result

sites-mapped : (h : ℕ → ℕ) (c : Change) (i : ℕ) (ss : List ℕ) → sites_changed c (h i) (map h ss) ≡ map h (sites_changed c i ss)
sites-mapped h Opens i ss = refl
sites-mapped h Closes i [] = refl
sites-mapped h Closes i (s ∷ ss) = refl
sites-mapped h Keeps i ss = refl

module _ (fs fs' : List (List ℕ)) (F G : Func) (g : FuncTree) (x : IsLaidFunction F (function_tree fs F) g) (same : g ≡ function_tree fs' G) (sound : AreSitesSound F.code) where
  abbrev H : ℕ → ℕ
  H i = home fs F g x i

  abbrev B : ℕ → ℕ
  B i = begin fs F g x i

  abbrev N : ℕ → ℕ
  N i = length (front fs F g x i)

  -- ---- items of the result

  back : (y : Item) (o : Option Instr) → option_map (tree_in fs' G) o ≡ Some y → (q : Instr) × (o ≡ Some q) × (y ≡ tree_in fs' G q)
  back y None e = absurd (let h : None ≡ Some y = e in cc)
  back y (Some q) e = (q, refl, sym (same_Some _ _ e))

  trees : (j : ℕ) → slice_get g.code j ≡ option_map (tree_in fs' G) (slice_get G.code j)
  trees j = ap (λ (h : FuncTree). slice_get h.code j) same ∙ slice_get-map (tree_in fs' G) G.code j

  pub result-back : (j : ℕ) (y : Item) → slice_get g.code j ≡ Some y → (q : Instr) × (slice_get G.code j ≡ Some q) × (y ≡ tree_in fs' G q)
  result-back j y at = back y (slice_get G.code j) (sym (trees j) ∙ at)

  pub result-item : (j : ℕ) (q : Instr) → slice_get G.code j ≡ Some q → slice_get g.code j ≡ Some (tree_in fs' G q)
  result-item j q at = trees j ∙ ap (option_map (tree_in fs' G)) at

  -- an item of the function has one at its home, and leads where that leads
  pub at-home : (i : ℕ) (a : Instr) → slice_get F.code i ≡ Some a → IsReached F.code i → (q : Instr) × (slice_get G.code (H i) ≡ Some q) × AreAlike F G a q
  at-home i a at reached =
      let r = result-back (H i) (own fs F g x i (tree_in fs F a)) (home-item fs F g x i a at) in
      let told = reached-told F.code x.graph x.is_graph sound i reached in
      let moved = sym (ap (λ b. laid_item b (map (read_name x.names x.find (now fs F g x i)) (item_args (slice_get F.code i))) (name_in x.names (F.args + i)) (tree_in fs F a)) told) ∙ r.2 in
      (r.0, r.1, moved-alike fs (variable_names F.vars) fs' (variable_names G.vars) F G (map (read_name x.names x.find (now fs F g x i)) (item_args (slice_get F.code i))) (name_in x.names (F.args + i)) a r.0 moved)

  -- copies alone stand before an item
  pub in-before : (i n : ℕ) → i ≤ length F.code → n < N i → (q : Instr) × (slice_get G.code (B i + n) ≡ Some q) × (is_copy (Some q) ≡ true)
  in-before i n low less =
      let y = get_inside (front fs F g x i) n less in
      let r = result-back (B i + n) y.0 (front-item fs F g x i n y.0 low y.1) in
      (r.0, r.1, sym (copies-tree fs' (variable_names G.vars) G.labels r.0) ∙ ap tree_copies (sym r.2) ∙ by y.0 (in-front fs F g x i y.0 (get_in (front fs F g x i) n y.0 y.1)))
    where
      by : (y : Item) → InFront fs F g x i y → tree_copies y ≡ true
      by y (AtLabel k e s) = ap tree_copies s.is
      by y (Falls e p) = ap tree_copies p.is
      by y (Leaves k e p) = ap tree_copies p.is

  -- nothing stands at the home of the end
  pub none-at_end : slice_get G.code (H (length F.code)) ≡ None
  none-at_end = slice_get_past G.code (H (length F.code)) (omega (arith, result-long, laid-end))
    where
      result-long : length g.code ≡ length G.code
      result-long = ap (λ (h : FuncTree). length h.code) same ∙ length-map G.code (tree_in fs' G)

      size : length (function_tree fs F).code ≡ length F.code
      size = long fs F g x

      laid-end : length g.code ≡ H (length F.code)
      laid-end =
          let e : 0 + length (function_tree fs F).code ≡ length F.code = omega (arith, size) in
          let made : length g.code ≡ length (laid_items (piece (front fs F g x) (own fs F g x)) 0 (function_tree fs F).code ++ front fs F g x (0 + length (function_tree fs F).code)) =
          ap length (code-made fs F g x ∙ x.laid.is) ∙ ap (λ n. length (laid_items (piece (front fs F g x) (own fs F g x)) 0 (function_tree fs F).code ++ front fs F g x n)) (sym e) in
          let ends = ends-at (front fs F g x) (own fs F g x) 0 (function_tree fs F).code in
          let there : H (0 + length (function_tree fs F).code) ≡ H (length F.code) = ap H e in
          omega arith

  -- a label of one name stands at the home of the function's label
  pub label-home : (k l : ℕ) → slice_get F.code k ≡ Some (Label l) → (m : ℕ) × (slice_get G.code (H k) ≡ Some (Label m)) × (named G.labels m ≡ named F.labels l)
  label-home k l at =
      let here : slice_get g.code (H k) ≡ Some (item.Label (named F.labels l)) =
      home-item fs F g x k (Label l) at ∙ ap Some (own-label (reached_at (slice_get x.graph.sites k)) (map (read_name x.names x.find (now fs F g x k)) (item_args (slice_get F.code k))) (name_in x.names (F.args + k)) (named F.labels l)) in
      label-tree fs' (variable_names G.vars) G.labels (slice_get G.code (H k)) (named F.labels l) (sym (trees (H k)) ∙ here)

  -- so a label of this name is there
  pub one-home : (k l j m : ℕ) → slice_get F.code k ≡ Some (Label l) → slice_get G.code j ≡ Some (Label m) → named F.labels l ≡ named G.labels m → j ≡ H k
  one-home k l j m at bt e =
      let h = label-home k l at in
      let one : m ≡ h.0 = one_number G.labels G.formed.labels_differ m h.0 (label-below G j m bt) (label-below G (H k) h.0 h.1) (sym e ∙ sym h.2) in
      label-one G j (H k) h.0 (bt ∙ ap (λ n. Some (Label n)) one) h.1

  -- ---- a branch of the result from an item's home is one of the item

  -- how it goes: on to what stands before the next item, by a jump, or by an abort
  pub data Way (a : Instr) (branch : Branch) (index : ℕ) : Type 0 where
    Goes : index ≡ 0 → Way a branch index
    Leaps : branch.aborts ≡ false → goes_on (Some a) ≡ false → Way a branch index
    Aborts : branch.aborts ≡ true → Way a branch index

  pub record Step (i : ℕ) (a : Instr) (b : Branch) : Type 0 where
    pub branch : Branch
    pub among : In branch (item_branches F.code i a)
    pub from : branch.from ≡ i
    pub result_from : b.from ≡ H i
    pub aborts : branch.aborts ≡ b.aborts
    pub index : ℕ
    pub way : Way a branch index
    pub few : index ≤ N branch.to
    pub lands : b.to ≡ B branch.to + index

  pub step-back : (i : ℕ) (a q : Instr) (b : Branch) → slice_get F.code i ≡ Some a → slice_get G.code (H i) ≡ Some q → AreAlike F G a q → Kind G.code (H i) q b → Step i a b
  step-back i a q b at bt alike (Next goes e) =
      let on = alike.goes ∙ goes in
      record {
        branch = onward i;
        among = next-there F.code i a on;
        way = Goes refl;
        from = refl;
        result_from = ap (λ (w : Branch). w.from) e;
        aborts = sym (ap (λ (w : Branch). w.aborts) e);
        index = 0;
        few = omega arith;
        lands = let h : b.to ≡ suc (H i) = ap (λ (w : Branch). w.to) e in omega (arith, h);
      }
  step-back i a q b at bt alike (Jump m among e) =
      let l = same_named (named F.labels) (named G.labels) (jumps a) (jumps q) alike.jump m among in
      let home-is = one-home (point_of l.0 F.code) l.0 (point_of m G.code) m (jump-stands F i a at l.0 l.1) (jump-stands G (H i) q bt m among) l.2 in
      record {
        branch = jump F.code i l.0;
        among = jump-there F.code i a l.0 l.1;
        way = Leaps refl (jumps-stay a l.0 l.1);
        from = refl;
        result_from = ap (λ (w : Branch). w.from) e;
        aborts = sym (ap (λ (w : Branch). w.aborts) e);
        index = N (point_of l.0 F.code);
        few = omega arith;
        lands = ap (λ (w : Branch). w.to) e ∙ home-is;
      }
  step-back i a q b at bt alike (Abort m among e) =
      let l = same_named (named F.labels) (named G.labels) (aborts a) (aborts q) alike.abort m among in
      let home-is = one-home (point_of l.0 F.code) l.0 (point_of m G.code) m (abort-stands F i a at l.0 l.1) (abort-stands G (H i) q bt m among) l.2 in
      record {
        branch = abort F.code i l.0;
        among = abort-there F.code i a l.0 l.1;
        way = Aborts refl;
        from = refl;
        result_from = ap (λ (w : Branch). w.from) e;
        aborts = sym (ap (λ (w : Branch). w.aborts) e);
        index = N (point_of l.0 F.code);
        few = omega arith;
        lands = ap (λ (w : Branch). w.to) e ∙ home-is;
      }

  -- ---- each walk of the result goes beside one of the function

  pub record Beside (v : List Branch) : Type 0 where
    pub walk : List Branch
    pub is : IsWalk F.code walk
    pub index : ℕ
    pub few : index ≤ N (end_of walk)
    pub ends : end_of v ≡ B (end_of walk) + index
    pub sites : sites_of G.code v ≡ map H (sites_of F.code walk)

  pub reached-by : (w : List Branch) → IsWalk F.code w → IsReached F.code (end_of w)
  reached-by w is = record { walk = w; is = is; ends = refl }

  -- where the walk stands at an item's home
  pub record AtHome (v : List Branch) (s : Beside v) (b : Branch) : Type 0 where
    pub item : Instr
    pub at : slice_get F.code (end_of s.walk) ≡ Some item
    pub result : Instr
    pub result_at : slice_get G.code (H (end_of s.walk)) ≡ Some result
    pub alike : AreAlike F G item result
    pub step : Step (end_of s.walk) item b

  pub at-item : (v : List Branch) (s : Beside v) (b : Branch) → In b (branches_at G.code (end_of v)) → s.index ≡ N (end_of s.walk) → AtHome v s b
  at-item v s b among full = by (slice_get F.code (end_of s.walk)) refl
    where
      here : end_of v ≡ H (end_of s.walk)
      here = let e = s.ends in omega (arith, full)

      there : In b (branches_at G.code (H (end_of s.walk)))
      there = subst (λ n. In b (branches_at G.code n)) here among

      by : (o : Option Instr) → slice_get F.code (end_of s.walk) ≡ o → AtHome v s b
      by None e =
          let low = walk_within F.code s.walk s.is in
          let end : end_of s.walk ≡ length F.code = ⊎_elim (λ less. absurd (let h = get_inside F.code (end_of s.walk) less in let n : None ≡ Some h.0 = sym e ∙ h.1 in cc)) (λ ge. omega arith) (cases_lt (end_of s.walk) (length F.code)) in
          absurd (let h = leaves-item G.code (H (end_of s.walk)) b there in let n : None ≡ Some h.0 = sym (ap (λ n. slice_get G.code (H n)) end ∙ none-at_end) ∙ h.1 in cc)
      by (Some a) e =
          let q = at-home (end_of s.walk) a e (reached-by s.walk s.is) in
          record {
            item = a;
            at = e;
            result = q.0;
            result_at = q.1;
            alike = q.2;
            step = step-back (end_of s.walk) a q.0 b e q.1 q.2 (kind G.code (H (end_of s.walk)) q.0 b (subst (λ o. In b (branches_from G.code (H (end_of s.walk)) o)) q.1 there));
          }

  -- where it stands before one
  pub at-copy : (v : List Branch) (s : Beside v) (b : Branch) → In b (branches_at G.code (end_of v)) → s.index < N (end_of s.walk) → (q : Instr) × (slice_get G.code (end_of v) ≡ Some q) × (is_copy (Some q) ≡ true) × (b ≡ onward (end_of v))
  at-copy v s b among less =
      let low = walk_within F.code s.walk s.is in
      let q = in-before (end_of s.walk) s.index low less in
      let at : slice_get G.code (end_of v) ≡ Some q.0 = ap (slice_get G.code) s.ends ∙ q.1 in
      let one : In b (onward (end_of v) ∷ []) = subst (λ l. In b l) (ap (branches_from G.code (end_of v)) at ∙ copy-branches q.0 q.2 G.code (end_of v)) among in
      (q.0, at, q.2, ⊎_elim (λ e. e) (λ n. absurd n) one)

  go-on : (v : List Branch) (s : Beside v) (b : Branch) → In b (branches_at G.code (end_of v)) → Beside (b ∷ v)
  go-on v s b among = ⊎_elim past (λ ge. home-by (let f = s.few in omega arith)) (cases_lt s.index (N (end_of s.walk)))
    where
      past : s.index < N (end_of s.walk) → Beside (b ∷ v)
      past less =
          let q = at-copy v s b among less in
          let to : b.to ≡ suc (end_of v) = ap (λ (w : Branch). w.to) q.3 in
          let e = s.ends in
          record {
            walk = s.walk;
            is = s.is;
            index = suc s.index;
            few = omega arith;
            ends = omega (arith, to);
            sites = ap (λ (w : Branch). sites_changed (item_change (slice_get G.code w.from) w.aborts) w.from (sites_of G.code v)) q.3
                ∙ ap (λ o. sites_changed (item_change o false) (end_of v) (sites_of G.code v)) q.1 ∙ ap (λ c. sites_changed c (end_of v) (sites_of G.code v)) (copy-keeps q.0 q.2) ∙ s.sites;
          }

      home-by : s.index ≡ N (end_of s.walk) → Beside (b ∷ v)
      home-by full =
          let h = at-item v s b among full in
          let w = h.step.branch in
          let i = end_of s.walk in
          record {
            walk = w ∷ s.walk;
            is = (contains_in w (branches_at F.code i) (subst (λ o. In w (branches_from F.code i o)) (sym h.at) h.step.among), s.is);
            index = h.step.index;
            few = h.step.few;
            ends = h.step.lands;
            sites = ap (λ n. sites_changed (item_change (slice_get G.code n) b.aborts) n (sites_of G.code v)) h.step.result_from
                ∙ ap (λ o. sites_changed (item_change o b.aborts) (H i) (sites_of G.code v)) h.result_at
                ∙ ap (λ c. sites_changed c (H i) (sites_of G.code v)) (sym (h.alike.change b.aborts))
                ∙ ap (sites_changed (item_change (Some h.item) b.aborts) (H i)) s.sites
                ∙ sites-mapped H (item_change (Some h.item) b.aborts) i (sites_of F.code s.walk)
                ∙ ap (λ y. map H (sites_changed (item_change (Some h.item) y) i (sites_of F.code s.walk))) (sym h.step.aborts)
                ∙ ap (λ o. map H (sites_changed (item_change o w.aborts) i (sites_of F.code s.walk))) (sym h.at)
                ∙ ap (λ n. map H (sites_changed (item_change (slice_get F.code n) w.aborts) n (sites_of F.code s.walk))) (sym h.step.from);
          }

  pub beside : (v : List Branch) → IsWalk G.code v → Beside v
  beside [] is = record { walk = []; is = tt; index = 0; few = omega arith; ends = refl; sites = refl }
  beside (b ∷ v) is = go-on v (beside v is.1) b (in_contains b (branches_at G.code (end_of v)) is.0)

  -- ---- and each item that walks lead to has its home reached

  -- past what stands before an item
  pub through : (i : ℕ) → i ≤ length F.code → (v : List Branch) → IsWalk G.code v → end_of v ≡ B i → (n : ℕ) → n ≤ N i → (u : List Branch) × IsWalk G.code u × (end_of u ≡ B i + n)
  through i low v is ends zero few = (v, is, omega (arith, ends))
  through i low v is ends (suc n) few =
      let r = through i low v is ends n (omega arith) in
      let q = in-before i n low (omega arith) in
      let at : slice_get G.code (end_of r.0) ≡ Some q.0 = ap (slice_get G.code) r.2 ∙ q.1 in
      let one : In (onward (end_of r.0)) (branches_at G.code (end_of r.0)) = subst (λ l. In (onward (end_of r.0)) l) (sym (ap (branches_from G.code (end_of r.0)) at ∙ copy-branches q.0 q.2 G.code (end_of r.0))) (inl refl) in
      let e = r.2 in
      (onward (end_of r.0) ∷ r.0, (contains_in (onward (end_of r.0)) (branches_at G.code (end_of r.0)) one, r.1), omega (arith, e))

  record Home (i : ℕ) : Type 0 where
    walk : List Branch
    is : IsWalk G.code walk
    ends : end_of walk ≡ H i

  more : (i : ℕ) (h : Home i) (q : Instr) (b : Branch) → slice_get G.code (H i) ≡ Some q → In b (item_branches G.code (H i) q) → IsWalk G.code (b ∷ h.walk)
  more i h q b at among =
      (contains_in b (branches_at G.code (end_of h.walk)) (subst (λ n. In b (branches_at G.code n)) (sym h.ends) (subst (λ o. In b (branches_from G.code (H i) o)) (sym at) among)), h.is)

  -- the next item's front begins behind an item that goes on
  pub next-begun : (i : ℕ) (a : Instr) → slice_get F.code i ≡ Some a → IsReached F.code i → goes_on (Some a) ≡ true → (v : List Branch) → IsWalk G.code v → end_of v ≡ H i → (u : List Branch) × IsWalk G.code u × (end_of u ≡ B (suc i))
  next-begun i a at reached goes v is ends =
      let q = at-home i a at reached in
      let on = next-there G.code (H i) q.0 (sym q.2.goes ∙ goes) in
      (onward (H i) ∷ v, more i (record { walk = v; is = is; ends = ends }) q.0 (onward (H i)) q.1 on, omega arith)

  home-step : (w : List Branch) → IsWalk F.code w → Home (end_of w) → (a : Instr) → slice_get F.code (end_of w) ≡ Some a → (b : Branch) → Kind F.code (end_of w) a b → Home b.to
  home-step w is h a at b (Next goes e) =
      let n = next-begun (end_of w) a at (reached-by w is) goes h.walk h.is h.ends in
      let low = slice_get_within F.code (end_of w) a at in
      let t = through (suc (end_of w)) (omega arith) n.0 n.1 n.2 (N (suc (end_of w))) (omega arith) in
      record { walk = t.0; is = t.1; ends = t.2 ∙ ap (λ (z : Branch). H z.to) (sym e) }
  home-step w is h a at b (Jump l among e) =
      let q = at-home (end_of w) a at (reached-by w is) in
      let m = same_named (named G.labels) (named F.labels) (jumps q.0) (jumps a) (sym q.2.jump) l among in
      let lands = one-home (point_of l F.code) l (point_of m.0 G.code) m.0 (jump-stands F (end_of w) a at l among) (jump-stands G (H (end_of w)) q.0 q.1 m.0 m.1) (sym m.2) in
      record { walk = jump G.code (H (end_of w)) m.0 ∷ h.walk; is = more (end_of w) h q.0 (jump G.code (H (end_of w)) m.0) q.1 (jump-there G.code (H (end_of w)) q.0 m.0 m.1); ends = lands ∙ ap (λ (z : Branch). H z.to) (sym e) }
  home-step w is h a at b (Abort l among e) =
      let q = at-home (end_of w) a at (reached-by w is) in
      let m = same_named (named G.labels) (named F.labels) (aborts q.0) (aborts a) (sym q.2.abort) l among in
      let lands = one-home (point_of l F.code) l (point_of m.0 G.code) m.0 (abort-stands F (end_of w) a at l among) (abort-stands G (H (end_of w)) q.0 q.1 m.0 m.1) (sym m.2) in
      record { walk = abort G.code (H (end_of w)) m.0 ∷ h.walk; is = more (end_of w) h q.0 (abort G.code (H (end_of w)) m.0) q.1 (abort-there G.code (H (end_of w)) q.0 m.0 m.1); ends = lands ∙ ap (λ (z : Branch). H z.to) (sym e) }

  home-there : (w : List Branch) → IsWalk F.code w → Home (end_of w)
  home-there [] is = let t = through 0 (omega arith) [] tt refl (N 0) (omega arith) in record { walk = t.0; is = t.1; ends = t.2 }
  home-there (b ∷ w) is =
      let i = leaves-item F.code (end_of w) b (in_contains b (branches_at F.code (end_of w)) is.0) in
      home-step w is.1 (home-there w is.1) i.0 i.1 b (kind F.code (end_of w) i.0 b i.2)

  pub home-walk : (i : ℕ) → IsReached F.code i → (v : List Branch) × IsWalk G.code v × (end_of v ≡ H i)
  home-walk i r = let h = home-there r.walk r.is in (h.walk, h.is, h.ends ∙ ap H r.ends)
