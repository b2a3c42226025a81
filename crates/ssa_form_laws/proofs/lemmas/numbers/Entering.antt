-- The entries of labels of laid code: each is one of the function's. No more sites are open than before, either.
use Rattle.std.proofs.Common.{◌≡◌, ℕ, zero, suc, ◌+◌, ◌-◌, ◌<◌, ◌≤◌, Bool, true, false, List, [], ◌∷◌, length, map, Option, Some, None, refl, sym, ap, subst, ◌∙◌, inl, inr, ⊎_elim, arith}
use Rattle.std.specs.Prelude.{slice_get}
use Rattle.std.proofs.lemmas.Bool.{cases_lt}
use Rattle.std.proofs.lemmas.List.{length-map}
use Rattle.std.proofs.lemmas.Option.{same_Some, slice_get_within}
use Rattle.bril_names.proofs.Naming.{one_number}
use Rattle.bril_tree.specs.declared.edge.Edge.{Edge}
use Rattle.bril_tree.specs.declared.function_tree.FuncTree.{FuncTree}
use Rattle.bril_tree.specs.declared.function_tree.Item.{Item}
use Rattle.bril_tree.specs.declared.function_tree.Item.TheVariants as item
use Rattle.bril_tree.specs.declared.numbered.Instr.{Instr}
use Rattle.bril_tree.specs.declared.numbered.Instr.TheVariants.{Label}
use Rattle.bril_tree.specs.declared.numbered_function.Func.{Func}
use Rattle.bril_tree.specs.declared.operation.Op.TheVariants as op
use Rattle.bril_tree.specs.Edge.{Branch, branches_at, branches_from, onward}
use Rattle.bril_tree.specs.FrameWords.{IsDepth}
use Rattle.bril_tree.specs.Leaving.{IsEdge, edge_of, leave_of}
use Rattle.bril_tree.specs.Membership.{In}
use Rattle.bril_tree.specs.Numbered.{function_tree, named, variable_names}
use Rattle.bril_tree.specs.Sites.{AreSitesSound, Closes, item_change, sites_changed, sites_of}
use Rattle.bril_tree.specs.Walk.{IsReached, IsWalk, end_of}
use Rattle.bril_tree.proofs.Assignments.{site_speculates}
use Rattle.bril_tree.proofs.Branches.{aborts-close, branch_from, walk_within}
use Rattle.bril_tree.proofs.Counting.{no_more}
use Rattle.bril_tree.proofs.Elements.{get_in, get_inside}
use Rattle.bril_tree.proofs.Members.{contains_in, in_contains}
use Rattle.bril_tree.proofs.Shapes.{closing_needs}
use Rattle.bril_tree.proofs.LabelPoints.{label-one}
use Rattle.flow_graph.proofs.Told.{some_site}
use Rattle.pass_edit_laws.proofs.lemmas.numbers.Edges.{edge-leaves, label-tree}
use Rattle.pass_edit_laws.proofs.lemmas.numbers.Entering.{LeaveMatched, width-within}
use Rattle.pass_edit_laws.proofs.lemmas.plan.Elements.{all_in}
use Rattle.program_numbers.specs.Entries.{Enters, IsEntryCount, IsEntryWidth}
use Rattle.ssa_build.specs.code.Items.{laid_item, name_in, read_name}
use Rattle.ssa_build.specs.code.Sweep.{goes_on, item_args, reached_at}
use Rattle.ssa_laws.specs.inserted_copies.Inserted.{is_copy}
use Rattle.ssa_build.specs.tree.Made.{IsLaidFunction}
use Rattle.ssa_form_laws.proofs.lemmas.form.Points.{Front, Home, Point, begin, front, home, home-item, now, own, point, tree_in}
use Rattle.ssa_form_laws.proofs.lemmas.numbers.Beside.{AtHome, Beside, Aborts, Goes, Leaps, Way, at-copy, at-item, beside, in-before, label-below, none-at_end, result-item}
use Rattle.ssa_form_laws.proofs.lemmas.numbers.Leading.{next-there}
use Rattle.ssa_form_laws.proofs.lemmas.numbers.Silent.{After, First, IsFallen, fallen}
use Rattle.ssa_form_laws.proofs.lemmas.numbers.Sites.{opened-by, walks-agree}

-- ---- labels

own-is_label : (r : Bool) (args : List (List ℕ)) (w : List ℕ) (t : Item) (n : List ℕ) → laid_item r args w t ≡ item.Label n → t ≡ item.Label n
own-is_label true args w (item.Label l) n e = e
own-is_label false args w (item.Label l) n e = e
own-is_label true args w (item.Const d ty v) n e = absurd cc
own-is_label false args w (item.Const d ty v) n e = absurd cc
own-is_label false args w (item.Act d o old fns ls) n e = absurd cc
own-is_label true args w (item.Act d op.Get old fns ls) n e = absurd cc
own-is_label true args w (item.Act d op.Set old fns ls) n e = absurd cc
own-is_label true args w (item.Act d _ old fns ls) n e = absurd cc

-- where edges leave, by their points in the result
leave-mapped : (h : ℕ → ℕ) (b : Bool) (i : ℕ) (ss : List ℕ) → leave_of b (h i) (map h ss) ≡ h (leave_of b i ss)
leave-mapped h false i ss = refl
leave-mapped h true i [] = refl
leave-mapped h true i (s ∷ ss) = refl

module _ (fs fs' : List (List ℕ)) (F G : Func) (g : FuncTree) (x : IsLaidFunction F (function_tree fs F) g) (same : g ≡ function_tree fs' G) (sound : AreSitesSound F.code) where
  abbrev H : ℕ → ℕ
  H i = home fs F g x i

  abbrev B : ℕ → ℕ
  B i = begin fs F g x i

  abbrev N : ℕ → ℕ
  N i = length (front fs F g x i)

  -- ---- depth

  pub depth-within : (d e : ℕ) → IsDepth F.code d → IsDepth G.code e → e ≤ d
  depth-within d e a b =
      let s = beside fs fs' F G g x same sound b.deepest b.is in
      let size : length (sites_of G.code b.deepest) ≡ length (sites_of F.code s.walk) = ap length s.sites ∙ length-map (sites_of F.code s.walk) H in
      let most = a.most s.walk s.is in
      let reaches = b.reaches in
      omega arith

  -- ---- points in their order

  rising : (i n : ℕ) → H i + n ≤ H (i + n)
  rising i zero = let e : i + 0 ≡ i = omega arith in let h : H (i + 0) ≡ H i = ap H e in omega (arith, h)
  rising i (suc n) = let r = rising i n in let e : i + suc n ≡ suc (i + n) = omega arith in let h : H (i + suc n) ≡ H (suc (i + n)) = ap H e in omega (arith, r, h)

  home-below : (i k : ℕ) → i < k → H i < B k
  home-below i zero less = absurd (omega arith)
  home-below i (suc k) less =
      let e : i + (k - i) ≡ k = omega arith in
      let h : H (i + (k - i)) ≡ H k = ap H e in
      let r = rising i (k - i) in
      omega arith

  home-one : (i k : ℕ) → H i ≡ H k → i ≡ k
  home-one i k e = ⊎_elim (λ l. absurd (let h = home-below i k l in omega arith)) (λ ge. ⊎_elim (λ l. absurd (let h = home-below k i l in omega arith)) (λ le. omega arith) (cases_lt k i)) (cases_lt i k)

  -- no item's home stands before another
  home-not_before : (i k j : ℕ) → j ≡ H i → B k ≤ j → j < H k → ⊥
  home-not_before i k j e low high = ⊎_elim (λ l. let h = home-below i k l in omega arith) (λ ge. ⊎_elim (λ l. let h = home-below k i l in omega arith) (λ le. let s : i ≡ k = omega arith in let h = ap H s in omega arith) (cases_lt k i)) (cases_lt i k)

  before-one : (i k j : ℕ) → B i ≤ j → j < H i → B k ≤ j → j < H k → i ≡ k
  before-one i k j a b c d = ⊎_elim (λ l. absurd (let h = home-below i k l in omega arith)) (λ ge. ⊎_elim (λ l. absurd (let h = home-below k i l in omega arith)) (λ le. omega arith) (cases_lt k i)) (cases_lt i k)

  -- ---- labels

  copy-no_label : (i n m : ℕ) → i ≤ length F.code → n < N i → slice_get G.code (B i + n) ≡ Some (Label m) → ⊥
  copy-no_label i n m low less at =
      let q = in-before fs fs' F G g x same sound i n low less in
      let e : q.0 ≡ Label m = same_Some _ _ (sym q.1 ∙ at) in
      let c : is_copy (Some (Label m)) ≡ true = ap (λ b. is_copy (Some b)) (sym e) ∙ q.2 in
      cc

  label-back : (k m : ℕ) → k ≤ length F.code → slice_get G.code (H k) ≡ Some (Label m) → (l : ℕ) × (slice_get F.code k ≡ Some (Label l)) × (named F.labels l ≡ named G.labels m)
  label-back k m low at = by (slice_get F.code k) refl
    where
      by : (o : Option Instr) → slice_get F.code k ≡ o → (l : ℕ) × (slice_get F.code k ≡ Some (Label l)) × (named F.labels l ≡ named G.labels m)
      by None e =
          let end : k ≡ length F.code = ⊎_elim (λ less. absurd (let h = get_inside F.code k less in let n : None ≡ Some h.0 = sym e ∙ h.1 in cc)) (λ ge. omega arith) (cases_lt k (length F.code)) in
          absurd (let n : None ≡ Some (Label m) = sym (none-at_end fs fs' F G g x same sound) ∙ ap (λ n. slice_get G.code (H n)) (sym end) ∙ at in cc)
      by (Some a) e =
          let mine = home-item fs F g x k a e in
          let theirs = result-item fs fs' F G g x same sound (H k) (Label m) at in
          let is : own fs F g x k (tree_in fs F a) ≡ item.Label (named G.labels m) = same_Some _ _ (sym mine ∙ theirs) in
          let tree = own-is_label (reached_at (slice_get x.graph.sites k)) (map (read_name x.names x.find (now fs F g x k)) (item_args (slice_get F.code k))) (name_in x.names (F.args + k)) (tree_in fs F a) (named G.labels m) is in
          let l = label-tree fs (variable_names F.vars) F.labels (Some a) (named G.labels m) (ap Some tree) in
          (l.0, e ∙ l.1, l.2)

  -- ---- which entry of the function one of the result is

  abbrev GoesOn : ℕ → Type 0
  GoesOn p = (a : Instr) × (slice_get F.code p ≡ Some a) × (goes_on (Some a) ≡ true)

  -- The edge to the label at point k leaves from the home of where the function's edge leaves, or, where it only falls into what stands
  -- before the label, from the last of that.
  data How (leave : Option ℕ) (k : ℕ) (from : Option ℕ) : Type 0 where
    Start : from ≡ None → k ≡ 0 → N 0 ≡ 0 → leave ≡ None → How leave k from
    StartPut : (j : ℕ) → from ≡ None → k ≡ 0 → 0 < N 0 → leave ≡ Some j → suc j ≡ H 0 → How leave k from
    Own : (p : ℕ) → from ≡ Some p → leave ≡ Some (H p) → (k ≡ suc p → 0 < N k → GoesOn p → ⊥) → How leave k from
    Fall : (p j : ℕ) → from ≡ Some p → k ≡ suc p → 0 < N k → GoesOn p → leave ≡ Some j → suc j ≡ H k → How leave k from

  neither : (from : Option ℕ) (p : ℕ) → from ≡ None → from ≡ Some p → ⊥
  neither from p a b = let h : None ≡ Some p = sym a ∙ b in cc

  same-put : (a c : Option ℕ) (j i h : ℕ) → a ≡ Some j → c ≡ Some i → suc j ≡ h → suc i ≡ h → a ≡ c
  same-put a c j i h p q e f = let s : j ≡ i = omega arith in p ∙ ap Some s ∙ sym q

  one-how : (a c b : Option ℕ) (k : ℕ) → How a k b → How c k b → a ≡ c
  one-how a c b k (Start e z n l) (Start e' z' n' l') = l ∙ sym l'
  one-how a c b k (Start e z n l) (StartPut j e' z' n' l' h') = absurd (omega arith)
  one-how a c b k (Start e z n l) (Own p e' l' h') = absurd (neither b p e e')
  one-how a c b k (Start e z n l) (Fall p j e' z' n' goes' l' h') = absurd (neither b p e e')
  one-how a c b k (StartPut j e z n l h) (Start e' z' n' l') = absurd (omega arith)
  one-how a c b k (StartPut j e z n l h) (StartPut j' e' z' n' l' h') = same-put a c j j' (H 0) l l' h h'
  one-how a c b k (StartPut j e z n l h) (Own p e' l' h') = absurd (neither b p e e')
  one-how a c b k (StartPut j e z n l h) (Fall p j' e' z' n' goes' l' h') = absurd (neither b p e e')
  one-how a c b k (Own p e l h) (Start e' z' n' l') = absurd (neither b p e' e)
  one-how a c b k (Own p e l h) (StartPut j e' z' n' l' h') = absurd (neither b p e' e)
  one-how a c b k (Own p e l h) (Own p' e' l' h') = let s : p ≡ p' = same_Some p p' (sym e ∙ e') in l ∙ ap (λ n. Some (H n)) s ∙ sym l'
  one-how a c b k (Own p e l h) (Fall p' j e' z' n' goes' l' h') = absurd (let s : p' ≡ p = same_Some p' p (sym e' ∙ e) in h (z' ∙ ap suc s) n' (subst GoesOn s goes'))
  one-how a c b k (Fall p j e z n goes l h) (Start e' z' n' l') = absurd (neither b p e' e)
  one-how a c b k (Fall p j e z n goes l h) (StartPut j' e' z' n' l' h') = absurd (neither b p e' e)
  one-how a c b k (Fall p j e z n goes l h) (Own p' e' l' h') = absurd (let s : p ≡ p' = same_Some p p' (sym e ∙ e') in h' (z ∙ ap suc s) n (subst GoesOn s goes))
  one-how a c b k (Fall p j e z n goes l h) (Fall p' j' e' z' n' goes' l' h') = same-put a c j j' (H k) l l' h h'

  record EntryIn (leave : Option ℕ) (m : ℕ) : Type 0 where
    from : Option ℕ
    point : ℕ
    label : ℕ
    at : slice_get F.code point ≡ Some (Label label)
    enters : Enters F.code from label
    named_same : named F.labels label ≡ named G.labels m
    how : How leave point from

  entry-first : (m : ℕ) → slice_get G.code 0 ≡ Some (Label m) → EntryIn None m
  entry-first m at =
      let none : N 0 ≡ 0 = ⊎_elim (λ less. absurd (copy-no_label 0 0 m (omega arith) less at)) (λ ge. omega arith) (cases_lt 0 (N 0)) in
      let here : H 0 ≡ 0 = omega arith in
      let l = label-back 0 m (omega arith) (ap (slice_get G.code) here ∙ at) in
      record { from = None; point = 0; label = l.0; at = l.1; enters = l.1; named_same = l.2; how = Start refl refl none refl }

  -- the edge that goes on from an item
  next-edge : (p : ℕ) (a : Instr) → IsReached F.code p → slice_get F.code p ≡ Some a → goes_on (Some a) ≡ true → (edge : Edge) × IsEdge F.code edge × (edge.leave ≡ p) × (edge.to ≡ suc p)
  next-edge p a r at goes =
      let among : In (onward p) (branches_at F.code (end_of r.walk)) = subst (λ n. In (onward p) (branches_at F.code n)) (sym r.ends) (subst (λ o. In (onward p) (branches_from F.code p o)) (sym at) (next-there F.code p a goes)) in
      (edge_of (sites_of F.code r.walk) (onward p), record { walk = r.walk; is = r.is; branch = onward p; at = contains_in (onward p) (branches_at F.code (end_of r.walk)) among; are = refl }, refl, refl)

  -- from the last of what stands before a label
  entry-fallen : (i j m : ℕ) → i ≤ length F.code → 0 < N i → suc j ≡ H i → slice_get G.code (H i) ≡ Some (Label m) → IsFallen F i → EntryIn (Some j) m
  entry-fallen i j m low some next at (First e) =
      let l = label-back i m low at in
      let first : H i ≡ H 0 = ap H e in
      let many : N i ≡ N 0 = ap N e in
      record { from = None; point = i; label = l.0; at = l.1; enters = ap (slice_get F.code) (sym e) ∙ l.1; named_same = l.2; how = StartPut j refl e (omega arith) refl (omega arith) }
  entry-fallen i j m low some next at (After p a is reached here goes) =
      let l = label-back i m low at in
      let edge = next-edge p a reached here goes in
      record { from = Some p; point = i; label = l.0; at = l.1; enters = (edge.0, edge.1, edge.2, ap (slice_get F.code) (edge.3 ∙ sym is) ∙ l.1); named_same = l.2; how = Fall p j refl is some (a, here, goes) refl next }

  -- no walk leads behind a site both with the speculation open and by an abort of it
  never-both : (w : Branch) (walk : List Branch) → IsWalk F.code walk → In w (branches_at F.code (end_of walk)) → w.aborts ≡ true → (p : ℕ) → p ≡ leave_of w.aborts w.from (sites_of F.code walk) → w.to ≡ suc p → GoesOn p → ⊥
  never-both w walk is among ab p leaves to goes = by (sites_of F.code walk) refl
    where
      from : w.from ≡ end_of walk
      from = branch_from F.code (end_of walk) w among

      closes : item_change (slice_get F.code (end_of walk)) true ≡ Closes
      closes = aborts-close F.code (end_of walk) (slice_get F.code (end_of walk)) w among ab

      by : (ss : List ℕ) → sites_of F.code walk ≡ ss → ⊥
      by [] none = some_site F.code walk sound is (closing_needs (slice_get F.code (end_of walk)) true closes) none
      by (s ∷ older) open_sites =
          let at : p ≡ s = leaves ∙ ap (λ b. leave_of b w.from (sites_of F.code walk)) ab ∙ ap (leave_of true w.from) open_sites in
          let u = opened-by F.code s older walk is [] open_sites in
          let on : In (onward s) (branches_at F.code (end_of u.walk)) = subst (λ n. In (onward s) (branches_at F.code n)) (at ∙ sym u.ends) (subst (λ o. In (onward s) (branches_from F.code p o)) (sym goes.1) (subst (λ n. In (onward n) (branches_from F.code p (Some goes.0))) at (next-there F.code p goes.0 goes.2))) in
          let inner : sites_of F.code (onward s ∷ u.walk) ≡ s ∷ older =
          ap (λ c. sites_changed c s (sites_of F.code u.walk)) (site_speculates F.code walk s (subst (In s) (sym open_sites) (inl refl))) ∙ ap (λ l. s ∷ l) u.sites in
          let outer : sites_of F.code (w ∷ walk) ≡ older =
          ap (λ b. sites_changed (item_change (slice_get F.code w.from) b) w.from (sites_of F.code walk)) ab ∙ ap (λ n. sites_changed (item_change (slice_get F.code n) true) n (sites_of F.code walk)) from
          ∙ ap (λ c. sites_changed c (end_of walk) (sites_of F.code walk)) closes ∙ ap (sites_changed Closes (end_of walk)) open_sites in
          let agree = walks-agree F.code sound (w ∷ walk) (onward s ∷ u.walk) (contains_in w (branches_at F.code (end_of walk)) among, is) (contains_in (onward s) (branches_at F.code (end_of u.walk)) on, u.is) (to ∙ ap suc at) in
          let long : length older ≡ suc (length older) = ap length (sym outer ∙ agree ∙ inner) in
          omega arith

  module _ (v : List Branch) (is_walk : IsWalk G.code v) (b : Branch) (among : In b (branches_at G.code (end_of v))) (m : ℕ) (at : slice_get G.code b.to ≡ Some (Label m)) where
    s : Beside fs fs' F G g x same sound v
    s = beside fs fs' F G g x same sound v is_walk

    entry-by_item : s.index ≡ N (end_of s.walk) → EntryIn (Some (leave_of b.aborts b.from (sites_of G.code v))) m
    entry-by_item full =
        let h = at-item fs fs' F G g x same sound v s b among full in
        let w = h.step.branch in
        let i = end_of s.walk in
        let inside : In w (branches_at F.code i) = subst (λ o. In w (branches_from F.code i o)) (sym h.at) h.step.among in
        let walk_on : IsWalk F.code (w ∷ s.walk) = (contains_in w (branches_at F.code i) inside, s.is) in
        let low : w.to ≤ length F.code = walk_within F.code (w ∷ s.walk) walk_on in
        let few = h.step.few in
        let all : h.step.index ≡ N w.to = ⊎_elim (λ less. absurd (copy-no_label w.to h.step.index m low less (ap (slice_get G.code) (sym h.step.lands) ∙ at))) (λ ge. omega arith) (cases_lt h.step.index (N w.to)) in
        let lands : b.to ≡ H w.to = h.step.lands ∙ ap (λ n. B w.to + n) all in
        let l = label-back w.to m low (ap (slice_get G.code) (sym lands) ∙ at) in
        let edge : Edge = edge_of (sites_of F.code s.walk) w in
        let is_edge : IsEdge F.code edge = record { walk = s.walk; is = s.is; branch = w; at = contains_in w (branches_at F.code i) inside; are = refl } in
        let leaves : leave_of b.aborts b.from (sites_of G.code v) ≡ H edge.leave =
        ap (λ n. leave_of b.aborts n (sites_of G.code v)) h.step.result_from ∙ ap (λ y. leave_of y (H i) (sites_of G.code v)) (sym h.step.aborts) ∙ ap (leave_of w.aborts (H i)) s.sites
        ∙ leave-mapped H w.aborts i (sites_of F.code s.walk) ∙ ap (λ n. H (leave_of w.aborts n (sites_of F.code s.walk))) (sym h.step.from) in
        record {
          from = Some edge.leave;
          point = w.to;
          label = l.0;
          at = l.1;
          enters = (edge, is_edge, refl, l.1);
          named_same = l.2;
          how = Own edge.leave refl (ap Some leaves) (λ next some goes. by h w refl edge.leave refl all (h.step.way) next some goes inside);
        }
      where
        by : (h : AtHome fs fs' F G g x same sound v s b) (w : Branch) → h.step.branch ≡ w → (p : ℕ) → p ≡ leave_of w.aborts w.from (sites_of F.code s.walk) → h.step.index ≡ N w.to → Way fs fs' F G g x same sound h.item w h.step.index → w.to ≡ suc p → 0 < N w.to → GoesOn p → In w (branches_at F.code (end_of s.walk)) → ⊥
        by h w same-branch p leaves all (Goes none) next some goes inside = omega arith
        by h w same-branch p leaves all (Leaps keeps stays) next some goes inside =
            let here : p ≡ end_of s.walk = leaves ∙ ap (λ b. leave_of b w.from (sites_of F.code s.walk)) keeps ∙ branch_from F.code (end_of s.walk) w inside in
            let item-same : goes.0 ≡ h.item = same_Some _ _ (sym goes.1 ∙ ap (slice_get F.code) here ∙ h.at) in
            let t : true ≡ false = sym goes.2 ∙ ap (λ a. goes_on (Some a)) item-same ∙ stays in
            cc
        by h w same-branch p leaves all (Aborts ab) next some goes inside = never-both w s.walk s.is inside ab p leaves next goes

    entry-by_copy : s.index < N (end_of s.walk) → EntryIn (Some (leave_of b.aborts b.from (sites_of G.code v))) m
    entry-by_copy less =
        let i = end_of s.walk in
        let low = walk_within F.code s.walk s.is in
        let c = at-copy fs fs' F G g x same sound v s b among less in
        let to : b.to ≡ suc (end_of v) = ap (λ (w : Branch). w.to) c.3 in
        let e = s.ends in
        let place : b.to ≡ B i + suc s.index = omega arith in
        let full : suc s.index ≡ N i = ⊎_elim (λ l. absurd (copy-no_label i (suc s.index) m low l (ap (slice_get G.code) (sym place) ∙ at))) (λ ge. omega arith) (cases_lt (suc s.index) (N i)) in
        let lands : b.to ≡ H i = omega arith in
        let leaves : leave_of b.aborts b.from (sites_of G.code v) ≡ end_of v = ap (λ (w : Branch). leave_of w.aborts w.from (sites_of G.code v)) c.3 in
        let y = get_inside (front fs F g x i) s.index less in
        subst (λ n. EntryIn (Some n) m) (sym leaves)
        (entry-fallen i (end_of v) m low (omega arith) (sym to ∙ lands) (ap (slice_get G.code) (sym lands) ∙ at) (fallen fs fs' F G g x same sound i y.0 (get_in (front fs F g x i) s.index y.0 y.1)))

    entry-at : EntryIn (Some (leave_of b.aborts b.from (sites_of G.code v))) m
    entry-at = ⊎_elim entry-by_copy (λ ge. entry-by_item (let f = s.few in omega arith)) (cases_lt s.index (N (end_of s.walk)))

  entry : (leave : Option ℕ) (m : ℕ) → Enters G.code leave m → EntryIn leave m
  entry None m at = entry-first m at
  entry (Some j) m en =
      let e = en.1 in
      let leaves : leave_of e.branch.aborts e.branch.from (sites_of G.code e.walk) ≡ j = ap (λ (d : Edge). d.leave) (sym e.are) ∙ en.2 in
      let to : e.branch.to ≡ en.0.to = ap (λ (d : Edge). d.to) (sym e.are) in
      subst (λ n. EntryIn (Some n) m) leaves (entry-at e.walk e.is e.branch (in_contains e.branch (branches_at G.code (end_of e.walk)) e.at) m (ap (slice_get G.code) to ∙ en.3))

  -- ---- how many entries

  label-low : (leave : Option ℕ) (m : ℕ) → Enters G.code leave m → m < length G.labels
  label-low None m at = label-below G 0 m at
  label-low (Some j) m en = label-below G en.0.to m en.3

  abbrev Entry : Type 0
  Entry = Option ℕ × ℕ

  record StandsFor (a y : Entry) : Type 0 where
    point : ℕ
    at : slice_get F.code point ≡ Some (Label y.1)
    low : a.1 < length G.labels
    named_same : named F.labels y.1 ≡ named G.labels a.1
    how : How a.0 point y.0

  one-entry : (a c y : Entry) → StandsFor a y → StandsFor c y → a ≡ c
  one-entry a c y r s =
      let k : s.point ≡ r.point = label-one F s.point r.point y.1 s.at r.at in
      let e : a.0 ≡ c.0 = one-how a.0 c.0 y.0 r.point r.how (subst (λ n. How c.0 n y.0) k s.how) in
      let l : a.1 ≡ c.1 = one_number G.labels G.formed.labels_differ a.1 c.1 r.low s.low (sym r.named_same ∙ s.named_same) in
      λ i. (e i, l i)

  pub entries-within : (d e : ℕ) → IsEntryCount F.code d → IsEntryCount G.code e → e ≤ d
  entries-within d e a b =
      let few = no_more StandsFor b.members a.members b.differ
      (λ y i.
      let enters = all_in (λ (y : Entry). Enters G.code y.0 y.1) b.members b.are y i in
      let n = entry y.0 y.1 enters in
      ((n.from, n.label), in_contains (n.from, n.label) a.members (a.all (n.from, n.label) n.enters), record { point = n.point; at = n.at; low = label-low y.0 y.1 enters; named_same = n.named_same; how = n.how }))
      one-entry in
      let m = a.count in
      let n = b.count in
      omega arith

  -- ---- how many labels from one leave point

  before-point : ℕ → Option ℕ
  before-point zero = None
  before-point (suc p) = Some p

  abbrev Match : Option ℕ → Option ℕ → ℕ → Type 0
  Match leave from l = (m : ℕ) × Enters F.code from m × (named F.labels m ≡ named G.labels l)

  matched-by : (leave from : Option ℕ) (l : ℕ) (n : EntryIn leave l) → n.from ≡ from → Match leave from l
  matched-by leave from l n e = (n.label, subst (λ o. Enters F.code o n.label) e n.enters, n.named_same)

  from-none : (l : ℕ) (n : EntryIn None l) → n.from ≡ None
  from-none l n = by n.from n.point n.how
    where
      by : (from : Option ℕ) (k : ℕ) → How None k from → from ≡ None
      by from k (Start e z none leave) = e
      by from k (StartPut j e z some leave h) = e
      by from k (Own p e leave h) = absurd (let n : None ≡ Some (H p) = leave in cc)
      by from k (Fall p j e z some goes leave h) = absurd (let n : None ≡ Some j = leave in cc)

  from-home : (i j l : ℕ) → j ≡ H i → (n : EntryIn (Some j) l) → n.from ≡ Some i
  from-home i j l here n = by n.from n.point n.how
    where
      by : (from : Option ℕ) (k : ℕ) → How (Some j) k from → from ≡ Some i
      by from k (Start e z none leave) = absurd (let n : Some j ≡ None = leave in cc)
      by from k (StartPut q e z some leave h) = absurd (let s : j ≡ q = same_Some j q leave in home-not_before i 0 j here (omega arith) (omega arith))
      by from k (Own p e leave h) = let s : j ≡ H p = same_Some j (H p) leave in e ∙ ap Some (home-one p i (sym s ∙ here))
      by from k (Fall p q e z some goes leave h) = absurd (let s : j ≡ q = same_Some j q leave in home-not_before i k j here (omega arith) (omega arith))

  from-front : (i n j l : ℕ) → n < N i → j ≡ B i + n → (e : EntryIn (Some j) l) → e.from ≡ before-point i
  unfolding before-point
  from-front i n j l less here e = by e.from e.point e.how
    where
      by : (from : Option ℕ) (k : ℕ) → How (Some j) k from → from ≡ before-point i
      by from k (Start e z none leave) = absurd (let n : Some j ≡ None = leave in cc)
      by from k (StartPut q e z some leave h) =
          let s : j ≡ q = same_Some j q leave in
          let one : 0 ≡ i = before-one 0 i j (omega arith) (omega arith) (omega arith) (omega arith) in
          e ∙ ap before-point one
      by from k (Own p e leave h) = absurd (let s : j ≡ H p = same_Some j (H p) leave in home-not_before p i j s (omega arith) (omega arith))
      by from k (Fall p q e z some goes leave h) =
          let s : j ≡ q = same_Some j q leave in
          let one : k ≡ i = before-one k i j (omega arith) (omega arith) (omega arith) (omega arith) in
          e ∙ ap before-point (sym z ∙ one)

  leave-matched : (leave : Option ℕ) → LeaveMatched F G ℕ [] leave
  leave-matched None = record { from = None; IsExtra = λ l x. ⊥; one = λ l k x low high r s. absurd r; labels = λ l h. let n = entry None l h in inr (matched-by None None l n (from-none l n)) }
  leave-matched (Some j) = by (slice_get g.code j) refl
    where
      from-is : (o : Option ℕ) → ((l : ℕ) → Enters G.code (Some j) l → (n : EntryIn (Some j) l) → n.from ≡ o) → LeaveMatched F G ℕ [] (Some j)
      from-is o is = record { from = o; IsExtra = λ l x. ⊥; one = λ l k x low high r s. absurd r; labels = λ l h. let n = entry (Some j) l h in inr (matched-by (Some j) o l n (is l h n)) }

      at-point : (y : Item) → Point fs F g x j y → LeaveMatched F G ℕ [] (Some j)
      at-point y (Home i a here there e) = from-is (Some i) (λ l h n. from-home i j l there n)
      at-point y (Front i n low here there) = from-is (before-point i) (λ l h e. from-front i n j l (slice_get_within (front fs F g x i) n y here) there e)

      by : (o : Option Item) → slice_get g.code j ≡ o → LeaveMatched F G ℕ [] (Some j)
      by None none =
          from-is None
          (λ l h n. absurd (let q = edge-leaves G.code h.0 h.1 in let at = result-item fs fs' F G g x same sound h.0.leave q.0 q.1 in let no : None ≡ Some (tree_in fs' G q.0) = sym none ∙ ap (slice_get g.code) (sym h.2) ∙ at in cc))
      by (Some y) at = at-point y (point fs F g x j y at)

  pub width-below : (d e : ℕ) → IsEntryWidth F.code d → IsEntryWidth G.code e → e ≤ d
  width-below d e a b = let w = width-within F G ℕ [] leave-matched d e a b in omega arith
