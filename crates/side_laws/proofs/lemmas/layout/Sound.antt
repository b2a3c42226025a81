-- A tree with side exits can be numbered: its labels differ, and each name that an item has is there.
use Rattle.std.proofs.Common.{◌≡◌, ◌⊎◌, ℕ, zero, suc, ◌+◌, ◌<◌, ◌≤◌, Bool, true, false, List, [], ◌∷◌, ◌++◌, length, All, Option, Some, None, refl, sym, ap, subst, ◌∙◌, inl, inr, ⊎_elim, arith}
use Rattle.std.specs.Prelude.{slice_get, codes, ◌==◌, if◌then◌else◌}
use Rattle.std.specs.Fmt.{decimal}
use Rattle.std.specs.List.{AllZip, Contains}
use Rattle.std.specs.Option.{option_map}
use Rattle.std.proofs.lemmas.Fmt.{decimal_injective}
use Rattle.std.proofs.lemmas.List.Elements.{All-nil, All-cons, filter_map-append}
use Rattle.std.proofs.lemmas.Bool.{cases_lt}
use Rattle.std.proofs.lemmas.Option.{same_Some, slice_get_past, slice_get_within}
use Rattle.bril_tree.specs.declared.function_tree.FuncTree.{FuncTree}
use Rattle.bril_tree.specs.declared.function_tree.Item.{Item}
use Rattle.bril_tree.specs.declared.numbered.Instr.TheVariants.{Act}
use Rattle.bril_tree.specs.declared.program.Prog.{Prog}
use Rattle.bril_tree.specs.declared.tree.Tree.{Tree}
use Rattle.bril_tree.specs.declared.function_tree.Item.TheVariants as item
use Rattle.bril_tree.specs.declared.operation.Op.TheVariants as op
use Rattle.bril_tree.specs.Accepted.{IsAccepted}
use Rattle.bril_tree.specs.Membership.{In}
use Rattle.bril_tree.specs.Numbered.{named, names_in, names_of_functions, tree_at, tree_of}
use Rattle.bril_tree.specs.Step.{code_of, point_of}
use Rattle.bril_tree.proofs.Branches.{label_within}
use Rattle.bril_tree.proofs.Elements.{get_in, get_inside, in_get}
use Rattle.bril_tree.proofs.Members.{contains_in, in_append_cases}
use Rattle.bril_tree.proofs.Trees.{tree_at-function, tree_of-numbered}
use Rattle.bril_names.specs.Faults.{AreAmong, Differ, IsKnown, IsSound, IsSoundEdit, callees_of, function_names, label_of, labels_of, targets_of}
use Rattle.bril_names.proofs.Sound.{sound_tree}
use Rattle.pass_edit_laws.proofs.lemmas.names.Points.{found, label_found, label_once}
use Rattle.pass_edit_laws.specs.plan.Spliced.{position_of, spliced}
use Rattle.pass_edit_laws.proofs.lemmas.plan.Elements.{all_in, in_all, zip-by_place}
use Rattle.pass_edit_laws.proofs.lemmas.plan.Splicing.{before-position, item-position, in-spliced}
use Rattle.pass_edit_laws.specs.plan.Lines.{jmp_line, listed_item}
use Rattle.pass_edit_laws.specs.labels.Fresh.{IsFresh, IsUnmarked, labels_here, labels_in}
use Rattle.pass_edit_laws.proofs.lemmas.labels.Listed.{label-in, labels-item, among-more, label-known}
use Rattle.pass_edit_laws.proofs.lemmas.labels.Spliced.{Apart, differ-apart, spliced-apart}
use Rattle.pass_edit_laws.proofs.lemmas.labels.Fresh.{fresh-once}
use Rattle.side_laws.specs.Paired.{Pair}
use Rattle.side_laws.specs.Passage.{IsPaired}
use Rattle.side_laws.specs.Sided.{SideExit, AreExits, AreAllExits, IsSidedTree, kept_lines, retargeted_by, lines_behind, exit_lines, sided_items, exit_at, exits_before}
use Rattle.side_laws.proofs.lemmas.growth.Entering.{attempted-named, retargeted-back}
use Rattle.side_laws.proofs.lemmas.layout.Laying.{front-owner, in-front, sided-at, sided-long, exit_at-owner}
use Rattle.side_laws.proofs.lemmas.pairs.Placed.{paired}
use Rattle.side_laws.proofs.lemmas.pairs.Runs.{exit-pair}

-- ---- labels of lists

none-labels : (xs : List Item) → ((a : List ℕ) → In (item.Label a) xs → ⊥) → labels_of xs ≡ []
none-labels xs none = by (labels_of xs) refl
  where
    by : (ls : List (List ℕ)) → labels_of xs ≡ ls → labels_of xs ≡ []
    by [] e = e
    by (a ∷ ls) e = absurd (none a (labels-item xs a (subst (In a) (sym e) (inl refl))))

-- ---- names of exits

plain-base : (J : ℕ) → IsUnmarked (codes "side" ++ decimal J)
plain-base J e = omega (arith, e)

-- the exit at a place has the fresh name of its number
fresh-at : (taken : List (List ℕ)) (J : ℕ) (pairs : List Pair) (exits : List SideExit) → AreExits taken J pairs exits → (n : ℕ) (w : SideExit) → slice_get exits n ≡ Some w → IsFresh taken (codes "side" ++ decimal (J + n)) w.name
fresh-at taken J [] exits h n w e = absurd (let z : None ≡ Some w = ap (λ l. slice_get l n) (sym h) ∙ e in cc)
fresh-at taken J (p ∷ pairs) [] h n w e = absurd h
fresh-at taken J (p ∷ pairs) (x ∷ exits) h zero w e = let z : J ≡ J + 0 = omega arith in subst (λ m. IsFresh taken (codes "side" ++ decimal m) w.name) z (subst (λ (y : SideExit). IsFresh taken (codes "side" ++ decimal J) y.name) (same_Some x w e) h.1)
fresh-at taken J (p ∷ pairs) (x ∷ exits) h (suc n) w e = let z : suc J + n ≡ J + suc n = omega arith in subst (λ m. IsFresh taken (codes "side" ++ decimal m) w.name) z (fresh-at taken (suc J) pairs exits h.2 n w e)

-- so two exits of one name are one
same-base : (J K : ℕ) → J < 4294967296 → K < 4294967296 → codes "side" ++ decimal J ≡ codes "side" ++ decimal K → J ≡ K
same-base J K j k e = decimal_injective J K (omega (arith, j)) (omega (arith, k)) (let h : decimal J ≡ decimal K = cc in h)

module _ (taken : List (List ℕ)) (J : ℕ) (pairs : List Pair) (exits : List SideExit) (are : AreExits taken J pairs exits) (few : J + length exits < 4294967296) where
  exit-one : (w v : SideExit) → In w exits → In v exits → w.name ≡ v.name → (n : ℕ) × (slice_get exits n ≡ Some w) × (slice_get exits n ≡ Some v)
  exit-one w v i k e =
      let a = in_get w exits i in
      let b = in_get v exits k in
      let la = slice_get_within exits a.0 w a.1 in
      let lb = slice_get_within exits b.0 v b.1 in
      let base = fresh-once taken taken (codes "side" ++ decimal (J + a.0)) (codes "side" ++ decimal (J + b.0)) w.name v.name (fresh-at taken J pairs exits are a.0 w a.1) (fresh-at taken J pairs exits are b.0 v b.1) (plain-base (J + a.0)) (plain-base (J + b.0)) e in
      let n = same-base (J + a.0) (J + b.0) (omega (arith, la, few)) (omega (arith, lb, few)) base in
      let same : b.0 ≡ a.0 = omega (arith, n) in
      (a.0, a.1, ap (slice_get exits) (sym same) ∙ b.1)

-- the first of some exits has another name than those behind it
first-apart : (taken : List (List ℕ)) (J : ℕ) (p : Pair) (pairs : List Pair) (w : SideExit) (exits : List SideExit) → AreExits taken J (p ∷ pairs) (w ∷ exits) → J + suc (length exits) < 4294967296 → (v : SideExit) → In v exits → w.name ≡ v.name → ⊥
first-apart taken J p pairs w exits are few v i e =
    let b = in_get v exits i in
    let lb = slice_get_within exits b.0 v b.1 in
    let base = fresh-once taken taken (codes "side" ++ decimal J) (codes "side" ++ decimal (suc J + b.0)) w.name v.name are.1 (fresh-at taken (suc J) pairs exits are.2 b.0 v b.1) (plain-base J) (plain-base (suc J + b.0)) e in
    let n = same-base J (suc J + b.0) (omega (arith, few)) (omega (arith, lb, few)) base in
    omega (arith, n)

-- ---- one function

-- retargeted or not, a label is itself
retargeted-label : (o : Option SideExit) (name : List ℕ) → retargeted_by o (item.Label name) ≡ item.Label name
retargeted-label None name = refl
retargeted-label (Some w) name = refl

module _ (P : Prog) (accepted : IsAccepted P) (exits : ℕ → List SideExit) (all : AreAllExits P exits) (f : ℕ) (few : 1 + length (exits f) < 4294967296) (F : FuncTree) (p : slice_get (tree_of P).funcs f ≡ Some F) where
  of : (i : ℕ) → tree_at P f i ≡ slice_get F.code i
  of i = tree_at-function P f i F p

  abbrev before : ℕ → List Item
  before = exits_before (tree_at P f) (labels_in P f) (code_of P f) (exits f)

  abbrev behind : ℕ → List Item
  behind = λ i. []

  abbrev pub edited : List Item
  edited = spliced (exits_before (tree_at P f) (labels_in P f) (code_of P f) (exits f)) (λ i. []) 0 (sided_items (exits f) 0 F.code)

  exit-paired : (w : SideExit) → In w (exits f) → IsPaired (code_of P f) w.pair
  exit-paired w among = paired P accepted f (all.pairs f) (all.are_pairs f) w.pair (exit-pair (labels_in P f) 1 (all.pairs f) (exits f) (all.are_exits f) w among)

  kept-source : (kept : List ℕ) (a : Item) → In a (kept_lines (tree_at P f) kept) → (i : ℕ) × In i kept × (tree_at P f i ≡ Some a)
  kept-source [] a among = absurd among
  kept-source (i ∷ kept) a among = ⊎_elim (λ m. (i, inl refl, here (tree_at P f i) m)) (λ m. let r = kept-source kept a m in (r.0, inr r.1, r.2)) (in_append_cases a (listed_item (tree_at P f i)) (kept_lines (tree_at P f) kept) among)
    where
      here : (o : Option Item) → In a (listed_item o) → o ≡ Some a
      here None m = absurd m
      here (Some c) (inl e) = ap Some (sym e)
      here (Some c) (inr m) = absurd m

  behind-plain : (w : SideExit) → In w (exits f) → (a : List ℕ) → In (item.Label a) (lines_behind (tree_at P f) (labels_in P f) w.pair.kept w.pair.other) → ⊥
  behind-plain w among a m = ⊎_elim kept (λ j. ⊎_elim (λ e. cc) (λ z. z) j) (in_append_cases (item.Label a) (kept_lines (tree_at P f) w.pair.kept) (jmp_line (named (labels_in P f) w.pair.other) ∷ []) m)
    where
      kept : In (item.Label a) (kept_lines (tree_at P f) w.pair.kept) → ⊥
      kept k =
          let s = kept-source w.pair.kept (item.Label a) k in
          let c = (exit-paired w among).fine.computes s.0 s.1 in
          let h = found P f s.0 c.0 c.1 in
          attempted-named (names_of_functions P.funcs) (names_in (slice_get P.funcs f)) h.function.labels c.0 a c.2 (same_Some _ _ (sym h.tree ∙ s.2))

  line-label : (w : SideExit) → In w (exits f) → (a : List ℕ) → In (item.Label a) (exit_lines (tree_at P f) (labels_in P f) w) → a ≡ w.name
  line-label w among a (inl e) = let h : a ≡ w.name = cc in h
  line-label w among a (inr m) = absurd (behind-plain w among a m)

  fresh-new : (w : SideExit) → In w (exits f) → In w.name (labels_in P f) → ⊥
  fresh-new w among = let a = in_get w (exits f) among in (fresh-at (labels_in P f) 1 (all.pairs f) (exits f) (all.are_exits f) a.0 w a.1).new

  -- ---- labels differ

  data Owned (i : ℕ) (a : List ℕ) : Type 0 where
    OldLabel : tree_at P f i ≡ Some (item.Label a) → Owned i a
    SideLabel : (w : SideExit) → In w (exits f) → point_of w.pair.bail (code_of P f) ≡ i → a ≡ w.name → Owned i a

  once : (i j : ℕ) (a : List ℕ) → Owned i a → Owned j a → i ≡ j
  once i j a (OldLabel e) (OldLabel d) = label_once P f i j a e d
  once i j a (OldLabel e) (SideLabel w m b n) = absurd (fresh-new w m (subst (λ z. In z (labels_in P f)) n (label-known P f i a e)))
  once i j a (SideLabel w m b n) (OldLabel e) = absurd (fresh-new w m (subst (λ z. In z (labels_in P f)) n (label-known P f j a e)))
  once i j a (SideLabel w m b n) (SideLabel v k c d) =
      let o = exit-one (labels_in P f) 1 (all.pairs f) (exits f) (all.are_exits f) few w v m k (sym n ∙ d) in
      let same : w ≡ v = same_Some w v (sym o.1 ∙ o.2) in
      sym b ∙ ap (λ (z : SideExit). point_of z.pair.bail (code_of P f)) same ∙ c

  side-owned : (i : ℕ) (a : List ℕ) → In a (labels_of (before i)) → (w : SideExit) × In w (exits f) × (point_of w.pair.bail (code_of P f) ≡ i) × (a ≡ w.name)
  side-owned i a among = let o = front-owner P f (exits f) i (item.Label a) (labels-item (before i) a among) in (o.0, o.1, o.2, line-label o.0 o.1 a o.3)

  firsts-of : (J : ℕ) (pairs : List Pair) (ws : List SideExit) → AreExits (labels_in P f) J pairs ws → J + length ws < 4294967296 → ((w : SideExit) → In w ws → In w (exits f)) → (i : ℕ) → Apart (labels_of (exits_before (tree_at P f) (labels_in P f) (code_of P f) ws i))
  firsts-of J pairs [] are low sub i = tt
  firsts-of J [] (w ∷ ws) are low sub i = absurd (let z : w ∷ ws ≡ [] = are in cc)
  firsts-of J (p' ∷ pairs) (w ∷ ws) are low sub i = by (point_of w.pair.bail (code_of P f) == i) (firsts-of (suc J) pairs ws are.2 (omega (arith, low)) (λ v m. sub v (inr m)) i)
    where
      apart : In w.name (labels_of (exits_before (tree_at P f) (labels_in P f) (code_of P f) ws i)) → ⊥
      apart m =
          let o = front-owner P f ws i (item.Label w.name) (labels-item (exits_before (tree_at P f) (labels_in P f) (code_of P f) ws i) w.name m) in
          first-apart (labels_in P f) J p' pairs w ws are low o.0 o.1 (line-label o.0 (sub o.0 (inr o.1)) w.name o.3)

      cut : labels_of (exit_lines (tree_at P f) (labels_in P f) w ++ exits_before (tree_at P f) (labels_in P f) (code_of P f) ws i) ≡ w.name ∷ labels_of (exits_before (tree_at P f) (labels_in P f) (code_of P f) ws i)
      cut = ap (λ l. w.name ∷ l) (filter_map-append label_of (lines_behind (tree_at P f) (labels_in P f) w.pair.kept w.pair.other) (exits_before (tree_at P f) (labels_in P f) (code_of P f) ws i) ∙ ap (λ l. l ++ labels_of (exits_before (tree_at P f) (labels_in P f) (code_of P f) ws i)) (none-labels (lines_behind (tree_at P f) (labels_in P f) w.pair.kept w.pair.other) (behind-plain w (sub w (inl refl)))))

      by : (b : Bool) → Apart (labels_of (exits_before (tree_at P f) (labels_in P f) (code_of P f) ws i)) → Apart (labels_of (if b then exit_lines (tree_at P f) (labels_in P f) w ++ exits_before (tree_at P f) (labels_in P f) (code_of P f) ws i else exits_before (tree_at P f) (labels_in P f) (code_of P f) ws i))
      by false rest = rest
      by true rest = subst Apart (sym cut) (apart, rest)

  owns : (i : ℕ) (a : List ℕ) → slice_get (sided_items (exits f) 0 F.code) i ≡ Some (item.Label a) → Owned i a × (In a (labels_of (before i)) → ⊥) × (In a [] → ⊥)
  owns i a e =
      let t = retargeted-back (exit_at (exits f) i) (slice_get F.code i) a (sym (sided-at (exits f) F.code i) ∙ e) in
      let tree = of i ∙ t in
      (OldLabel tree, (λ m. let o = side-owned i a m in fresh-new o.0 o.1 (subst (λ z. In z (labels_in P f)) o.3 (label-known P f i a tree))), λ z. z)

  pub labels-differ : Differ (labels_of edited)
  labels-differ =
      differ-apart (labels_of edited)
      (spliced-apart (exits_before (tree_at P f) (labels_in P f) (code_of P f) (exits f)) (λ i. []) Owned once (λ i a m. let o = side-owned i a m in SideLabel o.0 o.1 o.2 o.3) (λ i a m. absurd m)
      (firsts-of 1 (all.pairs f) (exits f) (all.are_exits f) few (λ w m. m)) (λ i. tt) (λ i a m n. n) 0 (sided_items (exits f) 0 F.code)
      (λ i a e. let n : 0 + i ≡ i = omega arith in subst (λ m. Owned m a × (In a (labels_of (before m)) → ⊥) × (In a [] → ⊥)) (sym n) (owns i a e)))

  -- ---- names are there

  sound : IsSound (function_names (tree_of P)) F
  sound = all_in (IsSound (function_names (tree_of P))) (tree_of P).funcs (sound_tree (tree_of P) P (tree_of-numbered P)).sound F (get_in (tree_of P).funcs f F p)

  abbrev functions : List (List ℕ)
  functions = function_names (tree_of P)

  item-in : (i : ℕ) (b : Item) → slice_get F.code i ≡ Some b → In (retargeted_by (exit_at (exits f) i) b) edited
  item-in i b e =
      let w = slice_get_within F.code i b e in
      let l = sided-long (exits f) 0 F.code in
      get_in edited (position_of before behind i) (retargeted_by (exit_at (exits f) i) b) (item-position before behind (sided_items (exits f) 0 F.code) i (omega (arith, w, l)) ∙ sided-at (exits f) F.code i ∙ ap (option_map (retargeted_by (exit_at (exits f) i))) e)

  label-old-in : (i : ℕ) (a : List ℕ) → slice_get F.code i ≡ Some (item.Label a) → In (item.Label a) edited
  label-old-in i a e = subst (λ z. In z edited) (retargeted-label (exit_at (exits f) i) a) (item-in i (item.Label a) e)

  labels-more : (a : List ℕ) → In a (labels_of F.code) → In a (labels_of edited)
  labels-more a m = let k = in_get (item.Label a) F.code (labels-item F.code a m) in label-in edited a (label-old-in k.0 a k.1)

  plain-known : (a : Item) → callees_of a ≡ [] → targets_of a ≡ [] → IsKnown functions (labels_of edited) a
  plain-known a c t = (subst (AreAmong functions) (sym c) (All-nil (λ z. Contains functions z)), subst (AreAmong (labels_of edited)) (sym t) (All-nil (λ z. Contains (labels_of edited) z)))

  one-target : (l : List ℕ) → In (item.Label l) edited → AreAmong (labels_of edited) (l ∷ [])
  one-target l among = All-cons (λ z. Contains (labels_of edited) z) l [] (contains_in l (labels_of edited) (label-in edited l among)) (All-nil (λ z. Contains (labels_of edited) z))

  old-known : (i : ℕ) (b : Item) → slice_get F.code i ≡ Some b → IsKnown functions (labels_of edited) b
  old-known i b e =
      let h = all_in (IsKnown functions (labels_of F.code)) F.code sound.known b (get_in F.code i b e) in
      (h.0, among-more (labels_of F.code) (labels_of edited) (targets_of b) labels-more h.1)

  code-long : length (code_of P f) ≤ length F.code
  code-long = ⊎_elim (λ l. absurd (let g = get_inside (code_of P f) (length F.code) l in let h = found P f (length F.code) g.0 g.1 in let n = slice_get_past F.code (length F.code) (omega arith) in let z : None ≡ Some _ = sym n ∙ sym (of (length F.code)) ∙ h.tree in cc)) (λ l. l) (cases_lt (length F.code) (length (code_of P f)))

  exit-label-in : (w : SideExit) → In w (exits f) → In (item.Label w.name) edited
  exit-label-in w among =
      let b = point_of w.pair.bail (code_of P f) in
      let i = in-front P f (exits f) w among in
      let low = i.within in
      let inside = label_within w.pair.bail (code_of P f) in
      let c = code-long in
      let l = sided-long (exits f) 0 F.code in
      let at = i.at 0 (omega arith) in
      get_in edited _ (item.Label w.name) (before-position before behind (sided_items (exits f) 0 F.code) (point_of w.pair.bail (code_of P f)) (i.offset + 0) (omega (arith, inside, c, l)) (omega (arith, low)) ∙ at)

  retargeted-known : (i : ℕ) (b : Item) → slice_get F.code i ≡ Some b → (o : Option SideExit) → exit_at (exits f) i ≡ o → IsKnown functions (labels_of edited) (retargeted_by o b)
  retargeted-known i b e None h = old-known i b e
  retargeted-known i (item.Label name) e (Some w) h = plain-known (item.Label name) refl refl
  retargeted-known i (item.Const d t v) e (Some w) h = plain-known (item.Const d t v) refl refl
  retargeted-known i (item.Act d u args fns ls) e (Some w) h = ((old-known i (item.Act d u args fns ls) e).0, one-target w.name (exit-label-in w (exit_at-owner (exits f) i w h).0))

  other-in : (w : SideExit) → In w (exits f) → In (item.Label (named (labels_in P f) w.pair.other)) edited
  other-in w among =
      let t = (exit-paired w among).fine.turning in
      let h = found P f t.stands (Act None None op.Br (t.c ∷ []) [] (t.on ∷ t.off ∷ [])) t.turns in
      let below = h.range.targets in
      let less : w.pair.other < length h.function.labels = ⊎_elim (λ e. subst (λ n. n < length h.function.labels) (sym e) below.0) (λ r. ⊎_elim (λ e. subst (λ n. n < length h.function.labels) (sym e) below.1.0) (λ z. absurd z) r) t.other in
      let names : h.function.labels ≡ labels_in P f = ap labels_here (sym h.there) in
      label-old-in (point_of w.pair.other (code_of P f)) (named (labels_in P f) w.pair.other)
      (sym (of (point_of w.pair.other (code_of P f))) ∙ label_found P f h.function w.pair.other h.there less ∙ ap (λ l. Some (item.Label (named l w.pair.other))) names)

  line-known : (w : SideExit) → In w (exits f) → (a : Item) → In a (exit_lines (tree_at P f) (labels_in P f) w) → IsKnown functions (labels_of edited) a
  line-known w among a (inl e) = plain-known a (ap callees_of e) (ap targets_of e)
  line-known w among a (inr m) = ⊎_elim (λ k. let s = kept-source w.pair.kept a k in old-known s.0 a (sym (of s.0) ∙ s.2)) (λ k. ⊎_elim jmp (λ z. absurd z) k) (in_append_cases a (kept_lines (tree_at P f) w.pair.kept) (jmp_line (named (labels_in P f) w.pair.other) ∷ []) m)
    where
      jmp : a ≡ jmp_line (named (labels_in P f) w.pair.other) → IsKnown functions (labels_of edited) a
      jmp e = subst (IsKnown functions (labels_of edited)) (sym e) (All-nil (λ z. Contains functions z), one-target (named (labels_in P f) w.pair.other) (other-in w among))

  pub items-known : (a : Item) → In a edited → IsKnown functions (labels_of edited) a
  items-known a among = by (in-spliced (exits_before (tree_at P f) (labels_in P f) (code_of P f) (exits f)) (λ i. []) a 0 (sided_items (exits f) 0 F.code) among)
    where
      by_item : (i : ℕ) (o : Option Item) → slice_get F.code i ≡ o → option_map (retargeted_by (exit_at (exits f) i)) o ≡ Some a → IsKnown functions (labels_of edited) a
      by_item i None e h = absurd (let z : None ≡ Some a = h in cc)
      by_item i (Some b) e h = subst (IsKnown functions (labels_of edited)) (same_Some _ a h) (retargeted-known i b e (exit_at (exits f) i) refl)

      by : ((i : ℕ) × (slice_get (sided_items (exits f) 0 F.code) i ≡ Some a)) ⊎ (((i : ℕ) × In a (exits_before (tree_at P f) (labels_in P f) (code_of P f) (exits f) i)) ⊎ ((i : ℕ) × In a [])) → IsKnown functions (labels_of edited) a
      by (inl h) = by_item h.0 (slice_get F.code h.0) refl (sym (sided-at (exits f) F.code h.0) ∙ h.1)
      by (inr (inl h)) = let o = front-owner P f (exits f) h.0 a h.1 in line-known o.0 o.1 a o.3
      by (inr (inr h)) = absurd h.1

-- ---- the tree

pub exits-sound : (P : Prog) (tree : Tree) → IsAccepted P → (made : IsSidedTree P tree) → ((f : ℕ) → 1 + length (made.exits f) < 4294967296) → AllZip (IsSoundEdit (function_names (tree_of P))) (tree_of P).funcs tree.funcs
exits-sound P tree accepted made few = zip-by_place (IsSoundEdit (function_names (tree_of P))) (tree_of P).funcs tree.funcs made.made.many one
  where
    one : (f : ℕ) (F G : FuncTree) → slice_get (tree_of P).funcs f ≡ Some F → slice_get tree.funcs f ≡ Some G → IsSoundEdit (function_names (tree_of P)) F G
    one f F G p q =
        let h = made.made.functions f F G p q in
        record {
          head = h.head;
          labels = subst (λ c. Differ (labels_of c)) (sym h.code) (labels-differ P accepted made.exits made.are_exits f (few f) F p);
          known = subst (λ c. All (IsKnown (function_names (tree_of P)) (labels_of c)) c) (sym h.code)
              (in_all (IsKnown (function_names (tree_of P)) (labels_of (edited P accepted made.exits made.are_exits f (few f) F p))) (edited P accepted made.exits made.are_exits f (few f) F p) (items-known P accepted made.exits made.are_exits f (few f) F p));
        }
