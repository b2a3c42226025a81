-- A program with side exits has at most so many items more as its exits have lines; they are at most 513 for each paired guard.
use Rattle.std.proofs.Common.{◌≡◌, ℕ, zero, suc, ◌+◌, ◌*◌, ◌<◌, ◌≤◌, Bool, true, false, List, [], ◌∷◌, ◌++◌, length, Option, Some, None, refl, sym, ap, subst, ◌∙◌, inl, inr, arith}
use Rattle.std.specs.Prelude.{slice_get, ◌==◌, if◌then◌else◌}
use Rattle.std.specs.List.{sum_by}
use Rattle.std.proofs.lemmas.Bool.{eqb-true}
use Rattle.std.proofs.lemmas.List.{length-append, length-map}
use Rattle.std.proofs.lemmas.List.Sums.{sum_by-cons}
use Rattle.std.proofs.lemmas.Option.{slice_get_within}
use Rattle.bril_tree.specs.declared.function_tree.FuncTree.{FuncTree}
use Rattle.bril_tree.specs.declared.function_tree.Item.{Item}
use Rattle.bril_tree.specs.declared.numbered_function.Func.{Func}
use Rattle.bril_tree.specs.declared.program.Prog.{Prog}
use Rattle.bril_tree.specs.declared.tree.Tree.{Tree}
use Rattle.bril_tree.specs.Accepted.{IsAccepted}
use Rattle.bril_tree.specs.Membership.{In}
use Rattle.bril_tree.specs.Numbered.{function_tree, named, names_of_functions, tree_at, tree_of}
use Rattle.bril_tree.specs.Size.{item_count}
use Rattle.bril_tree.specs.Step.{code_of, items_of, point_of}
use Rattle.bril_tree.proofs.Sizes.{size-tree_of}
use Rattle.pass_edit_laws.specs.plan.Spliced.{spliced}
use Rattle.pass_edit_laws.specs.plan.Lines.{jmp_line, listed_item}
use Rattle.pass_edit_laws.specs.labels.Fresh.{labels_in}
use Rattle.pass_edit_laws.proofs.lemmas.plan.Lengths.{grows-once, spliced-long, sum_from, sum_from-none}
use Rattle.side_laws.specs.Laws.{SideExitsAreWithin, SideBoundsAreShort}
use Rattle.side_laws.specs.Paired.{Pair}
use Rattle.side_laws.specs.Sided.{SideExit, AreExits, AreAllExits, IsSidedTree, kept_lines, exit_lines, sided_items, exit_size, exits_before, exits_count, exits_size}
use Rattle.side_laws.proofs.lemmas.layout.Laying.{sided-long}
use Rattle.side_laws.proofs.lemmas.pairs.Placed.{paired}
use Rattle.side_laws.proofs.lemmas.pairs.Runs.{Rising, pairs-rising, exit-pair}

-- ---- sums

-- of n numbers from the k-th on
abbrev pub front : (ℕ → ℕ) → ℕ → ℕ → ℕ
front size k zero = 0
front size k (suc n) = size k + front size (suc k) n

pub front-last : (size : ℕ → ℕ) (k n : ℕ) → front size k (suc n) ≡ front size k n + size (k + n)
front-last size k zero = let e : k ≡ k + 0 = omega arith in let z = ap size e in omega (arith, z)
front-last size k (suc n) = let r = front-last size (suc k) n in let e : suc k + n ≡ k + suc n = omega arith in let z = ap size e in omega (arith, r, z)

-- ---- what is put into one function

module _ (P : Prog) (f : ℕ) where
  kept-few : (kept : List ℕ) → length (kept_lines (tree_at P f) kept) ≤ length kept
  kept-few [] = omega arith
  kept-few (i ∷ kept) = let r = kept-few kept in let l = length-append (listed_item (tree_at P f i)) (kept_lines (tree_at P f) kept) in let o = one (tree_at P f i) in omega (arith, r, l, o)
    where
      one : (o : Option Item) → length (listed_item o) ≤ 1
      one None = omega arith
      one (Some a) = omega arith

  lines-few : (w : SideExit) → length (exit_lines (tree_at P f) (labels_in P f) w) ≤ exit_size w
  lines-few w = let k = kept-few w.pair.kept in let l = length-append (kept_lines (tree_at P f) w.pair.kept) (jmp_line (named (labels_in P f) w.pair.other) ∷ []) in omega (arith, k, l)

  exits-total : (exits : List SideExit) (k n : ℕ) → sum_from (λ i. length (exits_before (tree_at P f) (labels_in P f) (code_of P f) exits i)) k n ≤ sum_by exit_size exits
  exits-total [] k n = let e = sum_from-none k n in omega (arith, e)
  exits-total (w ∷ exits) k n =
      let rest = exits-total exits k n in
      let s = sum_by-cons exit_size w exits in
      let g = grows-once (point_of w.pair.bail (code_of P f)) (exit_size w) (λ i. length (exits_before (tree_at P f) (labels_in P f) (code_of P f) exits i)) (λ i. length (exits_before (tree_at P f) (labels_in P f) (code_of P f) (w ∷ exits) i)) apart grows n k in
      omega (arith, rest, s, g)
    where
      long : (b : Bool) (i : ℕ) → length (if b then exit_lines (tree_at P f) (labels_in P f) w ++ exits_before (tree_at P f) (labels_in P f) (code_of P f) exits i else exits_before (tree_at P f) (labels_in P f) (code_of P f) exits i) ≤ exit_size w + length (exits_before (tree_at P f) (labels_in P f) (code_of P f) exits i)
      long true i = let l = length-append (exit_lines (tree_at P f) (labels_in P f) w) (exits_before (tree_at P f) (labels_in P f) (code_of P f) exits i) in let m = lines-few w in omega (arith, l, m)
      long false i = omega arith

      grows : (i : ℕ) → length (exits_before (tree_at P f) (labels_in P f) (code_of P f) (w ∷ exits) i) ≤ exit_size w + length (exits_before (tree_at P f) (labels_in P f) (code_of P f) exits i)
      grows i = long (point_of w.pair.bail (code_of P f) == i) i

      apart : (i : ℕ) → (i ≡ point_of w.pair.bail (code_of P f) → ⊥) → length (exits_before (tree_at P f) (labels_in P f) (code_of P f) (w ∷ exits) i) ≤ length (exits_before (tree_at P f) (labels_in P f) (code_of P f) exits i)
      apart i n = by (point_of w.pair.bail (code_of P f) == i) refl
        where
          by : (b : Bool) → (point_of w.pair.bail (code_of P f) == i) ≡ b → length (if b then exit_lines (tree_at P f) (labels_in P f) w ++ exits_before (tree_at P f) (labels_in P f) (code_of P f) exits i else exits_before (tree_at P f) (labels_in P f) (code_of P f) exits i) ≤ length (exits_before (tree_at P f) (labels_in P f) (code_of P f) exits i)
          by true e = absurd (n (sym (eqb-true (point_of w.pair.bail (code_of P f)) i e)))
          by false e = omega arith

  pub sided-few : (exits : List SideExit) (items : List Item) → length (spliced (exits_before (tree_at P f) (labels_in P f) (code_of P f) exits) (λ i. []) 0 (sided_items exits 0 items)) ≤ length items + sum_by exit_size exits
  sided-few exits items =
      let l = spliced-long (exits_before (tree_at P f) (labels_in P f) (code_of P f) exits) (λ i. []) 0 (sided_items exits 0 items) in
      let z = sum_from-none 0 (length (sided_items exits 0 items)) in
      let t = exits-total exits 0 (length (sided_items exits 0 items)) in
      let s = sided-long exits 0 items in
      omega (arith, l, t, s, z)

-- ---- programs

-- where each list is longer than its partner by at most a size
trees-within : (size : ℕ → ℕ) (xs ys : List FuncTree) (k : ℕ) → length xs ≡ length ys → ((i : ℕ) (x y : FuncTree) → slice_get xs i ≡ Some x → slice_get ys i ≡ Some y → length y.code ≤ length x.code + size (k + i))
    → sum_by (λ (z : FuncTree). length z.code) ys ≤ sum_by (λ (z : FuncTree). length z.code) xs + front size k (length xs)
trees-within size [] [] k same h = omega arith
trees-within size [] (y ∷ ys) k same h = absurd (omega (arith, same))
trees-within size (x ∷ xs) [] k same h = absurd (omega (arith, same))
trees-within size (x ∷ xs) (y ∷ ys) k same h =
    let rest = trees-within size xs ys (suc k) (omega (arith, same)) (λ i a b at bt. let e : k + suc i ≡ suc k + i = omega arith in subst (λ n. length b.code ≤ length a.code + size n) e (h (suc i) a b at bt)) in
    let one = h 0 x y refl refl in
    let z : k + 0 ≡ k = omega arith in
    let same_size = ap size z in
    let a = sum_by-cons (λ (z : FuncTree). length z.code) x xs in
    let b = sum_by-cons (λ (z : FuncTree). length z.code) y ys in
    omega (arith, rest, one, same_size, a, b)

sizes-front : (exits : ℕ → List SideExit) (n : ℕ) → exits_size exits n ≡ front (λ f. sum_by exit_size (exits f)) 0 n
sizes-front exits zero = refl
sizes-front exits (suc n) =
    let r = sizes-front exits n in
    let l = front-last (λ f. sum_by exit_size (exits f)) 0 n in
    let z : 0 + n ≡ n = omega arith in
    let e = ap (λ f. sum_by exit_size (exits f)) z in
    omega (arith, r, l, e)

pub function-few : (P : Prog) (tree : Tree) (made : IsSidedTree P tree) (f : ℕ) (F G : FuncTree) → slice_get (tree_of P).funcs f ≡ Some F → slice_get tree.funcs f ≡ Some G → length G.code ≤ length F.code + sum_by exit_size (made.exits f)
function-few P tree made f F G p q = let c = ap length (made.made.functions f F G p q).code in let s = sided-few P f (made.exits f) F.code in omega (arith, c, s)

pub exits-within : SideExitsAreWithin
exits-within P tree made =
    let t = trees-within (λ f. sum_by exit_size (made.exits f)) (tree_of P).funcs tree.funcs 0 made.made.many (λ i F G p q. let z : 0 + i ≡ i = omega arith in subst (λ n. length G.code ≤ length F.code + sum_by exit_size (made.exits n)) (sym z) (function-few P tree made i F G p q)) in
    let s = size-tree_of P in
    let long = length-map P.funcs (function_tree (names_of_functions P.funcs)) in
    let e = ap (front (λ f. sum_by exit_size (made.exits f)) 0) long in
    let w = sizes-front made.exits (length P.funcs) in
    omega (arith, t, s, e, w)

-- ---- at most 513 for each item

rising-few : (lo hi : ℕ) (pairs : List Pair) → Rising lo pairs → ((p : Pair) → In p pairs → p.guard < hi) → lo ≤ hi → lo + length pairs ≤ hi
rising-few lo hi [] r below low = omega (arith, low)
rising-few lo hi (p ∷ pairs) r below low = let b = below p (inl refl) in let rest = rising-few (suc p.guard) hi pairs r.1 (λ q m. below q (inr m)) (omega (arith, b)) in let g = r.0 in omega (arith, rest, g)

exits-many : (taken : List (List ℕ)) (J : ℕ) (pairs : List Pair) (exits : List SideExit) → AreExits taken J pairs exits → length exits ≡ length pairs
exits-many taken J [] exits h = ap length h
exits-many taken J (p ∷ pairs) [] h = absurd h
exits-many taken J (p ∷ pairs) (w ∷ exits) h = ap suc (exits-many taken (suc J) pairs exits h.2)

sizes-few : (exits : List SideExit) → ((w : SideExit) → In w exits → exit_size w ≤ 513) → sum_by exit_size exits ≤ 513 * length exits
sizes-few [] h = omega arith
sizes-few (w ∷ exits) h = let r = sizes-few exits (λ v m. h v (inr m)) in let o = h w (inl refl) in let s = sum_by-cons exit_size w exits in omega (arith, r, o, s)

module _ (P : Prog) (accepted : IsAccepted P) (exits : ℕ → List SideExit) (all : AreAllExits P exits) where
  -- a function has no more exits than items
  pub exits-few : (f : ℕ) → length (exits f) ≤ length (code_of P f)
  exits-few f =
      let m = exits-many (labels_in P f) 1 (all.pairs f) (exits f) (all.are_exits f) in
      let r = rising-few 0 (length (code_of P f)) (all.pairs f) (pairs-rising P accepted f (all.pairs f) (all.are_pairs f)) (λ p among. let h = paired P accepted f (all.pairs f) (all.are_pairs f) p among in slice_get_within (code_of P f) p.guard _ h.fine.guards.1) (omega arith) in
      omega (arith, m, r)

  exit-few : (f : ℕ) (w : SideExit) → In w (exits f) → exit_size w ≤ 513
  exit-few f w among =
      let h = paired P accepted f (all.pairs f) (all.are_pairs f) w.pair (exit-pair (labels_in P f) 1 (all.pairs f) (exits f) (all.are_exits f) w among) in
      let few = h.fine.few in
      let most = h.is.few in
      omega (arith, few, most)

  size-count : (n : ℕ) → exits_size exits n ≤ 513 * exits_count exits n
  size-count zero = omega arith
  size-count (suc n) = let r = size-count n in let s = sizes-few (exits n) (exit-few n) in omega (arith, r, s)

  count-front : (n : ℕ) → exits_count exits n ≤ front (λ f. length (code_of P f)) 0 n
  count-front zero = omega arith
  count-front (suc n) =
      let r = count-front n in
      let l = front-last (λ f. length (code_of P f)) 0 n in
      let z : 0 + n ≡ n = omega arith in
      let e = ap (λ f. length (code_of P f)) z in
      let w = exits-few n in
      omega (arith, r, l, e, w)

  -- the items of all functions
  items-front : (funcs : List Func) (k : ℕ) → ((i : ℕ) → slice_get funcs i ≡ slice_get P.funcs (k + i)) → front (λ f. length (code_of P f)) k (length funcs) ≡ sum_by (λ (F : Func). length F.code) funcs
  items-front [] k h = refl
  items-front (F ∷ funcs) k h =
      let r = items-front funcs (suc k) (λ i. let e : k + suc i ≡ suc k + i = omega arith in h (suc i) ∙ ap (slice_get P.funcs) e) in
      let z : k + 0 ≡ k = omega arith in
      let here : length (code_of P k) ≡ length F.code = ap (λ o. length (items_of o)) (sym (h 0 ∙ ap (slice_get P.funcs) z)) in
      let s = sum_by-cons (λ (G : Func). length G.code) F funcs in
      omega (arith, r, here, s)

  pub count-few : exits_count exits (length P.funcs) ≤ item_count P
  count-few =
      let c = count-front (length P.funcs) in
      let i = items-front P.funcs 0 (λ i. let z : i ≡ 0 + i = omega arith in ap (slice_get P.funcs) z) in
      omega (arith, c, i)

pub bounds-short : SideBoundsAreShort
bounds-short P bound accepted is =
    let s = size-count P accepted is.exits is.are_exits (length P.funcs) in
    let c = count-few P accepted is.exits is.are_exits in
    let e = is.is in
    omega (arith, s, c, e)
