-- A program with laid traces has at most twice what each entry lays and five items more.
use Rattle.bril_tree.specs.declared.function_tree.Item.TheVariants as item
use Rattle.bril_tree.specs.declared.tree.Tree.{Tree}
use Rattle.trace_laws.specs.lines.Bound.{bound_with}
use Rattle.trace_laws.specs.lines.Lines.{TraceNames, end_lines, leg_lines}
use Rattle.pass_edit_laws.specs.plan.Lines.{listed_item}
use Rattle.trace_paths.specs.Path.{Leg, Straight, Turn}
use Rattle.std.proofs.Common.{◌≡◌, ℕ, zero, suc, ◌+◌, ◌*◌, ◌<◌, ◌≤◌, ◌&&◌, Bool, true, false, List, [], ◌∷◌, length, Option, Some, None, refl, sym, ap, subst, ◌∙◌, cond, arith}
use Rattle.std.specs.Prelude.{slice_get, ◌==◌, not}
use Rattle.std.specs.List.{sum_by}
use Rattle.std.proofs.lemmas.Bool.{and_parts, eqb-true}
use Rattle.std.proofs.lemmas.List.{length-append}
use Rattle.std.proofs.lemmas.List.Sums.{sum_by-cons}
use Rattle.bril_tree.specs.declared.function_tree.FuncTree.{FuncTree}
use Rattle.bril_tree.specs.declared.function_tree.Item.{Item}
use Rattle.bril_tree.specs.declared.program.Prog.{Prog}
use Rattle.bril_tree.specs.declared.types.Ty.{Ty}
use Rattle.bril_tree.specs.Numbered.{tree_at, tree_of, tree_size}
use Rattle.bril_tree.specs.Size.{item_count}
use Rattle.bril_tree.specs.Step.{code_of, item_at}
use Rattle.bril_tree.proofs.Sizes.{size-tree_of}
use Rattle.pass_edit_laws.proofs.lemmas.plan.Lengths.{grows-once, spliced-long, sum_from, sum_from-none}
use Rattle.trace_laws.specs.lines.Lines.{trace_lines}
use Rattle.trace_paths.specs.Path.{path_of}
use Rattle.trace_laws.specs.lines.Traced.{Laying, AreLaid, stops_before, stop_lines, trace_of, trace_at, lines_behind, IsLaid}
use Rattle.trace_paths.specs.Fits.{Fit, fit_path}
use Rattle.trace_laws.specs.lines.Names.{Bases, is_label_item}
use Rattle.bril_profile.specs.declared.profile.Entry.{Entry}
use Rattle.trace_laws.specs.lines.Bound.{laid_count}

-- ---- the lines of one trace

leg_lines-few : (bool : Ty) (tree : ℕ → Option Item) (names : TraceNames) (n : ℕ) (legs : List Leg) → length (leg_lines bool tree names n legs) ≤ 2 * length legs
leg_lines-few bool tree names n [] = omega arith
leg_lines-few bool tree names n (Straight i ∷ legs) =
    let r = leg_lines-few bool tree names n legs in let l = length-append (listed_item (tree i)) (leg_lines bool tree names n legs) in let o = one (tree i) in omega arith
  where
    one : (o : Option Item) → length (listed_item o) ≤ 1
    one None = omega arith
    one (Some a) = omega arith
leg_lines-few bool tree names n (Turn i true ∷ legs) = let r = leg_lines-few bool tree names n legs in omega arith
leg_lines-few bool tree names n (Turn i false ∷ legs) = let r = leg_lines-few bool tree names (suc n) legs in omega arith

pub trace_lines-few : (bool : Ty) (tree : ℕ → Option Item) (names : TraceNames) (legs : List Leg) → length (trace_lines bool tree names legs) ≤ 2 * length legs + 4
trace_lines-few bool tree names legs =
    let r = leg_lines-few bool tree names 0 legs in let l = length-append (leg_lines bool tree names 0 legs) (end_lines bool tree names) in omega arith

-- ---- what is put into one function

-- the weight of its entries
abbrev weight : Laying → ℕ → ℕ
weight x f = cond (x.fit.function == f) 1 0

abbrev stops_total : ℕ → List Laying → ℕ
stops_total f [] = 0
stops_total f (x ∷ laid) = weight x f + stops_total f laid

abbrev size_of : Prog → Laying → ℕ
size_of P x = 2 * length (fit_path P x.fit).legs + 4

abbrev lines_total : Prog → ℕ → List Laying → ℕ
lines_total P f [] = 0
lines_total P f (x ∷ laid) = cond (x.fit.function == f) (size_of P x) 0 + lines_total P f laid

module _ (P : Prog) (bool : Ty) (f : ℕ) where
  stops-few : (laid : List Laying) (k n : ℕ) → sum_from (λ i. length (stop_lines P laid f i)) k n ≤ stops_total f laid
  stops-few [] k n = let e = sum_from-none k n in omega arith
  stops-few (x ∷ laid) k n = by (x.fit.function == f) refl (stops-few laid k n)
    where
      before : ℕ → ℕ
      before i = length (stop_lines P laid f i)

      with-x : (b : Bool) → (i : ℕ) → (x.fit.function == f) ≡ b → length (stop_lines P (x ∷ laid) f i) ≤ cond b 1 0 + length (stop_lines P laid f i)
      with-x true i e = one (stops_before P x f i)
        where
          one : (c : Bool) → length (cond c (item.Label x.names.stop ∷ stop_lines P laid f i) (stop_lines P laid f i)) ≤ 1 + length (stop_lines P laid f i)
          one true = omega arith
          one false = omega arith
      with-x false i e =
          let no : stops_before P x f i ≡ false = ap (λ b. b && (((fit_path P x.fit).stop == i) && not (is_label_item (item_at P f i)))) e in
          let long = ap (λ c. length (cond c (item.Label x.names.stop ∷ stop_lines P laid f i) (stop_lines P laid f i))) no in
          omega arith

      apart : (i : ℕ) → (i ≡ (fit_path P x.fit).stop → ⊥) → length (stop_lines P (x ∷ laid) f i) ≤ length (stop_lines P laid f i)
      apart i n = one (stops_before P x f i) refl
        where
          one : (c : Bool) → stops_before P x f i ≡ c → length (cond c (item.Label x.names.stop ∷ stop_lines P laid f i) (stop_lines P laid f i)) ≤ length (stop_lines P laid f i)
          one true e =
              let a = and_parts (x.fit.function == f) (((fit_path P x.fit).stop == i) && not (is_label_item (item_at P f i))) e in
              let b = and_parts ((fit_path P x.fit).stop == i) (not (is_label_item (item_at P f i))) a.1 in
              absurd (n (sym (eqb-true (fit_path P x.fit).stop i b.0)))
          one false e = omega arith

      by : (b : Bool) → (x.fit.function == f) ≡ b → sum_from (λ i. length (stop_lines P laid f i)) k n ≤ stops_total f laid → sum_from (λ i. length (stop_lines P (x ∷ laid) f i)) k n ≤ cond b 1 0 + stops_total f laid
      by b e rest = let g = grows-once (fit_path P x.fit).stop (cond b 1 0) (λ i. length (stop_lines P laid f i)) (λ i. length (stop_lines P (x ∷ laid) f i)) apart (λ i. with-x b i e) n k in omega arith

  lines-long : List Laying → ℕ → ℕ
  lines-long laid i = length (lines_behind P bool f i (trace_at laid f i))

  lines-few : (laid : List Laying) (k n : ℕ) → sum_from (λ i. length (lines_behind P bool f i (trace_at laid f i))) k n ≤ lines_total P f laid
  lines-few [] k n = let e = sum_from-none k n in omega arith
  lines-few (x ∷ laid) k n = by (x.fit.function == f) refl (lines-few laid k n)
    where
      here : (i : ℕ) → x.fit.function ≡ f → x.fit.point ≡ i → length (lines_behind P bool f i (Some (trace_of x))) ≤ size_of P x
      here i ef ei =
          let t = trace_lines-few bool (tree_at P f) x.names (path_of (code_of P f) i x.fit.choices).legs in
          let s : length (path_of (code_of P f) i x.fit.choices).legs ≡ length (fit_path P x.fit).legs = ap (λ n. length (path_of (code_of P f) n x.fit.choices).legs) (sym ei) ∙ ap (λ n. length (path_of (code_of P n) x.fit.point x.fit.choices).legs) (sym ef) in
          omega arith

      with-x : (b : Bool) (i : ℕ) → (x.fit.function == f) ≡ b → length (lines_behind P bool f i (trace_at (x ∷ laid) f i)) ≤ cond b (size_of P x) 0 + length (lines_behind P bool f i (trace_at laid f i))
      with-x b i e = one b e (x.fit.point == i) refl
        where
          one : (b : Bool) → (x.fit.function == f) ≡ b → (c : Bool) → (x.fit.point == i) ≡ c → length (lines_behind P bool f i (trace_at (x ∷ laid) f i)) ≤ cond b (size_of P x) 0 + length (lines_behind P bool f i (trace_at laid f i))
          one true e true g =
              let h = here i (eqb-true x.fit.function f e) (eqb-true x.fit.point i g) in
              let s = ap (λ d. length (lines_behind P bool f i (cond (d && (x.fit.point == i)) (Some (trace_of x)) (trace_at laid f i)))) e ∙ ap (λ d. length (lines_behind P bool f i (cond (true && d) (Some (trace_of x)) (trace_at laid f i)))) g in
              omega arith
          one true e false g = let s = ap (λ d. length (lines_behind P bool f i (cond (d && (x.fit.point == i)) (Some (trace_of x)) (trace_at laid f i)))) e ∙ ap (λ d. length (lines_behind P bool f i (cond (true && d) (Some (trace_of x)) (trace_at laid f i)))) g in omega arith
          one false e c g = let s = ap (λ d. length (lines_behind P bool f i (cond (d && (x.fit.point == i)) (Some (trace_of x)) (trace_at laid f i)))) e in omega arith

      apart : (i : ℕ) → (i ≡ x.fit.point → ⊥) → length (lines_behind P bool f i (trace_at (x ∷ laid) f i)) ≤ length (lines_behind P bool f i (trace_at laid f i))
      apart i n = one ((x.fit.function == f) && (x.fit.point == i)) refl
        where
          one : (c : Bool) → ((x.fit.function == f) && (x.fit.point == i)) ≡ c → length (lines_behind P bool f i (cond c (Some (trace_of x)) (trace_at laid f i))) ≤ length (lines_behind P bool f i (trace_at laid f i))
          one true e = let a = and_parts (x.fit.function == f) (x.fit.point == i) e in absurd (n (sym (eqb-true x.fit.point i a.1)))
          one false e = omega arith

      by : (b : Bool) → (x.fit.function == f) ≡ b → sum_from (λ i. length (lines_behind P bool f i (trace_at laid f i))) k n ≤ lines_total P f laid → sum_from (λ i. length (lines_behind P bool f i (trace_at (x ∷ laid) f i))) k n ≤ cond b (size_of P x) 0 + lines_total P f laid
      by b e rest = let g = grows-once x.fit.point (cond b (size_of P x) 0) (λ i. length (lines_behind P bool f i (trace_at laid f i))) (λ i. length (lines_behind P bool f i (trace_at (x ∷ laid) f i))) apart (λ i. with-x b i e) n k in omega arith

-- ---- all functions

abbrev all_sizes : Prog → List Laying → ℕ
all_sizes P [] = 0
all_sizes P (x ∷ laid) = (2 * length (fit_path P x.fit).legs + 5) + all_sizes P laid

-- of functions from the k-th on
abbrev put_in : Prog → List Laying → ℕ → ℕ → ℕ
put_in P laid k zero = 0
put_in P laid k (suc n) = (stops_total k laid + lines_total P k laid) + put_in P laid (suc k) n

put-none : (P : Prog) (k n : ℕ) → put_in P [] k n ≡ 0
put-none P k zero = refl
put-none P k (suc n) = let r = put-none P (suc k) n in omega arith

put-one : (P : Prog) (x : Laying) (laid : List Laying) (n k : ℕ) → (put_in P (x ∷ laid) k n ≤ (2 * length (fit_path P x.fit).legs + 5) + put_in P laid k n) × (x.fit.function < k → put_in P (x ∷ laid) k n ≡ put_in P laid k n)
put-one P x laid zero k = (omega arith, λ l. refl)
put-one P x laid (suc n) k = by (x.fit.function == k) refl (put-one P x laid n (suc k))
  where
    by : (b : Bool) → (x.fit.function == k) ≡ b
        → (put_in P (x ∷ laid) (suc k) n ≤ (2 * length (fit_path P x.fit).legs + 5) + put_in P laid (suc k) n) × (x.fit.function < suc k → put_in P (x ∷ laid) (suc k) n ≡ put_in P laid (suc k) n)
        → (((cond b 1 0 + stops_total k laid) + (cond b (2 * length (fit_path P x.fit).legs + 4) 0 + lines_total P k laid)) + put_in P (x ∷ laid) (suc k) n ≤ (2 * length (fit_path P x.fit).legs + 5) + ((stops_total k laid + lines_total P k laid) + put_in P laid (suc k) n))
        × (x.fit.function < k → ((cond b 1 0 + stops_total k laid) + (cond b (2 * length (fit_path P x.fit).legs + 4) 0 + lines_total P k laid)) + put_in P (x ∷ laid) (suc k) n ≡ (stops_total k laid + lines_total P k laid) + put_in P laid (suc k) n)
    by true e rest = let same = eqb-true x.fit.function k e in let r = rest.1 (omega (arith, same)) in (omega arith, λ l. absurd (omega (arith, same)))
    by false e rest = let a = rest.0 in (omega arith, λ l. let r = rest.1 (omega arith) in omega arith)

put-few : (P : Prog) (laid : List Laying) (k n : ℕ) → put_in P laid k n ≤ all_sizes P laid
put-few P [] k n = let e = put-none P k n in omega arith
put-few P (x ∷ laid) k n = let a = (put-one P x laid n k).0 in let b = put-few P laid k n in omega arith

size-within : (P : Prog) (bool : Ty) (laid : List Laying) (k : ℕ) (xs ys : List FuncTree) → length xs ≡ length ys
    → ((i : ℕ) (F G : FuncTree) → slice_get xs i ≡ Some F → slice_get ys i ≡ Some G → length G.code ≤ length F.code + (stops_total (k + i) laid + lines_total P (k + i) laid))
    → sum_by (λ (f : FuncTree). length f.code) ys ≤ sum_by (λ (f : FuncTree). length f.code) xs + put_in P laid k (length xs)
size-within P bool laid k [] [] z h = omega arith
size-within P bool laid k [] (y ∷ ys) z h = absurd (omega (arith, z))
size-within P bool laid k (x ∷ xs) [] z h = absurd (omega (arith, z))
size-within P bool laid k (x ∷ xs) (y ∷ ys) z h =
    let zero-on : k + 0 ≡ k = omega arith in
    let one : length y.code ≤ length x.code + (stops_total k laid + lines_total P k laid) = subst (λ n. length y.code ≤ length x.code + (stops_total n laid + lines_total P n laid)) zero-on (h 0 x y refl refl) in
    let rest = size-within P bool laid (suc k) xs ys (omega (arith, z)) (λ i F G p q. let n : k + suc i ≡ suc k + i = omega arith in subst (λ m. length G.code ≤ length F.code + (stops_total m laid + lines_total P m laid)) n (h (suc i) F G p q)) in
    let a = sum_by-cons (λ (f : FuncTree). length f.code) x xs in
    let b = sum_by-cons (λ (f : FuncTree). length f.code) y ys in
    omega arith

sizes-fits : (bases : Bases) (P : Prog) (K : ℕ) (fits : List Fit) (laid : List Laying) → AreLaid bases P K fits laid → all_sizes P laid ≤ sum_by (λ x. 2 * laid_count P x + 5) fits
sizes-fits bases P K [] laid h = let e = ap (all_sizes P) h in omega arith
sizes-fits bases P K (x ∷ fits) [] h = absurd h
sizes-fits bases P K (x ∷ fits) (y ∷ laid) h = let r = sizes-fits bases P (suc K) fits laid h.2 in let e = ap (laid_count P) h.0 in let s = sum_by-cons (λ x. 2 * laid_count P x + 5) x fits in omega arith

-- one function's part of them all
share-few : (P : Prog) (laid : List Laying) (f : ℕ) → stops_total f laid + lines_total P f laid ≤ all_sizes P laid
share-few P [] f = omega arith
share-few P (x ∷ laid) f = by (x.fit.function == f) (share-few P laid f)
  where
    by : (b : Bool) → stops_total f laid + lines_total P f laid ≤ all_sizes P laid → (cond b 1 0 + stops_total f laid) + (cond b (2 * length (fit_path P x.fit).legs + 4) 0 + lines_total P f laid) ≤ (2 * length (fit_path P x.fit).legs + 5) + all_sizes P laid
    by true h = omega arith
    by false h = omega arith

module _ (bases : Bases) (P : Prog) (bool : Ty) (entries : List Entry) (tree : Tree) (l : IsLaid bases P bool entries tree) where
  each : (i : ℕ) (F G : FuncTree) → slice_get (tree_of P).funcs i ≡ Some F → slice_get tree.funcs i ≡ Some G → length G.code ≤ length F.code + (stops_total i l.laid + lines_total P i l.laid)
  each i F G p q =
      let long = spliced-long (stop_lines P l.laid i) (λ j. lines_behind P bool i j (trace_at l.laid i j)) 0 F.code in
      let same = ap length (l.spliced_so.functions i F G p q).code in
      let stops = stops-few P bool i l.laid 0 (length F.code) in
      let lines = lines-few P bool i l.laid 0 (length F.code) in
      omega arith

  -- what is put into all functions
  laid-sum : ℕ
  laid-sum = sum_by (λ x. 2 * laid_count P x + 5) l.fits

  pub laid-within : tree_size tree ≤ bound_with P l.fits
  laid-within =
      let s = size-within P bool l.laid 0 (tree_of P).funcs tree.funcs l.spliced_so.many (λ i F G p q. let z : i ≡ 0 + i = omega arith in subst (λ n. length G.code ≤ length F.code + (stops_total n l.laid + lines_total P n l.laid)) z (each i F G p q)) in
      let put = put-few P l.laid 0 (length (tree_of P).funcs) in
      let fits = sizes-fits bases P 1 l.fits l.laid l.are_laid in
      let a = size-tree_of P in
      omega arith

  -- and into one
  pub function-within : (i : ℕ) (F G : FuncTree) → slice_get (tree_of P).funcs i ≡ Some F → slice_get tree.funcs i ≡ Some G → item_count P + length G.code ≤ length F.code + bound_with P l.fits
  function-within i F G p q =
      let e = each i F G p q in
      let share = share-few P l.laid i in
      let fits = sizes-fits bases P 1 l.fits l.laid l.are_laid in
      omega arith
