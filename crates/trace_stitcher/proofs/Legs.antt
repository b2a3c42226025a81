-- The lines of the items that a path lays, one after another.
use Rattle.std.proofs.Common.{◌≡◌, ℕ, zero, suc, ◌+◌, ◌<◌, ◌≤◌, true, false, List, [], ◌∷◌, ◌++◌, length, map, drop, get_or, Option, append_assoc, append-nil, refl, sym, ap, subst, ◌∙◌, arith, drop-cons}
use Rattle.bril_tree.specs.declared.function_tree.Item.{Item}
use Rattle.bril_tree.specs.declared.function_tree.Item.TheVariants as item
use Rattle.trace_laws.specs.lines.Lines.{TraceNames, args_in, bool_type, commit_line, guard_line, leg_lines, not_line, speculate_line, trace_lines}
use Rattle.pass_edit_laws.specs.plan.Lines.{jmp_line}
use Rattle.trace_laws.specs.lines.Names.{trace_bases}
use Rattle.pass_edit_laws.specs.labels.Fresh.{IsFresh}
use Rattle.pass_edit_laws.proofs.lemmas.labels.Fresh.{fresh-one}
use Rattle.trace_paths.specs.Path.{Leg, Straight, Turn}
use Rattle.trace_paths.specs.Walked.{leg_of}
use Rattle.trace_paths.specs.declared.walk.Leg as kept
use Rattle.trace_stitcher.specs.Legs.{AreGuardNames, nots_behind, one_leg}

-- the first item, and the others
pub leg-first : (tree : ℕ → Option Item) (names : TraceNames) (n : ℕ) (leg : Leg) (legs : List Leg) → leg_lines bool_type tree names n (leg ∷ legs) ≡ one_leg tree names n leg ++ leg_lines bool_type tree names (nots_behind n leg) legs
leg-first tree names n (Straight i) legs = refl
leg-first tree names n (Turn i true) legs = refl
leg-first tree names n (Turn i false) legs = refl

few-behind : (n k : ℕ) (leg : Leg) → n ≤ k → nots_behind n leg ≤ k + 1
few-behind n k (Straight i) h = omega arith
few-behind n k (Turn i true) h = omega arith
few-behind n k (Turn i false) h = omega arith

pub few-more : (n k next : ℕ) (leg : Leg) → n ≤ k → next ≡ nots_behind n leg → next ≤ k + 1
few-more n k next leg h e = let f = few-behind n k leg h in omega (arith, e, f)

-- one item more was added
pub legs-step : (tree : ℕ → Option Item) (names : TraceNames) (lines after whole : List Item) (legs : List kept.Leg) (k n next : ℕ) (leg : kept.Leg) → k < length legs → leg ≡ get_or legs k leg → next ≡ nots_behind n (leg_of leg) → after ≡ lines ++ one_leg tree names n (leg_of leg)
    → lines ++ leg_lines bool_type tree names n (map leg_of (drop k legs)) ≡ whole → after ++ leg_lines bool_type tree names next (map leg_of (drop (k + 1) legs)) ≡ whole
legs-step tree names lines after whole legs k n next leg within is next_is grown so_far =
    let rest : drop k legs ≡ leg ∷ drop (k + 1) legs = drop-first legs k leg within is in
    let first = ap (λ l. leg_lines bool_type tree names n (map leg_of l)) rest ∙ leg-first tree names n (leg_of leg) (map leg_of (drop (k + 1) legs)) in
    ap (λ m. after ++ leg_lines bool_type tree names m (map leg_of (drop (k + 1) legs))) next_is
    ∙ ap (λ l. l ++ leg_lines bool_type tree names (nots_behind n (leg_of leg)) (map leg_of (drop (k + 1) legs))) grown
    ∙ append_assoc lines (one_leg tree names n (leg_of leg)) (leg_lines bool_type tree names (nots_behind n (leg_of leg)) (map leg_of (drop (k + 1) legs)))
    ∙ ap (λ l. lines ++ l) (sym first) ∙ so_far
  where
    drop-first : (xs : List kept.Leg) (k : ℕ) (x : kept.Leg) → k < length xs → x ≡ get_or xs k x → drop k xs ≡ x ∷ drop (k + 1) xs
    drop-first xs k x within is = drop-cons xs k x within ∙ ap (λ z. z ∷ drop (suc k) xs) (sym is) ∙ (let e : suc k ≡ k + 1 = omega arith in ap (λ m. x ∷ drop m xs) e)

-- all were
pub legs-all : (tree : ℕ → Option Item) (names : TraceNames) (lines whole : List Item) (legs : List kept.Leg) (k n : ℕ) → length legs ≤ k → lines ++ leg_lines bool_type tree names n (map leg_of (drop k legs)) ≡ whole → lines ≡ whole
legs-all tree names lines whole legs k n past e = sym (append-nil lines) ∙ ap (λ l. lines ++ leg_lines bool_type tree names n (map leg_of l)) (sym (drop-past k legs past)) ∙ e
  where
    drop-past : (k : ℕ) (xs : List kept.Leg) → length xs ≤ k → drop k xs ≡ []
    drop-past zero [] h = refl
    drop-past zero (x ∷ xs) h = absurd (omega arith)
    drop-past (suc k) [] h = refl
    drop-past (suc k) (x ∷ xs) h = drop-past k xs (omega arith)

-- a branch that took its second label
pub passed-leg : (tree : ℕ → Option Item) (variables : List (List ℕ)) (K n i turn : ℕ) (to name base : List ℕ) (names : TraceNames) → AreGuardNames variables K to names → turn ≡ n + 1 → base ≡ trace_bases.not K turn → IsFresh variables base name
    → not_line bool_type name (args_in (tree i)) ∷ guard_line (name ∷ []) to ∷ [] ≡ one_leg tree names n (Turn i false)
passed-leg tree variables K n i turn to name base names are counted is fresh =
    let number : turn ≡ suc n = omega (arith, counted) in
    let same : name ≡ names.nots n = fresh-one variables (trace_bases.not K (suc n)) name (names.nots n) (subst (λ b. IsFresh variables b name) (is ∙ ap (trace_bases.not K) number) fresh) (are.nots n) in
    λ z. not_line bool_type (same z) (args_in (tree i)) ∷ guard_line (same z ∷ []) (sym are.bail z) ∷ []

-- the whole trace
pub trace-whole : (tree : ℕ → Option Item) (names : TraceNames) (legs : List Leg) (first second third fourth fifth : List Item) (bail stop : List ℕ) → names.bail ≡ bail → names.stop ≡ stop → first ≡ speculate_line ∷ [] → second ≡ first ++ leg_lines bool_type tree names 0 legs → third ≡ second ++ commit_line ∷ [] → fourth ≡ third ++ jmp_line stop ∷ [] → fifth ≡ fourth ++ item.Label bail ∷ []
    → fifth ≡ trace_lines bool_type tree names legs
trace-whole tree names legs first second third fourth fifth bail stop b s e1 e2 e3 e4 e5 =
    let m = leg_lines bool_type tree names 0 legs in
    e5 ∙ ap (λ l. l ++ item.Label bail ∷ []) (e4 ∙ ap (λ l. l ++ jmp_line stop ∷ []) (e3 ∙ ap (λ l. l ++ commit_line ∷ []) (e2 ∙ ap (λ l. l ++ m) e1)))
    ∙ ap (λ l. l ++ item.Label bail ∷ []) (append_assoc (speculate_line ∷ m) (commit_line ∷ []) (jmp_line stop ∷ [])) ∙ append_assoc (speculate_line ∷ m) (commit_line ∷ jmp_line stop ∷ []) (item.Label bail ∷ [])
    ∙ (λ i. speculate_line ∷ (m ++ commit_line ∷ jmp_line (sym s i) ∷ item.Label (sym b i) ∷ []))
