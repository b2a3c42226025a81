-- Each tree is sound or has a fault.
use Rattle.std.proofs.Common.{◌≡◌, ◌≢◌, ◌⊎◌, ℕ, zero, suc, ◌<◌, List, [], ◌∷◌, ◌++◌, length, take, Some, refl, sym, ap, ◌∙◌, subst, arith, inl, inr, append_assoc, append-nil, take_at}
use Rattle.std.specs.Prelude.{slice_get, slice_index_or}
use Rattle.std.specs.List.{All, Contains}
use Rattle.std.proofs.lemmas.Bool.{cases_eq}
use Rattle.std.proofs.lemmas.List.{length-append, get_or_at}
use Rattle.std.proofs.lemmas.List.Elements.{All-nil, All-cons, All-head, All-tail, Contains-get_or, filter_map-append}
use Rattle.std.proofs.lemmas.List.Quantifiers.{all_pairs_push}
use Rattle.std.proofs.lemmas.Option.{slice_get-get_or}
use Rattle.bril_tree.specs.ProgramForm.{main_name}
use Rattle.bril_tree.specs.declared.function_tree.FuncTree.{FuncTree}
use Rattle.bril_tree.specs.declared.function_tree.Item.{Item}
use Rattle.bril_tree.specs.declared.function_tree.Item.TheVariants as item
use Rattle.bril_tree.specs.declared.tree.Tree.{Tree}
use Rattle.bril_names.specs.Faults.{Differ, AreAmong, IsKnown, IsSound, label_of, labels_of, callees_of, targets_of, argument_names, function_names, RepeatsName, RepeatsLabel, HasFaultWithin, FirstFaultWithin, HasFault}
use Rattle.bril_names.specs.declared.fault.NameFault.{NameFault}
use Rattle.bril_names.specs.declared.fault.NameFault.TheVariants.{NoFunction, TwiceFunction, NoLabel, TwiceLabel, NoMain, TwiceArg, Memory}
use Rattle.bril_names.proofs.Faultless.{IsSoundTree, unsound}
use Rattle.bril_names.proofs.Positions.{repeats_name, IsFirstLacking}

-- ---- names

same_name : (a b : List ℕ) → (a ≡ b) ⊎ (a ≢ b)
same_name [] [] = inl refl
same_name [] (y ∷ b) = inr (λ e. cc)
same_name (x ∷ a) [] = inr (λ e. cc)
same_name (x ∷ a) (y ∷ b) = by (cases_eq x y) (same_name a b)
  where
    by : (x ≡ y) ⊎ (x ≡ y → ⊥) → (a ≡ b) ⊎ (a ≢ b) → ((x ∷ a) ≡ (y ∷ b)) ⊎ ((x ∷ a) ≢ (y ∷ b))
    by (inl e) (inl f) = inl (λ i. e i ∷ f i)
    by (inl e) (inr apart) = inr (λ g. apart cc)
    by (inr apart) rest = inr (λ g. apart cc)

pub contains : (names : List (List ℕ)) (name : List ℕ) → Contains names name ⊎ ¬ Contains names name
contains [] name = inr (λ c. let l : c.0 < 0 = c.1 in absurd (omega arith))
contains (x ∷ names) name = by (same_name x name) (contains names name)
  where
    neither : x ≢ name → ¬ Contains names name → (k : ℕ) → k < length (x ∷ names) → slice_index_or (x ∷ names) k name ≡ name → ⊥
    neither first rest zero within is = first is
    neither first rest (suc k) within is = rest (k, omega arith, is)

    by : (x ≡ name) ⊎ (x ≢ name) → Contains names name ⊎ ¬ Contains names name → Contains (x ∷ names) name ⊎ ¬ Contains (x ∷ names) name
    by (inl e) rest = inl (0, omega arith, e)
    by (inr first) (inl c) = inl (suc c.0, (let l = c.1 in omega arith), c.2)
    by (inr first) (inr rest) = inr (λ c. neither first rest c.0 c.1 c.2)

among : (known names : List (List ℕ)) → AreAmong known names ⊎ ¬ AreAmong known names
among known [] = inl (All-nil (Contains known))
among known (name ∷ names) = by (contains known name) (among known names)
  where
    by : Contains known name ⊎ ¬ Contains known name → AreAmong known names ⊎ ¬ AreAmong known names → AreAmong known (name ∷ names) ⊎ ¬ AreAmong known (name ∷ names)
    by (inl c) (inl rest) = inl (All-cons (Contains known) name names c rest)
    by (inl c) (inr lacks) = inr (λ all. lacks (All-tail (Contains known) name names all))
    by (inr lacks) rest = inr (λ all. lacks (All-head (Contains known) name names all))

-- a name that is not among names that differ differs from them, too
pub Differ-push : (names : List (List ℕ)) (name : List ℕ) → Differ names → ¬ Contains names name → Differ (names ++ name ∷ [])
Differ-push names name differ lacks =
    all_pairs_push (λ a b. a ≢ b) names name differ (λ k d within same. lacks (subst (Contains names) same (Contains-get_or names k d within)))

-- ---- repeated names

here_at : {A : Type 0} (before rest : List A) (x : A) → slice_get (before ++ x ∷ rest) (length before) ≡ Some x
here_at before rest x =
    let len = length-append before (x ∷ rest) in
    slice_get-get_or (before ++ x ∷ rest) (length before) x (omega arith) ∙ ap Some (get_or_at before x rest x (length before) refl)

record AreRepeated (names : List (List ℕ)) : Type 0 where
  place : ℕ
  repeats : RepeatsName names place

differ_or_repeat : (before rest : List (List ℕ)) → Differ before → Differ (before ++ rest) ⊎ AreRepeated (before ++ rest)
differ_or_repeat before [] differ = inl (subst Differ (sym (append-nil before)) differ)
differ_or_repeat before (name ∷ rest) differ = by (contains before name) (differ_or_repeat (before ++ name ∷ []) rest)
  where
    by : Contains before name ⊎ ¬ Contains before name → (Differ (before ++ name ∷ []) → Differ ((before ++ name ∷ []) ++ rest) ⊎ AreRepeated ((before ++ name ∷ []) ++ rest))
        → Differ (before ++ name ∷ rest) ⊎ AreRepeated (before ++ name ∷ rest)
    by (inl c) on =
        let front = take_at before (name ∷ rest) (length before) refl in
        inr (record {
          place = length before;
          repeats = record {
            name = name;
            here = here_at before rest name;
            before = subst (λ names. Contains names name) (sym front) c;
            differ = subst Differ (sym front) differ;
          };
        })
    by (inr lacks) on = subst (λ names. Differ names ⊎ AreRepeated names) (append_assoc before (name ∷ []) rest) (on (Differ-push before name differ lacks))

record IsLabelRepeated (code : List Item) : Type 0 where
  place : ℕ
  repeats : RepeatsLabel code place

labels_with : (before : List Item) (i : Item) → labels_of (before ++ i ∷ []) ≡ labels_of before ++ labels_of (i ∷ [])
labels_with before i = filter_map-append label_of before (i ∷ [])

-- what follows for items from one item on
abbrev OnFrom : List Item → List Item → Item → Type 0
OnFrom before rest i = Differ (labels_of (before ++ i ∷ [])) → Differ (labels_of ((before ++ i ∷ []) ++ rest)) ⊎ IsLabelRepeated ((before ++ i ∷ []) ++ rest)

labels_or_repeat : (before rest : List Item) → Differ (labels_of before) → Differ (labels_of (before ++ rest)) ⊎ IsLabelRepeated (before ++ rest)
labels_or_repeat before [] differ = inl (subst (λ code. Differ (labels_of code)) (sym (append-nil before)) differ)
labels_or_repeat before (i ∷ rest) differ = by i (labels_or_repeat (before ++ i ∷ []) rest)
  where
    go : (i : Item) → OnFrom before rest i → Differ (labels_of (before ++ i ∷ [])) → Differ (labels_of (before ++ i ∷ rest)) ⊎ IsLabelRepeated (before ++ i ∷ rest)
    go i on next = subst (λ code. Differ (labels_of code) ⊎ IsLabelRepeated code) (append_assoc before (i ∷ []) rest) (on next)

    label : (name : List ℕ) → OnFrom before rest (item.Label name) → Contains (labels_of before) name ⊎ ¬ Contains (labels_of before) name
        → Differ (labels_of (before ++ item.Label name ∷ rest)) ⊎ IsLabelRepeated (before ++ item.Label name ∷ rest)
    label name on (inl c) =
        let front = take_at before (item.Label name ∷ rest) (length before) refl in
        inr (record {
          place = length before;
          repeats = record {
            name = name;
            here = here_at before rest (item.Label name);
            before = subst (λ code. Contains (labels_of code) name) (sym front) c;
            differ = subst (λ code. Differ (labels_of code)) (sym front) differ;
          };
        })
    label name on (inr lacks) = go (item.Label name) on (subst Differ (sym (labels_with before (item.Label name))) (Differ-push (labels_of before) name differ lacks))

    by : (i : Item) → OnFrom before rest i → Differ (labels_of (before ++ i ∷ rest)) ⊎ IsLabelRepeated (before ++ i ∷ rest)
    by (item.Label name) on = label name on (contains (labels_of before) name)
    by (item.Const dest ty value) on =
        go (item.Const dest ty value) on (subst Differ (sym (labels_with before (item.Const dest ty value) ∙ append-nil (labels_of before))) differ)
    by (item.Act dest op args funcs labels) on =
        go (item.Act dest op args funcs labels) on (subst Differ (sym (labels_with before (item.Act dest op args funcs labels) ∙ append-nil (labels_of before))) differ)

-- ---- lacking names

module _ (functions labels : List (List ℕ)) where
  record Lacks (code : List Item) : Type 0 where
    place : ℕ
    lacking : IsFirstLacking functions labels code place

  known_item : (i : Item) → IsKnown functions labels i ⊎ ¬ IsKnown functions labels i
  known_item i = by (among functions (callees_of i)) (among labels (targets_of i))
    where
      by : AreAmong functions (callees_of i) ⊎ ¬ AreAmong functions (callees_of i) → AreAmong labels (targets_of i) ⊎ ¬ AreAmong labels (targets_of i) → IsKnown functions labels i ⊎ ¬ IsKnown functions labels i
      by (inl f) (inl l) = inl (f, l)
      by (inl f) (inr l) = inr (λ known. l known.1)
      by (inr f) l = inr (λ known. f known.0)

  known_or_lacks : (code : List Item) → All (IsKnown functions labels) code ⊎ Lacks code
  known_or_lacks [] = inl (All-nil (IsKnown functions labels))
  known_or_lacks (i ∷ code) = by (known_item i) (known_or_lacks code)
    where
      by : IsKnown functions labels i ⊎ ¬ IsKnown functions labels i → All (IsKnown functions labels) code ⊎ Lacks code → All (IsKnown functions labels) (i ∷ code) ⊎ Lacks (i ∷ code)
      by (inl known) (inl rest) = inl (All-cons (IsKnown functions labels) i code known rest)
      by (inl known) (inr later) =
          let l = later.lacking in
          inr (record {
            place = suc later.place;
            lacking = record { lacking = l.lacking; here = l.here; before = All-cons (IsKnown functions labels) i (take later.place code) known l.before; lacks = l.lacks };
          })
      by (inr lacks) rest = inr (record { place = 0; lacking = record { lacking = i; here = refl; before = All-nil (IsKnown functions labels); lacks = lacks } })

-- ---- functions

module _ (functions : List (List ℕ)) (number : ℕ) (f : FuncTree) where
  pub record IsFaulty : Type 0 where
    pub fault : NameFault
    pub has : HasFaultWithin functions number f fault

  lacking_fault : Differ (argument_names f) → Differ (labels_of f.code) → Lacks functions (labels_of f.code) f.code → IsFaulty
  lacking_fault arguments labels lacks = by lacks.place lacks.lacking (among functions (callees_of lacks.lacking.lacking))
    where
      by : (place : ℕ) (l : IsFirstLacking functions (labels_of f.code) f.code place) → AreAmong functions (callees_of l.lacking) ⊎ ¬ AreAmong functions (callees_of l.lacking) → IsFaulty
      by place l (inl there) = record {
        fault = NoLabel number place;
        has = (refl, arguments, labels, record { lacking = l.lacking; here = l.here; before = l.before; functions_known = there; lacks = λ targets. l.lacks (there, targets) });
      }
      by place l (inr none) = record {
        fault = NoFunction number place;
        has = (refl, arguments, labels, record { lacking = l.lacking; here = l.here; before = l.before; lacks = none });
      }

  pub sound_or_faulty : IsSound functions f ⊎ IsFaulty
  sound_or_faulty =
      by (differ_or_repeat [] (argument_names f) (λ i j d l within. absurd (omega arith))) (labels_or_repeat [] f.code (λ i j d l within. absurd (omega arith))) (known_or_lacks functions (labels_of f.code) f.code)
    where
      by : Differ (argument_names f) ⊎ AreRepeated (argument_names f) → Differ (labels_of f.code) ⊎ IsLabelRepeated f.code → All (IsKnown functions (labels_of f.code)) f.code ⊎ Lacks functions (labels_of f.code) f.code → IsSound functions f ⊎ IsFaulty
      by (inr r) labels known = inr (record { fault = TwiceArg number; has = (refl, repeats_name (argument_names f) r.place r.repeats) })
      by (inl arguments) (inr r) known = inr (record { fault = TwiceLabel number r.place; has = (refl, arguments, r.repeats) })
      by (inl arguments) (inl labels) (inl known) = inl (record { arguments = arguments; labels = labels; known = known })
      by (inl arguments) (inl labels) (inr lacks) = inr (lacking_fault arguments labels lacks)

module _ (tree : Tree) where
  -- functions of which one isn't sound, and those before it are
  record Unsound (funcs : List FuncTree) : Type 0 where
    number : ℕ
    function : FuncTree
    here : slice_get funcs number ≡ Some function
    before : All (IsSound (function_names tree)) (take number funcs)
    unsound : ¬ IsSound (function_names tree) function

  sound_or_unsound : (funcs : List FuncTree) → All (IsSound (function_names tree)) funcs ⊎ Unsound funcs
  sound_or_unsound [] = inl (All-nil (IsSound (function_names tree)))
  sound_or_unsound (f ∷ funcs) = by (sound_or_faulty (function_names tree) 0 f) (sound_or_unsound funcs)
    where
      by : IsSound (function_names tree) f ⊎ IsFaulty (function_names tree) 0 f → All (IsSound (function_names tree)) funcs ⊎ Unsound funcs → All (IsSound (function_names tree)) (f ∷ funcs) ⊎ Unsound (f ∷ funcs)
      by (inl sound) (inl rest) = inl (All-cons (IsSound (function_names tree)) f funcs sound rest)
      by (inl sound) (inr later) =
          inr (record {
            number = suc later.number;
            function = later.function;
            here = later.here;
            before = All-cons (IsSound (function_names tree)) f (take later.number funcs) sound later.before;
            unsound = later.unsound;
          })
      by (inr faulty) rest =
          inr (record {
            number = 0;
            function = f;
            here = refl;
            before = All-nil (IsSound (function_names tree));
            unsound = unsound (function_names tree) 0 f faulty.fault faulty.has;
          })

  pub record IsFaultyTree : Type 0 where
    pub fault : NameFault
    pub has : HasFault tree fault

  -- a fault within a function is the tree's, where it is the first
  as_fault : (fault : NameFault) → FirstFaultWithin tree fault → IsFaultyTree
  as_fault (NoFunction func place) first = record { fault = NoFunction func place; has = first }
  as_fault (TwiceFunction func) first = absurd first.has
  as_fault (NoLabel func place) first = record { fault = NoLabel func place; has = first }
  as_fault (TwiceLabel func place) first = record { fault = TwiceLabel func place; has = first }
  as_fault NoMain first = absurd first.has
  as_fault (TwiceArg func) first = record { fault = TwiceArg func; has = first }
  as_fault Memory first = absurd first.has

  faulty_tree : Differ (function_names tree) → Contains (function_names tree) main_name → Unsound tree.funcs → IsFaultyTree
  faulty_tree differ main u = by (sound_or_faulty (function_names tree) u.number u.function)
    where
      by : IsSound (function_names tree) u.function ⊎ IsFaulty (function_names tree) u.number u.function → IsFaultyTree
      by (inl sound) = absurd (u.unsound sound)
      by (inr faulty) =
          as_fault faulty.fault (record { differ = differ; main = main; number = u.number; function = u.function; here = u.here; before = u.before; has = faulty.has })

  -- each tree is sound or has a fault
  pub sound_or_faulty_tree : IsSoundTree tree ⊎ IsFaultyTree
  sound_or_faulty_tree =
      by (differ_or_repeat [] (function_names tree) (λ i j d l within. absurd (omega arith))) (contains (function_names tree) main_name) (sound_or_unsound tree.funcs)
    where
      by : Differ (function_names tree) ⊎ AreRepeated (function_names tree) → Contains (function_names tree) main_name ⊎ ¬ Contains (function_names tree) main_name
          → All (IsSound (function_names tree)) tree.funcs ⊎ Unsound tree.funcs → IsSoundTree tree ⊎ IsFaultyTree
      by (inr r) main funcs = inr (record { fault = TwiceFunction r.place; has = r.repeats })
      by (inl differ) (inr lacks) funcs = inr (record { fault = NoMain; has = (differ, lacks) })
      by (inl differ) (inl main) (inr u) = inr (faulty_tree differ main u)
      by (inl differ) (inl main) (inl sound) = inl (record { differ = differ; main = main; sound = sound })
