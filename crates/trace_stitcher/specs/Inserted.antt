-- What is put between the items of a function.
use Rattle.std.specs.Prelude.{◌≡◌, ℕ, suc, ◌<◌, ◌≤◌, ◌&&◌, ◌==◌, Bool, List, [], ◌∷◌, ◌++◌, length, map, Option, Some, None, slice_get, slice_index_or, if◌then◌else◌}
use Rattle.bril_tree.specs.declared.function_tree.FuncTree.{FuncTree}
use Rattle.bril_tree.specs.declared.function_tree.Item.{Item}
use Rattle.bril_tree.specs.declared.function_tree.Item.TheVariants as item
use Rattle.bril_tree.specs.declared.numbered_function.Func.{Func}
use Rattle.bril_tree.specs.Numbered.{variable_names}
use Rattle.pass_edit_laws.specs.plan.Spliced.{spliced}
use Rattle.trace_stitcher.specs.declared.matching.fitting.Fitting.{Fitting}
use Rattle.trace_laws.specs.lines.Lines.{TraceNames, bool_type, trace_lines}
use Rattle.trace_paths.specs.Walked.{leg_of}
use Rattle.trace_stitcher.specs.Stops.{AreNamesHere, put_stop}

-- a name, where there is one, as a list
abbrev pub listed_name : Option (List ℕ) → List (List ℕ)
listed_name None = []
listed_name (Some name) = name ∷ []

-- what a list of lists has at a place
abbrev pub row : {A : Type 0} → List (List A) → ℕ → List A
row rows i = slice_index_or rows i []

-- the items from number k on, each with what is put before and behind it
abbrev pub around : (before after : ℕ → List Item) → ℕ → List Item → List Item
around before after k [] = []
around before after k (x ∷ xs) = before k ++ x ∷ (after k ++ around before after (suc k) xs)

-- ---- one entry

-- the entry is of the function of number f, and its path stops before the item at the point
abbrev pub stops_at : (f : ℕ) → Fitting → ℕ → Bool
stops_at f x i = (x.function == f) && (x.path.stop == i)

-- it is of the function, and its label is at the point
abbrev pub stands_at : (f : ℕ) → Fitting → ℕ → Bool
stands_at f x i = (x.function == f) && (x.point == i)

-- its lines, where the function has these items
abbrev pub lines_of : List Item → TraceNames → Fitting → List Item
lines_of code names x = trace_lines bool_type (slice_get code) names (map leg_of x.path.legs.items)

-- The function of number f has these items.
module _ (code : List Item) (f : ℕ) where
  -- the label that an entry puts before the item at a point
  abbrev pub label_put : TraceNames → Fitting → ℕ → List (List ℕ)
  label_put names x i = if stops_at f x i then listed_name (put_stop (slice_get code i) names.stop) else []

  -- ---- all entries, from number K on; `names` has the names of each trace

  module _ (names : ℕ → TraceNames) where
    abbrev pub labels_before : ℕ → List Fitting → ℕ → List (List ℕ)
    labels_before K [] i = []
    labels_before K (x ∷ fits) i = label_put (names K) x i ++ labels_before (suc K) fits i

    abbrev pub lines_behind : ℕ → List Fitting → ℕ → List Item
    lines_behind K [] i = []
    lines_behind K (x ∷ fits) i = if stands_at f x i then lines_of code (names K) x else lines_behind (suc K) fits i

    -- the items with what is put between them
    abbrev pub traced_items : List Fitting → List Item
    traced_items fits = spliced (λ i. map item.Label (labels_before 1 fits i)) (lines_behind 1 fits) 0 code

-- the names of all traces of the function
abbrev pub AreNamesFor : List (List ℕ) → List (List ℕ) → List Item → ℕ → List Fitting → (ℕ → TraceNames) → Type 0
AreNamesFor labels variables code f fits names = (k : ℕ) (x : Fitting) → slice_get fits k ≡ Some x → x.function ≡ f → AreNamesHere labels variables code (suc k) x.path.stop (names (suc k))

-- an entry of the function has its label at an item, and its path stops within
pub record IsInside (f long : ℕ) (x : Fitting) : Type 0 where
  pub point : x.function ≡ f → x.point < long
  pub stop : x.function ≡ f → x.path.stop ≤ long
  pub legs : length x.path.legs.items ≤ 256

-- it is of the function of a number
abbrev pub has_function : ℕ → Fitting → Bool
has_function f x = x.function == f

-- the function of a tree, with the traces of these entries, whatever their names
pub record IsTracedBy (F : Func) (f : ℕ) (fits : List Fitting) (tree made : FuncTree) : Type 0 where
  pub by_names : (names : ℕ → TraceNames) → AreNamesFor F.labels (variable_names F.vars) tree.code f fits names → made ≡ record tree { code = traced_items tree.code f names fits }
