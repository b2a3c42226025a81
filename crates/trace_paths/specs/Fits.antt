-- Which entries of a profile fit a program.
use Rattle.std.specs.Prelude.{◌≡◌, ◌≢◌, ◌⊎◌, ℕ, ◌<◌, Bool, List, [], ◌∷◌, length, Some}
use Rattle.bril_profile.specs.declared.profile.Entry.{Entry}
use Rattle.bril_tree.specs.declared.function_tree.Item.TheVariants as item
use Rattle.bril_tree.specs.declared.program.Prog.{Prog}
use Rattle.bril_tree.specs.Edge.{Branch}
use Rattle.bril_tree.specs.Numbered.{named, names_of_functions, tree_at}
use Rattle.bril_tree.specs.Sites.{sites_of, most_sites}
use Rattle.bril_tree.specs.Step.{code_of}
use Rattle.bril_tree.specs.Walk.{IsWalk, IsReached, end_of}
use Rattle.trace_paths.specs.Path.{Path, path_of}

-- An entry that fits, in numbers: the function, the point of the label, and the choices.
pub record Fit : Type 0 where
  pub function : ℕ
  pub point : ℕ
  pub choices : List Bool

abbrev pub fit_path : Prog → Fit → Path
fit_path P x = path_of (code_of P x.function) x.point x.choices

-- The function and the label of the entry are these, some walk leads to the label, with fewer than 8 open sites, and the
-- path lays an item.
pub record IsFit (P : Prog) (e : Entry) (x : Fit) : Type 0 where
  pub function : x.function < length (names_of_functions P.funcs)
  pub named_so : named (names_of_functions P.funcs) x.function ≡ e.func
  pub label : tree_at P x.function x.point ≡ Some (item.Label e.label)
  pub choices : x.choices ≡ e.choices
  pub reached : IsReached (code_of P x.function) x.point
  pub few : (walk : List Branch) → IsWalk (code_of P x.function) walk → end_of walk ≡ x.point → length (sites_of (code_of P x.function) walk) < most_sites
  pub lays : (fit_path P x).legs ≢ []

-- an earlier one has the same label
abbrev pub Repeats : List Fit → Fit → Type 0
Repeats [] x = ⊥
Repeats (y ∷ ys) x = ((y.function ≡ x.function) × (y.point ≡ x.point)) ⊎ Repeats ys x

-- the entries that fit, in their order; those before them are `seen`
abbrev pub FitsAre : Prog → List Fit → List Entry → List Fit → Type 0
FitsAre P seen [] fits = fits ≡ []
FitsAre P seen (e ∷ entries) [] = ((x : Fit) → IsFit P e x → Repeats seen x) × FitsAre P seen entries []
FitsAre P seen (e ∷ entries) (x ∷ fits) =
    (IsFit P e x × (Repeats seen x → ⊥) × FitsAre P (x ∷ seen) entries fits)
    ⊎ (((y : Fit) → IsFit P e y → Repeats seen y) × FitsAre P seen entries (x ∷ fits))

-- the count by which entries are taken
abbrev pub count_of : Entry → ℕ
count_of e = e.count
