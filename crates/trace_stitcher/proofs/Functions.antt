-- What is made of the functions of the program.
use Rattle.std.proofs.Common.{◌≡◌, ℕ, ◌<◌, ◌≤◌, List, [], ◌∷◌, length, map, Option, Some, None, refl, sym, ap, subst, ◌∙◌, arith}
use Rattle.std.specs.Prelude.{slice_get}
use Rattle.std.specs.List.{All}
use Rattle.std.specs.Option.{option_map}
use Rattle.std.proofs.lemmas.List.{length-map}
use Rattle.std.proofs.lemmas.List.Elements.{All-nil, All-cons, All-head, All-tail}
use Rattle.std.proofs.lemmas.Option.{same_Some, slice_get-map}
use Rattle.bril_tree.specs.declared.function_tree.FuncTree.{FuncTree}
use Rattle.bril_tree.specs.declared.numbered_function.Func.{Func}
use Rattle.bril_tree.specs.declared.program.Prog.{Prog}
use Rattle.bril_tree.specs.declared.tree.Tree.{Tree}
use Rattle.bril_tree.specs.Numbered.{function_tree, names_of_functions, tree_at, tree_of, variable_names}
use Rattle.bril_tree.specs.Step.{code_of, items_of}
use Rattle.bril_tree.proofs.Trees.{function_at, tree_at-function}
use Rattle.pass_make.specs.Each.{IsMadeOfEach}
use Rattle.trace_stitcher.specs.declared.matching.fitting.Fitting.{Fitting}
use Rattle.trace_stitcher.specs.matching.Fitting.{HasPath, fit_of}
use Rattle.trace_laws.specs.lines.Lines.{TraceNames, bool_type}
use Rattle.trace_laws.specs.lines.Names.{trace_bases}
use Rattle.trace_laws.specs.lines.Traced.{AreLaid, IsLaidTree, IsTracedFunction, Laying}
use Rattle.trace_paths.specs.Walked.{leg_of}
use Rattle.trace_paths.proofs.Short.{paths_are_short}
use Rattle.trace_stitcher.specs.Inserted.{AreNamesFor, IsInside, traced_items}
use Rattle.trace_stitcher.proofs.Traced.{items-traced, names-right, names_of}

module _ (P : Prog) (f : ℕ) (F : Func) (there : slice_get P.funcs f ≡ Some F) (tree : FuncTree) (is_tree : tree ≡ function_tree (names_of_functions P.funcs) F) (long : length tree.code ≡ length F.code) where
  -- an entry is inside
  one-inside : (x : Fitting) → HasPath P x → IsInside f (length tree.code) x
  one-inside x h = record {
    point = λ e. subst (λ n. x.point < n) (many e) h.point;
    stop = λ e. subst (λ n. x.path.stop ≤ n) (many e) h.within;
    legs = let s = (paths_are_short (code_of P x.function) x.point x.choices).laid in let n = length-map x.path.legs.items leg_of in let e = ap length h.legs in omega (arith, s, n, e);
  }
    where
      many : x.function ≡ f → length (code_of P x.function) ≡ length tree.code
      many e = ap (λ n. length (code_of P n)) e ∙ ap (λ o. length (items_of o)) there ∙ sym long

  pub all-inside : (fits : List Fitting) → All (HasPath P) fits → All (IsInside f (length tree.code)) fits
  all-inside [] h = All-nil (IsInside f (length tree.code))
  all-inside (x ∷ fits) h = All-cons (IsInside f (length tree.code)) x fits (one-inside x (All-head (HasPath P) x fits h)) (all-inside fits (All-tail (HasPath P) x fits h))

  -- what is made of the function
  module _ (fits : List Fitting) (paths : All (HasPath P) fits) (g : FuncTree) (is : (names : ℕ → TraceNames) → AreNamesFor F.labels (variable_names F.vars) tree.code f fits names → g ≡ record tree { code = traced_items tree.code f names fits }) where
    pub function-traced : (laid : List Laying) → AreLaid trace_bases P 1 (map fit_of fits) laid → IsTracedFunction P bool_type laid f tree g
    function-traced laid are =
        let at : (i : ℕ) → tree_at P f i ≡ slice_get tree.code i = λ i. tree_at-function P f i tree (function_at P f F there ∙ ap Some (sym is_tree)) in
        let e = is (names_of laid) (names-right P f F there tree.code at fits laid are paths) in
        record {
          head = record { name = sym (ap (λ (t : FuncTree). t.name) e); args = sym (ap (λ (t : FuncTree). t.args) e); ret = sym (ap (λ (t : FuncTree). t.ret) e) };
          code = ap (λ (t : FuncTree). t.code) e ∙ items-traced P f F there tree.code at fits laid are paths;
        }

-- ---- the tree of a program

-- the function of which the tree has the names
function-of : (P : Prog) (f : ℕ) (tree : FuncTree) → slice_get (tree_of P).funcs f ≡ Some tree → (F : Func) × (slice_get P.funcs f ≡ Some F) × (function_tree (names_of_functions P.funcs) F ≡ tree)
function-of P f tree named = by (slice_get P.funcs f) refl
  where
    by : (o : Option Func) → slice_get P.funcs f ≡ o → (F : Func) × (slice_get P.funcs f ≡ Some F) × (function_tree (names_of_functions P.funcs) F ≡ tree)
    by None p = absurd (let none : None ≡ Some tree = sym (slice_get-map (function_tree (names_of_functions P.funcs)) P.funcs f ∙ ap (option_map (function_tree (names_of_functions P.funcs))) p) ∙ named in cc)
    by (Some F) p = (F, p, same_Some _ _ (sym (function_at P f F p) ∙ named))

pub tree-laid : (R : ℕ → Func → FuncTree → Type 0) (P : Prog) (laid : List Laying) (tree : Tree) → IsMadeOfEach R P tree → ((f : ℕ) (F : Func) (g : FuncTree) → R f F g → IsTracedFunction P bool_type laid f (function_tree (names_of_functions P.funcs) F) g) → IsLaidTree P bool_type laid tree
tree-laid R P laid tree e traced = record {
  imports = e.imports;
  many = length-map P.funcs (function_tree (names_of_functions P.funcs)) ∙ sym e.made.many;
  functions = λ f G g at at_g. let of = function-of P f G at in subst (λ (H : FuncTree). IsTracedFunction P bool_type laid f H g) of.2 (traced f of.0 g (e.made.functions f of.0 g of.1 at_g));
}
