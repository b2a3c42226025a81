-- A loop over the functions of an accepted program: what is known of the function at a number.
use Rattle.std.proofs.Common.{◌≡◌, ℕ, ◌<◌, List, length, get_or, Some, None, sym, ap, subst, ◌∙◌}
use Rattle.std.specs.Prelude.{slice_get, is_some}
use Rattle.std.proofs.lemmas.List.{length-map}
use Rattle.std.proofs.lemmas.Option.{same_Some, slice_get-get_or}
use Rattle.bril_tree.specs.declared.function_tree.FuncTree.{FuncTree}
use Rattle.bril_tree.specs.declared.numbered_function.Func.{Func}
use Rattle.bril_tree.specs.declared.program.Prog.{Prog}
use Rattle.bril_tree.specs.Accepted.{IsAccepted}
use Rattle.bril_tree.specs.Numbered.{item_tree, names_of_functions, variable_names, tree_of}
use Rattle.bril_tree.specs.Shape.{shape_fault_of}
use Rattle.bril_tree.specs.Size.{IsCounted}
use Rattle.bril_tree.proofs.Acceptance.{accepted_function, shaped_function}
use Rattle.bril_tree.proofs.Elements.{All-at}
use Rattle.bril_tree.proofs.Trees.{function_at}
use Rattle.pass_make.specs.Each.{IsFunctionOf}
use Rattle.pass_make.proofs.Each.{tree_of_function}

module _ (P : Prog) (funcs : List Func) (all : funcs ≡ P.funcs) (at : ℕ) (F : Func) (within : at < length funcs) (is : F ≡ get_or funcs at F) where
  pub number_within : at < length P.funcs
  number_within = subst (λ fs. at < length fs) all within

  pub there : slice_get P.funcs at ≡ Some F
  there = slice_get-get_or P.funcs at F number_within ∙ ap Some (sym (subst (λ fs. F ≡ get_or fs at F) all is))

  module _ (accepted : IsAccepted P) where
    pub shaped_there : shape_fault_of (is_some F.ret) F.code ≡ None
    shaped_there = shaped_function P F (accepted_function P at F accepted there)

    -- with the function's tree
    pub function_there : IsCounted P → (function : FuncTree) → slice_get (tree_of P).funcs at ≡ Some function → IsFunctionOf P at F function
    function_there c function named =
        let same : function ≡ tree_of_function P F = same_Some _ _ (sym named ∙ function_at P at F there) in
        record {
          there = there;
          shaped = shaped_there;
          sound = (accepted_function P at F accepted there).sites;
          few = All-at (λ (f : Func). length f.code < 4294967295) P.funcs at F c.items there;
          tree = same;
          long = ap (λ (f : FuncTree). length f.code) same ∙ length-map F.code (item_tree (names_of_functions P.funcs) (variable_names F.vars) F.labels);
        }
