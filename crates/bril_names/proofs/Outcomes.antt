-- Programs of numbered functions, and the first fault of a tree.
use Rattle.std.proofs.Common.{◌≡◌, ◌⊎◌, ℕ, ◌+◌, ◌<◌, true, List, [], ◌∷◌, ◌++◌, length, map, take, get_or, Some, refl, sym, ap, ◌∙◌, subst, inl, inr}
use Rattle.std.specs.Prelude.{slice_get}
use Rattle.std.specs.List.{All, Contains, list_all}
use Rattle.std.proofs.lemmas.Bool.{and_from}
use Rattle.std.proofs.lemmas.List.{length-map, get_or-map, map_push, take_more}
use Rattle.std.proofs.lemmas.List.Elements.{All-push}
use Rattle.std.proofs.lemmas.List.Folds.{list_all-append}
use Rattle.std.proofs.lemmas.Option.{slice_get-map, slice_get-get_or, slice_get_read}
use Rattle.bril_tree.specs.declared.function_tree.FuncTree.{FuncTree}
use Rattle.bril_tree.specs.declared.numbered_function.Func.{Func}
use Rattle.bril_tree.specs.declared.program.Prog.{Prog}
use Rattle.bril_tree.specs.declared.tree.Tree.{Tree}
use Rattle.bril_tree.specs.Numbered.{Numbered, named, function_tree}
use Rattle.bril_tree.specs.ProgramForm.{IsProgramForm, main_name}
use Rattle.bril_names.specs.Faults.{Differ, IsSound, function_names, FirstFaultWithin, HasFault, IsFaultOf}
use Rattle.bril_names.specs.Numbering.{are_called_below, IsFaultWithin, FaultAmong, IsFaultAmong}
use Rattle.bril_names.specs.declared.fault.NameFault.{NameFault}
use Rattle.bril_names.specs.declared.fault.NameFault.TheVariants.{NoFunction, TwiceFunction, NoLabel, TwiceLabel, NoMain, TwiceArg, Memory}
use Rattle.bril_names.proofs.Naming.{named_apart}
use Rattle.bril_names.proofs.Uniqueness.{one_fault, never_both}

-- ---- names of functions

module _ (tree : Tree) (k : ℕ) (f : FuncTree) (within : k < length tree.funcs) (is : f ≡ get_or tree.funcs k f) where
  name_within : k < length (function_names tree)
  name_within = subst (λ n. k < n) (sym (length-map tree.funcs (λ (g : FuncTree). g.name))) within

  name_is : f.name ≡ get_or (function_names tree) k f.name
  name_is = ap (λ (g : FuncTree). g.name) is ∙ sym (get_or-map (λ (g : FuncTree). g.name) tree.funcs k f f.name within)

  pub name_more : (names : List (List ℕ)) → names ≡ take k (function_names tree) → names ++ f.name ∷ [] ≡ take (k + 1) (function_names tree)
  name_more names e =
      (λ i. e i ++ name_is i ∷ []) ∙ sym (take_more (function_names tree) k f.name name_within)

  -- a function whose name is in the table is the first of its kind
  pub name_twice : (names : List (List ℕ)) → names ≡ take k (function_names tree) → Differ names → Contains names f.name → IsFaultOf tree (TwiceFunction k)
  name_twice names e differ there =
      inr (record {
        name = f.name;
        here = slice_get_read (function_names tree) (length (function_names tree)) k f.name refl name_within name_is;
        before = subst (λ ns. Contains ns f.name) e there;
        differ = subst Differ e differ;
      })

-- ---- the functions

-- one more function
module _ (functions : List (List ℕ)) (trees : List FuncTree) (k : ℕ) (t : FuncTree) (within : k < length trees) (is : t ≡ get_or trees k t) where
  front : take (k + 1) trees ≡ take k trees ++ t ∷ []
  front = take_more trees k t within ∙ ap (λ u. take k trees ++ u ∷ []) (sym is)

  pub trees_more : (funcs : List Func) (f : Func) → take k trees ≡ map (function_tree functions) funcs → t ≡ function_tree functions f
      → take (k + 1) trees ≡ map (function_tree functions) (funcs ++ f ∷ [])
  trees_more funcs f some one = front ∙ (λ i. some i ++ one i ∷ []) ∙ sym (map_push (function_tree functions) funcs f)

  pub called_more : (count : ℕ) (funcs : List Func) (f : Func) → list_all (are_called_below count) funcs ≡ true → are_called_below count f ≡ true
      → list_all (are_called_below count) (funcs ++ f ∷ []) ≡ true
  called_more count funcs f some one =
      list_all-append (are_called_below count) funcs (f ∷ [])
      ∙ and_from (list_all (are_called_below count) funcs) _ some (and_from (are_called_below count f) true one refl)

  pub sound_more : All (IsSound functions) (take k trees) → IsSound functions t → All (IsSound functions) (take (k + 1) trees)
  sound_more some one = subst (All (IsSound functions)) (sym front) (All-push (IsSound functions) (take k trees) t some one)

  -- the fault of a function behind those that have none
  pub fault_here : (fault : NameFault) → All (IsSound functions) (take k trees) → IsFaultWithin functions k t fault → IsFaultAmong functions trees fault
  fault_here fault sound (inl memory) = inl memory
  fault_here fault sound (inr has) =
      inr (record { number = k; function = t; here = slice_get_read trees (length trees) k t refl within is; before = sound; has = has })

-- ---- the tree

module _ (tree : Tree) (functions : List (List ℕ)) (are : functions ≡ function_names tree) (differ : Differ functions) (main : Contains functions main_name) where
  -- the first function with a fault of its own is the tree's
  first_fault : (fault : NameFault) → FaultAmong functions tree.funcs fault → FirstFaultWithin tree fault
  first_fault fault among =
      let here = subst (λ names. FaultAmong names tree.funcs fault) are among in
      record {
        differ = subst Differ are differ;
        main = subst (λ names. Contains names main_name) are main;
        number = here.number;
        function = here.function;
        here = here.here;
        before = here.before;
        has = here.has;
      }

  pub fault_of_tree : (fault : NameFault) → IsFaultAmong functions tree.funcs fault → IsFaultOf tree fault
  fault_of_tree fault (inl memory) = inl memory
  fault_of_tree (NoFunction func item) (inr among) = inr (first_fault (NoFunction func item) among)
  fault_of_tree (NoLabel func item) (inr among) = inr (first_fault (NoLabel func item) among)
  fault_of_tree (TwiceLabel func item) (inr among) = inr (first_fault (TwiceLabel func item) among)
  fault_of_tree (TwiceArg func) (inr among) = inr (first_fault (TwiceArg func) among)
  fault_of_tree (TwiceFunction func) (inr among) = absurd among.has
  fault_of_tree NoMain (inr among) = absurd among.has
  fault_of_tree Memory (inr among) = absurd among.has

-- ---- the program

tree_names : (functions : List (List ℕ)) (funcs : List Func) → map (λ (t : FuncTree). t.name) (map (function_tree functions) funcs) ≡ map (λ (f : Func). f.name) funcs
tree_names functions [] = refl
tree_names functions (f ∷ funcs) = ap (λ names. f.name ∷ names) (tree_names functions funcs)

module _ (tree : Tree) (functions : List (List ℕ)) (funcs : List Func) (main : ℕ) (are : functions ≡ function_names tree) (trees : tree.funcs ≡ map (function_tree functions) funcs) where
  names_are : functions ≡ map (λ (f : Func). f.name) funcs
  names_are = are ∙ ap (map (λ (t : FuncTree). t.name)) trees ∙ tree_names functions funcs

  pub program_formed : Differ functions → list_all (are_called_below (length functions)) funcs ≡ true → main < length functions → named functions main ≡ main_name → IsProgramForm funcs main
  program_formed differ called within is =
      let here = slice_get-get_or functions main [] within ∙ ap Some is in
      record {
        called = subst (λ n. list_all (are_called_below n) funcs ≡ true) (ap length names_are ∙ length-map funcs (λ (f : Func). f.name)) called;
        differ = named_apart (λ (f : Func). f.name) funcs (subst Differ names_are differ);
        main_is = sym (slice_get-map (λ (f : Func). f.name) funcs main) ∙ ap (λ names. slice_get names main) (sym names_are) ∙ here;
      }

  pub functions_are : tree.funcs ≡ map (function_tree (map (λ (f : Func). f.name) funcs)) funcs
  functions_are = trees ∙ (λ i. map (function_tree (names_are i)) funcs)

-- ---- a fault or a program

-- where a fault is answered, only want of memory leaves a numbered tree without its program
pub fault_numbers : (tree : Tree) (fault : NameFault) → IsFaultOf tree fault → (p : Prog) → Numbered tree p → fault ≡ Memory
fault_numbers tree fault (inl memory) p numbered = memory
fault_numbers tree fault (inr has) p numbered = absurd (never_both tree p fault numbered has)

pub fault_is : (tree : Tree) (fault : NameFault) → IsFaultOf tree fault → (why : NameFault) → HasFault tree why → (fault ≡ why) ⊎ (fault ≡ Memory)
fault_is tree fault (inl memory) why has = inr memory
fault_is tree fault (inr mine) why has = inl (one_fault tree fault why mine has)
