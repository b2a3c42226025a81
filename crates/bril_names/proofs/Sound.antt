-- A tree that has a numbered program is sound: its names differ where they must, and each is there.
use Rattle.std.proofs.Common.{◌≡◌, ℕ, List, [], ◌∷◌, length, map, nat_lt, refl, sym, ap, ◌∙◌, subst}
use Rattle.std.specs.List.{All, Contains, list_all, flat_map}
use Rattle.std.proofs.lemmas.Bool.{and_parts}
use Rattle.std.proofs.lemmas.List.{get_or_default}
use Rattle.std.proofs.lemmas.List.Elements.{All-nil, All-cons}
use Rattle.bril_tree.specs.declared.function_tree.FuncTree.{FuncTree}
use Rattle.bril_tree.specs.declared.numbered.Instr.{Instr}
use Rattle.bril_tree.specs.declared.numbered.Instr.TheVariants.{Label, Const, Act}
use Rattle.bril_tree.specs.declared.numbered_function.Func.{Func}
use Rattle.bril_tree.specs.declared.program.Prog.{Prog}
use Rattle.bril_tree.specs.declared.tree.Tree.{Tree}
use Rattle.bril_tree.specs.FunctionForm.{callees_of}
use Rattle.bril_tree.specs.Numbered.{Numbered, variable_names, item_tree, function_tree, names_of_functions}
use Rattle.bril_tree.specs.ProgramForm.{main_name}
use Rattle.bril_names.specs.Faults.{Differ, IsSound, IsKnown, labels_of, function_names}
use Rattle.bril_names.specs.Range.{IsInRange, AreInRange}
use Rattle.bril_names.proofs.Faultless.{IsSoundTree}
use Rattle.bril_names.proofs.Functions.{AreCalled, AreAllCalled, in_range, Differ-variables, Differ-functions, all_called, IsMain, is_main}
use Rattle.bril_names.proofs.Items.{AreInRange-first, AreInRange-rest, labels_of_tree}
use Rattle.bril_names.proofs.Naming.{AreBelow-tested, AreAmong-named, Differ-take, AreAmong-none}
use Rattle.bril_names.proofs.Variables.{argument_names_taken}

module _ (fs V ls : List (List ℕ)) where
  known_item : (a : Instr) → IsInRange (length fs) (length V) (length ls) a → IsKnown fs ls (item_tree fs V ls a)
  known_item (Label l) a_in = (AreAmong-none fs, AreAmong-none ls)
  known_item (Const d ty v) a_in = (AreAmong-none fs, AreAmong-none ls)
  known_item (Act d ty op args cs ts) a_in = (AreAmong-named fs cs a_in.callees, AreAmong-named ls ts a_in.targets)

  known_code : (code : List Instr) → AreInRange (length fs) (length V) (length ls) code → All (IsKnown fs ls) (map (item_tree fs V ls) code)
  known_code [] code_in = All-nil (IsKnown fs ls)
  known_code (a ∷ code) code_in =
      All-cons (IsKnown fs ls) (item_tree fs V ls a) (map (item_tree fs V ls) code)
      (known_item a (AreInRange-first (length fs) (length V) (length ls) a code code_in))
      (known_code code (AreInRange-rest (length fs) (length V) (length ls) a code code_in))

module _ (fs : List (List ℕ)) where
  -- the tree of a function whose calls are among these functions
  pub sound_function : (f : Func) → AreCalled (length fs) f → IsSound fs (function_tree fs f)
  sound_function f called =
      let labels : labels_of (function_tree fs f).code ≡ f.labels = labels_of_tree fs (variable_names f.vars) f.labels f.code f.formed.placed in
      let known = known_code fs (variable_names f.vars) f.labels f.code (in_range (length fs) f called) in
      record {
        arguments = subst Differ (sym (argument_names_taken f.args f.vars f.formed.args_typed)) (Differ-take f.args (variable_names f.vars) (Differ-variables f));
        labels = subst Differ (sym labels) f.formed.labels_differ;
        known = subst (λ ls. All (IsKnown fs ls) (function_tree fs f).code) (sym labels) known;
      }

  sound_functions : (funcs : List Func) → AreAllCalled (length fs) funcs → All (IsSound fs) (map (function_tree fs) funcs)
  sound_functions [] called = All-nil (IsSound fs)
  sound_functions (f ∷ funcs) called =
      let all = λ (h : Func). list_all (λ g. nat_lt g (length fs)) (flat_map callees_of h.code) in
      let c = and_parts (all f) (list_all all funcs) called in
      All-cons (IsSound fs) (function_tree fs f) (map (function_tree fs) funcs)
      (sound_function f (AreBelow-tested (length fs) (flat_map callees_of f.code) c.0)) (sound_functions funcs c.1)

-- the names of functions stay as they become trees
pub names_kept : (fs : List (List ℕ)) (funcs : List Func) → map (λ (t : FuncTree). t.name) (map (function_tree fs) funcs) ≡ names_of_functions funcs
names_kept fs [] = refl
names_kept fs (f ∷ funcs) = ap (λ names. f.name ∷ names) (names_kept fs funcs)

pub numbered_names : (tree : Tree) (p : Prog) → Numbered tree p → function_names tree ≡ names_of_functions p.funcs
numbered_names tree p of_p = ap (map (λ (t : FuncTree). t.name)) of_p.functions ∙ names_kept (names_of_functions p.funcs) p.funcs

contains_main : (names : List (List ℕ)) (main : ℕ) → IsMain names main → Contains names main_name
contains_main names main is = (main, is.within, get_or_default names main main_name [] is.within ∙ is.is_named)

pub sound_tree : (tree : Tree) (p : Prog) → Numbered tree p → IsSoundTree tree
sound_tree tree p of_p =
    let names = numbered_names tree p of_p in
    let fs = names_of_functions p.funcs in
    record {
      differ = subst Differ (sym names) (Differ-functions p);
      main = subst (λ ns. Contains ns main_name) (sym names) (contains_main fs p.main (is_main p));
      sound =
          subst (λ ns. All (IsSound ns) tree.funcs) (sym names) (subst (All (IsSound fs)) (sym of_p.functions) (sound_functions fs p.funcs (all_called p)));
    }
