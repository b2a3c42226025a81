-- All functions of a program: its numbers, and what no walk leads to. So what is made of an accepted program is in SSA form.
use Rattle.std.proofs.Common.{◌≡◌, ◌⊎◌, ℕ, ◌+◌, ◌*◌, ◌≤◌, List, [], ◌∷◌, length, map, Option, Some, None, refl, sym, ap, subst, ◌∙◌, inl, inr, arith, All}
use Rattle.std.specs.Prelude.{slice_get}
use Rattle.std.specs.List.{AllZip, sum_by}
use Rattle.std.proofs.lemmas.List.{length-map}
use Rattle.std.proofs.lemmas.List.Sums.{sum_by-cons}
use Rattle.std.proofs.lemmas.Option.{slice_get_within}
use Rattle.bril_names.specs.Faults.{SameHead, function_names, labels_of}
use Rattle.bril_names.proofs.Edits.{heads-of_edits}
use Rattle.bril_tree.specs.declared.function_tree.FuncTree.{FuncTree}
use Rattle.bril_tree.specs.declared.numbered.Instr.{Instr}
use Rattle.bril_tree.specs.declared.numbered_function.Func.{Func}
use Rattle.bril_tree.specs.declared.program.Prog.{Prog}
use Rattle.bril_tree.specs.declared.tree.Tree.{Tree}
use Rattle.bril_tree.specs.Accepted.{IsAccepted}
use Rattle.bril_tree.specs.FrameWords.{location_count}
use Rattle.bril_tree.specs.Membership.{In}
use Rattle.bril_tree.specs.Numbered.{Numbered, function_tree, names_of_functions, tree_of}
use Rattle.bril_tree.specs.Step.{code_of, item_at, items_of}
use Rattle.bril_tree.specs.Walk.{IsReached}
use Rattle.bril_tree.proofs.Acceptance.{accepted_function}
use Rattle.bril_tree.proofs.Elements.{get_in, get_inside, zip-get, zip-long}
use Rattle.bril_tree.proofs.Trees.{function_at, numbered-tree_of}
use Rattle.ssa_laws.specs.live_entries.LiveEntries.{IsLiveEntryCount}
use Rattle.pass_edit_laws.specs.numbers.Numbers.{FunctionGrows, NumbersGrow, adding}
use Rattle.pass_edit_laws.proofs.lemmas.numbers.Programs.{functions_grow, none-added}
use Rattle.program_numbers.specs.ProgramNumbers.{IsSum}
use Rattle.ssa_build.specs.tree.Made.{IsLaidFunction, IsLaidTree}
use Rattle.ssa_form_laws.specs.form.Form.{IsSilent, IsSsa, IsSsaForm, other_items}
use Rattle.ssa_form_laws.specs.form.Numbers.{IsSsaBound, ssa_growth}
use Rattle.ssa_form_laws.proofs.lemmas.form.Trees.{laid-edits, laid-in_form, laid-items}
use Rattle.ssa_form_laws.specs.numbers.Laws.{LaidTreesAreSsa}
use Rattle.ssa_form_laws.proofs.lemmas.numbers.Entering.{depth-within, entries-within, width-below}
use Rattle.ssa_form_laws.proofs.lemmas.numbers.Names.{few-locations, no-longer}
use Rattle.ssa_form_laws.proofs.lemmas.numbers.Silent.{silent}

-- ---- sums

-- no function has more items than all
items-in : (F : Func) (xs : List Func) → In F xs → length F.code ≤ sum_by (λ (H : Func). length H.code) xs
items-in F [] i = absurd i
items-in F (y ∷ xs) (inl e) = let s = ap (λ (H : Func). length H.code) e in let c = sum_by-cons (λ (H : Func). length H.code) y xs in omega arith
items-in F (y ∷ xs) (inr i) = let r = items-in F xs i in let c = sum_by-cons (λ (H : Func). length H.code) y xs in omega arith

-- nor more live entries
entries-in : (F : Func) (xs : List Func) (n : ℕ) → IsSum (λ f m. IsLiveEntryCount f.code m) xs n → In F xs → (m : ℕ) × IsLiveEntryCount F.code m × (m ≤ n)
entries-in F [] n s i = absurd i
entries-in F (y ∷ xs) n s (inl e) = (s.0, subst (λ (H : Func). IsLiveEntryCount H.code s.0) (sym e) s.2, (let all : n ≡ s.0 + s.1 = s.4 in omega arith))
entries-in F (y ∷ xs) n s (inr i) = let r = entries-in F xs s.1 s.3 i in (r.0, r.1, (let all : n ≡ s.0 + s.1 = s.4 in let less = r.2 in omega arith))

twice-less : (m n : ℕ) → m ≤ n → 2 * m ≤ 2 * n
twice-less m n h = omega arith

module _ (P Q : Prog) (tree : Tree) (accepted : IsAccepted P) (t : IsLaidTree P tree) (numbered : Numbered tree Q) where
  abbrev fs : List (List ℕ)
  fs = names_of_functions P.funcs

  abbrev fs' : List (List ℕ)
  fs' = names_of_functions Q.funcs

  abbrev IsLaid : Func → FuncTree → Type 0
  IsLaid F g = IsLaidFunction F (function_tree fs F) g

  tree-is : tree ≡ tree_of Q
  tree-is = numbered-tree_of tree Q numbered

  many : length P.funcs ≡ length Q.funcs
  many =
      let a = zip-long IsLaid P.funcs tree.funcs t.functions in
      let b : length tree.funcs ≡ length (map (function_tree fs') Q.funcs) = ap (λ (s : Tree). length s.funcs) tree-is in
      let c = length-map Q.funcs (function_tree fs') in
      omega arith

  -- a function of the result, and the one that it was made of
  made-of : (f : ℕ) (F G : Func) → slice_get P.funcs f ≡ Some F → slice_get Q.funcs f ≡ Some G → IsLaid F (function_tree fs' G)
  made-of f F G p q = zip-get IsLaid P.funcs tree.funcs f F (function_tree fs' G) t.functions p (ap (λ (s : Tree). slice_get s.funcs f) tree-is ∙ function_at Q f G q)

  -- ---- numbers

  function-grows : (bound : ℕ) → IsSsaBound P bound → (f : ℕ) (F G : Func) → slice_get P.funcs f ≡ Some F → slice_get Q.funcs f ≡ Some G → FunctionGrows (adding (ssa_growth bound) 0) F G
  function-grows bound b f F G p q =
      let x = made-of f F G p q in
      let sound = (accepted_function P f F accepted p).sites in
      let among = get_in P.funcs f F p in
      let n = entries-in F P.funcs b.entries b.are among in
      let items = items-in F P.funcs among in
      let most = few-locations fs fs' F G (function_tree fs' G) x refl n.0 n.1 in
      let args = F.formed.few_args in
      let is = b.is in
      let less = n.2 in
      let all : F.args + length F.code + n.0 ≤ bound + location_count F = omega arith in
      let twice = twice-less (F.args + length F.code + n.0) (bound + location_count F) all in
      record {
        locations = omega arith;
        arguments = no-longer fs fs' F G (function_tree fs' G) x refl;
        depth = depth-within fs fs' F G (function_tree fs' G) x refl sound;
        entries = λ d e a b. let l = entries-within fs fs' F G (function_tree fs' G) x refl sound d e a b in omega arith;
        width = width-below fs fs' F G (function_tree fs' G) x refl sound;
      }

  numbers : (bound : ℕ) → IsSsaBound P bound → NumbersGrow P Q (ssa_growth bound)
  numbers bound b =
      functions_grow P Q (ssa_growth bound) (λ f. 0) accepted
      (record { locations = λ m n less. twice-less (bound + m) (bound + n) (omega arith); arguments = λ m n less. less; depth = λ m n less. less; width = λ m n less. less })
      (λ n. let none = none-added 0 (length P.funcs) in omega arith) many (function-grows bound b)

  -- ---- what no walk leads to

  silent-at : (f i : ℕ) (item : Instr) → item_at Q f i ≡ Some item → IsSilent item ⊎ IsReached (code_of Q f) i
  silent-at f i item at = by (slice_get Q.funcs f) refl
    where
      by : (o : Option Func) → slice_get Q.funcs f ≡ o → IsSilent item ⊎ IsReached (code_of Q f) i
      by None q = absurd (let h : None ≡ Some item = sym (ap (λ o. slice_get (items_of o) i) q) ∙ at in cc)
      by (Some G) q =
          let w = slice_get_within Q.funcs f G q in
          let F = get_inside P.funcs f (let m = many in omega arith) in
          let sound = (accepted_function P f F.0 accepted F.1).sites in
          subst (λ (o : Option Func). IsSilent item ⊎ IsReached (items_of o) i) (sym q)
          (silent fs fs' F.0 G (function_tree fs' G) (made-of f F.0 G F.1 q) refl sound i item (sym (ap (λ o. slice_get (items_of o) i) q) ∙ at))

  is-ssa : IsSsa P Q
  is-ssa =
      let edits = laid-edits P tree t in
      record {
        heads = subst (λ (s : Tree). AllZip SameHead (tree_of P).funcs s.funcs) tree-is (heads-of_edits (function_names (tree_of P)) (tree_of P).funcs tree.funcs edits.0);
        labels = subst (λ (s : Tree). AllZip (λ (f h : FuncTree). labels_of f.code ≡ labels_of h.code) (tree_of P).funcs s.funcs) tree-is edits.1;
        items = subst (λ (s : Tree). AllZip (λ (f g : FuncTree). other_items g.code ≡ length f.code) (tree_of P).funcs s.funcs) tree-is (laid-items P tree t);
        form = subst (λ (s : Tree). All IsSsaForm s.funcs) tree-is (laid-in_form P tree accepted t);
        silent = silent-at;
        numbers = numbers;
      }

pub laid-ssa : LaidTreesAreSsa
laid-ssa P Q tree accepted t numbered = is-ssa P Q tree accepted t numbered
