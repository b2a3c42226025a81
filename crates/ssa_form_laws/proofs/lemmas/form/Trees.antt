-- All functions of a tree that is laid out in SSA form.
use Rattle.std.proofs.Common.{◌≡◌, ℕ, ◌+◌, ◌*◌, ◌<◌, ◌≤◌, List, [], ◌∷◌, length, map, refl, inl, inr, arith, All}
use Rattle.std.specs.List.{AllZip, sum_by}
use Rattle.std.proofs.lemmas.List.Elements.{All-cons, All-head, All-nil, All-tail}
use Rattle.std.proofs.lemmas.List.Sums.{sum_by-cons}
use Rattle.bril_names.specs.Faults.{function_names, labels_of}
use Rattle.bril_tree.specs.declared.function_tree.FuncTree.{FuncTree}
use Rattle.bril_tree.specs.declared.numbered_function.Func.{Func}
use Rattle.bril_tree.specs.declared.program.Prog.{Prog}
use Rattle.bril_tree.specs.declared.tree.Tree.{Tree}
use Rattle.bril_tree.specs.Accepted.{IsAccepted}
use Rattle.bril_tree.specs.Membership.{In}
use Rattle.bril_tree.specs.Numbered.{function_tree, names_of_functions, tree_of}
use Rattle.bril_tree.proofs.Acceptance.{accepted_function}
use Rattle.bril_tree.proofs.Elements.{in_get, zip-find}
use Rattle.ssa_laws.specs.live_entries.LiveEntries.{IsLiveEntryCount}
use Rattle.pass_make.proofs.Each.{names-each, tree_of_function}
use Rattle.pass_edit_laws.proofs.lemmas.plan.Elements.{in_all}
use Rattle.program_numbers.specs.ProgramNumbers.{IsSum}
use Rattle.ssa_search.specs.gets.Wants.{gets_of}
use Rattle.ssa_build.proofs.lemmas.operands.Accepted.{accepted-tabled}
use Rattle.ssa_build.specs.tree.Made.{IsLaidFunction, IsLaidTree}
use Rattle.ssa_form_laws.specs.form.Form.{IsSsaForm, other_items}
use Rattle.ssa_form_laws.specs.form.Laws.{LaidTreesAreEdits, LaidTreesAreInForm, LaidTreesAreShort}
use Rattle.ssa_form_laws.proofs.lemmas.form.Edits.{labels-same, sound-edit}
use Rattle.ssa_form_laws.proofs.lemmas.form.Following.{behind}
use Rattle.ssa_form_laws.proofs.lemmas.form.Given.{given}
use Rattle.ssa_form_laws.proofs.lemmas.form.Needed.{needed}
use Rattle.ssa_form_laws.proofs.lemmas.form.Others.{items-same}
use Rattle.ssa_form_laws.proofs.lemmas.form.Single.{apart, once}
use Rattle.ssa_form_laws.proofs.lemmas.form.Sizes.{few-more}

-- ---- lists

-- what holds of the tree of each function and of what is made of it
zip-trees : (R : FuncTree → FuncTree → Type 0) (fs : List (List ℕ)) → ((F : Func) (g : FuncTree) → IsLaidFunction F (function_tree fs F) g → R (function_tree fs F) g) → (xs : List Func) (ys : List FuncTree)
    → AllZip (λ F g. IsLaidFunction F (function_tree fs F) g) xs ys → AllZip R (map (function_tree fs) xs) ys
zip-trees R fs each [] [] z = tt
zip-trees R fs each [] (y ∷ ys) z = absurd z
zip-trees R fs each (x ∷ xs) [] z = absurd z
zip-trees R fs each (x ∷ xs) (y ∷ ys) z = (each x y z.0, zip-trees R fs each xs ys z.1)

module _ (P : Prog) (accepted : IsAccepted P) where
  abbrev fs : List (List ℕ)
  fs = names_of_functions P.funcs

  abbrev IsLaid : Func → FuncTree → Type 0
  IsLaid F g = IsLaidFunction F (function_tree fs F) g

  in-form : (F : Func) (g : FuncTree) → In F P.funcs → IsLaid F g → IsSsaForm g
  in-form F g among x =
      let at = in_get F P.funcs among in
      let ok = accepted_function P at.0 F accepted at.1 in
      let tabled = accepted-tabled P accepted at.0 F at.1 (gets_of x.wants) x.are_wants.wanted in
      record { once = once fs F g x; apart = apart fs F g x; behind = behind fs F g x; needed = needed fs F g x P ok tabled; given = given fs F g x P ok }

  -- two items more for each live entry
  pub short : (F : Func) (g : FuncTree) (n : ℕ) → In F P.funcs → IsLaid F g → IsLiveEntryCount F.code n → length g.code ≤ length F.code + 2 * n
  short F g n among x entries =
      let at = in_get F P.funcs among in
      let ok = accepted_function P at.0 F accepted at.1 in
      let tabled = accepted-tabled P accepted at.0 F at.1 (gets_of x.wants) x.are_wants.wanted in
      few-more fs F g x P ok tabled n entries

  sum-short : (xs : List Func) (ys : List FuncTree) (n : ℕ) → ((F : Func) → In F xs → In F P.funcs) → AllZip IsLaid xs ys → IsSum (λ f n. IsLiveEntryCount f.code n) xs n → sum_by (λ (g : FuncTree). length g.code) ys ≤ sum_by (λ (F : Func). length F.code) xs + 2 * n
  sum-short [] [] n inside z s = omega arith
  sum-short [] (y ∷ ys) n inside z s = absurd z
  sum-short (x ∷ xs) [] n inside z s = absurd z
  sum-short (x ∷ xs) (y ∷ ys) n inside z s =
      let one = short x y s.0 (inside x (inl refl)) z.0 s.2 in
      let rest = sum-short xs ys s.1 (λ F i. inside F (inr i)) z.1 s.3 in
      let a = sum_by-cons (λ (g : FuncTree). length g.code) y ys in
      let b = sum_by-cons (λ (F : Func). length F.code) x xs in
      let both : n ≡ s.0 + s.1 = s.4 in
      omega arith

  -- without live entries no function is longer
  none-longer : (xs : List Func) (ys : List FuncTree) (n : ℕ) → n ≡ 0 → ((F : Func) → In F xs → In F P.funcs) → AllZip IsLaid xs ys → IsSum (λ f n. IsLiveEntryCount f.code n) xs n → All (λ (F : Func). length F.code < 4294967295) xs → All (λ (g : FuncTree). length g.code < 4294967295) ys
  none-longer [] [] n e inside z s low = All-nil (λ (g : FuncTree). length g.code < 4294967295)
  none-longer [] (y ∷ ys) n e inside z s low = absurd z
  none-longer (x ∷ xs) [] n e inside z s low = absurd z
  none-longer (x ∷ xs) (y ∷ ys) n e inside z s low =
      let one = short x y s.0 (inside x (inl refl)) z.0 s.2 in
      let both : n ≡ s.0 + s.1 = s.4 in
      let was = All-head (λ (F : Func). length F.code < 4294967295) x xs low in
      All-cons (λ (g : FuncTree). length g.code < 4294967295) y ys (omega arith) (none-longer xs ys s.1 (omega arith) (λ F i. inside F (inr i)) z.1 s.3 (All-tail (λ (F : Func). length F.code < 4294967295) x xs low))

  module _ (tree : Tree) (t : IsLaidTree P tree) (n : ℕ) (entries : IsSum (λ f n. IsLiveEntryCount f.code n) P.funcs n) where
    pub tree-short : sum_by (λ (g : FuncTree). length g.code) tree.funcs ≤ sum_by (λ (F : Func). length F.code) P.funcs + 2 * n
    tree-short = sum-short P.funcs tree.funcs n (λ F i. i) t.functions entries

    pub tree-none_longer : n ≡ 0 → All (λ (F : Func). length F.code < 4294967295) P.funcs → All (λ (g : FuncTree). length g.code < 4294967295) tree.funcs
    tree-none_longer e low = none-longer P.funcs tree.funcs n e (λ F i. i) t.functions entries low

pub laid-in_form : LaidTreesAreInForm
laid-in_form P tree accepted t =
    in_all IsSsaForm tree.funcs (λ g among. let s = zip-find (IsLaid P accepted) P.funcs tree.funcs g t.functions among in in-form P accepted s.0 g s.1 s.2)

pub laid-edits : LaidTreesAreEdits
laid-edits P tree t = (
  names-each P (λ F g. IsLaidFunction F (tree_of_function P F) g) (λ f F g p sound x. sound-edit (names_of_functions P.funcs) F g x (function_names (tree_of P)) sound) tree.funcs t.functions,
  zip-trees (λ (f g : FuncTree). labels_of f.code ≡ labels_of g.code) (names_of_functions P.funcs) (labels-same (names_of_functions P.funcs)) P.funcs tree.funcs t.functions,
)

-- beside `get`s and `set`s each function has as many items as it had in all
pub laid-items : (P : Prog) (tree : Tree) → IsLaidTree P tree → AllZip (λ (f g : FuncTree). other_items g.code ≡ length f.code) (tree_of P).funcs tree.funcs
laid-items P tree t = zip-trees (λ (f g : FuncTree). other_items g.code ≡ length f.code) (names_of_functions P.funcs) (items-same (names_of_functions P.funcs)) P.funcs tree.funcs t.functions

pub laid-short : LaidTreesAreShort
laid-short P tree n accepted t entries = tree-short P accepted tree t n entries
