-- Rounds that change a program leave fewer copies.
use Rattle.std.proofs.Common.{◌≡◌, ℕ, zero, suc, ◌+◌, ◌<◌, ◌≤◌, Bool, true, false, cond, List, [], ◌∷◌, map, Some, refl, sym, ap, ◌∙◌, arith}
use Rattle.std.specs.Prelude.{slice_get}
use Rattle.std.proofs.lemmas.List.Sums.{sum_by-cons}
use Rattle.std.proofs.lemmas.Option.{same_Some}
use Rattle.bril_tree.specs.declared.function_tree.FuncTree.{FuncTree}
use Rattle.bril_tree.specs.declared.function_tree.Item.{Item}
use Rattle.bril_tree.specs.declared.numbered.Instr.{Instr}
use Rattle.bril_tree.specs.declared.numbered.Instr.TheVariants.{Label, Const, Act}
use Rattle.bril_tree.specs.declared.numbered_function.Func.{Func}
use Rattle.bril_tree.specs.declared.program.Prog.{Prog}
use Rattle.bril_tree.specs.Numbered.{item_tree, names_of_functions, nop_item}
use Rattle.pass_edit_laws.specs.plan.Marked.{with_nops}
use Rattle.graph_search.specs.Marks.{is_marked}
use Rattle.variable_renaming.proofs.Copying.{copy-is}
use Rattle.variable_renaming.specs.Made.{CopyWithin, MarksCopies}
use Rattle.coalesce.specs.meaning.Merged.{NoneApart}
use Rattle.coalesce.specs.Copies.{copies_in, copies_of_code, is_copy, is_named_copy}
use Rattle.coalesce.specs.Rounds.{IsRoundFunction}

-- one item more
copies-cons : (i : Item) (items : List Item) → copies_in (i ∷ items) ≡ cond (is_named_copy i) 1 0 + copies_in items
copies-cons i items = sum_by-cons (λ (x : Item). cond (is_named_copy x) 1 0) i items

copy-kept : (fs V ls : List (List ℕ)) (a : Instr) → is_named_copy (item_tree fs V ls a) ≡ is_copy a
copy-kept fs V ls (Label l) = refl
copy-kept fs V ls (Const d ty v) = refl
copy-kept fs V ls (Act d ty o args fns labels) = refl

-- there are as many by names as by numbers, whatever the names are
pub copies-kept : (fs V ls : List (List ℕ)) (code : List Instr) → copies_in (map (item_tree fs V ls) code) ≡ copies_of_code code
copies-kept fs V ls [] = refl
copies-kept fs V ls (a ∷ code) =
    let rest = copies-kept fs V ls code in
    let one = copy-kept fs V ls a in
    copies-cons (item_tree fs V ls a) (map (item_tree fs V ls) code) ∙ (λ i. cond (one i) 1 0 + rest i) ∙ sym (sum_by-cons (λ (x : Instr). cond (is_copy x) 1 0) a code)

-- `nop`s leave no more
copies-left : (marks : List Bool) (items : List Item) → copies_in (with_nops nop_item marks items) ≤ copies_in items
copies-left [] items = omega arith
copies-left (m ∷ marks) [] = omega arith
copies-left (true ∷ marks) (i ∷ items) =
    let rest = copies-left marks items in
    let a = copies-cons nop_item (with_nops nop_item marks items) in
    let b = copies-cons i items in
    omega arith
copies-left (false ∷ marks) (i ∷ items) =
    let rest = copies-left marks items in
    let a = copies-cons i (with_nops nop_item marks items) in
    let b = copies-cons i items in
    omega arith

-- and fewer, where a copy is marked
copies-fewer : (marks : List Bool) (code : List Instr) (T : Instr → Item) (k : ℕ) (a : Instr) → is_marked marks k ≡ true → slice_get code k ≡ Some a → is_named_copy (T a) ≡ true → copies_in (with_nops nop_item marks (map T code)) < copies_in (map T code)
copies-fewer [] code T k a marked at one = absurd cc
copies-fewer (m ∷ marks) [] T k a marked at one = absurd cc
copies-fewer (true ∷ marks) (b ∷ code) T zero a marked at one =
    let rest = copies-left marks (map T code) in
    let here : is_named_copy (T b) ≡ true = ap (λ c. is_named_copy (T c)) (same_Some b a at) ∙ one in
    let new = copies-cons nop_item (with_nops nop_item marks (map T code)) in
    let old = copies-cons (T b) (map T code) ∙ ap (λ (c : Bool). cond c 1 0 + copies_in (map T code)) here in
    omega arith
copies-fewer (false ∷ marks) (b ∷ code) T zero a marked at one = absurd cc
copies-fewer (true ∷ marks) (b ∷ code) T (suc k) a marked at one =
    let rest = copies-fewer marks code T k a marked at one in
    let new = copies-cons nop_item (with_nops nop_item marks (map T code)) in
    let old = copies-cons (T b) (map T code) in
    omega arith
copies-fewer (false ∷ marks) (b ∷ code) T (suc k) a marked at one =
    let rest = copies-fewer marks code T k a marked at one in
    let new = copies-cons (T b) (with_nops nop_item marks (map T code)) in
    let old = copies-cons (T b) (map T code) in
    omega arith

module _ (fs : List (List ℕ)) (F : Func) (news : List (List ℕ)) (marks : List Bool) where
  abbrev now : Instr → Item
  now = item_tree fs news F.labels

  function-left : copies_in (with_nops nop_item marks (map now F.code)) ≤ copies_of_code F.code
  function-left = let a = copies-left marks (map now F.code) in let b = copies-kept fs news F.labels F.code in omega arith

  pub function-fewer : (class : List ℕ) → MarksCopies F class marks → (k : ℕ) → is_marked marks k ≡ true → copies_in (with_nops nop_item marks (map now F.code)) < copies_of_code F.code
  function-fewer class m k marked =
      let c = m.only k marked in
      let copy = copy-is c.item c.x c.y c.copies in
      let one : is_named_copy (now c.item) ≡ true = ap (λ (a : Instr). is_named_copy (now a)) copy.is in
      let a = copies-fewer marks F.code now k c.item marked c.at one in
      let b = copies-kept fs news F.labels F.code in
      omega arith

-- a function of a round
module _ (P : Prog) (F : Func) (g : FuncTree) (t : IsRoundFunction P F g) where
  same : copies_in g.code ≡ copies_in (with_nops nop_item t.made.marks (map (item_tree (names_of_functions P.funcs) t.made.news F.labels) F.code))
  same = ap (λ (h : FuncTree). copies_in h.code) t.made.tree

  pub round-left : copies_in g.code ≤ copies_of_code F.code
  round-left = let l = function-left (names_of_functions P.funcs) F t.made.news t.made.marks in let e = same in omega arith

  -- where there are as many, no two variables were joined, so no copy is apart
  pub round-settled : copies_of_code F.code ≤ copies_in g.code → NoneApart F
  round-settled as_many = t.known.settled (λ point c. by point c (is_marked t.made.marks point) refl)
    where
      by : (point : ℕ) → CopyWithin F t.class point → (b : Bool) → is_marked t.made.marks point ≡ b → ⊥
      by point c true e = let l = function-fewer (names_of_functions P.funcs) F t.made.news t.made.marks t.class t.made.marked point e in omega (arith, as_many, same)
      by point c false e = t.made.marked.all point e c
