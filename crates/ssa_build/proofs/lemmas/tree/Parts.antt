-- The wanted `get`s behind a point, as the layout and as the tables take them.
use Rattle.std.proofs.Common.{◌≡◌, ℕ, ◌+◌, ◌-◌, ◌*◌, ◌/◌, ◌<◌, ◌≤◌, Bool, true, false, cond, ◌&&◌, List, [], length, take, drop, map, get_or, Option, refl, sym, ap, subst, ◌∙◌, arith, add-one}
use Rattle.std.specs.Prelude.{nat_le, slice_index, slice_range}
use Rattle.std.specs.List.{All}
use Rattle.std.proofs.lemmas.Bool.{leb-false}
use Rattle.std.proofs.lemmas.List.{length-append, length-map}
use Rattle.std.proofs.lemmas.List.Elements.{Contains-get_or}
use Rattle.bril_tree.specs.declared.numbered.Instr.{Instr}
use Rattle.bril_tree.specs.declared.numbered_function.Func.{Func}
use Rattle.bril_tree.specs.Operand.{dest_of}
use Rattle.bril_tree.proofs.Elements.{All-at}
use Rattle.ssa_build.specs.code.Names.{or_none, variables_written}
use Rattle.bril_tree.specs.declared.function_tree.Item.{Item}
use Rattle.ssa_build.specs.code.Sweep.{AreGets, IsLaidCode, layout_of, part, row_in}
use Rattle.ssa_build.specs.sources.Sources.{AreRepresentatives}
use Rattle.ssa_search.specs.gets.Wants.{AreWantsOf, WantsView, gets_of, row_of}
use Rattle.ssa_search.specs.renaming.Gets.{AreGetsOf}
use Rattle.ssa_search.specs.declared.renaming.now.WantedGet.{WantedGet}

-- a part that ends where it begins, or before, has nothing
no-part : (list : List WantedGet) (a b : ℕ) → b ≤ a → slice_range list a b ≡ []
no-part list a b less = let none : b - a ≡ 0 = omega arith in ap (λ n. take n (drop a list)) none

same-part : (list : List WantedGet) (a b : ℕ) → b ≤ length list → part list a b ≡ slice_range list a b
same-part list a b within = by (nat_le a b) (nat_le b (length list)) refl refl
  where
    by : (p q : Bool) → nat_le a b ≡ p → nat_le b (length list) ≡ q → cond (p && q) (slice_range list a b) [] ≡ slice_range list a b
    by true true e f = refl
    by true false e f = absurd (let h = leb-false b (length list) f in omega (arith, h, within))
    by false q e f = sym (no-part list a b (let h = leb-false a b e in omega (arith, h)))

module _ (F : Func) (v : WantsView) (starts : List ℕ) (list : List WantedGet) (s : starts ≡ v.starts) (l : list ≡ v.list) (within : (k : ℕ) → slice_index starts k ≤ length v.list) where
  pub same-row : (k : ℕ) → row_in v.starts v.list k ≡ row_of v k
  same-row k =
      same-part v.list (slice_index v.starts k) (slice_index v.starts (k + 1)) (subst (λ (x : List ℕ). slice_index x (k + 1) ≤ length v.list) s (within (k + 1)))
      ∙ ap (λ n. slice_range v.list (slice_index v.starts k) (slice_index v.starts n)) (add-one k)

  module _ (is : AreWantsOf F v) where
    pub are-gets : (k : ℕ) → AreGetsOf (gets_of v k) (row_in v.starts v.list k)
    are-gets k = subst (AreGetsOf (gets_of v k)) (sym (same-row k)) (is.rows k)

    located : (k : ℕ) → All (λ (get : WantedGet). get.location < 2 * length F.vars) (row_of v k)
    located k i d low =
        let get = get_or (row_of v k) i d in
        let t = is.listed k get (Contains-get_or (row_of v k) i d low) in
        All-at (λ (g : WantedGet). g.location < 2 * length F.vars) v.list t.0 get is.locations t.1

    pub located-in : (k : ℕ) → All (λ (get : WantedGet). get.location < 2 * length F.vars) (row_in starts list k)
    located-in k =
        subst (λ (x : List ℕ). All (λ (get : WantedGet). get.location < 2 * length F.vars) (row_in x list k)) (sym s)
        (subst (λ (x : List WantedGet). All (λ (get : WantedGet). get.location < 2 * length F.vars) (row_in v.starts x k)) (sym l)
        (subst (All (λ (get : WantedGet). get.location < 2 * length F.vars)) (sym (same-row k)) (located k)))

-- as many definitions as there are items and wanted `get`s
pub written-long : (code : List Instr) (list : List WantedGet) → length (variables_written code list) ≡ length code + length list
written-long code list =
    let h = length-append (map (λ item. or_none (dest_of item)) code) (map (λ (get : WantedGet). get.location / 2) list) in
    let a = length-map code (λ item. or_none (dest_of item)) in
    let b = length-map list (λ (get : WantedGet). get.location / 2) in
    omega (arith, h, a, b)

-- what stands for definitions, in a slice
pub solved-in : (F : Func) (v : WantsView) (items find : List ℕ) → find ≡ items → AreRepresentatives F.code F.args (gets_of v) (length items) (λ d. slice_index items d) → AreRepresentatives F.code F.args (gets_of v) (length find) (λ d. slice_index find d)
solved-in F v items find same solved = subst (λ (l : List ℕ). AreRepresentatives F.code F.args (gets_of v) (length l) (λ d. slice_index l d)) (sym same) solved

-- code that is laid out by the rows of wanted `get`s in slices
pub laid-in : (F : Func) (v : WantsView) (sites : List (Option (List ℕ))) (names : List (List ℕ)) (find : List ℕ) (rows : List (List ℕ)) (starts : List ℕ) (list : List WantedGet) → starts ≡ v.starts → list ≡ v.list → (items made : List Item)
    → AreGets F sites (layout_of F.vars names find v.starts v.list rows) (gets_of v)
    → (AreGets F sites (layout_of F.vars names find starts list rows) (gets_of v) → IsLaidCode F sites (layout_of F.vars names find starts list rows) (gets_of v) items made) → IsLaidCode F sites (layout_of F.vars names find v.starts v.list rows) (gets_of v) items made
laid-in F v sites names find rows starts list s l items made gets laid =
    subst (λ (x : List ℕ). IsLaidCode F sites (layout_of F.vars names find x v.list rows) (gets_of v) items made) s
    (subst (λ (x : List WantedGet). IsLaidCode F sites (layout_of F.vars names find starts x rows) (gets_of v) items made) l
    (laid (subst (λ (x : List WantedGet). AreGets F sites (layout_of F.vars names find starts x rows) (gets_of v)) (sym l) (subst (λ (x : List ℕ). AreGets F sites (layout_of F.vars names find x v.list rows) (gets_of v)) (sym s) gets))))
