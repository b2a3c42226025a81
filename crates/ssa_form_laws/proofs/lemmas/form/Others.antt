-- Beside `get`s and `set`s laid code has as many items as its function has in all: only what is put in is a `get` or a `set`.
use Rattle.std.proofs.Common.{◌≡◌, ℕ, ◌+◌, Bool, true, false, cond, not, List, [], ◌∷◌, ◌++◌, length, map, refl, ap, ◌∙◌, inl, inr, arith}
use Rattle.std.specs.Prelude.{slice_get}
use Rattle.std.proofs.lemmas.List.Sums.{sum_by-append, sum_by-cons}
use Rattle.bril_names.specs.Faults.{label_of}
use Rattle.bril_tree.specs.declared.function_tree.FuncTree.{FuncTree}
use Rattle.bril_tree.specs.declared.function_tree.Item.{Item}
use Rattle.bril_tree.specs.declared.function_tree.Item.TheVariants as item
use Rattle.bril_tree.specs.declared.numbered_function.Func.{Func}
use Rattle.bril_tree.specs.declared.operation.Op.TheVariants as op
use Rattle.bril_tree.specs.Membership.{In}
use Rattle.bril_tree.specs.Numbered.{function_tree}
use Rattle.ssa_build.specs.code.Items.{laid_item, name_in, read_name}
use Rattle.ssa_build.specs.code.Sweep.{item_args, laid_items, reached_at}
use Rattle.ssa_build.specs.tree.Made.{IsLaidFunction}
use Rattle.ssa_laws.specs.layout.Form.{IsGetOf}
use Rattle.ssa_form_laws.specs.form.Form.{is_get_or_set, other_items}
use Rattle.ssa_form_laws.proofs.lemmas.form.Fronts.{AtLabel, Falls, InFront, Leaves, in-front}
use Rattle.ssa_form_laws.proofs.lemmas.form.Points.{code-made, front, now, own, piece}

-- what stands in place of an item has its label, and is no `get` and no `set`: those of the function became `nop`s
laid-plain : (r : Bool) (args : List (List ℕ)) (w : List ℕ) (t : Item) → (label_of (laid_item r args w t) ≡ label_of t) × (is_get_or_set (laid_item r args w t) ≡ false)
laid-plain true args w (item.Label l) = (refl, refl)
laid-plain false args w (item.Label l) = (refl, refl)
laid-plain true args w (item.Const dest ty value) = (refl, refl)
laid-plain false args w (item.Const dest ty value) = (refl, refl)
laid-plain false args w (item.Act dest o old fns ls) = (refl, refl)
laid-plain true args w (item.Act dest op.Get old fns ls) = (refl, refl)
laid-plain true args w (item.Act dest op.Set old fns ls) = (refl, refl)
laid-plain true args w (item.Act dest _ old fns ls) = (refl, refl)

-- a `get` of any name is one of them
pub get-counts : (y : Item) (name : List ℕ) → IsGetOf name y → is_get_or_set y ≡ true
get-counts (item.Label l) name h = absurd h
get-counts (item.Const dest ty value) name h = absurd h
get-counts (item.Act dest op.Get args fns ls) name h = refl
get-counts (item.Act dest _ args fns ls) name h = absurd h

-- how much an item counts
abbrev weight : Item → ℕ
weight y = cond (not (is_get_or_set y)) 1 0

-- `get`s and `set`s alone
none-other : (xs : List Item) → ((y : Item) → In y xs → is_get_or_set y ≡ true) → other_items xs ≡ 0
none-other [] all = refl
none-other (y ∷ ys) all =
    let first : weight y ≡ 0 = ap (λ b. cond (not b) 1 0) (all y (inl refl)) in
    let rest = none-other ys (λ z i. all z (inr i)) in
    let s : other_items (y ∷ ys) ≡ weight y + other_items ys = sum_by-cons weight y ys in
    omega arith

module _ (b : ℕ → List Item) (f : ℕ → Item → Item) (put : (i : ℕ) (y : Item) → In y (b i) → is_get_or_set y ≡ true) (other : (i : ℕ) (t : Item) → is_get_or_set (f i t) ≡ false) where
  others-laid : (k : ℕ) (xs : List Item) → other_items (laid_items (piece b f) k xs) ≡ length xs
  others-laid k [] = refl
  others-laid k (x ∷ xs) =
      let all : other_items (laid_items (piece b f) k (x ∷ xs)) ≡ other_items (b k ++ f k x ∷ []) + other_items (laid_items (piece b f) (k + 1) xs) = sum_by-append weight (b k ++ f k x ∷ []) (laid_items (piece b f) (k + 1) xs) in
      let mine : other_items (b k ++ f k x ∷ []) ≡ other_items (b k) + other_items (f k x ∷ []) = sum_by-append weight (b k) (f k x ∷ []) in
      let ahead = none-other (b k) (put k) in
      let counts : weight (f k x) ≡ 1 = ap (λ b. cond (not b) 1 0) (other k x) in
      let one : other_items (f k x ∷ []) ≡ weight (f k x) + 0 = sum_by-cons weight (f k x) [] in
      let rest = others-laid (k + 1) xs in
      omega arith

module _ (fs : List (List ℕ)) (F : Func) (g : FuncTree) (x : IsLaidFunction F (function_tree fs F) g) where
  own-plain : (i : ℕ) (t : Item) → (label_of (own fs F g x i t) ≡ label_of t) × (is_get_or_set (own fs F g x i t) ≡ false)
  own-plain i t = laid-plain (reached_at (slice_get x.graph.sites i)) (map (read_name x.names x.find (now fs F g x i)) (item_args (slice_get F.code i))) (name_in x.names (F.args + i)) t

  pub own-label_of : (i : ℕ) (t : Item) → label_of (own fs F g x i t) ≡ label_of t
  own-label_of i t = (own-plain i t).0

  pub own-other : (i : ℕ) (t : Item) → is_get_or_set (own fs F g x i t) ≡ false
  own-other i t = (own-plain i t).1

  -- what is put in is a `get` or a `set`
  front-put : (i : ℕ) (y : Item) → In y (front fs F g x i) → is_get_or_set y ≡ true
  front-put i y among = by (in-front fs F g x i y among)
    where
      by : InFront fs F g x i y → is_get_or_set y ≡ true
      by (AtLabel k e s) = ap is_get_or_set s.is
      by (Falls e p) = ap is_get_or_set p.is
      by (Leaves k e p) = ap is_get_or_set p.is

  pub items-same : other_items g.code ≡ length (function_tree fs F).code
  items-same =
      let made : other_items g.code ≡ other_items (laid_items (piece (front fs F g x) (own fs F g x)) 0 (function_tree fs F).code ++ front fs F g x (length F.code)) = ap other_items (code-made fs F g x ∙ x.laid.is) in
      let both : other_items (laid_items (piece (front fs F g x) (own fs F g x)) 0 (function_tree fs F).code ++ front fs F g x (length F.code)) ≡ other_items (laid_items (piece (front fs F g x) (own fs F g x)) 0 (function_tree fs F).code) + other_items (front fs F g x (length F.code)) =
      sum_by-append weight (laid_items (piece (front fs F g x) (own fs F g x)) 0 (function_tree fs F).code) (front fs F g x (length F.code)) in
      let end = none-other (front fs F g x (length F.code)) (front-put (length F.code)) in
      let all = others-laid (front fs F g x) (own fs F g x) front-put own-other 0 (function_tree fs F).code in
      omega arith
