-- Laid code has the labels of its function, and names only functions and labels that are there.
use Rattle.std.proofs.Common.{◌≡◌, ℕ, ◌+◌, Bool, true, false, List, [], ◌∷◌, ◌++◌, length, map, Option, Some, None, refl, sym, ap, subst, ◌∙◌, inl, inr}
use Rattle.std.specs.Prelude.{slice_get}
use Rattle.std.specs.List.{cons_option, filter_map}
use Rattle.std.proofs.lemmas.List.{append-nil}
use Rattle.std.proofs.lemmas.List.Elements.{filter_map-append}
use Rattle.bril_names.specs.Faults.{Differ, IsKnown, IsSound, IsSoundEdit, SameHead, label_of, labels_of}
use Rattle.bril_names.proofs.Naming.{AreAmong-none}
use Rattle.bril_tree.specs.declared.function_tree.FuncTree.{FuncTree}
use Rattle.bril_tree.specs.declared.function_tree.Item.{Item}
use Rattle.bril_tree.specs.declared.function_tree.Item.TheVariants as item
use Rattle.bril_tree.specs.declared.numbered_function.Func.{Func}
use Rattle.bril_tree.specs.declared.operation.Op.TheVariants as op
use Rattle.bril_tree.specs.Membership.{In}
use Rattle.bril_tree.specs.Numbered.{function_tree}
use Rattle.bril_tree.proofs.Elements.{get_in, in_get}
use Rattle.pass_edit_laws.proofs.lemmas.plan.Elements.{all_in, in_all}
use Rattle.ssa_build.specs.code.Items.{laid_item, name_in, read_name}
use Rattle.ssa_build.specs.code.Sweep.{item_args, laid_items, reached_at}
use Rattle.ssa_build.specs.tree.Made.{IsLaidFunction}
use Rattle.ssa_form_laws.proofs.lemmas.form.Fronts.{AtLabel, Falls, InFront, Leaves, in-front}
use Rattle.ssa_form_laws.proofs.lemmas.form.Others.{own-label_of}
use Rattle.ssa_form_laws.proofs.lemmas.form.Points.{Front, Home, Point, code-made, front, item-there, now, own, piece, point, tree_in}

-- ---- labels

-- items of which none is a label
no-labels : (xs : List Item) → ((y : Item) → In y xs → label_of y ≡ None) → labels_of xs ≡ []
no-labels [] none = refl
no-labels (y ∷ ys) none = ap (λ o. cons_option o (filter_map label_of ys)) (none y (inl refl)) ∙ no-labels ys (λ z i. none z (inr i))

module _ (b : ℕ → List Item) (f : ℕ → Item → Item) (none : (i : ℕ) (y : Item) → In y (b i) → label_of y ≡ None) (same : (i : ℕ) (t : Item) → label_of (f i t) ≡ label_of t) where
  labels-laid : (k : ℕ) (xs : List Item) → labels_of (laid_items (piece b f) k xs) ≡ labels_of xs
  labels-laid k [] = refl
  labels-laid k (x ∷ xs) =
      filter_map-append label_of (b k ++ f k x ∷ []) (laid_items (piece b f) (k + 1) xs)
      ∙ ap (λ l. l ++ labels_of (laid_items (piece b f) (k + 1) xs)) (filter_map-append label_of (b k) (f k x ∷ []) ∙ ap (λ l. l ++ labels_of (f k x ∷ [])) (no-labels (b k) (none k)) ∙ ap (λ o. cons_option o []) (same k x))
      ∙ ap (λ l. cons_option (label_of x) [] ++ l) (labels-laid (k + 1) xs) ∙ joined (label_of x) (labels_of xs)
    where
      joined : (o : Option (List ℕ)) (l : List (List ℕ)) → cons_option o [] ++ l ≡ cons_option o l
      joined None l = refl
      joined (Some n) l = refl

-- ---- names

own-known : (functions labels : List (List ℕ)) (r : Bool) (args : List (List ℕ)) (w : List ℕ) (t : Item) → IsKnown functions labels t → IsKnown functions labels (laid_item r args w t)
own-known functions labels true args w (item.Label l) h = h
own-known functions labels false args w (item.Label l) h = h
own-known functions labels true args w (item.Const dest ty value) h = h
own-known functions labels false args w (item.Const dest ty value) h = h
own-known functions labels false args w (item.Act dest o old fns ls) h = (AreAmong-none functions, AreAmong-none labels)
own-known functions labels true args w (item.Act dest op.Get old fns ls) h = (AreAmong-none functions, AreAmong-none labels)
own-known functions labels true args w (item.Act dest op.Set old fns ls) h = (AreAmong-none functions, AreAmong-none labels)
own-known functions labels true args w (item.Act dest _ old fns ls) h = h

module _ (fs : List (List ℕ)) (F : Func) (g : FuncTree) (x : IsLaidFunction F (function_tree fs F) g) where
  -- what is put in is no label
  front-no_label : (i : ℕ) (y : Item) → In y (front fs F g x i) → label_of y ≡ None
  front-no_label i y among = by (in-front fs F g x i y among)
    where
      by : InFront fs F g x i y → label_of y ≡ None
      by (AtLabel k e s) = ap label_of s.is
      by (Falls e p) = ap label_of p.is
      by (Leaves k e p) = ap label_of p.is

  -- and names no function and no label
  front-known : (functions labels : List (List ℕ)) (i : ℕ) (y : Item) → In y (front fs F g x i) → IsKnown functions labels y
  front-known functions labels i y among = by (in-front fs F g x i y among)
    where
      by : InFront fs F g x i y → IsKnown functions labels y
      by (AtLabel k e s) = subst (IsKnown functions labels) (sym s.is) (AreAmong-none functions, AreAmong-none labels)
      by (Falls e p) = subst (IsKnown functions labels) (sym p.is) (AreAmong-none functions, AreAmong-none labels)
      by (Leaves k e p) = subst (IsKnown functions labels) (sym p.is) (AreAmong-none functions, AreAmong-none labels)

  pub labels-same : labels_of (function_tree fs F).code ≡ labels_of g.code
  labels-same =
      sym (ap labels_of (code-made fs F g x ∙ x.laid.is)
      ∙ filter_map-append label_of (laid_items (piece (front fs F g x) (own fs F g x)) 0 (function_tree fs F).code) (front fs F g x (length F.code))
      ∙ ap (λ l. labels_of (laid_items (piece (front fs F g x) (own fs F g x)) 0 (function_tree fs F).code) ++ l) (no-labels (front fs F g x (length F.code)) (front-no_label (length F.code)))
      ∙ append-nil (labels_of (laid_items (piece (front fs F g x) (own fs F g x)) 0 (function_tree fs F).code))
      ∙ labels-laid (front fs F g x) (own fs F g x) front-no_label (own-label_of fs F g x) 0 (function_tree fs F).code)

  pub same-head : SameHead (function_tree fs F) g
  same-head = record { name = sym (ap (λ (h : FuncTree). h.name) x.tree); args = sym (ap (λ (h : FuncTree). h.args) x.tree); ret = sym (ap (λ (h : FuncTree). h.ret) x.tree) }

  -- so it can be numbered
  pub sound-edit : (functions : List (List ℕ)) → IsSound functions (function_tree fs F) → IsSoundEdit functions (function_tree fs F) g
  sound-edit functions s = record {
    head = same-head;
    labels = subst (λ l. Differ l) labels-same s.labels;
    known = in_all (IsKnown functions (labels_of g.code)) g.code (λ y among. let at = in_get y g.code among in subst (λ l. IsKnown functions l y) labels-same (by y at.0 (point fs F g x at.0 y at.1)));
  }
    where
      by : (y : Item) (j : ℕ) → Point fs F g x j y → IsKnown functions (labels_of (function_tree fs F).code) y
      by y j (Home i b at there is) =
          subst (IsKnown functions (labels_of (function_tree fs F).code)) (sym is)
          (own-known functions (labels_of (function_tree fs F).code) (reached_at (slice_get x.graph.sites i)) (map (read_name x.names x.find (now fs F g x i)) (item_args (slice_get F.code i))) (name_in x.names (F.args + i)) (tree_in fs F b)
          (all_in (IsKnown functions (labels_of (function_tree fs F).code)) (function_tree fs F).code s.known (tree_in fs F b) (get_in (function_tree fs F).code i (tree_in fs F b) (item-there fs F g x i b at))))
      by y j (Front i n low at there) = front-known functions (labels_of (function_tree fs F).code) i y (get_in (front fs F g x i) n y at)
