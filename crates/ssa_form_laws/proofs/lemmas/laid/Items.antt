-- What stands at the points of a laid function: its items under the names of what the tables tell, its `get`s and its `set`s.
use Rattle.std.proofs.Common.{◌≡◌, ℕ, suc, ◌+◌, ◌*◌, ◌/◌, ◌<◌, ◌≤◌, true, false, List, [], ◌∷◌, length, map, Option, Some, None, is_some, refl, sym, ap, ◌∙◌, inl, inr, ⊎_elim, arith}
use Rattle.std.specs.Prelude.{slice_get}
use Rattle.std.specs.Option.{option_map}
use Rattle.std.proofs.lemmas.Bool.{cases_lt}
use Rattle.std.proofs.lemmas.List.{length-map}
use Rattle.std.proofs.lemmas.Option.{slice_get-map, slice_get_within}
use Rattle.bril_tree.specs.declared.function_tree.FuncTree.{FuncTree}
use Rattle.bril_tree.specs.declared.function_tree.Item.{Item}
use Rattle.bril_tree.specs.declared.function_tree.Item.TheVariants as item
use Rattle.bril_tree.specs.declared.numbered.Instr.{Instr}
use Rattle.bril_tree.specs.declared.numbered.Instr.TheVariants.{Label, Const, Act}
use Rattle.bril_tree.specs.declared.numbered_function.Func.{Func}
use Rattle.bril_tree.specs.declared.operation.Op.TheVariants as op
use Rattle.bril_tree.specs.declared.program.Prog.{Prog}
use Rattle.bril_tree.specs.declared.tree.Tree.{Tree}
use Rattle.bril_tree.specs.declared.types.Ty.{Ty}
use Rattle.bril_tree.specs.Accepted.{IsAccepted, IsAcceptedFunction}
use Rattle.bril_tree.specs.Membership.{In}
use Rattle.bril_tree.specs.Numbered.{Numbered, dest_tree, function_tree, item_tree, named, names_of_functions, nop_item, tree_at, variable_names}
use Rattle.bril_tree.specs.Operand.{Location, Variable, reads_of}
use Rattle.bril_tree.specs.Shape.{shape_fault_of}
use Rattle.bril_tree.specs.Sites.{AreSitesSound}
use Rattle.bril_tree.specs.Typing.{variable_type}
use Rattle.bril_tree.specs.Walk.{IsReached}
use Rattle.bril_tree.proofs.Acceptance.{accepted_function, shaped_function}
use Rattle.bril_tree.proofs.Branches.{walk_within}
use Rattle.bril_tree.proofs.Elements.{get_in, none_past}
use Rattle.bril_tree.proofs.Members.{in_map}
use Rattle.bril_tree.proofs.Trees.{numbered-tree_of, tree_at-function}
use Rattle.flow_graph.specs.Location.{number_of}
use Rattle.pass_edit_laws.specs.plan.Spliced.{position_of, start_of}
use Rattle.ssa_build.specs.code.Items.{dest_with, laid_item, moved_item, name_in, read_name}
use Rattle.ssa_build.specs.code.Sweep.{item_args, kept_at, now_at}
use Rattle.ssa_laws.specs.inserted_copies.Inserted.{is_copy, renamed, renamed_dest, renamed_point}
use Rattle.ssa_laws.specs.layout.Laid.{Setting, get_tree, set_tree}
use Rattle.ssa_build.proofs.lemmas.operands.Accepted.{accepted-tabled}
use Rattle.ssa_search.specs.declared.renaming.now.WantedGet.{WantedGet}
use Rattle.ssa_laws.proofs.lemmas.reaching_definitions.Tabled.{few}
use Rattle.ssa_laws.specs.reaching_definitions.Laws.{IsTabled}
use Rattle.ssa_build.specs.tree.Made.{IsLaidFunction}
use Rattle.ssa_build.specs.tree.Standing.{nothing}
use Rattle.ssa_form_laws.proofs.lemmas.laid.Kept.{G, kept-is, kept-only, l, m, n, find}
use Rattle.ssa_form_laws.proofs.lemmas.laid.Leaving.{reached-told}
use Rattle.ssa_form_laws.proofs.lemmas.laid.Names.{name-there}
use Rattle.ssa_form_laws.proofs.lemmas.laid.Parts.{first_in, home_in, name_or_none}
use Rattle.ssa_form_laws.proofs.lemmas.laid.Placing.{T, before, first-is, get-stands, home-is, set-stands, stand}
use Rattle.ssa_form_laws.proofs.lemmas.laid.Told.{Fallen, Left, SetHere, Started, array-into, get-low, into-found, into-low, read-told, set-here, stands-told, told-low}
use Rattle.ssa_form_laws.proofs.lemmas.laid.Typed.{live-typed, number-type}

map-same : (r q : ℕ → List ℕ) (args : List ℕ) → ((v : ℕ) → In v args → r v ≡ q v) → map r args ≡ map q args
map-same r q [] same = refl
map-same r q (v ∷ args) same = let here = same v (inl refl) in let rest = map-same r q args (λ u i. same u (inr i)) in λ j. here j ∷ rest j

-- a destination under another name
dest-same : (V : List (List ℕ)) (d : Option ℕ) (ty : Option Ty) (w w' : List ℕ) → w ≡ w' → renamed_dest d ty w ≡ dest_with w' (dest_tree V d ty)
dest-same V None ty w w' e = refl
dest-same V (Some v) None w w' e = refl
dest-same V (Some v) (Some ty) w w' e = λ j. Some (record { name = e j; ty = ty })

-- a renamed item is the tree of the item under these names
moved-same : (fs V ls : List (List ℕ)) (r q : ℕ → List ℕ) (w w' : List ℕ) (a : Instr) → is_copy (Some a) ≡ false → ((v : ℕ) → In (Variable v) (reads_of a) → r v ≡ q v) → w ≡ w' → renamed fs ls r w a ≡ moved_item (map q (item_args (Some a))) w' (item_tree fs V ls a)
moved-same fs V ls r q w w' (Label k) c same e = refl
moved-same fs V ls r q w w' (Const d ty v) c same e = λ j. item.Const (e j) ty v
moved-same fs V ls r q w w' (Act d ty op.Get args fns ms) c same e = absurd cc
moved-same fs V ls r q w w' (Act d ty op.Set args fns ms) c same e = absurd cc
moved-same fs V ls r q w w' (Act d ty o args fns ms) c same e =
    let dest = dest-same V d ty w w' e in
    let reads = map-same r q args (λ v i. same v (in_map Variable v args i)) in
    λ j. item.Act (dest j) o (reads j) (map (named fs) fns) (map (named ls) ms)

-- in place of a copy nothing stands
gone-same : (fs V ls args : List (List ℕ)) (w : List ℕ) (a : Instr) → is_copy (Some a) ≡ true → moved_item args w (item_tree fs V ls a) ≡ nop_item
gone-same fs V ls args w (Label k) c = absurd cc
gone-same fs V ls args w (Const d ty v) c = absurd cc
gone-same fs V ls args w (Act d ty op.Get old fns ms) c = refl
gone-same fs V ls args w (Act d ty op.Set old fns ms) c = refl
gone-same fs V ls args w (Act d ty _ old fns ms) c = absurd (let e : false ≡ true = c in cc)

module _ (P Q : Prog) (tree : Tree) (accepted : IsAccepted P) (numbered : Numbered tree Q) (f : ℕ) (F : Func) (there : slice_get P.funcs f ≡ Some F) (g : FuncTree) (made : slice_get tree.funcs f ≡ Some g) (x : IsLaidFunction F (function_tree (names_of_functions P.funcs) F) g) where
  abbrev pub fs : List (List ℕ)
  fs = names_of_functions P.funcs

  abbrev pub function : FuncTree
  function = function_tree fs F

  pub facts : IsAcceptedFunction P F
  facts = accepted_function P f F accepted there

  pub shaped : shape_fault_of (is_some F.ret) F.code ≡ None
  shaped = shaped_function P F facts

  pub sound : AreSitesSound F.code
  sound = facts.sites

  pub tabled : IsTabled F.code F.args (G F function g x)
  tabled = accepted-tabled P accepted f F there (G F function g x) x.are_wants.wanted

  -- a `get` that stays has a type
  pub typed : (k : ℕ) (get : WantedGet) → In get (kept_at (l F function g x) k) → (ty : Ty) × (variable_type F.vars (get.location / 2) ≡ Some ty)
  typed k get i =
      let h = kept-only F function g x k get i in
      let t = live-typed P F facts k h.location (x.are_wants.wanted.live k get.definition h.location h.wanted) in
      (t.0, ap (λ n. variable_type F.vars (n / 2)) h.number ∙ number-type F h.location ∙ t.1)

  pub at-made : (j : ℕ) → tree_at Q f j ≡ slice_get x.made j
  at-made j =
      tree_at-function Q f j g (ap (λ (t : Tree). slice_get t.funcs f) (sym (numbered-tree_of tree Q numbered)) ∙ made)
      ∙ ap (λ (t : FuncTree). slice_get t.code j) x.tree

  abbrev view-before : ℕ → List Item
  view-before i = before F fs g x typed i

  abbrev array : ℕ → List ℕ
  array i = now_at x.laid.nows i

  abbrev called : ℕ → List ℕ
  called y = (T F fs g x typed).name y

  pub within : (i : ℕ) → IsReached F.code i → i ≤ length F.code
  within i r = let h = walk_within F.code r.walk r.is in let e = r.ends in omega (arith, h, e)

  -- ---- items

  item-there : (i : ℕ) (a : Instr) → IsReached F.code i → slice_get F.code i ≡ Some a → tree_at Q f (home_in P Q f (Some F) (T F fs g x typed) i) ≡ Some (moved_item (map (read_name x.names x.find (array i)) (item_args (Some a))) (name_in x.names (F.args + i)) (item_tree fs (variable_names F.vars) F.labels a))
  item-there i a r at =
      ap (tree_at Q f) (home-is F fs g x typed P Q f i) ∙ at-made (position_of view-before nothing i)
      ∙ (stand F fs g x typed).there i (item_tree fs (variable_names F.vars) F.labels a) (slice_get-map (item_tree fs (variable_names F.vars) F.labels) F.code i ∙ ap (option_map (item_tree fs (variable_names F.vars) F.labels)) at)
      ∙ ap (λ b. Some (laid_item b (map (read_name x.names x.find (array i)) (item_args (slice_get F.code i))) (name_in x.names (F.args + i)) (item_tree fs (variable_names F.vars) F.labels a))) (reached-told F function g x sound i r)
      ∙ ap (λ o. Some (moved_item (map (read_name x.names x.find (array i)) (item_args o)) (name_in x.names (F.args + i)) (item_tree fs (variable_names F.vars) F.labels a))) at

  nothing-there : (i : ℕ) → IsReached F.code i → slice_get F.code i ≡ None → tree_at Q f (home_in P Q f (Some F) (T F fs g x typed) i) ≡ None
  nothing-there i r none =
      let end : i ≡ length function.code = past in
      ap (tree_at Q f) (home-is F fs g x typed P Q f i) ∙ at-made (position_of view-before nothing i) ∙ ap (λ k. slice_get x.made (position_of view-before nothing k)) end ∙ (stand F fs g x typed).end
    where
      past : i ≡ length function.code
      past = ⊎_elim (λ less. absurd (none_past F.code i less none)) (λ high. let low = within i r in let long = length-map F.code (item_tree fs (variable_names F.vars) F.labels) in omega (arith, high, low, long)) (cases_lt i (length F.code))

  -- under the name of what the tables tell
  read-same : (i v : ℕ) (a : Instr) → IsReached F.code i → slice_get F.code i ≡ Some a → In (Variable v) (reads_of a) → name_or_none P Q f (Some F) (T F fs g x typed) ((m F function g x).into i (Variable v)) ≡ read_name x.names x.find (array i) v
  read-same i v a r at reads =
      let z = read-told F function g x shaped sound tabled i v a r at reads in
      let new = into-found F function g x shaped sound tabled i z.0 (Variable v) z.2 z.1 in
      let stood = stands-told F function g x shaped sound tabled (λ b. (n F function g x).into i b) (array i) (Variable v) z.0 (2 * v) (array-into F function g x shaped sound tabled i (within i r)) z.1 refl in
      ap (name_or_none P Q f (Some F) (T F fs g x typed)) new ∙ sym (name-there F function g x (find F function g x z.0) (into-low F function g x shaped sound tabled i z.0 (Variable v) z.1)) ∙ ap (name_in x.names) (sym stood)

  written-name : (i : ℕ) → i < length F.code → called (F.args + i) ≡ name_in x.names (F.args + i)
  written-name i low = let long = x.long in sym (name-there F function g x (F.args + i) (omega (arith, long, low)))

  abbrev read-by : ℕ → ℕ → List ℕ
  read-by i v = name_or_none P Q f (Some F) (T F fs g x typed) ((m F function g x).into i (Variable v))

  pub same-at : (i : ℕ) → IsReached F.code i → is_copy (slice_get F.code i) ≡ false → renamed_point fs (λ v. name_or_none P Q f (Some F) (T F fs g x typed) ((T F fs g x typed).table.into i (Variable v))) ((T F fs g x typed).name ((T F fs g x typed).table.writes i)) (Some F) i ≡ tree_at Q f (home_in P Q f (Some F) (T F fs g x typed) i)
  same-at i r c = by (slice_get F.code i) refl c
    where
      by : (o : Option Instr) → slice_get F.code i ≡ o → is_copy o ≡ false → renamed_point fs (read-by i) (called (F.args + i)) (Some F) i ≡ tree_at Q f (home_in P Q f (Some F) (T F fs g x typed) i)
      by None at copy = ap (option_map (renamed fs F.labels (read-by i) (called (F.args + i)))) at ∙ sym (nothing-there i r at)
      by (Some a) at copy =
          ap (option_map (renamed fs F.labels (read-by i) (called (F.args + i)))) at
          ∙ ap Some (moved-same fs (variable_names F.vars) F.labels (read-by i) (read_name x.names x.find (array i)) (called (F.args + i)) (name_in x.names (F.args + i)) a copy (λ v reads. read-same i v a r at reads) (written-name i (slice_get_within F.code i a at)))
          ∙ sym (item-there i a r at)

  pub gone-at : (i : ℕ) → IsReached F.code i → is_copy (slice_get F.code i) ≡ true → tree_at Q f (home_in P Q f (Some F) (T F fs g x typed) i) ≡ Some nop_item
  gone-at i r c = by (slice_get F.code i) refl c
    where
      by : (o : Option Instr) → slice_get F.code i ≡ o → is_copy o ≡ true → tree_at Q f (home_in P Q f (Some F) (T F fs g x typed) i) ≡ Some nop_item
      by None at copy = absurd cc
      by (Some a) at copy = item-there i a r at ∙ ap Some (gone-same fs (variable_names F.vars) F.labels (map (read_name x.names x.find (array i)) (item_args (Some a))) (name_in x.names (F.args + i)) a copy)

  -- ---- `get`s and `set`s

  -- a `get` before a point, with the type of its definition's location
  pub record GotAt (i t y : ℕ) : Type 0 where
    pub label : ℕ
    pub is : i ≡ suc label
    pub location : Location
    pub wanted : G F function g x label location ≡ Some y
    pub ty : Ty
    pub has : variable_type F.vars (number_of location / 2) ≡ Some ty
    pub at : tree_at Q f (first_in P Q f (Some F) (T F fs g x typed) i + t) ≡ Some (get_tree ((T F fs g x typed).name y) ty)

  pub got-at : (i t y : ℕ) → IsReached F.code i → slice_get ((T F fs g x typed).gets i) t ≡ Some y → GotAt i t y
  got-at i t y r at =
      let s = get-stands F fs g x typed i t y (within i r) at in
      let k = kept-only F function g x s.label s.get s.among in
      let wanted : G F function g x s.label k.location ≡ Some y = k.wanted ∙ ap Some s.definition in
      record {
        label = s.label;
        is = s.is;
        location = k.location;
        wanted = wanted;
        ty = s.ty;
        has = ap (λ n. variable_type F.vars (n / 2)) (sym k.number) ∙ s.has;
        at = ap (λ p. tree_at Q f (p + t)) (first-is F fs g x typed P Q f i) ∙ at-made (start_of view-before nothing i + t) ∙ s.at
            ∙ ap (λ w. Some (get_tree w s.ty)) (name-there F function g x y (get-low F function g x shaped sound tabled s.label y k.location wanted));
      }

  -- the definitions of a `set` have names in the list
  set-names : (i : ℕ) (s : Setting) → SetHere F function g x shaped sound tabled i s → (s.get < length x.find) × (s.from < length x.find)
  set-names i s (Started a z e got told from) =
      let low = few F.args z (a, told) in
      let long = x.long in
      (get-low F function g x shaped sound tabled 0 s.get a (kept-is F function g x (G F function g x 0 a) s.get got).0, omega (arith, low, long, from))
  set-names i s (Fallen a p z e r got told from) =
      let low = told-low F function g x shaped sound tabled (suc p) z a told in
      (get-low F function g x shaped sound tabled (suc p) s.get a (kept-is F function g x (G F function g x (suc p) a) s.get got).0, omega (arith, low, from))
  set-names i s (Left a k z r leaves got none told from) =
      let low = into-low F function g x shaped sound tabled i z a told in
      (get-low F function g x shaped sound tabled k s.get a (kept-is F function g x (G F function g x k a) s.get got).0, omega (arith, low, from))

  pub put-at : (i t : ℕ) (s : Setting) → IsReached F.code i → slice_get ((T F fs g x typed).sets i) t ≡ Some s → tree_at Q f (first_in P Q f (Some F) (T F fs g x typed) i + length ((T F fs g x typed).gets i) + t) ≡ Some (set_tree ((T F fs g x typed).name s.get) ((T F fs g x typed).name s.from))
  put-at i t s r at =
      let names = set-names i s (set-here F function g x shaped sound tabled i s (within i r) (get_in ((T F fs g x typed).sets i) t s at)) in
      let a = name-there F function g x s.get names.0 in
      let b = name-there F function g x s.from names.1 in
      ap (λ p. tree_at Q f (p + length ((T F fs g x typed).gets i) + t)) (first-is F fs g x typed P Q f i) ∙ at-made (start_of view-before nothing i + length ((T F fs g x typed).gets i) + t) ∙ set-stands F fs g x typed i t s (within i r) at
      ∙ (λ j. Some (set_tree (a j) (b j)))
