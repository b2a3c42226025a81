-- Variables keep their types in a renaming: those of one new name have one type, and one of them is an argument or a destination
-- in the result where one of them was.
use Rattle.std.proofs.Common.{◌≡◌, ◌⊎◌, ℕ, ◌<◌, ◌≤◌, Bool, true, false, List, [], ◌∷◌, length, map, Option, Some, None, refl, sym, ap, subst, ◌∙◌, inl, inr, ⊎_elim, arith}
use Rattle.std.specs.Prelude.{slice_get, is_some}
use Rattle.std.proofs.lemmas.Bool.{cases_eq, cases_lt}
use Rattle.std.proofs.lemmas.List.{get_or-take, length-map, take-map}
use Rattle.std.proofs.lemmas.Option.{same_Some}
use Rattle.bril_tree.specs.declared.numbered.Instr.{Instr}
use Rattle.bril_tree.specs.declared.numbered.VarInfo.{VarInfo}
use Rattle.bril_tree.specs.declared.numbered_function.Func.{Func}
use Rattle.bril_tree.specs.declared.program.Prog.{Prog}
use Rattle.bril_tree.specs.Accepted.{IsAccepted}
use Rattle.bril_tree.specs.Assigned.{assigned_of, assigned_changed, assigns_at, newest_saved}
use Rattle.bril_tree.specs.Edge.{Branch, branches_at}
use Rattle.bril_tree.specs.FunctionForm.{type_assigned}
use Rattle.bril_tree.specs.Membership.{In}
use Rattle.bril_tree.specs.Numbered.{item_tree, named, names_in, names_of_functions, nop, tree_at, variable_names}
use Rattle.bril_tree.specs.Operand.{Location, Variable, dest_of}
use Rattle.bril_tree.specs.Sites.{Change, Opens, Closes, Keeps, change_of, without_newest}
use Rattle.bril_tree.specs.Step.{code_of, item_at, items_of}
use Rattle.bril_tree.specs.Typing.{variable_type}
use Rattle.bril_tree.specs.Walk.{IsWalk, end_of}
use Rattle.bril_tree.proofs.Acceptance.{accepted_function, shaped_at, typed_at, walks_of}
use Rattle.bril_tree.proofs.Assignments.{assigns-dest}
use Rattle.bril_tree.proofs.Branches.{branch_from}
use Rattle.bril_tree.proofs.Elements.{in_get, get_in, get_inside}
use Rattle.bril_tree.proofs.Liveness.{live_assigned}
use Rattle.bril_tree.proofs.Members.{in_append_cases, in_contains}
use Rattle.bril_tree.proofs.Trees.{nothing_at}
use Rattle.bril_tree.proofs.Typings.{IsDestination, first_type-is, some_type, type-assigned, type-assigned_own, type_of, typed_by, variable-has}
use Rattle.bril_names.specs.Range.{IsInRange}
use Rattle.bril_names.proofs.Functions.{Differ-variables}
use Rattle.bril_names.proofs.Naming.{one_number}
use Rattle.pass_edit_laws.specs.names.Named.{SameName}
use Rattle.pass_edit_laws.specs.names.Renaming.{renamed_tree}
use Rattle.pass_edit_laws.proofs.lemmas.names.Heads.{same_args}
use Rattle.pass_edit_laws.proofs.lemmas.names.Points.{found, found_under}
use Rattle.pass_edit_laws.proofs.lemmas.acceptance.Heads.{argument-typed, start-high}
use Rattle.pass_edit_laws.proofs.lemmas.acceptance.Staying.{dest-typed, same_destination}
use Rattle.variable_renaming.specs.Renamed.{IsRenaming, IsSelfCopy, new_name}
use Rattle.pass_edit_laws.proofs.lemmas.names.Renaming.{renamed-found, renamed-none}
use Rattle.variable_renaming.proofs.Refines.{names, sized, name-is, regular-tree, copy-nop, source-live, source-below}

module _ (P Q : Prog) (rename : ℕ → List ℕ → List ℕ) (t : IsRenaming P Q rename) (accepted : IsAccepted P) (f : ℕ) (F G : Func) (p : slice_get P.funcs f ≡ Some F) (q : slice_get Q.funcs f ≡ Some G) where
  abbrev pub fs : List (List ℕ)
  fs = names_of_functions P.funcs

  abbrev pub N : List (List ℕ)
  N = names P Q rename t f

  abbrev pub W : List (List ℕ)
  W = names_in (slice_get Q.funcs f)

  pub size-F : length N ≡ length F.vars
  size-F = sized P Q rename t f ∙ ap (λ o. length (names_in o)) p ∙ length-map F.vars (λ (v : VarInfo). v.name)

  pub size-G : length W ≡ length G.vars
  size-G = ap (λ o. length (names_in o)) q ∙ length-map G.vars (λ (v : VarInfo). v.name)

  -- ---- arguments

  -- an argument keeps its name and its number
  pub argument-kept : (x : ℕ) → x < F.args → SameName N W x x
  argument-kept x less =
      let both = same_args P Q t.heads f F G p q in
      let few = F.formed.few_args in
      let few' = G.formed.few_args in
      let sF = size-F in
      let sG = size-G in
      let here : named (variable_names F.vars) x ≡ named (variable_names G.vars) x =
      sym (get_or-take F.args (variable_names F.vars) x [] less)
      ∙ ap (λ names. named names x) (take-map (λ (v : VarInfo). v.name) F.args F.vars ∙ ap (map (λ (v : VarInfo). v.name)) both.variables ∙ sym (take-map (λ (v : VarInfo). v.name) G.args G.vars))
      ∙ get_or-take G.args (variable_names G.vars) x [] (omega (arith, both.count)) in
      let own : new_name P f (rename f) x ≡ named (variable_names F.vars) x = ap (λ o. rename f (named (names_in o) x)) p ∙ (t.names f F p).arguments x less in
      (omega arith, omega (arith, both.count), name-is P Q rename t f x (omega arith) ∙ own ∙ here ∙ sym (ap (λ o. named (names_in o) x) q))

  one-W : (y z : ℕ) → y < length W → z < length W → named W y ≡ named W z → y ≡ z
  one-W y z a b e =
      let sG = size-G in
      let s = length-map G.vars (λ (v : VarInfo). v.name) in
      one_number (variable_names G.vars) (Differ-variables G) y z (omega arith) (omega arith) (sym (ap (λ o. named (names_in o) y) q) ∙ e ∙ ap (λ o. named (names_in o) z) q)

  pub argument-there : (x y : ℕ) → x < F.args → SameName N W x y → x ≡ y
  argument-there x y less n = let k = argument-kept x less in one-W x y k.1 n.1 (sym k.2 ∙ n.2)

  -- ---- variables of one new name

  pub one-type : (x z y : ℕ) → SameName N W x y → SameName N W z y → variable_type F.vars x ≡ variable_type F.vars z
  one-type x z y h k = ⊎_elim (λ e. ap (variable_type F.vars) e) other (cases_eq x z)
    where
      other : (x ≡ z → ⊥) → variable_type F.vars x ≡ variable_type F.vars z
      other n = let s = size-F in let hl = h.0 in let kl = k.0 in (t.sound f F p x z (omega arith) (omega arith) n (sym (name-is P Q rename t f x h.0) ∙ h.2 ∙ sym k.2 ∙ name-is P Q rename t f z k.0)).types

  -- ---- items that stay

  -- an item of the result that isn't a `nop` for a copy
  pub record Stayed (j : ℕ) (b : Instr) : Type 0 where
    pub a : Instr
    pub at : item_at P f j ≡ Some a
    pub same : renamed_tree fs N (slice_get P.funcs f) j ≡ tree_at Q f j
    pub labels : List (List ℕ)
    pub result_labels : List (List ℕ)
    pub one : item_tree fs N labels a ≡ item_tree fs W result_labels b
    pub range : IsInRange (length fs) (length N) (length labels) a
    pub result_range : IsInRange (length fs) (length W) (length result_labels) b

  pub stayed : (j : ℕ) (b : Instr) → item_at Q f j ≡ Some b → (IsSelfCopy P f (rename f) j → ⊥) → Stayed j b
  stayed j b bt regular = by (item_at P f j) refl
    where
      tree : renamed_tree fs N (slice_get P.funcs f) j ≡ tree_at Q f j
      tree = regular-tree P Q rename t f j regular

      by : (o : Option Instr) → item_at P f j ≡ o → Stayed j b
      by None at = absurd (let e = sym (renamed-none P f j at N) ∙ tree ∙ (found Q f j b bt).tree in cc)
      by (Some a) at =
          let fa = found P f j a at in
          let fb = found Q f j b bt in
          let under = found_under fs Q t.heads.names f j b fb in
          record {
            a = a;
            at = at;
            same = tree;
            labels = fa.function.labels;
            result_labels = fb.function.labels;
            one = same_Some _ _ (sym (renamed-found P f j a at fa.function fa.there N) ∙ tree ∙ under.tree);
            range = subst (λ n. IsInRange (length fs) n (length fa.function.labels) a) (sym (sized P Q rename t f)) fa.range;
            result_range = under.range;
          }

  -- the result has an item there
  pub still-there : (j : ℕ) (a : Instr) → item_at P f j ≡ Some a → (IsSelfCopy P f (rename f) j → ⊥) → (b : Instr) × (item_at Q f j ≡ Some b)
  still-there j a at regular = by (item_at Q f j) refl
    where
      by : (o : Option Instr) → item_at Q f j ≡ o → (b : Instr) × (item_at Q f j ≡ Some b)
      by None bt = absurd (let fa = found P f j a at in let e = sym (renamed-found P f j a at fa.function fa.there N) ∙ regular-tree P Q rename t f j regular ∙ nothing_at Q f j bt in cc)
      by (Some b) bt = (b, bt)

  -- each destination of a variable of the result has the type of those of its name
  pub dest-type : (x y : ℕ) → SameName N W x y → (j : ℕ) (b : Instr) → item_at Q f j ≡ Some b → dest_of b ≡ Some y → type_of b ≡ variable_type F.vars x
  dest-type x y n j b bt d = ⊎_elim (λ s. absurd (let e : nop ≡ b = same_Some nop b (sym (copy-nop P Q rename t f j s.0) ∙ bt) in let k = ap dest_of e ∙ d in cc)) (λ r. old (stayed j b bt r.0)) (t.points f j)
    where
      old : Stayed j b → type_of b ≡ variable_type F.vars x
      old s =
          let d' = same_destination fs N W s.labels s.result_labels s.a b s.one s.range s.result_range y d in
          let here : slice_get F.code j ≡ Some s.a = ap (λ o. slice_get (items_of o) j) (sym p) ∙ s.at in
          let facts = accepted_function P f F accepted p in
          let ty = some_type b y s.result_range.typed d in
          ty.1 ∙ sym (dest-typed P F (is_some F.ret) s.a d'.x ty.0 (shaped_at P F facts j s.a here) (typed_at P F facts j s.a here) d'.is (d'.ty ∙ ty.1)) ∙ one-type d'.x x y d'.name n

  -- ---- what is left

  abbrev pub IsLeft : ℕ → Type 0
  IsLeft y = (y < G.args) ⊎ IsDestination G.code y

  -- a destination of an item that stays
  stays-left : (j : ℕ) (a : Instr) → item_at P f j ≡ Some a → (IsSelfCopy P f (rename f) j → ⊥) → (x y : ℕ) → dest_of a ≡ Some x → SameName N W x y → IsLeft y
  stays-left j a at regular x y d n =
      let b = still-there j a at regular in
      let s = stayed j b.0 b.1 regular in
      let same : a ≡ s.a = same_Some a s.a (sym at ∙ s.at) in
      let d' = same_destination fs W N s.result_labels s.labels b.0 s.a (sym s.one) s.result_range s.range x (ap dest_of (sym same) ∙ d) in
      let e : d'.x ≡ y = one-W d'.x y d'.name.0 n.1 (d'.name.2 ∙ n.2) in
      inr (record { point = j; item = b.0; at = ap (λ o. slice_get (items_of o) j) (sym q) ∙ b.1; dest = d'.is ∙ ap Some e })

  abbrev AreLeft : List Location → Type 0
  AreLeft list = (x : ℕ) → In (Variable x) list → (y : ℕ) → SameName N W x y → IsLeft y

  abbrev SetsLeft : List (List Location) → Type 0
  SetsLeft [] = Unit {0}
  SetsLeft (set ∷ sets) = AreLeft set × SetsLeft sets

  sets-rest : (sets : List (List Location)) → SetsLeft sets → SetsLeft (without_newest sets)
  sets-rest [] h = tt
  sets-rest (s ∷ sets) h = h.1

  newest-left : (list : List Location) (sets : List (List Location)) → AreLeft list → SetsLeft sets → AreLeft (newest_saved list sets)
  newest-left list [] h k = h
  newest-left list (s ∷ sets) h k = k.0

  abbrev LeftAfter : List Branch → Type 0
  LeftAfter w = AreLeft (assigned_of (code_of P f) F.args w).locations × SetsLeft (assigned_of (code_of P f) F.args w).saved

  -- one branch further
  branch-left : (branch : Branch) (w : List Branch) → IsWalk (code_of P f) (branch ∷ w) → LeftAfter w → LeftAfter (branch ∷ w)
  branch-left branch w is before = by (change_of (code_of P f) branch) branch.aborts
    where
      from : branch.from ≡ end_of w
      from = branch_from (code_of P f) (end_of w) branch (in_contains branch (branches_at (code_of P f) (end_of w)) is.0)

      here : AreLeft (assigns_at (slice_get (code_of P f) branch.from))
      here x i y n = item (item_at P f branch.from) refl i
        where
          item : (o : Option Instr) → item_at P f branch.from ≡ o → In (Variable x) (assigns_at o) → IsLeft y
          item None at i = absurd i
          item (Some a) at i = ⊎_elim (λ c. copied c.0) (λ r. stays-left branch.from a at r.0 x y (assigns-dest a x i) n) (t.points f branch.from)
            where
              copied : IsSelfCopy P f (rename f) branch.from → IsLeft y
              copied s =
                  let same : s.item ≡ a = same_Some s.item a (sym s.at ∙ at) in
                  let sx : s.x ≡ x = (let e = sym s.copies.0 ∙ ap dest_of same ∙ assigns-dest a x i in cc) in
                  let below = source-below P Q rename t accepted f branch.from s in
                  before.0 s.y (live_assigned (code_of P f) F.args (is_some F.ret) (walks_of P accepted f F p) (Variable s.y) branch.from (source-live P Q rename t accepted f branch.from s) w is.1 (sym from)) y
                  (below, n.1, name-is P Q rename t f s.y below ∙ sym s.same ∙ ap (new_name P f (rename f)) sx ∙ sym (name-is P Q rename t f x n.0) ∙ n.2)

      by : (c : Change) (aborts : Bool) → AreLeft (assigned_changed c (assigns_at (slice_get (code_of P f) branch.from)) aborts (assigned_of (code_of P f) F.args w)).locations × SetsLeft (assigned_changed c (assigns_at (slice_get (code_of P f) branch.from)) aborts (assigned_of (code_of P f) F.args w)).saved
      by Opens aborts = (before.0, before)
      by Closes true = (newest-left _ _ before.0 before.1, sets-rest _ before.1)
      by Closes false = (before.0, sets-rest _ before.1)
      by Keeps aborts = ((λ x i y n. ⊎_elim (λ k. here x k y n) (λ k. before.0 x k y n) (in_append_cases (Variable x) (assigns_at (slice_get (code_of P f) branch.from)) (assigned_of (code_of P f) F.args w).locations i)), before.1)

  -- what a walk assigned is left
  walk-left : (w : List Branch) → IsWalk (code_of P f) w → LeftAfter w
  walk-left [] is = ((λ x i y n. let less = start-high F.args x i in let e = argument-there x y less n in let both = (same_args P Q t.heads f F G p q).count in inl (omega (arith, e))), tt)
  walk-left (branch ∷ w) is = branch-left branch w is (walk-left w is.1)

  -- a variable that some item assigned is left
  pub dest-left : (j : ℕ) (a : Instr) → item_at P f j ≡ Some a → (x y : ℕ) → dest_of a ≡ Some x → SameName N W x y → IsLeft y
  dest-left j a at x y d n = ⊎_elim (λ c. copied c.0) (λ r. stays-left j a at r.0 x y d n) (t.points f j)
    where
      copied : IsSelfCopy P f (rename f) j → IsLeft y
      copied s =
          let same : s.item ≡ a = same_Some s.item a (sym s.at ∙ at) in
          let sx : s.x ≡ x = (let e = sym s.copies.0 ∙ ap dest_of same ∙ d in cc) in
          let below = source-below P Q rename t accepted f j s in
          (walk-left s.reached.walk s.reached.is).0 s.y
          (live_assigned (code_of P f) F.args (is_some F.ret) (walks_of P accepted f F p) (Variable s.y) j (source-live P Q rename t accepted f j s) s.reached.walk s.reached.is s.reached.ends) y
          (below, n.1, name-is P Q rename t f s.y below ∙ sym s.same ∙ ap (new_name P f (rename f)) sx ∙ sym (name-is P Q rename t f x n.0) ∙ n.2)

  -- ---- types

  -- a destination of the result has the type of its variable
  of-dest : (x y : ℕ) → SameName N W x y → G.args ≤ y → IsDestination G.code y → variable_type F.vars x ≡ variable_type G.vars y
  of-dest x y n past d =
      let code : code_of Q f ≡ G.code = ap items_of q in
      let at : item_at Q f d.point ≡ Some d.item = ap (λ c. slice_get c d.point) code ∙ d.at in
      let ty = some_type d.item y (found Q f d.point d.item at).range.typed d.dest in
      let mine = dest-type x y n d.point d.item at d.dest in
      let all : (c : Instr) → In c G.code → (type_assigned y c ≡ None) ⊎ (type_assigned y c ≡ Some ty.0) =
      λ c i.
      let k = in_get c G.code i in
      let there : item_at Q f k.0 ≡ Some c = ap (λ l. slice_get l k.0) code ∙ k.1 in
      ⊎_elim (λ h. inr (h.1 ∙ dest-type x y n k.0 c there h.0 ∙ sym mine ∙ ty.1)) inl (type-assigned y c) in
      let first = first_type-is y ty.0 G.code all d.item (get_in G.code d.point d.item d.at) (type-assigned_own y d.item d.dest ∙ ty.1) in
      let s = size-G in
      let nl = n.1 in
      let v = get_inside G.vars y (omega arith) in
      sym (variable-has G.vars y v.0 v.1 ∙ G.formed.types y v.0 past v.1 ∙ first ∙ sym ty.1 ∙ mine)

  -- an argument keeps its type
  of-argument : (x y : ℕ) → SameName N W x y → y < G.args → variable_type F.vars x ≡ variable_type G.vars y
  of-argument x y n less =
      let both = (same_args P Q t.heads f F G p q).count in
      let was : y < F.args = omega arith in
      let k = argument-kept y was in
      let s = sized P Q rename t f in
      let kl = k.0 in
      let names_y : named (variable_names F.vars) y ≡ named (variable_names G.vars) y = sym ((t.names f F p).arguments y was) ∙ ap (λ o. rename f (named (names_in o) y)) (sym p) ∙ sym (name-is P Q rename t f y k.0) ∙ k.2 ∙ ap (λ o. named (names_in o) y) q in
      one-type x y y n k
      ∙ argument-typed P Q t.heads f F G p q y y (subst (λ o. y < length (names_in o)) p (omega arith), subst (λ o. y < length (names_in o)) q k.1, names_y) less

  pub types-kept : (x y : ℕ) → SameName N W x y → variable_type F.vars x ≡ variable_type G.vars y
  types-kept x y n = ⊎_elim (λ less. of-argument x y n less) past (cases_lt y G.args)
    where
      left : IsLeft y → variable_type F.vars x ≡ variable_type G.vars y
      left (inl less) = of-argument x y n less
      left (inr d) = ⊎_elim (λ less. of-argument x y n less) (λ high. of-dest x y n high d) (cases_lt y G.args)

      untyped : variable_type G.vars y ≡ None → variable_type F.vars x ≡ variable_type G.vars y
      untyped none = ⊎_elim argument (λ r. ⊎_elim (λ d. left (dest-left d.point d.item (ap (λ o. slice_get (items_of o) d.point) p ∙ d.at) x y d.dest n)) (λ k. k ∙ sym none) r) (typed_by F x (let s = size-F in let l = n.0 in omega arith))
        where
          argument : x < F.args → variable_type F.vars x ≡ variable_type G.vars y
          argument less = let e = argument-there x y less n in let both = (same_args P Q t.heads f F G p q).count in left (inl (omega (arith, e)))

      past : G.args ≤ y → variable_type F.vars x ≡ variable_type G.vars y
      past high = ⊎_elim (λ less. of-argument x y n less) (λ r. ⊎_elim (λ d. of-dest x y n high d) untyped r) (typed_by G y (let s = size-G in let l = n.1 in omega arith))
