-- The tables of a laid function are those of laid code.
use Rattle.std.proofs.Common.{◌≡◌, ◌⊎◌, ℕ, suc, ◌/◌, Bool, true, false, cond, List, [], ◌∷◌, Option, Some, None, is_some, refl, sym, ap, subst, ◌∙◌, inl, inr, arith}
use Rattle.std.specs.Prelude.{◌==◌, nat_lt, slice_get}
use Rattle.std.proofs.lemmas.Bool.{eqb-true, lt-ltb, ltb-true}
use Rattle.std.proofs.lemmas.List.{length-map}
use Rattle.std.proofs.lemmas.Option.{same_Some}
use Rattle.bril_tree.specs.declared.function_tree.FuncTree.{FuncTree}
use Rattle.bril_tree.specs.declared.numbered.Instr.{Instr}
use Rattle.bril_tree.specs.declared.numbered.Instr.TheVariants.{Label}
use Rattle.bril_tree.specs.declared.numbered.VarInfo.{VarInfo}
use Rattle.bril_tree.specs.declared.numbered_function.Func.{Func}
use Rattle.bril_tree.specs.declared.program.Prog.{Prog}
use Rattle.bril_tree.specs.declared.tree.Tree.{Tree}
use Rattle.bril_tree.specs.declared.types.Ty.{Ty}
use Rattle.bril_tree.specs.Accepted.{IsAccepted}
use Rattle.bril_tree.specs.Edge.{Branch, branches_at, branches_from, onward}
use Rattle.bril_tree.specs.Live.{Here, IsLive, Later}
use Rattle.bril_tree.specs.Membership.{In}
use Rattle.bril_tree.specs.Numbered.{Numbered, function_tree, names_of_functions}
use Rattle.bril_tree.specs.Operand.{Location, Shadow, Variable, reads_of}
use Rattle.bril_tree.specs.Shape.{shape_fault_of}
use Rattle.bril_tree.specs.Sites.{AreSitesSound}
use Rattle.bril_tree.specs.Typing.{variable_type}
use Rattle.bril_tree.specs.Walk.{IsReached}
use Rattle.bril_tree.proofs.Branches.{reached_on}
use Rattle.bril_tree.proofs.Members.{in_contains, in_map, in_map_source}
use Rattle.flow_graph.specs.Location.{number_of}
use Rattle.ssa_build.specs.code.Sweep.{kept_at}
use Rattle.ssa_laws.specs.layout.Laid.{Setting}
use Rattle.ssa_search.specs.declared.renaming.now.WantedGet.{WantedGet}
use Rattle.ssa_laws.proofs.lemmas.reaching_definitions.Items.{label-no_site}
use Rattle.ssa_laws.proofs.lemmas.reaching_definitions.Tabled.{tables-tell_live}
use Rattle.ssa_laws.proofs.lemmas.reaching_definitions.Made.{entered-same}
use Rattle.ssa_laws.specs.reaching_definitions.Laws.{IsArgument, IsTabled}
use Rattle.ssa_laws.specs.reaching_definitions.Tables.{AreConsistent, Tables, replaced, resolved}
use Rattle.ssa_laws.specs.reaching_definitions.Told.{FromStart, argument}
use Rattle.ssa_build.specs.tree.Made.{IsLaidFunction}
use Rattle.ssa_form_laws.specs.laid.Tables.{FunctionTables}
use Rattle.ssa_form_laws.proofs.lemmas.laid.Items.{function, gone-at, got-at, put-at, same-at, shaped, sound, tabled, typed, within}
use Rattle.ssa_form_laws.proofs.lemmas.laid.Kept.{G, find, in-kept, kept-back, kept-got, kept-is, kept-only, l, m, n, resolved-cases}
use Rattle.ssa_form_laws.proofs.lemmas.laid.Leaving.{falls-there}
use Rattle.ssa_form_laws.proofs.lemmas.laid.Names.{argument-name, names-apart}
use Rattle.ssa_form_laws.proofs.lemmas.laid.Parts.{BeginsAt, FallenAt, IsLaidAt, IsTightAt, LeftAt, SetAt, StartedAt}
use Rattle.ssa_form_laws.proofs.lemmas.laid.Placing.{T}
use Rattle.ssa_form_laws.proofs.lemmas.laid.Told.{Fallen, Left, SetHere, Started, argument-fixed, behind-found, fall-there, into-found, leave-there, new-consistent, read-told, set-alone, set-here}

-- tables that agree do so for whatever means the same as being an argument
consistent-as : (code : List Instr) (n : Tables) (A B : ℕ → Type 0) → ((y : ℕ) → A y → B y) → ((y : ℕ) → B y → A y) → AreConsistent code n A → AreConsistent code n B
consistent-as code n A B there back c = record {
  start = λ a y e. there y (c.start a y e);
  next = c.next;
  back = c.back;
  once = c.once;
  apart = λ i y r d b. c.apart i y r d (back y b);
  single = c.single;
  plain = c.plain;
}

module _ (P Q : Prog) (tree : Tree) (accepted : IsAccepted P) (numbered : Numbered tree Q) (f : ℕ) (F : Func) (there : slice_get P.funcs f ≡ Some F) (g : FuncTree) (made : slice_get tree.funcs f ≡ Some g) (x : IsLaidFunction F (function_tree (names_of_functions P.funcs) F) g) where
  abbrev H : FuncTree
  H = function P Q tree accepted numbered f F there g made x

  abbrev Z : (k : ℕ) (get : WantedGet) → In get (kept_at (l F H g x) k) → (ty : Ty) × (variable_type F.vars (get.location / 2) ≡ Some ty)
  Z = typed P Q tree accepted numbered f F there g made x

  abbrev pub U : FunctionTables
  U = T F (names_of_functions P.funcs) g x Z

  abbrev S : shape_fault_of (is_some F.ret) F.code ≡ None
  S = shaped P Q tree accepted numbered f F there g made x

  abbrev D : AreSitesSound F.code
  D = sound P Q tree accepted numbered f F there g made x

  abbrev W : IsTabled F.code F.args (G F H g x)
  W = tabled P Q tree accepted numbered f F there g made x

  abbrev Begun : Location → ℕ → Type 0
  Begun a y = BeginsAt P Q f (Some F) U a y

  -- ---- arguments

  begun : (a : Location) (z : ℕ) → argument F.args a ≡ Some z → Begun a z
  begun (Variable v) z e = by (nat_lt v F.args) refl e
    where
      by : (b : Bool) → nat_lt v F.args ≡ b → cond b (Some v) None ≡ Some z → Begun (Variable v) z
      by false less h = absurd cc
      by true less h =
          let same : v ≡ z = same_Some v z h in
          let low = ltb-true v F.args less in
          let few = F.formed.few_args in
          let size = length-map F.vars (λ (w : VarInfo). w.name) in
          (omega (arith, few, size, low), sym (argument-name F H g x v low) ∙ ap U.name same, low)
  begun (Shadow v) z e = absurd cc

  ends : (a : Location) (y : ℕ) → Begun a y → IsArgument F.args y
  ends (Variable v) y b =
      let same : v ≡ y = names-apart F H g x v y (argument-name F H g x v b.2 ∙ b.1) in
      (Variable v, ap (λ c. cond c (Some v) None) (lt-ltb v F.args b.2) ∙ ap Some same)
  ends (Shadow v) y b = absurd b

  begin : (a : Location) (y : ℕ) → U.table.into 0 a ≡ Some y → Begun a y
  begin a y e = by (resolved-cases F H g x (G F H g x 0 a) ((n F H g x).into 0 a) y e)
    where
      by : ((u : ℕ) × (G F H g x 0 a ≡ Some u) × (find F H g x u ≡ u → ⊥) × (find F H g x u ≡ y)) ⊎ ((u : ℕ) × ((n F H g x).into 0 a ≡ Some u) × (find F H g x u ≡ y)) → Begun a y
      by (inl k) =
          let z = W.argued a (W.wanted.live 0 k.0 a k.1) in
          let same : z.0 ≡ y = sym (argument-fixed F H g x S D W a z.0 z.1) ∙ x.solved.solved.gone 0 k.0 z.0 a k.1 k.2 (FromStart refl z.1) ∙ k.3 in
          subst (Begun a) same (begun a z.0 z.1)
      by (inr k) =
          let told = entered-same (slice_get F.code 0) (argument F.args a) k.0 k.1 in
          let same : k.0 ≡ y = sym (argument-fixed F H g x S D W a k.0 told) ∙ k.2 in
          subst (Begun a) same (begun a k.0 told)

  -- ---- `set`s

  set-at : (i : ℕ) (s : Setting) → SetHere F H g x S D W i s → SetAt P Q f (Some F) U i s
  set-at i s (Started a z e got told from) = StartedAt a e got (subst (Begun a) (sym from) (begun a z told))
  set-at i s (Fallen a p z e r got told from) = FallenAt a p e r got (behind-found F H g x S D W p z a r told ∙ ap Some (sym from))
  set-at i s (Left a k z r leaves got none told from) = LeftAt a k r leaves got (into-found F H g x S D W i z a none told ∙ ap Some (sym from))

  pub laid-at : IsLaidAt P Q f (Some F) U
  laid-at = record {
    injective = names-apart F H g x;
    consistent = consistent-as F.code (m F H g x) (IsArgument F.args) (λ y. (a : Location) × Begun a y) (λ y h. (h.0, begun h.0 y h.1)) (λ y h. ends h.0 y h.1) (new-consistent F H g x S D W);
    begin = begin;
    same = same-at P Q tree accepted numbered f F there g made x;
    gone = gone-at P Q tree accepted numbered f F there g made x;
    read = λ i v item r at copy reads. let z = read-told F H g x S D W i v item r at reads in (find F H g x z.0, into-found F H g x S D W i z.0 (Variable v) z.2 z.1);
    got = λ i t y r at. let h = got-at P Q tree accepted numbered f F there g made x i t y r at in (h.ty, h.at);
    no_gets = refl;
    gets_are = λ i y h.
        let s = in_map_source (λ (w : WantedGet). w.definition) y (kept_at (l F H g x) i) h in
        let k = kept-only F H g x i s.0 s.1 in
        (k.location, kept-got F H g x i s.0 k ∙ ap Some (sym s.2));
    gets_all = λ i y a e. in_map (λ (w : WantedGet). w.definition) (record { location = number_of a; definition = y }) (kept_at (l F H g x) i) (in-kept F H g x i y a e);
    put = put-at P Q tree accepted numbered f F there g made x;
    sets_are = λ i s r h. set-at i s (set-here F H g x S D W i s (within P Q tree accepted numbered f F there g made x i r) h);
    sets_fall = λ i y a r plain among e. fall-there F H g x S D W (suc i) y a (falls-there F H g x D i r plain among) e;
    sets_start = λ y a e. fall-there F H g x S D W 0 y a refl e;
    sets_leave = leave-there F H g x S D W;
  }

  -- ---- each `get` is told behind its label

  -- a label assigns nothing and reads nothing
  live-behind : (k q : ℕ) (a : Location) → slice_get F.code k ≡ Some (Label q) → IsLive F.code a k → IsLive F.code a (suc k)
  live-behind k q a at live = by k live refl at
    where
      by : (j : ℕ) → IsLive F.code a j → j ≡ k → slice_get F.code k ≡ Some (Label q) → IsLive F.code a (suc k)
      by j (Here _ item here reads) e at =
          let same : item ≡ Label q = same_Some item (Label q) (sym here ∙ ap (slice_get F.code) e ∙ at) in
          absurd (subst (λ o. In a (reads_of o)) same (in_contains a (reads_of item) reads))
      by j (Later _ branch (inl leaves) none live) e at = onto (subst (λ o. In branch (branches_from F.code j o)) (ap (slice_get F.code) e ∙ at) (in_contains branch (branches_at F.code j) leaves.0))
        where
          onto : In branch (onward j ∷ []) → IsLive F.code a (suc k)
          onto (inl same) = subst (IsLive F.code a) (ap (λ (b : Branch). b.to) same ∙ ap suc e) live
          onto (inr i) = absurd i
      by j (Later _ branch (inr aborts) none live) e at = absurd (label-no_site F.code aborts.walk j q (subst (In j) (sym aborts.sites) (inl refl)) (ap (slice_get F.code) e ∙ at))

  goes : (k y : ℕ) (a : Location) → U.table.gets k a ≡ Some y → (z : ℕ) × ((U.table.into (suc k) a ≡ Some z) ⊎ (U.table.gets (suc k) a ≡ Some z))
  goes k y a e = by (tables-tell_live F.code F.args (G F H g x) W (suc k) a next (live-behind k label.0 a label.1 (W.wanted.live k y a got.0)))
    where
      got : (G F H g x k a ≡ Some y) × (find F H g x y ≡ y)
      got = kept-is F H g x (G F H g x k a) y e

      label : (q : ℕ) × (slice_get F.code k ≡ Some (Label q))
      label = W.wanted.label k y a got.0

      next : IsReached F.code (suc k)
      next = reached_on F.code k (onward k) (W.wanted.reached k y a got.0) (subst (λ o. In (onward k) (branches_from F.code k o)) (sym label.1) (inl refl))

      stays : (u : ℕ) → G F H g x (suc k) a ≡ Some u → (z : ℕ) × ((U.table.into (suc k) a ≡ Some z) ⊎ (U.table.gets (suc k) a ≡ Some z))
      stays u h = test (find F H g x u == u) refl
        where
          test : (b : Bool) → (find F H g x u == u) ≡ b → (z : ℕ) × ((U.table.into (suc k) a ≡ Some z) ⊎ (U.table.gets (suc k) a ≡ Some z))
          test true same = (u, inr (kept-back F H g x (G F H g x (suc k) a) u h (eqb-true (find F H g x u) u same)))
          test false other =
              (find F H g x u, inl (ap (λ o. resolved (find F H g x) o ((n F H g x).into (suc k) a)) h ∙ ap (λ c. cond c (replaced (find F H g x) ((n F H g x).into (suc k) a)) (Some (find F H g x u))) other))

      by : (u : ℕ) × (((n F H g x).into (suc k) a ≡ Some u) ⊎ (G F H g x (suc k) a ≡ Some u)) → (z : ℕ) × ((U.table.into (suc k) a ≡ Some z) ⊎ (U.table.gets (suc k) a ≡ Some z))
      by (u, inr h) = stays u h
      by (u, inl h) = test (G F H g x (suc k) a) refl
        where
          test : (o : Option ℕ) → G F H g x (suc k) a ≡ o → (z : ℕ) × ((U.table.into (suc k) a ≡ Some z) ⊎ (U.table.gets (suc k) a ≡ Some z))
          test None none = (find F H g x u, inl (into-found F H g x S D W (suc k) u a none h))
          test (Some v) some = stays v some

  pub tight-at : IsTightAt P Q f (Some F) U
  tight-at = record {
    reached = λ k y a e. W.wanted.reached k y a (kept-is F H g x (G F H g x k a) y e).0;
    goes = goes;
    alone = set-alone F H g x S D W;
  }
