-- The types of definitions: each has that of its variable, and what is got has one.
use Rattle.std.proofs.Common.{◌≡◌, ◌⊎◌, ℕ, ◌+◌, ◌-◌, ◌*◌, ◌/◌, ◌<◌, Bool, true, false, cond, List, [], length, map, Option, Some, None, refl, sym, ap, ◌∙◌, inl, inr, ⊎_elim, arith}
use Rattle.std.specs.Prelude.{◌==◌, nat_lt, slice_get, slice_index}
use Rattle.std.proofs.lemmas.Bool.{eqb-true, lt-ltb, ltb-true}
use Rattle.std.proofs.lemmas.List.{get_or-append-add, get_or-map, get_or_append_left, length-map}
use Rattle.std.proofs.lemmas.Option.{get_or_from_slice_get, same_Some, slice_get_within}
use Rattle.bril_tree.specs.declared.function_tree.FuncTree.{FuncTree}
use Rattle.bril_tree.specs.declared.numbered.Instr.{Instr}
use Rattle.bril_tree.specs.declared.numbered.Instr.TheVariants.{Label, Const, Act}
use Rattle.bril_tree.specs.declared.numbered_function.Func.{Func}
use Rattle.bril_tree.specs.declared.operation.Op.TheVariants as op
use Rattle.bril_tree.specs.declared.program.Prog.{Prog}
use Rattle.bril_tree.specs.declared.types.Ty.{Ty}
use Rattle.bril_tree.specs.Accepted.{IsAcceptedFunction}
use Rattle.bril_tree.specs.Live.{IsLive}
use Rattle.bril_tree.specs.Locals.{location_type}
use Rattle.bril_tree.specs.Membership.{In}
use Rattle.bril_tree.specs.Operand.{Location, Shadow, Variable, dest_of, reads_of}
use Rattle.bril_tree.specs.Typing.{argument_type, is_action_typed, is_dest_typed, is_set_typed, variable_type}
use Rattle.bril_tree.specs.Walk.{IsReached}
use Rattle.bril_tree.proofs.Acceptance.{shaped_at, typed_at}
use Rattle.bril_tree.proofs.Members.{contains_in}
use Rattle.bril_tree.proofs.Typings.{same_type-is}
use Rattle.flow_graph.specs.Location.{number_of}
use Rattle.ssa_laws.proofs.lemmas.live_entries.Deciding.{live-read}
use Rattle.ssa_build.specs.code.Names.{or_none, variables_written}
use Rattle.ssa_laws.specs.inserted_copies.Inserted.{destination, is_copy, source}
use Rattle.ssa_search.specs.declared.renaming.now.WantedGet.{WantedGet}
use Rattle.ssa_laws.proofs.lemmas.reaching_definitions.Dominance.{behind-cases}
use Rattle.ssa_laws.proofs.lemmas.reaching_definitions.Made.{tabled-consistent}
use Rattle.ssa_laws.proofs.lemmas.reaching_definitions.Tabled.{begins, few, tables-keep_types}
use Rattle.ssa_laws.proofs.lemmas.reaching_definitions.Types.{behind-typed, told-keeps}
use Rattle.ssa_laws.specs.reaching_definitions.Laws.{IsArgument, IsTabled}
use Rattle.ssa_laws.specs.reaching_definitions.Tables.{Defines, Gets, Writes, behind, replaced, resolved}
use Rattle.ssa_laws.specs.reaching_definitions.Told.{AreTyped, HasTypeOf, argument}
use Rattle.ssa_build.specs.tree.Made.{IsLaidFunction}
use Rattle.type_soundness.proofs.Locals.{both-parts, reads-there}
use Rattle.ssa_form_laws.specs.laid.Tables.{variable_of}
use Rattle.ssa_form_laws.proofs.lemmas.laid.Kept.{G, find, m, n}

-- the variable of a location, by its number
half-even : (v : ℕ) → 2 * v / 2 ≡ v
half-even v = omega arith

half-odd : (v : ℕ) → (2 * v + 1) / 2 ≡ v
half-odd v = omega arith

pub number-type : (F : Func) (a : Location) → variable_type F.vars (number_of a / 2) ≡ location_type F a
number-type F (Variable v) = ap (variable_type F.vars) (half-even v)
number-type F (Shadow v) = ap (variable_type F.vars) (half-odd v)

module _ (P : Prog) (F : Func) (accepted : IsAcceptedFunction P F) where
  -- what is read has a type
  pub read-typed : (k : ℕ) (a : Instr) (b : Location) → slice_get F.code k ≡ Some a → In b (reads_of a) → (ty : Ty) × (location_type F b ≡ Some ty)
  read-typed k a b at reads = reads-there P F a b (shaped_at P F accepted k a at) (typed_at P F accepted k a at) (contains_in b (reads_of a) reads)

  -- so has what is live
  pub live-typed : (k : ℕ) (b : Location) → IsLive F.code b k → (ty : Ty) × (location_type F b ≡ Some ty)
  live-typed k b live = let r = live-read F.code accepted.sites b k live in read-typed r.0 r.1 b r.2 r.3

  -- what a `set` gives has the type of what it is given to, where that has one
  set-same : (s t : Option Ty) → is_set_typed s t ≡ true → (s ≡ None) ⊎ (t ≡ s)
  set-same None t e = inl refl
  set-same (Some s) None e = absurd cc
  set-same (Some s) (Some t) e = inr (ap Some (sym (same_type-is s t e)))

  pub copied-typed : (i : ℕ) (a : Location) → is_copy (slice_get F.code i) ≡ true → (location_type F a ≡ None) ⊎ (location_type F (source (slice_get F.code i) a) ≡ location_type F a)
  copied-typed i a copy = by (slice_get F.code i) refl copy
    where
      got-same : (d : Option ℕ) (b : Location) → location_type F (source (Some (Act d None op.Get [] [] [])) b) ≡ location_type F b
      got-same None b = refl
      got-same (Some y) (Variable v) = test (v == y) refl
        where
          test : (c : Bool) → (v == y) ≡ c → location_type F (cond c (Shadow y) (Variable v)) ≡ variable_type F.vars v
          test true e = ap (variable_type F.vars) (sym (eqb-true v y e))
          test false e = refl
      got-same (Some y) (Shadow v) = refl

      by : (o : Option Instr) → slice_get F.code i ≡ o → is_copy o ≡ true → (location_type F a ≡ None) ⊎ (location_type F (source o a) ≡ location_type F a)
      by None at c = absurd cc
      by (Some (Label q)) at c = absurd cc
      by (Some (Const d ty v)) at c = absurd cc
      by (Some (Act d ty op.Get args fns ls)) at c = inr (got-same d a)
      by (Some (Act d ty op.Set args fns ls)) at c = set a
        where
          typed : is_set_typed (argument_type F.vars args 0) (argument_type F.vars args 1) ≡ true
          typed = (both-parts (is_dest_typed P F d ty) (is_action_typed P F op.Set ty args fns) (typed_at P F accepted i (Act d ty op.Set args fns ls) at)).1

          set : (b : Location) → (location_type F b ≡ None) ⊎ (location_type F (source (Some (Act d ty op.Set args fns ls)) b) ≡ location_type F b)
          set (Variable v) = inr refl
          set (Shadow v) = test (v == slice_index args 0) refl
            where
              test : (c : Bool) → (v == slice_index args 0) ≡ c → (variable_type F.vars v ≡ None) ⊎ (location_type F (cond c (Variable (slice_index args 1)) (Shadow v)) ≡ variable_type F.vars v)
              test false e = inr refl
              test true e =
                  let same = eqb-true v (slice_index args 0) e in
                  ⊎_elim (λ none. inl (ap (variable_type F.vars) same ∙ none)) (λ h. inr (h ∙ ap (variable_type F.vars) (sym same))) (set-same (argument_type F.vars args 0) (argument_type F.vars args 1) typed)
      by (Some (Act d ty _ args fns ls)) at c = absurd (let e : false ≡ true = c in cc)

module _ (P : Prog) (F : Func) (accepted : IsAcceptedFunction P F) (function g : FuncTree) (x : IsLaidFunction F function g) (tabled : IsTabled F.code F.args (G F function g x)) where
  -- the variable that a definition is one of
  abbrev pub variable-in : ℕ → ℕ
  variable-in y = cond (nat_lt y F.args) y (variable_of F function g x y)

  abbrev pub types-in : ℕ → Option Ty
  types-in y = variable_type F.vars (variable-in y)

  abbrev written : List ℕ
  written = variables_written F.code x.wants.list

  low-is : (y : ℕ) → y < F.args → types-in y ≡ variable_type F.vars y
  low-is y h = ap (λ b. variable_type F.vars (cond b y (variable_of F function g x y))) (lt-ltb y F.args h)

  high-is : (y : ℕ) → types-in (F.args + y) ≡ variable_type F.vars (slice_index written y)
  high-is y =
      let rest : F.args + y - F.args ≡ y = omega arith in
      ap (λ b. variable_type F.vars (cond b (F.args + y) (variable_of F function g x (F.args + y)))) (not-low (nat_lt (F.args + y) F.args) refl) ∙ ap (λ k. variable_type F.vars (slice_index written k)) rest
    where
      not-low : (b : Bool) → nat_lt (F.args + y) F.args ≡ b → nat_lt (F.args + y) F.args ≡ false
      not-low false e = e
      not-low true e = absurd (let h = ltb-true (F.args + y) F.args e in omega (arith, h))

  -- items and `get`s in the list of variables
  item-variable : (i : ℕ) (a : Instr) → slice_get F.code i ≡ Some a → slice_index written i ≡ or_none (dest_of a)
  item-variable i a at =
      let low = slice_get_within F.code i a at in
      let long = length-map F.code (λ (b : Instr). or_none (dest_of b)) in
      get_or_append_left (map (λ (b : Instr). or_none (dest_of b)) F.code) (map (λ (w : WantedGet). w.location / 2) x.wants.list) 0 i (omega (arith, low, long))
      ∙ get_or-map (λ (b : Instr). or_none (dest_of b)) F.code i a 0 low ∙ ap (λ (b : Instr). or_none (dest_of b)) (get_or_from_slice_get F.code i a a at)

  get-variable : (t : ℕ) (w : WantedGet) → slice_get x.wants.list t ≡ Some w → slice_index written (length F.code + t) ≡ w.location / 2
  get-variable t w at =
      let low = slice_get_within x.wants.list t w at in
      let long = length-map F.code (λ (b : Instr). or_none (dest_of b)) in
      ap (λ k. slice_index written (k + t)) (sym long)
      ∙ get_or-append-add (map (λ (b : Instr). or_none (dest_of b)) F.code) (map (λ (v : WantedGet). v.location / 2) x.wants.list) t 0
      ∙ get_or-map (λ (v : WantedGet). v.location / 2) x.wants.list t w 0 low ∙ ap (λ (v : WantedGet). v.location / 2) (get_or_from_slice_get x.wants.list t w w at)

  pub argument-typed : (a : Location) (y : ℕ) → argument F.args a ≡ Some y → types-in y ≡ location_type F a
  argument-typed (Variable v) y e = by (nat_lt v F.args) refl e
    where
      by : (b : Bool) → nat_lt v F.args ≡ b → cond b (Some v) None ≡ Some y → types-in y ≡ variable_type F.vars v
      by false less h = absurd cc
      by true less h = let same : v ≡ y = same_Some v y h in ap types-in (sym same) ∙ low-is v (ltb-true v F.args less)
  argument-typed (Shadow v) y e = absurd cc

  pub write-typed : (i v : ℕ) (a : Instr) → slice_get F.code i ≡ Some a → dest_of a ≡ Some v → types-in (F.args + i) ≡ variable_type F.vars v
  write-typed i v a at d = high-is i ∙ ap (variable_type F.vars) (item-variable i a at ∙ ap or_none d)

  pub get-typed : (k y : ℕ) (a : Location) → G F function g x k a ≡ Some y → types-in y ≡ location_type F a
  get-typed k y a e =
      let w : WantedGet = record { location = number_of a; definition = y } in
      let q = x.are_wants.listed k w ((x.are_wants.rows k).there a y e) in
      let number = x.are_wants.numbered q.0 w q.1 in
      let same : y ≡ F.args + (length F.code + q.0) = omega (arith, number) in
      ap types-in same ∙ high-is (length F.code + q.0) ∙ ap (variable_type F.vars) (get-variable q.0 w q.1) ∙ number-type F a

  pub are-typed : AreTyped F.code (n F function g x) F.args (location_type F) types-in
  are-typed = record {
    argument = argument-typed;
    write = λ i v copy d. by_item i v (slice_get F.code i) refl d;
    get = get-typed;
    typed = λ k y a e. live-typed P F accepted k a (x.are_wants.wanted.live k y a e);
    copied = copied-typed P F accepted;
  }
    where
      by_item : (i v : ℕ) (o : Option Instr) → slice_get F.code i ≡ o → destination o ≡ Some v → types-in (F.args + i) ≡ variable_type F.vars v
      by_item i v None at d = absurd cc
      by_item i v (Some a) at d = write-typed i v a at d

  -- ---- what the tables without the trivial `get`s tell has the location's type

  pub into-typed : (i : ℕ) (a : Location) (y : ℕ) → IsReached F.code i → (m F function g x).into i a ≡ Some y → HasTypeOf (location_type F) types-in y a
  into-typed i a y r e = tables-keep_types F.code F.args (G F function g x) (find F function g x) (location_type F) types-in accepted.sites tabled x.solved.solved are-typed i a y r e

  abbrev Keeps : ℕ → Type 0
  Keeps z = types-in (find F function g x z) ≡ types-in z

  told-before : (i : ℕ) (a : Location) (z : ℕ) → IsReached F.code i → (n F function g x).into i a ≡ Some z → Keeps z
  told-before i a z r e =
      told-keeps F.code accepted.sites F.args (G F function g x) tabled.leads tabled.wanted (IsArgument F.args) (begins F.args) (few F.args) tabled.argued tabled.opens (find F function g x) x.solved.solved (location_type F) types-in are-typed i r a z e

  -- what stands for a `get` has its type
  got-keeps : (k : ℕ) (b : Location) (z : ℕ) → IsReached F.code k → G F function g x k b ≡ Some z → Keeps z
  got-keeps k b z r e = by (find F function g x z == z) refl
    where
      typed : (ty : Ty) × (location_type F b ≡ Some ty)
      typed = live-typed P F accepted k b (x.are_wants.wanted.live k z b e)

      have : HasTypeOf (location_type F) types-in (find F function g x z) b → Keeps z
      have (inl none) = absurd (let h : None ≡ Some typed.0 = sym none ∙ typed.1 in cc)
      have (inr same) = same ∙ sym (get-typed k z b e)

      by : (c : Bool) → (find F function g x z == z) ≡ c → Keeps z
      by true same = ap types-in (eqb-true (find F function g x z) z same)
      by false other = have (into-typed k b (find F function g x z) r (ap (λ o. resolved (find F function g x) o ((n F function g x).into k b)) e ∙ ap (λ c. cond c (replaced (find F function g x) ((n F function g x).into k b)) (Some (find F function g x z))) other))

  keeps : (i z : ℕ) (a : Location) → IsReached F.code i → Defines F.code (n F function g x) i z ⊎ ((b : Location) × ((n F function g x).into i b ≡ Some z)) → Keeps z
  keeps i z a r (inl (Writes v copy d e)) = ap types-in (x.solved.solved.fixed z (low (slice_get F.code i) refl))
    where
      low : (o : Option Instr) → slice_get F.code i ≡ o → z < F.args + length F.code
      low None at = absurd (let h : None ≡ Some v = ap destination (sym at) ∙ d in cc)
      low (Some b) at = let w = slice_get_within F.code i b at in omega (arith, w, e)
  keeps i z a r (inl (Gets b e)) = got-keeps i b z r e
  keeps i z a r (inr b) = told-before i b.0 z r b.1

  pub behind-typed_so : (i : ℕ) (a : Location) (z : ℕ) → IsReached F.code i → behind F.code (n F function g x) i a ≡ Some z → HasTypeOf (location_type F) types-in (find F function g x z) a
  behind-typed_so i a z r e = by (behind-typed F.code accepted.sites F.args (G F function g x) tabled.leads tabled.wanted (IsArgument F.args) (begins F.args) (few F.args) tabled.argued tabled.opens (find F function g x) x.solved.solved (location_type F) types-in are-typed i a z e)
    where
      k : Keeps z
      k = keeps i z a r (behind-cases F.code accepted.sites (n F function g x) (IsArgument F.args) (tabled-consistent F.code F.args (G F function g x) tabled.leads tabled.wanted (IsArgument F.args) (begins F.args) (few F.args)) i z a e)

      by : HasTypeOf (location_type F) types-in z a → HasTypeOf (location_type F) types-in (find F function g x z) a
      by (inl none) = inl none
      by (inr same) = inr (k ∙ same)
