-- All operands of a function.
use Rattle.std.proofs.Common.{◌≡◌, ℕ, zero, suc, ◌+◌, ◌<◌, ◌≤◌, Bool, true, false, cond, List, length, get_or, Option, Some, None, refl, sym, subst, ◌∙◌, arith}
use Rattle.std.specs.Prelude.{slice_get}
use Rattle.std.specs.List.{All, Contains}
use Rattle.std.proofs.lemmas.List.Elements.{All-map, Contains-get_or}
use Rattle.std.proofs.lemmas.Option.{same_Some, slice_get_within}
use Rattle.bril_tree.specs.declared.numbered.Instr.{Instr}
use Rattle.bril_tree.specs.declared.numbered_function.Func.{Func}
use Rattle.bril_tree.specs.Operand.{Location}
use Rattle.bril_tree.specs.Sites.{AreSitesSound}
use Rattle.flow_graph.specs.Location.{number_of}
use Rattle.ssa_build.specs.declared.trivial_phis.operands.Operand.{Operand}
use Rattle.ssa_build.specs.trivial_phis.Trivial.{OperandsView, sources_of}
use Rattle.ssa_laws.specs.inserted_copies.Inserted.{is_copy, destination, source}
use Rattle.ssa_search.specs.gets.Wants.{AreWantsOf, WantsView, gets_of}
use Rattle.ssa_build.specs.operands.Operands.{AreOperands, base_of}
use Rattle.ssa_build.specs.sources.Sweeping.{AreOperandsBefore, told_at}
use Rattle.ssa_build.proofs.lemmas.sources.Leaving.{set-source, source-set}
use Rattle.ssa_laws.specs.reaching_definitions.Laws.{IsTabled}
use Rattle.ssa_laws.specs.reaching_definitions.Tables.{else_passed, is_dest}
use Rattle.ssa_laws.specs.reaching_definitions.Told.{Source, argument, into_at, passed_by, table_of}
use Rattle.ssa_laws.proofs.lemmas.reaching_definitions.Tabled.{few}
use Rattle.ssa_laws.proofs.lemmas.reaching_definitions.Made.{entered-same}

-- ---- the definitions that tables tell have numbers below a bound

module _ (code : List Instr) (args : ℕ) (gets : ℕ → Location → Option ℕ) (bound : ℕ) (high : base_of code args ≤ bound) (got : (k y : ℕ) (a : Location) → gets k a ≡ Some y → y < bound) where
  argument-below : (a : Location) (y : ℕ) → argument args a ≡ Some y → y < bound
  argument-below a y e = let l = few args y (a, e) in omega (arith, l, high)

  behind-below : (i : ℕ) (o : Option Instr) → slice_get code i ≡ o → ((a : Location) (y : ℕ) → into_at code args gets i a ≡ Some y → y < bound) → (a : Location) (y : ℕ) → else_passed (gets i a) (passed_by o (args + i) (into_at code args gets i) a) ≡ Some y → y < bound
  behind-below i o at before a y e = by (gets i a) refl e
    where
      written-below : (x : ℕ) → destination o ≡ Some x → args + i < bound
      written-below x d = there o at d
        where
          there : (p : Option Instr) → slice_get code i ≡ p → destination p ≡ Some x → args + i < bound
          there None q h = absurd (let n : None ≡ Some x = h in cc)
          there (Some item) q h = let w = slice_get_within code i item q in omega (arith, w, high)

      dest-some : (d : Option ℕ) → is_dest d a ≡ true → (x : ℕ) × (d ≡ Some x)
      dest-some None h = absurd cc
      dest-some (Some x) h = (x, refl)

      passed : (c d : Bool) → is_copy o ≡ c → is_dest (destination o) a ≡ d → cond c (into_at code args gets i (source o a)) (cond d (Some (args + i)) (into_at code args gets i a)) ≡ Some y → y < bound
      passed true d c-is d-is h = before (source o a) y h
      passed false true c-is d-is h = let x = dest-some (destination o) d-is in let w = written-below x.0 x.1 in let s = same_Some (args + i) y h in omega (arith, w, s)
      passed false false c-is d-is h = before a y h

      by : (g : Option ℕ) → gets i a ≡ g → else_passed g (passed_by o (args + i) (into_at code args gets i) a) ≡ Some y → y < bound
      by None g h = passed (is_copy o) (is_dest (destination o) a) refl refl h
      by (Some z) g h = got i y a (g ∙ h)

  pub into-below : (i : ℕ) (a : Location) (y : ℕ) → into_at code args gets i a ≡ Some y → y < bound
  into-below zero a y e = argument-below a y (entered-same (slice_get code 0) (argument args a) y e)
  into-below (suc i) a y e = behind-below i (slice_get code i) refl (into-below i) a y (entered-same (slice_get code (suc i)) (else_passed (gets i a) (passed_by (slice_get code i) (args + i) (into_at code args gets i) a)) y e)

  pub told-below : (key : ℕ) (a : Location) (y : ℕ) → told_at code args gets key a ≡ Some y → y < bound
  told-below zero a y e = argument-below a y e
  told-below (suc p) a y e = behind-below p (slice_get code p) refl (into-below p) a y e

-- ---- the operands of a function

module _ (F : Func) (wants : WantsView) (is : AreWantsOf F wants) where
  -- the place of a `get` among the definitions
  pub get-place : (k y : ℕ) (a : Location) → gets_of wants k a ≡ Some y → (t : ℕ) × (t < length wants.list) × (y ≡ base_of F.code F.args + t)
  get-place k y a e =
      let l = is.listed k (record { location = number_of a; definition = y }) ((is.rows k).there a y e) in
      (l.0, slice_get_within wants.list l.0 (record { location = number_of a; definition = y }) l.1, is.numbered l.0 (record { location = number_of a; definition = y }) l.1)

  module _ (sound : AreSitesSound F.code) (tabled : IsTabled F.code F.args (gets_of wants)) (list : List Operand) (all : AreOperandsBefore F.code F.args (gets_of wants) (suc (length F.code)) list) where
    get-below : (o : Operand) → Contains list o → o.get < length wants.list
    get-below o c =
        let x = all.only o c in
        let p = get-place x.2.label (base_of F.code F.args + o.get) x.2.location x.2.get in
        let low = p.1 in
        let e = p.2 in
        omega (arith, low, e)

    pub gets-below : All (λ (o : Operand). o.get < length wants.list) list
    gets-below i d low = get-below (get_or list i d) (Contains-get_or list i d low)

    from-below : (o : Operand) → Contains list o → o.from < base_of F.code F.args + length wants.list
    from-below o c =
        let x = all.only o c in
        told-below F.code F.args (gets_of wants) (base_of F.code F.args + length wants.list) (omega arith) (λ k y a e. let p = get-place k y a e in let low = p.1 in let same = p.2 in omega (arith, low, same)) x.0 x.2.location o.from x.2.told

    pub froms-below : (v : OperandsView) → v.list ≡ list → v.gets ≡ length wants.list → All (λ from. from < base_of F.code F.args + v.gets) (sources_of v)
    froms-below v same many =
        All-map (λ from. from < base_of F.code F.args + v.gets) (λ (o : Operand). o.from) v.list
        (λ i d low. let l = from-below (get_or v.list i d) (subst (λ x. Contains x (get_or v.list i d)) same (Contains-get_or v.list i d low)) in omega (arith, l, many))

    pub are-operands : (v : OperandsView) → v.list ≡ list → v.gets ≡ length wants.list → AreOperands F.code F.args (gets_of wants) v
    are-operands v same many = record {
      numbered = λ k y a e. let p = get-place k y a e in (p.0, (let l = p.1 in omega (arith, l, many)), p.2);
      sources = λ k t z a get. (
        (λ s. let x = source-set F.code F.args (gets_of wants) sound tabled k t z a get s in subst (λ l. Contains l (record { get = t; from = z })) (sym same) (all.there x.0 t z x.1 x.2)),
        (λ c.
            let x = all.only (record { get = t; from = z }) (subst (λ l. Contains l (record { get = t; from = z })) same c) in
            let own = tabled.wanted.once x.2.label k (base_of F.code F.args + t) x.2.location a x.2.get get in
            subst (λ b. Source F.code (table_of F.code F.args (gets_of wants)) F.args k b z) own.1
            (subst (λ j. Source F.code (table_of F.code F.args (gets_of wants)) F.args j x.2.location z) own.0
            (set-source F.code F.args (gets_of wants) sound tabled x.0 t z x.2))),
      );
    }
