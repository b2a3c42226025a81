-- The one values of the least table are of the types of their locations.
use Rattle.std.proofs.Common.{◌≡◌, ℕ, zero, suc, Bool, true, false, cond, ◌&&◌, List, length, map, Option, Some, None, ℤ, pos, negsuc, refl, sym, ap, subst, ◌∙◌, inl, inr, arith}
use Rattle.std.specs.Prelude.{slice_get, slice_index, is_some, nat_lt, ◌==◌, ◌+ℤ◌}
use Rattle.std.proofs.lemmas.Bool.{and_parts}
use Rattle.std.proofs.lemmas.Bool.Decides.{nat_tests}
use Rattle.bril_tree.specs.declared.limits.Fault.TheVariants.{BadChar, PtrRange}
use Rattle.bril_tree.specs.declared.numbered.Instr.{Instr}
use Rattle.bril_tree.specs.declared.numbered.Instr.TheVariants.{Label, Const, Act}
use Rattle.bril_tree.specs.declared.numbered_function.Func.{Func}
use Rattle.bril_tree.specs.declared.operation.Op.{Op}
use Rattle.bril_tree.specs.declared.operation.Op.TheVariants as op
use Rattle.bril_tree.specs.declared.program.Prog.{Prog}
use Rattle.bril_tree.specs.declared.types.Base.{Base}
use Rattle.bril_tree.specs.declared.types.Base.TheVariants as base
use Rattle.bril_tree.specs.declared.types.Ty.{Ty}
use Rattle.bril_tree.specs.declared.value.Lit.{Lit}
use Rattle.bril_tree.specs.declared.value.Lit.TheVariants as literal
use Rattle.bril_tree.specs.declared.value.Value.{Value}
use Rattle.bril_tree.specs.declared.value.Value.TheVariants.{Int, Bool as Boolean, Char, Ptr}
use Rattle.bril_tree.specs.Assigned.{assigns_of}
use Rattle.bril_tree.specs.FunctionForm.{listed}
use Rattle.bril_tree.specs.Locals.{location_type, value_at}
use Rattle.bril_tree.specs.Membership.{In}
use Rattle.bril_tree.specs.Operand.{Location, Variable, Shadow, reads_of}
use Rattle.bril_tree.specs.Outcome.{Yields, FaultsWith, computed, argument, divided, char_from, is_scalar, moved, fits_32, undefined, int_of, block_of, offset_of, int_same}
use Rattle.bril_tree.specs.Shape.{is_shaped, shape_of}
use Rattle.bril_tree.specs.State.{read}
use Rattle.bril_tree.specs.Typing.{argument_type, variable_type, both_typed, same_type, same_base, is_plain, is_pointer, is_literal_typed, is_dest_typed, is_action_typed, is_set_typed, if_typed, type_fault}
use Rattle.bril_tree.specs.Value.{literal_value, zero_of, zero_at}
use Rattle.bril_tree.proofs.Shapes.{shape-parts}
use Rattle.bril_tree.proofs.Typings.{same_type-is}
use Rattle.type_soundness.proofs.Locals.{act-typed, both-parts}
use Rattle.constant_pass.specs.declared.constants.known.Known.{Known}
use Rattle.constant_pass.specs.declared.constants.known.Known.TheVariants.{Nothing, One, Many}
use Rattle.constant_pass.specs.constants.Known.{IsBelow}
use Rattle.constant_pass.specs.constants.Answer.{Knowledge, answer, locals_of}
use Rattle.constant_pass.specs.constants.Consistent.{IsConsistent, IsLeast, Table}
use Rattle.constant_pass.proofs.lemmas.constants.Rules.{below-trans, answer-rises, ways-rise, first-read}
use Rattle.constant_pass.proofs.Fates.{OneAnswer, one-answer, one-held}

-- ---- values of types

abbrev pub is_at : ℕ → Base → Value → Bool
is_at depth b (Int n) = (depth == 0) && same_base base.Int b
is_at depth b (Boolean x) = (depth == 0) && same_base base.Bool b
is_at depth b (Char c) = (depth == 0) && same_base base.Char b
is_at depth b (Ptr block offset) = nat_lt 0 depth

abbrev pub is_typed : Option Ty → Value → Bool
is_typed None v = true
is_typed (Some ty) v = is_at ty.depth ty.base v

both-typed : (s t : Option Ty) (v : Value) → both_typed same_type s t ≡ true → is_typed s v ≡ true → is_typed t v ≡ true
both-typed None t v e h = absurd cc
both-typed (Some s) None v e h = absurd cc
both-typed (Some s) (Some t) v e h = subst (λ (u : Ty). is_at u.depth u.base v ≡ true) (same_type-is s t e) h

int-typed : (ty : Option Ty) (n : ℤ) (v : Value) → if_typed (is_plain base.Int) ty ≡ true → Yields (Int n) ≡ Yields v → is_typed ty v ≡ true
int-typed None n v t e = absurd cc
int-typed (Some ty) n v t e = let same : Int n ≡ v = cc in subst (λ w. is_at ty.depth ty.base w ≡ true) same t

bool-typed : (ty : Option Ty) (b : Bool) (v : Value) → if_typed (is_plain base.Bool) ty ≡ true → Yields (Boolean b) ≡ Yields v → is_typed ty v ≡ true
bool-typed None b v t e = absurd cc
bool-typed (Some ty) b v t e = let same : Boolean b ≡ v = cc in subst (λ w. is_at ty.depth ty.base w ≡ true) same t

char-typed : (ty : Option Ty) (c : ℕ) (v : Value) → if_typed (is_plain base.Char) ty ≡ true → Yields (Char c) ≡ Yields v → is_typed ty v ≡ true
char-typed None c v t e = absurd cc
char-typed (Some ty) c v t e = let same : Char c ≡ v = cc in subst (λ w. is_at ty.depth ty.base w ≡ true) same t

divided-typed : (b : Bool) (ty : Option Ty) (x y : ℤ) (v : Value) → if_typed (is_plain base.Int) ty ≡ true → divided b x y ≡ Yields v → is_typed ty v ≡ true
divided-typed true ty x y v t e = absurd cc
divided-typed false ty x y v t e = int-typed ty _ v t e

char_by_test : (b : Bool) (ty : Option Ty) (n : ℕ) (v : Value) → if_typed (is_plain base.Char) ty ≡ true → cond b (Yields (Char n)) (FaultsWith BadChar) ≡ Yields v → is_typed ty v ≡ true
char_by_test true ty n v t e = char-typed ty n v t e
char_by_test false ty n v t e = absurd cc

char_from-typed : (ty : Option Ty) (z : ℤ) (v : Value) → if_typed (is_plain base.Char) ty ≡ true → char_from z ≡ Yields v → is_typed ty v ≡ true
char_from-typed ty (pos n) v t e = char_by_test (is_scalar n) ty n v t e
char_from-typed ty (negsuc n) v t e = absurd cc

moved_by_test : (b : Bool) (ty : Ty) (block : ℕ) (offset : ℤ) (v : Value) → is_pointer ty ≡ true → cond b (Yields (Ptr block offset)) (FaultsWith PtrRange) ≡ Yields v → is_at ty.depth ty.base v ≡ true
moved_by_test true ty block offset v p e = let same : Ptr block offset ≡ v = cc in subst (λ w. is_at ty.depth ty.base w ≡ true) same p
moved_by_test false ty block offset v p e = absurd cc

moved-typed : (ty : Option Ty) (block : ℕ) (offset : ℤ) (v : Value) → if_typed is_pointer ty ≡ true → moved block offset ≡ Yields v → is_typed ty v ≡ true
moved-typed None block offset v p e = absurd cc
moved-typed (Some ty) block offset v p e = moved_by_test (fits_32 offset) ty block offset v p e

zero-typed : (depth : ℕ) (b : Base) → is_at depth b (zero_at depth b) ≡ true
zero-typed zero base.Int = refl
zero-typed zero base.Bool = refl
zero-typed zero base.Char = refl
zero-typed (suc depth) b = grind (arith, nat_tests)

undefined-typed : (ty : Option Ty) (v : Value) → undefined ty ≡ Yields v → is_typed ty v ≡ true
undefined-typed None v e = refl
undefined-typed (Some ty) v e = let same : zero_of ty ≡ v = cc in subst (λ w. is_at ty.depth ty.base w ≡ true) same (zero-typed ty.depth ty.base)

pointer-type : (s t : Option Ty) → both_typed same_type s t ≡ true → if_typed is_pointer s ≡ true → if_typed is_pointer t ≡ true
pointer-type None t e h = absurd cc
pointer-type (Some s) None e h = absurd cc
pointer-type (Some s) (Some t) e h = subst (λ (u : Ty). is_pointer u ≡ true) (same_type-is s t e) h

-- what an operation computes is of its type, where `id` reads a value of its own type
computed-typed : (p : Prog) (f : Func) (o : Op) (ty : Option Ty) (args funcs : List ℕ) (a b v : Value) → is_action_typed p f o ty args funcs ≡ true → (o ≡ op.Id → is_typed (argument_type f.vars args 0) a ≡ true) → computed o ty a b ≡ Yields v → is_typed ty v ≡ true
computed-typed p f op.Add ty args funcs a b v t first e = int-typed ty _ v (and_parts _ _ t).1 e
computed-typed p f op.Sub ty args funcs a b v t first e = int-typed ty _ v (and_parts _ _ t).1 e
computed-typed p f op.Mul ty args funcs a b v t first e = int-typed ty _ v (and_parts _ _ t).1 e
computed-typed p f op.Div ty args funcs a b v t first e = divided-typed (int_same (int_of b) (pos 0)) ty _ _ v (and_parts _ _ t).1 e
computed-typed p f op.Eq ty args funcs a b v t first e = bool-typed ty _ v (and_parts _ _ t).1 e
computed-typed p f op.Lt ty args funcs a b v t first e = bool-typed ty _ v (and_parts _ _ t).1 e
computed-typed p f op.Gt ty args funcs a b v t first e = bool-typed ty _ v (and_parts _ _ t).1 e
computed-typed p f op.Le ty args funcs a b v t first e = bool-typed ty _ v (and_parts _ _ t).1 e
computed-typed p f op.Ge ty args funcs a b v t first e = bool-typed ty _ v (and_parts _ _ t).1 e
computed-typed p f op.Ceq ty args funcs a b v t first e = bool-typed ty _ v (and_parts _ _ t).1 e
computed-typed p f op.Clt ty args funcs a b v t first e = bool-typed ty _ v (and_parts _ _ t).1 e
computed-typed p f op.Cgt ty args funcs a b v t first e = bool-typed ty _ v (and_parts _ _ t).1 e
computed-typed p f op.Cle ty args funcs a b v t first e = bool-typed ty _ v (and_parts _ _ t).1 e
computed-typed p f op.Cge ty args funcs a b v t first e = bool-typed ty _ v (and_parts _ _ t).1 e
computed-typed p f op.Not ty args funcs a b v t first e = bool-typed ty _ v (and_parts _ _ t).1 e
computed-typed p f op.And ty args funcs a b v t first e = bool-typed ty _ v (and_parts _ _ t).1 e
computed-typed p f op.Or ty args funcs a b v t first e = bool-typed ty _ v (and_parts _ _ t).1 e
computed-typed p f op.Id ty args funcs a b v t first e = let same : a ≡ v = cc in subst (λ w. is_typed ty w ≡ true) same (both-typed (argument_type f.vars args 0) ty a t (first refl))
computed-typed p f op.PtrAdd ty args funcs a b v t first e =
    let parts = and_parts _ _ t in
    moved-typed ty (block_of a) (offset_of a +ℤ int_of b) v (pointer-type (argument_type f.vars args 0) ty parts.1 (and_parts _ _ parts.0).0) e
computed-typed p f op.CharToInt ty args funcs a b v t first e = int-typed ty _ v (and_parts _ _ t).1 e
computed-typed p f op.IntToChar ty args funcs a b v t first e = char_from-typed ty (int_of a) v (and_parts _ _ t).1 e
computed-typed p f op.Undef ty args funcs a b v t first e = undefined-typed ty v e
computed-typed p f _ ty args funcs a b v t first e = absurd cc

literal-typed : (l : Lit) (ty : Ty) → is_literal_typed l ty ≡ true → is_at ty.depth ty.base (literal_value l) ≡ true
literal-typed (literal.Int n) ty e = e
literal-typed (literal.Bool b) ty e = e
literal-typed (literal.Char c) ty e = e

-- a value of a type is a literal of that type
pub literal-fits : (l : Lit) (ty : Ty) → is_at ty.depth ty.base (literal_value l) ≡ true → is_literal_typed l ty ≡ true
literal-fits (literal.Int n) ty e = e
literal-fits (literal.Bool b) ty e = e
literal-fits (literal.Char c) ty e = e

-- ---- answers

module _ (p : Prog) (f : Func) (k : Knowledge) where
  -- the one values of what the item reads are of their types
  abbrev pub AreTyped : Instr → Type 0
  AreTyped a = (x : Location) (w : Value) → In x (reads_of a) → k x ≡ One w → is_typed (location_type f x) w ≡ true

  dest-typed : (d : Option ℕ) (ty : Option Ty) (v : Value) (x : Location) → is_dest_typed p f d ty ≡ true → is_typed ty v ≡ true → In x (map Variable (listed d)) → is_typed (location_type f x) v ≡ true
  dest-typed None ty v x t h i = absurd i
  dest-typed (Some y) ty v x t h (inl e) = subst (λ z. is_typed (location_type f z) v ≡ true) (sym e) (both-typed ty (variable_type f.vars y) v t h)
  dest-typed (Some y) ty v x t h (inr i) = absurd i

  set-typed : (s t : Option Ty) (v : Value) → is_set_typed s t ≡ true → is_typed t v ≡ true → is_typed s v ≡ true
  set-typed s None v e h = absurd cc
  set-typed None (Some t) v e h = refl
  set-typed (Some s) (Some t) v e h = subst (λ (u : Ty). is_at u.depth u.base v ≡ true) (sym (same_type-is s t e)) h

  -- a variable that is read
  held-typed : (a : Instr) (v : Value) → OneAnswer k a v → AreTyped a → (x : Location) → In x (reads_of a) → (u : Value) → value_at (locals_of k) x ≡ u → is_typed (location_type f x) u ≡ true
  held-typed a v one typed x i u e = let w = one.operands x i in subst (λ z. is_typed (location_type f x) z ≡ true) (sym (one-held k x w.0 w.1) ∙ e) (typed x w.0 i w.1)

  get-typed : (d : Option ℕ) (ty : Option Ty) (args fs ls : List ℕ) (v : Value) → OneAnswer k (Act d ty op.Get args fs ls) v → AreTyped (Act d ty op.Get args fs ls) → (x : Location) → In x (map Variable (listed d)) → is_typed (location_type f x) v ≡ true
  get-typed None ty args fs ls v one typed x i = absurd i
  get-typed (Some y) ty args fs ls v one typed x (inl e) =
      let same : read (locals_of k).shadows y ≡ v = (let g = one.gives in cc) in
      subst (λ z. is_typed (location_type f z) v ≡ true) (sym e) (held-typed (Act (Some y) ty op.Get args fs ls) v one typed (Shadow y) (inl refl) v same)
  get-typed (Some y) ty args fs ls v one typed x (inr i) = absurd i

  pub answer-typed : (a : Instr) (v : Value) → is_shaped (is_some f.ret) a ≡ true → type_fault p f a ≡ None → AreTyped a → answer k a ≡ One v → (x : Location) → In x (assigns_of a) → is_typed (location_type f x) v ≡ true
  answer-typed (Label l) v shaped fault typed e x i = absurd i
  answer-typed (Const d ty l) v shaped fault typed e x i =
      let both = both-parts (is_dest_typed p f (Some d) (Some ty)) (is_literal_typed l ty) fault in
      let one = one-answer k (Const d ty l) v e in
      let same : literal_value l ≡ v = (let g = one.gives in cc) in
      dest-typed (Some d) (Some ty) v x both.0 (subst (λ w. is_at ty.depth ty.base w ≡ true) same (literal-typed l ty both.1)) i
  answer-typed (Act d ty op.Set args fs ls) v shaped fault typed e x (inl s) =
      let t = act-typed p f op.Set d ty args fs ls shaped fault in
      let one = one-answer k (Act d ty op.Set args fs ls) v e in
      let same : argument (locals_of k) args 1 ≡ v = (let g = one.gives in cc) in
      subst (λ z. is_typed (location_type f z) v ≡ true) (sym s)
      (set-typed (argument_type f.vars args 0) (argument_type f.vars args 1) v t.operands_typed (held-typed (Act d ty op.Set args fs ls) v one typed (Variable (slice_index args 1)) (inl refl) v same))
  answer-typed (Act d ty op.Set args fs ls) v shaped fault typed e x (inr i) = absurd i
  answer-typed (Act d ty op.Get args fs ls) v shaped fault typed e x i = get-typed d ty args fs ls v (one-answer k (Act d ty op.Get args fs ls) v e) typed x i
  answer-typed (Act d ty op.Id args fs ls) v shaped fault typed e x i =
      let t = act-typed p f op.Id d ty args fs ls shaped fault in
      let one = one-answer k (Act d ty op.Id args fs ls) v e in
      let parts = shape-parts (shape_of (is_some f.ret) op.Id) (is_some d) (length args) (length fs) (length ls) shaped in
      dest-typed d ty v x t.dest_typed
      (computed-typed p f op.Id ty args fs (argument (locals_of k) args 0) (argument (locals_of k) args 1) v t.operands_typed
      (λ same. held-typed (Act d ty op.Id args fs ls) v one typed (Variable (slice_index args 0)) (first-read args parts.args_are) (argument (locals_of k) args 0) refl) one.gives) i
  answer-typed (Act d ty op.Print args fs ls) v shaped fault typed e x i = absurd (let one = one-answer k (Act d ty op.Print args fs ls) v e in let g = one.gives in cc)
  answer-typed (Act d ty o args fs ls) v shaped fault typed e x i =
      let t = act-typed p f o d ty args fs ls shaped fault in
      let one = one-answer k (Act d ty o args fs ls) v e in
      dest-typed d ty v x t.dest_typed (computed-typed p f o ty args fs (argument (locals_of k) args 0) (argument (locals_of k) args 1) v t.operands_typed (λ same. absurd cc) one.gives) i

-- ---- the least table

abbrev pub typed_only : Option Ty → Known → Known
typed_only ty Nothing = Nothing
typed_only ty (One v) = cond (is_typed ty v) (One v) Nothing
typed_only ty Many = Many

typed-one : (ty : Option Ty) (k : Known) (w : Value) → typed_only ty k ≡ One w → is_typed ty w ≡ true
typed-one ty Nothing w e = absurd cc
typed-one ty (One v) w e = by (is_typed ty v) refl e
  where
    by : (b : Bool) → is_typed ty v ≡ b → cond b (One v) Nothing ≡ One w → is_typed ty w ≡ true
    by true t e = let same : v ≡ w = cc in subst (λ u. is_typed ty u ≡ true) same t
    by false t e = absurd cc
typed-one ty Many w e = absurd cc

typed-below : (ty : Option Ty) (k : Known) → IsBelow (typed_only ty k) k
typed-below ty Nothing = tt
typed-below ty (One v) = by (is_typed ty v)
  where
    by : (b : Bool) → IsBelow (cond b (One v) Nothing) (One v)
    by true = refl
    by false = tt
typed-below ty Many = tt

-- what is typed is below what is typed only
typed-above : (ty : Option Ty) (a k : Known) → IsBelow a k → ((v : Value) → a ≡ One v → is_typed ty v ≡ true) → IsBelow a (typed_only ty k)
typed-above ty Nothing k h t = tt
typed-above ty (One v) Nothing h t = absurd h
typed-above ty (One v) (One w) h t = subst (λ b. IsBelow (One v) (cond b (One w) Nothing)) (sym (subst (λ u. is_typed ty u ≡ true) h (t v refl))) h
typed-above ty (One v) Many h t = tt
typed-above ty Many Nothing h t = absurd h
typed-above ty Many (One w) h t = absurd h
typed-above ty Many Many h t = tt

one-typed : (ty : Option Ty) (v : Value) → IsBelow (One v) (typed_only ty (One v)) → is_typed ty v ≡ true
one-typed ty v h = by (is_typed ty v) refl h
  where
    by : (b : Bool) → is_typed ty v ≡ b → IsBelow (One v) (cond b (One v) Nothing) → is_typed ty v ≡ true
    by true e h = e
    by false e h = absurd h

module _ (p : Prog) (f : Func) (shaped : (i : ℕ) (a : Instr) → slice_get f.code i ≡ Some a → is_shaped (is_some f.ret) a ≡ true) (typed : (i : ℕ) (a : Instr) → slice_get f.code i ≡ Some a → type_fault p f a ≡ None) (t : Table) (least : IsLeast f.code f.args t) where
  abbrev u : Table
  u = record { known = λ x. typed_only (location_type f x) (t.known x); reached = t.reached }

  u-consistent : IsConsistent f.code f.args u
  u-consistent = record {
    start = least.consistent.start;
    arguments = λ x low. ap (typed_only (location_type f (Variable x))) (least.consistent.arguments x low);
    assigned = λ i a at r x h.
        typed-above (location_type f x) (answer u.known a) (t.known x)
        (below-trans (answer u.known a) (answer t.known a) (t.known x) (answer-rises (is_some f.ret) a (shaped i a at) u.known t.known (λ y j. typed-below (location_type f y) (t.known y))) (least.consistent.assigned i a at r x h))
        (λ v e. answer-typed p f u.known a v (shaped i a at) (typed i a at) (λ y w j k. typed-one (location_type f y) (t.known y) w k) e x h);
    leads = λ i a at r to h. least.consistent.leads i a at r to (ways-rise u.known t.known f.code i a to (λ y. typed-below (location_type f y) (t.known y)) h);
  }

  pub least-typed : (x : Location) (v : Value) → t.known x ≡ One v → is_typed (location_type f x) v ≡ true
  least-typed x v e = one-typed (location_type f x) v (subst (λ k. IsBelow k (typed_only (location_type f x) k)) e ((least.least u u-consistent).known x))
