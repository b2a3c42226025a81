-- What becomes of an item, and what it does where an answer is one value.
use Rattle.std.proofs.Common.{◌≡◌, ◌⊎◌, ℕ, Bool, true, false, cond, List, map, Option, Some, None, pos, refl, sym, ap, ◌∙◌, inl, inr}
use Rattle.std.specs.Prelude.{slice_index, unwrap_or}
use Rattle.std.specs.List.{list_any}
use Rattle.bril_tree.specs.declared.numbered.Instr.{Instr}
use Rattle.bril_tree.specs.declared.numbered.Instr.TheVariants.{Label, Const, Act}
use Rattle.bril_tree.specs.declared.operation.Op.TheVariants as op
use Rattle.bril_tree.specs.declared.types.Ty.{Ty}
use Rattle.bril_tree.specs.declared.value.Lit.{Lit}
use Rattle.bril_tree.specs.declared.value.Lit.TheVariants as literal
use Rattle.bril_tree.specs.declared.value.Value.{Value}
use Rattle.bril_tree.specs.declared.value.Value.TheVariants.{Int, Bool as Boolean, Char, Ptr}
use Rattle.bril_tree.specs.Locals.{value_at}
use Rattle.bril_tree.specs.Membership.{In}
use Rattle.bril_tree.specs.Numbered.{nop}
use Rattle.bril_tree.specs.Operand.{Location, Variable, Shadow, dest_of, reads_of}
use Rattle.bril_tree.specs.Outcome.{Outcome, Yields, FaultsWith, HasEffect, outcome_of, bool_of}
use Rattle.bril_tree.specs.Shape.{is_shaped}
use Rattle.bril_tree.specs.State.{Locals}
use Rattle.bril_tree.specs.Value.{literal_value}
use Rattle.bril_tree.proofs.Typings.{type_of}
use Rattle.constant_pass.specs.declared.constants.known.Known.{Known}
use Rattle.constant_pass.specs.declared.constants.known.Known.TheVariants.{Nothing, One, Many}
use Rattle.constant_pass.specs.constants.Known.{is_many, is_nothing, single}
use Rattle.constant_pass.specs.constants.Answer.{Knowledge, answer, given, known_outcome, locals_of}
use Rattle.constant_pass.specs.constants.Consistent.{Table}
use Rattle.constant_pass.proofs.lemmas.constants.Rules.{any-none, given-same}
use Rattle.constant_pass.specs.Items.{condition, constant_or, folded_item, jump_or, jump_to, literal_of, nop_or}
use Rattle.constant_pass.specs.Folded.{becomes}

-- ---- what becomes of an item

pub data Fate (k : Knowledge) (a b : Instr) : Type 0 where
  Stays : b ≡ a → Fate k a b
  -- its value is written out
  Folds : (x : ℕ) (ty : Ty) (l : Lit) → dest_of a ≡ Some x → type_of a ≡ Some ty → literal_of (answer k a) ≡ Some l → b ≡ Const x ty l → Fate k a b
  -- its way is known
  Jumps : (d : Option ℕ) (ty : Option Ty) (args fs ls : List ℕ) (v : Value) → a ≡ Act d ty op.Br args fs ls → k (Variable (slice_index args 0)) ≡ One v → b ≡ jump_to (slice_index ls (cond (bool_of v) 0 1)) → Fate k a b
  -- it never fails
  Passes : (d : Option ℕ) (ty : Option Ty) (args fs ls : List ℕ) (v : Value) → a ≡ Act d ty op.Guard args fs ls → k (Variable (slice_index args 0)) ≡ One v → bool_of v ≡ true → b ≡ nop → Fate k a b

constant_fate : (k : Knowledge) (a : Instr) (l : Option Lit) (d : Option ℕ) (t : Option Ty) → literal_of (answer k a) ≡ l → dest_of a ≡ d → type_of a ≡ t → Fate k a (constant_or l d t a)
constant_fate k a None d t el ed et = Stays refl
constant_fate k a (Some l) None t el ed et = Stays refl
constant_fate k a (Some l) (Some x) None el ed et = Stays refl
constant_fate k a (Some l) (Some x) (Some ty) el ed et = Folds x ty l ed et el refl

jump_fate : (k : Knowledge) (d : Option ℕ) (ty : Option Ty) (args fs ls : List ℕ) (c : Known) → k (Variable (slice_index args 0)) ≡ c → Fate k (Act d ty op.Br args fs ls) (jump_or (condition c) ls (Act d ty op.Br args fs ls))
jump_fate k d ty args fs ls Nothing e = Stays refl
jump_fate k d ty args fs ls (One v) e = Jumps d ty args fs ls v refl e refl
jump_fate k d ty args fs ls Many e = Stays refl

guard_fate : (k : Knowledge) (d : Option ℕ) (ty : Option Ty) (args fs ls : List ℕ) (c : Known) → k (Variable (slice_index args 0)) ≡ c → Fate k (Act d ty op.Guard args fs ls) (nop_or (condition c) (Act d ty op.Guard args fs ls))
guard_fate k d ty args fs ls Nothing e = Stays refl
guard_fate k d ty args fs ls (One v) e = by (bool_of v) refl
  where
    by : (b : Bool) → bool_of v ≡ b → Fate k (Act d ty op.Guard args fs ls) (nop_or (Some b) (Act d ty op.Guard args fs ls))
    by true eb = Passes d ty args fs ls v refl e eb refl
    by false eb = Stays refl
guard_fate k d ty args fs ls Many e = Stays refl

pub fate : (k : Knowledge) (a : Instr) → Fate k a (folded_item k a)
fate k (Label l) = Stays refl
fate k (Const d ty l) = Stays refl
fate k (Act d ty op.Br args fs ls) = jump_fate k d ty args fs ls (k (Variable (slice_index args 0))) refl
fate k (Act d ty op.Guard args fs ls) = guard_fate k d ty args fs ls (k (Variable (slice_index args 0))) refl
fate k (Act d ty o args fs ls) = constant_fate k (Act d ty o args fs ls) (literal_of (answer k (Act d ty o args fs ls))) d ty refl refl refl

-- at a point
pub fate_at : (t : Table) (i : ℕ) (a : Instr) → (becomes t i a ≡ a) ⊎ ((t.reached i ≡ true) × Fate t.known a (becomes t i a))
fate_at t i a = by (t.reached i) refl
  where
    by : (b : Bool) → t.reached i ≡ b → (cond b (folded_item t.known a) a ≡ a) ⊎ ((t.reached i ≡ true) × Fate t.known a (cond b (folded_item t.known a) a))
    by true e = inr (e, fate t.known a)
    by false e = inl refl

-- ---- one value

pub literal-one : (k : Known) (l : Lit) → literal_of k ≡ Some l → k ≡ One (literal_value l)
literal-one Nothing l e = absurd cc
literal-one (One (Int n)) l e = let s : literal.Int n ≡ l = cc in ap (λ z. One (literal_value z)) s
literal-one (One (Boolean b)) l e = let s : literal.Bool b ≡ l = cc in ap (λ z. One (literal_value z)) s
literal-one (One (Char c)) l e = let s : literal.Char c ≡ l = cc in ap (λ z. One (literal_value z)) s
literal-one (One (Ptr block offset)) l e = absurd cc
literal-one Many l e = absurd cc

known-yields : (o : Outcome) (v : Value) → known_outcome o ≡ One v → o ≡ Yields v
known-yields (Yields (Int n)) v e = let s : Int n ≡ v = cc in ap Yields s
known-yields (Yields (Boolean b)) v e = let s : Boolean b ≡ v = cc in ap Yields s
known-yields (Yields (Char c)) v e = let s : Char c ≡ v = cc in ap Yields s
known-yields (Yields (Ptr block offset)) v e = absurd cc
known-yields (FaultsWith kind) v e = absurd cc
known-yields HasEffect v e = absurd cc

one-value : (k : Known) → is_nothing k ≡ false → is_many k ≡ false → (v : Value) × (k ≡ One v)
one-value Nothing n m = absurd cc
one-value (One v) n m = (v, refl)
one-value Many n m = absurd cc

-- where an answer is one value, so is each operand, and the item gives the value
pub record OneAnswer (k : Knowledge) (a : Instr) (v : Value) : Type 0 where
  pub operands : (x : Location) → In x (reads_of a) → (w : Value) × (k x ≡ One w)
  pub gives : given a (locals_of k) ≡ Yields v

pub one-answer : (k : Knowledge) (a : Instr) (v : Value) → answer k a ≡ One v → OneAnswer k a v
one-answer k a v e = by (list_any is_nothing (map k (reads_of a))) refl (list_any is_many (map k (reads_of a))) refl e
  where
    by : (n : Bool) → list_any is_nothing (map k (reads_of a)) ≡ n → (m : Bool) → list_any is_many (map k (reads_of a)) ≡ m → cond n Nothing (cond m Many (known_outcome (given a (locals_of k)))) ≡ One v → OneAnswer k a v
    by true en m em e = absurd cc
    by false en true em e = absurd cc
    by false en false em e = record {
      operands = λ x i. one-value (k x) (any-none is_nothing k (reads_of a) x i en) (any-none is_many k (reads_of a) x i em);
      gives = known-yields (given a (locals_of k)) v e;
    }

-- what a location of one value holds
pub one-held : (k : Knowledge) (x : Location) (w : Value) → k x ≡ One w → value_at (locals_of k) x ≡ w
one-held k (Variable x) w e = ap (λ (a : Known). unwrap_or (single a) (Int (pos 0))) e
one-held k (Shadow x) w e = ap (λ (a : Known). unwrap_or (single a) (Int (pos 0))) e

-- where the locations hold what is known of the operands, the item gives the value
pub gives-known : (ret : Bool) (k : Knowledge) (a : Instr) (v : Value) (p : Locals) → is_shaped ret a ≡ true → answer k a ≡ One v → ((x : Location) (w : Value) → In x (reads_of a) → k x ≡ One w → value_at p x ≡ w) → given a p ≡ Yields v
gives-known ret k a v p shaped e holds =
    let one = one-answer k a v e in
    given-same ret a p (locals_of k) shaped (λ x i. let w = one.operands x i in holds x w.0 i w.1 ∙ sym (one-held k x w.0 w.1)) ∙ one.gives

-- what an item with a destination gives is its outcome
pub given-outcome : (ret : Bool) (a : Instr) (x : ℕ) (p : Locals) (v : Value) → is_shaped ret a ≡ true → dest_of a ≡ Some x → given a p ≡ Yields v → outcome_of a p ≡ Yields v
given-outcome ret (Label l) x p v s d e = absurd cc
given-outcome ret (Const y ty l) x p v s d e = e
given-outcome ret (Act None ty o args fs ls) x p v s d e = absurd cc
given-outcome ret (Act (Some y) ty op.Set args fs ls) x p v s d e = absurd cc
given-outcome ret (Act (Some y) ty o args fs ls) x p v s d e = e
