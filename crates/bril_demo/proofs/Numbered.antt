-- The numbered functions of the demo program, other than `main`: their form, and why they are accepted in any program.
use Rattle.std.proofs.Common.{◌≡◌, ◌∙◌, refl, sym, ap, subst, true, false, ℕ, zero, suc, ◌<◌, ◌≤◌, List, [], ◌∷◌, map, Option, Some, None, arith}
use Rattle.std.specs.Prelude.{pos, slice_get, slice_index_or, codes, is_none, IsSome, IsTrue}
use Rattle.std.specs.List.{range_with_len}
use Rattle.bril_tree.specs.declared.numbered.Instr.{Instr}
use Rattle.bril_tree.specs.declared.numbered.Instr.TheVariants.{Label, Const, Act}
use Rattle.bril_tree.specs.declared.numbered.VarInfo.{VarInfo}
use Rattle.bril_tree.specs.declared.numbered_function.Func.{Func}
use Rattle.bril_tree.specs.declared.operation.Op.{Op}
use Rattle.bril_tree.specs.declared.operation.Op.TheVariants as op
use Rattle.bril_tree.specs.declared.program.Prog.{Prog}
use Rattle.bril_tree.specs.declared.types.Base.{Base}
use Rattle.bril_tree.specs.declared.types.Base.TheVariants as base
use Rattle.bril_tree.specs.declared.types.Ty.{Ty}
use Rattle.bril_tree.specs.declared.value.Lit.TheVariants as lit
use Rattle.bril_tree.specs.Accepted.{AreWalksAccepted, IsAcceptedFunction}
use Rattle.bril_tree.specs.FunctionForm.{IsFunctionForm, first_type}
use Rattle.bril_tree.specs.Numbered.{function_tree}
use Rattle.bril_tree.specs.Operand.{Location, Variable}
use Rattle.bril_tree.specs.Shape.{is_shaped}
use Rattle.bril_tree.specs.Typing.{is_call_shaped, type_fault, TypeFault}
use Rattle.bril_demo.specs.Demo.{demo_function, divisor_of, factor_of, function_name, plain}
use Rattle.bril_demo.proofs.Quiet.{is_quiet, quiet_accepted}
use Rattle.bril_demo.proofs.Tested.{Tabled, all_tested, differ_pairs, flows_tabled, never_reached, quiet_tested, reads_tabled}

-- ---- the function

abbrev pub variable : List ℕ → Base → VarInfo
variable name b = record { name = name; ty = Some (plain b) }

abbrev pub function_variables : List VarInfo
function_variables =
    variable (codes "n") base.Int ∷ variable (codes "one") base.Int ∷ variable (codes "a") base.Int ∷ variable (codes "b") base.Int ∷ variable (codes "s") base.Int ∷
    variable (codes "i") base.Int ∷ variable (codes "c") base.Bool ∷ variable (codes "t") base.Int ∷ variable (codes "u") base.Int ∷ variable (codes "o") base.Bool ∷ []

abbrev pub function_labels : List (List ℕ)
function_labels = codes "head" ∷ codes "body" ∷ codes "big" ∷ codes "next" ∷ codes "done" ∷ []

abbrev pub number : ℕ → ℕ → Instr
number x value = Const x (plain base.Int) (lit.Int (pos value))

abbrev pub operation : ℕ → Base → Op → ℕ → ℕ → Instr
operation x b o left right = Act (Some x) (Some (plain b)) o (left ∷ right ∷ []) [] []

abbrev pub goes : Op → List ℕ → List ℕ → Instr
goes o args labels = Act None None o args [] labels

abbrev pub function_code : (a b : ℕ) → List Instr
function_code a b =
    number 1 1 ∷ number 2 a ∷ number 3 b ∷ number 4 0 ∷ number 5 0 ∷
    Label 0 ∷ operation 6 base.Bool op.Lt 5 0 ∷ goes op.Br (6 ∷ []) (1 ∷ 4 ∷ []) ∷
    Label 1 ∷ operation 7 base.Int op.Mul 5 2 ∷ operation 8 base.Int op.Div 7 3 ∷ operation 4 base.Int op.Add 4 8 ∷
    operation 9 base.Bool op.Gt 8 2 ∷ goes op.Br (9 ∷ []) (2 ∷ 3 ∷ []) ∷
    Label 2 ∷ operation 4 base.Int op.Sub 4 2 ∷
    Label 3 ∷ operation 5 base.Int op.Add 5 1 ∷ goes op.Jmp [] (0 ∷ []) ∷
    Label 4 ∷ goes op.Ret (4 ∷ []) [] ∷ []

abbrev type_in : Option VarInfo → Option Ty
type_in None = None
type_in (Some v) = v.ty

one_type : {v w : VarInfo} {t : Option Ty} → Some w ≡ Some v → w.ty ≡ t → v.ty ≡ t
one_type e is = sym (ap type_in e) ∙ is

none_there : {v : VarInfo} {A : Type 0} → None ≡ Some v → A
none_there e = absurd cc

pub function_form : (a b : ℕ) → IsFunctionForm 1 function_variables function_labels (function_code a b)
function_form a b = record {
  few_args = omega arith;
  appear = refl;
  args_typed = arguments;
  types = typed_so;
  vars_differ = differ_pairs (λ v. v.name) function_variables refl;
  placed = refl;
  targets = refl;
  labels_differ = differ_pairs (λ l. l) function_labels refl;
  typed = refl;
}
  where
    arguments : (x : ℕ) (v : VarInfo) → x < 1 → slice_get function_variables x ≡ Some v → IsSome v.ty
    arguments zero v less e = let is : v.ty ≡ Some (plain base.Int) = one_type e refl in subst IsSome (sym is) refl
    arguments (suc x) v less e = absurd (omega arith)

    typed_so : (x : ℕ) (v : VarInfo) → 1 ≤ x → slice_get function_variables x ≡ Some v → v.ty ≡ first_type x (function_code a b)
    typed_so zero v from e = absurd (omega arith)
    typed_so (suc zero) v from e = one_type e refl
    typed_so (suc (suc zero)) v from e = one_type e refl
    typed_so (suc (suc (suc zero))) v from e = one_type e refl
    typed_so (suc (suc (suc (suc zero)))) v from e = one_type e refl
    typed_so (suc (suc (suc (suc (suc zero))))) v from e = one_type e refl
    typed_so (suc (suc (suc (suc (suc (suc zero)))))) v from e = one_type e refl
    typed_so (suc (suc (suc (suc (suc (suc (suc zero))))))) v from e = one_type e refl
    typed_so (suc (suc (suc (suc (suc (suc (suc (suc zero)))))))) v from e = one_type e refl
    typed_so (suc (suc (suc (suc (suc (suc (suc (suc (suc zero))))))))) v from e = one_type e refl
    typed_so (suc (suc (suc (suc (suc (suc (suc (suc (suc (suc x)))))))))) v from e = none_there e

-- function j of the demo of n functions
unfoldable pub numbered_function : (n j : ℕ) → Func
numbered_function n j = record {
  name = function_name j;
  args = 1;
  vars = function_variables;
  labels = function_labels;
  ret = Some (plain base.Int);
  code = function_code (factor_of n j) (divisor_of n j);
  formed = function_form (factor_of n j) (divisor_of n j);
}

pub numbered_tree : (names : List (List ℕ)) (n j : ℕ) → function_tree names (numbered_function n j) ≡ demo_function n j
unfolding numbered_function
numbered_tree names n j = refl

-- ---- it is accepted

-- variables 0 to n - 1
abbrev pub first_ones : ℕ → List Location
first_ones n = map Variable (range_with_len 0 n)

-- the variables that are assigned at each point, on each walk
abbrev pub assigned_lists : List (List Location)
assigned_lists =
    map first_ones (1 ∷ 2 ∷ 3 ∷ 4 ∷ 5 ∷ 6 ∷ 6 ∷ 7 ∷ 7 ∷ 7 ∷ 8 ∷ 9 ∷ 9 ∷ 10 ∷ 6 ∷ 6 ∷ 6 ∷ 6 ∷ 6 ∷ 6 ∷ 6 ∷ [])

abbrev pub assigned_at : ℕ → List Location
assigned_at i = slice_index_or assigned_lists i []

module _ (a b : ℕ) where
  quiet : (i : ℕ) (item : Instr) → slice_get (function_code a b) i ≡ Some item → is_quiet item ≡ true
  quiet = quiet_tested (function_code a b) refl

  function_walks : AreWalksAccepted (function_code a b) 1 true
  function_walks =
      quiet_accepted (function_code a b) quiet 1 true (Tabled (function_code a b) assigned_at) (flows_tabled (function_code a b) assigned_at refl refl quiet 1 refl)
      (reads_tabled (function_code a b) assigned_at refl refl)
      (λ returns reached. never_reached (function_code a b) 21 (omega arith) refl reached)

pub function_accepted : (p : Prog) (n j : ℕ) → IsAcceptedFunction p (numbered_function n j)
unfolding numbered_function
function_accepted p n j =
    let walks = function_walks (factor_of n j) (divisor_of n j) in
    let code = function_code (factor_of n j) (divisor_of n j) in
    record {
      shaped = all_tested (λ item. IsTrue (is_shaped true item)) (is_shaped true) (λ item e. e) code refl;
      calls = all_tested (λ item. IsTrue (is_call_shaped p (numbered_function n j) item)) (is_call_shaped p (numbered_function n j)) (λ item e. e) code refl;
      typed = all_tested (λ item. type_fault p (numbered_function n j) item ≡ None) (λ item. is_none (type_fault p (numbered_function n j) item)) (λ item. none_tested (type_fault p (numbered_function n j) item)) code refl;
      sites = walks.sites;
      alone = walks.alone;
      returns = λ some. walks.returns refl;
      assigned = walks.assigned;
    }
  where
    none_tested : (o : Option TypeFault) → is_none o ≡ true → o ≡ None
    none_tested None e = refl
    none_tested (Some fault) e = absurd (let f : false ≡ true = e in cc)
