-- What keeps the items of a result well typed.
use Rattle.std.specs.Prelude.{◌≡◌, ◌⊎◌, ℕ, true, Some, None, is_some, slice_get}
use Rattle.bril_tree.specs.declared.numbered.Instr.{Instr}
use Rattle.bril_tree.specs.declared.numbered_function.Func.{Func}
use Rattle.bril_tree.specs.declared.program.Prog.{Prog}
use Rattle.bril_tree.specs.FunctionForm.{listed}
use Rattle.bril_tree.specs.Numbered.{variable_names, tree_at}
use Rattle.bril_tree.specs.Operand.{Variable, dest_of, reads_of}
use Rattle.bril_tree.specs.Shape.{is_shaped}
use Rattle.bril_tree.specs.Step.{code_of, item_at}
use Rattle.bril_tree.specs.Typing.{variable_type, type_fault, is_call_shaped}
use Rattle.bril_tree.specs.Membership.{In}
use Rattle.pass_edit_laws.specs.names.Named.{args_of, SameName}
use Rattle.bril_tree.specs.Accepted.{IsAccepted, AreWalksAccepted}
use Rattle.bril_tree.specs.Run.{types_of}
use Rattle.bril_tree.proofs.Typings.{type_of}
use Rattle.pass_edit_laws.specs.names.NamedPlan.{SameHeads}

-- the item gives its destination the type with which an item of P assigns the variable x
pub record HasTypeOfDest (P : Prog) (f x : ℕ) (b : Instr) : Type 0 where
  pub i : ℕ
  pub item : Instr
  pub at : item_at P f i ≡ Some item
  pub dest : dest_of item ≡ Some x
  pub ty : type_of b ≡ type_of item

-- the item meets its row of the table of operations
pub record FitsByItself (Q : Prog) (G : Func) (b : Instr) : Type 0 where
  pub shaped : is_shaped (is_some G.ret) b ≡ true
  pub calls : is_call_shaped Q G b ≡ true
  pub typed : type_fault Q G b ≡ None

-- an item of the old function, by its tree, whose variables keep the types that it needs
pub record StaysTyped (P Q : Prog) (f : ℕ) (F G : Func) (j : ℕ) (b : Instr) : Type 0 where
  pub i : ℕ
  pub tree : tree_at Q f j ≡ tree_at P f i
  pub dests : (x y : ℕ) → SameName (variable_names F.vars) (variable_names G.vars) x y → In y (listed (dest_of b)) → variable_type F.vars x ≡ variable_type G.vars y
  pub reads : (x y : ℕ) → SameName (variable_names F.vars) (variable_names G.vars) x y → In (Variable y) (reads_of b) → variable_type F.vars x ≡ variable_type G.vars y
  -- the one whose shadow a `set` assigns may lose its type
  pub names : (x y : ℕ) → SameName (variable_names F.vars) (variable_names G.vars) x y → In y (args_of b) → (variable_type G.vars y ≡ None) ⊎ (variable_type F.vars x ≡ variable_type G.vars y)

-- what a pass says of a function of its result, so that it is accepted
pub record Stays (P Q : Prog) (f : ℕ) (F G : Func) : Type 0 where
  -- each item fits by itself, or is one of the old function
  pub items : (j : ℕ) (b : Instr) → item_at Q f j ≡ Some b → FitsByItself Q G b ⊎ StaysTyped P Q f F G j b
  -- the walks are accepted
  pub walks : AreWalksAccepted (code_of Q f) G.args (is_some G.ret)

-- A program whose functions keep their names, arguments and results is accepted where each of them stays.
abbrev pub ResultAccepted : Type 0
ResultAccepted = (P Q : Prog) → IsAccepted P → SameHeads P Q → P.main ≡ Q.main
    → ((f : ℕ) (F G : Func) → slice_get P.funcs f ≡ Some F → slice_get Q.funcs f ≡ Some G → types_of (Some F) ≡ types_of (Some G))
    → ((f : ℕ) (F G : Func) → slice_get P.funcs f ≡ Some F → slice_get Q.funcs f ≡ Some G → Stays P Q f F G) → IsAccepted Q
