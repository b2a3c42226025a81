-- What a pass says of its result, beside its plan, so that the result is accepted.
use Rattle.std.specs.Prelude.{◌≡◌, ◌⊎◌, ℕ, ◌<◌, Some, slice_get, is_some}
use Rattle.bril_tree.specs.declared.numbered.Instr.{Instr}
use Rattle.bril_tree.specs.declared.numbered_function.Func.{Func}
use Rattle.bril_tree.specs.declared.program.Prog.{Prog}
use Rattle.bril_tree.specs.Accepted.{IsAccepted, AreWalksAccepted}
use Rattle.bril_tree.specs.Numbered.{variable_names, tree_at}
use Rattle.bril_tree.specs.Operand.{Variable, dest_of, reads_of}
use Rattle.bril_tree.specs.Step.{code_of, item_at}
use Rattle.bril_tree.specs.Typing.{variable_type}
use Rattle.bril_tree.specs.Walk.{IsReached}
use Rattle.bril_tree.specs.Membership.{In}
use Rattle.bril_tree.proofs.Typings.{IsDestination}
use Rattle.pass_edit_laws.specs.plan.Plan.{Plan, Preserves}
use Rattle.pass_edit_laws.specs.walks.Matched.{MatchesWalks}
use Rattle.pass_edit_laws.specs.names.Named.{SameName}
use Rattle.pass_edit_laws.specs.names.NamedPlan.{SameHeads}
use Rattle.pass_edit_laws.specs.acceptance.Stays.{HasTypeOfDest, FitsByItself}

-- a variable that is an argument, or that an item of the result assigns, has the type that the variable of its name had
abbrev pub KeepsTypes : (F G : Func) → Type 0
KeepsTypes F G = (x y : ℕ) → SameName (variable_names F.vars) (variable_names G.vars) x y → (y < G.args) ⊎ IsDestination G.code y → variable_type F.vars x ≡ variable_type G.vars y

-- An item that the pass made or rewrote. Where its destination has the name of an old variable, some item of P assigned
-- that one with this type; it meets its row of the table of operations, given that types are kept.
pub record IsNew (P Q : Prog) (f : ℕ) (F G : Func) (b : Instr) : Type 0 where
  pub dest : (x y : ℕ) → SameName (variable_names F.vars) (variable_names G.vars) x y → dest_of b ≡ Some y → HasTypeOfDest P f x b
  pub fits : KeepsTypes F G → FitsByItself Q G b

-- the variables that the item reads and that were destinations still are, of whichever items
abbrev pub LosesNoDestination : (P Q : Prog) (f : ℕ) (F G : Func) (b : Instr) → Type 0
LosesNoDestination P Q f F G b = (x y : ℕ) → SameName (variable_names F.vars) (variable_names G.vars) x y → In (Variable y) (reads_of b) → (i : ℕ) (a : Instr) → item_at P f i ≡ Some a → dest_of a ≡ Some x → IsDestination G.code y

-- an item of P, by its tree, that is reached, or whose variables stay destinations
pub record IsOld (P Q : Prog) (f : ℕ) (F G : Func) (j : ℕ) (b : Instr) : Type 0 where
  pub i : ℕ
  pub tree : tree_at Q f j ≡ tree_at P f i
  pub stays : IsReached (code_of Q f) j ⊎ LosesNoDestination P Q f F G b

-- what a pass says of a function of its result
pub record Edits (m : Plan) (P Q : Prog) (f : ℕ) (F G : Func) : Type 0 where
  pub items : (j : ℕ) (b : Instr) → item_at Q f j ≡ Some b → IsNew P Q f F G b ⊎ IsOld P Q f F G j b
  -- each walk is matched by one of P; or the walks are accepted for another reason
  pub walks : MatchesWalks m P Q f F.args G.args ⊎ AreWalksAccepted (code_of Q f) G.args (is_some G.ret)

-- From a plan that is preserved and an edit of each function follows that the result is accepted.
abbrev pub EditAccepted : (Prog → Prog → Plan) → Type 0
EditAccepted plan = (P Q : Prog) → IsAccepted P → Preserves (plan P Q) P Q → SameHeads P Q
    → ((f : ℕ) (F G : Func) → slice_get P.funcs f ≡ Some F → slice_get Q.funcs f ≡ Some G → Edits (plan P Q) P Q f F G) → IsAccepted Q
