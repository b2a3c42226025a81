-- One item of the sweep: its locations are in the array, and the array goes on to tell the tables.
use Rattle.std.proofs.Common.{◌≡◌, ℕ, suc, ◌+◌, ◌*◌, ◌<◌, Bool, true, List, length, Option, Some, None, refl, sym, subst, inl, arith}
use Rattle.std.specs.Prelude.{is_some, slice_get}
use Rattle.bril_tree.specs.declared.numbered.Instr.{Instr}
use Rattle.bril_tree.specs.declared.numbered.Instr.TheVariants.{Label, Const, Act}
use Rattle.bril_tree.specs.declared.numbered_function.Func.{Func}
use Rattle.bril_tree.specs.declared.operation.Op.{Op}
use Rattle.bril_tree.specs.declared.operation.Op.TheVariants as op
use Rattle.bril_tree.specs.declared.types.Ty.{Ty}
use Rattle.bril_tree.specs.Operand.{Location}
use Rattle.bril_tree.specs.Shape.{is_shaped, shape_fault_of}
use Rattle.ssa_search.proofs.lemmas.accesses.Within.{Below, function-below, set-arg, shaped-at}
use Rattle.ssa_search.specs.gets.Wants.{AreWantsOf, WantsView, gets_of, row_of}
use Rattle.ssa_build.specs.sources.Sweeping.{told_at}
use Rattle.ssa_search.specs.declared.renaming.now.WantedGet.{WantedGet}
use Rattle.ssa_search.specs.renaming.Gets.{AreGetsOf}
use Rattle.ssa_search.specs.renaming.Tells.{ActsWithin, IsDestWithin, IsItemWithin, TellsNow}
use Rattle.ssa_laws.specs.reaching_definitions.Tables.{else_passed}
use Rattle.ssa_laws.specs.reaching_definitions.Told.{into_at, passed_by}

dest-within : (d : Option ℕ) (many : ℕ) → ((x : ℕ) → d ≡ Some x → x < many) → IsDestWithin (2 * many) d
dest-within None many below = tt
dest-within (Some x) many below = let low = below x refl in omega (arith, low)

module _ (ret : Bool) (many : ℕ) where
  dest-below : (d : Option ℕ) (ty : Option Ty) (o : Op) (args fns ls : List ℕ) → Below ret many (Act d ty o args fns ls) → (x : ℕ) → d ≡ Some x → x < many
  dest-below None ty o args fns ls below x e = absurd cc
  dest-below (Some y) ty o args fns ls below x e = subst (λ z. z < many) (let same : y ≡ x = cc in same) (below y (inl refl))

  acts-within : (d : Option ℕ) (ty : Option Ty) (o : Op) (args fns ls : List ℕ) → is_shaped ret (Act d ty o args fns ls) ≡ true → Below ret many (Act d ty o args fns ls) → ActsWithin (2 * many) o d args
  acts-within d ty op.Set args fns ls shaped below =
      let a = set-arg ret many d ty args fns ls shaped below 0 (omega arith) in
      let b = set-arg ret many d ty args fns ls shaped below 1 (omega arith) in
      (omega (arith, a), omega (arith, b))
  acts-within d ty o args fns ls shaped below =
      let plain : IsDestWithin (2 * many) d = dest-within d many (dest-below d ty o args fns ls below) in plain

  all-within : (item : Instr) → is_shaped ret item ≡ true → Below ret many item → IsItemWithin (2 * many) item
  all-within (Label l) shaped below = tt
  all-within (Const d ty v) shaped below = let low = below d (inl refl) in omega (arith, low)
  all-within (Act d ty o args fns ls) shaped below = acts-within d ty o args fns ls shaped below

pub item-within : (F : Func) → shape_fault_of (is_some F.ret) F.code ≡ None → (k : ℕ) (item : Instr) → slice_get F.code k ≡ Some item → (n : ℕ) → n ≡ 2 * length F.vars → IsItemWithin n item
item-within F shaped k item at n e = subst (λ m. IsItemWithin m item) (sym e) (all-within (is_some F.ret) (length F.vars) item (shaped-at F shaped k item at) (function-below F k item at))

-- behind an item and its `get`s
pub told-behind : (F : Func) (wants : WantsView) → AreWantsOf F wants → (p : ℕ) (item : Instr) → slice_get F.code p ≡ Some item → (now passed entered : List ℕ) (gets : List WantedGet) → gets ≡ row_of wants p → TellsNow (into_at F.code F.args (gets_of wants) p) now
    → ((known : Location → Option ℕ) → TellsNow known now → TellsNow (passed_by (Some item) (F.args + p) known) passed)
    → ((known got : Location → Option ℕ) → AreGetsOf got gets → TellsNow known passed → TellsNow (λ a. else_passed (got a) (known a)) entered)
    → TellsNow (told_at F.code F.args (gets_of wants) (suc p)) entered
told-behind F wants is p item at now passed entered gets same tells pass enter =
    subst (λ o. TellsNow (λ a. else_passed (gets_of wants p a) (passed_by o (F.args + p) (into_at F.code F.args (gets_of wants) p) a)) entered) (sym at)
    (enter (passed_by (Some item) (F.args + p) (into_at F.code F.args (gets_of wants) p)) (gets_of wants p) (subst (AreGetsOf (gets_of wants p)) (sym same) (is.rows p)) (pass (into_at F.code F.args (gets_of wants) p) tells))
