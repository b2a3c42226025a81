-- A function of a program and its code over slots.
use Rattle.std.proofs.Common.{◌≡◌, ℕ, ◌<◌, length, Some, subst, arith}
use Rattle.std.specs.Prelude.{slice_get}
use Rattle.std.proofs.lemmas.Option.{slice_get_within}
use Rattle.bril_tree.specs.declared.numbered_function.Func.{Func}
use Rattle.bril_tree.specs.declared.program.Prog.{Prog}
use Rattle.bril_tree.proofs.Elements.{get_inside, zip-get, zip-long}
use Rattle.rv64_emit_laws.proofs.lemmas.layout.Bounding.{function_made}
use Rattle.slot_code.specs.declared.slots.SlotFunction.{SlotFunction}
use Rattle.slot_code.specs.declared.slots.Slots.{Slots}
use Rattle.slot_code.specs.Lowered.{IsLowered, IsLoweredFunction}
use Rattle.type_soundness.proofs.Soundness.{main-there}

-- the code over slots of a function
pub record LoweredAt (slots : Slots) (k : ℕ) (f : Func) : Type 0 where
  pub function : SlotFunction
  pub there : slice_get slots.funcs k ≡ Some function
  pub is : IsLoweredFunction f function

-- the function of code over slots
pub record SourceAt (p : Prog) (k : ℕ) (g : SlotFunction) : Type 0 where
  pub function : Func
  pub there : slice_get p.funcs k ≡ Some function
  pub is : IsLoweredFunction function g

module _ (p : Prog) (slots : Slots) (lowered : IsLowered p slots) where
  as_many : length p.funcs ≡ length slots.funcs
  as_many = zip-long IsLoweredFunction p.funcs slots.funcs lowered.funcs

  pub lowered_at : (k : ℕ) (f : Func) → slice_get p.funcs k ≡ Some f → LoweredAt slots k f
  lowered_at k f there =
      let g = get_inside slots.funcs k (subst (λ n. k < n) as_many (slice_get_within p.funcs k f there)) in
      record { function = g.0; there = g.1; is = zip-get IsLoweredFunction p.funcs slots.funcs k f g.0 lowered.funcs there g.1 }

  -- `main` is one of the functions
  pub main_inside : slots.main < length slots.funcs
  main_inside =
      let main = main-there (slice_get p.funcs p.main) p.formed.main_is in
      let inside = slice_get_within p.funcs p.main main.0 main.1 in
      let many = as_many in
      let same = lowered.main in
      omega arith

  pub source_at : (k : ℕ) (g : SlotFunction) → slice_get slots.funcs k ≡ Some g → SourceAt p k g
  source_at k g there = let made = function_made p slots lowered k g there in record { function = made.0; there = made.1; is = made.2 }
