-- The laws of tables, for the arguments of a function.
use Rattle.std.proofs.Common.{◌≡◌, ℕ, ◌<◌, true, false, Bool, Some, None, refl, subst, cond}
use Rattle.std.specs.Prelude.{nat_lt}
use Rattle.std.proofs.lemmas.Bool.{ltb-true}
use Rattle.std.proofs.lemmas.Option.{same_Some}
use Rattle.bril_tree.specs.Operand.{Location, Variable, Shadow}
use Rattle.ssa_laws.specs.reaching_definitions.Told.{argument}
use Rattle.ssa_laws.specs.reaching_definitions.Laws.{IsArgument, TablesAgree, TablesKeepTypes, TablesTellLive}
use Rattle.ssa_laws.proofs.lemmas.reaching_definitions.Made.{live-told, tabled-consistent}
use Rattle.ssa_laws.proofs.lemmas.reaching_definitions.Resolving.{resolved-consistent}
use Rattle.ssa_laws.proofs.lemmas.reaching_definitions.Solved.{solved-resolves}
use Rattle.ssa_laws.proofs.lemmas.reaching_definitions.Types.{resolved-typed}

pub begins : (args : ℕ) (a : Location) (y : ℕ) → argument args a ≡ Some y → IsArgument args y
begins args a y e = (a, e)

-- an argument has a number of its own
pub few : (args y : ℕ) → IsArgument args y → y < args
few args y (Variable x, e) = by (nat_lt x args) refl e
  where
    by : (b : Bool) → nat_lt x args ≡ b → cond b (Some x) None ≡ Some y → y < args
    by true less e = subst (λ z. z < args) (same_Some x y e) (ltb-true x args less)
    by false less e = absurd cc
few args y (Shadow x, e) = absurd cc

pub tables-tell_live : TablesTellLive
tables-tell_live code args gets t i a reached live = live-told code args gets t.leads t.wanted (IsArgument args) (begins args) (few args) t.argued i a reached live

pub tables-agree : TablesAgree
tables-agree code args gets t =
    let c = tabled-consistent code args gets t.leads t.wanted (IsArgument args) (begins args) (few args) in
    (c, λ find solved. resolved-consistent code _ (IsArgument args) c find (solved-resolves code args gets t.leads t.wanted (IsArgument args) (begins args) (few args) t.argued t.opens find solved))

pub tables-keep_types : TablesKeepTypes
tables-keep_types code args gets find type_at types sound t solved typed i a y reached told =
    resolved-typed code sound args gets t.leads t.wanted (IsArgument args) (begins args) (few args) t.argued t.opens find solved type_at types typed i reached a y told
