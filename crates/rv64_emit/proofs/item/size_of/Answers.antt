use Rattle.std.proofs.Common.{sym, subst}
use Rattle.std.specs.List.{AllByRecursion}
use Rattle.slot_code.specs.Laws.{slots_used}
use Rattle.rv64_emit_laws.specs.layout.Fits.{IsReached}
use Rattle.rv64_emit_laws.specs.layout.Homes.{variable_home}
use Rattle.rv64_emit.specs.Placed.{homes_in}
use Rattle.rv64_emit.proofs.Arguments.{call_arguments_are}
use Rattle.rv64_emit.proofs.item.size_of.Goals as goal

pub before_call_size-requires-clause-args : goal.before_call_size-requires-clause-args
before_call_size-requires-clause-args c =
    let homes = homes_in c.args.homes.now in
    let slots = subst (λ item. AllByRecursion (λ slot. IsReached (homes.home slot)) (slots_used item)) c.in-Call.is c.requires.fits.slots in
    subst (AllByRecursion (λ x. IsReached (variable_home homes x))) (sym c.as_slice.ensures) (call_arguments_are (λ slot. IsReached (homes.home slot)) c.in-Call.dest c.in-Call.args slots)
