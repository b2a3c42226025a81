use Rattle.std.proofs.Common.{sym, subst}
use Rattle.std.specs.List.{AllByRecursion}
use Rattle.slot_code.specs.Laws.{slots_used}
use Rattle.rv64_emit_laws.specs.layout.Fits.{IsReached}
use Rattle.rv64_emit_laws.specs.layout.Homes.{variable_home}
use Rattle.rv64_emit.specs.Placed.{homes_in}
use Rattle.rv64_emit.proofs.Arguments.{call_arguments_are, printed_are}
use Rattle.rv64_emit.proofs.item.put_item.Goals as goal

pub put_call-requires-clause-args : goal.put_call-requires-clause-args
put_call-requires-clause-args c =
    let homes = homes_in c.args.homes.now in
    let slots = subst (λ item. AllByRecursion (λ slot. IsReached (homes.home slot)) (slots_used item)) c.in-Call.is c.requires.fits.slots in
    subst (AllByRecursion (λ x. IsReached (variable_home homes x))) (sym c.as_slice.ensures) (call_arguments_are (λ slot. IsReached (homes.home slot)) c.in-Call.dest c.in-Call.args slots)

pub put_print-requires : goal.put_print-requires
put_print-requires c =
    let homes = homes_in c.args.homes.now in
    let slots = subst (λ item. AllByRecursion (λ slot. IsReached (homes.home slot)) (slots_used item)) c.in-Print.is c.requires.fits.slots in
    subst (AllByRecursion (λ a. IsReached (variable_home homes a.variable))) (sym c.as_slice-in-Print.ensures) (printed_are (λ slot. IsReached (homes.home slot)) c.in-Print.args slots)

pub put_branch-requires-clause-near_then : goal.put_branch-requires-clause-near_then
put_branch-requires-clause-near_then c = c.requires.near c.in-Branch.then_to

pub put_branch-requires-clause-near_else : goal.put_branch-requires-clause-near_else
put_branch-requires-clause-near_else c = c.requires.near c.in-Branch.else_to
