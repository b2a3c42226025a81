use Rattle.std.proofs.Common.{None, Some, rules, refl, sym, subst}
use Rattle.rv64_image_laws.specs.Stops.{IsValueOf}
use Rattle.rv64_machine.specs.MachineView.{sizes_in, state_of}
use Rattle.step_monitor.proofs.Values.{entry_none, entry_nothing, entry_value}
use Rattle.step_monitor.proofs.monitor.Monitor.entry_value.Goals as goal

pub returns-in_err-entry : goal.returns-in_err-entry
returns-in_err-entry c = entry_none (sizes_in c.args.self.now.machine) (state_of c.args.self.now.machine) _ c.from_residual.result (sym c.in_err-entry.ensures) (search rules)

pub returns-in_err-word : goal.returns-in_err-word
returns-in_err-word c =
    entry_nothing (sizes_in c.args.self.now.machine) (state_of c.args.self.now.machine) _ c.in_ok-entry.entry c.from_residual-in_err-word.result (sym c.in_ok-entry.ensures)
    (subst (λ w. IsValueOf c.in_ok-entry.entry.ty w None) c.in_err-word.ensures refl) (search rules)

pub returns-in_err-value : goal.returns-in_err-value
returns-in_err-value c =
    entry_nothing (sizes_in c.args.self.now.machine) (state_of c.args.self.now.machine) _ c.in_ok-entry.entry c.from_residual-in_err-value.result (sym c.in_ok-entry.ensures)
    (subst (λ w. IsValueOf c.in_ok-entry.entry.ty w None) c.in_ok-word.ensures c.in_err-value.ensures) (search rules)

pub returns : goal.returns
returns c =
    entry_value (sizes_in c.args.self.now.machine) (state_of c.args.self.now.machine) _ c.in_ok-entry.entry c.in_ok-value.value (sym c.in_ok-entry.ensures)
    (subst (λ w. IsValueOf c.in_ok-entry.entry.ty w (Some c.in_ok-value.value)) c.in_ok-word.ensures c.in_ok-value.ensures)
