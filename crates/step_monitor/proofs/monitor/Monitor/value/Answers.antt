use Rattle.std.proofs.Common.{rules, sym}
use Rattle.rv64_machine.specs.MachineView.{sizes_in, state_of}
use Rattle.step_monitor.proofs.Values.{shows_none, shows_nowhere, shows_word}
use Rattle.step_monitor.proofs.monitor.Monitor.value.Goals as goal

pub returns-in_err-entry : goal.returns-in_err-entry
returns-in_err-entry c = shows_none (sizes_in c.args.self.now.machine) (state_of c.args.self.now.machine) _ c.from_residual.result (sym c.in_err-entry.ensures) (search rules)

pub returns-in_err-word : goal.returns-in_err-word
returns-in_err-word c = shows_nowhere (sizes_in c.args.self.now.machine) (state_of c.args.self.now.machine) _ c.in_ok-entry.entry c.from_residual-in_err-word.result (sym c.in_ok-entry.ensures) (sym c.in_err-word.ensures) (search rules)

pub returns : goal.returns
returns c = shows_word (sizes_in c.args.self.now.machine) (state_of c.args.self.now.machine) _ c.in_ok-entry.entry c.in_ok-word.word c.read_word.result (sym c.in_ok-entry.ensures) (sym c.in_ok-word.ensures) c.read_word.ensures
