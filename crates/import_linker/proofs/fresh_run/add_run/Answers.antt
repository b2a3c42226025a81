-- The run of the name, if there is one.
use Rattle.std.proofs.Common.{◌∙◌, arith}
use Rattle.import_linker.proofs.RunLengths.{begins_none, begins_some, none_added, not_equal, run_added}
use Rattle.import_linker.proofs.fresh_run.add_run.Goals as goal

pub returns-in-None-clause-runs : goal.returns-in-None-clause-runs
returns-in-None-clause-runs c n = none_added c.args.runs.now.keys c.args.name.now n c.in-None.ensures.run

pub returns-in-None-clause-longest : goal.returns-in-None-clause-longest
returns-in-None-clause-longest c n less = (less, begins_none c.args.name.now n c.in-None.ensures.run)

pub returns-then-longest-run-clause-runs : goal.returns-then-longest-run-clause-runs
returns-then-longest-run-clause-runs c n = run_added c.args.runs.now.keys c.insert.new.self.keys c.args.name.now n c.in-Some.run' c.in-Some.ensures.run c.in_ok-insert-in-Some.ensures.keys

pub returns-else-longest-run-clause-runs : goal.returns-else-longest-run-clause-runs
returns-else-longest-run-clause-runs c n = run_added c.args.runs.now.keys c.insert.new.self.keys c.args.name.now n c.in-Some.run' c.in-Some.ensures.run c.in_ok-insert-in-Some.ensures.keys

pub returns-then-longest-run-clause-longest : goal.returns-then-longest-run-clause-longest
returns-then-longest-run-clause-longest c n less =
    let longer = c.if-longest-run.true in
    (omega arith, begins_some c.args.name.now n c.in-Some.run' c.in-Some.ensures.run ∙ not_equal n c.in-Some.run' (λ e. omega arith))

pub returns-else-longest-run-clause-longest : goal.returns-else-longest-run-clause-longest
returns-else-longest-run-clause-longest c n less =
    let longer = c.if-longest-run.false in
    (less, begins_some c.args.name.now n c.in-Some.run' c.in-Some.ensures.run ∙ not_equal n c.in-Some.run' (λ e. omega arith))
