-- What was done with the program.
use Rattle.std.proofs.Common.{[], inl, inr, refl, ⊎_elim}
use Rattle.bril_report.proofs.Telling.{Tells-none}
use Rattle.bril_driver.proofs.driver.on_program.Goals as goal

pub returns-in-AsItStands-clause-does : goal.returns-in-AsItStands-clause-does
returns-in-AsItStands-clause-does g c =
    rw c.in-AsItStands.is (record {
      same_output = refl;
      told = [];
      does = ⊎_elim (λ refused. inl (refused.0, (refused.1, refl))) (λ goes. inr (goes.0, goes.1, inr ([], refl, inr (c.args.program.prog, refl, inr (tt, goes.2))))) c.on_source.ensures;
      tells = Tells-none g.E.Sink.seen c.args.outputs.now.err;
    })

pub returns-in-WithPasses-clause-does : goal.returns-in-WithPasses-clause-does
returns-in-WithPasses-clause-does g c = rw c.in-WithPasses.is c.on_made.ensures.does

pub returns-in-Monitor-clause-does : goal.returns-in-Monitor-clause-does
returns-in-Monitor-clause-does g c =
    rw c.in-Monitor.is (record {
      same_output = refl;
      told = [];
      does = ⊎_elim (λ refused. inl (refused.0, (refused.1, refl)))
          (λ values. inr (
            values.0,
            values.1,
            ⊎_elim (λ refused. inl (refused.0, (refused.1, refl))) (λ orders. inr ([], (refl, (orders.0, orders.1)), inr (c.args.program.prog, refl, orders.2))) values.2,
          ))
          c.monitor.ensures.does;
      tells = Tells-none g.E.Sink.seen c.args.outputs.now.err;
    })
