use Rattle.std.proofs.Common.{sym, ◌∙◌}
use Rattle.constant_pass.proofs.lemmas.constants.Working.{assigned-one}
use Rattle.constant_pass.proofs.constants.work.Work.assign.Goals as goal

pub returns-in_ok-raise_by-in-Some-clause-assigned : goal.returns-in_ok-raise_by-in-Some-clause-assigned
returns-in_ok-raise_by-in-Some-clause-assigned c =
    assigned-one c.args.item.now c.in-Some.number c.args.self.now.known.items c.raise_by.new.self.known.items c.args.self.now.risen.items c.raise_by.new.self.risen.items (sym c.in_ok-assigned_number.ensures.number ∙ c.in-Some.is) c.in_ok-raise_by-in-Some.ensures.raised
