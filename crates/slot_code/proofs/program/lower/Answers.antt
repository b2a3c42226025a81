use Rattle.std.proofs.Common.{ap, subst}
use Rattle.bril_tree.specs.Accepted.{IsAccepted}
use Rattle.bril_tree.specs.Run.{first_state}
use Rattle.slot_code.specs.declared.slots.Slots.{Slots}
use Rattle.slot_code.specs.Lowered.{IsLowered}
use Rattle.slot_code.proofs.Steps.{steps_are, states_are}
use Rattle.slot_code.proofs.program.lower.Goals as goal

pub returns : goal.returns
returns c =
    let p = c.args.checked.now.prog in
    let slots : Slots = record { funcs = c.in_ok-lower_functions.field-0; main = c.prog.result.now.main } in
    let accepted : IsAccepted p = subst IsAccepted c.prog.ensures.value c.prog.ensures.accepted in
    let code : IsLowered p slots = record { main = ap (λ q. q.main) c.prog.ensures.value; funcs = c.in_ok-lower_functions.ensures } in
    record {
      code = code;
      steps = λ limits s. steps_are p slots accepted code limits s;
      states = λ limits args n. states_are p slots accepted code limits n (first_state p limits args);
    }
