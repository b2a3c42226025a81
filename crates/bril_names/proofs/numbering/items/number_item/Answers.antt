use Rattle.std.proofs.Common.{◌∷◌, [], Some, refl, sym, subst}
use Rattle.bril_tree.specs.declared.function_tree.Item.{Item}
use Rattle.bril_tree.specs.declared.numbered.Instr.TheVariants.{Act}
use Rattle.bril_names.specs.Faults.{AreAmong, IsKnown, callees_of, targets_of}
use Rattle.bril_names.specs.Numbering.{FindsAll, IsNumbering}
use Rattle.bril_names.proofs.ItemNumbers.{act_numbered, all_among}
use Rattle.bril_names.proofs.numbering.items.number_item.Goals as goal
use Rattle.bril_names.proofs.numbering.items.number_item.Goals.{After-drop-callees-inside-in_default-2, In_ok-enter_all-in-Act}

-- the instruction's functions are all there, and so are its labels
callees_there : (c : In_ok-enter_all-in-Act) → FindsAll c.args.functions.now c.in-Act.funcs (Some c.in-Some-2.callees)
callees_there c = rw (c.in-Some-2.is, c.as_slice.ensures) at c.in_ok-callees-in-Act.ensures

targets_there : (c : In_ok-enter_all-in-Act) → FindsAll c.args.labels.now c.in-Act.targets (Some c.in-Some-3.targets)
targets_there c = rw (c.in-Some-3.is, c.as_slice-in-Act.ensures) at c.in_ok-targets-in-Act.ensures

pub returns-in_default-clause-fault : goal.returns-in_default-clause-fault
returns-in_default-clause-fault c =
    let lacks : ¬ AreAmong c.args.functions.now c.in-Act.funcs = rw (c.in_default.is, c.as_slice.ensures) at c.in_ok-callees-in-Act.ensures in
    (refl, refl, subst (λ (i : Item). ¬ AreAmong c.args.functions.now (callees_of i)) (sym c.in-Act.is) lacks)

pub returns-in_default-2-clause-fault : goal.returns-in_default-2-clause-fault
returns-in_default-2-clause-fault c =
    let found : FindsAll c.args.functions.now c.in-Act.funcs (Some c.in-Some-2.callees) = rw (c.in-Some-2.is, c.as_slice.ensures) at c.in_ok-callees-in-Act.ensures in
    let lacks : ¬ AreAmong c.args.labels.now c.in-Act.targets = rw (c.in_default-2.is, c.as_slice-in-Act.ensures) at c.in_ok-targets-in-Act.ensures in (
      refl,
      refl,
      subst (λ (i : Item). AreAmong c.args.functions.now (callees_of i)) (sym c.in-Act.is) (all_among c.args.functions.now c.in-Act.funcs c.in-Some-2.callees found),
      subst (λ (i : Item). ¬ AreAmong c.args.labels.now (targets_of i)) (sym c.in-Act.is) lacks,
    )

pub returns-in_ok-enter_all-in-Act-clause-numbered : goal.returns-in_ok-enter_all-in-Act-clause-numbered
returns-in_ok-enter_all-in-Act-clause-numbered c =
    let before = c.args.vars.now.infos.items in
    let between = c.enter_dest.new.vars.infos.items in
    let after = c.enter_all.new.vars.infos.items in
    let x = c.in_ok-enter_dest-in-Act.field-0 in
    let xs = c.in_ok-enter_all-in-Act.field-0 in
    subst (λ (i : Item). IsNumbering c.args.functions.now c.args.labels.now before after (i ∷ []) (Act x c.type_of.result c.in-Act.op xs c.in-Some-2.callees c.in-Some-3.targets ∷ [])) (sym c.in-Act.is)
    (act_numbered c.args.functions.now c.args.labels.now before between after c.in-Act.dest c.in-Act.op c.in-Act.args c.in-Act.funcs c.in-Act.targets
    x c.type_of.result xs c.in-Some-2.callees c.in-Some-3.targets
    c.type_of.ensures c.in_ok-enter_dest-in-Act.ensures.enters c.in_ok-enter_dest-in-Act.ensures.named c.in_ok-enter_all-in-Act.ensures.enters
    (rw c.as_slice-in-Act-2.ensures at c.in_ok-enter_all-in-Act.ensures.named) (callees_there c) (targets_there c))

pub returns-in_ok-enter_all-in-Act-clause-known : goal.returns-in_ok-enter_all-in-Act-clause-known
returns-in_ok-enter_all-in-Act-clause-known c =
    subst (IsKnown c.args.functions.now c.args.labels.now) (sym c.in-Act.is) (
      all_among c.args.functions.now c.in-Act.funcs c.in-Some-2.callees (callees_there c),
      all_among c.args.labels.now c.in-Act.targets c.in-Some-3.targets (targets_there c),
    )
