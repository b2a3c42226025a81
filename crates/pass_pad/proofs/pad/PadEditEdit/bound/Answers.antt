use Rattle.std.proofs.Common.{rules, ◌≡◌, ◌+◌, length, ap, subst}
use Rattle.bril_tree.specs.declared.program.Prog.{Prog}
use Rattle.bril_tree.proofs.Sizes.{counted-size}
use Rattle.pass_make.proofs.Told.{tells-equal}
use Rattle.pass_make.specs.Edited.{TellsBound}
use Rattle.pass_pad.specs.Padded.{padded_size}
use Rattle.pass_pad.proofs.Made.{pad-numbers, size-fits}
use Rattle.pass_pad.proofs.pad.PadEditEdit.bound.Goals as goal

pub size-requires : goal.size-requires
size-requires c = counted-size c.prog-prog.result.now c.prog-prog.ensures.counted

pub overflow_add-result : goal.overflow_add-result
overflow_add-result c =
    let h = size-fits c.prog-prog.result.now c.prog-prog.ensures.counted in
    let funcs = ap length c.as_slice.ensures in
    let size = c.size.ensures in
    search rules

pub returns-clause-numbers : goal.returns-clause-numbers
returns-clause-numbers c = pad-numbers

pub returns-clause-bound : goal.returns-clause-bound
returns-clause-bound c =
    subst (λ (P : Prog). TellsBound (λ k. k ≡ padded_size P) (c.size.result + length c.as_slice.result.now)) c.prog-prog.ensures.value
    (tells-equal (padded_size c.prog-prog.result.now) (c.size.result + length c.as_slice.result.now) (λ i. c.size.ensures i + length (c.as_slice.ensures i)) (size-fits c.prog-prog.result.now c.prog-prog.ensures.counted))
