use Rattle.std.proofs.Common.{length, subst, sym, arith}
use Rattle.bril_tree.specs.Numbered.{nop}
use Rattle.dead_code.specs.Sweep.{IsSwept}
use Rattle.dead_code.specs.Work.{remaining}
use Rattle.pass_edit_laws.proofs.lemmas.plan.Marked.{length-with_nops}
use Rattle.dead_code.proofs.Sweeping.{all-swept}
use Rattle.dead_code.proofs.sweep.Sweep.new.Goals as goal

pub returns-clause-swept : goal.returns-clause-swept
returns-clause-swept c =
    let code = c.args.func.now.code in
    let made = remaining code c.args.dead.items in
    let size = length-with_nops nop c.args.dead.items code in
    let reads = c.in_ok-reads.reads.items in
    let assigns = c.in_ok-assigns.assigns.items in
    subst (λ l. IsSwept code made (length code) reads assigns 4294967295 (length l)) (sym c.as_slice.ensures)
    (subst (λ n. IsSwept code made n reads assigns 4294967295 n) size
    (all-swept code made c.args.count 4294967295 reads assigns (omega (arith, size, c.requires.few)) (c.in_ok-reads.ensures.items_if_clones_equal (λ y e. e)) (c.in_ok-assigns.ensures.items_if_clones_equal (λ y e. e))))
