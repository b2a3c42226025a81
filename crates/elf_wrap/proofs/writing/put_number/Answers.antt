use Rattle.std.proofs.Common.{◌≡◌, ◌-◌, ◌+◌, ◌++◌, ℕ, suc, arith, ap, subst, ◌∙◌}
use Rattle.elf_wrap.specs.Numbers.{le_bytes}
use Rattle.elf_wrap.proofs.Numbers.{bytes_more}
use Rattle.elf_wrap.proofs.writing.put_number.Goals as goal

pub loop-i-preserved : goal.loop-i-preserved
loop-i-preserved c =
    let k : ℕ = c.args.size - (c.loop-i.i + 1) in
    let e : c.args.size - c.loop-i.i ≡ suc k = omega arith in
    bytes_more k c.loop-i.rest c.args.into.now c.loop-i.into c.add.new.self (le_bytes c.args.size c.args.value) (c.in_ok-add.ensures.ok ∙ ap (λ x. c.loop-i.into ++ x) c.as_slice.ensures) (subst (λ n. c.loop-i.into ++ le_bytes n c.loop-i.rest ≡ c.args.into.now ++ le_bytes c.args.size c.args.value) e c.loop-i.invariant)
