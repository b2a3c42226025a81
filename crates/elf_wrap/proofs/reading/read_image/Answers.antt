use Rattle.std.proofs.Common.{◌≡◌, ◌/◌, ◌≤◌, ◌<◌, ℕ, ap, subst, sym, arith}
use Rattle.std.proofs.lemmas.List.{take_rest}
use Rattle.elf_wrap.specs.Form.{stack_told}
use Rattle.elf_wrap.proofs.Files.{image_found, stack_fits}
use Rattle.elf_wrap.proofs.reading.read_image.Goals as goal

pub overflow_cast-result : goal.overflow_cast-result
overflow_cast-result c =
    let low : stack_told c.args.source.now ≤ 8388608 = stack_fits c.args.source.now c.requires.right in
    let is : c.number_at-stack.result / 8 ≡ stack_told c.args.source.now = ap (λ n. n / 8) c.number_at-stack.ensures in
    let t : ℕ = stack_told c.args.source.now in
    let k : t ≤ 8388608 = low in
    let below : t < 4294967296 = omega arith in
    record { fits = subst (λ n. n < 4294967296) (sym is) below }

pub returns-clause-found : goal.returns-clause-found
returns-clause-found c =
    let rest = take_rest c.args.source.now 176 in
    image_found c.args.source.now c.in_ok-words.words (c.number_at-stack.result / 8) c.requires.right (ap (λ n. n / 8) c.number_at-stack.ensures) (rw rest at c.in_ok-words.ensures)
