use Rattle.std.proofs.Common.{◌≤◌, ◌<◌, ◌-◌, ℕ, drop, length, get_or, length-drop, arith, subst, sym}
use Rattle.std.proofs.lemmas.List.Elements.{All-drop}
use Rattle.elf_wrap.proofs.Numbers.{are_bytes, number_within}
use Rattle.elf_wrap.proofs.reading.number_of.Goals as goal

pub overflow_mul-number : goal.overflow_mul-number
overflow_mul-number c =
    let n : ℕ = c.bytes.number in
    let l : length (drop c.bytes.i c.args.bytes.now) ≤ 7 = (let d = length-drop c.bytes.i c.args.bytes.now in omega arith) in
    let w = number_within 7 (drop c.bytes.i c.args.bytes.now) (All-drop (λ b. b < 256) c.bytes.i c.args.bytes.now (are_bytes c.args.bytes.now (λ k. (c.type_inv.bytes k).fits))) l in
    let b : c.bytes.number < 72057594037927936 = subst (λ x. x < 72057594037927936) (sym c.bytes.invariant.so_far) w in
    omega arith

pub overflow_add-number : goal.overflow_add-number
overflow_add-number c =
    let l : length (drop c.bytes.i c.args.bytes.now) ≤ 7 = (let d = length-drop c.bytes.i c.args.bytes.now in omega arith) in
    let w = number_within 7 (drop c.bytes.i c.args.bytes.now) (All-drop (λ b. b < 256) c.bytes.i c.args.bytes.now (are_bytes c.args.bytes.now (λ k. (c.type_inv.bytes k).fits))) l in
    let b : c.bytes.number < 72057594037927936 = subst (λ x. x < 72057594037927936) (sym c.bytes.invariant.so_far) w in
    let d : get_or c.args.bytes.now (c.bytes.i - 1) 0 < 256 = (c.type_inv.bytes (c.bytes.i - 1)).fits in
    omega arith
