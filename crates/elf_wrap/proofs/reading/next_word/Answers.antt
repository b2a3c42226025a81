use Rattle.std.proofs.Common.{◌≤◌, ◌<◌, take, length, subst, sym, arith}
use Rattle.std.proofs.lemmas.List.{length-take-le}
use Rattle.std.proofs.lemmas.List.Elements.{All-take}
use Rattle.elf_wrap.proofs.Numbers.{are_bytes, number_within}
use Rattle.elf_wrap.proofs.reading.next_word.Goals as goal

pub overflow_cast-result : goal.overflow_cast-result
overflow_cast-result c =
    let l : length (take 4 c.args.bytes.now) ≤ 4 = (let e = length-take-le 4 c.args.bytes.now c.if-bytes-lt4.false in omega arith) in
    let w = number_within 4 (take 4 c.args.bytes.now) (All-take (λ b. b < 256) 4 c.args.bytes.now (are_bytes c.args.bytes.now (λ k. (c.type_inv.bytes k).fits))) l in
    record { fits = subst (λ x. x < 4294967296) (sym c.number_of.ensures) w }
