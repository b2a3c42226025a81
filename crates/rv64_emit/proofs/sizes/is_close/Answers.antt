use Rattle.std.proofs.Common.{◌≡◌, ℕ, ◌-◌, ◌≤◌, ◌&&◌, Bool, true, leb, length, take, drop, arith, sym, ap, ◌∙◌}
use Rattle.std.proofs.lemmas.Bool.Decides.{nat_tests}
use Rattle.rv64_emit_laws.specs.layout.Reach.{items_count}
use Rattle.rv64_emit.proofs.sizes.is_close.Goals as goal

pub returns : goal.returns
returns c =
    let g = c.args.func.now in
    let count = c.args.to - c.args.from in
    let few : c.args.to - c.args.from ≤ 256 = omega (arith, c.if-count-gt256.false) in
    let test : leb (c.args.to - c.args.from) 256 ≡ true = grind (arith, nat_tests) in
    let items : c.first_items.result.now ≡ take count (drop c.args.from g.code) = c.first_items.ensures ∙ ap (take count) c.items_from.ensures in
    let counted : ℕ → Bool = λ n. leb (items_count n (take count (drop c.args.from g.code))) 988 in
    c.are_few.ensures ∙ (ap (λ l. leb (items_count (length c.as_slice.result.now) l) 988) items ∙ (ap counted (ap length c.as_slice.ensures) ∙ sym (ap (λ b. b && counted (length g.slots)) test)))
