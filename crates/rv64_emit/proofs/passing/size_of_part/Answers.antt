use Rattle.std.proofs.Common.{◌≡◌, ◌+◌, ◌-◌, length, length-drop, take, take_all, drop, arith, sym, ap, ◌∙◌}
use Rattle.rv64_emit_laws.specs.layout.Homes.{argument_word}
use Rattle.rv64_emit_laws.specs.layout.Passing.{way}
use Rattle.rv64_emit.specs.PassingParts.{one_size, way_as}
use Rattle.rv64_emit.specs.Placed.{homes_in}
use Rattle.rv64_emit.proofs.PassingParts.{size_next}
use Rattle.rv64_emit.proofs.passing.size_of_part.Goals as goal

pub loop-k-preserved : goal.loop-k-preserved
loop-k-preserved c =
    let homes = homes_in c.args.homes.now in
    let args = c.args.args.now in
    let k = c.loop-k.k in
    let own = way_as c.way_given-own.result in
    let later = take (length args - (k + 1)) (drop (k + 1) args) in
    let rest : later ≡ drop (k + 1) args = take_all (length args - (k + 1)) (drop (k + 1) args) (omega (arith, length-drop (k + 1) args)) in
    let its_way = c.way_given-own.ensures.value ∙ (ap (λ given. way homes given c.variable-from.result later) c.given.ensures ∙ ap (λ from. way homes (homes.given c.args.function k) from later) c.variable-from.ensures) in
    let its_size =
    c.one_size_of-size.ensures.value
    ∙ (ap (λ word. one_size c.args.part own c.variable-from.result word) c.argument_word.ensures.value ∙ ap (λ from. one_size c.args.part own from (argument_word c.args.func.now k)) c.variable-from.ensures) in (
      size_next c.args.part homes c.args.func.now c.args.function args k _ c.loop-k-test.true later rest own its_way c.one_size_of-size.result c.loop-k.size _ its_size c.loop-k.invariant.0,
      omega (arith, c.loop-k.invariant.1, c.one_size_of-size.ensures.few),
    )

pub way_given-own-requires-clause-given : goal.way_given-own-requires-clause-given
way_given-own-requires-clause-given c = λ r at. c.requires.given c.loop-k.k r (sym c.given.ensures ∙ at)
