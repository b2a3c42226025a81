use Rattle.std.proofs.Common.{◌≡◌, ◌+◌, ◌-◌, ◌++◌, length, length-drop, take, take_all, drop, map, arith, sym, ap, ◌∙◌}
use Rattle.rv64_words.specs.Encoding.{encoded}
use Rattle.rv64_emit_laws.specs.layout.Homes.{argument_word}
use Rattle.rv64_emit_laws.specs.layout.Passing.{way}
use Rattle.rv64_emit.specs.PassingParts.{one_words, way_as}
use Rattle.rv64_emit.specs.Placed.{homes_in}
use Rattle.rv64_emit.proofs.PassingParts.{part_next}
use Rattle.rv64_emit.proofs.passing.put_part.Goals as goal

pub loop-k-preserved : goal.loop-k-preserved
loop-k-preserved c =
    let homes = homes_in c.args.homes.now in
    let args = c.args.args.now in
    let k = c.loop-k.k in
    let own = way_as c.way_given-own.result in
    let later = take (length args - (k + 1)) (drop (k + 1) args) in
    let rest : later ≡ drop (k + 1) args = take_all (length args - (k + 1)) (drop (k + 1) args) (omega (arith, length-drop (k + 1) args)) in
    let its_way = c.way_given-own.ensures.value ∙ (ap (λ given. way homes given c.variable-from.result later) c.given.ensures ∙ ap (λ from. way homes (homes.given c.args.function k) from later) c.variable-from.ensures) in
    let put =
    c.in_ok-put_one.ensures {u = tt}
    ∙ (ap (λ word. c.loop-k.code ++ map encoded (one_words c.args.part own c.variable-from.result word)) c.argument_word.ensures.value
    ∙ ap (λ from. c.loop-k.code ++ map encoded (one_words c.args.part own from (argument_word c.args.func.now k))) c.variable-from.ensures) in
    part_next c.args.part homes c.args.func.now c.args.function args k _ c.loop-k-test.true later rest own its_way c.loop-k.code c.put_one.new.code _ put c.loop-k.invariant

pub way_given-own-requires-clause-given : goal.way_given-own-requires-clause-given
way_given-own-requires-clause-given c = λ r at. c.requires.given c.loop-k.k r (sym c.given.ensures ∙ at)
