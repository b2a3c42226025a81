use Rattle.std.proofs.Common.{take, ◌+◌, Some, None, sym, subst}
use Rattle.bril_names.specs.Numbering.{Finds, FindsAll}
use Rattle.bril_names.proofs.ItemNumbers.{found_more, lacking_one}
use Rattle.bril_names.proofs.numbering.items.find_all.Goals as goal

pub loop-name-preserved : goal.loop-name-preserved
loop-name-preserved c =
    let known = c.args.known.now in
    let names = c.args.names.now in
    let k = c.loop-name.name-index in
    let name = c.name-item.result in
    let number = c.in-Some.number in
    let found = subst (λ bytes. Finds known bytes (Some number)) c.as_bytes.ensures.value c.in-Some.ensures in
    subst (λ list. FindsAll known (take (k + 1) names) (Some list)) (sym c.in_ok-push.ensures.ok)
    (found_more known names k name c.loop-name.numbers number c.loop-name-test.true c.name-item.is c.loop-name.invariant found)

pub returns-in_default : goal.returns-in_default
returns-in_default c =
    let known = c.args.known.now in
    let lacks = subst (λ bytes. Finds known bytes None) c.as_bytes.ensures.value c.in_default.ensures in
    lacking_one known c.args.names.now c.loop-name.name-index c.name-item.result c.loop-name-test.true c.name-item.is lacks
