use Rattle.std.proofs.Common.{◌≡◌, ◌<◌, ◌≤◌, ◌+◌, length, get_or, take, refl, sym, subst}
use Rattle.std.specs.List.{All}
use Rattle.std.proofs.lemmas.List.{take_all}
use Rattle.std.proofs.lemmas.Option.{slice_get_read}
use Rattle.std.proofs.lemmas.Result.{err_from_is_err_and}
use Rattle.bril_names.specs.Faults.{IsKnown}
use Rattle.bril_names.specs.Numbering.{IsNumbering}
use Rattle.bril_names.proofs.FaultPlaces.{lack_within}
use Rattle.bril_names.proofs.ItemNumbers.{labelled, numbering_more, known_more}
use Rattle.bril_names.proofs.numbering.items.number_items.Goals as goal

pub number_item-requires : goal.number_item-requires
number_item-requires c =
    let code = c.args.function.now.code in
    let k = c.loop-k.k in
    let item = c.item-item.result in
    let within : k < length code = subst (λ list. k < length list) c.as_slice-item-items.ensures c.loop-k-test.true in
    let is : item ≡ get_or code k item = subst (λ list. item ≡ get_or list k item) c.as_slice-item-items.ensures c.item-item.is in
    labelled c.args.functions.now c.args.labels.now code k item within is c.requires.labels

pub returns-in_err-number_item-clause-fault : goal.returns-in_err-number_item-clause-fault
returns-in_err-number_item-clause-fault c =
    let functions = c.args.functions.now in
    let labels = c.args.labels.now in
    let f = c.args.function.now in
    let k = c.loop-k.k in
    let item = c.item-item.result in
    let within : k < length f.code = subst (λ list. k < length list) c.as_slice-item-items.ensures c.loop-k-test.true in
    let is : item ≡ get_or f.code k item = subst (λ list. item ≡ get_or list k item) c.as_slice-item-items.ensures c.item-item.is in
    let here = slice_get_read f.code (length f.code) k item refl within is in
    let fault = lack_within functions labels c.args.func f k item c.requires.arguments c.requires.labels_differ c.requires.labels here c.loop-k.invariant.known c.in_err-number_item.field-0.0
    (rw c.in-Ok.ensures.1 at c.in_err-number_item.ensures.fault) in
    let p = err_from_is_err_and c.from_residual.result c.from_residual.ensures.1 in
    rw (p.1, p.2) fault

pub loop-k-preserved : goal.loop-k-preserved
loop-k-preserved c =
    let functions = c.args.functions.now in
    let labels = c.args.labels.now in
    let code = c.args.function.now.code in
    let k = c.loop-k.k in
    let item = c.item-item.result in
    let before = c.loop-k.vars.infos.items in
    let after = c.number_item.new.vars.infos.items in
    let within : k < length code = subst (λ list. k < length list) c.as_slice-item-items.ensures c.loop-k-test.true in
    let is : item ≡ get_or code k item = subst (λ list. item ≡ get_or list k item) c.as_slice-item-items.ensures c.item-item.is in
    record {
      numbered = subst (λ list. IsNumbering functions labels c.args.vars.now.infos.items after (take (k + 1) code) list) (sym c.in_ok-push.ensures.ok)
          (numbering_more functions labels code k item within is c.args.vars.now.infos.items before after c.loop-k.code c.in_ok-number_item.field-0 c.loop-k.invariant.numbered c.in_ok-number_item.ensures.numbered);
      known = known_more functions labels code k item within is c.loop-k.invariant.known c.in_ok-number_item.ensures.known;
    }

pub returns-clause-known : goal.returns-clause-known
returns-clause-known c =
    let code = c.args.function.now.code in
    let k = c.loop-k.k in
    let past : length code ≤ k = subst (λ list. length list ≤ k) c.as_slice-item-items.ensures c.loop-k-test.false in
    subst (All (IsKnown c.args.functions.now c.args.labels.now)) (take_all k code past) c.loop-k.invariant.known
