use Rattle.std.proofs.Common.{◌≡◌, ap, sym, ◌∙◌}
use Rattle.std.proofs.lemmas.Result.{IfErr-weaker}
use Rattle.serde_json.specs.Read.{read}
use Rattle.serde_json.specs.View.{view}
use Rattle.bril_json.specs.Reading.{IsValue}
use Rattle.bril_json.proofs.Sources.{answers_fault}
use Rattle.bril_json.proofs.reading.read_json.Goals as goal

pub returns-in-Ok-from_str-clause-fault : goal.returns-in-Ok-from_str-clause-fault
returns-in-Ok-from_str-clause-fault c =
    let same : c.in-Ok.text.now ≡ c.args.source.now = c.in-Ok.ensures.cases.0 in
    let reads = ap read (sym same) ∙ c.in-Ok-from_str.ensures.ok in
    let v : IsValue c.args.source.now (view c.in-Ok-from_str.value) = record { utf8 = c.in-Ok.ensures.cases.1; reads = reads } in
    IfErr-weaker c.tree_of.result _ _ (answers_fault c.args.source.now (view c.in-Ok-from_str.value) v) c.tree_of.ensures.err
