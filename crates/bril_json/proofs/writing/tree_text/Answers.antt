use Rattle.std.proofs.Common.{ap, ◌∙◌}
use Rattle.std.proofs.lemmas.Result.{IfOk-weaker}
use Rattle.serde_json.specs.Written.{compact_text, has_float}
use Rattle.bril_json.specs.Canonical.{json_of, canonical_json}
use Rattle.bril_json.proofs.Plain.{plain_whole}
use Rattle.bril_json.proofs.PlainTrees.{tree_flat}
use Rattle.bril_json.proofs.writing.tree_text.Goals as goal

pub returns-clause-text : goal.returns-clause-text
unfolding canonical_json
returns-clause-text c =
    let seen = c.in_ok-value.ensures.value in
    let whole = ap has_float seen ∙ plain_whole (json_of c.args.tree.now) (tree_flat c.args.tree.now c.in_ok-value.ensures.valid).0 in
    IfOk-weaker c.to_vec.result _ _ (λ text same. same whole ∙ ap compact_text seen) c.to_vec.ensures.text
