use Rattle.std.proofs.Common.{refl, sym, ◌∙◌}
use Rattle.serde_json.specs.View.{view}
use Rattle.bril_json.proofs.Importing.{import_is}
use Rattle.bril_json.proofs.imports.import_of.Goals as goal

pub returns-clause-ok : goal.returns-clause-ok
returns-clause-ok c =
    let path = c.in_ok-path.ensures.ok in
    import_is c.file-position.result (view c.args.object.now) (view c.in_ok-required.field-0.now) path.0 _ _ _ c.file-position.ensures c.in_ok-required.ensures.ok path.2 c.in_ok-list_at.ensures.ok c.in_ok-names.ensures.ok (c.in_ok-path-2.ensures ∙ sym path.1) refl
