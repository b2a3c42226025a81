use Rattle.std.proofs.Common.{◌≡◌, true, sym}
use Rattle.serde_json.specs.View.{view}
use Rattle.bril_json.specs.Form.{is_import_path}
use Rattle.bril_json.proofs.Importing.{path_is}
use Rattle.bril_json.proofs.imports.path_of.Goals as goal

pub returns-in-Some-clause-ok : goal.returns-in-Some-clause-ok
returns-in-Some-clause-ok c =
    let yes : is_import_path c.in-Some.path.now ≡ true = cc in
    path_is (view c.args.value.now) c.in-Some.path.now (sym c.in-Some.ensures) yes
