use Rattle.std.proofs.Common.{refl}
use Rattle.bril_json.specs.Form.{type_around}
use Rattle.bril_tree.proofs.Equal.{Ty-equal}
use Rattle.bril_json.proofs.types.type_around.Goals as goal

pub returns : goal.returns
returns c = Ty-equal _ (type_around c.args.left c.args.base) refl refl
