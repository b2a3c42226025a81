use Rattle.std.proofs.Common.{◌≡◌, ◌∙◌, ap}
use Rattle.bril_interpreter.specs.Interpreter.{InterpView}
use Rattle.bril_interpreter.proofs.Known.{item_found}
use Rattle.bril_interpreter.proofs.interp.Interp.item.Goals as goal

pub returns : goal.returns
returns c =
    let point : c.point.result ≡ c.args.self.now.newest.point = c.point.ensures ∙ ap (λ (i : InterpView). i.newest.point) c.self.view_is in
    rw (c.code.ensures, point) at (item_found c.code.result.now c.point.result c.get.result c.get.ensures.lookup)
