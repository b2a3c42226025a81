use Rattle.std.proofs.Common.{refl, ap, ◌≡◌}
use Rattle.std.proofs.lemmas.Int.{to_z-of_z}
use Rattle.bril_interpreter.specs.Interpreter.{InterpView, state_of}
use Rattle.bril_interpreter.specs.Steps.{newest_of, older_of}
use Rattle.bril_interpreter.proofs.Steps.{Did-from, loads-fault}
use Rattle.bril_interpreter.proofs.interp.Interp.load.Goals as goal

pub returns-in-Err : goal.returns-in-Err
returns-in-Err c =
    let i = c.args.self.now in
    let cells : c.self.inside.cells ≡ i.cells = ap (λ (i : InterpView). i.cells) c.self.view_is in
    let fits = c.offset_of.ensures.fits in
    let told = simp to_z-of_z at c.in-Err.ensures in
    let answer = rw (c.block_of.ensures, c.offset_of.ensures.value, cells) at told in
    Did-from i i c.fault.new.self _ _ c.fault.ensures
    (loads-fault i.checked.prog i.limits (newest_of i) (older_of i) (state_of i) _ c.in-Err.kind c.args.pointer c.args.dest answer)
    refl refl refl
