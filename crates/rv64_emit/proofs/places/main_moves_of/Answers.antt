use Rattle.std.proofs.Common.{sym, ap, ◌∙◌, subst}
use Rattle.rv64_emit_laws.specs.layout.Homes.{opening_moves}
use Rattle.rv64_emit_laws.specs.layout.Image.{opening_or_none}
use Rattle.rv64_emit.specs.Moved.{AreMovable}
use Rattle.rv64_emit.specs.Placed.{all_homes}
use Rattle.rv64_emit.proofs.places.main_moves_of.Goals as goal

pub loaded-requires : goal.loaded-requires
loaded-requires c = subst (λ own. AreMovable own c.function_at.result.now) (sym c.in_function-own.ensures) (c.requires.movable c.args.slots.now.main c.function_at.result.now c.function_at.ensures)

pub returns-clause-moves : goal.returns-clause-moves
returns-clause-moves c =
    c.loaded.ensures.moves
    ∙ (ap (λ own. opening_moves own c.function_at.result.now) c.in_function-own.ensures ∙ sym (ap (opening_or_none (all_homes c.args.homes.now c.args.slots.now.main)) c.function_at.ensures))
