use Rattle.std.proofs.Common.{ap, arith}
use Rattle.rv64_words_laws.specs.sequences.Moves.{restore_size}
use Rattle.rv64_emit.proofs.places.first_start_of.Goals as goal

pub size-requires-clause-few : goal.size-requires-clause-few
size-requires-clause-few c =
    let size = ap restore_size c.main_moves_of.ensures.moves in
    let few = c.requires.few in
    omega arith

pub overflow_add-result : goal.overflow_add-result
overflow_add-result c =
    let size = ap restore_size c.main_moves_of.ensures.moves in
    let few = c.requires.few in
    omega (arith, c.size.ensures)

pub returns : goal.returns
returns c = let size = ap restore_size c.main_moves_of.ensures.moves in omega (arith, c.size.ensures)
