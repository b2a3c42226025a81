-- The rooms are those of the buffers.
use Rattle.std.proofs.Common.{length}
use Rattle.roolvist_lib.proofs.call.call_as.Given as goal

abbrev pub ghosts-answer-O-Room : goal.ghosts-answer-O-Room
ghosts-answer-O-Room g a = record { room = length a.out.now }

abbrev pub ghosts-answer-E-Room : goal.ghosts-answer-E-Room
ghosts-answer-E-Room g a = record { room = length a.err.now }
