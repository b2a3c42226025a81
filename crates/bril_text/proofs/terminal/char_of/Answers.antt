use Rattle.std.proofs.Common.{sym}
use Rattle.bril_text.proofs.Chars.{no_escape}
use Rattle.bril_text.proofs.terminal.char_of.Goals as goal

pub scalar_of-requires : goal.scalar_of-requires
scalar_of-requires c = no_escape c.args.text.now c.requires (sym c.in-None.ensures)
