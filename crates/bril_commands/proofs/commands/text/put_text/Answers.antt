-- The text was made, and put.
use Rattle.bril_commands.proofs.commands.text.put_text.Goals as goal

pub returns : goal.returns
returns g c = rw (c.as_slice.ensures, c.in_ok-write_text.ensures.text, c.new-text.ensures) at c.put_alone.ensures
