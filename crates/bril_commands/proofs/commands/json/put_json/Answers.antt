-- The line was made, and put.
use Rattle.bril_commands.proofs.commands.json.put_json.Goals as goal

pub returns : goal.returns
returns g c = rw (c.as_slice.ensures, c.in_ok-add.ensures.ok, c.in_ok-write_json.ensures.text, c.new-text.ensures) at c.put_alone.ensures
