-- The bytes are assembled, or their image is executed.
use Rattle.bril_driver.proofs.unchanged.on_bytes.Goals as goal

pub returns-in-Assemble : goal.returns-in-Assemble
returns-in-Assemble g c = rw c.in-Assemble.is (c.put_assembled.ensures c.args.args.now)

pub returns-in-Execute : goal.returns-in-Execute
returns-in-Execute g c = rw c.in-Execute.is c.execute.ensures
