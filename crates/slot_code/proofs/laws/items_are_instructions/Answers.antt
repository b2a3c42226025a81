use Rattle.slot_code.proofs.Operands.{item_reads}
use Rattle.slot_code.proofs.Rows.{item_assigns, item_goes}
use Rattle.slot_code.proofs.laws.items_are_instructions.Goals as goal

pub returns : goal.returns
returns c = record {
  read = item_reads;
  assign = item_assigns;
  go = item_goes;
}
