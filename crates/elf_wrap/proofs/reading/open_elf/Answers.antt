use Rattle.elf_wrap.proofs.Files.{opens_file, file_found, first_told}
use Rattle.elf_wrap.proofs.Numbers.{are_bytes}
use Rattle.elf_wrap.proofs.reading.open_elf.Goals as goal

pub returns-clause-found : goal.returns-clause-found
returns-clause-found c = file_found c.args.source.now c.image_of.result (are_bytes c.args.source.now (λ k. (c.type_inv.source k).fits)) c.image_of.ensures.found

pub returns-clause-opens : goal.returns-clause-opens
returns-clause-opens c = opens_file c.args.source.now c.image_of.result c.image_of.ensures.found c.image_of.ensures.fault

pub returns-clause-faults : goal.returns-clause-faults
returns-clause-faults c = first_told c.args.source.now c.image_of.result c.image_of.ensures.found c.image_of.ensures.fault
