use Rattle.std.proofs.Common.{sym, ◌∙◌}
use Rattle.elf_wrap.proofs.Files.{header_there}
use Rattle.elf_wrap.proofs.reading.image_of.Goals as goal

pub read_image-requires-clause-long : goal.read_image-requires-clause-long
read_image-requires-clause-long c = header_there c.args.source.now (sym c.fault_of.ensures ∙ c.in_default.is)
