use Rattle.std.proofs.Common.{◌/◌, length}
use Rattle.elf_wrap.specs.Form.{words_in}
use Rattle.elf_wrap.proofs.Numbers.{read_more}
use Rattle.elf_wrap.proofs.reading.read_words.Goals as goal

pub words-preserved : goal.words-preserved
words-preserved c =
    read_more c.words.words c.in-Some.word c.words.rest.now c.in-Some.after.now c.push.new.self (words_in (length c.args.bytes.now / 4) c.args.bytes.now) c.in-Some.ensures.0 c.in-Some.ensures.1 c.in-Some.ensures.2 c.in_ok-push.ensures.ok c.words.invariant
