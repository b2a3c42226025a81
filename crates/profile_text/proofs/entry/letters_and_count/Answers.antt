use Rattle.std.proofs.Common.{sym, ◌∙◌}
use Rattle.std.specs.Fmt.{decimal}
use Rattle.profile_text.proofs.Cuts.{cut_once, lacks_at}
use Rattle.profile_text.proofs.entry.letters_and_count.Goals as goal

pub returns-in_default : goal.returns-in_default
returns-in_default c = λ letters count cut fits e. lacks_at 32 c.args.rest.now letters (decimal count) c.in_default.ensures e

pub returns-in_default-read_count : goal.returns-in_default-read_count
returns-in_default-read_count c = λ letters count cut fits e.
    c.in_default-read_count.ensures count fits (cut_once 32 c.in-Some.letters.now letters c.in-Some.digits.now (decimal count) c.in-Some.ensures.1 cut (sym c.in-Some.ensures.0 ∙ e)).1
