use Rattle.profile_text.proofs.Entries.{no_space, no_dot, no_second_space}
use Rattle.profile_text.proofs.entry.names_of.Goals as goal

pub returns-in_default-split_at_byte : goal.returns-in_default-split_at_byte
returns-in_default-split_at_byte c = no_space c.args.line.now c.in-Some.rest.now c.in-Some.ensures c.in_default-split_at_byte.ensures

pub returns-in_default-behind : goal.returns-in_default-behind
returns-in_default-behind c =
    no_dot c.args.line.now c.in-Some.rest.now c.in-Some-split_at_byte.func.now c.in-Some-split_at_byte.rest.now c.in-Some.ensures c.in-Some-split_at_byte.ensures.0 c.in-Some-split_at_byte.ensures.1 c.in_default-behind.ensures

pub returns-in_default-split_at_byte-2 : goal.returns-in_default-split_at_byte-2
returns-in_default-split_at_byte-2 c =
    no_second_space c.args.line.now c.in-Some.rest.now c.in-Some-split_at_byte.func.now c.in-Some-split_at_byte.rest.now c.in-Some-behind.rest.now c.in-Some.ensures c.in-Some-split_at_byte.ensures.0 c.in-Some-split_at_byte.ensures.1
    c.in-Some-behind.ensures c.in_default-split_at_byte-2.ensures
