use Rattle.std.proofs.Common.{ap, ◌∙◌}
use Rattle.profile_text.specs.declared.entry.Parts.{Parts}
use Rattle.profile_text.specs.Form.{parts_line}
use Rattle.profile_text.proofs.Entries.{bad_names, bad_ending, bad_parts}
use Rattle.profile_text.proofs.entry.entry_parts.Goals as goal

pub returns-in_default : goal.returns-in_default
returns-in_default c = bad_names c.args.version c.args.line.now c.in_default.ensures

pub returns-in_default-ending_of : goal.returns-in_default-ending_of
returns-in_default-ending_of c =
    let names = c.in-Some.names in
    bad_ending c.args.version c.args.line.now names.func.now names.label.now names.ending.now c.in-Some.ensures.0 c.in-Some.ensures.1.0 c.in-Some.ensures.1.1 c.in_default-ending_of.ensures

pub returns-then-are_parts : goal.returns-then-are_parts
returns-then-are_parts c =
    let names = c.in-Some.names in
    (c.in-Some.ensures.0 ∙ ap (λ z. parts_line names.func.now names.label.now z) c.in-Some-ending_of.ensures.0, (c.if-are_parts.ensures, c.in-Some-ending_of.ensures.1.1))

pub returns : goal.returns
returns c =
    let names = c.in-Some.names in
    let parts : Parts = record { func = names.func; label = names.label; letters = c.in-Some-ending_of.letters; count = c.in-Some-ending_of.count } in
    bad_parts c.args.version c.args.line.now parts (c.in-Some.ensures.0 ∙ ap (λ z. parts_line names.func.now names.label.now z) c.in-Some-ending_of.ensures.0) c.in-Some.ensures.1.0 c.in-Some.ensures.1.1
    c.in-Some-ending_of.ensures.1.0 c.in-Some-ending_of.ensures.1.1 c.if-are_parts.ensures
