-- A copy of one variable to another relates and links both.
use Rattle.std.proofs.Common.{◌∙◌, sym}
use Rattle.variable_renaming.specs.Apart.{Copies}
use Rattle.coalesce.proofs.classes.Classes.look_at.Goals as goal

pub look_at_copy-requires : goal.look_at_copy-requires
look_at_copy-requires c =
    let x = c.in-Some-Some.x in
    let y = c.in-Some-Some.y in
    let copies : Copies c.args.item.now x y = (sym c.dest_of.ensures ∙ c.in-Some-Some.is-0, sym c.source_of.ensures ∙ c.in-Some-Some.is-1) in
    record { may = record { clashes = c.requires.clashes; state = c.requires.state; both = c.requires.related x y copies c.if-x-y.true; linked = c.requires.linked x y copies } }
