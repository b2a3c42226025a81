use Rattle.std.proofs.Common.{◌⊎◌, ◌≤◌, subst}
use Rattle.bril_tree.specs.Size.{IsCounted, item_count}
use Rattle.bril_tree.specs.declared.program.Prog.{Prog}
use Rattle.pass_make.proofs.Told.{room-told}
use Rattle.pass_make.proofs.edit.made_by.Goals as goal

pub edit-requires : goal.edit-requires
edit-requires g c =
    room-told (g.E.Edit.meaning.IsBound c.args.prog.now.prog c.args.profile.now) c.in_ok-bound.field-0 c.in_ok-bound.ensures.bound c.args.prog.now.prog (subst IsCounted c.prog-old.ensures.value c.prog-old.ensures.counted)
    (c.bound.ensures.numbers.bound.one c.args.prog.now.prog c.args.profile.now) (subst (λ (P : Prog). (c.in_ok-bound.field-0 ≤ 1000000) ⊎ (c.in_ok-bound.field-0 ≤ item_count P)) c.prog-old.ensures.value c.in_ok-room.ensures.fits)
