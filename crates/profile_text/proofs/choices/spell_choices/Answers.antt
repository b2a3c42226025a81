use Rattle.std.proofs.Common.{[], ◌∷◌, arith}
use Rattle.profile_text.proofs.Cuts.{equal_not, nonempty}
use Rattle.profile_text.proofs.Entries.{tells_spelled}
use Rattle.profile_text.proofs.choices.spell_choices.Goals as goal

pub returns : goal.returns
returns c =
    let letters = c.args.letters.now in
    tells_spelled letters c.are_letters.result c.are_letters.ensures (nonempty letters c.is_empty.result c.is_empty.ensures c.if-is_empty.false)
    (equal_not letters c.as_slice.result.now (45 ∷ []) c.eq.result c.eq.ensures c.if-eq.false c.as_slice.ensures) (let short = c.if-letters-gt256.false in omega arith)
