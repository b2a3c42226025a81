-- The name is there, or it isn't.
use Rattle.std.proofs.Common.{◌≡◌, ◌∙◌, sym, ap, cond, refl, true, false, Some, None}
use Rattle.std.specs.Prelude.{not}
use Rattle.import_linker.specs.Names.{contains}
use Rattle.import_linker.proofs.renaming.name_beside.Goals as goal

pub returns-in_ok-copied-in-Some-clause-all : goal.returns-in_ok-copied-in-Some-clause-all
returns-in_ok-copied-in-Some-clause-all c =
    let name = c.args.name.now in
    let there : contains c.args.names.now name ≡ true = sym (c.in-Some.ensures.found ∙ ap (contains c.args.names.now) c.as_bytes.ensures.value) in
    ap (λ b. cond (not b) (Some name) None) there

pub returns-in_ok-not_there-in-None-clause-all : goal.returns-in_ok-not_there-in-None-clause-all
returns-in_ok-not_there-in-None-clause-all c =
    let name = c.args.name.now in
    let lacks : contains c.args.names.now name ≡ false = sym (c.in-None.ensures.found ∙ ap (contains c.args.names.now) c.as_bytes.ensures.value) in
    rw c.in_ok-not_there-in-None.ensures (refl, ap (λ b. cond (not b) (Some name) None) lacks)
