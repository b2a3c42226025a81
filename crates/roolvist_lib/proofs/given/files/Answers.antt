-- A file is added.
use Rattle.std.proofs.Common.{◌≡◌, true, ◌∷◌, ap, subst, ◌∙◌}
use Rattle.std.specs.Str.{is_utf8}
use Rattle.roolvist_lib.proofs.Held.{AreAdded, more_added}
use Rattle.roolvist_lib.proofs.given.files.Goals as goal

pub files-preserved : goal.files-preserved
files-preserved c =
    let path = c.in-Some.path.now in
    let left : c.files.left.now ≡ path ∷ c.in-Some.others.now = c.in-Some.ensures.cases.0 in
    let others : c.in-Some.others.now ≡ c.in-Some-split_first.bytes.now ∷ c.in-Some-split_first.rest.now = c.in-Some-split_first.ensures.cases.0 in
    let added = subst (λ l. AreAdded c.args.pieces.now l c.files.files) (left ∙ ap (λ l. path ∷ l) others) c.files.invariant in
    let name : c.in_ok-text_of.field-0 ≡ path = c.in_ok-text_of.ensures.text ∙ c.as_slice.ensures in
    let utf8 : is_utf8 path ≡ true = rw c.as_slice.ensures at c.in_ok-text_of.ensures.utf8 in
    let changes = rw (name, c.as_slice-in-Some.ensures) at c.in_ok-add.ensures.ok in
    more_added _ _ _ _ _ _ added utf8 changes (ap (λ m. m.reads) c.add.ensures.rest) (ap (λ m. m.faults) c.add.ensures.rest)
