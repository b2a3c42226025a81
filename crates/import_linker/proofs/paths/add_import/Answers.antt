-- A path more was seen.
use Rattle.std.proofs.Common.{◌≡◌, ◌∙◌, false, ℕ, List, [], ◌∷◌, ◌++◌, sym, ap, subst}
use Rattle.std.specs.Prelude.{if◌then◌else◌}
use Rattle.import_linker.proofs.LookedUp.{known_more}
use Rattle.import_linker.specs.Looked.{AreKnown}
use Rattle.import_linker.specs.Names.{contains}
use Rattle.import_linker.specs.Order.{added, joined}
use Rattle.import_linker.proofs.paths.add_import.Goals as goal

pub returns-clause-known : goal.returns-clause-known
returns-clause-known c =
    let seen = c.args.seen.now in
    let path = c.args.path.now in
    let importer = c.args.importer.now in
    let absent : contains seen path ≡ false = ap (contains seen) (sym c.as_bytes.ensures.value) ∙ sym c.has.ensures ∙ c.if-has.false in
    let all : c.add.new.self ≡ seen ++ path ∷ [] = c.in_ok-add.ensures.ok.1 ∙ ap (λ (p : List ℕ). if contains seen p then seen else seen ++ p ∷ []) c.as_bytes-2.ensures.value
    ∙ ap (λ b. if b then seen else seen ++ path ∷ []) absent in
    let known : c.add_path.new.known ≡ added c.args.known.now (joined importer path) = c.in_ok-add_path.ensures.ok ∙ ap (added c.args.known.now) c.in_ok-whole.ensures in
    subst (λ (l : List (List ℕ)). AreKnown c.add_path.new.known importer l) (sym all)
    (subst (λ (k : List (List ℕ)). AreKnown k importer (seen ++ path ∷ [])) (sym known) (known_more c.args.known.now importer seen path c.requires.known))
