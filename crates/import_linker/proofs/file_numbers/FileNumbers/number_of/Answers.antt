-- The number was found before, or is one more.
use Rattle.std.proofs.Common.{◌≡◌, ◌∙◌, true, false, ℕ, List, [], ◌∷◌, ◌++◌, sym, ap, subst, get_or, map}
use Rattle.std.specs.Prelude.{bytes_eq, if◌then◌else◌}
use Rattle.std.specs.List.{position_or_len}
use Rattle.import_linker.proofs.Held.{place_some}
use Rattle.import_linker.proofs.LookedUp.{numbers_more, value_there}
use Rattle.import_linker.specs.Looked.{AreNumbers}
use Rattle.import_linker.specs.Names.{contains}
use Rattle.import_linker.specs.Order.{file_at, joined}
use Rattle.import_linker.proofs.file_numbers.FileNumbers.number_of.Goals as goal

pub returns-in-Some-clause-number : goal.returns-in-Some-clause-number
returns-in-Some-clause-number c =
    let paths = c.args.self.now.paths in
    let path = c.as_bytes.result.now in
    let f : List ℕ → ℕ = λ p. file_at c.args.known.now (joined c.args.importer.now p) in
    let there : contains paths path ≡ true = sym c.in-Some.ensures.found in
    let place : c.in-Some.place ≡ position_or_len (bytes_eq path) paths = place_some (bytes_eq path) paths c.in-Some.place c.in-Some.ensures.place in
    ap (λ (l : List ℕ). get_or l c.in-Some.place 0) (c.as_slice.ensures ∙ c.requires) ∙ ap (λ n. get_or (map f paths) n 0) place ∙ value_there path f paths there ∙ ap f c.as_bytes.ensures.value

pub returns-clause-numbers : goal.returns-clause-numbers
returns-clause-numbers c =
    let paths = c.args.self.now.paths in
    let path = c.args.path.now in
    let absent : contains paths path ≡ false = ap (contains paths) (sym c.as_bytes.ensures.value) ∙ sym c.in_default.ensures.found in
    let added : c.add.new.self ≡ paths ++ path ∷ [] = c.in_ok-add.ensures.ok.1 ∙ ap (λ (p : List ℕ). if contains paths p then paths else paths ++ p ∷ []) c.as_bytes-2.ensures.value
    ∙ ap (λ b. if b then paths else paths ++ path ∷ []) absent in
    let number = c.number_of-number.ensures ∙ ap (file_at c.args.known.now) (c.as_str.ensures ∙ c.in_ok-whole.ensures) in
    let more = numbers_more c.args.known.now c.args.importer.now paths c.args.self.now.numbers path c.number_of-number.result c.requires number in
    subst (λ (l : List (List ℕ)). AreNumbers c.args.known.now c.args.importer.now l c.push.new.self) (sym added)
    (subst (λ (l : List ℕ). AreNumbers c.args.known.now c.args.importer.now (paths ++ path ∷ []) l) (sym c.in_ok-push.ensures.ok) more)
