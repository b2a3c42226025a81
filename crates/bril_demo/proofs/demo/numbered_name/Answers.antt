use Rattle.std.proofs.Common.{◌≡◌, ◌∙◌, ap, true, List, ℕ, ◌∷◌, ◌++◌, ◌<◌, ◌^◌, rules}
use Rattle.std.specs.Fmt.{decimal}
use Rattle.bril_tree.specs.Identifier.{is_identifier}
use Rattle.bril_demo.proofs.Names.{is_name}
use Rattle.bril_demo.proofs.demo.numbered_name.Goals as goal

pub of_identifier-requires : goal.of_identifier-requires
of_identifier-requires c =
    let bytes : c.in_ok-bytes.bytes.items ++ c.as_bytes.result.now ≡ c.args.letter ∷ decimal c.args.number =
    ap (λ (l : List ℕ). l ++ c.as_bytes.result.now) c.in_ok-bytes.ensures.items ∙ ap (λ (l : List ℕ). c.args.letter ∷ l) (c.as_bytes.ensures.value ∙ c.format.ensures.text) in
    let same : c.as_slice.result.now ≡ c.args.letter ∷ decimal c.args.number = c.as_slice.ensures.value ∙ c.in_ok-extend_from_slice.ensures.items ∙ bytes in
    let small : c.args.number < 2 ^ 64 = search rules in
    let is : is_identifier c.as_slice.result.now ≡ true = ap is_identifier same ∙ is_name c.args.letter c.args.number c.requires small in
    search rules
