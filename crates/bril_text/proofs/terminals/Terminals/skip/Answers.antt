use Rattle.std.proofs.Common.{◌≡◌, ◌∷◌, subst, rules}
use Rattle.std.specs.List.{All}
use Rattle.std.proofs.lemmas.List.Elements.{All-tail}
use Rattle.bril_text.specs.Terminals.{IsTokenIn}
use Rattle.bril_text.proofs.terminals.Terminals.skip.Goals as goal

pub invariant_of-result : goal.invariant_of-result
invariant_of-result c =
    let P = IsTokenIn c.self.inside.source.now in
    let e : c.self.inside.tokens.now ≡ c.in-Some.field-0-0.now ∷ c.in-Some.rest.now = search rules in
    All-tail P c.in-Some.field-0-0.now c.in-Some.rest.now (subst (All P) e c.self.invariant)
