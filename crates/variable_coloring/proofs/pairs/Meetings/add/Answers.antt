use Rattle.std.proofs.Common.{◌≡◌, ◌+◌, ◌++◌, ◌∷◌, [], length, sym, subst, ⊎_elim, arith}
use Rattle.std.specs.Prelude.{bit_or}
use Rattle.std.specs.List.{Contains}
use Rattle.std.proofs.lemmas.List.Elements.{Contains-append_left, Contains-push}
use Rattle.flow_graph.specs.declared.reads.Access.{Access}
use Rattle.graph_search.proofs.WordBits.{or-cases}
use Rattle.variable_coloring.specs.LiveWords.{variable_in}
use Rattle.variable_coloring.specs.Pairs.{pair}
use Rattle.variable_coloring.proofs.Pairing.{done-put}
use Rattle.variable_coloring.proofs.pairs.Meetings.add.Goals as goal

pub returns-clause-done : goal.returns-clause-done
returns-clause-done c =
    let self = c.args.self.now in
    let old = self.list.items in
    let new = c.push.new.self.items in
    let grew : new ≡ old ++ c.pair.result ∷ [] = c.in_ok-push.ensures.items in
    let kept : (a : Access) → Contains old a → Contains new a = λ a h. subst (λ l. Contains l a) (sym grew) (Contains-append_left old (c.pair.result ∷ []) a h) in
    let last : Contains new (pair (variable_in c.args.block c.args.k) c.args.y) = subst (Contains new) c.pair.ensures (subst (λ l. Contains l c.pair.result) (sym grew) (Contains-push old c.pair.result)) in
    done-put (length self.blocks.items) old self.blocks.items self.words.items new c.args.block (c.args.block + 1) c.args.y (bit_or c.done.result c.one_bit.result) c.requires.done (omega arith) c.requires.y kept
    (λ j h. ⊎_elim
    (λ d. kept (pair (variable_in c.args.block j) c.args.y) (c.done.ensures j d))
    (λ o. subst (λ i. Contains new (pair (variable_in c.args.block i) c.args.y)) (sym ((c.one_bit.ensures j).0 o)) last)
    (or-cases c.done.result c.one_bit.result j h))
