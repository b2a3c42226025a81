use Rattle.std.proofs.Common.{◌≡◌, ◌-◌, ◌^◌, ◌<◌, true, None, Some, get_or, sym, ap, subst, ◌∙◌, inl, inr, ⊎_elim, arith}
use Rattle.std.specs.Prelude.{bit_and}
use Rattle.std.specs.List.{Contains}
use Rattle.std.proofs.lemmas.Option.{same_Some}
use Rattle.graph_search.specs.Sets.{has_bit}
use Rattle.graph_search.proofs.WordBits.{and-each}
use Rattle.variable_coloring.specs.LiveWords.{variable_in}
use Rattle.variable_coloring.specs.Pairs.{pair}
use Rattle.variable_coloring.proofs.Clearing.{left-or_out}
use Rattle.variable_coloring.proofs.Pairing.{adds-as, adds-there, clash-below}
use Rattle.variable_coloring.proofs.pairs.Meetings.add_new.Goals as goal

pub returns-in-None-clause-adds : goal.returns-in-None-clause-adds
returns-in-None-clause-adds c =
    adds-there c.args.related.func.now c.args.block c.args.self.now.list.items (λ k p. (k < 64) × (has_bit c.args.word k ≡ true) × (p ≡ c.args.point)) (λ item y k r clash.
    absurd (let t : None ≡ Some y = sym c.in-None.is ∙ ap (λ p. get_or c.args.dests.now p None) (sym r.2) ∙ c.requires.dests.tells item y (variable_in c.args.block k) clash in cc))

pub returns-then-y-len-clause-adds : goal.returns-then-y-len-clause-adds
returns-then-y-len-clause-adds c =
    let F = c.args.related.func.now in
    adds-there F c.args.block c.args.self.now.list.items (λ k p. (k < 64) × (has_bit c.args.word k ≡ true) × (p ≡ c.args.point)) (λ item y k r clash.
    let same : c.in-Some.y ≡ y = same_Some c.in-Some.y y (sym c.in-Some.is ∙ ap (λ p. get_or c.args.dests.now p None) (sym r.2) ∙ c.requires.dests.tells item y (variable_in c.args.block k) clash) in
    let low = clash-below F item y (variable_in c.args.block k) clash in
    let long = c.requires.done.long in
    let len = c.len.ensures in
    let past = c.if-y-len.true in
    absurd (omega (arith, same, low, long, len, past)))

pub add_word-requires-clause-live : goal.add_word-requires-clause-live
add_word-requires-clause-live c = λ k low h. c.requires.live k low (and-each c.args.word (2 ^ 64 - 1 - c.done.result) k h).0

pub returns-in_ok-add_word-in-Some-clause-adds : goal.returns-in_ok-add_word-in-Some-clause-adds
returns-in_ok-add_word-in-Some-clause-adds c =
    let F = c.args.related.func.now in
    let word = c.args.word in
    let old = c.args.self.now.list.items in
    adds-as F c.args.block old c.add_word.new.self.list.items
    (λ k p. (k < 64) × (has_bit (bit_and word (2 ^ 64 - 1 - c.done.result)) k ≡ true) × (p ≡ c.args.point))
    (λ k p. (k < 64) × (has_bit word k ≡ true) × (p ≡ c.args.point))
    c.in_ok-add_word-in-Some.ensures.adds
    (λ item y k r clash.
    let same : c.in-Some.y ≡ y = same_Some c.in-Some.y y (sym c.in-Some.is ∙ ap (λ p. get_or c.args.dests.now p None) (sym r.2) ∙ c.requires.dests.tells item y (variable_in c.args.block k) clash) in
    ⊎_elim
    (λ there. inr (subst (λ v. Contains old (pair (variable_in c.args.block k) v)) same (c.done.ensures k there)))
    (λ left. inl (r.0, left, r.2))
    (left-or_out word c.done.result k c.done.type_inv r.0 r.1))
