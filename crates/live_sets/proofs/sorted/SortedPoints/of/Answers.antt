use Rattle.std.proofs.Common.{◌≡◌, ◌↔◌, subst, ◌∙◌, arith}
use Rattle.std.specs.Prelude.{IsTrue}
use Rattle.std.specs.List.{Contains}
use Rattle.std.proofs.lemmas.List.{take_all}
use Rattle.std.proofs.lemmas.List.Sorted.{IsNonDecreasingBy-from_sort}
use Rattle.live_sets.specs.Among.{is_among}
use Rattle.live_sets.proofs.Sets.{permuted-among}
use Rattle.live_sets.proofs.sorted.SortedPoints.of.Goals as goal

pub invariant_of-result : goal.invariant_of-result
invariant_of-result c = record { rising = IsNonDecreasingBy-from_sort (λ x. x) c.sort_unstable.new.self.items c.sort_unstable.ensures.sorted }

pub returns : goal.returns
returns c =
    let all : c.loop-point.points.items ≡ c.args.found.now = c.loop-point.invariant ∙ take_all c.loop-point.point-index c.args.found.now (omega arith) in
    λ point. subst (λ xs. IsTrue (is_among point c.sort_unstable.new.self.items) ↔ Contains xs point) all (permuted-among c.loop-point.points.items c.sort_unstable.new.self.items c.sort_unstable.ensures.permutation point)
