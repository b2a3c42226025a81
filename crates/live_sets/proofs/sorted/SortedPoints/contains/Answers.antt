use Rattle.std.proofs.Common.{subst, ◌∙◌, nat_cmp}
use Rattle.std.specs.List.Sorted.{IsBinarySearchResult}
use Rattle.live_sets.proofs.Sets.{search-among}
use Rattle.live_sets.proofs.sorted.SortedPoints.contains.Goals as goal

pub returns : goal.returns
returns c =
    let points = c.args.self.now.points.items in
    c.is_ok.ensures.value
    ∙ search-among points c.args.point c.binary_search.result (subst (λ xs. IsBinarySearchResult (λ y. nat_cmp y c.args.point) xs c.binary_search.result) c.as_slice.ensures.value c.binary_search.ensures.position) c.args.self.now.rising
