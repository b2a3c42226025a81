use Rattle.std.proofs.Common.{◌∷◌, [], ◌∙◌, ap, map}
use Rattle.side_pairs.specs.Draft.{DraftView, found_pair}
use Rattle.side_pairs.proofs.Drafting.{pairs-same}
use Rattle.side_pairs.proofs.draft.Draft.keep.Goals as goal

pub returns-clause-pairs : goal.returns-clause-pairs
returns-clause-pairs c =
    let d = c.self.inside in
    ap (λ ks. map (found_pair ks) d.found.items) c.in_ok-push.ensures.items ∙ pairs-same d.kept.items (c.args.item ∷ []) d.found.items c.self.invariant ∙ ap (λ (v : DraftView). v.pairs) c.self.view_is
