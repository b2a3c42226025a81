use Rattle.std.proofs.Common.{ℕ, ◌+◌, ◌<◌, ◌∙◌, List, Some, length, sym, ap, subst}
use Rattle.std.specs.Prelude.{slice_get, slice_range}
use Rattle.side_laws.specs.Paired.{Pair}
use Rattle.side_pairs.specs.Draft.{DraftView}
use Rattle.side_pairs.proofs.Drafting.{paired-is, part-is}
use Rattle.side_pairs.proofs.draft.Draft.paired.Goals as goal

pub returns : goal.returns
returns c =
    let d = c.self.inside in
    let f = c.index-found.result.now in
    let pairs = ap (λ (v : DraftView). v.pairs) c.self.view_is in
    let less : c.args.place < length c.args.self.now.pairs = c.requires in
    let is = paired-is d.kept.items d.found.items c.args.place f (subst (λ (ps : List Pair). c.args.place < length ps) (sym pairs) less) c.index-found.ensures in
    let part = ap (λ (ks : List ℕ). slice_range ks f.first (f.first + f.count)) c.deref.ensures.value ∙ part-is d.kept.items f.first f.count in
    ap (λ ks. Some (record { guard = f.guard; bail = f.bail; kept = ks; other = f.other })) part ∙ is ∙ ap (λ (ps : List Pair). slice_get ps c.args.place) pairs
