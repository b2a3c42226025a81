use Rattle.std.proofs.Common.{Ok, Err, length, refl, ap, sym, subst, ◌∙◌, nat_cmp}
use Rattle.std.specs.Prelude.{slice_get}
use Rattle.std.specs.List.Sorted.{IsBinarySearchResult}
use Rattle.std.proofs.lemmas.Option.{slice_get_past, slice_get_read}
use Rattle.live_sets.proofs.Sets.{next-here, next-later, next-none}
use Rattle.live_sets.proofs.sorted.SortedPoints.next.Goals as goal

pub returns-in-Ok : goal.returns-in-Ok
returns-in-Ok c =
    next-here c.args.self.now.points.items c.args.from c.in-Ok.field-0
    (subst (λ xs. IsBinarySearchResult (λ y. nat_cmp y c.args.from) xs (Ok c.in-Ok.field-0)) c.as_slice.ensures.value c.in-Ok.ensures.position) c.args.self.now.rising

pub returns-in-None : goal.returns-in-None
returns-in-None c =
    next-none c.args.self.now.points.items c.args.from c.in-Err.place
    (subst (λ xs. IsBinarySearchResult (λ y. nat_cmp y c.args.from) xs (Err c.in-Err.place)) c.as_slice.ensures.value c.in-Err.ensures.position) c.args.self.now.rising
    (ap (λ l. slice_get l c.in-Err.place) (sym c.as_slice-in-Err.ensures.value) ∙ slice_get_past c.as_slice-in-Err.result.now c.in-Err.place c.in-None.ensures.lookup.3)

pub returns-in-Some : goal.returns-in-Some
returns-in-Some c =
    next-later c.args.self.now.points.items c.args.from c.in-Err.place
    (subst (λ xs. IsBinarySearchResult (λ y. nat_cmp y c.args.from) xs (Err c.in-Err.place)) c.as_slice.ensures.value c.in-Err.ensures.position) c.args.self.now.rising
    c.in-Some.point.now (ap (λ l. slice_get l c.in-Err.place) (sym c.as_slice-in-Err.ensures.value) ∙ slice_get_read c.as_slice-in-Err.result.now (length c.as_slice-in-Err.result.now) c.in-Err.place c.in-Some.point.now refl c.in-Some.ensures.lookup.3.0 (c.in-Some.ensures.lookup.3.1 c.in-Some.point.now))
