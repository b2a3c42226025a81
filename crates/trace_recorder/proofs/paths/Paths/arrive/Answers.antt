use Rattle.std.proofs.Common.{◌≡◌, length, map, Some, ap, sym, subst, ◌∙◌}
use Rattle.trace_recorder.specs.declared.passing.Passing.TheVariants.{Over}
use Rattle.trace_recorder.specs.Kept.{closed_if, held_of, is_at, paths_view, OwnEnded}
use Rattle.trace_recorder.specs.Standing.{seeing}
use Rattle.trace_recorder.proofs.Following.{own_ended, own_first_seen}
use Rattle.trace_recorder.proofs.paths.Paths.arrive.Goals as goal

pub returns-clause-view : goal.returns-clause-view
returns-clause-view c = λ numbered s function point over.
    let p = c.args.self.now in
    let held = c.close_own.ensures.held numbered in
    let rest = c.close_own.ensures.rest in
    let own = subst (OwnEnded (Some s)) (sym held) (own_ended s c.args.arrival function point (length p.log.items) p.held.items) in
    let mid : paths_view c.close_own.new.self ≡ map (held_of c.args.self.now.log.items c.args.self.now.items c.args.self.now.laid) (map (λ k. closed_if (is_at c.args.arrival k.named.place) (length c.args.self.now.log.items) k) c.args.self.now.held.items) =
    (λ i. map (held_of (rest i).log.items (rest i).items (rest i).laid) (held i)) in
    c.go.ensures.view (Some s) over own ∙ ap (map (seeing (Some s))) mid ∙ own_first_seen s c.args.arrival function point Over p.log.items p.items p.laid p.held.items over c.requires.kept

pub returns-clause-places : goal.returns-clause-places
returns-clause-places c = c.go.ensures.places ∙ c.close_own.ensures.places
