use Rattle.std.proofs.Common.{◌≡◌, ◌<◌, length, map, take, sym, ap, subst, ◌∙◌, arith}
use Rattle.std.specs.List.{All}
use Rattle.std.proofs.lemmas.Result.{IfOk-weaker}
use Rattle.trace_paths.specs.Fits.{count_of}
use Rattle.trace_paths.specs.Ranks.{rank_count}
use Rattle.trace_paths.specs.Taken.{taken}
use Rattle.trace_recorder.specs.Kept.{entry_at, ranks_from, view_of}
use Rattle.trace_recorder.specs.Standing.{entries_of}
use Rattle.trace_recorder.proofs.Ranking.{All-taken, ranked, ranks-within, made_all}
use Rattle.trace_recorder.proofs.parts.Parts.entries.Goals as goal

pub entries_at-requires-clause-within : goal.entries_at-requires-clause-within
entries_at-requires-clause-within c =
    let most = c.args.self.now.most in
    let counts = (view_of c.args.self.now).counts in
    let p = c.args.self.now.paths in
    let is : c.as_slice-2.result.now ≡ take c.args.self.now.most (taken rank_count (ranks_from (view_of c.args.self.now).counts 0 c.args.self.now.paths.held.items)) =
    c.as_slice-2.ensures.value ∙ c.in_ok-first.ensures ∙ ap (λ l. take c.args.self.now.most (taken rank_count l)) (c.as_slice.ensures.value ∙ c.in_ok-ranks.ensures) in
    subst (All (λ r. r.place < length c.args.self.now.paths.held.items)) (sym is)
    (All-taken (λ r. r.place < length c.args.self.now.paths.held.items) rank_count most (ranks_from counts 0 p.held.items) (ranks-within counts p.log.items p.items p.laid 0 (length p.held.items) p.held.items (omega arith)))

pub returns : goal.returns
returns c =
    let counts = (view_of c.args.self.now).counts in
    let p = c.args.self.now.paths in
    let is : c.as_slice-2.result.now ≡ take c.args.self.now.most (taken rank_count (ranks_from (view_of c.args.self.now).counts 0 c.args.self.now.paths.held.items)) =
    c.as_slice-2.ensures.value ∙ c.in_ok-first.ensures ∙ ap (λ l. take c.args.self.now.most (taken rank_count l)) (c.as_slice.ensures.value ∙ c.in_ok-ranks.ensures) in
    let all : map (entry_at p.log.items p.held.items) c.as_slice-2.result.now ≡ entries_of (view_of c.args.self.now) =
    ap (map (entry_at p.log.items p.held.items)) is ∙ ranked counts p.log.items p.items p.laid c.args.self.now.most p.held.items
    ∙ ap (λ l. take c.args.self.now.most (taken count_of l)) (made_all counts p.log.items p.items p.laid p.held.items) in
    IfOk-weaker c.entries_at.result (λ entries. entries.items ≡ map (entry_at p.log.items p.held.items) c.as_slice-2.result.now) (λ entries. entries.items ≡ entries_of (view_of c.args.self.now)) (λ entries e. e ∙ all) c.entries_at.ensures
