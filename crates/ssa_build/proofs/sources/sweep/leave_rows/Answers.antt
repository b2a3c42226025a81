use Rattle.std.proofs.Common.{◌<◌, sym, subst}
use Rattle.std.specs.List.{All}
use Rattle.std.proofs.lemmas.List.Elements.{All-map}
use Rattle.ssa_build.specs.sources.Sweeping.{entry_key}
use Rattle.ssa_build.proofs.sources.sweep.leave_rows.Goals as goal

pub of-requires-clause-below : goal.of-requires-clause-below
of-requires-clause-below c = subst (All (λ key. key < c.args.keys)) (sym c.in_ok-list.ensures) (All-map (λ key. key < c.args.keys) entry_key c.args.entries.now c.requires.within)
