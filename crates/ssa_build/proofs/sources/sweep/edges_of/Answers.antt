use Rattle.std.proofs.Common.{◌<◌, ◌+◌, length, sym, subst}
use Rattle.std.specs.List.{All}
use Rattle.bril_tree.specs.Sites.{AreSitesSound}
use Rattle.flow_graph.specs.Graph.{IsGraphOf}
use Rattle.ssa_build.specs.sources.Sweeping.{entry_key}
use Rattle.ssa_build.proofs.lemmas.sources.Adding.{entries-keys}
use Rattle.ssa_build.proofs.sources.sweep.edges_of.Goals as goal

pub label_entries-requires-clause-sound : goal.label_entries-requires-clause-sound
label_entries-requires-clause-sound c = subst AreSitesSound (sym c.as_slice-code.ensures) c.requires.sound

pub leave_rows-requires-clause-within : goal.leave_rows-requires-clause-within
leave_rows-requires-clause-within c =
    let code = c.as_slice-code.result.now in
    subst (All (λ entry. entry_key entry < length code + 1)) (sym c.as_slice.ensures.value)
    (entries-keys code c.args.graph.now (subst (λ l. IsGraphOf l c.args.graph.now) (sym c.as_slice-code.ensures) c.requires.graph) (subst AreSitesSound (sym c.as_slice-code.ensures) c.requires.sound) c.in_ok-entries.entries.items c.in_ok-entries.ensures)
