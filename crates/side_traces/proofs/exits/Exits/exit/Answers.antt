use Rattle.std.proofs.Common.{rules, ◌<◌, ◌∙◌, List, ℕ, length, sym, ap, subst}
use Rattle.std.specs.Prelude.{slice_get}
use Rattle.bril_tree.proofs.Elements.{get_at}
use Rattle.side_laws.specs.Sided.{SideExit}
use Rattle.side_pairs.specs.Pairs.{pair_of}
use Rattle.side_traces.proofs.Names.{exits-at, place-there}
use Rattle.side_traces.proofs.exits.Exits.exit.Goals as goal

pub pair-requires : goal.pair-requires
pair-requires c = (place-there c.self.inside.pairs c.self.inside.names c.args.self.now c.args.place c.self.invariant c.self.view_is c.requires).0

pub offset_bounds-as_slice-place : goal.offset_bounds-as_slice-place
offset_bounds-as_slice-place c =
    let there = place-there c.self.inside.pairs c.self.inside.names c.args.self.now c.args.place c.self.invariant c.self.view_is c.requires in
    let below : c.args.place < length c.as_slice.result.now = subst (λ (l : List (List ℕ)). c.args.place < length l) (sym c.as_slice.ensures) there.1 in
    search rules

pub bounds-as_slice-place : goal.bounds-as_slice-place
bounds-as_slice-place c =
    let there = place-there c.self.inside.pairs c.self.inside.names c.args.self.now c.args.place c.self.invariant c.self.view_is c.requires in
    subst (λ (l : List (List ℕ)). c.args.place < length l) (sym c.as_slice.ensures) there.1

pub returns : goal.returns
returns c =
    let pairs = c.self.inside.pairs in
    let names = c.self.inside.names in
    let place = c.args.place in
    let name = c.index-as_slice-place.result in
    let there = place-there pairs names c.args.self.now place c.self.invariant c.self.view_is c.requires in
    let at = get_at c.as_slice.result.now names c.as_slice.ensures place name (subst (λ (l : List (List ℕ)). place < length l) (sym c.as_slice.ensures) there.1) c.index-as_slice-place.is in
    sym (exits-at pairs names place (pair_of c.pair.result) name (sym c.pair.ensures) at) ∙ ap (λ (l : List SideExit). slice_get l place) c.self.view_is
