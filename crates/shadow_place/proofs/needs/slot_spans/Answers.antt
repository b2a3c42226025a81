use Rattle.std.proofs.Common.{◌≡◌, ◌+◌, length, refl, ap, ◌∙◌, subst, arith}
use Rattle.std.specs.List.{Contains}
use Rattle.bril_tree.specs.declared.edge.Edge.{Edge}
use Rattle.bril_tree.proofs.Elements.{get_inside}
use Rattle.shadow_place.specs.Spans.{HaveSites, IsAssignedBy, IsCovered, IsLiveSlot, IsOpenSlot, Widens, numbers_of}
use Rattle.shadow_place.proofs.needs.slot_spans.Goals as goal

pub returns-clause-needs : goal.returns-clause-needs
returns-clause-needs c =
    let f = c.args.func.now in
    let g = c.args.lowered.now in
    let live = c.args.live.now in
    let graph = c.args.graph.now in
    let numbers = numbers_of c.args.slots.now in
    let sites = c.in_ok-sites.sites.items in
    let code : c.as_slice-code.result.now ≡ f.code = c.as_slice-code.ensures in
    let points : length sites ≡ length f.code + 1 = c.in_ok-sites.ensures.long ∙ ap (λ l. length l + 1) code in
    let alive : Widens (λ slot point. IsLiveSlot live numbers point slot) c.in_ok-spans.spans.items c.cover_live.new.spans.items =
    subst (λ l. Widens (λ slot point. IsLiveSlot live l point slot) c.in_ok-spans.spans.items c.cover_live.new.spans.items) (c.as_slice.ensures.value ∙ c.in_ok-numbers.ensures) c.cover_live.ensures in
    let kept_sites : Widens (IsOpenSlot live numbers sites (length sites)) c.cover_live.new.spans.items c.cover_sites.new.spans.items =
    subst (λ l. Widens (IsOpenSlot live l sites (length sites)) c.cover_live.new.spans.items c.cover_sites.new.spans.items) (c.as_slice-2.ensures.value ∙ c.in_ok-numbers.ensures)
    (subst (λ l. Widens (IsOpenSlot live c.as_slice-2.result.now l (length l)) c.cover_live.new.spans.items c.cover_sites.new.spans.items) c.as_slice-3.ensures.value c.cover_sites.ensures) in
    let edges : Widens (λ slot point. (edge : Edge) × Contains graph.edges edge × IsAssignedBy f.code g edge slot point) c.cover_sites.new.spans.items c.cover_edges.new.spans.items =
    subst (λ l. Widens (λ slot point. (edge : Edge) × Contains l edge × IsAssignedBy f.code g edge slot point) c.cover_sites.new.spans.items c.cover_edges.new.spans.items) c.edges.ensures
    (subst (λ code. Widens (λ slot point. (edge : Edge) × Contains c.edges.result.now edge × IsAssignedBy code g edge slot point) c.cover_sites.new.spans.items c.cover_edges.new.spans.items) code c.in_ok-cover_edges.ensures) in
    let open_there : HaveSites graph.sites (length f.code + 1) sites = subst (λ n. HaveSites graph.sites n sites) (ap (λ l. length l + 1) code) c.in_ok-sites.ensures.open in
    record {
      alive = λ slot point h. c.cover_arguments.ensures.kept slot point (edges.kept slot point (kept_sites.kept slot point (alive.all slot point h)));
      assigned = λ edge slot point among h. c.cover_arguments.ensures.kept slot point (edges.all slot point (edge, among, h));
      arguments = λ slot less. c.cover_arguments.ensures.all slot 0 (less, refl);
      kept = λ at site point slot inside site_inside is h.
          (let span = get_inside sites site (omega (arith, points, c.requires.points, site_inside)) in
          let covered : IsCovered sites site point = open_there at site point (omega (arith, c.requires.points, inside)) is in
          c.cover_arguments.ensures.kept slot point (edges.kept slot point (kept_sites.all slot point (site, span.0, (omega (arith, points, c.requires.points, site_inside)), span.1, covered span.0 span.1, h))));
    }
