use Rattle.std.proofs.Common.{◌≡◌, ◌∙◌, ◌<◌, ◌≤◌, false, List, length, map, [], sym, ap, subst, ⊎_elim}
use Rattle.std.specs.List.{All, list_any}
use Rattle.std.specs.Prelude.{◌==◌, is_some, slice_get}
use Rattle.trace_paths.specs.declared.walk.Leg as kept
use Rattle.std.proofs.lemmas.Bool.{true≢false}
use Rattle.bril_tree.specs.Step.{point_of}
use Rattle.flow_graph.specs.Branches.{HasLabels}
use Rattle.trace_stitcher.specs.matching.Fitting.{candidate, has_room, is_at}
use Rattle.trace_paths.specs.Walked.{leg_of}
use Rattle.trace_stitcher.proofs.lemmas.matching.Paths.{no-legs, path-legs, path-stop, some-legs}
use Rattle.flow_graph.proofs.BranchRows.{code_labelled}
use Rattle.trace_stitcher.proofs.lemmas.matching.AtLabel.{is-point, point-there, point-known, room-speculates, speculates-room}
use Rattle.trace_stitcher.proofs.lemmas.matching.Seen.{any-repeats, repeats-any, none-apart}
use Rattle.trace_stitcher.proofs.matching.fitting.fitting_at.Goals as goal
use Rattle.trace_stitcher.proofs.matching.fitting.fitting_at.Goals.{then-not-may_speculate-via-then-not-may_speculate, then-not-may_speculate-via-else-not-may_speculate+then-is_taken}

pub may_speculate-requires : goal.may_speculate-requires
may_speculate-requires c =
    let F = c.args.func.now in
    let s = c.args.survey.now in
    let p = c.index-point.ensures ∙ is-point F s c.requires.survey c.args.label c.requires.label c.index-point.result.now in
    subst (λ n. n < length s.graph.sites) (sym p) (point-known F s c.requires.survey c.args.label c.requires.label)

pub path_within-requires-clause-labelled : goal.path_within-requires-clause-labelled
path_within-requires-clause-labelled c =
    let F = c.args.func.now in
    let many : length c.as_slice-points.result.now ≡ length F.labels = ap length c.as_slice-points.ensures.value ∙ c.requires.survey.all in
    subst (λ code. All (HasLabels (length c.as_slice-points.result.now)) code) (sym c.as_slice.ensures)
    (subst (λ n. All (HasLabels n) F.code) (sym many) (code_labelled (is_some F.ret) (length F.labels) F.code c.requires.shaped F.formed.targets))

pub path_within-requires-clause-inside : goal.path_within-requires-clause-inside
path_within-requires-clause-inside c =
    let F = c.args.func.now in
    let s = c.args.survey.now in
    let p = c.index-point.ensures ∙ is-point F s c.requires.survey c.args.label c.requires.label c.index-point.result.now in
    subst (λ code. c.index-point.result.now < length code) (sym c.as_slice.ensures)
    (subst (λ n. n < length F.code) (sym p) (point-there F s c.requires.survey c.args.label c.requires.label))

pub returns-then-not-may_speculate : goal.returns-then-not-may_speculate
returns-then-not-may_speculate c =
    let F = c.args.func.now in
    let s = c.args.survey.now in
    let p = c.index-point.ensures ∙ is-point F s c.requires.survey c.args.label c.requires.label c.index-point.result.now in
    elim c.then-not-may_speculate.branch [
      | then-not-may_speculate-via-then-not-may_speculate w ↦
          λ may lays. absurd (speculates-room F.code c.requires.sound s.graph c.requires.survey.graph (point_of c.args.label F.code) (point-known F s c.requires.survey c.args.label c.requires.label)
          (ap (λ n. has_room (slice_get s.graph.sites n)) (sym p) ∙ sym c.may_speculate.ensures ∙ w.if-not-may_speculate.true) may)
      | then-not-may_speculate-via-else-not-may_speculate+then-is_taken w ↦
          λ may lays. any-repeats s.function (point_of c.args.label F.code) c.args.choices.now c.args.found.now []
          (ap (λ n. list_any (is_at s.function n) c.args.found.now) (sym p) ∙ sym w.is_taken.ensures ∙ w.if-is_taken.true)
    ]

pub returns-then-is_empty : goal.returns-then-is_empty
returns-then-is_empty c =
    let F = c.args.func.now in
    let s = c.args.survey.now in
    let p = c.index-point.ensures ∙ is-point F s c.requires.survey c.args.label c.requires.label c.index-point.result.now in
    λ may lays. absurd (lays (sym (path-legs F.code c.as_slice.result.now c.args.choices.now c.index-point.result.now (point_of c.args.label F.code) c.as_slice.ensures p (map leg_of c.in_ok-path.path.legs.items) c.in_ok-path.ensures.legs)
    ∙ no-legs c.in_ok-path.path.legs.items (ap (λ (l : List kept.Leg). length l == 0) (sym c.as_slice-2.ensures.value) ∙ sym c.is_empty.ensures ∙ c.if-is_empty.true)))

pub returns : goal.returns
returns c =
    let F = c.args.func.now in
    let s = c.args.survey.now in
    let at = point_of c.args.label F.code in
    let p = c.index-point.ensures ∙ is-point F s c.requires.survey c.args.label c.requires.label c.index-point.result.now in
    let known = point-known F s c.requires.survey c.args.label c.requires.label in
    let legs = path-legs F.code c.as_slice.result.now c.args.choices.now c.index-point.result.now at c.as_slice.ensures p (map leg_of c.in_ok-path.path.legs.items) c.in_ok-path.ensures.legs in
    let none : list_any (is_at s.function at) c.args.found.now ≡ false = ap (λ n. list_any (is_at s.function n) c.args.found.now) (sym p) ∙ sym c.is_taken.ensures ∙ c.if-is_taken.false in
    let same : candidate s.function c.index-point.result.now c.in_ok-copied.field-0 ≡ candidate s.function at c.args.choices.now = λ i. candidate s.function (p i) (c.in_ok-copied.ensures i) in
    record {
      is = same;
      may = room-speculates F.code c.requires.sound s.graph c.requires.survey.graph at known (ap (λ n. has_room (slice_get s.graph.sites n)) (sym p) ∙ sym c.may_speculate.ensures ∙ c.if-not-may_speculate.false);
      lays = λ e. some-legs c.in_ok-path.path.legs.items (ap (λ (l : List kept.Leg). length l == 0) (sym c.as_slice-2.ensures.value) ∙ sym c.is_empty.ensures ∙ c.if-is_empty.false) (legs ∙ e);
      new = λ r. ⊎_elim (λ h. true≢false (sym h ∙ none)) (λ h. h) (repeats-any s.function at c.args.choices.now c.args.found.now [] r);
      apart = none-apart s.function at c.args.choices.now c.args.found.now (record { function = s.function; point = c.index-point.result.now; choices = c.in_ok-copied.field-0; path = c.in_ok-path.path }) same none;
      legs = legs;
      stop = path-stop F.code c.as_slice.result.now c.args.choices.now c.index-point.result.now at c.as_slice.ensures p c.in_ok-path.path.stop c.in_ok-path.ensures.stop;
      within = subst (λ code. c.in_ok-path.path.stop ≤ length code) c.as_slice.ensures c.in_ok-path.ensures.within;
    }
