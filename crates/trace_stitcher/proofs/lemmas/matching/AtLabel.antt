-- An entry at a label of a function.
use Rattle.std.proofs.Common.{◌≡◌, ℕ, ◌<◌, true, false, List, length, get_or, Option, Some, None, refl, sym, ap, subst, ◌∙◌, arith}
use Rattle.std.specs.Prelude.{slice_get}
use Rattle.std.proofs.lemmas.Bool.{true≢false, ltb-true, lt-ltb}
use Rattle.std.proofs.lemmas.Option.{slice_get_within, slice_get-get_or}
use Rattle.std.proofs.lemmas.List.{get_or_default}
use Rattle.bril_tree.specs.declared.numbered.Instr.{Instr}
use Rattle.bril_tree.specs.declared.numbered_function.Func.{Func}
use Rattle.bril_tree.specs.Sites.{AreFirstSites, AreSitesSound}
use Rattle.bril_tree.specs.Step.{point_of}
use Rattle.bril_tree.proofs.LabelPoints.{label-point}
use Rattle.flow_graph.specs.Graph.{GraphView, IsGraphOf}
use Rattle.flow_graph.proofs.OpenSites.{sound_walks_agree}
use Rattle.trace_stitcher.specs.declared.matching.surveys.Survey.{Survey}
use Rattle.trace_stitcher.specs.matching.Fitting.{MaySpeculate, has_room}
use Rattle.trace_stitcher.specs.matching.Surveys.{IsSurveyOf}
use Rattle.trace_paths.proofs.Steps.{point-inside}

-- ---- the point of a label

module _ (F : Func) (s : Survey) (survey : IsSurveyOf F s) (label : ℕ) (within : label < length F.labels) where
  pub is-point : (d : ℕ) → get_or s.points.items label d ≡ point_of label F.code
  is-point d = let low : label < length s.points.items = subst (λ n. label < n) (sym survey.all) within in get_or_default s.points.items label d 0 low ∙ point-inside F.code s.points.items label survey.table low

  pub point-there : point_of label F.code < length F.code
  point-there = slice_get_within F.code (point_of label F.code) _ (label-point label (length F.labels) F.code F.formed.placed within)

  pub point-known : point_of label F.code < length s.graph.sites
  point-known = let p = point-there in let n = survey.graph.points in omega (arith, p, n)

-- ---- open sites

module _ (code : List Instr) (sound : AreSitesSound code) (graph : GraphView) (is : IsGraphOf code graph) (point : ℕ) (within : point < length graph.sites) where
  few-open : (sites : List ℕ) → AreFirstSites code point sites → length sites < 8 → MaySpeculate code point
  few-open sites first few = record {
    reached = record { walk = first.walk; is = first.first.is; ends = first.first.ends };
    few = λ walk w ends. let same = sound_walks_agree code sound walk w sites (subst (λ p. AreFirstSites code p sites) (sym ends) first) in let e = ap length same in omega (arith, few, e);
  }

  pub room-speculates : has_room (slice_get graph.sites point) ≡ true → MaySpeculate code point
  room-speculates h = by (slice_get graph.sites point) refl h
    where
      by : (o : Option (Option (List ℕ))) → slice_get graph.sites point ≡ o → has_room o ≡ true → MaySpeculate code point
      by None at e = absurd (let g : false ≡ true = e in cc)
      by (Some None) at e = absurd (let g : false ≡ true = e in cc)
      by (Some (Some sites)) at e = few-open sites (is.reached point sites at) (ltb-true (length sites) 8 e)

  pub speculates-room : has_room (slice_get graph.sites point) ≡ false → MaySpeculate code point → ⊥
  speculates-room h may = by (slice_get graph.sites point) refl h
    where
      by : (o : Option (Option (List ℕ))) → slice_get graph.sites point ≡ o → has_room o ≡ false → ⊥
      by None at e = let g = sym (slice_get-get_or graph.sites point None within) ∙ at in cc
      by (Some None) at e = is.unreached point at may.reached
      by (Some (Some sites)) at e =
          let first = is.reached point sites at in
          let few = may.few first.walk first.first.is first.first.ends in
          let n = ap length first.are in
          true≢false (sym (lt-ltb (length sites) 8 (omega (arith, few, n))) ∙ e)
