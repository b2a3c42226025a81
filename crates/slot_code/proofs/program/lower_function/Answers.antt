use Rattle.std.proofs.Common.{◌≡◌, length, map, refl, sym, ap, ◌∙◌, subst}
use Rattle.std.specs.Prelude.{is_some}
use Rattle.std.specs.List.{All, range_with_len}
use Rattle.flow_graph.specs.Branches.{HasLabels}
use Rattle.flow_graph.proofs.BranchRows.{code_labelled}
use Rattle.slot_code.specs.Numbering.{is_used, slots_in}
use Rattle.slot_code.proofs.Counting.{as_many_slots, numbers_are, slots_are}
use Rattle.slot_code.proofs.program.lower_function.Goals as goal

pub lower_items-requires-clause-labelled : goal.lower_items-requires-clause-labelled
lower_items-requires-clause-labelled c =
    let f = c.args.func.now in
    let many : length c.as_slice.result.now ≡ length f.labels = ap length c.as_slice.ensures.value ∙ c.in_ok-points.ensures.all in
    subst (λ n. All (HasLabels n) f.code) (sym many) (code_labelled (is_some f.ret) (length f.labels) f.code c.requires.shaped f.formed.targets)

pub returns : goal.returns
returns c =
    let f = c.args.func.now in
    let n = length c.as_slice-variables.result.now in
    let code = c.in_ok-code.code in
    let many : n ≡ length f.vars = ap length c.as_slice-variables.ensures in
    let used : c.in_ok-used.used.items ≡ map (is_used code) (range_with_len 0 n) = c.in_ok-used.ensures ∙ ap (λ l. map (is_used l) (range_with_len 0 n)) c.as_slice-2.ensures in
    let slots : c.in_ok-all_slots.field-0 ≡ slots_in n (is_used code) = slots_are n (is_used code) c.as_slice-3.result.now (c.as_slice-3.ensures.value ∙ used) c.in_ok-all_slots.field-0 c.in_ok-all_slots.ensures in
    record {
      args = refl;
      variables = many;
      slots = slots;
      shadow_numbers = numbers_are n (is_used code) c.as_slice-4.result.now (c.as_slice-4.ensures.value ∙ used) c.in_ok-shadow_numbers.field-0 c.in_ok-shadow_numbers.ensures;
      count = ap length slots ∙ ap (λ k. length (slots_in k (is_used code))) many ∙ ap (λ l. length (slots_in (length f.vars) (is_used l))) c.in_ok-code.ensures ∙ as_many_slots f;
      depths = c.in_ok-depths_of.ensures;
      newest = c.in_ok-newest_of.ensures;
      words = c.requires.words;
      code = c.in_ok-code.ensures;
    }
