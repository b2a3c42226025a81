use Rattle.std.proofs.Common.{◌≡◌, length, map, take, sym, ap, ◌∙◌, subst}
use Rattle.std.specs.List.{All, filter_map}
use Rattle.bril_tree.specs.Numbered.{variable_names, argument_tree, item_tree}
use Rattle.bril_names.specs.Faults.{Differ, IsKnown, labels_of}
use Rattle.bril_names.specs.Numbering.{IsNumbering, argument_variable}
use Rattle.bril_names.proofs.Formed.{formed, arguments_are, items_are}
use Rattle.bril_names.proofs.numbering.function.number_function.Goals as goal
use Rattle.bril_names.proofs.numbering.function.number_function.Goals.{In_ok-label_names}

module _ (c : In_ok-label_names) where
  numbering : IsNumbering c.args.functions.now c.in_ok-labels.labels (map argument_variable c.args.function.now.args) c.number_items.new.vars.infos.items c.args.function.now.code c.in_ok-code.code
  numbering = subst (λ vars. IsNumbering c.args.functions.now c.in_ok-labels.labels vars c.number_items.new.vars.infos.items c.args.function.now.code c.in_ok-code.code) c.in_ok-vars.ensures.vars c.in_ok-code.ensures.numbered

  count_is : c.in-Ok.args ≡ length c.args.function.now.args
  count_is = c.in-Ok.ensures.1 ∙ ap length c.as_slice.ensures

  labels_are : c.in_ok-label_names.field-0 ≡ c.in_ok-labels.labels
  labels_are = c.in_ok-label_names.ensures ∙ ap labels_of c.as_slice-2.ensures ∙ sym c.in_ok-labels.ensures.labels

pub invariant_of-result : goal.invariant_of-result
invariant_of-result c =
    let at = (goal.at.invariant_of-result c).In_ok-label_names in
    record {
      formed = rw (count_is at, c.in_ok-into_infos.ensures, labels_are at)
          (formed c.args.functions.now c.in_ok-labels.labels c.args.function.now.args c.number_items.new.vars.infos.items c.args.function.now.code c.in_ok-code.code
          (numbering at) c.in_ok-vars.ensures.differ c.in_ok-labels.ensures.differ c.in_ok-labels.ensures.labels);
    }

pub returns-clause-tree : goal.returns-clause-tree
returns-clause-tree c =
    let at = (goal.at.returns-clause-tree c).In_ok-label_names in
    let f = c.args.function.now in
    let functions = c.args.functions.now in
    let labels = c.in_ok-labels.labels in
    let vars = c.number_items.new.vars.infos.items in
    let code = c.in_ok-code.code in
    let args_path = arguments_are functions labels f.args vars f.code code (numbering at) c.in_ok-vars.ensures.differ c.in_ok-labels.ensures.differ c.in_ok-labels.ensures.labels
    ∙ (λ i. filter_map argument_tree (take (sym (count_is at) i) (sym c.in_ok-into_infos.ensures i))) in
    let code_path = items_are functions labels f.args vars f.code code (numbering at) c.in_ok-vars.ensures.differ c.in_ok-labels.ensures.differ c.in_ok-labels.ensures.labels
    ∙ (λ i. map (item_tree functions (variable_names (sym c.in_ok-into_infos.ensures i)) (sym (labels_are at) i)) code) in
    λ i. record { name = sym c.in_ok-copied.ensures i; args = args_path i; ret = f.ret; code = code_path i }

pub returns-clause-sound : goal.returns-clause-sound
returns-clause-sound c =
    let f = c.args.function.now in
    let are = c.in_ok-labels.ensures.labels in
    record {
      arguments = c.in_ok-vars.ensures.differ;
      labels = subst Differ are c.in_ok-labels.ensures.differ;
      known = subst (λ ls. All (IsKnown c.args.functions.now ls) f.code) are c.in_ok-code.ensures.known;
    }
