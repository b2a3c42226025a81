use Rattle.std.proofs.Common.{◌≡◌, ◌<◌, ◌≤◌, length, get_or, sym, ◌∙◌, subst}
use Rattle.std.proofs.lemmas.List.{length-map, take_all}
use Rattle.bril_tree.specs.declared.function_tree.FuncTree.{FuncTree}
use Rattle.bril_names.specs.Faults.{Differ, function_names, IsFaultOf}
use Rattle.bril_names.specs.Numbering.{Adds}
use Rattle.bril_names.specs.declared.fault.NameFault.TheVariants.{TwiceFunction}
use Rattle.bril_names.proofs.Outcomes.{name_more, name_twice}
use Rattle.bril_names.proofs.Decisions.{Differ-push}
use Rattle.bril_names.proofs.Tables.{added_new, added_old}
use Rattle.bril_names.proofs.numbering.function_names.Goals as goal

pub returns-then-not-branch-clause-fault : goal.returns-then-not-branch-clause-fault
returns-then-not-branch-clause-fault c =
    let tree = c.args.tree.now in
    let k = c.loop-k.k in
    let f = c.function-item.result in
    let before = c.loop-k.functions in
    let within : k < length tree.funcs = subst (λ list. k < length list) c.as_slice-function-items.ensures c.loop-k-test.true in
    let is : f ≡ get_or tree.funcs k f = subst (λ list. f ≡ get_or list k f) c.as_slice-function-items.ensures c.function-item.is in
    let adds : Adds before f.name c.add.new.self c.in_ok-add.field-0 = rw c.as_bytes.ensures.value at c.in_ok-add.ensures.ok in
    let there = added_old before f.name c.add.new.self c.in_ok-add.field-0 adds c.if-not-branch.true in
    subst (λ n. IsFaultOf tree (TwiceFunction n)) (sym c.in-Ok.ensures.1) (name_twice tree k f within is before c.loop-k.invariant.names c.loop-k.invariant.differ there)

pub loop-k-preserved : goal.loop-k-preserved
loop-k-preserved c =
    let tree = c.args.tree.now in
    let k = c.loop-k.k in
    let f = c.function-item.result in
    let before = c.loop-k.functions in
    let within : k < length tree.funcs = subst (λ list. k < length list) c.as_slice-function-items.ensures c.loop-k-test.true in
    let is : f ≡ get_or tree.funcs k f = subst (λ list. f ≡ get_or list k f) c.as_slice-function-items.ensures c.function-item.is in
    let adds : Adds before f.name c.add.new.self c.in_ok-add.field-0 = rw c.as_bytes.ensures.value at c.in_ok-add.ensures.ok in
    let new = added_new before f.name c.add.new.self c.in_ok-add.field-0 adds c.if-not-branch.false in
    record {
      names = new.0 ∙ name_more tree k f within is before c.loop-k.invariant.names;
      differ = subst Differ (sym new.0) (Differ-push before f.name c.loop-k.invariant.differ new.1);
    }

pub returns-clause-names : goal.returns-clause-names
returns-clause-names c =
    let tree = c.args.tree.now in
    let k = c.loop-k.k in
    let past : length tree.funcs ≤ k = subst (λ list. length list ≤ k) c.as_slice-function-items.ensures c.loop-k-test.false in
    c.loop-k.invariant.names ∙ take_all k (function_names tree) (subst (λ n. n ≤ k) (sym (length-map tree.funcs (λ (f : FuncTree). f.name))) past)
