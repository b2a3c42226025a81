-- One name more.
use Rattle.std.proofs.Common.{◌∙◌, ◌||◌, ap, ap₂, sym, take, ℕ, Bool, List}
use Rattle.std.specs.List.{list_any}
use Rattle.bril_tree.specs.declared.function_tree.FuncTree.{FuncTree}
use Rattle.import_linker.specs.Linked.{begins_so}
use Rattle.import_linker.specs.Names.{function_names}
use Rattle.import_linker.proofs.Repeating.{map_more}
use Rattle.import_linker.proofs.RunLengths.{any-push}
use Rattle.import_linker.proofs.fresh_run.add_runs.Goals as goal

abbrev name_of : FuncTree → List ℕ
name_of f = f.name

pub loop-function-preserved : goal.loop-function-preserved
loop-function-preserved c =
    let functions = c.args.functions.now in
    let i = c.loop-function.function-index in
    let x = c.function-item.result in
    let before = function_names (take i functions) in
    let more = λ (n : ℕ). ap (list_any (begins_so n)) (map_more name_of functions i x c.loop-function-test.true c.function-item.is) ∙ any-push (begins_so n) before x.name in
    record {
      runs = λ n. c.in_ok-longest.ensures.runs n ∙ ap₂ (λ (a b : Bool). a || b) (c.loop-function.invariant.runs n) (ap (begins_so n) c.as_bytes.ensures.value) ∙ sym (more n);
      longest = λ n less.
          let h = c.in_ok-longest.ensures.longest n less in
          more n ∙ ap₂ (λ (a b : Bool). a || b) (c.loop-function.invariant.longest n h.0) (ap (begins_so n) (sym c.as_bytes.ensures.value) ∙ h.1);
      small = c.in_ok-longest.ensures.small;
    }
