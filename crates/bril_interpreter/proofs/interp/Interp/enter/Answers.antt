use Rattle.std.proofs.Common.{◌≡◌, ◌∙◌, ℕ, map, sym, ap, subst, arith}
use Rattle.bril_tree.specs.declared.value.Value.{Value}
use Rattle.bril_tree.specs.State.{read}
use Rattle.bril_heap.specs.Heap.{entries_of}
use Rattle.bril_interpreter.specs.Frames.{IsFrame, frame_of, variable_count, shade_count}
use Rattle.bril_interpreter.proofs.Entered.{entered-vars, calls-did}
use Rattle.bril_interpreter.proofs.Fronts.{empty}
use Rattle.bril_interpreter.proofs.Held.{new_frame-held, new_frame-kept}
use Rattle.bril_interpreter.proofs.Known.{code_few}
use Rattle.bril_interpreter.proofs.Tables.{blank_found, shades_found}
use Rattle.bril_interpreter.proofs.interp.Interp.enter.Goals as goal

pub invariant_of-self-2 : goal.invariant_of-self-2
invariant_of-self-2 c =
    let i = c.self.inside in
    let p = i.checked.now.prog in
    let kept = c.self.invariant in
    let n = variable_count p c.args.callee in
    let blank : c.blank_of-variables.result.now ≡ empty n = (rw c.as_slice-tables.ensures.value at c.blank_of-variables.ensures) ∙ blank_found p i.tables.items c.args.callee kept.functions in
    let shades : c.shades_in-shades.result.now ≡ empty (shade_count p c.args.callee) = (rw c.as_slice-tables.ensures.value at c.shades_in-shades.ensures) ∙ shades_found p i.tables.items c.args.callee kept.functions in
    let value : ℕ → Value = read (entries_of i.newest.locations.vars) in
    let frame : IsFrame p c.call.new.newest = subst (IsFrame p) (sym c.in_ok-call.ensures.frame)
    (new_frame-kept p c.args.callee (map value c.args.args.now) (shade_count p c.args.callee) c.call.new.newest.locations
    (entered-vars n c.blank_of-variables.result.now c.args.args.now value c.call.new.newest.locations.vars blank c.in_ok-call.ensures.vars)
    (c.in_ok-call.ensures.shadows ∙ shades)
    (omega arith)
    (code_few p kept.counted c.args.callee)) in
    rw c.in_ok-call.ensures.callers
    (record {
      counted = kept.counted;
      frame = frame;
      callers = (record { frame = kept.frame; within = rw (← c.self.view_is) at c.requires.item }, kept.callers);
      functions = kept.functions;
      memory = kept.memory;
    })

pub returns-clause-ok : goal.returns-clause-ok
returns-clause-ok c =
    let i = c.self.inside in
    let p = i.checked.now.prog in
    let n = variable_count p c.args.callee in
    let blank : c.blank_of-variables.result.now ≡ empty n = (rw c.as_slice-tables.ensures.value at c.blank_of-variables.ensures) ∙ blank_found p i.tables.items c.args.callee c.self.invariant.functions in
    let shades : c.shades_in-shades.result.now ≡ empty (shade_count p c.args.callee) = (rw c.as_slice-tables.ensures.value at c.shades_in-shades.ensures) ∙ shades_found p i.tables.items c.args.callee c.self.invariant.functions in
    let value : ℕ → Value = read (entries_of i.newest.locations.vars) in
    let frame = ap frame_of c.in_ok-call.ensures.frame
    ∙ new_frame-held p i.limits c.args.callee (map value c.args.args.now) n (shade_count p c.args.callee) c.call.new.newest.locations
    (entered-vars n c.blank_of-variables.result.now c.args.args.now value c.call.new.newest.locations.vars blank c.in_ok-call.ensures.vars)
    (c.in_ok-call.ensures.shadows ∙ shades) in
    rw (← c.self.view_is) (calls-did _ c.call.new.newest c.call.new.self c.args.callee (map value c.args.args.now) (rw (← c.self.view_is) at c.requires.room) frame c.in_ok-call.ensures.callers)
