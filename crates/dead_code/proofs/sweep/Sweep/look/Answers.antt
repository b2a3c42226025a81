use Rattle.std.proofs.Common.{◌≡◌, ◌<◌, ℕ, Bool, List, length, get_or, Some, true, false, refl, sym, ap, ◌∙◌, arith}
use Rattle.std.specs.Prelude.{slice_get}
use Rattle.std.proofs.lemmas.List.{get_or_read}
use Rattle.std.proofs.lemmas.Option.{slice_get_read}
use Rattle.bril_tree.specs.Numbered.{nop}
use Rattle.bril_tree.proofs.Elements.{All-at}
use Rattle.flow_graph.specs.Branches.{HasLabels}
use Rattle.bril_tree.specs.declared.numbered.Instr.{Instr}
use Rattle.graph_search.specs.Marks.{is_marked}
use Rattle.dead_code.specs.Work.{IsSound, remaining}
use Rattle.pass_edit_laws.proofs.lemmas.plan.Marked.{with_nops-alive, with_nops-dead}
use Rattle.dead_code.proofs.Sweeping.{marked, nop-swept}
use Rattle.dead_code.proofs.sweep.Sweep.look.Goals as goal

pub returns-then-index-clause-swept : goal.returns-then-index-clause-swept
returns-then-index-clause-swept c =
    let code = c.args.func.now.code in
    let dead = c.args.self.now.dead.items in
    let p = c.args.point in
    let low : p < length dead = omega (arith, c.requires.inside, c.requires.sound.long) in
    let on : is_marked dead p ≡ true = sym (get_or_read dead p c.index.result.now low c.index.ensures false) ∙ c.if-index.true in
    nop-swept code (remaining code dead) p c.args.self.now.reads.items c.args.self.now.assigns.items c.args.self.now.branch c.args.self.now.end (with_nops-dead nop dead code p c.requires.sound.long on) c.requires.swept

-- an item that isn't marked remains
staying : (code : List Instr) (dead : List Bool) (p : ℕ) (item : Instr) (mark : Bool) (items : List Instr) → IsSound code dead → p < length code → mark ≡ get_or dead p mark → mark ≡ false → items ≡ code → item ≡ get_or items p item → slice_get (remaining code dead) p ≡ Some item
staying code dead p item mark items sound inside is off same at =
    let low : p < length dead = omega (arith, inside, sound.long) in
    let alive : is_marked dead p ≡ false = sym (get_or_read dead p mark low is false) ∙ off in
    with_nops-alive nop dead code p alive ∙ slice_get_read code (length code) p item refl inside (at ∙ ap (λ l. get_or l p item) same)

pub note_item-requires-clause-here : goal.note_item-requires-clause-here
note_item-requires-clause-here c =
    staying c.args.func.now.code c.args.self.now.dead.items c.args.point c.index-as_slice-point.result c.index.result.now c.as_slice.result.now c.requires.sound c.requires.inside c.index.ensures c.if-index.false c.as_slice.ensures c.index-as_slice-point.is

pub note_item-requires-clause-labelled : goal.note_item-requires-clause-labelled
note_item-requires-clause-labelled c =
    let code = c.args.func.now.code in
    let item = c.index-as_slice-point.result in
    let at = c.index-as_slice-point.is ∙ ap (λ l. get_or l c.args.point item) c.as_slice.ensures in
    All-at (HasLabels (length c.args.points.now)) code c.args.point item c.requires.labelled (slice_get_read code (length code) c.args.point item refl c.requires.inside at)

pub returns-then-is_unused-clause-sound : goal.returns-then-is_unused-clause-sound
returns-then-is_unused-clause-sound c =
    (marked c.args.func.now.code c.args.self.now.dead.items c.args.point c.index-as_slice-point.result c.args.self.now.reads.items c.args.self.now.assigns.items c.args.self.now.branch c.args.self.now.end c.in_ok-assigned.assigned c.requires.sound c.requires.none
    (staying c.args.func.now.code c.args.self.now.dead.items c.args.point c.index-as_slice-point.result c.index.result.now c.as_slice.result.now c.requires.sound c.requires.inside c.index.ensures c.if-index.false c.as_slice.ensures c.index-as_slice-point.is)
    (c.is_unused.ensures.computes c.if-is_unused.true) c.in_ok-assigned.ensures.number c.requires.swept (c.is_unused.ensures.quiet c.if-is_unused.true)).sound

pub returns-then-is_unused-clause-none : goal.returns-then-is_unused-clause-none
returns-then-is_unused-clause-none c =
    (marked c.args.func.now.code c.args.self.now.dead.items c.args.point c.index-as_slice-point.result c.args.self.now.reads.items c.args.self.now.assigns.items c.args.self.now.branch c.args.self.now.end c.in_ok-assigned.assigned c.requires.sound c.requires.none
    (staying c.args.func.now.code c.args.self.now.dead.items c.args.point c.index-as_slice-point.result c.index.result.now c.as_slice.result.now c.requires.sound c.requires.inside c.index.ensures c.if-index.false c.as_slice.ensures c.index-as_slice-point.is)
    (c.is_unused.ensures.computes c.if-is_unused.true) c.in_ok-assigned.ensures.number c.requires.swept (c.is_unused.ensures.quiet c.if-is_unused.true)).none

pub returns-then-is_unused-clause-swept : goal.returns-then-is_unused-clause-swept
returns-then-is_unused-clause-swept c =
    (marked c.args.func.now.code c.args.self.now.dead.items c.args.point c.index-as_slice-point.result c.args.self.now.reads.items c.args.self.now.assigns.items c.args.self.now.branch c.args.self.now.end c.in_ok-assigned.assigned c.requires.sound c.requires.none
    (staying c.args.func.now.code c.args.self.now.dead.items c.args.point c.index-as_slice-point.result c.index.result.now c.as_slice.result.now c.requires.sound c.requires.inside c.index.ensures c.if-index.false c.as_slice.ensures c.index-as_slice-point.is)
    (c.is_unused.ensures.computes c.if-is_unused.true) c.in_ok-assigned.ensures.number c.requires.swept (c.is_unused.ensures.quiet c.if-is_unused.true)).swept
