use Rattle.std.proofs.Common.{◌≡◌, ◌<◌, Bool, length, ap, sym, subst, ◌∙◌, arith, Vec, Global}
use Rattle.std.specs.Prelude.{vec_len, vec_capacity}
use Rattle.trace_recorder.specs.declared.paths.Paths.{Paths}
use Rattle.trace_recorder.proofs.AllEntries.{length-ending, parted_long}
use Rattle.trace_recorder.proofs.Going.{ended_kept, ended_places, ended_view, passed_kept, passed_places, passed_view}
use Rattle.trace_recorder.proofs.paths.Paths.go.Goals as goal

pub close_before-requires-clause-within : goal.close_before-requires-clause-within
close_before-requires-clause-within c = parted_long c.args.passing c.args.self.now.items c.args.self.now.laid c.args.front c.args.self.now.held.items c.requires.parted

pub meet-requires-clause-room : goal.meet-requires-clause-room
meet-requires-clause-room c = λ h.
    let long : length c.close_before.new.self.held.items ≡ length c.args.self.now.held.items = ap length c.close_before.ensures.held ∙ length-ending (length c.args.self.now.log.items) c.args.front c.args.self.now.held.items in
    let less : c.args.front < length c.args.self.now.held.items = (let a = c.if-front-len.true in let b = c.len.ensures in omega arith) in
    subst (λ (l : Vec Bool Global). vec_len l < vec_capacity l) (sym (ap (λ (q : Paths). q.log) c.close_before.ensures.rest)) (c.requires.room less h)

pub returns-then-front-len-clause-kept : goal.returns-then-front-len-clause-kept
returns-then-front-len-clause-kept c =
    let long : length c.close_before.new.self.held.items ≡ length c.args.self.now.held.items = ap length c.close_before.ensures.held ∙ length-ending (length c.args.self.now.log.items) c.args.front c.args.self.now.held.items in
    let less : c.args.front < length c.args.self.now.held.items = (let a = c.if-front-len.true in let b = c.len.ensures in omega arith) in
    passed_kept c.args.passing c.args.self.now c.close_before.new.self c.args.front c.requires.kept c.requires.parted c.close_before.ensures.rest c.close_before.ensures.held c.meet.new.self less c.meet.ensures.rest c.meet.ensures.log

pub returns-then-front-len-clause-view : goal.returns-then-front-len-clause-view
returns-then-front-len-clause-view c =
    let long : length c.close_before.new.self.held.items ≡ length c.args.self.now.held.items = ap length c.close_before.ensures.held ∙ length-ending (length c.args.self.now.log.items) c.args.front c.args.self.now.held.items in
    let less : c.args.front < length c.args.self.now.held.items = (let a = c.if-front-len.true in let b = c.len.ensures in omega arith) in
    passed_view c.args.passing c.args.self.now c.close_before.new.self c.args.front c.requires.kept c.requires.parted c.close_before.ensures.rest c.close_before.ensures.held c.meet.new.self less c.meet.ensures.rest c.meet.ensures.log

pub returns-then-front-len-clause-places : goal.returns-then-front-len-clause-places
returns-then-front-len-clause-places c =
    let long : length c.close_before.new.self.held.items ≡ length c.args.self.now.held.items = ap length c.close_before.ensures.held ∙ length-ending (length c.args.self.now.log.items) c.args.front c.args.self.now.held.items in
    let less : c.args.front < length c.args.self.now.held.items = (let a = c.if-front-len.true in let b = c.len.ensures in omega arith) in
    passed_places c.args.passing c.args.self.now c.close_before.new.self c.args.front c.requires.kept c.requires.parted c.close_before.ensures.rest c.close_before.ensures.held c.meet.new.self less c.meet.ensures.rest c.meet.ensures.log

pub returns-else-front-len-clause-kept : goal.returns-else-front-len-clause-kept
returns-else-front-len-clause-kept c =
    ended_kept c.args.passing c.args.self.now c.close_before.new.self c.args.front c.requires.kept c.requires.parted c.close_before.ensures.rest c.close_before.ensures.held

pub returns-else-front-len-clause-view : goal.returns-else-front-len-clause-view
returns-else-front-len-clause-view c =
    let long : length c.close_before.new.self.held.items ≡ length c.args.self.now.held.items = ap length c.close_before.ensures.held ∙ length-ending (length c.args.self.now.log.items) c.args.front c.args.self.now.held.items in
    ended_view c.args.passing c.args.self.now c.close_before.new.self c.args.front c.requires.kept c.requires.parted c.close_before.ensures.rest c.close_before.ensures.held
    (let a = c.if-front-len.false in let b = c.len.ensures in omega arith)

pub returns-else-front-len-clause-places : goal.returns-else-front-len-clause-places
returns-else-front-len-clause-places c =
    ended_places c.args.passing c.args.self.now c.close_before.new.self c.args.front c.requires.kept c.requires.parted c.close_before.ensures.rest c.close_before.ensures.held
