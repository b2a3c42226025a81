use Rattle.std.proofs.Common.{◌≡◌, ◌+◌, ◌<◌, suc, length, Some, false, refl, inl, inr, ap, sym, subst, ◌∙◌, arith, true≢false}
use Rattle.std.specs.Prelude.{slice_get}
use Rattle.std.specs.List.{Contains}
use Rattle.std.proofs.lemmas.List.{get_or_read}
use Rattle.std.proofs.lemmas.Option.{slice_get_read}
use Rattle.graph_search.specs.Marks.{is_marked}
use Rattle.dead_code.proofs.Looking.{Looked, item-within, look-dead}
use Rattle.dead_code.proofs.work.Work.look_at_item.Goals as goal
use Rattle.dead_code.proofs.work.Work.look_at_item.Goals.{then-index-via-then-index, then-index-via-else-index+then-is_marked}

pub index-requires : goal.index-requires
index-requires c = let low = item-within c.args.func.now.code c.args._location c.args.item c.requires.item in omega (arith, low, c.requires.looking.work.sound.long)

pub overflow_add-item : goal.overflow_add-item
overflow_add-item c = let low = item-within c.args.func.now.code c.args._location c.args.item c.requires.item in omega (arith, low, c.requires.few)

pub is_marked-requires : goal.is_marked-requires
is_marked-requires c = let low = item-within c.args.func.now.code c.args._location c.args.item c.requires.item in omega (arith, low, c.requires.points)

pub returns-then-index-clause-looked : goal.returns-then-index-clause-looked
returns-then-index-clause-looked c =
    let dead = c.args.self.now.dead.items in
    let item = c.args.item in
    let low : item < length dead = (let l = item-within c.args.func.now.code c.args._location item c.requires.item in omega (arith, l, c.requires.looking.work.sound.long)) in
    let more : item + 1 ≡ suc item = omega arith in
    elim c.then-index.branch [ then-index-via-then-index w ↦ inl (sym (get_or_read dead item c.index.result.now low c.index.ensures false) ∙ w.if-index.true) | then-index-via-else-index+then-is_marked w ↦ inr (subst (Contains c.args.reached.now.found) more (w.is_marked.ensures.0 w.if-is_marked.true)) ]

pub index_mut-requires : goal.index_mut-requires
index_mut-requires c = let low = item-within c.args.func.now.code c.args._location c.args.item c.requires.item in omega (arith, low, c.requires.looking.work.sound.long)

pub bounds-as_slice-item : goal.bounds-as_slice-item
bounds-as_slice-item c = let low = item-within c.args.func.now.code c.args._location c.args.item c.requires.item in omega (arith, low, ap length c.as_slice.ensures)

looked : (c : goal.In_ok-push_reads)
    → Looked c.args.func.now.code c.args.self.now.dead.items c.push_reads.new.self.dead.items c.args.self.now.queue.items c.push_reads.new.self.queue.items c.args.self.now.queued.items c.push_reads.new.self.queued.items c.args._location c.args.reached.now.found c.args.item
looked c =
    let code = c.args.func.now.code in
    let item = c.args.item in
    let dead = c.args.self.now.dead.items in
    let found = c.args.reached.now.found in
    let instr = c.index-as_slice-item.result in
    let low = item-within code c.args._location item c.requires.item in
    let at : slice_get code item ≡ Some instr = slice_get_read code (length code) item instr refl low (rw c.as_slice.ensures at c.index-as_slice-item.is) in
    let within : item < length dead = omega (arith, low, c.requires.looking.work.sound.long) in
    let alive : is_marked dead item ≡ false = sym (get_or_read dead item c.index.result.now within c.index.ensures false) ∙ c.if-index.false in
    let more : suc item ≡ item + 1 = omega arith in
    let away : Contains found (suc item) → ⊥ = λ h. true≢false (sym (c.is_marked.ensures.1 (subst (Contains found) more h)) ∙ c.if-is_marked.false) in
    subst (λ d. Looked code dead d c.args.self.now.queue.items c.push_reads.new.self.queue.items c.args.self.now.queued.items c.push_reads.new.self.queued.items c.args._location found item) (sym c.push_reads.ensures.dead)
    (look-dead code dead c.args.self.now.queue.items c.push_reads.new.self.queue.items c.args.self.now.queued.items c.push_reads.new.self.queued.items c.args._location item found instr c.requires.looking c.requires.item alive away at c.in_ok-push_reads.ensures.queued)

pub returns-clause-looking : goal.returns-clause-looking
returns-clause-looking c = (looked c).looking

pub returns-clause-looked : goal.returns-clause-looked
returns-clause-looked c = (looked c).looked

pub returns-clause-less : goal.returns-clause-less
returns-clause-less c = (looked c).less
