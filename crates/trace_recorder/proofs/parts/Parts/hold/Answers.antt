use Rattle.std.proofs.Common.{◌≡◌, ◌+◌, refl, suc, length, ap, subst, ◌∙◌, arith}
use Rattle.std.proofs.lemmas.List.{length-map, length_push}
use Rattle.trace_recorder.specs.declared.kept.Kept.{Kept}
use Rattle.trace_recorder.specs.Counts.{with_number}
use Rattle.trace_recorder.specs.Kept.{counts_in, numbers_in, places_of, HasTables}
use Rattle.trace_recorder.proofs.Keeping.{sound_begun}
use Rattle.trace_recorder.proofs.parts.Parts.hold.Goals as goal

pub returns-clause-sound : goal.returns-clause-sound
returns-clause-sound c =
    let old = c.args.self.now in
    let place = c.in-Some.named.place in
    let before = places_of c.args.self.now.paths in
    let long : length (places_of c.begin.new.self) ≡ length c.begin.new.self.held.items = length-map c.begin.new.self.held.items (λ (k : Kept). k.named.place) in
    let more : length (places_of c.begin.new.self) ≡ length (places_of c.args.self.now.paths) + 1 = ap length c.begin.ensures.places ∙ length_push before place in
    let number : c.len.result ≡ suc (length (places_of c.args.self.now.paths)) = (let e = c.len.ensures in omega arith) in
    sound_begun old c.begin.new.self (record { counts = old.tables.counts; numbers = c.set_number.new.numbers }) place c.requires.sound (subst (HasTables (counts_in old.tables)) c.in-Some.is c.requires.tables)
    c.begin.ensures.kept c.begin.ensures.places refl (c.set_number.ensures ∙ ap (with_number (numbers_in old.tables) place) number)
