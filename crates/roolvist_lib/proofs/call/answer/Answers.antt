-- The buffers hold what was written to the outputs, which were empty.
use Rattle.std.proofs.Common.{List, ℕ, refl, subst}
use Rattle.bril_outside.specs.Memory.{files_seen}
use Rattle.bril_outside.specs.Sink.{SinkSeen}
use Rattle.roolvist_lib.specs.Answered.{EndsSo}
use Rattle.roolvist_lib.specs.Buffers.{HeldBytes, HoldsFirst, held_seen}
use Rattle.roolvist_lib.specs.Seen.{empty_output}
use Rattle.roolvist_lib.proofs.Rooms.{fits_whole, is_cut, is_full}
use Rattle.roolvist_lib.proofs.call.answer.Goals as goal

pub returns-clause-ok : goal.returns-clause-ok
returns-clause-ok g c =
    let ended = c.in_ok-ended.ended in
    let Ends : SinkSeen → SinkSeen → Type 0 = λ o e. EndsSo g.K.Reader.reading.Says c.args.given.words (files_seen c.args.given.files) ended.status o (held_seen ended.out) e (held_seen ended.err) in
    let ends : Ends empty_output empty_output =
    subst (λ (h : HeldBytes). Ends empty_output (held_seen h)) c.in_ok-new-2.ensures (subst (λ (h : HeldBytes). Ends (held_seen h) (held_seen c.in_ok-new-2.field-0)) c.in_ok-new.ensures c.in_ok-ended.ensures) in
    record {
      out_seen = held_seen ended.out;
      err_seen = held_seen ended.err;
      ends = ends;
      holds_out = record {
        bytes = ended.out.held;
        written = refl;
        holds = subst (λ (b : List ℕ). HoldsFirst b c.args.out.now c.copied.new.buffer c.copied.result) c.bytes.ensures.is c.copied.ensures;
        whole = fits_whole ended.out.held c.bytes.result.now c.args.out.now ended.out.faults g.O.Room.room c.bytes.ensures.is c.requires.out c.bytes.ensures.whole;
      };
      holds_err = record {
        bytes = ended.err.held;
        written = refl;
        holds = subst (λ (b : List ℕ). HoldsFirst b c.args.err.now c.copied-2.new.buffer c.copied-2.result) c.bytes-2.ensures.is c.copied-2.ensures;
        whole = fits_whole ended.err.held c.bytes-2.result.now c.args.err.now ended.err.faults g.E.Room.room c.bytes-2.ensures.is c.requires.err c.bytes-2.ensures.whole;
      };
      full = λ e. is_full ended.out.held c.bytes.result.now c.args.out.now ended.out.faults g.O.Room.room c.bytes.ensures.is c.requires.out c.bytes.ensures.whole (ends.refused e);
      cut = λ lt. ends.told (is_cut ended.out.held c.bytes.result.now c.args.out.now ended.out.faults g.O.Room.room c.bytes.ensures.is c.requires.out c.bytes.ensures.cut lt);
    }
