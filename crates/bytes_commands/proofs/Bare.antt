-- The guards of an image change the counts of arrivals alone: without them the machine does the same.
use Rattle.std.proofs.Common.{◌≡◌, ℕ, zero, suc, ◌+◌, ◌*◌, ◌/◌, ◌^◌, Bool, true, false, cond, List, [], ◌∷◌, Option, Some, None, refl, ap, sym, ◌∙◌}
use Rattle.std.specs.Prelude.{◌==◌, ℤ, encode_utf8}
use Rattle.std.specs.Int.{w64, cast_signed}
use Rattle.std.specs.Fmt.{signed_decimal}
use lib.Utf8.{scalar}
use Rattle.bril_tree.specs.declared.limits.End.{End}
use Rattle.bril_tree.specs.declared.limits.End.TheVariants.{Faulted}
use Rattle.bril_tree.specs.declared.limits.Fault.{Fault}
use Rattle.bril_tree.specs.declared.limits.Fault.TheVariants as fault
use Rattle.rv64_words.specs.declared.image.Image.{Image}
use Rattle.rv64_words.specs.declared.trap.Trap.TheVariants as trap
use Rattle.rv64_words.specs.declared.word.Word.{Word}
use Rattle.rv64_words.specs.declared.word.Word.TheVariants.{Lui, Jal, Jalr, Branch, Ld, Sd, OpImm, ShiftImm, Op, Ecall}
use Rattle.rv64_words.specs.Arithmetic.{moved_by, holds}
use Rattle.rv64_words.specs.Encoding.{decoded}
use Rattle.rv64_words.specs.Environment.{truth_text, char_printed, allocation_fault, allocated_or_fault, is_freeable, freed, end_of, ended, called}
use Rattle.rv64_words.specs.Machine.{branched, read_address, loaded, stored, executed, fetched, decoded_step, fetched_step, is_guard_word, counted_unless, arrived_if, running_step, machine_step, machine_after}
use Rattle.rv64_words.specs.Region.{Sizes, Address, InStack, InTable, InCells}
use Rattle.rv64_words.specs.State.{State, Stop, Finished, Trapped, assigned, with_register, with_printed, next, goes_to, finished, trapped}

-- the image without its guards
abbrev pub bare_of : Image → Image
bare_of image = record image { guards = [] }

-- a state without its counts of arrivals
abbrev pub uncounted : State → State
uncounted s = record s { arrivals = λ _. 0 }

-- ---- words

bare-with_register : (s : State) (r v : ℕ) → with_register (uncounted s) r v ≡ uncounted (with_register s r v)
bare-with_register s zero v = refl
bare-with_register s (suc r) v = refl

bare-next : (s : State) (r v : ℕ) → next (with_register (uncounted s) r v) ≡ uncounted (next (with_register s r v))
bare-next s r v = ap next (bare-with_register s r v)

bare-jump : (s : State) (r v pc : ℕ) → goes_to pc (with_register (uncounted s) r v) ≡ uncounted (goes_to pc (with_register s r v))
bare-jump s r v pc = ap (goes_to pc) (bare-with_register s r v)

bare-branched : (s : State) (b : Bool) (d : ℤ) → branched b d (uncounted s) ≡ uncounted (branched b d s)
bare-branched s true d = refl
bare-branched s false d = refl

bare-read_address : (s : State) (address : Address) → read_address (uncounted s) address ≡ read_address s address
bare-read_address s (InStack k) = refl
bare-read_address s (InTable k) = refl
bare-read_address s (InCells k) = refl

bare-loaded : (s : State) (rd at : ℕ) (o : Option Address) → loaded (uncounted s) rd at o ≡ uncounted (loaded s rd at o)
bare-loaded s rd at None = refl
bare-loaded s rd at (Some address) = ap (λ v. next (with_register (uncounted s) rd v)) (bare-read_address s address) ∙ bare-next s rd (read_address s address)

bare-stored : (s : State) (v at : ℕ) (o : Option Address) → stored (uncounted s) v at o ≡ uncounted (stored s v at o)
bare-stored s v at None = refl
bare-stored s v at (Some (InStack k)) = refl
bare-stored s v at (Some (InTable k)) = refl
bare-stored s v at (Some (InCells k)) = refl

-- ---- environment calls

bare-cond : (b : Bool) (x y x' y' : State) → x' ≡ uncounted x → y' ≡ uncounted y → cond b x' y' ≡ uncounted (cond b x y)
bare-cond true x y x' y' e f = e
bare-cond false x y x' y' e f = f

bare-printed : (s : State) (bytes : List ℕ) → next (with_printed bytes (uncounted s)) ≡ uncounted (next (with_printed bytes s))
bare-printed s bytes = refl

bare-char_printed : (a : ℕ) (s : State) → char_printed a (uncounted s) ≡ uncounted (char_printed a s)
bare-char_printed a s =
    bare-cond (scalar a) (next (with_printed (encode_utf8 a) s)) (trapped (trap.NoScalar s.pc a) s) (next (with_printed (encode_utf8 a) (uncounted s))) (trapped (trap.NoScalar s.pc a) (uncounted s))
    (bare-printed s (encode_utf8 a)) refl

bare-allocated : (z : Sizes) (a : ℕ) (s : State) (o : Option Fault) → allocated_or_fault z o a (uncounted s) ≡ uncounted (allocated_or_fault z o a s)
bare-allocated z a s None = refl
bare-allocated z a s (Some f) = refl

abbrev without_block : ℕ → State → State
without_block a t = next (record t { table = assigned t.table (2 * (a / 2 ^ 32) + 1) 0 })

bare-freed : (a : ℕ) (s : State) → freed a (uncounted s) ≡ uncounted (freed a s)
bare-freed a s = bare-cond (is_freeable s a) (without_block a s) (finished (Faulted fault.BadFree) s) (without_block a (uncounted s)) (finished (Faulted fault.BadFree) (uncounted s)) refl refl

bare-ended : (s : State) (o : Option End) → ended o (uncounted s) ≡ uncounted (ended o s)
bare-ended s None = refl
bare-ended s (Some e) = refl

bare-end_of : (a : ℕ) (s : State) → ended (end_of a (uncounted s)) (uncounted s) ≡ uncounted (ended (end_of a s) s)
bare-end_of zero s = refl
bare-end_of (suc n) s = bare-ended s (end_of (suc n) s)

bare-called : (z : Sizes) (number a : ℕ) (s : State) → called z number a (uncounted s) ≡ uncounted (called z number a s)
bare-called z number a s =
    bare-cond (number == 1) _ _ _ _ (bare-printed s (signed_decimal (cast_signed w64 a)))
    (bare-cond (number == 2) _ _ _ _ (bare-printed s (truth_text a))
    (bare-cond (number == 3) _ _ _ _ (bare-char_printed a s)
    (bare-cond (number == 4) _ _ _ _ (bare-printed s (32 ∷ []))
    (bare-cond (number == 5) _ _ _ _ (bare-printed s (10 ∷ []))
    (bare-cond (number == 6) _ _ _ _ (bare-allocated z a s (allocation_fault z s a))
    (bare-cond (number == 7) _ _ _ _ (bare-freed a s)
    (bare-cond (number == 8) _ _ _ _ (bare-end_of a s) refl)))))))

-- ---- steps

bare-executed : (z : Sizes) (w : Word) (s : State) → executed z w (uncounted s) ≡ uncounted (executed z w s)
bare-executed z (Lui rd u) s = bare-next s rd _
bare-executed z (Jal rd d) s = bare-jump s rd (s.pc + 4) (moved_by s.pc d)
bare-executed z (Jalr rd rs1 i) s = bare-jump s rd (s.pc + 4) _
bare-executed z (Branch c rs1 rs2 d) s = bare-branched s (holds c (s.registers rs1) (s.registers rs2)) d
bare-executed z (Ld rd rs1 i) s = bare-loaded s rd _ _
bare-executed z (Sd rs1 rs2 i) s = bare-stored s _ _ _
bare-executed z (OpImm o rd rs1 i) s = bare-next s rd _
bare-executed z (ShiftImm o rd rs1 k) s = bare-next s rd _
bare-executed z (Op o rd rs1 rs2) s = bare-next s rd _
bare-executed z Ecall s = bare-called z (s.registers 17) (s.registers 10) s

bare-decoded_step : (z : Sizes) (s : State) (o : Option Word) → decoded_step z (uncounted s) o ≡ uncounted (decoded_step z s o)
bare-decoded_step z s None = refl
bare-decoded_step z s (Some w) = bare-executed z w s

bare-fetched_step : (z : Sizes) (s : State) (o : Option ℕ) → fetched_step z (uncounted s) o ≡ uncounted (fetched_step z s o)
bare-fetched_step z s None = refl
bare-fetched_step z s (Some bits) = bare-decoded_step z s (decoded bits)

-- counting an arrival changes the counts alone
counted_alone : (k : ℕ) (t : State) (o : Option Stop) → uncounted (counted_unless o k t) ≡ uncounted t
counted_alone k t None = refl
counted_alone k t (Some (Finished e)) = refl
counted_alone k t (Some (Trapped trap)) = refl

arrived_alone : (b : Bool) (k : ℕ) (t : State) → uncounted (arrived_if b k t) ≡ uncounted t
arrived_alone true k t = counted_alone k t t.stopped
arrived_alone false k t = refl

bare-running : (image : Image) (z : Sizes) (s : State) (o : Option Stop) → uncounted (running_step image z s o) ≡ running_step (bare_of image) z (uncounted s) o
bare-running image z s None =
    arrived_alone (is_guard_word image.guards (s.pc / 4)) (s.pc / 4) (fetched_step z s (fetched image.words s.pc)) ∙ sym (bare-fetched_step z s (fetched image.words s.pc))
bare-running image z s (Some how) = refl

-- one step, from any state
pub bare_step : (image : Image) (z : Sizes) (s : State) → uncounted (machine_step image z s) ≡ machine_step (bare_of image) z (uncounted s)
bare_step image z s = bare-running image z s s.stopped

-- many steps
pub bare_after : (image : Image) (z : Sizes) (m : ℕ) (s : State) → uncounted (machine_after image z m s) ≡ machine_after (bare_of image) z m (uncounted s)
bare_after image z zero s = refl
bare_after image z (suc m) s = bare_after image z m (machine_step image z s) ∙ ap (machine_after (bare_of image) z m) (bare_step image z s)
