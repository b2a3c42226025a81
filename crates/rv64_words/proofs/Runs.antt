-- Many steps of the machine: they add up, a stopped machine stays, and what was printed before changes nothing.
use Rattle.std.proofs.Common.{◌≡◌, ℕ, zero, suc, ◌+◌, ◌*◌, ◌/◌, ◌^◌, ◌-◌, ◌≤◌, Bool, true, false, cond, List, [], ◌∷◌, ◌++◌, Option, Some, None, refl, ap, sym, ◌∙◌, append_assoc, append-nil, arith, zero-add, suc-add}
use Rattle.std.specs.Prelude.{◌==◌, ℤ, encode_utf8}
use Rattle.std.specs.Int.{w64, cast_signed}
use Rattle.std.specs.Fmt.{signed_decimal}
use lib.Utf8.{scalar}
use Rattle.bril_tree.specs.declared.limits.End.{End}
use Rattle.bril_tree.specs.declared.limits.End.TheVariants.{Faulted}
use Rattle.bril_tree.specs.declared.limits.Fault.{Fault}
use Rattle.bril_tree.specs.declared.limits.Fault.TheVariants as fault
use Rattle.rv64_words.specs.declared.image.Image.{Image}
use Rattle.rv64_words.specs.declared.trap.Trap.TheVariants as trap
use Rattle.rv64_words.specs.declared.word.Word.{Word}
use Rattle.rv64_words.specs.declared.word.Word.TheVariants.{Lui, Jal, Jalr, Branch, Ld, Sd, OpImm, ShiftImm, Op, Ecall}
use Rattle.rv64_words.specs.Arithmetic.{moved_by, holds}
use Rattle.rv64_words.specs.Encoding.{decoded}
use Rattle.rv64_words.specs.Environment.{truth_text, char_printed, allocation_fault, allocated_or_fault, is_freeable, freed, end_of, ended, called}
use Rattle.rv64_words.specs.Machine.{branched, read_address, loaded, stored, executed, fetched, decoded_step, fetched_step, is_guard_word, counted_unless, arrived_if, running_step, machine_step, machine_after}
use Rattle.rv64_words.specs.Region.{Sizes, Address, InStack, InTable, InCells}
use Rattle.rv64_words.specs.State.{State, Stop, Finished, Trapped, assigned, with_register, with_printed, next, finished, trapped}

-- the state with these bytes printed before
abbrev pub in_front : List ℕ → State → State
in_front p s = record s { printed = p ++ s.printed }

-- a state without its printed bytes
abbrev pub unprinted : State → State
unprinted s = record s { printed = [] }

front-with_register : (p : List ℕ) (s : State) (r v : ℕ) → with_register (in_front p s) r v ≡ in_front p (with_register s r v)
front-with_register p s zero v = refl
front-with_register p s (suc r) v = refl

front-next : (p : List ℕ) (s : State) (r v : ℕ) → next (with_register (in_front p s) r v) ≡ in_front p (next (with_register s r v))
front-next p s r v = ap next (front-with_register p s r v)

front-jump : (p : List ℕ) (s : State) (r v pc : ℕ) → record (next (with_register (in_front p s) r v)) { pc = pc } ≡ in_front p (record (next (with_register s r v)) { pc = pc })
front-jump p s r v pc = ap (λ t. record (next t) { pc = pc }) (front-with_register p s r v)

front-branched : (p : List ℕ) (s : State) (b : Bool) (d : ℤ) → branched b d (in_front p s) ≡ in_front p (branched b d s)
front-branched p s true d = refl
front-branched p s false d = refl

front-read_address : (p : List ℕ) (s : State) (address : Address) → read_address (in_front p s) address ≡ read_address s address
front-read_address p s (InStack k) = refl
front-read_address p s (InTable k) = refl
front-read_address p s (InCells k) = refl

front-loaded : (p : List ℕ) (s : State) (rd at : ℕ) (o : Option Address) → loaded (in_front p s) rd at o ≡ in_front p (loaded s rd at o)
front-loaded p s rd at None = refl
front-loaded p s rd at (Some address) = ap (λ v. next (with_register (in_front p s) rd v)) (front-read_address p s address) ∙ front-next p s rd (read_address s address)

front-stored : (p : List ℕ) (s : State) (v at : ℕ) (o : Option Address) → stored (in_front p s) v at o ≡ in_front p (stored s v at o)
front-stored p s v at None = refl
front-stored p s v at (Some (InStack k)) = refl
front-stored p s v at (Some (InTable k)) = refl
front-stored p s v at (Some (InCells k)) = refl

-- ---- environment calls

front-cond : (p : List ℕ) (b : Bool) (x y x' y' : State) → x' ≡ in_front p x → y' ≡ in_front p y → cond b x' y' ≡ in_front p (cond b x y)
front-cond p true x y x' y' e f = e
front-cond p false x y x' y' e f = f

front-printed : (p : List ℕ) (s : State) (bytes : List ℕ) → next (with_printed bytes (in_front p s)) ≡ in_front p (next (with_printed bytes s))
front-printed p s bytes = ap (λ w. record (next s) { printed = w }) (append_assoc p s.printed bytes)

front-char_printed : (p : List ℕ) (a : ℕ) (s : State) → char_printed a (in_front p s) ≡ in_front p (char_printed a s)
front-char_printed p a s =
    front-cond p (scalar a) (next (with_printed (encode_utf8 a) s)) (trapped (trap.NoScalar s.pc a) s) (next (with_printed (encode_utf8 a) (in_front p s))) (trapped (trap.NoScalar s.pc a) (in_front p s))
    (front-printed p s (encode_utf8 a)) refl

front-allocated : (z : Sizes) (p : List ℕ) (a : ℕ) (s : State) (o : Option Fault) → allocated_or_fault z o a (in_front p s) ≡ in_front p (allocated_or_fault z o a s)
front-allocated z p a s None = refl
front-allocated z p a s (Some f) = refl

abbrev without_block : ℕ → State → State
without_block a t = next (record t { table = assigned t.table (2 * (a / 2 ^ 32) + 1) 0 })

front-freed : (p : List ℕ) (a : ℕ) (s : State) → freed a (in_front p s) ≡ in_front p (freed a s)
front-freed p a s = front-cond p (is_freeable s a) (without_block a s) (finished (Faulted fault.BadFree) s) (without_block a (in_front p s)) (finished (Faulted fault.BadFree) (in_front p s)) refl refl

front-ended : (p : List ℕ) (s : State) (o : Option End) → ended o (in_front p s) ≡ in_front p (ended o s)
front-ended p s None = refl
front-ended p s (Some e) = refl

front-end_of : (a : ℕ) (p : List ℕ) (s : State) → ended (end_of a (in_front p s)) (in_front p s) ≡ in_front p (ended (end_of a s) s)
front-end_of zero p s = refl
front-end_of (suc n) p s = front-ended p s (end_of (suc n) s)

front-called : (z : Sizes) (p : List ℕ) (number a : ℕ) (s : State) → called z number a (in_front p s) ≡ in_front p (called z number a s)
front-called z p number a s =
    front-cond p (number == 1) _ _ _ _ (front-printed p s (signed_decimal (cast_signed w64 a)))
    (front-cond p (number == 2) _ _ _ _ (front-printed p s (truth_text a))
    (front-cond p (number == 3) _ _ _ _ (front-char_printed p a s)
    (front-cond p (number == 4) _ _ _ _ (front-printed p s (32 ∷ []))
    (front-cond p (number == 5) _ _ _ _ (front-printed p s (10 ∷ []))
    (front-cond p (number == 6) _ _ _ _ (front-allocated z p a s (allocation_fault z s a))
    (front-cond p (number == 7) _ _ _ _ (front-freed p a s)
    (front-cond p (number == 8) _ _ _ _ (front-end_of a p s) refl)))))))

-- ---- steps

front-executed : (z : Sizes) (p : List ℕ) (w : Word) (s : State) → executed z w (in_front p s) ≡ in_front p (executed z w s)
front-executed z p (Lui rd u) s = front-next p s rd _
front-executed z p (Jal rd d) s = front-jump p s rd (s.pc + 4) (moved_by s.pc d)
front-executed z p (Jalr rd rs1 i) s = front-jump p s rd (s.pc + 4) _
front-executed z p (Branch c rs1 rs2 d) s = front-branched p s (holds c (s.registers rs1) (s.registers rs2)) d
front-executed z p (Ld rd rs1 i) s = front-loaded p s rd _ _
front-executed z p (Sd rs1 rs2 i) s = front-stored p s _ _ _
front-executed z p (OpImm o rd rs1 i) s = front-next p s rd _
front-executed z p (ShiftImm o rd rs1 k) s = front-next p s rd _
front-executed z p (Op o rd rs1 rs2) s = front-next p s rd _
front-executed z p Ecall s = front-called z p (s.registers 17) (s.registers 10) s

front-decoded_step : (z : Sizes) (p : List ℕ) (s : State) (o : Option Word) → decoded_step z (in_front p s) o ≡ in_front p (decoded_step z s o)
front-decoded_step z p s None = refl
front-decoded_step z p s (Some w) = front-executed z p w s

front-fetched_step : (z : Sizes) (p : List ℕ) (s : State) (o : Option ℕ) → fetched_step z (in_front p s) o ≡ in_front p (fetched_step z s o)
front-fetched_step z p s None = refl
front-fetched_step z p s (Some bits) = front-decoded_step z p s (decoded bits)

front-counted_unless : (p : List ℕ) (k : ℕ) (t : State) (o : Option Stop) → counted_unless o k (in_front p t) ≡ in_front p (counted_unless o k t)
front-counted_unless p k t None = refl
front-counted_unless p k t (Some (Finished e)) = refl
front-counted_unless p k t (Some (Trapped trap)) = refl

front-arrived_if : (p : List ℕ) (b : Bool) (k : ℕ) (t : State) → arrived_if b k (in_front p t) ≡ in_front p (arrived_if b k t)
front-arrived_if p true k t = front-counted_unless p k t t.stopped
front-arrived_if p false k t = refl

front-running_step : (image : Image) (z : Sizes) (p : List ℕ) (s : State) (o : Option Stop) → running_step image z (in_front p s) o ≡ in_front p (running_step image z s o)
front-running_step image z p s None =
    let guard : Bool = is_guard_word image.guards (s.pc / 4) in
    let o : Option ℕ = fetched image.words s.pc in
    ap (arrived_if guard (s.pc / 4)) (front-fetched_step z p s o) ∙ front-arrived_if p guard (s.pc / 4) (fetched_step z s o)
front-running_step image z p s (Some how) = refl

-- what was printed before a step changes nothing that it does
pub machine_step-in_front : (image : Image) (z : Sizes) (p : List ℕ) (s : State) → machine_step image z (in_front p s) ≡ in_front p (machine_step image z s)
machine_step-in_front image z p s = front-running_step image z p s s.stopped

-- nor anything that many steps do
pub machine_after-in_front : (image : Image) (z : Sizes) (p : List ℕ) (m : ℕ) (s : State) → machine_after image z m (in_front p s) ≡ in_front p (machine_after image z m s)
machine_after-in_front image z p zero s = refl
machine_after-in_front image z p (suc m) s = ap (machine_after image z m) (machine_step-in_front image z p s) ∙ machine_after-in_front image z p m (machine_step image z s)

pub in_front-unprinted : (s : State) → in_front s.printed (unprinted s) ≡ s
in_front-unprinted s = ap (λ w. record s { printed = w }) (append-nil s.printed)

-- many steps from a state are those from it without its printed bytes, with these bytes in front
pub printed-front : (image : Image) (z : Sizes) (m : ℕ) (s : State) → machine_after image z m s ≡ in_front s.printed (machine_after image z m (unprinted s))
printed-front image z m s = ap (machine_after image z m) (sym (in_front-unprinted s)) ∙ machine_after-in_front image z s.printed m (unprinted s)

-- what is printed stays: more is put after it
pub printed-grows : (image : Image) (z : Sizes) (m : ℕ) (s : State) → (machine_after image z m s).printed ≡ s.printed ++ (machine_after image z m (unprinted s)).printed
printed-grows image z m s = ap (λ t. t.printed) (printed-front image z m s)

-- a stopped machine stays as it is
pub machine_step-stopped : (image : Image) (z : Sizes) (s : State) (how : Stop) → s.stopped ≡ Some how → machine_step image z s ≡ s
machine_step-stopped image z s how e = ap (running_step image z s) e

pub machine_after-stopped : (image : Image) (z : Sizes) (m : ℕ) (s : State) (how : Stop) → s.stopped ≡ Some how → machine_after image z m s ≡ s
machine_after-stopped image z zero s how e = refl
machine_after-stopped image z (suc m) s how e = ap (machine_after image z m) (machine_step-stopped image z s how e) ∙ machine_after-stopped image z m s how e

-- n steps after m steps are m + n steps
pub machine_after-add : (image : Image) (z : Sizes) (m n : ℕ) (s : State) → machine_after image z (m + n) s ≡ machine_after image z n (machine_after image z m s)
machine_after-add image z zero n s = ap (λ k. machine_after image z k s) (zero-add n)
machine_after-add image z (suc m) n s = ap (λ k. machine_after image z k s) (suc-add m n) ∙ machine_after-add image z m n (machine_step image z s)

-- one more step
pub machine_after-more : (image : Image) (z : Sizes) (m : ℕ) (s : State) → machine_after image z (suc m) s ≡ machine_step image z (machine_after image z m s)
machine_after-more image z zero s = refl
machine_after-more image z (suc m) s = machine_after-more image z m (machine_step image z s)

-- a machine that stopped within some steps is the same after more
pub machine_after-final : (image : Image) (z : Sizes) (m n : ℕ) (s : State) (how : Stop) → m ≤ n → (machine_after image z m s).stopped ≡ Some how → machine_after image z n s ≡ machine_after image z m s
machine_after-final image z m n s how h e =
    let k : n ≡ m + (n - m) = omega arith in
    ap (λ j. machine_after image z j s) k ∙ (machine_after-add image z m (n - m) s ∙ machine_after-stopped image z (n - m) (machine_after image z m s) how e)
