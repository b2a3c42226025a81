-- Whether a program is within its bounds, by what was counted.
use Rattle.std.proofs.Common.{◌≡◌, ℕ, ◌*◌, ◌<◌, ◌≤◌, true, List, ◌∷◌, length, Option, refl, ap, ◌∙◌, arith, []}
use Rattle.std.specs.List.{list_all, sum_by}
use Rattle.std.proofs.lemmas.Bool.{and_parts, false≢true}
use Rattle.std.proofs.lemmas.List.Sums.{sum_by-cons}
use Rattle.bril_tree.specs.declared.limits.Limits.{Limits}
use Rattle.bril_tree.specs.declared.numbered.Instr.{Instr}
use Rattle.bril_tree.specs.declared.numbered.Instr.TheVariants.{Label, Const, Act}
use Rattle.bril_tree.specs.declared.operation.Op.{Op}
use Rattle.bril_tree.specs.declared.operation.Op.TheVariants as op
use Rattle.bril_tree.specs.declared.program.Prog.{Prog}
use Rattle.bril_tree.specs.FrameWords.{location_count}
use Rattle.program_numbers.specs.ProgramNumbers.{IsLargestFrame}
use Rattle.bril_tree.proofs.Elements.{zip-get, zip-long, get_inside, get_in, passes_in}
use Rattle.rv64_image_laws.specs.WordBounds.{has_fixed_bound, has_fixed_bounds, operation_bound, word_bound, word_bounds, IsStackSize, IsWithin}
use Rattle.slot_code.specs.declared.slots.SlotFunction.{SlotFunction}
use Rattle.slot_code.specs.declared.slots.Slots.{Slots}
use Rattle.slot_code.specs.Lowered.{IsLowered, IsLoweredFunction}
use Rattle.rv64_emit.specs.Bounds.{AreLocationsKnown, bound_with, locations_at, slot_count}
use Rattle.rv64_emit.specs.Refusal.{capped}
use Rattle.std.proofs.lemmas.Option.{slice_get_within}

-- ---- the bounds

pub stack_size : (p : Prog) (limits : Limits) (frame words : ℕ) → IsLargestFrame p frame → words ≡ capped (limits.frames * frame) → words ≤ 8388608 → IsStackSize p limits words
stack_size p limits frame words largest words_is few = record { frame = frame; largest = largest; is = omega arith }

pub is_within : (p : Prog) (limits : Limits) (bound frame words : ℕ) → bound ≡ capped (word_bounds p) → bound ≤ 250000 → IsLargestFrame p frame → words ≡ capped (limits.frames * frame) → words ≤ 8388608 → IsWithin p limits
is_within p limits bound frame words bound_is few_words largest words_is few =
    record { code = omega arith; stack = words; size = stack_size p limits frame words largest words_is few; few = few }

-- ---- where bounds are one for all numbers of locations

fixed_operation : (operation : Op) (dest : Option ℕ) (ty : _) (args funcs labels : List ℕ) (m n : ℕ) → has_fixed_bound (Act dest ty operation args funcs labels) ≡ true → operation_bound operation m (length args) ≡ operation_bound operation n (length args)
fixed_operation op.Speculate dest ty args funcs labels m n fixed = absurd (false≢true fixed)
fixed_operation op.Guard dest ty args funcs labels m n fixed = absurd (false≢true fixed)
fixed_operation _ dest ty args funcs labels m n fixed = refl

fixed_item : (item : Instr) (m n : ℕ) → has_fixed_bound item ≡ true → word_bound m item ≡ word_bound n item
fixed_item (Label l) m n fixed = refl
fixed_item (Const dest ty value) m n fixed = refl
fixed_item (Act dest ty operation args funcs labels) m n fixed = fixed_operation operation dest ty args funcs labels m n fixed

fixed_items : (items : List Instr) (m n : ℕ) → list_all has_fixed_bound items ≡ true → sum_by (word_bound m) items ≡ sum_by (word_bound n) items
fixed_items [] m n fixed = refl
fixed_items (item ∷ items) m n fixed =
    let parts = and_parts (has_fixed_bound item) (list_all has_fixed_bound items) fixed in
    omega (arith, sum_by-cons (word_bound m) item items, sum_by-cons (word_bound n) item items, fixed_item item m n parts.0, fixed_items items m n parts.1)

-- without the numbers of locations
pub fixed_known : (p : Prog) → has_fixed_bounds p ≡ true → (funcs : List SlotFunction) → AreLocationsKnown p funcs
fixed_known p fixed funcs = λ k f at. (let all = passes_in (λ h. list_all has_fixed_bound h.code) p.funcs f fixed (get_in p.funcs k f at) in let same = fixed_items f.code (locations_at funcs k) (location_count f) all in omega arith)

-- with the code over slots
pub lowered_known : (p : Prog) (slots : Slots) → IsLowered p slots → AreLocationsKnown p slots.funcs
lowered_known p slots is = λ k f at. (
    let inside : k < length slots.funcs = omega (arith, slice_get_within p.funcs k f at, zip-long IsLoweredFunction p.funcs slots.funcs is.funcs) in
    let g = get_inside slots.funcs k inside in
    let lowered = zip-get IsLoweredFunction p.funcs slots.funcs k f g.0 is.funcs at g.1 in
    ap (λ o. bound_with (slot_count o) f) g.1 ∙ ap (λ n. bound_with n f) lowered.count)
