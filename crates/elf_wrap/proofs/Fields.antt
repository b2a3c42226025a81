-- The fields of a file: written ones have no fault, and those without a fault are as they are written.
use Rattle.std.proofs.Common.{◌≡◌, ℕ, ◌+◌, ◌<◌, ◌≤◌, List, [], ◌∷◌, ◌++◌, length, take, drop, Some, None, refl, sym, ap, ◌∙◌, ⊎_elim, arith, append_assoc, length-append}
use Rattle.std.specs.List.{flat_map}
use Rattle.std.proofs.lemmas.Bool.{cases_eq, eq-eqb, ne_eqb, cases_lt, lt-ltb, le-ltb}
use Rattle.std.proofs.lemmas.List.{take_at, drop_at}
use Rattle.std.proofs.lemmas.List.Elements.{All-drop}
use Rattle.elf_wrap.specs.declared.table.Field.{Field}
use Rattle.elf_wrap.specs.Numbers.{le_number}
use Rattle.elf_wrap.specs.Form.{field_bytes, field_fault}
use Rattle.elf_wrap.specs.Laws.{AreBytes}
use Rattle.elf_wrap.proofs.Numbers.{most, length-le_bytes, le_number-le_bytes, taken_is}

-- the value of each field has so many bytes
abbrev pub Fit : List Field → Type 0
Fit [] = Unit {0}
Fit (f ∷ fs) = (f.value < most f.size) × Fit fs

pub written_right : (fs : List Field) (at : ℕ) (rest : List ℕ) → Fit fs → field_fault at fs (flat_map field_bytes fs ++ rest) ≡ None
written_right [] at rest fit = refl
written_right (f ∷ fs) at rest fit =
    let tail : List ℕ = flat_map field_bytes fs ++ rest in
    let source : List ℕ = field_bytes f ++ tail in
    let assoc : flat_map field_bytes (f ∷ fs) ++ rest ≡ source = append_assoc (field_bytes f) (flat_map field_bytes fs) rest in
    let l : length (field_bytes f) ≡ f.size = length-le_bytes f.size f.value in
    let long : f.size ≤ length source = (let a = length-append (field_bytes f) tail in omega arith) in
    let t : take f.size source ≡ field_bytes f = take_at (field_bytes f) tail f.size l in
    let d : drop f.size source ≡ tail = drop_at (field_bytes f) tail f.size l in
    let n : le_number (take f.size source) ≡ f.value = ap le_number t ∙ le_number-le_bytes f.size f.value fit.0 in
    let again = written_right fs (at + f.size) rest fit.1 in
    ap (field_fault at (f ∷ fs)) assoc ∙ (rw (le-ltb (length source) f.size long, eq-eqb (le_number (take f.size source)) f.value n) (ap (field_fault (at + f.size) fs) d ∙ again))

pub record Behind (fs : List Field) (source : List ℕ) : Type 0 where
  pub rest : List ℕ
  pub is : source ≡ flat_map field_bytes fs ++ rest

pub right_written : (fs : List Field) (at : ℕ) (source : List ℕ) → AreBytes source → field_fault at fs source ≡ None → Behind fs source
right_written [] at source all e = record { rest = source; is = refl }
right_written (f ∷ fs) at source all e = ⊎_elim
    (λ short. absurd (let k : Some (at + length source) ≡ None = rw (lt-ltb (length source) f.size short) at e in cc))
    (λ long. ⊎_elim
    (λ same.
    let k : field_fault (at + f.size) fs (drop f.size source) ≡ None = rw (le-ltb (length source) f.size long, eq-eqb (le_number (take f.size source)) f.value same) at e in
    let b = right_written fs (at + f.size) (drop f.size source) (All-drop (λ b. b < 256) f.size source all) k in
    record { rest = b.rest; is = taken_is f.size f.value source all long same ∙ (ap (λ x. field_bytes f ++ x) b.is ∙ sym (append_assoc (field_bytes f) (flat_map field_bytes fs) b.rest)) })
    (λ other. absurd (let k : Some at ≡ None = rw (le-ltb (length source) f.size long, ne_eqb (le_number (take f.size source)) f.value other) at e in cc))
    (cases_eq (le_number (take f.size source)) f.value))
    (cases_lt (length source) f.size)
