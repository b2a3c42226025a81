-- Files: that of an image opens as the image, and one that opens is that of the image.
use Rattle.std.proofs.Common.{◌≡◌, ◌≢◌, ◌⊎◌, ℕ, suc, ◌+◌, ◌*◌, ◌/◌, ◌-◌, ◌^◌, ◌<◌, ◌≤◌, List, [], ◌∷◌, ◌++◌, length, take, drop, Option, Some, None, refl, sym, ap, ap₂, subst, ◌∙◌, inl, inr, ⊎_elim, arith, append_assoc, length-append, length-drop, Result, Ok, Err}
use Rattle.std.specs.List.{flat_map}
use Rattle.std.specs.Prelude.{IfOk, IfErr, IsErrOf, MatchResult}
use Rattle.rv64_words.specs.declared.image.Image.{Image}
use Rattle.std.proofs.lemmas.Bool.{cases_eq, eq-eqb, ne_eqb, cases_lt, lt-ltb, le-ltb}
use Rattle.std.proofs.lemmas.List.{drop_at}
use Rattle.std.proofs.lemmas.List.Elements.{All-drop}
use Rattle.rv64_words.specs.Region.{most_words, most_stack}
use Rattle.elf_wrap.specs.declared.fault.ElfFault.{ElfFault}
use Rattle.elf_wrap.specs.declared.fault.ElfFault.TheVariants.{At, CodeTooBig, StackTooBig, Memory}
use Rattle.elf_wrap.specs.declared.table.Field.{Field}
use Rattle.elf_wrap.specs.Numbers.{le_bytes, le_number}
use Rattle.elf_wrap.specs.Form.{fields, field_bytes, field_fault, header, header_size, wrapped, words_told, stack_told, words_in, size_fault, fault_by, elf_fault}
use Rattle.elf_wrap.specs.Laws.{AreBytes, AreWords, Opens, IsFile, IsFaultOf, IsFirstFieldFault}
use Rattle.elf_wrap.proofs.Numbers.{most, length-le_bytes, le_number-le_bytes, taken_is, words_in-bytes, length-words_in, words_in-words, bytes_of-words_in}
use Rattle.elf_wrap.proofs.Fields.{Fit, written_right, right_written}

fields_fit : (words stack : ℕ) → 4 * words < 2 ^ 64 → 8 * stack < 2 ^ 64 → Fit (fields words stack)
fields_fit words stack w s = (omega arith, (omega arith, (omega arith, (omega arith, (omega arith, (omega arith, (omega arith, (omega arith, (omega arith, (omega arith, (omega arith, (omega arith, (omega arith, (omega arith, (omega arith, (omega arith, (omega arith, (omega arith, (omega arith, (omega arith, (omega arith, (omega arith, (omega arith, (omega arith, (omega arith, (omega arith, (omega arith, (omega arith, (omega arith, (omega arith, tt))))))))))))))))))))))))))))))

length-header : (words stack : ℕ) → length (header words stack) ≡ header_size
length-header words stack = refl

length-words : (words : List ℕ) → length (flat_map (le_bytes 4) words) ≡ 4 * length words
length-words [] = refl
length-words (w ∷ words) = let h : length (flat_map (le_bytes 4) words) ≡ 4 * length words = length-words words in length-append (le_bytes 4 w) (flat_map (le_bytes 4) words) ∙ (ap (λ x. 4 + x) h ∙ (let n : ℕ = length words in let g : 4 + 4 * n ≡ 4 * suc n = omega arith in g))

words_right : (stack : ℕ) (words : List ℕ) → length words ≤ most_words → words_told (wrapped stack words) ≡ length words
words_right stack words few =
    let bytes : take 8 (drop 96 (wrapped stack words)) ≡ le_bytes 8 (4 * length words) = refl in
    let small : 4 * length words < most 8 = (let h : length words ≤ 250000 = few in omega arith) in
    let again : le_number (take 8 (drop 96 (wrapped stack words))) ≡ 4 * length words = ap le_number bytes ∙ le_number-le_bytes 8 (4 * length words) small in
    ap (λ n. n / 4) again ∙ (let n : ℕ = length words in let g : 4 * n / 4 ≡ n = omega arith in g)

stack_right : (stack : ℕ) (words : List ℕ) → stack ≤ most_stack → stack_told (wrapped stack words) ≡ stack
stack_right stack words low =
    let bytes : take 8 (drop 160 (wrapped stack words)) ≡ le_bytes 8 (8 * stack) = refl in
    let small : 8 * stack < most 8 = (let h : stack ≤ 8388608 = low in omega arith) in
    let again : le_number (take 8 (drop 160 (wrapped stack words))) ≡ 8 * stack = ap le_number bytes ∙ le_number-le_bytes 8 (8 * stack) small in
    ap (λ n. n / 8) again ∙ (let g : 8 * stack / 8 ≡ stack = omega arith in g)

size_right : (size words stack : ℕ) → size ≡ header_size + 4 * words → words ≤ most_words → stack ≤ most_stack → size_fault size words stack ≡ None
size_right size words stack is few low =
    let a : header_size + 4 * words ≤ size = omega arith in
    let b : size ≤ header_size + 4 * words = omega arith in
    rw (le-ltb size (header_size + 4 * words) a, le-ltb (header_size + 4 * words) size b, le-ltb most_words words few, le-ltb most_stack stack low) refl

pub wrapped_opens : (stack : ℕ) (words : List ℕ) → AreWords words → length words ≤ most_words → stack ≤ most_stack → Opens (wrapped stack words) stack words
wrapped_opens stack words all few low =
    let source : List ℕ = wrapped stack words in
    let tail : List ℕ = flat_map (le_bytes 4) words in
    let w : words_told source ≡ length words = words_right stack words few in
    let s : stack_told source ≡ stack = stack_right stack words low in
    let fit : Fit (fields (length words) stack) = fields_fit (length words) stack (let h : length words ≤ 250000 = few in omega arith) (let h : stack ≤ 8388608 = low in omega arith) in
    let right : field_fault 0 (fields (length words) stack) source ≡ None = written_right (fields (length words) stack) 0 tail fit in
    let size : length source ≡ header_size + 4 * length words = length-append (header (length words) stack) tail ∙ ap₂ (λ x y. x + y) (length-header (length words) stack) (length-words words) in
    let d : drop header_size source ≡ tail = drop_at (header (length words) stack) tail header_size (length-header (length words) stack) in
    record {
      right = ap₂ (λ x y. fault_by (length source) x y (field_fault 0 (fields x y) source)) w s ∙ (ap (fault_by (length source) (length words) stack) right ∙ size_right (length source) (length words) stack size few low);
      stack_is = s;
      words_are = ap₂ words_in w d ∙ words_in-bytes words all;
    }

-- ---- what opens

record Right (size words stack : ℕ) : Type 0 where
  is : size ≡ header_size + 4 * words
  few : words ≤ most_words
  low : stack ≤ most_stack

right_size : (size words stack : ℕ) → size_fault size words stack ≡ None → Right size words stack
right_size size words stack e = ⊎_elim
    (λ short. absurd (let k : Some (At size) ≡ None = rw (lt-ltb size (header_size + 4 * words) short) at e in cc))
    (λ a. ⊎_elim
    (λ long. absurd (let k : Some (At (header_size + 4 * words)) ≡ None = rw (le-ltb size (header_size + 4 * words) a, lt-ltb (header_size + 4 * words) size long) at e in cc))
    (λ b. ⊎_elim
    (λ many. absurd (let k : Some (CodeTooBig words) ≡ None = rw (le-ltb size (header_size + 4 * words) a, le-ltb (header_size + 4 * words) size b, lt-ltb most_words words many) at e in cc))
    (λ few. ⊎_elim
    (λ high. absurd (let k : Some (StackTooBig stack) ≡ None = rw (le-ltb size (header_size + 4 * words) a, le-ltb (header_size + 4 * words) size b, le-ltb most_words words few, lt-ltb most_stack stack high) at e in cc))
    (λ low. record { is = omega arith; few = few; low = low })
    (cases_lt most_stack stack))
    (cases_lt most_words words))
    (cases_lt (header_size + 4 * words) size))
    (cases_lt size (header_size + 4 * words))

file_by : (source : List ℕ) (words stack : ℕ) (o : Option ℕ) → AreBytes source → field_fault 0 (fields words stack) source ≡ o → fault_by (length source) words stack o ≡ None
    → IsFile source stack (words_in words (drop header_size source))
file_by source words stack (Some at) all e right = absurd (let k : Some (At at) ≡ None = right in cc)
file_by source words stack None all e right =
    let r = right_size (length source) words stack right in
    let b = right_written (fields words stack) 0 source all e in
    let d : drop header_size source ≡ b.rest = ap (drop header_size) b.is ∙ drop_at (header words stack) b.rest header_size (length-header words stack) in
    let l : length source ≡ header_size + length b.rest = ap length b.is ∙ (length-append (header words stack) b.rest ∙ ap (λ x. x + length b.rest) (length-header words stack)) in
    let size : length (drop header_size source) ≡ 4 * words = ap length d ∙ (let h = r.is in omega arith) in
    let bytes : AreBytes (drop header_size source) = All-drop (λ b. b < 256) header_size source all in
    let ws : List ℕ = words_in words (drop header_size source) in
    let n : length ws ≡ words = length-words_in words (drop header_size source) in
    let again : drop header_size source ≡ flat_map (le_bytes 4) ws = bytes_of-words_in words (drop header_size source) bytes size in
    record {
      is = b.is ∙ (ap (λ x. header words stack ++ x) (sym d ∙ again) ∙ ap (λ x. header x stack ++ flat_map (le_bytes 4) ws) (sym n));
      are_words = words_in-words words (drop header_size source) bytes size;
      few = subst (λ x. x ≤ most_words) (sym n) r.few;
      low = r.low;
    }

pub opened_is_wrapped : (source : List ℕ) (stack : ℕ) (words : List ℕ) → AreBytes source → Opens source stack words → IsFile source stack words
opened_is_wrapped source stack words all o =
    let f = file_by source (words_told source) (stack_told source) (field_fault 0 (fields (words_told source) (stack_told source)) source) all refl o.right in
    subst (IsFile source stack) o.words_are (subst (λ s. IsFile source s (words_in (words_told source) (drop header_size source))) o.stack_is f)

-- ---- the first field that isn't so

record IsFirstFrom (fs : List Field) (from : ℕ) (source : List ℕ) (at : ℕ) : Type 0 where
  before : List Field
  field : Field
  after : List Field
  split : fs ≡ before ++ field ∷ after
  rest : List ℕ
  is : source ≡ flat_map field_bytes before ++ rest
  bad : ((length rest < field.size) × (at ≡ from + length source)) ⊎ ((field.size ≤ length rest) × (le_number (take field.size rest) ≢ field.value) × (at ≡ from + length (flat_map field_bytes before)))

first_from : (fs : List Field) (from : ℕ) (source : List ℕ) (at : ℕ) → AreBytes source → field_fault from fs source ≡ Some at → IsFirstFrom fs from source at
first_from [] from source at all e = absurd (let k : None ≡ Some at = e in cc)
first_from (f ∷ fs) from source at all e = ⊎_elim
    (λ short.
    let k : Some (from + length source) ≡ Some at = rw (lt-ltb (length source) f.size short) at e in
    let p : from + length source ≡ at = cc in
    record { before = []; field = f; after = fs; split = refl; rest = source; is = refl; bad = inl (short, sym p) })
    (λ long. ⊎_elim
    (λ same.
    let k : field_fault (from + f.size) fs (drop f.size source) ≡ Some at = rw (le-ltb (length source) f.size long, eq-eqb (le_number (take f.size source)) f.value same) at e in
    let r = first_from fs (from + f.size) (drop f.size source) at (All-drop (λ b. b < 256) f.size source all) k in
    let front = taken_is f.size f.value source all long same in
    let l : length source ≡ f.size + length (drop f.size source) = ap length front ∙ (length-append (field_bytes f) (drop f.size source) ∙ ap (λ x. x + length (drop f.size source)) (length-le_bytes f.size f.value)) in
    let m : length (flat_map field_bytes (f ∷ r.before)) ≡ f.size + length (flat_map field_bytes r.before) = length-append (field_bytes f) (flat_map field_bytes r.before) ∙ ap (λ x. x + length (flat_map field_bytes r.before)) (length-le_bytes f.size f.value) in
    record {
      before = f ∷ r.before;
      field = r.field;
      after = r.after;
      split = ap (λ x. f ∷ x) r.split;
      rest = r.rest;
      is = front ∙ (ap (λ x. field_bytes f ++ x) r.is ∙ sym (append_assoc (field_bytes f) (flat_map field_bytes r.before) r.rest));
      bad = ⊎_elim (λ h. inl (h.0, (let a = h.1 in omega arith))) (λ h. inr (h.0, h.1, (let a = h.2 in omega arith))) r.bad;
    })
    (λ other.
    let k : Some from ≡ Some at = rw (le-ltb (length source) f.size long, ne_eqb (le_number (take f.size source)) f.value other) at e in
    let p : from ≡ at = cc in
    record { before = []; field = f; after = fs; split = refl; rest = source; is = refl; bad = inr (long, other, (omega arith)) })
    (cases_eq (le_number (take f.size source)) f.value))
    (cases_lt (length source) f.size)

pub first_field : (fs : List Field) (source : List ℕ) (at : ℕ) → AreBytes source → field_fault 0 fs source ≡ Some at → IsFirstFieldFault fs source at
first_field fs source at all e =
    let r = first_from fs 0 source at all e in
    record {
      before = r.before;
      field = r.field;
      after = r.after;
      split = r.split;
      rest = r.rest;
      is = r.is;
      bad = ⊎_elim (λ h. inl (h.0, (let a = h.1 in omega arith))) (λ h. inr (h.0, h.1, (let a = h.2 in omega arith))) r.bad;
    }

-- ---- what opening answers

pub opens_file : (source : List ℕ) (r : Result Image ElfFault) → IfOk r (λ image. Opens source image.stack image.words) → IfErr r (IsFaultOf source)
    → (stack : ℕ) (words : List ℕ) → IsFile source stack words → MatchResult r (λ image. (image.stack ≡ stack) × (image.words ≡ words)) (λ fault. fault ≡ Memory)
opens_file source (Ok image) found fault stack words f =
    let o : Opens source stack words = subst (λ s. Opens s stack words) (sym f.is) (wrapped_opens stack words f.are_words f.few f.low) in
    (sym found.stack_is ∙ o.stack_is, sym found.words_are ∙ o.words_are)
opens_file source (Err e) found fault stack words f =
    let o : Opens source stack words = subst (λ s. Opens s stack words) (sym f.is) (wrapped_opens stack words f.are_words f.few f.low) in
    ⊎_elim (λ h. absurd (let k : Some e ≡ None = sym h ∙ o.right in cc)) (λ m. m.0) fault

pub first_told : (source : List ℕ) (r : Result Image ElfFault) → IfOk r (λ image. Opens source image.stack image.words) → IfErr r (IsFaultOf source) → (first : ElfFault) → elf_fault source ≡ Some first → IsErrOf r first
first_told source (Ok image) found fault first e = absurd (let k : None ≡ Some first = sym found.right ∙ e in cc)
first_told source (Err f) found fault first e = ⊎_elim
    (λ h. (let k : Some f ≡ Some first = sym h ∙ e in let same : f ≡ first = cc in ap Err same))
    (λ m. absurd (let k : None ≡ Some first = sym m.1 ∙ e in cc))
    fault

pub file_found : (source : List ℕ) (r : Result Image ElfFault) → AreBytes source → IfOk r (λ image. Opens source image.stack image.words) → IfOk r (λ image. IsFile source image.stack image.words)
file_found source (Ok image) all found = opened_is_wrapped source image.stack image.words all found
file_found source (Err e) all found = tt

-- a source without fault has a right size
size_by : (size words stack : ℕ) (o : Option ℕ) → fault_by size words stack o ≡ None → Right size words stack
size_by size words stack (Some at) e = absurd (let k : Some (At at) ≡ None = e in cc)
size_by size words stack None e = right_size size words stack e

size_told : (source : List ℕ) → elf_fault source ≡ None → Right (length source) (words_told source) (stack_told source)
size_told source e = size_by (length source) (words_told source) (stack_told source) (field_fault 0 (fields (words_told source) (stack_told source)) source) e

pub header_there : (source : List ℕ) → elf_fault source ≡ None → 176 ≤ length source
header_there source e = let h = (size_told source e).is in omega arith

pub stack_fits : (source : List ℕ) → elf_fault source ≡ None → stack_told source ≤ 8388608
stack_fits source e = (size_told source e).low

-- the image of a source without fault
pub image_found : (source words : List ℕ) (stack : ℕ) → elf_fault source ≡ None → stack ≡ stack_told source → words ≡ words_in (length (drop header_size source) / 4) (drop header_size source) → Opens source stack words
image_found source words stack right is read =
    let l : length (drop header_size source) ≡ length source - header_size = length-drop header_size source in
    let n : length (drop header_size source) / 4 ≡ words_told source =
    (let a = (size_told source right).is in let w : ℕ = words_told source in let b : length source ≡ 176 + 4 * w = a in let c : length (drop header_size source) ≡ length source - 176 = l in omega arith) in
    record { right = right; stack_is = sym is; words_are = sym (read ∙ ap (λ k. words_in k (drop header_size source)) n) }

-- the fault by the fields, or by the size
pub fault_fields : (source : List ℕ) (words stack at : ℕ) → words ≡ words_told source → stack ≡ stack_told source → field_fault 0 (fields words stack) source ≡ Some at → Some (At at) ≡ elf_fault source
fault_fields source words stack at w s e =
    sym (ap₂ (λ x y. fault_by (length source) x y (field_fault 0 (fields x y) source)) (sym w) (sym s) ∙ ap (fault_by (length source) words stack) e)

pub fault_size : (source : List ℕ) (words stack : ℕ) → words ≡ words_told source → stack ≡ stack_told source → field_fault 0 (fields words stack) source ≡ None → size_fault (length source) words stack ≡ elf_fault source
fault_size source words stack w s e =
    sym (ap₂ (λ x y. fault_by (length source) x y (field_fault 0 (fields x y) source)) (sym w) (sym s) ∙ ap (fault_by (length source) words stack) e)
