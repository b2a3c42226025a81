-- Numbers as bytes, and back.
use Rattle.std.proofs.Common.{◌≡◌, ℕ, zero, suc, ◌+◌, ◌*◌, ◌/◌, ◌%◌, ◌^◌, ◌-◌, ◌<◌, ◌≤◌, List, [], ◌∷◌, ◌++◌, length, take, drop, refl, sym, ap, ap₂, subst, ◌∙◌, arith, length-append, length-drop, append_assoc, get_or}
use Rattle.std.specs.List.{flat_map}
use Rattle.std.proofs.lemmas.List.{take-append-drop, length-take-le}
use Rattle.std.proofs.lemmas.List.Elements.{All-nil, All-cons, All-head, All-tail, All-take, All-drop, All-from_get_or}
use Rattle.elf_wrap.specs.Numbers.{le_bytes, le_number}
use Rattle.elf_wrap.specs.Form.{words_in}
use Rattle.elf_wrap.specs.Laws.{AreBytes, AreWords}

-- the numbers of so many bytes are below this
abbrev pub most : ℕ → ℕ
most zero = 1
most (suc k) = 256 * most k

pub length-le_bytes : (k n : ℕ) → length (le_bytes k n) ≡ k
length-le_bytes zero n = refl
length-le_bytes (suc k) n = ap suc (length-le_bytes k (n / 256))

pub le_bytes-bytes : (k n : ℕ) → AreBytes (le_bytes k n)
le_bytes-bytes zero n = All-nil (λ b. b < 256)
le_bytes-bytes (suc k) n = All-cons (λ b. b < 256) (n % 256) (le_bytes k (n / 256)) (omega arith) (le_bytes-bytes k (n / 256))

pub le_number-le_bytes : (k n : ℕ) → n < most k → le_number (le_bytes k n) ≡ n
le_number-le_bytes zero n h = (let j : n < 1 = h in omega arith)
le_number-le_bytes (suc k) n h =
    let m : ℕ = most k in
    let j : n < 256 * m = h in
    let below : n / 256 < m = omega arith in
    let again = le_number-le_bytes k (n / 256) below in
    ap (λ x. n % 256 + 256 * x) again ∙ (omega arith)

pub le_number-below : (bytes : List ℕ) → AreBytes bytes → le_number bytes < most (length bytes)
le_number-below [] all = omega arith
le_number-below (b ∷ bytes) all =
    let first = All-head (λ b. b < 256) b bytes all in
    let rest = le_number-below bytes (All-tail (λ b. b < 256) b bytes all) in
    let m : ℕ = most (length bytes) in
    let n : ℕ = le_number bytes in
    let k : n < m = rest in
    let goal : b + 256 * n < 256 * m = omega arith in
    goal

pub le_bytes-le_number : (bytes : List ℕ) → AreBytes bytes → le_bytes (length bytes) (le_number bytes) ≡ bytes
le_bytes-le_number [] all = refl
le_bytes-le_number (b ∷ bytes) all =
    let first = All-head (λ b. b < 256) b bytes all in
    let again = le_bytes-le_number bytes (All-tail (λ b. b < 256) b bytes all) in
    let n : ℕ = le_number bytes in
    let low : (b + 256 * n) % 256 ≡ b = omega arith in
    let high : (b + 256 * n) / 256 ≡ n = omega arith in
    ap₂ (λ x (xs : List ℕ). x ∷ xs) low (ap (le_bytes (length bytes)) high ∙ again)

-- the first bytes that make this number are its bytes
pub taken_is : (size value : ℕ) (rest : List ℕ) → AreBytes rest → size ≤ length rest → le_number (take size rest) ≡ value → rest ≡ le_bytes size value ++ drop size rest
taken_is size value rest all long is =
    let l : length (take size rest) ≡ size = length-take-le size rest long in
    let bytes = le_bytes-le_number (take size rest) (All-take (λ b. b < 256) size rest all) in
    let e : le_bytes size value ≡ take size rest = ap₂ le_bytes (sym l) (sym is) ∙ bytes in
    sym (ap (λ x. x ++ drop size rest) e ∙ take-append-drop size rest)

-- ---- words

pub words_in-bytes : (words : List ℕ) → AreWords words → words_in (length words) (flat_map (le_bytes 4) words) ≡ words
words_in-bytes [] all = refl
words_in-bytes (w ∷ words) all =
    let first : le_number (le_bytes 4 w) ≡ w = le_number-le_bytes 4 w (All-head (λ w. w < 2 ^ 32) w words all) in
    ap₂ (λ x (xs : List ℕ). x ∷ xs) first (words_in-bytes words (All-tail (λ w. w < 2 ^ 32) w words all))

pub length-words_in : (n : ℕ) (bytes : List ℕ) → length (words_in n bytes) ≡ n
length-words_in zero bytes = refl
length-words_in (suc n) bytes = ap suc (length-words_in n (drop 4 bytes))

pub words_in-words : (n : ℕ) (bytes : List ℕ) → AreBytes bytes → length bytes ≡ 4 * n → AreWords (words_in n bytes)
words_in-words zero bytes all size = All-nil (λ w. w < 2 ^ 32)
words_in-words (suc n) bytes all size =
    let long : 4 ≤ length bytes = omega arith in
    let l : length (take 4 bytes) ≡ 4 = length-take-le 4 bytes long in
    let below : le_number (take 4 bytes) < most (length (take 4 bytes)) = le_number-below (take 4 bytes) (All-take (λ b. b < 256) 4 bytes all) in
    let s : length (drop 4 bytes) ≡ 4 * n = length-drop 4 bytes ∙ (omega arith) in
    All-cons (λ w. w < 2 ^ 32) (le_number (take 4 bytes)) (words_in n (drop 4 bytes)) (subst (λ k. le_number (take 4 bytes) < most k) l below)
    (words_in-words n (drop 4 bytes) (All-drop (λ b. b < 256) 4 bytes all) s)

pub bytes_of-words_in : (n : ℕ) (bytes : List ℕ) → AreBytes bytes → length bytes ≡ 4 * n → bytes ≡ flat_map (le_bytes 4) (words_in n bytes)
bytes_of-words_in zero [] all size = refl
bytes_of-words_in zero (b ∷ bytes) all size = absurd (let h : suc (length bytes) ≡ 4 * 0 = size in omega arith)
bytes_of-words_in (suc n) bytes all size =
    let long : 4 ≤ length bytes = omega arith in
    let front = taken_is 4 (le_number (take 4 bytes)) bytes all long refl in
    let l : length bytes ≡ 4 + length (drop 4 bytes) = ap length front ∙ length-append (le_bytes 4 (le_number (take 4 bytes))) (drop 4 bytes) in
    let s : length (drop 4 bytes) ≡ 4 * n = omega arith in
    front ∙ ap (λ x. le_bytes 4 (le_number (take 4 bytes)) ++ x) (bytes_of-words_in n (drop 4 bytes) (All-drop (λ b. b < 256) 4 bytes all) s)

-- ---- bounds

pub are_bytes : (bytes : List ℕ) → ((k : ℕ) → get_or bytes k 0 < 256) → AreBytes bytes
are_bytes bytes h = All-from_get_or (λ b. b < 256) bytes 0 (λ i l. h i)

most-le : (k n : ℕ) → k ≤ n → most k ≤ most n
most-le zero zero h = omega arith
most-le zero (suc n) h = let j = most-le zero n (omega arith) in let m : ℕ = most n in let g : 1 ≤ m = j in let f : 1 ≤ 256 * m = omega arith in f
most-le (suc k) zero h = absurd (omega arith)
most-le (suc k) (suc n) h = let j = most-le k n (omega arith) in let a : ℕ = most k in let b : ℕ = most n in let g : a ≤ b = j in let f : 256 * a ≤ 256 * b = omega arith in f

pub number_within : (n : ℕ) (bytes : List ℕ) → AreBytes bytes → length bytes ≤ n → le_number bytes < most n
number_within n bytes all short = let a = le_number-below bytes all in let b = most-le (length bytes) n short in let x : ℕ = most (length bytes) in let y : ℕ = most n in let v : ℕ = le_number bytes in let c : v < x = a in let d : x ≤ y = b in let g : v < y = omega arith in g

-- a byte more behind
pub bytes_more : (k n : ℕ) (old now next out : List ℕ) → next ≡ now ++ n % 256 ∷ [] → now ++ le_bytes (suc k) n ≡ old ++ out → next ++ le_bytes k (n / 256) ≡ old ++ out
bytes_more k n old now next out made so = ap (λ x. x ++ le_bytes k (n / 256)) made ∙ (append_assoc now (n % 256 ∷ []) (le_bytes k (n / 256)) ∙ so)

pub words_more : (bytes : List ℕ) → 4 ≤ length bytes → words_in (length bytes / 4) bytes ≡ le_number (take 4 bytes) ∷ words_in (length (drop 4 bytes) / 4) (drop 4 bytes)
words_more bytes long =
    let l : length (drop 4 bytes) ≡ length bytes - 4 = length-drop 4 bytes in
    let n : length bytes / 4 ≡ suc (length (drop 4 bytes) / 4) = omega arith in
    ap (λ k. words_in k bytes) n

-- one word more is read
pub read_more : (words : List ℕ) (word : ℕ) (rest next new : List ℕ) (all : List ℕ) → 4 ≤ length rest → word ≡ le_number (take 4 rest) → next ≡ drop 4 rest → new ≡ words ++ word ∷ []
    → words ++ words_in (length rest / 4) rest ≡ all → new ++ words_in (length next / 4) next ≡ all
read_more words word rest next new all long is behind made so =
    ap₂ (λ x y. x ++ words_in (length y / 4) y) made behind
    ∙ (append_assoc words (word ∷ []) (words_in (length (drop 4 rest) / 4) (drop 4 rest))
    ∙ (ap (λ w. words ++ (w ∷ words_in (length (drop 4 rest) / 4) (drop 4 rest))) is
    ∙ (ap (λ x. words ++ x) (sym (words_more rest long)) ∙ so)))
