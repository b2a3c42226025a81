-- The entries of the profile, by their ranks.
use Rattle.std.proofs.Common.{◌≡◌, ℕ, zero, suc, ◌+◌, ◌-◌, ◌<◌, ◌≤◌, Bool, true, false, cond, List, [], ◌∷◌, ◌++◌, length, map, take, drop, get_or, Option, Some, None, refl, sym, ap, ap₂, ◌∙◌, arith, append_assoc}
use Rattle.std.specs.Prelude.{nat_lt}
use Rattle.std.specs.List.{All}
use Rattle.std.proofs.lemmas.List.{get_or-map, length-drop, length-take-le, length_push, take_more, take-map}
use Rattle.std.proofs.lemmas.List.Elements.{All-nil, All-cons, All-head, All-tail}
use Rattle.bril_profile.specs.declared.profile.Entry.{Entry}
use Rattle.trace_paths.specs.declared.ranks.Ranked.{Ranked}
use Rattle.trace_paths.specs.Fits.{count_of}
use Rattle.trace_paths.specs.Ranks.{rank_count}
use Rattle.trace_paths.specs.Taken.{inserted, in_turn, taken}
use Rattle.trace_recorder.specs.declared.kept.Kept.{Kept}
use Rattle.trace_recorder.specs.Standing.{Held, entry_count, entry_of}
use Rattle.trace_recorder.specs.Kept.{choices_in, held_of, ranks_from, ranked_entry, no_entry, with_count, entry_at, IsOpen, IsKept}

-- ---- the order of what a function makes

inserted-map : {X Y : Type 0} (f : X → Y) (count : Y → ℕ) (x : X) (ys : List X) → inserted count (f x) (map f ys) ≡ map f (inserted (λ x. count (f x)) x ys)
inserted-map f count x [] = refl
inserted-map f count x (y ∷ ys) = by (nat_lt (count (f y)) (count (f x))) (inserted-map f count x ys)
  where
    by : (t : Bool) → inserted count (f x) (map f ys) ≡ map f (inserted (λ x. count (f x)) x ys)
        → cond t (f x ∷ f y ∷ map f ys) (f y ∷ inserted count (f x) (map f ys)) ≡ map f (cond t (x ∷ y ∷ ys) (y ∷ inserted (λ x. count (f x)) x ys))
    by true rest = refl
    by false rest = ap (λ l. f y ∷ l) rest

in_turn-map : {X Y : Type 0} (f : X → Y) (count : Y → ℕ) (done xs : List X) → in_turn count (map f done) (map f xs) ≡ map f (in_turn (λ x. count (f x)) done xs)
in_turn-map f count done [] = refl
in_turn-map f count done (x ∷ xs) = ap (λ l. in_turn count l (map f xs)) (inserted-map f count x done) ∙ in_turn-map f count (inserted (λ x. count (f x)) x done) xs

-- ---- what holds of all holds of those that are taken

All-inserted : {X : Type 0} (Is : X → Type 0) (count : X → ℕ) (x : X) (ys : List X) → Is x → All Is ys → All Is (inserted count x ys)
All-inserted Is count x [] one all = All-cons Is x [] one all
All-inserted Is count x (y ∷ ys) one all = by (nat_lt (count y) (count x)) (All-inserted Is count x ys one (All-tail Is y ys all))
  where
    by : (t : Bool) → All Is (inserted count x ys) → All Is (cond t (x ∷ y ∷ ys) (y ∷ inserted count x ys))
    by true rest = All-cons Is x (y ∷ ys) one all
    by false rest = All-cons Is y (inserted count x ys) (All-head Is y ys all) rest

All-in_turn : {X : Type 0} (Is : X → Type 0) (count : X → ℕ) (done xs : List X) → All Is done → All Is xs → All Is (in_turn count done xs)
All-in_turn Is count done [] all more = all
All-in_turn Is count done (x ∷ xs) all more = All-in_turn Is count (inserted count x done) xs (All-inserted Is count x done (All-head Is x xs more) all) (All-tail Is x xs more)

pub All-first : {X : Type 0} (Is : X → Type 0) (m : ℕ) (xs : List X) → All Is xs → All Is (take m xs)
All-first Is zero xs all = All-nil Is
All-first Is (suc m) [] all = All-nil Is
All-first Is (suc m) (x ∷ xs) all = All-cons Is x (take m xs) (All-head Is x xs all) (All-first Is m xs (All-tail Is x xs all))

pub length-first : {X : Type 0} (m : ℕ) (xs : List X) → length (take m xs) ≤ m
length-first zero xs = omega arith
length-first (suc m) [] = omega arith
length-first (suc m) (x ∷ xs) = let h = length-first m xs in omega arith

pub All-taken : {X : Type 0} (Is : X → Type 0) (count : X → ℕ) (m : ℕ) (xs : List X) → All Is xs → All Is (take m (taken count xs))
All-taken Is count m xs all = All-first Is m (taken count xs) (All-in_turn Is count [] xs (All-nil Is) all)

-- ---- the ranks

module _ (counts : List (List ℕ)) (log : List Bool) (items laid : ℕ) where
  abbrev pub made : Kept → Entry
  made k = entry_of counts (held_of log items laid k)

  pub ranks-push : (place : ℕ) (held : List Kept) (k : Kept) → ranks_from counts place (held ++ k ∷ []) ≡ ranks_from counts place held ++ record { place = place + length held; count = entry_count counts k.named.place } ∷ []
  ranks-push place [] k = let e : place ≡ place + 0 = omega arith in ap (λ n. record { place = n; count = entry_count counts k.named.place } ∷ []) e
  ranks-push place (j ∷ held) k =
      let e : suc place + length held ≡ place + suc (length held) = omega arith in
      ap (λ l. record { place = place; count = entry_count counts j.named.place } ∷ l) (ranks-push (suc place) held k ∙ ap (λ n. ranks_from counts (suc place) held ++ record { place = n; count = entry_count counts k.named.place } ∷ []) e)

  pub ranks-within : (place n : ℕ) (held : List Kept) → place + length held ≤ n → All (λ r. r.place < n) (ranks_from counts place held)
  ranks-within place n [] h = All-nil (λ r. r.place < n)
  ranks-within place n (k ∷ held) h = All-cons (λ r. r.place < n) (record { place = place; count = entry_count counts k.named.place }) (ranks_from counts (suc place) held) (omega arith) (ranks-within (suc place) n held (omega arith))

  pub ranks-next : (held : List Kept) (n count : ℕ) (k : Kept) → n < length held → k ≡ get_or held n k → count ≡ entry_count counts k.named.place
      → ranks_from counts 0 (take n held) ++ record { place = n; count = count } ∷ [] ≡ ranks_from counts 0 (take (n + 1) held)
  ranks-next held n count k less at is =
      let long : length (take n held) ≡ n = length-take-le n held (omega arith) in
      let place : n ≡ 0 + length (take n held) = omega arith in
      (λ i. ranks_from counts 0 (take n held) ++ record { place = place i; count = is i } ∷ [])
      ∙ sym (ranks-push 0 (take n held) k)
      ∙ ap (ranks_from counts 0) (sym (take_more held n k less ∙ ap (λ x. take n held ++ x ∷ []) (sym at)))

  at_end : (before held : List Kept) (k : Kept) → entry_at log (before ++ k ∷ held) (record { place = length before; count = entry_count counts k.named.place }) ≡ made k
  at_end [] held k = refl
  at_end (b ∷ before) held k = at_end before held k

  ranked-all : (before held : List Kept) → map (entry_at log (before ++ held)) (ranks_from counts (length before) held) ≡ map made held
  ranked-all before [] = refl
  ranked-all before (k ∷ held) =
      ap₂ (λ (x : Entry) (xs : List Entry). x ∷ xs) (at_end before held k)
      (ap₂ (λ xs n. map (entry_at log xs) (ranks_from counts n held)) (sym (append_assoc before (k ∷ []) held)) (let e : length (before ++ k ∷ []) ≡ length before + 1 = length_push before k in let g : suc (length before) ≡ length (before ++ k ∷ []) = omega arith in g)
      ∙ ranked-all (before ++ k ∷ []) held)

  -- the entries at the first ranks are the first entries
  pub ranked : (m : ℕ) (held : List Kept) → map (entry_at log held) (take m (taken rank_count (ranks_from counts 0 held))) ≡ take m (taken count_of (map made held))
  ranked m held =
      sym (take-map (entry_at log held) m (taken rank_count (ranks_from counts 0 held)))
      ∙ ap (take m) (sym (in_turn-map (entry_at log held) count_of [] (ranks_from counts 0 held)) ∙ ap (taken count_of) (ranked-all [] held))

-- ---- one entry

pub entry_is : (log : List Bool) (held : List Kept) (r : Ranked) (k : Kept) → r.place < length held → k ≡ get_or held r.place k → ranked_entry log k r.count ≡ entry_at log held r
entry_is log held r k less at =
    ap (λ e. with_count e r.count) (ap (λ k. ranked_entry log k 0) at ∙ sym (get_or-map (λ k. ranked_entry log k 0) held r.place k no_entry less))

-- ---- the invariants of a profile

module _ (counts : List (List ℕ)) (log : List Bool) (items laid : ℕ) where
  pub made_all : (held : List Kept) → map (made counts log items laid) held ≡ map (entry_of counts) (map (held_of log items laid) held)
  made_all [] = refl
  made_all (k ∷ held) = ap (λ l. made counts log items laid k ∷ l) (made_all held)

  short : (k : Kept) → IsKept (length log) items laid k → length (choices_in log k.start k.end) ≤ 256
  short k h = by k.end h.goes
    where
      by : (o : Option ℕ) → IsOpen (length log) items laid k o → length (choices_in log k.start o) ≤ 256
      by None goes = let a = goes.0 in let b = goes.2 in let l = length-drop k.start log in omega arith
      by (Some end) goes = let l = length-first (end - k.start) (drop k.start log) in omega arith

  pub made_short : (held : List Kept) → All (IsKept (length log) items laid) held → All (λ (e : Entry). length e.choices ≤ 256) (map (entry_of counts) (map (held_of log items laid) held))
  made_short [] all = All-nil (λ (e : Entry). length e.choices ≤ 256)
  made_short (k ∷ held) all =
      All-cons (λ (e : Entry). length e.choices ≤ 256) (made counts log items laid k) (map (entry_of counts) (map (held_of log items laid) held))
      (short k (All-head (IsKept (length log) items laid) k held all)) (made_short held (All-tail (IsKept (length log) items laid) k held all))

pub made_counted : (counts : List (List ℕ)) (held : List Held) → All (λ (e : Entry). 1 ≤ e.count) (map (entry_of counts) held)
made_counted counts [] = All-nil (λ (e : Entry). 1 ≤ e.count)
made_counted counts (h ∷ held) = All-cons (λ (e : Entry). 1 ≤ e.count) (entry_of counts h) (map (entry_of counts) held) (omega arith) (made_counted counts held)
