-- Several writes to a sink, one after another.
use Rattle.std.proofs.Common.{◌≡◌, ◌≢◌, ℕ, ◌+◌, ◌^◌, ◌<◌, ◌≤◌, List, [], ◌∷◌, ◌++◌, length, Option, Some, None, refl, ap, sym, subst, ◌∙◌, append_assoc, append-nil, length-append, zero-add, arith}
use Rattle.std.proofs.lemmas.Grind.{common_steps}
use Rattle.std.specs.Option.{option_map}
use Rattle.bril_outside.specs.Sink.{SinkSeen, Rose, amount_after, Took, TookAll, TookSome, PutTimes, joined, PutAll, PutSome, TookBy, FailedAfter}

-- nothing more leaves an amount
pub amount_after-zero : (a : Option ℕ) → amount_after a 0 ≡ a
amount_after-zero None = refl
amount_after-zero (Some n) = grind (arith, common_steps)

-- two steps are one
pub amount_after-twice : (a : Option ℕ) (m n : ℕ) → amount_after (amount_after a m) n ≡ amount_after a (m + n)
amount_after-twice None m n = refl
amount_after-twice (Some k) m n = grind (arith, common_steps)

-- an amount in range stays told
pub amount_after-in_range : (n more : ℕ) → n + more < 2 ^ 64 → amount_after (Some n) more ≡ Some (n + more)
amount_after-in_range n more h = grind (arith, common_steps)

-- what was written, with nothing more
pub written-none : (w : Option (List ℕ)) → option_map (λ v. v ++ []) w ≡ w
written-none None = refl
written-none (Some v) = ap Some (append-nil v)

-- what was written, with one piece and then another
pub written-twice : (w : Option (List ℕ)) (a b : List ℕ) → option_map (λ v. v ++ b) (option_map (λ v. v ++ a) w) ≡ option_map (λ v. v ++ (a ++ b)) w
written-twice None a b = refl
written-twice (Some v) a b = ap Some (append_assoc v a b)

-- two lists that are nothing together are nothing each
pub both_nothing : (xs ys : List ℕ) → xs ++ ys ≡ [] → (xs ≡ []) × (ys ≡ [])
both_nothing [] ys e = (refl, e)
both_nothing (x ∷ xs) ys e = cc

-- a fault is seen over a step before it
pub Rose-after : (a b c : ℕ) → a ≤ b → Rose b c → Rose a c
Rose-after a b c h r = omega arith

-- a sink takes nothing by doing nothing
pub TookAll-none : (s : SinkSeen) → TookAll s [] s
TookAll-none s = record {
  took = record { written = sym (written-none s.written); amount = sym (amount_after-zero s.amount); faults = omega arith };
  sound = refl;
}

-- two pieces that were taken are one
pub Took-append : {s t u : SinkSeen} {a b : List ℕ} → Took s a t → Took t b u → Took s (a ++ b) u
Took-append {s} {t} {u} {a} {b} one two = record {
  written = two.written ∙ (ap (option_map (λ v. v ++ b)) one.written ∙ written-twice s.written a b);
  amount = two.amount ∙ (ap (λ n. amount_after n (length b)) one.amount ∙ (amount_after-twice s.amount (length a) (length b) ∙ ap (amount_after s.amount) (sym (length-append a b))));
  faults = omega (arith, one.faults, two.faults);
}

pub TookAll-append : {s t u : SinkSeen} {a b : List ℕ} → TookAll s a t → TookAll t b u → TookAll s (a ++ b) u
TookAll-append one two = record { took = Took-append one.took two.took; sound = two.sound ∙ one.sound }

-- ---- puts

-- no put
pub PutTimes-none : (s : SinkSeen) → PutTimes s 0 s
PutTimes-none s = record { told = sym (amount_after-zero s.puts) }

-- some puts and then some more
pub PutTimes-append : {s t u : SinkSeen} (m n : ℕ) → PutTimes s m t → PutTimes t n u → PutTimes s (m + n) u
PutTimes-append {s} {t} {u} m n one two = record { told = two.told ∙ ap (λ a. amount_after a n) one.told ∙ amount_after-twice s.puts m n }

pub joined-cons : (piece : List ℕ) (pieces : List (List ℕ)) → joined (piece ∷ pieces) ≡ piece ++ joined pieces
joined-cons piece [] = sym (append-nil piece)
joined-cons piece (next ∷ more) = refl

pub joined-append : (ps qs : List (List ℕ)) → joined (ps ++ qs) ≡ joined ps ++ joined qs
joined-append [] qs = refl
joined-append (p ∷ ps) qs =
    joined-cons p (ps ++ qs)
    ∙ ap (λ v. p ++ v) (joined-append ps qs)
    ∙ sym (append_assoc p (joined ps) (joined qs))
    ∙ ap (λ v. v ++ joined qs) (sym (joined-cons p ps))

-- nothing is put
pub PutAll-none : (s : SinkSeen) → PutAll s [] s
PutAll-none s = record { took = TookAll-none s; times = PutTimes-none s }

-- one piece
pub PutAll-one : {s t : SinkSeen} {piece : List ℕ} → TookAll s piece t → PutTimes s 1 t → PutAll s (piece ∷ []) t
PutAll-one took times = record { took = took; times = times }

pub PutSome-one : {s t : SinkSeen} {piece : List ℕ} → TookSome s piece t → PutTimes s 1 t → Rose s.faults t.faults → PutSome s (piece ∷ []) t
PutSome-one took times rose = record {
  front = [];
  part = took.part;
  rest = took.rest;
  unput = [];
  whole = ap (λ v. v ∷ []) took.whole;
  took = took.took;
  times = times;
  rose = rose;
}

-- some pieces and then some more
pub PutAll-append : {s t u : SinkSeen} {ps qs : List (List ℕ)} → PutAll s ps t → PutAll t qs u → PutAll s (ps ++ qs) u
PutAll-append {s} {t} {u} {ps} {qs} one two = record {
  took = subst (λ v. TookAll s v u) (sym (joined-append ps qs)) (TookAll-append one.took two.took);
  times = subst (λ n. PutTimes s n u) (sym (length-append ps qs)) (PutTimes-append (length ps) (length qs) one.times two.times);
}

-- the pieces that come after the one whose put failed are not put
pub PutSome-longer : {s t : SinkSeen} {ps : List (List ℕ)} (qs : List (List ℕ)) → PutSome s ps t → PutSome s (ps ++ qs) t
PutSome-longer {s} {t} {ps} qs some = record {
  front = some.front;
  part = some.part;
  rest = some.rest;
  unput = some.unput ++ qs;
  whole = ap (λ v. v ++ qs) some.whole ∙ append_assoc some.front ((some.part ++ some.rest) ∷ some.unput) qs;
  took = some.took;
  times = some.times;
  rose = some.rose;
}

-- a put fails after all of some pieces
pub PutSome-after : {s t u : SinkSeen} {ps qs : List (List ℕ)} → PutAll s ps t → PutSome t qs u → PutSome s (ps ++ qs) u
PutSome-after {s} {t} {u} {ps} {qs} one some =
    let put : List (List ℕ) = some.front ++ some.part ∷ [] in
    let all : ps ++ put ≡ (ps ++ some.front) ++ some.part ∷ [] = sym (append_assoc ps some.front (some.part ∷ [])) in
    record {
      front = ps ++ some.front;
      part = some.part;
      rest = some.rest;
      unput = some.unput;
      whole = ap (λ v. ps ++ v) some.whole ∙ sym (append_assoc ps some.front ((some.part ++ some.rest) ∷ some.unput));
      took = subst (λ v. Took s v u) (sym (joined-append ps put) ∙ ap joined all) (Took-append one.took.took some.took);
      times = subst (λ n. PutTimes s n u) (sym (length-append ps put) ∙ ap length all) (PutTimes-append (length ps) (length put) one.times some.times);
      rose = Rose-after _ _ _ one.took.took.faults some.rose;
    }

-- ---- bytes by so many puts

pub TookBy-none : (s : SinkSeen) → TookBy s [] 0 s
TookBy-none s = record { took = TookAll-none s; times = PutTimes-none s; silent = λ _. refl }

-- pieces that are something together
pub TookBy-pieces : {s t : SinkSeen} {ps : List (List ℕ)} → joined ps ≢ [] → PutAll s ps t → TookBy s (joined ps) (length ps) t
TookBy-pieces some put = record { took = put.took; times = put.times; silent = λ e. absurd (some e) }

-- some bytes and then some more
pub TookBy-append : {s t u : SinkSeen} {a b : List ℕ} (m n : ℕ) → TookBy s a m t → TookBy t b n u → TookBy s (a ++ b) (m + n) u
TookBy-append {s} {t} {u} {a} {b} m n one two = record {
  took = TookAll-append one.took two.took;
  times = PutTimes-append m n one.times two.times;
  silent = λ e. let none = both_nothing a b e in two.silent none.1 ∙ one.silent none.0;
}

-- a put fails, and nothing was put before its pieces
pub FailedAfter-none : {s t : SinkSeen} {ps : List (List ℕ)} → PutSome s ps t → FailedAfter s [] 0 ps t
FailedAfter-none {s} {t} {ps} some = record {
  front = some.front;
  part = some.part;
  rest = some.rest;
  unput = some.unput;
  whole = some.whole;
  took = some.took;
  times = subst (λ n. PutTimes s n t) (sym (zero-add (length (some.front ++ some.part ∷ [])))) some.times;
  rose = some.rose;
}

-- a put fails after some bytes and then some more
pub FailedAfter-append : {s t u : SinkSeen} {a b : List ℕ} {ps : List (List ℕ)} (m n : ℕ) → TookBy s a m t → FailedAfter t b n ps u → FailedAfter s (a ++ b) (m + n) ps u
FailedAfter-append {s} {t} {u} {a} {b} {ps} m n one two =
    let put : List (List ℕ) = two.front ++ two.part ∷ [] in
    record {
      front = two.front;
      part = two.part;
      rest = two.rest;
      unput = two.unput;
      whole = two.whole;
      took = subst (λ v. Took s v u) (sym (append_assoc a b (joined put))) (Took-append one.took.took two.took);
      times = subst (λ k. PutTimes s k u) (let e : m + (n + length put) ≡ (m + n) + length put = omega arith in e) (PutTimes-append m (n + length put) one.times two.times);
      rose = Rose-after _ _ _ one.took.took.faults two.rose;
    }
