-- What a writer got.
use Rattle.std.proofs.Common.{◌≡◌, ℕ, List, Option, length, take, drop, sym, subst, take-append-drop, Result, Ok, Err, OnOk, arith}
use Rattle.std.proofs.lemmas.List.{take_all}
use Rattle.std.specs.Io.KnownBytes.{Appends}
use Rattle.bril_outside.specs.Adapter.{Writes}

-- the first of the bytes, so many: all of them where that was no error
pub Writes-some : {A E : Type 0} (a b : Option (List ℕ)) (n : ℕ) (bytes : List ℕ) (r : Result A E) → OnOk r (n ≡ length bytes) → Appends a b (take n bytes) → Writes a b bytes r
Writes-some a b n bytes (Ok done) all grew = subst (Appends a b) (take_all n bytes (omega (arith, all))) grew
Writes-some a b n bytes (Err fault) all grew = record { part = take n bytes; rest = drop n bytes; whole = sym (take-append-drop n bytes); grew = grew }
