-- The names of traces don't begin with `_`, and each is one trace's.
use Rattle.std.proofs.Common.{◌≡◌, ℕ, ◌≤◌, List, [], ◌∷◌, ◌++◌, length, ap, arith}
use Rattle.std.specs.Prelude.{codes, slice_index}
use Rattle.std.specs.Fmt.{decimal}
use Rattle.std.proofs.lemmas.Fmt.{decimal_injective}
use Rattle.std.proofs.lemmas.List.{append_cancel_right, length-append}
use Rattle.trace_laws.specs.lines.Names.{AreBases, trace_name, trace_bases}

named-trace : (K L : ℕ) → K ≤ 64 → L ≤ 64 → codes "trace" ++ decimal K ≡ codes "trace" ++ decimal L → K ≡ L
named-trace K L k l e = decimal_injective K L (omega arith) (omega arith) (let h : decimal K ≡ decimal L = cc in h)

ends-differ : (xs ys : List ℕ) → xs ++ codes ".bail" ≡ ys ++ codes ".stop" → ⊥
ends-differ [] [] e = let h : 98 ≡ 115 = ap (λ l. slice_index l 1) e in omega (arith, h)
ends-differ [] (y ∷ ys) e = let n = ap length e in let m = length-append ys (codes ".stop") in omega arith
ends-differ (x ∷ xs) [] e = let n = ap length e in let m = length-append xs (codes ".bail") in omega arith
ends-differ (x ∷ xs) (y ∷ ys) e = let h : xs ++ codes ".bail" ≡ ys ++ codes ".stop" = cc in ends-differ xs ys h

pub trace_names : AreBases trace_bases
trace_names = record {
  bail_plain = λ K e. omega (arith, e);
  stop_plain = λ K e. omega (arith, e);
  bail_once = λ K L k l e. named-trace K L k l (append_cancel_right (trace_name K) (trace_name L) (codes ".bail") e);
  stop_once = λ K L k l e. named-trace K L k l (append_cancel_right (trace_name K) (trace_name L) (codes ".stop") e);
  differ = λ K L e. ends-differ (trace_name K) (trace_name L) e;
}
