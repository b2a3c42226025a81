-- Numbers of arguments.
use Rattle.std.proofs.Common.{◌≡◌, ℕ, ◌*◌, ◌<◌, true, map, get_or, sym, ◌∙◌, subst, arith}
use Rattle.std.specs.List.{Contains, range_with_len}
use Rattle.std.proofs.lemmas.List.FromFn.{length-map-range_with_len, get_or-map-range_with_len}
use Rattle.std.proofs.lemmas.Bool.Decides.{nat_tests}
use Rattle.bril_tree.specs.Operand.{Location, Variable, Shadow}
use Rattle.flow_graph.specs.Location.{number_of}
use Rattle.definite_assignment.specs.Reads.{is_argument}

-- the arguments, as locations
pub argument-there : (args : ℕ) (location : Location) → is_argument args (number_of location) ≡ true → Contains (map Variable (range_with_len 0 args)) location
argument-there args (Variable x) h =
    let low : x < args = grind (arith, nat_tests) in
    let at : get_or (map Variable (range_with_len 0 args)) x (Variable x) ≡ Variable x = get_or-map-range_with_len Variable 0 args x x (Variable x) low (omega arith) in
    (x, rw length-map-range_with_len low, at)
argument-there args (Shadow x) h = absurd (grind (arith, nat_tests))

pub argument-is : (args : ℕ) (location : Location) → Contains (map Variable (range_with_len 0 args)) location → is_argument args (number_of location) ≡ true
argument-is args location h =
    let low : h.0 < args = rw length-map-range_with_len at h.1 in
    let at : get_or (map Variable (range_with_len 0 args)) h.0 location ≡ Variable h.0 = get_or-map-range_with_len Variable 0 args h.0 h.0 location low (omega arith) in
    subst (λ p. is_argument args (number_of p) ≡ true) (sym at ∙ h.2) (argument_below args h.0 low)
  where
    argument_below : (args x : ℕ) → x < args → is_argument args (2 * x) ≡ true
    argument_below args x low = grind (arith, nat_tests)
