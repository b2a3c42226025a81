-- Locations as they are kept, and the locations of the semantics.
use Rattle.std.proofs.Common.{◌≡◌, ℕ, zero, suc, ◌+◌, ◌-◌, ◌<◌, ◌≤◌, true, false, eqb, List, [], ◌∷◌, ◌++◌, length, map, replicate, Option, Some, None, refl, sym, ap, ◌∙◌, arith}
use Rattle.std.proofs.lemmas.Bool.{eq-eqb, ne_eqb, cond-true, cond-false}
use Rattle.std.proofs.lemmas.List.{length-map, length-append, length-replicate}
use Rattle.bril_tree.specs.declared.limits.Limits.{Limits}
use Rattle.bril_tree.specs.declared.program.Prog.{Prog}
use Rattle.bril_tree.specs.declared.value.Value.{Value}
use Rattle.bril_tree.specs.State.{Values, no_values, with_value}
use Rattle.bril_tree.specs.Step.{assigned, arguments_from, new_frame, code_of}
use Rattle.bril_heap.specs.Heap.{entries_of}
use Rattle.bril_heap.proofs.Entries.{entries-set}
use Rattle.bril_interpreter.specs.Frames.{LocalsView, locations_of, frame_of, with_dest, HasLocation, IsFrame, variable_count, shade_count}

-- ---- a value for a destination or a shadow

pub with_dest-locations : (dest : Option ℕ) (v : Value) (locations : LocalsView) → HasLocation dest (length locations.vars) → locations_of (with_dest dest v locations) ≡ assigned dest v (locations_of locations)
with_dest-locations None v locations h = refl
with_dest-locations (Some x) v locations h = ap (λ (values : Values). record (locations_of locations) { vars = values }) (entries-set locations.vars x v h)

pub HasLocation-more : (dest : Option ℕ) (n m : ℕ) → n ≤ m → HasLocation dest n → HasLocation dest m
HasLocation-more None n m l h = tt
HasLocation-more (Some x) n m l h = omega arith

-- ---- a new frame

none_held : (n : ℕ) (y : ℕ) → entries_of (replicate n None) y ≡ None
none_held zero y = refl
none_held (suc n) zero = refl
none_held (suc n) (suc y) = none_held n y

pub no_entries : (n : ℕ) → entries_of (replicate n None) ≡ no_values
no_entries n = λ i y. none_held n y i

-- an argument doesn't change what stands before it
before : (p : Prog) (limits : Limits) (vs : List Value) (x y : ℕ) (values : Values) → y < x → arguments_from x vs values y ≡ values y
before p limits [] x y values h = refl
before p limits (v ∷ vs) x y values h =
    let other : eqb y x ≡ false = ne_eqb y x (λ e. omega arith) in
    before p limits vs (suc x) y (with_value values x v) (omega arith) ∙ cond-false (eqb y x) (Some v) (values y) other

-- what the arguments and empty entries behind them hold
argument_held : (p : Prog) (limits : Limits) (vs : List Value) (n x y : ℕ) (values : Values) → ((z : ℕ) → x ≤ z → values z ≡ None) → arguments_from x vs values (x + y) ≡ entries_of (map Some vs ++ replicate n None) y
argument_held p limits [] n x y values none = none (x + y) (omega arith) ∙ sym (none_held n y)
argument_held p limits (v ∷ vs) n x zero values none =
    let here : eqb (x + 0) x ≡ true = eq-eqb (x + 0) x (omega arith) in
    before p limits vs (suc x) (x + 0) (with_value values x v) (omega arith) ∙ cond-true (eqb (x + 0) x) (Some v) (values (x + 0)) here
argument_held p limits (v ∷ vs) n x (suc y) values none =
    let moved : x + suc y ≡ suc x + y = omega arith in
    ap (arguments_from (suc x) vs (with_value values x v)) moved
    ∙ argument_held p limits vs n (suc x) y (with_value values x v) (λ z h. cond-false (eqb z x) (Some v) (values z) (ne_eqb z x (λ e. omega arith)) ∙ none z (omega arith))

pub arguments_held : (p : Prog) (limits : Limits) (vs : List Value) (n : ℕ) → entries_of (map Some vs ++ replicate n None) ≡ arguments_from 0 vs no_values
arguments_held p limits vs n =
    let at : (y : ℕ) → entries_of (map Some vs ++ replicate n None) y ≡ arguments_from 0 vs no_values y =
    λ y. sym (argument_held p limits vs n 0 y no_values (λ z h. refl)) ∙ ap (arguments_from 0 vs no_values) (omega arith) in
    λ i y. at y i

-- the frame of a call, or the first of all
pub new_frame-held : (p : Prog) (limits : Limits) (function : ℕ) (vs : List Value) (n shades : ℕ) (locations : LocalsView) → locations.vars ≡ map Some vs ++ replicate (n - length vs) None → locations.shadows ≡ replicate shades None
    → frame_of (record { function = function; point = 0; locations = locations; saves = [] }) ≡ new_frame function vs
new_frame-held p limits function vs n shades locations vars shadows =
    let held : entries_of locations.vars ≡ arguments_from 0 vs no_values = ap entries_of vars ∙ arguments_held p limits vs (n - length vs) in
    let none : entries_of locations.shadows ≡ no_values = ap entries_of shadows ∙ no_entries shades in
    λ i. record { function = function; point = 0; locations = record { vars = held i; shadows = none i }; saves = [] }

pub new_frame-kept : (p : Prog) (function : ℕ) (vs : List Value) (shades : ℕ) (locations : LocalsView) → locations.vars ≡ map Some vs ++ replicate (variable_count p function - length vs) None → locations.shadows ≡ replicate shades None → shade_count p function ≤ shades
    → length (code_of p function) < 4294967295 → IsFrame p (record { function = function; point = 0; locations = locations; saves = [] })
new_frame-kept p function vs shades locations vars shadows enough few =
    let n : ℕ = variable_count p function in
    let none : Option Value = None in
    let count : length locations.vars ≡ length vs + (n - length vs) = ap length vars ∙ length-append (map Some vs) (replicate (n - length vs) none) ∙ (let a = length-map vs (λ (v : Value). Some v) in let b = length-replicate (n - length vs) none in omega arith) in
    let more : length locations.shadows ≡ shades = ap length shadows ∙ length-replicate shades none in
    record {
      locations = record { vars = omega arith; shadows = omega arith };
      saves = tt;
      few_items = few;
      point = omega arith;
    }
