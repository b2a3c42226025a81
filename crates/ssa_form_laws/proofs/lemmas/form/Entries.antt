-- Each live entry of a program is one of its entries with a location.
use Rattle.std.proofs.Common.{◌≡◌, ℕ, suc, ◌+◌, ◌*◌, ◌≤◌, List, [], ◌∷◌, length, map, Option, ap, ◌∙◌, inl, inr, refl, arith}
use Rattle.std.specs.List.{flat_map}
use Rattle.std.proofs.lemmas.Nat.{mul-le}
use Rattle.std.proofs.lemmas.List.{length-append, length-map}
use Rattle.bril_tree.specs.declared.numbered_function.Func.{Func}
use Rattle.bril_tree.specs.declared.program.Prog.{Prog}
use Rattle.bril_tree.specs.Accepted.{IsAcceptedFunction}
use Rattle.bril_tree.specs.FrameWords.{location_count}
use Rattle.bril_tree.specs.Membership.{In}
use Rattle.bril_tree.specs.Operand.{Location}
use Rattle.bril_tree.proofs.Acceptance.{shaped_function}
use Rattle.bril_tree.proofs.Counting.{no_more_items}
use Rattle.bril_tree.proofs.Members.{in_contains, in_flat_map, in_map}
use Rattle.ssa_laws.specs.live_entries.LiveEntries.{IsLiveEntry, IsLiveEntryCount}
use Rattle.pass_budget_laws.proofs.Costing.{greatest-all}
use Rattle.pass_edit_laws.proofs.lemmas.numbers.Locations.{location-listed, locations-counted, locations_of}
use Rattle.pass_edit_laws.proofs.lemmas.plan.Elements.{all_in}
use Rattle.program_numbers.specs.Entries.{IsEntryCount}
use Rattle.program_numbers.specs.ProgramNumbers.{IsSum, most_locations}
use Rattle.ssa_form_laws.proofs.lemmas.laid.Kept.{live-location}
use Rattle.ssa_form_laws.specs.form.Row.{LiveEntriesAreFew}

-- ---- the live entries of a function

abbrev Pair : Type 0
Pair = Option ℕ × ℕ

abbrev Entry : Type 0
Entry = Option ℕ × ℕ × Location

abbrev entry-of : Pair → Location → Entry
entry-of pair a = (pair.0, pair.1, a)

product-long : (locations : List Location) (pairs : List Pair) → length (flat_map (λ pair. map (entry-of pair) locations) pairs) ≡ length pairs * length locations
product-long locations [] = omega arith
product-long locations (pair ∷ pairs) =
    let both = length-append (map (entry-of pair) locations) (flat_map (λ pair. map (entry-of pair) locations) pairs) in
    let one = length-map locations (entry-of pair) in
    let rest = product-long locations pairs in
    let more : suc (length pairs) * length locations ≡ length locations + length pairs * length locations = omega arith in
    omega (arith, both, one, rest, more)

module _ (p : Prog) (F : Func) (facts : IsAcceptedFunction p F) where
  live-few : (live entries : ℕ) → IsLiveEntryCount F.code live → IsEntryCount F.code entries → live ≤ entries * location_count F
  live-few live entries a b =
      let few = no_more_items a.members (flat_map (λ pair. map (entry-of pair) (locations_of F)) b.members) a.differ
      (λ e i.
      let x = all_in (IsLiveEntry F.code) a.members a.are e i in
      let pair : Pair = (e.0, e.1) in
      in_flat_map (λ pair. map (entry-of pair) (locations_of F)) pair e b.members (in_contains pair b.members (b.all pair x.enters))
      (in_map (entry-of pair) e.2 (locations_of F) (location-listed F e.2 (live-location F (shaped_function p F facts) facts.sites e.2 x.point x.live)))) in
      let long = product-long (locations_of F) b.members in
      let size = locations-counted F in
      let product : length b.members * length (locations_of F) ≡ entries * location_count F = ap (λ n. n * length (locations_of F)) b.count ∙ ap (λ n. entries * n) size in
      let count = a.count in
      omega (arith, few, long, product, count)

-- ---- programs

sum-few : (most : ℕ) (funcs : List Func) → ((F : Func) → In F funcs → (live entries : ℕ) → IsLiveEntryCount F.code live → IsEntryCount F.code entries → live ≤ entries * most) → (live entries : ℕ) → IsSum (λ f n. IsLiveEntryCount f.code n) funcs live → IsSum (λ f n. IsEntryCount f.code n) funcs entries → live ≤ entries * most
sum-few most [] each live entries a b = omega (arith, a)
sum-few most (F ∷ funcs) each live entries a b =
    let one = each F (inl refl) a.0 b.0 a.2 b.2 in
    let rest = sum-few most funcs (λ G i. each G (inr i)) a.1 b.1 a.3 b.3 in
    let both : (b.0 + b.1) * most ≡ b.0 * most + b.1 * most = omega arith in
    let sum : entries * most ≡ (b.0 + b.1) * most = ap (λ n. n * most) b.4 in
    let is = a.4 in
    omega (arith, one, rest, both, sum, is)

pub live-entries-few : LiveEntriesAreFew
live-entries-few p live entries accepted a b = sum-few (most_locations p) p.funcs
    (λ F i live entries x y.
    let few = live-few p F (all_in (IsAcceptedFunction p) p.funcs accepted.functions F i) live entries x y in
    let most = mul-le entries (location_count F) entries (most_locations p) (omega arith) (greatest-all location_count p.funcs F i) in
    omega (arith, few, most))
    live entries a b
