-- The kept items of a pair stay what they are, as more items are kept.
use Rattle.std.proofs.Common.{◌≡◌, ℕ, ◌+◌, ◌<◌, ◌≤◌, List, [], ◌∷◌, ◌++◌, length, map, take, drop, get_or, Some, subst, refl, sym, ap, ◌∙◌, arith, length-drop}
use Rattle.std.specs.List.{All}
use Rattle.std.proofs.lemmas.List.{drop-append-le, drop-take, length-map, take-append-le}
use Rattle.std.proofs.lemmas.List.Elements.{All-head, All-tail}
use Rattle.std.specs.Option.{option_map}
use Rattle.std.specs.Prelude.{slice_get, slice_range}
use Rattle.std.proofs.lemmas.Option.{slice_get-map, slice_get_read}
use Rattle.std.proofs.lemmas.Slice.{between_is}
use Rattle.side_pairs.specs.declared.draft.Found.{Found}
use Rattle.side_pairs.specs.Draft.{found_pair}

-- the pair's items are among so many
abbrev pub IsAmong : ℕ → Found → Type 0
IsAmong many f = f.first + f.count ≤ many

kept-same : (kept more : List ℕ) (first count : ℕ) → first + count ≤ length kept → take count (drop first (kept ++ more)) ≡ take count (drop first kept)
kept-same kept more first count low =
    let long = length-drop first kept in
    ap (take count) (drop-append-le first kept more (omega (arith, low))) ∙ take-append-le count (drop first kept) more (omega (arith, low, long))

pub pairs-same : (kept more : List ℕ) (found : List Found) → All (λ f. f.first + f.count ≤ length kept) found → map (found_pair (kept ++ more)) found ≡ map (found_pair kept) found
pairs-same kept more [] all = refl
pairs-same kept more (f ∷ found) all =
    let first : found_pair (kept ++ more) f ≡ found_pair kept f = ap (λ ks. record { guard = f.guard; bail = f.bail; kept = ks; other = f.other }) (kept-same kept more f.first f.count (All-head (IsAmong (length kept)) f found all)) in
    let rest = pairs-same kept more found (All-tail (IsAmong (length kept)) f found all) in
    λ i. first i ∷ rest i

-- a pair as it is read
pub paired-is : (kept : List ℕ) (found : List Found) (place : ℕ) (f : Found) → place < length (map (found_pair kept) found) → f ≡ get_or found place f → Some (found_pair kept f) ≡ slice_get (map (found_pair kept) found) place
paired-is kept found place f less read =
    let inside : place < length found = subst (λ n. place < n) (length-map found (found_pair kept)) less in
    sym (slice_get-map (found_pair kept) found place ∙ ap (option_map (found_pair kept)) (slice_get_read found (length found) place f refl inside read))

pub part-is : (kept : List ℕ) (first count : ℕ) → slice_range kept first (first + count) ≡ take count (drop first kept)
part-is kept first count = between_is kept first (first + count) ∙ drop-take first count kept
