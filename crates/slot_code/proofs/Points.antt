-- What is told of the open sites at each point, one by one.
use Rattle.std.proofs.Common.{◌≡◌, ℕ, ◌+◌, ◌<◌, List, [], ◌∷◌, ◌++◌, length, map, take, slice_get, get_or, Option, Some, None, sym, ap, ◌∙◌}
use Rattle.std.specs.Prelude.{option_map}
use Rattle.std.proofs.lemmas.List.{take_more, map-append}
use Rattle.std.proofs.lemmas.Option.{slice_get-get_or, same_Some}

pub next_told : (tell : Option (List ℕ) → ℕ) (sites : List (Option (List ℕ))) (i told : ℕ) (all more : List ℕ) → i < length sites → Some told ≡ option_map tell (slice_get sites i) → more ≡ all ++ told ∷ [] →
    all ≡ map tell (take i sites) → more ≡ map tell (take (i + 1) sites)
next_told tell sites i told all more inside tells pushed so_far =
    let here = get_or sites i None in
    let is : told ≡ tell here = same_Some told (tell here) (tells ∙ ap (option_map tell) (slice_get-get_or sites i None inside)) in
    let front : map tell (take (i + 1) sites) ≡ map tell (take i sites) ++ tell here ∷ [] =
    ap (map tell) (take_more sites i None inside) ∙ map-append tell (take i sites) (here ∷ []) in
    pushed ∙ ap (λ ds. ds ++ told ∷ []) so_far ∙ ap (λ n. map tell (take i sites) ++ n ∷ []) is ∙ sym front
