-- A list of marks, one for each number below a bound.
use Rattle.std.proofs.Common.{◌≡◌, ℕ, ◌<◌, Bool, false, List, [], ◌∷◌, length, map, get_or, refl, ap, ◌∙◌, arith}
use Rattle.std.specs.List.{count_by, range_with_len}
use Rattle.std.proofs.lemmas.Grind.{common_steps}
use Rattle.std.proofs.lemmas.List.FromFn.{fill_by_all}

count_mapped : (g : ℕ → Bool) (xs : List ℕ) → count_by (λ mark. mark) (map g xs) ≡ count_by g xs
count_mapped g [] = refl
count_mapped g (x ∷ xs) = let more = count_mapped g xs in grind (arith, common_steps)

-- the marks that are set are those of the numbers that pass
pub marks_counted : (g : ℕ → Bool) (marks : List Bool) (n : ℕ) → length marks ≡ n → ((k : ℕ) → k < n → get_or marks k false ≡ g k) → count_by (λ mark. mark) marks ≡ count_by g (range_with_len 0 n)
marks_counted g marks n many set =
    ap (count_by (λ mark. mark)) (fill_by_all g marks n false many set) ∙ count_mapped g (range_with_len 0 n)
