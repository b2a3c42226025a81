-- Words at the end of an image.
use Rattle.std.proofs.Common.{◌≡◌, ℕ, List, ◌++◌, map, sym, ap, ◌∙◌, append_assoc}
use Rattle.std.proofs.lemmas.List.{map-append}
use Rattle.rv64_words.specs.declared.word.Word.{Word}
use Rattle.rv64_words.specs.Encoding.{encoded}

-- one list of words after another
pub put_then : (first second third : List ℕ) (xs ys : List Word) → second ≡ first ++ map encoded xs → third ≡ second ++ map encoded ys → third ≡ first ++ map encoded (xs ++ ys)
put_then first second third xs ys one two =
    two ∙ ap (λ code. code ++ map encoded ys) one ∙ append_assoc first (map encoded xs) (map encoded ys) ∙ ap (λ bits. first ++ bits) (sym (map-append encoded xs ys))
