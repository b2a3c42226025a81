-- The words of the frames, one number for each function.
use Rattle.std.proofs.Common.{◌≡◌, ℕ, zero, suc, ◌+◌, ◌<◌, List, [], ◌∷◌, ◌++◌, length, take, slice_get, get_or, refl, sym, ap, ◌∙◌, arith}
use Rattle.std.specs.List.{AllZip}
use Rattle.std.specs.Option.{IfSome}
use Rattle.std.proofs.lemmas.List.{take_more}
use Rattle.bril_tree.specs.FrameWords.{AreFrameWords}
use Rattle.bril_tree.specs.declared.numbered_function.Func.{Func}

pub length_words : (fs : List Func) (ws : List ℕ) → AllZip AreFrameWords fs ws → length fs ≡ length ws
length_words [] [] all = refl
length_words [] (w ∷ ws) all = absurd all
length_words (f ∷ fs) [] all = absurd all
length_words (f ∷ fs) (w ∷ ws) all = ap (λ n. suc n) (length_words fs ws all.1)

-- each function's number is that of its frame's words
pub words_at : (fs : List Func) (ws : List ℕ) (i : ℕ) → AllZip AreFrameWords fs ws → IfSome (slice_get fs i) (λ f. AreFrameWords f (get_or ws i 0))
words_at [] [] i all = tt
words_at [] (w ∷ ws) i all = absurd all
words_at (f ∷ fs) [] i all = absurd all
words_at (f ∷ fs) (w ∷ ws) zero all = all.0
words_at (f ∷ fs) (w ∷ ws) (suc i) all = words_at fs ws i all.1

push_words : (fs : List Func) (ws : List ℕ) (f : Func) (w : ℕ) → AllZip AreFrameWords fs ws → AreFrameWords f w → AllZip AreFrameWords (fs ++ f ∷ []) (ws ++ w ∷ [])
push_words [] [] f w all has = (has, tt)
push_words [] (v ∷ ws) f w all has = absurd all
push_words (g ∷ fs) [] f w all has = absurd all
push_words (g ∷ fs) (v ∷ ws) f w all has = (all.0, push_words fs ws f w all.1 has)

-- the words of one more function
pub more_words : (fs gs : List Func) → gs ≡ fs → (i : ℕ) (f : Func) (ws vs : List ℕ) (w : ℕ) → i < length gs → f ≡ get_or gs i f → vs ≡ ws ++ w ∷ [] →
    AllZip AreFrameWords (take i fs) ws → AreFrameWords f w → AllZip AreFrameWords (take (i + 1) fs) vs
more_words fs gs same i f ws vs w inside here pushed all has =
    let lt : i < length fs = omega (arith, ap length same) in
    let is : f ≡ get_or fs i f = here ∙ ap (λ l. get_or l i f) same in
    let front : take (i + 1) fs ≡ take i fs ++ f ∷ [] = take_more fs i f lt ∙ ap (λ g. take i fs ++ g ∷ []) (sym is) in
    rw (front, pushed) (push_words (take i fs) ws f w all has)
