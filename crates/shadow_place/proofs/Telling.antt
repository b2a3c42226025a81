-- What is live in the functions of a program, one by one.
use Rattle.std.proofs.Common.{◌≡◌, ℕ, ◌+◌, ◌<◌, List, [], ◌∷◌, ◌++◌, length, take, sym, ap, ◌∙◌, subst}
use Rattle.std.specs.List.{AllZip}
use Rattle.std.proofs.lemmas.List.{take_more}
use Rattle.std.proofs.lemmas.Option.{get_or_from_slice_get}
use Rattle.bril_tree.specs.declared.program.Prog.{Prog}
use Rattle.bril_tree.specs.Step.{code_of, items_of}
use Rattle.bril_tree.proofs.Elements.{get_inside}
use Rattle.live_sets.specs.declared.live.Live.{Live}
use Rattle.live_sets.specs.Liveness.{TellsLive}
use Rattle.shadow_place.specs.Placement.{TellsLiveIn}

push_zip : {A B : Type 0} (R : A → B → Type 0) (xs : List A) (ys : List B) (x : A) (y : B) → AllZip R xs ys → R x y → AllZip R (xs ++ x ∷ []) (ys ++ y ∷ [])
push_zip R [] [] x y all is = (is, tt)
push_zip R [] (h ∷ ys) x y all is = absurd all
push_zip R (e ∷ xs) [] x y all is = absurd all
push_zip R (e ∷ xs) (h ∷ ys) x y all is = (all.0, push_zip R xs ys x y all.1 is)

-- one function more
pub more_lives : (p : Prog) (k : ℕ) (lives more : List Live) (live : Live) → k < length p.funcs → AllZip TellsLiveIn (take k p.funcs) lives → TellsLive (code_of p k) live → more ≡ lives ++ live ∷ [] → AllZip TellsLiveIn (take (k + 1) p.funcs) more
more_lives p k lives more live less all tells pushed =
    let f = get_inside p.funcs k less in
    let front : take (k + 1) p.funcs ≡ take k p.funcs ++ f.0 ∷ [] = take_more p.funcs k f.0 less ∙ ap (λ g. take k p.funcs ++ g ∷ []) (get_or_from_slice_get p.funcs k f.0 f.0 f.1) in
    let told : TellsLiveIn f.0 live = subst (λ code. TellsLive code live) (ap items_of f.1) tells in
    subst (λ fs. AllZip TellsLiveIn fs more) (sym front) (subst (AllZip TellsLiveIn (take k p.funcs ++ f.0 ∷ [])) (sym pushed) (push_zip TellsLiveIn (take k p.funcs) lives f.0 live all told))
