-- The live entries of functions, one after another.
use Rattle.std.proofs.Common.{◌≡◌, ℕ, ◌+◌, ◌*◌, ◌<◌, List, [], ◌∷◌, ◌++◌, length, take, get_or, refl, sym, ap, subst, ◌∙◌, arith}
use Rattle.std.specs.Prelude.{min}
use Rattle.std.proofs.lemmas.List.{take_more}
use Rattle.bril_tree.specs.declared.numbered_function.Func.{Func}
use Rattle.bril_tree.specs.declared.program.Prog.{Prog}
use Rattle.bril_tree.specs.Size.{IsCounted, item_count}
use Rattle.bril_tree.proofs.Sizes.{counted-size}
use Rattle.ssa_laws.specs.live_entries.LiveEntries.{IsLiveEntryCount, TellsLiveEntries}
use Rattle.pass_make.specs.Edited.{TellsBound}
use Rattle.program_numbers.specs.ProgramNumbers.{IsSum}
use Rattle.ssa_form_laws.specs.form.Numbers.{IsSsaBound}
use Rattle.braun_ssa.specs.Bound.{TellsEntries}

sum-push : (R : Func → ℕ → Type 0) (xs : List Func) (F : Func) (n m : ℕ) → IsSum R xs n → R F m → IsSum R (xs ++ F ∷ []) (n + m)
sum-push R [] F n m s r = let e : n + m ≡ m + 0 = omega (arith, s) in (m, 0, r, refl, e)
sum-push R (x ∷ xs) F n m s r = let e : n + m ≡ s.0 + (s.1 + m) = omega (arith, s.4) in (s.0, s.1 + m, s.2, sum-push R xs F s.1 m s.3 r, e)

-- one function more
pub more-told : (xs : List Func) (F : Func) (count more new : ℕ) → TellsEntries xs count → TellsLiveEntries F.code more → new ≡ min (count + more) 18446744073709551615 → TellsEntries (xs ++ F ∷ []) new
more-told xs F count more new t l e = record {
  count = t.count + l.count;
  are = sum-push (λ f n. IsLiveEntryCount f.code n) xs F t.count l.count t.are l.is;
  tells = let a = t.tells in let b = l.tells in omega arith;
}

-- the bound by all of them
pub bound-told : (P : Prog) (entries size told : ℕ) → IsCounted P → TellsEntries P.funcs entries → size ≡ item_count P → told ≡ min (size + 2 * entries) 18446744073709551615 → TellsBound (IsSsaBound P) told
bound-told P entries size told c t s e = record {
  bound = item_count P + 2 * t.count;
  is = record { entries = t.count; are = t.are; is = refl };
  tells = let a = t.tells in let h = counted-size P c in omega arith;
}

-- the same in a loop over the functions of a program
pub more-counted : (P : Prog) (funcs : List Func) → funcs ≡ P.funcs → (at : ℕ) (F : Func) → at < length funcs → F ≡ get_or funcs at F → (count more new : ℕ) → TellsEntries (take at P.funcs) count → TellsLiveEntries F.code more → new ≡ min (count + more) 18446744073709551615 → TellsEntries (take (at + 1) P.funcs) new
more-counted P funcs all at F within is count more new t l e =
    let low : at < length P.funcs = subst (λ (fs : List Func). at < length fs) all within in
    let here : F ≡ get_or P.funcs at F = subst (λ (fs : List Func). F ≡ get_or fs at F) all is in
    let step : take (at + 1) P.funcs ≡ take at P.funcs ++ F ∷ [] = take_more P.funcs at F low ∙ ap (λ (f : Func). take at P.funcs ++ f ∷ []) (sym here) in
    subst (λ (fs : List Func). TellsEntries fs new) (sym step) (more-told (take at P.funcs) F count more new t l e)
