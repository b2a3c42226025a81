-- The largest frame of a program, function by function.
use Rattle.std.proofs.Common.{◌≡◌, ℕ, ◌+◌, ◌<◌, ◌≤◌, ◌⊎◌, inl, inr, ⊎_elim, max, List, length, Option, Some, None, sym, ap, ◌∙◌, subst, arith}
use Rattle.std.specs.Prelude.{slice_get, IfSome, option_map}
use Rattle.std.specs.List.{Contains}
use Rattle.std.proofs.lemmas.Option.{slice_get_within, slice_get_past, same_Some}
use Rattle.bril_tree.specs.declared.numbered_function.Func.{Func}
use Rattle.bril_tree.specs.declared.program.Prog.{Prog}
use Rattle.bril_tree.specs.FrameWords.{AreFrameWords}
use Rattle.program_numbers.specs.ProgramNumbers.{IsLargestFrame}
use Rattle.bril_tree.proofs.Elements.{get_in, get_inside, in_get}
use Rattle.bril_tree.proofs.Measures.{AreFrameWords-one}
use Rattle.bril_tree.proofs.Members.{contains_in, in_contains}
use Rattle.rv64_emit_laws.proofs.lemmas.layout.Joining.{below_or}

-- so many words are those of the largest frame of the first functions; 0 where there is none
pub record IsLargestOf (funcs : List Func) (count words : ℕ) : Type 0 where
  pub most : (k : ℕ) (f : Func) (n : ℕ) → k < count → slice_get funcs k ≡ Some f → AreFrameWords f n → n ≤ words
  pub reached : ((count ≡ 0) × (words ≡ 0)) ⊎ ((k : ℕ) × (f : Func) × (slice_get funcs k ≡ Some f) × AreFrameWords f words)

-- one function more
pub largest_next : (funcs : List Func) (count most words next : ℕ) → IsLargestOf funcs count most → count < length funcs → IfSome (slice_get funcs count) (λ f. AreFrameWords f words) → next ≡ max most words →
    IsLargestOf funcs (count + 1) next
largest_next funcs count most words next so_far less are is = record {
  most = λ k f n before at n_are. ⊎_elim (λ (earlier : k < count). (let small = so_far.most k f n earlier at n_are in omega arith)) (λ (late : count ≤ k). last k f n (omega arith) at n_are) (below_or k count);
  reached = ⊎_elim (λ (more : most < words). inr (by_new (omega arith))) (λ (le : words ≤ most). by_old le so_far.reached) (below_or most words);
}
  where
    here : (f : Func) × (slice_get funcs count ≡ Some f)
    here = get_inside funcs count less

    its_words : AreFrameWords here.0 words
    its_words = subst (λ o. IfSome o (λ f. AreFrameWords f words)) here.1 are

    last : (k : ℕ) (f : Func) (n : ℕ) → k ≡ count → slice_get funcs k ≡ Some f → AreFrameWords f n → n ≤ next
    last k f n same at n_are =
        let function : f ≡ here.0 = same_Some f here.0 (sym (ap (slice_get funcs) (sym same) ∙ at) ∙ here.1) in
        let one : n ≡ words = AreFrameWords-one here.0 n words (subst (λ h. AreFrameWords h n) function n_are) its_words in
        omega arith

    by_new : words ≡ next → (k : ℕ) × (f : Func) × (slice_get funcs k ≡ Some f) × AreFrameWords f next
    by_new same = (count, here.0, here.1, subst (AreFrameWords here.0) same its_words)

    by_old : words ≤ most → ((count ≡ 0) × (most ≡ 0)) ⊎ ((k : ℕ) × (f : Func) × (slice_get funcs k ≡ Some f) × AreFrameWords f most) →
        ((count + 1 ≡ 0) × (next ≡ 0)) ⊎ ((k : ℕ) × (f : Func) × (slice_get funcs k ≡ Some f) × AreFrameWords f next)
    by_old le (inl none) = let zero_words = none.1 in inr (by_new (omega arith))
    by_old le (inr w) = let same : most ≡ next = omega arith in inr (w.0, w.1, w.2, subst (AreFrameWords w.1) same w.3)

-- all functions
pub largest_all : (p : Prog) (count most : ℕ) → IsLargestOf p.funcs count most → length p.funcs ≤ count → IsLargestFrame p most
largest_all p count most so_far all = by so_far.reached
  where
    none_named : {X Y : Type 0} (f : X → Y) (o : Option X) (y : Y) → o ≡ None → option_map f o ≡ Some y → ⊥
    none_named f None y is named = cc
    none_named f (Some x) y is named = cc

    most_of : (other : Func) (n : ℕ) → Contains p.funcs other → AreFrameWords other n → n ≤ most
    most_of other n contains are =
        let w = in_get other p.funcs (in_contains other p.funcs contains) in
        so_far.most w.0 other n (let inside = slice_get_within p.funcs w.0 other w.1 in omega arith) w.1 are

    by : ((count ≡ 0) × (most ≡ 0)) ⊎ ((k : ℕ) × (f : Func) × (slice_get p.funcs k ≡ Some f) × AreFrameWords f most) → IsLargestFrame p most
    by (inl none) = let zero_count = none.0 in absurd (none_named (λ f. f.name) (slice_get p.funcs p.main) _ (slice_get_past p.funcs p.main (omega arith)) p.formed.main_is)
    by (inr w) = record { func = w.1; is = contains_in w.1 p.funcs (get_in p.funcs w.0 w.1 w.2); has = w.3; most = most_of }
