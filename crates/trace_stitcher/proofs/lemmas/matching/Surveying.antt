-- One survey more.
use Rattle.std.proofs.Common.{◌≡◌, ℕ, ◌<◌, List, [], ◌∷◌, ◌++◌, length, get_or, Some, None, refl, sym, ap, subst, ◌∙◌}
use Rattle.std.specs.Prelude.{is_some, slice_get}
use Rattle.std.specs.List.{All}
use Rattle.std.proofs.lemmas.List.{length-map}
use Rattle.std.proofs.lemmas.Option.{same_Some, slice_get-get_or}
use Rattle.bril_names.specs.Numbering.{Finds}
use Rattle.bril_tree.specs.declared.numbered_function.Func.{Func}
use Rattle.bril_tree.specs.declared.program.Prog.{Prog}
use Rattle.bril_tree.specs.Accepted.{IsAccepted}
use Rattle.bril_tree.specs.Numbered.{names_of_functions}
use Rattle.bril_tree.specs.Shape.{shape_fault_of}
use Rattle.bril_tree.proofs.Elements.{All-at}
use Rattle.bril_tree.proofs.Acceptance.{accepted_function, shaped_function}
use Rattle.trace_stitcher.specs.declared.matching.surveys.Survey.{Survey}
use Rattle.trace_stitcher.specs.matching.Surveys.{IsSurvey, IsSurveyOf}

-- the function of a number, as it is read
pub read-there : (P : Prog) (funcs : List Func) (k : ℕ) (F : Func) → funcs ≡ P.funcs → k < length P.funcs → F ≡ get_or funcs k F → slice_get P.funcs k ≡ Some F
read-there P funcs k F all within is = slice_get-get_or P.funcs k F within ∙ ap Some (sym (is ∙ ap (λ (fs : List Func). get_or fs k F) all))

pub shaped-there : (P : Prog) (k : ℕ) (F : Func) → IsAccepted P → slice_get P.funcs k ≡ Some F → shape_fault_of (is_some F.ret) F.code ≡ None
shaped-there P k F accepted there = shaped_function P F (accepted_function P k F accepted there)

pub survey-there : (P : Prog) (k : ℕ) (F : Func) (s : Survey) → slice_get P.funcs k ≡ Some F → s.function ≡ k → IsSurveyOf F s → IsSurvey P s
survey-there P k F s there number is G at = subst (λ (H : Func). IsSurveyOf H s) (same_Some F G (sym there ∙ ap (slice_get P.funcs) (sym number) ∙ at)) is

pub last-is : {A : Type 0} (xs : List A) (x y : A) (k : ℕ) → k ≡ length xs → slice_get (xs ++ x ∷ []) k ≡ Some y → x ≡ y
last-is {A} xs x y k e at = same_Some x y (sym (last xs) ∙ ap (slice_get (xs ++ x ∷ [])) (sym e) ∙ at)
  where
    last : (zs : List A) → slice_get (zs ++ x ∷ []) (length zs) ≡ Some x
    last [] = refl
    last (z ∷ zs) = last zs

-- the function of a name, as it is read: its number is found, and it is there, with its shapes and its survey
module _ (P : Prog) (funcs : List Func) (name : List ℕ) (k : ℕ) (F : Func) (all : funcs ≡ P.funcs) (finds : Finds (names_of_functions funcs) name (Some k)) (is : F ≡ get_or funcs k F) where
  pub named-there : Finds (names_of_functions P.funcs) name (Some k) × (slice_get P.funcs k ≡ Some F)
  named-there =
      let names : Finds (names_of_functions P.funcs) name (Some k) = subst (λ (fs : List Func). Finds (names_of_functions fs) name (Some k)) all finds in
      (names, read-there P funcs k F all (subst (λ n. k < n) (length-map P.funcs (λ (g : Func). g.name)) names.0) is)

  pub shaped-named : IsAccepted P → shape_fault_of (is_some F.ret) F.code ≡ None
  shaped-named accepted = shaped-there P k F accepted named-there.1

  pub survey-read : (surveys : List Survey) (place : ℕ) (s : Survey) → All (IsSurvey P) surveys → place < length surveys → ((z : Survey) → slice_get surveys place ≡ Some z → z.function ≡ k) → s ≡ get_or surveys place s
      → (s.function ≡ k) × IsSurveyOf F s
  survey-read surveys place s known within number read =
      let at = slice_get-get_or surveys place s within ∙ ap Some (sym read) in
      let same = number s at in
      (same, All-at (IsSurvey P) surveys place s known at F (ap (slice_get P.funcs) same ∙ named-there.1))
