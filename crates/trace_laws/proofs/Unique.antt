-- A profile has one list of fitting entries, so one bound.
use Rattle.std.proofs.Common.{◌≡◌, ℕ, List, [], ◌∷◌, refl, sym, ap, subst, ◌∙◌, inl, inr}
use Rattle.bril_profile.specs.declared.profile.Profile.{Profile}
use Rattle.bril_tree.specs.declared.program.Prog.{Prog}
use Rattle.bril_tree.specs.Numbered.{names_of_functions, tree_at}
use Rattle.bril_names.proofs.Functions.{Differ-functions}
use Rattle.bril_names.proofs.Naming.{one_number}
use Rattle.pass_edit_laws.proofs.lemmas.names.Points.{label_once}
use Rattle.bril_profile.specs.declared.profile.Entry.{Entry}
use Rattle.trace_paths.specs.Fits.{Fit, IsFit, FitsAre, count_of}
use Rattle.trace_paths.specs.Taken.{taken}
use Rattle.trace_laws.specs.lines.Bound.{bound_with, IsTraceBound}

pub fit-one : (P : Prog) (e : Entry) (x y : Fit) → IsFit P e x → IsFit P e y → x ≡ y
fit-one P e x y a b =
    let f : x.function ≡ y.function = one_number (names_of_functions P.funcs) (Differ-functions P) x.function y.function a.function b.function (a.named_so ∙ sym b.named_so) in
    let p : x.point ≡ y.point = label_once P y.function x.point y.point e.label (ap (λ n. tree_at P n x.point) (sym f) ∙ a.label) b.label in
    let c : x.choices ≡ y.choices = a.choices ∙ sym b.choices in
    λ i. record { function = f i; point = p i; choices = c i }

pub fits-one : (P : Prog) (seen : List Fit) (es : List Entry) (xs ys : List Fit) → FitsAre P seen es xs → FitsAre P seen es ys → xs ≡ ys
fits-one P seen [] xs ys a b = a ∙ sym b
fits-one P seen (e ∷ es) [] [] a b = refl
fits-one P seen (e ∷ es) [] (y ∷ ys) a (inl b) = absurd (b.1 (a.0 y b.0))
fits-one P seen (e ∷ es) [] (y ∷ ys) a (inr b) = fits-one P seen es [] (y ∷ ys) a.1 b.1
fits-one P seen (e ∷ es) (x ∷ xs) [] (inl a) b = absurd (a.1 (b.0 x a.0))
fits-one P seen (e ∷ es) (x ∷ xs) [] (inr a) b = fits-one P seen es (x ∷ xs) [] a.1 b.1
fits-one P seen (e ∷ es) (x ∷ xs) (y ∷ ys) (inl a) (inl b) =
    let s = fit-one P e x y a.0 b.0 in
    let rest = fits-one P (y ∷ seen) es xs ys (subst (λ z. FitsAre P (z ∷ seen) es xs) s a.2) b.2 in
    λ i. s i ∷ rest i
fits-one P seen (e ∷ es) (x ∷ xs) (y ∷ ys) (inl a) (inr b) = absurd (a.1 (b.0 x a.0))
fits-one P seen (e ∷ es) (x ∷ xs) (y ∷ ys) (inr a) (inl b) = absurd (b.1 (a.0 y b.0))
fits-one P seen (e ∷ es) (x ∷ xs) (y ∷ ys) (inr a) (inr b) = fits-one P seen es (x ∷ xs) (y ∷ ys) a.1 b.1

pub bound-one : (P : Prog) (profile : Profile) (b c : ℕ) → IsTraceBound P profile b → IsTraceBound P profile c → b ≡ c
bound-one P profile b c x y = x.is ∙ ap (bound_with P) (fits-one P [] (taken count_of profile.entries) x.fits y.fits x.are_fits y.are_fits) ∙ sym y.is
