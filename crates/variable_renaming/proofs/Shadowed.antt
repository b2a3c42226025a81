-- Marks of variables whose shadows items name.
use Rattle.std.proofs.Common.{◌≡◌, ℕ, ◌+◌, ◌<◌, Bool, true, List, length, get_or, Some, sym, ap, subst, ◌∙◌, ⊎_elim, arith}
use Rattle.std.specs.Prelude.{slice_get}
use Rattle.std.specs.List.{Contains}
use Rattle.std.proofs.lemmas.Bool.{cases_eq, cases_lt}
use Rattle.std.proofs.lemmas.Option.{slice_get-get_or, same_Some}
use Rattle.bril_tree.specs.declared.numbered.Instr.{Instr}
use Rattle.bril_tree.specs.declared.numbered_function.Func.{Func}
use Rattle.graph_search.specs.Marks.{is_marked}
use Rattle.variable_renaming.specs.Apart.{HasShadow, shadows_of}
use Rattle.variable_renaming.specs.Shadows.{MarksShadow}

-- the marks after so many items
pub record AreMarked (F : Func) (n : ℕ) (marks : List Bool) : Type 0 where
  pub long : length marks ≡ length F.vars
  pub all : (x point : ℕ) (item : Instr) → point < n → slice_get F.code point ≡ Some item → Contains (shadows_of item) x → x < length F.vars → is_marked marks x ≡ true
  pub only : (x : ℕ) → is_marked marks x ≡ true → HasShadow F.code x

pub more-marked : (F : Func) (old new : List Bool) (items : List Instr) → items ≡ F.code → (n : ℕ) (item : Instr) → n < length items → item ≡ get_or items n item → AreMarked F n old → MarksShadow item old new → AreMarked F (n + 1) new
more-marked F old new items same n item low is a m = record {
  long = m.long ∙ a.long;
  all = λ x point b less at i inside.
      ⊎_elim
      (λ e. let one : b ≡ item = same_Some b item (sym at ∙ ap (slice_get F.code) e ∙ there) in m.all x (subst (λ z. Contains (shadows_of z) x) one i) (omega (arith, a.long)))
      (λ e. m.kept x (a.all x point b (⊎_elim (λ l. l) (λ high. absurd (e (omega arith))) (cases_lt point n)) at i inside))
      (cases_eq point n);
  only = λ x e. ⊎_elim (λ h. a.only x h) (λ i. record { point = n; item = item; at = there; names = i }) (m.only x e);
}
  where
    there : slice_get F.code n ≡ Some item
    there = ap (λ l. slice_get l n) (sym same) ∙ slice_get-get_or items n item low ∙ ap Some (sym is)
