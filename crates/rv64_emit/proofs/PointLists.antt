-- Homes of variables, and points of items, one by one.
use Rattle.std.proofs.Common.{◌≡◌, ◌⊎◌, ℕ, ◌+◌, ◌<◌, ◌≤◌, List, [], ◌∷◌, ◌++◌, length, Option, Some, None, inl, inr, ⊎_elim, refl, sym, ap, subst, ◌∙◌, arith, length-append}
use Rattle.std.specs.Prelude.{slice_get}
use Rattle.std.proofs.lemmas.Bool.{cases_lt}
use Rattle.std.proofs.lemmas.Option.{same_Some, slice_get_within}
use Rattle.bril_tree.specs.declared.home.Home.{Home}
use Rattle.bril_tree.specs.declared.numbered.Instr.{Instr}
use Rattle.bril_tree.specs.declared.numbered.VarInfo.{VarInfo}
use Rattle.bril_tree.specs.declared.numbered_function.Func.{Func}
use Rattle.bril_tree.specs.declared.program.Prog.{Prog}
use Rattle.bril_tree.specs.Operand.{Location}
use Rattle.bril_tree.specs.Step.{code_of, item_at, items_of}
use Rattle.bril_tree.specs.Walk.{IsReached}
use Rattle.bril_tree.proofs.Elements.{pushed_get}
use Rattle.rv64_words.specs.declared.points.HomeAt.{HomeAt}
use Rattle.rv64_words.specs.declared.points.PointAt.{PointAt}
use Rattle.rv64_words.specs.Points.{IsStopAt}
use Rattle.rv64_image_laws.specs.ProgramPoints.{ArePointsOf, IsEarlier, IsPointOf}
use Rattle.rv64_emit.specs.PointLists.{AreHomesFor, ArePointsBefore, IsBefore, IsHomeFor}
use Rattle.rv64_emit.proofs.LiveVariables.{kept_get, last_get}

-- the function of a place of the program at which there is an item
pub function_of : (p : Prog) (f i : ℕ) (item : Instr) → item_at p f i ≡ Some item → (func : Func) × (slice_get p.funcs f ≡ Some func)
function_of p f i item at = by (slice_get p.funcs f) refl
  where
    by : (o : Option Func) → slice_get p.funcs f ≡ o → (func : Func) × (slice_get p.funcs f ≡ Some func)
    by None e = absurd (let none : None ≡ Some item = ap (λ o. slice_get (items_of o) i) (sym e) ∙ at in cc)
    by (Some func) e = (func, e)

-- ---- homes

pub more_homes : (home : ℕ → Home) (vars : List VarInfo) (variables : List ℕ) (many : ℕ) (homes more : List HomeAt) (h : HomeAt) (x : ℕ) → slice_get variables many ≡ Some x → IsHomeFor home vars x h → more ≡ homes ++ h ∷ [] →
    AreHomesFor home vars variables many homes → AreHomesFor home vars variables (many + 1) more
more_homes home vars variables many homes more h x at is pushed so_far = subst (AreHomesFor home vars variables (many + 1)) (sym pushed) (record {
  long = omega (arith, length-append homes (h ∷ []), so_far.long);
  are = λ k y g e there. are k y g e (pushed_get homes h k g there);
})
  where
    are : (k y : ℕ) (g : HomeAt) → slice_get variables k ≡ Some y → (slice_get homes k ≡ Some g) ⊎ ((k ≡ length homes) × (h ≡ g)) → IsHomeFor home vars y g
    are k y g e (inl there) = so_far.are k y g e there
    are k y g e (inr last) =
        let here : slice_get variables k ≡ Some x = ap (slice_get variables) (last.0 ∙ so_far.long) ∙ at in
        let same : x ≡ y = same_Some x y (sym here ∙ e) in
        subst (λ z. IsHomeFor home vars z g) same (subst (IsHomeFor home vars x) last.1 is)

-- ---- points

module _ (locations : ℕ → Location → Home) (entry : ℕ → ℕ → ℕ) (p : Prog) where
  pub no_points : ArePointsBefore locations entry p 0 0 []
  no_points = record {
    are = λ k at e. absurd (let n : None ≡ Some at = e in cc);
    before = λ k at e. absurd (let n : None ≡ Some at = e in cc);
    each = λ f i before. absurd (never f i before);
    in_order = λ j k a b less e. absurd (let n : None ≡ Some a = e in cc);
  }
    where
      never : (f i : ℕ) → IsBefore f i 0 0 → ⊥
      never f i (inl less) = omega arith
      never f i (inr same) = omega (arith, same.1)

  -- an item before the next one is before this one, or is this one
  before_next : (f i g j : ℕ) → IsBefore f i g (j + 1) → IsBefore f i g j ⊎ ((f ≡ g) × (i ≡ j))
  before_next f i g j (inl less) = inl (inl less)
  before_next f i g j (inr same) = ⊎_elim (λ less. inl (inr (same.0, less))) (λ high. (let here : i ≡ j = omega (arith, same.1) in inr (same.0, here))) (cases_lt i j)

  still_before : (f i g j : ℕ) → IsBefore f i g j → IsBefore f i g (j + 1)
  still_before f i g j (inl less) = inl less
  still_before f i g j (inr same) = inr (same.0, (let less = same.1 in omega arith))

  -- this item has no point
  pub no_point : (g j : ℕ) (points : List PointAt) → (IsStopAt p g j → IsReached (code_of p g) j → ⊥) → ArePointsBefore locations entry p g j points → ArePointsBefore locations entry p g (j + 1) points
  no_point g j points none so_far = record {
    are = so_far.are;
    before = λ k at e. still_before at.func at.item g j (so_far.before k at e);
    each = λ f i before stop reached. each f i stop reached (before_next f i g j before);
    in_order = so_far.in_order;
  }
    where
      each : (f i : ℕ) → IsStopAt p f i → IsReached (code_of p f) i → IsBefore f i g j ⊎ ((f ≡ g) × (i ≡ j)) → (k : ℕ) × (at : PointAt) × (slice_get points k ≡ Some at) × (at.func ≡ f) × (at.item ≡ i)
      each f i stop reached (inl before) = so_far.each f i before stop reached
      each f i stop reached (inr here) =
          let stop_here : IsStopAt p g j = subst (λ k. IsStopAt p k j) here.0 (subst (IsStopAt p f) here.1 stop) in
          let reached_here : IsReached (code_of p g) j = subst (λ k. IsReached (code_of p k) j) here.0 (subst (IsReached (code_of p f)) here.1 reached) in
          absurd (none stop_here reached_here)

  -- this item has this point
  pub one_point : (g j : ℕ) (points more : List PointAt) (at : PointAt) → more ≡ points ++ at ∷ [] → at.func ≡ g → at.item ≡ j → IsPointOf locations entry p at → ArePointsBefore locations entry p g j points → ArePointsBefore locations entry p g (j + 1) more
  one_point g j points more at pushed func item is so_far = subst (ArePointsBefore locations entry p g (j + 1)) (sym pushed) (record {
    are = λ k a e. are k a (pushed_get points at k a e);
    before = λ k a e. before k a (pushed_get points at k a e);
    each = λ f i before stop reached. each f i stop reached (before_next f i g j before);
    in_order = λ k l a b less e d. in_order k l a b less (pushed_get points at k a e) (pushed_get points at l b d);
  })
    where
      are : (k : ℕ) (a : PointAt) → (slice_get points k ≡ Some a) ⊎ ((k ≡ length points) × (at ≡ a)) → IsPointOf locations entry p a
      are k a (inl e) = so_far.are k a e
      are k a (inr last) = subst (IsPointOf locations entry p) last.1 is

      last_before : IsBefore at.func at.item g (j + 1)
      last_before = inr (func, omega (arith, item))

      before : (k : ℕ) (a : PointAt) → (slice_get points k ≡ Some a) ⊎ ((k ≡ length points) × (at ≡ a)) → IsBefore a.func a.item g (j + 1)
      before k a (inl e) = still_before a.func a.item g j (so_far.before k a e)
      before k a (inr last) = subst (λ (b : PointAt). IsBefore b.func b.item g (j + 1)) last.1 last_before

      each : (f i : ℕ) → IsStopAt p f i → IsReached (code_of p f) i → IsBefore f i g j ⊎ ((f ≡ g) × (i ≡ j)) → (k : ℕ) × (a : PointAt) × (slice_get (points ++ at ∷ []) k ≡ Some a) × (a.func ≡ f) × (a.item ≡ i)
      each f i stop reached (inl before) = let h = so_far.each f i before stop reached in (h.0, h.1, kept_get points at h.0 h.1 h.2, h.3, h.4)
      each f i stop reached (inr here) = (length points, at, last_get points at, func ∙ sym here.0, item ∙ sym here.1)

      behind : (a : PointAt) → IsBefore a.func a.item g j → IsEarlier a at
      behind a (inl less) = inl (omega (arith, func))
      behind a (inr same) = inr (same.0 ∙ sym func, omega (arith, item, same.1))

      in_order : (k l : ℕ) (a b : PointAt) → k < l → (slice_get points k ≡ Some a) ⊎ ((k ≡ length points) × (at ≡ a)) → (slice_get points l ≡ Some b) ⊎ ((l ≡ length points) × (at ≡ b)) → IsEarlier a b
      in_order k l a b less (inl e) (inl d) = so_far.in_order k l a b less e d
      in_order k l a b less (inl e) (inr last) = subst (IsEarlier a) last.1 (behind a (so_far.before k a e))
      in_order k l a b less (inr first) (inl d) = absurd (omega (arith, first.0, slice_get_within points l b d))
      in_order k l a b less (inr first) (inr last) = absurd (omega (arith, first.0, last.0))

  -- after the last item of a function comes the first one of the next
  pub next_function : (g j : ℕ) (points : List PointAt) → length (code_of p g) ≤ j → ArePointsBefore locations entry p g j points → ArePointsBefore locations entry p (g + 1) 0 points
  next_function g j points end so_far = record {
    are = so_far.are;
    before = λ k at e. before at.func at.item (so_far.before k at e);
    each = λ f i early stop reached. each f i stop reached early;
    in_order = so_far.in_order;
  }
    where
      before : (f i : ℕ) → IsBefore f i g j → IsBefore f i (g + 1) 0
      before f i (inl less) = inl (omega arith)
      before f i (inr same) = inl (omega (arith, same.0))

      each : (f i : ℕ) → IsStopAt p f i → IsReached (code_of p f) i → IsBefore f i (g + 1) 0 → (k : ℕ) × (at : PointAt) × (slice_get points k ≡ Some at) × (at.func ≡ f) × (at.item ≡ i)
      each f i stop reached (inl less) = ⊎_elim (λ early. so_far.each f i (inl early) stop reached) (λ late. (let same : f ≡ g = omega arith in so_far.each f i (inr (same, inside same)) stop reached)) (cases_lt f g)
        where
          inside : f ≡ g → i < j
          inside same = let low = slice_get_within (code_of p f) i stop.item stop.is_item in let long = ap (λ k. length (code_of p k)) same in omega arith
      each f i stop reached (inr same) = absurd (omega (arith, same.1))

  -- those before the end are all
  pub all_points : (points : List PointAt) → ArePointsBefore locations entry p (length p.funcs) 0 points → ArePointsOf locations entry p (record { points = points })
  all_points points so_far = record {
    are = so_far.are;
    each = λ f i stop reached. so_far.each f i (inl (inside f i stop)) stop reached;
    in_order = so_far.in_order;
  }
    where
      inside : (f i : ℕ) → IsStopAt p f i → f < length p.funcs
      inside f i stop = let func = function_of p f i stop.item stop.is_item in slice_get_within p.funcs f func.0 func.1
