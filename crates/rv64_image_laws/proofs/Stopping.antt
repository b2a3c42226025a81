-- Where the machine is first at a chosen point, the program is at the first chosen item ahead.
use Rattle.std.proofs.Common.{◌≡◌, ℕ, ◌*◌, ◌<◌, ◌≤◌, Bool, true, ⊎_elim, List, ◌∷◌, Option, Some, sym, ap, ◌∙◌, subst, arith}
use Rattle.std.specs.Prelude.{slice_get}
use Rattle.std.proofs.lemmas.Bool.{cases_lt}
use Rattle.simulation.specs.System.{IsFinal}
use Rattle.simulation.proofs.After.{IsFinal-later, running-not_final}
use Rattle.bril_tree.specs.declared.limits.Limits.{Limits}
use Rattle.bril_tree.specs.declared.program.Prog.{Prog}
use Rattle.bril_tree.specs.declared.value.Value.{Value}
use Rattle.bril_tree.specs.Run.{state_after}
use Rattle.bril_tree.specs.State as bril
use Rattle.rv64_image_laws.specs.Implements.{image_after, image_system}
use Rattle.rv64_image_laws.proofs.Systems.{image_is_system}
use Rattle.rv64_words.specs.declared.image.Image.{Image}
use Rattle.rv64_words.specs.State.{start}
use Rattle.rv64_words.specs.declared.points.PointAt.{PointAt}
use Rattle.rv64_words.specs.declared.points.Points.{Points}
use Rattle.rv64_words.specs.Points.{ArePointsIn}
use Rattle.rv64_image_laws.specs.ProgramPoints.{StopsAt}
use Rattle.rv64_image_laws.specs.Stands.{StandsAt}
use Rattle.rv64_image_laws.specs.PointsShown.{PointShows, ShowsRun}
use Rattle.rv64_image_laws.specs.Stops.{FirstsAreLeast, IsAhead, IsChosenAt, IsFirstChosen, IsLeastAhead, NoneChosen, NoneIsLeft, NoneIsPassed}

-- a state of the program stands at one item alone
same_head : (f g : bril.Frame) (fs gs : List bril.Frame) → f ∷ fs ≡ g ∷ gs → f ≡ g
same_head f g fs gs e = cc

pub one_place : (s : bril.State) (f i g j : ℕ) → StandsAt s f i → StandsAt s g j → (f ≡ g) × (i ≡ j)
one_place s f i g j a b =
    let same = same_head a.frame b.frame a.older b.older (sym a.frames ∙ b.frames) in
    (sym a.in_function ∙ (ap (λ x. x.function) same ∙ b.in_function), sym a.at_item ∙ (ap (λ x. x.point) same ∙ b.at_item))

module _ (image : Image) (points : Points) (p : Prog) (limits : Limits) (args : List Value) (chosen : ℕ → ℕ → Bool) (run : ShowsRun image points p limits args) where
  -- the machine is at a chosen point where the program is at a chosen item
  met : (n f i : ℕ) → StopsAt p (state_after p limits args n) f i → chosen f i ≡ true → (at : PointAt) × IsChosenAt image points limits args chosen (run.count n) at
  met n f i stops by =
      let there = run.there n f i stops in
      let one = one_place (state_after p limits args n) f i there.0.func there.0.item stops.stands there.2.stops.stands in
      (there.0, record { is = there.1; by = subst (λ k. chosen k there.0.item ≡ true) one.0 (subst (λ k. chosen f k ≡ true) one.1 by) })

  passed : (from to : ℕ) → NoneChosen image points limits args chosen from to → (n : ℕ) → IsAhead p limits args run.count chosen from n → to ≤ run.count n
  passed from to none n ahead = ⊎_elim (λ (less : run.count n < to). absurd (let m = met n ahead.func ahead.item ahead.stops ahead.by in none (run.count n) m.0 ahead.late less m.1)) (λ (le : to ≤ run.count n). le) (cases_lt (run.count n) to)

  left : (from m : ℕ) → NoneChosen image points limits args chosen from m → IsFinal (image_after image limits args m).stopped → (n : ℕ) → IsAhead p limits args run.count chosen from n → ⊥
  left from m none final n ahead =
      let le = passed from m none n ahead in
      let there = run.there n ahead.func ahead.item ahead.stops in
      running-not_final (image_after image limits args (run.count n)).stopped there.1.running (IsFinal-later (image_system image limits) (image_is_system image limits) m (run.count n) (start args) le final)

  module _ (from m : ℕ) (at : PointAt) (points_in : ArePointsIn image points) (is : IsFirstChosen image points limits args chosen from m at) (n : ℕ) (counted : run.count n ≡ m) (stops : StopsAt p (state_after p limits args n) at.func at.item) where
    least : (k : ℕ) → IsAhead p limits args run.count chosen from k → n ≤ k
    least k other = ⊎_elim (λ (less : k < n). absurd (earlier less)) (λ (le : n ≤ k). le) (cases_lt k n)
      where
        earlier : k < n → ⊥
        earlier less =
            let up = run.rising k n other.func other.item at.func at.item less other.stops stops in
            let past = passed from m is.none k other in
            absurd (omega arith)

    least_ahead : IsLeastAhead p limits args run.count chosen from n
    least_ahead = record { is = record { func = at.func; item = at.item; stops = stops; by = is.is.by; late = (let late = is.late in omega arith) }; least = least }

    -- the machine is at one point alone
    shown_here : PointShows image p limits (state_after p limits args n) (image_after image limits args m) at
    shown_here =
        let there = run.there n at.func at.item stops in
        let pc : (image_after image limits args (run.count n)).pc ≡ (image_after image limits args m).pc = ap (λ k. (image_after image limits args k).pc) counted in
        let words : 4 * there.0.word ≡ 4 * at.word = sym there.1.at_word ∙ (pc ∙ is.is.is.at_word) in
        let word : there.0.word ≡ at.word = omega arith in
        let place = points_in.once there.1.place is.is.is.place there.0 at there.1.is is.is.is.is word in
        let same : there.0 ≡ at = some_one (subst (λ k. slice_get points.points k ≡ Some there.0) place there.1.is) is.is.is.is in
        subst (λ k. PointShows image p limits (state_after p limits args n) (image_after image limits args k) at) counted (subst (PointShows image p limits (state_after p limits args n) (image_after image limits args (run.count n))) same there.2)
      where
        some_one : {o : Option PointAt} {a b : PointAt} → o ≡ Some a → o ≡ Some b → a ≡ b
        some_one e f = cc

  first : (from m : ℕ) (at : PointAt) → ArePointsIn image points → IsFirstChosen image points limits args chosen from m at →
      (n : ℕ) × (run.count n ≡ m) × IsLeastAhead p limits args run.count chosen from n × PointShows image p limits (state_after p limits args n) (image_after image limits args m) at
  first from m at points_in is =
      let met = run.only m at is.is.is in
      (met.0, met.1, least_ahead from m at points_in is met.0 met.1 met.2, shown_here from m at points_in is met.0 met.1 met.2)

pub firsts_are_least : FirstsAreLeast
firsts_are_least image points p limits args chosen run from m at points_in is = first image points p limits args chosen run from m at points_in is

pub none_is_passed : NoneIsPassed
none_is_passed image points p limits args chosen run from to none n ahead = passed image points p limits args chosen run from to none n ahead

pub none_is_left : NoneIsLeft
none_is_left image points p limits args chosen run from m none final n ahead = left image points p limits args chosen run from m none final n ahead
