-- What it says of variables that one may be put into a class, or not.
use Rattle.std.proofs.Common.{◌≡◌, Option, Some, None, ℕ, suc, ◌+◌, ◌<◌, ◌≤◌, Bool, true, false, List, length, get_or, take, sym, ap, subst, ◌∙◌, inl, inr, ⊎_elim, arith}
use Rattle.std.specs.Prelude.{IfNone, IfSome, slice_index}
use Rattle.std.specs.List.{Contains}
use Rattle.std.proofs.lemmas.Bool.{cases_eq, cases_Bool, and_cases}
use Rattle.std.proofs.lemmas.List.{take_all}
use Rattle.std.proofs.lemmas.List.Elements.{Contains-push_cases}
use Rattle.std.proofs.Math.Seq.{take-suc}
use Rattle.bril_tree.specs.declared.numbered_function.Func.{Func}
use Rattle.bril_tree.specs.Live.{IsLive}
use Rattle.bril_tree.specs.Operand.{Variable}
use Rattle.bril_tree.specs.Typing.{variable_type}
use Rattle.graph_search.specs.Marks.{is_marked}
use Rattle.variable_renaming.specs.Apart.{AreApart, HasShadow}
use Rattle.variable_renaming.specs.Clashes.{Clashes}
use Rattle.variable_renaming.specs.Classes.{class_of}
use Rattle.variable_coloring.specs.Colors.{AreKeptApart}
use Rattle.variable_coloring.specs.Growing.{AreColorsOf, AreStampsOf, Fits, Misfits, NoneFits, NotPlaced, NoHead, OtherType, Met, TwoShadows}
use Rattle.variable_coloring.specs.Pairs.{Meet}
use Rattle.variable_coloring.proofs.Marks.{false-true, marked-below, marked-differ}

pub apart-turned : (F : Func) (x y : ℕ) → AreApart F x y → AreApart F y x
apart-turned F x y a = record { types = sym a.types; arguments = λ h k. a.arguments k h; shadows = λ h k. a.shadows k h; first = a.second; second = a.first }

pub kept-turned : (F : Func) (class : List ℕ) (k m : ℕ) → AreKeptApart F class k m → AreKeptApart F class m k
kept-turned F class k m a = record { u = a.v; v = a.u; first_below = a.second_below; second_below = a.first_below; first = a.second; second = a.first; meet = λ h. a.meet (apart-turned F a.v a.u h) }

clash-kept : (F : Func) (item x y : ℕ) → Clashes F.code item x y → AreApart F x y → ⊥
clash-kept F item x y c a = a.first.assigned item c.instr c.reached c.at c.dest c.other c.live

-- variables that meet aren't apart
pub meet-kept : (F : Func) (x y : ℕ) → Meet F.code x y → AreApart F x y → ⊥
meet-kept F x y m a = ⊎_elim (λ c. clash-kept F m.item x y c a) (λ c. clash-kept F m.item y x c (apart-turned F x y a)) m.clash

module _ (F : Func) (placed : List Bool) (class : List ℕ) (shadow : List Bool) (c : AreColorsOf F placed class shadow) where
  -- a variable of a class of before is placed
  pub earlier : (y k : ℕ) → is_marked placed k ≡ true → class_of class y ≡ k → is_marked placed y ≡ true
  earlier y k there e = ⊎_elim (λ m. m) (λ m. absurd (marked-differ placed k y there m (sym e ∙ c.alone y m))) (cases_Bool (is_marked placed y))

  -- the head of a variable of the function is one
  pub class-inside : (y : ℕ) → y < length F.vars → class_of class y < length F.vars
  class-inside y low = ⊎_elim
      (λ m. (let k = marked-below placed (class_of class y) (c.kept y m) in let l = c.placed_long in omega (arith, k, l)))
      (λ m. (let k = c.alone y m in omega (arith, k, low))) (cases_Bool (is_marked placed y))

  module _ (n : ℕ) (waiting : is_marked placed n ≡ false) where
    -- the variable has a shadow where it is marked
    pub own-shadow : is_marked shadow n ≡ true → HasShadow F.code n
    own-shadow e =
        let s = c.unshadowed n (c.alone n waiting) e in
        let same : s.x ≡ n = ⊎_elim (λ m. absurd (marked-differ placed (class_of class s.x) n (c.kept s.x m) waiting s.of)) (λ m. sym (c.alone s.x m) ∙ s.of) (cases_Bool (is_marked placed s.x)) in
        subst (HasShadow F.code) same s.shadow

    module _ (turn : ℕ) (stamps : List ℕ) (s : AreStampsOf F n turn placed class stamps) (low : n < length F.vars) (started : (y : ℕ) → IsLive F.code (Variable y) 0 → y < F.args) (behind : F.args ≤ n) where
      module _ (k : ℕ) (fits : Fits F placed class shadow stamps n turn k) (y : ℕ) (of : class_of class y ≡ k) where
        here : is_marked placed y ≡ true
        here = earlier y k fits.placed_head of

        inside : y < length F.vars
        inside = let h = marked-below placed y here in let l = c.placed_long in omega (arith, h, l)

        differ : n ≡ y → ⊥
        differ e = marked-differ placed y n here waiting (sym e)

        -- they don't meet
        unmet : Meet F.code n y → ⊥
        unmet m = fits.unmet (ap (slice_index stamps) (sym of) ∙ s.all y here (record { differ = differ; below = inside; meet = m }))

        head-type : variable_type F.vars k ≡ variable_type F.vars y
        head-type = ⊎_elim (λ e. ap (variable_type F.vars) e) (λ d. let a = c.apart k y d (fits.is_head ∙ sym of) in a.types) (cases_eq k y)

        two-shadows : HasShadow F.code n → HasShadow F.code y → ⊥
        two-shadows a b =
            let x-marked : is_marked shadow n ≡ true = ap (is_marked shadow) (sym (c.alone n waiting)) ∙ c.shadowed n low a in
            let k-marked : is_marked shadow k ≡ true = ap (is_marked shadow) (sym of) ∙ c.shadowed y inside b in
            ⊎_elim (λ e. false-true (is_marked shadow n) e x-marked) (λ e. false-true (is_marked shadow k) e k-marked) (and_cases (is_marked shadow n) (is_marked shadow k) fits.shadows)

        -- it is apart from each variable of a class that it may be put into
        pub fits-apart : AreApart F n y
        fits-apart = record {
          types = fits.types ∙ head-type;
          arguments = λ first second. omega (arith, first, behind);
          shadows = two-shadows;
          first = record {
            assigned = λ point item reached at dest other live. unmet (record { item = point; clash = inl (record { reached = reached; instr = item; at = at; dest = dest; differ = differ; other = other; live = live }) });
            start = λ first live. omega (arith, first, behind);
          };
          second = record {
            assigned = λ point item reached at dest other live. unmet (record { item = point; clash = inr (record { reached = reached; instr = item; at = at; dest = dest; differ = λ e. differ (sym e); other = other; live = live }) });
            start = λ first live. (let h = started n live in omega (arith, h, behind));
          };
        }

      -- and why it may not be put into another one keeps it apart from that
      pub misfits-kept : (h : ℕ) → is_marked placed h ≡ true → class_of class h ≡ h → Misfits F placed class shadow stamps n turn h → AreKeptApart F class h n
      misfits-kept h there head (NotPlaced d) = absurd (false-true (is_marked placed h) d there)
      misfits-kept h there head (NoHead d) = absurd (d head)
      misfits-kept h there head (OtherType d) = record { u = h; v = n; first_below = (let m = marked-below placed h there in let l = c.placed_long in omega (arith, m, l)); second_below = low; first = head; second = c.alone n waiting; meet = λ a. d (sym a.types) }
      misfits-kept h there head (Met e) =
          let m = s.only h e in
          record { u = m.y; v = n; first_below = m.meeting.below; second_below = low; first = m.of; second = c.alone n waiting; meet = λ a. meet-kept F n m.y m.meeting.meet (apart-turned F m.y n a) }
      misfits-kept h there head (TwoShadows first second) =
          let t = c.unshadowed h head second in
          record { u = t.x; v = n; first_below = t.below; second_below = low; first = t.of; second = c.alone n waiting; meet = λ a. a.shadows t.shadow (own-shadow first) }

-- ---- what is found among some numbers

module _ (F : Func) (placed : List Bool) (class : List ℕ) (shadow : List Bool) (stamps : List ℕ) (x turn : ℕ) (heads : List ℕ) where
  -- the place of the best one of the first n, and that one; there is none only where none fits, or not any will do
  pub record IsBest (any : Bool) (n : ℕ) (best found : Option ℕ) : Type 0 where
    pub within : IfSome best (λ place. place < length heads)
    pub fits : IfSome best (λ place. Fits F placed class shadow stamps x turn (get_or heads place 0))
    pub same : IfNone best (found ≡ None)
    pub none : any ≡ true → IfNone best (NoneFits F placed class shadow stamps x turn (take n heads))

  none-more : (n : ℕ) → n < length heads → Misfits F placed class shadow stamps x turn (get_or heads n 0) → NoneFits F placed class shadow stamps x turn (take n heads) → NoneFits F placed class shadow stamps x turn (take (n + 1) heads)
  none-more n low m none h c = ⊎_elim (none h) (λ e. subst (Misfits F placed class shadow stamps x turn) e m)
      (Contains-push_cases (take n heads) (get_or heads n 0) h (subst (λ l. Contains l h) (ap (λ k. take k heads) (let e : n + 1 ≡ suc n = omega arith in e) ∙ take-suc heads n 0 low) c))

  -- a better one
  pub best-here : (any : Bool) (n : ℕ) (best found : Option ℕ) → best ≡ Some n → n < length heads → Fits F placed class shadow stamps x turn (get_or heads n 0) → IsBest any (n + 1) best found
  best-here any n best found e low fits = subst (λ b. IsBest any (n + 1) b found) (sym e) (record { within = low; fits = fits; same = tt; none = λ all. tt })

  -- or not
  pub best-before : (any : Bool) (n : ℕ) (best found : Option ℕ) → n < length heads → IsBest any n best found → (any ≡ true → IfNone found (Misfits F placed class shadow stamps x turn (get_or heads n 0))) → IsBest any (n + 1) best found
  best-before any n None found low before misfits = record {
    within = tt;
    fits = tt;
    same = before.same;
    none = λ all. none-more n low (subst (λ f. IfNone f (Misfits F placed class shadow stamps x turn (get_or heads n 0))) before.same (misfits all)) (before.none all);
  }
  best-before any n (Some place) found low before misfits = record { within = before.within; fits = before.fits; same = tt; none = λ all. tt }

  pub best-all : (any : Bool) (n : ℕ) (best found : Option ℕ) → length heads ≤ n → IsBest any n best found → any ≡ true → IfNone best (NoneFits F placed class shadow stamps x turn heads)
  best-all any n best found over b all = subst (λ l. IfNone best (NoneFits F placed class shadow stamps x turn l)) (take_all n heads over) (b.none all)
