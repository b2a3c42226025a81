-- The next variable is put into a class of before, or begins one of its own.
use Rattle.std.proofs.Common.{◌≡◌, ◌≢◌, ◌⊎◌, ℕ, ◌<◌, ◌≤◌, Bool, true, false, cond, List, length, set, refl, sym, ap, subst, ◌∙◌, inl, inr, ⊎_elim, arith}
use Rattle.std.proofs.lemmas.Bool.{cases_eq, cases_Bool}
use Rattle.std.proofs.lemmas.List.{get_or-set_same, get_or-set_other, length-set}
use Rattle.bril_tree.specs.declared.numbered_function.Func.{Func}
use Rattle.bril_tree.specs.Live.{IsLive}
use Rattle.bril_tree.specs.Operand.{Variable}
use Rattle.graph_search.specs.Marks.{is_marked}
use Rattle.variable_renaming.specs.Apart.{AreApart, HasShadow}
use Rattle.variable_renaming.specs.Classes.{class_of}
use Rattle.variable_coloring.specs.Colors.{AreColors, AreKeptApart}
use Rattle.variable_coloring.specs.Growing.{AreColorsOf, AreStampsOf, Fits, HasShadowIn, NoneFitsAtAll, shadows_joined}
use Rattle.variable_coloring.proofs.Fitting.{apart-turned, class-inside, fits-apart, kept-turned, misfits-kept, own-shadow}
use Rattle.variable_coloring.proofs.Marks.{marked-before, marked-below, marked-differ, marked-here, marked-kept, unmarked-before, unmarked-other}

module _ (F : Func) (n : ℕ) (placed : List Bool) (class : List ℕ) (shadow : List Bool) (c : AreColorsOf F placed class shadow) (waiting : is_marked placed n ≡ false) (low : n < length F.vars) where
  abbrev with_n : List Bool
  with_n = set placed n true

  own : class_of class n ≡ n
  own = c.alone n waiting

  inside-placed : n < length placed
  inside-placed = let l = c.placed_long in omega (arith, l, low)

  -- ---- a class of its own

  pub opened-colors : ((h : ℕ) → is_marked placed h ≡ true → class_of class h ≡ h → AreKeptApart F class h n) → AreColorsOf F (set placed n true) class shadow
  opened-colors separate = record {
    long = c.long;
    placed_long = length-set placed n true ∙ c.placed_long;
    shadow_long = c.shadow_long;
    alone = λ x e. c.alone x (unmarked-before placed n inside-placed x e);
    kept = λ x e. ⊎_elim
        (λ s. ap (is_marked with_n) (ap (class_of class) s ∙ own) ∙ marked-here placed n inside-placed)
        (λ d. marked-kept placed n (class_of class x) (c.kept x (marked-before placed n x e d))) (cases_eq x n);
    arguments = c.arguments;
    named = c.named;
    apart = c.apart;
    settled = settled;
    shadowed = c.shadowed;
    unshadowed = c.unshadowed;
  }
    where
      settled : (h m : ℕ) → h ≢ m → is_marked with_n h ≡ true → is_marked with_n m ≡ true → class_of class h ≡ h → class_of class m ≡ m → AreKeptApart F class h m
      settled h m differ there_h there_m head_h head_m = ⊎_elim
          (λ s. ⊎_elim (λ t. absurd (differ (s ∙ sym t)))
          (λ d. subst (λ v. AreKeptApart F class v m) (sym s) (kept-turned F class m n (separate m (marked-before placed n m there_m d) head_m))) (cases_eq m n))
          (λ e. ⊎_elim (λ t. subst (AreKeptApart F class h) (sym t) (separate h (marked-before placed n h there_h e) head_h))
          (λ d. c.settled h m differ (marked-before placed n h there_h e) (marked-before placed n m there_m d) head_h head_m) (cases_eq m n))
          (cases_eq h n)

  -- an argument, where only arguments are placed
  pub argument-colors : ((y : ℕ) → is_marked placed y ≡ true → y < n) → n < F.args → AreColorsOf F (set placed n true) class shadow
  argument-colors only argument = opened-colors (λ h there head. record {
    u = h;
    v = n;
    first_below = (let o = only h there in omega (arith, o, low));
    second_below = low;
    first = head;
    second = own;
    meet = λ a. a.arguments (let o = only h there in omega (arith, o, argument)) argument;
  })

  module _ (turn : ℕ) (stamps : List ℕ) (s : AreStampsOf F n turn placed class stamps) (started : (y : ℕ) → IsLive F.code (Variable y) 0 → y < F.args) (behind : F.args ≤ n) where
    pub opened-fitless : NoneFitsAtAll F placed class shadow stamps n turn → AreColorsOf F (set placed n true) class shadow
    opened-fitless none = opened-colors (λ h there head. misfits-kept F placed class shadow c n waiting turn stamps s low started behind h there head (none h there head))

    -- ---- a class of before

    module _ (k : ℕ) (fits : Fits F placed class shadow stamps n turn k) where
      abbrev new : List ℕ
      new = set class n k

      abbrev marks : List Bool
      marks = shadows_joined shadow n k

      there : is_marked placed k ≡ true
      there = fits.placed_head

      below : k < length F.vars
      below = let m = marked-below placed k there in let l = c.placed_long in omega (arith, m, l)

      inside : n < length class
      inside = let l = c.long in omega (arith, low, l)

      here : class_of new n ≡ k
      here = get_or-set_same class n k n inside

      other : (z : ℕ) → (z ≡ n → ⊥) → class_of new z ≡ class_of class z
      other z d = get_or-set_other class n z k z d

      -- what is placed is another one
      placed-other : (z : ℕ) → is_marked placed z ≡ true → z ≡ n → ⊥
      placed-other z e same = marked-differ placed z n e waiting same

      -- a head of the new classes is one of the old ones
      head-before : (h : ℕ) → class_of new h ≡ h → (h ≡ n → ⊥) × (class_of class h ≡ h)
      head-before h e = (differs, sym (other h differs) ∙ e)
        where
          differs : h ≡ n → ⊥
          differs same = placed-other k there (sym here ∙ ap (class_of new) (sym same) ∙ e ∙ same)

      apart-x : (y : ℕ) → class_of class y ≡ k → AreApart F n y
      apart-x y of = fits-apart F placed class shadow c n waiting turn stamps s low started behind k fits y of

      new-apart : (x y : ℕ) → x ≢ y → class_of new x ≡ class_of new y → AreApart F x y
      new-apart x y d e = ⊎_elim first (λ m. ⊎_elim (second m) (neither m) (cases_eq y n)) (cases_eq x n)
        where
          first : x ≡ n → AreApart F x y
          first h =
              let m : y ≡ n → ⊥ = λ g. d (h ∙ sym g) in
              subst (λ z. AreApart F z y) (sym h) (apart-x y (sym (other y m) ∙ sym e ∙ ap (class_of new) h ∙ here))

          second : (x ≡ n → ⊥) → y ≡ n → AreApart F x y
          second m h = subst (AreApart F x) (sym h) (apart-turned F n x (apart-x x (sym (other x m) ∙ e ∙ ap (class_of new) h ∙ here)))

          neither : (x ≡ n → ⊥) → (y ≡ n → ⊥) → AreApart F x y
          neither m l = c.apart x y d (sym (other x m) ∙ e ∙ other y l)

      new-kept : (h m : ℕ) → (h ≡ n → ⊥) → (m ≡ n → ⊥) → AreKeptApart F class h m → AreKeptApart F new h m
      new-kept h m first second a = record {
        u = a.u;
        v = a.v;
        first_below = a.first_below;
        second_below = a.second_below;
        first = other a.u (λ e. first (sym a.first ∙ ap (class_of class) e ∙ own)) ∙ a.first;
        second = other a.v (λ e. second (sym a.second ∙ ap (class_of class) e ∙ own)) ∙ a.second;
        meet = a.meet;
      }

      -- a mark stays, and that of the class is set where x is marked
      mark-kept : (h : ℕ) → is_marked shadow h ≡ true → is_marked marks h ≡ true
      mark-kept h e = by (is_marked shadow n) refl
        where
          by : (b : Bool) → is_marked shadow n ≡ b → is_marked (cond b (set shadow k true) shadow) h ≡ true
          by false f = e
          by true f = ⊎_elim (λ same. ap (is_marked (set shadow k true)) same ∙ get_or-set_same shadow k true false (let l = c.shadow_long in let b = below in omega (arith, l, b))) (λ d. get_or-set_other shadow k h true false d ∙ e) (cases_eq h k)

      mark-joined : is_marked shadow n ≡ true → is_marked marks k ≡ true
      mark-joined e = ap (λ b. is_marked (cond b (set shadow k true) shadow) k) e ∙ get_or-set_same shadow k true false (let l = c.shadow_long in let b = below in omega (arith, l, b))

      mark-before : (h : ℕ) → is_marked marks h ≡ true → (h ≡ k → is_marked shadow n ≡ true → ⊥) → is_marked shadow h ≡ true
      mark-before h e d = by (is_marked shadow n) refl
        where
          by : (b : Bool) → is_marked shadow n ≡ b → is_marked shadow h ≡ true
          by false f = ap (λ b. is_marked (cond b (set shadow k true) shadow) h) (sym f) ∙ e
          by true f = sym (get_or-set_other shadow k h true false (λ same. d same f)) ∙ ap (λ b. is_marked (cond b (set shadow k true) shadow) h) (sym f) ∙ e

      mark-long : length marks ≡ length shadow
      mark-long = by (is_marked shadow n)
        where
          by : (b : Bool) → length (cond b (set shadow k true) shadow) ≡ length shadow
          by true = length-set shadow k true
          by false = refl

      pub joined-colors : AreColorsOf F (set placed n true) new marks
      joined-colors = record {
        long = length-set class n k ∙ c.long;
        placed_long = length-set placed n true ∙ c.placed_long;
        shadow_long = mark-long ∙ c.shadow_long;
        alone = λ x e. other x (unmarked-other placed n inside-placed x e) ∙ c.alone x (unmarked-before placed n inside-placed x e);
        kept = λ x e. ⊎_elim
            (λ same. ap (is_marked with_n) (ap (class_of new) same ∙ here) ∙ marked-kept placed n k there)
            (λ d. ap (is_marked with_n) (other x d) ∙ marked-kept placed n (class_of class x) (c.kept x (marked-before placed n x e d))) (cases_eq x n);
        arguments = λ x less. other x (λ e. omega (arith, e, less, behind)) ∙ c.arguments x less;
        named = new-named;
        apart = new-apart;
        settled = λ h m differ there_h there_m first second.
            let a = head-before h first in
            let b = head-before m second in
            new-kept h m a.0 b.0 (c.settled h m differ (marked-before placed n h there_h a.0) (marked-before placed n m there_m b.0) a.1 b.1);
        shadowed = λ x inside_x h. ⊎_elim
            (λ e. ap (is_marked marks) (ap (class_of new) e ∙ here) ∙ mark-joined (ap (is_marked shadow) (sym own) ∙ c.shadowed n low (subst (HasShadow F.code) e h)))
            (λ d. ap (is_marked marks) (other x d) ∙ mark-kept (class_of class x) (c.shadowed x inside_x h))
            (cases_eq x n);
        unshadowed = new-unshadowed;
      }
        where
          new-named : (x : ℕ) → class_of new (class_of new x) ≡ class_of new x
          new-named x = ⊎_elim at_n elsewhere (cases_eq x n)
            where
              at_n : x ≡ n → class_of new (class_of new x) ≡ class_of new x
              at_n e = let f : class_of new x ≡ k = ap (class_of new) e ∙ here in ap (class_of new) f ∙ other k (placed-other k there) ∙ fits.is_head ∙ sym f

              elsewhere : (x ≡ n → ⊥) → class_of new (class_of new x) ≡ class_of new x
              elsewhere d =
                  let f = other x d in
                  let m : class_of class x ≡ n → ⊥ = λ e. ⊎_elim (λ g. placed-other (class_of class x) (c.kept x g) e) (λ g. d (sym (c.alone x g) ∙ e)) (cases_Bool (is_marked placed x)) in
                  ap (class_of new) f ∙ other (class_of class x) m ∙ c.named x ∙ sym f

          new-unshadowed : (h : ℕ) → class_of new h ≡ h → is_marked marks h ≡ true → HasShadowIn F new h
          new-unshadowed h head e = ⊎_elim joined (λ d. before (λ same marked. d (same, marked))) (cases-both (cases_eq h k) (cases_Bool (is_marked shadow n)))
            where
              cases-both : (h ≡ k) ⊎ (h ≡ k → ⊥) → (is_marked shadow n ≡ true) ⊎ (is_marked shadow n ≡ false) → ((h ≡ k) × (is_marked shadow n ≡ true)) ⊎ ((h ≡ k) × (is_marked shadow n ≡ true) → ⊥)
              cases-both (inl same) (inl marked) = inl (same, marked)
              cases-both (inl same) (inr f) = inr (λ p. (let m = p.1 in let g : true ≡ false = sym m ∙ f in cc))
              cases-both (inr d) m = inr (λ p. d p.0)

              joined : (h ≡ k) × (is_marked shadow n ≡ true) → HasShadowIn F new h
              joined p = record { x = n; below = low; of = here ∙ sym p.0; shadow = own-shadow F placed class shadow c n waiting p.1 }

              before : (h ≡ k → is_marked shadow n ≡ true → ⊥) → HasShadowIn F new h
              before d =
                  let b = head-before h head in
                  let t = c.unshadowed h b.1 (mark-before h e d) in
                  record { x = t.x; below = t.below; of = other t.x (λ g. b.0 (sym t.of ∙ ap (class_of class) g ∙ own)) ∙ t.of; shadow = t.shadow }

-- ---- once all are placed

pub all-colors : (F : Func) (placed : List Bool) (class : List ℕ) (shadow : List Bool) → ((x : ℕ) → x < length F.vars → is_marked placed x ≡ true) → AreColorsOf F placed class shadow → AreColors F class
all-colors F placed class shadow all c = record {
  long = c.long;
  inside = λ x low. class-inside F placed class shadow c x low;
  arguments = c.arguments;
  named = c.named;
  apart = λ x y first second d e. c.apart x y d e;
  settled = λ x y first second d. c.settled (class_of class x) (class_of class y) d (c.kept x (all x first)) (c.kept y (all y second)) (c.named x) (c.named y);
}
