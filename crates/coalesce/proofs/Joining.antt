-- A variable that is alone gets the name of another class.
use Rattle.std.proofs.Common.{◌≡◌, ◌≢◌, ◌⊎◌, ℕ, ◌<◌, ◌≤◌, Bool, true, false, cond, not, ◌&&◌, eqb, List, length, set, Option, Some, None, refl, sym, ap, subst, ◌∙◌, inl, inr, ⊎_elim, arith}
use Rattle.std.specs.Prelude.{slice_get}
use Rattle.std.specs.List.{Contains}
use Rattle.std.proofs.lemmas.Bool.{and_parts, cases_eq, cases_lt, eq-eqb, eqb-true, and_cases, or_cases}
use Rattle.std.proofs.lemmas.List.{get_or-set_same, get_or-set_other, length-set}
use Rattle.bril_tree.specs.declared.numbered_function.Func.{Func}
use Rattle.bril_tree.specs.Typing.{variable_type}
use Rattle.variable_renaming.specs.Apart.{AreApart, HasShadow}
use Rattle.variable_renaming.specs.Clashes.{Clashes}
use Rattle.variable_renaming.specs.Classes.{MayJoin, class_of, source_at}
use Rattle.variable_renaming.proofs.Editing.{outside}
use Rattle.coalesce.specs.meaning.Linked.{AreLinked}
use Rattle.graph_search.specs.Marks.{is_marked}
use Rattle.coalesce.specs.Classes.{AreClashes, Fits, IsRoundState, Misfits, OtherType, TwoShadows, KeptApart, clash, is_source, shadows_joined}
use Rattle.coalesce.specs.declared.clashes.Clash.{Clash}

-- ---- lists

pub class-here : (class : List ℕ) (x k : ℕ) → x < length class → class_of (set class x k) x ≡ k
class-here class x k less = get_or-set_same class x k x less

pub class-other : (class : List ℕ) (x k z : ℕ) → (z ≡ x → ⊥) → class_of (set class x k) z ≡ class_of class z
class-other class x k z n = get_or-set_other class x z k z n

mark-other : (marks : List Bool) (x z : ℕ) (b : Bool) → (z ≡ x → ⊥) → is_marked (set marks x b) z ≡ is_marked marks z
mark-other marks x z b n = get_or-set_other marks x z b false n

mark-here : (marks : List Bool) (x : ℕ) (b : Bool) → x < length marks → is_marked (set marks x b) x ≡ b
mark-here marks x b less = get_or-set_same marks x b false less

marked-inside : (marks : List Bool) (x : ℕ) → is_marked marks x ≡ true → x < length marks
marked-inside marks x e = ⊎_elim (λ l. l) (λ high. absurd (let f : true ≡ false = sym e ∙ outside marks x false high in cc)) (cases_lt x (length marks))

-- false marks were false, or are those of the place
false-before : (marks : List Bool) (x z : ℕ) → is_marked (set marks x true) z ≡ false → x < length marks → (is_marked marks z ≡ false) × (z ≡ x → ⊥)
false-before marks x z e less = ⊎_elim (λ s. absurd (let k = mark-here marks x true less in let h = ap (is_marked (set marks x true)) s in let f : false ≡ true = sym e ∙ h ∙ k in cc)) (λ n. (sym (mark-other marks x z true n) ∙ e, n)) (cases_eq z x)

-- true marks were true
true-before : (marks : List Bool) (x z : ℕ) → is_marked (set marks x false) z ≡ true → (is_marked marks z ≡ true) × (z ≡ x → ⊥)
true-before marks x z e = ⊎_elim same (λ n. (sym (mark-other marks x z false n) ∙ e, n)) (cases_eq z x)
  where
    same : z ≡ x → (is_marked marks z ≡ true) × (z ≡ x → ⊥)
    same s =
        let inside = marked-inside (set marks x false) z e in
        let long = length-set marks x false in
        absurd (let k = mark-here marks x false (omega (arith, s)) in let h = ap (is_marked (set marks x false)) s in let f : true ≡ false = sym e ∙ h ∙ k in cc)

not-false : (a b : Bool) → (a && not b) ≡ false → a ≡ true → b ≡ true
not-false true true e h = refl
not-false true false e h = absurd cc
not-false false b e h = absurd cc

-- the variable of a copy that becomes one of a variable to itself
source-found : (class : List ℕ) (x k : ℕ) (o : Option ℕ) → is_source class x k o ≡ true → (z : ℕ) × (o ≡ Some z) × ((z ≡ x) ⊎ (class_of class z ≡ k))
source-found class x k None e = absurd cc
source-found class x k (Some z) e = (z, refl, ⊎_elim (λ h. inl (eqb-true z x h)) (λ h. inr (eqb-true (class_of class z) k h)) (or_cases (eqb z x) (eqb (class_of class z) k) e))

module _ (F : Func) (related : List Bool) (list : List Clash) (clashes : AreClashes F.code related list) (class : List ℕ) (alone shadow : List Bool) (joined : Bool) (s : IsRoundState F related class alone shadow joined) where
  module _ (x k : ℕ) (there : is_marked alone x ≡ true) (behind : F.args ≤ x) (names : class_of class k ≡ k) (inside : k < length F.vars) (differ : x ≢ k) (relates_x : is_marked related x ≡ true) (relates_k : is_marked related k ≡ true) (linked : AreLinked F x k) (fits : Fits F list class shadow x k) where
    abbrev new : List ℕ
    new = set class x k

    below : x < length class
    below = let h = marked-inside alone x there in let a = s.alone_long in let b = s.are.long in omega arith

    here : class_of new x ≡ k
    here = class-here class x k below

    other : (z : ℕ) → (z ≡ x → ⊥) → class_of new z ≡ class_of class z
    other z n = class-other class x k z n

    -- another variable of the class k
    of-class : (q : ℕ) → class_of class q ≡ k → (k ≡ q) ⊎ MayJoin F class k q
    of-class q e = ⊎_elim inl (λ n. inr (s.are.joined k q n (names ∙ sym e))) (cases_eq k q)

    related-q : (q : ℕ) → class_of class q ≡ k → is_marked related q ≡ true
    related-q q e = ⊎_elim (λ h. subst (λ n. is_marked related n ≡ true) h relates_k) (λ n. s.relates q k (λ h. n (sym h)) (e ∙ sym names)) (cases_eq k q)

    source-new : (z : ℕ) → (z ≡ x) ⊎ (class_of class z ≡ k) → class_of new z ≡ k
    source-new z h = ⊎_elim (λ e. ap (class_of new) e ∙ here) (λ n. ⊎_elim (λ e. absurd (n e)) (λ e. other z n ∙ e) h) (cases_eq z x)

    -- a clash of x with one of the class is at a copy
    spared : (item q : ℕ) → class_of class q ≡ k → Contains list (clash item x q) → (z : ℕ) × (source_at (slice_get F.code item) ≡ Some z) × (class_of new z ≡ k)
    spared item q e c =
        let h = fits.none (clash item x q) c refl in
        let source = source-found class x k (source_at (slice_get F.code item)) (not-false (eqb (class_of class q) k) (is_source class x k (source_at (slice_get F.code item))) h (eq-eqb (class_of class q) k e)) in
        (source.0, source.1, source-new source.0 source.2)

    no-shadows : (q : ℕ) → q < length F.vars → class_of class q ≡ k → HasShadow F.code x → HasShadow F.code q → ⊥
    no-shadows q low e a b =
        ⊎_elim
        (λ h. s.unshadowed x (subst (λ n. is_marked shadow n ≡ false) (sym (s.own x there)) h) (let l = below in let m = s.are.long in omega arith) a)
        (λ h. s.unshadowed q (subst (λ n. is_marked shadow n ≡ false) (sym e) h) low b)
        (and_cases (is_marked shadow x) (is_marked shadow k) fits.shadows)

    type-q : (q : ℕ) → class_of class q ≡ k → variable_type F.vars x ≡ variable_type F.vars q
    type-q q e = fits.types ∙ ⊎_elim (λ h. ap (variable_type F.vars) h) (λ m. m.types) (of-class q e)

    in-vars : (q : ℕ) → HasShadow F.code q → class_of class q ≡ k → q < length F.vars
    in-vars q h e = ⊎_elim (λ l. l) (λ high. absurd (high-shadow high)) (cases_lt q (length F.vars))
      where
        high-shadow : length F.vars ≤ q → ⊥
        high-shadow high = let own : class_of class q ≡ q = outside class q q (omega (arith, s.are.long)) in omega (arith, own, e, inside)

    with-x : (q : ℕ) → class_of class q ≡ k → MayJoin F new x q
    with-x q e = record {
      types = type-q q e;
      shadows = λ a b. no-shadows q (in-vars q b e) e a b;
      spares = λ item c. let z = spared item q e (clashes.all item x q relates_x (related-q q e) c).0 in (z.0, z.1, z.2 ∙ sym here);
    }

    x-with : (p : ℕ) → (p ≡ x → ⊥) → class_of class p ≡ k → MayJoin F new p x
    x-with p n e = record {
      types = sym (type-q p e);
      shadows = λ a b. no-shadows p (in-vars p a e) e b a;
      spares = λ item c. let z = spared item p e (clashes.all item p x (related-q p e) relates_x c).1 in (z.0, z.1, z.2 ∙ sym (other p n ∙ e));
    }

    as-before : (p q : ℕ) → (p ≡ x → ⊥) → MayJoin F class p q → MayJoin F new p q
    as-before p q n m = record {
      types = m.types;
      shadows = m.shadows;
      spares = λ item c.
          let z = m.spares item c in
          let differs : z.0 ≡ x → ⊥ = λ e. n (s.single x p there (sym z.2 ∙ ap (class_of class) e ∙ s.own x there)) in
          (z.0, z.1, other z.0 differs ∙ z.2 ∙ sym (other p n));
    }

    new-joined : (p q : ℕ) → p ≢ q → class_of new p ≡ class_of new q → MayJoin F new p q
    new-joined p q d e = ⊎_elim first (λ n. ⊎_elim (second n) (neither n) (cases_eq q x)) (cases_eq p x)
      where
        first : p ≡ x → MayJoin F new p q
        first h =
            let n : q ≡ x → ⊥ = λ g. d (h ∙ sym g) in
            subst (λ y. MayJoin F new y q) (sym h) (with-x q (sym (other q n) ∙ sym e ∙ ap (class_of new) h ∙ here))

        second : (p ≡ x → ⊥) → q ≡ x → MayJoin F new p q
        second n h = subst (MayJoin F new p) (sym h) (x-with p n (sym (other p n) ∙ e ∙ ap (class_of new) h ∙ here))

        neither : (p ≡ x → ⊥) → (q ≡ x → ⊥) → MayJoin F new p q
        neither n m = as-before p q n (s.are.joined p q d (sym (other p n) ∙ e ∙ other q m))

    abbrev marks : List Bool
    marks = set (set alone x false) k false

    was-alone : (z : ℕ) → is_marked marks z ≡ true → (is_marked alone z ≡ true) × (z ≡ x → ⊥) × (z ≡ k → ⊥)
    was-alone z e = let a = true-before (set alone x false) k z e in let b = true-before alone x z a.0 in (b.0, b.1, a.1)

    was-unshadowed : (z : ℕ) → is_marked (shadows_joined shadow x k) z ≡ false → (is_marked shadow z ≡ false) × (z ≡ k → is_marked shadow x ≡ false)
    was-unshadowed z e = by (is_marked shadow x) refl
      where
        by : (b : Bool) → is_marked shadow x ≡ b → (is_marked shadow z ≡ false) × (z ≡ k → is_marked shadow x ≡ false)
        by true h = let f = false-before shadow k z (ap (λ c. is_marked (cond c (set shadow k true) shadow) z) (sym h) ∙ e) (let l = s.shadow_long in omega arith) in (f.0, λ g. absurd (f.1 g))
        by false h = (ap (λ c. is_marked (cond c (set shadow k true) shadow) z) (sym h) ∙ e, λ g. h)

    -- x is put into the class k
    pub put-state : IsRoundState F related (set class x k) (set (set alone x false) k false) (shadows_joined shadow x k) true
    put-state = record {
      are = record {
        long = length-set class x k ∙ s.are.long;
        inside = λ z low. ⊎_elim (λ e. subst (λ n. n < length F.vars) (sym (ap (class_of new) e ∙ here)) inside) (λ n. subst (λ m. m < length F.vars) (sym (other z n)) (s.are.inside z low)) (cases_eq z x);
        arguments = λ z low. other z (λ e. omega (arith, e)) ∙ s.are.arguments z low;
        named = new-named;
        joined = new-joined;
      };
      linked = λ z. ⊎_elim (λ e. subst (λ n. AreLinked F n (class_of new n)) (sym e) (subst (AreLinked F x) (sym here) linked)) (λ n. subst (AreLinked F z) (sym (other z n)) (s.linked z)) (cases_eq z x);
      alone_long = length-set (set alone x false) k false ∙ length-set alone x false ∙ s.alone_long;
      shadow_long = long-shadow (is_marked shadow x);
      own = λ z e. let w = was-alone z e in other z w.1 ∙ s.own z w.0;
      single = λ z y e c. let w = was-alone z e in ⊎_elim (λ h. absurd (w.2 (sym c ∙ ap (class_of new) h ∙ here))) (λ n. s.single z y w.0 (sym (other y n) ∙ c)) (cases_eq y x);
      relates = λ p q d e. ⊎_elim (λ h. subst (λ n. is_marked related n ≡ true) (sym h) relates_x) (λ n. ⊎_elim (λ h. related-q p (sym (other p n) ∙ e ∙ ap (class_of new) h ∙ here)) (λ m. s.relates p q d (sym (other p n) ∙ e ∙ other q m)) (cases_eq q x)) (cases_eq p x);
      unshadowed = λ z e low h. ⊎_elim
          (λ g. let w = was-unshadowed k (subst (λ n. is_marked (shadows_joined shadow x k) n ≡ false) (ap (class_of new) g ∙ here) e) in
          s.unshadowed z (subst (λ n. is_marked shadow n ≡ false) (sym (ap (class_of class) g ∙ s.own x there)) (w.1 refl)) low h)
          (λ n. s.unshadowed z (was-unshadowed (class_of class z) (subst (λ m. is_marked (shadows_joined shadow x k) m ≡ false) (other z n) e)).0 low h)
          (cases_eq z x);
      apart = λ e. absurd cc;
      all_alone = λ e. absurd cc;
      shadowed = λ e. absurd cc;
    }
      where
        long-shadow : (b : Bool) → length (cond b (set shadow k true) shadow) ≡ length F.vars
        long-shadow true = length-set shadow k true ∙ s.shadow_long
        long-shadow false = s.shadow_long

        new-named : (z : ℕ) → class_of new (class_of new z) ≡ class_of new z
        new-named z = ⊎_elim at_x elsewhere (cases_eq z x)
          where
            at_x : z ≡ x → class_of new (class_of new z) ≡ class_of new z
            at_x e = let c : class_of new z ≡ k = ap (class_of new) e ∙ here in ap (class_of new) c ∙ other k (λ h. differ (sym h)) ∙ names ∙ sym c

            elsewhere : (z ≡ x → ⊥) → class_of new (class_of new z) ≡ class_of new z
            elsewhere n =
                let c = other z n in
                let d : class_of class z ≡ x → ⊥ = λ e. n (s.single x z there e) in
                ap (class_of new) c ∙ other (class_of class z) d ∙ s.are.named z ∙ sym c

  -- ---- where nothing was joined

  module _ (nothing : joined ≡ false) where
    apart-sym : (x y : ℕ) → AreApart F x y → AreApart F y x
    apart-sym x y a = record { types = sym a.types; arguments = λ h k. a.arguments k h; shadows = λ h k. a.shadows k h; first = a.second; second = a.first }

    -- a variable that may not get the name of another is not apart from it
    pub misfits-apart : (x y : ℕ) → Misfits F list class shadow x (class_of class y) → AreApart F x y → ⊥
    misfits-apart x y (OtherType n) a = n (a.types ∙ ap (variable_type F.vars) (sym (s.apart nothing y)))
    misfits-apart x y (TwoShadows b c) a = a.shadows (s.shadowed nothing x b) (subst (HasShadow F.code) (s.apart nothing y) (s.shadowed nothing (class_of class y) c))
    misfits-apart x y (KeptApart k) a =
        let c = k.0 in
        let parts = and_parts (eqb (class_of class c.other) (class_of class y)) (not (is_source class c.one (class_of class y) (source_at (slice_get F.code c.item)))) k.3 in
        let same : c.other ≡ y = sym (s.apart nothing c.other) ∙ eqb-true (class_of class c.other) (class_of class y) parts.0 ∙ s.apart nothing y in
        ⊎_elim
        (λ h. let g = subst (λ n. Clashes F.code c.item n c.other) k.2 h in let f = subst (Clashes F.code c.item x) same g in a.first.assigned c.item f.instr f.reached f.at f.dest f.other f.live)
        (λ h. let g = subst (Clashes F.code c.item c.other) k.2 h in let f = subst (λ n. Clashes F.code c.item n x) same g in a.second.assigned c.item f.instr f.reached f.at f.dest f.other f.live)
        (clashes.only c k.1)

    pub misfits-other : (x y : ℕ) → Misfits F list class shadow y (class_of class x) → AreApart F x y → ⊥
    misfits-other x y m a = misfits-apart y x m (apart-sym x y a)
