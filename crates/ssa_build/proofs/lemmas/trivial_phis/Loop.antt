-- The loop over trivial `get`s keeps what it knows where classes stay or are joined.
use Rattle.std.proofs.Common.{◌≡◌, ◌≢◌, ◌⊎◌, ℕ, zero, suc, ◌+◌, ◌-◌, ◌<◌, ◌≤◌, Bool, true, false, List, [], ◌∷◌, ◌++◌, length, map, Option, Some, None, get_or, refl, sym, ap, subst, ◌∙◌, inl, inr, ⊎_elim, cond, arith}
use Rattle.std.specs.Prelude.{slice_index, slice_index_or, ◌==◌, if◌then◌else◌, All}
use Rattle.std.specs.List.{Contains}
use Rattle.std.proofs.Math.ListN.{set, length-set}
use Rattle.std.proofs.lemmas.Bool.{eq-eqb, cases_lt, cases_eq, ne_eqb}
use Rattle.std.proofs.lemmas.List.{length-map}
use Rattle.std.proofs.lemmas.List.Elements.{All-get_or}
use Rattle.std.proofs.lemmas.List.{get_or-set_same, get_or-set_other}
use Rattle.ssa_build.specs.declared.trivial_phis.operands.Operand.{Operand}
use Rattle.ssa_build.specs.trivial_phis.Classes.{ClassesView, count_of, find_in, SameClasses, Joined}
use Rattle.graph_search.specs.Adjacency.{EndsRow}
use Rattle.ssa_build.specs.trivial_phis.Trivial.{OperandsView, Sets, keys_of, sources_of, IsLooked, IsResolved, IsWork, HasTwo, Stays, standing, Passes, Own, First, Again, Differs}

module _ (v : OperandsView) (base : ℕ) (bounded : (t z : ℕ) → Sets v t z → z < base + v.gets) (placed : (place : ℕ) → place < length v.list → slice_index (sources_of v) place < base + v.gets) where
  -- what stands is told by a function of what stood
  module _ (φ find find' : ℕ → ℕ) (moved : (d : ℕ) → d < base + v.gets → find' d ≡ φ (find d)) where
    pub looked-moved : (t end : ℕ) (first : Option ℕ) → φ (base + t) ≡ base + t → IsLooked v base find t end first → IsLooked v base find' t end first
    looked-moved t end first fixes h = record {
      bound = h.bound;
      ends = h.ends;
      within = h.within;
      first_is = h.first_is;
      passed = λ place from less key. by place less (h.passed place from less key);
    }
      where
        by : (place : ℕ) → place < length v.list → (find (slice_index (sources_of v) place) ≡ base + t) ⊎ ((w : ℕ) × (first ≡ Some w) × (find (slice_index (sources_of v) place) ≡ find w)) → (find' (slice_index (sources_of v) place) ≡ base + t) ⊎ ((w : ℕ) × (first ≡ Some w) × (find' (slice_index (sources_of v) place) ≡ find' w))
        by place less (inl e) = inl (moved (slice_index (sources_of v) place) (placed place less) ∙ ap φ e ∙ fixes)
        by place less (inr w) = inr (w.0, w.1, moved (slice_index (sources_of v) place) (placed place less) ∙ ap φ w.2 ∙ sym (moved w.0 (bounded t w.0 (h.first_is w.0 w.1))))

  module _ (c c' : ClassesView) (gone : List Bool) (ends : List ℕ) (firsts : List (Option ℕ)) (h : IsWork v base c gone ends firsts) where
    -- the classes stay
    pub work-same : SameClasses c c' → IsWork v base c' gone ends firsts
    work-same s = record {
      count = s.count ∙ h.count;
      long = h.long;
      ends_long = h.ends_long;
      firsts_long = h.firsts_long;
      marks = λ t less e. same (base + t) (omega arith) ∙ h.marks t less e;
      marked = λ t less e k. h.marked t less e (sym (same (base + t) (omega arith)) ∙ k);
      fixed = λ d less. same d (omega arith) ∙ h.fixed d less;
      own = λ d less. ap (find_in c') (same d less) ∙ same (find_in c d) (found d less) ∙ h.own d less ∙ sym (same d less);
      left_out = λ t z less e k. same z (bounded t z k) ∙ h.left_out t z less e k ∙ sym (same (base + t) (omega arith));
      looked = λ t less e. looked-moved (λ r. r) (find_in c) (find_in c') same t (slice_index ends t) (slice_index_or firsts t None) refl (h.looked t less e);
      found = λ d less. subst (λ r. r < base + v.gets) (sym (same d less)) (h.found d less);
    }
      where
        same : (d : ℕ) → d < base + v.gets → find_in c' d ≡ find_in c d
        same d less = s.find d (let k = h.count in omega (arith, less, k))

        found : (d : ℕ) → d < base + v.gets → find_in c d < base + v.gets
        found = h.found

    -- a `get` whose operands all stand for it or for z has joined the class of z
    module _ (t z : ℕ) (less : t < v.gets) (stood : slice_index_or gone t false ≡ false) (inside : z < base + v.gets) (other : z ≢ base + t) (z_stands : find_in c z ≡ z) (trivial : (d : ℕ) → Sets v t d → (find_in c d ≡ base + t) ⊎ (find_in c d ≡ z)) (j : Joined (base + t) z c c') where
      y : ℕ
      y = base + t

      abbrev φ : ℕ → ℕ
      φ r = if r == base + t then z else r

      moved : (d : ℕ) → d < base + v.gets → find_in c' d ≡ φ (find_in c d)
      moved d l = j.find d (let k = h.count in omega (arith, l, k))

      φ-own : φ (base + t) ≡ z
      φ-own = ap (λ b. cond b z (base + t)) (eq-eqb (base + t) (base + t) refl)

      φ-other : (r : ℕ) → r ≢ base + t → φ r ≡ r
      φ-other r n = ap (λ b. cond b z r) (ne_eqb r (base + t) n)

      z_now : find_in c' z ≡ z
      z_now = moved z inside ∙ ap φ z_stands ∙ φ-other z other

      y_stood : find_in c (base + t) ≡ base + t
      y_stood = h.marks t less stood

      marks-other : (u : ℕ) → u ≢ t → slice_index_or (set gone t true) u false ≡ slice_index_or gone u false
      marks-other u n = get_or-set_other gone t u true false n

      marks-own : slice_index_or (set gone t true) t false ≡ true
      marks-own = get_or-set_same gone t true false (let k = h.long in omega (arith, k, less))

      pub work-joined : IsWork v base c' (set gone t true) ends firsts
      work-joined = record {
        count = j.count ∙ h.count;
        long = length-set gone t true ∙ h.long;
        ends_long = h.ends_long;
        firsts_long = h.firsts_long;
        marks = λ u l e. ⊎_elim (λ k. absurd (let q : true ≡ false = sym marks-own ∙ ap (λ x. slice_index_or (set gone t true) x false) (sym k) ∙ e in cc))
            (λ n. moved (base + u) (omega arith) ∙ ap φ (h.marks u l (sym (marks-other u n) ∙ e)) ∙ φ-other (base + u) (λ q. n (omega (arith, q)))) (cases_eq u t);
        marked = λ u l e k. ⊎_elim (λ q. own-gone u q k) (λ n. other-gone u l (sym (marks-other u n) ∙ e) k) (cases_eq u t);
        fixed = λ d l. moved d (omega arith) ∙ ap φ (h.fixed d l) ∙ φ-other d (λ q. omega (arith, q, l));
        own = λ d l. owns d l (cases_eq (find_in c d) (base + t));
        left_out = λ u d l e k. ⊎_elim (λ q. own-left d (subst (λ x. Sets v x d) q k) ∙ sym (ap (λ x. find_in c' (base + x)) q ∙ y-now)) (λ n. moved d (bounded u d k) ∙ ap φ (h.left_out u d l (sym (marks-other u n) ∙ e) k) ∙ sym (moved (base + u) (omega arith))) (cases_eq u t);
        looked = λ u l e. ⊎_elim (λ k. absurd (let q : true ≡ false = sym marks-own ∙ ap (λ x. slice_index_or (set gone t true) x false) (sym k) ∙ e in cc))
            (λ n. looked-moved φ (find_in c) (find_in c') moved u (slice_index ends u) (slice_index_or firsts u None) (φ-other (base + u) (λ q. n (omega (arith, q)))) (h.looked u l (sym (marks-other u n) ∙ e))) (cases_eq u t);
        found = λ d l. subst (λ r. r < base + v.gets) (sym (moved d l)) (within d l (cases_eq (find_in c d) (base + t)));
      }
        where
          y-now : find_in c' (base + t) ≡ z
          y-now = moved (base + t) (omega arith) ∙ ap φ y_stood ∙ φ-own

          own-gone : (u : ℕ) → u ≡ t → find_in c' (base + u) ≡ base + u → ⊥
          own-gone u q k = other (sym y-now ∙ ap (λ x. find_in c' (base + x)) (sym q) ∙ k ∙ ap (λ x. base + x) q)

          other-gone : (u : ℕ) → u < v.gets → slice_index_or gone u false ≡ true → find_in c' (base + u) ≡ base + u → ⊥
          other-gone u l e k = by (cases_eq (find_in c (base + u)) (base + t))
            where
              was : find_in c (base + u) ≢ base + u
              was = h.marked u l e

              by : (find_in c (base + u) ≡ base + t) ⊎ (find_in c (base + u) ≢ base + t) → ⊥
              by (inl q) = let p : z ≡ base + u = sym φ-own ∙ ap φ (sym q) ∙ sym (moved (base + u) (omega arith)) ∙ k in was (ap (find_in c) (sym p) ∙ z_stands ∙ p)
              by (inr n) = was (sym (φ-other (find_in c (base + u)) n) ∙ sym (moved (base + u) (omega arith)) ∙ k)

          owns : (d : ℕ) → d < base + v.gets → (find_in c d ≡ base + t) ⊎ (find_in c d ≢ base + t) → find_in c' (find_in c' d) ≡ find_in c' d
          owns d l (inl q) = let p : find_in c' d ≡ z = moved d l ∙ ap φ q ∙ φ-own in ap (find_in c') p ∙ z_now ∙ sym p
          owns d l (inr n) = let p : find_in c' d ≡ find_in c d = moved d l ∙ φ-other (find_in c d) n in ap (find_in c') p ∙ moved (find_in c d) (h.found d l) ∙ ap φ (h.own d l) ∙ φ-other (find_in c d) n ∙ sym p

          own-left : (d : ℕ) → Sets v t d → find_in c' d ≡ z
          own-left d k = ⊎_elim (λ e. moved d (bounded t d k) ∙ ap φ e ∙ φ-own) (λ e. moved d (bounded t d k) ∙ ap φ e ∙ φ-other z other) (trivial d k)

          within : (d : ℕ) → d < base + v.gets → (find_in c d ≡ base + t) ⊎ (find_in c d ≢ base + t) → φ (find_in c d) < base + v.gets
          within d l (inl q) = subst (λ r. r < base + v.gets) (sym (ap φ q ∙ φ-own)) inside
          within d l (inr n) = subst (λ r. r < base + v.gets) (sym (φ-other (find_in c d) n)) (h.found d l)

-- ---- operands by their places

more : {X : Type 0} (x y : X) (xs : List X) → Contains xs x → Contains (y ∷ xs) x
more x y xs c = (suc c.0, (let l = c.1 in omega (arith, l)), c.2)

key-at : (list : List Operand) (place t : ℕ) → place < length list → slice_index (map (λ (o : Operand). o.get) list) place ≡ t → Contains list (record { get = t; from = slice_index (map (λ (o : Operand). o.from) list) place })
key-at [] place t less e = absurd (omega arith)
key-at (o ∷ list) zero t less e = (0, omega arith, ap (λ k. record { get = k; from = o.from }) e)
key-at (o ∷ list) (suc place) t less e = more (record { get = t; from = slice_index (map (λ (q : Operand). q.from) list) place }) o list (key-at list place t (omega arith) e)

pub set-at : (v : OperandsView) (place t : ℕ) → place < length v.list → slice_index (keys_of v) place ≡ t → Sets v t (slice_index (sources_of v) place)
set-at v place t less e = key-at v.list place t less e

pub record PlaceOf (v : OperandsView) (t z : ℕ) : Type 0 where
  pub place : ℕ
  pub within : place < length v.list
  pub key : slice_index (keys_of v) place ≡ t
  pub is : slice_index (sources_of v) place ≡ z

at-place : (list : List Operand) (k : ℕ) (d : Operand) → k < length list → (slice_index (map (λ (o : Operand). o.get) list) k ≡ (get_or list k d).get) × (slice_index (map (λ (o : Operand). o.from) list) k ≡ (get_or list k d).from)
at-place [] k d less = absurd (omega arith)
at-place (o ∷ list) zero d less = (refl, refl)
at-place (o ∷ list) (suc k) d less = at-place list k d (omega arith)

pub place-of : (v : OperandsView) (t z : ℕ) → Sets v t z → PlaceOf v t z
place-of v t z h =
    let a = at-place v.list h.0 (record { get = t; from = z }) h.1 in
    record { place = h.0; within = h.1; key = a.0 ∙ ap (λ (o : Operand). o.get) h.2; is = a.1 ∙ ap (λ (o : Operand). o.from) h.2 }

pub placed-of : (v : OperandsView) (n : ℕ) → All (λ from. from < n) (sources_of v) → (place : ℕ) → place < length v.list → slice_index (sources_of v) place < n
placed-of v n within place less = All-get_or (λ x. x < n) (sources_of v) place 0 (let l = length-map v.list (λ (o : Operand). o.from) in omega (arith, l, less)) within

pub bounded-of : (v : OperandsView) (n : ℕ) → All (λ from. from < n) (sources_of v) → (t z : ℕ) → Sets v t z → z < n
bounded-of v n within t z h = let p = place-of v t z h in subst (λ x. x < n) p.is (placed-of v n within p.place p.within)

-- ---- a look

module _ (v : OperandsView) (base : ℕ) (inside : All (λ from. from < base + v.gets) (sources_of v)) where
  abbrev bounded : (t z : ℕ) → Sets v t z → z < base + v.gets
  bounded = bounded-of v (base + v.gets) inside

  abbrev placed : (place : ℕ) → place < length v.list → slice_index (sources_of v) place < base + v.gets
  placed = placed-of v (base + v.gets) inside

  -- one operand more is passed
  pub look-passes : (find : ℕ → ℕ) (t end end' : ℕ) (first first' : Option ℕ) → IsLooked v base find t end first → 0 < end → Passes find (base + t) (slice_index (sources_of v) (end - 1)) first first' → EndsRow (keys_of v) (slice_index (keys_of v) (end - 1)) (end - 1) end' → IsLooked v base find t end' first'
  look-passes find t end end' first first' h some p e = record {
    bound = end - 1;
    ends = subst (λ k. EndsRow (keys_of v) k (end - 1) end') key e;
    within = (let a = h.ends.within in let b = h.within in omega (arith, a, b));
    first_is = first_is p;
    passed = λ place from less k. by place less k (cases_lt place (end - 1)) from;
  }
    where
      last : end - 1 < length v.list
      last = let a = h.ends.within in let b = h.within in omega (arith, a, b, some)

      key : slice_index (keys_of v) (end - 1) ≡ t
      key = h.ends.stands (end - 1) (omega (arith, some))

      here : Sets v t (slice_index (sources_of v) (end - 1))
      here = set-at v (end - 1) t last key

      first_is : Passes find (base + t) (slice_index (sources_of v) (end - 1)) first first' → (w : ℕ) → first' ≡ Some w → Sets v t w
      first_is (Own q s) w e = h.first_is w (sym s ∙ e)
      first_is (First q s) w e = subst (Sets v t) (let k : slice_index (sources_of v) (end - 1) ≡ w = cc in k) here
      first_is (Again u o q s) w e = h.first_is w (sym s ∙ e)

      kept : (x : ℕ) → Passes find (base + t) (slice_index (sources_of v) (end - 1)) first first' → (find x ≡ base + t) ⊎ ((w : ℕ) × (first ≡ Some w) × (find x ≡ find w)) → (find x ≡ base + t) ⊎ ((w : ℕ) × (first' ≡ Some w) × (find x ≡ find w))
      kept x p (inl k) = inl k
      kept x (Own q s) (inr w) = inr (w.0, s ∙ w.1, w.2)
      kept x (First q s) (inr w) = inl (w.2 ∙ q w.0 w.1)
      kept x (Again u o q s) (inr w) = inr (w.0, s ∙ w.1, w.2)

      new : Passes find (base + t) (slice_index (sources_of v) (end - 1)) first first' → (find (slice_index (sources_of v) (end - 1)) ≡ base + t) ⊎ ((w : ℕ) × (first' ≡ Some w) × (find (slice_index (sources_of v) (end - 1)) ≡ find w))
      new (Own q s) = inl q
      new (First q s) = inr (slice_index (sources_of v) (end - 1), s, refl)
      new (Again u o q s) = inr (u, s ∙ o, q)

      by : (place : ℕ) → place < length v.list → slice_index (keys_of v) place ≡ t → (place < end - 1) ⊎ (end - 1 ≤ place) → end' ≤ place → (find (slice_index (sources_of v) place) ≡ base + t) ⊎ ((w : ℕ) × (first' ≡ Some w) × (find (slice_index (sources_of v) place) ≡ find w))
      by place less k (inl l) from = absurd (e.last place from l (k ∙ sym key))
      by place less k (inr l) from = at (cases_lt (end - 1) place)
        where
          at : (end - 1 < place) ⊎ (place ≤ end - 1) → (find (slice_index (sources_of v) place) ≡ base + t) ⊎ ((w : ℕ) × (first' ≡ Some w) × (find (slice_index (sources_of v) place) ≡ find w))
          at (inl m) = kept (slice_index (sources_of v) place) p (h.passed place (omega (arith, m)) less k)
          at (inr m) = let q : end - 1 ≡ place = omega (arith, l, m) in subst (λ x. (find (slice_index (sources_of v) x) ≡ base + t) ⊎ ((w : ℕ) × (first' ≡ Some w) × (find (slice_index (sources_of v) x) ≡ find w))) q (new p)

  -- a second operand was found
  pub look-stops : (find : ℕ → ℕ) (t end : ℕ) (first : Option ℕ) → IsLooked v base find t end first → 0 < end → Differs find (base + t) (slice_index (sources_of v) (end - 1)) first → HasTwo v base find t
  look-stops find t end first h some d = record {
    first = d.other;
    second = slice_index (sources_of v) (end - 1);
    is_first = h.first_is d.other d.is;
    is_second = set-at v (end - 1) t (let a = h.ends.within in let b = h.within in omega (arith, a, b, some)) (h.ends.stands (end - 1) (omega (arith, some)));
    differ = d.differ;
    other_first = d.first_not_own;
    other_second = d.not_own;
  }

  -- all operands were passed
  pub look-ends : (find : ℕ → ℕ) (t end : ℕ) (first : Option ℕ) → IsLooked v base find t end first → end ≡ 0 → (z : ℕ) → Sets v t z → (find z ≡ base + t) ⊎ ((w : ℕ) × (first ≡ Some w) × (find z ≡ find w))
  look-ends find t end first h e z s =
      let p = place-of v t z s in
      subst (λ x. (find x ≡ base + t) ⊎ ((w : ℕ) × (first ≡ Some w) × (find x ≡ find w))) p.is (h.passed p.place (omega (arith, e)) p.within p.key)

  pub look-own : (find : ℕ → ℕ) (t end : ℕ) (first : Option ℕ) → IsLooked v base find t end first → end ≡ 0 → ((w : ℕ) → first ≡ Some w → find w ≡ base + t) → (z : ℕ) → Sets v t z → find z ≡ base + t
  look-own find t end first h e own z s = ⊎_elim (λ k. k) (λ w. w.2 ∙ own w.0 w.1) (look-ends find t end first h e z s)

  module _ (c c' : ClassesView) (count : count_of c ≡ base + v.gets) (same : SameClasses c c') where
    find-same : (d : ℕ) → d < base + v.gets → find_in c' d ≡ find_in c d
    find-same d l = same.find d (omega (arith, l, count))

    pub looked-same : (t end : ℕ) (first : Option ℕ) → IsLooked v base (find_in c) t end first → IsLooked v base (find_in c') t end first
    looked-same t end first h = looked-moved v base bounded placed (λ r. r) (find_in c) (find_in c') find-same t end first refl h

    pub differs-same : (y from : ℕ) (first first' : Option ℕ) → from < base + v.gets → ((w : ℕ) → first ≡ Some w → w < base + v.gets) → first' ≡ first → Differs (find_in c) y from first → Differs (find_in c') y from first'
    differs-same y from first first' less lessw e d = record {
      other = d.other;
      is = e ∙ d.is;
      not_own = λ k. d.not_own (sym (find-same from less) ∙ k);
      first_not_own = λ k. d.first_not_own (sym (find-same d.other (lessw d.other d.is)) ∙ k);
      differ = λ k. d.differ (sym (find-same d.other (lessw d.other d.is)) ∙ k ∙ find-same from less);
    }

    pub stays-same : (t : ℕ) → Stays v base (find_in c) t → Stays v base (find_in c') t
    stays-same t (inl h) = inl (record {
      first = h.first;
      second = h.second;
      is_first = h.is_first;
      is_second = h.is_second;
      differ = λ k. h.differ (sym (find-same h.first (bounded t h.first h.is_first)) ∙ k ∙ find-same h.second (bounded t h.second h.is_second));
      other_first = λ k. h.other_first (sym (find-same h.first (bounded t h.first h.is_first)) ∙ k);
      other_second = λ k. h.other_second (sym (find-same h.second (bounded t h.second h.is_second)) ∙ k);
    })
    stays-same t (inr h) = inr (λ z s. find-same z (bounded t z s) ∙ h z s)

  -- where a look stopped is noted
  pub work-looked : (c : ClassesView) (gone : List Bool) (ends : List ℕ) (firsts : List (Option ℕ)) (t end : ℕ) (first : Option ℕ) → IsWork v base c gone ends firsts → t < v.gets → IsLooked v base (find_in c) t end first → IsWork v base c gone (set ends t end) (set firsts t first)
  work-looked c gone ends firsts t end first h less look = record {
    count = h.count;
    long = h.long;
    ends_long = length-set ends t end ∙ h.ends_long;
    firsts_long = length-set firsts t first ∙ h.firsts_long;
    marks = h.marks;
    marked = h.marked;
    fixed = h.fixed;
    own = h.own;
    found = h.found;
    left_out = h.left_out;
    looked = λ u l e. by u l e (cases_eq u t);
  }
    where
      by : (u : ℕ) → u < v.gets → slice_index_or gone u false ≡ false → (u ≡ t) ⊎ (u ≢ t) → IsLooked v base (find_in c) u (slice_index (set ends t end) u) (slice_index_or (set firsts t first) u None)
      by u l e (inl k) =
          let a : slice_index (set ends t end) u ≡ end = ap (slice_index (set ends t end)) k ∙ get_or-set_same ends t end 0 (let n = h.ends_long in omega (arith, n, less)) in
          let b : slice_index_or (set firsts t first) u None ≡ first = ap (λ x. slice_index_or (set firsts t first) x None) k ∙ get_or-set_same firsts t first None (let n = h.firsts_long in omega (arith, n, less)) in
          subst (λ x. IsLooked v base (find_in c) x (slice_index (set ends t end) u) (slice_index_or (set firsts t first) u None)) (sym k)
          (subst (λ x. IsLooked v base (find_in c) t x (slice_index_or (set firsts t first) u None)) (sym a) (subst (IsLooked v base (find_in c) t end) (sym b) look))
      by u l e (inr n) =
          subst (λ x. IsLooked v base (find_in c) u x (slice_index_or (set firsts t first) u None)) (sym (get_or-set_other ends t u end 0 n))
          (subst (IsLooked v base (find_in c) u (slice_index ends u)) (sym (get_or-set_other firsts t u first None n)) (h.looked u l e))

  -- a look, from one state to another
  pub look-work : (c c' : ClassesView) (gone gone' : List Bool) (ends ends' : List ℕ) (firsts firsts' : List (Option ℕ)) (t end : ℕ) (first : Option ℕ) → IsWork v base c gone ends firsts → SameClasses c c' → gone' ≡ gone → ends' ≡ ends → firsts' ≡ firsts → t < v.gets → IsLooked v base (find_in c') t end first
      → IsWork v base c' gone' (set ends' t end) (set firsts' t first)
  look-work c c' gone gone' ends ends' firsts firsts' t end first h same g e f less look =
      subst (λ x. IsWork v base c' x (set ends' t end) (set firsts' t first)) (sym g) (subst (λ x. IsWork v base c' gone (set x t end) (set firsts' t first)) (sym e) (subst (λ x. IsWork v base c' gone (set ends t end) (set x t first)) (sym f)
      (work-looked c' gone ends firsts t end first (work-same v base bounded placed c c' gone ends firsts h same) less look)))

  -- a call that left all but the classes as it was
  pub work-on : (c c' : ClassesView) (gone gone' : List Bool) (ends ends' : List ℕ) (firsts firsts' : List (Option ℕ)) → IsWork v base c gone ends firsts → SameClasses c c' → (gone' ≡ gone) × (ends' ≡ ends) × (firsts' ≡ firsts) → IsWork v base c' gone' ends' firsts'
  work-on c c' gone gone' ends ends' firsts firsts' h same (g, e, f) =
      subst (λ x. IsWork v base c' x ends' firsts') (sym g) (subst (λ x. IsWork v base c' gone x firsts') (sym e) (subst (λ x. IsWork v base c' gone ends x) (sym f) (work-same v base bounded placed c c' gone ends firsts h same)))

  -- a `get` is left out
  pub leave-work : (c c' c'' : ClassesView) (gone gone'' : List Bool) (ends ends'' : List ℕ) (firsts firsts'' : List (Option ℕ)) (t z : ℕ) → IsWork v base c gone ends firsts → t < v.gets → slice_index_or gone t false ≡ false → z < base + v.gets
      → (z ≢ base + t) × (find_in c z ≡ z) × ((d : ℕ) → Sets v t d → (find_in c d ≡ base + t) ⊎ (find_in c d ≡ z)) → Joined (base + t) z c c' → c'' ≡ c' → (gone'' ≡ set gone t true) × (ends'' ≡ ends) × (firsts'' ≡ firsts) → IsWork v base c'' gone'' ends'' firsts''
  leave-work c c' c'' gone gone'' ends ends'' firsts firsts'' t z h less stood zl (other, zs, trivial) j same (g, e, f) =
      subst (λ x. IsWork v base x gone'' ends'' firsts'') (sym same) (subst (λ x. IsWork v base c' x ends'' firsts'') (sym g) (subst (λ x. IsWork v base c' (set gone t true) x firsts'') (sym e) (subst (λ x. IsWork v base c' (set gone t true) ends x) (sym f)
      (work-joined v base bounded placed c c' gone ends firsts h t z less stood zl other zs trivial j))))

  -- what the last round found
  pub resolved-of : (c : ClassesView) (gone : List Bool) (ends : List ℕ) (firsts : List (Option ℕ)) (list : List ℕ) → IsWork v base c gone ends firsts → ((t : ℕ) → t < v.gets → slice_index_or gone t false ≡ false → Stays v base (find_in c) t)
      → ((d : ℕ) → d < count_of c → slice_index list d ≡ find_in c d) → IsResolved v base (λ d. slice_index list d)
  resolved-of c gone ends firsts list h stays found = record {
    fixed = λ d l. at d (omega arith) ∙ h.fixed d l;
    within = λ d l. subst (λ x. x < base + v.gets) (sym (at d l)) (h.found d l);
    own = λ d l. ap (slice_index list) (at d l) ∙ at (find_in c d) (h.found d l) ∙ h.own d l ∙ sym (at d l);
    gone = λ t z l n s. at z (bounded t z s) ∙ h.left_out t z l (marked t l n (slice_index_or gone t false) refl) s ∙ sym (at (base + t) (omega arith));
    left = λ t l e. moved t (stays t l (unmarked t l e (slice_index_or gone t false) refl));
  }
    where
      at : (d : ℕ) → d < base + v.gets → slice_index list d ≡ find_in c d
      at d l = found d (let k = h.count in omega (arith, l, k))

      marked : (t : ℕ) → t < v.gets → (slice_index list (base + t) ≢ base + t) → (b : Bool) → slice_index_or gone t false ≡ b → slice_index_or gone t false ≡ true
      marked t l n true e = e
      marked t l n false e = absurd (n (at (base + t) (omega arith) ∙ h.marks t l e))

      unmarked : (t : ℕ) → t < v.gets → slice_index list (base + t) ≡ base + t → (b : Bool) → slice_index_or gone t false ≡ b → slice_index_or gone t false ≡ false
      unmarked t l n false e = e
      unmarked t l n true e = absurd (h.marked t l e (sym (at (base + t) (omega arith)) ∙ n))

      moved : (t : ℕ) → Stays v base (find_in c) t → Stays v base (λ d. slice_index list d) t
      moved t (inl k) = inl (record {
        first = k.first;
        second = k.second;
        is_first = k.is_first;
        is_second = k.is_second;
        differ = λ q. k.differ (sym (at k.first (bounded t k.first k.is_first)) ∙ q ∙ at k.second (bounded t k.second k.is_second));
        other_first = λ q. k.other_first (sym (at k.first (bounded t k.first k.is_first)) ∙ q);
        other_second = λ q. k.other_second (sym (at k.second (bounded t k.second k.is_second)) ∙ q);
      })
      moved t (inr k) = inr (λ z s. at z (bounded t z s) ∙ k z s)

  -- all operands stand for the `get` or for what the first one stands for
  pub record AllPassed (find : ℕ → ℕ) (t r : ℕ) : Type 0 where
    pub own : r ≡ base + t → (z : ℕ) → Sets v t z → find z ≡ base + t
    pub bound : r < base + v.gets
    pub stands : find r ≡ r
    pub trivial : (z : ℕ) → Sets v t z → (find z ≡ base + t) ⊎ (find z ≡ r)

  pub look-tells : (c c' : ClassesView) (gone : List Bool) (ends : List ℕ) (firsts : List (Option ℕ)) (t end other r : ℕ) (first : Option ℕ) → count_of c ≡ base + v.gets → SameClasses c c' → IsWork v base c' gone ends firsts → IsLooked v base (find_in c) t end first → end ≡ 0 → first ≡ Some other → r ≡ find_in c other → AllPassed (find_in c') t r
  look-tells c c' gone ends firsts t end other r first count same h look e o re = record {
    own = λ k z s. ⊎_elim (λ q. q) (λ q. q ∙ k) (all z s);
    bound = subst (λ x. x < base + v.gets) now (h.found other less);
    stands = ap (find_in c') (sym now) ∙ h.own other less ∙ now;
    trivial = all;
  }
    where
      less : other < base + v.gets
      less = bounded t other (look.first_is other o)

      now : find_in c' other ≡ r
      now = find-same c c' count same other less ∙ sym re

      look' : IsLooked v base (find_in c') t end first
      look' = looked-same c c' count same t end first look

      all : (z : ℕ) → Sets v t z → (find_in c' z ≡ base + t) ⊎ (find_in c' z ≡ r)
      all z s = ⊎_elim (λ q. inl q) (λ q. inr (q.2 ∙ ap (find_in c') (let k : q.0 ≡ other = (let x = sym q.1 ∙ o in cc) in k) ∙ now)) (look-ends (find_in c') t end first look' e z s)

pub stood-at : (gone : List Bool) (t : ℕ) (b : Bool) → t < length gone → b ≡ get_or gone t b → b ≡ false → slice_index_or gone t false ≡ false
stood-at gone t b less e k = same gone t b less ∙ sym e ∙ k
  where
    same : (xs : List Bool) (i : ℕ) (d : Bool) → i < length xs → get_or xs i false ≡ get_or xs i d
    same [] i d l = absurd (omega arith)
    same (x ∷ xs) zero d l = refl
    same (x ∷ xs) (suc i) d l = same xs i d (omega arith)

-- ---- a round

-- what holds so far in a round: some `get` was left out, or those that were looked at stay
pub record RoundKeeps (v : OperandsView) (base : ℕ) (todo : List ℕ) (begun : List Bool) (index : ℕ) (joined : Bool) (c : ClassesView) (gone : List Bool) (ends : List ℕ) (firsts : List (Option ℕ)) : Type 0 where
  pub work : IsWork v base c gone ends firsts
  pub less : joined ≡ true → standing gone < standing begun
  pub same : joined ≡ false → gone ≡ begun
  pub stay : joined ≡ false → (k : ℕ) → k < index → slice_index todo k < v.gets → slice_index_or gone (slice_index todo k) false ≡ false → Stays v base (find_in c) (slice_index todo k)

module _ (v : OperandsView) (base : ℕ) (todo : List ℕ) (begun : List Bool) (index : ℕ) (joined : Bool) (c : ClassesView) (gone : List Bool) (ends : List ℕ) (firsts : List (Option ℕ)) (h : RoundKeeps v base todo begun index joined c gone ends firsts) where
  pub keeps-joined : (c' : ClassesView) (gone' : List Bool) (ends' : List ℕ) (firsts' : List (Option ℕ)) → IsWork v base c' gone' ends' firsts' → standing gone' < standing gone → RoundKeeps v base todo begun (index + 1) true c' gone' ends' firsts'
  keeps-joined c' gone' ends' firsts' w l = record {
    work = w;
    less = λ e. by joined refl;
    same = λ e. absurd (cc);
    stay = λ e. absurd (cc);
  }
    where
      by : (b : Bool) → joined ≡ b → standing gone' < standing begun
      by true e = let m = h.less e in omega (arith, l, m)
      by false e = subst (λ g. standing gone' < standing g) (h.same e) l

  pub keeps-same : (inside : All (λ from. from < base + v.gets) (sources_of v)) (c' : ClassesView) (gone' : List Bool) (ends' : List ℕ) (firsts' : List (Option ℕ)) → IsWork v base c' gone' ends' firsts' → SameClasses c c' → gone' ≡ gone
      → (slice_index todo index < v.gets → slice_index_or gone' (slice_index todo index) false ≡ false → Stays v base (find_in c') (slice_index todo index)) → RoundKeeps v base todo begun (index + 1) joined c' gone' ends' firsts'
  keeps-same inside c' gone' ends' firsts' w s g here = record {
    work = w;
    less = λ e. subst (λ x. standing x < standing begun) (sym g) (h.less e);
    same = λ e. g ∙ h.same e;
    stay = λ e k l m n. by e k m n (cases_lt k index) l;
  }
    where
      by : joined ≡ false → (k : ℕ) → slice_index todo k < v.gets → slice_index_or gone' (slice_index todo k) false ≡ false → (k < index) ⊎ (index ≤ k) → k < index + 1 → Stays v base (find_in c') (slice_index todo k)
      by e k m n (inl l) l' = stays-same v base inside c c' h.work.count s (slice_index todo k) (h.stay e k l m (ap (λ x. slice_index_or x (slice_index todo k) false) (sym g) ∙ n))
      by e k m n (inr l) l' = let q : index ≡ k = omega (arith, l, l') in subst (λ i. Stays v base (find_in c') (slice_index todo i)) q (here (subst (λ i. slice_index todo i < v.gets) (sym q) m) (subst (λ i. slice_index_or gone' (slice_index todo i) false ≡ false) (sym q) n))

-- the last round looked at all
pub stays-all : (v : OperandsView) (base : ℕ) (find : ℕ → ℕ) (gone : List Bool) (seen todo : List ℕ) → seen ≡ todo → length todo ≡ v.gets → ((t : ℕ) → t < v.gets → slice_index todo t ≡ t)
    → ((k : ℕ) → k < length seen → slice_index seen k < v.gets → slice_index_or gone (slice_index seen k) false ≡ false → Stays v base find (slice_index seen k)) → (t : ℕ) → t < v.gets → slice_index_or gone t false ≡ false → Stays v base find t
stays-all v base find gone seen todo e long own stay t less stood =
    let q : slice_index seen t ≡ t = ap (λ l. slice_index l t) e ∙ own t less in
    subst (Stays v base find) q (stay t (let n = ap length e in omega (arith, n, long, less)) (omega (arith, q, less)) (ap (λ x. slice_index_or gone x false) q ∙ stood))

-- before the first look
pub work-begins : (v : OperandsView) (base : ℕ) (c : ClassesView) (gone : List Bool) (ends : List ℕ) (firsts : List (Option ℕ)) → count_of c ≡ base + v.gets → ((d : ℕ) → d < count_of c → find_in c d ≡ d) → length gone ≡ v.gets → ((t : ℕ) → slice_index_or gone t false ≡ false) → length ends ≡ v.gets
    → ((t : ℕ) → t < v.gets → EndsRow (keys_of v) t (length v.list) (slice_index ends t)) → length firsts ≡ v.gets → ((t : ℕ) → slice_index_or firsts t None ≡ None) → IsWork v base c gone ends firsts
work-begins v base c gone ends firsts count own long none ends_long rows firsts_long nothing = record {
  count = count;
  long = long;
  ends_long = ends_long;
  firsts_long = firsts_long;
  marks = λ t l e. find (base + t) (omega arith);
  marked = λ t l e. absurd (let x = sym (none t) ∙ e in cc);
  fixed = λ d l. find d (omega arith);
  own = λ d l. ap (find_in c) (find d l);
  found = λ d l. subst (λ x. x < base + v.gets) (sym (find d l)) l;
  left_out = λ t z l e. absurd (let x = sym (none t) ∙ e in cc);
  looked = λ t l e. record {
    bound = length v.list;
    ends = rows t l;
    within = omega arith;
    first_is = λ w k. absurd (let x = sym (nothing t) ∙ k in cc);
    passed = λ place from less key. absurd ((rows t l).last place from less key);
  };
}
  where
    find : (d : ℕ) → d < base + v.gets → find_in c d ≡ d
    find d l = own d (omega (arith, l, count))

-- a list of one element alone
pub pushed-same : {X : Type 0} (xs : List X) (d : X) → ((t : ℕ) → get_or xs t d ≡ d) → (t : ℕ) → get_or (xs ++ (d ∷ [])) t d ≡ d
pushed-same [] d h zero = refl
pushed-same [] d h (suc t) = refl
pushed-same (x ∷ xs) d h zero = h 0
pushed-same (x ∷ xs) d h (suc t) = pushed-same xs d (λ k. h (suc k)) t
