-- Roots of classes: they are found by going up, and stay where paths become shorter.
use Rattle.std.proofs.Common.{◌≡◌, ◌≢◌, ◌⊎◌, ℕ, zero, suc, ◌<◌, ◌≤◌, Bool, true, false, List, [], ◌∷◌, length, get_or, refl, sym, ap, subst, ◌∙◌, inl, inr, ⊎_elim, cond, arith}
use Rattle.std.specs.Prelude.{slice_index, ◌==◌, if◌then◌else◌}
use Rattle.std.proofs.Math.ListN.{set, length-set}
use Rattle.std.proofs.lemmas.List.{get_or-set_same, get_or-set_other}
use Rattle.std.proofs.lemmas.Bool.{eqb-true, eqb-false, eq-eqb, cases_eq, ne_eqb}
use Rattle.ssa_build.specs.trivial_phis.Classes.{ClassesView, root_from, root_in, find_in, AreClasses, SameClasses, Joined}

-- parents are lesser
abbrev pub Falls : List ℕ → Type 0
Falls ps = (d : ℕ) → d < length ps → slice_index ps d ≤ d

-- going up from d leads to c, which is its own parent
pub data Leads (ps : List ℕ) (c : ℕ) : ℕ → Type 0 where
  Here : (d : ℕ) → d ≡ c → slice_index ps d ≡ d → Leads ps c d
  There : (d : ℕ) → slice_index ps d ≢ d → Leads ps c (slice_index ps d) → Leads ps c d

-- enough steps find it
leads-root : (ps : List ℕ) → Falls ps → (fuel d c : ℕ) → d ≤ fuel → d < length ps → Leads ps c d → root_from fuel ps d ≡ c
leads-root ps falls zero d c enough less (Here _ s e) = s
leads-root ps falls zero d c enough less (There _ n h) = absurd (let l = falls d less in n (omega (arith, l)))
leads-root ps falls (suc fuel) d c enough less (Here _ s e) = ap (λ b. cond b d (root_from fuel ps (slice_index ps d))) (eq-eqb (slice_index ps d) d e) ∙ s
leads-root ps falls (suc fuel) d c enough less (There _ n h) =
    let l = falls d less in
    ap (λ b. cond b d (root_from fuel ps (slice_index ps d))) (ne_eqb (slice_index ps d) d n)
    ∙ leads-root ps falls fuel (slice_index ps d) c (omega (arith, l, n)) (omega (arith, l)) h

-- and there is one
leads : (ps : List ℕ) → Falls ps → (fuel d : ℕ) → d ≤ fuel → d < length ps → (c : ℕ) × Leads ps c d × (c ≤ d) × (slice_index ps c ≡ c)
leads ps falls zero d enough less = let l = falls d less in let e : slice_index ps d ≡ d = omega (arith, l) in (d, Here d refl e, omega arith, e)
leads ps falls (suc fuel) d enough less = by (slice_index ps d == d) refl (λ n. let l = falls d less in leads ps falls fuel (slice_index ps d) (omega (arith, l, n)) (omega (arith, l)))
  where
    by : (b : Bool) → (slice_index ps d == d) ≡ b → (slice_index ps d ≢ d → (c : ℕ) × Leads ps c (slice_index ps d) × (c ≤ slice_index ps d) × (slice_index ps c ≡ c)) → (c : ℕ) × Leads ps c d × (c ≤ d) × (slice_index ps c ≡ c)
    by true e rec = let q = eqb-true (slice_index ps d) d e in (d, Here d refl q, omega arith, q)
    by false e rec =
        let n = eqb-false (slice_index ps d) d e in
        let l = falls d less in
        let r = rec n in
        (r.0, There d n r.1, (let q = r.2 in omega (arith, q, l)), r.3)

pub record Root (ps : List ℕ) (d : ℕ) : Type 0 where
  pub leads : Leads ps (root_in ps d) d
  pub lesser : root_in ps d ≤ d
  pub is : slice_index ps (root_in ps d) ≡ root_in ps d

pub root : (ps : List ℕ) → Falls ps → (d : ℕ) → d < length ps → Root ps d
root ps falls d less =
    let r = leads ps falls d d (omega arith) less in
    let e : root_in ps d ≡ r.0 = leads-root ps falls d d r.0 (omega arith) less r.1 in
    record { leads = subst (λ c. Leads ps c d) (sym e) r.1; lesser = (let q = r.2 in omega (arith, e, q)); is = ap (slice_index ps) e ∙ r.3 ∙ sym e }

pub root-is : (ps : List ℕ) → Falls ps → (d c : ℕ) → d < length ps → Leads ps c d → root_in ps d ≡ c
root-is ps falls d c less h = leads-root ps falls d d c (omega arith) less h

-- the root of a parent is the root
pub root-up : (ps : List ℕ) → Falls ps → (d : ℕ) → d < length ps → root_in ps (slice_index ps d) ≡ root_in ps d
root-up ps falls d less = by (root ps falls d less).leads
  where
    l : slice_index ps d ≤ d
    l = falls d less

    by : Leads ps (root_in ps d) d → root_in ps (slice_index ps d) ≡ root_in ps d
    by (Here _ s e) = ap (root_in ps) e
    by (There _ n h) = root-is ps falls (slice_index ps d) (root_in ps d) (omega (arith, l, less)) h

-- ---- a path becomes shorter

module _ (ps : List ℕ) (falls : Falls ps) (d : ℕ) (less : d < length ps) where
  abbrev up : ℕ
  up = slice_index ps d

  abbrev above : ℕ
  above = slice_index ps (slice_index ps d)

  abbrev pub shorter : List ℕ
  shorter = set ps d above

  up-less : up ≤ d
  up-less = falls d less

  above-less : above ≤ up
  above-less = falls up (let l = up-less in omega (arith, l))

  at-d : slice_index shorter d ≡ above
  at-d = get_or-set_same ps d above 0 less

  at-other : (x : ℕ) → x ≢ d → slice_index shorter x ≡ slice_index ps x
  at-other x n = get_or-set_other ps d x above 0 n

  pub shorter-long : length shorter ≡ length ps
  shorter-long = length-set ps d above

  pub shorter-falls : Falls shorter
  shorter-falls x l = by (cases_eq x d)
    where
      by : (x ≡ d) ⊎ (x ≢ d) → slice_index shorter x ≤ x
      by (inl e) = let h : slice_index shorter x ≡ above = ap (slice_index shorter) e ∙ at-d in let a = up-less in let b = above-less in omega (arith, h, a, b, e)
      by (inr n) = let h = at-other x n in let q : slice_index ps x ≤ x = falls x (let m = shorter-long in omega (arith, l, m)) in omega (arith, h, q)

  module _ (moves : up ≢ d) where
    shorter-leads : (c x : ℕ) → Leads ps c x → Leads shorter c x
    shorter-leads c x (Here _ s e) = Here x s (at-other x (λ k. moves (ap (slice_index ps) (sym k) ∙ e ∙ k)) ∙ e)
    shorter-leads c x (There _ n h) = by (cases_eq x d) (shorter-leads c (slice_index ps x) h) h
      where
        by : (x ≡ d) ⊎ (x ≢ d) → Leads shorter c (slice_index ps x) → Leads ps c (slice_index ps x) → Leads shorter c x
        by (inr m) rec h' = There x (λ e. n (sym (at-other x m) ∙ e)) (subst (Leads shorter c) (sym (at-other x m)) rec)
        by (inl m) rec h' =
            let a = up-less in
            let b = above-less in
            There x (λ e. let q : above ≡ d = sym at-d ∙ ap (slice_index shorter) (sym m) ∙ e ∙ m in moves (omega (arith, a, b, q)))
            (subst (Leads shorter c) (sym (ap (slice_index shorter) m ∙ at-d)) (over rec))
          where
            over : Leads shorter c (slice_index ps x) → Leads shorter c above
            over r = by_root (cases_eq above up)
              where
                q : slice_index ps x ≡ up
                q = ap (slice_index ps) m

                r' : Leads shorter c up
                r' = subst (Leads shorter c) q r

                by_root : (above ≡ up) ⊎ (above ≢ up) → Leads shorter c above
                by_root (inl e) = subst (Leads shorter c) (sym e) r'
                by_root (inr k) = inner r'
                  where
                    same : slice_index shorter up ≡ above
                    same = at-other up moves

                    inner : Leads shorter c up → Leads shorter c above
                    inner (Here _ s e) = absurd (k (sym same ∙ e))
                    inner (There _ n' h'') = subst (Leads shorter c) same h''

    pub shorter-root : (x : ℕ) → x < length ps → root_in shorter x ≡ root_in ps x
    shorter-root x l = root-is shorter shorter-falls x (root_in ps x) (let m = shorter-long in omega (arith, l, m)) (shorter-leads (root_in ps x) x (root ps falls x l).leads)

-- ---- two classes are joined: the root b gets the lesser root a as its parent

module _ (ps : List ℕ) (falls : Falls ps) (a b : ℕ) (a_root : slice_index ps a ≡ a) (b_root : slice_index ps b ≡ b) (below : a < b) (less : b < length ps) where
  abbrev pub linked : List ℕ
  linked = set ps b a

  linked-b : slice_index linked b ≡ a
  linked-b = get_or-set_same ps b a 0 less

  linked-other : (x : ℕ) → x ≢ b → slice_index linked x ≡ slice_index ps x
  linked-other x n = get_or-set_other ps b x a 0 n

  pub linked-long : length linked ≡ length ps
  linked-long = length-set ps b a

  pub linked-falls : Falls linked
  linked-falls x l = by (cases_eq x b)
    where
      by : (x ≡ b) ⊎ (x ≢ b) → slice_index linked x ≤ x
      by (inl e) = let h : slice_index linked x ≡ a = ap (slice_index linked) e ∙ linked-b in omega (arith, h, below, e)
      by (inr n) = let h = linked-other x n in let q : slice_index ps x ≤ x = falls x (let m = linked-long in omega (arith, l, m)) in omega (arith, h, q)

  a-leads : Leads linked a a
  a-leads = Here a refl (linked-other a (λ e. omega (arith, below, e)) ∙ a_root)

  b-leads : Leads linked a b
  b-leads = There b (λ e. let h : a ≡ b = sym linked-b ∙ e in omega (arith, below, h)) (subst (Leads linked a) (sym linked-b) a-leads)

  linked-leads : (c x : ℕ) → Leads ps c x → Leads linked (if c == b then a else c) x
  linked-leads c x (Here _ s e) = by (cases_eq x b)
    where
      by : (x ≡ b) ⊎ (x ≢ b) → Leads linked (if c == b then a else c) x
      by (inl k) = subst (λ z. Leads linked z x) (sym (ap (λ t. cond t a c) (eq-eqb c b (sym s ∙ k)))) (subst (Leads linked a) (sym k) b-leads)
      by (inr k) = subst (λ z. Leads linked z x) (sym (ap (λ t. cond t a c) (ne_eqb c b (λ e'. k (s ∙ e'))))) (Here x s (linked-other x k ∙ e))
  linked-leads c x (There _ n h) =
      let m : x ≢ b = (λ k. n (ap (slice_index ps) k ∙ b_root ∙ sym k)) in
      There x (λ e. n (sym (linked-other x m) ∙ e)) (subst (Leads linked (if c == b then a else c)) (sym (linked-other x m)) (linked-leads c (slice_index ps x) h))

  pub linked-root : (x : ℕ) → x < length ps → root_in linked x ≡ (if root_in ps x == b then a else root_in ps x)
  linked-root x l = root-is linked linked-falls x (if root_in ps x == b then a else root_in ps x) (let m = linked-long in omega (arith, l, m)) (linked-leads (root_in ps x) x (root ps falls x l).leads)

-- ---- views

-- where roots stay, so does what is found
pub same-classes : (v w : ClassesView) → AreClasses v → length w.parents ≡ length v.parents → Falls w.parents → w.stands ≡ v.stands → ((x : ℕ) → x < length v.parents → root_in w.parents x ≡ root_in v.parents x) → SameClasses v w × AreClasses w
same-classes v w h long falls stands roots = (
  record { count = long; find = λ d less. ap (slice_index w.stands) (roots d less) ∙ ap (λ l. slice_index l (root_in v.parents d)) stands },
  record {
    long = ap length stands ∙ h.long ∙ sym long;
    lesser = falls;
    own = λ c less e.
        let less' : c < length v.parents = omega (arith, less, long) in
        let rc : root_in v.parents c ≡ c = sym (roots c less') ∙ root-is w.parents falls c c less (Here c refl e) in
        let old : slice_index v.parents c ≡ c = ap (slice_index v.parents) (sym rc) ∙ (root v.parents h.lesser c less').is ∙ rc in
        let o = h.own c less' old in
        let s : slice_index w.stands c ≡ slice_index v.stands c = ap (λ l. slice_index l c) stands in
        (let a = o.0 in omega (arith, a, s, long), ap (root_in w.parents) s ∙ roots (slice_index v.stands c) o.0 ∙ o.1);
  },
)

-- the root of what stands for itself has it
module _ (v : ClassesView) (h : AreClasses v) (y z lo hi : ℕ) (inside : hi < length v.parents) (below : lo < hi) (lo_root : slice_index v.parents lo ≡ lo) (hi_root : slice_index v.parents hi ≡ hi)
    (y_less : y < length v.parents) (z_less : z < length v.parents) (y_stands : find_in v y ≡ y) (z_stands : find_in v z ≡ z) (differ : y ≢ z) (roots : ((root_in v.parents y ≡ lo) × (root_in v.parents z ≡ hi)) ⊎ ((root_in v.parents y ≡ hi) × (root_in v.parents z ≡ lo))) where
  abbrev pub joined_view : ClassesView
  joined_view = record { parents = set v.parents hi lo; stands = set v.stands lo z }

  abbrev w : ClassesView
  w = joined_view

  abbrev φ : ℕ → ℕ
  φ r = if r == y then z else r

  φ-y : (r : ℕ) → r ≡ y → φ r ≡ z
  φ-y r e = ap (λ b. cond b z r) (eq-eqb r y e)

  φ-z : (r : ℕ) → r ≡ z → φ r ≡ z
  φ-z r e = ap (λ b. cond b z r) (ne_eqb r y (λ k. differ (sym k ∙ e))) ∙ e

  φ-other : (r : ℕ) → r ≢ y → φ r ≡ r
  φ-other r n = ap (λ b. cond b z r) (ne_eqb r y n)

  one-of : (r : ℕ) → (r ≡ lo) ⊎ (r ≡ hi) → φ (slice_index v.stands r) ≡ z
  one-of r k = by roots k
    where
      by : ((root_in v.parents y ≡ lo) × (root_in v.parents z ≡ hi)) ⊎ ((root_in v.parents y ≡ hi) × (root_in v.parents z ≡ lo)) → (r ≡ lo) ⊎ (r ≡ hi) → φ (slice_index v.stands r) ≡ z
      by (inl e) (inl k) = φ-y (slice_index v.stands r) (ap (slice_index v.stands) (k ∙ sym e.0) ∙ y_stands)
      by (inl e) (inr k) = φ-z (slice_index v.stands r) (ap (slice_index v.stands) (k ∙ sym e.1) ∙ z_stands)
      by (inr e) (inl k) = φ-z (slice_index v.stands r) (ap (slice_index v.stands) (k ∙ sym e.1) ∙ z_stands)
      by (inr e) (inr k) = φ-y (slice_index v.stands r) (ap (slice_index v.stands) (k ∙ sym e.0) ∙ y_stands)

  stands-lo : slice_index w.stands lo ≡ z
  stands-lo = get_or-set_same v.stands lo z 0 (let l = h.long in omega (arith, l, inside, below))

  stands-other : (r : ℕ) → r ≢ lo → slice_index w.stands r ≡ slice_index v.stands r
  stands-other r n = get_or-set_other v.stands lo r z 0 n

  abbrev new_root : (x : ℕ) → x < length v.parents → root_in w.parents x ≡ (if root_in v.parents x == hi then lo else root_in v.parents x)
  new_root x less = linked-root v.parents h.lesser lo hi lo_root hi_root below inside x less

  -- a root with y or z is that of y or z
  root-of : (r u : ℕ) → u < length v.parents → find_in v u ≡ u → r < length v.parents → slice_index v.parents r ≡ r → slice_index v.stands r ≡ u → r ≡ root_in v.parents u
  root-of r u ul us rl rr e = sym (h.own r rl rr).1 ∙ ap (root_in v.parents) e

  not-y : (r : ℕ) → r < length v.parents → slice_index v.parents r ≡ r → r ≢ lo → r ≢ hi → slice_index v.stands r ≢ y
  not-y r rl rr nl nh e = let q = root-of r y y_less y_stands rl rr e in ⊎_elim (λ k. nl (q ∙ k.0)) (λ k. nh (q ∙ k.0)) roots

  root-inside : (x : ℕ) → x < length v.parents → root_in v.parents x < length v.parents
  root-inside x less = let l = (root v.parents h.lesser x less).lesser in omega (arith, l, less)

  pub is-joined : Joined y z v joined_view
  is-joined = record { count = linked-long v.parents h.lesser lo hi lo_root hi_root below inside; find = λ x less. ap (slice_index w.stands) (new_root x less) ∙ by x less (cases_eq (root_in v.parents x) hi) (cases_eq (root_in v.parents x) lo) }
    where
      by : (x : ℕ) → x < length v.parents → (root_in v.parents x ≡ hi) ⊎ (root_in v.parents x ≢ hi) → (root_in v.parents x ≡ lo) ⊎ (root_in v.parents x ≢ lo) → slice_index w.stands (if root_in v.parents x == hi then lo else root_in v.parents x) ≡ φ (find_in v x)
      by x less (inl e) k = ap (λ b. slice_index w.stands (cond b lo (root_in v.parents x))) (eq-eqb (root_in v.parents x) hi e) ∙ stands-lo ∙ sym (one-of (root_in v.parents x) (inr e))
      by x less (inr n) (inl e) = ap (λ b. slice_index w.stands (cond b lo (root_in v.parents x))) (ne_eqb (root_in v.parents x) hi n) ∙ ap (slice_index w.stands) e ∙ stands-lo ∙ sym (one-of (root_in v.parents x) (inl e))
      by x less (inr n) (inr m) = ap (λ b. slice_index w.stands (cond b lo (root_in v.parents x))) (ne_eqb (root_in v.parents x) hi n) ∙ stands-other (root_in v.parents x) m
          ∙ sym (φ-other (find_in v x) (not-y (root_in v.parents x) (root-inside x less) (root v.parents h.lesser x less).is m n))

  pub joined-classes : AreClasses joined_view
  joined-classes = record {
    long = length-set v.stands lo z ∙ h.long ∙ sym (length-set v.parents hi lo);
    lesser = linked-falls v.parents h.lesser lo hi lo_root hi_root below inside;
    own = λ c less e. by c (let l = length-set v.parents hi lo in omega (arith, less, l)) e (cases_eq c lo) (cases_eq c hi);
  }
    where
      long' : length w.parents ≡ length v.parents
      long' = length-set v.parents hi lo

      root-z : root_in w.parents z ≡ lo
      root-z = new_root z z_less ∙ ⊎_elim (λ k. ap (λ b. cond b lo (root_in v.parents z)) (eq-eqb (root_in v.parents z) hi k.1)) (λ k. ap (λ b. cond b lo (root_in v.parents z)) (ne_eqb (root_in v.parents z) hi (λ q. let s : lo ≡ hi = sym k.1 ∙ q in omega (arith, s, below))) ∙ k.1) roots

      by : (c : ℕ) → c < length v.parents → slice_index w.parents c ≡ c → (c ≡ lo) ⊎ (c ≢ lo) → (c ≡ hi) ⊎ (c ≢ hi) → (slice_index w.stands c < length w.parents) × (root_in w.parents (slice_index w.stands c) ≡ c)
      by c less e (inl k) d = let s : slice_index w.stands c ≡ z = ap (slice_index w.stands) k ∙ stands-lo in (omega (arith, s, z_less, long'), ap (root_in w.parents) s ∙ root-z ∙ sym k)
      by c less e (inr n) (inl k) = absurd (let q : lo ≡ hi = sym (get_or-set_same v.parents hi lo 0 inside) ∙ ap (slice_index w.parents) (sym k) ∙ e ∙ k in omega (arith, q, below))
      by c less e (inr n) (inr m) =
          let old : slice_index v.parents c ≡ c = sym (get_or-set_other v.parents hi c lo 0 m) ∙ e in
          let o = h.own c less old in
          let s : slice_index w.stands c ≡ slice_index v.stands c = stands-other c n in
          (let a = o.0 in omega (arith, s, a, long'), ap (root_in w.parents) s ∙ new_root (slice_index v.stands c) o.0 ∙ ap (λ b. cond b lo (root_in v.parents (slice_index v.stands c))) (ne_eqb (root_in v.parents (slice_index v.stands c)) hi (λ q. m (sym o.1 ∙ q))) ∙ o.1)

-- ---- the two branches of a join

pub join-lesser : (v : ClassesView) → AreClasses v → (y z a b : ℕ) → y < length v.parents → z < length v.parents → find_in v y ≡ y → find_in v z ≡ z → y ≢ z → root_in v.parents y ≡ a → root_in v.parents z ≡ b → a < b
    → AreClasses (record { parents = set v.parents b a; stands = set v.stands a z }) × Joined y z v (record { parents = set v.parents b a; stands = set v.stands a z })
join-lesser v h y z a b yl zl ys zs n ra rb less =
    let la = (root v.parents h.lesser y yl).lesser in
    let lb = (root v.parents h.lesser z zl).lesser in
    let inside : b < length v.parents = omega (arith, lb, zl, rb) in
    let a_root : slice_index v.parents a ≡ a = ap (slice_index v.parents) (sym ra) ∙ (root v.parents h.lesser y yl).is ∙ ra in
    let b_root : slice_index v.parents b ≡ b = ap (slice_index v.parents) (sym rb) ∙ (root v.parents h.lesser z zl).is ∙ rb in
    (joined-classes v h y z a b inside less a_root b_root yl zl ys zs n (inl (ra, rb)), is-joined v h y z a b inside less a_root b_root yl zl ys zs n (inl (ra, rb)))

pub join-greater : (v : ClassesView) → AreClasses v → (y z a b : ℕ) → y < length v.parents → z < length v.parents → find_in v y ≡ y → find_in v z ≡ z → y ≢ z → root_in v.parents y ≡ a → root_in v.parents z ≡ b → b ≤ a
    → AreClasses (record { parents = set v.parents a b; stands = set v.stands b z }) × Joined y z v (record { parents = set v.parents a b; stands = set v.stands b z })
join-greater v h y z a b yl zl ys zs n ra rb le =
    let la = (root v.parents h.lesser y yl).lesser in
    let lb = (root v.parents h.lesser z zl).lesser in
    let inside : a < length v.parents = omega (arith, la, yl, ra) in
    let a_root : slice_index v.parents a ≡ a = ap (slice_index v.parents) (sym ra) ∙ (root v.parents h.lesser y yl).is ∙ ra in
    let b_root : slice_index v.parents b ≡ b = ap (slice_index v.parents) (sym rb) ∙ (root v.parents h.lesser z zl).is ∙ rb in
    let apart : a ≢ b = (λ e. n (sym ys ∙ ap (slice_index v.stands) (ra ∙ e ∙ sym rb) ∙ zs)) in
    let less : b < a = omega (arith, le, apart) in
    (joined-classes v h y z b a inside less b_root a_root yl zl ys zs n (inr (ra, rb)), is-joined v h y z b a inside less b_root a_root yl zl ys zs n (inr (ra, rb)))

pub joined-from : (v u w : ClassesView) (y z : ℕ) → SameClasses v u → Joined y z u w → Joined y z v w
joined-from v u w y z s j = record { count = j.count ∙ s.count; find = λ d less. j.find d (let k = s.count in omega (arith, less, k)) ∙ ap (λ r. if r == y then z else r) (s.find d less) }

pub same-on : (v u w : ClassesView) → SameClasses v u → SameClasses u w → SameClasses v w
same-on v u w s t = record { count = t.count ∙ s.count; find = λ d less. t.find d (let k = s.count in omega (arith, less, k)) ∙ s.find d less }

pub same-self : (v : ClassesView) → SameClasses v v
same-self v = record { count = refl; find = λ d less. refl }

-- ---- the loop to the root

any-default : (xs : List ℕ) (i d e : ℕ) → i < length xs → get_or xs i d ≡ get_or xs i e
any-default [] i d e l = absurd (omega arith)
any-default (x ∷ xs) zero d e l = refl
any-default (x ∷ xs) (suc i) d e l = any-default xs i d e (omega arith)

pub record RootStep (v : ClassesView) (d : ℕ) (ps : List ℕ) (node : ℕ) : Type 0 where
  pub within : node < length v.parents
  pub count : length ps ≡ length v.parents
  pub falls : Falls ps
  pub roots : (x : ℕ) → x < length v.parents → root_in ps x ≡ root_in v.parents x
  pub here : root_in v.parents node ≡ root_in v.parents d

pub root-step : (v : ClassesView) (d : ℕ) (ps : List ℕ) (node p g q : ℕ) → RootStep v d ps node → q ≡ get_or ps node q → q ≢ node → p ≡ get_or ps node p → g ≡ get_or ps p g → RootStep v d (set ps node g) g
root-step v d ps node p g q h qe moves pe ge =
    let less : node < length ps = (let a = h.within in let b = h.count in omega (arith, a, b)) in
    let p-is : slice_index ps node ≡ p = sym (pe ∙ any-default ps node p 0 less) in
    let q-is : slice_index ps node ≡ q = sym (qe ∙ any-default ps node q 0 less) in
    let p-less : p < length ps = (let f = h.falls node less in omega (arith, f, p-is, less)) in
    let g-is : slice_index ps (slice_index ps node) ≡ g = ap (slice_index ps) p-is ∙ sym (ge ∙ any-default ps p g 0 p-less) in
    let moves' : slice_index ps node ≢ node = (λ e. moves (sym q-is ∙ e)) in
    let g-less : g < length ps = (let f = h.falls p p-less in let e : slice_index ps p ≡ g = ap (slice_index ps) (sym p-is) ∙ g-is in omega (arith, f, e, p-less)) in
    let list : set ps node (slice_index ps (slice_index ps node)) ≡ set ps node g = ap (set ps node) g-is in
    record {
      within = (let b = h.count in omega (arith, g-less, b));
      count = length-set ps node g ∙ h.count;
      falls = subst Falls list (shorter-falls ps h.falls node less);
      roots = λ x l. ap (λ z. root_in z x) (sym list) ∙ shorter-root ps h.falls node less moves' x (let b = h.count in omega (arith, l, b)) ∙ h.roots x l;
      here = sym (h.roots g (let b = h.count in omega (arith, g-less, b))) ∙ ap (root_in ps) (sym g-is) ∙ root-up ps h.falls (slice_index ps node) (omega (arith, p-is, p-less)) ∙ root-up ps h.falls node less ∙ h.roots node h.within ∙ h.here;
    }

pub root-found : (v : ClassesView) (d : ℕ) (ps : List ℕ) (node q : ℕ) → RootStep v d ps node → q ≡ get_or ps node q → q ≡ node → (node ≡ root_in v.parents d) × (slice_index ps node ≡ node)
root-found v d ps node q h qe e =
    let less : node < length ps = (let a = h.within in let b = h.count in omega (arith, a, b)) in
    let own : slice_index ps node ≡ node = sym (qe ∙ any-default ps node q 0 less) ∙ e in
    (sym (root-is ps h.falls node node less (Here node refl own)) ∙ h.roots node h.within ∙ h.here, own)
