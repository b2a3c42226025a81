-- New names given twice, one after another: they are new names of the first function, where copies of the second stand for some
-- of the first.
use Rattle.std.proofs.Common.{◌≡◌, ◌⊎◌, ℕ, ◌<◌, List, [], length, Some, refl, sym, ap, subst, ◌∙◌, inl, inr, ⊎_elim, arith}
use Rattle.std.specs.Prelude.{slice_get}
use Rattle.std.specs.List.{Contains}
use Rattle.std.proofs.lemmas.List.{get_or_default, length-map}
use Rattle.std.proofs.lemmas.List.Elements.{Contains-get_or}
use Rattle.bril_tree.specs.declared.numbered.Instr.{Instr}
use Rattle.bril_tree.specs.declared.numbered.VarInfo.{VarInfo}
use Rattle.bril_tree.specs.declared.numbered_function.Func.{Func}
use Rattle.bril_tree.specs.Numbered.{variable_names}
use Rattle.bril_tree.specs.Walk.{IsReached}
use Rattle.bril_names.proofs.Decisions.{contains}
use Rattle.variable_renaming.specs.Apart.{Copies}
use Rattle.variable_renaming.specs.Renamed.{name_of}
use Rattle.coalesce.specs.meaning.Linked.{AreLinked, Same, Copied, Both}
use Rattle.coalesce.specs.meaning.Merged.{AreNewNames}
use Rattle.coalesce.proofs.lemmas.meaning.Linking.{linked-onwards, linked-turned}

-- ---- variables of a name

module _ (G : Func) where
  size : length (variable_names G.vars) ≡ length G.vars
  size = length-map G.vars (λ (v : VarInfo). v.name)

  number : (n : List ℕ) → Contains (variable_names G.vars) n → (v : ℕ) × (v < length G.vars) × (name_of G v ≡ n)
  number n c = (c.0, (let l = c.1 in let s = size in omega arith), get_or_default (variable_names G.vars) c.0 [] n c.1 ∙ c.2)

  has-name : (v : ℕ) → v < length G.vars → Contains (variable_names G.vars) (name_of G v)
  has-name v low = Contains-get_or (variable_names G.vars) v [] (let s = size in omega arith)

module _ (F G : Func) (r : List ℕ → List ℕ) where
  -- a variable of the first function has the name of one of the second
  pub record IsCalled (x v : ℕ) : Type 0 where
    pub below : x < length F.vars
    pub name : r (name_of F x) ≡ name_of G v

  -- two linked variables of the first have the names of these
  pub record OldCopy (v w : ℕ) : Type 0 where
    pub x : ℕ
    pub y : ℕ
    pub first : IsCalled x v
    pub second : IsCalled y w
    pub linked : AreLinked F x y

  abbrev pub AreOldCopies : Type 0
  AreOldCopies = (point : ℕ) (item : Instr) → IsReached G.code point → slice_get G.code point ≡ Some item → (v w : ℕ) → Copies item v w → OldCopy v w

  module _ (names : AreNewNames F r) (s : List ℕ → List ℕ) (later : AreNewNames G s) (others : (n : List ℕ) → ¬ Contains (variable_names G.vars) n → s n ≡ n) (copies : AreOldCopies) where
    -- ---- links

    one-name : (x y v : ℕ) → IsCalled x v → IsCalled y v → AreLinked F x y
    one-name x y v a b = names.linked x y a.below b.below (a.name ∙ sym b.name)

    -- where two variables of the second function are linked, so are those of the first that have their names
    record LinkBack (v w : ℕ) : Type 0 where
      there : (x : ℕ) → IsCalled x v → (y : ℕ) × IsCalled y w
      back : (y : ℕ) → IsCalled y w → (x : ℕ) × IsCalled x v
      linked : (x y : ℕ) → IsCalled x v → IsCalled y w → AreLinked F x y

    of-copy : (v w : ℕ) → OldCopy v w → LinkBack v w
    of-copy v w o = record {
      there = λ x a. (o.y, o.second);
      back = λ y b. (o.x, o.first);
      linked = λ x y a b. linked-onwards F x o.x y (one-name x o.x v a o.first) (linked-onwards F o.x o.y y o.linked (one-name o.y y w o.second b));
    }

    link-turned : (v w : ℕ) → LinkBack w v → LinkBack v w
    link-turned v w l = record { there = l.back; back = l.there; linked = λ x y a b. linked-turned F y x (l.linked y x b a) }

    link-back : (v w : ℕ) → AreLinked G v w → LinkBack v w
    link-back v w (Same _) = record { there = λ x a. (x, a); back = λ y b. (y, b); linked = λ x y a b. one-name x y v a b }
    link-back v w (Copied _ _ c) = ⊎_elim (λ h. of-copy v w (copies c.point c.item c.reached c.at v w h)) (λ h. link-turned v w (of-copy w v (copies c.point c.item c.reached c.at w v h))) c.copies
    link-back v w (Both _ _ third a b) =
        let l = link-back v third a in
        let k = link-back w third b in
        record {
          there = λ x h. let z = l.there x h in k.back z.0 z.1;
          back = λ y h. let z = k.there y h in l.back z.0 z.1;
          linked = λ x y h i. let z = l.there x h in Both x y z.0 (l.linked x z.0 h z.1) (k.linked y z.0 i z.1);
        }

    -- ---- names

    abbrev twice : List ℕ → List ℕ
    twice n = s (r n)

    abbrev IsKept : ℕ → ℕ → Type 0
    IsKept x z = (twice (name_of F x) ≡ name_of F z) × (twice (name_of F z) ≡ name_of F z)

    -- where the second function has no variable of the name, and where it has one
    kept-outside : (x y : ℕ) → r (name_of F x) ≡ name_of F y → r (name_of F y) ≡ name_of F y → ¬ Contains (variable_names G.vars) (name_of F y) → IsKept x y
    kept-outside x y e k lacks = let stays = others (name_of F y) lacks in (ap s e ∙ stays, ap s k ∙ stays)

    kept-was : (x v w u z : ℕ) → r (name_of F x) ≡ name_of G v → s (name_of G v) ≡ name_of G w → s (name_of G w) ≡ name_of G w → r (name_of F u) ≡ name_of G w → r (name_of F u) ≡ name_of F z → r (name_of F z) ≡ name_of F z → IsKept x z
    kept-was x v w u z e gets keeps called takes own =
        let same : name_of F z ≡ name_of G w = sym takes ∙ called in
        (ap s e ∙ gets ∙ sym same, ap s (own ∙ same) ∙ keeps ∙ sym same)

    kept-inside : (x y : ℕ) → x < length F.vars → r (name_of F x) ≡ name_of F y → Contains (variable_names G.vars) (name_of F y) → (z : ℕ) × (z < length F.vars) × IsKept x z
    kept-inside x y low e c =
        let v = number G (name_of F y) c in
        let w = later.own v.0 v.1 in
        let was = (link-back v.0 w.0 (later.linked v.0 w.0 v.1 w.1 (w.2 ∙ sym w.3))).there x (record { below = low; name = e ∙ sym v.2 }) in
        let z = names.own was.0 was.1.below in
        (z.0, z.1, kept-was x v.0 w.0 was.0 z.0 (e ∙ sym v.2) w.2 w.3 was.1.name z.2 z.3)

    own : (x : ℕ) → x < length F.vars → (z : ℕ) × (z < length F.vars) × IsKept x z
    own x low =
        let y = names.own x low in
        ⊎_elim (kept-inside x y.0 low y.2) (λ lacks. (y.0, y.1, kept-outside x y.0 y.2 y.3 lacks)) (contains (variable_names G.vars) (name_of F y.0))

    -- a name of the second function doesn't become one that it lacks
    none-outside : (n k : List ℕ) → Contains (variable_names G.vars) n → ¬ Contains (variable_names G.vars) k → s n ≡ s k → ⊥
    none-outside n k c lacks e =
        let v = number G n c in
        let w = later.own v.0 v.1 in
        lacks (subst (Contains (variable_names G.vars)) (sym w.2 ∙ ap s v.2 ∙ e ∙ others k lacks) (has-name G w.0 w.1))

    -- by the names that the first gave
    linked-names : (x y : ℕ) → x < length F.vars → y < length F.vars → (n k : List ℕ) → r (name_of F x) ≡ n → r (name_of F y) ≡ k → s n ≡ s k → AreLinked F x y
    linked-names x y a b n k is_n is_k e = by (contains (variable_names G.vars) n) (contains (variable_names G.vars) k)
      where
        by : Contains (variable_names G.vars) n ⊎ ¬ Contains (variable_names G.vars) n → Contains (variable_names G.vars) k ⊎ ¬ Contains (variable_names G.vars) k → AreLinked F x y
        by (inl c) (inl d) =
            let v = number G n c in
            let w = number G k d in
            (link-back v.0 w.0 (later.linked v.0 w.0 v.1 w.1 (ap s v.2 ∙ e ∙ sym (ap s w.2)))).linked x y (record { below = a; name = is_n ∙ sym v.2 }) (record { below = b; name = is_k ∙ sym w.2 })
        by (inl c) (inr lacks) = absurd (none-outside n k c lacks e)
        by (inr lacks) (inl d) = absurd (none-outside k n d lacks (sym e))
        by (inr lacks) (inr none) = names.linked x y a b (is_n ∙ sym (others n lacks) ∙ e ∙ others k none ∙ sym is_k)

    pub names-twice : ((x : ℕ) → x < F.args → (x < G.args) × (name_of F x ≡ name_of G x)) → AreNewNames F (λ n. s (r n))
    names-twice same = record {
      arguments = λ x less. let n = same x less in ap s (names.arguments x less ∙ n.1) ∙ later.arguments x n.0 ∙ sym n.1;
      own = λ x low. let z = own x low in (z.0, z.1, z.2.0, z.2.1);
      linked = λ x y a b e. linked-names x y a b (r (name_of F x)) (r (name_of F y)) refl refl e;
    }
