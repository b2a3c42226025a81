-- Passes that keep what they mean.
use Rattle.std.proofs.Common.{◌≡◌, ◌↔◌, ℕ, Bool, true, false, List, [], ◌∷◌, Some, None, refl, sym, ap, subst, ◌∙◌}
use Rattle.std.specs.Prelude.{IsSome}
use Rattle.std.proofs.lemmas.Option.{same_Some}
use Rattle.bril_profile.specs.declared.profile.Profile.{Profile}
use Rattle.bril_tree.specs.declared.program.Prog.{Prog}
use Rattle.pass_law.specs.Bounds.{HasLongBound}
use Rattle.pass_law.specs.Chains.{or_else, grown_if, first_answering, tallied, IsLinked, AllSame}
use Rattle.pass_law.specs.Meaning.{Meaning, IsNumber, HasNumbers, Link, SameMeaning}
use Rattle.pass_law.specs.declared.tally.Tally.{Tally}

pub SameMeaning-refl : (m : Meaning) → SameMeaning m m
SameMeaning-refl m = record { answers = refl; factor = λ P profile k. (λ h. h, λ h. h); bound = λ P profile k. (λ h. h, λ h. h); makes = λ P profile Q. (λ h. h, λ h. h) }

pub SameMeaning-trans : (m n o : Meaning) → SameMeaning m n → SameMeaning n o → SameMeaning m o
SameMeaning-trans m n o a b = record {
  answers = a.answers ∙ b.answers;
  factor = λ P profile k. (λ h. (b.factor P profile k).0 ((a.factor P profile k).0 h), λ h. (a.factor P profile k).1 ((b.factor P profile k).1 h));
  bound = λ P profile k. (λ h. (b.bound P profile k).0 ((a.bound P profile k).0 h), λ h. (a.bound P profile k).1 ((b.bound P profile k).1 h));
  makes = λ P profile Q. (λ h. (b.makes P profile Q).0 ((a.makes P profile Q).0 h), λ h. (a.makes P profile Q).1 ((b.makes P profile Q).1 h));
}

-- numbers, a link and a long bound, by what the pass meant before
IsNumber-same : (Is Are : Prog → Profile → ℕ → Type 0) → ((P : Prog) (profile : Profile) (k : ℕ) → Is P profile k ↔ Are P profile k) → IsNumber Are → IsNumber Is
IsNumber-same Is Are same n = record {
  one = λ P profile j k a b. n.one P profile j k ((same P profile j).0 a) ((same P profile k).0 b);
  some = λ P profile accepted. let found = n.some P profile accepted in (found.0, (same P profile found.0).1 found.1);
}

pub HasNumbers-same : (m n : Meaning) → SameMeaning m n → HasNumbers n → HasNumbers m
HasNumbers-same m n s h = record { factor = IsNumber-same m.IsFactor n.IsFactor s.factor h.factor; bound = IsNumber-same m.IsBound n.IsBound s.bound h.bound }

pub Link-same : (m n : Meaning) → SameMeaning m n → (profile : Profile) (P Q : Prog) → Link n profile P Q → Link m profile P Q
Link-same m n s profile P Q l = record {
  makes = (s.makes P profile Q).1 l.makes;
  accepted = l.accepted;
  factor = l.factor;
  is_factor = (s.factor P profile l.factor).1 l.is_factor;
  refines = l.refines;
  bound = l.bound;
  is_bound = (s.bound P profile l.bound).1 l.is_bound;
  within = l.within;
  fits = l.fits;
}

pub HasLongBound-same : (m n : Meaning) → SameMeaning m n → (profile : Profile) (P : Prog) (size told : ℕ) → HasLongBound (n.IsBound P profile) size told → HasLongBound (m.IsBound P profile) size told
HasLongBound-same m n s profile P size told h = record { bound = h.bound; is = (s.bound P profile h.bound).1 h.is; long = h.long; tells = h.tells }

module _ {B : Type 0} (meaning : B → Meaning) where
  pub AllSame-refl : (ps : List B) → AllSame meaning ps ps
  AllSame-refl [] = tt
  AllSame-refl (p ∷ ps) = (SameMeaning-refl (meaning p), AllSame-refl ps)

  pub AllSame-trans : (ps qs rs : List B) → AllSame meaning ps qs → AllSame meaning qs rs → AllSame meaning ps rs
  AllSame-trans [] [] [] a b = tt
  AllSame-trans [] [] (r ∷ rs) a b = absurd b
  AllSame-trans [] (q ∷ qs) rs a b = absurd a
  AllSame-trans (p ∷ ps) [] rs a b = absurd a
  AllSame-trans (p ∷ ps) (q ∷ qs) [] a b = absurd b
  AllSame-trans (p ∷ ps) (q ∷ qs) (r ∷ rs) a b = (SameMeaning-trans (meaning p) (meaning q) (meaning r) a.0 b.0, AllSame-trans ps qs rs a.1 b.1)

  -- the pass that answers to a name now answered to it before
  pub record AnsweredBefore (ps : List B) (name : List ℕ) (q : B) : Type 0 where
    pub pass : B
    pub first : first_answering meaning ps name ≡ Some pass
    pub same : SameMeaning (meaning pass) (meaning q)

  pub answered-before : (ps qs : List B) (name : List ℕ) (q : B) → AllSame meaning ps qs → first_answering meaning qs name ≡ Some q → AnsweredBefore ps name q
  answered-before [] [] name q z e = absurd (let n : None ≡ Some q = e in cc)
  answered-before [] (q' ∷ qs) name q z e = absurd z
  answered-before (p ∷ ps) [] name q z e = absurd z
  answered-before (p ∷ ps) (q' ∷ qs) name q z e = by (λ h. answered-before ps qs name q z.1 h) ((meaning q').answers name) refl
    where
      answers : (meaning p).answers name ≡ (meaning q').answers name
      answers = ap (λ (f : List ℕ → Bool). f name) z.0.answers

      by : (first_answering meaning qs name ≡ Some q → AnsweredBefore ps name q) → (b : Bool) → (meaning q').answers name ≡ b → AnsweredBefore (p ∷ ps) name q
      by rest true eb =
          let is : q' ≡ q = same_Some q' q (sym (ap (λ c. or_else c q' (first_answering meaning qs name)) eb) ∙ e) in
          record { pass = p; first = ap (λ c. or_else c p (first_answering meaning ps name)) (answers ∙ eb); same = subst (λ r. SameMeaning (meaning p) (meaning r)) is z.0 }
      by rest false eb =
          let r = rest (sym (ap (λ c. or_else c q' (first_answering meaning qs name)) eb) ∙ e) in
          record { pass = r.pass; first = ap (λ c. or_else c p (first_answering meaning ps name)) (answers ∙ eb) ∙ r.first; same = r.same }

  pub linked-before : (ps qs : List B) (profile : Profile) (name : List ℕ) (P Q : Prog) → AllSame meaning ps qs → IsLinked meaning qs profile name P Q → IsLinked meaning ps profile name P Q
  linked-before ps qs profile name P Q z l =
      let b = answered-before ps qs name l.pass z l.first in
      record { pass = b.pass; first = b.first; numbers = HasNumbers-same (meaning b.pass) (meaning l.pass) b.same l.numbers; link = Link-same (meaning b.pass) (meaning l.pass) b.same profile P Q l.link }

  -- the same pass is counted
  pub tallied-same : (ps qs : List B) (name : List ℕ) (seen made : ℕ) (ts : List Tally) → AllSame meaning ps qs → tallied meaning qs name seen made ts ≡ tallied meaning ps name seen made ts
  tallied-same [] [] name seen made ts z = refl
  tallied-same [] (q ∷ qs) name seen made ts z = absurd z
  tallied-same (p ∷ ps) [] name seen made ts z = absurd z
  tallied-same (p ∷ ps) (q ∷ qs) name seen made [] z = refl
  tallied-same (p ∷ ps) (q ∷ qs) name seen made (t ∷ ts) z =
      ap (λ (f : List ℕ → Bool). grown_if (f name) seen made t ts (tallied meaning qs name seen made ts)) (sym z.0.answers)
      ∙ ap (λ l. grown_if ((meaning p).answers name) seen made t ts l) (tallied-same ps qs name seen made ts z.1)

  -- a name that is answered stays so
  pub still-answered : (ps qs : List B) (name : List ℕ) → AllSame meaning ps qs → IsSome (first_answering meaning ps name) → IsSome (first_answering meaning qs name)
  still-answered [] [] name z h = h
  still-answered [] (q ∷ qs) name z h = absurd z
  still-answered (p ∷ ps) [] name z h = absurd z
  still-answered (p ∷ ps) (q ∷ qs) name z h = by ((meaning p).answers name) refl (λ k. still-answered ps qs name z.1 k)
    where
      answers : (meaning q).answers name ≡ (meaning p).answers name
      answers = sym (ap (λ (f : List ℕ → Bool). f name) z.0.answers)

      by : (b : Bool) → (meaning p).answers name ≡ b → (IsSome (first_answering meaning ps name) → IsSome (first_answering meaning qs name)) → IsSome (or_else ((meaning q).answers name) q (first_answering meaning qs name))
      by true e rest = subst (λ c. IsSome (or_else c q (first_answering meaning qs name))) (sym (answers ∙ e)) refl
      by false e rest =
          subst (λ c. IsSome (or_else c q (first_answering meaning qs name))) (sym (answers ∙ e))
          (rest (subst (λ c. IsSome (or_else c p (first_answering meaning ps name))) e h))
