-- Where a round begins: each variable is alone, and marks tell which are related and which have a shadow that items name.
use Rattle.std.proofs.Common.{◌≡◌, ◌⊎◌, ℕ, ◌+◌, ◌<◌, ◌≤◌, Bool, true, false, List, length, get_or, replicate, Some, None, refl, sym, ap, subst, ◌∙◌, ⊎_elim, arith}
use Rattle.std.specs.Prelude.{slice_get, is_some}
use Rattle.std.proofs.lemmas.Bool.{cases_eq, cases_lt}
use Rattle.std.proofs.lemmas.List.{get_or-replicate, length-replicate}
use Rattle.std.proofs.lemmas.Option.{slice_get_within, slice_get-get_or, same_Some}
use Rattle.bril_tree.specs.declared.numbered.Instr.{Instr}
use Rattle.bril_tree.specs.declared.numbered_function.Func.{Func}
use Rattle.bril_tree.specs.Shape.{shape_fault_of}
use Rattle.variable_renaming.proofs.Copying.{copy-below}
use Rattle.variable_renaming.specs.Apart.{Copies, HasShadow}
use Rattle.variable_renaming.specs.Classes.{class_of}
use Rattle.variable_renaming.specs.Made.{CopyWithin, IsCopyWithin}
use Rattle.coalesce.specs.meaning.Linked.{AreLinked, Same}
use Rattle.coalesce.specs.meaning.Merged.{NoneApart}
use Rattle.bril_tree.specs.Walk.{IsReached}
use Rattle.coalesce.specs.Rounds.{AreRoundClasses, HasCopyWithin}
use Rattle.graph_search.specs.Marks.{is_marked}
use Rattle.coalesce.specs.Classes.{AreAlone, AreRelated, Grows, AreLinkedClasses, IsRelatedItem, IsRoundState, NotApart, Relates}

-- ---- each variable alone

pub first-state : (F : Func) (related : List Bool) (class : List ℕ) (alone shadow : List Bool) (n : ℕ) → n ≡ length F.vars → length class ≡ n → AreAlone class → alone ≡ replicate n true → length shadow ≡ length F.vars
    → ((x : ℕ) → x < length F.vars → HasShadow F.code x → is_marked shadow x ≡ true) → ((x : ℕ) → is_marked shadow x ≡ true → HasShadow F.code x) → IsRoundState F related class alone shadow false
first-state F related class alone shadow n many long own same shadow_long all only = record {
  are = record {
    long = long ∙ many;
    inside = λ x low. subst (λ y. y < length F.vars) (sym (own x)) low;
    arguments = λ x low. own x;
    named = λ x. ap (class_of class) (own x);
    joined = λ x y differ e. absurd (differ (one x y e));
  };
  linked = λ x. subst (AreLinked F x) (sym (own x)) (Same x);
  alone_long = ap length same ∙ length-replicate n true ∙ many;
  shadow_long = shadow_long;
  own = λ x e. own x;
  single = λ x y e c. sym (own y) ∙ c;
  relates = λ x y differ e. absurd (differ (one x y e));
  unshadowed = λ x e low h. let f : true ≡ false = sym (all x low h) ∙ sym (ap (is_marked shadow) (own x)) ∙ e in cc;
  apart = λ e x. own x;
  all_alone = λ e x low. ap (λ l. is_marked l x) same ∙ get_or-replicate n x true false (subst (λ m. x < m) (sym many) low);
  shadowed = λ e x h. only x h;
}
  where
    one : (x y : ℕ) → class_of class x ≡ class_of class y → x ≡ y
    one x y e = sym (own x) ∙ e ∙ own y

-- ---- related variables

pub related-more : (F : Func) → shape_fault_of (is_some F.ret) F.code ≡ None → (old new : List Bool) (items : List Instr) → items ≡ F.code → (n : ℕ) (item : Instr) → n < length items → item ≡ get_or items n item → length old ≡ length F.vars → Relates item old new
    → ((point : ℕ) (a : Instr) → point < n → slice_get F.code point ≡ Some a → IsRelatedItem F old a) → (point : ℕ) (a : Instr) → point < n + 1 → slice_get F.code point ≡ Some a → IsRelatedItem F new a
related-more F shaped old new items same n item low is long r before point a less at x y c d = ⊎_elim here earlier (cases_eq point n)
  where
    below : (x < length F.vars) × (y < length F.vars)
    below = copy-below F shaped point a at x y c

    there : slice_get F.code n ≡ Some item
    there = ap (λ l. slice_get l n) (sym same) ∙ slice_get-get_or items n item low ∙ ap Some (sym is)

    marked : is_marked new x ≡ true → is_marked new y ≡ true → AreRelated F new x y
    marked first second = record { differ = d; first_below = below.0; second_below = below.1; first_marked = first; second_marked = second }

    here : point ≡ n → AreRelated F new x y
    here e =
        let one : a ≡ item = same_Some a item (sym at ∙ ap (slice_get F.code) e ∙ there) in
        let b = r.both x y (subst (λ z. Copies z x y) one c) in
        let bx = below.0 in
        let by = below.1 in
        marked (b.0 (omega (arith, long))) (b.1 (omega (arith, long)))

    earlier : (point ≡ n → ⊥) → AreRelated F new x y
    earlier e = let h = before point a (⊎_elim (λ l. l) (λ high. absurd (e (omega arith))) (cases_lt point n)) at x y c d in marked (r.kept x h.first_marked) (r.kept y h.second_marked)

-- ---- the loop over the items

-- where nothing was joined, the copies so far aren't apart
abbrev pub AreLookedAt : Func → ℕ → Bool → Type 0
AreLookedAt F n joined = joined ≡ false → (point : ℕ) (item : Instr) → point < n → IsReached F.code point → slice_get F.code point ≡ Some item → NotApart F item

pub looked-more : (F : Func) (n : ℕ) (items : List Instr) → items ≡ F.code → (item : Instr) → n < length items → item ≡ get_or items n item → (old new : Bool) → (new ≡ false → old ≡ false) → (new ≡ false → IsReached F.code n → NotApart F item) → AreLookedAt F n old → AreLookedAt F (n + 1) new
looked-more F n items same item low is old new kept here before e point a less reached at =
    ⊎_elim
    (λ s. let one : a ≡ item = same_Some a item (sym at ∙ ap (slice_get F.code) s ∙ there) in subst (NotApart F) (sym one) (here e (subst (IsReached F.code) s reached)))
    (λ d. before (kept e) point a (⊎_elim (λ l. l) (λ high. absurd (d (omega arith))) (cases_lt point n)) reached at)
    (cases_eq point n)
  where
    there : slice_get F.code n ≡ Some item
    there = ap (λ l. slice_get l n) (sym same) ∙ slice_get-get_or items n item low ∙ ap Some (sym is)

-- where any were joined, a reached copy lies in a class
pub copied-more : (F : Func) (n : ℕ) (items : List Instr) → items ≡ F.code → (item : Instr) → n < length items → item ≡ get_or items n item → (class more : List ℕ) (old new : Bool) → Grows class more
    → (new ≡ true → (old ≡ true) ⊎ (IsReached F.code n × IsCopyWithin item more)) → HasCopyWithin F class old → HasCopyWithin F more new
copied-more F n items same item low is class more old new grows within before e = ⊎_elim earlier here (within e)
  where
    earlier : old ≡ true → (point : ℕ) × CopyWithin F more point
    earlier h = let k = before h in (k.0, record { reached = k.1.reached; item = k.1.item; at = k.1.at; x = k.1.x; y = k.1.y; copies = k.1.copies; same = grows k.1.x k.1.y k.1.same })

    here : IsReached F.code n × IsCopyWithin item more → (point : ℕ) × CopyWithin F more point
    here h = (n, record { reached = h.0; item = item; at = ap (λ l. slice_get l n) (sym same) ∙ slice_get-get_or items n item low ∙ ap Some (sym is); x = h.1.0; y = h.1.1; copies = h.1.2; same = h.1.3 })

pub looked-all : (F : Func) (n : ℕ) (joined : Bool) → length F.code ≤ n → AreLookedAt F n joined → joined ≡ false → NoneApart F
looked-all F n joined long looked e point item x y reached at c differ apart = let l = slice_get_within F.code point item at in looked e point item (omega arith) reached at x y c differ apart

-- what a round knows of its classes
pub round-classes : (F : Func) (class : List ℕ) (joined : Bool) → AreLinkedClasses F class → HasCopyWithin F class joined → (joined ≡ false → NoneApart F) → AreRoundClasses F class
round-classes F class true linked copied none = record { linked = linked; settled = λ nowhere. absurd (nowhere (copied refl).0 (copied refl).1) }
round-classes F class false linked copied none = record { linked = linked; settled = λ nowhere. none refl }
