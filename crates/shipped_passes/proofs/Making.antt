-- Each shipped pass makes only what its name says.
use Rattle.std.proofs.Common.{◌≡◌, Bool, true, not, ◌&&◌, List, [], ◌∷◌, refl, sym, subst, ◌∙◌}
use Rattle.std.proofs.lemmas.List.Elements.{All-nil, All-cons, All-head, All-tail}
use Rattle.std.proofs.lemmas.Bool.{and_parts, not-true, true≢false}
use Rattle.std.specs.List.{All}
use Rattle.std.specs.Prelude.{ℕ}
use Rattle.pass_budget_laws.specs.Shipped.{Shipped}
use Rattle.pass_budget_laws.proofs.Shipping.{all_apart, is_apart}
use Rattle.shipped_passes.specs.Shipped.{shipped, MakesAsEach, MakesAsShipped, MeanEach, AreShipped}
use Rattle.pass_law.specs.Chains.{AllSame}
use Rattle.pass_law.specs.Meaning.{Meaning, SameMeaning, is_name}

-- ---- each makes only what it makes itself, since no two have one name

-- each of some makes as these do
AllMake : (these some : List Shipped) → Type 0
AllMake these [] = Unit {0}
AllMake these (s ∷ some) = MakesAsEach these s.meaning × AllMake these some

none_named : (s : Shipped) (these : List Shipped) → is_apart s these ≡ true → MakesAsEach these s.meaning
none_named s [] e = tt
none_named s (t ∷ rest) e =
    let h = and_parts (not (is_name s.row.name t.row.name)) (not (is_name t.row.name s.row.name) && is_apart s rest) e in
    let k = and_parts (not (is_name t.row.name s.row.name)) (is_apart s rest) h.1 in
    (λ named. absurd (true≢false (sym named ∙ s.answers t.row.name ∙ not-true (is_name s.row.name t.row.name) h.0)), none_named s rest k.1)

one_more : (s : Shipped) (rest some : List Shipped) → is_apart s some ≡ true → AllMake rest some → AllMake (s ∷ rest) some
unfolding AllMake
one_more s rest [] e h = tt
one_more s rest (t ∷ some) e h =
    let a = and_parts (not (is_name s.row.name t.row.name)) (not (is_name t.row.name s.row.name) && is_apart s some) e in
    let b = and_parts (not (is_name t.row.name s.row.name)) (is_apart s some) a.1 in
    ((λ named. absurd (true≢false (sym named ∙ t.answers s.row.name ∙ not-true (is_name t.row.name s.row.name) b.0)), h.0), one_more s rest some b.1 h.1)

all_make : (these : List Shipped) → all_apart these ≡ true → AllMake these these
unfolding AllMake
all_make [] e = tt
all_make (s ∷ rest) e =
    let h = and_parts (is_apart s rest) (all_apart rest) e in
    ((λ named p profile q made. made, none_named s rest h.0), one_more s rest rest h.0 (all_make rest h.1))

-- their names differ
pub shipped-apart : all_apart shipped ≡ true
shipped-apart = refl

shipped-make : AllMake shipped shipped
shipped-make = all_make shipped shipped-apart

-- ---- passes that mean what others do

MakesAsEach-same : (m n : Meaning) → SameMeaning m n → (these : List Shipped) → MakesAsEach these m → MakesAsEach these n
MakesAsEach-same m n same [] h = tt
MakesAsEach-same m n same (s ∷ rest) h =
    (λ named p profile q made. h.0 (subst (λ (f : List ℕ → Bool). f s.row.name ≡ true) (sym same.answers) named) p profile q ((same.makes p profile q).1 made), MakesAsEach-same m n same rest h.1)

MakesAsShipped-same : (m n : Meaning) → SameMeaning m n → MakesAsShipped m → MakesAsShipped n
MakesAsShipped-same m n same h = record { each = MakesAsEach-same m n same shipped h.each }

module _ {B : Type 0} (meaning : B → Meaning) where
  pub All-shipped-same : (before after : List B) → AllSame meaning before after → All (λ p. MakesAsShipped (meaning p)) before → All (λ p. MakesAsShipped (meaning p)) after
  All-shipped-same [] [] same h = All-nil _
  All-shipped-same [] (q ∷ qs) same h = absurd same
  All-shipped-same (p ∷ ps) [] same h = absurd same
  All-shipped-same (p ∷ ps) (q ∷ qs) same h =
      let P = λ (pass : B). MakesAsShipped (meaning pass) in
      All-cons P q qs (MakesAsShipped-same (meaning p) (meaning q) same.0 (All-head P p ps h)) (All-shipped-same ps qs same.1 (All-tail P p ps h))

  each_makes : (some : List Shipped) (passes : List B) → AllMake shipped some → MeanEach meaning some passes → All (λ p. MakesAsShipped (meaning p)) passes
  unfolding AllMake
  each_makes [] [] h means = All-nil _
  each_makes [] (p ∷ ps) h means = absurd means
  each_makes (s ∷ some) [] h means = absurd means
  each_makes (s ∷ some) (p ∷ ps) h means =
      All-cons (λ (pass : B). MakesAsShipped (meaning pass)) p ps (MakesAsShipped-same s.meaning (meaning p) means.0 (record { each = h.0 })) (each_makes some ps h.1 means.1)

  -- the shipped passes
  pub AreShipped-make : (passes : List B) → AreShipped meaning passes → All (λ p. MakesAsShipped (meaning p)) passes
  AreShipped-make passes are = each_makes shipped passes shipped-make are.each
