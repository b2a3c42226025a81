-- Counts of different things, put together and carried over.
use Rattle.std.proofs.Common.{◌≡◌, ◌≢◌, ◌⊎◌, ℕ, ◌+◌, List, [], ◌∷◌, ◌++◌, map, refl, sym, subst, ◌∙◌, inl, inr, ⊎_elim, arith}
use Rattle.std.specs.List.{AllPairs}
use Rattle.std.proofs.lemmas.List.{length-append, length-map}
use Rattle.bril_tree.specs.Membership.{In}
use Rattle.bril_tree.proofs.Members.{contains_in, in_append_left, in_append_right, in_append_cases, in_contains, in_map, in_map_source}
use Rattle.std.proofs.lemmas.List.Kept.{AllPairs-cons}
use Rattle.bril_tree.proofs.Counting.{differ-first, differ-rest}
use Rattle.pass_edit_laws.proofs.lemmas.numbers.Different.{differ-both}
use Rattle.pass_edit_laws.proofs.lemmas.plan.Elements.{all_in, in_all}
use Rattle.program_numbers.specs.Entries.{AreSoMany}

pub so-none : {A : Type 0} (P : A → Type 0) → ((x : A) → P x → ⊥) → AreSoMany P 0
so-none P none = record {
  members = [];
  differ = λ i j d less inside. absurd (omega arith);
  are = in_all P [] (λ x i. absurd i);
  all = λ x p. absurd (none x p);
  count = refl;
}

-- things of two kinds that no thing is of both of
pub so-both : {A : Type 0} (P Q R : A → Type 0) (m n : ℕ) → AreSoMany P m → AreSoMany Q n → ((x : A) → P x → Q x → ⊥) → ((x : A) → R x → P x ⊎ Q x) → ((x : A) → P x → R x) → ((x : A) → Q x → R x) → AreSoMany R (m + n)
so-both P Q R m n a b apart cases left right = record {
  members = a.members ++ b.members;
  differ = differ-both a.members b.members a.differ b.differ (λ x i j. apart x (all_in P a.members a.are x i) (all_in Q b.members b.are x j));
  are = in_all R (a.members ++ b.members) (λ x i. ⊎_elim (λ j. left x (all_in P a.members a.are x j)) (λ j. right x (all_in Q b.members b.are x j)) (in_append_cases x a.members b.members i));
  all = λ x r. contains_in x (a.members ++ b.members) (⊎_elim (λ p. in_append_left x a.members b.members (in_contains x a.members (a.all x p))) (λ q. in_append_right x a.members b.members (in_contains x b.members (b.all x q))) (cases x r));
  count = let l = length-append a.members b.members in let c = a.count in let d = b.count in omega (arith, l, c, d);
}

-- different things, each made of one, where no two make one
differ-made : {A B : Type 0} (P : A → Type 0) (f : A → B) → ((x y : A) → P x → P y → f x ≡ f y → x ≡ y) → (xs : List A) → ((x : A) → In x xs → P x) → AllPairs (λ a b. a ≢ b) xs → AllPairs (λ a b. a ≢ b) (map f xs)
differ-made P f one [] are differ = λ i j d less inside. absurd (omega arith)
differ-made P f one (x ∷ xs) are differ =
    AllPairs-cons (λ a b. a ≢ b) (f x) (map f xs)
    (in_all (λ z. f x ≢ z) (map f xs) (λ z i. λ e. let s = in_map_source f z xs i in differ-first x xs differ s.0 s.1 (one x s.0 (are x (inl refl)) (are s.0 (inr s.1)) (e ∙ s.2))))
    (differ-made P f one xs (λ y i. are y (inr i)) (differ-rest x xs differ))

-- each thing is made of one of another kind
pub so-made : {A B : Type 0} (P : A → Type 0) (Q : B → Type 0) (f : A → B) (n : ℕ) → AreSoMany P n → ((x y : A) → P x → P y → f x ≡ f y → x ≡ y) → ((x : A) → P x → Q (f x)) → ((y : B) → Q y → (x : A) × P x × (f x ≡ y)) → AreSoMany Q n
so-made P Q f n a one to from = record {
  members = map f a.members;
  differ = differ-made P f one a.members (λ x i. all_in P a.members a.are x i) a.differ;
  are = in_all Q (map f a.members) (λ y i. let s = in_map_source f y a.members i in subst Q (sym s.2) (to s.0 (all_in P a.members a.are s.0 s.1)));
  all = λ y q. let s = from y q in contains_in y (map f a.members) (subst (λ z. In z (map f a.members)) s.2 (in_map f s.0 a.members (in_contains s.0 a.members (a.all s.0 s.1))));
  count = length-map a.members f ∙ a.count;
}

-- the same things
pub so-same : {A : Type 0} (P Q : A → Type 0) (n : ℕ) → AreSoMany P n → ((x : A) → P x → Q x) → ((x : A) → Q x → P x) → AreSoMany Q n
so-same P Q n a to from = so-made P Q (λ x. x) n a (λ x y p q e. e) to (λ y q. (y, from y q, refl))
