-- Names with more and more `_` in front.
use Rattle.std.proofs.Common.{◌≡◌, ◌⊎◌, ℕ, suc, ◌<◌, ◌-◌, true, List, ◌∷◌, sym, ap, subst, ◌∙◌, inl, inr, arith}
use Rattle.std.specs.List.{Contains}
use Rattle.std.proofs.lemmas.Bool.{cases_order}
use Rattle.bril_tree.specs.Membership.{In}
use Rattle.bril_tree.specs.Identifier.{is_identifier}
use Rattle.bril_tree.proofs.Members.{in_contains, contains_in}
use Rattle.pass_edit_laws.specs.labels.Fresh.{underscored, IsFresh}
use Rattle.pass_edit_laws.proofs.lemmas.labels.Fresh.{underscored-identifier}

-- The bytes are the base with some `_` in front, and with less of them it is taken.
pub record AreMarked (taken : List (List ℕ)) (base bytes : List ℕ) : Type 0 where
  pub marks : ℕ
  pub is : bytes ≡ underscored marks base
  pub least : (n : ℕ) → n < marks → In (underscored n base) taken

pub one-more : (taken : List (List ℕ)) (base bytes marked : List ℕ) → AreMarked taken base bytes → Contains taken bytes → marked ≡ 95 ∷ bytes → AreMarked taken base marked
one-more taken base bytes marked m among e = record {
  marks = suc m.marks;
  is = e ∙ ap (λ b. 95 ∷ b) m.is;
  least = λ n l. at n (cases_order n m.marks) l;
}
  where
    at : (n : ℕ) → (n ≡ m.marks) ⊎ ((n < m.marks) ⊎ (m.marks < n)) → n < suc m.marks → In (underscored n base) taken
    at n (inl h) l = subst (λ b. In b taken) (m.is ∙ ap (λ k. underscored k base) (sym h)) (in_contains bytes taken among)
    at n (inr (inl k)) l = m.least n k
    at n (inr (inr k)) l = absurd (omega arith)

pub marked-fresh : (taken : List (List ℕ)) (base bytes name : List ℕ) → AreMarked taken base bytes → ¬ Contains taken bytes → name ≡ bytes → IsFresh taken base name
marked-fresh taken base bytes name m none e = record {
  marks = m.marks;
  is = e ∙ m.is;
  new = λ h. none (contains_in bytes taken (subst (λ b. In b taken) e h));
  least = m.least;
}

pub marked-identifier : (taken : List (List ℕ)) (base bytes : List ℕ) → AreMarked taken base bytes → is_identifier base ≡ true → is_identifier bytes ≡ true
marked-identifier taken base bytes m h = subst (λ b. is_identifier b ≡ true) (sym m.is) (underscored-identifier m.marks base h)
