-- Lists, marks of copies and items.
use Rattle.std.proofs.Common.{◌≡◌, ◌⊎◌, ℕ, zero, suc, ◌+◌, ◌<◌, ◌≤◌, Bool, true, false, List, [], ◌∷◌, ◌++◌, length, map, get_or, refl, sym, ap, subst, ◌∙◌, inl, inr, ⊎_elim, arith, cond, min, take}
use Rattle.std.proofs.lemmas.Bool.{cases_eq, cases_lt}
use Rattle.std.proofs.lemmas.List.{length-append, length-map, length-take, map-append}
use Rattle.std.proofs.Math.Seq.{take-suc}
use Rattle.pass_edit_laws.specs.plan.Marked.{with_nops}
use Rattle.pass_edit_laws.proofs.lemmas.plan.Marked.{nops-push}
use Rattle.std.proofs.lemmas.Option.{slice_get_within}
use Rattle.bril_tree.specs.declared.numbered_function.Func.{Func}
use Rattle.bril_names.specs.Range.{AreBelow}
use Rattle.graph_search.specs.Marks.{is_marked}
use Rattle.variable_renaming.specs.Made.{CopyWithin, MarksCopies, MarksFirst}

pub below-at : (n : ℕ) (xs : List ℕ) (i d : ℕ) → AreBelow n xs → i < length xs → get_or xs i d < n
below-at n [] i d below low = absurd (omega arith)
below-at n (x ∷ xs) zero d below low = below.0
below-at n (x ∷ xs) (suc i) d below low = below-at n xs i d below.1 (omega arith)

pub any-default : {A : Type 0} (xs : List A) (i : ℕ) (d e : A) → i < length xs → get_or xs i d ≡ get_or xs i e
any-default [] i d e low = absurd (omega arith)
any-default (x ∷ xs) zero d e low = refl
any-default (x ∷ xs) (suc i) d e low = any-default xs i d e (omega arith)

-- past the end of a list
pub outside : {A : Type 0} (l : List A) (n : ℕ) (d : A) → length l ≤ n → get_or l n d ≡ d
outside [] n d high = refl
outside (y ∷ l) zero d high = absurd (omega arith)
outside (y ∷ l) (suc n) d high = outside l n d (omega arith)

-- ---- marks

mark-push : (marks : List Bool) (b : Bool) (k : ℕ) → (get_or (marks ++ b ∷ []) k false ≡ get_or marks k false) ⊎ ((k ≡ length marks) × (get_or (marks ++ b ∷ []) k false ≡ b))
mark-push [] b zero = inr (refl, refl)
mark-push [] b (suc k) = inl refl
mark-push (m ∷ marks) b zero = inl refl
mark-push (m ∷ marks) b (suc k) = ⊎_elim inl (λ h. inr (ap suc h.0, h.1)) (mark-push marks b k)

last-pushed : (xs : List Bool) (b : Bool) → get_or (xs ++ b ∷ []) (length xs) false ≡ b
last-pushed [] b = refl
last-pushed (x ∷ xs) b = last-pushed xs b

pub marks-more : (F : Func) (class : List ℕ) (n : ℕ) (old new : List Bool) (b : Bool) → new ≡ old ++ b ∷ [] → (b ≡ true → CopyWithin F class n) → (b ≡ false → CopyWithin F class n → ⊥) → MarksFirst F class n old → MarksFirst F class (n + 1) new
marks-more F class n old new b e within other m = record {
  long = ap length e ∙ length-append old (b ∷ []) ∙ ap (λ k. k + 1) m.long;
  only = λ point h. ⊎_elim (λ s. m.only point (sym s ∙ ap (λ l. get_or l point false) (sym e) ∙ h)) (λ s. subst (CopyWithin F class) (sym (s.0 ∙ m.long)) (within (sym s.1 ∙ ap (λ l. get_or l point false) (sym e) ∙ h))) (mark-push old b point);
  all = λ point less h c.
      ⊎_elim
      (λ s. other (was-false point s h) (subst (CopyWithin F class) s c))
      (λ d. m.all point (⊎_elim (λ l. l) (λ high. absurd (d (omega arith))) (cases_lt point n)) (⊎_elim (λ s. sym s ∙ ap (λ l. get_or l point false) (sym e) ∙ h) (λ s. absurd (d (s.0 ∙ m.long))) (mark-push old b point)) c)
      (cases_eq point n);
}
  where
    at-end : (point : ℕ) → point ≡ n → get_or (old ++ b ∷ []) point false ≡ b
    at-end point s = ⊎_elim (λ k. past point s k) (λ k. k.1) (mark-push old b point)
      where
        past : (point : ℕ) → point ≡ n → get_or (old ++ b ∷ []) point false ≡ get_or old point false → get_or (old ++ b ∷ []) point false ≡ b
        past point s k = ap (λ i. get_or (old ++ b ∷ []) i false) (s ∙ sym m.long) ∙ last-pushed old b

    was-false : (point : ℕ) → point ≡ n → is_marked new point ≡ false → b ≡ false
    was-false point s h = sym (at-end point s) ∙ ap (λ l. get_or l point false) (sym e) ∙ h

pub marks-all : (F : Func) (class : List ℕ) (n : ℕ) (marks : List Bool) → n ≡ length F.code → MarksFirst F class n marks → MarksCopies F class marks
marks-all F class n marks same m = record {
  long = m.long ∙ same;
  only = m.only;
  all = λ point e c. let l = slice_get_within F.code point c.item c.at in m.all point (omega (arith, same)) e c;
}

-- ---- items

pub nops-next : {X Y : Type 0} (e : Y) (T : X → Y) (marks : List Bool) (code : List X) (n : ℕ) (item : X) (old new : List Y) (made : Y) → n < length code → item ≡ get_or code n item → old ≡ with_nops e marks (map T (take n code)) → made ≡ cond (is_marked marks n) e (T item) → new ≡ old ++ made ∷ []
    → new ≡ with_nops e marks (map T (take (n + 1) code))
nops-next {X} {Y} e T marks code n item old new made low is before one pushed =
    pushed
    ∙ (λ i. before i ++ (one ∙ ap (λ k. cond (is_marked marks k) e (T item)) (sym size)) i ∷ [])
    ∙ sym (nops-push e marks (map T (take n code)) (T item))
    ∙ ap (with_nops e marks) (sym (map-append T (take n code) (item ∷ [])))
    ∙ ap (λ x. with_nops e marks (map T (take n code ++ x ∷ []))) is
    ∙ ap (λ l. with_nops e marks (map T l)) (sym (take-suc code n item low))
    ∙ ap (λ m. with_nops e marks (map T (take m code))) (let h : suc n ≡ n + 1 = omega arith in h)
  where
    size : length (map T (take n code)) ≡ n
    size = length-map (take n code) T ∙ taken n (length code) (length (take n code)) (length-take n code) low
      where
        taken : (n m l : ℕ) → l ≡ min n m → n < m → l ≡ n
        taken n m l e h = grind arith
