-- Heads of classes, in rows by their types.
use Rattle.std.proofs.Common.{◌≡◌, ℕ, ◌-◌, ◌<◌, Bool, true, false, cond, List, [], ◌∷◌, ◌++◌, length, map, get_or, set, take, sym, ap, subst, ◌∙◌, ⊎_elim, arith}
use Rattle.std.specs.Prelude.{slice_index}
use Rattle.std.specs.List.{Contains, swap_remove}
use Rattle.std.proofs.lemmas.Bool.{cases_eq, cases_lt, cases_Bool}
use Rattle.std.proofs.lemmas.List.{get_or-set_same, get_or-set_other, get_or-map, get_or-take, get_or_default, length-set, length-take-le, map-set}
use Rattle.std.proofs.lemmas.List.Elements.{Contains-append_left, Contains-push}
use Rattle.bril_tree.specs.declared.numbered_function.Func.{Func}
use Rattle.graph_search.specs.Marks.{is_marked}
use Rattle.variable_renaming.specs.Classes.{class_of}
use Rattle.variable_coloring.proofs.Marks.{false-true, marked-before, marked-differ}
use Rattle.variable_coloring.specs.Growing.{AreHeads, Misfits, OtherType, TwoShadows, NoneFits, NoneFitsAtAll, row_at, row_of, shadows_joined, type_row, with_number}

-- ---- rows

module _ {V : Type 0} (g : V → List ℕ) (rows : List V) (row : ℕ) (old new : V) (low : row < length rows) (at : old ≡ get_or rows row old) where
  there : row_at (map g rows) row ≡ g old
  there = get_or-map g rows row old [] low ∙ ap g (sym at)

  -- a number was pushed
  pub pushed-row : (number : ℕ) → g new ≡ g old ++ number ∷ [] → map g (set rows row new) ≡ with_number (map g rows) row number
  pushed-row number made = map-set g rows row new ∙ ap (set (map g rows) row) (made ∙ ap (λ l. l ++ number ∷ []) (sym there))

  -- and taken out
  pub taken-row : (place taken : ℕ) → g new ≡ swap_remove (g old) place taken → map g (set rows row new) ≡ set (map g rows) row (swap_remove (row_at (map g rows) row) place taken)
  taken-row place taken made = map-set g rows row new ∙ ap (set (map g rows) row) (made ∙ ap (λ l. swap_remove l place taken) (sym there))

-- a number that was pushed
pub pushed-there : (rows : List (List ℕ)) (row number : ℕ) → row < length rows → Contains (row_at (with_number rows row number) row) number
pushed-there rows row number low = subst (λ l. Contains l number) (sym (get_or-set_same rows row (row_at rows row ++ number ∷ []) [] low)) (Contains-push (row_at rows row) number)

-- what was there stays
pub pushed-kept : (rows : List (List ℕ)) (row number r m : ℕ) → row < length rows → Contains (row_at rows r) m → Contains (row_at (with_number rows row number) r) m
pushed-kept rows row number r m low c = ⊎_elim
    (λ e. subst (λ l. Contains l m) (sym (ap (row_at (with_number rows row number)) e ∙ get_or-set_same rows row (row_at rows row ++ number ∷ []) [] low)) (Contains-append_left (row_at rows row) (number ∷ []) m (subst (λ v. Contains (row_at rows v) m) e c)))
    (λ d. subst (λ l. Contains l m) (sym (get_or-set_other rows row r (row_at rows row ++ number ∷ []) [] d)) c)
    (cases_eq r row)

-- a number of the list other than the one that was taken out
taken-list : (list : List ℕ) (place m : ℕ) → place < length list → Contains list m → (m ≡ slice_index list place → ⊥) → (v : ℕ) → Contains (swap_remove list place v) m
taken-list list place m low c d v = ⊎_elim last earlier (cases_eq at (length list - 1))
  where
    at : ℕ
    at = c.0

    inside : at < length list
    inside = c.1

    is : (e : ℕ) → get_or list at e ≡ m
    is e = get_or_default list at e m inside ∙ c.2

    differs : at ≡ place → ⊥
    differs e = d (sym (is 0) ∙ ap (λ k. get_or list k 0) e)

    moved : List ℕ
    moved = set list place (get_or list (length list - 1) v)

    long : length (take (length list - 1) moved) ≡ length list - 1
    long = length-take-le (length list - 1) moved (let l = length-set list place (get_or list (length list - 1) v) in omega (arith, l))

    earlier : (at ≡ length list - 1 → ⊥) → Contains (swap_remove list place v) m
    earlier n =
        let less : at < length list - 1 = (let i = inside in ⊎_elim (λ l. l) (λ high. absurd (n (omega (arith, i, high)))) (cases_lt at (length list - 1))) in
        (at, (let l = long in omega (arith, l, less)), get_or-take (length list - 1) moved at m less ∙ get_or-set_other list place at (get_or list (length list - 1) v) m differs ∙ is m)

    last : at ≡ length list - 1 → Contains (swap_remove list place v) m
    last e =
        let less : place < length list - 1 = (let n = differs in let i = inside in ⊎_elim (λ l. l) (λ high. absurd (n (omega (arith, e, i, high, low)))) (cases_lt place (length list - 1))) in
        (place, (let l = long in omega (arith, l, less)), get_or-take (length list - 1) moved place m less ∙ get_or-set_same list place (get_or list (length list - 1) v) m low ∙ ap (λ k. get_or list k v) (sym e) ∙ is v)

pub taken-kept : (rows : List (List ℕ)) (row place v r m : ℕ) → row < length rows → place < length (row_at rows row) → Contains (row_at rows r) m → (m ≡ slice_index (row_at rows row) place → ⊥) → Contains (row_at (set rows row (swap_remove (row_at rows row) place v)) r) m
taken-kept rows row place v r m low inside c d = ⊎_elim
    (λ e. subst (λ l. Contains l m) (sym (ap (row_at (set rows row (swap_remove (row_at rows row) place v))) e ∙ get_or-set_same rows row (swap_remove (row_at rows row) place v) [] low)) (taken-list (row_at rows row) place m inside (subst (λ k. Contains (row_at rows k) m) e c) d v))
    (λ n. subst (λ l. Contains l m) (sym (get_or-set_other rows row r (swap_remove (row_at rows row) place v) [] n)) c)
    (cases_eq r row)

-- ---- heads

-- the same of equal lists
pub heads-same : (F : Func) (placed placed' : List Bool) (class class' : List ℕ) (shadow shadow' : List Bool) (shadowed plain : List (List ℕ)) → placed' ≡ placed → class' ≡ class → shadow' ≡ shadow → AreHeads F placed class shadow shadowed plain → AreHeads F placed' class' shadow' shadowed plain
heads-same F placed placed' class class' shadow shadow' shadowed plain e a b h = subst (λ z. AreHeads F z class' shadow' shadowed plain) (sym e) (subst (λ z. AreHeads F placed z shadow' shadowed plain) (sym a) (subst (λ z. AreHeads F placed class z shadowed plain) (sym b) h))

module _ (F : Func) (n : ℕ) (placed : List Bool) (class : List ℕ) (shadow : List Bool) (shadowed plain : List (List ℕ)) (a : AreHeads F placed class shadow shadowed plain) where
  module _ (few : row_of F n < 100) where
    pub opened-shadowed : (new : List (List ℕ)) → is_marked shadow n ≡ true → new ≡ with_number shadowed (row_of F n) n → AreHeads F (set placed n true) class shadow new plain
    opened-shadowed new marked e = subst (λ l. AreHeads F (set placed n true) class shadow l plain) (sym e) (record {
      shadowed_long = length-set shadowed (row_of F n) (row_at shadowed (row_of F n) ++ n ∷ []) ∙ a.shadowed_long;
      plain_long = a.plain_long;
      in_shadowed = λ h there head m. ⊎_elim
          (λ s. subst (λ v. Contains (row_at (with_number shadowed (row_of F n) n) (row_of F v)) v) (sym s) (pushed-there shadowed (row_of F n) n fits))
          (λ d. pushed-kept shadowed (row_of F n) n (row_of F h) h fits (a.in_shadowed h (marked-before placed n h there d) head m)) (cases_eq h n);
      in_plain = λ h there head m. ⊎_elim (λ s. absurd (false-true (is_marked shadow n) (ap (is_marked shadow) (sym s) ∙ m) marked)) (λ d. a.in_plain h (marked-before placed n h there d) head m) (cases_eq h n);
    })
      where
        fits : row_of F n < length shadowed
        fits = let l = a.shadowed_long in omega (arith, l, few)

    pub opened-plain : (new : List (List ℕ)) → is_marked shadow n ≡ false → new ≡ with_number plain (row_of F n) n → AreHeads F (set placed n true) class shadow shadowed new
    opened-plain new marked e = subst (AreHeads F (set placed n true) class shadow shadowed) (sym e) (record {
      shadowed_long = a.shadowed_long;
      plain_long = length-set plain (row_of F n) (row_at plain (row_of F n) ++ n ∷ []) ∙ a.plain_long;
      in_shadowed = λ h there head m. ⊎_elim (λ s. absurd (false-true (is_marked shadow n) marked (ap (is_marked shadow) (sym s) ∙ m))) (λ d. a.in_shadowed h (marked-before placed n h there d) head m) (cases_eq h n);
      in_plain = λ h there head m. ⊎_elim
          (λ s. subst (λ v. Contains (row_at (with_number plain (row_of F n) n) (row_of F v)) v) (sym s) (pushed-there plain (row_of F n) n fits))
          (λ d. pushed-kept plain (row_of F n) n (row_of F h) h fits (a.in_plain h (marked-before placed n h there d) head m)) (cases_eq h n);
    })
      where
        fits : row_of F n < length plain
        fits = let l = a.plain_long in omega (arith, l, few)

  module _ (k : ℕ) (there : is_marked placed k ≡ true) (waiting : is_marked placed n ≡ false) (inside : n < length class) where
    other-class : (z : ℕ) → (z ≡ n → ⊥) → class_of (set class n k) z ≡ class_of class z
    other-class z d = get_or-set_other class n z k z d

    -- x is no head
    no-head : class_of (set class n k) n ≡ n → ⊥
    no-head e = marked-differ placed k n there waiting (sym (get_or-set_same class n k n inside) ∙ e)

    earlier-head : (h : ℕ) → is_marked (set placed n true) h ≡ true → class_of (set class n k) h ≡ h → (is_marked placed h ≡ true) × (class_of class h ≡ h)
    earlier-head h is e = (marked-before placed n h is differs, sym (other-class h differs) ∙ e)
      where
        differs : h ≡ n → ⊥
        differs s = no-head (subst (λ v. class_of (set class n k) v ≡ v) s e)

    -- x without a mark joins the class k
    pub joined-plain : is_marked shadow n ≡ false → AreHeads F (set placed n true) (set class n k) (shadows_joined shadow n k) shadowed plain
    joined-plain plain_n = subst (λ l. AreHeads F (set placed n true) (set class n k) l shadowed plain) (sym (ap (λ b. cond b (set shadow k true) shadow) plain_n)) (record {
      shadowed_long = a.shadowed_long;
      plain_long = a.plain_long;
      in_shadowed = λ h is head m. (let e = earlier-head h is head in a.in_shadowed h e.0 e.1 m);
      in_plain = λ h is head m. (let e = earlier-head h is head in a.in_plain h e.0 e.1 m);
    })

    -- x with a mark joins the class k, whose head goes to the other rows
    pub joined-shadowed : (row place taken : ℕ) → row ≡ row_of F k → row < 100 → place < length (row_at plain row) → k ≡ slice_index (row_at plain row) place → k < length shadow → is_marked shadow n ≡ true
        → AreHeads F (set placed n true) (set class n k) (shadows_joined shadow n k) (with_number shadowed row k) (set plain row (swap_remove (row_at plain row) place taken))
    joined-shadowed row place taken own few low is long marked = subst (λ l. AreHeads F (set placed n true) (set class n k) l (with_number shadowed row k) (set plain row (swap_remove (row_at plain row) place taken))) (sym (ap (λ b. cond b (set shadow k true) shadow) marked)) (record {
      shadowed_long = length-set shadowed row (row_at shadowed row ++ k ∷ []) ∙ a.shadowed_long;
      plain_long = length-set plain row (swap_remove (row_at plain row) place taken) ∙ a.plain_long;
      in_shadowed = λ h set_h head m. (let e = earlier-head h set_h head in ⊎_elim
          (λ s. subst (λ v. Contains (row_at (with_number shadowed row k) (row_of F v)) v) (sym s) (subst (λ r. Contains (row_at (with_number shadowed row k) r) k) own (pushed-there shadowed row k row-shadowed)))
          (λ d. pushed-kept shadowed row k (row_of F h) h row-shadowed (a.in_shadowed h e.0 e.1 (sym (get_or-set_other shadow k h true false d) ∙ m))) (cases_eq h k));
      in_plain = λ h set_h head m. (let e = earlier-head h set_h head in ⊎_elim
          (λ s. absurd (false-true (is_marked (set shadow k true) k) (ap (is_marked (set shadow k true)) (sym s) ∙ m) (get_or-set_same shadow k true false long)))
          (λ d. taken-kept plain row place taken (row_of F h) h row-plain low (a.in_plain h e.0 e.1 (sym (get_or-set_other shadow k h true false d) ∙ m)) (λ g. d (g ∙ sym is))) (cases_eq h k));
    })
      where
        row-shadowed : row < length shadowed
        row-shadowed = let l = a.shadowed_long in omega (arith, l, few)

        row-plain : row < length plain
        row-plain = let l = a.plain_long in omega (arith, l, few)

  -- ---- where none of a row fits, none of before does

  module _ (turn : ℕ) (stamps : List ℕ) where
    other-row : (h : ℕ) → (row_of F h ≡ row_of F n → ⊥) → Misfits F placed class shadow stamps n turn h
    other-row h d = OtherType (λ e. d (ap type_row (sym e)))

    pub none-shadowed : is_marked shadow n ≡ true → NoneFits F placed class shadow stamps n turn (row_at plain (row_of F n)) → NoneFitsAtAll F placed class shadow stamps n turn
    none-shadowed marked none h there head = ⊎_elim
        (λ e. ⊎_elim (λ m. TwoShadows marked m) (λ m. none h (subst (λ r. Contains (row_at plain r) h) e (a.in_plain h there head m))) (cases_Bool (is_marked shadow h)))
        (λ d. other-row h d) (cases_eq (row_of F h) (row_of F n))

    pub none-plain : NoneFits F placed class shadow stamps n turn (row_at shadowed (row_of F n)) → NoneFits F placed class shadow stamps n turn (row_at plain (row_of F n)) → NoneFitsAtAll F placed class shadow stamps n turn
    none-plain first second h there head = ⊎_elim
        (λ e. ⊎_elim (λ m. first h (subst (λ r. Contains (row_at shadowed r) h) e (a.in_shadowed h there head m))) (λ m. second h (subst (λ r. Contains (row_at plain r) h) e (a.in_plain h there head m))) (cases_Bool (is_marked shadow h)))
        (λ d. other-row h d) (cases_eq (row_of F h) (row_of F n))
