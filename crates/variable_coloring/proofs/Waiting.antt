-- The pairs of variables that wait.
use Rattle.std.proofs.Common.{◌≡◌, ◌⊎◌, ℕ, suc, ◌+◌, ◌<◌, ◌≤◌, Bool, true, false, List, [], ◌∷◌, ◌++◌, length, get_or, take, sym, ap, subst, ◌∙◌, inl, inr, ⊎_elim, arith}
use Rattle.std.specs.Prelude.{◌↔◌}
use Rattle.std.specs.List.{Contains}
use Rattle.std.proofs.lemmas.Bool.{cases_order}
use Rattle.std.proofs.lemmas.List.{take_all}
use Rattle.std.proofs.lemmas.List.Elements.{Contains-append_left, Contains-push, Contains-push_cases}
use Rattle.std.proofs.Math.Seq.{take-suc}
use Rattle.bril_tree.specs.declared.numbered_function.Func.{Func}
use Rattle.flow_graph.specs.Accesses.{Accesses}
use Rattle.flow_graph.specs.declared.reads.Access.{Access}
use Rattle.graph_search.specs.Marks.{is_marked}
use Rattle.variable_coloring.specs.Growing.{AreMet}
use Rattle.variable_coloring.specs.Late.{AddsRows, AreLatePairs, AreMeeting, AreRowsOf, turned}
use Rattle.variable_coloring.specs.Pairs.{ArePairs, IsPair, Meet}

module _ (placed : List Bool) (pairs : List Access) where
  pub rows-more : (old new : List Access) (n : ℕ) (d : Access) → n < length pairs → AreRowsOf placed (take n pairs) old → AddsRows placed (get_or pairs n d) old new → AreRowsOf placed (take (n + 1) pairs) new
  rows-more old new n d low before adds = record {
    only = λ a c. ⊎_elim (λ h. ⊎_elim (λ g. inl (kept a g)) (λ g. inr (kept (turned a) g)) (before.only a h))
        (⊎_elim (λ e. inl (subst (Contains (take (n + 1) pairs)) (sym e) last)) (λ e. inr (subst (Contains (take (n + 1) pairs)) (sym e) last))) (adds.only a c);
    all = λ a waits. ⊎_elim
        (λ c. ⊎_elim (λ g. adds.kept a (before.all a waits (inl g))) (λ e. subst (Contains new) e (adds.there (subst (λ p. is_marked placed p.location ≡ false) (sym e) waits))) (one-of a c))
        (λ c. ⊎_elim (λ g. adds.kept a (before.all a waits (inr g))) (λ e. subst (λ p. Contains new (turned p)) e (adds.other (subst (λ p. is_marked placed p.item ≡ false) (sym e) waits))) (one-of (turned a) c));
  }
    where
      grown : take (n + 1) pairs ≡ take n pairs ++ get_or pairs n d ∷ []
      grown = ap (λ m. take m pairs) (let h : n + 1 ≡ suc n = omega arith in h) ∙ take-suc pairs n d low

      one-of : (a : Access) → Contains (take (n + 1) pairs) a → Contains (take n pairs) a ⊎ (get_or pairs n d ≡ a)
      one-of a c = Contains-push_cases (take n pairs) (get_or pairs n d) a (subst (λ l. Contains l a) grown c)

      kept : (a : Access) → Contains (take n pairs) a → Contains (take (n + 1) pairs) a
      kept a c = subst (λ l. Contains l a) (sym grown) (Contains-append_left (take n pairs) (get_or pairs n d ∷ []) a c)

      last : Contains (take (n + 1) pairs) (get_or pairs n d)
      last = subst (λ l. Contains l (get_or pairs n d)) (sym grown) (Contains-push (take n pairs) (get_or pairs n d))

  pub rows-all : (list : List Access) (n : ℕ) → length pairs ≤ n → AreRowsOf placed (take n pairs) list → AreRowsOf placed pairs list
  rows-all list n over rows = subst (λ l. AreRowsOf placed l list) (take_all n pairs over) rows

meet-turned : (F : Func) (x y : ℕ) → Meet F.code x y → Meet F.code y x
meet-turned F x y m = record { item = m.item; clash = ⊎_elim (λ c. inr c) (λ c. inl c) m.clash }

-- a pair meets, either way
pub pair-meets : (F : Func) (x y : ℕ) → IsPair F x y → AreMeeting F x y
pair-meets F x y p = record { differ = λ e. (let o = p.order in omega (arith, e, o)); below = (let o = p.order in let b = p.below in omega (arith, o, b)); meet = p.meet }

pair-meets-turned : (F : Func) (x y : ℕ) → IsPair F x y → AreMeeting F y x
pair-meets-turned F x y p = record { differ = λ e. (let o = p.order in omega (arith, e, o)); below = p.below; meet = meet-turned F x y p.meet }

-- such rows tell of those that aren't placed what meets them
pub late-rows : (F : Func) (placed : List Bool) (pairs list : List Access) → ArePairs F pairs → AreRowsOf placed pairs list → AreLatePairs F placed list
late-rows F placed pairs list are rows x y low waits = (only, all)
  where
    at : Access
    at = record { item = y; location = x }

    only : Contains list at → AreMeeting F x y
    only c = ⊎_elim (λ h. pair-meets F x y ((are x y).0 h)) (λ h. pair-meets-turned F y x ((are y x).0 h)) (rows.only at c)

    all : AreMeeting F x y → Contains list at
    all m = ⊎_elim (λ e. absurd (m.differ e)) (⊎_elim
        (λ less. rows.all at waits (inr ((are y x).1 (record { order = less; below = m.below; meet = meet-turned F x y m.meet }))))
        (λ less. rows.all at waits (inl ((are x y).1 (record { order = less; below = low; meet = m.meet })))))
        (cases_order x y)

-- what a first turn takes from the pairs
pub met-first : (F : Func) (x : ℕ) (pairs : List Access) (placed : List Bool) (met : List ℕ) → ArePairs F pairs → x < length F.vars → ((y : ℕ) → is_marked placed y ≡ true → y < x) → ((y : ℕ) → Contains met y ↔ Accesses pairs x y) → AreMet F x placed met
met-first F x pairs placed met are low before told = record {
  only = λ y c. pair-meets F x y ((are x y).0 ((told y).0 c));
  all = λ y there m. (told y).1 ((are x y).1 (record { order = before y there; below = low; meet = m.meet }));
}

-- and a second one
pub met-second : (F : Func) (x : ℕ) (list : List Access) (placed : List Bool) (met : List ℕ) → AreLatePairs F placed list → x < length F.vars → is_marked placed x ≡ false → ((y : ℕ) → Contains met y ↔ Accesses list x y) → AreMet F x placed met
met-second F x list placed met late low waits told = record {
  only = λ y c. (late x y low waits).0 ((told y).0 c);
  all = λ y there m. (told y).1 ((late x y low waits).1 m);
}
