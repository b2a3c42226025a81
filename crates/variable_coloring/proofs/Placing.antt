-- What becomes of the state where the next variable is put into a class.
use Rattle.std.proofs.Common.{◌≡◌, ℕ, suc, ◌+◌, ◌<◌, ◌≤◌, Bool, true, false, List, length, set, sym, ap, subst, ◌∙◌, ⊎_elim, arith}
use Rattle.std.proofs.lemmas.Bool.{cases_eq, cases_lt, cases_Bool}
use Rattle.std.specs.Prelude.{slice_index}
use Rattle.std.specs.List.{swap_remove}
use Rattle.bril_tree.specs.declared.numbered_function.Func.{Func}
use Rattle.flow_graph.specs.declared.reads.Access.{Access}
use Rattle.bril_tree.specs.Live.{IsLive}
use Rattle.bril_tree.specs.Operand.{Variable}
use Rattle.graph_search.specs.Marks.{is_marked}
use Rattle.variable_coloring.specs.Growing.{AreColorsOf, AreHeads, AreMet, Fits, IsFirstIn, IsLooking, IsSecondIn, IsState, IsStateIn, NoneFitsAtAll, Placed, PlacesIn, StampsClasses, Waits, row_at, row_of, shadows_joined, type_row, with_number}
use Rattle.variable_coloring.specs.Late.{AreLatePairs}
use Rattle.variable_coloring.specs.declared.colors.Colors.{Colors}
use Rattle.variable_coloring.proofs.Heads.{joined-plain, joined-shadowed}
use Rattle.variable_coloring.proofs.Fitting.{class-inside}
use Rattle.variable_coloring.proofs.Joining.{argument-colors, joined-colors, opened-fitless}
use Rattle.variable_coloring.proofs.Marks.{marked-before, marked-below, marked-here, marked-kept, unmarked-before}
use Rattle.variable_coloring.proofs.Stamping.{stamped-classes}

module _ (F : Func) (n turn : ℕ) (placed : List Bool) (class : List ℕ) (shadow : List Bool) (stamps : List ℕ) (shadowed plain : List (List ℕ)) where
  -- the classes that meet the variable are stamped
  pub looking : IsState F turn placed class shadow stamps shadowed plain → n < length F.vars → F.args ≤ n → is_marked placed n ≡ false → (met : List ℕ) → AreMet F n placed met → (placed' : List Bool) (class' : List ℕ) (shadow' : List Bool) (stamps' : List ℕ) → placed' ≡ placed → class' ≡ class → shadow' ≡ shadow → StampsClasses turn class met stamps stamps' → IsLooking F n turn placed' class' shadow' stamps' shadowed plain
  looking s low behind waiting met are placed' class' shadow' stamps' e a b stamped = subst (λ z. IsLooking F n turn z class' shadow' stamps' shadowed plain) (sym e) (subst (λ z. IsLooking F n turn placed z shadow' stamps' shadowed plain) (sym a) (subst (λ z. IsLooking F n turn placed class z stamps' shadowed plain) (sym b) (record {
    colors = s.colors;
    heads = s.heads;
    stamped = stamped-classes F n turn placed class met stamps stamps' (class-inside F placed class shadow s.colors) s.stamps_long s.stamps_most are stamped;
    below = low;
    behind = behind;
    waiting = waiting;
  })))

  module _ (l : IsLooking F n turn placed class shadow stamps shadowed plain) where
    -- it waits
    pub waits-state : IsState F (suc turn) placed class shadow stamps shadowed plain
    waits-state = record { colors = l.colors; heads = l.heads; stamps_long = (let s = l.stamped in s.long); stamps_most = (let s = l.stamped in s.most) }

    module _ (started : (y : ℕ) → IsLive F.code (Variable y) 0 → y < F.args) where
      inside : n < length class
      inside = let c = l.colors in let e = c.long in let low = l.below in omega (arith, e, low)

      -- none fits, so it begins a class
      pub opened-state : NoneFitsAtAll F placed class shadow stamps n turn → (placed' : List Bool) (class' : List ℕ) (shadow' : List Bool) (stamps' : List ℕ) (shadowed' plain' : List (List ℕ)) → placed' ≡ set placed n true → class' ≡ class → shadow' ≡ shadow → stamps' ≡ stamps → AreHeads F placed' class' shadow' shadowed' plain' → IsState F (suc turn) placed' class' shadow' stamps' shadowed' plain'
      opened-state none placed' class' shadow' stamps' shadowed' plain' e a b c heads = record {
        colors = subst (λ z. AreColorsOf F z class' shadow') (sym e) (subst (λ z. AreColorsOf F (set placed n true) z shadow') (sym a) (subst (AreColorsOf F (set placed n true) class) (sym b) (opened-fitless F n placed class shadow l.colors l.waiting l.below turn stamps l.stamped started l.behind none)));
        heads = heads;
        stamps_long = ap length c ∙ (let s = l.stamped in s.long);
        stamps_most = λ k. (let s = l.stamped in let m = s.most k in let e = ap (λ l. slice_index l k) c in omega (arith, m, e));
      }

      module _ (k : ℕ) (fits : Fits F placed class shadow stamps n turn k) (placed' : List Bool) (class' : List ℕ) (shadow' : List Bool) (stamps' : List ℕ) (e : placed' ≡ set placed n true) (a : class' ≡ set class n k) (b : shadow' ≡ shadows_joined shadow n k) (c : stamps' ≡ stamps) where
        joined-state : (shadowed' plain' : List (List ℕ)) → AreHeads F (set placed n true) (set class n k) (shadows_joined shadow n k) shadowed' plain' → IsState F (suc turn) placed' class' shadow' stamps' shadowed' plain'
        joined-state shadowed' plain' heads = subst (λ z. IsState F (suc turn) z class' shadow' stamps' shadowed' plain') (sym e) (subst (λ z. IsState F (suc turn) (set placed n true) z shadow' stamps' shadowed' plain') (sym a) (subst (λ z. IsState F (suc turn) (set placed n true) (set class n k) z stamps' shadowed' plain') (sym b) (record {
          colors = joined-colors F n placed class shadow l.colors l.waiting l.below turn stamps l.stamped started l.behind k fits;
          heads = heads;
          stamps_long = ap length c ∙ (let s = l.stamped in s.long);
          stamps_most = λ j. (let s = l.stamped in let m = s.most j in let e = ap (λ l. slice_index l j) c in omega (arith, m, e));
        })))

        -- it joins a class, without a mark
        pub plain-state : is_marked shadow n ≡ false → IsState F (suc turn) placed' class' shadow' stamps' shadowed plain
        plain-state unmarked = joined-state shadowed plain (joined-plain F n placed class shadow shadowed plain l.heads k fits.placed_head l.waiting inside unmarked)

        -- and with one, which a place of a row without marks was left for
        pub shadowed-state : (row place : ℕ) (shadowed' plain' : List (List ℕ)) → row ≡ row_of F n → row < 100 → place < length (row_at plain row) → k ≡ slice_index (row_at plain row) place → is_marked shadow n ≡ true
            → shadowed' ≡ with_number shadowed row k → plain' ≡ set plain row (swap_remove (row_at plain row) place k) → IsState F (suc turn) placed' class' shadow' stamps' shadowed' plain'
        shadowed-state row place shadowed' plain' own few low is marked d e = joined-state shadowed' plain'
            (subst (λ z. AreHeads F (set placed n true) (set class n k) (shadows_joined shadow n k) z plain') (sym d)
            (subst (AreHeads F (set placed n true) (set class n k) (shadows_joined shadow n k) (with_number shadowed row k)) (sym e)
            (joined-shadowed F n placed class shadow shadowed plain l.heads k fits.placed_head l.waiting inside row place k (own ∙ ap type_row fits.types) few low is (let c = l.colors in let g = c.shadow_long in let i = c.placed_long in let m = marked-below placed k fits.placed_head in omega (arith, g, i, m)) marked)))

-- ---- first turns

module _ (F : Func) (x : ℕ) (old new : Colors) (first : IsFirstIn F x old) (low : x < length F.vars) where
  waiting : is_marked old.classes.placed.items x ≡ false
  waiting = ⊎_elim (λ e. absurd (let l = first.only x e in omega (arith, l))) (λ e. e) (cases_Bool (is_marked old.classes.placed.items x))

  inside-old : x < length old.classes.placed.items
  inside-old = let s = first.state in let c = s.colors in let l = c.placed_long in omega (arith, l, low)

  placed-first : IsStateIn F (suc x) new → new.classes.placed.items ≡ set old.classes.placed.items x true → IsFirstIn F (suc x) new
  placed-first state e = record {
    state = state;
    only = λ y is. ⊎_elim (λ s. omega (arith, s)) (λ d. (let o = first.only y (marked-before old.classes.placed.items x y (ap (λ l. is_marked l y) (sym e) ∙ is) d) in omega (arith, o))) (cases_eq y x);
    arguments = λ y less up. ap (λ l. is_marked l y) e ∙ ⊎_elim
        (λ s. ap (is_marked (set old.classes.placed.items x true)) s ∙ marked-here old.classes.placed.items x inside-old)
        (λ d. marked-kept old.classes.placed.items x y (first.arguments y less (⊎_elim (λ l. l) (λ high. absurd (d (omega (arith, up, high)))) (cases_lt y x)))) (cases_eq y x);
  }

  -- an argument begins a class
  pub first-argument : x < F.args → new.classes.class.items ≡ old.classes.class.items → new.classes.placed.items ≡ set old.classes.placed.items x true → new.classes.shadow.items ≡ old.classes.shadow.items → new.classes.stamps.items ≡ old.classes.stamps.items
      → AreHeads F new.classes.placed.items new.classes.class.items new.classes.shadow.items new.shadowed new.plain → IsFirstIn F (suc x) new
  first-argument argument a e b c heads = placed-first (record {
    colors = subst (λ z. AreColorsOf F z new.classes.class.items new.classes.shadow.items) (sym e) (subst (λ z. AreColorsOf F (set old.classes.placed.items x true) z new.classes.shadow.items) (sym a) (subst (AreColorsOf F (set old.classes.placed.items x true) old.classes.class.items) (sym b) (argument-colors F x old.classes.placed.items old.classes.class.items old.classes.shadow.items (let s = first.state in s.colors) waiting low first.only argument)));
    heads = heads;
    stamps_long = ap length c ∙ (let s = first.state in s.stamps_long);
    stamps_most = λ k. (let s = first.state in let m = s.stamps_most k in let e = ap (λ l. slice_index l k) c in omega (arith, m, e));
  }) e

  -- what a first turn leaves
  pub first-turn : F.args ≤ x → IsStateIn F (suc x) new → PlacesIn F x x old new → IsFirstIn F (suc x) new
  first-turn behind state (Placed e) = placed-first state e
  first-turn behind state (Waits less e) = record {
    state = state;
    only = λ y is. (let o = first.only y (ap (λ l. is_marked l y) (sym e) ∙ is) in omega (arith, o));
    arguments = λ y less up. ap (λ l. is_marked l y) e ∙ first.arguments y less (omega (arith, less, behind));
  }

-- ---- second turns

module _ (F : Func) (x : ℕ) (list : List Access) (old new : Colors) (second : IsSecondIn F x list old) (low : x < length F.vars) where
  next : length F.vars + suc x ≡ suc (length F.vars + x)
  next = omega arith

  -- it is placed before
  pub second-skip : is_marked old.classes.placed.items x ≡ true → IsSecondIn F (suc x) list old
  second-skip is = record {
    state = record { colors = (let s = second.state in s.colors); heads = (let s = second.state in s.heads); stamps_long = (let s = second.state in s.stamps_long); stamps_most = λ k. (let s = second.state in let m = s.stamps_most k in omega (arith, m)) };
    late = second.late;
    arguments = second.arguments;
    done = λ y less. ⊎_elim (λ s. ap (is_marked old.classes.placed.items) s ∙ is) (λ d. second.done y (⊎_elim (λ l. l) (λ high. absurd (d (omega (arith, less, high)))) (cases_lt y x))) (cases_eq y x);
  }

  -- or now
  pub second-turn : (turn : ℕ) → turn ≡ length F.vars + x → IsStateIn F (suc turn) new → PlacesIn F x turn old new → IsSecondIn F (suc x) list new
  second-turn turn is state (Waits less e) = absurd (omega (arith, is, less))
  second-turn turn is state (Placed e) = record {
    state = subst (λ t. IsStateIn F t new) (ap suc is ∙ sym next) state;
    late = λ y z inside unmarked. second.late y z inside (unmarked-before old.classes.placed.items x inside-old y (ap (λ l. is_marked l y) (sym e) ∙ unmarked));
    arguments = λ y less inside. ap (λ l. is_marked l y) e ∙ marked-kept old.classes.placed.items x y (second.arguments y less inside);
    done = λ y less. ap (λ l. is_marked l y) e ∙ ⊎_elim
        (λ s. ap (is_marked (set old.classes.placed.items x true)) s ∙ marked-here old.classes.placed.items x inside-old)
        (λ d. marked-kept old.classes.placed.items x y (second.done y (⊎_elim (λ l. l) (λ high. absurd (d (omega (arith, less, high)))) (cases_lt y x)))) (cases_eq y x);
  }
    where
      inside-old : x < length old.classes.placed.items
      inside-old = let s = second.state in let c = s.colors in let l = c.placed_long in omega (arith, l, low)

-- all had their first turns
pub first-second : (F : Func) (x : ℕ) (list : List Access) (c : Colors) → IsFirstIn F x c → x ≡ length F.vars → AreLatePairs F c.classes.placed.items list → IsSecondIn F 0 list c
first-second F x list c first all late = record {
  state = subst (λ t. IsStateIn F t c) (all ∙ (let h : length F.vars ≡ length F.vars + 0 = omega arith in h)) first.state;
  late = late;
  arguments = λ y less inside. first.arguments y less (omega (arith, inside, all));
  done = λ y less. absurd (omega (arith, less));
}
