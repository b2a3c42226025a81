-- Classes whose variables are apart are sound, so the pass makes a sound renaming; what it promises of it besides.
use Rattle.std.proofs.Common.{◌≡◌, ◌≢◌, ℕ, ◌<◌, ◌≤◌, List, length, refl, sym, ap, ◌∙◌, ⊎_elim, arith}
use Rattle.std.proofs.lemmas.Bool.{cases_lt}
use Rattle.bril_profile.specs.declared.profile.Profile.{Profile}
use Rattle.bril_tree.specs.declared.numbered_function.Func.{Func}
use Rattle.bril_tree.specs.declared.program.Prog.{Prog}
use Rattle.bril_tree.specs.declared.tree.Tree.{Tree}
use Rattle.bril_tree.specs.Accepted.{IsAccepted}
use Rattle.bril_tree.specs.Size.{IsCounted, item_count}
use Rattle.pass_law.proofs.Equations.{equation_number}
use Rattle.pass_law.specs.Meaning.{HasNumbers, Link}
use Rattle.pass_make.specs.Edited.{IsLinkedTo}
use Rattle.pass_make.specs.declared.made.Made.TheVariants as making
use Rattle.variable_renaming.specs.Classes.{AreSoundClasses, MayJoin, class_of}
use Rattle.variable_renaming.specs.Made.{IsRenamedTree}
use Rattle.variable_renaming.specs.Renamed.{KeepsNames, name_of}
use Rattle.variable_renaming.proofs.Editing.{outside}
use Rattle.variable_renaming.proofs.Made.{IsRenamedProgram, can-be_made, renamed-program}
use Rattle.variable_renaming.proofs.Numbers.{numbers-kept}
use Rattle.variable_renaming.proofs.Refines.{renaming-refines}
use Rattle.variable_renaming.proofs.Trees.{HasNamesOfClasses}
use Rattle.variable_coloring.specs.Color.{AreColorNames, IsColored, color_meaning}
use Rattle.variable_coloring.specs.Colors.{AreColors}

-- ---- classes

pub colors-sound : (F : Func) (class : List ℕ) → AreColors F class → AreSoundClasses F class
colors-sound F class are = record {
  long = are.long;
  inside = are.inside;
  arguments = are.arguments;
  named = are.named;
  joined = λ x y differ e. may x y differ e;
}
  where
    -- past the variables each is a class of its own
    own : (x : ℕ) → length F.vars ≤ x → class_of class x ≡ x
    own x high = outside class x x (omega (arith, high, are.long))

    below : (x y : ℕ) → x ≢ y → class_of class x ≡ class_of class y → x < length F.vars
    below x y differ e = ⊎_elim (λ l. l) (λ high. absurd (past high)) (cases_lt x (length F.vars))
      where
        past : length F.vars ≤ x → ⊥
        past high = ⊎_elim (λ low. let i = are.inside y low in let o = own x high in omega (arith, i, o, e, high)) (λ over. differ (sym (own x high) ∙ e ∙ own y over)) (cases_lt y (length F.vars))

    -- two variables that are apart may have one name: no item that assigns one has the other live after it
    may : (x y : ℕ) → x ≢ y → class_of class x ≡ class_of class y → MayJoin F class x y
    may x y differ e =
        let a = are.apart x y (below x y differ e) (below y x (λ s. differ (sym s)) (sym e)) differ e in
        record { types = a.types; shadows = λ h k. a.shadows h k; spares = λ item c. absurd (a.first.assigned item c.instr c.reached c.at c.dest c.other c.live) }

-- ---- names

names-colored : (F : Func) (rename : List ℕ → List ℕ) → KeepsNames F rename → HasNamesOfClasses AreColors F rename → AreColorNames F rename
names-colored F rename keeps of = record {
  names = keeps;
  apart = λ x y a b differ e. of.known.apart x y a b differ (of.one_class x y a b e);
  settled = λ x y a b differ.
      let k = of.known.settled x y a b (λ e. differ (one-name x y a b e)) in
      record { u = k.u; v = k.v; first_below = k.first_below; second_below = k.second_below; first = one-name k.u x k.first_below a k.first; second = one-name k.v y k.second_below b k.second; meet = k.meet };
}
  where
    one-name : (x y : ℕ) → x < length F.vars → y < length F.vars → class_of of.class x ≡ class_of of.class y → rename (name_of F x) ≡ rename (name_of F y)
    one-name x y a b e = of.named x a ∙ ap (name_of F) e ∙ sym (of.named y b)

-- ---- the pass

module _ (P : Prog) (accepted : IsAccepted P) where
  colored : (Q : Prog) → IsRenamedProgram AreColors P Q → IsColored P Q
  colored Q m = record {
    heads = m.renaming.heads;
    colored = λ f F p. record { rename = m.rename f; names = names-colored F (m.rename f) (m.renaming.names f F p) (m.classes f F p); points = m.renaming.points f };
    numbers = numbers-kept P Q accepted m.accepted m.renaming.heads (λ f F p. record { rename = m.rename f; arguments = (m.renaming.names f F p).arguments; points = m.renaming.points f });
  }

  linked : (profile : Profile) (Q : Prog) → IsRenamedProgram AreColors P Q → Link color_meaning profile P Q
  linked profile Q m = record {
    makes = colored Q m;
    accepted = m.accepted;
    factor = 1;
    is_factor = refl;
    refines = renaming-refines P Q m.rename m.renaming accepted;
    bound = item_count P;
    is_bound = refl;
    within = m.size;
    fits = λ l. let more = l.more in omega arith;
  }

  -- by what the calls give: the tree that was made
  pub edited : (tree : Tree) → IsRenamedTree AreColors P tree → IsCounted P → (profile : Profile) → IsLinkedTo color_meaning profile P (making.Tree tree)
  edited tree t counted profile = (can-be_made P AreColors accepted tree t counted, λ Q of_q accepted_q size. linked profile Q (renamed-program P AreColors accepted tree t Q of_q size))

-- the factor and the bound are equations
pub color-numbers : HasNumbers color_meaning
color-numbers = record { factor = equation_number (λ P profile. 1); bound = equation_number (λ P profile. item_count P) }
