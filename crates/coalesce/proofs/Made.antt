-- From the tree that a round makes to its program, and from rounds to the pass.
use Rattle.std.proofs.Common.{◌≡◌, ◌≤◌, refl, sym, subst, arith}
use Rattle.bril_profile.specs.declared.profile.Profile.{Profile}
use Rattle.bril_tree.specs.declared.program.Prog.{Prog}
use Rattle.bril_tree.specs.declared.tree.Tree.{Tree}
use Rattle.bril_tree.specs.Accepted.{IsAccepted}
use Rattle.bril_tree.specs.Numbered.{Numbered, tree_size}
use Rattle.bril_tree.specs.Run.{Refines}
use Rattle.bril_tree.specs.Size.{item_count}
use Rattle.bril_tree.proofs.Refinement.{Refines-trans}
use Rattle.pass_law.proofs.Equations.{equation_number}
use Rattle.pass_law.specs.Meaning.{HasNumbers, Link}
use Rattle.variable_renaming.specs.Classes.{class_of}
use Rattle.variable_renaming.proofs.Made.{IsRenamedProgram, renamed-program}
use Rattle.variable_renaming.proofs.Refines.{renaming-refines}
use Rattle.coalesce.proofs.lemmas.meaning.Composed.{IsMadeSoFar, all-made, first-round, one-more}
use Rattle.coalesce.specs.meaning.Linked.{AreLinked, Both}
use Rattle.coalesce.specs.Merge.{IsMadeBy, IsNextRound, merge_meaning}
use Rattle.coalesce.specs.Rounds.{AreRoundClasses, HasNoneApart, IsRoundTree}

-- ---- a round

-- by what the calls give: the tree that was made, and the program numbered of that
pub next-round : (P : Prog) → IsAccepted P → (tree : Tree) → IsRoundTree P tree → (Q : Prog) → Numbered tree Q → item_count Q ≡ tree_size tree → IsNextRound P Q
next-round P accepted tree t Q of_q size = of-program (renamed-program P AreRoundClasses accepted tree t Q of_q size)
  where
    of-program : IsRenamedProgram AreRoundClasses P Q → IsNextRound P Q
    of-program m = record {
      rename = m.rename;
      round = record {
        renaming = m.renaming;
        linked = λ f F p x y a b e. let c = m.classes f F p in Both x y (class_of c.class x) (c.known.linked x) (subst (AreLinked F y) (sym (c.one_class x y a b e)) (c.known.linked y));
      };
      accepted = m.accepted;
      size = m.size;
    }

-- ---- rounds

-- what rounds made, with what the pass owes of it
pub record IsFarther (P Q : Prog) : Type 0 where
  pub made : IsMadeSoFar P Q
  pub refines : Refines P Q 1
  pub size : item_count Q ≤ item_count P

module _ (P : Prog) (accepted : IsAccepted P) where
  pub first-farther : (Q : Prog) → IsNextRound P Q → IsFarther P Q
  first-farther Q n = record { made = first-round P Q n.rename n.round accepted n.accepted; refines = renaming-refines P Q n.rename n.round.renaming accepted; size = n.size }

  pub more-farther : (Q R : Prog) → IsFarther P Q → IsNextRound Q R → IsFarther P R
  more-farther Q R so_far n = record {
    made = one-more P Q R so_far.made accepted n.rename n.round n.accepted;
    refines = Refines-trans P Q R 1 1 so_far.refines (renaming-refines Q R n.rename n.round.renaming so_far.made.accepted);
    size = let a = so_far.size in let b = n.size in omega arith;
  }

  pub made-by : (Q : Prog) → IsFarther P Q → HasNoneApart Q → IsMadeBy P Q
  made-by Q so_far none = record { merged = all-made P Q so_far.made accepted none; accepted = so_far.made.accepted; refines = so_far.refines; size = so_far.size }

-- ---- the pass

pub linked : (P Q : Prog) (profile : Profile) → IsMadeBy P Q → Link merge_meaning profile P Q
linked P Q profile m = record {
  makes = m.merged;
  accepted = m.accepted;
  factor = 1;
  is_factor = refl;
  refines = m.refines;
  bound = item_count P;
  is_bound = refl;
  within = m.size;
  fits = λ l. let more = l.more in omega arith;
}

-- the factor and the bound are equations
pub merge-numbers : HasNumbers merge_meaning
merge-numbers = record { factor = equation_number (λ P profile. 1); bound = equation_number (λ P profile. item_count P) }
