-- The numbers of the pass: there is one of each.
use Rattle.std.proofs.Common.{ℕ, suc, ◌+◌, List, [], ◌∷◌, ◌++◌, length, refl}
use Rattle.std.specs.Prelude.{codes}
use Rattle.std.specs.Fmt.{decimal}
use Rattle.bril_profile.specs.declared.profile.Profile.{Profile}
use Rattle.bril_tree.specs.declared.program.Prog.{Prog}
use Rattle.bril_tree.specs.Accepted.{IsAccepted}
use Rattle.bril_tree.specs.Size.{item_count}
use Rattle.bril_tree.specs.Step.{code_of}
use Rattle.pass_edit_laws.specs.labels.Fresh.{labels_in}
use Rattle.pass_edit_laws.proofs.lemmas.labels.Fresh.{fresh-there}
use Rattle.pass_law.specs.Meaning.{HasNumbers}
use Rattle.pass_law.proofs.Equations.{equation_number}
use Rattle.side_laws.specs.Paired.{Pair}
use Rattle.side_laws.specs.Side.{side_meaning}
use Rattle.side_laws.specs.Sided.{AreAllExits, AreExits, IsSideBound, SideExit, exits_size}
use Rattle.side_laws.proofs.lemmas.pairs.Existing.{pairs-there}
use Rattle.side_laws.proofs.lemmas.pairs.Unique.{bound-one}

-- each pair has its fresh name
exits-there : (taken : List (List ℕ)) (J : ℕ) (pairs : List Pair) → (exits : List SideExit) × AreExits taken J pairs exits
exits-there taken J [] = ([], refl)
exits-there taken J (p ∷ pairs) =
    let name = fresh-there taken (codes "side" ++ decimal J) in
    let rest = exits-there taken (suc J) pairs in
    (record { pair = p; name = name.0 } ∷ rest.0, (refl, name.1, rest.1))

module _ (P : Prog) where
  pub exits-of : (f : ℕ) → (exits : List SideExit) × AreExits (labels_in P f) 1 (pairs-there (code_of P f)).0 exits
  exits-of f = exits-there (labels_in P f) 1 (pairs-there (code_of P f)).0

  pub all-exits : AreAllExits P (λ f. (exits-of f).0)
  all-exits = record { pairs = λ f. (pairs-there (code_of P f)).0; are_pairs = λ f. (pairs-there (code_of P f)).1; are_exits = λ f. (exits-of f).1 }

some-bound : (P : Prog) (profile : Profile) → IsAccepted P → (k : ℕ) × IsSideBound P k
some-bound P profile accepted = (item_count P + exits_size (λ f. (exits-of P f).0) (length P.funcs), record { exits = λ f. (exits-of P f).0; are_exits = all-exits P; is = refl })

pub has-numbers : HasNumbers side_meaning
has-numbers = record { factor = equation_number (λ P profile. 1); bound = record { one = λ P profile. bound-one P; some = some-bound } }
