-- What the pass means.
use Rattle.std.specs.Prelude.{◌≡◌, ℕ, ◌+◌, ◌*◌, codes, length}
use Rattle.bril_tree.specs.declared.program.Prog.{Prog}
use Rattle.bril_tree.specs.Membership.{In}
use Rattle.pass_edit_laws.specs.numbers.Numbers.{Growth, NumbersGrow}
use Rattle.pass_law.specs.Meaning.{Meaning, is_name}
use Rattle.side_laws.specs.Sided.{IsSided, IsSideBound, SideExit, exits_count}
use Rattle.side_laws.specs.Straight.{HasStraightExit}

-- how numbers grow by so many side exits
abbrev pub side_growth : (exits : ℕ) → Growth
side_growth exits = record { locations = λ n. n; arguments = λ n. n; depth = λ n. n; entries = λ n. n + 2 * exits; width = λ n. n + exits }

-- What the pass makes of P: P with its side exits. Once a paired guard has failed, no `br` and no `guard` is met before the label to
-- which its branch goes. Each paired guard brings two entries at most, and of one leave point no more labels than there are such guards.
pub record IsSideOf (P Q : Prog) : Type 0 where
  pub sided : IsSided P Q
  pub straight : (f : ℕ) (w : SideExit) → In w (sided.exits f) → HasStraightExit P Q f w
  pub numbers : NumbersGrow P Q (side_growth (exits_count sided.exits (length P.funcs)))

-- It is named `side`, and ignores the profile. One step stays one: a walk in P from the label that a guard names to the branch that it
-- is paired with has as many items as its side exit, or more.
abbrev pub side_meaning : Meaning
side_meaning = record {
  answers = is_name (codes "side");
  IsFactor = λ P profile k. k ≡ 1;
  IsBound = λ P profile k. IsSideBound P k;
  Makes = λ P profile Q. IsSideOf P Q;
}
