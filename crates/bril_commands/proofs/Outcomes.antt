-- What the steps of an action on its files come to.
use Rattle.std.proofs.Common.{◌≡◌, ◌⊎◌, ℕ, List, refl, sym, subst, ⊎_elim, inr}
use Rattle.bril_tree.specs.declared.tree.Tree.{Tree}
use Rattle.bril_tree.specs.Accepted.{IsAccepted}
use Rattle.bril_tree.specs.declared.program.Prog.{Prog}
use Rattle.bril_checker.specs.Faults as checker
use Rattle.bril_checker.specs.declared.fault.CheckFault.{CheckFault}
use Rattle.bril_checker.specs.declared.fault.CheckFault.TheVariants as check
use Rattle.bril_tree.specs.Numbered.{Numbered}
use Rattle.bril_names.specs.Faults as names
use Rattle.bril_names.specs.declared.fault.NameFault.{NameFault}
use Rattle.bril_names.specs.declared.fault.NameFault.TheVariants as name
use Rattle.bril_commands.specs.PassList.{pass_list, RefusesList}
use Rattle.bril_commands.specs.Source.{HasOnlyCheckFault, IsOnlyNameFault, IsOnlyProgram}
use Rattle.bril_commands.specs.Stages.{RefusesNames, RefusesCheck, RefusesProgram, IsAcceptedProgram}
use Rattle.bril_profile.specs.declared.profile.Profile.{Profile}
use Rattle.bril_report.specs.StageFaults.{name_status, check_status, list_status}
use Rattle.bril_report.specs.declared.status.Status.{Status}
use Rattle.bril_report.specs.declared.status.Status.TheVariants as status
use Rattle.pass_law.specs.Meaning.{Meaning}
use Rattle.pass_law.specs.Stops.{IsStopped}
use Rattle.pass_law.specs.declared.fault.ListFault.{ListFault}
use Rattle.pass_law.specs.declared.fault.ListFault.TheVariants as list
use Rattle.pass_law.specs.declared.tally.Tally.{Tally}

-- ---- What numbering answers: its fault is the only one or out of memory.

module _ (tree : Tree) where
  module _ (fault : NameFault) (is : names.IsFaultOf tree fault) (only : (other : NameFault) → names.HasFault tree other → (fault ≡ other) ⊎ (fault ≡ name.Memory)) (numbers : (p : Prog) → Numbered tree p → fault ≡ name.Memory) where
    only_name : (fault ≡ name.Memory → ⊥) → IsOnlyNameFault tree fault
    only_name ample = record {
      has = ⊎_elim (λ e. absurd (ample e)) (λ h. h) is;
      alone = λ other has. ⊎_elim (λ e. e) (λ e. absurd (ample e)) (only other has);
      unnumbered = λ p n. ample (numbers p n);
    }

  pub RefusesNames-of : (fault : NameFault) → names.IsFaultOf tree fault → ((other : NameFault) → names.HasFault tree other → (fault ≡ other) ⊎ (fault ≡ name.Memory)) → ((p : Prog) → Numbered tree p → fault ≡ name.Memory) → RefusesNames (name_status fault) tree
  RefusesNames-of (name.NoFunction func item) is only numbers = only_name (name.NoFunction func item) is only numbers (λ e. cc)
  RefusesNames-of (name.TwiceFunction func) is only numbers = only_name (name.TwiceFunction func) is only numbers (λ e. cc)
  RefusesNames-of (name.NoLabel func item) is only numbers = only_name (name.NoLabel func item) is only numbers (λ e. cc)
  RefusesNames-of (name.TwiceLabel func item) is only numbers = only_name (name.TwiceLabel func item) is only numbers (λ e. cc)
  RefusesNames-of name.NoMain is only numbers = only_name name.NoMain is only numbers (λ e. cc)
  RefusesNames-of (name.TwiceArg func) is only numbers = only_name (name.TwiceArg func) is only numbers (λ e. cc)
  RefusesNames-of name.Memory is only numbers = tt

-- ---- What the checker answers: its fault is the only one or out of memory.

module _ (p : Prog) where
  module _ (fault : CheckFault) (is : checker.IsFaultOf p fault) (only : (other : CheckFault) → checker.HasFault p other → (fault ≡ other) ⊎ (fault ≡ check.Memory)) (accepts : IsAccepted p → fault ≡ check.Memory) where
    only_check : (fault ≡ check.Memory → ⊥) → HasOnlyCheckFault p fault
    only_check ample = record {
      has = ⊎_elim (λ e. absurd (ample e)) (λ h. h) is;
      only = λ other has. ⊎_elim (λ e. e) (λ e. absurd (ample e)) (only other has);
      unaccepted = λ accepted. ample (accepts accepted);
    }

  pub RefusesCheck-of : (fault : CheckFault) → checker.IsFaultOf p fault → ((other : CheckFault) → checker.HasFault p other → (fault ≡ other) ⊎ (fault ≡ check.Memory)) → (IsAccepted p → fault ≡ check.Memory) → (fault ≡ check.Memory → checker.TakesMemory p) → RefusesCheck (check_status p fault) p
  RefusesCheck-of (check.Types func item) is only accepts takes = (refl, only_check (check.Types func item) is only accepts (λ e. cc))
  RefusesCheck-of (check.Arity func item) is only accepts takes = (refl, only_check (check.Arity func item) is only accepts (λ e. cc))
  RefusesCheck-of (check.MaybeUnassigned func item variable) is only accepts takes = (refl, only_check (check.MaybeUnassigned func item variable) is only accepts (λ e. cc))
  RefusesCheck-of (check.Nest func item) is only accepts takes = (refl, only_check (check.Nest func item) is only accepts (λ e. cc))
  RefusesCheck-of (check.SpecCall func item) is only accepts takes = (refl, only_check (check.SpecCall func item) is only accepts (λ e. cc))
  RefusesCheck-of (check.NoReturn func item) is only accepts takes = (refl, only_check (check.NoReturn func item) is only accepts (λ e. cc))
  RefusesCheck-of check.MainType is only accepts takes = (refl, only_check check.MainType is only accepts (λ e. cc))
  RefusesCheck-of (check.PrintPtr func item) is only accepts takes = (refl, only_check (check.PrintPtr func item) is only accepts (λ e. cc))
  RefusesCheck-of check.Memory is only accepts takes = inr (takes refl)

-- ---- What asking a tree for its accepted program answers.

-- a tree that isn't numbered has none
pub RefusesProgram-names : (how : Status) (tree : Tree) → RefusesNames how tree → RefusesProgram how tree
RefusesProgram-names (status.Misnamed fault) tree refuses = refuses
RefusesProgram-names status.OutOfMemory tree refuses = tt
RefusesProgram-names _ tree refuses = absurd refuses

-- nor has one whose program isn't accepted
pub RefusesProgram-check : (how : Status) (tree : Tree) (p : Prog) → IsOnlyProgram tree p → RefusesCheck how p → RefusesProgram how tree
RefusesProgram-check (status.Unaccepted q fault) tree p only refuses =
    (subst (λ (r : Prog). IsOnlyProgram tree r) (sym refuses.0) only, subst (λ (r : Prog). HasOnlyCheckFault r fault) (sym refuses.0) refuses.1)
RefusesProgram-check status.OutOfMemory tree p only refuses = tt
RefusesProgram-check _ tree p only refuses = absurd refuses

-- the tree's only program, where it was checked
pub IsAcceptedProgram-of : (tree : Tree) (p q : Prog) → IsOnlyProgram tree p → q ≡ p → IsAccepted p → ((fault : CheckFault) → checker.HasFault p fault → ⊥) → IsAcceptedProgram tree q
IsAcceptedProgram-of tree p q only is accepted faultless =
    subst (λ (r : Prog). IsAcceptedProgram tree r) (sym is) record { only = only; sound = record { accepted = accepted; faultless = faultless } }

-- ---- What a list of passes answers.

pub RefusesList-of : {B : Type 0} (meaning : B → Meaning) (counts : B → Tally) (before after : List B) (names : List (List ℕ)) (p : Prog) (profile : Profile) (fault : ListFault) → IsStopped meaning before profile counts names p after fault → RefusesList (list_status fault) (pass_list meaning counts before after names) profile.entries p
RefusesList-of meaning counts before after names p profile (list.Unknown place prog) stopped = (λ other. stopped.0, stopped.2)
RefusesList-of meaning counts before after names p profile (list.TooLarge place bound prog) stopped = record { known = λ other. stopped.0; profile = profile; has = refl; at = prog.prog; stopped = stopped.1 }
RefusesList-of meaning counts before after names p profile list.Memory stopped = record { known = λ other. stopped.0; profile = profile; has = refl; cut = stopped.1 }
