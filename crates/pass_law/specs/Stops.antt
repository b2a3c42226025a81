-- Why a pass of a list made nothing, and what ran before a list stopped.
use Rattle.std.specs.Prelude.{◌≡◌, ℕ, List, map, Some, None}
use Rattle.bril_profile.specs.declared.profile.Profile.{Profile}
use Rattle.bril_tree.specs.declared.program.Prog.{Prog}
use Rattle.bril_tree.specs.Size.{item_count}
use Rattle.pass_law.specs.Chains.{first_answering, first_unknown, StoppedAt, CutOff}
use Rattle.pass_law.specs.Meaning.{Meaning, HasNumbers, IsRefused}
use Rattle.pass_law.specs.declared.fault.ListFault.{ListFault}
use Rattle.pass_law.specs.declared.fault.ListFault.TheVariants.{Unknown, TooLarge, Memory}
use Rattle.pass_law.specs.declared.fault.PassFault.{PassFault}
use Rattle.pass_law.specs.declared.tally.Tally.{Tally}

module _ {B : Type 0} (meaning : B → Meaning) (passes : List B) (profile : Profile) where
  -- the first pass that answers to the name refuses the program so
  pub record IsRefusedBy (name : List ℕ) (P : Prog) (fault : PassFault) : Type 0 where
    pub pass : B
    pub first : first_answering meaning passes name ≡ Some pass
    pub numbers : HasNumbers (meaning pass)
    pub refused : IsRefused ((meaning pass).IsBound P profile) (item_count P) fault

  -- the list of names stopped so, with the passes as they are `after`
  abbrev pub IsStopped : (B → Tally) → List (List ℕ) → Prog → List B → ListFault → Type 0
  IsStopped counts names P after (Unknown place prog) = (first_unknown meaning passes profile names ≡ Some place) × (prog.prog ≡ P) × (map counts after ≡ map counts passes)
  IsStopped counts names P after (TooLarge place bound prog) = (first_unknown meaning passes profile names ≡ None) × StoppedAt meaning passes profile counts names P place bound prog.prog after
  IsStopped counts names P after Memory = (first_unknown meaning passes profile names ≡ None) × CutOff meaning passes profile counts names P after
