-- The passes that a call was lent, and what a list of their names comes to.
use Rattle.std.specs.Prelude.{ℕ, ◌≡◌, ◌≤◌, Bool, false, not, ◌&&◌, ◌||◌, is_some, cond, List, [], ◌∷◌, ◌++◌, length, map, Option, Some, None}
use Rattle.std.specs.List.{All}
use Rattle.bril_profile.specs.declared.profile.Entry.{Entry}
use Rattle.bril_profile.specs.declared.profile.Profile.{Profile}
use Rattle.bril_report.specs.Tallies.{tally_pieces}
use Rattle.bril_report.specs.declared.status.Status.TheVariants as status
use Rattle.bril_report.specs.declared.status.Status.{Status}
use Rattle.bril_tree.specs.declared.program.Prog.{Prog}
use Rattle.pass_budget_laws.specs.Budget.{budget}
use Rattle.pass_budget_laws.specs.Laws.{IsWithinRows}
use Rattle.pass_budget_laws.specs.Numbers.{Numbers, AreWithin}
use Rattle.pass_budget_laws.specs.Rows.{Row}
use Rattle.pass_law.specs.Chains.{or_else, first_answering, first_unknown, AreFactors, Ran, StoppedAt, CutOff, AllSame}
use Rattle.pass_law.specs.Meaning.{Meaning}
use Rattle.pass_law.specs.declared.tally.Tally.{Tally}

-- The passes that a call was lent, of whatever type they are: what each of them means, its tally, how they were before the call
-- and how they are after it; and the names of the list.
pub record PassList : Type 1 where
  pub Box : Type 0
  pub meaning : Box → Meaning
  pub counts : Box → Tally
  pub before : List Box
  pub after : List Box
  pub names : List (List ℕ)

abbrev pub pass_list : {B : Type 0} → (B → Meaning) → (B → Tally) → List B → List B → List (List ℕ) → PassList
pass_list {B} meaning counts before after names = record { Box = B; meaning = meaning; counts = counts; before = before; after = after; names = names }

-- The profile has these entries.
abbrev pub HasEntries : List Entry → Profile → Type 0
HasEntries entries profile = profile.entries ≡ entries

-- from 1, the place of the first name to which no pass answers, None where there is none
abbrev pub IsFirstUnknown : PassList → Option ℕ → Type 0
IsFirstUnknown l place = (profile : Profile) → first_unknown l.meaning l.before profile l.names ≡ place

-- no pass ran: each has the tally that it had
abbrev pub AreUnused : PassList → Type 0
AreUnused l = map l.counts l.after ≡ map l.counts l.before

-- The list made q of p, by the profile with these entries: there is a chain from p to q with one link for each name, made by the
-- first pass that answers to it. Each tally is the one before the call, grown by the links, and no pass has changed its meaning.
pub record IsMade (l : PassList) (entries : List Entry) (p q : Prog) : Type 0 where
  pub known : IsFirstUnknown l None
  pub profile : Profile
  pub has : HasEntries entries profile
  pub ran : Ran l.meaning l.before profile l.counts l.names p q l.after
  pub same : AllSame l.meaning l.before l.after

-- so many steps of q, at most, for each step of p: the product of the factors of the links
abbrev pub AreFactorsOf : (l : PassList) (entries : List Entry) (p q : Prog) → IsMade l entries p q → ℕ → Type 0
AreFactorsOf l entries p q made factor = AreFactors l.meaning l.before made.profile l.names p made.ran.programs factor

-- So many words are always enough for what the list makes of p, where p ends in so many steps: each pass is within some rows of its names,
-- and the words are at least the budget of the list, computed from numbers that p's are at most.
pub record AreEnoughFor (l : PassList) (entries : List Entry) (p : Prog) (steps words : ℕ) : Type 0 where
  pub rows : List Row
  pub each : All (λ pass. IsWithinRows rows (l.meaning pass)) l.before
  pub numbers : Numbers
  pub within : AreWithin p numbers
  pub enough : budget rows (length entries) l.names numbers steps ≤ words

-- ---- why a list makes no program

-- The passes before a place ran, from p on, and the pass of that place refuses the program that they made, for its bound on items.
pub record IsRefusedPass (l : PassList) (entries : List Entry) (p : Prog) (place bound : ℕ) : Type 0 where
  pub known : IsFirstUnknown l None
  pub profile : Profile
  pub has : HasEntries entries profile
  pub at : Prog
  pub stopped : StoppedAt l.meaning l.before profile l.counts l.names p place bound at l.after

-- The passes of the first names of the list ran, from p on, and each tally is the one before the call, grown by their links. Each name
-- of the list is answered.
pub record IsCutOff (l : PassList) (entries : List Entry) (p : Prog) : Type 0 where
  pub known : IsFirstUnknown l None
  pub profile : Profile
  pub has : HasEntries entries profile
  pub cut : CutOff l.meaning l.before profile l.counts l.names p l.after

-- why a list makes no program of p; a name that no pass answers to is found before any pass ran
abbrev pub RefusesList : Status → PassList → List Entry → Prog → Type 0
RefusesList (status.UnknownPass place) l entries p = IsFirstUnknown l (Some place) × AreUnused l
RefusesList (status.PassTooLarge place bound) l entries p = IsRefusedPass l entries p place bound
RefusesList status.OutOfMemory l entries p = IsCutOff l entries p
RefusesList _ l entries p = ⊥

-- ---- what is told of tallies

module _ {B : Type 0} (meaning : B → Meaning) where
  -- the first of some names to which the pass answers
  abbrev pub first_name : B → List (List ℕ) → Option (List ℕ)
  first_name pass [] = None
  first_name pass (name ∷ rest) = or_else ((meaning pass).answers name) name (first_name pass rest)

  -- the name is answered by the pass, and by none of the earlier ones
  abbrev pub is_taken : List B → B → List ℕ → Bool
  is_taken earlier pass name = (meaning pass).answers name && not (is_some (first_answering meaning earlier name))

  -- one of some names is
  abbrev pub is_used : List B → B → List (List ℕ) → Bool
  is_used earlier pass [] = false
  is_used earlier pass (name ∷ rest) = is_taken earlier pass name || is_used earlier pass rest

abbrev pub named_pieces : Option (List ℕ) → Tally → List (List ℕ)
named_pieces None tally = []
named_pieces (Some name) tally = tally_pieces name tally.runs tally.seen tally.made

module _ {B : Type 0} (meaning : B → Meaning) (counts : B → Tally) (names : List (List ℕ)) where
  -- the line of a pass, by the first name to which it answers, where the list used it
  abbrev pub used_pieces : List B → B → List (List ℕ)
  used_pieces earlier pass = cond (is_used meaning earlier pass names) (named_pieces (first_name meaning pass names) (counts pass)) []

  -- the lines of passes after some earlier ones, in pieces of which each is one put
  abbrev pub pieces_from : List B → List B → List (List ℕ)
  pieces_from earlier [] = []
  pieces_from earlier (pass ∷ passes) = used_pieces earlier pass ++ pieces_from (earlier ++ pass ∷ []) passes

-- the lines of the passes that the list used, in their order, in pieces of which each is one put
abbrev pub tallies_told : PassList → List (List ℕ)
tallies_told l = pieces_from l.meaning l.counts l.names [] l.after
