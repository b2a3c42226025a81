-- What a command comes to: how its program ended, what is told on the error output, and what is put on the output, in pieces of which
-- each is one put.
use Rattle.std.specs.Prelude.{ℕ, ◌≡◌, ◌⊎◌, List, [], ◌∷◌, Option, Some, None}
use Rattle.bril_outside.specs.Sink.{SinkSeen}
use Rattle.bril_report.specs.Puts.{PutsAll, HoldsBack, WritesAll, WritesSome}
use Rattle.bril_report.specs.declared.status.Status.TheVariants as status
use Rattle.bril_report.specs.declared.status.Status.{Status}
use Rattle.bril_tree.specs.declared.limits.End.TheVariants.{Ended, Faulted}
use Rattle.bril_tree.specs.declared.limits.End.{End}
use Rattle.rv64_words.specs.State.{Stop, Finished, Trapped}
use Rattle.rv64_words.specs.declared.trap.Trap.{Trap}

-- What a command may come to, from what its stages handed on.
pub record Outcome : Type 1 where
  -- how many steps of the program, or words of the machine, are made at most
  pub steps : ℕ
  -- The program has ended so, or goes on after the steps for None, this is told, and this is put on the output. A command that runs no
  -- program has ended.
  pub Shows : Option End → (told output : List (List ℕ)) → Type 0
  -- The machine has trapped so, this is told, and this is put. No program that a command makes into machine words does.
  pub Traps : Trap → (told output : List (List ℕ)) → Type 0
  -- what may have been put where memory ran out after that
  pub Exhausts : (output : List (List ℕ)) → Type 0
  -- what is told where a write failed
  pub unwritten : List (List ℕ)

-- What a command may come to whose machine, if it has one, never traps.
abbrev pub untrapped : Trap → (told output : List (List ℕ)) → Type 0
untrapped trap told output = ⊥

-- what may be shown of a run that stopped so, or goes on for None
abbrev pub ShowsSo : Outcome → Option Stop → (told output : List (List ℕ)) → Type 0
ShowsSo o None = o.Shows None
ShowsSo o (Some (Finished end)) = o.Shows (Some end)
ShowsSo o (Some (Trapped trap)) = o.Traps trap

-- Pieces of which this holds are put, and this is told. No program is run.
abbrev pub writes : List (List ℕ) → (List (List ℕ) → Type 0) → Outcome
writes told IsOutput = record {
  steps = 0;
  Shows = λ ended said output. (ended ≡ Some Ended) × (said ≡ told) × IsOutput output;
  Traps = untrapped;
  Exhausts = λ output. ⊥;
  unwritten = told;
}

-- This text is put by one put, and nothing is told.
abbrev pub writes_text : List ℕ → Outcome
writes_text text = writes [] (λ output. output ≡ text ∷ [])

-- ---- what carrying out a command's work answers

-- This is told, and the output took all that is put. It may hold some of it back.
pub record ShowsPut (o : Outcome) (ended : Option End) (told : List (List ℕ)) (s t : SinkSeen) : Type 0 where
  pub output : List (List ℕ)
  pub shows : o.Shows ended told output
  pub puts : PutsAll s output t

-- This is told, and the output took all that is put, and handed it on.
pub record ShowsWhole (o : Outcome) (ended : Option End) (told : List (List ℕ)) (s t : SinkSeen) : Type 0 where
  pub output : List (List ℕ)
  pub shows : o.Shows ended told output
  pub took : WritesAll s output t

-- A put failed, the last of them; or all was put, and the output failed to hand on what it held back.
pub record ShowsPartly (o : Outcome) (s t : SinkSeen) : Type 0 where
  pub ended : Option End
  pub told : List (List ℕ)
  pub output : List (List ℕ)
  pub shows : o.Shows ended told output
  pub took : WritesSome s output t

-- The machine has trapped so, this is told, and the output took all that is put, and handed it on.
pub record TrapsWhole (o : Outcome) (trap : Trap) (told : List (List ℕ)) (s t : SinkSeen) : Type 0 where
  pub output : List (List ℕ)
  pub traps : o.Traps trap told output
  pub took : WritesAll s output t

-- The machine traps, and a put failed, the last of them; or all was put, and the output failed to hand on what it held back.
pub record TrapsPartly (o : Outcome) (s t : SinkSeen) : Type 0 where
  pub trap : Trap
  pub told : List (List ℕ)
  pub output : List (List ℕ)
  pub traps : o.Traps trap told output
  pub took : WritesSome s output t

-- what is left on the output where memory ran out
abbrev pub StopsShort : Outcome → SinkSeen → SinkSeen → Type 0
StopsShort o s t = (t ≡ s) ⊎ ((output : List (List ℕ)) × o.Exhausts output × (WritesAll s output t ⊎ HoldsBack s output t))

-- the status of a run that ended so, or goes on after so many steps, for None
abbrev pub end_status : Option End → ℕ → Status
end_status (Some Ended) steps = status.Done
end_status (Some (Faulted fault)) steps = status.Faulted fault
end_status None steps = status.Spent steps

-- what carrying out the work answers, and what it tells
abbrev pub Works : Outcome → Status → List (List ℕ) → SinkSeen → SinkSeen → Type 0
Works o status.Done told s t = ShowsWhole o (Some Ended) told s t
Works o (status.Faulted fault) told s t = ShowsWhole o (Some (Faulted fault)) told s t
Works o (status.Spent made) told s t = (made ≡ o.steps) × ShowsWhole o None told s t
Works o (status.Trapped trap) told s t = TrapsWhole o trap told s t
Works o status.CannotWrite told s t = (told ≡ o.unwritten) × (ShowsPartly o s t ⊎ TrapsPartly o s t)
Works o status.OutOfMemory told s t = (told ≡ []) × StopsShort o s t
Works o _ told s t = ⊥

-- what putting pieces by itself answers, where it takes no memory
abbrev pub WritesPieces : Status → List (List ℕ) → SinkSeen → SinkSeen → Type 0
WritesPieces status.Done pieces s t = WritesAll s pieces t
WritesPieces status.CannotWrite pieces s t = WritesSome s pieces t
WritesPieces _ pieces s t = ⊥
