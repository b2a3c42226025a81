-- What a program with traces does.
use Rattle.std.specs.Prelude.{◌≡◌, ℕ, suc, ◌+◌, ◌<◌, List, Some}
use Rattle.bril_profile.specs.declared.profile.Profile.{Profile}
use Rattle.bril_tree.specs.declared.function_tree.Item.{Item}
use Rattle.bril_tree.specs.declared.function_tree.Item.TheVariants as item
use Rattle.bril_tree.specs.declared.limits.Limits.{Limits}
use Rattle.bril_tree.specs.declared.program.Prog.{Prog}
use Rattle.bril_tree.specs.declared.value.Value.{Value}
use Rattle.bril_tree.specs.Accepted.{IsAccepted}
use Rattle.bril_tree.specs.Numbered.{tree_at}
use Rattle.bril_tree.specs.Run.{FitMain, Refines, first_state, state_after}
use Rattle.bril_tree.specs.State.{Frame, Locals, State}
use Rattle.trace_laws.specs.lines.Laws.{IsQuiet}
use Rattle.trace_laws.specs.lines.Lines.{commit_line, speculate_line}
use Rattle.trace_laws.specs.lines.Traced.{IsTraced, Trace, trace_at}
use Rattle.trace_laws.specs.refinement.Attempts.{ComesBehind, IsAttempt, RunsIn}

-- It does what the given program does; one step becomes 520 at most.
abbrev pub TracesRefine : Type 0
TracesRefine = (P Q : Prog) (profile : Profile) → IsAccepted P → IsTraced P profile Q → Refines P Q 520

-- ---- what stands in a trace

-- Behind a label of P stands in Q a `speculate`, so many items behind that its `commit`, and behind a `jmp` the label to which its guards
-- go. What stands between `speculate` and `commit` prints, stores, takes and frees nothing, and calls nothing.
pub record HasQuietTrace (P Q : Prog) (f point : ℕ) (t : Trace) : Type 0 where
  pub label : ℕ
  pub size : ℕ
  pub stands : tree_at P f point ≡ tree_at Q f label
  pub opens : tree_at Q f (suc label) ≡ Some speculate_line
  pub closes : tree_at Q f (suc (suc label) + size) ≡ Some commit_line
  pub bails : tree_at Q f (suc (suc label) + size + 2) ≡ Some (item.Label t.names.bail)
  pub quiet : (k : ℕ) (a : Item) → k < size → tree_at Q f (suc (suc label) + k) ≡ Some a → IsQuiet t.names.bail a
  -- behind that label, after so many labels that are put before it, the old code goes on
  pub between : ℕ
  pub follows : tree_at P f (suc point) ≡ tree_at Q f (suc (suc label) + size + 3 + between)
  pub labelled : (k : ℕ) → k < between → (name : List ℕ) × (tree_at Q f (suc (suc label) + size + 3 + k) ≡ Some (item.Label name))

-- So is each trace.
abbrev pub TracesAreQuiet : Type 0
TracesAreQuiet = (P Q : Prog) (profile : Profile) → (made : IsTraced P profile Q) → (f point : ℕ) (t : Trace) → trace_at made.laid f point ≡ Some t → HasQuietTrace P Q f point t

-- ---- attempts

-- Where the run of Q, with arguments that fit, stands at the `speculate`, the run of P comes to stand just behind the label, and then
-- holds the same.
abbrev pub StartsAlike : (P Q : Prog) (f point : ℕ) (t : Trace) → HasQuietTrace P Q f point t → Type 0
StartsAlike P Q f point t place = (limits : Limits) (args : List Value) → FitMain P args → (n : ℕ) (locations : Locals) (saves : List Locals) (older : List Frame) →
    RunsIn (record { function = f; point = suc place.label; locations = locations; saves = saves }) older (state_after Q limits args n) →
    ComesBehind P Q limits f point (first_state P limits args) (state_after Q limits args n)

-- So does each trace.
abbrev pub TracesStartAlike : Type 0
TracesStartAlike = (P Q : Prog) (profile : Profile) → IsAccepted P → (made : IsTraced P profile Q) → (f point : ℕ) (t : Trace) → trace_at made.laid f point ≡ Some t → (place : HasQuietTrace P Q f point t) → StartsAlike P Q f point t place

-- Whatever state of Q stands at the `speculate`, under whatever limits, there begins an attempt: until the `commit` nothing is seen of
-- it, and a guard that fails gives back what was there.
abbrev pub GivesBack : (P Q : Prog) (f point : ℕ) (t : Trace) → HasQuietTrace P Q f point t → Type 0
GivesBack P Q f point t place = (limits : Limits) (u : State) (locations : Locals) (saves : List Locals) (older : List Frame) →
    RunsIn (record { function = f; point = suc place.label; locations = locations; saves = saves }) older u →
    IsAttempt P Q limits f (suc place.label) place.size u locations saves older

-- So does each quiet trace.
abbrev pub TracesGiveBack : Type 0
TracesGiveBack = (P Q : Prog) (f point : ℕ) (t : Trace) (place : HasQuietTrace P Q f point t) → GivesBack P Q f point t place
