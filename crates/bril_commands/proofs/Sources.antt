-- What a run of a program that a list of passes made shows of the source.
use Rattle.std.proofs.Common.{◌≡◌, ℕ, ◌+◌, ◌*◌, ◌≤◌, List, Option, Some, None, refl, sym, ◌∙◌, subst, arith}
use Rattle.std.specs.List.{AllZip}
use Rattle.std.proofs.Math.Nat.{mul-le-mul_left}
use Rattle.simulation.specs.System.{IsFinal, Agree}
use Rattle.simulation.proofs.Prefix.{IsPrefix-trans}
use Rattle.bril_tree.specs.Accepted.{IsAccepted}
use Rattle.bril_tree.specs.Run.{Suits, FitMain, Refines, program, state_after}
use Rattle.bril_tree.specs.declared.limits.End.{End}
use Rattle.bril_tree.specs.declared.limits.Limits.{Limits}
use Rattle.bril_tree.specs.declared.program.Prog.{Prog}
use Rattle.bril_tree.specs.declared.value.Value.{Value}
use Rattle.bril_profile.specs.declared.profile.Entry.{Entry}
use Rattle.pass_law.proofs.Chaining.{chains-refine}
use Rattle.pass_law.specs.Chains.{IsRefiningChain}
use Rattle.rv64_image_laws.specs.Shown.{ProgramEnds, ProgramRunsOn, ProgramShows}
use Rattle.bril_commands.specs.PassList.{PassList, IsMade}
use Rattle.bril_commands.specs.Sources.{SourceRunsOn, SourceShows}

-- what the list makes does what the source does, and there is a product of the factors
pub made_chain : (l : PassList) (entries : List Entry) (p q : Prog) (made : IsMade l entries p q) → IsAccepted p → IsRefiningChain l.meaning l.before made.profile l.names p made.ran.programs q
made_chain l entries p q made accepted = chains-refine l.meaning l.before made.profile l.names p made.ran.programs q accepted made.ran.chain

module _ (p q : Prog) (IsFactor : ℕ → Type 0) (some : (k : ℕ) × IsFactor k) (refines : (k : ℕ) → IsFactor k → Refines p q k) (limits : Limits) (values : List Value) (fits : FitMain p values) where
  first : Refines p q some.0
  first = refines some.0 some.1

  -- the arguments fit what was made
  pub made_fits : FitMain q values
  made_fits = subst (λ types. AllZip Suits values types) first.same_types fits

  module _ (k : ℕ) (is : IsFactor k) where
    module _ (n : ℕ) (end : End) (ended : (state_after p limits values n).ended ≡ Some end) where
      agree : Agree (program p limits) (program q limits) (state_after p limits values n) (state_after q limits values (k * n))
      agree = ((refines k is).follows limits values fits).ends n (subst (λ (o : Option End). IsFinal o) (sym ended) refl)

      -- it has ended alike after so many times as many steps, and has printed the same
      pub made_ends : (state_after q limits values (k * n)).ended ≡ Some end
      made_ends = sym agree.0 ∙ ended

      pub made_prints : (state_after q limits values (k * n)).printed ≡ (state_after p limits values n).printed
      made_prints = sym agree.1

    -- the words are enough for it
    pub enough_made : (n cost words : ℕ) → cost * (k * (n + 1)) ≤ words → cost * (k * n + 1) ≤ words
    enough_made n cost words enough =
        let some : 1 ≤ k = (refines k is).positive in
        let more : k * n + 1 ≤ k * (n + 1) = omega arith in
        let most : cost * (k * n + 1) ≤ cost * (k * (n + 1)) = mul-le-mul_left cost more in
        omega arith

    not_ended : (o : Option End) (n : ℕ) → (state_after p limits values n).ended ≡ o → (state_after q limits values (k * n)).ended ≡ None → (state_after p limits values n).ended ≡ None
    not_ended None n is goes = is
    not_ended (Some end) n is goes = let both : Some end ≡ None = sym (made_ends n end is) ∙ goes in cc

  module _ (words : ℕ) (output : List ℕ) where
    runs_on : ProgramRunsOn q limits values words output → SourceRunsOn p q IsFactor limits values words output
    runs_on shows =
        let begins = (first.follows limits values fits).prints_only shows.steps in
        record {
          runs = λ n cost k is_cost is enough. not_ended k is (state_after p limits values n).ended n refl (shows.runs (k * n) cost is_cost (enough_made k is n cost words enough));
          steps = begins.0;
          begins = IsPrefix-trans output (state_after q limits values shows.steps).printed (state_after p limits values begins.0).printed shows.begins begins.1;
        }

    ends_too : (end : End) → ProgramEnds q limits values end output → ProgramEnds p limits values end output
    ends_too end shows =
        let found = (first.follows limits values fits).ends_only shows.steps (subst (λ (o : Option End). IsFinal o) (sym shows.ended) refl) in
        record { steps = found.0; ended = found.1.0 ∙ shows.ended; prints = found.1.1 ∙ shows.prints }

    -- what it shows holds of the source
    pub shows_source : (ended : Option End) → ProgramShows q limits values words ended output → SourceShows p q IsFactor limits values words ended output
    shows_source None shows = runs_on shows
    shows_source (Some end) shows = ends_too end shows

-- the arguments of a program fit what a list makes of it
pub fits_made : (l : PassList) (entries : List Entry) (p q : Prog) (made : IsMade l entries p q) → IsAccepted p → (values : List Value) → FitMain p values → FitMain q values
fits_made l entries p q made accepted values fits =
    let chain = made_chain l entries p q made accepted in
    subst (λ types. AllZip Suits values types) (chain.refines chain.some.0 chain.some.1).same_types fits
