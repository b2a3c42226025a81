-- A run without a list of passes comes as its source has it, whatever passes there are.
use Rattle.std.proofs.Common.{◌≡◌, ℕ, ◌≤◌, List, [], ◌∷◌, Some, None, refl, inr, ⊎_elim, arith}
use Rattle.std.proofs.lemmas.List.Elements.{All-nil}
use Rattle.std.specs.Prelude.{slice_get}
use Rattle.bril_commands.specs.Call.{Call}
use Rattle.bril_commands.specs.PassList.{AreEnoughFor, IsMade}
use Rattle.bril_commands.specs.RunIsCorrect.{AsksToRun, ComesAsSource, HasEnded, IsTooLarge, RunIsCorrect, RunsOn, Says}
use Rattle.bril_profile.specs.declared.profile.Profile.{Profile}
use Rattle.bril_tree.specs.declared.limits.End.{End}
use Rattle.bril_tree.specs.declared.program.Prog.{Prog}
use Rattle.pass_budget_laws.specs.Budget.{budget}
use Rattle.pass_budget_laws.specs.Numbers.{Numbers}
use Rattle.pass_budget_laws.specs.Rows.{Row}
use Rattle.pass_law.specs.Chains.{AreFactors, Chain, first_unknown, tallies_after}
use Rattle.pass_law.specs.Meaning.{Meaning}
use Rattle.pass_law.specs.declared.tally.Tally.{Tally}
use Rattle.shipped_passes.proofs.Budgets.{AreShipped-within}
use Rattle.shipped_passes.specs.Shipped.{AreShipped, shipped_rows}
use Rattle.roolvist_lib.specs.Plain.{bare, no_pass}
use Rattle.roolvist_lib.specs.Seen.{Seen, call_with}

-- ---- no names

abbrev none_means : Unit {0} → Meaning
none_means b = no_pass

empty_profile : Profile
empty_profile = record { entries = []; few = omega arith; short = All-nil _; counted = All-nil _ }

no_names : (profile : Profile) (names : List (List ℕ)) → first_unknown none_means [] profile names ≡ None → names ≡ []
no_names profile [] e = refl
no_names profile (name ∷ names) e = cc

no_name : (names : List (List ℕ)) (place : ℕ) (name : List ℕ) → names ≡ [] → slice_get names place ≡ Some name → ⊥
no_name [] place name none e = cc
no_name (first ∷ names) place name none e = cc

no_tallies : (profile : Profile) (names : List (List ℕ)) (p : Prog) (programs : List Prog) → names ≡ [] → [] ≡ tallies_after none_means [] profile names p programs []
no_tallies profile [] p programs none = refl
no_tallies profile (name ∷ names) p programs none = cc

same_budget : (rows others : List Row) (traced : ℕ) (names : List (List ℕ)) (numbers : Numbers) (steps words : ℕ) → names ≡ [] → budget rows traced names numbers steps ≤ words → budget others traced names numbers steps ≤ words
same_budget rows others traced [] numbers steps words none h = h
same_budget rows others traced (name ∷ names) numbers steps words none h = cc

module _ {B : Type 0} (meaning : B → Meaning) (before : List B) where
  known_all : (profile : Profile) (names : List (List ℕ)) → names ≡ [] → first_unknown meaning before profile names ≡ None
  known_all profile [] none = refl
  known_all profile (name ∷ names) none = cc

  chain_bare : (profile : Profile) (names : List (List ℕ)) (p : Prog) (programs : List Prog) (q : Prog) → names ≡ [] → Chain meaning before profile names p programs q → Chain none_means [] profile names p programs q
  chain_bare profile [] p [] q none h = h
  chain_bare profile [] p (r ∷ rs) q none h = h
  chain_bare profile (name ∷ names) p programs q none h = cc

  factors_whole : (profile : Profile) (names : List (List ℕ)) (p : Prog) (programs : List Prog) (k : ℕ) → names ≡ [] → AreFactors none_means [] profile names p programs k → AreFactors meaning before profile names p programs k
  factors_whole profile [] p programs k none h = h
  factors_whole profile (name ∷ names) p programs k none h = cc

-- ---- the run

module _ {B : Type 0} (meaning : B → Meaning) (counts : B → Tally) (before after : List B) (status : ℕ) (s : Seen) where
  abbrev whole : Call
  whole = call_with meaning counts before after s

  are_none : AsksToRun (bare s) → whole.passes.names ≡ []
  are_none run = no_names empty_profile whole.passes.names (run.known empty_profile)

  abbrev asks_whole : AsksToRun (bare s) → AsksToRun whole
  asks_whole run = record {
    settings = run.settings;
    path = run.path;
    args = run.args;
    asked = run.asked;
    files = run.files;
    told = run.told;
    read = run.read;
    tree = run.tree;
    linked = run.linked;
    source = run.source;
    numbered = run.numbered;
    accepted = run.accepted;
    values = run.values;
    spelled = run.spelled;
    entries = run.entries;
    profiled = run.profiled;
    known = λ profile. known_all meaning before profile whole.passes.names (are_none run);
    written = run.written;
  }

  module _ (shipped : AreShipped meaning before) (run : AsksToRun (bare s)) where
    abbrev makes : (made : Prog) → IsMade whole.passes run.entries run.source made → IsMade (bare s).passes run.entries run.source made
    makes made m = record {
      known = run.known;
      profile = m.profile;
      has = m.has;
      ran = record {
        programs = m.ran.programs;
        chain = chain_bare meaning before m.profile whole.passes.names run.source m.ran.programs made (are_none run) m.ran.chain;
        tallies = no_tallies m.profile whole.passes.names run.source m.ran.programs (are_none run);
      };
      same = tt;
    }

    enough : (steps words : ℕ) → AreEnoughFor (bare s).passes run.entries run.source steps words → AreEnoughFor whole.passes run.entries run.source steps words
    enough steps words e = record {
      rows = shipped_rows;
      each = AreShipped-within meaning before shipped;
      numbers = e.numbers;
      within = e.within;
      enough = same_budget e.rows shipped_rows _ whole.passes.names e.numbers steps words (are_none run) e.enough;
    }

    says : (line : List (List ℕ)) → Says whole (asks_whole run) line → Says (bare s) run line
    says line h = record { counts = h.counts; uncounted = h.uncounted; says = h.says }

    has_ended : (end : End) (line : List (List ℕ)) → HasEnded whole (asks_whole run) end line → HasEnded (bare s) run end line
    has_ended end line h = record { steps = h.steps; ended = h.ended; took = h.took; out = h.out; says = says line h.says }

    runs_on : RunsOn whole (asks_whole run) → RunsOn (bare s) run
    runs_on h = record {
      output = h.output;
      took = h.took;
      out = h.out;
      steps = h.steps;
      begins = h.begins;
      made = h.made;
      makes = makes h.made h.makes;
      too_few = λ n cost factor is factors. h.too_few n cost factor is (factors_whole meaning before h.makes.profile whole.passes.names run.source h.makes.ran.programs factor (are_none run) factors);
      below_budget = λ n e. h.below_budget n (enough n run.settings.steps e);
      says = says _ h.says;
    }

    too_large : IsTooLarge whole (asks_whole run) → IsTooLarge (bare s) run
    too_large = ⊎_elim (λ r. absurd (no_name whole.passes.names r.2.stopped.before r.2.stopped.name (are_none run) r.2.stopped.here)) (λ m. inr (m.0, makes m.0 m.1, m.2))

    comes : ComesAsSource status whole (asks_whole run) → ComesAsSource status (bare s) run
    comes h = record {
      done = λ e. has_ended _ _ (h.done e);
      faulted = λ e. let f = h.faulted e in (f.0, has_ended _ _ f.1);
      spent = λ e. runs_on (h.spent e);
      refused = λ e. too_large (h.refused e);
      silent = h.silent;
      only = h.only;
    }

  pub run_plainly : AreShipped meaning before → RunIsCorrect status whole → RunIsCorrect status (bare s)
  run_plainly shipped h = λ run. comes shipped run (h (asks_whole run))
