-- Work that is carried out as one outcome says is carried out as another says.
use Rattle.std.proofs.Common.{◌≡◌, ℕ, List, [], Option, Some, None, refl, ◌∙◌, inl, inr, ⊎_elim}
use Rattle.bril_outside.specs.Sink.{SinkSeen, Rose, Flushed, HandedOn}
use Rattle.bril_report.specs.declared.status.Status.TheVariants as status
use Rattle.bril_report.specs.declared.status.Status.{Status}
use Rattle.bril_tree.specs.declared.limits.End.TheVariants.{Ended, Faulted}
use Rattle.bril_tree.specs.declared.limits.End.{End}
use Rattle.rv64_words.specs.declared.trap.Trap.{Trap}
use Rattle.bril_commands.specs.Outcome.{Outcome, WritesPieces, ShowsPut, ShowsWhole, ShowsPartly, Works, end_status, writes}

module _ (a b : Outcome) (steps : a.steps ≡ b.steps) (unwritten : a.unwritten ≡ b.unwritten) (shows : (ended : Option End) (told output : List (List ℕ)) → a.Shows ended told output → b.Shows ended told output) (traps : (trap : Trap) (told output : List (List ℕ)) → a.Traps trap told output → b.Traps trap told output) (exhausts : (output : List (List ℕ)) → a.Exhausts output → b.Exhausts output) (told : List (List ℕ)) (s t : SinkSeen) where
  whole : (ended : Option End) → ShowsWhole a ended told s t → ShowsWhole b ended told s t
  whole ended w = record { output = w.output; shows = shows ended told w.output w.shows; took = w.took }

  pub Works-as : (how : Status) → Works a how told s t → Works b how told s t
  Works-as status.Done works = whole _ works
  Works-as (status.Faulted fault) works = whole _ works
  Works-as (status.Spent made) works = (works.0 ∙ steps, whole _ works.1)
  Works-as (status.Trapped trap) works = record { output = works.output; traps = traps trap told works.output works.traps; took = works.took }
  Works-as status.CannotWrite works = (
    works.0 ∙ unwritten,
    ⊎_elim (λ partly. inl (record {
      ended = partly.ended;
      told = partly.told;
      output = partly.output;
      shows = shows partly.ended partly.told partly.output partly.shows;
      took = partly.took;
    }))
        (λ partly. inr (record {
          trap = partly.trap;
          told = partly.told;
          output = partly.output;
          traps = traps partly.trap partly.told partly.output partly.traps;
          took = partly.took;
        }))
        works.1,
  )
  Works-as status.OutOfMemory works = (works.0, ⊎_elim inl (λ short. inr (short.0, exhausts short.0 short.1, short.2)) works.1)
  Works-as _ works = absurd works

-- pieces were put, and this is told either way
pub Works-told : (told : List (List ℕ)) (IsOutput : List (List ℕ) → Type 0) (pieces : List (List ℕ)) → IsOutput pieces → (how : Status) (s t : SinkSeen) → WritesPieces how pieces s t → Works (writes told IsOutput) how told s t
Works-told told IsOutput pieces is status.Done s t puts = record { output = pieces; shows = (refl, refl, is); took = puts }
Works-told told IsOutput pieces is status.CannotWrite s t puts = (refl, inl (record { ended = _; told = _; output = pieces; shows = (refl, refl, is); took = puts }))
Works-told told IsOutput pieces is _ s t puts = absurd puts

-- it ended so, or goes on after the steps
pub Works-ended : (o : Outcome) (ended : Option End) (told : List (List ℕ)) (s t : SinkSeen) → ShowsWhole o ended told s t → Works o (end_status ended o.steps) told s t
Works-ended o (Some Ended) told s t whole = whole
Works-ended o (Some (Faulted fault)) told s t whole = whole
Works-ended o None told s t whole = (refl, whole)

-- ---- all was put, and then the output was to hand on what it held back

module _ (o : Outcome) {ended : Option End} {told : List (List ℕ)} {s t u : SinkSeen} (put : ShowsPut o ended told s t) (flushed : Flushed t u) where
  pub Shows-flushed : HandedOn t u → ShowsWhole o ended told s u
  Shows-flushed out = record { output = put.output; shows = put.shows; took = record { between = t; puts = put.puts; flushed = flushed; out = out } }

  pub Shows-unflushed : Rose t.faults u.faults → ShowsPartly o s u
  Shows-unflushed rose = record { ended = ended; told = told; output = put.output; shows = put.shows; took = inr (record { between = t; puts = put.puts; flushed = flushed; rose = rose }) }
