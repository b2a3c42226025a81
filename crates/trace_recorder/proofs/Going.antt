-- What the paths keep and hold where they pass a state.
use Rattle.std.proofs.Common.{◌≡◌, ℕ, suc, ◌+◌, ◌<◌, ◌≤◌, List, ◌++◌, length, map, Option, sym, ap, subst, ◌∙◌}
use Rattle.std.proofs.lemmas.List.{length-append}
use Rattle.trace_recorder.specs.declared.kept.Kept.{Kept}
use Rattle.trace_recorder.specs.declared.passing.Passing.{Passing}
use Rattle.trace_recorder.specs.declared.paths.Paths.{Paths}
use Rattle.trace_recorder.specs.Sight.{Sight}
use Rattle.trace_recorder.specs.Standing.{seeing}
use Rattle.trace_recorder.specs.Passings.{passing_of, laid_at, chosen_at}
use Rattle.trace_recorder.specs.Kept.{held_of, ending, AreParted, AreKept, ArePaths, OwnEnded, paths_view, places_of}
use Rattle.trace_recorder.proofs.AllEntries.{ending_places, ends_kept, passes_kept}
use Rattle.trace_recorder.proofs.Following.{goes_seen, ends_seen}

kept_same : {long long' items items' laid laid' front front' : ℕ} {held held' : List Kept} → long ≡ long' → items ≡ items' → laid ≡ laid' → front ≡ front' → held ≡ held'
    → AreKept long items laid front held → AreKept long' items' laid' front' held'
kept_same {long} {long'} {items} {items'} {laid} {laid'} {front} {front'} {held} {held'} a b c d e h =
    subst (λ l. AreKept l items' laid' front' held') a (subst (λ i. AreKept long i laid' front' held') b (subst (λ m. AreKept long items m front' held') c
    (subst (λ f. AreKept long items laid f held') d (subst (AreKept long items laid front) e h))))

-- those before a front end
module _ (p : Passing) (old mid : Paths) (n : ℕ) (kept : ArePaths old) (parted : AreParted p old.items old.laid n old.held.items)
    (rest : mid ≡ record old { held = mid.held; front = n }) (held : mid.held.items ≡ ending (length old.log.items) n old.held.items) where
  log_same : mid.log.items ≡ old.log.items
  log_same = ap (λ (q : Paths). q.log.items) rest

  items_same : mid.items ≡ old.items
  items_same = ap (λ (q : Paths). q.items) rest

  laid_same : mid.laid ≡ old.laid
  laid_same = ap (λ (q : Paths). q.laid) rest

  front_is : mid.front ≡ n
  front_is = ap (λ (q : Paths). q.front) rest

  pub ended_kept : ArePaths mid
  ended_kept = kept_same (ap length (sym log_same)) (sym items_same) (sym laid_same) (sym front_is) (sym held) (ends_kept p (length old.log.items) old.items old.laid old.front n old.held.items kept parted)

  pub ended_places : places_of mid ≡ places_of old
  ended_places = ap (map (λ k. k.named.place)) held ∙ ending_places (length old.log.items) n old.held.items

  pub ended_view : length old.held.items ≤ n → (s : Option Sight) → p ≡ passing_of s → OwnEnded s old.held.items → paths_view mid ≡ map (seeing s) (paths_view old)
  ended_view all s is own =
      (λ i. map (held_of (log_same i) (items_same i) (laid_same i)) (held i)) ∙ ends_seen p old.log.items old.items old.laid s is old.front n old.held.items kept parted own all

  -- and those that go on pass the state
  module _ (new : Paths) (less : n < length old.held.items) (changed : new ≡ record mid { log = new.log; items = suc mid.items; laid = mid.laid + laid_at p }) (logged : new.log.items ≡ mid.log.items ++ chosen_at p) where
    log_is : new.log.items ≡ old.log.items ++ chosen_at p
    log_is = logged ∙ ap (λ l. l ++ chosen_at p) log_same

    items_are : new.items ≡ suc old.items
    items_are = ap (λ (q : Paths). q.items) changed ∙ ap suc items_same

    laid_are : new.laid ≡ old.laid + laid_at p
    laid_are = ap (λ (q : Paths). q.laid) changed ∙ ap (λ l. l + laid_at p) laid_same

    held_are : new.held.items ≡ ending (length old.log.items) n old.held.items
    held_are = ap (λ (q : Paths). q.held.items) changed ∙ held

    pub passed_kept : ArePaths new
    passed_kept =
        kept_same (sym (ap length log_is ∙ length-append old.log.items (chosen_at p))) (sym items_are) (sym laid_are) (sym (ap (λ (q : Paths). q.front) changed ∙ front_is)) (sym held_are)
        (passes_kept p (length old.log.items) old.items old.laid old.front n old.held.items kept parted less)

    pub passed_places : places_of new ≡ places_of old
    passed_places = ap (map (λ k. k.named.place)) held_are ∙ ending_places (length old.log.items) n old.held.items

    pub passed_view : (s : Option Sight) → p ≡ passing_of s → OwnEnded s old.held.items → paths_view new ≡ map (seeing s) (paths_view old)
    passed_view s is own =
        (λ i. map (held_of (log_is i) (items_are i) (laid_are i)) (held_are i)) ∙ goes_seen p old.log.items old.items old.laid s is old.front n old.held.items kept parted own
