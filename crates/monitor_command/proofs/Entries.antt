-- The variables at a stop, one after another.
use Rattle.std.proofs.Common.{◌≡◌, ℕ, ◌+◌, ◌<◌, ◌≤◌, List, [], ◌∷◌, ◌++◌, length, take, drop, get_or, Some, None, refl, sym, ap, ◌∙◌, subst, arith, append-nil}
use Rattle.std.specs.Prelude.{slice_get}
use Rattle.std.specs.List.{flat_map}
use Rattle.std.proofs.lemmas.Grind.{flat_map-append}
use Rattle.std.proofs.lemmas.List.{take-append-drop, take_all, take_more}
use Rattle.std.proofs.lemmas.Option.{get_or_from_slice_get, slice_get-get_or}
use Rattle.bril_commands.specs.commands.Monitor.{point_pieces, variable_pieces}
use Rattle.bril_outside.proofs.SinkWrites.{PutSome-after, PutSome-longer}
use Rattle.bril_outside.specs.Sink.{PutSome, SinkSeen}
use Rattle.bril_report.proofs.Puts.{PutsAll-append}
use Rattle.bril_report.specs.Lines.{variable_name}
use Rattle.bril_report.specs.Puts.{PutsAll}
use Rattle.bril_tree.specs.declared.program.Prog.{Prog}
use Rattle.monitor_command.specs.Carried.{ShowsEntries}
use Rattle.rv64_words.specs.declared.points.HomeAt.{HomeAt}
use Rattle.step_monitor.specs.MonitorView.{IsEntryIn, entries_in}
use Rattle.step_monitor.specs.declared.entry.EntryValue.{EntryValue}
use Rattle.step_monitor.specs.declared.monitor.Monitor.{Monitor}

some_one : {X : Type 0} {a b : X} → Some a ≡ Some b → a ≡ b
some_one e = cc

module _ (p : Prog) (func : ℕ) (m : Monitor) (lines : List (List ℕ)) (shown : ShowsEntries p func m lines) where
  abbrev homes : List HomeAt
  homes = shown.at.homes

  -- the pieces of the first entries
  abbrev pub pieces_to : ℕ → List (List ℕ)
  pieces_to k = point_pieces p shown.at.func shown.locations (take k shown.at.homes)

  abbrev of_home : HomeAt → List (List ℕ)
  of_home h = variable_pieces (variable_name p shown.at.func h.var) (shown.locations.vars h.var)

  module _ (k : ℕ) (low : k < length (entries_in m)) where
    within : k < length homes
    within = subst (λ (hs : List HomeAt). k < length hs) shown.entries low

    -- each entry has a value
    pub has_value : IsEntryIn m k None → ⊥
    has_value none = by homes refl within
      where
        clash : {e : EntryValue} → None ≡ Some e → ⊥
        clash e = cc

        by : (hs : List HomeAt) → hs ≡ homes → k < length hs → ⊥
        by [] same less = absurd (omega arith)
        by (h ∷ hs) same less =
            let d = get_or (h ∷ hs) k h in
            let is : slice_get homes k ≡ Some d = ap (λ (gs : List HomeAt). slice_get gs k) (sym same) ∙ slice_get-get_or (h ∷ hs) k h less in
            clash (shown.values k d None is none).2

    module _ (entry : EntryValue) (answered : IsEntryIn m k (Some entry)) where
      -- the pieces that are put of it
      abbrev put_pieces : List (List ℕ)
      put_pieces = variable_pieces (variable_name p func entry.var) (Some entry.value)

      of_entry : (h : HomeAt) → slice_get homes k ≡ Some h → of_home h ≡ put_pieces
      of_entry h is =
          let told = shown.values k h (Some entry) is answered in
          let same : entry ≡ record { var = h.var; value = told.0 } = some_one told.2 in
          let value : shown.locations.vars h.var ≡ Some entry.value = told.1 ∙ ap (λ (e : EntryValue). Some e.value) (sym same) in
          ap (λ v. variable_pieces (variable_name p shown.at.func h.var) v) value
          ∙ (ap (λ x. variable_pieces (variable_name p shown.at.func x) (Some entry.value)) (ap (λ (e : EntryValue). e.var) (sym same)) ∙ ap (λ f. variable_pieces (variable_name p f entry.var) (Some entry.value)) shown.of_function)

      by_home : {P : Type 0} → ((h : HomeAt) → slice_get homes k ≡ Some h → get_or homes k h ≡ h → P) → P
      by_home {P} give = by homes refl within
        where
          by : (hs : List HomeAt) → hs ≡ homes → k < length hs → P
          by [] same less = absurd (omega arith)
          by (h ∷ hs) same less =
              let d = get_or (h ∷ hs) k h in
              let is : slice_get homes k ≡ Some d = ap (λ (gs : List HomeAt). slice_get gs k) (sym same) ∙ slice_get-get_or (h ∷ hs) k h less in
              give d is (get_or_from_slice_get homes k d d is)

      -- the first entries and this one
      next_pieces : pieces_to k ++ put_pieces ≡ pieces_to (k + 1)
      next_pieces = by_home (λ h is there.
          ap (λ ps. pieces_to k ++ ps) (sym (of_entry h is) ∙ sym (append-nil (of_home h)))
          ∙ (sym (flat_map-append of_home (take k homes) (h ∷ []))
          ∙ (ap (λ g. flat_map of_home (take k homes ++ g ∷ [])) (sym there) ∙ ap (flat_map of_home) (sym (take_more homes k h within)))))

      -- and those after it
      all_pieces : lines ≡ (pieces_to k ++ put_pieces) ++ point_pieces p shown.at.func shown.locations (drop (k + 1) homes)
      all_pieces =
          shown.pieces ∙ (ap (point_pieces p shown.at.func shown.locations) (sym (take-append-drop (k + 1) homes))
          ∙ (flat_map-append of_home (take (k + 1) homes) (drop (k + 1) homes) ∙ ap (λ ps. ps ++ point_pieces p shown.at.func shown.locations (drop (k + 1) homes)) (sym next_pieces)))

      pub entry_more : {s t u : SinkSeen} → PutsAll s (pieces_to k) t → PutsAll t put_pieces u → PutsAll s (pieces_to (k + 1)) u
      entry_more {s} {t} {u} before puts = subst (λ ps. PutsAll s ps u) next_pieces (PutsAll-append before puts)

      pub entry_fails : {s t u : SinkSeen} → PutsAll s (pieces_to k) t → PutSome t put_pieces u → PutSome s lines u
      entry_fails {s} {t} {u} before put =
          subst (λ ps. PutSome s ps u) (sym all_pieces) (PutSome-longer (point_pieces p shown.at.func shown.locations (drop (k + 1) homes)) (PutSome-after before.put put))

  -- all entries
  pub entries_all : (k : ℕ) → length (entries_in m) ≤ k → {s t : SinkSeen} → PutsAll s (pieces_to k) t → PutsAll s lines t
  entries_all k past {s} {t} before =
      let over : length homes ≤ k = subst (λ (hs : List HomeAt). length hs ≤ k) shown.entries past in
      subst (λ ps. PutsAll s ps t) (ap (point_pieces p shown.at.func shown.locations) (take_all k homes over) ∙ sym shown.pieces) before
