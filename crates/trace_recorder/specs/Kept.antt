-- What the parts of a recorder are, and what they keep.
use Rattle.std.specs.Prelude.{◌≡◌, ◌⊎◌, ℕ, zero, suc, ◌+◌, ◌-◌, ◌*◌, ◌^◌, ◌<◌, ◌≤◌, ◌==◌, ◌&&◌, ◌||◌, nat_le, Bool, true, false, All, List, [], ◌∷◌, ◌++◌, length, map, take, drop, Option, Some, None, slice_index_or, OnErr, OnOk, Result}
use Rattle.std.specs.Option.{option_map}
use Rattle.std.specs.declared.alloc.AllocError.{AllocError}
use Rattle.bril_profile.specs.declared.profile.Entry.{Entry}
use Rattle.bril_tree.specs.declared.program.Prog.{Prog}
use Rattle.bril_tree.specs.State.{State}
use Rattle.trace_paths.specs.declared.ranks.Ranked.{Ranked}
use Rattle.trace_recorder.specs.declared.arrival.Arrival.{Arrival}
use Rattle.trace_recorder.specs.declared.counts.Tables.{Tables}
use Rattle.trace_recorder.specs.declared.kept.Kept.{Kept}
use Rattle.trace_recorder.specs.declared.kept.Named.{Named}
use Rattle.trace_recorder.specs.declared.parts.Parts.{Parts}
use Rattle.trace_recorder.specs.declared.passing.Passing.{Passing}
use Rattle.trace_recorder.specs.declared.paths.Paths.{Paths}
use Rattle.trace_recorder.specs.declared.seen.Seen.{Seen}
use Rattle.trace_recorder.specs.Counts.{AreDistinct, AreFound, IsCounted}
use Rattle.trace_recorder.specs.Passings.{stops_at, lays_at, is_own}
use Rattle.trace_recorder.specs.Recorded.{func_name, label_name, own_of}
use Rattle.trace_recorder.specs.Sight.{Sight}
use Rattle.trace_recorder.specs.Standing.{Held, RecorderView, StandsFor, TakesMemory, entry_count}

abbrev pub sight_of : Seen → Sight
sight_of s = record { function = s.func; point = s.point; item = s.item.now; choice = s.choice }

abbrev pub sight_seen : Option Seen → Option Sight
sight_seen s = option_map sight_of s

-- These are the names of the arrival's label.
pub record IsNamed (P : Prog) (a : Arrival) (n : Named) : Type 0 where
  pub func : n.func ≡ func_name P a
  pub label : n.label ≡ label_name P a
  pub place : n.place ≡ a

-- ---- an entry that was begun

-- the choices in the log from a start on, up to where the path has ended
abbrev pub choices_in : List Bool → (start : ℕ) → Option ℕ → List Bool
choices_in log start None = drop start log
choices_in log start (Some end) = take (end - start) (drop start log)

-- how many may still come, where so many came: none where the path has ended
abbrev pub left_of : Option ℕ → (most past : ℕ) → ℕ
left_of None most past = most - past
left_of (Some end) most past = 0

-- where so many items have been met, and laid, and the log is this
abbrev pub held_of : List Bool → (items laid : ℕ) → Kept → Held
held_of log items laid k = record {
  func = k.named.func;
  label = k.named.label;
  place = k.named.place;
  choices = choices_in log k.start k.end;
  fuel = left_of k.end 1023 (items - k.items);
  room = left_of k.end 256 (laid - k.laid);
}

abbrev pub end_or : Option ℕ → ℕ → ℕ
end_or None end = end
end_or (Some before) end = before

-- its path has ended, here if it went on so far
abbrev pub closed : ℕ → Kept → Kept
closed end k = record { named = k.named; items = k.items; laid = k.laid; start = k.start; end = Some (end_or k.end end) }

abbrev pub closed_if : Bool → ℕ → Kept → Kept
closed_if true end k = closed end k
closed_if false end k = k

abbrev pub has_end : Option ℕ → Bool
has_end None = false
has_end (Some end) = true

-- its path ends at such a state: all do, or 1,023 items were met behind its label, or it would lay a 257th
abbrev pub ends_at : Passing → (items laid : ℕ) → Kept → Bool
ends_at p items laid k = stops_at p || (nat_le (k.items + 1023) items || (lays_at p && nat_le (k.laid + 256) laid))

abbrev pub has_ended : Passing → (items laid : ℕ) → Kept → Bool
has_ended p items laid k = has_end k.end || ends_at p items laid k

-- its choices are a part of the log
pub record IsWithin (long : ℕ) (k : Kept) : Type 0 where
  pub start : k.start ≤ end_or k.end long
  pub end : end_or k.end long ≤ long

-- there are at most 256 choices; a path that goes on has met at most 1,023 items, and laid at least its choices, at most 256
abbrev pub IsOpen : (long items laid : ℕ) → Kept → Option ℕ → Type 0
IsOpen long items laid k None = (long + k.laid ≤ laid + k.start) × (items ≤ k.items + 1023) × (laid ≤ k.laid + 256)
IsOpen long items laid k (Some end) = end ≤ k.start + 256

pub record IsKept (long items laid : ℕ) (k : Kept) : Type 0 where
  pub within : IsWithin long k
  pub items_before : k.items ≤ items
  pub laid_before : k.laid ≤ laid
  pub goes : IsOpen long items laid k k.end

-- those behind one that was begun before had met and laid no less
abbrev pub AreBehind : Kept → List Kept → Type 0
AreBehind k [] = Unit {0}
AreBehind k (j ∷ held) = ((k.items ≤ j.items) × (k.laid ≤ j.laid)) × AreBehind k held

abbrev pub AreInOrder : List Kept → Type 0
AreInOrder [] = Unit {0}
AreInOrder (k ∷ held) = AreBehind k held × AreInOrder held

-- the first n have ended
abbrev pub AreEnded : ℕ → List Kept → Type 0
AreEnded zero held = Unit {0}
AreEnded (suc n) [] = ⊥
AreEnded (suc n) (k ∷ held) = (has_end k.end ≡ true) × AreEnded n held

-- the first n end here, if they went on so far
abbrev pub ending : ℕ → ℕ → List Kept → List Kept
ending end zero held = held
ending end (suc n) [] = []
ending end (suc n) (k ∷ held) = closed end k ∷ ending end n held

-- the paths of the first n have ended or end at such a state; the next one goes on, and no later one ends there
abbrev pub AreParted : Passing → (items laid : ℕ) → ℕ → List Kept → Type 0
AreParted p items laid zero [] = Unit {0}
AreParted p items laid zero (k ∷ held) = (has_ended p items laid k ≡ false) × All (λ k. ends_at p items laid k ≡ false) held
AreParted p items laid (suc n) [] = ⊥
AreParted p items laid (suc n) (k ∷ held) = (has_ended p items laid k ≡ true) × AreParted p items laid n held

-- What the entries that were begun keep. Each new one lets at most 1,024 items more be met, so their number stays in its type.
pub record AreKept (long items laid front : ℕ) (held : List Kept) : Type 0 where
  pub few : length held < 2 ^ 32
  pub kept : All (IsKept long items laid) held
  pub order : AreInOrder held
  pub ended : AreEnded front held
  pub items_fit : items ≤ 1024 * length held
  pub begun : All (λ k. k.items + 1023 ≤ 1024 * length held) held
  pub laid_fit : laid ≤ items

abbrev pub ArePaths : Paths → Type 0
ArePaths p = AreKept (length p.log.items) p.items p.laid p.front p.held.items

abbrev pub paths_view : Paths → List Held
paths_view p = map (held_of p.log.items p.items p.laid) p.held.items

abbrev pub places_of : Paths → List Arrival
places_of p = map (λ k. k.named.place) p.held.items

-- ---- a label that an entry has

-- the arrival is at this place
abbrev pub is_at : Arrival → Arrival → Bool
is_at a b = (a.func == b.func) && (a.point == b.point)

-- some of the paths end here
abbrev pub ClosesSome : ℕ → List Kept → List Kept → Type 0
ClosesSome end [] [] = Unit {0}
ClosesSome end [] (k ∷ new) = ⊥
ClosesSome end (k ∷ old) [] = ⊥
ClosesSome end (k ∷ old) (j ∷ new) = ((j ≡ k) ⊎ (j ≡ closed end k)) × ClosesSome end old new

-- where one of the entries has its label here, `number` is its number, the first one's being n
abbrev pub IsNumbered : Arrival → (number n : ℕ) → List Kept → Type 0
IsNumbered a number n [] = Unit {0}
IsNumbered a number n (k ∷ held) = (is_at a k.named.place ≡ true → number ≡ n) × IsNumbered a number (suc n) held

-- the path of each entry whose label is at the state has ended
abbrev pub OwnEnded : Option Sight → List Kept → Type 0
OwnEnded s held = All (λ k. is_own (own_of k.named.place) s ≡ true → has_end k.end ≡ true) held

-- what is held of an entry that begins
abbrev pub named_held : Named → Held
named_held n = record { func = n.func; label = n.label; place = n.place; choices = []; fuel = 1023; room = 256 }

abbrev pub begun_held : Option Named → List Held
begun_held None = []
begun_held (Some n) = named_held n ∷ []

-- these are the names of what begins
abbrev pub AreBegun : Prog → Option Arrival → Option Named → Type 0
AreBegun P None None = Unit {0}
AreBegun P None (Some n) = ⊥
AreBegun P (Some a) None = ⊥
AreBegun P (Some a) (Some n) = IsNamed P a n

-- there is room for one entry more, where there are names
abbrev pub HasRoom : (long capacity : ℕ) → Option Named → Type 0
HasRoom long capacity None = Unit {0}
HasRoom long capacity (Some n) = (long < capacity) × (suc long < 2 ^ 32)

-- there are tables, where there are names
abbrev pub HasTables : List (List ℕ) → Option Named → Type 0
HasTables counts None = Unit {0}
HasTables counts (Some n) = counts ≡ [] → ⊥

-- ---- the recorder

abbrev pub counts_in : Tables → List (List ℕ)
counts_in t = map (λ c. c.items) t.counts.items

abbrev pub numbers_in : Tables → List (List ℕ)
numbers_in t = map (λ c. c.items) t.numbers.items

abbrev pub view_of : Parts → RecorderView
view_of p = record { hot = p.hot; most = p.most; counts = counts_in p.tables; held = paths_view p.paths }

abbrev pub numbers_of : Parts → List (List ℕ)
numbers_of p = numbers_in p.tables

-- What seeing a state does: after it the recorder stands for one state more, and after an error for the same ones.
pub record StateSeen (result : Result Unit AllocError) (old new : RecorderView) (P : Prog) (s : State) : Type 0 where
  pub ok : OnOk result ((hot most : ℕ) (run : List State) → StandsFor old P hot most run → StandsFor new P hot most (run ++ s ∷ []))
  pub err : OnErr result (new ≡ old)
  pub memory : OnErr result (TakesMemory old P s)

-- What a recorder keeps.
pub record IsSound (p : Parts) : Type 0 where
  pub hot : p.hot < 2 ^ 32
  pub most : p.most ≤ 64
  pub paths : ArePaths p.paths
  pub sized : map length (numbers_of p) ≡ map length (view_of p).counts
  pub none : (view_of p).counts ≡ [] → p.paths.held.items ≡ []
  -- of different labels that have numbers, the table has those of the entries
  pub found : AreDistinct (places_of p.paths) → All (IsCounted (numbers_of p)) (places_of p.paths) → AreFound (numbers_of p) 1 (places_of p.paths)

-- ---- the profile

-- the entries by their places, the first one's being `place`, and by their counts
abbrev pub ranks_from : List (List ℕ) → (place : ℕ) → List Kept → List Ranked
ranks_from counts place [] = []
ranks_from counts place (k ∷ held) = record { place = place; count = entry_count counts k.named.place } ∷ ranks_from counts (suc place) held

abbrev pub ranked_entry : List Bool → Kept → ℕ → Entry
ranked_entry log k count = record { func = k.named.func; label = k.named.label; choices = choices_in log k.start k.end; count = count }

abbrev pub no_entry : Entry
no_entry = record { func = []; label = []; choices = []; count = 0 }

abbrev pub with_count : Entry → ℕ → Entry
with_count e count = record { func = e.func; label = e.label; choices = e.choices; count = count }

abbrev pub entry_at : List Bool → List Kept → Ranked → Entry
entry_at log held r = with_count (slice_index_or (map (λ k. ranked_entry log k 0) held) r.place no_entry) r.count
