-- The tables of a recorder.
use Rattle.std.proofs.Common.{◌≡◌, ℕ, suc, ◌<◌, List, [], ◌∷◌, ◌++◌, length, map, Option, Some, None, refl, sym, ap, subst, ◌∙◌, arith}
use Rattle.std.specs.Prelude.{slice_set, slice_index_or}
use Rattle.std.specs.List.{All}
use Rattle.std.proofs.lemmas.List.{length-set}
use Rattle.std.proofs.lemmas.List.Elements.{All-nil, All-cons, All-head, All-tail}
use Rattle.std.proofs.Math.Seq.{map-set_same}
use Rattle.bril_tree.specs.declared.numbered_function.Func.{Func}
use Rattle.bril_tree.specs.declared.program.Prog.{Prog}
use Rattle.trace_recorder.specs.declared.arrival.Arrival.{Arrival}
use Rattle.trace_recorder.specs.declared.counts.Tables.{Tables}
use Rattle.trace_recorder.specs.declared.kept.Kept.{Kept}
use Rattle.trace_recorder.specs.declared.kept.Named.{Named}
use Rattle.trace_recorder.specs.declared.parts.Parts.{Parts}
use Rattle.trace_recorder.specs.declared.paths.Paths.{Paths}
use Rattle.trace_recorder.specs.Counts.{zero_counts, with_number, counted_at, counts_from, AreFirst, AreDistinct, AreFound, IsCounted, IsPlaceOf}
use Rattle.trace_recorder.specs.Kept.{counts_in, numbers_in, places_of, ArePaths, AreBegun, HasTables, IsSound}
use Rattle.trace_recorder.proofs.Counting.{counted_sized}
use Rattle.trace_recorder.proofs.Finding.{found_more}
use Rattle.trace_recorder.proofs.Shapes.{no_rows, all_counted_as}

number_sized : (rows : List (List ℕ)) (a : Arrival) (n : ℕ) → map length (with_number rows a n) ≡ map length rows
number_sized rows a n =
    map-set_same length rows a.func (slice_set (slice_index_or rows a.func []) a.label n) [] (length-set (slice_index_or rows a.func []) a.label n)

-- ---- after an arrival was counted

module _ (old : Parts) (tables : Tables) (sound : IsSound old) where
  -- with as many counts, and the same numbers
  pub sound_sized : map length (counts_in tables) ≡ map length (counts_in old.tables) → numbers_in tables ≡ numbers_in old.tables → IsSound (record old { tables = tables })
  sound_sized counts numbers = record {
    hot = sound.hot;
    most = sound.most;
    paths = sound.paths;
    sized = ap (map length) numbers ∙ sound.sized ∙ sym counts;
    none = λ e. sound.none (no_rows (counts_in old.tables) (sym counts ∙ ap (map length) e));
    found = subst (λ rows. AreDistinct (places_of old.paths) → All (IsCounted rows) (places_of old.paths) → AreFound rows 1 (places_of old.paths)) (sym numbers) sound.found;
  }

module _ (old : Parts) (tables : Tables) (a : Option Arrival) (sound : IsSound old) where
  sound_by : (first : Option (List (List ℕ))) → counts_in tables ≡ counted_at (counts_from first (counts_in old.tables)) a → numbers_in tables ≡ counts_from first (numbers_in old.tables)
      → ((t : List (List ℕ)) → first ≡ Some t → counts_in old.tables ≡ []) → IsSound (record old { tables = tables })
  sound_by None counts numbers none = sound_sized old tables sound (ap (map length) counts ∙ counted_sized (counts_in old.tables) a) numbers
  sound_by (Some t) counts numbers none =
      let empty : old.paths.held.items ≡ [] = sound.none (none t refl) in
      record {
        hot = sound.hot;
        most = sound.most;
        paths = sound.paths;
        sized = ap (map length) numbers ∙ sym (ap (map length) counts ∙ counted_sized t a);
        none = λ e. empty;
        found = λ d h. subst (λ (held : List Kept). AreFound (numbers_in tables) 1 (map (λ k. k.named.place) held)) (sym empty) tt;
      }

pub sound_counted : (old new : Parts) (first numbers : Option (List (List ℕ))) (a : Option Arrival) → IsSound old → new ≡ record old { tables = new.tables }
    → counts_in new.tables ≡ counted_at (counts_from first (counts_in old.tables)) a → numbers_in new.tables ≡ counts_from numbers (numbers_in old.tables) → numbers ≡ first
    → ((t : List (List ℕ)) → first ≡ Some t → counts_in old.tables ≡ []) → IsSound new
sound_counted old new first numbers a sound rest counts are same none =
    subst IsSound (sym rest) (sound_by old new.tables a sound first counts (are ∙ ap (λ o. counts_from o (numbers_in old.tables)) same) none)

pub first_none : (P : Prog) (counts : List (List ℕ)) (first : Option (List (List ℕ))) → AreFirst P counts first → (t : List (List ℕ)) → first ≡ Some t → counts ≡ []
first_none P counts None h t e = absurd (let n : None ≡ Some t = e in cc)
first_none P counts (Some x) h t e = h.0

-- ---- after an entry began

pub sound_begun : (old : Parts) (paths : Paths) (tables : Tables) (place : Arrival) → IsSound old → (counts_in old.tables ≡ [] → ⊥) → ArePaths paths → places_of paths ≡ places_of old.paths ++ place ∷ []
    → counts_in tables ≡ counts_in old.tables → numbers_in tables ≡ with_number (numbers_in old.tables) place (suc (length (places_of old.paths))) → IsSound (record old { tables = tables; paths = paths })
sound_begun old paths tables place sound some kept places counts numbers =
    let n = suc (length (places_of old.paths)) in
    let shape : map length (numbers_in tables) ≡ map length (numbers_in old.tables) = ap (map length) numbers ∙ number_sized (numbers_in old.tables) place (suc (length (places_of old.paths))) in
    record {
      hot = sound.hot;
      most = sound.most;
      paths = kept;
      sized = shape ∙ sound.sized ∙ ap (map length) (sym counts);
      none = λ e. absurd (some (sym counts ∙ e));
      found = λ d h.
          let distinct = subst AreDistinct places d in
          let all = subst (All (IsCounted (numbers_in tables))) places h in
          let counted = all_counted_as (numbers_in tables) (numbers_in old.tables) (places_of old.paths ++ place ∷ []) shape all in
          subst (AreFound (numbers_in tables) 1) (sym places)
          (subst (λ rows. AreFound rows 1 (places_of old.paths ++ place ∷ [])) (sym numbers)
          (found_more (numbers_in old.tables) place (places_of old.paths) (last_all (places_of old.paths) place counted) (λ d'. sound.found d' (first_all (places_of old.paths) place counted)) distinct));
    }
  where
    first_all : (places : List Arrival) (a : Arrival) → All (IsCounted (numbers_in old.tables)) (places ++ a ∷ []) → All (IsCounted (numbers_in old.tables)) places
    first_all [] a all = All-nil (IsCounted (numbers_in old.tables))
    first_all (b ∷ places) a all =
        All-cons (IsCounted (numbers_in old.tables)) b places (All-head (IsCounted (numbers_in old.tables)) b (places ++ a ∷ []) all) (first_all places a (All-tail (IsCounted (numbers_in old.tables)) b (places ++ a ∷ []) all))

    last_all : (places : List Arrival) (a : Arrival) → All (IsCounted (numbers_in old.tables)) (places ++ a ∷ []) → IsCounted (numbers_in old.tables) a
    last_all [] a all = All-head (IsCounted (numbers_in old.tables)) a [] all
    last_all (b ∷ places) a all = last_all places a (All-tail (IsCounted (numbers_in old.tables)) b (places ++ a ∷ []) all)

-- there are tables where an entry begins
zero_some : (funcs : List Func) (n : ℕ) → n < length funcs → zero_counts funcs ≡ [] → ⊥
zero_some [] n h e = omega arith
zero_some (f ∷ funcs) n h e = (let s : _ ∷ zero_counts funcs ≡ [] = e in cc)

counts_some : (P : Prog) (counts : List (List ℕ)) (first : Option (List (List ℕ))) (b : Arrival) → AreFirst P counts first → IsPlaceOf P b → counts_from first counts ≡ [] → ⊥
counts_some P counts None b h place e = h e
counts_some P counts (Some t) b h place e = zero_some P.funcs b.func place.func (sym h.1 ∙ e)

pub has_tables : (P : Prog) (counts : List (List ℕ)) (first : Option (List (List ℕ))) (a begins : Option Arrival) (named : Option Named) (now : List (List ℕ)) → AreFirst P counts first → now ≡ counted_at (counts_from first counts) a
    → AreBegun P begins named → ((b : Arrival) → begins ≡ Some b → IsPlaceOf P b) → HasTables now named
has_tables P counts first a begins None now h is are place = tt
has_tables P counts first a None (Some n) now h is are place = absurd are
has_tables P counts first a (Some b) (Some n) now h is are place = λ e.
    counts_some P counts first b h (place b refl)
    (no_rows (counts_from first counts) (sym (counted_sized (counts_from first counts) a) ∙ ap (map length) (sym is ∙ e)))
