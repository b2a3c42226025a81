-- The files of a program that were read so far, and kept.
use Rattle.std.proofs.Common.{◌≡◌, ◌∙◌, ◌⊎◌, refl, sym, ap, subst, ℕ, ◌+◌, ◌-◌, ◌<◌, ◌≤◌, List, [], ◌∷◌, ◌++◌, length, Option, Some, None, inl, inr, arith}
use Rattle.std.proofs.lemmas.List.{length-append}
use Rattle.std.specs.Prelude.{slice_get}
use Rattle.bril_outside.specs.Files.{FileMap, FilesSeen, MayHold}
use Rattle.import_linker.specs.Adding.{AddsTooMany}
use Rattle.import_linker.specs.Order.{all_added, known_after, most_files, named_by}
use Rattle.import_linker.specs.Reading.{AreNext, IsMisread, IsNextPath, IsRead, RefusesReading, RefusesSource, bytes_of}
use Rattle.import_linker.specs.formats.Reading.{most_bytes}
use Rattle.import_linker.specs.declared.fault.LinkFault.{LinkFault}
use Rattle.import_linker.specs.declared.fault.LinkFault.TheVariants as fault
use Rattle.import_linker.specs.declared.sources.Source.{Source}
use Rattle.import_linker.proofs.Knowing.{bytes_more, next_more}
use Rattle.import_linker.proofs.Turning.{all_read, is_next_path, knows, next_is, refuses_adding, refuses_source, started_more}
use Rattle.bril_explain.specs.Kept.{AreAllKept, AreKept, AreOf, Keeps, KeepsRefused, KeepsSource, StopsIn, bytes_at}
use Rattle.bril_explain.specs.declared.kept.KeptFile.{KeptFile}
use Rattle.bril_explain.proofs.Keeping.{are_of, as_many, kept_more, next_not_kept, stays}
use Rattle.bril_explain.proofs.Within.{nexts_within}

-- ---- what was kept grows

module _ (holds : Option FileMap) (path : List ℕ) (kept after : List KeptFile) (grown : (after ≡ kept) ⊎ Keeps holds path kept after) where
  pub still : (other bytes : List ℕ) → bytes_at kept other ≡ Some bytes → bytes_at after other ≡ Some bytes
  still other bytes at = elim grown [
    | inl same ↦ ap (λ (k : List KeptFile). bytes_at k other) same ∙ at
    | inr one ↦ ap (λ (k : List KeptFile). bytes_at k other) one.last ∙ stays one.file other kept bytes at
  ]

  pub still_of : AreOf holds (bytes_at kept) → AreOf holds (bytes_at after)
  still_of are = elim grown [
    | inl same ↦ subst (λ (k : List KeptFile). AreOf holds (bytes_at k)) (sym same) are
    | inr one ↦ subst (λ (k : List KeptFile). AreOf holds (bytes_at k)) (sym one.last)
        (are_of holds kept one.file are (subst (λ (p : List ℕ). MayHold holds p one.file.bytes) (sym one.at) one.held))
  ]

pub record ReadSoFar (kept : List KeptFile) (root : List ℕ) (known : List (List ℕ)) (total : ℕ) : Type 0 where
  pub sources : List Source
  pub in_order : AreKept kept sources
  pub known_is : known ≡ known_after root sources
  pub few : length known ≤ most_files
  pub started : length kept ≤ length known
  pub total_is : total ≡ bytes_of sources
  pub short : total ≤ most_bytes
  pub read : AreNext (Some (bytes_at kept)) root [] sources

-- nothing was read
pub none_read : (root : List ℕ) (known : List (List ℕ)) → known ≡ root ∷ [] → ReadSoFar [] root known 0
none_read root known is = record {
  sources = [];
  in_order = tt;
  known_is = is;
  few = let one : length known ≡ 1 = ap length is in omega (arith, one);
  started = omega arith;
  total_is = refl;
  short = omega arith;
  read = tt;
}

module _ (kept : List KeptFile) (root : List ℕ) (known : List (List ℕ)) (total : ℕ) (far : ReadSoFar kept root known total) where
  at_end : {X : Type 0} (f : ℕ → X) → f (length kept) ≡ f (length far.sources)
  at_end f = ap f (as_many kept far.sources far.in_order)

  -- ---- where a file is next

  module _ (path : List ℕ) (at : slice_get known (length kept) ≡ Some path) where
    here : slice_get known (length far.sources) ≡ Some path
    here = sym (at_end (slice_get known)) ∙ at

    next : IsNextPath root far.sources path
    next = is_next_path root far.sources known far.known_is path here

    -- it wasn't kept before
    pub not_kept : bytes_at kept path ≡ None
    not_kept = next_not_kept (Some (bytes_at kept)) root kept far.sources path far.in_order far.read next

    module _ (after : List KeptFile) (s : Source) (more : List (List ℕ)) (keeps : KeepsSource path kept after s) (path_is : s.path ≡ path) (short : s.size ≤ most_bytes - total)
        (adds : more ≡ all_added known (named_by s)) (few : length more ≤ most_files) where
      more_kept : (other bytes : List ℕ) → bytes_at kept other ≡ Some bytes → bytes_at after other ≡ Some bytes
      more_kept other bytes held = ap (λ (k : List KeptFile). bytes_at k other) keeps.last ∙ stays keeps.file other kept bytes held

      longer : length after ≡ length kept + 1
      longer = ap length keeps.last ∙ length-append kept (keeps.file ∷ [])

      begun : length after ≤ length more
      begun =
          let many = started_more root far.sources known far.known_is s path more here adds in
          let one : length (far.sources ++ s ∷ []) ≡ length far.sources + 1 = length-append far.sources (s ∷ []) in
          let same = as_many kept far.sources far.in_order in
          omega (arith, many, one, same, longer)

      -- it is one of those that were read so far
      pub one_more : ReadSoFar after root more (total + s.size)
      one_more = record {
        sources = far.sources ++ s ∷ [];
        in_order = subst (λ (k : List KeptFile). AreKept k (far.sources ++ s ∷ [])) (sym keeps.last)
            (kept_more kept far.sources keeps.file s far.in_order (keeps.at ∙ sym path_is) keeps.functions);
        known_is = knows root far.sources known far.known_is s more adds;
        few = few;
        started = begun;
        total_is = ap (λ (n : ℕ). n + s.size) far.total_is ∙ sym (bytes_more far.sources s);
        short = omega (arith, short, far.short);
        read = next_more (Some (bytes_at after)) root [] far.sources s
            (nexts_within (Some (bytes_at kept)) (Some (bytes_at after)) more_kept root [] far.sources far.read)
            (next_is root far.sources known far.known_is (Some (bytes_at after)) (Some (bytes_at after)) s path total more here path_is refl keeps.read far.total_is (omega (arith, short, far.short)) adds few);
      }

      pub fewer_left : most_files - length after < most_files - length kept
      fewer_left = let grows = begun in let one = longer in omega (arith, grows, one, few)

  -- ---- where no file is next

  pub all_kept : slice_get known (length kept) ≡ None → AreAllKept kept root
  all_kept none = record {
    sources = far.sources;
    files = record {
      read = far.read;
      all = all_read root far.sources known far.known_is (sym (at_end (slice_get known)) ∙ none) (let same = as_many kept far.sources far.in_order in omega (arith, same, far.started));
    };
    in_order = far.in_order;
  }

  -- ---- what stops the reading

  module _ (before middle after : FilesSeen) (are : AreOf before.holds (bytes_at kept)) (same : middle.holds ≡ before.holds) (path : List ℕ) (at : slice_get known (length kept) ≡ Some path) where
    outside : AreNext before.holds root [] far.sources
    outside = nexts_within (Some (bytes_at kept)) before.holds are root [] far.sources far.read

    pub stops_reading : (e : LinkFault) → before.faults ≤ middle.faults → RefusesSource e middle after path (most_bytes - total) → RefusesReading e before after root
    stops_reading e le refuses = refuses_source root far.sources known far.known_is before outside middle after e path total (here path at) same le far.total_is far.short refuses

    pub stops_adding : (e : LinkFault) (s : Source) → s.path ≡ path → IsRead middle.holds s → s.size ≤ most_bytes - total → AddsTooMany e known (named_by s) → RefusesReading e before after root
    stops_adding e s path_is read short adds =
        refuses_adding root far.sources known far.known_is before outside after e middle.holds s path total (here path at) path_is same read far.total_is (omega (arith, short, far.short)) adds

  -- the file at which it stops was kept
  pub stops_in : (after : List KeptFile) → ((other bytes : List ℕ) → bytes_at kept other ≡ Some bytes → bytes_at after other ≡ Some bytes) → (path : List ℕ) → slice_get known (length kept) ≡ Some path
      → (e : LinkFault) → KeepsRefused e path (most_bytes - total) after → StopsIn e after root
  stops_in after still path at (fault.Read other) keeps = tt
  stops_in after still path at (fault.Bad other why) keeps =
      subst (λ (p : List ℕ). IsMisread (Some (bytes_at after)) root p why) (sym keeps.0) (record {
        done = far.sources;
        stops = record { read = nexts_within (Some (bytes_at kept)) (Some (bytes_at after)) still root [] far.sources far.read; next = next path at };
        bytes = keeps.1.bytes;
        held = keeps.1.held;
        short = let total = far.total_is in omega (arith, total, keeps.1.short, far.short);
        has = keeps.1.has;
      })
  stops_in after still path at (fault.NotThere other name) keeps = tt
  stops_in after still path at (fault.Clash other name) keeps = tt
  stops_in after still path at fault.TooManyFiles keeps = tt
  stops_in after still path at fault.TooManyBytes keeps = tt
  stops_in after still path at fault.Memory keeps = tt

-- imports that are too many leave nothing to be kept
pub adding_stops : (kept : List KeptFile) (root : List ℕ) (e : LinkFault) (known paths : List (List ℕ)) → AddsTooMany e known paths → StopsIn e kept root
adding_stops kept root (fault.Read path) known paths adds = tt
adding_stops kept root (fault.Bad path why) known paths adds = absurd adds
adding_stops kept root (fault.NotThere path name) known paths adds = tt
adding_stops kept root (fault.Clash path name) known paths adds = tt
adding_stops kept root fault.TooManyFiles known paths adds = tt
adding_stops kept root fault.TooManyBytes known paths adds = tt
adding_stops kept root fault.Memory known paths adds = tt
