-- Files that are kept, one after another.
use Rattle.std.proofs.Common.{◌≡◌, ◌∙◌, ◌⊎◌, ◌||◌, refl, sym, ap, subst, Bool, true, false, cond, ℕ, ◌≤◌, suc, List, [], ◌∷◌, ◌++◌, length, Option, Some, None, inl, inr, append_assoc, append-nil}
use Rattle.std.specs.Prelude.{bytes_eq, find, flat_map, slice_get}
use Rattle.std.specs.Option.{option_map}
use Rattle.std.proofs.lemmas.List.{map_push, length-map}
use Rattle.std.proofs.lemmas.Slice.Eq.{bytes_eq-Decides}
use Rattle.bril_outside.specs.Files.{FileMap, FilesSeen, MayHold}
use Rattle.import_linker.specs.Names.{contains, paths_of, repeated_after}
use Rattle.import_linker.specs.Order.{added, all_added, is_known, known_after, named_by}
use Rattle.import_linker.specs.Reading.{AreNext, IsNextPath, RefusesSource}
use Rattle.import_linker.specs.formats.Format.{format_of}
use Rattle.import_linker.specs.formats.Reading.{IsOnlyTree, RefusesTree}
use Rattle.import_linker.specs.declared.formats.fault.TreeFault.{TreeFault}
use Rattle.import_linker.specs.declared.formats.fault.TreeFault.TheVariants.{Misread, Memory}
use Rattle.import_linker.specs.declared.sources.Source.{Source}
use Rattle.import_linker.proofs.Knowing.{known_more}
use Rattle.import_linker.proofs.Repeating.{repeated_more, repeated_stays}
use Rattle.bril_explain.specs.Kept.{AreKept, AreOf, KeepsRefused, KeepsSource, bytes_at, unread_as}
use Rattle.bril_explain.specs.declared.kept.KeptFile.{KeptFile}

-- ---- one file more

-- what is at a path, by whether the first file has it
abbrev bytes_by : Bool → KeptFile → List KeptFile → List ℕ → Option (List ℕ)
bytes_by b x kept path = option_map (λ (f : KeptFile). f.bytes) (cond b (Some x) (find (λ (f : KeptFile). bytes_eq f.path path) kept))

module _ (f : KeptFile) (path : List ℕ) where
  -- what is at a path stays there
  pub stays : (kept : List KeptFile) (bytes : List ℕ) → bytes_at kept path ≡ Some bytes → bytes_at (kept ++ f ∷ []) path ≡ Some bytes
  stays [] bytes at = cc
  stays (x ∷ kept) bytes at = go (bytes_eq x.path path) at (stays kept bytes)
    where
      go : (b : Bool) → bytes_by b x kept path ≡ Some bytes → (bytes_at kept path ≡ Some bytes → bytes_at (kept ++ f ∷ []) path ≡ Some bytes) → bytes_by b x (kept ++ f ∷ []) path ≡ Some bytes
      go true at rest = at
      go false at rest = rest at

  -- the last file is at its path where no other is
  pub comes_last : (kept : List KeptFile) → f.path ≡ path → bytes_at kept path ≡ None → bytes_at (kept ++ f ∷ []) path ≡ Some f.bytes
  comes_last [] is none = ap (λ (b : Bool). bytes_by b f [] path) ((bytes_eq-Decides f.path path).1 is)
  comes_last (x ∷ kept) is none = go (bytes_eq x.path path) none (comes_last kept is)
    where
      go : (b : Bool) → bytes_by b x kept path ≡ None → (bytes_at kept path ≡ None → bytes_at (kept ++ f ∷ []) path ≡ Some f.bytes) → bytes_by b x (kept ++ f ∷ []) path ≡ Some f.bytes
      go true none rest = cc
      go false none rest = rest none

  -- what is at a path was there, or is of the last file
  abbrev WasOrIs : List ℕ → Option (List ℕ) → Type 0
  WasOrIs bytes there = (there ≡ Some bytes) ⊎ ((f.path ≡ path) × (f.bytes ≡ bytes))

  pub was_there : (kept : List KeptFile) (bytes : List ℕ) → bytes_at (kept ++ f ∷ []) path ≡ Some bytes → WasOrIs bytes (bytes_at kept path)
  was_there [] bytes at = go (bytes_eq f.path path) refl at
    where
      go : (b : Bool) → bytes_eq f.path path ≡ b → bytes_by b f [] path ≡ Some bytes → (None ≡ Some bytes) ⊎ ((f.path ≡ path) × (f.bytes ≡ bytes))
      go true is at = inr ((bytes_eq-Decides f.path path).0 is, (cc))
      go false is at = cc
  was_there (x ∷ kept) bytes at = go (bytes_eq x.path path) at (was_there kept bytes)
    where
      go : (b : Bool) → bytes_by b x (kept ++ f ∷ []) path ≡ Some bytes → (bytes_at (kept ++ f ∷ []) path ≡ Some bytes → WasOrIs bytes (bytes_at kept path)) → WasOrIs bytes (bytes_by b x kept path)
      go true at rest = inl at
      go false at rest = rest at

-- the bytes stay those of files that may hold them
pub are_of : (holds : Option FileMap) (kept : List KeptFile) (f : KeptFile) → AreOf holds (bytes_at kept) → MayHold holds f.path f.bytes → AreOf holds (bytes_at (kept ++ f ∷ []))
are_of holds kept f are may path bytes at = elim (was_there f path kept bytes at) [
  | inl there ↦ are path bytes there
  | inr last ↦ subst (λ (b : List ℕ). MayHold holds path b) last.1 (subst (λ (p : List ℕ). MayHold holds p f.bytes) last.0 may)
]

-- ---- what one file is

-- a file that comes last, where no other has its path
abbrev pub kept_file : List ℕ → List ℕ → ℕ → KeptFile
kept_file path bytes functions = record { path = path; bytes = bytes; functions = functions }

module _ (kept after : List KeptFile) (path bytes : List ℕ) (functions : ℕ) (first : bytes_at kept path ≡ None) (last : after ≡ kept ++ kept_file path bytes functions ∷ []) where
  last_held : bytes_at after path ≡ Some bytes
  last_held = ap (λ (k : List KeptFile). bytes_at k path) last ∙ comes_last (kept_file path bytes functions) path kept refl first

  pub keeps_source : (s : Source) → s.path ≡ path → functions ≡ length s.tree.funcs → IsOnlyTree (format_of path) bytes s.tree → length bytes ≡ s.size → KeepsSource path kept after s
  keeps_source s path_is many only size = record {
    file = kept_file path bytes functions;
    at = refl;
    functions = many;
    last = last;
    read = record {
      bytes = bytes;
      held = ap (bytes_at after) path_is ∙ last_held;
      reads = subst (λ (p : List ℕ). IsOnlyTree (format_of p) bytes s.tree) (sym path_is) only;
      size = size;
    };
  }

  pub keeps_refused : (most : ℕ) → length bytes ≤ most → (why : TreeFault) → RefusesTree why (format_of path) bytes → KeepsRefused (unread_as path why) path most after
  keeps_refused most short (Misread why) has = (refl, record { bytes = bytes; held = last_held; short = short; has = has })
  keeps_refused most short Memory has = tt

-- a file whose bytes read as no tree is refused
pub source_refused : (s t : FilesSeen) (path bytes : List ℕ) (most : ℕ) → MayHold s.holds path bytes → length bytes ≤ most → (why : TreeFault) → RefusesTree why (format_of path) bytes → RefusesSource (unread_as path why) s t path most
source_refused s t path bytes most held short (Misread why) has = (refl, (bytes, held, short, has))
source_refused s t path bytes most held short Memory has = tt

-- one more was kept, and is a source
pub kept_more : (kept : List KeptFile) (sources : List Source) (f : KeptFile) (s : Source) → AreKept kept sources → f.path ≡ s.path → f.functions ≡ length s.tree.funcs → AreKept (kept ++ f ∷ []) (sources ++ s ∷ [])
kept_more [] [] f s are path functions = (path, functions, tt)
kept_more [] (t ∷ sources) f s are path functions = absurd are
kept_more (x ∷ kept) [] f s are path functions = absurd are
kept_more (x ∷ kept) (t ∷ sources) f s are path functions = (are.0, are.1, kept_more kept sources f s are.2 path functions)

pub as_many : (kept : List KeptFile) (sources : List Source) → AreKept kept sources → length kept ≡ length sources
as_many [] [] are = refl
as_many [] (s ∷ sources) are = absurd are
as_many (f ∷ kept) [] are = absurd are
as_many (f ∷ kept) (s ∷ sources) are = ap suc (as_many kept sources are.2)

-- ---- the next file isn't among them

-- paths that are added differ
added_differ : (known : List (List ℕ)) (path : List ℕ) → repeated_after [] known ≡ None → repeated_after [] (added known path) ≡ None
added_differ known path none = go (is_known path known) refl
  where
    go : (b : Bool) → is_known path known ≡ b → repeated_after [] (cond b known (known ++ path ∷ [])) ≡ None
    go true is = none
    go false is = repeated_more [] known (path ∷ []) none ∙ ap (λ (b : Bool). cond b (Some path) None) is

all_differ : (known paths : List (List ℕ)) → repeated_after [] known ≡ None → repeated_after [] (all_added known paths) ≡ None
all_differ known [] none = none
all_differ known (path ∷ paths) none = all_differ (added known path) paths (added_differ known path none)

one_extends : (known : List (List ℕ)) (path : List ℕ) → (rest : List (List ℕ)) × (added known path ≡ known ++ rest)
one_extends known path = go (is_known path known)
  where
    go : (b : Bool) → (rest : List (List ℕ)) × (cond b known (known ++ path ∷ []) ≡ known ++ rest)
    go true = ([], sym (append-nil known))
    go false = (path ∷ [], refl)

extends : (known paths : List (List ℕ)) → (rest : List (List ℕ)) × (all_added known paths ≡ known ++ rest)
extends known [] = ([], sym (append-nil known))
extends known (path ∷ paths) =
    let one = one_extends known path in
    let more = extends (added known path) paths in
    (one.0 ++ more.0, more.1 ∙ ap (λ (l : List (List ℕ)). l ++ more.0) one.1 ∙ append_assoc known one.0 more.0)

-- what stands behind a list
behind : (xs ys : List (List ℕ)) → slice_get (xs ++ ys) (length xs) ≡ slice_get ys 0
behind [] ys = refl
behind (x ∷ xs) ys = behind xs ys

begins : (xs : List (List ℕ)) (x : List ℕ) → slice_get xs 0 ≡ Some x → (rest : List (List ℕ)) × (xs ≡ x ∷ rest)
begins [] x at = cc
begins (y ∷ xs) x at = (xs, (cc))

module _ (holds : Option FileMap) (root : List ℕ) where
  -- those that were read come first among those that are known
  abbrev ComeFirst : List Source → Type 0
  ComeFirst done = (left : List (List ℕ)) × (known_after root done ≡ paths_of done ++ left)

  at_front : (done : List Source) (path : List ℕ) → (c : ComeFirst done) → IsNextPath root done path → (rest : List (List ℕ)) × (c.0 ≡ path ∷ rest)
  at_front done path c next =
      begins c.0 path
      (sym (behind (paths_of done) c.0) ∙ ap (slice_get (paths_of done ++ c.0)) (length-map done _) ∙ ap (λ (l : List (List ℕ)). slice_get l (length done)) (sym c.1) ∙ next)

  one_first : (done : List Source) (s : Source) → ComeFirst done → IsNextPath root done s.path → ComeFirst (done ++ s ∷ [])
  one_first done s c next =
      let front = at_front done s.path c next in
      let more = extends (known_after root done) (named_by s) in (
        front.0 ++ more.0,
        known_more root done s ∙ more.1 ∙ ap (λ (l : List (List ℕ)). l ++ more.0) (c.1 ∙ ap (λ (l : List (List ℕ)). paths_of done ++ l) front.1 ∙ sym (append_assoc (paths_of done) (s.path ∷ []) front.0))
            ∙ append_assoc (paths_of done ++ s.path ∷ []) front.0 more.0 ∙ ap (λ (l : List (List ℕ)). l ++ (front.0 ++ more.0)) (sym (map_push (λ (t : Source). t.path) done s)),
      )

  all_first : (done more : List Source) → AreNext holds root done more → ComeFirst done → ComeFirst (done ++ more)
  all_first done [] all first = subst ComeFirst (sym (append-nil done)) first
  all_first done (s ∷ more) all first = subst ComeFirst (append_assoc done (s ∷ []) more) (all_first (done ++ s ∷ []) more all.1 (one_first done s first all.0.named))

  -- the next path is none of theirs
  unread : (done : List Source) (path : List ℕ) → AreNext holds root [] done → IsNextPath root done path → contains (paths_of done) path ≡ false
  unread done path read next =
      let first : ComeFirst done = all_first [] done read (root ∷ [], refl) in
      let front = at_front done path first next in
      let paths = paths_of done in
      let differ : repeated_after [] (paths ++ path ∷ front.0) ≡ None =
      ap (repeated_after []) (sym (first.1 ∙ ap (λ (l : List (List ℕ)). paths ++ l) front.1)) ∙ all_differ (root ∷ []) (flat_map named_by done) refl in
      go paths front.0 differ (repeated_after [] paths) refl
    where
      there : (paths rest : List (List ℕ)) (b : Bool) → contains paths path ≡ b → cond b (Some path) (repeated_after (paths ++ path ∷ []) rest) ≡ None → contains paths path ≡ false
      there paths rest true is none = cc
      there paths rest false is none = is

      go : (paths rest : List (List ℕ)) → repeated_after [] (paths ++ path ∷ rest) ≡ None → (o : Option (List ℕ)) → repeated_after [] paths ≡ o → contains paths path ≡ false
      go paths rest differ None is = there paths rest (contains paths path) refl (sym (repeated_more [] paths (path ∷ rest) is) ∙ differ)
      go paths rest differ (Some name) is = let both : Some name ≡ None = sym (repeated_stays [] paths (path ∷ rest) name is) ∙ differ in cc

-- a path that sources don't have isn't kept
none_kept : (path : List ℕ) (kept : List KeptFile) (done : List Source) → AreKept kept done → contains (paths_of done) path ≡ false → bytes_at kept path ≡ None
none_kept path [] [] are out = refl
none_kept path [] (s ∷ done) are out = absurd are
none_kept path (f ∷ kept) [] are out = absurd are
none_kept path (f ∷ kept) (s ∷ done) are out = first (bytes_eq path s.path) refl out (none_kept path kept done are.2)
  where
    second : (b : Bool) → bytes_eq f.path path ≡ b → bytes_eq path s.path ≡ false → contains (paths_of done) path ≡ false → (contains (paths_of done) path ≡ false → bytes_at kept path ≡ None) → bytes_by b f kept path ≡ None
    second true is differs out rest = let same : bytes_eq path s.path ≡ true = (bytes_eq-Decides path s.path).1 (sym ((bytes_eq-Decides f.path path).0 is) ∙ are.0) in cc
    second false is differs out rest = rest out

    first : (b : Bool) → bytes_eq path s.path ≡ b → (b || contains (paths_of done) path) ≡ false → (contains (paths_of done) path ≡ false → bytes_at kept path ≡ None) → bytes_at (f ∷ kept) path ≡ None
    first true is out rest = cc
    first false is out rest = second (bytes_eq f.path path) refl is out rest

pub next_not_kept : (holds : Option FileMap) (root : List ℕ) (kept : List KeptFile) (done : List Source) (path : List ℕ) → AreKept kept done → AreNext holds root [] done → IsNextPath root done path → bytes_at kept path ≡ None
next_not_kept holds root kept done path are read next = none_kept path kept done are (unread holds root done path read next)
