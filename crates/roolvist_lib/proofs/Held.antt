-- The files that pieces are.
use mathlib.Core.Path.{fun_ext}
use Rattle.std.proofs.Common.{◌≡◌, Bool, true, false, if◌then◌else◌, List, [], ◌∷◌, Option, Some, None, refl, sym, subst, ◌∙◌, Decides, ℕ}
use Rattle.std.proofs.lemmas.Slice.Eq.{bytes_eq-Decides}
use Rattle.std.specs.Str.{bytes_eq, is_utf8}
use Rattle.bril_outside.specs.Memory.{ChangesFile, FilesMemory, file_at, files_seen}
use Rattle.roolvist_lib.specs.Given.{are_files, files_given, first_of, held}

-- Some pieces are still to be added to files in memory: with them these are all the files.
pub record AreAdded (pieces left : List (List ℕ)) (files : FilesMemory) : Type 0 where
  pub fit : are_files left ≡ are_files pieces
  pub held : (path : List ℕ) → first_of (held left path) (file_at files.files path) ≡ held pieces path
  pub reads : files.reads ≡ Some 0
  pub faults : files.faults ≡ 0

first_none : (other : Option (List ℕ)) → first_of other None ≡ other
first_none None = refl
first_none (Some bytes) = refl

-- none is added
pub none_added : (pieces : List (List ℕ)) → AreAdded pieces pieces (record { files = []; reads = Some 0; fails = []; faults = 0 })
none_added pieces = record { fit = refl; held = λ path. first_none (held pieces path); reads = refl; faults = refl }

-- a file is in front of what is behind it
over : (later : Option (List ℕ)) (hit : Bool) (bytes : List ℕ) (old new : Option (List ℕ)) → (hit ≡ true → new ≡ Some bytes) → (hit ≡ false → new ≡ old)
    → first_of later new ≡ first_of (first_of later (if hit then Some bytes else None)) old
over (Some found) hit bytes old new there other = refl
over None true bytes old new there other = there refl
over None false bytes old new there other = other refl

-- one more is added
pub more_added : (pieces : List (List ℕ)) (path bytes : List ℕ) (rest : List (List ℕ)) (old new : FilesMemory) → AreAdded pieces (path ∷ bytes ∷ rest) old → is_utf8 path ≡ true
    → ChangesFile (file_at old.files) (file_at new.files) path bytes → new.reads ≡ old.reads → new.faults ≡ old.faults → AreAdded pieces rest new
more_added pieces path bytes rest old new added utf8 changes reads faults = record {
  fit = rw utf8 at added.fit;
  held = λ other.
      let decides : Decides (bytes_eq path other) (path ≡ other) = bytes_eq-Decides path other in
      let there : bytes_eq path other ≡ true → file_at new.files other ≡ Some bytes = λ e. subst (λ p. file_at new.files p ≡ Some bytes) (decides.0 e) changes.there in
      let stays : bytes_eq path other ≡ false → file_at new.files other ≡ file_at old.files other = λ e. changes.others other (λ same. let hit : bytes_eq path other ≡ true = decides.1 (sym same) in cc) in
      over (held rest other) (bytes_eq path other) bytes (file_at old.files other) (file_at new.files other) there stays ∙ added.held other;
  reads = reads ∙ added.reads;
  faults = faults ∙ added.faults;
}

-- all are added
pub all_added : (pieces left : List (List ℕ)) (files : FilesMemory) → AreAdded pieces left files → left ≡ [] → (are_files pieces ≡ true) × (files_seen files ≡ files_given pieces)
all_added pieces left files added none =
    let last : AreAdded pieces [] files = subst (λ l. AreAdded pieces l files) none added in
    let same : file_at files.files ≡ held pieces = fun_ext last.held in
    (sym last.fit, rw (same, last.reads, last.faults) refl)

-- a path has no bytes
pub odd_path : (pieces : List (List ℕ)) (path : List ℕ) (files : FilesMemory) → AreAdded pieces (path ∷ []) files → are_files pieces ≡ false
odd_path pieces path files added = sym added.fit

-- a path is no UTF-8
pub bad_path : (pieces : List (List ℕ)) (path bytes : List ℕ) (rest : List (List ℕ)) (files : FilesMemory) → AreAdded pieces (path ∷ bytes ∷ rest) files → is_utf8 path ≡ false → are_files pieces ≡ false
bad_path pieces path bytes rest files added e = sym added.fit ∙ rw e refl
