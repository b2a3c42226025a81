-- Where the files are told, a program's files are the only ones, and no reading of them is refused.
use Rattle.std.proofs.Common.{◌≡◌, ◌∙◌, refl, sym, ap, ap₂, subst, ℕ, ◌≤◌, List, [], ◌∷◌, ◌++◌, length, arith, append_assoc, append-nil, Some, None}
use Rattle.bril_outside.specs.Files.{FileMap}
use Rattle.import_linker.specs.Order.{known_after, most_files}
use Rattle.import_linker.specs.Reading.{AreFiles, AreNext, IsMisread, IsNext, IsNextPath, IsRead, PassesBytes, PassesFiles}
use Rattle.import_linker.specs.formats.Format.{format_of}
use Rattle.import_linker.specs.formats.Reading.{ReadsAs}
use Rattle.import_linker.specs.declared.formats.fault.ReadFault.{ReadFault}
use Rattle.import_linker.specs.declared.sources.Source.{Source}
use Rattle.import_linker.proofs.Turning.{got_inside}

module _ (map : FileMap) (root : List ℕ) where
  pub same_read : (s t : Source) → IsRead (Some map) s → IsRead (Some map) t → s.path ≡ t.path → s ≡ t
  same_read s t a b path =
      let both : Some a.bytes ≡ Some b.bytes = sym a.held ∙ ap map path ∙ b.held in
      let bytes : a.bytes ≡ b.bytes = cc in
      let reads : ReadsAs (format_of s.path) a.bytes t.tree =
      subst (λ (p : List ℕ). ReadsAs (format_of p) a.bytes t.tree) (sym path) (subst (λ (l : List ℕ). ReadsAs (format_of t.path) l t.tree) (sym bytes) b.reads.reads) in
      let tree : s.tree ≡ t.tree = a.reads.alone t.tree reads in
      let size : s.size ≡ t.size = sym a.size ∙ ap length bytes ∙ b.size in
      λ i. record { path = path i; tree = tree i; size = size i }

  pub same_next : (done : List Source) (s t : Source) → IsNext (Some map) root done s → IsNext (Some map) root done t → s ≡ t
  same_next done s t a b =
      let both : Some s.path ≡ Some t.path = sym a.named ∙ b.named in
      let path : s.path ≡ t.path = cc in
      same_read s t a.read b.read path

  -- where as many files were read as are known, there is no next
  no_next : (done : List Source) (path : List ℕ) → length (known_after root done) ≡ length done → IsNextPath root done path → ⊥
  no_next done path all next = let inside = got_inside (known_after root done) (length done) path next in omega arith

  abbrev AreAll : List Source → Type 0
  AreAll done = length (known_after root done) ≡ length done

  same_order : (done xs ys : List Source) → AreNext (Some map) root done xs → AreNext (Some map) root done ys → AreAll (done ++ xs) → AreAll (done ++ ys) → xs ≡ ys
  same_order done [] [] a b p q = refl
  same_order done [] (y ∷ ys) a b p q = absurd (no_next done y.path (subst AreAll (append-nil done) p) b.0.named)
  same_order done (x ∷ xs) [] a b p q = absurd (no_next done x.path (subst AreAll (append-nil done) q) a.0.named)
  same_order done (x ∷ xs) (y ∷ ys) a b p q =
      let same = same_next done x y a.0 b.0 in
      let rest = same_order (done ++ x ∷ []) xs ys a.1 (subst (λ (z : Source). AreNext (Some map) root (done ++ z ∷ []) ys) (sym same) b.1)
      (subst AreAll (sym (append_assoc done (x ∷ []) xs)) p)
      (subst AreAll (sym (append_assoc done (x ∷ []) ys)) (subst (λ (z : Source). AreAll (done ++ z ∷ ys)) (sym same) q)) in
      ap₂ (λ (z : Source) (zs : List Source). z ∷ zs) same rest

  -- A program's files are the only ones.
  pub same_files : (xs ys : List Source) → AreFiles (Some map) root xs → AreFiles (Some map) root ys → xs ≡ ys
  same_files xs ys a b = same_order [] xs ys a.read b.read a.all b.all

  -- among a program's files is the next after any that were read in order
  next_among : (done xs ys : List Source) (path : List ℕ) → AreNext (Some map) root done xs → AreNext (Some map) root done ys → AreAll (done ++ ys) → IsNextPath root (done ++ xs) path
      → (s : Source) × IsNext (Some map) root (done ++ xs) s × (s.path ≡ path)
  next_among done [] [] path a b all next = absurd (no_next done path (subst AreAll (append-nil done) all) (subst (λ (l : List Source). IsNextPath root l path) (append-nil done) next))
  next_among done [] (y ∷ ys) path a b all next =
      let here : IsNext (Some map) root (done ++ []) y = subst (λ (l : List Source). IsNext (Some map) root l y) (sym (append-nil done)) b.0 in
      let both : Some y.path ≡ Some path = sym here.named ∙ next in
      (y, here, (cc))
  next_among done (x ∷ xs) [] path a b all next = absurd (no_next done x.path (subst AreAll (append-nil done) all) a.0.named)
  next_among done (x ∷ xs) (y ∷ ys) path a b all next =
      let same = same_next done x y a.0 b.0 in
      let rest = next_among (done ++ x ∷ []) xs ys path a.1 (subst (λ (z : Source). AreNext (Some map) root (done ++ z ∷ []) ys) (sym same) b.1)
      (subst AreAll (sym (append_assoc done (x ∷ []) ys)) (subst (λ (z : Source). AreAll (done ++ z ∷ ys)) (sym same) all))
      (subst (λ (l : List Source). IsNextPath root l path) (sym (append_assoc done (x ∷ []) xs)) next) in
      (rest.0, subst (λ (l : List Source). IsNext (Some map) root l rest.0) (append_assoc done (x ∷ []) xs) rest.1, rest.2)

  module _ (sources : List Source) (files : AreFiles (Some map) root sources) where
    -- the bytes of the file that is next are those that the files tell
    same_bytes : (s : Source) (path bytes : List ℕ) → IsRead (Some map) s → s.path ≡ path → map path ≡ Some bytes → length bytes ≡ s.size
    same_bytes s path bytes read is held =
        let both : Some read.bytes ≡ Some bytes = sym read.held ∙ ap map is ∙ held in
        let same : read.bytes ≡ bytes = cc in
        ap length (sym same) ∙ read.size

    pub not_too_long : PassesBytes (Some map) root → ⊥
    not_too_long h =
        let next = next_among [] h.done sources h.path h.stops.read files.read files.all h.stops.next in
        let size = same_bytes next.0 h.path h.bytes next.1.read next.2 h.held in
        let short = next.1.short in let long = h.long in omega arith

    pub not_misread : (path : List ℕ) (fault : ReadFault) → IsMisread (Some map) root path fault → ⊥
    not_misread path fault h =
        let next = next_among [] h.done sources path h.stops.read files.read files.all h.stops.next in
        let both : Some next.1.read.bytes ≡ Some h.bytes = sym next.1.read.held ∙ ap map next.2 ∙ h.held in
        let same : next.1.read.bytes ≡ h.bytes = cc in
        h.has.unread next.0.tree (subst (λ (p : List ℕ). ReadsAs (format_of p) h.bytes next.0.tree) next.2
        (subst (λ (l : List ℕ). ReadsAs (format_of next.0.path) l next.0.tree) same next.1.read.reads.reads))

    pub not_too_many : PassesFiles (Some map) root → ⊥
    not_too_many h =
        let next = next_among [] h.done sources h.last.path h.stops.read files.read files.all h.stops.next in
        let same : next.0 ≡ h.last = same_read next.0 h.last next.1.read h.read next.2 in
        let few : length (known_after root (h.done ++ h.last ∷ [])) ≤ most_files =
        subst (λ (z : Source). length (known_after root (h.done ++ z ∷ [])) ≤ most_files) same next.1.few in
        let many = h.many in omega arith

    pub none_lacking : (done : List Source) (path : List ℕ) → AreNext (Some map) root [] done → IsNextPath root done path → map path ≡ None → ⊥
    none_lacking done path read at lacks =
        let next = next_among [] done sources path read files.read files.all at in
        let both : Some next.1.read.bytes ≡ None = sym next.1.read.held ∙ ap map next.2 ∙ lacks in cc
