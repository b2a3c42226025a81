-- Where the files are told, one thing at most stops the reading of a program's files.
use Rattle.std.proofs.Common.{◌≡◌, ◌∙◌, ◌⊎◌, refl, sym, ap, ap₂, subst, ℕ, ◌+◌, ◌<◌, ◌≤◌, List, [], ◌∷◌, ◌++◌, length, arith, append_assoc, append-nil, Some, None, inl, inr}
use Rattle.bril_outside.specs.Files.{FileMap}
use Rattle.import_linker.specs.Order.{known_after, most_files}
use Rattle.import_linker.specs.Reading.{AreNext, IsNext, IsNextPath, IsRead, bytes_of}
use Rattle.import_linker.specs.formats.Format.{format_of}
use Rattle.import_linker.specs.formats.Reading.{IsOnlyFault, ReadsAs, most_bytes}
use Rattle.import_linker.specs.declared.fault.LinkFault.{LinkFault}
use Rattle.import_linker.specs.declared.fault.LinkFault.TheVariants as fault
use Rattle.import_linker.specs.declared.sources.Source.{Source}
use Rattle.import_linker.proofs.Once.{same_next, same_read}

module _ (map : FileMap) (root : List ℕ) where
  -- after these files, the file at this path stops the reading so
  abbrev pub StopsSo : List Source → List ℕ → LinkFault → Type 0
  StopsSo done path (fault.Read p) = (p ≡ path) × (map path ≡ None)
  StopsSo done path (fault.Bad p why) =
      (p ≡ path) × ((bytes : List ℕ) × (map path ≡ Some bytes) × (bytes_of done + length bytes ≤ most_bytes) × IsOnlyFault (format_of path) bytes why)
  StopsSo done path (fault.NotThere p name) = ⊥
  StopsSo done path (fault.Clash p name) = ⊥
  StopsSo done path fault.TooManyFiles =
      (s : Source) × (s.path ≡ path) × IsRead (Some map) s × (bytes_of done + s.size ≤ most_bytes) × (most_files < length (known_after root (done ++ s ∷ [])))
  StopsSo done path fault.TooManyBytes = (bytes : List ℕ) × (map path ≡ Some bytes) × (most_bytes < bytes_of done + length bytes)
  StopsSo done path fault.Memory = ⊥

  pub record Stopped (f : LinkFault) : Type 0 where
    pub done : List Source
    pub path : List ℕ
    pub read : AreNext (Some map) root [] done
    pub next : IsNextPath root done path
    pub so : StopsSo done path f

  same_held : (s : Source) (path bytes : List ℕ) (r : IsRead (Some map) s) → s.path ≡ path → map path ≡ Some bytes → r.bytes ≡ bytes
  same_held s path bytes r is held = let both : Some r.bytes ≡ Some bytes = sym r.held ∙ ap map is ∙ held in cc

  reads_so : (s : Source) (path bytes : List ℕ) (r : IsRead (Some map) s) → s.path ≡ path → map path ≡ Some bytes → ReadsAs (format_of path) bytes s.tree
  reads_so s path bytes r is held =
      subst (λ (p : List ℕ). ReadsAs (format_of p) bytes s.tree) is (subst (λ (l : List ℕ). ReadsAs (format_of s.path) l s.tree) (same_held s path bytes r is held) r.reads.reads)

  -- a file that is next doesn't stop the reading
  goes_on : (f : LinkFault) (done : List Source) (path : List ℕ) (s : Source) → IsNextPath root done path → IsNext (Some map) root done s → StopsSo done path f → ⊥
  goes_on (fault.Read p) done path s next n so =
      let both : Some s.path ≡ Some path = sym n.named ∙ next in let is : s.path ≡ path = cc in
      let held : Some n.read.bytes ≡ None = sym n.read.held ∙ ap map is ∙ so.1 in cc
  goes_on (fault.Bad p why) done path s next n so =
      let both : Some s.path ≡ Some path = sym n.named ∙ next in let is : s.path ≡ path = cc in
      so.1.3.unread s.tree (reads_so s path so.1.0 n.read is so.1.1)
  goes_on (fault.NotThere p name) done path s next n so = so
  goes_on (fault.Clash p name) done path s next n so = so
  goes_on fault.TooManyFiles done path s next n so =
      let both : Some s.path ≡ Some path = sym n.named ∙ next in let is : s.path ≡ path = cc in
      let same : s ≡ so.0 = same_read map root s so.0 n.read so.2 (is ∙ sym so.1) in
      let few : length (known_after root (done ++ so.0 ∷ [])) ≤ most_files = subst (λ (z : Source). length (known_after root (done ++ z ∷ [])) ≤ most_files) same n.few in
      let many = so.4 in omega arith
  goes_on fault.TooManyBytes done path s next n so =
      let both : Some s.path ≡ Some path = sym n.named ∙ next in let is : s.path ≡ path = cc in
      let size : length so.0 ≡ s.size = ap length (sym (same_held s path so.0 n.read is so.1)) ∙ n.read.size in
      let short = n.short in let long = so.2 in omega arith
  goes_on fault.Memory done path s next n so = so

  -- two lists of files that were read in order: they are one, or one of them has a next file
  along : (done xs ys : List Source) → AreNext (Some map) root done xs → AreNext (Some map) root done ys
      → (xs ≡ ys) ⊎ (((s : Source) × IsNext (Some map) root (done ++ xs) s) ⊎ ((s : Source) × IsNext (Some map) root (done ++ ys) s))
  along done [] [] a b = inl refl
  along done [] (y ∷ ys) a b = inr (inl (y, subst (λ (l : List Source). IsNext (Some map) root l y) (sym (append-nil done)) b.0))
  along done (x ∷ xs) [] a b = inr (inr (x, subst (λ (l : List Source). IsNext (Some map) root l x) (sym (append-nil done)) a.0))
  along done (x ∷ xs) (y ∷ ys) a b =
      let same = same_next map root done x y a.0 b.0 in
      elim (along (done ++ x ∷ []) xs ys a.1 (subst (λ (z : Source). AreNext (Some map) root (done ++ z ∷ []) ys) (sym same) b.1)) [
        | inl e ↦ inl (ap₂ (λ (z : Source) (zs : List Source). z ∷ zs) same e)
        | inr (inl n) ↦ inr (inl (n.0, subst (λ (l : List Source). IsNext (Some map) root l n.0) (append_assoc done (x ∷ []) xs) n.1))
        | inr (inr n) ↦ inr (inr (n.0, subst (λ (l : List Source). IsNext (Some map) root l n.0) (append_assoc done (x ∷ []) ys ∙ ap (λ (z : Source). done ++ z ∷ ys) same) n.1))
      ]

  -- a file at one path stops it in one way
  so_alone : (f g : LinkFault) (done : List Source) (path : List ℕ) → StopsSo done path f → StopsSo done path g → f ≡ g
  so_alone (fault.Read p) (fault.Read q) done path a b = ap fault.Read (a.0 ∙ sym b.0)
  so_alone (fault.Read p) (fault.Bad q why) done path a b = let both : None ≡ Some b.1.0 = sym a.1 ∙ b.1.1 in cc
  so_alone (fault.Read p) (fault.NotThere q name) done path a b = absurd b
  so_alone (fault.Read p) (fault.Clash q name) done path a b = absurd b
  so_alone (fault.Read p) fault.TooManyFiles done path a b = let both : None ≡ Some b.2.bytes = sym a.1 ∙ sym (ap map b.1) ∙ b.2.held in cc
  so_alone (fault.Read p) fault.TooManyBytes done path a b = let both : None ≡ Some b.0 = sym a.1 ∙ b.1 in cc
  so_alone (fault.Read p) fault.Memory done path a b = absurd b
  so_alone (fault.Bad p why) (fault.Read q) done path a b = let both : None ≡ Some a.1.0 = sym b.1 ∙ a.1.1 in cc
  so_alone (fault.Bad p why) (fault.Bad q other) done path a b =
      let both : Some b.1.0 ≡ Some a.1.0 = sym b.1.1 ∙ a.1.1 in
      let same : b.1.0 ≡ a.1.0 = cc in
      let only : IsOnlyFault (format_of path) a.1.0 other = subst (λ (l : List ℕ). IsOnlyFault (format_of path) l other) same b.1.3 in
      ap₂ fault.Bad (a.0 ∙ sym b.0) (a.1.3.alone other only.has)
  so_alone (fault.Bad p why) (fault.NotThere q name) done path a b = absurd b
  so_alone (fault.Bad p why) (fault.Clash q name) done path a b = absurd b
  so_alone (fault.Bad p why) fault.TooManyFiles done path a b = absurd (a.1.3.unread b.0.tree (reads_so b.0 path a.1.0 b.2 b.1 a.1.1))
  so_alone (fault.Bad p why) fault.TooManyBytes done path a b =
      let both : Some b.0 ≡ Some a.1.0 = sym b.1 ∙ a.1.1 in
      let same : length b.0 ≡ length a.1.0 = ap length (let e : b.0 ≡ a.1.0 = cc in e) in
      let short = a.1.2 in let long = b.2 in absurd (omega arith)
  so_alone (fault.Bad p why) fault.Memory done path a b = absurd b
  so_alone (fault.NotThere p name) g done path a b = absurd a
  so_alone (fault.Clash p name) g done path a b = absurd a
  so_alone fault.TooManyFiles (fault.Read q) done path a b = let both : None ≡ Some a.2.bytes = sym b.1 ∙ sym (ap map a.1) ∙ a.2.held in cc
  so_alone fault.TooManyFiles (fault.Bad q why) done path a b = absurd (b.1.3.unread a.0.tree (reads_so a.0 path b.1.0 a.2 a.1 b.1.1))
  so_alone fault.TooManyFiles (fault.NotThere q name) done path a b = absurd b
  so_alone fault.TooManyFiles (fault.Clash q name) done path a b = absurd b
  so_alone fault.TooManyFiles fault.TooManyFiles done path a b = refl
  so_alone fault.TooManyFiles fault.TooManyBytes done path a b =
      let size : length b.0 ≡ a.0.size = ap length (sym (same_held a.0 path b.0 a.2 a.1 b.1)) ∙ a.2.size in
      let short = a.3 in let long = b.2 in absurd (omega arith)
  so_alone fault.TooManyFiles fault.Memory done path a b = absurd b
  so_alone fault.TooManyBytes (fault.Read q) done path a b = let both : None ≡ Some a.0 = sym b.1 ∙ a.1 in cc
  so_alone fault.TooManyBytes (fault.Bad q why) done path a b =
      let both : Some a.0 ≡ Some b.1.0 = sym a.1 ∙ b.1.1 in
      let same : length a.0 ≡ length b.1.0 = ap length (let e : a.0 ≡ b.1.0 = cc in e) in
      let short = b.1.2 in let long = a.2 in absurd (omega arith)
  so_alone fault.TooManyBytes (fault.NotThere q name) done path a b = absurd b
  so_alone fault.TooManyBytes (fault.Clash q name) done path a b = absurd b
  so_alone fault.TooManyBytes fault.TooManyFiles done path a b =
      let size : length a.0 ≡ b.0.size = ap length (sym (same_held b.0 path a.0 b.2 b.1 a.1)) ∙ b.2.size in
      let short = b.3 in let long = a.2 in absurd (omega arith)
  so_alone fault.TooManyBytes fault.TooManyBytes done path a b = refl
  so_alone fault.TooManyBytes fault.Memory done path a b = absurd b
  so_alone fault.Memory g done path a b = absurd a

  -- One fault at most stops the reading.
  pub one_stop : (f g : LinkFault) → Stopped f → Stopped g → f ≡ g
  one_stop f g a b = elim (along [] a.done b.done a.read b.read) [
    | inl same ↦
        let next : IsNextPath root a.done b.path = subst (λ (l : List Source). IsNextPath root l b.path) (sym same) b.next in
        let both : Some a.path ≡ Some b.path = sym a.next ∙ next in
        let path : b.path ≡ a.path = cc in
        so_alone f g a.done a.path a.so (subst (λ (p : List ℕ). StopsSo a.done p g) path (subst (λ (l : List Source). StopsSo l b.path g) (sym same) b.so))
    | inr (inl n) ↦ absurd (goes_on f a.done a.path n.0 a.next n.1 a.so)
    | inr (inr n) ↦ absurd (goes_on g b.done b.path n.0 b.next n.1 b.so)
  ]
