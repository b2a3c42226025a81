-- Where the files are told, a command's files have one tree or one fault, and never both: reads that failed and want of memory apart.
use Rattle.std.proofs.Common.{◌≡◌, ◌⊎◌, ℕ, ◌≤◌, List, length, Option, Some, None, refl, sym, ap, ap₂, ◌∙◌, subst, arith, inl, inr, ⊎_elim}
use Rattle.bril_outside.specs.Files.{FileMap, FilesSeen, LacksFile, MayFail, MayHold}
use Rattle.bril_outside.specs.Sink.{Rose}
use Rattle.bril_report.specs.StageFaults.{link_status}
use Rattle.bril_report.specs.declared.status.Status.{Status}
use Rattle.bril_report.specs.declared.status.Status.TheVariants as status
use Rattle.import_linker.specs.formats.Format.{format_of}
use Rattle.import_linker.specs.formats.Reading.{HasFault, ReadsAs, most_bytes}
use Rattle.bril_tree.specs.declared.tree.Tree.{Tree}
use Rattle.import_linker.proofs.Trees.{linked_once}
use Rattle.import_linker.proofs.Uniqueness.{lacking_not_linked, lacking_not_read, linked_not_refused, refused_once}
use Rattle.import_linker.specs.Linked.{Linked}
use Rattle.import_linker.specs.Reading.{IsRead, RefusesSource, StopsAt}
use Rattle.import_linker.specs.declared.fault.LinkFault.{LinkFault}
use Rattle.import_linker.specs.declared.fault.LinkFault.TheVariants as fault
use Rattle.import_linker.specs.declared.sources.Source.{Source}
use Rattle.bril_commands.specs.Source.{Reach, Alone, WithImports, BytesAlone, OfDemo, AreTold, FileHasFault, HaveFault, HaveTree, HoldsBytes, HoldsTree, IsFileTree, IsTreeAt, LackFile, RefusesBytes, RefusesFiles}
use Rattle.bril_commands.specs.Stages.{RefusesTree}

-- ---- what is read of one file

pub IsFileTree-of : (holds : Option FileMap) (s : Source) (path copied : List ℕ) → copied ≡ path → s.path ≡ copied → s.size ≤ most_bytes → IsRead holds s → IsFileTree holds path s.tree
IsFileTree-of holds s path copied is same few read =
    subst (λ (p : List ℕ). IsFileTree holds p s.tree) (same ∙ is)
    (record { bytes = read.bytes; held = read.held; short = subst (λ n. n ≤ most_bytes) (sym read.size) few; only = read.reads })

pub RefusesTree-of : (reach : Reach) (why : LinkFault) (how : Status) (before after : FilesSeen) (path copied : List ℕ) → copied ≡ path → how ≡ link_status why → RefusesFiles reach why before after copied → RefusesTree reach how before after path
RefusesTree-of reach why how before after path copied is status refuses = (why, status, subst (λ (p : List ℕ). RefusesFiles reach why before after p) is refuses)

-- want of memory refuses all files
pub memory_refuses : (reach : Reach) (before after : FilesSeen) (path : List ℕ) → RefusesTree reach status.OutOfMemory before after path
memory_refuses Alone before after path = (fault.Memory, refl, tt)
memory_refuses WithImports before after path = (fault.Memory, refl, tt)
memory_refuses BytesAlone before after path = (fault.Memory, refl, tt)
memory_refuses (OfDemo functions) before after path = (fault.Memory, refl, refl)

-- ---- one file

-- the bytes that the files tell are these
told_bytes : (holds : Option FileMap) (map : FileMap) (path : List ℕ) (bytes other : List ℕ) → holds ≡ Some map → MayHold holds path bytes → MayHold holds path other → bytes ≡ other
told_bytes holds map path bytes other told one two =
    let first : map path ≡ Some bytes = subst (λ (o : Option FileMap). MayHold o path bytes) told one in
    let second : map path ≡ Some other = subst (λ (o : Option FileMap). MayHold o path other) told two in
    let both : Some bytes ≡ Some other = sym first ∙ second in
    cc

held_not_lacking : (holds : Option FileMap) (path bytes : List ℕ) → MayHold holds path bytes → LacksFile holds path → ⊥
held_not_lacking None path bytes held lacks = lacks
held_not_lacking (Some map) path bytes held lacks = let e : Some bytes ≡ None = sym held ∙ lacks in cc

module _ (before after : FilesSeen) (map : FileMap) (told : before.holds ≡ Some map) (path : List ℕ) where
  same : (bytes other : List ℕ) → MayHold before.holds path bytes → MayHold before.holds path other → bytes ≡ other
  same bytes other one two = told_bytes before.holds map path bytes other told one two

  file_once : (t u : Tree) → IsFileTree before.holds path t → HoldsTree before.holds path u → t ≡ u
  file_once t u a b = a.only.alone u (subst (λ (l : List ℕ). ReadsAs (format_of path) l u) (same b.bytes a.bytes b.held a.held) b.reads)

  abbrev HasRisen : Type 0
  HasRisen = Rose before.faults after.faults

  -- a file that holds a tree is refused only where memory is wanting or a read failed
  file_not_refused : (t : Tree) (f : LinkFault) → HoldsTree before.holds path t → RefusesSource f before after path most_bytes → (f ≡ fault.Memory) ⊎ HasRisen
  file_not_refused t (fault.Read p) a h = ⊎_elim inr (λ lacks. absurd (held_not_lacking before.holds path a.bytes a.held lacks)) h.1
  file_not_refused t (fault.Bad p why) a h = absurd (h.1.3.unread t (subst (λ (l : List ℕ). ReadsAs (format_of path) l t) (same a.bytes h.1.0 a.held h.1.1) a.reads))
  file_not_refused t (fault.NotThere p name) a h = absurd h
  file_not_refused t (fault.Clash p name) a h = absurd h
  file_not_refused t fault.TooManyFiles a h = absurd h
  file_not_refused t fault.TooManyBytes a h =
      let size : length a.bytes ≡ length h.0 = ap length (same a.bytes h.0 a.held h.1) in
      let short = a.short in let long = h.2 in absurd (omega arith)
  file_not_refused t fault.Memory a h = inl refl

  -- a file that was read has no fault
  file_faultless : (t : Tree) (f : LinkFault) → IsFileTree before.holds path t → FileHasFault f before after path → (f ≡ fault.Memory) ⊎ HasRisen
  file_faultless t (fault.Read p) a h = ⊎_elim inr (λ lacks. absurd (held_not_lacking before.holds path a.bytes a.held lacks)) h.1
  file_faultless t (fault.Bad p why) a h = absurd (a.only.faultless why (subst (λ (l : List ℕ). HasFault (format_of path) l why) (same h.1.bytes a.bytes h.1.held a.held) h.1.has))
  file_faultless t (fault.NotThere p name) a h = absurd h
  file_faultless t (fault.Clash p name) a h = absurd h
  file_faultless t fault.TooManyFiles a h = absurd h
  file_faultless t fault.TooManyBytes a h =
      let size : length a.bytes ≡ length h.0 = ap length (same a.bytes h.0 a.held h.1) in
      let short = a.short in let long = h.2 in absurd (omega arith)
  file_faultless t fault.Memory a h = inl refl

  abbrev IsOne : LinkFault → LinkFault → Type 0
  IsOne f g = ((f ≡ fault.Memory) ⊎ (g ≡ fault.Memory)) ⊎ (HasRisen ⊎ (f ≡ g))

  -- a read that may fail, of a file that is there, failed
  there_failed : (bytes : List ℕ) → MayHold before.holds path bytes → MayFail before after path → HasRisen
  there_failed bytes held may = ⊎_elim (λ rose. rose) (λ lacks. absurd (held_not_lacking before.holds path bytes held lacks)) may

  file_refused_once : (f g : LinkFault) → RefusesSource f before after path most_bytes → FileHasFault g before after path → IsOne f g
  file_refused_once fault.Memory g a b = inl (inl refl)
  file_refused_once (fault.Read p) (fault.Read q) a b = inr (inr (ap fault.Read (a.0 ∙ sym b.0)))
  file_refused_once (fault.Read p) (fault.Bad q why) a b = inr (inl (there_failed b.1.bytes b.1.held a.1))
  file_refused_once (fault.Read p) fault.TooManyBytes a b = inr (inl (there_failed b.0 b.1 a.1))
  file_refused_once (fault.Bad p why) (fault.Read q) a b = inr (inl (there_failed a.1.0 a.1.1 b.1))
  file_refused_once (fault.Bad p why) (fault.Bad q other) a b =
      inr (inr (ap₂ fault.Bad (a.0 ∙ sym b.0) (a.1.3.alone other (subst (λ (l : List ℕ). HasFault (format_of path) l other) (same b.1.bytes a.1.0 b.1.held a.1.1) b.1.has))))
  file_refused_once (fault.Bad p why) fault.TooManyBytes a b =
      let size : length a.1.0 ≡ length b.0 = ap length (same a.1.0 b.0 a.1.1 b.1) in
      let short = a.1.2 in let long = b.2 in absurd (omega arith)
  file_refused_once fault.TooManyBytes (fault.Read q) a b = inr (inl (there_failed a.0 a.1 b.1))
  file_refused_once fault.TooManyBytes (fault.Bad q why) a b =
      let size : length a.0 ≡ length b.1.bytes = ap length (same a.0 b.1.bytes a.1 b.1.held) in
      let short = b.1.short in let long = a.2 in absurd (omega arith)
  file_refused_once fault.TooManyBytes fault.TooManyBytes a b = inr (inr refl)
  file_refused_once (fault.NotThere p name) g a b = absurd a
  file_refused_once (fault.Clash p name) g a b = absurd a
  file_refused_once fault.TooManyFiles g a b = absurd a
  file_refused_once f fault.Memory a b = inl (inr refl)
  file_refused_once f (fault.NotThere q name) a b = absurd b
  file_refused_once f (fault.Clash q name) a b = absurd b
  file_refused_once f fault.TooManyFiles a b = absurd b

  -- a file that isn't there is refused only for that, or for want of memory
  file_lacking : (f : LinkFault) → LacksFile before.holds path → RefusesSource f before after path most_bytes → (f ≡ fault.Memory) ⊎ ((other : List ℕ) × (f ≡ fault.Read other))
  file_lacking (fault.Read p) lacks h = inr (p, refl)
  file_lacking (fault.Bad p why) lacks h = absurd (held_not_lacking before.holds path h.1.0 h.1.1 lacks)
  file_lacking (fault.NotThere p name) lacks h = absurd h
  file_lacking (fault.Clash p name) lacks h = absurd h
  file_lacking fault.TooManyFiles lacks h = absurd h
  file_lacking fault.TooManyBytes lacks h = absurd (held_not_lacking before.holds path h.0 h.1 lacks)
  file_lacking fault.Memory lacks h = inl refl

-- ---- the bytes of one file

-- what refuses the bytes refuses the tree
refuses_source : (f : LinkFault) (before after : FilesSeen) (path : List ℕ) → RefusesBytes f before after path → RefusesSource f before after path most_bytes
refuses_source (fault.Bad p why) before after path h = absurd h
refuses_source (fault.Read p) before after path h = h
refuses_source (fault.NotThere p name) before after path h = h
refuses_source (fault.Clash p name) before after path h = h
refuses_source fault.TooManyFiles before after path h = h
refuses_source fault.TooManyBytes before after path h = h
refuses_source fault.Memory before after path h = h

-- the same as a fault of the file
has_fault : (f : LinkFault) (before after : FilesSeen) (path : List ℕ) → RefusesBytes f before after path → FileHasFault f before after path
has_fault (fault.Bad p why) before after path h = absurd h
has_fault (fault.Read p) before after path h = h
has_fault (fault.NotThere p name) before after path h = h
has_fault (fault.Clash p name) before after path h = h
has_fault fault.TooManyFiles before after path h = h
has_fault fault.TooManyBytes before after path h = h
has_fault fault.Memory before after path h = h

module _ (before after : FilesSeen) (map : FileMap) (told : before.holds ≡ Some map) (path : List ℕ) where
  -- the file has one list of bytes
  pub bytes_once : (bytes other : List ℕ) → HoldsBytes before.holds path bytes → HoldsBytes before.holds path other → bytes ≡ other
  bytes_once bytes other a b = told_bytes before.holds map path bytes other told a.held b.held

  -- bytes that are held are refused only where memory is wanting or a read failed
  pub bytes_not_refused : (bytes : List ℕ) (f : LinkFault) → HoldsBytes before.holds path bytes → RefusesBytes f before after path → (f ≡ fault.Memory) ⊎ Rose before.faults after.faults
  bytes_not_refused bytes (fault.Read p) a h = ⊎_elim inr (λ lacks. absurd (held_not_lacking before.holds path bytes a.held lacks)) h.1
  bytes_not_refused bytes (fault.Bad p why) a h = absurd h
  bytes_not_refused bytes (fault.NotThere p name) a h = absurd h
  bytes_not_refused bytes (fault.Clash p name) a h = absurd h
  bytes_not_refused bytes fault.TooManyFiles a h = absurd h
  bytes_not_refused bytes fault.TooManyBytes a h =
      let size : length bytes ≡ length h.0 = ap length (told_bytes before.holds map path bytes h.0 told a.held h.1) in
      let short = a.short in let long = h.2 in absurd (omega arith)
  bytes_not_refused bytes fault.Memory a h = inl refl

-- ---- the files of a command

module _ (before after : FilesSeen) (path : List ℕ) where
  pub one_tree : (reach : Reach) (t u : Tree) → AreTold reach before.holds → IsTreeAt reach before.holds path t → HaveTree reach before.holds path u → t ≡ u
  one_tree Alone t u told a b = file_once before after told.0 told.1 path t u a b
  one_tree WithImports t u told a b = linked_once told.0 path t u (subst (λ (o : Option FileMap). Linked o path t) told.1 a) (subst (λ (o : Option FileMap). Linked o path u) told.1 b)
  one_tree BytesAlone t u told a b = absurd a
  one_tree (OfDemo functions) t u told a b = a ∙ sym b

  pub not_refused : (reach : Reach) (t : Tree) (f : LinkFault) → AreTold reach before.holds → HaveTree reach before.holds path t → RefusesFiles reach f before after path → (f ≡ fault.Memory) ⊎ Rose before.faults after.faults
  not_refused Alone t f told a h = file_not_refused before after told.0 told.1 path t f a h
  not_refused WithImports t f told a h = linked_not_refused told.0 before after path t f told.1 a h
  not_refused BytesAlone t f told a h = absurd a
  not_refused (OfDemo functions) t f told a h = inl h

  pub faultless : (reach : Reach) (t : Tree) (f : LinkFault) → AreTold reach before.holds → IsTreeAt reach before.holds path t → HaveFault reach f before after path → (f ≡ fault.Memory) ⊎ Rose before.faults after.faults
  faultless Alone t f told a h = file_faultless before after told.0 told.1 path t f a h
  faultless WithImports t f told a h = linked_not_refused told.0 before after path t f told.1 a h
  faultless BytesAlone t f told a h = absurd a
  faultless (OfDemo functions) t f told a h = absurd h

  pub one_refusal : (reach : Reach) (f g : LinkFault) → AreTold reach before.holds → RefusesFiles reach f before after path → HaveFault reach g before after path
      → ((f ≡ fault.Memory) ⊎ (g ≡ fault.Memory)) ⊎ (Rose before.faults after.faults ⊎ (f ≡ g))
  one_refusal Alone f g told a b = file_refused_once before after told.0 told.1 path f g a b
  one_refusal WithImports f g told a b = refused_once told.0 before after path f g told.1 a b
  one_refusal BytesAlone f g told a b = file_refused_once before after told.0 told.1 path f g (refuses_source f before after path a) (has_fault g before after path b)
  one_refusal (OfDemo functions) f g told a b = absurd b

-- ---- a file that isn't there

-- files that lack one are told
pub lacking_told : (holds : Option FileMap) (path : List ℕ) → LacksFile holds path → (map : FileMap) × (holds ≡ Some map)
lacking_told None path lacks = absurd lacks
lacking_told (Some map) path lacks = (map, refl)

-- so are the files of a command that lacks one
pub lack_told : (holds : Option FileMap) (root path : List ℕ) (reach : Reach) → LackFile reach holds root path → AreTold reach holds
lack_told holds root path Alone h = lacking_told holds path h.lacks
lack_told holds root path WithImports h = lacking_told holds path h.lacks
lack_told holds root path BytesAlone h = lacking_told holds path h.lacks
lack_told holds root path (OfDemo functions) h = tt

module _ (before after : FilesSeen) (root path : List ℕ) where
  -- it is the fault of the files
  pub lacking_fault : (reach : Reach) → LackFile reach before.holds root path → HaveFault reach (fault.Read path) before after root
  lacking_fault Alone h = (h.next, subst (λ (p : List ℕ). MayFail before after p) h.next (inr h.lacks))
  lacking_fault WithImports h = record { done = h.next.0; stops = h.next.1; fails = inr h.lacks }
  lacking_fault BytesAlone h = (h.next, subst (λ (p : List ℕ). MayFail before after p) h.next (inr h.lacks))
  lacking_fault (OfDemo functions) h = absurd h.next

  pub lacking_unread : (reach : Reach) (f : LinkFault) → LackFile reach before.holds root path → RefusesFiles reach f before after root → (f ≡ fault.Memory) ⊎ ((other : List ℕ) × (f ≡ fault.Read other))
  lacking_unread Alone f h refuses =
      let told = lacking_told before.holds path h.lacks in
      file_lacking before after told.0 told.1 root f (subst (λ (p : List ℕ). LacksFile before.holds p) h.next h.lacks) refuses
  lacking_unread WithImports f h refuses =
      let told = lacking_told before.holds path h.lacks in
      lacking_not_read told.0 before after root path h.next.0 f told.1 h.next.1 h.lacks refuses
  lacking_unread BytesAlone f h refuses =
      let told = lacking_told before.holds path h.lacks in
      file_lacking before after told.0 told.1 root f (subst (λ (p : List ℕ). LacksFile before.holds p) h.next h.lacks) (refuses_source f before after root refuses)
  lacking_unread (OfDemo functions) f h refuses = absurd h.next

  pub lacking_no_tree : (reach : Reach) (t : Tree) → LackFile reach before.holds root path → IsTreeAt reach before.holds root t → ⊥
  lacking_no_tree Alone t h a = held_not_lacking before.holds root a.bytes a.held (subst (λ (p : List ℕ). LacksFile before.holds p) h.next h.lacks)
  lacking_no_tree WithImports t h a =
      let told = lacking_told before.holds path h.lacks in
      lacking_not_linked told.0 root path h.next.0 t
      (subst (λ (o : Option FileMap). StopsAt o root path h.next.0) told.1 h.next.1)
      (subst (λ (o : Option FileMap). LacksFile o path) told.1 h.lacks)
      (subst (λ (o : Option FileMap). Linked o root t) told.1 a)
  lacking_no_tree BytesAlone t h a = absurd a
  lacking_no_tree (OfDemo functions) t h a = absurd h.next

  -- nor has it bytes
  pub lacking_no_bytes : (bytes : List ℕ) → LackFile BytesAlone before.holds root path → HoldsBytes before.holds root bytes → ⊥
  lacking_no_bytes bytes h a = held_not_lacking before.holds root bytes a.held (subst (λ (p : List ℕ). LacksFile before.holds p) h.next h.lacks)
