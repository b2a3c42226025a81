-- Where the files are told, a program has one tree or one refusal, and never both.
use Rattle.std.proofs.Common.{◌≡◌, ◌∙◌, ◌⊎◌, refl, sym, ap, subst, ℕ, List, Option, Some, None, inl, inr}
use Rattle.bril_outside.specs.Files.{FileMap, FilesSeen, LacksFile}
use Rattle.bril_outside.specs.Sink.{Rose}
use Rattle.import_linker.specs.declared.formats.fault.ReadFault.{ReadFault}
use Rattle.bril_tree.specs.declared.tree.Tree.{Tree}
use Rattle.import_linker.specs.Linked.{Linked}
use Rattle.import_linker.specs.Names.{NameFault, clash, fault_from, not_there}
use Rattle.import_linker.specs.Reading.{AreFiles, IsMisread, PassesBytes, PassesFiles, RefusesReading, StopsAt}
use Rattle.import_linker.specs.Laws.{LackingAreNotLinked, LackingAreNotRead, LinkedAreNotRefused, RefusedOnce}
use Rattle.import_linker.specs.Refusing.{IsMisnamed, RefusesLink}
use Rattle.import_linker.specs.declared.fault.LinkFault.{LinkFault}
use Rattle.import_linker.specs.declared.fault.LinkFault.TheVariants as fault
use Rattle.import_linker.specs.declared.fault.LinkFault.TheVariants.{Memory}
use Rattle.import_linker.specs.declared.sources.Source.{Source}
use Rattle.import_linker.proofs.Alone.{Stopped, one_stop}
use Rattle.import_linker.proofs.Once.{none_lacking, not_misread, not_too_long, not_too_many, same_files}

module _ (map : FileMap) (reads : Option ℕ) (faults : ℕ) (after : FilesSeen) (root : List ℕ) where
  abbrev before : FilesSeen
  before = record { holds = Some map; reads = reads; faults = faults }

  abbrev HasRisen : Type 0
  HasRisen = Rose faults after.faults

  misread_stops : (path : List ℕ) (why : ReadFault) → IsMisread (Some map) root path why → Stopped map root (fault.Bad path why)
  misread_stops path why h = record { done = h.done; path = path; read = h.stops.read; next = h.stops.next; so = (refl, (h.bytes, h.held, h.short, h.has)) }

  many_stop : PassesFiles (Some map) root → Stopped map root fault.TooManyFiles
  many_stop h = record { done = h.done; path = h.last.path; read = h.stops.read; next = h.stops.next; so = (h.last, refl, h.read, h.short, h.many) }

  long_stop : PassesBytes (Some map) root → Stopped map root fault.TooManyBytes
  long_stop h = record { done = h.done; path = h.path; read = h.stops.read; next = h.stops.next; so = (h.bytes, h.held, h.long) }

  -- what stops the reading of a program's files, reads that failed apart
  stops : (f : LinkFault) → RefusesReading f before after root → (f ≡ Memory) ⊎ (HasRisen ⊎ Stopped map root f)
  stops (fault.Read path) h = elim h.fails [
    | inl rose ↦ inr (inl rose)
    | inr lacks ↦ inr (inr (record { done = h.done; path = path; read = h.stops.read; next = h.stops.next; so = (refl, lacks) }))
  ]
  stops (fault.Bad path why) h = inr (inr (misread_stops path why h))
  stops (fault.NotThere path name) h = absurd h
  stops (fault.Clash path name) h = absurd h
  stops fault.TooManyFiles h = inr (inr (many_stop h))
  stops fault.TooManyBytes h = inr (inr (long_stop h))
  stops fault.Memory h = inl refl

  -- where all files were read, only a failed read or want of memory refuses their reading
  not_stopped : (sources : List Source) → AreFiles (Some map) root sources → (f : LinkFault) → RefusesReading f before after root → (f ≡ Memory) ⊎ HasRisen
  not_stopped sources files (fault.Read path) h = elim h.fails [
    | inl rose ↦ inr rose
    | inr lacks ↦ absurd (none_lacking map root sources files h.done path h.stops.read h.stops.next lacks)
  ]
  not_stopped sources files (fault.Bad path why) h = absurd (not_misread map root sources files path why h)
  not_stopped sources files (fault.NotThere path name) h = absurd h
  not_stopped sources files (fault.Clash path name) h = absurd h
  not_stopped sources files fault.TooManyFiles h = absurd (not_too_many map root sources files h)
  not_stopped sources files fault.TooManyBytes h = absurd (not_too_long map root sources files h)
  not_stopped sources files fault.Memory h = inl refl

  not_misnamed : (tree : Tree) → Linked (Some map) root tree → (path : List ℕ) (why : NameFault) → IsMisnamed (Some map) root path why → ⊥
  not_misnamed tree linked path why h =
      let same = same_files map root linked.sources h.sources linked.files h.files in
      let first : fault_from h.sources 0 h.sources ≡ None = ap (λ (l : List Source). fault_from l 0 l) (sym same) ∙ linked.links.faultless in
      let both : None ≡ Some (path, why) = sym first ∙ h.first in
      cc

  pub not_refused : (tree : Tree) (f : LinkFault) → Linked (Some map) root tree → RefusesLink f before after root → (f ≡ Memory) ⊎ HasRisen
  not_refused tree (fault.Read path) linked h = not_stopped linked.sources linked.files (fault.Read path) h
  not_refused tree (fault.Bad path why) linked h = not_stopped linked.sources linked.files (fault.Bad path why) h
  not_refused tree (fault.NotThere path name) linked h = absurd (not_misnamed tree linked path (not_there name) h)
  not_refused tree (fault.Clash path name) linked h = absurd (not_misnamed tree linked path (clash name) h)
  not_refused tree fault.TooManyFiles linked h = not_stopped linked.sources linked.files fault.TooManyFiles h
  not_refused tree fault.TooManyBytes linked h = not_stopped linked.sources linked.files fault.TooManyBytes h
  not_refused tree fault.Memory linked h = inl refl

  -- ---- two refusals

  -- the fault that a name at fault is
  abbrev fault_for : List ℕ → NameFault → LinkFault
  fault_for path (clash name) = fault.Clash path name
  fault_for path (not_there name) = fault.NotThere path name

  record ByNames (f : LinkFault) : Type 0 where
    path : List ℕ
    why : NameFault
    misnamed : IsMisnamed (Some map) root path why
    is : f ≡ fault_for path why

  cause : (f : LinkFault) → RefusesLink f before after root → RefusesReading f before after root ⊎ ByNames f
  cause (fault.Read path) h = inl h
  cause (fault.Bad path why) h = inl h
  cause (fault.NotThere path name) h = inr (record { path = path; why = not_there name; misnamed = h; is = refl })
  cause (fault.Clash path name) h = inr (record { path = path; why = clash name; misnamed = h; is = refl })
  cause fault.TooManyFiles h = inl h
  cause fault.TooManyBytes h = inl h
  cause fault.Memory h = inl tt

  abbrev IsOne : LinkFault → LinkFault → Type 0
  IsOne f g = ((f ≡ Memory) ⊎ (g ≡ Memory)) ⊎ (HasRisen ⊎ (f ≡ g))

  both_stop : (f g : LinkFault) → RefusesReading f before after root → RefusesReading g before after root → IsOne f g
  both_stop f g a b = elim (stops f a) [
    | inl memory ↦ inl (inl memory)
    | inr (inl rose) ↦ inr (inl rose)
    | inr (inr first) ↦ elim (stops g b) [
      | inl memory ↦ inl (inr memory)
      | inr (inl rose) ↦ inr (inl rose)
      | inr (inr second) ↦ inr (inr (one_stop map root f g first second))
    ]
  ]

  same_names : (f g : LinkFault) → ByNames f → ByNames g → f ≡ g
  same_names f g a b =
      let same = same_files map root a.misnamed.sources b.misnamed.sources a.misnamed.files b.misnamed.files in
      let both : Some (a.path, a.why) ≡ Some (b.path, b.why) = sym a.misnamed.first ∙ ap (λ (l : List Source). fault_from l 0 l) same ∙ b.misnamed.first in
      let pair : (a.path, a.why) ≡ (b.path, b.why) = cc in
      a.is ∙ ap (λ (p : List ℕ × NameFault). fault_for p.0 p.1) pair ∙ sym b.is

  pub once : (f g : LinkFault) → RefusesLink f before after root → RefusesLink g before after root → IsOne f g
  once f g a b = elim (cause f a) [
    | inl first ↦ elim (cause g b) [
      | inl second ↦ both_stop f g first second
      | inr named ↦ elim (not_stopped named.misnamed.sources named.misnamed.files f first) [
        | inl memory ↦ inl (inl memory)
        | inr rose ↦ inr (inl rose)
      ]
    ]
    | inr named ↦ elim (cause g b) [
      | inl second ↦ elim (not_stopped named.misnamed.sources named.misnamed.files g second) [
        | inl memory ↦ inl (inr memory)
        | inr rose ↦ inr (inl rose)
      ]
      | inr other ↦ inr (inr (same_names f g named other))
    ]
  ]

  -- ---- a file that isn't there

  module _ (done : List Source) (path : List ℕ) (at : StopsAt (Some map) root path done) (lacks : map path ≡ None) where
    lacking_stops : Stopped map root (fault.Read path)
    lacking_stops = record { done = done; path = path; read = at.read; next = at.next; so = (refl, lacks) }

    abbrev IsUnread : LinkFault → Type 0
    IsUnread f = (f ≡ Memory) ⊎ ((other : List ℕ) × (f ≡ fault.Read other))

    pub lacking_unread : (f : LinkFault) → RefusesLink f before after root → IsUnread f
    lacking_unread (fault.Read other) h = inr (other, refl)
    lacking_unread (fault.Bad other why) h = inr (path, one_stop map root (fault.Bad other why) (fault.Read path) (misread_stops other why h) lacking_stops)
    lacking_unread (fault.NotThere other name) h = absurd (none_lacking map root h.sources h.files done path at.read at.next lacks)
    lacking_unread (fault.Clash other name) h = absurd (none_lacking map root h.sources h.files done path at.read at.next lacks)
    lacking_unread fault.TooManyFiles h = inr (path, one_stop map root fault.TooManyFiles (fault.Read path) (many_stop h) lacking_stops)
    lacking_unread fault.TooManyBytes h = inr (path, one_stop map root fault.TooManyBytes (fault.Read path) (long_stop h) lacking_stops)
    lacking_unread fault.Memory h = inl refl

-- ---- the laws

-- files that are told
told_as : (s : FilesSeen) (map : FileMap) → s.holds ≡ Some map → s ≡ record { holds = Some map; reads = s.reads; faults = s.faults }
told_as s map told i = record { holds = told i; reads = s.reads; faults = s.faults }

pub linked_not_refused : LinkedAreNotRefused
linked_not_refused map before after root tree f told linked h =
    not_refused map before.reads before.faults after root tree f (subst (λ (o : Option FileMap). Linked o root tree) told linked)
    (subst (λ (s : FilesSeen). RefusesLink f s after root) (told_as before map told) h)

pub refused_once : RefusedOnce
refused_once map before after root f g told a b =
    let same = told_as before map told in
    once map before.reads before.faults after root f g (subst (λ (s : FilesSeen). RefusesLink f s after root) same a) (subst (λ (s : FilesSeen). RefusesLink g s after root) same b)

pub lacking_not_linked : LackingAreNotLinked
lacking_not_linked map root path done tree at lacks linked = none_lacking map root linked.sources linked.files done path at.read at.next lacks

pub lacking_not_read : LackingAreNotRead
lacking_not_read map before after root path done f told at lacks h =
    let same = told_as before map told in
    lacking_unread map before.reads before.faults after root done path
    (subst (λ (o : Option FileMap). StopsAt o root path done) told at) (subst (λ (o : Option FileMap). LacksFile o path) told lacks)
    f (subst (λ (s : FilesSeen). RefusesLink f s after root) same h)
