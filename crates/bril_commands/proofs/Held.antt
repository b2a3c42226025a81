-- Where the files are told, the bytes of a command's one file are read as one thing or refused for one cause, and so are its arguments: want of
-- memory apart.
use Rattle.std.proofs.Common.{◌≡◌, ◌⊎◌, ℕ, ◌+◌, ◌<◌, ◌≤◌, List, [], length, Option, Some, None, Ok, refl, sym, ap, ap₂, ◌∙◌, subst, arith, inl, inr, ⊎_elim}
use Rattle.std.specs.Prelude.{◌≢◌}
use Rattle.std.proofs.lemmas.List.{length-map}
use Rattle.bril_arguments.proofs.Faults.{one_fault, only_memory}
use Rattle.bril_arguments.proofs.IntWords.{len}
use Rattle.bril_arguments.proofs.Spelled.{AreSpelled-one}
use Rattle.bril_arguments.specs.Ints.{AreInts, IsIntFaultOf, int_types}
use Rattle.bril_arguments.specs.Faults.{IsFaultOf}
use Rattle.bril_arguments.specs.declared.fault.ArgFault.TheVariants as argument
use Rattle.bril_arguments.specs.declared.fault.ArgFault.{ArgFault}
use Rattle.bril_outside.specs.Files.{FileMap, FilesSeen}
use Rattle.bril_outside.specs.Sink.{SinkSeen}
use Rattle.bril_report.specs.Report.{status_number}
use Rattle.bril_report.specs.StageFaults.{elf_status}
use Rattle.bril_report.specs.declared.status.Status.TheVariants as status
use Rattle.bril_report.specs.declared.status.Status.{Status}
use Rattle.bril_tree.specs.declared.value.Value.{Value}
use Rattle.bril_words.specs.declared.request.MachineSettings.{MachineSettings}
use Rattle.bril_words.specs.declared.subcommands.BytesAction.TheVariants as bytes
use Rattle.bril_words.specs.declared.subcommands.BytesAction.{BytesAction}
use Rattle.elf_wrap.proofs.Files.{wrapped_opens}
use Rattle.elf_wrap.specs.Form.{elf_fault}
use Rattle.elf_wrap.specs.Laws.{IsFile, Opens}
use Rattle.elf_wrap.specs.declared.fault.ElfFault.TheVariants as elf
use Rattle.elf_wrap.specs.declared.fault.ElfFault.{ElfFault}
use Rattle.rv64_listing.proofs.Listings.{exact}
use Rattle.rv64_listing.specs.Listing.{IsFirstFault}
use Rattle.rv64_words.specs.declared.image.GuardAt.{GuardAt}
use Rattle.rv64_words.specs.declared.image.Image.{Image}
use Rattle.bril_commands.specs.Command.{OfBytes, RefusesHeld}
use Rattle.bril_commands.specs.Source.{HoldsBytes}
use Rattle.bril_commands.specs.Table.{on_bytes}
use Rattle.bril_commands.specs.commands.Assemble.{RefusesListing, assembles}
use Rattle.bril_commands.specs.commands.Execute.{AreOnStack, HaveFault, HoldImage, LacksRoom, RefusesFile, RefusesInts, executes}
use Rattle.bril_commands.proofs.Reading.{bytes_once}

-- want of memory apart, two causes are one
abbrev pub AreOne : Status → Status → Type 0
AreOne how other = (how ≡ status.OutOfMemory) ⊎ ((other ≡ status.OutOfMemory) ⊎ (how ≡ other))

-- the number of a refusal
abbrev pub IsRefusal : Status → Type 0
IsRefusal how = (how ≡ status.OutOfMemory) ⊎ ((status_number how ≡ 65) ⊎ ((status_number how ≡ 68) ⊎ (status_number how ≡ 69)))

-- Bytes are read as one thing, or refused for one cause, and the words give one list of values, or are refused for one cause.
pub record IsDetermined (does : OfBytes) : Type 0 where
  pub reads_once : (bytes : List ℕ) (x y : does.Read) → does.AreRead bytes x → does.AreRead bytes y → x ≡ y
  pub sound : (how : Status) (path bytes : List ℕ) (x : does.Read) → does.AreRead bytes x → does.RefusesBytes how path bytes → how ≡ status.OutOfMemory
  pub refused_once : (how other : Status) (path bytes : List ℕ) → does.RefusesBytes how path bytes → does.RefusesBytes other path bytes → AreOne how other
  pub given_once : (x : does.Read) (args : List (List ℕ)) (us vs : List Value) → does.AreGiven x args us → does.AreGiven x args vs → us ≡ vs
  pub fits : (how : Status) (x : does.Read) (args : List (List ℕ)) (vs : List Value) → does.AreGiven x args vs → does.RefusesArguments how x args → how ≡ status.OutOfMemory
  pub misfits_once : (how other : Status) (x : does.Read) (args : List (List ℕ)) → does.RefusesArguments how x args → does.RefusesArguments other x args → AreOne how other
  pub bytes_refusal : (how : Status) (path bytes : List ℕ) → does.RefusesBytes how path bytes → IsRefusal how
  pub arguments_refusal : (how : Status) (x : does.Read) (args : List (List ℕ)) → does.RefusesArguments how x args → IsRefusal how

-- ---- a listing

-- the causes of its refusal
no_listing : (how : Status) (path source : List ℕ) → RefusesListing how path source → (how ≡ status.OutOfMemory) ⊎ ((line : ℕ) × (how ≡ status.MisreadListing path line) × IsFirstFault source line)
no_listing (status.MisreadListing other line) path source refuses = inr (line, ap (λ p. status.MisreadListing p line) refuses.0, refuses.1)
no_listing status.OutOfMemory path source refuses = inl refl
no_listing _ path source refuses = absurd refuses

assembles_determined : IsDetermined assembles
assembles_determined = record {
  reads_once = exact.one;
  sound = λ how path source words is refuses. ⊎_elim (λ e. e) (λ h. absurd (exact.sound source words h.0 is h.2)) (no_listing how path source refuses);
  refused_once = λ how other path source a b.
      ⊎_elim inl (λ x. ⊎_elim (λ e. inr (inl e)) (λ y. inr (inr (x.1 ∙ ap (status.MisreadListing path) (exact.first source x.0 y.0 x.2 y.2) ∙ sym y.1))) (no_listing other path source b)) (no_listing how path source a);
  given_once = λ words args us vs a b. a ∙ sym b;
  fits = λ how words args vs given refuses. absurd refuses;
  misfits_once = λ how other words args a b. absurd a;
  bytes_refusal = λ how path source refuses. ⊎_elim inl (λ h. inr (inl (ap status_number h.1))) (no_listing how path source refuses);
  arguments_refusal = λ how words args refuses. absurd refuses;
}

-- ---- a file of an image

no_file : (how : Status) (path source : List ℕ) → RefusesFile how path source → (how ≡ status.OutOfMemory) ⊎ HaveFault how path source
no_file status.OutOfMemory path source refuses = inl refl
no_file _ path source refuses = inr refuses

opens : (source : List ℕ) (image : Image) → HoldImage source image → Opens source image.stack image.words
opens source image is = subst (λ (s : List ℕ). Opens s image.stack image.words) (sym is.file.is) (wrapped_opens image.stack image.words is.file.are_words is.file.few is.file.low)

image_same : (a b : Image) → a.words ≡ b.words → a.guards ≡ b.guards → a.stack ≡ b.stack → a ≡ b
image_same a b words guards stack = λ i. record { words = words i; guards = guards i; stack = stack i }

elf_refusal : (path : List ℕ) (fault : ElfFault) → IsRefusal (elf_status path fault)
elf_refusal path (elf.At at) = inr (inl refl)
elf_refusal path (elf.CodeTooBig words) = inr (inr (inl refl))
elf_refusal path (elf.StackTooBig words) = inr (inr (inl refl))
elf_refusal path elf.Memory = inl refl

some_same : (o : Option ElfFault) (a b : ElfFault) → o ≡ Some a → o ≡ Some b → a ≡ b
some_same o a b x y = let e : Some a ≡ Some b = sym x ∙ y in cc

none_not_some : (o : Option ElfFault) (a : ElfFault) → o ≡ None → o ≡ Some a → ⊥
none_not_some o a x y = let e : ◌≡◌ {A = Option ElfFault} None (Some a) = sym x ∙ y in cc

-- ---- ints

as_fault : (args : List (List ℕ)) (place : ℕ) → IsIntFaultOf args (argument.Spelling place) → IsFaultOf (int_types args) args (argument.Spelling place)
as_fault args place first = (sym (length-map args _), first)

spelling_same : (a b : ℕ) → argument.Spelling a ≡ argument.Spelling b → a ≡ b
spelling_same a b e = cc

spelling_memory : (a : ℕ) → argument.Spelling a ≡ argument.Memory → ⊥
spelling_memory a e = cc

no_ints : (args : List (List ℕ)) (values : List Value) (place : ℕ) → AreInts args values → IsIntFaultOf args (argument.Spelling place) → ⊥
no_ints args values place ints first = spelling_memory place (only_memory (int_types args) args values (argument.Spelling place) ints (as_fault args place first))

first_once : (args : List (List ℕ)) (a b : ℕ) → IsIntFaultOf args (argument.Spelling a) → IsIntFaultOf args (argument.Spelling b) → a ≡ b
first_once args a b x y = sym (spelling_same b a (one_fault (int_types args) args (argument.Spelling a) (argument.Spelling b) (spelling_memory a) (as_fault args a x) (as_fault args b y)))

-- the causes of no arguments
misfit : (how : Status) (image : Image) (args : List (List ℕ)) → RefusesInts how image args
    → (how ≡ status.OutOfMemory) ⊎ (((place : ℕ) × (how ≡ status.BadArgument place) × IsIntFaultOf args (argument.Spelling place))
    ⊎ ((given : ℕ) × (room : ℕ) × (how ≡ status.ArgumentRoom given room) × LacksRoom given room image args))
misfit (status.BadArgument place) image args refuses = inr (inl (place, refl, refuses))
misfit (status.ArgumentRoom given room) image args refuses = inr (inr (given, room, refl, refuses))
misfit status.OutOfMemory image args refuses = inl refl
misfit _ image args refuses = absurd refuses

module _ (image : Image) (args : List (List ℕ)) where
  same_ints : (us vs : List Value) → AreInts args us → AreInts args vs → us ≡ vs
  same_ints us vs a b = AreSpelled-one (int_types args) args us vs a b

  never_misfit : (how : Status) (values : List Value) → AreOnStack image args values → RefusesInts how image args → how ≡ status.OutOfMemory
  never_misfit how values given refuses =
      ⊎_elim (λ e. e)
      (⊎_elim (λ word. absurd (no_ints args values word.0 given.ints word.2))
      (λ room. let lacks = room.3 in
      let many : length values ≡ length args = len args (Ok values) given.ints in
      absurd (let small = lacks.small in let fits = given.room in omega (arith, small, fits, many))))
      (misfit how image args refuses)

  one_misfit : (how other : Status) → RefusesInts how image args → RefusesInts other image args → AreOne how other
  one_misfit how other a b = ⊎_elim inl (λ x. ⊎_elim (λ e. inr (inl e)) (λ y. inr (inr (same x y))) (misfit other image args b)) (misfit how image args a)
    where
      Word : Status → Type 0
      Word h = (place : ℕ) × (h ≡ status.BadArgument place) × IsIntFaultOf args (argument.Spelling place)

      Room : Status → Type 0
      Room h = (given : ℕ) × (room : ℕ) × (h ≡ status.ArgumentRoom given room) × LacksRoom given room image args

      same : Word how ⊎ Room how → Word other ⊎ Room other → how ≡ other
      same (inl x) (inl y) = x.1 ∙ ap status.BadArgument (first_once args x.0 y.0 x.2 y.2) ∙ sym y.1
      same (inl x) (inr y) = absurd (no_ints args y.3.values x.0 y.3.ints x.2)
      same (inr x) (inl y) = absurd (no_ints args x.3.values y.0 x.3.ints y.2)
      same (inr x) (inr y) = x.2 ∙ ap₂ status.ArgumentRoom (x.3.given_is ∙ sym y.3.given_is) (x.3.room_is ∙ sym y.3.room_is) ∙ sym y.2

executes_determined : (cells words : ℕ) → IsDetermined (executes cells words)
executes_determined cells words = record {
  reads_once = λ source x y a b.
      let p = opens source x a in
      let q = opens source y b in
      image_same x y (sym p.words_are ∙ q.words_are) (a.unguarded ∙ sym b.unguarded) (sym p.stack_is ∙ q.stack_is);
  sound = λ how path source image is refuses.
      ⊎_elim (λ e. e) (λ h. absurd (none_not_some (elf_fault source) h.fault (opens source image is).right h.first)) (no_file how path source refuses);
  refused_once = λ how other path source a b.
      ⊎_elim inl (λ x. ⊎_elim (λ e. inr (inl e)) (λ y. inr (inr (x.is ∙ ap (elf_status path) (some_same (elf_fault source) x.fault y.fault x.first y.first) ∙ sym y.is))) (no_file other path source b)) (no_file how path source a);
  given_once = λ image args us vs a b. same_ints image args us vs a.ints b.ints;
  fits = λ how image args vs given refuses. never_misfit image args how vs given refuses;
  misfits_once = λ how other image args a b. one_misfit image args how other a b;
  bytes_refusal = λ how path source refuses. ⊎_elim inl (λ h. subst IsRefusal (sym h.is) (elf_refusal path h.fault)) (no_file how path source refuses);
  arguments_refusal = λ how image args refuses.
      ⊎_elim inl (⊎_elim (λ word. inr (inr (inr (ap status_number word.1)))) (λ room. inr (inr (inr (ap status_number room.2))))) (misfit how image args refuses);
}

-- ---- all commands that work on bytes

pub determined : (action : BytesAction) → IsDetermined (on_bytes action)
determined bytes.Assemble = assembles_determined
determined (bytes.Execute settings) = executes_determined settings.limits.cells settings.steps

module _ (does : OfBytes) (is : IsDetermined does) where
  pub held_refusal : (how : Status) (holds : Option FileMap) (path : List ℕ) (args : List (List ℕ)) → RefusesHeld does how holds path args → IsRefusal how
  held_refusal how holds path args refuses = ⊎_elim (λ b. is.bytes_refusal how path refuses.bytes b) (λ a. is.arguments_refusal how a.0 args a.2) refuses.because

  module _ (before after : FilesSeen) (map : FileMap) (told : before.holds ≡ Some map) (path : List ℕ) (args : List (List ℕ)) where
    abbrev Held : List ℕ → Type 0
    Held bytes = HoldsBytes before.holds path bytes

    -- the cause of a refusal, where these bytes are held
    because : (how : Status) (bytes : List ℕ) → Held bytes → RefusesHeld does how before.holds path args → does.RefusesBytes how path bytes ⊎ ((read : does.Read) × does.AreRead bytes read × does.RefusesArguments how read args)
    because how bytes held refuses =
        subst (λ (bs : List ℕ). does.RefusesBytes how path bs ⊎ ((read : does.Read) × does.AreRead bs read × does.RefusesArguments how read args)) (bytes_once before after map told path refuses.bytes bytes refuses.held held) refuses.because

    -- bytes are refused so, and a cause is this one
    pub one_bytes : (how other : Status) (bytes : List ℕ) → Held bytes → does.RefusesBytes how path bytes → RefusesHeld does other before.holds path args → AreOne how other
    one_bytes how other bytes held a refuses =
        ⊎_elim (λ b. is.refused_once how other path bytes a b) (λ b. inl (is.sound how path bytes b.0 b.1 a)) (because other bytes held refuses)

    pub one_arguments : (how other : Status) (bytes : List ℕ) → Held bytes → (read : does.Read) → does.AreRead bytes read → does.RefusesArguments how read args → RefusesHeld does other before.holds path args → AreOne how other
    one_arguments how other bytes held read reads a refuses =
        ⊎_elim (λ b. inr (inl (is.sound other path bytes read reads b)))
        (λ b. is.misfits_once how other read args a (subst (λ (x : does.Read). does.RefusesArguments other x args) (is.reads_once bytes b.0 read b.1 reads) b.2))
        (because other bytes held refuses)

    -- bytes that are read, with arguments that fit, aren't refused
    pub none_refused : (how : Status) (bytes : List ℕ) → Held bytes → (read : does.Read) → does.AreRead bytes read → (values : List Value) → does.AreGiven read args values → RefusesHeld does how before.holds path args → how ≡ status.OutOfMemory
    none_refused how bytes held read reads values given refuses =
        ⊎_elim (λ b. is.sound how path bytes read reads b)
        (λ b. is.fits how read args values given (subst (λ (x : does.Read). does.RefusesArguments how x args) (is.reads_once bytes b.0 read b.1 reads) b.2))
        (because how bytes held refuses)
