-- What a fault points to stands in the files that were kept.
use Rattle.std.proofs.Common.{◌≡◌, ◌∙◌, refl, sym, ap, subst, ℕ, zero, suc, ◌+◌, ◌-◌, ◌<◌, ◌≤◌, List, [], ◌∷◌, ◌++◌, length, drop, Option, Some, None, inl, inr, arith}
use Rattle.std.specs.Prelude.{slice_get}
use Rattle.std.specs.Option.{option_map, option_or}
use Rattle.std.proofs.lemmas.List.{length-append, length-map}
use Rattle.std.proofs.lemmas.Option.{slice_get_within}
use Rattle.bril_checker.specs.Faults as checker
use Rattle.bril_checker.specs.declared.fault.CheckFault.{CheckFault}
use Rattle.bril_checker.specs.declared.fault.CheckFault.TheVariants as check
use Rattle.bril_commands.specs.Source.{IsOnlyProgram}
use Rattle.bril_json.specs.declared.fault.JsonFault.{JsonFault}
use Rattle.bril_json.specs.declared.fault.JsonFault.TheVariants as json
use Rattle.bril_lex.specs.Cut.{AreInOrder, AreTokens, bytes_of}
use Rattle.bril_lex.specs.declared.token.Token.{Token}
use Rattle.bril_lex.proofs.Lexemes.{AreTokens-in_order}
use Rattle.bril_names.specs.Faults as names
use Rattle.bril_names.specs.declared.fault.NameFault.{NameFault}
use Rattle.bril_names.specs.declared.fault.NameFault.TheVariants as name
use Rattle.bril_outside.specs.Files.{FileMap, FilesSeen}
use Rattle.bril_report.specs.StageFaults.{link_status}
use Rattle.bril_report.specs.declared.status.Status.{Status}
use Rattle.bril_report.specs.declared.status.Status.TheVariants as status
use Rattle.bril_text.specs.Reading.{position_of}
use Rattle.bril_text.specs.declared.fault.TextFault.{TextFault}
use Rattle.bril_text.specs.declared.fault.TextFault.TheVariants as text
use Rattle.bril_tree.specs.ProgramForm.{main_name}
use Rattle.bril_tree.specs.declared.function_tree.FuncTree.{FuncTree}
use Rattle.bril_tree.specs.declared.numbered_function.Func.{Func}
use Rattle.bril_tree.specs.declared.program.Prog.{Prog}
use Rattle.bril_tree.specs.declared.tree.Tree.{Tree}
use Rattle.import_linker.specs.Linked.{Linked}
use Rattle.import_linker.specs.Names.{fault_from, fault_of, name_fault}
use Rattle.import_linker.specs.Names as link
use Rattle.import_linker.specs.Reading.{AreNext, CannotReadNext, IsMisread, RefusesReading}
use Rattle.import_linker.specs.Refusing.{IsMisnamed, RefusesLink}
use Rattle.import_linker.specs.declared.fault.LinkFault.{LinkFault}
use Rattle.import_linker.specs.declared.fault.LinkFault.TheVariants as fault
use Rattle.import_linker.specs.formats.Format.{format_of}
use Rattle.import_linker.specs.formats.Reading.{HasFault}
use Rattle.import_linker.specs.declared.formats.fault.ReadFault.{ReadFault}
use Rattle.import_linker.specs.declared.formats.fault.ReadFault.TheVariants.{Text, Json}
use Rattle.import_linker.specs.declared.formats.format.Format.{Format}
use Rattle.import_linker.specs.declared.formats.format.Format.TheVariants.{InText, InJson}
use Rattle.import_linker.specs.declared.sources.Source.{Source}
use Rattle.import_linker.proofs.Once.{none_lacking, same_files}
use Rattle.bril_explain.specs.Explained.{IsFaultOf, Refuses, RefusesLinked}
use Rattle.bril_explain.specs.Files.{IsFunctionOf, functions_of}
use Rattle.bril_explain.specs.Held.{HoldTarget, HoldsByte, HoldsFunction, HoldsSource}
use Rattle.bril_explain.specs.Kept.{AreAllKept, AreOf, StopsIn, bytes_at, kept_seen}
use Rattle.bril_explain.specs.Target.{check_target, fault_path, json_target, name_target, target_of, text_target}
use Rattle.bril_explain.specs.declared.kept.KeptFile.{KeptFile}
use Rattle.bril_explain.specs.declared.target.Target.{Target}
use Rattle.bril_explain.specs.declared.target.Target.TheVariants.{Byte, Keys, Function, Item, Named, File}
use Rattle.bril_explain.proofs.Functions.{linked_count, source_held, standing}
use Rattle.bril_explain.proofs.Tokens.{order_inside}
use Rattle.bril_explain.proofs.Within.{linked_within, long_within, many_within, misnamed_within, misread_within}

-- ---- the byte that a fault of a text names

starts_inside : (source : List ℕ) (ts : List Token) (at left : ℕ) → AreInOrder at ts (length source) → position_of source (drop left ts) ≤ length source
starts_inside source [] at zero order = omega arith
starts_inside source [] at (suc left) order = omega arith
starts_inside source (t ∷ ts) at zero order = let rest = order_inside t.to ts (length source) order.2 in omega (arith, rest, order.1)
starts_inside source (t ∷ ts) at (suc left) order = starts_inside source ts t.to left order.2

fault_inside : (source : List ℕ) (ts : List Token) (at left : ℕ) → AreTokens source ts → at ≡ position_of source (drop (length ts - left) ts) → at ≤ length source
fault_inside source ts at left are is =
    subst (λ (n : ℕ). n ≤ length source) (sym is) (starts_inside source ts 0 (length ts - left) (AreTokens-in_order source ts are))

module _ (map : FileMap) (root : List ℕ) where
  -- ---- the name of a function

  -- the file at fault is one of those that were read
  named_source : (done rest all : List Source) (number : ℕ) (path : List ℕ) (why : link.NameFault) → AreNext (Some map) root done rest → fault_from all number rest ≡ Some (path, why) → HoldsSource map path
  named_source done [] all number path why are at = cc
  named_source done (s ∷ rest) all number path why are at =
      go (name_fault all number s) at (named_source (done ++ s ∷ []) rest all (number + 1) path why are.1)
    where
      go : (o : Option link.NameFault) → option_or (option_map (λ (f : link.NameFault). (s.path, f)) o) (fault_from all (number + 1) rest) ≡ Some (path, why)
          → (fault_from all (number + 1) rest ≡ Some (path, why) → HoldsSource map path) → HoldsSource map path
      go None at later = later at
      go (Some f) at later =
          let pair : (s.path, f) ≡ (path, why) = cc in
          let same : s.path ≡ path = ap (λ (p : List ℕ × link.NameFault). p.0) pair in
          subst (HoldsSource map) same (source_held map root done s are.0)

-- ---- the function that a fault names

-- it is one of the tree's
abbrev IsThere : Target → ℕ → Type 0
IsThere (Byte at) count = Unit {0}
IsThere (Keys func item) count = Unit {0}
IsThere (Function func) count = func < count
IsThere (Item func item) count = func < count
IsThere Named count = Unit {0}
IsThere File count = Unit {0}

name_there : (tree : Tree) (why : NameFault) → names.HasFault tree why → IsThere (name_target why) (length tree.funcs)
name_there tree (name.NoFunction func item) has = subst (λ (n : ℕ). n < length tree.funcs) (sym has.has.0) (slice_get_within tree.funcs has.number has.function has.here)
name_there tree (name.TwiceFunction func) has =
    let within = slice_get_within (names.function_names tree) func has.name has.here in
    let many : length (names.function_names tree) ≡ length tree.funcs = length-map tree.funcs _ in
    omega (arith, within, many)
name_there tree (name.NoLabel func item) has = subst (λ (n : ℕ). n < length tree.funcs) (sym has.has.0) (slice_get_within tree.funcs has.number has.function has.here)
name_there tree (name.TwiceLabel func item) has = subst (λ (n : ℕ). n < length tree.funcs) (sym has.has.0) (slice_get_within tree.funcs has.number has.function has.here)
name_there tree name.NoMain has = tt
name_there tree (name.TwiceArg func) has = subst (λ (n : ℕ). n < length tree.funcs) (sym has.has.0) (slice_get_within tree.funcs has.number has.function has.here)
name_there tree name.Memory has = tt

main_there : (p : Prog) → p.main < length p.funcs
main_there p = go (slice_get p.funcs p.main) refl
  where
    go : (o : Option Func) → slice_get p.funcs p.main ≡ o → p.main < length p.funcs
    go None is = let none : ◌≡◌ {A = Option (List ℕ)} None (Some main_name) = ap (option_map (λ (f : Func). f.name)) (sym is) ∙ p.formed.main_is in cc
    go (Some f) is = slice_get_within p.funcs p.main f is

check_there : (p : Prog) (why : CheckFault) → checker.HasFault p why → IsThere (check_target p.main why) (length p.funcs)
check_there p (check.Types func item) has = subst (λ (n : ℕ). n < length p.funcs) (sym has.has.0) (slice_get_within p.funcs has.number has.function has.here)
check_there p (check.Arity func item) has = subst (λ (n : ℕ). n < length p.funcs) (sym has.has.0) (slice_get_within p.funcs has.number has.function has.here)
check_there p (check.MaybeUnassigned func item variable) has = subst (λ (n : ℕ). n < length p.funcs) (sym has.has.0) (slice_get_within p.funcs has.number has.function has.here)
check_there p (check.Nest func item) has = subst (λ (n : ℕ). n < length p.funcs) (sym has.has.0) (slice_get_within p.funcs has.number has.function has.here)
check_there p (check.SpecCall func item) has = subst (λ (n : ℕ). n < length p.funcs) (sym has.has.0) (slice_get_within p.funcs has.number has.function has.here)
check_there p (check.NoReturn func item) has = subst (λ (n : ℕ). n < length p.funcs) (sym has.has.0) (slice_get_within p.funcs has.number has.function has.here)
check_there p check.MainType has = main_there p
check_there p (check.PrintPtr func item) has = subst (λ (n : ℕ). n < length p.funcs) (sym has.has.0) (slice_get_within p.funcs has.number has.function has.here)
check_there p check.Memory has = tt

-- a program has as many functions as its tree
as_many_functions : (tree : Tree) (p : Prog) → IsOnlyProgram tree p → length p.funcs ≡ length tree.funcs
as_many_functions tree p only = sym (ap (λ (fs : List FuncTree). length fs) only.numbered.functions ∙ length-map p.funcs _)

module _ (kept : List KeptFile) (root : List ℕ) where
  abbrev map : FileMap
  map = bytes_at kept

  -- ---- by files that are linked

  function_held : AreAllKept kept root → (tree : Tree) → Linked (Some map) root tree → (func : ℕ) → func < length tree.funcs → HoldsFunction kept root func
  function_held all tree linked func lt =
      let count : length tree.funcs ≡ functions_of linked.sources =
      ap (λ (fs : List FuncTree). length fs) linked.links.funcs ∙ linked_count linked.links.run (link.paths_of linked.sources) 0 linked.sources in
      let same : linked.sources ≡ all.sources = same_files map root linked.sources all.sources linked.files all.files in
      let few : func < functions_of all.sources = subst (λ (l : List Source). func < functions_of l) same (omega (arith, lt, count)) in
      let found = standing map root [] kept all.sources tt all.files.read all.in_order func few in
      let none : functions_of [] + func ≡ func = omega arith in
      record {
        file = found.file;
        own = found.own;
        found = found.found;
        is = subst (λ (n : ℕ). IsFunctionOf (Some map) root n found.file.path found.own) none found.is;
        source = found.source;
      }

  name_held : AreAllKept kept root → (tree : Tree) → Linked (Some map) root tree → (why : NameFault) → IsThere (name_target why) (length tree.funcs) → HoldTarget kept root root (name_target why)
  name_held all tree linked (name.NoFunction func item) there = function_held all tree linked func there
  name_held all tree linked (name.TwiceFunction func) there = function_held all tree linked func there
  name_held all tree linked (name.NoLabel func item) there = function_held all tree linked func there
  name_held all tree linked (name.TwiceLabel func item) there = function_held all tree linked func there
  name_held all tree linked name.NoMain there = tt
  name_held all tree linked (name.TwiceArg func) there = function_held all tree linked func there
  name_held all tree linked name.Memory there = tt

  check_held : AreAllKept kept root → (tree : Tree) → Linked (Some map) root tree → (p : Prog) (why : CheckFault) → IsThere (check_target p.main why) (length tree.funcs)
      → HoldTarget kept root root (check_target p.main why)
  check_held all tree linked p (check.Types func item) there = function_held all tree linked func there
  check_held all tree linked p (check.Arity func item) there = function_held all tree linked func there
  check_held all tree linked p (check.MaybeUnassigned func item variable) there = function_held all tree linked func there
  check_held all tree linked p (check.Nest func item) there = function_held all tree linked func there
  check_held all tree linked p (check.SpecCall func item) there = function_held all tree linked func there
  check_held all tree linked p (check.NoReturn func item) there = function_held all tree linked func there
  check_held all tree linked p check.MainType there = function_held all tree linked p.main there
  check_held all tree linked p (check.PrintPtr func item) there = function_held all tree linked func there
  check_held all tree linked p check.Memory there = tt

  -- ---- by one file

  text_held : (path : List ℕ) (why : TextFault) → IsMisread (Some map) root path (Text why) → HoldTarget kept root path (text_target why)
  text_held path why m = go (format_of path) why m.has.has
    where
      holds : (at : ℕ) → at ≤ length m.bytes → HoldsByte map path at
      holds at inside = record { source = m.bytes; held = m.held; inside = inside }

      go : (format : Format) (why : TextFault) → HasFault format m.bytes (Text why) → HoldTarget kept root path (text_target why)
      go InText (text.Lex at) has =
          let whole : length m.bytes ≡ length (bytes_of has.pieces) + length has.rest = ap length has.cut ∙ length-append (bytes_of has.pieces) has.rest in
          holds at (omega (arith, whole, has.position))
      go InText (text.Grammar at) has = holds at (fault_inside m.bytes has.tokens at has.left has.are has.position)
      go InText (text.IntRange at) has = holds at (fault_inside m.bytes has.tokens at has.left has.are has.position)
      go InText (text.Float at) has = holds at (fault_inside m.bytes has.tokens at has.left has.are has.position)
      go InText (text.Deep at) has = holds at (fault_inside m.bytes has.tokens at has.left has.are has.position)
      go InText text.Memory has = tt
      go InJson why has = absurd has

  json_held : (path : List ℕ) (why : JsonFault) → HoldTarget kept root path (json_target why)
  json_held path json.Syntax = tt
  json_held path (json.Shape None item) = tt
  json_held path (json.Shape (Some func) item) = tt
  json_held path (json.IntRange func item) = tt
  json_held path (json.Float None item) = tt
  json_held path (json.Float (Some func) item) = tt
  json_held path (json.Deep None item) = tt
  json_held path (json.Deep (Some func) item) = tt
  json_held path json.Memory = tt

  misnamed_held : (path : List ℕ) (why : link.NameFault) → IsMisnamed (Some map) root path why → HoldsSource map path
  misnamed_held path why m = named_source map root [] m.sources m.sources 0 path why m.files.read m.first

  -- ---- what a status says of them

  abbrev pub IsFaultHeld : Status → Type 0
  IsFaultHeld how = IsFaultOf how map root × HoldTarget kept root (fault_path root how) (target_of how)

  misread_held : (path : List ℕ) (why : ReadFault) → IsMisread (Some map) root path why → IsFaultHeld (status.Misread path why)
  misread_held path (Text why) m = (m, text_held path why m)
  misread_held path (Json why) m = (m, json_held path why)

  -- the files were not all read
  pub held_by_reading : (before after : FilesSeen) (why : LinkFault) → RefusesReading why before after root → StopsIn why kept root → IsFaultHeld (link_status why)
  held_by_reading before after (fault.Read path) refuses stops = (tt, tt)
  held_by_reading before after (fault.Bad path why) refuses stops = misread_held path why stops
  held_by_reading before after (fault.NotThere path name) refuses stops = absurd refuses
  held_by_reading before after (fault.Clash path name) refuses stops = absurd refuses
  held_by_reading before after fault.TooManyFiles refuses stops = (tt, tt)
  held_by_reading before after fault.TooManyBytes refuses stops = (tt, tt)
  held_by_reading before after fault.Memory refuses stops = (tt, tt)

  -- they have no tree
  held_by_link : (after : FilesSeen) (why : LinkFault) → RefusesLink why (kept_seen kept) after root → IsFaultHeld (link_status why)
  held_by_link after (fault.Read path) refuses = (tt, tt)
  held_by_link after (fault.Bad path why) refuses = misread_held path why refuses
  held_by_link after (fault.NotThere path name) refuses = (refuses, misnamed_held path (link.not_there name) refuses)
  held_by_link after (fault.Clash path name) refuses = (refuses, misnamed_held path (link.clash name) refuses)
  held_by_link after fault.TooManyFiles refuses = (tt, tt)
  held_by_link after fault.TooManyBytes refuses = (tt, tt)
  held_by_link after fault.Memory refuses = (tt, tt)

  -- their tree has no accepted program
  held_by_program : AreAllKept kept root → (how : Status) → RefusesLinked how (Some map) root → IsFaultHeld how
  held_by_program all status.Done r = (tt, tt)
  held_by_program all (status.Faulted why) r = (tt, tt)
  held_by_program all (status.Spent steps) r = (tt, tt)
  held_by_program all (status.Trapped trap) r = (tt, tt)
  held_by_program all (status.Misused misuse) r = (tt, tt)
  held_by_program all (status.Misread path why) r = absurd r.refuses
  held_by_program all (status.NotThere path name) r = absurd r.refuses
  held_by_program all (status.Clash path name) r = absurd r.refuses
  held_by_program all (status.Misnamed why) r = (r, name_held all r.tree r.is why (name_there r.tree why r.refuses.has))
  held_by_program all (status.Unaccepted p why) r =
      (r, check_held all r.tree r.is p why (subst (IsThere (check_target p.main why)) (as_many_functions r.tree p r.refuses.0) (check_there p why r.refuses.1.has)))
  held_by_program all (status.MisreadListing path line) r = (tt, tt)
  held_by_program all (status.MisreadElf path at) r = (tt, tt)
  held_by_program all (status.CannotRead path) r = (tt, tt)
  held_by_program all status.TooManyBytes r = (tt, tt)
  held_by_program all status.TooManyFiles r = (tt, tt)
  held_by_program all (status.CodeTooBig words) r = (tt, tt)
  held_by_program all (status.StackTooBig words) r = (tt, tt)
  held_by_program all (status.PassTooLarge place bound) r = (tt, tt)
  held_by_program all (status.ArgumentCount given wanted) r = (tt, tt)
  held_by_program all (status.BadArgument position) r = (tt, tt)
  held_by_program all (status.ArgumentRoom given room) r = (tt, tt)
  held_by_program all status.ProfileTooLarge r = (tt, tt)
  held_by_program all (status.MisreadProfile line) r = (tt, tt)
  held_by_program all status.ScriptTooLarge r = (tt, tt)
  held_by_program all (status.MisreadScript line) r = (tt, tt)
  held_by_program all (status.UnknownPass place) r = (tt, tt)
  held_by_program all status.OutOfMemory r = (tt, tt)
  held_by_program all status.CannotWrite r = (tt, tt)

  -- ---- what was kept refuses as the files do

  module _ (all : AreAllKept kept root) (before after : FilesSeen) (are : AreOf before.holds map) where
    -- no file that is next is lacking
    none_lacks : (seen : FilesSeen) → seen.faults ≡ 0 → (path : List ℕ) → CannotReadNext (kept_seen kept) seen root path → ⊥
    none_lacks seen sound path h = elim h.fails [
      | inl rose ↦ absurd (omega (arith, rose, sound))
      | inr lacks ↦ none_lacking map root all.sources all.files h.done path h.stops.read h.stops.next lacks
    ]

    link_refused : (seen : FilesSeen) → seen.faults ≡ 0 → (why : LinkFault) → RefusesLink why (kept_seen kept) seen root → RefusesLink why before after root
    link_refused seen sound (fault.Read path) h = absurd (none_lacks seen sound path h)
    link_refused seen sound (fault.Bad path why) h = misread_within (Some map) before.holds are root path why h
    link_refused seen sound (fault.NotThere path name) h = misnamed_within (Some map) before.holds are root path (link.not_there name) h
    link_refused seen sound (fault.Clash path name) h = misnamed_within (Some map) before.holds are root path (link.clash name) h
    link_refused seen sound fault.TooManyFiles h = many_within (Some map) before.holds are root h
    link_refused seen sound fault.TooManyBytes h = long_within (Some map) before.holds are root h
    link_refused seen sound fault.Memory h = tt

    pub refused : (seen : FilesSeen) → seen.faults ≡ 0 → (how : Status) → Refuses how (kept_seen kept) seen root → Refuses how before after root
    refused seen sound how (inl tree) = inl (tree.0, tree.1, link_refused seen sound tree.0 tree.2)
    refused seen sound how (inr linked) = inr (record { tree = linked.tree; is = linked_within (Some map) before.holds are root linked.tree linked.is; refuses = linked.refuses })

    pub fault_held : (seen : FilesSeen) (how : Status) → Refuses how (kept_seen kept) seen root → IsFaultHeld how
    fault_held seen how (inl tree) = subst IsFaultHeld (sym tree.1) (held_by_link seen tree.0 tree.2)
    fault_held seen how (inr linked) = held_by_program all how linked
