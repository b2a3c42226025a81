-- Each function that an item of a linked tree names is there.
use Rattle.std.proofs.Common.{◌≡◌, ◌∙◌, refl, sym, ap, subst, Bool, true, false, not, ℕ, zero, suc, ◌+◌, ◌<◌, List, [], ◌∷◌, length, map, get_or, arith, Option, Some, None, inl, inr, ⊎_elim, cond}
use Rattle.std.specs.Prelude.{bytes_eq, find, slice_get}
use Rattle.std.specs.List.{position_or_len}
use Rattle.std.specs.Option.{option_map_or}
use Rattle.std.proofs.lemmas.Bool.{true≢false}
use Rattle.std.proofs.lemmas.List.Elements.{Contains-get_or}
use Rattle.bril_names.specs.Faults as names
use Rattle.bril_tree.proofs.Members.{contains_in, in_append_cases, in_append_left, in_append_right, in_contains, in_flat_map, in_map, in_map_source}
use Rattle.bril_tree.proofs.Elements.{get_in}
use Rattle.bril_tree.specs.Membership.{In}
use Rattle.bril_tree.specs.declared.function_tree.FuncTree.{FuncTree}
use Rattle.bril_tree.specs.declared.function_tree.Item.{Item}
use Rattle.bril_tree.specs.declared.function_tree.Item.TheVariants as item
use Rattle.import_linker.proofs.FileNames.{as_many}
use Rattle.import_linker.proofs.LookedUp.{place_inside}
use Rattle.import_linker.specs.Linked.{beside, linked_file, linked_from, linked_name, renamed_function, renamed_item, spelled}
use Rattle.import_linker.specs.Names.{Function, callees, callees_of, contains, is_there, item_callees, local_names, meanings, own_functions, own_names, paths_of, taken_of}
use Rattle.import_linker.specs.declared.sources.Source.{Source}
use Rattle.import_linker.proofs.lemmas.linked_names.Differing.{contained_in, in_contained, names_are, names_from}
use Rattle.import_linker.proofs.lemmas.linked_names.Faultless.{AreSoundFiles, IsSoundFile, map_none, sound_files}
use Rattle.import_linker.proofs.lemmas.linked_names.Spelling.{name_in}
use Rattle.import_linker.specs.linked_names.Laws.{LinkedFunctionsAreThere}

-- ---- elements of lists

-- none is found, so each fails the test
none_found : {A : Type 0} (p : A → Bool) (xs : List A) → find p xs ≡ None → (x : A) → In x xs → p x ≡ false
none_found p [] none x i = absurd i
none_found p (y ∷ ys) none x (inl e) = go (p y) refl none
  where
    go : (b : Bool) → p y ≡ b → cond b (Some y) (find p ys) ≡ None → p x ≡ false
    go true is h = cc
    go false is h = ap p e ∙ is
none_found p (y ∷ ys) none x (inr i) = go (p y) none (λ h. none_found p ys h x i)
  where
    go : (b : Bool) → cond b (Some y) (find p ys) ≡ None → (find p ys ≡ None → p x ≡ false) → p x ≡ false
    go true h rest = cc
    go false h rest = rest h

not_false : (b : Bool) → not b ≡ false → b ≡ true
not_false true e = refl
not_false false e = sym e

got_in : {A : Type 0} (xs : List A) (k : ℕ) (d : A) → k < length xs → In (get_or xs k d) xs
got_in xs k d low = in_contains (get_or xs k d) xs (Contains-get_or xs k d low)

-- ---- the names of all functions have those of each file

module _ (run : ℕ) (paths : List (List ℕ)) where
  zero_plus : (n : ℕ) → n + 0 ≡ n
  zero_plus n = omega arith

  one_later : (n k : ℕ) → (n + 1) + k ≡ n + suc k
  one_later n k = omega arith

  there_from : (sources : List Source) (number k : ℕ) (name : List ℕ) → contains (option_map_or own_names (slice_get sources k) []) name ≡ true → In (name_in run (number + k) name) (names_from run paths number sources)
  there_from [] number k name there = absurd (true≢false (sym there))
  there_from (s ∷ rest) number zero name there =
      in_append_left (name_in run (number + 0) name) (map (name_in run number) (own_names s)) (names_from run paths (number + 1) rest)
      (subst (λ n. In (name_in run n name) (map (name_in run number) (own_names s))) (sym (zero_plus number)) (in_map (name_in run number) name (own_names s) (contained_in name (own_names s) there)))
  there_from (s ∷ rest) number (suc k) name there =
      in_append_right (name_in run (number + suc k) name) (map (name_in run number) (own_names s)) (names_from run paths (number + 1) rest)
      (subst (λ n. In (name_in run n name) (names_from run paths (number + 1) rest)) (one_later number k) (there_from rest (number + 1) k name there))

  -- a function of the tree is one of a file
  record IsOf (sources : List Source) (number : ℕ) (function : FuncTree) : Type 0 where
    file : ℕ
    s : Source
    here : slice_get sources file ≡ Some s
    f : FuncTree
    has : In f s.tree.funcs
    is : function ≡ renamed_function run (number + file) (linked_name run paths (number + file) s) f

  function_of : (sources : List Source) (number : ℕ) (function : FuncTree) → In function (linked_from run paths number sources) → IsOf sources number function
  function_of [] number function i = absurd i
  function_of (s ∷ rest) number function i = ⊎_elim
      (λ h.
      let source = in_map_source (renamed_function run number (linked_name run paths number s)) function s.tree.funcs h in
      let same : number ≡ number + 0 = sym (zero_plus number) in
      record { file = 0; s = s; here = refl; f = source.0; has = source.1; is = subst (λ n. function ≡ renamed_function run n (linked_name run paths n s) source.0) same source.2 })
      (λ h.
      let later = function_of rest (number + 1) function h in
      record { file = suc later.file; s = later.s; here = later.here; f = later.f; has = later.has; is = subst (λ n. function ≡ renamed_function run n (linked_name run paths n later.s) later.f) (one_later number later.file) later.is })
      (in_append_cases function (linked_file run paths number s) (linked_from run paths (number + 1) rest) i)

-- a file's names are not at fault
sound_at : (sources rest : List Source) → AreSoundFiles sources rest → (k : ℕ) (s : Source) → slice_get rest k ≡ Some s → IsSoundFile sources s
sound_at sources [] sound k s here = absurd cc
sound_at sources (x ∷ rest) sound zero s here = let same : x ≡ s = cc in subst (IsSoundFile sources) same sound.0
sound_at sources (x ∷ rest) sound (suc k) s here = sound_at sources rest sound.1 k s here

-- ---- the names that an item names

callees_renamed : (rename : List ℕ → List ℕ) (i : Item) → names.callees_of (renamed_item rename i) ≡ map rename (callees_of i)
callees_renamed rename (item.Label name) = refl
callees_renamed rename (item.Const dest ty value) = refl
callees_renamed rename (item.Act dest op args funcs labels) = refl

zero_first : (n : ℕ) → 0 + n ≡ n
zero_first n = omega arith

module _ (run : ℕ) (sources : List Source) where
  abbrev all_names : List (List ℕ)
  all_names = names_from run (paths_of sources) 0 sources

  module _ (number : ℕ) (s : Source) (here : slice_get sources number ≡ Some s) (sound : IsSoundFile sources s) where
    -- a function that a name in the file stands for is there
    meaning_there : (g : Function) → In g (meanings (paths_of sources) number s) → In (spelled run g) all_names
    meaning_there g i = ⊎_elim
        (λ taken.
        let there : is_there sources g ≡ true = not_false (is_there sources g) (none_found (λ f. not (is_there sources f)) (taken_of (paths_of sources) s) (map_none (λ (f : Function). f.name) (find (λ f. not (is_there sources f)) (taken_of (paths_of sources) s)) sound.taken) g taken) in
        subst (λ n. In (name_in run n g.name) all_names) (zero_first g.file) (there_from run (paths_of sources) sources 0 g.file g.name there))
        (λ mine.
        let source = in_map_source (λ (f : FuncTree). record { file = number; name = f.name }) g s.tree.funcs mine in
        let name = in_map (λ (f : FuncTree). f.name) source.0 s.tree.funcs source.1 in
        subst (λ (h : Function). In (spelled run h) all_names) (sym source.2) (own_there source.0.name name))
        (in_append_cases g (taken_of (paths_of sources) s) (own_functions number s.tree.funcs) i)
      where
        own_there : (name : List ℕ) → In name (own_names s) → In (name_in run number name) all_names
        own_there name i = subst (λ n. In (name_in run n name) all_names) (zero_first number) (there_from run (paths_of sources) sources 0 number name
            (subst (λ (o : Option Source). contains (option_map_or own_names o []) name ≡ true) (sym here) (in_contained name (own_names s) i)))

    -- so is what stands beside a name
    beside_there : (name : List ℕ) → contains (local_names s) name ≡ true → In (linked_name run (paths_of sources) number s name) all_names
    beside_there name known =
        let others = map (spelled run) (meanings (paths_of sources) number s) in
        let inside = place_inside name (local_names s) known in
        let length_is = as_many run (paths_of sources) number s in
        let i : In (beside (local_names s) others name) others = got_in others (position_or_len (bytes_eq name) (local_names s)) [] (subst (λ n. position_or_len (bytes_eq name) (local_names s) < n) (sym length_is) inside) in
        let source = in_map_source (spelled run) (beside (local_names s) others name) (meanings (paths_of sources) number s) i in
        subst (λ (x : List ℕ). In x all_names) (sym source.2) (meaning_there source.0 source.1)

    -- each function that an item of the file names
    callee_there : (f : FuncTree) → In f s.tree.funcs → (i : Item) → In i f.code → (x : List ℕ) → In x (map (linked_name run (paths_of sources) number s) (callees_of i)) → In x all_names
    callee_there f has i within x called =
        let source = in_map_source (linked_name run (paths_of sources) number s) x (callees_of i) called in
        let named = in_flat_map (λ (g : FuncTree). item_callees g.code) f source.0 s.tree.funcs has (in_flat_map callees_of i source.0 f.code within source.1) in
        let known = not_false (contains (local_names s) source.0) (none_found (λ name. not (contains (local_names s) name)) (callees s.tree.funcs) sound.known source.0 named) in
        subst (λ (y : List ℕ). In y all_names) (sym source.2) (beside_there source.0 known)

pub functions_are_there : LinkedFunctionsAreThere
functions_are_there holds root tree linked func place fault =
    let links = linked.links in
    let sources = linked.sources in
    let run = links.run in
    let paths = paths_of sources in
    let lack = fault.has.3 in
    let among : In fault.function (linked_from run paths 0 sources) = subst (λ (l : List FuncTree). In fault.function l) links.funcs (get_in tree.funcs fault.number fault.function fault.here) in
    let of = function_of run paths sources 0 fault.function among in
    let sound = sound_at sources sources (sound_files sources 0 sources links.faultless) of.file of.s of.here in
    let rename = linked_name run paths of.file of.s in
    let is : fault.function ≡ renamed_function run of.file rename of.f = subst (λ n. fault.function ≡ renamed_function run n (linked_name run paths n of.s) of.f) (zero_first of.file) of.is in
    let code : In lack.lacking (map (renamed_item rename) of.f.code) = subst (λ (f : FuncTree). In lack.lacking f.code) is (get_in fault.function.code place lack.lacking lack.here) in
    let source = in_map_source (renamed_item rename) lack.lacking of.f.code code in
    let names_is : map (λ (f : FuncTree). f.name) tree.funcs ≡ names_from run paths 0 sources = ap (map (λ (f : FuncTree). f.name)) links.funcs ∙ names_are run paths 0 sources in
    let called : names.callees_of lack.lacking ≡ map rename (callees_of source.0) = ap names.callees_of source.2 ∙ callees_renamed rename source.0 in
    lack.lacks (λ k d low.
    let x = get_or (names.callees_of lack.lacking) k d in
    let i : In x (map rename (callees_of source.0)) = subst (λ (l : List (List ℕ)). In x l) called (got_in (names.callees_of lack.lacking) k d low) in
    contains_in x (map (λ (f : FuncTree). f.name) tree.funcs) (subst (λ (l : List (List ℕ)). In x l) (sym names_is) (callee_there run sources of.file of.s of.here sound of.f of.has source.0 source.1 x i)))
