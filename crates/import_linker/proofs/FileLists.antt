-- The functions and the faults of files, one file after another.
use Rattle.std.proofs.Common.{◌≡◌, ◌∙◌, refl, sym, ap, subst, ℕ, suc, ◌+◌, ◌<◌, List, [], ◌∷◌, ◌++◌, length, take, drop, get_or, Option, Some, None, append_assoc, append-nil, arith}
use Rattle.std.specs.Option.{option_or}
use Rattle.std.proofs.lemmas.List.{length-take-le, take_more, take-append-drop}
use Rattle.bril_tree.specs.declared.function_tree.FuncTree.{FuncTree}
use Rattle.import_linker.specs.Linked.{linked_file, linked_from}
use Rattle.import_linker.specs.Names.{NameFault, fault_from, fault_of}
use Rattle.import_linker.specs.Refusing.{RefusesNames}
use Rattle.import_linker.specs.declared.fault.LinkFault.{LinkFault}
use Rattle.import_linker.specs.declared.fault.LinkFault.TheVariants as fault
use Rattle.import_linker.specs.declared.sources.Source.{Source}
use Rattle.import_linker.proofs.Firsts.{after_none}

option_assoc : {X : Type 0} (a b c : Option X) → option_or a (option_or b c) ≡ option_or (option_or a b) c
option_assoc None b c = refl
option_assoc (Some x) b c = refl

on : (n m : ℕ) → (n + 1) + m ≡ n + suc m
on n m = omega arith

plus_zero : (n : ℕ) → n + 0 ≡ n
plus_zero n = omega arith

linked-append : (run : ℕ) (paths : List (List ℕ)) (n : ℕ) (xs ys : List Source)
    → linked_from run paths n (xs ++ ys) ≡ linked_from run paths n xs ++ linked_from run paths (n + length xs) ys
linked-append run paths n [] ys = ap (λ k. linked_from run paths k ys) (sym (plus_zero n))
linked-append run paths n (x ∷ xs) ys =
    ap (λ (l : List FuncTree). linked_file run paths n x ++ l) (linked-append run paths (n + 1) xs ys ∙ ap (λ k. linked_from run paths (n + 1) xs ++ linked_from run paths k ys) (on n (length xs)))
    ∙ sym (append_assoc (linked_file run paths n x) (linked_from run paths (n + 1) xs) (linked_from run paths (n + suc (length xs)) ys))

faults-append : (sources : List Source) (n : ℕ) (xs ys : List Source)
    → fault_from sources n (xs ++ ys) ≡ option_or (fault_from sources n xs) (fault_from sources (n + length xs) ys)
faults-append sources n [] ys = ap (λ k. fault_from sources k ys) (sym (plus_zero n))
faults-append sources n (x ∷ xs) ys =
    ap (λ (o : Option (List ℕ × NameFault)). option_or (fault_of sources n x) o)
    (faults-append sources (n + 1) xs ys ∙ ap (λ k. option_or (fault_from sources (n + 1) xs) (fault_from sources k ys)) (on n (length xs)))
    ∙ option_assoc (fault_of sources n x) (fault_from sources (n + 1) xs) (fault_from sources (n + suc (length xs)) ys)

or_none : {X : Type 0} (o : Option X) → option_or o None ≡ o
or_none None = refl
or_none (Some x) = refl

-- the first fault of a file stays the first before others
names_first : (e : LinkFault) (first rest : Option (List ℕ × NameFault)) → RefusesNames e first → RefusesNames e (option_or first rest)
names_first (fault.Read path) first rest h = h
names_first (fault.Bad path why) first rest h = h
names_first (fault.NotThere path name) first rest h = ap (λ (o : Option (List ℕ × NameFault)). option_or o rest) h
names_first (fault.Clash path name) first rest h = ap (λ (o : Option (List ℕ × NameFault)). option_or o rest) h
names_first fault.TooManyFiles first rest h = h
names_first fault.TooManyBytes first rest h = h
names_first fault.Memory first rest h = tt

module _ (sources : List Source) (i : ℕ) (s : Source) (lt : i < length sources) (is : s ≡ get_or sources i s) where
  many : 0 + length (take i sources) ≡ i
  many = let k = length-take-le i sources (omega arith) in omega (arith, k)

  one_more : take (i + 1) sources ≡ take i sources ++ s ∷ []
  one_more = take_more sources i s lt ∙ ap (λ (t : Source). take i sources ++ t ∷ []) (sym is)

  split : sources ≡ take i sources ++ (s ∷ drop (i + 1) sources)
  split =
      sym (take-append-drop (i + 1) sources) ∙ ap (λ (l : List Source). l ++ drop (i + 1) sources) one_more
      ∙ append_assoc (take i sources) (s ∷ []) (drop (i + 1) sources)

  pub linked_more : (run : ℕ) (paths : List (List ℕ)) → linked_from run paths 0 (take (i + 1) sources) ≡ linked_from run paths 0 (take i sources) ++ linked_file run paths i s
  linked_more run paths =
      ap (linked_from run paths 0) one_more ∙ linked-append run paths 0 (take i sources) (s ∷ [])
      ∙ ap (λ (l : List FuncTree). linked_from run paths 0 (take i sources) ++ l) (append-nil (linked_file run paths (0 + length (take i sources)) s) ∙ ap (λ k. linked_file run paths k s) many)

  pub faultless_more : fault_from sources 0 (take i sources) ≡ None → fault_of sources i s ≡ None → fault_from sources 0 (take (i + 1) sources) ≡ None
  faultless_more before here =
      ap (fault_from sources 0) one_more
      ∙ after_none (fault_from sources 0 (take i sources)) _ _ (faults-append sources 0 (take i sources) (s ∷ [])) before
      ∙ or_none (fault_of sources (0 + length (take i sources)) s) ∙ ap (λ k. fault_of sources k s) many ∙ here

  pub is_first : (e : LinkFault) → fault_from sources 0 (take i sources) ≡ None → RefusesNames e (fault_of sources i s) → RefusesNames e (fault_from sources 0 sources)
  is_first e before h =
      let found : fault_from sources 0 sources ≡ option_or (fault_of sources i s) (fault_from sources (i + 1) (drop (i + 1) sources)) =
      ap (fault_from sources 0) split
      ∙ after_none (fault_from sources 0 (take i sources)) _ _ (faults-append sources 0 (take i sources) (s ∷ drop (i + 1) sources)) before
      ∙ ap (λ k. option_or (fault_of sources k s) (fault_from sources (k + 1) (drop (i + 1) sources))) many in
      subst (RefusesNames e) (sym found) (names_first e (fault_of sources i s) (fault_from sources (i + 1) (drop (i + 1) sources)) h)
