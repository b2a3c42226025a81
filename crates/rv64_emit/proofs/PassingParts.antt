-- The words and the sizes of the parts that pass arguments, one argument more.
use Rattle.std.proofs.Common.{◌≡◌, ℕ, suc, ◌+◌, ◌<◌, Bool, true, false, cond, eqb, List, [], ◌∷◌, ◌++◌, length, drop, map, get_or, refl, sym, ap, ◌∙◌, arith, add-one, append_assoc, drop-cons}
use Rattle.std.proofs.lemmas.List.{map-append}
use Rattle.bril_tree.specs.declared.home.Home.{Home}
use Rattle.rv64_words.specs.declared.word.Word.{Word}
use Rattle.rv64_words.specs.Encoding.{encoded}
use Rattle.rv64_words_laws.specs.sequences.Moves.{Move, save_size, save_words, restore_size, restore_words}
use Rattle.rv64_words_laws.specs.sequences.Sequences.{copied_word}
use Rattle.slot_code.specs.declared.slots.SlotFunction.{SlotFunction}
use Rattle.rv64_emit_laws.specs.layout.Homes.{FunctionHomes, argument_word, variable_home}
use Rattle.rv64_emit_laws.specs.layout.Passing.{Way, nowhere, stored, swapped, copied, loaded, pass_copies, pass_copies_size, pass_loads, pass_stores, way, way_at, with_copy, with_copy_size, with_load, with_store}
use Rattle.rv64_emit.specs.declared.passing.Part.{Part}
use Rattle.rv64_emit.specs.declared.passing.Part.TheVariants.{Stores, Copies, Loads}
use Rattle.rv64_emit.specs.PassingParts.{one_size, one_words, part_size, part_words}

-- ---- by the way of the argument

stores_more : (w : Way) (from : Home) (word : ℕ) (moves : List Move) → one_words Stores w from word ++ save_words moves ≡ save_words (with_store w (record { home = from; word = word }) moves)
stores_more nowhere from word moves = refl
stores_more stored from word moves = refl
stores_more (swapped r) from word moves = refl
stores_more (copied r s) from word moves = refl
stores_more (loaded r o) from word moves = refl

copies_more : (w : Way) (from : Home) (word : ℕ) (words : List Word) → one_words Copies w from word ++ words ≡ with_copy w words
copies_more nowhere from word words = refl
copies_more stored from word words = refl
copies_more (swapped r) from word words = refl
copies_more (copied r s) from word words = by (eqb r s)
  where
    by : (t : Bool) → cond t [] (copied_word r s ∷ []) ++ words ≡ cond t words (copied_word r s ∷ words)
    by true = refl
    by false = refl
copies_more (loaded r o) from word words = refl

loads_more : (w : Way) (from : Home) (word : ℕ) (moves : List Move) → one_words Loads w from word ++ restore_words moves ≡ restore_words (with_load w word moves)
loads_more nowhere from word moves = refl
loads_more stored from word moves = refl
loads_more (swapped r) from word moves = refl
loads_more (copied r s) from word moves = refl
loads_more (loaded r o) from word moves = refl

stores_size_more : (w : Way) (from : Home) (word : ℕ) (moves : List Move) → one_size Stores w from word + save_size moves ≡ save_size (with_store w (record { home = from; word = word }) moves)
stores_size_more nowhere from word moves = omega arith
stores_size_more stored from word moves = refl
stores_size_more (swapped r) from word moves = refl
stores_size_more (copied r s) from word moves = omega arith
stores_size_more (loaded r o) from word moves = omega arith

copies_size_more : (w : Way) (from : Home) (word size : ℕ) → one_size Copies w from word + size ≡ with_copy_size w size
copies_size_more nowhere from word size = omega arith
copies_size_more stored from word size = omega arith
copies_size_more (swapped r) from word size = omega arith
copies_size_more (copied r s) from word size = by (eqb r s)
  where
    by : (t : Bool) → cond t 0 1 + size ≡ cond t size (suc size)
    by true = omega arith
    by false = omega arith
copies_size_more (loaded r o) from word size = omega arith

loads_size_more : (w : Way) (from : Home) (word : ℕ) (moves : List Move) → one_size Loads w from word + restore_size moves ≡ restore_size (with_load w word moves)
loads_size_more nowhere from word moves = omega arith
loads_size_more stored from word moves = omega arith
loads_size_more (swapped r) from word moves = refl
loads_size_more (copied r s) from word moves = omega arith
loads_size_more (loaded r o) from word moves = refl

-- ---- all of them

module _ (homes : FunctionHomes) (g : SlotFunction) (to k a : ℕ) (args : List ℕ) where
  words_more : (part : Part) → one_words part (way_at homes g to k a args) (variable_home homes a) (argument_word g k) ++ part_words part homes g to (suc k) args ≡ part_words part homes g to k (a ∷ args)
  words_more Stores = stores_more (way_at homes g to k a args) (variable_home homes a) (argument_word g k) (pass_stores homes g to (suc k) args)
  words_more Copies = copies_more (way_at homes g to k a args) (variable_home homes a) (argument_word g k) (pass_copies homes g to (suc k) args)
  words_more Loads = loads_more (way_at homes g to k a args) (variable_home homes a) (argument_word g k) (pass_loads homes g to (suc k) args)

  pub size_more : (part : Part) → one_size part (way_at homes g to k a args) (variable_home homes a) (argument_word g k) + part_size part homes g to (suc k) args ≡ part_size part homes g to k (a ∷ args)
  size_more Stores = stores_size_more (way_at homes g to k a args) (variable_home homes a) (argument_word g k) (pass_stores homes g to (suc k) args)
  size_more Copies = copies_size_more (way_at homes g to k a args) (variable_home homes a) (argument_word g k) (pass_copies_size homes g to (suc k) args)
  size_more Loads = loads_size_more (way_at homes g to k a args) (variable_home homes a) (argument_word g k) (pass_loads homes g to (suc k) args)

  -- the words of one argument more were put
  pub part_more : (part : Part) (w : Way) (old new : List ℕ) → w ≡ way_at homes g to k a args → new ≡ old ++ map encoded (one_words part w (variable_home homes a) (argument_word g k)) →
      new ++ map encoded (part_words part homes g to (suc k) args) ≡ old ++ map encoded (part_words part homes g to k (a ∷ args))
  part_more part w old new is put =
      let one = one_words part (way_at homes g to k a args) (variable_home homes a) (argument_word g k) in
      let rest = part_words part homes g to (suc k) args in
      ap (λ code. code ++ map encoded rest) (put ∙ ap (λ x. old ++ map encoded (one_words part x (variable_home homes a) (argument_word g k))) is)
      ∙ (append_assoc old (map encoded one) (map encoded rest) ∙ ap (λ bits. old ++ bits) (sym (map-append encoded one rest) ∙ ap (map encoded) (words_more part)))

-- ---- one argument after another

module _ (part : Part) (homes : FunctionHomes) (g : SlotFunction) (to : ℕ) (args : List ℕ) (k d : ℕ) (less : k < length args) (later : List ℕ) (rest : later ≡ drop (k + 1) args) (w : Way)
    (is : w ≡ way homes (homes.given to k) (variable_home homes (get_or args k d)) later) where
  now_is : drop k args ≡ get_or args k d ∷ drop (suc k) args
  now_is = drop-cons args k d less

  next_is : drop (k + 1) args ≡ drop (suc k) args
  next_is = ap (λ j. drop j args) (add-one k)

  way_is : w ≡ way_at homes g to k (get_or args k d) (drop (suc k) args)
  way_is = is ∙ ap (way homes (homes.given to k) (variable_home homes (get_or args k d))) (rest ∙ next_is)

  pub part_next : (code next whole : List ℕ) → next ≡ code ++ map encoded (one_words part w (variable_home homes (get_or args k d)) (argument_word g k)) →
      code ++ map encoded (part_words part homes g to k (drop k args)) ≡ whole → next ++ map encoded (part_words part homes g to (k + 1) (drop (k + 1) args)) ≡ whole
  part_next code next whole put so_far =
      ap (λ xs. next ++ map encoded (part_words part homes g to (k + 1) xs)) next_is
      ∙ (ap (λ j. next ++ map encoded (part_words part homes g to j (drop (suc k) args))) (add-one k)
      ∙ (part_more homes g to k (get_or args k d) (drop (suc k) args) part w code next way_is put
      ∙ (ap (λ xs. code ++ map encoded (part_words part homes g to k xs)) (sym now_is) ∙ so_far)))

  pub size_next : (one so_far whole : ℕ) → one ≡ one_size part w (variable_home homes (get_or args k d)) (argument_word g k) →
      so_far + part_size part homes g to k (drop k args) ≡ whole → so_far + one + part_size part homes g to (k + 1) (drop (k + 1) args) ≡ whole
  size_next one so_far whole its before =
      let now : part_size part homes g to k (drop k args) ≡ part_size part homes g to k (get_or args k d ∷ drop (suc k) args) = ap (part_size part homes g to k) now_is in
      let more = size_more homes g to k (get_or args k d) (drop (suc k) args) part in
      let its_way = ap (λ x. one_size part x (variable_home homes (get_or args k d)) (argument_word g k)) way_is in
      let later_size : part_size part homes g to (k + 1) (drop (k + 1) args) ≡ part_size part homes g to (suc k) (drop (suc k) args) =
      ap (part_size part homes g to (k + 1)) next_is ∙ ap (λ j. part_size part homes g to j (drop (suc k) args)) (add-one k) in
      omega arith
