-- Words that spell ints: the types of their values are as many ints.
use Rattle.std.proofs.Common.{◌≡◌, ◌≢◌, ℕ, ◌<◌, List, [], ◌∷◌, length, get_or, Some, Result, Ok, Err, refl, sym, subst, arith}
use Rattle.std.specs.Prelude.{IfOk, IfErr, MatchResult}
use Rattle.std.specs.List.{All}
use Rattle.std.proofs.lemmas.List.{length-map, get_or-map}
use Rattle.std.proofs.lemmas.List.Elements.{All-nil, All-cons}
use Rattle.bril_tree.specs.declared.value.Value.{Value}
use Rattle.bril_arguments.specs.Faults.{IsFaultOf}
use Rattle.bril_arguments.specs.Ints.{int_type, int_types, AreInts, IsIntInRange, IsIntFaultOf}
use Rattle.bril_arguments.specs.declared.fault.ArgFault.{ArgFault}
use Rattle.bril_arguments.specs.declared.fault.ArgFault.TheVariants.{Count, Spelling, Memory}
use Rattle.bril_arguments.proofs.Outcomes as outcomes
use Rattle.bril_arguments.proofs.Outcomes.{IsAt}

-- ---- the values

all_ints : (words : List (List ℕ)) (values : List Value) → AreInts words values → All IsIntInRange values
all_ints [] [] h = All-nil IsIntInRange
all_ints [] (v ∷ vs) h = absurd h
all_ints (w ∷ ws) [] h = absurd h
all_ints (w ∷ ws) (v ∷ vs) h = All-cons IsIntInRange v vs (h.0.0, h.0.1, h.0.3) (all_ints ws vs h.1)

as_many : (words : List (List ℕ)) (values : List Value) → AreInts words values → length values ≡ length words
as_many [] [] h = refl
as_many [] (v ∷ vs) h = absurd h
as_many (w ∷ ws) [] h = absurd h
as_many (w ∷ ws) (v ∷ vs) h = let rest = as_many ws vs h.1 in omega arith

-- ---- the whole answer

module _ (words : List (List ℕ)) where
  fault_of : (f : ArgFault) → IsIntFaultOf words f → IsFaultOf (int_types words) words f
  fault_of (Count given wanted) h = absurd h
  fault_of (Spelling place) h = (sym (length-map words (λ _. Some int_type)), h)
  fault_of Memory h = h

  fault_in : (r : Result (List Value) ArgFault) → IfErr r (λ e. IsIntFaultOf words e) → IfErr r (λ e. IsFaultOf (int_types words) words e)
  fault_in (Ok vs) fault = tt
  fault_in (Err e) fault = fault_of e fault

  pub ints : (r : Result (List Value) ArgFault) → IfOk r (λ vs. AreInts words vs) → IfOk r (λ vs. All IsIntInRange vs)
  ints (Ok vs) all = all_ints words vs all
  ints (Err e) all = tt

  pub len : (r : Result (List Value) ArgFault) → IfOk r (λ vs. AreInts words vs) → IfOk r (λ vs. length vs ≡ length words)
  len (Ok vs) all = as_many words vs all
  len (Err e) all = tt

  pub reads : (r : Result (List Value) ArgFault) → IfOk r (λ vs. AreInts words vs) → IfErr r (λ e. IsIntFaultOf words e)
      → (values : List Value) → AreInts words values → MatchResult r (λ found. found ≡ values) (λ e. e ≡ Memory)
  reads r all fault = outcomes.reads (int_types words) words r all (fault_in r fault)

  pub faults : (r : Result (List Value) ArgFault) → IfOk r (λ vs. AreInts words vs) → IfErr r (λ e. IsIntFaultOf words e)
      → (f : ArgFault) → f ≢ Memory → IsIntFaultOf words f → MatchResult r (λ _. ⊥) (λ e. e ≡ f)
  faults r all fault f some is = outcomes.faults (int_types words) words r all (fault_in r fault) f some (fault_of f is)

-- ---- word by word

-- the type at a place is that of an int
pub int_at : (words : List (List ℕ)) (i : ℕ) (word : List ℕ) → i < length words → word ≡ get_or words i word → IsAt (int_types words) words i (Some int_type) word
int_at words i word in_words word_is = record {
  in_types = subst (λ n. i < n) (sym (length-map words (λ _. Some int_type))) in_words;
  in_words = in_words;
  type_is = sym (get_or-map (λ _. Some int_type) words i word (Some int_type) in_words);
  word_is = word_is;
}
