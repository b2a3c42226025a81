-- Values or a fault: what an answer is, once it is one of them.
use Rattle.std.proofs.Common.{◌≡◌, ◌≢◌, ℕ, ◌+◌, ◌<◌, Bool, true, false, true≢false, List, [], ◌∷◌, ◌++◌, length, map, take, get_or, Option, Result, Ok, Err, refl, sym, ap, ◌∙◌, subst}
use Rattle.std.specs.Prelude.{IfOk, IfErr, MatchResult}
use Rattle.std.specs.Result.{is_err, OnOk}
use Rattle.std.specs.List.{AllZip}
use Rattle.std.proofs.lemmas.List.{length-map, get_or-map, take_more}
use Rattle.std.proofs.lemmas.Option.{slice_get_read}
use Rattle.bril_tree.specs.Run.{Suits}
use Rattle.bril_tree.specs.declared.numbered.VarInfo.{VarInfo}
use Rattle.bril_tree.specs.declared.types.Ty.{Ty}
use Rattle.bril_tree.specs.declared.value.Value.{Value}
use Rattle.bril_arguments.specs.Spelled.{IsSpelled, AreSpelled}
use Rattle.bril_arguments.specs.Faults.{IsFirstMisspelled, IsFaultOf}
use Rattle.bril_arguments.specs.declared.fault.ArgFault.{ArgFault}
use Rattle.bril_arguments.specs.declared.fault.ArgFault.TheVariants.{Memory}
use Rattle.bril_arguments.proofs.Faults.{one_fault, only_memory}
use Rattle.bril_arguments.proofs.Spelled.{AreSpelled-fit, AreSpelled-one, AreSpelled-push}

-- ---- the whole answer

module _ (types : List (Option Ty)) (words : List (List ℕ)) where
  pub fits : (r : Result (List Value) ArgFault) → IfOk r (λ vs. AreSpelled types words vs) → IfOk r (λ vs. AllZip Suits vs types)
  fits (Ok vs) all = AreSpelled-fit types words vs all
  fits (Err e) all = tt

  pub reads : (r : Result (List Value) ArgFault) → IfOk r (λ vs. AreSpelled types words vs) → IfErr r (λ e. IsFaultOf types words e)
      → (values : List Value) → AreSpelled types words values → MatchResult r (λ found. found ≡ values) (λ e. e ≡ Memory)
  reads (Ok vs) all fault values spelled = AreSpelled-one types words vs values all spelled
  reads (Err e) all fault values spelled = only_memory types words values e spelled fault

  pub faults : (r : Result (List Value) ArgFault) → IfOk r (λ vs. AreSpelled types words vs) → IfErr r (λ e. IsFaultOf types words e)
      → (f : ArgFault) → f ≢ Memory → IsFaultOf types words f → MatchResult r (λ _. ⊥) (λ e. e ≡ f)
  faults (Ok vs) all fault f some is = some (only_memory types words vs f all is)
  faults (Err e) all fault f some is = one_fault types words f e some is fault

-- ---- word by word

-- what holds at success holds where there is no error
pub on_ok : {X E P : Type 0} (r : Result X E) → is_err r ≡ false → OnOk r P → P
on_ok (Ok x) e holds = holds
on_ok (Err e') e holds = absurd (true≢false e)

some_pushed : (values : List Value) (value : Value) → values ++ value ∷ [] ≢ []
some_pushed [] value e = cc
some_pushed (v ∷ vs) value e = cc

abbrev pub types_of : List VarInfo → List (Option Ty)
types_of vars = map (λ (v : VarInfo). v.ty) vars

-- so many words are read, and their values are held, or memory ran out for one
pub record AreRead (types : List (Option Ty)) (words : List (List ℕ)) (count : ℕ) (wanting : Bool) (values : List Value) : Type 0 where
  pub read : List Value
  pub spelled : AreSpelled (take count types) (take count words) read
  pub held : wanting ≡ false → values ≡ read
  pub lost : wanting ≡ true → read ≢ []

-- a word, and the type of the value that it is to spell, at a place
pub record IsAt (types : List (Option Ty)) (words : List (List ℕ)) (i : ℕ) (ty : Option Ty) (word : List ℕ) : Type 0 where
  pub in_types : i < length types
  pub in_words : i < length words
  pub type_is : ty ≡ get_or types i ty
  pub word_is : word ≡ get_or words i word

-- the type is that of the variable there
pub variable_at : (vars : List VarInfo) (words : List (List ℕ)) (i : ℕ) (v : VarInfo) (word : List ℕ) → i < length vars → i < length words → word ≡ get_or words i word
    → IsAt (types_of vars) words i (get_or vars i v).ty word
variable_at vars words i v word in_vars in_words word_is = record {
  in_types = subst (λ n. i < n) (sym (length-map vars (λ (x : VarInfo). x.ty))) in_vars;
  in_words = in_words;
  type_is = sym (get_or-map (λ (x : VarInfo). x.ty) vars i v (get_or vars i v).ty in_vars);
  word_is = word_is;
}

module _ (types : List (Option Ty)) (words : List (List ℕ)) (i : ℕ) (ty : Option Ty) (word : List ℕ) (at : IsAt types words i ty word) where
  -- one more word is read
  pub one_more : (before after : List Value) (value : Value) → AreSpelled (take i types) (take i words) before → IsSpelled ty word value
      → after ≡ before ++ value ∷ [] → AreSpelled (take (i + 1) types) (take (i + 1) words) after
  one_more before after value all one pushed =
      rw (take_more types i ty at.in_types, take_more words i word at.in_words, sym at.type_is, sym at.word_is, pushed)
      (AreSpelled-push (take i types) (take i words) before ty word value all one)

  -- and its value is held, or lost
  pub AreRead-held : (wanting : Bool) (before after : List Value) (value : Value) → AreRead types words i wanting before → IsSpelled ty word value
      → after ≡ before ++ value ∷ [] → AreRead types words (i + 1) wanting after
  AreRead-held wanting before after value are one pushed = record {
    read = are.read ++ value ∷ [];
    spelled = one_more are.read (are.read ++ value ∷ []) value are.spelled one refl;
    held = λ e. pushed ∙ ap (λ vs. vs ++ value ∷ []) (are.held e);
    lost = λ _. some_pushed are.read value;
  }

  pub AreRead-lost : (wanting : Bool) (before after : List Value) (value : Value) → AreRead types words i wanting before → IsSpelled ty word value
      → AreRead types words (i + 1) true after
  AreRead-lost wanting before after value are one = record {
    read = are.read ++ value ∷ [];
    spelled = one_more are.read (are.read ++ value ∷ []) value are.spelled one refl;
    held = λ e. absurd (true≢false e);
    lost = λ _. some_pushed are.read value;
  }

  -- the word is the first that spells nothing
  pub misspelled : (before : List Value) → AreSpelled (take i types) (take i words) before → ((value : Value) → ¬ IsSpelled ty word value)
      → IsFirstMisspelled types words (i + 1)
  misspelled before all nothing = record {
    index = i;
    counted = refl;
    ty = ty;
    word = word;
    ty_here = slice_get_read types (length types) i ty refl at.in_types at.type_is;
    word_here = slice_get_read words (length words) i word refl at.in_words at.word_is;
    values = before;
    before = all;
    none = nothing;
  }
