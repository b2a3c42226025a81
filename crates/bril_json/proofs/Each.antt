-- A loop over a list that reads one value after another.
use Rattle.std.proofs.Common.{◌≡◌, ℕ, suc, ◌+◌, ◌<◌, ◌≤◌, List, [], ◌∷◌, ◌++◌, length, get_or, drop, refl, sym, ap, ◌∙◌, append_assoc, add-one, drop-cons, arith}
use Rattle.std.proofs.Math.ListN.{drop_of_length-le}
use Rattle.std.proofs.lemmas.List.{append-nil}
use Rattle.std.specs.Prelude.{Result, Ok, Err}
use Rattle.serde_json.specs.Data.{Data}
use Rattle.serde_json.specs.View.{view, items_view}
use Rattle.serde_json.specs.declared.value.Value.{Value}
use Rattle.bril_json.specs.Steps.{◌>>=◌, each_from}
use Rattle.bril_json.specs.declared.fault.JsonFault.{JsonFault}

-- what was read before, and then what is read
abbrev pub prepended : {A : Type 0} → List A → Result (List A) JsonFault → Result (List A) JsonFault
prepended done (Ok rest) = Ok (done ++ rest)
prepended done (Err fault) = Err fault

-- the values of the list before i were read, and gave what is done
pub record HasRead {A : Type 0} (read : ℕ → Data → Result A JsonFault) (list : List Value) (done : List A) (i : ℕ) : Type 0 where
  pub same : prepended done (each_from read i (items_view (drop i list))) ≡ each_from read 0 (items_view list)

prepended-none : {A : Type 0} (r : Result (List A) JsonFault) → prepended [] r ≡ r
prepended-none (Ok rest) = refl
prepended-none (Err fault) = refl

prepended-one : {A : Type 0} (done : List A) (x : A) (r : Result (List A) JsonFault) → prepended done (r >>= (λ xs. Ok (x ∷ xs))) ≡ prepended (done ++ (x ∷ [])) r
prepended-one done x (Ok rest) = ap Ok (sym (append_assoc done (x ∷ []) rest))
prepended-one done x (Err fault) = refl

pub begins : {A : Type 0} (read : ℕ → Data → Result A JsonFault) (list : List Value) → HasRead read list [] 0
begins read list = record { same = prepended-none (each_from read 0 (items_view list)) }

at_value : (list : List Value) (i : ℕ) (value : Value) → i < length list → value ≡ get_or list i value → drop i list ≡ value ∷ drop (i + 1) list
at_value list i value below is = drop-cons list i value below ∙ ap (λ v. v ∷ drop (suc i) list) (sym is) ∙ ap (λ n. value ∷ drop n list) (sym (add-one i))

-- a value that is read
pub goes_on : {A : Type 0} (read : ℕ → Data → Result A JsonFault) (list : List Value) (done : List A) (i : ℕ) (value : Value) (x : A) (next : List A) →
    HasRead read list done i → i < length list → value ≡ get_or list i value → read i (view value) ≡ Ok x → next ≡ done ++ (x ∷ []) → HasRead read list next (i + 1)
goes_on read list done i value x next r below is ok pushed = record {
  same =
      ap (λ l. prepended l (each_from read (i + 1) (items_view (drop (i + 1) list)))) pushed
      ∙ ap (λ n. prepended (done ++ (x ∷ [])) (each_from read n (items_view (drop (i + 1) list)))) (add-one i)
      ∙ sym (prepended-one done x (each_from read (suc i) (items_view (drop (i + 1) list))))
      ∙ ap (λ s. prepended done (s >>= (λ y. each_from read (suc i) (items_view (drop (i + 1) list)) >>= (λ ys. Ok (y ∷ ys))))) (sym ok)
      ∙ ap (λ l. prepended done (each_from read i (items_view l))) (sym (at_value list i value below is))
      ∙ r.same;
}

-- the same, where the value's number is counted separately
pub goes_on_numbered : {A : Type 0} (read : ℕ → Data → Result A JsonFault) (list : List Value) (done : List A) (i n : ℕ) (value : Value) (x : A) (next : List A) →
    HasRead read list done i → i < length list → value ≡ get_or list i value → n ≡ i → read n (view value) ≡ Ok x → next ≡ done ++ (x ∷ []) → HasRead read list next (i + 1)
goes_on_numbered read list done i n value x next r below is e ok pushed =
    goes_on read list done i value x next r below is (ap (λ m. read m (view value)) (sym e) ∙ ok) pushed

-- a value that has a fault
pub fails : {A : Type 0} (read : ℕ → Data → Result A JsonFault) (list : List Value) (done : List A) (i : ℕ) (value : Value) (fault : JsonFault) →
    HasRead read list done i → i < length list → value ≡ get_or list i value → read i (view value) ≡ Err fault → each_from read 0 (items_view list) ≡ Err fault
fails read list done i value fault r below is err =
    sym r.same
    ∙ ap (λ l. prepended done (each_from read i (items_view l))) (at_value list i value below is)
    ∙ ap (λ s. prepended done (s >>= (λ y. each_from read (suc i) (items_view (drop (i + 1) list)) >>= (λ ys. Ok (y ∷ ys))))) err

-- the end of the list
pub ends : {A : Type 0} (read : ℕ → Data → Result A JsonFault) (list : List Value) (done : List A) (i : ℕ) → HasRead read list done i → i ≡ length list → each_from read 0 (items_view list) ≡ Ok done
ends read list done i r end =
    let past : length list ≤ i = omega arith in
    sym r.same ∙ ap (λ l. prepended done (each_from read i (items_view l))) (drop_of_length-le list past) ∙ ap Ok (append-nil done)
