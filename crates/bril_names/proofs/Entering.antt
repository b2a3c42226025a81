-- Variables that appear: what is known of them afterwards.
use Rattle.std.proofs.Common.{◌≡◌, ◌≢◌, ℕ, zero, suc, ◌+◌, ◌<◌, Bool, true, false, ltb, eqb, List, [], ◌∷◌, ◌++◌, length, get_or, set, Option, Some, None, refl, sym, ap, ◌∙◌, subst, inl, inr, arith}
use Rattle.std.specs.Prelude.{◌⊎◌, slice_get, nat_eq, option_and_then, Result, Ok, Err, IfOk, OnOk}
use Rattle.std.specs.List.{Contains}
use Rattle.std.proofs.lemmas.Bool.{cond-true, cond-false, lt-ltb, le-ltb, eq-eqb, ne_eqb, cases_eq, cases_order}
use Rattle.std.proofs.lemmas.List.{append-nil, append_assoc, length-map, length_push, length-set, map_push, map-set, set-get_or, get_or-map, get_or_append_left, get_or_at}
use Rattle.std.proofs.lemmas.Option.{slice_get-get_or, slice_get_past}
use Rattle.std.specs.declared.alloc.AllocError.{AllocError}
use Rattle.bril_tree.specs.declared.numbered.VarInfo.{VarInfo}
use Rattle.bril_tree.specs.declared.types.Ty.{Ty}
use Rattle.bril_tree.specs.FunctionForm.{known_after, typed_if, first_of_two}
use Rattle.bril_tree.specs.Numbered.{named, variable_names}
use Rattle.bril_names.specs.Faults.{Differ}
use Rattle.bril_names.specs.Numbering.{Enters, StandsFor, type_of_variable, with_type}
use Rattle.bril_names.proofs.Decisions.{Differ-push}

-- ---- types

pub first_of_two-none : (ty : Option Ty) → first_of_two ty None ≡ ty
first_of_two-none None = refl
first_of_two-none (Some ty) = refl

pub first_of_two-assoc : (a b c : Option Ty) → first_of_two (first_of_two a b) c ≡ first_of_two a (first_of_two b c)
first_of_two-assoc None b c = refl
first_of_two-assoc (Some ty) b c = refl

-- ---- numbers that appear

pub known-old : (known x : ℕ) (xs : List ℕ) → x < known → known_after known (x ∷ xs) ≡ known_after known xs
known-old known x xs l = cond-true _ _ _ (lt-ltb x known l)

known-new : (known x : ℕ) (xs : List ℕ) → x ≡ known → known_after known (x ∷ xs) ≡ known_after (known + 1) xs
known-new known x xs e = cond-false _ _ _ (le-ltb x known (omega arith)) ∙ cond-true _ _ _ (eq-eqb x known e)

-- what the tests of the next number decide, once for all that follows
stepped : (known x m : ℕ) (xs ys : List ℕ) → ((k : ℕ) → known_after k xs ≡ Some m → known_after k (xs ++ ys) ≡ known_after m ys)
    → (a b : Bool) → ltb x known ≡ a → eqb x known ≡ b → known_after known (x ∷ xs) ≡ Some m → known_after known (x ∷ (xs ++ ys)) ≡ known_after m ys
stepped known x m xs ys again true b e f h = cond-true _ _ _ e ∙ again known (sym (cond-true _ _ _ e) ∙ h)
stepped known x m xs ys again false true e f h =
    cond-false _ _ _ e ∙ cond-true _ _ _ f ∙ again (known + 1) (sym (cond-false _ _ _ e ∙ cond-true _ _ _ f) ∙ h)
stepped known x m xs ys again false false e f h = let g : None ≡ Some m = sym (cond-false _ _ _ e ∙ cond-false _ _ _ f) ∙ h in absurd cc

known_after-append : (known m : ℕ) (xs ys : List ℕ) → known_after known xs ≡ Some m → known_after known (xs ++ ys) ≡ known_after m ys
known_after-append known m [] ys h = let e : known ≡ m = cc in ap (λ k. known_after k ys) e
known_after-append known m (x ∷ xs) ys h = stepped known x m xs ys (λ k g. known_after-append k m xs ys g) (ltb x known) (eqb x known) refl refl h

-- ---- one after the other

pub Enters-append : (before between after : List VarInfo) (xs ys : List ℕ) (first second both : ℕ → Option Ty)
    → Enters before between xs first → Enters between after ys second → ((x : ℕ) → both x ≡ first_of_two (first x) (second x)) → Enters before after (xs ++ ys) both
Enters-append before between after xs ys first second both one two e = record {
  added = one.added ++ two.added;
  grows = two.grows ∙ ap (λ names. names ++ two.added) one.grows ∙ append_assoc (variable_names before) one.added two.added;
  appear = known_after-append (length before) (length between) xs ys one.appear ∙ two.appear;
  types = λ x. two.types x ∙ ap (λ ty. first_of_two ty (second x)) (one.types x) ∙ first_of_two-assoc (type_of_variable before x) (first x) (second x)
      ∙ ap (first_of_two (type_of_variable before x)) (sym (e x));
  differ = λ d. two.differ (one.differ d);
}

-- the same facts of equal numbers and types
pub Enters-like : (before after : List VarInfo) (xs ys : List ℕ) (first second : ℕ → Option Ty) → xs ≡ ys → ((x : ℕ) → second x ≡ first x) → Enters before after xs first → Enters before after ys second
Enters-like before after xs ys first second e same one = record {
  added = one.added;
  grows = one.grows;
  appear = ap (known_after (length before)) (sym e) ∙ one.appear;
  types = λ x. one.types x ∙ ap (first_of_two (type_of_variable before x)) (sym (same x));
  differ = one.differ;
}

-- a name of more variables stands among those of fewer, too
pub more_names : (before after : List VarInfo) (xs : List ℕ) (assigned : ℕ → Option Ty) (enters : Enters before after xs assigned) (more : List (List ℕ))
    → variable_names after ++ more ≡ variable_names before ++ (enters.added ++ more)
more_names before after xs assigned enters more =
    ap (λ names. names ++ more) enters.grows ∙ append_assoc (variable_names before) enters.added more

-- ---- one variable

-- a variable that is in no list
pub no_variable : VarInfo
no_variable = record { name = []; ty = None }

typed_if-same : (x y : ℕ) (ty : Option Ty) → y ≡ x → typed_if (nat_eq y x) ty ≡ ty
typed_if-same x y ty e = cond-true _ _ _ (eq-eqb y x e)

typed_if-other : (x y : ℕ) (ty : Option Ty) → y ≢ x → typed_if (nat_eq y x) ty ≡ None
typed_if-other x y ty ne = cond-false _ _ _ (ne_eqb y x ne)

-- a write leaves the other places alone
get_set_other : (vars : List VarInfo) (x y : ℕ) (v : VarInfo) → y ≢ x → slice_get (set vars x v) y ≡ slice_get vars y
get_set_other [] x y v ne = refl
get_set_other (u ∷ vars) zero zero v ne = absurd (ne refl)
get_set_other (u ∷ vars) zero (suc y) v ne = refl
get_set_other (u ∷ vars) (suc x) zero v ne = refl
get_set_other (u ∷ vars) (suc x) (suc y) v ne = get_set_other vars x y v (λ e. ne (ap suc e))

get_set_same : (vars : List VarInfo) (x : ℕ) (v : VarInfo) → x < length vars → slice_get (set vars x v) x ≡ Some v
get_set_same [] x v within = absurd (omega arith)
get_set_same (u ∷ vars) zero v within = refl
get_set_same (u ∷ vars) (suc x) v within = get_set_same vars x v (omega arith)

-- a longer list has the same at the places of the shorter
get_append : (vars more : List VarInfo) (x : ℕ) → x < length vars → slice_get (vars ++ more) x ≡ slice_get vars x
get_append [] more x within = absurd (omega arith)
get_append (v ∷ vars) more zero within = refl
get_append (v ∷ vars) more (suc x) within = get_append vars more x (omega arith)

get_push : (vars : List VarInfo) (v : VarInfo) → slice_get (vars ++ v ∷ []) (length vars) ≡ Some v
get_push [] v = refl
get_push (u ∷ vars) v = get_push vars v

abbrev type_in : Option VarInfo → Option Ty
type_in o = option_and_then (λ (v : VarInfo). v.ty) o

-- a write that keeps the variable's name keeps all names
pub names_set : (vars : List VarInfo) (x : ℕ) (v d : VarInfo) → x < length vars → v.name ≡ (get_or vars x d).name → variable_names (set vars x v) ≡ variable_names vars
names_set vars x v d within e =
    map-set (λ (w : VarInfo). w.name) vars x v
    ∙ ap (set (variable_names vars) x) (e ∙ sym (get_or-map (λ (w : VarInfo). w.name) vars x d d.name within))
    ∙ set-get_or (variable_names vars) x d.name

-- a variable that is known gets a type where it has none
module _ (vars after : List VarInfo) (x : ℕ) (ty : Option Ty) (d : VarInfo) (within : x < length vars) (is : after ≡ set vars x (with_type (get_or vars x d) ty)) where
  names_kept : variable_names after ≡ variable_names vars
  names_kept = ap variable_names is ∙ names_set vars x (with_type (get_or vars x d) ty) d within refl

  types_kept : (y : ℕ) → (y ≡ x) ⊎ (y ≡ x → ⊥) → type_of_variable after y ≡ first_of_two (type_of_variable vars y) (typed_if (nat_eq y x) ty)
  types_kept y (inl e) =
      ap (λ list. type_of_variable list y) is ∙ ap (type_of_variable (set vars x (with_type (get_or vars x d) ty))) e
      ∙ ap type_in (get_set_same vars x (with_type (get_or vars x d) ty) within)
      ∙ (λ i. first_of_two (sym (ap (type_of_variable vars) e ∙ ap type_in (slice_get-get_or vars x d within)) i) (sym (typed_if-same x y ty e) i))
  types_kept y (inr ne) =
      ap (λ list. type_of_variable list y) is ∙ ap type_in (get_set_other vars x y (with_type (get_or vars x d) ty) ne)
      ∙ sym (first_of_two-none (type_of_variable vars y)) ∙ ap (first_of_two (type_of_variable vars y)) (sym (typed_if-other x y ty ne))

  pub assigned : Enters vars after (x ∷ []) (λ y. typed_if (nat_eq y x) ty)
  assigned = record {
    added = [];
    grows = names_kept ∙ sym (append-nil (variable_names vars));
    appear = known-old (length vars) x [] within ∙ ap Some (sym (ap length is ∙ length-set vars x (with_type (get_or vars x d) ty)));
    types = λ y. types_kept y (cases_eq y x);
    differ = λ differ. subst Differ (sym names_kept) differ;
  }

  pub assigned_name : (name : List ℕ) → named (variable_names vars) x ≡ name → StandsFor after x name
  assigned_name name e more =
      ap (λ names. named (names ++ more) x) names_kept
      ∙ get_or_append_left (variable_names vars) more [] x (subst (λ n. x < n) (sym (length-map vars (λ (v : VarInfo). v.name))) within) ∙ e

-- a new variable goes last
module _ (vars after : List VarInfo) (x : ℕ) (name : List ℕ) (ty : Option Ty) (next : x ≡ length vars) (is : after ≡ vars ++ record { name = name; ty = ty } ∷ []) where
  names_grow : variable_names after ≡ variable_names vars ++ name ∷ []
  names_grow = ap variable_names is ∙ map_push (λ (v : VarInfo). v.name) vars (record { name = name; ty = ty })

  types_grow : (y : ℕ) → (y ≡ length vars) ⊎ ((y < length vars) ⊎ (length vars < y)) → type_of_variable after y ≡ first_of_two (type_of_variable vars y) (typed_if (nat_eq y x) ty)
  types_grow y (inl e) =
      let here : slice_get (vars ++ record { name = name; ty = ty } ∷ []) y ≡ Some (record { name = name; ty = ty }) = ap (slice_get (vars ++ record { name = name; ty = ty } ∷ [])) e ∙ get_push vars (record { name = name; ty = ty }) in
      let past : slice_get vars y ≡ None = slice_get_past vars y (omega arith) in
      ap (λ list. type_of_variable list y) is ∙ ap type_in here ∙ (λ i. first_of_two (sym (ap type_in past) i) (sym (typed_if-same x y ty (e ∙ sym next)) i))
  types_grow y (inr (inl l)) =
      ap (λ list. type_of_variable list y) is ∙ ap type_in (get_append vars (record { name = name; ty = ty } ∷ []) y l)
      ∙ sym (first_of_two-none (type_of_variable vars y)) ∙ ap (first_of_two (type_of_variable vars y)) (sym (typed_if-other x y ty (λ e. let f = e ∙ next in omega arith)))
  types_grow y (inr (inr l)) =
      let len = length_push vars (record { name = name; ty = ty }) in
      let past : slice_get (vars ++ record { name = name; ty = ty } ∷ []) y ≡ None = slice_get_past (vars ++ record { name = name; ty = ty } ∷ []) y (omega arith) in
      let before : slice_get vars y ≡ None = slice_get_past vars y (omega arith) in
      ap (λ list. type_of_variable list y) is ∙ ap type_in past
      ∙ (λ i. first_of_two (sym (ap type_in before) i) (sym (typed_if-other x y ty (λ e. let f = e ∙ next in omega arith)) i))

  appended : ¬ Contains (variable_names vars) name → Enters vars after (x ∷ []) (λ y. typed_if (nat_eq y x) ty)
  appended new = record {
    added = name ∷ [];
    grows = names_grow;
    appear = known-new (length vars) x [] next ∙ ap Some (sym (ap length is ∙ length_push vars (record { name = name; ty = ty })));
    types = λ y. types_grow y (cases_order y (length vars));
    differ = λ differ.
        subst Differ (sym names_grow) (Differ-push (variable_names vars) name differ new);
  }

  appended_name : StandsFor after x name
  appended_name more =
      ap (λ names. named (names ++ more) x) names_grow
      ∙ ap (λ names. named names x) (append_assoc (variable_names vars) (name ∷ []) more)
      ∙ get_or_at (variable_names vars) name more [] x (length-map vars (λ (v : VarInfo). v.name) ∙ sym next)

-- what appending says of the variable that is entered
pub append_enters : (vars after : List VarInfo) (name : List ℕ) (ty : Option Ty) (r : Result ℕ AllocError) → ¬ Contains (variable_names vars) name
    → IfOk r (λ x. x ≡ length vars) → OnOk r (after ≡ vars ++ record { name = name; ty = ty } ∷ []) → IfOk r (λ x. Enters vars after (x ∷ []) (λ y. typed_if (nat_eq y x) ty))
append_enters vars after name ty (Ok x) new next is = appended vars after x name ty next is new
append_enters vars after name ty (Err e) new next is = is

pub append_stands : (vars after : List VarInfo) (name : List ℕ) (ty : Option Ty) (r : Result ℕ AllocError)
    → IfOk r (λ x. x ≡ length vars) → OnOk r (after ≡ vars ++ record { name = name; ty = ty } ∷ []) → IfOk r (λ x. StandsFor after x name)
append_stands vars after name ty (Ok x) next is = appended_name vars after x name ty next is
append_stands vars after name ty (Err e) next is = is
