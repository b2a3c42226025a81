-- The keywords of the grammar.
use Rattle.std.proofs.Common.{◌≡◌, ℕ, Bool, true, false, cond, List, [], ◌∷◌, Option, Some, None, codes, bytes_eq, Decides, refl, sym, subst, ap}
use Rattle.std.specs.Prelude.{is_none, unwrap_or}
use Rattle.std.specs.List.{list_any}
use Rattle.std.proofs.lemmas.Slice.Eq.{bytes_eq-Decides}
use Rattle.bril_tree.specs.declared.operation.Op.{Op}
use Rattle.bril_tree.specs.declared.types.Base.{Base}
use Rattle.bril_tree.specs.declared.types.Base.TheVariants as base
use Rattle.bril_grammar.specs.declared.keyword.Keyword.{Keyword}
use Rattle.bril_grammar.specs.declared.keyword.Keyword.TheVariants.{From, Import, As, BaseType, Ptr, FloatType, Const, Truth, Operation, FloatOperation, Plain}
use Rattle.bril_grammar.specs.Keyword.{Entry, entries, keyword_among, operation_or_plain, keyword_of}
use Rattle.bril_tree.specs.Spelling.{operation_text, operation_of, base_text, truth_text, float_operations}
use Rattle.bril_tree.proofs.Named.{operation_is_named, named_is_found, each_passes}

pub keyword_from : keyword_of (codes "from") ≡ From
unfolding keyword_of
keyword_from = refl

pub keyword_import : keyword_of (codes "import") ≡ Import
unfolding keyword_of
keyword_import = refl

pub keyword_as : keyword_of (codes "as") ≡ As
unfolding keyword_of
keyword_as = refl

pub keyword_ptr : keyword_of (codes "ptr") ≡ Ptr
unfolding keyword_of
keyword_ptr = refl

pub keyword_const : keyword_of (codes "const") ≡ Const
unfolding keyword_of
keyword_const = refl

pub keyword_base : (b : Base) → keyword_of (base_text b) ≡ BaseType b
unfolding keyword_of
keyword_base base.Int = refl
keyword_base base.Bool = refl
keyword_base base.Char = refl

pub keyword_truth : (b : Bool) → keyword_of (truth_text b) ≡ Truth b
unfolding keyword_of
keyword_truth true = refl
keyword_truth false = refl

-- no operation has the text of an entry
is_no_entry : Op → Bool
is_no_entry o = is_none (keyword_among entries (operation_text o))

pub keyword_operation : (o : Op) → keyword_of (operation_text o) ≡ Operation o
unfolding keyword_of is_no_entry
keyword_operation o = by (keyword_among entries (operation_text o)) (each_passes is_no_entry refl o)
  where
    by : (k : Option Keyword) → is_none k ≡ true → unwrap_or k (operation_or_plain (operation_of (operation_text o)) (list_any (bytes_eq (operation_text o)) float_operations)) ≡ Operation o
    by None e = ap (λ (p : Option Op). operation_or_plain p (list_any (bytes_eq (operation_text o)) float_operations)) (named_is_found o)
    by (Some k) e = absurd (cc)

-- the text of a keyword
abbrev pub Means : List ℕ → Keyword → Type 0
Means text From = text ≡ codes "from"
Means text Import = text ≡ codes "import"
Means text As = text ≡ codes "as"
Means text (BaseType b) = text ≡ base_text b
Means text Ptr = text ≡ codes "ptr"
Means text FloatType = text ≡ codes "float"
Means text Const = text ≡ codes "const"
Means text (Truth b) = text ≡ truth_text b
Means text (Operation o) = text ≡ operation_text o
Means text FloatOperation = Unit {0}
Means text Plain = Unit {0}

AllMean : List Entry → Type 0
AllMean [] = Unit {0}
AllMean (e ∷ es) = Means e.text e.keyword × AllMean es

means_named : (text : List ℕ) (o : Option Op) (float : Bool) → operation_of text ≡ o → Means text (operation_or_plain o float)
means_named text (Some operation) float e = (operation_is_named operation text).0 e
means_named text None true e = tt
means_named text None false e = tt

-- the keyword of an entry, or another one that the text means
means_among : (es : List Entry) (text : List ℕ) (other : Keyword) → AllMean es → Means text other → Means text (unwrap_or (keyword_among es text) other)
unfolding AllMean
means_among [] text other h m = m
means_among (e ∷ es) text other h m = by (bytes_eq text e.text) (bytes_eq-Decides text e.text) (means_among es text other h.1 m)
  where
    by : (b : Bool) → Decides b (text ≡ e.text) → Means text (unwrap_or (keyword_among es text) other) → Means text (unwrap_or (cond b (Some e.keyword) (keyword_among es text)) other)
    by true same rest = subst (λ x. Means x e.keyword) (sym (same.0 refl)) h.0
    by false same rest = rest

all_mean : AllMean entries
unfolding AllMean
all_mean = (refl, (refl, (refl, (refl, (refl, (refl, (refl, (refl, (refl, (refl, (refl, tt)))))))))))

pub means : (text : List ℕ) → Means text (keyword_of text)
unfolding keyword_of
means text = means_among entries text _ all_mean (means_named text (operation_of text) (list_any (bytes_eq text) float_operations) refl)
