-- A source has at most one value, and so one tree or one fault.
use Rattle.std.proofs.Common.{◌≡◌, ℕ, Bool, true, false, List, Option, Some, None, Result, Ok, Err, refl, ap, ◌∙◌, subst, ◌⊎◌, inl, inr}
use Rattle.std.specs.Str.{IsUtf8, is_utf8}
use Rattle.std.proofs.lemmas.Str.{IsUtf8-from_is_utf8, is_utf8-from_IsUtf8}
use Rattle.serde_json.specs.Data.{Data}
use Rattle.serde_json.specs.Read.{read}
use Rattle.bril_tree.specs.SourceLaws.{SourcesSpellOneTree, SourcesHaveOneFault, SpelledHaveNoFault, EachHasTreeOrFault}
use Rattle.bril_tree.specs.declared.tree.Tree.{Tree}
use Rattle.bril_json.specs.Form.{tree_of}
use Rattle.bril_json.specs.Reading.{IsValue, JsonOf, HasFault, HasFaultWithin, IsFaultOf}
use Rattle.bril_json.specs.declared.fault.JsonFault.{JsonFault}
use Rattle.bril_json.specs.declared.fault.JsonFault.TheVariants.{Syntax, Shape, IntRange, Float, Deep, Memory}
use Rattle.bril_json.proofs.Sound.{FaultIsOfTable, tree_of-sound}

pub one_value : (source : List ℕ) (d e : Data) → IsValue source d → IsValue source e → d ≡ e
one_value source d e v w = let one = v.reads in let other = w.reads in cc

-- the source's tree is that of its value
pub is_tree : (source : List ℕ) (d : Data) (tree : Tree) → IsValue source d → JsonOf source tree → tree_of d ≡ Ok tree
is_tree source d tree v j = ap tree_of (one_value source d j.value v j.is) ∙ j.makes

is_within : (source : List ℕ) (d : Data) (why : JsonFault) → IsValue source d → HasFaultWithin source why → tree_of d ≡ Err why
is_within source d why v h = ap tree_of (one_value source d h.value v h.is) ∙ h.fails

-- the source's fault is that of its value
pub is_fault : (source : List ℕ) (d : Data) (why : JsonFault) → IsValue source d → HasFault source why → tree_of d ≡ Err why
is_fault source d Syntax v h = absurd (h d v)
is_fault source d (Shape func i) v h = is_within source d (Shape func i) v h
is_fault source d (IntRange func i) v h = is_within source d (IntRange func i) v h
is_fault source d (Float func i) v h = is_within source d (Float func i) v h
is_fault source d (Deep func i) v h = is_within source d (Deep func i) v h
is_fault source d Memory v h = absurd h

-- the fault of the source's value is the source's
pub has_fault : (source : List ℕ) (d : Data) (why : JsonFault) → IsValue source d → tree_of d ≡ Err why → HasFault source why
has_fault source d why v fails = by why (subst FaultIsOfTable fails (tree_of-sound d).is) fails
  where
    by : (f : JsonFault) → FaultIsOfTable {A = Tree} (Err f) → tree_of d ≡ Err f → HasFault source f
    by Syntax s e = absurd s
    by (Shape func i) s e = record { value = d; is = v; fails = e }
    by (IntRange func i) s e = record { value = d; is = v; fails = e }
    by (Float func i) s e = record { value = d; is = v; fails = e }
    by (Deep func i) s e = record { value = d; is = v; fails = e }
    by Memory s e = absurd s

-- what a reader of the source's value returns
pub answers_fault : (source : List ℕ) (d : Data) → IsValue source d → (fault : JsonFault) → (fault ≡ Memory) ⊎ (tree_of d ≡ Err fault) → IsFaultOf source fault
answers_fault source d v fault (inl memory) = inl memory
answers_fault source d v fault (inr fails) = inr (has_fault source d fault v fails)

pub one_tree : SourcesSpellOneTree JsonOf
one_tree source t u j k = let one = j.makes in let other = is_tree source j.value u j.is k in cc

one_within : (source : List ℕ) (f g : JsonFault) → HasFaultWithin source f → HasFault source g → f ≡ g
one_within source f g h k = let one = h.fails in let other = is_fault source h.value g h.is k in cc

no_value : (source : List ℕ) (g : JsonFault) → HasFault source Syntax → HasFault source g → Syntax ≡ g
no_value source Syntax h k = refl
no_value source (Shape func i) h k = absurd (h k.value k.is)
no_value source (IntRange func i) h k = absurd (h k.value k.is)
no_value source (Float func i) h k = absurd (h k.value k.is)
no_value source (Deep func i) h k = absurd (h k.value k.is)
no_value source Memory h k = absurd k

pub one_fault : SourcesHaveOneFault HasFault
one_fault source Syntax g h k = no_value source g h k
one_fault source (Shape func i) g h k = one_within source (Shape func i) g h k
one_fault source (IntRange func i) g h k = one_within source (IntRange func i) g h k
one_fault source (Float func i) g h k = one_within source (Float func i) g h k
one_fault source (Deep func i) g h k = one_within source (Deep func i) g h k
one_fault source Memory g h k = absurd h

pub no_fault : SpelledHaveNoFault JsonOf HasFault
no_fault source tree f j h = let one = j.makes in let other = is_fault source j.value f j.is h in cc

abbrev HasTreeOrFault : List ℕ → Type 0
HasTreeOrFault source = ((tree : Tree) × JsonOf source tree) ⊎ ((f : JsonFault) × HasFault source f)

of_value : (source : List ℕ) (d : Data) → IsValue source d → HasTreeOrFault source
of_value source d v = by (tree_of d) refl
  where
    by : (r : Result Tree JsonFault) → tree_of d ≡ r → HasTreeOrFault source
    by (Ok tree) e = inl (tree, record { value = d; is = v; makes = e })
    by (Err f) e = inr (f, has_fault source d f v e)

of_text : (source : List ℕ) → IsUtf8 source → HasTreeOrFault source
of_text source utf8 = by (read source) refl
  where
    by : (o : Option Data) → read source ≡ o → HasTreeOrFault source
    by None e = inr (Syntax, λ d v. let reads = v.reads in absurd cc)
    by (Some d) e = of_value source d (record { utf8 = utf8; reads = e })

pub tree_or_fault : EachHasTreeOrFault JsonOf HasFault
tree_or_fault source = by (is_utf8 source) refl
  where
    by : (b : Bool) → is_utf8 source ≡ b → HasTreeOrFault source
    by true e = of_text source (IsUtf8-from_is_utf8 source e)
    by false e = inr (Syntax, λ d v. let is = is_utf8-from_IsUtf8 source v.utf8 in absurd cc)
