-- Reading a type, one `ptr` after another.
use Rattle.std.proofs.Common.{◌≡◌, ℕ, zero, suc, ◌-◌, ◌<◌, List, Option, Some, None, Result, Err, refl, ap, ◌∙◌, arith}
use Rattle.std.specs.Prelude.{codes}
use Rattle.serde_json.specs.Data.{Data}
use Rattle.serde_json.specs.Find.{get, as_str}
use Rattle.bril_tree.specs.declared.types.Ty.{Ty}
use Rattle.bril_json.specs.Form.{base_of, type_parts, type_within}
use Rattle.bril_json.specs.declared.fault.JsonFault.{JsonFault}
use Rattle.bril_json.specs.declared.fault.JsonFault.TheVariants.{Shape, Deep}
use Rattle.bril_json.specs.declared.position.Position.{Position}

parts-are : (position : Position) (left : ℕ) (inner : Data → Result Ty JsonFault) (t u : Option (List ℕ)) (p q : Option Data) → t ≡ u → p ≡ q →
    type_parts position left inner t p ≡ type_parts position left inner u q
parts-are position left inner t u p q e f = ap (λ x. type_parts position left inner x p) e ∙ ap (type_parts position left inner u) f

-- a text
pub at_text : (position : Position) (left : ℕ) (d : Data) (text : List ℕ) → as_str d ≡ Some text → type_within position left d ≡ base_of position left text
unfolding type_within
at_text position zero d text e = parts-are position zero _ _ _ _ _ e refl
at_text position (suc left) d text e = parts-are position (suc left) _ _ _ _ _ e refl

-- neither a text nor a `ptr`
pub at_none : (position : Position) (left : ℕ) (d : Data) → as_str d ≡ None → get (codes "ptr") d ≡ None → type_within position left d ≡ Err (Shape position.func position.item)
unfolding type_within
at_none position zero d e f = parts-are position zero _ _ _ _ _ e f
at_none position (suc left) d e f = parts-are position (suc left) _ _ _ _ _ e f

-- a `ptr` where none is left
pub at_last : (position : Position) (left : ℕ) (d pointed : Data) → as_str d ≡ None → get (codes "ptr") d ≡ Some pointed → left ≡ 0 →
    type_within position left d ≡ Err (Deep position.func position.item)
unfolding type_within
at_last position zero d pointed e f none = parts-are position zero _ _ _ _ _ e f
at_last position (suc left) d pointed e f none = absurd (omega arith)

-- a `ptr` where some are left
pub at_pointer : (position : Position) (left : ℕ) (d pointed : Data) → as_str d ≡ None → get (codes "ptr") d ≡ Some pointed → 0 < left →
    type_within position left d ≡ type_within position (left - 1) pointed
unfolding type_within
at_pointer position zero d pointed e f some = absurd (omega arith)
at_pointer position (suc left) d pointed e f some =
    let one : left ≡ suc left - 1 = omega arith in
    parts-are position (suc left) _ _ _ _ _ e f ∙ ap (λ n. type_within position n pointed) one
