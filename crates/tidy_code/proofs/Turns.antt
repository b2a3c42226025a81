-- What the loops of the pass need.
use Rattle.std.proofs.Common.{◌≡◌, ◌↔◌, ℕ, ◌+◌, Bool, true, false, not, cond, List, [], ◌∷◌, ◌++◌, length, Some, refl, sym, ap, subst, ◌∙◌, arith, true≢false}
use Rattle.std.specs.Prelude.{slice_get, is_some, IsTrue}
use Rattle.std.specs.Option.{option_map}
use Rattle.std.proofs.lemmas.List.{length-append}
use Rattle.bril_tree.specs.declared.function_tree.Item.{Item}
use Rattle.bril_tree.specs.declared.numbered.Instr.{Instr}
use Rattle.bril_tree.specs.Numbered.{nop_item}
use Rattle.flow_graph.specs.Graph.{GraphView, IsGraphOf}
use Rattle.flow_graph.proofs.Told.{reach_tells}
use Rattle.tidy_code.specs.Tidied.{IsStaying, AreStaying}
use Rattle.tidy_code.proofs.Staying.{one_stays, one_drops}

-- an item at a reached point stays where it is no `nop`
pub stays-tells : (code : List Instr) (g : GraphView) → IsGraphOf code g → (point : ℕ) (b nop : Bool) (x : Item) → Some b ≡ option_map is_some (slice_get g.sites point) → b ≡ true → IsTrue nop ↔ (x ≡ nop_item) → IsTrue (not nop) ↔ IsStaying code point x
stays-tells code g of_code point b nop x e t h =
    ((λ k. record { reached = (reach_tells code g of_code point b e).0 t; works = λ s. true≢false (sym k ∙ ap not (h.1 s)) }), (λ s. by nop (λ k. s.works (h.0 k))))
  where
    by : (n : Bool) → (IsTrue n → ⊥) → IsTrue (not n)
    by true k = absurd (k refl)
    by false k = refl

-- one item more
pub loop-more : (code : List Instr) (xs ys zs : List Item) (x : Item) (point : ℕ) (b : Bool) → (point ≡ length xs) × AreStaying code 0 xs ys → IsTrue b ↔ IsStaying code point x → zs ≡ cond b (ys ++ x ∷ []) ys
    → (point + 1 ≡ length (xs ++ x ∷ [])) × AreStaying code 0 (xs ++ x ∷ []) zs
loop-more code xs ys zs x point b h tells is =
    let z : point ≡ 0 + length xs = omega (arith, h.0) in
    let long = length-append xs (x ∷ []) in
    (omega (arith, h.0, long), subst (AreStaying code 0 (xs ++ x ∷ [])) (sym is) (by b tells z))
  where
    by : (b : Bool) → IsTrue b ↔ IsStaying code point x → point ≡ 0 + length xs → AreStaying code 0 (xs ++ x ∷ []) (cond b (ys ++ x ∷ []) ys)
    by true t z = one_stays code 0 xs ys x h.1 (subst (λ n. IsStaying code n x) z (t.0 refl))
    by false t z = one_drops code 0 xs ys x h.1 (λ s. true≢false (sym (t.1 (subst (λ n. IsStaying code n x) (sym z) s))))
