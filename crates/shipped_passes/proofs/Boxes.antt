-- Boxes of passes whose types are known.
use Rattle.std.proofs.Common.{◌≡◌, List, [], ◌∷◌, sym, subst}
use Rattle.std.specs.declared.dyn_box.DynBox.{DynBox}
use Rattle.pass_budget_laws.specs.Shipped.{Shipped}
use Rattle.pass_law.specs.Meaning.{Meaning, SameMeaning}
use Rattle.shipped_passes.specs.Shipped.{shipped, MeanEach, AreShipped}

module _ {I A : Type 0} {F : I → Type 0} (meaning : DynBox I A F → Meaning) where
  -- a box of that type means what each value of the type does
  of_box : (P : Meaning → Type 0) (at : I) (b : DynBox I A F) → b.vtable ≡ at → ((p : _) (a : A) (x : F at) → P (meaning (record { ptr = p; vtable = at; alloc = a; value = x }))) → P (meaning b)
  of_box P at b e h = subst (λ (i : I). (y : F i) → P (meaning (record { ptr = b.ptr; vtable = i; alloc = b.alloc; value = y }))) (sym e) (h b.ptr b.alloc) b.value

  -- each box has a type whose values mean what the pass of its place does
  abbrev pub AreBoxes : List Shipped → List (DynBox I A F) → Type 0
  AreBoxes [] [] = Unit {0}
  AreBoxes [] (b ∷ boxes) = ⊥
  AreBoxes (s ∷ rest) [] = ⊥
  AreBoxes (s ∷ rest) (b ∷ boxes) =
      (at : I) × (b.vtable ≡ at) × ((p : _) (a : A) (x : F at) → SameMeaning s.meaning (meaning (record { ptr = p; vtable = at; alloc = a; value = x }))) × AreBoxes rest boxes

  boxes-mean : (some : List Shipped) (boxes : List (DynBox I A F)) → AreBoxes some boxes → MeanEach meaning some boxes
  boxes-mean [] [] h = tt
  boxes-mean [] (b ∷ boxes) h = absurd h
  boxes-mean (s ∷ rest) [] h = absurd h
  boxes-mean (s ∷ rest) (b ∷ boxes) h = (of_box (SameMeaning s.meaning) h.0 b h.1 h.2, boxes-mean rest boxes h.3)

  pub boxes-shipped : (passes boxes : List (DynBox I A F)) → passes ≡ boxes → AreBoxes shipped boxes → AreShipped meaning passes
  boxes-shipped passes boxes e h = record { each = subst (MeanEach meaning shipped) (sym e) (boxes-mean shipped boxes h) }
