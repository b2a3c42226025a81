-- Boxes whose passes make as the shipped ones do.
use Rattle.std.proofs.Common.{◌≡◌, Bool, true, not, ◌&&◌, List, [], ◌∷◌, refl, sym, subst, ◌∙◌}
use Rattle.std.proofs.lemmas.Bool.{and_parts, not-true, true≢false}
use Rattle.std.specs.declared.dyn_box.DynBox.{DynBox}
use Rattle.pass_budget_laws.specs.Shipped.{Shipped}
use Rattle.shipped_passes.specs.Shipped.{shipped, MakesAsEach, MakesAsShipped}
use Rattle.bril_profile.specs.declared.profile.Profile.{Profile}
use Rattle.bril_tree.specs.declared.program.Prog.{Prog}
use Rattle.pass_law.specs.Meaning.{Meaning}
use Rattle.pass_pad.specs.Pad.{pad_meaning}

-- the pass answers to no name of some shipped passes
abbrev pub is_stranger : List Shipped → Meaning → Bool
is_stranger [] m = true
is_stranger (s ∷ some) m = not (m.answers s.row.name) && is_stranger some m

strange : (m : Meaning) (some : List Shipped) → is_stranger some m ≡ true → MakesAsEach some m
strange m [] e = tt
strange m (s ∷ some) e = let h = and_parts (not (m.answers s.row.name)) (is_stranger some m) e in (λ named. absurd (true≢false (sym named ∙ not-true (m.answers s.row.name) h.0)), strange m some h.1)

pub stranger-makes : (m : Meaning) → is_stranger shipped m ≡ true → MakesAsShipped m
stranger-makes m e = record { each = strange m shipped e }

idle : (m : Meaning) → ((p : Prog) (profile : Profile) (q : Prog) → m.Makes p profile q → ⊥) → (some : List Shipped) → MakesAsEach some m
idle m none [] = tt
idle m none (s ∷ some) = (λ named p profile q made. absurd (none p profile q made), idle m none some)

-- a pass that makes nothing
pub idle-makes : (m : Meaning) → ((p : Prog) (profile : Profile) (q : Prog) → m.Makes p profile q → ⊥) → MakesAsShipped m
idle-makes m none = record { each = idle m none shipped }

-- a box of that type means what each value of the type does
pub box-makes : {I A : Type 0} {F : I → Type 0} (meaning : DynBox I A F → Meaning) (at : I) (b : DynBox I A F) → b.vtable ≡ at → ((p : _) (a : A) (x : F at) → MakesAsShipped (meaning (record { ptr = p; vtable = at; alloc = a; value = x }))) → MakesAsShipped (meaning b)
box-makes {F} meaning at b e h = subst (λ (i : _). (y : F i) → MakesAsShipped (meaning (record { ptr = b.ptr; vtable = i; alloc = b.alloc; value = y }))) (sym e) (h b.ptr b.alloc) b.value

pub pad-makes : MakesAsShipped pad_meaning
pad-makes = stranger-makes pad_meaning refl
