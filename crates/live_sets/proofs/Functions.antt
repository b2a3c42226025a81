-- The function of a number in an accepted program.
use Rattle.std.proofs.Common.{◌≡◌, ℕ, ◌<◌, List, length, get_or, Some, None, sym, ap, subst, ◌∙◌}
use Rattle.std.specs.Prelude.{slice_get, is_some}
use Rattle.std.proofs.lemmas.Option.{slice_get-get_or}
use Rattle.bril_tree.specs.declared.numbered_function.Func.{Func}
use Rattle.bril_tree.specs.declared.program.Prog.{Prog}
use Rattle.bril_tree.specs.Accepted.{IsAccepted}
use Rattle.bril_tree.specs.Shape.{shape_fault_of}
use Rattle.bril_tree.specs.Sites.{AreSitesSound}
use Rattle.bril_tree.specs.Size.{IsCounted}
use Rattle.bril_tree.specs.Step.{code_of, items_of}
use Rattle.bril_tree.proofs.Acceptance.{accepted_function, shaped_function}
use Rattle.bril_tree.proofs.Elements.{All-at}

module _ (P Q : Prog) (value : P ≡ Q) (funcs : List Func) (all : funcs ≡ P.funcs) (f : ℕ) (F : Func) (low : f < length Q.funcs) (is : F ≡ get_or funcs f F) where
  there : slice_get P.funcs f ≡ Some F
  there =
      slice_get-get_or P.funcs f F (subst (λ (p : Prog). f < length p.funcs) (sym value) low)
      ∙ ap Some (sym (subst (λ fs. F ≡ get_or fs f F) all is))

  pub code_there : F.code ≡ code_of Q f
  code_there = sym (ap (λ (p : Prog). code_of p f) (sym value) ∙ ap items_of there)

  pub few_there : IsCounted P → length F.code < 4294967295
  few_there c = All-at (λ (f : Func). length f.code < 4294967295) P.funcs f F c.items there

  module _ (accepted : IsAccepted P) where
    pub shaped_there : shape_fault_of (is_some F.ret) F.code ≡ None
    shaped_there = shaped_function P F (accepted_function P f F accepted there)

    pub sound_there : AreSitesSound F.code
    sound_there = (accepted_function P f F accepted there).sites
