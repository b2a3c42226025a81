-- Laid code whose definitions have types is accepted: each point of the result is a piece.
use Rattle.std.proofs.Common.{◌≡◌, ℕ, Bool, true, false, List, Option, Some, None, refl, sym, ap, subst, ◌∙◌}
use Rattle.std.specs.Prelude.{slice_get, is_some}
use Rattle.bril_tree.specs.declared.numbered.Instr.{Instr}
use Rattle.bril_tree.specs.declared.numbered.Instr.TheVariants.{Label, Const, Act}
use Rattle.bril_tree.specs.declared.numbered_function.Func.{Func}
use Rattle.bril_tree.specs.declared.program.Prog.{Prog}
use Rattle.bril_tree.specs.declared.types.Ty.{Ty}
use Rattle.bril_tree.specs.Accepted.{IsAccepted, AreWalksAccepted}
use Rattle.bril_tree.specs.Numbered.{tree_at}
use Rattle.bril_tree.specs.Operand.{Variable, reads_of}
use Rattle.bril_tree.specs.Run.{types_of}
use Rattle.bril_tree.specs.Sites.{AreSitesSound}
use Rattle.bril_tree.specs.Step.{code_of, item_at}
use Rattle.bril_tree.specs.Typing.{return_type}
use Rattle.bril_tree.specs.Walk.{IsReached}
use Rattle.bril_tree.specs.Membership.{In}
use Rattle.bril_tree.proofs.Members.{in_map}
use Rattle.pass_edit_laws.specs.acceptance.Stays.{Stays}
use Rattle.ssa_laws.specs.inserted_copies.Inserted.{is_copy, renamed_at}
use Rattle.ssa_laws.specs.reaching_definitions.Tables.{Tables}
use Rattle.ssa_laws.specs.layout.Laid.{Setting, home, name_of, Laid}
use Rattle.pass_edit_laws.proofs.lemmas.names.Points.{found}
use Rattle.ssa_laws.proofs.lemmas.inserted_copies.Refines.{renamed-none}
use Rattle.ssa_laws.proofs.lemmas.inserted_copies.Renamed.{reads-are}
use Rattle.ssa_laws.specs.layout.Accepted.{args_named, Cover, Home, Get, Set, Dead, Unreached, Covers}
use Rattle.ssa_laws.proofs.lemmas.layout.Pieces.{name_or, Piece, Moved, Got, Put, Blank, Mark, piece-stays}
use Rattle.ssa_laws.proofs.lemmas.layout.Given.{given-told}

module _ (P Q : Prog) (table : ℕ → Tables) (name : ℕ → ℕ → List ℕ) (gets : ℕ → ℕ → List ℕ) (sets : ℕ → ℕ → List Setting) (c : ℕ) (accepted : IsAccepted P) (t : Laid P Q table name gets sets c) (f : ℕ) (F G : Func) (p : slice_get P.funcs f ≡ Some F) (q : slice_get Q.funcs f ≡ Some G)
    (callees : (g : ℕ) → types_of (slice_get P.funcs g) ≡ types_of (slice_get Q.funcs g)) (results : (g : ℕ) → return_type (slice_get P.funcs g) ≡ return_type (slice_get Q.funcs g)) (types : ℕ → Option Ty) (sound : AreSitesSound (code_of P f)) where
  abbrev P' : ℕ → Type 0
  P' = Piece P Q accepted t.heads f F G p q callees results (name f) (t.injective f) types

  read-of : (a : Instr) (x : ℕ) → is_copy (Some a) ≡ false → In x (args_named a) → In (Variable x) (reads_of a)
  read-of (Label l) x c i = absurd i
  read-of (Const d s v) x c i = absurd i
  read-of (Act d s o args fns ls) x c i = subst (In (Variable x)) (sym (reads-are o d s args fns ls c)) (in_map Variable x args i)

  same-name : (o : Option ℕ) → name_of P Q table name gets sets f o ≡ name_or (name f) o
  same-name None = refl
  same-name (Some y) = refl

  module _ (h : Covers P Q table name gets sets f F G types) where
    at-home : (i j : ℕ) (b : Instr) → item_at Q f j ≡ Some b → IsReached (code_of P f) i → j ≡ home P Q table name gets sets f i → (o : Option Instr) → item_at P f i ≡ o → (d : Bool) → is_copy (item_at P f i) ≡ d → P' j
    at-home i j b bt r e o at true copy = Blank (ap (tree_at Q f) e ∙ t.gone f i r copy)
    at-home i j b bt r e None at false copy = Blank (absurd (none (λ x. name_of P Q table name gets sets f ((table f).into i (Variable x))) (name f ((table f).writes i)) (t.same f i r copy)))
      where
        none : (rd : ℕ → List ℕ) (w : List ℕ) → renamed_at P rd w f i ≡ tree_at Q f (home P Q table name gets sets f i) → ⊥
        none rd w s = let z = sym (renamed-none P f i rd w at) ∙ s ∙ ap (tree_at Q f) (sym e) ∙ (found Q f j b bt).tree in cc
    at-home i j b bt r e (Some a) at false copy =
        let plain : is_copy (Some a) ≡ false = sym (ap is_copy at) ∙ copy in
        Moved i a (λ x. (table f).into i (Variable x)) ((table f).writes i) at plain
        (ap (λ rd. renamed_at P rd (name f ((table f).writes i)) f i) (λ k x. sym (same-name ((table f).into i (Variable x))) k) ∙ t.same f i r copy ∙ ap (tree_at Q f) (sym e))
        (λ x ix.
        let y = t.read f i x a r at plain (read-of a x plain ix) in
        (y.0, y.1, h.arg_typed i x y.0 a r at plain ix y.1, given-told P Q table name gets sets c t f F G p q sound i r (Variable x) y.0 y.1))
        (λ x d. h.dest_typed i x a r at plain d)

    piece : (j : ℕ) (b : Instr) → item_at Q f j ≡ Some b → P' j
    piece j b bt = by (h.covers j b bt)
      where
        by : Cover P Q table name gets sets f j → P' j
        by (Home i r e) = at-home i j b bt r e (item_at P f i) refl (is_copy (item_at P f i)) refl
        by (Get i k y r g e) = let s = t.got f i k y r g in Got y s.0 (ap (tree_at Q f) e ∙ s.1) (h.got_typed i k y s.0 r g s.1)
        by (Set i k s r g e) = let ty = h.set_typed i k s r g in let gv = h.set_given i k s r g in Put s.get s.from ty.0 (ap (tree_at Q f) e ∙ t.put f i k s r g) ty.1 ty.2 gv.0 gv.1
        by (Dead tree) = Blank tree
        by (Unreached l tree) = Mark l tree

    pub laid-stays : AreWalksAccepted (code_of Q f) G.args (is_some G.ret) → Stays P Q f F G
    laid-stays walks = piece-stays P Q accepted t.heads f F G p q callees results (name f) (t.injective f) types piece (λ v y l has. h.argued v y l has) walks
