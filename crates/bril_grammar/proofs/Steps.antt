-- One step of the machine.
use Rattle.std.proofs.Common.{◌≡◌, ℕ, suc, ◌≤◌, Bool, true, false, List, [], ◌∷◌, length, Ok, Err, Result, refl, sym, ap, ◌∙◌, arith}
use Rattle.std.proofs.Common.{eqb-true, cond}
use mathlib.Core.Logic.{◌⊎◌, inl, inr}
use Rattle.bril_tree.specs.declared.tree.Tree.{Tree}
use Rattle.bril_grammar.specs.declared.fault.Fault.{Fault}
use Rattle.bril_grammar.specs.declared.fault.FaultKind.{FaultKind}
use Rattle.bril_grammar.specs.declared.mark.Mark.{Mark}
use Rattle.bril_grammar.specs.declared.mark.Mark.TheVariants.{OpenBrace, CloseBrace, OpenParen, CloseParen, Colon, Comma, Semicolon, Equals, Less, Greater}
use Rattle.bril_tree.specs.declared.types.Ty.{Ty}
use Rattle.bril_tree.proofs.Equal.{Ty-equal}
use Rattle.bril_grammar.specs.Machine.{type_of, Transition, same_mark, mark_move, Move, Goes, GoesBeforeColon, FloatUnlessColon, Fails, move, run, decided, go_on, begins_with_colon}
use Rattle.bril_grammar.specs.State.{State, Expect}
use Rattle.bril_grammar.specs.Terminal.{Terminal, Punctuation, mark_byte, mark_among, marks}

-- a terminal that leads on
pub goes : (s : State) (w : Terminal) (ws : List Terminal) (next : State) → move s w ≡ Goes next → run s (w ∷ ws) ≡ run next ws
goes s w ws next e = ap (λ m. go_on (decided m (begins_with_colon ws)) (λ n. run n ws) (suc (length ws))) e

-- what holds of the state that a move leads to
abbrev pub OnState : (State → Type 0) → Result State FaultKind → Type 0
OnState P (Ok next) = P next
OnState P (Err kind) = ⊥

-- a step of a run that ends well leads on, and where it needs `:` next, there is one
pub led : (m : Move) (colon : Bool) (rest : State → Result Tree Fault) (left : ℕ) (tree : Tree) (P : State → Type 0) → ((next : State) → rest next ≡ Ok tree → P next) → go_on (decided m colon) rest left ≡ Ok tree → OnState P (decided m true)
led (Goes next) colon rest left tree P ih e = ih next e
led (GoesBeforeColon next) true rest left tree P ih e = ih (Expect Colon next) e
led (GoesBeforeColon next) false rest left tree P ih e = cc
led FloatUnlessColon true rest left tree P ih e = cc
led FloatUnlessColon false rest left tree P ih e = cc
led (Fails kind) colon rest left tree P ih e = cc

-- marks are told apart by their bytes

mark_again : (m : Mark) → mark_among marks (mark_byte m) ≡ Punctuation m
mark_again OpenBrace = refl
mark_again CloseBrace = refl
mark_again OpenParen = refl
mark_again CloseParen = refl
mark_again Colon = refl
mark_again Comma = refl
mark_again Semicolon = refl
mark_again Equals = refl
mark_again Less = refl
mark_again Greater = refl

pub mark_same : (m n : Mark) → same_mark m n ≡ true → m ≡ n
mark_same m n e =
    let bytes : mark_byte m ≡ mark_byte n = eqb-true (mark_byte m) (mark_byte n) e in
    let terminals : Punctuation m ≡ Punctuation n = sym (mark_again m) ∙ (ap (mark_among marks) bytes ∙ mark_again n) in
    cc

-- one of the transitions has this mark
abbrev pub OneTransition : (State → Type 0) → Mark → List Transition → Type 0
OneTransition P m [] = ⊥
OneTransition P m (w ∷ ws) = ((m ≡ w.mark) × P w.next) ⊎ OneTransition P m ws

pub mark_led : (P : State → Type 0) (m : Mark) (transitions : List Transition) → OnState P (decided (mark_move transitions m) true) → OneTransition P m transitions
mark_led P m [] h = h
mark_led P m (w ∷ ws) h = by (same_mark m w.mark) refl (mark_led P m ws) h
  where
    by : (b : Bool) → same_mark m w.mark ≡ b → (OnState P (decided (mark_move ws m) true) → OneTransition P m ws) → OnState P (decided (cond b (Goes w.next) (mark_move ws m)) true) → OneTransition P m (w ∷ ws)
    by true e later h = inl (mark_same m w.mark e, h)
    by false e later h = inr (later h)

-- a type from its parts
pub type_of-ty : (ty : Ty) → type_of ty.depth ty.base ≡ ty
type_of-ty ty = let below : ty.depth ≤ 32 = ty.nests in Ty-equal (type_of ty.depth ty.base) ty (omega arith) refl
