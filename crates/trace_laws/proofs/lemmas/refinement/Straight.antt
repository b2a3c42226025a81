-- A laid item does the same in both programs: it faults, or it changes locations alone.
use Rattle.bril_tree.specs.declared.operation.Op.TheVariants as op
use Rattle.std.proofs.Common.{◌≡◌, ℕ, suc, true, false, List, [], ◌∷◌, Option, Some, refl, sym, ap, ◌∙◌}
use Rattle.std.specs.Prelude.{slice_index}
use Rattle.bril_tree.specs.declared.limits.Limits.{Limits}
use Rattle.bril_tree.specs.declared.numbered.Instr.{Instr}
use Rattle.bril_tree.specs.declared.numbered.Instr.TheVariants.{Label, Const, Act}
use Rattle.bril_tree.specs.declared.operation.Op.{Op}
use Rattle.bril_tree.specs.declared.program.Prog.{Prog}
use Rattle.bril_tree.specs.declared.types.Ty.{Ty}
use Rattle.bril_tree.specs.Edge.{item_branches, onward}
use Rattle.bril_tree.specs.Operand.{Location}
use Rattle.bril_tree.specs.Sites.{Keeps, item_change}
use Rattle.bril_tree.specs.State.{Frame, State}
use Rattle.bril_tree.specs.Step.{item_step}
use Rattle.pass_edit_laws.specs.plan.Plan.{ItemsMatch}
use Rattle.pass_edit_laws.proofs.lemmas.steps.Attempts.{is_attempted, is_attempted_operation}
use Rattle.trace_paths.specs.Path.{Over, To, Lays, Turns, item_met, operation_met}

-- ---- what the path does at an item

pub record Goes (a : Instr) : Type 0 where
  pub branches : (code : List Instr) (point : ℕ) → item_branches code point a ≡ onward point ∷ []
  pub keeps : item_change (Some a) false ≡ Keeps

-- the items that a path lays look at no saves, and go on to the next point
lays-act : (o : Op) (d : Option ℕ) (s : Option Ty) (args fns ls : List ℕ) → operation_met o ls ≡ Lays → (is_attempted_operation o ≡ true) × Goes (Act d s o args fns ls)
lays-act op.Nop d s args fns ls e = absurd (cc)
lays-act op.Jmp d s args fns ls e = absurd (cc)
lays-act op.Br d s args fns ls e = absurd (cc)
lays-act op.Print d s args fns ls e = absurd (cc)
lays-act op.Store d s args fns ls e = absurd (cc)
lays-act op.Alloc d s args fns ls e = absurd (cc)
lays-act op.Free d s args fns ls e = absurd (cc)
lays-act op.Call d s args fns ls e = absurd (cc)
lays-act op.Ret d s args fns ls e = absurd (cc)
lays-act op.Speculate d s args fns ls e = absurd (cc)
lays-act op.Commit d s args fns ls e = absurd (cc)
lays-act op.Guard d s args fns ls e = absurd (cc)
lays-act _ d s args fns ls e = (refl, record { branches = λ c n. refl; keeps = refl })

pub lays-attempted : (a : Instr) → item_met (Some a) ≡ Lays → is_attempted a ≡ true
lays-attempted (Label l) e = absurd (cc)
lays-attempted (Const d t v) e = refl
lays-attempted (Act d s o args fns ls) e = (lays-act o d s args fns ls e).0

pub lays-goes : (a : Instr) → item_met (Some a) ≡ Lays → Goes a
lays-goes (Label l) e = absurd (cc)
lays-goes (Const d t v) e = record { branches = λ c n. refl; keeps = refl }
lays-goes (Act d s o args fns ls) e = (lays-act o d s args fns ls e).1

-- a label or a nop
pub record Passed (P : Prog) (limits : Limits) (a : Instr) : Type 0 where
  pub goes : Goes a
  pub steps : (f : Frame) (older : List Frame) (s : State) → item_step P limits (Some a) f older s ≡ record s { frames = record f { point = suc f.point } ∷ older }

over-act : (P : Prog) (limits : Limits) (o : Op) (d : Option ℕ) (s : Option Ty) (args fns ls : List ℕ) → operation_met o ls ≡ Over → Passed P limits (Act d s o args fns ls)
over-act P limits op.Nop d s args fns ls e = record { goes = record { branches = λ c n. refl; keeps = refl }; steps = λ f older s. refl }
over-act P limits _ d s args fns ls e = absurd (cc)

pub over-passed : (P : Prog) (limits : Limits) (a : Instr) → item_met (Some a) ≡ Over → Passed P limits a
over-passed P limits (Label l) e = record { goes = record { branches = λ c n. refl; keeps = refl }; steps = λ f older s. refl }
over-passed P limits (Const d t v) e = absurd (cc)
over-passed P limits (Act d s o args fns ls) e = over-act P limits o d s args fns ls e

-- a jmp
pub record IsJmp (a : Instr) (l : ℕ) : Type 0 where
  pub d : Option ℕ
  pub s : Option Ty
  pub args : List ℕ
  pub fns : List ℕ
  pub ls : List ℕ
  pub is : a ≡ Act d s op.Jmp args fns ls
  pub label : slice_index ls 0 ≡ l

to-act : (o : Op) (d : Option ℕ) (s : Option Ty) (args fns ls : List ℕ) (l : ℕ) → operation_met o ls ≡ To l → IsJmp (Act d s o args fns ls) l
to-act op.Jmp d s args fns ls l e = let h : slice_index ls 0 ≡ l = cc in record { d = d; s = s; args = args; fns = fns; ls = ls; is = refl; label = h }
to-act _ d s args fns ls l e = absurd (cc)

pub to-jmp : (a : Instr) (l : ℕ) → item_met (Some a) ≡ To l → IsJmp a l
to-jmp (Label m) l e = absurd (cc)
to-jmp (Const d t v) l e = absurd (cc)
to-jmp (Act d s o args fns ls) l e = to-act o d s args fns ls l e

-- a br
pub record IsBr (a : Instr) (on off : ℕ) : Type 0 where
  pub d : Option ℕ
  pub s : Option Ty
  pub args : List ℕ
  pub fns : List ℕ
  pub ls : List ℕ
  pub is : a ≡ Act d s op.Br args fns ls
  pub first : slice_index ls 0 ≡ on
  pub second : slice_index ls 1 ≡ off

turns-act : (o : Op) (d : Option ℕ) (s : Option Ty) (args fns ls : List ℕ) (on off : ℕ) → operation_met o ls ≡ Turns on off → IsBr (Act d s o args fns ls) on off
turns-act op.Br d s args fns ls on off e = let h : slice_index ls 0 ≡ on = cc in let g : slice_index ls 1 ≡ off = cc in record { d = d; s = s; args = args; fns = fns; ls = ls; is = refl; first = h; second = g }
turns-act _ d s args fns ls on off e = absurd (cc)

pub turns-br : (a : Instr) (on off : ℕ) → item_met (Some a) ≡ Turns on off → IsBr a on off
turns-br (Label m) on off e = absurd (cc)
turns-br (Const d t v) on off e = absurd (cc)
turns-br (Act d s o args fns ls) on off e = turns-act o d s args fns ls on off e

-- the item points a laid one is laid
same-act-lays : (o : Op) (ls ms : List ℕ) → operation_met o ls ≡ Lays → operation_met o ms ≡ Lays
same-act-lays op.Jmp ls ms e = absurd (cc)
same-act-lays op.Br ls ms e = absurd (cc)
same-act-lays _ ls ms e = e

pub same-lays : (A : Location → Location → Type 0) (a b : Instr) → ItemsMatch A a b → item_met (Some a) ≡ Lays → item_met (Some b) ≡ Lays
same-lays A (Label l) b s e = absurd (cc)
same-lays A (Const x t v) (Label l) s e = absurd s
same-lays A (Const x t v) (Const y r w) s e = refl
same-lays A (Const x t v) (Act d r o args fns ls) s e = absurd s
same-lays A (Act d r o args fns ls) (Label l) s e = absurd s
same-lays A (Act d r o args fns ls) (Const x t v) s e = absurd s
same-lays A (Act d r o args fns ls) (Act e t u result_args gns ms) s h = ap (λ z. operation_met z ms) (sym s.operation) ∙ same-act-lays o ls ms h

over-act-goes : (o : Op) (d : Option ℕ) (s : Option Ty) (args fns ls : List ℕ) → operation_met o ls ≡ Over → Goes (Act d s o args fns ls)
over-act-goes op.Nop d s args fns ls e = record { branches = λ c n. refl; keeps = refl }
over-act-goes _ d s args fns ls e = absurd (cc)

pub over-goes : (a : Instr) → item_met (Some a) ≡ Over → Goes a
over-goes (Label l) e = record { branches = λ c n. refl; keeps = refl }
over-goes (Const d t v) e = absurd (cc)
over-goes (Act d s o args fns ls) e = over-act-goes o d s args fns ls e
