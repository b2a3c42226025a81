-- The order of walks.
use Rattle.std.proofs.Common.{◌≡◌, ℕ, ◌<◌, true, false, List, [], ◌∷◌, length, Option, Some, None, map, refl, sym, ap, ◌∙◌, subst, inl, inr, arith}
use Rattle.std.specs.Prelude.{◌⊎◌}
use Rattle.std.proofs.lemmas.Bool.{cases_order, cases_Bool}
use Rattle.bril_tree.specs.declared.numbered.Instr.{Instr}
use Rattle.bril_tree.specs.declared.numbered.Instr.TheVariants.{Label, Const, Act}
use Rattle.bril_tree.specs.declared.operation.Op.{Op}
use Rattle.bril_tree.specs.declared.operation.Op.TheVariants as op
use Rattle.bril_tree.specs.Edge.{Branch, onward, jump, branches_from, branches_at, action_branches}
use Rattle.bril_tree.specs.Walk.{IsWalk, end_of, Sooner, Earlier}
use Rattle.bril_tree.proofs.Branches.{same_branch, branch_from}
use Rattle.bril_tree.proofs.Members.{in_contains}

-- the second walk isn't earlier than the first
abbrev pub NotAfter : List Branch → List Branch → Type 0
NotAfter v w = (v ≡ w) ⊎ Earlier v w

sooner_trans : (a b c : Branch) → Sooner a b → Sooner b c → Sooner a c
sooner_trans a b c (inl p) (inl q) = inl (omega arith)
sooner_trans a b c (inl p) (inr q) = inl (omega (arith, q.0))
sooner_trans a b c (inr p) (inl q) = inl (omega (arith, p.0))
sooner_trans a b c (inr p) (inr q) = inr (p.0 ∙ q.0, p.1, q.2)

sooner_not_itself : (a : Branch) → Sooner a a → ⊥
sooner_not_itself a (inl p) = omega arith
sooner_not_itself a (inr p) = let e : true ≡ false = sym p.2 ∙ p.1 in cc

pub earlier_trans : (u v w : List Branch) → Earlier u v → Earlier v w → Earlier u w
earlier_trans u v [] p q = absurd q
earlier_trans u [] (g ∷ w) p q = absurd p
earlier_trans [] (f ∷ v) (g ∷ w) p q = tt
earlier_trans (e ∷ u) (f ∷ v) (g ∷ w) (inl p) (inl q) = inl (earlier_trans u v w p q)
earlier_trans (e ∷ u) (f ∷ v) (g ∷ w) (inl p) (inr q) = inl (subst (λ x. Earlier u x) q.0 p)
earlier_trans (e ∷ u) (f ∷ v) (g ∷ w) (inr p) (inl q) = inl (subst (λ x. Earlier x w) (sym p.0) q)
earlier_trans (e ∷ u) (f ∷ v) (g ∷ w) (inr p) (inr q) = inr (p.0 ∙ q.0, sooner_trans e f g p.1 q.1)

pub earlier_not_itself : (w : List Branch) → Earlier w w → ⊥
earlier_not_itself [] h = h
earlier_not_itself (e ∷ w) (inl h) = earlier_not_itself w h
earlier_not_itself (e ∷ w) (inr h) = sooner_not_itself e h.1

pub shorter_earlier : (v w : List Branch) → length v < length w → Earlier v w
shorter_earlier v [] h = absurd (omega arith)
shorter_earlier [] (f ∷ w) h = tt
shorter_earlier (e ∷ v) (f ∷ w) h = inl (shorter_earlier v w (omega arith))

pub not_after_trans : (u v w : List Branch) → NotAfter u v → NotAfter v w → NotAfter u w
not_after_trans u v w (inl p) (inl q) = inl (p ∙ q)
not_after_trans u v w (inl p) (inr q) = inr (subst (λ x. Earlier x w) (sym p) q)
not_after_trans u v w (inr p) (inl q) = inr (subst (λ x. Earlier u x) q p)
not_after_trans u v w (inr p) (inr q) = inr (earlier_trans u v w p q)

pub not_after_both : (v w : List Branch) → NotAfter v w → NotAfter w v → v ≡ w
not_after_both v w (inl p) q = p
not_after_both v w (inr p) (inl q) = sym q
not_after_both v w (inr p) (inr q) = absurd (earlier_not_itself v (earlier_trans v w v p q))

-- one branch more keeps the order
pub not_after_more : (e : Branch) (v w : List Branch) → NotAfter v w → NotAfter (e ∷ v) (e ∷ w)
not_after_more e v w (inl p) = inl (ap (λ x. e ∷ x) p)
not_after_more e v w (inr p) = inr (inl p)

-- ---- the first of the branches from a point is no abort

no_abort_of_jumps : (code : List Instr) (p : ℕ) (labels : List ℕ) (e : Branch) (rest : List Branch) → map (jump code p) labels ≡ e ∷ rest → e.aborts ≡ false
no_abort_of_jumps code p [] e rest h = absurd (let f : [] ≡ e ∷ rest = h in cc)
no_abort_of_jumps code p (l ∷ labels) e rest h =
    let f : jump code p l ∷ map (jump code p) labels ≡ e ∷ rest = h in
    let same : jump code p l ≡ e = cc in
    ap (λ (w : Branch). w.aborts) (sym same)

no_abort_of_onward : (p : ℕ) (branches : List Branch) (e : Branch) (rest : List Branch) → onward p ∷ branches ≡ e ∷ rest → e.aborts ≡ false
no_abort_of_onward p branches e rest h = let same : onward p ≡ e = cc in ap (λ (w : Branch). w.aborts) (sym same)

action_goes_on : (code : List Instr) (p : ℕ) (operation : Op) (labels : List ℕ) (e : Branch) (rest : List Branch) → action_branches code p operation labels ≡ e ∷ rest → e.aborts ≡ false
action_goes_on code p op.Jmp labels e rest h = no_abort_of_jumps code p labels e rest h
action_goes_on code p op.Br labels e rest h = no_abort_of_jumps code p labels e rest h
action_goes_on code p op.Ret labels e rest h = absurd (let f : [] ≡ e ∷ rest = h in cc)
action_goes_on code p op.Guard labels e rest h = no_abort_of_onward p _ e rest h
action_goes_on code p _ labels e rest h = no_abort_of_onward p [] e rest h

option_goes_on : (code : List Instr) (p : ℕ) (item : Option Instr) (e : Branch) (rest : List Branch) → branches_from code p item ≡ e ∷ rest → e.aborts ≡ false
option_goes_on code p None e rest h = absurd (let f : [] ≡ e ∷ rest = h in cc)
option_goes_on code p (Some (Label l)) e rest h = no_abort_of_onward p [] e rest h
option_goes_on code p (Some (Const dest ty value)) e rest h = no_abort_of_onward p [] e rest h
option_goes_on code p (Some (Act dest ty operation args funcs labels)) e rest h = action_goes_on code p operation labels e rest h

pub first_goes_on : (code : List Instr) (p : ℕ) (e : Branch) (rest : List Branch) → branches_at code p ≡ e ∷ rest → e.aborts ≡ false
first_goes_on code p e rest h = option_goes_on code p _ e rest h

-- ---- two walks of one length are equal, or one is earlier

abbrev Ordered : List Branch → List Branch → Type 0
Ordered v w = (v ≡ w) ⊎ (Earlier v w ⊎ Earlier w v)

by_aborts : (e f : Branch) → e.from ≡ f.from → e.to ≡ f.to → (e.aborts ≡ true) ⊎ (e.aborts ≡ false) → (f.aborts ≡ true) ⊎ (f.aborts ≡ false) → (e ≡ f) ⊎ (Sooner e f ⊎ Sooner f e)
by_aborts e f h t (inl a) (inl b) = inl (same_branch e f h t (a ∙ sym b))
by_aborts e f h t (inl a) (inr b) = inr (inr (inr (sym t, b, a)))
by_aborts e f h t (inr a) (inl b) = inr (inl (inr (t, a, b)))
by_aborts e f h t (inr a) (inr b) = inl (same_branch e f h t (a ∙ sym b))

by_target : (e f : Branch) → e.from ≡ f.from → (e.to ≡ f.to) ⊎ ((e.to < f.to) ⊎ (f.to < e.to)) → (e ≡ f) ⊎ (Sooner e f ⊎ Sooner f e)
by_target e f h (inl t) = by_aborts e f h t (cases_Bool e.aborts) (cases_Bool f.aborts)
by_target e f h (inr (inl l)) = inr (inl (inl l))
by_target e f h (inr (inr l)) = inr (inr (inl l))

ordered_last : (e f : Branch) (v w : List Branch) → v ≡ w → (e ≡ f) ⊎ (Sooner e f ⊎ Sooner f e) → Ordered (e ∷ v) (f ∷ w)
ordered_last e f v w p (inl q) = inl (cc)
ordered_last e f v w p (inr (inl s)) = inr (inl (inr (p, s)))
ordered_last e f v w p (inr (inr s)) = inr (inr (inr (sym p, s)))

ordered_more : (code : List Instr) (e f : Branch) (v w : List Branch) → IsWalk code (e ∷ v) → IsWalk code (f ∷ w) → Ordered v w → Ordered (e ∷ v) (f ∷ w)
ordered_more code e f v w a b (inl p) =
    let e_from = branch_from code (end_of v) e (in_contains e (branches_at code (end_of v)) a.0) in
    let f_from = branch_from code (end_of w) f (in_contains f (branches_at code (end_of w)) b.0) in
    let same : e.from ≡ f.from = e_from ∙ ap end_of p ∙ sym f_from in
    ordered_last e f v w p (by_target e f same (cases_order e.to f.to))
ordered_more code e f v w a b (inr (inl h)) = inr (inl (inl h))
ordered_more code e f v w a b (inr (inr h)) = inr (inr (inl h))

pub ordered : (code : List Instr) (v w : List Branch) → IsWalk code v → IsWalk code w → length v ≡ length w → Ordered v w
ordered code [] [] a b l = inl refl
ordered code [] (f ∷ w) a b l = absurd (omega arith)
ordered code (e ∷ v) [] a b l = absurd (omega arith)
ordered code (e ∷ v) (f ∷ w) a b l = ordered_more code e f v w a b (ordered code v w a.1 b.1 (omega arith))
