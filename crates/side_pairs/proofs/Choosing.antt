-- How an item goes with the item at the walk.
use Rattle.std.proofs.Common.{◌≡◌, ◌↔◌, ℕ, suc, ◌+◌, Bool, List, [], ◌∷◌, Option, Some, sym, subst, ◌∙◌, arith}
use Rattle.std.specs.Prelude.{IsTrue, slice_get}
use Rattle.bril_tree.specs.declared.numbered.Instr.{Instr}
use Rattle.bril_tree.specs.declared.numbered.Instr.TheVariants.{Act}
use Rattle.bril_tree.specs.declared.operation.Op.TheVariants as op
use Rattle.side_laws.specs.Paired.{IsGuardOn, ReadAlone}
use Rattle.side_pairs.specs.Meetings.{IsNegation, IsTurned}

same-negation : (o : Option Instr) (n m c : ℕ) → IsNegation o n c → IsNegation o m c → n ≡ m
same-negation o n m c a b = let e : Act (Some n) a.0 op.Not (c ∷ []) [] [] ≡ Act (Some m) b.0 op.Not (c ∷ []) [] [] = let s = sym a.1 ∙ b.1 in cc in let f : Some n ≡ Some m = cc in cc

module _ (code : List Instr) (i c n : ℕ) (nots : IsNegation (slice_get code i) n c) where
  turned-as : (t : IsTurned code i c) → t.n ≡ n
  turned-as t = same-negation (slice_get code i) t.n n c t.nots nots

  next : i + 1 ≡ suc i
  next = omega arith

  pub turned-tells : (n ≡ c → ⊥) → IsGuardOn (slice_get code (i + 1)) n → (b : Bool) → IsTrue b ↔ ReadAlone code n (i + 1) → IsTrue b ↔ IsTurned code i c
  turned-tells apart guards b alone = (
    (λ e. record { n = n; nots = nots; guards = subst (λ k. IsGuardOn (slice_get code k) n) next guards; apart = apart; alone = subst (ReadAlone code n) next (alone.0 e) }),
    (λ t. alone.1 (subst (ReadAlone code n) (sym next) (subst (λ m. ReadAlone code m (suc i)) (turned-as t) t.alone))),
  )
