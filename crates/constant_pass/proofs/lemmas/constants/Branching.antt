-- The points to which an item leads, by the branches from it.
use Rattle.std.proofs.Common.{◌≡◌, ℕ, suc, ◌+◌, ◌<◌, List, [], ◌∷◌, length, map, Some, sym, ap, subst, arith}
use Rattle.std.specs.Prelude.{slice_get, slice_index}
use Rattle.std.proofs.lemmas.List.{length-map}
use Rattle.bril_tree.specs.declared.numbered.Instr.{Instr}
use Rattle.bril_tree.specs.declared.numbered.Instr.TheVariants.{Label, Const, Act}
use Rattle.bril_tree.specs.declared.operation.Op.TheVariants as op
use Rattle.bril_tree.specs.Edge.{Branch, branches_from, item_branches, onward, jump, abort}
use Rattle.bril_tree.specs.Membership.{In}
use Rattle.bril_tree.specs.Operand.{Variable}
use Rattle.bril_tree.specs.Step.{point_of}
use Rattle.bril_tree.proofs.Branches.{branch_inside}
use Rattle.flow_graph.specs.Branches.{HasLabels}
use Rattle.constant_pass.specs.declared.constants.known.Known.{Known}
use Rattle.constant_pass.specs.constants.Answer.{Knowledge}
use Rattle.constant_pass.specs.constants.Ways.{chosen, item_condition, item_ways}

-- a branch of an item of the function leads to a point of it
pub leads-inside : (code : List Instr) (point : ℕ) (item : Instr) (branches : List Branch) → slice_get code point ≡ Some item → branches ≡ item_branches code point item → (branch : Branch) → In branch branches → branch.to < length code + 1
leads-inside code point item branches at is branch among =
    let inside = branch_inside code point branch (subst (λ o. In branch (branches_from code point o)) (sym at) (subst (In branch) is among)) in
    omega arith

module _ (k : Knowledge) (code : List Instr) (point many : ℕ) where
  long : (g : ℕ → Branch) (ls : List ℕ) (branches : List Branch) → map g ls ≡ branches → length ls ≡ length branches
  long g ls branches e = let m = length-map ls g in let l = ap length e in omega arith

  pub leads-nowhere : (item : Instr) → HasLabels many item → item_branches code point item ≡ [] → item_ways k code point item ≡ []
  leads-nowhere (Label l) h e = absurd (let n = ap length e in omega arith)
  leads-nowhere (Const d ty l) h e = absurd (let n = ap length e in omega arith)
  leads-nowhere (Act d ty op.Br args fs ls) h e = absurd (let n = long (jump code point) ls [] e in let two = h.0 in omega arith)
  leads-nowhere (Act d ty op.Guard args fs ls) h e = absurd (let n = ap length e in omega arith)
  leads-nowhere (Act d ty o args fs ls) h e = ap (map (λ (z : Branch). z.to)) e

  pub leads-once : (item : Instr) (branch : Branch) → HasLabels many item → item_branches code point item ≡ branch ∷ [] → item_ways k code point item ≡ branch.to ∷ []
  leads-once (Label l) branch h e = ap (map (λ (z : Branch). z.to)) e
  leads-once (Const d ty l) branch h e = ap (map (λ (z : Branch). z.to)) e
  leads-once (Act d ty op.Br args fs ls) branch h e = absurd (let n = long (jump code point) ls (branch ∷ []) e in let two = h.0 in omega arith)
  leads-once (Act d ty op.Guard args fs ls) branch h e = absurd (let n = ap length e in let m = length-map ls (abort code point) in let one = h.0 in omega arith)
  leads-once (Act d ty o args fs ls) branch h e = ap (map (λ (z : Branch). z.to)) e

  module _ (first second : Branch) where
    by-jumps : (c : Known) (ls : List ℕ) → 2 ≡ length ls → map (jump code point) ls ≡ first ∷ second ∷ [] → chosen c (point_of (slice_index ls 0) code) (point_of (slice_index ls 1) code) ≡ chosen c first.to second.to
    by-jumps c [] two e = absurd (omega arith)
    by-jumps c (l ∷ []) two e = absurd (omega arith)
    by-jumps c (l ∷ m ∷ []) two e =
        let one : jump code point l ≡ first = cc in
        let other : jump code point m ≡ second = cc in
        λ i. chosen c (ap (λ (z : Branch). z.to) one i) (ap (λ (z : Branch). z.to) other i)
    by-jumps c (l ∷ m ∷ n ∷ ls) two e = absurd (omega arith)

    by-abort : (c : Known) (ls : List ℕ) → 1 ≡ length ls → onward point ∷ map (abort code point) ls ≡ first ∷ second ∷ [] → chosen c (suc point) (point_of (slice_index ls 0) code) ≡ chosen c first.to second.to
    by-abort c [] one e = absurd (omega arith)
    by-abort c (l ∷ []) one e =
        let on : onward point ≡ first = cc in
        let other : abort code point l ≡ second = cc in
        λ i. chosen c (ap (λ (z : Branch). z.to) on i) (ap (λ (z : Branch). z.to) other i)
    by-abort c (l ∷ m ∷ ls) one e = absurd (omega arith)

    pub leads-either : (item : Instr) → HasLabels many item → item_branches code point item ≡ first ∷ second ∷ [] → item_ways k code point item ≡ chosen (item_condition k item) first.to second.to
    leads-either (Label l) h e = absurd (let n = ap length e in omega arith)
    leads-either (Const d ty l) h e = absurd (let n = ap length e in omega arith)
    leads-either (Act d ty op.Br args fs ls) h e = by-jumps (k (Variable (slice_index args 0))) ls h.0 e
    leads-either (Act d ty op.Guard args fs ls) h e = by-abort (k (Variable (slice_index args 0))) ls h.0 e
    leads-either (Act d ty op.Jmp args fs ls) h e = absurd (let n = long (jump code point) ls (first ∷ second ∷ []) e in let one = h.0 in omega arith)
    leads-either (Act d ty o args fs ls) h e = absurd (let n = ap length e in omega arith)
