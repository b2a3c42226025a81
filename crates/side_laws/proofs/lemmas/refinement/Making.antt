-- Q's side exit makes of Q's save what P's walk makes of P's.
use Rattle.std.proofs.Common.{◌≡◌, ℕ, suc, ◌+◌, List, [], ◌∷◌, ◌++◌, length, Option, Some, None, refl, sym, ap, subst, ◌∙◌, arith}
use Rattle.std.specs.Prelude.{slice_get}
use Rattle.std.proofs.lemmas.List.{length-append}
use Rattle.std.specs.Option.{option_map}
use Rattle.simulation.specs.System.{after}
use Rattle.simulation.proofs.After.{after-suc}
use Rattle.bril_tree.specs.declared.limits.Limits.{Limits}
use Rattle.bril_tree.specs.declared.numbered.Instr.{Instr}
use Rattle.bril_tree.specs.declared.numbered_function.Func.{Func}
use Rattle.bril_tree.specs.declared.program.Prog.{Prog}
use Rattle.bril_tree.specs.Accepted.{IsAccepted}
use Rattle.bril_tree.specs.Assigned.{assigns_of}
use Rattle.bril_tree.specs.Numbered.{tree_at, point_tree, item_tree, variable_names, names_of_functions}
use Rattle.bril_tree.specs.Operand.{Location}
use Rattle.bril_tree.specs.State.{Locals, Frame, Block, State}
use Rattle.bril_tree.specs.Step.{items_of, item_at, item_step, step}
use Rattle.pass_edit_laws.specs.plan.Plan.{ValuesMatch, StaysMatched, ItemsMatch}
use Rattle.pass_edit_laws.proofs.lemmas.steps.Attempts.{AttemptedAlike, Faults, Moves, attempted_alike}
use Rattle.pass_edit_laws.proofs.lemmas.steps.Shapes.{shaped_here}
use Rattle.pass_edit_laws.proofs.lemmas.steps.Steps.{frame, state}
use Rattle.side_laws.proofs.lemmas.refinement.Tracking.{MakesMore}

-- equal items have equal trees
pub same_trees : (fs : List (List ℕ)) (o : Option Func) (i a : ℕ) → slice_get (items_of o) i ≡ slice_get (items_of o) a → point_tree fs o i ≡ point_tree fs o a
same_trees fs None i a e = refl
same_trees fs (Some f) i a e = ap (option_map (item_tree fs (variable_names f.vars) f.labels)) e

-- equal trees do the same
pub record SharedItem (A : Location → Location → Type 0) (Q : Prog) (k j : ℕ) (a : Instr) : Type 0 where
  pub b : Instr
  pub at : item_at Q k j ≡ Some b
  pub same : ItemsMatch A a b
  pub kept : (x y : Location) → A x y → StaysMatched (assigns_of a) (assigns_of b) A x y

module _ (P Q : Prog) (limits : Limits) (accepted : IsAccepted P) (A : Location → Location → Type 0) (k bail : ℕ) (p0 q0 : Locals) (start : ValuesMatch A p0 q0) (ps qs : List Locals) (fs gs : List Frame) (blocks : List Block) (printed : List ℕ) (x : ℕ → ℕ → ℕ)
    (shared : (i j : ℕ) (a : Instr) → item_at P k i ≡ Some a → tree_at Q k j ≡ tree_at P k i → SharedItem A Q k j a) where
  -- Q on the side exit
  abbrev pub atS : (ℕ → ℕ → ℕ) → ℕ → Locals → State
  atS z j q = state (frame k j q qs ∷ gs) blocks printed None z

  abbrev pub atV : (ℕ → ℕ → ℕ) → ℕ → Locals → State
  atV y a w = state (frame k a w ps ∷ fs) blocks printed None y

  -- copies of these items of P stand in Q from a point on
  abbrev pub Copied : ℕ → List ℕ → Type 0
  Copied j [] = Unit {0}
  Copied j (i ∷ kept) = (tree_at Q k j ≡ tree_at P k i) × Copied (suc j) kept

  pub record Makes (z : ℕ → ℕ → ℕ) (j : ℕ) (kept : List ℕ) (w : Locals) : Type 0 where
    pub q : Locals
    pub steps : after (step Q limits) (length kept) (atS z j q0) ≡ atS z (j + length kept) q
    pub alike : ValuesMatch A w q

  abbrev pub Made : List ℕ → Locals → Type 0
  Made kept w = (z : ℕ → ℕ → ℕ) (j : ℕ) → Copied j kept → Makes z j kept w

  last : (j : ℕ) (kept : List ℕ) (i : ℕ) → Copied j (kept ++ i ∷ []) → tree_at Q k (j + length kept) ≡ tree_at P k i
  last j [] i c = ap (tree_at Q k) (zero_more j) ∙ c.0
    where
      zero_more : (j : ℕ) → j + 0 ≡ j
      zero_more j = omega arith
  last j (h ∷ kept) i c = ap (tree_at Q k) (shift j (length kept)) ∙ last (suc j) kept i c.1
    where
      shift : (a b : ℕ) → a + suc b ≡ suc a + b
      shift a b = omega arith

  but_last : (j : ℕ) (kept : List ℕ) (i : ℕ) → Copied j (kept ++ i ∷ []) → Copied j kept
  but_last j [] i c = tt
  but_last j (h ∷ kept) i c = (c.0, but_last (suc j) kept i c.1)

  pub made_first : Made [] p0
  made_first z j c = record { q = q0; steps = ap (λ n. atS z n q0) (zero_more j); alike = start }
    where
      zero_more : (j : ℕ) → j ≡ j + 0
      zero_more j = omega arith

  pub makes_more : MakesMore P limits accepted k bail p0 ps fs blocks printed x Made
  makes_more y i a kept w w' h attempted made moved z j copied = by (shared a (j + length kept) h.item h.same there) (made z j (but_last j kept i copied))
    where
      there : tree_at Q k (j + length kept) ≡ tree_at P k a
      there = last j kept i copied ∙ same_tree
        where
          same_tree : tree_at P k i ≡ tree_at P k a
          same_tree = same_trees (names_of_functions P.funcs) (slice_get P.funcs k) i a (h.at ∙ sym h.same)

      by : SharedItem A Q k (j + length kept) h.item → Makes z j kept w → Makes z j (kept ++ i ∷ []) w'
      by s m = stepped (attempted_alike A P Q limits k a (j + length kept) w m.q m.alike ps qs fs gs blocks printed y z h.item s.b s.same (shaped_here P accepted k a h.item h.same) s.kept attempted)
        where
          stepW : step P limits (atV y a w) ≡ item_step P limits (Some h.item) (frame k a w ps) fs (atV y a w)
          stepW = ap (λ o. item_step P limits o (frame k a w ps) fs (atV y a w)) h.same

          stepS : step Q limits (atS z (j + length kept) m.q) ≡ item_step Q limits (Some s.b) (frame k (j + length kept) m.q qs) gs (atS z (j + length kept) m.q)
          stepS = ap (λ o. item_step Q limits o (frame k (j + length kept) m.q qs) gs (atS z (j + length kept) m.q)) s.at

          newest : List Frame → Locals
          newest [] = p0
          newest (f ∷ older) = f.locations

          count : length (kept ++ i ∷ []) ≡ suc (length kept)
          count = let more = length-append kept (i ∷ []) in omega (arith, more)

          point : suc (j + length kept) ≡ j + length (kept ++ i ∷ [])
          point = omega (arith, count)

          stepped : AttemptedAlike A P Q limits (atV y a w) (atS z (j + length kept) m.q) (λ v. atV y (suc a) v) (λ v. atS z (suc (j + length kept)) v)
              (item_step P limits (Some h.item) (frame k a w ps) fs (atV y a w)) (item_step Q limits (Some s.b) (frame k (j + length kept) m.q qs) gs (atS z (j + length kept) m.q)) → Makes z j (kept ++ i ∷ []) w'
          stepped (Faults kind e1 e2) = absurd (let c = ap (λ (t : State). t.ended) (sym (sym stepW ∙ moved) ∙ e1) in cc)
          stepped (Moves p2 q2 e1 e2 agree) =
              let same : p2 ≡ w' = ap (λ (t : State). newest t.frames) (sym e1 ∙ sym stepW ∙ moved) in
              record {
                q = q2;
                steps = ap (λ n. after (step Q limits) n (atS z j q0)) count ∙ after-suc (step Q limits) (length kept) (atS z j q0) ∙ ap (step Q limits) m.steps ∙ stepS ∙ e2 ∙ ap (λ n. atS z n q2) point;
                alike = subst (λ v. ValuesMatch A v q2) same agree;
              }
