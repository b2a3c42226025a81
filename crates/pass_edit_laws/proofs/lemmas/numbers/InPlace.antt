-- The entries of a function of which each item stays at its point, or another stands in its place: they are no more than
-- before, and no more from one leave point.
use Rattle.std.proofs.Common.{◌≡◌, ℕ, ◌+◌, ◌≤◌, false, List, [], Option, Some, None, refl, sym, ap, subst, ◌∙◌, inr}
use Rattle.std.specs.Prelude.{slice_get}
use Rattle.bril_tree.specs.declared.edge.Edge.{Edge}
use Rattle.bril_tree.specs.declared.numbered.Instr.TheVariants.{Label}
use Rattle.bril_tree.specs.declared.numbered_function.Func.{Func}
use Rattle.bril_tree.specs.declared.program.Prog.{Prog}
use Rattle.bril_tree.specs.Edge.{Branch, branches_at}
use Rattle.program_numbers.specs.Entries.{Enters, IsEntryCount, IsEntryWidth}
use Rattle.bril_tree.specs.Leaving.{IsEdge, edge_of, leave_of}
use Rattle.bril_tree.specs.Membership.{In}
use Rattle.bril_tree.specs.Numbered.{named}
use Rattle.bril_tree.specs.Sites.{sites_of}
use Rattle.bril_tree.specs.Step.{code_of, items_of}
use Rattle.bril_tree.specs.Walk.{IsWalk, end_of}
use Rattle.bril_tree.proofs.Members.{contains_in, in_contains}
use Rattle.pass_edit_laws.specs.plan.Plan.{Plan}
use Rattle.pass_edit_laws.specs.walks.Matched.{MatchedWalk, MatchesWalks}
use Rattle.pass_edit_laws.proofs.lemmas.walks.Accepting.{matched}
use Rattle.pass_edit_laws.proofs.lemmas.numbers.Entering.{EntryMatched, fewer-entries, width-within}

module _ (P : Prog) (f : ℕ) where
  -- an edge of P that leaves and goes where one of Q does
  pub record EdgeBack (leave to : ℕ) : Type 0 where
    pub edge : Edge
    pub is : IsEdge (code_of P f) edge
    pub leaves : edge.leave ≡ leave
    pub goes : edge.to ≡ to

  -- that of a branch which is no abort, like the one of Q
  pub branch-back : (walk : List Branch) → IsWalk (code_of P f) walk → (branch b : Branch) → In branch (branches_at (code_of P f) (end_of walk)) → branch.aborts ≡ false → b.aborts ≡ false → branch.from ≡ b.from → branch.to ≡ b.to → (sites : List ℕ) → EdgeBack (edge_of sites b).leave b.to
  branch-back walk is branch b among stays result_stays from goes sites = record {
    edge = edge_of (sites_of (code_of P f) walk) branch;
    is = record { walk = walk; is = is; branch = branch; at = contains_in branch (branches_at (code_of P f) (end_of walk)) among; are = refl };
    leaves = ap (λ a. leave_of a branch.from (sites_of (code_of P f) walk)) stays ∙ from ∙ sym (ap (λ a. leave_of a b.from sites) result_stays);
    goes = goes;
  }

module _ (m : Plan) (P Q : Prog) (f : ℕ) (F G : Func) (p : slice_get P.funcs f ≡ Some F) (q : slice_get Q.funcs f ≡ Some G) (walks : MatchesWalks m P Q f F.args G.args)
    -- a label of Q stands at its point in P
    (label : (i l : ℕ) → slice_get G.code i ≡ Some (Label l) → (k : ℕ) × (slice_get F.code i ≡ Some (Label k)) × (named F.labels k ≡ named G.labels l))
    -- an edge of Q is one of P
    (edge : (v : List Branch) (b : Branch) → MatchedWalk m P Q f F.args G.args v → In b (branches_at (code_of Q f) (end_of v)) → EdgeBack P f (edge_of (sites_of (code_of Q f) v) b).leave b.to) where
  abbrev Same : Option ℕ → ℕ → Option ℕ → Type 0
  Same leave label from = leave ≡ from

  entry : (leave : Option ℕ) (label : ℕ) → Enters G.code leave label → EntryMatched F G Same leave label
  entry None l at = let k = label 0 l at in record { from = None; to = k.0; enters = k.1; leaves = refl; same = k.2 }
  entry (Some point) l e =
      let is : IsEdge (code_of Q f) e.0 = subst (λ c. IsEdge c e.0) (sym (ap items_of q)) e.1 in
      let back = edge is.walk is.branch (matched m P Q f F.args G.args walks is.walk is.is) (in_contains is.branch (branches_at (code_of Q f) (end_of is.walk)) is.at) in
      let to : back.edge.to ≡ e.0.to = back.goes ∙ ap (λ (d : Edge). d.to) (sym is.are) in
      let k = label e.0.to l e.3 in
      record {
        from = Some point;
        to = k.0;
        enters = (back.edge, subst (λ c. IsEdge c back.edge) (ap items_of p) back.is, back.leaves ∙ ap (λ (d : Edge). d.leave) (sym is.are) ∙ e.2, ap (slice_get F.code) to ∙ k.1);
        leaves = refl;
        same = k.2;
      }

  pub in_place-entries : (d e : ℕ) → IsEntryCount F.code d → IsEntryCount G.code e → e ≤ d
  in_place-entries = fewer-entries F G Same entry (λ a c b l k r s. r ∙ sym s)

  pub in_place-width : (d e : ℕ) → IsEntryWidth F.code d → IsEntryWidth G.code e → e ≤ d + 0
  in_place-width =
      width-within F G ℕ [] (λ leave. record { from = leave; IsExtra = λ l x. ⊥; one = λ l k x low high r s. absurd r; labels = λ l h. inr (let k = entry leave l h in (k.to, subst (λ o. Enters F.code o k.to) (sym k.leaves) k.enters, k.same)) })
