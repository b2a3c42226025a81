-- Lists that grow by one item a step.
use Rattle.std.proofs.Common.{◌≡◌, ℕ, ◌+◌, ◌<◌, ◌||◌, true, List, [], ◌∷◌, ◌++◌, length, get_or, Option, Some, None, refl, sym, ap, subst, ◌∙◌, arith}
use Rattle.std.specs.Prelude.{◌==◌, not, slice_get}
use Rattle.std.specs.List.{Contains, filter}
use Rattle.std.proofs.lemmas.Bool.{and_parts}
use Rattle.std.proofs.lemmas.Option.{slice_get_within}
use Rattle.bril_tree.specs.declared.edge.Edge.{Edge}
use Rattle.bril_tree.specs.declared.numbered.Instr.{Instr}
use Rattle.bril_tree.proofs.Members.{in_contains, in_map_source}
use Rattle.flow_graph.specs.declared.reads.Access.{Access}
use Rattle.pass_edit_laws.proofs.lemmas.numbers.Different.{filter_in}
use Rattle.ssa_build.specs.code.Rows.{leave_of, leaves_before, leaves_of}
use Rattle.ssa_laws.specs.inserted_copies.Inserted.{is_jump}
use Rattle.ssa_search.specs.placing.Wanted.{is_label}
use Rattle.std.proofs.Math.ListN.{get_or-append}
use Rattle.std.proofs.Math.Seq.{get_or-append_seam}
use borrow.Author.Count.{below_more}

-- each has what it ought to, and so has one more
pub each-more : {X : Type 0} (P : ℕ → X → Type 0) (d : X) (xs : List X) (n : ℕ) (x : X) → length xs ≡ n → ((k : ℕ) → k < n → P k (get_or xs k d)) → P n x → (k : ℕ) → k < n + 1 → P k (get_or (xs ++ x ∷ []) k d)
each-more P d xs n x long each new =
    below_more (λ k. P k (get_or (xs ++ x ∷ []) k d)) n (λ k low. subst (P k) (sym (get_or-append xs (x ∷ []) d k (omega (arith, long, low)))) (each k low))
    (subst (P n) (sym (ap (λ k. get_or (xs ++ x ∷ []) k d) (sym long) ∙ get_or-append_seam xs x [] d)) new)

-- the labels of edges stand at items
labelled-within : (code : List Instr) (k : ℕ) → is_label (slice_get code k) ≡ true → k < length code
labelled-within code k e = by (slice_get code k) refl e
  where
    by : (o : Option Instr) → slice_get code k ≡ o → is_label o ≡ true → k < length code
    by None at h = absurd cc
    by (Some item) at h = slice_get_within code k item at

pub leaves-within : (code : List Instr) (edges : List Edge) (a : Access) → Contains (leaves_of code edges) a → a.item < length code
leaves-within code edges a c =
    let s = in_map_source leave_of a (filter (leaves_before code) edges) (in_contains a (leaves_of code edges) c) in
    let e = filter_in (leaves_before code) edges s.0 s.1 in
    let l = and_parts (is_label (slice_get code s.0.to)) (is_jump (slice_get code s.0.leave) || not (s.0.leave == s.0.from)) e.1 in
    subst (λ (b : Access). b.item < length code) (sym s.2) (labelled-within code s.0.to l.0)
