-- The bound, function by function.
use Rattle.std.proofs.Common.{◌≡◌, ℕ, suc, ◌+◌, List, length, min, take, Some, refl, sym, ap, subst, ◌∙◌, arith}
use Rattle.std.specs.Prelude.{slice_get}
use Rattle.std.specs.List.{sum_by}
use Rattle.std.proofs.lemmas.List.Sums.{sum_by_more}
use Rattle.std.proofs.lemmas.Option.{get_or_from_slice_get, slice_get_within}
use Rattle.bril_tree.specs.declared.numbered_function.Func.{Func}
use Rattle.bril_tree.specs.declared.program.Prog.{Prog}
use Rattle.bril_tree.specs.Size.{item_count}
use Rattle.bril_tree.specs.Step.{code_of, items_of}
use Rattle.pass_edit_laws.specs.labels.Fresh.{labels_in}
use Rattle.pass_law.specs.Bounds.{capped}
use Rattle.pass_make.specs.Edited.{TellsBound}
use Rattle.side_laws.specs.Paired.{ArePairs, Pair}
use Rattle.side_laws.specs.Sided.{IsSideBound, SideExit, exit_size, exits_size}
use Rattle.side_laws.proofs.Numbers.{all-exits, exits-of}
use Rattle.side_laws.proofs.lemmas.pairs.Existing.{pairs-there}
use Rattle.side_laws.proofs.lemmas.pairs.Unique.{exits-sum, pair_size, pairs-one}
use Rattle.side_traces.specs.Made.{added_by}

-- those of one pair more
pub added-more : (items : ℕ) (pairs : List Pair) (k : ℕ) (p : Pair) (old new : ℕ) → slice_get pairs k ≡ Some p → old ≡ min (items + added_by (take k pairs)) 18446744073709551615 → new ≡ min (old + (length p.kept + 2)) 18446744073709551615
    → new ≡ min (items + added_by (take (k + 1) pairs)) 18446744073709551615
added-more items pairs k p old new at so_far more =
    let one = sum_by_more (λ (q : Pair). length q.kept + 2) pairs k p (slice_get_within pairs k p at) in
    let is = ap (λ (q : Pair). length q.kept + 2) (get_or_from_slice_get pairs k p p at) in
    omega (arith, one, is, so_far, more)

module _ (P : Prog) where
  -- the side exits of each function
  abbrev pub exits_in : ℕ → List SideExit
  exits_in f = (exits-of P f).0

  exits-added : (f : ℕ) (pairs : List Pair) → ArePairs (code_of P f) pairs → sum_by exit_size (exits_in f) ≡ added_by pairs
  exits-added f pairs are =
      let own = pairs-there (code_of P f) in
      exits-sum (labels_in P f) 1 own.0 (exits_in f) (exits-of P f).1 ∙ ap (sum_by pair_size) (pairs-one (code_of P f) own.0 pairs own.1 are)

  -- those of one function more
  pub bound-more : (k : ℕ) (F : Func) (pairs : List Pair) (old new : ℕ) → slice_get P.funcs k ≡ Some F → ArePairs F.code pairs → old ≡ min (item_count P + exits_size exits_in k) 18446744073709551615 → new ≡ min (old + added_by pairs) 18446744073709551615
      → new ≡ min (item_count P + exits_size exits_in (k + 1)) 18446744073709551615
  bound-more k F pairs old new there are so_far more =
      let one = exits-added k pairs (subst (λ c. ArePairs c pairs) (sym (ap items_of there)) are) in
      let next : exits_size exits_in (suc k) ≡ exits_size exits_in (k + 1) = let e : suc k ≡ k + 1 = omega arith in ap (exits_size exits_in) e in
      let sum : exits_size exits_in (suc k) ≡ exits_size exits_in k + sum_by exit_size (exits_in k) = refl in
      omega (arith, one, next, sum, so_far, more)

  -- all
  pub bound-told : (k told : ℕ) → k ≡ length P.funcs → told ≡ min (item_count P + exits_size exits_in k) 18446744073709551615 → TellsBound (IsSideBound P) told
  bound-told k told all e = record {
    bound = item_count P + exits_size exits_in (length P.funcs);
    is = record { exits = exits_in; are_exits = all-exits P; is = refl };
    tells = e ∙ ap (λ n. capped (item_count P + exits_size exits_in n)) all;
  }
