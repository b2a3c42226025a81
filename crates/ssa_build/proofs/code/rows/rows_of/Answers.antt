use Rattle.std.proofs.Common.{◌∷◌, ◌+◌, ◌<◌, ℕ, List, [], length, get_or, ◌∙◌, ap, sym, subst, arith}
use Rattle.std.proofs.lemmas.List.{length-append}
use Rattle.ssa_build.specs.code.Rows.{IsRow}
use Rattle.ssa_build.proofs.lemmas.code.Growing.{each-more}
use Rattle.ssa_build.proofs.code.rows.rows_of.Goals as goal

pub loop-point-preserved : goal.loop-point-preserved
loop-point-preserved c =
    let inv = c.loop-point.invariant in
    let rows = c.loop-point.rows.items in
    let grown = c.in_ok-push.ensures.items in
    record {
      nodes = c.in_ok-row_of.ensures.nodes ∙ inv.nodes;
      long = let h = length-append rows (c.in_ok-row_of.field-0 ∷ []) in let k = inv.long in let g = ap (λ (l : List (List ℕ)). length l) grown in omega (arith, h, k, g);
      each = subst (λ (l : List (List ℕ)). (i : ℕ) → i < c.loop-point.point + 1 → IsRow c.args.lists.now.list i (get_or l i [])) (sym grown)
          (each-more (IsRow c.args.lists.now.list) [] rows c.loop-point.point c.in_ok-row_of.field-0 inv.long inv.each c.in_ok-row_of.ensures.row);
    }
