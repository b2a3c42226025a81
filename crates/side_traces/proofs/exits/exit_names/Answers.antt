use Rattle.std.proofs.Common.{◌+◌, ◌∙◌, List, ℕ, length, ap, subst}
use Rattle.std.proofs.lemmas.List.{length_push}
use Rattle.pass_edit_laws.specs.labels.Fresh.{IsFresh}
use Rattle.side_traces.proofs.Names.{names-more}
use Rattle.side_traces.proofs.exits.exit_names.Goals as goal

pub loop-place-preserved : goal.loop-place-preserved
loop-place-preserved c =
    let names = c.loop-place.names in
    let name = c.in_ok-fresh.field-0 in
    let inv = c.loop-place.invariant in
    let fresh = subst (λ l. IsFresh l c.in_ok-base.base.items name) c.in_ok-taken.ensures c.in_ok-fresh.ensures in
    record {
      long = ap (λ (l : List (List ℕ)). length l) c.in_ok-push.ensures.ok ∙ length_push names name ∙ ap (λ n. n + 1) inv.long;
      fresh = names-more c.args.func.now.labels names c.push.new.self name c.in_ok-base.base.items c.loop-place.place inv.long c.in_ok-base.ensures.is fresh c.in_ok-push.ensures.ok inv.fresh;
    }
