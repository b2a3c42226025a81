use Rattle.std.proofs.Common.{◌≡◌, ◌+◌, ◌-◌, ◌<◌, [], ◌∷◌, ◌++◌, length, get_or, ap, ◌∙◌, subst, arith}
use Rattle.std.specs.List.{Contains}
use Rattle.std.proofs.lemmas.List.Elements.{All-nil, All-push, Contains-push, Contains-append_left}
use Rattle.std.proofs.lemmas.Option.{get_or_from_slice_get}
use Rattle.flow_graph.specs.Accesses.{Accesses}
use Rattle.flow_graph.specs.declared.reads.Access.{Access}
use Rattle.flow_graph.proofs.AccessRows.{done-start, done-next, all-done, accessed}
use Rattle.flow_graph.proofs.accesses.AccessLists.row_items.Goals as goal

pub loop-end-init : goal.loop-end-init
loop-end-init c = record {
  done = done-start c.args.self.now.list c.args.location c.end-end.result (λ k access. Contains c.new-items.result.items access.item) c.end-end.ensures;
  only = rw c.new-items.ensures.items (All-nil (λ item. Accesses c.args.self.now.list c.args.location item));
}

pub loop-end-preserved : goal.loop-end-preserved
loop-end-preserved c =
    let list = c.args.self.now.list in
    let same : c.self.inside.list.items ≡ list = ap (λ v. v.list) c.self.view_is in
    let inv = c.loop-end.invariant in
    let positive = c.loop-end-test.true in
    let k = c.loop-end.end - 1 in
    let here : k + 1 ≡ c.loop-end.end = omega arith in
    let within = inv.done.within in
    let below = inv.done.row.within in
    let low : k < length list = omega arith in
    let old = c.loop-end.items.items in
    let item = c.index.result.now.item in
    let is : c.index.result.now ≡ get_or list k c.index.result.now = c.index.ensures ∙ ap (λ xs. get_or xs k c.index.result.now) same in
    let pushed : c.push.new.self.items ≡ old ++ item ∷ [] = c.in_ok-push.ensures.items in
    record {
      done = done-next list c.args.location c.loop-end.end k c.before-end.result (λ j access. Contains old access.item) (λ j access. Contains c.push.new.self.items access.item) here inv.done c.before-end.ensures
          (λ j access there. rw pushed (Contains-append_left old (item ∷ []) access.item there))
          (λ access e.
          let found : c.index.result.now ≡ access = is ∙ get_or_from_slice_get list k access c.index.result.now e in
          subst (λ (r : Access). Contains c.push.new.self.items r.item) found (rw pushed (Contains-push old item)));
      only = rw pushed (All-push (λ item. Accesses list c.args.location item) old item inv.only (accessed list c.args.location inv.done.bound c.loop-end.end k c.index.result.now inv.done.row here low is));
    }

pub returns : goal.returns
returns c = all-done c.args.self.now.list c.args.location c.loop-end.items.items c.loop-end.end (omega arith) c.loop-end.invariant.done c.loop-end.invariant.only
