use Rattle.std.proofs.Common.{◌≡◌, true, subst, sym}
use Rattle.std.specs.List.{Contains}
use Rattle.bril_tree.specs.Live.{IsLive}
use Rattle.bril_tree.specs.Operand.{Variable}
use Rattle.graph_search.specs.Marks.{is_marked}
use Rattle.coalesce.proofs.Finding.{adds-all}
use Rattle.coalesce.proofs.clashes.push_variable.Goals as goal

pub returns-in_ok-push_clashes-clause-adds : goal.returns-in_ok-push_clashes-clause-adds
returns-in_ok-push_clashes-clause-adds c =
    adds-all c.args.related.func.now.code c.args.related.marks.now c.args.x c.args.list.now.items c.push_clashes.new.list.items (Contains c.found.result.now) (λ p. (is_marked c.args.related.marks.now c.args.x ≡ true) × IsLive c.args.related.func.now.code (Variable c.args.x) p)
    (λ p h. subst (λ l. Contains l p) (sym c.found.ensures.value) ((c.in_ok-search.ensures.found p).1 h.1)) c.in_ok-push_clashes.ensures
