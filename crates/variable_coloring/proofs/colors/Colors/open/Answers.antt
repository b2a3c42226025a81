use Rattle.std.proofs.Common.{◌<◌, ◌∙◌, ap, set, subst, sym, true}
use Rattle.graph_search.specs.Marks.{is_marked}
use Rattle.variable_coloring.specs.Growing.{with_number}
use Rattle.variable_coloring.proofs.Heads.{heads-same, opened-plain, opened-shadowed}
use Rattle.variable_coloring.proofs.colors.Colors.open.Goals as goal

pub returns-in_ok-push-clause-heads : goal.returns-in_ok-push-clause-heads
returns-in_ok-push-clause-heads c =
    let own = c.row_of-row.ensures.row in
    let placed = c.args.self.now.classes.placed.items in
    let class = c.args.self.now.classes.class.items in
    let shadow = c.args.self.now.classes.shadow.items in
    heads-same c.args.func.now (set placed c.args.x true) c.open.new.self.placed.items class c.open.new.self.class.items shadow c.open.new.self.shadow.items c.push.new.self c.args.self.now.plain c.open.ensures.placed c.open.ensures.class c.open.ensures.shadow
    (opened-shadowed c.args.func.now c.args.x placed class shadow c.args.self.now.shadowed c.args.self.now.plain c.requires.heads (subst (λ r. r < 100) own c.row_of-row.ensures.few) c.push.new.self
    (ap (λ l. is_marked l c.args.x) (sym c.open.ensures.shadow) ∙ sym c.is_shadowed.ensures ∙ c.if-is_shadowed.true) (c.in_ok-push.ensures ∙ ap (λ r. with_number c.args.self.now.shadowed r c.args.x) own))

pub returns-in_ok-push-2-clause-heads : goal.returns-in_ok-push-2-clause-heads
returns-in_ok-push-2-clause-heads c =
    let own = c.row_of-row.ensures.row in
    let placed = c.args.self.now.classes.placed.items in
    let class = c.args.self.now.classes.class.items in
    let shadow = c.args.self.now.classes.shadow.items in
    heads-same c.args.func.now (set placed c.args.x true) c.open.new.self.placed.items class c.open.new.self.class.items shadow c.open.new.self.shadow.items c.args.self.now.shadowed c.push-else-is_shadowed.new.self c.open.ensures.placed c.open.ensures.class c.open.ensures.shadow
    (opened-plain c.args.func.now c.args.x placed class shadow c.args.self.now.shadowed c.args.self.now.plain c.requires.heads (subst (λ r. r < 100) own c.row_of-row.ensures.few) c.push-else-is_shadowed.new.self
    (ap (λ l. is_marked l c.args.x) (sym c.open.ensures.shadow) ∙ sym c.is_shadowed.ensures ∙ c.if-is_shadowed.false) (c.in_ok-push-2.ensures ∙ ap (λ r. with_number c.args.self.now.plain r c.args.x) own))
