use Rattle.std.proofs.Common.{◌≡◌, ◌∙◌, List, ℕ, length, drop, refl, ap, sym}
use Rattle.bril_tree.specs.declared.function_tree.Item.{Item}
use Rattle.bril_tree.specs.Numbered.{variable_names}
use Rattle.trace_stitcher.specs.Inserted.{row}
use Rattle.trace_stitcher.proofs.Rows.{lent-same, names-same}
use Rattle.trace_stitcher.proofs.inserted.inserted_in.Goals as goal

pub returns-clause-before : goal.returns-clause-before
returns-clause-before c = λ names are i.
    let F = c.args.func.now in
    let new = c.put_all.new.before in
    let long : c.in_ok-before.before.len ≡ length new = sym (c.put_all.auto.before ∙ c.as_mut_slice.ensures.len) in
    ap (λ (l : List (List (List ℕ))). row l i) (lent-same c.in_ok-before.before.len new (drop (length new) c.in_ok-before.before.items) long)
    ∙ c.in_ok-put_all.ensures.before names (names-same c.in_ok-labels.labels F.labels c.in_ok-variables.variables (variable_names F.vars) c.args.code.now c.args.code.now c.args.function c.args.fits.now names c.in_ok-labels.ensures c.in_ok-variables.ensures refl are) i

pub returns-clause-behind : goal.returns-clause-behind
returns-clause-behind c = λ names are i.
    let F = c.args.func.now in
    let new = c.put_all.new.behind in
    let long : c.in_ok-behind.behind.len ≡ length new = sym (c.put_all.auto.behind ∙ c.as_mut_slice-2.ensures.len) in
    ap (λ (l : List (List Item)). row l i) (lent-same c.in_ok-behind.behind.len new (drop (length new) c.in_ok-behind.behind.items) long)
    ∙ c.in_ok-put_all.ensures.behind names (names-same c.in_ok-labels.labels F.labels c.in_ok-variables.variables (variable_names F.vars) c.args.code.now c.args.code.now c.args.function c.args.fits.now names c.in_ok-labels.ensures c.in_ok-variables.ensures refl are) i
