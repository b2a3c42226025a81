use Rattle.std.proofs.Common.{◌∙◌, List, sym, ap}
use Rattle.bril_tree.specs.declared.function_tree.Item.{Item}
use Rattle.bril_tree.specs.Numbered.{variable_names}
use Rattle.trace_stitcher.specs.Inserted.{labels_before, lines_behind}
use Rattle.trace_stitcher.proofs.Rows.{all-put, names-same, nothing-put}
use Rattle.trace_stitcher.proofs.edit.traced_function.Goals as goal
use Rattle.std.proofs.Common.{refl}

pub returns-then-not-has_entries : goal.returns-then-not-has_entries
returns-then-not-has_entries c = record { by_names = λ names are i. record c.args.tree { code = sym (nothing-put c.args.tree.code c.args.function names c.args.fits.now (sym c.has_entries.ensures ∙ c.if-not-has_entries.true)) i } }

pub returns : goal.returns
returns c = record {
  by_names = λ names are.
      let F = c.args.func.now in
      let code = c.args.tree.code in
      let f = c.args.function in
      let fits = c.args.fits.now in
      let right = names-same F.labels F.labels (variable_names F.vars) (variable_names F.vars) c.as_slice.result.now code f fits names refl refl c.as_slice.ensures are in
      let made = c.in_ok-inserted in
      let is = all-put code f names fits made.inserted.before.items made.inserted.behind.items c.in_ok-code.code
      (λ i. made.ensures.before names right i ∙ ap (λ (l : List Item). labels_before l f names 1 fits i) c.as_slice.ensures)
      (λ i. made.ensures.behind names right i ∙ ap (λ (l : List Item). lines_behind l f names 1 fits i) c.as_slice.ensures)
      c.in_ok-code.ensures in
      (λ i. record c.args.tree { code = is i });
}
