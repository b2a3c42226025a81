use Rattle.std.proofs.Common.{◌≡◌, ◌∙◌, rules}
use Rattle.std.proofs.lemmas.Result.{IfOk-weaker}
use Rattle.bril_tree.specs.Numbered.{names_of_functions}
use Rattle.pass_make.proofs.Each.{zip-each}
use Rattle.variable_renaming.specs.Made.{IsRenamedByClasses, IsRenamedTree}
use Rattle.variable_renaming.proofs.tree.renamed_tree.Goals as goal

pub each_function-requires-clause-takes : goal.each_function-requires-clause-takes
each_function-requires-clause-takes g c = λ number lent function of.
    let names : c.as_slice-names.result.now ≡ names_of_functions c.args.prog.now.funcs = c.as_slice-names.ensures ∙ c.in_ok-owned.ensures in
    search rules

pub returns : goal.returns
returns g c =
    let P = c.args.prog.now in
    IfOk-weaker c.each_function.result _ (IsRenamedTree g.R.Renaming.knows P)
    (λ tree e. record {
      imports = e.imports;
      functions = zip-each e (λ f F h given.
          let made : IsRenamedByClasses g.R.Renaming.knows P F h = (let same = given.same in let gave = given.gave in search rules) in
          made);
    }) c.each_function.ensures
