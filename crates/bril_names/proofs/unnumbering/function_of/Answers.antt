use Rattle.std.proofs.Common.{◌≡◌, length, get_or, Some, refl, sym, ap, ◌∙◌, subst}
use Rattle.std.specs.Prelude.{slice_get}
use Rattle.std.proofs.lemmas.Option.{slice_get_read}
use Rattle.std.proofs.lemmas.Result.{IfOk-weaker}
use Rattle.bril_tree.specs.Numbered.{function_tree, names_of_functions, tree_of}
use Rattle.bril_tree.proofs.Trees.{function_at}
use Rattle.bril_names.specs.Range.{AreInRange}
use Rattle.bril_names.proofs.Functions.{program_in_range}
use Rattle.bril_names.proofs.unnumbering.function_of.Goals as goal

pub named_function-requires : goal.named_function-requires
named_function-requires c =
    let f = c.index-funcs-number.result in
    let is = subst (λ fs. f ≡ get_or fs c.args.number f) c.as_slice-funcs.ensures c.index-funcs-number.is in
    subst (λ fs. AreInRange (length fs) (length f.vars) (length f.labels) f.code) (sym c.as_slice-funcs.ensures) (program_in_range c.args.prog.now c.args.number f c.requires is)

pub returns : goal.returns
returns c =
    let p = c.args.prog.now in
    let f = c.index-funcs-number.result in
    let is = subst (λ fs. f ≡ get_or fs c.args.number f) c.as_slice-funcs.ensures c.index-funcs-number.is in
    let there : slice_get p.funcs c.args.number ≡ Some f = slice_get_read p.funcs (length p.funcs) c.args.number f refl c.requires is in
    IfOk-weaker c.named_function.result _ (λ tree. slice_get (tree_of p).funcs c.args.number ≡ Some tree)
    (λ tree e. function_at p c.args.number f there ∙ ap Some (sym (e ∙ ap (λ fs. function_tree (names_of_functions fs) f) c.as_slice-funcs.ensures)))
    c.named_function.ensures
