-- There is no tree, or it has no accepted program, or this is it.
use Rattle.std.proofs.Common.{inl, inr}
use Rattle.std.proofs.lemmas.Result.{err_from_is_err_and}
use Rattle.bril_explain.proofs.first_fault.accepted.Goals as goal

pub returns-in_err-tree-clause-err : goal.returns-in_err-tree-clause-err
returns-in_err-tree-clause-err g c =
    let e = err_from_is_err_and c.from_residual.result c.from_residual.ensures.1 in
    rw (e.1, e.2) (inl c.in_err-tree.ensures.err)

pub accepted_program-requires : goal.accepted_program-requires
accepted_program-requires g c = c.in_ok-tree.ensures.ok.links.imports

pub returns-in_err-checked-clause-err : goal.returns-in_err-checked-clause-err
returns-in_err-checked-clause-err g c =
    let e = err_from_is_err_and c.from_residual-in_err-checked.result c.from_residual-in_err-checked.ensures.1 in
    rw (e.1, e.2) (inr (record { tree = c.in_ok-tree.tree; is = c.in_ok-tree.ensures.ok; refuses = c.in_err-checked.ensures.err }))

pub returns-clause-ok : goal.returns-clause-ok
returns-clause-ok g c = record {
  tree = c.in_ok-tree.tree;
  file = c.in_ok-tree.ensures.ok;
  only = c.in_ok-checked.ensures.ok.only;
  accepted = c.in_ok-checked.ensures.ok.sound.accepted;
}
