-- One name more.
use Rattle.std.proofs.Common.{◌∙◌, ◌++◌, ◌∷◌, [], ap₂, sym, subst, List, ℕ}
use Rattle.std.proofs.lemmas.Result.{err_from_is_err_and}
use Rattle.import_linker.specs.Linked.{beside}
use Rattle.import_linker.specs.Names.{first_unknown}
use Rattle.import_linker.specs.Refusing.{IsLack}
use Rattle.import_linker.proofs.Firsts.{found_here, lack_first, none_more, unknown-append}
use Rattle.import_linker.proofs.Repeating.{map_more}
use Rattle.import_linker.proofs.renaming.names_beside.Goals as goal

pub loop-name-preserved : goal.loop-name-preserved
loop-name-preserved c =
    let names = c.args.names.now in
    let f = beside names c.args.spelled.now in
    let i = c.loop-name.name-index in
    let x = c.name-item.result in
    record {
      made = c.in_ok-push.ensures.ok ∙ ap₂ (λ (l : List (List ℕ)) (y : List ℕ). l ++ y ∷ []) c.loop-name.invariant.made c.in_ok-renamed.ensures.ok
          ∙ sym (map_more f c.args.wanted.now i x c.loop-name-test.true c.name-item.is);
      none = none_more (first_unknown names) (unknown-append names) c.args.wanted.now i x c.loop-name-test.true c.name-item.is c.loop-name.invariant.none c.in_ok-renamed.ensures.all;
    }

pub returns-in_err-renamed-clause-all : goal.returns-in_err-renamed-clause-all
returns-in_err-renamed-clause-all c =
    let names = c.args.names.now in
    let e = err_from_is_err_and c.from_residual.result c.from_residual.ensures.1 in
    rw (e.1, e.2)
    (subst (IsLack c.in_err-renamed.field-0.0 c.args.path.now)
    (sym (found_here (first_unknown names) (unknown-append names) c.args.wanted.now c.loop-name.name-index c.name-item.result c.loop-name-test.true c.name-item.is c.loop-name.invariant.none))
    (lack_first c.in_err-renamed.field-0.0 c.args.path.now _ _ c.in_err-renamed.ensures.all))
