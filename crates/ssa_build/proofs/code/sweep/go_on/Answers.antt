use Rattle.std.proofs.Common.{◌≡◌, ◌+◌, ◌<◌, ℕ, length, Option, Some, sym, subst}
use Rattle.std.specs.Prelude.{slice_get}
use Rattle.bril_tree.specs.declared.numbered.Instr.{Instr}
use Rattle.bril_tree.specs.Operand.{Location}
use Rattle.bril_tree.proofs.Elements.{get_at}
use Rattle.ssa_search.specs.renaming.Gets.{AreGetsOf}
use Rattle.ssa_search.specs.renaming.Tells.{TellsNow}
use Rattle.ssa_laws.specs.reaching_definitions.Tables.{else_passed}
use Rattle.ssa_laws.specs.reaching_definitions.Told.{passed_by}
use Rattle.ssa_build.proofs.lemmas.sources.Items.{item-within}
use Rattle.ssa_build.proofs.code.sweep.go_on.Goals as goal

pub pass-requires : goal.pass-requires
pass-requires c =
    let F = c.args.layout.now.func.now in
    let at : slice_get F.code c.args.point ≡ Some c.index-code-point.result =
    get_at c.as_slice-code.result.now F.code c.as_slice-code.ensures c.args.point c.index-code-point.result (subst (λ l. c.args.point < length l) (sym c.as_slice-code.ensures) c.requires.point) c.index-code-point.is in
    record { within = item-within F c.requires.layout.shaped c.args.point c.index-code-point.result at (length c.args.now.now) c.requires.wide }

pub returns : goal.returns
returns c known got are tells =
    let F = c.args.layout.now.func.now in
    let item = c.index-code-point.result in
    let at : slice_get F.code c.args.point ≡ Some item =
    get_at c.as_slice-code.result.now F.code c.as_slice-code.ensures c.args.point item (subst (λ l. c.args.point < length l) (sym c.as_slice-code.ensures) c.requires.point) c.index-code-point.is in
    let known' : Location → Option ℕ = passed_by (Some item) (F.args + c.args.point) known in
    let behind = c.enter.ensures.tells known' got (subst (AreGetsOf got) (sym c.row-gets.ensures) are) (c.pass.ensures known tells) in
    subst (λ (o : Option Instr). TellsNow (λ a. else_passed (got a) (passed_by o (F.args + c.args.point) known a)) c.enter.new.definitions) (sym at) behind
