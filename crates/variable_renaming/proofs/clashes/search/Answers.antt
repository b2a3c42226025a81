use Rattle.std.proofs.Common.{◌<◌, subst, sym}
use Rattle.std.specs.List.{All}
use Rattle.bril_tree.specs.Operand.{Variable}
use Rattle.variable_renaming.proofs.clashes.search.Goals as goal

pub returns-clause-within : goal.returns-clause-within
returns-clause-within c = subst (λ n. All (λ point. point < n) c.search_live.new.reached.found) c.requires.flow.points c.in_ok-search_live.ensures.within

pub returns-clause-found : goal.returns-clause-found
returns-clause-found c = c.in_ok-search_live.ensures.live c.args._func.now.code c.requires.flow (Variable c.args.x) (sym c.in_ok-location.ensures.number)
