use Rattle.std.proofs.Common.{rules, ◌≡◌, ◌<◌, ◌^◌, true, sym, subst, arith}
use Rattle.bril_tree.specs.Identifier.{is_identifier}
use Rattle.side_traces.specs.Names.{side_name}
use Rattle.side_traces.proofs.Names.{side-identifier}
use Rattle.side_traces.proofs.exits.side_base.Goals as goal

pub returns-clause-ident : goal.returns-clause-ident
returns-clause-ident c =
    let e : c.extend_from_slice.new.self.items ≡ side_name c.args.number = search rules in
    let small : c.args.number < 2 ^ 64 = omega arith in
    subst (λ b. is_identifier b ≡ true) (sym e) (side-identifier c.args.number small)
