use Rattle.std.proofs.Common.{rules, ◌≡◌, ◌++◌, ◌<◌, ◌^◌, true, sym, subst, arith}
use Rattle.bril_tree.specs.Identifier.{is_identifier}
use Rattle.bril_tree.proofs.Identifiers.{longer_identifier}
use Rattle.trace_laws.specs.lines.Names.{trace_name}
use Rattle.trace_stitcher.proofs.lemmas.fresh_names.Identifiers.{named-trace}
use Rattle.trace_stitcher.proofs.fresh_names.bases.trace_base.Goals as goal

pub returns-clause-ident : goal.returns-clause-ident
returns-clause-ident c =
    let e : c.extend_from_slice-2.new.self.items ≡ trace_name c.args.number ++ c.args.rest.now = search rules in
    let small : c.args.number < 2 ^ 64 = omega arith in
    subst (λ b. is_identifier b ≡ true) (sym e) (longer_identifier (trace_name c.args.number) c.args.rest.now (named-trace c.args.number small) c.requires)
