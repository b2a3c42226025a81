use Rattle.std.proofs.Common.{rules, ◌≡◌, ◌++◌, ◌<◌, ◌^◌, true, sym, subst, arith}
use Rattle.std.specs.Fmt.{decimal}
use Rattle.bril_tree.specs.Identifier.{is_identifier}
use Rattle.bril_tree.proofs.Identifiers.{decimal_continues, longer_identifier}
use Rattle.trace_stitcher.proofs.fresh_names.bases.not_base.Goals as goal

pub returns-clause-ident : goal.returns-clause-ident
returns-clause-ident c =
    let base = c.in_ok-base.base.items in
    let e : c.extend_from_slice.new.self.items ≡ base ++ decimal c.args.turn = search rules in
    let small : c.args.turn < 2 ^ 64 = omega arith in
    subst (λ b. is_identifier b ≡ true) (sym e) (longer_identifier base (decimal c.args.turn) c.in_ok-base.ensures.ident (decimal_continues c.args.turn small))
