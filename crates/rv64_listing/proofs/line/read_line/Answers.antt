use Rattle.std.proofs.Common.{ap, sym, ◌∙◌}
use Rattle.rv64_listing.specs.Reading.{told_by}
use Rattle.rv64_listing.proofs.Tells.{read_empty, read_more}
use Rattle.rv64_listing.proofs.line.read_line.Goals as goal

pub returns-then-is_end : goal.returns-then-is_end
returns-then-is_end c = read_empty c.args.line.now c.behind_blanks-rest.result.now c.behind_blanks-rest.ensures (sym c.if-is_end.true ∙ c.is_end.ensures)

pub returns-in-Some : goal.returns-in-Some
returns-in-Some c =
    ap told_by (sym c.in-Some.is) ∙ read_more c.args.line.now c.behind_blanks-rest.result.now c.read_word.result c.behind_blanks-rest.ensures (sym c.if-is_end.false ∙ c.is_end.ensures) c.read_word.ensures

pub returns-in-None : goal.returns-in-None
returns-in-None c =
    ap told_by (sym c.in-None.is) ∙ read_more c.args.line.now c.behind_blanks-rest.result.now c.read_word.result c.behind_blanks-rest.ensures (sym c.if-is_end.false ∙ c.is_end.ensures) c.read_word.ensures
