use Rattle.std.proofs.Common.{◌≡◌, drop, map}
use Rattle.bril_grammar.specs.Keyword.{keyword_among}
use Rattle.bril_text.specs.Table.{entry_of}
use Rattle.bril_text.proofs.keyword.keyword_among.Given as goal

abbrev pub invariant-rows : goal.invariant-rows
invariant-rows l = keyword_among (map entry_of (drop l.row-index l.rows)) l.text ≡ keyword_among (map entry_of l.rows) l.text
