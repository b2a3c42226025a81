-- The table of keywords.
use Rattle.std.specs.Prelude.{ℕ, List}
use Rattle.std.specs.Borrow.{Bor}
use Rattle.bril_grammar.specs.declared.keyword.Keyword.{Keyword}
use Rattle.bril_grammar.specs.Keyword.{Entry}

-- a row of the table
abbrev pub entry_of : Bor (List ℕ) × Keyword → Entry
entry_of row = record { text = row.0.now; keyword = row.1 }
