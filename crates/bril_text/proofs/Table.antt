-- Looking up a row of the table of keywords.
use Rattle.std.proofs.Common.{◌≡◌, ℕ, List, Bool, Option, bytes_eq}
use Rattle.std.specs.Prelude.{unwrap_or}
use Rattle.std.specs.List.{list_any}
use Rattle.bril_grammar.specs.declared.keyword.Keyword.{Keyword}
use Rattle.bril_grammar.specs.Keyword.{entries, keyword_among, operation_or_plain, keyword_of}
use Rattle.bril_tree.specs.Spelling.{operation_of, float_operations}
use Rattle.bril_tree.specs.declared.operation.Op.{Op}

-- what an identifier is, from the three look-ups
pub keyword_is : (text : List ℕ) (found : Option Keyword) (operation : Option Op) (float : Bool) → found ≡ keyword_among entries text → operation ≡ operation_of text → float ≡ list_any (bytes_eq text) float_operations →
    unwrap_or found (operation_or_plain operation float) ≡ keyword_of text
unfolding keyword_of
keyword_is text found operation float f o l = λ i. unwrap_or (f i) (operation_or_plain (o i) (l i))
