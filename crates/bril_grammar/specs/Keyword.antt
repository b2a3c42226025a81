-- The keywords of the grammar and their texts.
use Rattle.std.specs.Prelude.{ℕ, Bool, true, false, List, [], ◌∷◌, Option, Some, None, codes, bytes_eq, if◌then◌else◌, unwrap_or}
use Rattle.std.specs.List.{list_any}
use Rattle.bril_tree.specs.Spelling.{operation_of, base_text, truth_text, float_operations}
use Rattle.bril_tree.specs.declared.operation.Op.{Op}
use Rattle.bril_tree.specs.declared.types.Base.TheVariants as base
use Rattle.bril_grammar.specs.declared.keyword.Keyword.{Keyword}
use Rattle.bril_grammar.specs.declared.keyword.Keyword.TheVariants.{From, Import, As, BaseType, Ptr, FloatType, Const, Truth, Operation, FloatOperation, Plain}

-- a keyword and its text
pub record Entry : Type 0 where
  pub text : List ℕ
  pub keyword : Keyword

-- the keywords of imports, types and constants
abbrev pub entries : List Entry
entries =
    record { text = codes "from"; keyword = From }
    ∷ record { text = codes "import"; keyword = Import }
    ∷ record { text = codes "as"; keyword = As }
    ∷ record { text = base_text base.Int; keyword = BaseType base.Int }
    ∷ record { text = base_text base.Bool; keyword = BaseType base.Bool }
    ∷ record { text = base_text base.Char; keyword = BaseType base.Char }
    ∷ record { text = codes "ptr"; keyword = Ptr }
    ∷ record { text = codes "float"; keyword = FloatType }
    ∷ record { text = codes "const"; keyword = Const }
    ∷ record { text = truth_text true; keyword = Truth true }
    ∷ record { text = truth_text false; keyword = Truth false }
    ∷ []

-- the keyword of the first entry with this text
abbrev pub keyword_among : List Entry → List ℕ → Option Keyword
keyword_among [] text = None
keyword_among (e ∷ es) text = if bytes_eq text e.text then Some e.keyword else keyword_among es text

-- an operation, an operation on floats, or any other identifier
abbrev pub operation_or_plain : Option Op → Bool → Keyword
operation_or_plain (Some operation) float = Operation operation
operation_or_plain None true = FloatOperation
operation_or_plain None false = Plain

-- what an identifier is to the grammar: a keyword of imports, types and constants, or the name of an operation
unfoldable pub keyword_of : List ℕ → Keyword
keyword_of text = unwrap_or (keyword_among entries text) (operation_or_plain (operation_of text) (list_any (bytes_eq text) float_operations))
