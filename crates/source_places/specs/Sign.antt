-- The sign of a terminal.
use Rattle.std.specs.Prelude.{ℕ, List, map}
use Rattle.bril_lex.specs.Lexeme.{lexeme_of}
use Rattle.bril_lex.specs.declared.token.Token.{Token}
use Rattle.bril_grammar.specs.declared.mark.Mark.{Mark}
use Rattle.bril_grammar.specs.declared.mark.Mark.TheVariants.{OpenBrace, CloseBrace, OpenParen, CloseParen, Colon, Comma, Semicolon, Equals, Less, Greater}
use Rattle.bril_grammar.specs.Terminal.{Terminal, terminal_of}
use Rattle.source_places.specs.declared.sign.Sign.{Sign}
use Rattle.source_places.specs.declared.sign.Sign.TheVariants as sign

abbrev pub mark_sign : Mark → Sign
mark_sign OpenBrace = sign.Opening
mark_sign Semicolon = sign.Semicolon
mark_sign CloseBrace = sign.Other
mark_sign OpenParen = sign.Other
mark_sign CloseParen = sign.Other
mark_sign Colon = sign.Other
mark_sign Comma = sign.Other
mark_sign Equals = sign.Other
mark_sign Less = sign.Other
mark_sign Greater = sign.Other

abbrev pub sign_of : Terminal → Sign
sign_of (Terminal.Function name) = sign.Function
sign_of (Terminal.Label name) = sign.Label
sign_of (Terminal.Punctuation mark) = mark_sign mark
sign_of (Terminal.Name text) = sign.Other
sign_of (Terminal.Number value) = sign.Other
sign_of Terminal.Float = sign.Other
sign_of (Terminal.Char value) = sign.Other
sign_of (Terminal.Path path) = sign.Other
sign_of Terminal.Other = sign.Other

abbrev pub signs_of : List Terminal → List Sign
signs_of terminals = map sign_of terminals

-- the sign of a token of a source
abbrev pub sign_in : List ℕ → Token → Sign
sign_in source token = sign_of (terminal_of (lexeme_of source token))
