-- Imports, functions and files as they are printed; what is written reads back.
use Rattle.std.proofs.Common.{◌≡◌, ℕ, true, List, [], ◌∷◌, ◌++◌, map, Option, Some, None, refl, sym, append_assoc, append-nil, ap, ◌∙◌, subst, codes}
use Rattle.std.specs.List.{flat_map, join_by, All}
use Rattle.std.specs.Option.{IfSome}
use Rattle.bril_tree.specs.declared.function_tree.Dest.{Dest}
use Rattle.bril_tree.specs.declared.function_tree.FuncTree.{FuncTree}
use Rattle.bril_tree.specs.declared.function_tree.Item.{Item}
use Rattle.bril_tree.specs.declared.import.Import.{Import}
use Rattle.bril_tree.specs.declared.import.Taken.{Taken}
use Rattle.bril_tree.specs.declared.tree.Tree.{Tree}
use Rattle.bril_tree.specs.declared.types.Ty.{Ty}
use Rattle.bril_lex.specs.Cut.{tokens_from, AreTokens}
use Rattle.bril_lex.specs.Lexeme.{lexemes_of}
use Rattle.bril_lex.specs.Printed.{ends_before}
use Rattle.bril_lex.specs.declared.token.Kind.TheVariants as kind
use Rattle.bril_lex.proofs.Lexemes.{lexemes_of-AreTokens}
use Rattle.bril_grammar.specs.declared.mark.Mark.TheVariants.{OpenBrace, CloseBrace, CloseParen, Comma, Semicolon}
use Rattle.bril_grammar.specs.Terminal.{Terminal, path_terminal, terminal_as, terminals_of}
use Rattle.bril_grammar.specs.Written.{alias_terminals, taken_terminals, import_terminals, typed_terminals, args_terminals, ret_terminals, type_terminals, line_terminals, function_terminals, source_terminals}
use Rattle.bril_text.specs.Canonical.{alias_text, taken_text, import_text, typed_text, type_text, args_text, ret_text, item_text, function_text, canonical_text}
use Rattle.bril_tree.specs.TreeForm.{IsName, IsTaken, IsImport, IsDest, IsItem, IsFunction, IsTree}
use Rattle.bril_tree.specs.SourceLaws.{CanonicalSpells, CanonicalSpellsAlone}
use Rattle.bril_tree.proofs.Canonical.{spells_alone}
use Rattle.bril_text.proofs.Whole.{one_tree}
use Rattle.bril_text.specs.Reading.{Spells}
use Rattle.bril_grammar.proofs.Terminals.{inside-quoted, path_terminal-path}
use Rattle.bril_text.proofs.WritingPieces.{Prints, nothing, token, blank, mark, both, same_text, path_ends}
use Rattle.bril_text.proofs.WritingTypes.{Ends, type_prints, typed_prints, list_prints, all_print}
use Rattle.bril_text.proofs.WritingInstructions.{item_prints}
use Rattle.bril_text.proofs.WritingSources.{some_args, line_of, written_of, source_of, tree_of-source}
use Rattle.bril_text.proofs.WritingTerminals.{function_ends}

alias_prints : (alias : Option (List ℕ)) (following : List ℕ) → IfSome alias IsName → Ends following → Prints (alias_text alias) following (alias_terminals alias)
alias_prints None following is e = nothing following
alias_prints (Some alias) following is e =
    let named = same_text _ _ following (Terminal.Function alias ∷ []) (append-nil (64 ∷ alias)) (token kind.Function (64 ∷ alias) [] following [] (alias, refl, is) (function_ends following e) (nothing following)) in
    blank 32 (codes "as @" ++ alias) following (Terminal.Name (codes "as") ∷ Terminal.Function alias ∷ []) refl
    (token kind.Identifier (codes "as") (codes " @" ++ alias) following (Terminal.Function alias ∷ []) refl refl (blank 32 (64 ∷ alias) following (Terminal.Function alias ∷ []) refl named))

alias_ends : (alias : Option (List ℕ)) (following : List ℕ) → Ends following → Ends (alias_text alias ++ following)
alias_ends None following e = e
alias_ends (Some alias) following e = refl

taken_prints : (taken : Taken) (following : List ℕ) → IsTaken taken → Ends following → Prints (taken_text taken) following (taken_terminals taken)
taken_prints taken following is e =
    token kind.Function (64 ∷ taken.name) (alias_text taken.alias) following (alias_terminals taken.alias) (taken.name, refl, is.0)
    (function_ends (alias_text taken.alias ++ following) (alias_ends taken.alias following e)) (alias_prints taken.alias following is.1 e)

import_prints : (i : Import) (following : List ℕ) → IsImport i → Prints (import_text i) following (import_terminals i)
import_prints i following is =
    let list_terminals = join_by taken_terminals (Terminal.Punctuation Comma ∷ []) i.names ++ (Terminal.Punctuation Semicolon ∷ []) in
    let after_terminals = Terminal.Name (codes "import") ∷ list_terminals in
    let path_is = Terminal.Path (record { bytes = i.path; is_path = i.has_path }) in
    let list_text = join_by taken_text (codes ", ") i.names ++ codes ";\n" in
    let list = both (join_by taken_text (codes ", ") i.names) (codes ";\n") following (join_by taken_terminals (Terminal.Punctuation Comma ∷ []) i.names) (Terminal.Punctuation Semicolon ∷ [])
    (list_prints taken_text taken_terminals IsTaken taken_prints i.names (codes ";\n" ++ following) is.1 refl)
    (mark 59 (10 ∷ []) following [] refl (blank 10 [] following [] refl (nothing following))) in
    let after : Prints (codes " import " ++ list_text) following after_terminals =
    blank 32 (codes "import " ++ list_text) following after_terminals refl
    (token kind.Identifier (codes "import") (32 ∷ list_text) following list_terminals refl refl (blank 32 list_text following list_terminals refl list)) in
    let quoted = 34 ∷ (i.path ++ (34 ∷ [])) in
    let value : terminal_as kind.Path quoted ≡ path_is = ap path_terminal (inside-quoted 34 i.path) ∙ path_terminal-path i.path i.has_path in
    let path_token = token kind.Path quoted (codes " import " ++ list_text) following after_terminals (i.path, record { spelled = refl; is_path = i.has_path; is_utf8 = is.0 }) (path_ends ((codes " import " ++ list_text) ++ following)) after in
    let path_text : Prints (34 ∷ (i.path ++ (codes "\" import " ++ list_text))) following (path_is ∷ after_terminals) =
    same_text _ _ following (path_is ∷ after_terminals) (ap (λ l. 34 ∷ l) (append_assoc i.path (34 ∷ []) (codes " import " ++ list_text)))
    (subst (λ w. Prints (quoted ++ (codes " import " ++ list_text)) following (w ∷ after_terminals)) value path_token) in
    token kind.Identifier (codes "from") (32 ∷ 34 ∷ (i.path ++ (codes "\" import " ++ list_text))) following (path_is ∷ after_terminals) refl refl
    (blank 32 (34 ∷ (i.path ++ (codes "\" import " ++ list_text))) following (path_is ∷ after_terminals) refl path_text)

args_prints : (args : List Dest) (following : List ℕ) → All IsDest args → Prints (args_text args) following (args_terminals (some_args args))
args_prints [] following all = nothing following
args_prints (arg ∷ args) following all =
    let text = join_by typed_text (codes ", ") (arg ∷ args) in
    let terminals = join_by typed_terminals (Terminal.Punctuation Comma ∷ []) (arg ∷ args) in
    mark 40 (text ++ (41 ∷ [])) following (terminals ++ (Terminal.Punctuation CloseParen ∷ [])) refl
    (both text (41 ∷ []) following terminals (Terminal.Punctuation CloseParen ∷ []) (list_prints typed_text typed_terminals IsDest typed_prints (arg ∷ args) (41 ∷ following) all refl)
    (mark 41 [] following [] refl (nothing following)))

ret_prints : (ret : Option Ty) (following : List ℕ) → Ends following → Prints (ret_text ret) following (ret_terminals ret)
ret_prints None following e = nothing following
ret_prints (Some ty) following e = mark 58 (32 ∷ type_text ty) following (type_terminals ty) refl (blank 32 (type_text ty) following (type_terminals ty) refl (type_prints ty following e))

head_ends : (args : List Dest) (ret : Option Ty) (more following : List ℕ) → ends_before kind.Function ((args_text args ++ (ret_text ret ++ (32 ∷ more))) ++ following) ≡ true
head_ends [] None more following = refl
head_ends [] (Some ty) more following = refl
head_ends (arg ∷ args) ret more following = refl

flat_map-lines : (items : List Item) → flat_map line_terminals (map line_of items) ≡ flat_map (λ (i : Item). line_terminals (line_of i)) items
flat_map-lines [] = refl
flat_map-lines (i ∷ is) = ap (λ l. line_terminals (line_of i) ++ l) (flat_map-lines is)

body_prints : (items : List Item) (following : List ℕ) → All IsItem items → Prints (codes " {\n" ++ (flat_map item_text items ++ codes "}\n")) following (Terminal.Punctuation OpenBrace ∷ (flat_map line_terminals (map line_of items) ++ (Terminal.Punctuation CloseBrace ∷ [])))
body_prints items following all =
    let terminals = flat_map line_terminals (map line_of items) in
    let lines : Prints (flat_map item_text items) (codes "}\n" ++ following) terminals =
    subst (λ w. Prints (flat_map item_text items) (codes "}\n" ++ following) w) (sym (flat_map-lines items)) (all_print item_text (λ (i : Item). line_terminals (line_of i)) IsItem item_prints items (codes "}\n" ++ following) all) in
    let closed = both (flat_map item_text items) (codes "}\n") following terminals (Terminal.Punctuation CloseBrace ∷ []) lines (mark 125 (10 ∷ []) following [] refl (blank 10 [] following [] refl (nothing following))) in
    let text = flat_map item_text items ++ codes "}\n" in
    let all_terminals = terminals ++ (Terminal.Punctuation CloseBrace ∷ []) in
    blank 32 (codes "{\n" ++ text) following (Terminal.Punctuation OpenBrace ∷ all_terminals) refl (mark 123 (10 ∷ text) following all_terminals refl (blank 10 text following all_terminals refl closed))

function_prints : (f : FuncTree) (following : List ℕ) → IsFunction f → Prints (function_text f) following (function_terminals (written_of f))
function_prints f following is =
    let body = codes " {\n" ++ (flat_map item_text f.code ++ codes "}\n") in
    let body_terminals = Terminal.Punctuation OpenBrace ∷ (flat_map line_terminals (map line_of f.code) ++ (Terminal.Punctuation CloseBrace ∷ [])) in
    let after_ret = both (ret_text f.ret) body following (ret_terminals f.ret) body_terminals (ret_prints f.ret (body ++ following) refl) (body_prints f.code following is.2) in
    let after_args = both (args_text f.args) (ret_text f.ret ++ body) following (args_terminals (some_args f.args)) (ret_terminals f.ret ++ body_terminals) (args_prints f.args ((ret_text f.ret ++ body) ++ following) is.1) after_ret in
    token kind.Function (64 ∷ f.name) (args_text f.args ++ (ret_text f.ret ++ body)) following (args_terminals (some_args f.args) ++ (ret_terminals f.ret ++ body_terminals)) (f.name, refl, is.0)
    (head_ends f.args f.ret (codes "{\n" ++ (flat_map item_text f.code ++ codes "}\n")) following) after_args

flat_map-functions : (fs : List FuncTree) → flat_map function_terminals (map written_of fs) ≡ flat_map (λ (f : FuncTree). function_terminals (written_of f)) fs
flat_map-functions [] = refl
flat_map-functions (f ∷ fs) = ap (λ l. function_terminals (written_of f) ++ l) (flat_map-functions fs)

tree_prints : (tree : Tree) → IsTree tree → Prints (canonical_text tree) [] (source_terminals (source_of tree))
tree_prints tree is =
    let texts = flat_map function_text tree.funcs in
    let terminals = flat_map function_terminals (map written_of tree.funcs) in
    let functions : Prints texts [] terminals = subst (λ w. Prints texts [] w) (sym (flat_map-functions tree.funcs)) (all_print function_text (λ (f : FuncTree). function_terminals (written_of f)) IsFunction function_prints tree.funcs [] is.1) in
    both (flat_map import_text tree.imports) texts [] (flat_map import_terminals tree.imports) terminals (all_print import_text import_terminals IsImport import_prints tree.imports (texts ++ []) is.0) functions

-- the canonical text of a tree spells it
pub canonical_text_spells : CanonicalSpells canonical_text Spells
canonical_text_spells tree is =
    let p = tree_prints tree is in
    let ts = tokens_from 0 p.pieces in
    let are : AreTokens (canonical_text tree) ts = record { pieces = p.pieces; cut = sym p.cut; longest = p.longest; are = refl } in
    let terminals : terminals_of (lexemes_of (canonical_text tree) ts) ≡ source_terminals (source_of tree) = ap terminals_of (lexemes_of-AreTokens (canonical_text tree) ts are) ∙ p.are in
    record { tokens = ts; are = are; spell = (source_of tree, terminals, sym (tree_of-source tree)) }

-- and no other tree
pub canonical_text_spells_alone : CanonicalSpellsAlone canonical_text Spells
canonical_text_spells_alone = spells_alone canonical_text Spells one_tree canonical_text_spells
