-- Labels and instructions as they are printed.
use Rattle.std.proofs.Common.{◌≡◌, ℕ, List, [], ◌∷◌, ◌++◌, map, Option, Some, None, refl, sym, append_assoc, ap, ◌∙◌, subst, codes}
use Rattle.std.specs.Option.{IfSome}
use Rattle.bril_tree.specs.declared.function_tree.Dest.{Dest}
use Rattle.bril_tree.specs.declared.function_tree.Item.{Item}
use Rattle.bril_tree.specs.declared.function_tree.Item.TheVariants as item
use Rattle.bril_lex.specs.declared.token.Kind.TheVariants as kind
use Rattle.bril_grammar.specs.declared.mark.Mark.TheVariants.{Colon, Semicolon, Equals}
use Rattle.bril_tree.specs.Spelling.{operation_text}
use Rattle.bril_grammar.specs.Terminal.{Terminal}
use Rattle.bril_grammar.specs.Written.{VariableOperand, FunctionOperand, LabelOperand, operand_terminal, literal_terminal, typed_terminals, dest_terminals, line_terminals}
use Rattle.bril_text.specs.Canonical.{names_text, operands_text, literal_text, typed_text, dest_text, item_text}
use Rattle.bril_tree.specs.TreeForm.{AreNames, IsDest, IsItem}
use Rattle.bril_text.proofs.WritingPieces.{Prints, nothing, token, blank, mark, both, same_text}
use Rattle.bril_text.proofs.WritingTypes.{Ends, typed_prints}
use Rattle.bril_text.proofs.WritingTerminals.{literal_prints, operation_prints, names_print, function_each, variable_each, label_each, names_end}
use Rattle.bril_text.proofs.WritingSources.{operands_of, line_of}

-- `;` and LF
abbrev end_text : List ℕ
end_text = codes ";\n"

abbrev end_terminals : List Terminal
end_terminals = Terminal.Punctuation Semicolon ∷ []

end_prints : (following : List ℕ) → Prints end_text following end_terminals
end_prints following = mark 59 (10 ∷ []) following [] refl (blank 10 [] following [] refl (nothing following))

-- the operands and what ends an instruction
abbrev tail_text : (args funcs labels : List (List ℕ)) → List ℕ
tail_text args funcs labels = names_text (codes " @") funcs ++ (names_text (codes " ") args ++ (names_text (codes " .") labels ++ end_text))

tail_ends : (args funcs labels : List (List ℕ)) (following : List ℕ) → Ends (tail_text args funcs labels ++ following)
tail_ends args funcs labels following =
    names_end (codes "@") funcs (names_text (codes " ") args ++ (names_text (codes " .") labels ++ end_text)) following
    (names_end [] args (names_text (codes " .") labels ++ end_text) following (names_end (codes ".") labels end_text following refl))

tail_prints : (args funcs labels : List (List ℕ)) (following : List ℕ) → AreNames args → AreNames funcs → AreNames labels → Prints (tail_text args funcs labels) following (map operand_terminal (operands_of args funcs labels) ++ end_terminals)
tail_prints args funcs labels following a f l =
    let after_labels = names_text (codes " .") labels ++ end_text in
    let after_args = names_text (codes " ") args ++ after_labels in
    let labels_end = names_end (codes ".") labels end_text following refl in
    let args_end = names_end [] args after_labels following labels_end in
    names_print (codes "@") FunctionOperand function_each funcs after_args following (map VariableOperand args ++ (map LabelOperand labels ++ [])) end_terminals f args_end
    (names_print [] VariableOperand variable_each args after_labels following (map LabelOperand labels ++ []) end_terminals a labels_end
    (names_print (codes ".") LabelOperand label_each labels end_text following [] end_terminals l refl (end_prints following)))

-- the same text as the definition groups it
tail-text : (args funcs labels : List (List ℕ)) → tail_text args funcs labels ≡ operands_text args funcs labels ++ end_text
tail-text args funcs labels =
    let f = names_text (codes " @") funcs in
    let a = names_text (codes " ") args in
    let l = names_text (codes " .") labels in
    ap (λ t. f ++ t) (sym (append_assoc a l end_text)) ∙ sym (append_assoc f (a ++ l) end_text)

dest_prints : (dest : Option Dest) (more following : List ℕ) (terminals : List Terminal) → IfSome dest IsDest → Prints more following terminals → Prints (dest_text dest ++ more) following (dest_terminals dest ++ terminals)
dest_prints None more following terminals is p = p
dest_prints (Some dest) more following terminals is p =
    both (dest_text (Some dest)) more following (dest_terminals (Some dest)) terminals
    (both (typed_text dest) (codes " = ") (more ++ following) (typed_terminals dest) (Terminal.Punctuation Equals ∷ []) (typed_prints dest (codes " = " ++ (more ++ following)) is refl)
    (blank 32 (61 ∷ 32 ∷ []) (more ++ following) (Terminal.Punctuation Equals ∷ []) refl (mark 61 (32 ∷ []) (more ++ following) [] refl (blank 32 [] (more ++ following) [] refl (nothing (more ++ following))))))
    p

pub item_prints : (i : Item) (following : List ℕ) → IsItem i → Prints (item_text i) following (line_terminals (line_of i))
item_prints (item.Label name) following is =
    token kind.Label (46 ∷ name) (codes ":\n") following (Terminal.Punctuation Colon ∷ []) (name, refl, is) refl
    (mark 58 (10 ∷ []) following [] refl (blank 10 [] following [] refl (nothing following)))
item_prints (item.Const dest ty value) following is =
    let typed : Dest = record { name = dest; ty = ty } in
    let rest = literal_text value ++ end_text in
    let terminals = literal_terminal value ∷ end_terminals in
    let constant = Terminal.Name (codes "const") ∷ terminals in
    let literal : Prints rest following terminals = literal_prints value (10 ∷ []) following end_terminals is.1 (end_prints following) in
    let after : Prints (codes " = const " ++ rest) following (Terminal.Punctuation Equals ∷ constant) =
    blank 32 (codes "= const " ++ rest) following (Terminal.Punctuation Equals ∷ constant) refl
    (mark 61 (codes " const " ++ rest) following constant refl
    (blank 32 (codes "const " ++ rest) following constant refl
    (token kind.Identifier (codes "const") (32 ∷ rest) following terminals refl refl
    (blank 32 rest following terminals refl literal)))) in
    let line = both (typed_text typed) (codes " = const " ++ rest) following (typed_terminals typed) (Terminal.Punctuation Equals ∷ constant) (typed_prints typed ((codes " = const " ++ rest) ++ following) is.0 refl) after in
    blank 32 (32 ∷ (typed_text typed ++ (codes " = const " ++ rest))) following _ refl (blank 32 (typed_text typed ++ (codes " = const " ++ rest)) following _ refl line)
item_prints (item.Act dest operation args funcs labels) following is =
    let operands = map operand_terminal (operands_of args funcs labels) in
    let tail = same_text _ _ following (operands ++ end_terminals) (tail-text args funcs labels) (tail_prints args funcs labels following is.1 is.2 is.3) in
    let rest = operands_text args funcs labels ++ end_text in
    let ends : Ends (rest ++ following) = subst (λ t. Ends (t ++ following)) (tail-text args funcs labels) (tail_ends args funcs labels following) in
    let act = operation_prints operation rest following (operands ++ end_terminals) ends tail in
    let line = dest_prints dest (operation_text operation ++ rest) following (Terminal.Name (operation_text operation) ∷ (operands ++ end_terminals)) is.0 act in
    blank 32 (32 ∷ (dest_text dest ++ (operation_text operation ++ rest))) following _ refl (blank 32 (dest_text dest ++ (operation_text operation ++ rest)) following _ refl line)
