-- What the calls for one function need and give: what is live where it begins, names in range, and the function by its classes.
use Rattle.std.proofs.Common.{◌≡◌, ℕ, ◌<◌, Bool, List, [], length, map, Some, refl, sym, ap, subst, ◌∙◌}
use Rattle.std.specs.Prelude.{slice_get, is_some}
use Rattle.std.proofs.lemmas.List.{length-map}
use Rattle.std.proofs.lemmas.Option.{get_or_from_slice_get, slice_get_within}
use Rattle.bril_tree.specs.declared.function_tree.FuncTree.{FuncTree}
use Rattle.bril_tree.specs.declared.function_tree.Item.{Item}
use Rattle.bril_tree.specs.declared.numbered_function.Func.{Func}
use Rattle.bril_tree.specs.declared.program.Prog.{Prog}
use Rattle.bril_tree.specs.Accepted.{IsAccepted}
use Rattle.bril_tree.specs.Live.{IsLive}
use Rattle.bril_tree.specs.Numbered.{item_tree, names_of_functions, nop_item}
use Rattle.bril_tree.specs.Operand.{Variable}
use Rattle.bril_tree.specs.Step.{code_of, items_of}
use Rattle.bril_tree.proofs.Acceptance.{walks_of}
use Rattle.bril_tree.proofs.Liveness.{live_assigned}
use Rattle.bril_names.specs.Range.{AreInRange}
use Rattle.bril_names.proofs.Functions.{program_in_range}
use Rattle.pass_edit_laws.proofs.lemmas.acceptance.Heads.{start-high}
use Rattle.pass_edit_laws.specs.plan.Marked.{with_nops}
use Rattle.pass_make.proofs.Each.{tree_of_function}
use Rattle.variable_renaming.specs.Made.{IsRenamedFunction, MarksCopies, NamesClasses}

-- where a function of an accepted program begins, its arguments alone are live
pub live-at_start : (P : Prog) (f : ℕ) (F : Func) → IsAccepted P → slice_get P.funcs f ≡ Some F → (x : ℕ) → IsLive F.code (Variable x) 0 → x < F.args
live-at_start P f F accepted p x live =
    start-high F.args x (live_assigned (code_of P f) F.args (is_some F.ret) (walks_of P accepted f F p) (Variable x) 0 (subst (λ l. IsLive l (Variable x) 0) (sym (ap items_of p)) live) [] tt refl)

-- the items of a function are in range of its variables, and of new names that are as many
pub names_in_range : (P : Prog) (f : ℕ) (F : Func) → slice_get P.funcs f ≡ Some F → (names news : List (List ℕ)) → names ≡ names_of_functions P.funcs → length news ≡ length F.vars → AreInRange (length names) (length news) (length F.labels) F.code
names_in_range P f F there names news same long =
    subst (λ n. AreInRange (length names) n (length F.labels) F.code) (sym long)
    (subst (λ n. AreInRange n (length F.vars) (length F.labels) F.code) (sym (ap length same ∙ length-map P.funcs (λ (f : Func). f.name)))
    (program_in_range P f F (slice_get_within P.funcs f F there) (sym (get_or_from_slice_get P.funcs f F F there))))

-- marks and names, each by the list that was lent
pub function-made : (P : Prog) (F : Func) (function : FuncTree) → function ≡ tree_of_function P F → (class : List ℕ) (marks marks_lent : List Bool) → marks_lent ≡ marks → MarksCopies F class marks → (news news_lent : List (List ℕ)) → news_lent ≡ news → NamesClasses F class news
    → (names : List (List ℕ)) → names ≡ names_of_functions P.funcs → (code : List Item) → code ≡ with_nops nop_item marks_lent (map (item_tree names news_lent F.labels) F.code) → IsRenamedFunction P F class (record function { code = code })
function-made P F function tree class marks marks_lent same_marks marked news news_lent same_news new names named_so code made = record {
  news = news;
  names = new;
  marks = marks;
  marked = marked;
  tree = λ i. record (tree i) { code = code-is i };
}
  where
    code-is : code ≡ with_nops nop_item marks (map (item_tree (names_of_functions P.funcs) news F.labels) F.code)
    code-is = made ∙ (λ i. with_nops nop_item (same_marks i) (map (item_tree (named_so i) (same_news i) F.labels) F.code))
