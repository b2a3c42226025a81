-- A result has no longer list of arguments, where its items come from the program's.
use Rattle.std.proofs.Common.{ℕ, ◌≤◌, List, [], ◌∷◌, map, refl, inl, inr, arith}
use Rattle.bril_tree.specs.declared.numbered.Instr.{Instr}
use Rattle.bril_tree.specs.declared.numbered_function.Func.{Func}
use Rattle.program_numbers.specs.Cost.{item_passes, longest_in}
use Rattle.bril_tree.specs.Membership.{In}
use Rattle.program_numbers.specs.ProgramNumbers.{greatest}
use Rattle.bril_names.proofs.Variables.{same_arguments}
use Rattle.pass_edit_laws.proofs.lemmas.numbers.Items.{IsOfItems}

pub greatest-within : (most : ℕ) (xs : List Instr) → ((x : Instr) → In x xs → item_passes x ≤ most) → greatest (map item_passes xs) ≤ most
greatest-within most [] each = omega arith
greatest-within most (x ∷ xs) each = let one = each x (inl refl) in let rest = greatest-within most xs (λ y i. each y (inr i)) in omega arith

pub no-longer-arguments : (rename : List ℕ → List ℕ) (extra : List (List ℕ)) (F G : Func) → IsOfItems rename extra F G → longest_in G ≤ longest_in F
no-longer-arguments rename extra F G of_items =
    let same = (same_arguments F.args G.args F.vars G.vars F.formed.few_args G.formed.few_args F.formed.args_typed G.formed.args_typed of_items.args).count in
    let items = greatest-within (longest_in F) G.code (λ b i. (of_items.items b i).passes) in
    omega arith
