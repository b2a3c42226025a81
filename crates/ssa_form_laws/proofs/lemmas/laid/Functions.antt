-- The function of a number, what is made of it, and its tables.
use Rattle.std.proofs.Common.{◌≡◌, ◌⊎◌, ℕ, zero, suc, List, [], ◌∷◌, Some, None, refl, sym, subst, ◌∙◌, inl, inr}
use Rattle.std.specs.Prelude.{slice_get}
use Rattle.std.specs.List.{AllZip}
use Rattle.std.proofs.lemmas.Option.{same_Some}
use Rattle.bril_tree.specs.declared.function_tree.FuncTree.{FuncTree}
use Rattle.bril_tree.specs.declared.numbered_function.Func.{Func}
use Rattle.bril_tree.specs.declared.program.Prog.{Prog}
use Rattle.bril_tree.specs.declared.tree.Tree.{Tree}
use Rattle.bril_tree.specs.Numbered.{function_tree, names_of_functions}
use Rattle.ssa_build.specs.tree.Made.{IsLaidFunction, IsLaidTree}
use Rattle.ssa_form_laws.specs.laid.Tables.{FunctionTables, function_tables, no_tables, tables_among, tables_at}

-- a function of the program, what is made of it, and its tables
pub record IsMadeOf (names : List (List ℕ)) (funcs : List Func) (trees : List FuncTree) (f : ℕ) (T : FunctionTables) : Type 0 where
  pub func : Func
  pub tree : FuncTree
  pub laid : IsLaidFunction func (function_tree names func) tree
  pub there : slice_get funcs f ≡ Some func
  pub made : slice_get trees f ≡ Some tree
  pub is : T ≡ function_tables func (function_tree names func) tree laid

-- there is none of the number
pub record IsNone (funcs : List Func) (f : ℕ) (T : FunctionTables) : Type 0 where
  pub none : slice_get funcs f ≡ None
  pub is : T ≡ no_tables

pub among : (names : List (List ℕ)) (funcs : List Func) (trees : List FuncTree) (laid : AllZip (λ F g. IsLaidFunction F (function_tree names F) g) funcs trees) (f : ℕ) → IsMadeOf names funcs trees f (tables_among names funcs trees laid f) ⊎ IsNone funcs f (tables_among names funcs trees laid f)
among names [] [] laid f = inr (record { none = refl; is = refl })
among names [] (g ∷ trees) laid f = absurd laid
among names (F ∷ funcs) [] laid f = absurd laid
among names (F ∷ funcs) (g ∷ trees) laid zero = inl (record { func = F; tree = g; laid = laid.0; there = refl; made = refl; is = refl })
among names (F ∷ funcs) (g ∷ trees) laid (suc f) = by (among names funcs trees laid.1 f)
  where
    by : IsMadeOf names funcs trees f (tables_among names funcs trees laid.1 f) ⊎ IsNone funcs f (tables_among names funcs trees laid.1 f)
        → IsMadeOf names (F ∷ funcs) (g ∷ trees) (suc f) (tables_among names funcs trees laid.1 f) ⊎ IsNone (F ∷ funcs) (suc f) (tables_among names funcs trees laid.1 f)
    by (inl m) = inl (record { func = m.func; tree = m.tree; laid = m.laid; there = m.there; made = m.made; is = m.is })
    by (inr n) = inr (record { none = n.none; is = n.is })

module _ (P : Prog) (tree : Tree) (t : IsLaidTree P tree) where
  pub tables-of : (f : ℕ) → IsMadeOf (names_of_functions P.funcs) P.funcs tree.funcs f (tables_at P tree t f) ⊎ IsNone P.funcs f (tables_at P tree t f)
  tables-of f = among (names_of_functions P.funcs) P.funcs tree.funcs t.functions f

  abbrev pub HasTables : ℕ → Func → Type 0
  HasTables f F = (g : FuncTree) × (x : IsLaidFunction F (function_tree (names_of_functions P.funcs) F) g) × (slice_get tree.funcs f ≡ Some g) × (tables_at P tree t f ≡ function_tables F (function_tree (names_of_functions P.funcs) F) g x)

  -- those of a function of the program
  pub tables-there : (f : ℕ) (F : Func) → slice_get P.funcs f ≡ Some F → HasTables f F
  tables-there f F there = by (tables-of f)
    where
      by : IsMadeOf (names_of_functions P.funcs) P.funcs tree.funcs f (tables_at P tree t f) ⊎ IsNone P.funcs f (tables_at P tree t f) → HasTables f F
      by (inl m) = let same : m.func ≡ F = same_Some m.func F (sym m.there ∙ there) in subst (HasTables f) same (m.tree, m.laid, m.made, m.is)
      by (inr n) = absurd (let h : None ≡ Some F = sym n.none ∙ there in cc)
