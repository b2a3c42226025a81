-- The names of definitions: those in the list are those of the tables, and no two definitions have one.
use Rattle.std.proofs.Common.{◌≡◌, ℕ, ◌+◌, ◌<◌, [], ◌∷◌, length, cond, ap, ◌∙◌, arith}
use Rattle.std.proofs.lemmas.Bool.{lt-ltb}
use Rattle.std.proofs.lemmas.List.{get_or_default, length-map}
use Rattle.bril_tree.specs.declared.function_tree.FuncTree.{FuncTree}
use Rattle.bril_tree.specs.declared.numbered.VarInfo.{VarInfo}
use Rattle.bril_tree.specs.declared.numbered_function.Func.{Func}
use Rattle.bril_tree.specs.Numbered.{named, variable_names}
use Rattle.bril_names.proofs.Functions.{Differ-variables}
use Rattle.bril_names.proofs.Naming.{one_number}
use Rattle.ssa_build.specs.code.Items.{name_in}
use Rattle.ssa_build.specs.code.Names.{variables_written}
use Rattle.ssa_build.specs.fresh_names.Names.{base_name, definition_name, made_name}
use Rattle.ssa_build.proofs.lemmas.fresh_names.Differing.{names-differ}
use Rattle.ssa_build.specs.tree.Made.{IsLaidFunction}
use Rattle.ssa_build.proofs.lemmas.tree.Parts.{written-long}
use Rattle.ssa_form_laws.specs.laid.Tables.{name_by, variable_of}

module _ (F : Func) (function g : FuncTree) (x : IsLaidFunction F function g) where
  count-is : length x.find ≡ F.args + length (variables_written F.code x.wants.list)
  count-is = let a = x.long in let b = written-long F.code x.wants.list in omega (arith, a, b)

  pub name-there : (y : ℕ) → y < length x.find → name_in x.names y ≡ name_by F function g x y
  name-there y low =
      let c = count-is in
      let n = x.are_names.long in
      get_or_default x.names y (118 ∷ []) [] (omega (arith, c, n, low)) ∙ x.are_names.each y (omega (arith, c, low))

  pub names-apart : (y z : ℕ) → name_by F function g x y ≡ name_by F function g x z → y ≡ z
  names-apart y z e =
      names-differ (variable_names F.vars) F.args x.are_names.front (variable_of F function g x)
      (λ u v lu lv s. let few = F.formed.few_args in let size = length-map F.vars (λ (w : VarInfo). w.name) in one_number (variable_names F.vars) (Differ-variables F) u v (omega (arith, few, size, lu)) (omega (arith, few, size, lv)) s)
      x.are_names.enough y z e

  -- an argument keeps its name
  pub argument-name : (y : ℕ) → y < F.args → name_by F function g x y ≡ named (variable_names F.vars) y
  argument-name y low = ap (λ b. cond b (named (variable_names F.vars) y) (made_name x.are_names.front (base_name (variable_names F.vars) (variable_of F function g x y)) y)) (lt-ltb y F.args low)

-- a function that isn't there has names that differ, too
pub no-names-apart : (y z : ℕ) → definition_name [] 0 0 (λ u. 0) y ≡ definition_name [] 0 0 (λ u. 0) z → y ≡ z
no-names-apart y z e = names-differ [] 0 0 (λ u. 0) (λ u v lu lv s. absurd (omega (arith, lu))) (λ u lu. omega (arith, lu)) y z e
