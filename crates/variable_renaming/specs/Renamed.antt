-- A program with other names of its variables: `nop` stands for each reached copy of a variable onto itself, and all else is as
-- it was.
use Rattle.std.specs.Prelude.{◌≡◌, ◌≢◌, ◌⊎◌, ℕ, suc, ◌<◌, List, length, map, Option, Some, None, slice_get}
use Rattle.std.specs.List.{Contains}
use Rattle.std.specs.Option.{option_map}
use Rattle.bril_tree.specs.declared.function_tree.Dest.{Dest}
use Rattle.bril_tree.specs.declared.function_tree.Item.{Item}
use Rattle.bril_tree.specs.declared.function_tree.Item.TheVariants as item
use Rattle.bril_tree.specs.declared.numbered.Instr.{Instr}
use Rattle.bril_tree.specs.declared.numbered_function.Func.{Func}
use Rattle.bril_tree.specs.declared.program.Prog.{Prog}
use Rattle.bril_tree.specs.Live.{IsLive}
use Rattle.bril_tree.specs.Numbered.{named, names_in, nop_item, tree_at, variable_names}
use Rattle.bril_tree.specs.Operand.{Variable, dest_of}
use Rattle.bril_tree.specs.Step.{code_of, item_at}
use Rattle.bril_tree.specs.Typing.{variable_type}
use Rattle.bril_tree.specs.Walk.{IsReached}
use Rattle.pass_edit_laws.specs.names.NamedPlan.{SameHeads}
use Rattle.variable_renaming.specs.Apart.{Copies, HasShadow, source_of}

-- ---- an item with other names of its variables

abbrev pub renamed_dest : (List ℕ → List ℕ) → Option Dest → Option Dest
renamed_dest rename None = None
renamed_dest rename (Some dest) = Some (record { name = rename dest.name; ty = dest.ty })

abbrev pub renamed_item : (List ℕ → List ℕ) → Item → Item
renamed_item rename (item.Label name) = item.Label name
renamed_item rename (item.Const dest ty value) = item.Const (rename dest) ty value
renamed_item rename (item.Act dest op args callees targets) = item.Act (renamed_dest rename dest) op (map rename args) callees targets

-- ---- a function

module _ (P : Prog) (f : ℕ) (rename : List ℕ → List ℕ) where
  -- the new name of a variable of P's function
  abbrev pub new_name : ℕ → List ℕ
  new_name x = rename (named (names_in (slice_get P.funcs f)) x)

  -- a walk leads to the item, which copies a variable to one of the same new name
  pub record IsSelfCopy (point : ℕ) : Type 0 where
    pub reached : IsReached (code_of P f) point
    pub item : Instr
    pub at : item_at P f point ≡ Some item
    pub x : ℕ
    pub y : ℕ
    pub copies : Copies item x y
    pub same : new_name x ≡ new_name y

  -- at each point stands P's item with the new names, and `nop` for a copy of a variable onto itself
  abbrev pub IsRenamedAt : Prog → ℕ → Type 0
  IsRenamedAt Q point = (IsSelfCopy point × (tree_at Q f point ≡ Some nop_item)) ⊎ ((IsSelfCopy point → ⊥) × (tree_at Q f point ≡ option_map (renamed_item rename) (tree_at P f point)))

abbrev pub name_of : Func → ℕ → List ℕ
name_of F x = named (variable_names F.vars) x

-- arguments keep their names, and each new name is that of one of the variables that get it
pub record KeepsNames (F : Func) (rename : List ℕ → List ℕ) : Type 0 where
  pub arguments : (x : ℕ) → x < F.args → rename (name_of F x) ≡ name_of F x
  pub own : (x : ℕ) → x < length F.vars → (y : ℕ) × (y < length F.vars) × (rename (name_of F x) ≡ name_of F y) × (rename (name_of F y) ≡ name_of F y)

-- The new names are sound: where two variables get one name, they are of one type, don't both have a shadow that items name,
-- and no reached item that assigns the first has the second live just after it, unless it copies a variable of this name too.
pub record IsSoundFor (P : Prog) (f : ℕ) (F : Func) (rename : List ℕ → List ℕ) (x y : ℕ) : Type 0 where
  pub types : variable_type F.vars x ≡ variable_type F.vars y
  pub shadows : HasShadow F.code x → ¬ HasShadow F.code y
  pub spares : (point : ℕ) (item : Instr) → IsReached F.code point → slice_get F.code point ≡ Some item → dest_of item ≡ Some x → ((z : ℕ) → source_of item ≡ Some z → new_name P f rename z ≡ new_name P f rename x → ⊥) → ¬ IsLive F.code (Variable y) (suc point)

abbrev pub IsSound : (P : Prog) (f : ℕ) (F : Func) (rename : List ℕ → List ℕ) → Type 0
IsSound P f F rename = (x y : ℕ) → x < length F.vars → y < length F.vars → x ≢ y → new_name P f rename x ≡ new_name P f rename y → IsSoundFor P f F rename x y

-- ---- a program

-- Q is P under sound new names; what is no variable's name stays
pub record IsRenaming (P Q : Prog) (rename : ℕ → List ℕ → List ℕ) : Type 0 where
  pub heads : SameHeads P Q
  pub names : (f : ℕ) (F : Func) → slice_get P.funcs f ≡ Some F → KeepsNames F (rename f)
  pub others : (f : ℕ) (F : Func) → slice_get P.funcs f ≡ Some F → (name : List ℕ) → ¬ Contains (variable_names F.vars) name → rename f name ≡ name
  pub points : (f point : ℕ) → IsRenamedAt P f (rename f) Q point
  pub sound : (f : ℕ) (F : Func) → slice_get P.funcs f ≡ Some F → IsSound P f F (rename f)
