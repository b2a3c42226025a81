-- A tree without imports has one numbered program or one fault, and a program is the numbering of one tree at most.
use Rattle.std.proofs.Common.{◌≡◌, ◌⊎◌, [], sym, ◌∙◌, inl, inr}
use Rattle.bril_tree.specs.declared.program.Prog.{Prog}
use Rattle.bril_tree.specs.declared.tree.Tree.{Tree}
use Rattle.bril_tree.specs.Numbered.{Numbered}
use Rattle.bril_names.specs.Faults.{HasFault}
use Rattle.bril_names.specs.declared.fault.NameFault.{NameFault}
use Rattle.bril_names.proofs.Decisions.{IsFaultyTree, sound_or_faulty_tree}
use Rattle.bril_names.proofs.Faultless.{IsSoundTree, same_fault, faultless}
use Rattle.bril_names.proofs.Functions.{same_program}
use Rattle.bril_names.proofs.Programs.{make_program}
use Rattle.bril_names.proofs.Sound.{numbered_names, sound_tree}

-- a tree has one numbered program at most
pub one_program : (tree : Tree) (p q : Prog) → Numbered tree p → Numbered tree q → p ≡ q
one_program tree p q of_p of_q = same_program p q (sym (numbered_names tree p of_p) ∙ numbered_names tree q of_q) (sym of_p.functions ∙ of_q.functions)

-- a program is the numbering of one tree at most
pub one_tree : (t u : Tree) (p : Prog) → Numbered t p → Numbered u p → t ≡ u
one_tree t u p of_t of_u =
    let imports = of_t.alone ∙ sym of_u.alone in
    let funcs = of_t.functions ∙ sym of_u.functions in
    λ i. record { imports = imports i; funcs = funcs i }

-- a tree has one fault at most
pub one_fault : (tree : Tree) (f g : NameFault) → HasFault tree f → HasFault tree g → f ≡ g
one_fault = same_fault

-- a tree with a numbered program has no fault
pub never_both : (tree : Tree) (p : Prog) (f : NameFault) → Numbered tree p → HasFault tree f → ⊥
never_both tree p f of_p has = faultless tree (sound_tree tree p of_p) f has

-- a tree without imports has a numbered program or a fault
pub either : (tree : Tree) → tree.imports ≡ [] → ((p : Prog) × Numbered tree p) ⊎ ((f : NameFault) × HasFault tree f)
either tree alone = by (sound_or_faulty_tree tree)
  where
    by : IsSoundTree tree ⊎ IsFaultyTree tree → ((p : Prog) × Numbered tree p) ⊎ ((f : NameFault) × HasFault tree f)
    by (inl sound) = let made = make_program tree sound alone in inl (made.program, made.numbered)
    by (inr faulty) = inr (faulty.fault, faulty.has)
