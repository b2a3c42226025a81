-- `passes`: the program that a list of passes makes of an accepted program is written, in canonical text.
use Rattle.std.specs.Prelude.{ℕ, ◌≡◌, true, List, [], ◌∷◌}
use Rattle.bril_text.specs.Canonical.{canonical_text}
use Rattle.bril_tree.specs.Numbered.{Numbered}
use Rattle.bril_tree.specs.declared.program.Prog.{Prog}
use Rattle.bril_tree.specs.declared.tree.Tree.{Tree}
use Rattle.bril_commands.specs.Command.{OfProgram, NoArguments, NoImage}
use Rattle.bril_commands.specs.Outcome.{writes}
use Rattle.bril_commands.specs.PassList.{tallies_told}
use Rattle.bril_commands.specs.Profiles.{NamedFile}

-- The text is the canonical text of the program.
pub record IsTextOf (q : Prog) (text : List ℕ) : Type 0 where
  pub tree : Tree
  pub numbered : Numbered tree q
  pub is : text ≡ canonical_text tree

-- The output is the canonical text of the program, by one put.
pub record PutsTextOf (q : Prog) (output : List (List ℕ)) : Type 0 where
  pub text : List ℕ
  pub is : IsTextOf q text
  pub one : output ≡ text ∷ []

-- The text of the program that the list makes is written, and the tallies of the passes that it used are told.
abbrev pub transforms : OfProgram
transforms = record { arguments = NoArguments; profile = NamedFile; takes_passes = true; emission = NoImage; outcome = λ on. writes (tallies_told on.passes) (PutsTextOf on.made) }
