-- The program is accepted.
use Rattle.std.proofs.Common.{Option, inl, refl, subst}
use Rattle.std.specs.Prelude.{MatchOption}
use Rattle.bril_commands.specs.Source.{WithImports, IsProgramOf}
use Rattle.bril_tree.specs.declared.program.Prog.{Prog}
use Rattle.bril_explain.specs.Explained.{Explains}
use Rattle.bril_explain.specs.declared.explanation.Explanation.{Explanation}
use Rattle.bril_explain.proofs.first_fault.explain.Goals as goal

pub returns-in-Ok-None-clause-explained : goal.returns-in-Ok-None-clause-explained
returns-in-Ok-None-clause-explained g c =
    let before = g.F.Files.seen c.args.files.now in
    let after = g.F.Files.seen c.explanation.new.files in
    let root = c.args.root.now in
    let found =
    subst (λ (o : Option Explanation). MatchOption o ((p : Prog) × IsProgramOf WithImports before.holds root p) (Explains before after root)) c.in-Ok-None.field-0-is c.in-Ok-None.ensures.ok in
    inl (record { answer = refl; p = found.0; accepted = found.1; silent = refl })
