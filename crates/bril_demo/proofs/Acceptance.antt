-- The demo program has no fault of a name, and is accepted.
use Rattle.std.proofs.Common.{◌≡◌, [], subst}
use Rattle.bril_names.proofs.Uniqueness.{never_both, one_program}
use Rattle.bril_tree.specs.Accepted.{IsAccepted}
use Rattle.bril_tree.specs.Run.{main_types}
use Rattle.bril_tree.specs.declared.program.Prog.{Prog}
use Rattle.bril_demo.specs.Demo.{demo_tree}
use Rattle.bril_demo.specs.Laws.{DemosAreAccepted, DemosHaveNoFault, DemosTakeNothing}
use Rattle.bril_demo.proofs.Program.{accepted, main_types_none, numbered, program}

pub demo_faultless : DemosHaveNoFault
demo_faultless n fault small has = never_both (demo_tree n) (program n small) fault (numbered n small) has

pub demo_is_accepted : DemosAreAccepted
demo_is_accepted n p small is = subst IsAccepted (one_program (demo_tree n) (program n small) p (numbered n small) is) (accepted n small)

pub demo_takes_nothing : DemosTakeNothing
demo_takes_nothing n p small is = subst (λ (q : Prog). main_types q ≡ []) (one_program (demo_tree n) (program n small) p (numbered n small) is) (main_types_none n small)
