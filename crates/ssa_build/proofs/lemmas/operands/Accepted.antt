-- The functions of accepted programs can be tabled: what is live where one begins is an argument, and no site assigns anything.
use Rattle.std.proofs.Common.{◌≡◌, ℕ, Bool, true, false, [], map, Option, Some, None, is_some, refl, sym, ap, ◌∙◌, cond, arith}
use Rattle.std.specs.Prelude.{nat_lt, slice_get}
use Rattle.std.specs.List.{range_with_len}
use Rattle.std.proofs.lemmas.Bool.{ltb-false}
use Rattle.bril_tree.specs.declared.numbered.Instr.{Instr}
use Rattle.bril_tree.specs.declared.numbered_function.Func.{Func}
use Rattle.bril_tree.specs.declared.program.Prog.{Prog}
use Rattle.bril_tree.specs.Accepted.{IsAcceptedFunction}
use Rattle.bril_tree.specs.Assigned.{assigns_at}
use Rattle.bril_tree.specs.Membership.{In}
use Rattle.bril_tree.specs.Operand.{Location, Shadow, Variable}
use Rattle.bril_tree.specs.Sites.{Keeps, Opens, item_change}
use Rattle.bril_tree.proofs.Acceptance.{accepted_function, function_walks, shaped_at}
use Rattle.bril_tree.proofs.Assignments.{site_speculates}
use Rattle.bril_tree.proofs.Liveness.{live_assigned}
use Rattle.bril_tree.proofs.Shapes.{none_assigned}
use Rattle.pass_edit_laws.proofs.lemmas.acceptance.Heads.{start-high, start-shadow}
use Rattle.pass_edit_laws.proofs.lemmas.numbers.Edges.{lands}
use Rattle.ssa_build.specs.operands.Accepted.{AcceptedAreTabled}
use Rattle.ssa_laws.specs.reaching_definitions.Told.{argument}

-- what is assigned where a function begins is an argument
argument-told : (args : ℕ) (a : Location) → In a (map Variable (range_with_len 0 args)) → (y : ℕ) × (argument args a ≡ Some y)
argument-told args (Variable x) i = by (nat_lt x args) refl
  where
    by : (b : Bool) → nat_lt x args ≡ b → (y : ℕ) × (argument args (Variable x) ≡ Some y)
    by true e = (x, ap (λ b. cond b (Some x) None) e)
    by false e = absurd (let high = ltb-false x args e in let low = start-high args x i in omega (arith, high, low))
argument-told args (Shadow x) i = absurd (start-shadow args x i)

module _ (P : Prog) (F : Func) (accepted : IsAcceptedFunction P F) where
  site-assigns : (s : ℕ) (o : Option Instr) → slice_get F.code s ≡ o → item_change o false ≡ Opens → assigns_at o ≡ []
  site-assigns s None at opens = refl
  site-assigns s (Some item) at opens = none_assigned (is_some F.ret) item false (shaped_at P F accepted s item at) (λ k. let h : Opens ≡ Keeps = sym opens ∙ k in cc)

pub accepted-tabled : AcceptedAreTabled
accepted-tabled P accepted f F there gets wanted =
    let facts = accepted_function P f F accepted there in
    record {
      leads = λ p w among. lands F p w among;
      wanted = wanted;
      argued = λ a live. argument-told F.args a (live_assigned F.code F.args (is_some F.ret) (function_walks P F facts) a 0 live [] tt refl);
      opens = λ s walk is open_site. site-assigns P F facts s (slice_get F.code s) refl (site_speculates F.code walk s open_site);
    }
