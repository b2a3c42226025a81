-- Laid code whose definitions have their types is accepted.
use Rattle.std.proofs.Common.{◌≡◌, ℕ, Some, is_some, subst}
use Rattle.std.specs.Prelude.{slice_get}
use Rattle.bril_tree.specs.declared.numbered_function.Func.{Func}
use Rattle.bril_tree.specs.Accepted.{AreWalksAccepted}
use Rattle.bril_tree.specs.Run.{types_of}
use Rattle.bril_tree.specs.Step.{code_of}
use Rattle.bril_tree.proofs.Acceptance.{walks_of}
use Rattle.pass_edit_laws.specs.acceptance.Stays.{Stays}
use Rattle.pass_edit_laws.proofs.lemmas.acceptance.Accepted.{callee-result, callee-types, program_accepted}
use Rattle.pass_edit_laws.proofs.lemmas.names.Heads.{main_same, types_same}
use Rattle.ssa_laws.specs.layout.Accepted.{LaidAccepted}
use Rattle.ssa_laws.proofs.lemmas.layout.Stays.{laid-stays}
use Rattle.ssa_laws.proofs.lemmas.layout.Walks.{laid-walks}

pub laid-accepted : LaidAccepted
laid-accepted P Q table name gets sets c accepted t covered = program_accepted P Q accepted t.heads main same stays
  where
    main : P.main ≡ Q.main
    main = main_same P Q t.heads

    same : (f : ℕ) (F G : Func) → slice_get P.funcs f ≡ Some F → slice_get Q.funcs f ≡ Some G → types_of (Some F) ≡ types_of (Some G)
    same f F G p q = types_same P Q t.heads f F G p q

    stays : (f : ℕ) (F G : Func) → slice_get P.funcs f ≡ Some F → slice_get Q.funcs f ≡ Some G → Stays P Q f F G
    stays f F G p q =
        let h = covered f F G p q in
        let old = walks_of P accepted f F p in
        let walks = laid-walks P Q table name gets sets c accepted t f F G p q h.tight (is_some F.ret) old in
        laid-stays P Q table name gets sets c accepted t f F G p q (λ g. callee-types P Q accepted t.heads main same g) (λ g. callee-result P Q accepted t.heads main same g) h.types old.sites h.covers
        (subst (λ r. AreWalksAccepted (code_of Q f) G.args (is_some r)) (t.heads.ret f F G p q) walks)
