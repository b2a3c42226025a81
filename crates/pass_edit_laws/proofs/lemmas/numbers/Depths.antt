-- Where each walk of the result is matched by one of the program, as many sites are open on it.
use Rattle.std.proofs.Common.{ℕ, ◌≤◌, arith}
use Rattle.bril_tree.specs.declared.program.Prog.{Prog}
use Rattle.bril_tree.specs.FrameWords.{IsDepth}
use Rattle.bril_tree.specs.Sites.{sites_of}
use Rattle.bril_tree.specs.Step.{code_of}
use Rattle.pass_edit_laws.specs.plan.Plan.{Plan}
use Rattle.pass_edit_laws.specs.walks.Matched.{MatchesWalks}
use Rattle.pass_edit_laws.proofs.lemmas.walks.Accepting.{matched}
use Rattle.pass_edit_laws.proofs.lemmas.walks.Based.{same_length}

pub depth-within : (m : Plan) (P Q : Prog) (f args result_args : ℕ) (walks : MatchesWalks m P Q f args result_args) (d e : ℕ) → IsDepth (code_of P f) d → IsDepth (code_of Q f) e → e ≤ d
depth-within m P Q f args result_args walks d e a b =
    let l = matched m P Q f args result_args walks b.deepest b.is in
    let same = same_length m P Q f args result_args (sites_of (code_of P f) l.walk) (sites_of (code_of Q f) b.deepest) _ _ l.matches.saved in
    let most = a.most l.walk l.matches.is in
    let reaches = b.reaches in
    omega arith
