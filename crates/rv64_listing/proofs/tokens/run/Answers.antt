use Rattle.std.proofs.Common.{◌≡◌, ◌∷◌, ℕ, take, sym, ap, subst}
use Rattle.std.proofs.lemmas.List.{take_rest}
use Rattle.rv64_listing.specs.Reading.{run_in}
use Rattle.rv64_listing.specs.Tokens.{Run, cut}
use Rattle.rv64_listing.proofs.Front.{run_here, no_run_here, none_run}
use Rattle.rv64_listing.proofs.tokens.run.Goals as goal

pub returns-then-len-eq0 : goal.returns-then-len-eq0
returns-then-len-eq0 c = none_run (cut c.args.rest.now) (no_run_here c.args.rest.now c.plain_len-len.result c.plain_len-len.ensures c.if-len-eq0.true)

pub returns : goal.returns
returns c =
    let n : ℕ = c.plain_len-len.result in
    sym (ap run_in (subst (λ x. cut c.args.rest.now ≡ Run (take n c.args.rest.now) ∷ cut x) (sym (take_rest c.args.rest.now n)) (run_here c.args.rest.now n c.plain_len-len.ensures c.if-len-eq0.false)))
