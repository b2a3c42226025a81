-- No token so far is the name.
use Rattle.std.proofs.Common.{◌≡◌, drop}
use Rattle.std.specs.Prelude.{find}
use Rattle.bril_explain.specs.Locate.{is_named}
use Rattle.bril_explain.proofs.locate.named_among.Given as goal

abbrev pub invariant-loop-token : goal.invariant-loop-token
invariant-loop-token l = find (is_named l.name l.source) (drop l.token-index l.tokens) ≡ find (is_named l.name l.source) l.tokens
