use Rattle.std.proofs.Common.{◌≡◌, ◌-◌}
use Rattle.rv64_listing.specs.Reading.{register_from}
use Rattle.rv64_listing.proofs.register.register_named.Given as goal

abbrev pub invariant-numbers : goal.invariant-numbers
invariant-numbers l = register_from (32 - l.number) l.number l.text ≡ register_from 32 0 l.text
