use Rattle.std.proofs.Common.{◌≡◌, ◌<◌, ◌^◌, drop}
use Rattle.rv64_listing.specs.Reading.{number_told}
use Rattle.rv64_listing.proofs.ranges.bits.Given as goal

abbrev pub invariant-loop-byte : goal.invariant-loop-byte
invariant-loop-byte l = record {
  so_far : number_told l.bits (drop l.byte-index l.text) ≡ number_told 0 l.text;
  small : l.bits < 16 ^ l.byte-index;
}
