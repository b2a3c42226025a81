-- What a sink in memory tells after a part of a piece was written to it.
use Rattle.std.proofs.Common.{◌≡◌, ℕ, ◌+◌, ◌^◌, ◌<◌, ◌≤◌, true, List, ◌++◌, length, take, drop, Option, Some, ap, sym, ◌∙◌, take-append-drop, length-append, arith}
use Rattle.bril_outside.specs.Sink.{TookSome}
use Rattle.bril_outside.proofs.SinkWrites.{amount_after-in_range}

-- the first bytes of a piece were put behind what was held
pub TookSome-held : (held piece new : List ℕ) (puts then : Option ℕ) (n faults now : ℕ) → new ≡ held ++ take n piece → length new < 2 ^ 64 → faults ≤ now
    → TookSome (record { written = Some held; amount = Some (length held); puts = puts; faults = faults; is_out = true }) piece (record { written = Some new; amount = Some (length new); puts = then; faults = now; is_out = true })
TookSome-held held piece new puts then n faults now is small stay =
    let sum : length new ≡ length held + length (take n piece) = ap length is ∙ length-append held (take n piece) in
    record {
      part = take n piece;
      rest = drop n piece;
      whole = sym (take-append-drop n piece);
      took = record {
        written = ap Some is;
        amount = ap Some sum ∙ sym (amount_after-in_range (length held) (length (take n piece)) (omega arith));
        faults = stay;
      };
    }
