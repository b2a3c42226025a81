-- One byte more.
use Rattle.std.proofs.Common.{◌∙◌, sym, ap, refl, Some, None}
use Rattle.std.specs.Prelude.{if◌then◌else◌}
use Rattle.import_linker.proofs.RunLengths.{not_equal, run_ends, run_more}
use Rattle.import_linker.proofs.fresh_run.run_of.Goals as goal

pub loop-place-preserved : goal.loop-place-preserved
loop-place-preserved c = c.loop-place.invariant ∙ run_more c.args.name.now c.loop-place.place c.loop-place-test.true (rw c.if-byte-ne95.false refl)

pub returns-then-is_ascii_digit-clause-run : goal.returns-then-is_ascii_digit-clause-run
returns-then-is_ascii_digit-clause-run c =
    let place = c.loop-place.place in
    sym (c.loop-place.invariant ∙ run_ends c.args.name.now place c.loop-place-test.true (not_equal _ 95 c.if-byte-ne95.true)
    ∙ ap (λ b. if b then Some place else None) (sym c.is_ascii_digit.ensures.value ∙ c.if-is_ascii_digit.true))
