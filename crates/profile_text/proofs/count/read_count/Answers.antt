use Rattle.std.proofs.Common.{subst, arith}
use Rattle.std.specs.Str.Parse.{ParsesUnsigned}
use Rattle.profile_text.proofs.Counts.{count_is_text, empty_digits, first_digit, parsed_count}
use Rattle.profile_text.proofs.count.read_count.Goals.{then-is_empty-via-then-is_empty, then-is_empty-via-else-is_empty+then-digits-eq48, then-is_empty-via-else-is_empty+else-digits-eq48+then-digits-eq43}
use Rattle.profile_text.proofs.count.read_count.Goals as goal

pub returns-then-is_empty : goal.returns-then-is_empty
returns-then-is_empty c = λ count fits e.
    let digits = c.args.digits.now in
    let first = first_digit digits count fits e in
    elim c.then-is_empty.branch [
      | then-is_empty-via-then-is_empty w ↦ empty_digits digits count c.is_empty.result fits e c.is_empty.ensures w.if-is_empty.true
      | then-is_empty-via-else-is_empty+then-digits-eq48 w ↦ let h = w.if-digits-eq48.true in omega arith
      | then-is_empty-via-else-is_empty+else-digits-eq48+then-digits-eq43 w ↦ let h = w.if-digits-eq43.true in omega arith
    ]

pub returns-in-Ok : goal.returns-in-Ok
returns-in-Ok c =
    let digits = c.args.digits.now in
    rw c.ok.ensures.value
    (parsed_count digits c.parse.result (subst (λ z. ParsesUnsigned 32 10 z c.parse.result) c.in-Ok.ensures.cases.0 c.parse.ensures.value.0) (λ e. let h = c.if-digits-eq48.false in omega arith) (λ e. let h = c.if-digits-eq43.false in omega arith))

pub returns-in-Err : goal.returns-in-Err
returns-in-Err c = λ count fits e. c.in-Err.ensures.cases.0 (count_is_text c.args.digits.now count fits e)
