use Rattle.std.proofs.Common.{[], ◌∷◌, subst, arith}
use Rattle.std.specs.Str.Parse.{ParsesUnsigned}
use Rattle.monitor_script.proofs.Cuts.{equal_not}
use Rattle.monitor_script.proofs.Items.{empty_digits, first_digit, item_is_text, parsed_item, spells_zero}
use Rattle.monitor_script.proofs.item.read_item.Goals.{then-is_empty-via-then-is_empty, then-is_empty-via-else-is_empty+then-digits-eq48, then-is_empty-via-else-is_empty+else-digits-eq48+then-digits-eq43}
use Rattle.monitor_script.proofs.item.read_item.Goals as goal

pub returns-then-eq : goal.returns-then-eq
returns-then-eq c = spells_zero c.args.digits.now c.as_slice.result.now c.eq.result c.eq.ensures c.if-eq.true c.as_slice.ensures

pub returns-then-is_empty : goal.returns-then-is_empty
returns-then-is_empty c = λ item low e.
    let digits = c.args.digits.now in
    let other = equal_not digits c.as_slice.result.now (48 ∷ []) c.eq.result c.eq.ensures c.if-eq.false c.as_slice.ensures in
    let first = first_digit digits item other low e in
    elim c.then-is_empty.branch [
      | then-is_empty-via-then-is_empty w ↦ empty_digits digits item c.is_empty.result low e c.is_empty.ensures w.if-is_empty.true
      | then-is_empty-via-else-is_empty+then-digits-eq48 w ↦ let h = w.if-digits-eq48.true in omega arith
      | then-is_empty-via-else-is_empty+else-digits-eq48+then-digits-eq43 w ↦ let h = w.if-digits-eq43.true in omega arith
    ]

pub returns-in-Ok : goal.returns-in-Ok
returns-in-Ok c =
    let digits = c.args.digits.now in
    rw c.ok.ensures.value
    (parsed_item digits c.parse.result (subst (λ z. ParsesUnsigned 32 10 z c.parse.result) c.in-Ok.ensures.cases.0 c.parse.ensures.value.0) (λ e. let h = c.if-digits-eq48.false in omega arith) (λ e. let h = c.if-digits-eq43.false in omega arith))

pub returns-in-Err : goal.returns-in-Err
returns-in-Err c = λ item low e. c.in-Err.ensures.cases.0 (item_is_text c.args.digits.now item low e)
