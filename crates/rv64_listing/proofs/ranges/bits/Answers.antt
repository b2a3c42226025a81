use Rattle.std.proofs.Common.{◌≡◌, ◌<◌, ◌≤◌, drop, length, ap, sym, ◌∙◌, arith}
use Rattle.rv64_listing.specs.Reading.{number_told}
use Rattle.rv64_listing.proofs.Fields.{bits_more, bits_room, digit_low, number_end, number_none, number_on, told_eight, told_other}
use Rattle.rv64_listing.proofs.ranges.bits.Goals as goal

pub returns-then-text-ne8 : goal.returns-then-text-ne8
returns-then-text-ne8 c = told_other c.args.text.now c.if-text-ne8.true

pub returns-in_default : goal.returns-in_default
returns-in_default c =
    sym (told_eight c.args.text.now c.if-text-ne8.false ∙ (sym c.loop-byte.invariant.so_far ∙ number_none c.loop-byte.bits c.loop-byte.byte-index c.args.text.now c.loop-byte-test.true (sym c.digit.ensures ∙ c.in_default.is)))

pub overflow_add-bits : goal.overflow_add-bits
overflow_add-bits c =
    let l : length c.args.text.now ≡ 8 = c.if-text-ne8.false in
    let i : c.loop-byte.byte-index < length c.args.text.now = c.loop-byte-test.true in
    let room = bits_room c.loop-byte.bits c.loop-byte.byte-index c.loop-byte.invariant.small (omega arith) in
    let low = digit_low _ c.in-Some.digit (sym c.digit.ensures ∙ c.in-Some.is) in
    record { fits = omega arith }

pub loop-byte-preserved : goal.loop-byte-preserved
loop-byte-preserved c =
    let told = sym c.digit.ensures ∙ c.in-Some.is in
    record {
      so_far = sym (number_on c.loop-byte.bits c.in-Some.digit c.loop-byte.byte-index c.args.text.now c.loop-byte-test.true told) ∙ c.loop-byte.invariant.so_far;
      small = bits_more c.loop-byte.bits c.in-Some.digit c.loop-byte.byte-index c.loop-byte.invariant.small (digit_low _ c.in-Some.digit told);
    }

pub returns : goal.returns
returns c =
    let low : length c.args.text.now ≤ c.loop-byte.byte-index = c.loop-byte-test.false in
    let high : c.loop-byte.byte-index ≤ length c.args.text.now = c.loop-byte.auto.byte-index-end in
    let e : c.loop-byte.byte-index ≡ length c.args.text.now = omega arith in
    sym (told_eight c.args.text.now c.if-text-ne8.false ∙ (sym c.loop-byte.invariant.so_far ∙ (ap (λ k. number_told c.loop-byte.bits (drop k c.args.text.now)) e ∙ number_end c.loop-byte.bits c.args.text.now)))
