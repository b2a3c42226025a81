-- The names are the parts of the list.
use Rattle.std.proofs.Common.{◌∙◌, ap, sym, length, arith, true≢false}
use Rattle.std.specs.Prelude.{◌==◌}
use Rattle.bril_words.proofs.Commas.{parts, parts_end, some_names}
use Rattle.bril_words.proofs.names.names_of.Goals as goal

pub loop-name-preserved : goal.loop-name-preserved
loop-name-preserved c =
    let at = c.in-Some.ensures.byte (omega arith) (λ w o finds. finds) in
    rw (c.in_ok-push.ensures.ok, c.in_ok-of.ensures) (search, parts c.loop-name.names c.loop-name.rest.now c.in-Some.name.now c.in-Some.others.now _ at.2 at.0 at.1 c.loop-name.invariant.1)

pub returns : goal.returns
returns c =
    let outside = c.in_default.ensures.byte (omega arith) (λ w o finds. finds) in
    rw (c.in_ok-push-2.ensures.ok, c.in_ok-of-2.ensures) (parts_end c.loop-name.names c.loop-name.rest.now _ outside c.loop-name.invariant.1 ∙ sym (some_names c.args.list.now (λ e. absurd (true≢false (sym (c.is_empty.ensures ∙ ap (λ l. length l == 0) e) ∙ c.if-is_empty.false)))))
