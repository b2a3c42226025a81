use Rattle.std.proofs.Common.{◌/◌, ap, sym, ◌∙◌}
use Rattle.elf_wrap.specs.Form.{field_fault}
use Rattle.elf_wrap.proofs.Files.{fault_fields, fault_size}
use Rattle.elf_wrap.proofs.reading.fault_of.Goals as goal

pub returns-in-Some : goal.returns-in-Some
returns-in-Some c =
    fault_fields c.args.source.now (c.number_at-words.result / 4) (c.number_at-stack.result / 8) c.in-Some.at (ap (λ n. n / 4) c.number_at-words.ensures) (ap (λ n. n / 8) c.number_at-stack.ensures)
    (ap (λ fs. field_fault 0 fs c.args.source.now) (sym (c.as_slice.ensures ∙ c.fields.ensures)) ∙ (sym c.first_bad_field.ensures ∙ c.in-Some.is))

pub returns : goal.returns
returns c =
    c.bad_size.ensures ∙ fault_size c.args.source.now (c.number_at-words.result / 4) (c.number_at-stack.result / 8) (ap (λ n. n / 4) c.number_at-words.ensures) (ap (λ n. n / 8) c.number_at-stack.ensures)
    (ap (λ fs. field_fault 0 fs c.args.source.now) (sym (c.as_slice.ensures ∙ c.fields.ensures)) ∙ (sym c.first_bad_field.ensures ∙ c.in_default.is))
