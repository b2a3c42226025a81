use Rattle.std.proofs.Common.{◌≤◌, length, subst, sym}
use Rattle.std.proofs.lemmas.List.Elements.{All-more}
use Rattle.bril_profile.specs.declared.profile.Entry.{Entry}
use Rattle.profile_text.specs.declared.version.Version.TheVariants.{Second}
use Rattle.profile_text.specs.Form.{IsEntry}
use Rattle.profile_text.proofs.Entries.{text_more}
use Rattle.profile_text.proofs.writing.put_entries.Goals as goal

pub loop-entry-preserved : goal.loop-entry-preserved
loop-entry-preserved c =
    let e = c.entry-item.result in
    let i = c.loop-entry.entry-index in
    let valid : IsEntry Second c.entry-item.result = record {
      func = c.in_ok-put_entry.ensures.func;
      label = c.in_ok-put_entry.ensures.label;
      short = subst (λ (x : Entry). length x.choices ≤ 256) (sym c.entry-item.is) (c.requires.short i e c.loop-entry-test.true);
      count = (subst (λ (x : Entry). 1 ≤ x.count) (sym c.entry-item.is) (c.requires.counted i e c.loop-entry-test.true), c.in_ok-put_entry.ensures.low);
    } in
    record {
      text = text_more c.args.entries.now i e c.args.into.now c.loop-entry.into c.put_entry.new.into c.loop-entry-test.true c.entry-item.is c.loop-entry.invariant.text c.in_ok-put_entry.ensures.text;
      valid = All-more (IsEntry Second) c.args.entries.now i e c.loop-entry-test.true c.loop-entry.invariant.valid (subst (IsEntry Second) c.entry-item.is valid);
    }
