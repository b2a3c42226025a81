-- What is read of the promises holds of what the command came to.
use Rattle.bril_outside.specs.Memory.{files_seen}
use Rattle.roolvist_lib.proofs.Statuses.{told_failed, write_failed}
use Rattle.roolvist_lib.proofs.calling.CallingJob.work.Goals as goal

pub returns : goal.returns
returns g c = record {
  files_after = files_seen c.end-status.new.files;
  says = g.K.Reader.reading.follows _ _ _ _ _ _ (record { shipped = c.requires; promises = c.end-status.ensures.words; run = c.end-status.ensures.run; budget = c.end-status.ensures.budget });
  refused = write_failed c.end-status.result _ c.end-status.ensures.words;
  told = told_failed c.end-status.result _ c.end-status.ensures.words;
}
