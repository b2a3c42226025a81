-- What a command line leaves as it was where the system gives no words.
use Rattle.std.specs.Prelude.{◌≡◌}
use Rattle.bril_outside.specs.Files.{FilesSeen}
use Rattle.bril_outside.specs.Sink.{SinkSeen}

-- what is seen of files and two outputs stayed as it was
pub record IsUntouched (files files' : FilesSeen) (out out' err err' : SinkSeen) : Type 0 where
  pub files_stay : files' ≡ files
  pub out_stays : out' ≡ out
  pub err_stays : err' ≡ err
