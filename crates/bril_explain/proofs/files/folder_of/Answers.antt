-- The parts.
use Rattle.std.proofs.Common.{arith}
use Rattle.std.specs.String.{string_bytes}
use Rattle.import_linker.proofs.Folders.{part_done, parts_done}
use Rattle.bril_explain.proofs.files.folder_of.Goals as goal

pub loop-part-preserved : goal.loop-part-preserved
loop-part-preserved c =
    let at = c.in-Some.ensures.byte (omega arith) (λ w o finds. finds) in
    rw (c.in_ok-push_str-2.ensures.bytes, c.in_ok-push_str.ensures.bytes)
    (search, part_done (string_bytes c.loop-part.folder) c.loop-part.rest.now c.in-Some.part.now c.in-Some.others.now _ at.2 at.0 at.1 c.loop-part.invariant.1)

pub returns : goal.returns
returns c =
    let outside = c.in_default.ensures.byte (omega arith) (λ w o finds. finds) in
    parts_done (string_bytes c.loop-part.folder) c.loop-part.rest.now _ outside c.loop-part.invariant.1
