-- The lines of the later statuses.
use Rattle.bril_report.proofs.report.say.Goals as goal

pub returns-in-MisreadListing : goal.returns-in-MisreadListing
returns-in-MisreadListing g c =
    rw c.in-MisreadListing.is (rw (← c.as_bytes-in-MisreadListing.ensures.value, ← c.from.ensures) c.put_at.ensures)

pub returns-in-MisreadElf : goal.returns-in-MisreadElf
returns-in-MisreadElf g c = rw c.in-MisreadElf.is (rw (← c.as_bytes-in-MisreadElf.ensures.value) c.put_at-in-MisreadElf.ensures)

pub returns-in-CannotRead : goal.returns-in-CannotRead
returns-in-CannotRead g c = rw c.in-CannotRead.is (rw (← c.as_bytes-in-CannotRead.ensures.value) c.put_all.ensures)

pub returns-in-TooManyBytes : goal.returns-in-TooManyBytes
returns-in-TooManyBytes g c = rw c.in-TooManyBytes.is c.put-in-TooManyBytes.ensures

pub returns-in-TooManyFiles : goal.returns-in-TooManyFiles
returns-in-TooManyFiles g c = rw c.in-TooManyFiles.is c.put-in-TooManyFiles.ensures

pub returns-in-CodeTooBig : goal.returns-in-CodeTooBig
returns-in-CodeTooBig g c = rw c.in-CodeTooBig.is c.put_number-in-CodeTooBig.ensures

pub returns-in-StackTooBig : goal.returns-in-StackTooBig
returns-in-StackTooBig g c = rw c.in-StackTooBig.is c.put_number-in-StackTooBig.ensures

pub returns-in-ArgumentRoom : goal.returns-in-ArgumentRoom
returns-in-ArgumentRoom g c = rw c.in-ArgumentRoom.is c.put_room.ensures

pub returns-in-ProfileTooLarge : goal.returns-in-ProfileTooLarge
returns-in-ProfileTooLarge g c = rw c.in-ProfileTooLarge.is c.put-in-ProfileTooLarge.ensures

pub returns-in-MisreadProfile : goal.returns-in-MisreadProfile
returns-in-MisreadProfile g c = rw c.in-MisreadProfile.is (rw (← c.from-in-MisreadProfile.ensures) c.put_number-in-MisreadProfile.ensures)

pub returns-in-ScriptTooLarge : goal.returns-in-ScriptTooLarge
returns-in-ScriptTooLarge g c = rw c.in-ScriptTooLarge.is c.put-in-ScriptTooLarge.ensures

pub returns-in-MisreadScript : goal.returns-in-MisreadScript
returns-in-MisreadScript g c = rw c.in-MisreadScript.is (rw (← c.from-in-MisreadScript.ensures) c.put_number-in-MisreadScript.ensures)

pub returns-in-UnknownPass : goal.returns-in-UnknownPass
returns-in-UnknownPass g c = rw c.in-UnknownPass.is (rw (← c.from-in-UnknownPass.ensures) c.put_number-in-UnknownPass.ensures)

pub returns-in-OutOfMemory : goal.returns-in-OutOfMemory
returns-in-OutOfMemory g c = rw c.in-OutOfMemory.is c.put-in-OutOfMemory.ensures

pub returns-in-CannotWrite : goal.returns-in-CannotWrite
returns-in-CannotWrite g c = rw c.in-CannotWrite.is c.put-in-CannotWrite.ensures
