-- The environment calls and the faults by their numbers: what `called` and `end_of` do at them is in Environment.
use Rattle.std.specs.Prelude.{ℕ}
use Rattle.bril_tree.specs.declared.limits.Fault.{Fault}
use Rattle.bril_tree.specs.declared.limits.Fault.TheVariants as fault
use Rattle.rv64_words.specs.declared.call.Call.{Call}
use Rattle.rv64_words.specs.declared.call.Call.TheVariants as call

abbrev pub call_number : Call → ℕ
call_number call.PrintInt = 1
call_number call.PrintBool = 2
call_number call.PrintChar = 3
call_number call.PrintSpace = 4
call_number call.PrintLine = 5
call_number call.Alloc = 6
call_number call.Free = 7
call_number call.End = 8

-- the argument by which call 8 ends a run with a fault
abbrev pub fault_number : Fault → ℕ
fault_number fault.DivZero = 1
fault_number fault.BadChar = 2
fault_number fault.BadAlloc = 3
fault_number fault.BadFree = 4
fault_number fault.Access = 5
fault_number fault.Uninit = 6
fault_number fault.Leak = 7
fault_number fault.Frames = 8
fault_number fault.Cells = 9
fault_number fault.PtrRange = 10
fault_number fault.Allocs = 11
