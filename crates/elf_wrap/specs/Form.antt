-- The file of an image: this project's profile of ELF64 (the System V ABI's "Object files" and the RISC-V psABI), little-endian,
-- with two program headers and no sections.
use Rattle.std.specs.Prelude.{ℕ, zero, suc, ◌+◌, ◌*◌, ◌/◌, List, [], ◌∷◌, ◌++◌, length, take, drop, Option, Some, None, if◌then◌else◌, nat_lt, ◌==◌}
use Rattle.std.specs.List.{flat_map}
use Rattle.elf_wrap.specs.declared.fault.ElfFault.{ElfFault}
use Rattle.elf_wrap.specs.declared.fault.ElfFault.TheVariants.{At, CodeTooBig, StackTooBig}
use Rattle.elf_wrap.specs.declared.table.Field.{Field}
use Rattle.rv64_words.specs.Region.{most_words, most_stack, stack_base}
use Rattle.elf_wrap.specs.Numbers.{le_bytes, le_number}

abbrev row : ℕ → ℕ → Field
row s v = record { size = s; value = v }

-- the fields before the words, of so many words and a stack of so many words of 64 bits; each offset is the sum of the sizes before
abbrev pub fields : ℕ → ℕ → List Field
fields words stack =
    -- the identification; type, machine, version; entry, program headers, section headers; flags, sizes and counts
    row 16 0x010102464c457f
    ∷ row 2 2 ∷ row 2 243 ∷ row 4 1
    ∷ row 8 0 ∷ row 8 64 ∷ row 8 0
    ∷ row 4 0 ∷ row 2 64 ∷ row 2 56 ∷ row 2 2
    ∷ row 2 0 ∷ row 2 0 ∷ row 2 0
    -- the header of the code: kind, flags; place in the file, two addresses; sizes in the file and in memory, alignment
    ∷ row 4 1 ∷ row 4 5
    ∷ row 8 176 ∷ row 8 0 ∷ row 8 0
    ∷ row 8 (4 * words) ∷ row 8 (4 * words) ∷ row 8 4
    -- the header of the stack
    ∷ row 4 1 ∷ row 4 6
    ∷ row 8 0 ∷ row 8 stack_base ∷ row 8 stack_base
    ∷ row 8 0 ∷ row 8 (8 * stack) ∷ row 8 8 ∷ []

abbrev pub field_bytes : Field → List ℕ
field_bytes f = le_bytes f.size f.value

-- the bytes of the file before its words, and behind them those of the words
abbrev pub header : ℕ → ℕ → List ℕ
header words stack = flat_map field_bytes (fields words stack)

abbrev pub header_size : ℕ
header_size = 176

abbrev pub wrapped : ℕ → List ℕ → List ℕ
wrapped stack words = header (length words) stack ++ flat_map (le_bytes 4) words

-- ---- what a file tells

abbrev pub words_told : List ℕ → ℕ
words_told source = le_number (take 8 (drop 96 source)) / 4

abbrev pub stack_told : List ℕ → ℕ
stack_told source = le_number (take 8 (drop 160 source)) / 8

-- so many words
abbrev pub words_in : ℕ → List ℕ → List ℕ
words_in zero bytes = []
words_in (suc n) bytes = le_number (take 4 bytes) ∷ words_in n (drop 4 bytes)

-- ---- its first fault

-- of the fields that stand from an offset on: the offset of the first that isn't as it must be, or where the file ends too early
abbrev pub field_fault : ℕ → List Field → List ℕ → Option ℕ
field_fault at [] rest = None
field_fault at (f ∷ fs) rest =
    if nat_lt (length rest) f.size then Some (at + length rest)
    else (if le_number (take f.size rest) == f.value then field_fault (at + f.size) fs (drop f.size rest) else Some at)

-- the fields are as they must be
abbrev pub size_fault : ℕ → ℕ → ℕ → Option ElfFault
size_fault size words stack =
    if nat_lt size (header_size + 4 * words) then Some (At size)
    else (if nat_lt (header_size + 4 * words) size then Some (At (header_size + 4 * words))
    else (if nat_lt most_words words then Some (CodeTooBig words)
    else (if nat_lt most_stack stack then Some (StackTooBig stack) else None)))

abbrev pub fault_by : ℕ → ℕ → ℕ → Option ℕ → Option ElfFault
fault_by size words stack (Some at) = Some (At at)
fault_by size words stack None = size_fault size words stack

abbrev pub elf_fault : List ℕ → Option ElfFault
elf_fault source = fault_by (length source) (words_told source) (stack_told source) (field_fault 0 (fields (words_told source) (stack_told source)) source)
