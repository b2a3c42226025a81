-- Why bytes are refused, or words, by the fault that a stage answers.
use Rattle.std.proofs.Common.{◌≡◌, ◌≢◌, ◌⊎◌, ℕ, List, refl, sym, subst, ⊎_elim, Some}
use Rattle.bril_arguments.specs.Ints.{IsIntFaultOf}
use Rattle.bril_arguments.specs.declared.fault.ArgFault.TheVariants as argument
use Rattle.bril_arguments.specs.declared.fault.ArgFault.{ArgFault}
use Rattle.bril_report.specs.StageFaults.{argument_status, elf_status, listing_status}
use Rattle.bril_report.specs.declared.status.Status.TheVariants.{OutOfMemory}
use Rattle.bril_report.specs.declared.status.Status.{Status}
use Rattle.elf_wrap.specs.Form.{elf_fault}
use Rattle.elf_wrap.specs.Laws as file
use Rattle.elf_wrap.specs.declared.fault.ElfFault.TheVariants as elf
use Rattle.elf_wrap.specs.declared.fault.ElfFault.{ElfFault}
use Rattle.rv64_listing.specs.Listing.{IsFaultOf}
use Rattle.rv64_listing.specs.declared.fault.ListingFault.TheVariants as listing
use Rattle.rv64_listing.specs.declared.fault.ListingFault.{ListingFault}
use Rattle.rv64_words.specs.declared.image.Image.{Image}
use Rattle.bril_commands.specs.commands.Assemble.{RefusesListing}
use Rattle.bril_commands.specs.commands.Execute.{RefusesFile, RefusesInts}

module _ (path bytes : List ℕ) where
  -- ---- a listing

  by_line : (fault : ListingFault) → IsFaultOf bytes fault → RefusesListing (listing_status path fault) path bytes
  by_line (listing.Line line) is = (refl, is)
  by_line listing.Memory is = tt

  pub refuses_listing : (fault : ListingFault) → IsFaultOf bytes fault → (how : Status) → (how ≡ listing_status path fault) ⊎ (how ≡ OutOfMemory) → RefusesListing how path bytes
  refuses_listing fault is how either =
      ⊎_elim (λ e. subst (λ (h : Status). RefusesListing h path bytes) (sym e) (by_line fault is))
      (λ e. subst (λ (h : Status). RefusesListing h path bytes) (sym e) tt)
      either

  -- ---- the file of an image

  first_fault : (fault : ElfFault) → (fault ≢ elf.Memory) → file.IsFaultOf bytes fault → elf_fault bytes ≡ Some fault
  first_fault fault some is = ⊎_elim (λ first. first) (λ wanting. absurd (some wanting.0)) is

  by_file : (fault : ElfFault) → file.IsFaultOf bytes fault → RefusesFile (elf_status path fault) path bytes
  by_file (elf.At at) is = record { fault = elf.At at; first = first_fault (elf.At at) (λ e. cc) is; is = refl }
  by_file (elf.CodeTooBig words) is = record { fault = elf.CodeTooBig words; first = first_fault (elf.CodeTooBig words) (λ e. cc) is; is = refl }
  by_file (elf.StackTooBig words) is = record { fault = elf.StackTooBig words; first = first_fault (elf.StackTooBig words) (λ e. cc) is; is = refl }
  by_file elf.Memory is = tt

  pub refuses_file : (fault : ElfFault) → file.IsFaultOf bytes fault → (how : Status) → (how ≡ elf_status path fault) ⊎ (how ≡ OutOfMemory) → RefusesFile how path bytes
  refuses_file fault is how either =
      ⊎_elim (λ e. subst (λ (h : Status). RefusesFile h path bytes) (sym e) (by_file fault is))
      (λ e. subst (λ (h : Status). RefusesFile h path bytes) (sym e) tt)
      either

-- ---- ints

pub refuses_ints : (image : Image) (args : List (List ℕ)) (fault : ArgFault) → IsIntFaultOf args fault → RefusesInts (argument_status fault) image args
refuses_ints image args (argument.Count given wanted) is = absurd is
refuses_ints image args (argument.Spelling place) is = is
refuses_ints image args argument.Memory is = tt
