-- How many functions files have, and in which file one of them stands.
use Rattle.std.proofs.Common.{◌≡◌, ◌∙◌, refl, sym, ap, subst, Bool, true, false, cond, ℕ, ◌+◌, ◌-◌, ◌<◌, ◌≤◌, List, [], ◌∷◌, ◌++◌, length, Some, arith}
use Rattle.std.specs.Prelude.{fold, nat_lt}
use Rattle.std.proofs.lemmas.Bool.{ltb-true, ltb-false}
use Rattle.std.proofs.lemmas.List.{length-append, length-map}
use Rattle.bril_lex.specs.Cut.{AreTokens}
use Rattle.bril_lex.specs.declared.token.Token.{Token}
use Rattle.bril_outside.specs.Files.{FileMap}
use Rattle.import_linker.specs.Linked.{linked_file, linked_from}
use Rattle.import_linker.specs.Reading.{AreNext, IsNext}
use Rattle.import_linker.specs.formats.Format.{format_of}
use Rattle.import_linker.specs.formats.Reading.{ReadsAs}
use Rattle.import_linker.specs.declared.formats.format.Format.{Format}
use Rattle.import_linker.specs.declared.formats.format.Format.TheVariants.{InText, InJson}
use Rattle.import_linker.specs.declared.sources.Source.{Source}
use Rattle.import_linker.proofs.Knowing.{next_more}
use Rattle.bril_explain.specs.Files.{IsFunctionOf, functions_of}
use Rattle.bril_explain.specs.Held.{HoldsSource}
use Rattle.bril_explain.specs.Kept.{AreKept, function_in}
use Rattle.bril_explain.specs.declared.kept.KeptFile.{KeptFile}

-- ---- how many

abbrev counted : ℕ → List Source → ℕ
counted start sources = fold (λ (a : ℕ) (s : Source). a + length s.tree.funcs) start sources

counted_more : (sources : List Source) (start : ℕ) (s : Source) → counted start (sources ++ s ∷ []) ≡ counted start sources + length s.tree.funcs
counted_more [] start s = refl
counted_more (x ∷ sources) start s = counted_more sources (start + length x.tree.funcs) s

functions_more : (done : List Source) (s : Source) → functions_of (done ++ s ∷ []) ≡ functions_of done + length s.tree.funcs
functions_more done s = counted_more done 0 s

counted_from : (sources : List Source) (start : ℕ) → counted start sources ≡ start + functions_of sources
counted_from [] start = omega arith
counted_from (s ∷ sources) start =
    let here : counted start (s ∷ sources) ≡ (start + length s.tree.funcs) + functions_of sources = counted_from sources (start + length s.tree.funcs) in
    let first : functions_of (s ∷ sources) ≡ (0 + length s.tree.funcs) + functions_of sources = counted_from sources (0 + length s.tree.funcs) in
    omega (arith, here, first)

functions_first : (s : Source) (sources : List Source) → functions_of (s ∷ sources) ≡ length s.tree.funcs + functions_of sources
functions_first s sources =
    let first : functions_of (s ∷ sources) ≡ (0 + length s.tree.funcs) + functions_of sources = counted_from sources (0 + length s.tree.funcs) in
    omega (arith, first)

-- the linked tree has the functions of all files
pub linked_count : (run : ℕ) (paths : List (List ℕ)) (number : ℕ) (sources : List Source) → length (linked_from run paths number sources) ≡ functions_of sources
linked_count run paths number [] = refl
linked_count run paths number (s ∷ sources) =
    let rest = linked_count run paths (number + 1) sources in
    let both = length-append (linked_file run paths number s) (linked_from run paths (number + 1) sources) in
    let own : length (linked_file run paths number s) ≡ length s.tree.funcs = length-map s.tree.funcs _ in
    let all = functions_first s sources in
    omega (arith, rest, both, own, all)

-- ---- in which file

module _ (map : FileMap) (root : List ℕ) where
  -- the bytes of a file that was read are few, and have tokens
  pub source_held : (done : List Source) (s : Source) → IsNext (Some map) root done s → HoldsSource map s.path
  source_held done s next = record {
    source = next.read.bytes;
    held = next.read.held;
    few = omega (arith, next.read.size, next.short);
    cut = λ text. tokens (format_of s.path) text next.read.reads.reads;
  }
    where
      tokens : (format : Format) → format ≡ InText → ReadsAs format next.read.bytes s.tree → (ts : List Token) × AreTokens next.read.bytes ts
      tokens InText is spells = (spells.tokens, spells.are)
      tokens InJson is spells = cc

  pub record Standing (kept : List KeptFile) (left func : ℕ) : Type 0 where
    pub file : KeptFile
    pub own : ℕ
    pub found : function_in kept left ≡ Some (file, own)
    pub is : IsFunctionOf (Some map) root func file.path own
    pub source : HoldsSource map file.path

  pub standing : (done : List Source) (kept : List KeptFile) (sources : List Source) → AreNext (Some map) root [] done → AreNext (Some map) root done sources → AreKept kept sources
      → (left : ℕ) → left < functions_of sources → Standing kept left (functions_of done + left)
  standing done [] [] before all are left lt = absurd (omega (arith, lt))
  standing done [] (s ∷ sources) before all are left lt = absurd are
  standing done (f ∷ kept) [] before all are left lt = absurd are
  standing done (f ∷ kept) (s ∷ sources) before all are left lt =
      go (nat_lt left f.functions) refl (λ beyond. standing (done ++ s ∷ []) kept sources (next_more (Some map) root [] done s before all.0) all.1 are.2 (left - f.functions)
      (let first = functions_first s sources in omega (arith, lt, first, are.1, beyond)))
    where
      go : (b : Bool) → nat_lt left f.functions ≡ b → (f.functions ≤ left → Standing kept (left - f.functions) (functions_of (done ++ s ∷ []) + (left - f.functions))) → Standing (f ∷ kept) left (functions_of done + left)
      go true is rest = record {
        file = f;
        own = left;
        found = ap (λ (b : Bool). cond b (Some (f, left)) (function_in kept (left - f.functions))) is;
        is = record {
          done = done;
          stops = record { read = before; next = all.0.named ∙ ap Some (sym are.0) };
          file = s;
          read = all.0.read;
          at = sym are.0;
          number = refl;
          inside = let within = ltb-true left f.functions is in omega (arith, within, are.1);
        };
        source = subst (HoldsSource map) (sym are.0) (source_held done s all.0);
      }
      go false is rest =
          let beyond = ltb-false left f.functions is in
          let more = functions_more done s in
          let there = rest beyond in
          record {
            file = there.file;
            own = there.own;
            found = ap (λ (b : Bool). cond b (Some (f, left)) (function_in kept (left - f.functions))) is ∙ there.found;
            is = subst (λ (n : ℕ). IsFunctionOf (Some map) root n there.file.path there.own) (omega (arith, more, are.1, beyond)) there.is;
            source = there.source;
          }
