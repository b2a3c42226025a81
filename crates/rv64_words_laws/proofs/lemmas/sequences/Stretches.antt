-- The sequences alone: what the crate's laws say.
use Rattle.std.proofs.Common.{◌≡◌, ℕ, ◌+◌, sym, subst, arith, List, [], ◌++◌, append-nil}
use Rattle.rv64_words.specs.declared.image.Image.{Image}
use Rattle.rv64_words.specs.declared.word.Word.{Word}
use Rattle.rv64_words.specs.Region.{Sizes}
use Rattle.rv64_words_laws.specs.stretches.Core.{Core}
use Rattle.rv64_words_laws.specs.stretches.Runs.{HasAt, Runs}
use Rattle.rv64_words_laws.proofs.lemmas.stretches.Going.{Going, begin}
use Rattle.rv64_words_laws.specs.sequences.Laws.{ConstantsRun, FrameLoadsRun, FrameStoresRun, OperandsRun, ResultsRun, FillsRun, CopiesRun, SavesRun, RestoresRun}
use Rattle.rv64_words_laws.specs.sequences.Sequences.{constant_words, load_from, store_over, constant_size, load_size, store_size}
use Rattle.rv64_words_laws.specs.sequences.Moves.{operand_words, operand_size, result_words, result_size, fill_words, fill_size, copy_words, copy_size, save_words, save_size, restore_words, restore_size}
use Rattle.rv64_words_laws.proofs.lemmas.sequences.Constants.{constant}
use Rattle.rv64_words_laws.proofs.lemmas.sequences.Homes.{operand_goes, result_goes, fill_goes, copy_goes}
use Rattle.rv64_words_laws.proofs.lemmas.sequences.Moves.{homes_saved, homes_restored}
use Rattle.rv64_words_laws.proofs.lemmas.sequences.Frames.{frame_load, frame_store}

module _ (image : Image) (z : Sizes) (k : ℕ) (c : Core) where
  alone : (ws : List Word) → HasAt image k ws → Going image z k c 0 k c (ws ++ [])
  alone ws has = begin image z k c (ws ++ []) (subst (HasAt image k) (sym (append-nil ws)) has)

  runs_of : (m j : ℕ) (e : Core) → Going image z k c (0 + m) j e [] → Runs image z k c m j e
  runs_of m j e g = let same : 0 + m ≡ m = omega arith in subst (λ n. Runs image z k c n j e) same g.runs

pub constants : ConstantsRun
constants image z k c r n has ne lt null = runs_of image z k c (constant_size n) _ _ (constant image z r n ne lt null (alone image z k c (constant_words r n) has))

pub frame_loads : FrameLoadsRun
frame_loads image z k c base r b o has ne reach = runs_of image z k c (load_size o) _ _ (frame_load image z base r b o ne reach (alone image z k c (load_from base r o) has))

pub frame_stores : FrameStoresRun
frame_stores image z k c base r b o has ne other reach = runs_of image z k c (store_size o) _ _ (frame_store image z base r b o ne other reach (alone image z k c (store_over base r o) has))

pub operands : OperandsRun
operands image z k c b any r home has few two temporary usable inside =
    let after = operand_goes image z b any r home few two temporary usable inside (alone image z k c (operand_words any r home) has) in
    (after.0, after.1, runs_of image z k c (operand_size any home) _ after.0 after.2)

pub results : ResultsRun
results image z k c b any home has few two usable inside =
    let after = result_goes image z b any home few two usable inside (alone image z k c (result_words any home) has) in
    (after.0, after.1, runs_of image z k c (result_size any home) _ after.0 after.2)

pub fills : FillsRun
fills image z k c b r home has few two other usable inside =
    let after = fill_goes image z b r home few two other usable inside (alone image z k c (fill_words r home) has) in
    (after.0, after.1, runs_of image z k c (fill_size home) _ after.0 after.2)

pub copies : CopiesRun
copies image z k c b dest from has few two usable inside usable_from inside_from =
    let after = copy_goes image z b dest from few two usable inside usable_from inside_from (alone image z k c (copy_words dest from) has) in
    (after.0, after.1, runs_of image z k c (copy_size dest from) _ after.0 after.2)

pub saves : SavesRun
saves image z k c b moves has few two apart none usable inside =
    let after = homes_saved image z few b moves c [] apart none usable inside two (alone image z k c (save_words moves) has) in
    (after.core, after.is, runs_of image z k c (save_size moves) _ after.core after.going)

pub restores : RestoresRun
restores image z k c b moves has few two apart none usable inside =
    let after = homes_restored image z few b moves c [] apart none usable inside two (alone image z k c (restore_words moves) has) in
    (after.core, after.is, runs_of image z k c (restore_size moves) _ after.core after.going)
