use Rattle.bril_tree.proofs.Measures.{AreFrameWords-one}
use Rattle.bril_tree.proofs.laws.frame_words_are_one.Goals as goal

pub returns : goal.returns
returns c = AreFrameWords-one
