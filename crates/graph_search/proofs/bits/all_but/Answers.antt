use Rattle.graph_search.proofs.WordBits.{not-only}
use Rattle.graph_search.proofs.bits.all_but.Goals as goal

pub returns : goal.returns
returns c = λ j low. not-only c.one_bit.result j c.args.k c.one_bit.type_inv low (c.one_bit.ensures j)
