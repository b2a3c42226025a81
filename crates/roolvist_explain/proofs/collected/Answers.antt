-- The words are those that the iterator gave until it had no more.
use Rattle.std.proofs.Common.{◌≡◌, String, Global, subst}
use Rattle.std.specs.Iterator.{Yields}
use Rattle.std.specs.Vec.Iter.{into_iter_steps}
use Rattle.std.specs.declared.vec.IntoIter.{IntoIter}
use Rattle.roolvist_explain.proofs.collected.Goals as goal

pub returns : goal.returns
returns c =
    let same : c.into_iter-word-iterator.result ≡ c.args.args = c.into_iter-word-iterator.ensures.into_iter_gives in
    let from = λ (s : IntoIter (String Global) Global). Yields (into_iter_steps {X = String Global} {Z = Global}) s c.loop-word.yielded c.loop-word.word-iterator in
    (c.loop-word.yielded, (c.next.new.self, (c.loop-word.word-iterator, subst from same c.loop-word.yielded_by, c.in-None.ensures.steps)), c.loop-word.invariant)
