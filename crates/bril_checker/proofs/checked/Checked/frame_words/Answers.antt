use Rattle.std.proofs.Common.{◌<◌, length, arith, ap}
use Rattle.bril_checker.proofs.Words.{length_words, words_at}
use Rattle.bril_checker.proofs.checked.Checked.frame_words.Goals as goal

pub bounds-as_slice-func : goal.bounds-as_slice-func
bounds-as_slice-func c =
    let same = length_words c.self.inside.prog.funcs c.self.inside.words c.self.invariant.words in
    let funcs : c.args.func < length c.self.inside.prog.funcs = rw (ap (λ v. v.prog) c.self.view_is) c.requires in
    rw c.as_slice.ensures (omega arith)

pub returns : goal.returns
returns c =
    rw (c.as_slice.ensures, ← ap (λ v. v.prog) c.self.view_is) (words_at c.self.inside.prog.funcs c.self.inside.words c.args.func c.self.invariant.words)
