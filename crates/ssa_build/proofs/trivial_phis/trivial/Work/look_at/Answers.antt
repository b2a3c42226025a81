use Rattle.std.proofs.Common.{◌≡◌, ◌+◌, false, ap, ◌∙◌, arith}
use Rattle.std.specs.Prelude.{slice_index_or}
use Rattle.ssa_build.proofs.lemmas.trivial_phis.Loop.{bounded-of, stays-same, stood-at, work-on}
use Rattle.ssa_build.proofs.trivial_phis.trivial.Work.look_at.Goals as goal

pub watch_news-requires-clause-first : goal.watch_news-requires-clause-first
watch_news-requires-clause-first c = λ w e.
    let h = c.look.ensures.work in
    let long = c.requires.work.long in
    let get = c.requires.get in
    let stood : slice_index_or c.look.new.self.gone.items c.args.get false ≡ false = ap (λ g. slice_index_or g c.args.get false) c.look.ensures.gone ∙ stood-at c.args.self.now.gone.items c.args.get c.index.result.now (omega (arith, long, get)) c.index.ensures c.if-index.false in
    let b = bounded-of c.args.operands.now (c.args.base + c.args.operands.now.gets) c.requires.within c.args.get w ((h.looked c.args.get c.requires.get stood).first_is w e) in
    let m = h.count in
    omega (arith, b, m)

pub returns-in_ok-watch_news-in-Stays-clause-work : goal.returns-in_ok-watch_news-in-Stays-clause-work
returns-in_ok-watch_news-in-Stays-clause-work c =
    work-on c.args.operands.now c.args.base c.requires.within c.look.new.self.classes c.watch_news.new.self.classes c.look.new.self.gone.items c.watch_news.new.self.gone.items c.look.new.self.ends.items c.watch_news.new.self.ends.items c.look.new.self.firsts.items c.watch_news.new.self.firsts.items c.look.ensures.work c.watch_news.ensures.same c.watch_news.ensures.rest

pub returns-in_ok-watch_news-in-Stays-clause-stays : goal.returns-in_ok-watch_news-in-Stays-clause-stays
returns-in_ok-watch_news-in-Stays-clause-stays c = λ e k.
    stays-same c.args.operands.now c.args.base c.requires.within c.look.new.self.classes c.watch_news.new.self.classes c.look.ensures.work.count c.watch_news.ensures.same c.args.get c.in-Stays.ensures.look
