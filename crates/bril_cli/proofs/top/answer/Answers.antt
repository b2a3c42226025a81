-- What the command answers, from what its stages answered.
use Rattle.std.proofs.Common.{ℕ, List, Option, ap, refl, sym, subst}
use Rattle.bril_report.specs.StageFaults.{status_of}
use Rattle.bril_words.specs.Names.{names_of}
use Rattle.bril_words.specs.Seen.{text_seen}
use Rattle.bril_commands.proofs.Keeping.{Keeps-same}
use Rattle.bril_commands.proofs.Promises.{Promises-driven, Promises-unread}
use Rattle.bril_report.proofs.Telling.{Told-puts}
use Rattle.bril_commands.proofs.Statuses.{Ends}
use Rattle.bril_commands.proofs.Telling.{puts_told}
use Rattle.bril_commands.specs.Call.{call_of}
use Rattle.bril_commands.specs.Command.{takes_passes}
use Rattle.bril_commands.specs.CommandLine.{Asks, list_asked, second_asked}
use Rattle.bril_commands.specs.Driver.{DoesFiles}
use Rattle.bril_commands.specs.PassList.{pass_list}
use Rattle.bril_commands.specs.Table.{command}
use Rattle.pass_law.proofs.Same.{AllSame-refl}
use Rattle.bril_cli.proofs.top.answer.Goals as goal

pub returns-clause-promises : goal.returns-clause-promises
returns-clause-promises g c =
    let request = c.in-Ok.request in
    let how = status_of c.drive.result in
    let call =
    call_of c.args.words.now (g.F.Files.seen c.args.files.now) (g.F.Files.seen c.drive.new.files)
    (g.O.Sink.seen c.args.outputs.now.out.now) (g.O.Sink.seen c.drive.new.outputs.out.now)
    (g.E.Sink.seen c.args.outputs.now.err.sink.now) (g.E.Sink.seen c.say-2.new.err.sink.now)
    (λ p. (goal.Pass-dyn g (p.vtable, p.value)).meaning p.value) (λ p. (goal.Pass-dyn g (p.vtable, p.value)).counts p.value) c.args.passes.now c.drive.new.passes in
    let does = c.drive.ensures.does in
    let line = rw c.from-status-2.ensures at c.say-2.ensures.told in
    let asks : Asks c.args.words.now = record { action = request.action; path = request.path.now; args = request.args.now; asked = (request.list.now, text_seen request.second, c.in-Ok.ensures.asked) } in
    let ends : Ends call asks how = record {
      told = does.told;
      does = subst (λ (named : Option (List ℕ)). DoesFiles (command request.action) how call.passes
          (g.F.Files.seen c.args.files.now) (g.F.Files.seen c.drive.new.files) request.path.now named request.args.now does.told (g.O.Sink.seen c.args.outputs.now.out.now) (g.O.Sink.seen c.drive.new.outputs.out.now))
          (ap second_asked (sym c.in-Ok.ensures.asked))
          (subst (λ (names : List (List ℕ)). DoesFiles (command request.action) how
          (pass_list (λ p. (goal.Pass-dyn g (p.vtable, p.value)).meaning p.value) (λ p. (goal.Pass-dyn g (p.vtable, p.value)).counts p.value) c.args.passes.now c.drive.new.passes names)
          (g.F.Files.seen c.args.files.now) (g.F.Files.seen c.drive.new.files) request.path.now (text_seen request.second) request.args.now does.told (g.O.Sink.seen c.args.outputs.now.out.now) (g.O.Sink.seen c.drive.new.outputs.out.now))
          (ap (λ r. names_of (list_asked r)) (sym c.in-Ok.ensures.asked)) does.does);
      says = puts_told c.requires.sound does.tells.told line;
      keeps = c.drive.ensures.keeps;
    } in
    rw (c.status_number-2.ensures, c.from-status-2.ensures) (Promises-driven call asks how ends)

pub returns-in-Err-clause-promises : goal.returns-in-Err-clause-promises
returns-in-Err-clause-promises g c =
    let call =
    call_of c.args.words.now (g.F.Files.seen c.args.files.now) (g.F.Files.seen c.args.files.now)
    (g.O.Sink.seen c.args.outputs.now.out.now) (g.O.Sink.seen c.args.outputs.now.out.now)
    (g.E.Sink.seen c.args.outputs.now.err.sink.now) (g.E.Sink.seen c.say.new.err.sink.now)
    (λ p. (goal.Pass-dyn g (p.vtable, p.value)).meaning p.value) (λ p. (goal.Pass-dyn g (p.vtable, p.value)).counts p.value) c.args.passes.now c.args.passes.now in
    let line = rw c.from-status.ensures at c.say.ensures.told in
    rw (c.status_number.ensures, c.from-status.ensures) (Promises-unread call c.in-Err.misuse c.in-Err.ensures.asked refl refl refl (Told-puts line c.requires.sound))

pub returns-in-Err-clause-same : goal.returns-in-Err-clause-same
returns-in-Err-clause-same g c = AllSame-refl (λ p. (goal.Pass-dyn g (p.vtable, p.value)).meaning p.value) c.args.passes.now

pub returns-clause-same : goal.returns-clause-same
returns-clause-same g c = Keeps-same (λ p. (goal.Pass-dyn g (p.vtable, p.value)).meaning p.value) (takes_passes (command c.in-Ok.request.action)) c.args.passes.now c.drive.new.passes c.drive.ensures.keeps
