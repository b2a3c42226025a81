-- There is no tree, or it has no accepted program, or it was dealt with.
use Rattle.std.proofs.Common.{[], refl, ap, subst, inl, inr}
use Rattle.std.proofs.lemmas.Result.{err_from_is_err_and}
use Rattle.bril_commands.proofs.Keeping.{kept}
use Rattle.bril_commands.proofs.Profiles.{DoesTree-from}
use Rattle.bril_commands.proofs.Reading.{memory_refuses}
use Rattle.bril_commands.specs.Command.{takes_passes}
use Rattle.bril_commands.specs.PassList.{pass_list}
use Rattle.bril_commands.specs.Source.{OfDemo}
use Rattle.bril_commands.specs.Table.{command}
use Rattle.bril_report.proofs.Telling.{Tells-none}
use Rattle.bril_report.specs.StageFaults.{status_of}
use Rattle.bril_tree.specs.Numbered.{Numbered}
use Rattle.bril_tree.specs.declared.tree.Tree.{Tree}
use Rattle.bril_words.specs.Seen.{text_seen}
use Rattle.bril_words.specs.declared.subcommands.Action.TheVariants.{Program}
use Rattle.bril_driver.proofs.driver.do_action.Goals as goal

-- ---- one file

pub returns-in_err-tree-in-File-clause-does : goal.returns-in_err-tree-in-File-clause-does
returns-in_err-tree-in-File-clause-does g c =
    let e = err_from_is_err_and c.from_residual.result c.from_residual.ensures.1 in
    rw (c.in-File.is, e.1, e.2) (record { same_output = refl; told = []; does = inl (c.in_err-tree-in-File.ensures.err, ((refl, refl), refl)); tells = Tells-none g.E.Sink.seen c.args.outputs.now.err })

pub returns-in_ok-tree-in-File-clause-does : goal.returns-in_ok-tree-in-File-clause-does
returns-in_ok-tree-in-File-clause-does g c =
    rw c.in-File.is (record { same_output = refl; told = []; does = inr (inl (c.in_ok-tree-in-File.tree, c.in_ok-tree-in-File.ensures.ok, c.on_file.ensures)); tells = Tells-none g.E.Sink.seen c.args.outputs.now.err })

-- ---- linked files

pub returns-in_err-tree-in-Tree-clause-does : goal.returns-in_err-tree-in-Tree-clause-does
returns-in_err-tree-in-Tree-clause-does g c =
    let e = err_from_is_err_and c.from_residual-in_err-tree-in-Tree.result c.from_residual-in_err-tree-in-Tree.ensures.1 in
    rw (c.in-Tree.is, e.1, e.2) (record { same_output = refl; told = []; does = inl (c.in_err-tree-in-Tree.ensures.err, ((refl, refl), refl)); tells = Tells-none g.E.Sink.seen c.args.outputs.now.err })

pub returns-in_ok-tree-in-Tree-clause-does : goal.returns-in_ok-tree-in-Tree-clause-does
returns-in_ok-tree-in-Tree-clause-does g c =
    rw c.in-Tree.is (record { same_output = refl; told = []; does = inr (inl (c.in_ok-tree-in-Tree.tree, c.in_ok-tree-in-Tree.ensures.ok, c.on_tree.ensures)); tells = Tells-none g.E.Sink.seen c.args.outputs.now.err })

-- ---- their program

pub returns-in_err-tree-in-Program-clause-does : goal.returns-in_err-tree-in-Program-clause-does
returns-in_err-tree-in-Program-clause-does g c =
    let e = err_from_is_err_and c.from_residual-in_err-tree-in-Program.result c.from_residual-in_err-tree-in-Program.ensures.1 in
    rw (c.in-Program.is, e.1, e.2) (record { same_output = refl; told = []; does = inl (c.in_err-tree-in-Program.ensures.err, ((refl, refl), refl)); tells = Tells-none g.E.Sink.seen c.args.outputs.now.err })

pub returns-in_err-tree-in-Program-clause-keeps : goal.returns-in_err-tree-in-Program-clause-keeps
returns-in_err-tree-in-Program-clause-keeps g c = kept (λ p. (goal.Pass-dyn g (p.vtable, p.value)).meaning p.value) (takes_passes (command c.args.request.action)) c.args.passes.now.boxes.now

pub accepted_program-requires : goal.accepted_program-requires
accepted_program-requires g c = c.in_ok-tree-in-Program.ensures.ok.links.imports

pub returns-in_err-program-in-Program-clause-does : goal.returns-in_err-program-in-Program-clause-does
returns-in_err-program-in-Program-clause-does g c =
    let e = err_from_is_err_and c.from_residual-in_err-program-in-Program.result c.from_residual-in_err-program-in-Program.ensures.1 in
    rw (c.in-Program.is, e.1, e.2) (record {
      same_output = refl;
      told = [];
      does = inr (inl (c.in_ok-tree-in-Program.tree, c.in_ok-tree-in-Program.ensures.ok, inl (c.in_err-program-in-Program.ensures.err, ((refl, refl), refl))));
      tells = Tells-none g.E.Sink.seen c.args.outputs.now.err;
    })

pub returns-in_err-program-in-Program-clause-keeps : goal.returns-in_err-program-in-Program-clause-keeps
returns-in_err-program-in-Program-clause-keeps g c = kept (λ p. (goal.Pass-dyn g (p.vtable, p.value)).meaning p.value) (takes_passes (command c.args.request.action)) c.args.passes.now.boxes.now

pub returns-in_ok-program-in-Program-clause-does : goal.returns-in_ok-program-in-Program-clause-does
returns-in_ok-program-in-Program-clause-does g c =
    let did = c.on_program.ensures.does in
    let tree = c.in_ok-tree-in-Program.tree in
    let l = pass_list (λ p. (goal.Pass-dyn g (p.vtable, p.value)).meaning p.value) (λ p. (goal.Pass-dyn g (p.vtable, p.value)).counts p.value) c.args.passes.now.boxes.now c.on_program.new.passes.boxes.now c.args.passes.now.names.now in
    let from = DoesTree-from (g.F.Files.seen c.args.files.now) (g.F.Files.seen c.linked_tree-in-Program.new.files) (g.F.Files.seen c.on_program.new.files)
    c.in_ok-tree-in-Program.ensures.holds c.in_ok-tree-in-Program.ensures.faults (command (Program c.in-Program.action)) (status_of c.on_program.result) l tree (text_seen c.args.request.second) c.args.request.args.now did.told
    (g.O.Sink.seen c.args.outputs.now.out.now) (g.O.Sink.seen c.on_program.new.outputs.out.now) (inr (c.in_ok-program-in-Program.program.prog, c.in_ok-program-in-Program.ensures.ok, did.does)) in
    rw c.in-Program.is (record { same_output = did.same_output; told = did.told; does = inr (inl (tree, c.in_ok-tree-in-Program.ensures.ok, from)); tells = did.tells })

-- ---- the demo

pub returns-in_err-tree-in-Demo-clause-does : goal.returns-in_err-tree-in-Demo-clause-does
returns-in_err-tree-in-Demo-clause-does g c =
    let e = err_from_is_err_and c.from_residual-in_err-tree-in-Demo.result c.from_residual-in_err-tree-in-Demo.ensures.1 in
    let refuses = memory_refuses (OfDemo c.in-Demo.functions) (g.F.Files.seen c.args.files.now) (g.F.Files.seen c.args.files.now) c.args.request.path.now in
    rw (c.in-Demo.is, e.1, e.2) (record { same_output = refl; told = []; does = inl (refuses, ((refl, refl), refl)); tells = Tells-none g.E.Sink.seen c.args.outputs.now.err })

pub returns-in_err-tree-in-Demo-clause-keeps : goal.returns-in_err-tree-in-Demo-clause-keeps
returns-in_err-tree-in-Demo-clause-keeps g c = kept (λ p. (goal.Pass-dyn g (p.vtable, p.value)).meaning p.value) (takes_passes (command c.args.request.action)) c.args.passes.now.boxes.now

pub accepted_program-requires-in-Demo : goal.accepted_program-requires-in-Demo
accepted_program-requires-in-Demo g c = ap (λ (t : Tree). t.imports) c.in_ok-tree-in-Demo.ensures

pub returns-in_err-program-in-Demo-clause-does : goal.returns-in_err-program-in-Demo-clause-does
returns-in_err-program-in-Demo-clause-does g c =
    let e = err_from_is_err_and c.from_residual-in_err-program-in-Demo.result c.from_residual-in_err-program-in-Demo.ensures.1 in
    rw (c.in-Demo.is, e.1, e.2) (record {
      same_output = refl;
      told = [];
      does = inr (inl (c.in_ok-tree-in-Demo.tree, c.in_ok-tree-in-Demo.ensures, inl (c.in_err-program-in-Demo.ensures.err, ((refl, refl), refl))));
      tells = Tells-none g.E.Sink.seen c.args.outputs.now.err;
    })

pub returns-in_err-program-in-Demo-clause-keeps : goal.returns-in_err-program-in-Demo-clause-keeps
returns-in_err-program-in-Demo-clause-keeps g c = kept (λ p. (goal.Pass-dyn g (p.vtable, p.value)).meaning p.value) (takes_passes (command c.args.request.action)) c.args.passes.now.boxes.now

pub demo-requires-clause-own : goal.demo-requires-clause-own
demo-requires-clause-own g c = subst (λ (t : Tree). Numbered t c.in_ok-program-in-Demo.program.prog) c.in_ok-tree-in-Demo.ensures c.in_ok-program-in-Demo.ensures.ok.only.numbered

pub returns-in_ok-program-in-Demo-clause-does : goal.returns-in_ok-program-in-Demo-clause-does
returns-in_ok-program-in-Demo-clause-does g c =
    let did = c.demo.ensures.does in
    rw c.in-Demo.is (record {
      same_output = did.same_output;
      told = did.told;
      does = inr (inl (c.in_ok-tree-in-Demo.tree, c.in_ok-tree-in-Demo.ensures, inr (c.in_ok-program-in-Demo.program.prog, c.in_ok-program-in-Demo.ensures.ok, inr ([], refl, did.does (text_seen c.args.request.second) (g.F.Files.seen c.args.files.now).holds))));
      tells = did.tells;
    })

-- ---- bytes

pub returns-in_err-bytes-in-Bytes-clause-does : goal.returns-in_err-bytes-in-Bytes-clause-does
returns-in_err-bytes-in-Bytes-clause-does g c =
    let e = err_from_is_err_and c.from_residual-in_err-bytes-in-Bytes.result c.from_residual-in_err-bytes-in-Bytes.ensures.1 in
    rw (c.in-Bytes.is, e.1, e.2) (record { same_output = refl; told = []; does = inl (c.in_err-bytes-in-Bytes.ensures.err, ((refl, refl), refl)); tells = Tells-none g.E.Sink.seen c.args.outputs.now.err })

pub returns-in_ok-bytes-in-Bytes-clause-does : goal.returns-in_ok-bytes-in-Bytes-clause-does
returns-in_ok-bytes-in-Bytes-clause-does g c =
    rw c.in-Bytes.is (record {
      same_output = refl;
      told = [];
      does = inr (inr (c.in_ok-bytes-in-Bytes.bytes, c.in_ok-bytes-in-Bytes.ensures.ok, rw c.as_slice.ensures at c.on_bytes.ensures));
      tells = Tells-none g.E.Sink.seen c.args.outputs.now.err;
    })
