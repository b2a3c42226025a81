use Rattle.std.proofs.Common.{subst}
use Rattle.bril_tree.specs.State.{State}
use Rattle.bril_interpreter.specs.Interpreter.{state_of}
use Rattle.bril_interpreter.specs.Steps.{newest_of, older_of, values_in, Did}
use Rattle.bril_interpreter.proofs.Plain.{IsPlain, plain-print, plain-does}
use Rattle.bril_interpreter.proofs.Steps.{Executed-quiet}
use Rattle.bril_interpreter.proofs.interp.Interp.act.Goals as goal

pub returns-in_default : goal.returns-in_default
returns-in_default g c =
    let i = c.args.self.now in
    let plain : IsPlain c.args.op = record {
      jmp = c.in_default.not-Jmp;
      br = c.in_default.not-Br;
      call = c.in_default.not-Call;
      ret = c.in_default.not-Ret;
      print = c.in_default.not-Print;
      alloc = c.in_default.not-Alloc;
      free = c.in_default.not-Free;
      store = c.in_default.not-Store;
      load = c.in_default.not-Load;
      get = c.in_default.not-Get;
      set = c.in_default.not-Set;
      speculate = c.in_default.not-Speculate;
      commit = c.in_default.not-Commit;
      guard = c.in_default.not-Guard;
    } in
    let does = plain-does i.checked.prog i.limits c.args.dest c.args.args.now c.args.funcs.now c.args.labels.now (newest_of i) (older_of i) (state_of i) c.args.op c.args.ty plain in
    let prints_none = plain-print c.args.op plain (values_in i c.args.args.now) in
    record {
      ok = rw prints_none (Executed-quiet _ i c.calculate.new.self _ (subst (λ (t : State). Did i t c.calculate.new.self) does c.calculate.ensures));
      err = tt;
    }
