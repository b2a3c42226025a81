use Rattle.std.proofs.Common.{sym, ap, ◌∙◌}
use Rattle.bril_tree.specs.declared.numbered.VarInfo.{VarInfo}
use Rattle.bril_names.proofs.Entering.{names_set}
use Rattle.bril_names.proofs.numbering.variables.Variables.assign.Goals as goal

pub invariant_of-self : goal.invariant_of-self
invariant_of-self c =
    let old = c.index_mut.result.now in
    record {
      same = c.args.self.now.same
          ∙ sym (names_set c.args.self.now.infos.items c.args.number (record { name = old.name; ty = c.or.result }) old c.requires (ap (λ (v : VarInfo). v.name) c.index_mut.ensures.value));
    }
