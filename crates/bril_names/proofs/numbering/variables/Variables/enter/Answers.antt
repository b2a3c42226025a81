use Rattle.std.proofs.Common.{◌<◌, length, subst}
use Rattle.std.proofs.lemmas.List.{length-map}
use Rattle.bril_tree.specs.declared.numbered.VarInfo.{VarInfo}
use Rattle.bril_names.proofs.Entering.{no_variable, assigned, assigned_name, append_enters, append_stands}
use Rattle.bril_names.proofs.numbering.variables.Variables.enter.Goals as goal
use Rattle.bril_names.proofs.numbering.variables.Variables.enter.Goals.{After-assign}

within : (c : After-assign) → c.in-Some.number < length c.args.self.now.infos.items
within c = subst (λ n. c.in-Some.number < n) (length-map c.args.self.now.infos.items (λ (v : VarInfo). v.name)) c.in-Some.ensures.0

pub returns-in-None-clause-enters : goal.returns-in-None-clause-enters
returns-in-None-clause-enters c =
    append_enters c.args.self.now.infos.items c.append.new.self.infos.items c.args.name.now c.args.ty c.append.result c.in-None.ensures c.append.ensures.number c.append.ensures.infos

pub returns-in-None-clause-named : goal.returns-in-None-clause-named
returns-in-None-clause-named c =
    append_stands c.args.self.now.infos.items c.append.new.self.infos.items c.args.name.now c.args.ty c.append.result c.append.ensures.number c.append.ensures.infos

pub returns-in-Some-clause-enters : goal.returns-in-Some-clause-enters
returns-in-Some-clause-enters c =
    assigned c.args.self.now.infos.items c.assign.new.self.infos.items c.in-Some.number c.args.ty no_variable (within c) (c.assign.ensures no_variable)

pub returns-in-Some-clause-named : goal.returns-in-Some-clause-named
returns-in-Some-clause-named c =
    assigned_name c.args.self.now.infos.items c.assign.new.self.infos.items c.in-Some.number c.args.ty no_variable (within c) (c.assign.ensures no_variable) c.args.name.now c.in-Some.ensures.1
