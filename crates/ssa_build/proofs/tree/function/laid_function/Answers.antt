use Rattle.std.proofs.Common.{◌≡◌, ◌+◌, ◌^◌, ◌<◌, ◌∙◌, ℕ, List, length, refl, ap, ap₂, sym, subst, arith}
use Rattle.bril_tree.specs.declared.numbered.Instr.{Instr}
use Rattle.bril_tree.specs.declared.numbered.VarInfo.{VarInfo}
use Rattle.ssa_build.specs.code.Names.{AreNames, variables_written}
use Rattle.ssa_build.specs.code.Rows.{AreRows}
use Rattle.ssa_search.specs.gets.Wants.{gets_of}
use Rattle.ssa_search.specs.declared.renaming.now.WantedGet.{WantedGet}
use Rattle.ssa_build.proofs.lemmas.tree.Parts.{are-gets, located-in, solved-in, laid-in}
use Rattle.ssa_build.proofs.tree.function.laid_function.Goals as goal

pub laid_code-requires-clause-layout : goal.laid_code-requires-clause-layout
laid_code-requires-clause-layout c = record {
  shaped = c.requires.shaped;
  points = c.in_ok-graph.ensures.points;
  few = let h = c.in_ok-wants.ensures.few in let k : c.args.func.now.args + length c.args.func.now.code < 2 ^ 32 = omega (arith, h) in k;
  locations = located-in c.args.func.now c.in_ok-wants.wants c.starts-starts.result.now c.list-list.result.now c.starts-starts.ensures.value c.list-list.ensures c.starts-starts.ensures.within c.in_ok-wants.ensures;
}

pub returns : goal.returns
returns c =
    let F = c.args.func.now in
    let v = c.in_ok-wants.wants in
    let names = c.as_slice-names.result.now in
    let find = c.as_slice-find.result.now in
    let rows = c.as_slice-rows.result.now in
    let gets = are-gets F v c.starts-starts.result.now c.list-list.result.now c.starts-starts.ensures.value c.list-list.ensures c.starts-starts.ensures.within c.in_ok-wants.ensures in
    let written : c.as_slice-variables.result.now ≡ variables_written F.code v.list =
    c.as_slice-variables.ensures.value ∙ c.in_ok-written.ensures ∙ ap₂ (λ (code : List Instr) (list : List WantedGet). variables_written code list) c.as_slice-code.ensures c.list-list.ensures in
    record {
      graph = c.in_ok-graph.graph;
      is_graph = c.in_ok-graph.ensures;
      wants = v;
      are_wants = c.in_ok-wants.ensures;
      find = find;
      long = ap (λ (l : List ℕ). length l) c.as_slice-find.ensures.value ∙ c.in_ok-found.ensures.long;
      solved = solved-in F v c.in_ok-found.found.items find c.as_slice-find.ensures.value c.in_ok-found.ensures.solved;
      names = names;
      are_names = subst (λ (vars : List VarInfo). AreNames vars F.args (variables_written F.code v.list) names) c.as_slice-vars.ensures
          (subst (λ (vs : List ℕ). AreNames c.as_slice-vars.result.now F.args vs names) written
          (subst (AreNames c.as_slice-vars.result.now F.args c.as_slice-variables.result.now) (sym c.as_slice-names.ensures.value) c.in_ok-named.ensures));
      rows = rows;
      are_rows = subst (λ (code : List Instr). AreRows code c.in_ok-graph.graph.edges rows) c.as_slice-code.ensures (subst (AreRows c.as_slice-code.result.now c.in_ok-graph.graph.edges) (sym c.as_slice-rows.ensures.value) c.in_ok-left.ensures);
      are_gets = gets;
      made = c.in_ok-made.made;
      laid = laid-in F v c.in_ok-graph.graph.sites names find rows c.starts-starts.result.now c.list-list.result.now c.starts-starts.ensures.value c.list-list.ensures c.args.function.code c.in_ok-made.made gets (c.in_ok-made.ensures (gets_of v));
      tree = refl;
    }
