use Rattle.std.proofs.Common.{◌≡◌, ◌∙◌, ap, [], ◌∷◌, replicate, None, arith}
use Rattle.bril_tree.specs.Run.{first_state}
use Rattle.bril_tree.specs.State.{Frame}
use Rattle.bril_interpreter.specs.Frames.{shade_count}
use Rattle.bril_interpreter.specs.Tables.{AreTables}
use Rattle.bril_interpreter.proofs.Held.{new_frame-held, new_frame-kept}
use Rattle.bril_interpreter.proofs.Known.{code_few}
use Rattle.bril_interpreter.proofs.Tables.{tables_are, no_counts, shades_found}
use Rattle.bril_interpreter.proofs.interp.Interp.new.Goals as goal

pub invariant_of-result : goal.invariant_of-result
invariant_of-result c =
    let p = c.prog-program.result.now in
    let same : p ≡ c.args.prog.now.prog = c.prog-program.ensures.value in
    let new = rw c.as_slice.ensures at c.in_ok-tables.ensures in
    let are : AreTables p.funcs c.in_ok-tables.tables.items = tables_are p.funcs c.in_ok-tables.tables.items new in
    let shades : c.shades_in-shades.result.now ≡ replicate (shade_count p p.main) None =
    (rw c.as_slice-2.ensures.value at c.shades_in-shades.ensures) ∙ shades_found p c.in_ok-tables.tables.items p.main are in
    rw (c.in_ok-newest.ensures, c.none.ensures, ← same)
    (record {
      counted = c.prog-program.ensures.counted;
      frame = new_frame-kept p p.main c.args.args.now (shade_count p p.main) c.in_ok-locations.locations
          (rw c.variables_of.ensures at c.in_ok-locations.ensures.vars)
          (c.in_ok-locations.ensures.shadows ∙ shades)
          (omega arith)
          (code_few p c.prog-program.ensures.counted p.main);
      callers = tt;
      functions = are;
      memory = c.new.ensures.limit;
    })

pub returns-clause-state : goal.returns-clause-state
returns-clause-state c =
    let p = c.prog-program.result.now in
    let same : p ≡ c.args.prog.now.prog = c.prog-program.ensures.value in
    let new = rw c.as_slice.ensures at c.in_ok-tables.ensures in
    let are : AreTables p.funcs c.in_ok-tables.tables.items = tables_are p.funcs c.in_ok-tables.tables.items new in
    let shades : c.shades_in-shades.result.now ≡ replicate (shade_count p p.main) None =
    (rw c.as_slice-2.ensures.value at c.shades_in-shades.ensures) ∙ shades_found p c.in_ok-tables.tables.items p.main are in
    rw (c.in_ok-newest.ensures, c.none.ensures, c.new.ensures.blocks, no_counts p.funcs c.in_ok-tables.tables.items new, ← same)
    (ap (λ (f : Frame). record (first_state p c.args.limits c.args.args.now) { frames = f ∷ [] })
    (new_frame-held p c.args.limits p.main c.args.args.now c.variables_of.result (shade_count p p.main) c.in_ok-locations.locations c.in_ok-locations.ensures.vars (c.in_ok-locations.ensures.shadows ∙ shades)))
