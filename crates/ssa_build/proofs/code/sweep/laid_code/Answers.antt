use Rattle.std.proofs.Common.{◌≡◌, ◌++◌, ℕ, List, length, take, drop, ap, sym, ◌∙◌}
use Rattle.std.proofs.Math.Seq.{take-append_seam}
use Rattle.bril_tree.specs.declared.numbered.Instr.{Instr}
use Rattle.ssa_build.specs.code.Layout.{view_of}
use Rattle.ssa_build.specs.code.Sweep.{before_at}
use Rattle.ssa_build.proofs.lemmas.code.Laying.{so-all}
use Rattle.ssa_build.proofs.code.sweep.laid_code.Goals as goal

pub returns : goal.returns
returns c gets are =
    let F = c.args.layout.now.func.now in
    let sites = c.args.layout.now.graph.now.sites in
    let l = view_of c.args.layout.now in
    let rest = drop (length c.lay_all.new.now) c.in_ok-now.now.items in
    let long : c.in_ok-now.now.len ≡ length c.lay_all.new.now = sym (c.lay_all.auto.now ∙ c.as_mut_slice.ensures.len) in
    let same : c.as_slice.result.now ≡ c.lay_all.new.now = c.as_slice.ensures.value ∙ ap (λ n. take n (c.lay_all.new.now ++ rest)) long ∙ take-append_seam c.lay_all.new.now rest in
    let end = ap (λ (code : List Instr). length code) c.as_slice-code.ensures in
    so-all F sites l gets c.args.items c.lay_all.new.made c.lay_all.new.now (c.in_ok-lay_all.ensures gets are) c.requires.items c.push_before.new.made (length c.as_slice-code.result.now) end
    (c.in_ok-push_before.ensures ∙ ap (λ (n : List ℕ). c.lay_all.new.made ++ before_at F sites l n (length c.as_slice-code.result.now)) same)
