-- From the tree that the pass makes to its program.
use Rattle.std.proofs.Common.{◌≡◌, ◌⊎◌, ℕ, ◌<◌, ◌≤◌, length, All, refl, subst, inl, inr, ⊎_elim, arith}
use Rattle.std.proofs.lemmas.List.{length-map}
use Rattle.bril_profile.specs.declared.profile.Profile.{Profile}
use Rattle.bril_tree.specs.declared.function_tree.FuncTree.{FuncTree}
use Rattle.bril_tree.specs.declared.numbered_function.Func.{Func}
use Rattle.bril_tree.specs.declared.program.Prog.{Prog}
use Rattle.bril_tree.specs.declared.tree.Tree.{Tree}
use Rattle.bril_tree.specs.Accepted.{IsAccepted}
use Rattle.bril_tree.specs.Membership.{In}
use Rattle.bril_tree.specs.Numbered.{Numbered, function_tree, item_tree, names_of_functions, tree_size, variable_names}
use Rattle.bril_tree.specs.Size.{IsCounted, item_count}
use Rattle.bril_tree.proofs.Elements.{All-at, get_inside, in_get}
use Rattle.bril_tree.proofs.Sizes.{each_within}
use Rattle.bril_tree.proofs.Trees.{function_at, numbered-tree_of}
use Rattle.std.proofs.lemmas.Option.{slice_get_within}
use Rattle.pass_law.specs.Meaning.{Link}
use Rattle.pass_make.specs.CanBeMade.{CanBeMade}
use Rattle.pass_make.specs.Edited.{HasRoom}
use Rattle.pass_edit_laws.proofs.lemmas.plan.Elements.{in_all}
use Rattle.trace_laws.proofs.lemmas.acceptance.Accepted.{traces-accepted}
use Rattle.trace_laws.specs.lines.Bound.{IsTraceBound, bound_with}
use Rattle.trace_laws.specs.lines.Lines.{bool_type}
use Rattle.trace_laws.specs.lines.Names.{trace_bases}
use Rattle.trace_laws.specs.lines.Traced.{IsTracedTree}
use Rattle.trace_laws.proofs.lemmas.lines.Bound.{function-within}
use Rattle.trace_laws.proofs.lemmas.lines.Sound.{traces-well_laid}
use Rattle.trace_laws.proofs.lemmas.growth.Numbers.{trace-keeps_numbers}
use Rattle.trace_laws.proofs.lemmas.refinement.Attempting.{traces-give_back}
use Rattle.trace_laws.proofs.lemmas.refinement.Quiet.{traces-quiet}
use Rattle.trace_laws.proofs.lemmas.refinement.Refines.{traces-refine}
use Rattle.trace_laws.proofs.lemmas.refinement.Starting.{traces-start_alike}
use Rattle.trace_laws.specs.Laws.{TracesLink}
use Rattle.trace_laws.specs.Trace.{trace_meaning}
use Rattle.trace_paths.specs.Fits.{count_of}
use Rattle.trace_paths.specs.Taken.{taken}

module _ (P : Prog) (profile : Profile) (tree : Tree) (accepted : IsAccepted P) (counted : IsCounted P) (room : HasRoom (IsTraceBound P profile) (item_count P)) (made : IsTracedTree P profile tree) where
  abbrev bound : ℕ
  bound = bound_with P made.fits

  is-bound : IsTraceBound P profile bound
  is-bound = record { fits = made.fits; are_fits = made.are_fits; is = refl }

  within : tree_size tree ≤ bound
  within = (traces-well_laid P profile tree made).within

  -- where the tree may be longer, it has at most 1,000,000 items; else no function is longer than it was
  short-by : (bound ≤ 1000000) ⊎ (bound ≤ item_count P) → All (λ (f : FuncTree). length f.code < 4294967295) tree.funcs
  short-by (inl few) = each_within 4294967295 tree.funcs (let w = within in omega arith)
  short-by (inr same) = in_all (λ (f : FuncTree). length f.code < 4294967295) tree.funcs one
    where
      one : (G : FuncTree) → In G tree.funcs → length G.code < 4294967295
      one G among =
          let k = in_get G tree.funcs among in
          let many = made.spliced_so.many in
          let of = length-map P.funcs (function_tree (names_of_functions P.funcs)) in
          let inside = slice_get_within tree.funcs k.0 G k.1 in
          let F = get_inside P.funcs k.0 (omega arith) in
          let low = All-at (λ (f : Func). length f.code < 4294967295) P.funcs k.0 F.0 counted.items F.1 in
          let long = length-map F.0.code (item_tree (names_of_functions P.funcs) (variable_names F.0.vars) F.0.labels) in
          let more = function-within trace_bases P bool_type (taken count_of profile.entries) tree made k.0 (function_tree (names_of_functions P.funcs) F.0) G (function_at P k.0 F.0 F.1) k.1 in
          omega arith

  can-be-made : CanBeMade P tree
  can-be-made = record {
    imports = made.spliced_so.imports;
    names = (traces-well_laid P profile tree made).names;
    accepted = λ Q numbered. traces-accepted P Q profile accepted (subst (IsTracedTree P profile) (numbered-tree_of tree Q numbered) made);
    items = short-by (room bound is-bound);
  }

  linked : (Q : Prog) → Numbered tree Q → IsAccepted Q → item_count Q ≡ tree_size tree → Link trace_meaning profile P Q
  linked Q numbered accepted_q size =
      let makes = subst (IsTracedTree P profile) (numbered-tree_of tree Q numbered) made in
      let w = within in
      record {
        makes = record {
          traced = makes;
          quiet = traces-quiet P Q profile makes;
          starts_alike = λ f point t at. traces-start_alike P Q profile accepted makes f point t at (traces-quiet P Q profile makes f point t at);
          gives_back = λ f point t at. traces-give_back P Q f point t (traces-quiet P Q profile makes f point t at);
          numbers = trace-keeps_numbers P Q profile accepted makes;
        };
        accepted = accepted_q;
        factor = 520;
        is_factor = refl;
        refines = traces-refine P Q profile accepted makes;
        bound = bound;
        is_bound = is-bound;
        within = omega arith;
        fits = λ l. ⊎_elim (λ few. let more = l.many in omega arith) (λ few. let more = l.more in omega arith) (room bound is-bound);
      }

pub traces-link : TracesLink
traces-link P profile tree accepted counted room made = (can-be-made P profile tree accepted counted room made, linked P profile tree accepted counted room made)
