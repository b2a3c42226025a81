-- From the tree that the pass makes to its program.
use Rattle.std.proofs.Common.{◌≡◌, ◌⊎◌, ℕ, zero, suc, ◌+◌, ◌<◌, ◌≤◌, List, length, All, Option, Some, None, refl, ap, subst, inl, inr, ⊎_elim, arith}
use Rattle.std.specs.Prelude.{slice_get}
use Rattle.std.specs.List.{sum_by}
use Rattle.std.proofs.lemmas.Bool.{cases_eq}
use Rattle.std.proofs.lemmas.List.{length-map}
use Rattle.std.proofs.lemmas.Option.{slice_get_within}
use Rattle.bril_profile.specs.declared.profile.Profile.{Profile}
use Rattle.bril_tree.specs.declared.function_tree.FuncTree.{FuncTree}
use Rattle.bril_tree.specs.declared.numbered_function.Func.{Func}
use Rattle.bril_tree.specs.declared.program.Prog.{Prog}
use Rattle.bril_tree.specs.declared.tree.Tree.{Tree}
use Rattle.bril_tree.specs.Accepted.{IsAccepted}
use Rattle.bril_tree.specs.Membership.{In}
use Rattle.bril_tree.specs.Numbered.{Numbered, function_tree, item_tree, names_of_functions, tree_size, variable_names}
use Rattle.bril_tree.specs.Size.{IsCounted, item_count}
use Rattle.bril_tree.specs.Step.{code_of, items_of}
use Rattle.bril_tree.proofs.Elements.{All-at, get_inside, in_get}
use Rattle.bril_tree.proofs.Sizes.{each_within}
use Rattle.bril_tree.proofs.Trees.{function_at, numbered-tree_of}
use Rattle.pass_edit_laws.proofs.lemmas.plan.Elements.{in_all}
use Rattle.pass_law.specs.Meaning.{Link}
use Rattle.pass_make.specs.CanBeMade.{CanBeMade}
use Rattle.pass_make.specs.Edited.{HasRoom}
use Rattle.side_laws.specs.Laws.{SideExitsLink}
use Rattle.side_laws.specs.Side.{side_meaning}
use Rattle.side_laws.specs.Sided.{SideExit, IsSidedTree, IsSideBound, exit_size, exits_size}
use Rattle.side_laws.proofs.lemmas.acceptance.Accepting.{exits-accepted}
use Rattle.side_laws.proofs.lemmas.layout.Bound.{function-few, exits-within, exits-few}
use Rattle.side_laws.proofs.lemmas.refinement.Refining.{exits-refine}
use Rattle.side_laws.proofs.lemmas.layout.Sound.{exits-sound}
use Rattle.side_laws.proofs.lemmas.layout.Straight.{exits-straight}
use Rattle.side_laws.proofs.lemmas.growth.Widths.{exits-keep_numbers}

size-one : (exits : ℕ → List SideExit) (n f : ℕ) → f < n → sum_by exit_size (exits f) ≤ exits_size exits n
size-one exits zero f less = absurd (omega (arith, less))
size-one exits (suc n) f less = ⊎_elim (λ e. let z = ap (λ m. sum_by exit_size (exits m)) e in omega (arith, z)) (λ d. let r = size-one exits n f (omega (arith, less, d)) in omega (arith, r)) (cases_eq f n)

module _ (P : Prog) (profile : Profile) (tree : Tree) (accepted : IsAccepted P) (counted : IsCounted P) (room : HasRoom (IsSideBound P) (item_count P)) (made : IsSidedTree P tree) where
  abbrev bound : ℕ
  bound = item_count P + exits_size made.exits (length P.funcs)

  is-bound : IsSideBound P bound
  is-bound = record { exits = made.exits; are_exits = made.are_exits; is = refl }

  few : (f : ℕ) → 1 + length (made.exits f) < 4294967296
  few f = by (slice_get P.funcs f) refl
    where
      w : length (made.exits f) ≤ length (code_of P f)
      w = exits-few P accepted made.exits made.are_exits f

      by : (o : Option Func) → slice_get P.funcs f ≡ o → 1 + length (made.exits f) < 4294967296
      by None e = let l : length (code_of P f) ≡ 0 = ap (λ o. length (items_of o)) e in omega (arith, w, l)
      by (Some F) e =
          let l : length (code_of P f) ≡ length F.code = ap (λ o. length (items_of o)) e in
          let low = All-at (λ (g : Func). length g.code < 4294967295) P.funcs f F counted.items e in
          omega (arith, w, l, low)

  -- where the tree may be longer, it has at most 1,000,000 items; else no function is longer than it was
  short-by : (bound ≤ 1000000) ⊎ (bound ≤ item_count P) → All (λ (f : FuncTree). length f.code < 4294967295) tree.funcs
  short-by (inl small) = each_within 4294967295 tree.funcs (let w = exits-within P tree made in omega (arith, w, small))
  short-by (inr same) = in_all (λ (f : FuncTree). length f.code < 4294967295) tree.funcs one
    where
      one : (G : FuncTree) → In G tree.funcs → length G.code < 4294967295
      one G among =
          let k = in_get G tree.funcs among in
          let many = made.made.many in
          let of = length-map P.funcs (function_tree (names_of_functions P.funcs)) in
          let inside = slice_get_within tree.funcs k.0 G k.1 in
          let F = get_inside P.funcs k.0 (omega (arith, many, of, inside)) in
          let low = All-at (λ (f : Func). length f.code < 4294967295) P.funcs k.0 F.0 counted.items F.1 in
          let long = length-map F.0.code (item_tree (names_of_functions P.funcs) (variable_names F.0.vars) F.0.labels) in
          let more = function-few P tree made k.0 (function_tree (names_of_functions P.funcs) F.0) G (function_at P k.0 F.0 F.1) k.1 in
          let own = size-one made.exits (length P.funcs) k.0 (omega (arith, many, of, inside)) in
          omega (arith, same, low, long, more, own)

  can-be-made : CanBeMade P tree
  can-be-made = record {
    imports = made.made.imports;
    names = exits-sound P tree accepted made few;
    accepted = λ Q numbered. exits-accepted P Q accepted (subst (IsSidedTree P) (numbered-tree_of tree Q numbered) made);
    items = short-by (room bound is-bound);
  }

  linked : (Q : Prog) → Numbered tree Q → IsAccepted Q → item_count Q ≡ tree_size tree → Link side_meaning profile P Q
  linked Q numbered accepted_q size =
      let makes = subst (IsSidedTree P) (numbered-tree_of tree Q numbered) made in
      let w = exits-within P tree made in
      record {
        makes = record {
          sided = makes;
          straight = exits-straight P Q accepted makes;
          numbers = exits-keep_numbers P Q accepted makes;
        };
        accepted = accepted_q;
        factor = 1;
        is_factor = refl;
        refines = exits-refine P Q accepted makes;
        bound = bound;
        is_bound = is-bound;
        within = omega (arith, w, size);
        fits = λ l. ⊎_elim (λ small. let more = l.many in omega (arith, small, more)) (λ small. let more = l.more in omega (arith, small, more)) (room bound is-bound);
      }

pub exits-link : SideExitsLink
exits-link P profile tree accepted counted room made = (can-be-made P profile tree accepted counted room made, linked P profile tree accepted counted room made)
