-- From the tree that the pass makes to its program.
use Rattle.std.proofs.Common.{◌≡◌, ◌⊎◌, ℕ, suc, ◌+◌, ◌<◌, ◌≤◌, List, [], ◌∷◌, length, map, Option, Some, None, refl, sym, ap, subst, ◌∙◌, ⊎_elim, arith}
use Rattle.std.specs.Prelude.{slice_get}
use Rattle.std.specs.List.{AllZip, sum_by}
use Rattle.std.specs.Option.{option_map}
use Rattle.std.proofs.lemmas.List.{length-map}
use Rattle.std.proofs.lemmas.List.Elements.{All-cons}
use Rattle.std.proofs.lemmas.List.Sums.{sum_by-cons}
use Rattle.std.proofs.lemmas.Option.{slice_get-map}
use Rattle.std.proofs.lemmas.Simd.{map-map}
use Rattle.std.proofs.lemmas.Slice.Zip.{AllZip-map}
use Rattle.bril_tree.specs.declared.function_tree.FuncTree.{FuncTree}
use Rattle.bril_tree.specs.declared.numbered_function.Func.{Func}
use Rattle.bril_tree.specs.declared.program.Prog.{Prog}
use Rattle.bril_tree.specs.declared.tree.Tree.{Tree}
use Rattle.bril_tree.specs.Accepted.{IsAccepted}
use Rattle.bril_tree.specs.Numbered.{Numbered, function_tree, names_of_functions, tree_at, tree_of, tree_size, items_in, nop_item}
use Rattle.bril_tree.specs.Size.{item_count, IsCounted}
use Rattle.bril_tree.proofs.Trees.{tree_at-items, tree_at-edited, nop-at, numbered-tree_of}
use Rattle.bril_tree.proofs.Sizes.{size-tree_of, each_within}
use Rattle.bril_names.specs.Faults.{IsKnown, IsSound, labels_of, function_names, SameHead, IsSoundEdit}
use Rattle.bril_names.proofs.Functions.{is_main}
use Rattle.bril_names.proofs.Naming.{AreAmong-none}
use Rattle.bril_names.proofs.Edits.{names_edited, heads-of_edits}
use Rattle.pass_edit_laws.proofs.lemmas.names.Trees.{heads-of_trees}
use Rattle.pass_law.proofs.Equations.{equation_number}
use Rattle.pass_law.specs.Meaning.{HasNumbers, Link}
use Rattle.pass_make.specs.Edited.{HasRoom, IsLinkedTo}
use Rattle.pass_make.specs.declared.made.Made.TheVariants as making
use Rattle.bril_profile.specs.declared.profile.Profile.{Profile}
use Rattle.pass_make.specs.CanBeMade.{CanBeMade}
use Rattle.bril_tree.proofs.Sizes.{sum-counted}
use Rattle.pass_pad.specs.Pad.{pad_meaning}
use Rattle.pass_pad.specs.Padded.{padded_function, padded_tree, IsPadded, padded_size, PaddedAt}
use Rattle.pass_pad.proofs.Accepted.{padded-accepted}
use Rattle.pass_pad.proofs.Refines.{padded-refines}

-- a padded function can be numbered
can_be_numbered : (names : List (List ℕ)) (f : FuncTree) → IsSound names f → IsSoundEdit names f (padded_function f)
can_be_numbered names f s = record {
  head = record { name = refl; args = refl; ret = refl };
  labels = s.labels;
  known = All-cons (IsKnown names (labels_of f.code)) nop_item f.code (AreAmong-none names, AreAmong-none (labels_of f.code)) s.known;
}

names : (P : Prog) → AllZip (IsSoundEdit (function_names (tree_of P))) (tree_of P).funcs (padded_tree (tree_of P)).funcs
names P = names_edited P padded_function (can_be_numbered (function_names (tree_of P)))

-- so its points are those of the old function, one further
padded-points : (P Q : Prog) → IsPadded P Q → PaddedAt P Q
padded-points P Q makes = record {
  heads = heads-of_trees P Q (subst (λ (t : Tree). AllZip SameHead (tree_of P).funcs t.funcs) (sym makes) (heads-of_edits (function_names (tree_of P)) (tree_of P).funcs (padded_tree (tree_of P)).funcs (names P)));
  first = λ f F p. nop-at Q f 0 (at f 0 ∙ ap (λ o. slice_get (items_in (option_map padded_function o)) 0) (slice_get-map (function_tree (names_of_functions P.funcs)) P.funcs f ∙ ap (option_map (function_tree (names_of_functions P.funcs))) p));
  rest = λ f i. tree_at-items P f i ∙ further (slice_get (tree_of P).funcs f) i ∙ sym (at f (suc i));
}
  where
    at : (f i : ℕ) → tree_at Q f i ≡ slice_get (items_in (option_map padded_function (slice_get (tree_of P).funcs f))) i
    at = tree_at-edited Q (tree_of P) padded_function makes

    further : (o : Option FuncTree) (i : ℕ) → slice_get (items_in o) i ≡ slice_get (items_in (option_map padded_function o)) (suc i)
    further None i = refl
    further (Some f) i = refl

-- one item more for each function
size-padded : (P : Prog) → tree_size (padded_tree (tree_of P)) ≡ padded_size P
size-padded P = by (tree_of P).funcs ∙ (λ i. size-tree_of P i + length-map P.funcs (function_tree (names_of_functions P.funcs)) i)
  where
    by : (xs : List FuncTree) → sum_by (λ (f : FuncTree). length f.code) (map padded_function xs) ≡ sum_by (λ (f : FuncTree). length f.code) xs + length xs
    by [] = refl
    by (x ∷ xs) =
        let rest = by xs in
        let one = sum_by-cons (λ (f : FuncTree). length f.code) (padded_function x) (map padded_function xs) in
        let two = sum_by-cons (λ (f : FuncTree). length f.code) x xs in
        omega arith

-- the bound passes neither 64 bits ..
pub size-fits : (P : Prog) → IsCounted P → padded_size P < 18446744073709551616
size-fits P c = let h = sum-counted P.funcs c.items in let n = c.functions in omega arith

-- .. nor, where it isn't refused, what `check` takes
padded-made : (P : Prog) → IsAccepted P → (padded_size P ≤ 1000000) ⊎ (padded_size P ≤ item_count P) → CanBeMade P (padded_tree (tree_of P))
padded-made P accepted room = record {
  imports = refl;
  names = names P;
  accepted = λ Q numbered. padded-accepted P Q accepted (padded-points P Q (sym (numbered-tree_of (padded_tree (tree_of P)) Q numbered)));
  items = each_within 4294967295 (padded_tree (tree_of P)).funcs (subst (λ n. n < 4294967295) (sym (size-padded P)) (⊎_elim (λ l. omega arith) (λ l. absurd (let some = (is_main P).within in let many = length-map P.funcs (λ (f : Func). f.name) in omega arith)) room));
}

-- ---- by what the calls give: each function, padded

pub all-padded : (P : Prog) (made : Tree) → made.imports ≡ [] → AllZip (λ F g. g ≡ padded_function (function_tree (names_of_functions P.funcs) F)) P.funcs made.funcs → made ≡ padded_tree (tree_of P)
all-padded P made none each = λ i. record { imports = none i; funcs = (AllZip-map (λ F. padded_function (function_tree (names_of_functions P.funcs) F)) P.funcs made.funcs each ∙ sym (map-map padded_function (function_tree (names_of_functions P.funcs)) P.funcs)) i }

module _ (P : Prog) (made : Tree) (accepted : IsAccepted P) (is : made ≡ padded_tree (tree_of P)) where
  linked : HasRoom (λ k. k ≡ padded_size P) (item_count P) → (profile : Profile) (Q : Prog) → Numbered made Q → IsAccepted Q → item_count Q ≡ tree_size made → Link pad_meaning profile P Q
  linked room profile Q of_q accepted_q size =
      let makes : IsPadded P Q = sym (numbered-tree_of made Q of_q) ∙ is in
      let many = size ∙ ap tree_size is ∙ size-padded P in
      record {
        makes = makes;
        accepted = accepted_q;
        factor = 2;
        is_factor = refl;
        refines = padded-refines P Q (padded-points P Q makes) accepted;
        bound = padded_size P;
        is_bound = refl;
        within = omega (arith, many);
        fits = λ l. ⊎_elim (λ few. let more = l.many in omega arith) (λ few. let more = l.more in omega arith) (room (padded_size P) refl);
      }

  pub padded-linked : HasRoom (λ k. k ≡ padded_size P) (item_count P) → (profile : Profile) → IsLinkedTo pad_meaning profile P (making.Tree made)
  padded-linked room profile = (subst (CanBeMade P) (sym is) (padded-made P accepted (room (padded_size P) refl)), linked room profile)

-- the factor and the bound are equations
pub pad-numbers : HasNumbers pad_meaning
pad-numbers = record { factor = equation_number (λ P profile. 2); bound = equation_number (λ P profile. padded_size P) }
