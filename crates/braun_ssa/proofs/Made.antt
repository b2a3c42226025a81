-- From the tree in SSA form to its program.
use Rattle.std.proofs.Common.{◌≡◌, ℕ, ◌+◌, ◌*◌, ◌<◌, ◌≤◌, length, refl, ⊎_elim, arith, All}
use Rattle.bril_profile.specs.declared.profile.Profile.{Profile}
use Rattle.bril_tree.specs.declared.function_tree.FuncTree.{FuncTree}
use Rattle.bril_tree.specs.declared.program.Prog.{Prog}
use Rattle.bril_tree.specs.declared.tree.Tree.{Tree}
use Rattle.bril_tree.specs.Accepted.{IsAccepted}
use Rattle.bril_tree.specs.Numbered.{Numbered, tree_size}
use Rattle.bril_tree.specs.Size.{IsCounted, item_count}
use Rattle.bril_tree.proofs.Sizes.{each_within}
use Rattle.ssa_laws.specs.live_entries.LiveEntries.{AreLiveEntries}
use Rattle.ssa_laws.proofs.lemmas.live_entries.Existing.{live-entries-there, widths-there}
use Rattle.pass_law.specs.Meaning.{Link}
use Rattle.pass_make.specs.CanBeMade.{CanBeMade}
use Rattle.pass_make.specs.Edited.{HasRoom, IsLinkedTo}
use Rattle.pass_make.specs.declared.made.Made.TheVariants as making
use Rattle.program_numbers.specs.ProgramNumbers.{IsGreatestWidth, most_locations}
use Rattle.ssa_form_laws.specs.form.Numbers.{IsSsaBound}
use Rattle.ssa_form_laws.specs.form.Ssa.{ssa_meaning}
use Rattle.ssa_form_laws.proofs.lemmas.form.Trees.{laid-edits, laid-short, tree-none_longer}
use Rattle.ssa_form_laws.proofs.lemmas.laid.Accepted.{trees-accepted}
use Rattle.ssa_form_laws.proofs.lemmas.laid.Laid.{trees-refine}
use Rattle.ssa_form_laws.proofs.lemmas.numbers.Whole.{laid-ssa}
use Rattle.ssa_build.specs.tree.Made.{IsLaidTree}

module _ (P : Prog) (accepted : IsAccepted P) (tree : Tree) (t : IsLaidTree P tree) (counted : IsCounted P) (n : ℕ) (entries : AreLiveEntries P n) (width : ℕ) (is_width : IsGreatestWidth P width) (profile : Profile) (room : HasRoom (IsSsaBound P) (item_count P)) where
  abbrev bound : ℕ
  bound = item_count P + 2 * n

  is_bound : IsSsaBound P bound
  is_bound = record { entries = n; are = entries; is = refl }

  short : tree_size tree ≤ bound
  short = laid-short P tree n accepted t entries

  -- each function is short enough
  few : All (λ (g : FuncTree). length g.code < 4294967295) tree.funcs
  few = ⊎_elim
      (λ l. each_within 4294967295 tree.funcs (let s = short in omega arith))
      (λ l. tree-none_longer P accepted tree t n entries (omega arith) counted.items)
      (room bound is_bound)

  can_be_made : CanBeMade P tree
  can_be_made = record {
    imports = t.imports;
    names = (laid-edits P tree t).0;
    accepted = λ Q numbered. trees-accepted P Q tree accepted t numbered;
    items = few;
  }

  linked : (Q : Prog) → Numbered tree Q → IsAccepted Q → item_count Q ≡ tree_size tree → Link ssa_meaning profile P Q
  linked Q numbered accepted_q size = record {
    makes = laid-ssa P Q tree accepted t numbered;
    accepted = accepted_q;
    factor = 1 + 2 * most_locations P * (width + 1);
    is_factor = record { width = width; is_width = is_width; is = refl };
    refines = trees-refine P Q tree accepted t numbered width is_width;
    bound = bound;
    is_bound = is_bound;
    within = let s = short in omega arith;
    fits = λ l. ⊎_elim (λ few. let more = l.many in omega arith) (λ few. let more = l.more in omega arith) (room bound is_bound);
  }

pub edited : (P : Prog) → IsAccepted P → (tree : Tree) → IsLaidTree P tree → IsCounted P → (profile : Profile) → HasRoom (IsSsaBound P) (item_count P) → IsLinkedTo ssa_meaning profile P (making.Tree tree)
edited P accepted tree t counted profile room =
    let e = live-entries-there P accepted in
    let w = widths-there P accepted in
    (can_be_made P accepted tree t counted e.0 e.1 w.0 w.1 profile room, linked P accepted tree t counted e.0 e.1 w.0 w.1 profile room)
