-- An accepted program has a number of entries.
use Rattle.std.proofs.Common.{◌≡◌, ℕ, List, ◌∷◌, map, Option, Some, None, refl, sym, ap, subst, inl, inr, ⊎_elim}
use Rattle.std.specs.List.{flat_map}
use Rattle.std.proofs.lemmas.Bool.{cases_eq}
use Rattle.bril_tree.specs.declared.edge.Edge.{Edge}
use Rattle.bril_tree.specs.declared.numbered.Instr.{Instr}
use Rattle.bril_tree.specs.declared.program.Prog.{Prog}
use Rattle.bril_tree.specs.Accepted.{IsAccepted, IsAcceptedFunction}
use Rattle.bril_tree.specs.Membership.{In}
use Rattle.bril_tree.specs.Sites.{AreSitesSound}
use Rattle.bril_tree.proofs.Members.{in_contains, in_flat_map, in_flat_map_source, in_map, in_map_source}
use Rattle.ssa_laws.proofs.lemmas.live_entries.Deciding.{all-edges, edge-there}
use Rattle.ssa_laws.proofs.lemmas.live_entries.Existing.{width-of, sum-there}
use Rattle.bril_tree.proofs.Deciding.{Decided, same-option}
use Rattle.ssa_laws.proofs.lemmas.live_entries.Selecting.{so-many}
use Rattle.pass_edit_laws.proofs.lemmas.plan.Elements.{all_in}
use Rattle.program_numbers.specs.Entries.{Enters, IsEntryCount}
use Rattle.program_numbers.specs.ProgramNumbers.{AreEntries}

-- ---- the entries of a function

abbrev Pair : Type 0
Pair = Option ℕ × ℕ

same-pair : (x y : Pair) → Decided (x ≡ y)
same-pair (l, k) (m, j) = ⊎_elim
    (λ e. ⊎_elim (λ f. inl (λ i. (e i, f i))) (λ n. inr (λ h. n (ap (λ (z : Pair). z.1) h))) (cases_eq k j))
    (λ n. inr (λ h. n (ap (λ (z : Pair). z.0) h)))
    (same-option cases_eq l m)

module _ (code : List Instr) (sound : AreSitesSound code) where
  abbrev leaves : List (Option ℕ)
  leaves = None ∷ map (λ (edge : Edge). Some edge.leave) (all-edges code sound)

  abbrev pair-of : Option ℕ → ℕ → Pair
  pair-of leave l = (leave, l)

  abbrev pairs-from : Option ℕ → List Pair
  pairs-from leave = map (pair-of leave) (width-of code sound leave).1.members

  enters-leaves : (leave : Option ℕ) (l : ℕ) → Enters code leave l → In leave leaves
  enters-leaves None l e = inl refl
  enters-leaves (Some p) l e = inr (subst (λ q. In (Some q) (map (λ (edge : Edge). Some edge.leave) (all-edges code sound))) e.2 (in_map (λ (edge : Edge). Some edge.leave) e.0 (all-edges code sound) (edge-there code sound e.0 e.1)))

  entries-there : (n : ℕ) × IsEntryCount code n
  entries-there = so-many same-pair (λ (pair : Pair). Enters code pair.0 pair.1) (flat_map pairs-from leaves)
      (λ pair i.
      let s = in_flat_map_source pairs-from pair leaves i in
      let m = in_map_source (pair-of s.0) pair (width-of code sound s.0).1.members s.2 in
      let w = (width-of code sound s.0).1 in
      subst (λ (z : Pair). Enters code z.0 z.1) (sym m.2) (all_in (Enters code s.0) w.members w.are m.0 m.1))
      (λ pair e.
      let w = (width-of code sound pair.0).1 in
      in_flat_map pairs-from pair.0 pair leaves (enters-leaves pair.0 pair.1 e) (in_map (pair-of pair.0) pair.1 w.members (in_contains pair.1 w.members (w.all pair.1 e))))

-- ---- programs

pub program-entries-there : (p : Prog) → IsAccepted p → (n : ℕ) × AreEntries p n
program-entries-there p accepted = sum-there (λ f n. IsEntryCount f.code n) p.funcs (λ F i. entries-there F.code (all_in (IsAcceptedFunction p) p.funcs accepted.functions F i).sites)
