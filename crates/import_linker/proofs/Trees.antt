-- Where the files are told, one tree at most is linked.
use Rattle.std.proofs.Common.{◌≡◌, ◌∙◌, ◌<◌, sym, ap, subst, ℕ, List, true≢false, inl, inr, arith}
use Rattle.std.proofs.lemmas.Bool.{cases_lt}
use Rattle.std.specs.Prelude.{Some}
use Rattle.bril_outside.specs.Files.{FileMap}
use Rattle.bril_tree.specs.declared.tree.Tree.{Tree}
use Rattle.import_linker.specs.Linked.{IsFreshRun, IsTreeOf, Linked, linked_from}
use Rattle.import_linker.specs.Names.{names_at, paths_of}
use Rattle.import_linker.specs.declared.sources.Source.{Source}
use Rattle.import_linker.proofs.Once.{same_files}

not_less : (names : List (List ℕ)) (m n : ℕ) → IsFreshRun names m → IsFreshRun names n → m < n → ⊥
not_less names m n a b less = true≢false (sym (b.shortest m a.some less) ∙ a.fresh)

pub same_run : (names : List (List ℕ)) (m n : ℕ) → IsFreshRun names m → IsFreshRun names n → m ≡ n
same_run names m n a b = elim (cases_lt m n) [
  | inl less ↦ absurd (not_less names m n a b less)
  | inr le ↦ elim (cases_lt n m) [
    | inl less ↦ absurd (not_less names n m b a less)
    | inr other ↦ omega arith
  ]
]

pub same_tree : (sources : List Source) (t u : Tree) → IsTreeOf sources t → IsTreeOf sources u → t ≡ u
same_tree sources t u a b =
    let run : a.run ≡ b.run = same_run (names_at sources 0) a.run b.run a.fresh b.fresh in
    let imports : t.imports ≡ u.imports = a.imports ∙ sym b.imports in
    let funcs : t.funcs ≡ u.funcs = a.funcs ∙ ap (λ (n : ℕ). linked_from n (paths_of sources) 0 sources) run ∙ sym b.funcs in
    λ i. record { imports = imports i; funcs = funcs i }

-- One tree at most is that of the program whose root is at the path.
pub linked_once : (map : FileMap) (root : List ℕ) (t u : Tree) → Linked (Some map) root t → Linked (Some map) root u → t ≡ u
linked_once map root t u a b =
    let same = same_files map root a.sources b.sources a.files b.files in
    same_tree b.sources t u (subst (λ (s : List Source). IsTreeOf s t) same a.links) b.links
