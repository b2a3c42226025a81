-- Types, paths and imports are equal where what they hold is: the facts that they keep have one proof each.
use Rattle.std.proofs.Common.{◌≡◌, ℕ, ◌≤◌, Bool, true, false, List, length, Some, refl, sym, ap, ◌∙◌}
use Rattle.std.specs.Prelude.{nat_lt, nat_le}
use Rattle.std.specs.List.{list_all}
use Rattle.std.proofs.Props.{props}
use Rattle.std.proofs.lemmas.Bool.{lt-ltb, le-leb, false≢true}
use mathlib.Core.HLevel.{is_prop→PathP}
use Rattle.bril_tree.specs.Path.{IsImportPath, ImportPath, is_path_byte, tested_path, import_path}
use Rattle.bril_tree.specs.declared.import.Import.{Import}
use Rattle.bril_tree.specs.declared.types.Ty.{Ty}

IsImportPath-prop : (path : List ℕ) → IsProp (IsImportPath path)
IsImportPath-prop path = hlevel props

below-prop : (a b : ℕ) → IsProp (a ≤ b)
below-prop a b = hlevel props

pub Ty-equal : (t u : Ty) → t.depth ≡ u.depth → t.base ≡ u.base → t ≡ u
Ty-equal t u d b = λ i. record { depth = d i; base = b i; nests = is_prop→PathP (λ j. d j ≤ 32) (λ j. below-prop (d j) 32) t.nests u.nests i }

pub Import-equal : (i j : Import) → i.path ≡ j.path → i.names ≡ j.names → i ≡ j
Import-equal i j p n = λ k. record {
  path = p k;
  names = n k;
  has_path = is_prop→PathP (λ m. IsImportPath (p m)) (λ m. IsImportPath-prop (p m)) i.has_path j.has_path k;
  takes_some = is_prop→PathP (λ m. 1 ≤ length (n m)) (λ m. below-prop 1 (length (n m))) i.takes_some j.takes_some k;
}

pub ImportPath-equal : (p q : ImportPath) → p.bytes ≡ q.bytes → p ≡ q
ImportPath-equal p q e = λ i. record { bytes = e i; is_path = is_prop→PathP (λ j. IsImportPath (e j)) (λ j. IsImportPath-prop (e j)) p.is_path q.is_path i }

tested : (path : List ℕ) (h : IsImportPath path) (a b c : Bool) (e : nat_lt 0 (length path) ≡ a) (f : nat_le (length path) 4096 ≡ b) (g : list_all is_path_byte path ≡ c) → tested_path path a b c e f g ≡ Some (record { bytes = path; is_path = h })
tested path h true true true e f g = ap Some (ImportPath-equal _ _ refl)
tested path h true true false e f g = absurd (false≢true (sym g ∙ h.spelled))
tested path h true false c e f g = absurd (false≢true (sym f ∙ le-leb _ _ h.short))
tested path h false b c e f g = absurd (false≢true (sym e ∙ lt-ltb _ _ h.some))

-- a path that an import may name is its own
pub import_path-path : (path : List ℕ) (h : IsImportPath path) → import_path path ≡ Some (record { bytes = path; is_path = h })
import_path-path path h = tested path h (nat_lt 0 (length path)) (nat_le (length path) 4096) (list_all is_path_byte path) refl refl refl
