-- Items that do the same ask the same of the walks to them; some ask nothing.
use Rattle.std.proofs.Common.{◌≡◌, ℕ, Bool, false, List, [], Option, Some, None, refl, sym, ap, subst, ◌∙◌}
use Rattle.std.proofs.lemmas.Option.{same_Some}
use Rattle.bril_tree.specs.declared.numbered.Instr.{Instr}
use Rattle.bril_tree.specs.declared.numbered.Instr.TheVariants.{Label, Const, Act}
use Rattle.bril_tree.specs.declared.operation.Op.{Op}
use Rattle.bril_tree.specs.declared.operation.Op.TheVariants as op
use Rattle.bril_tree.specs.declared.types.Ty.{Ty}
use Rattle.bril_tree.specs.declared.value.Lit.{Lit}
use Rattle.bril_tree.specs.Accepted.{leaves_frame}
use Rattle.bril_tree.specs.Operand.{Location, reads_of, reading_of, locations_read}
use Rattle.bril_tree.specs.Sites.{needs_site}
use Rattle.bril_tree.specs.Membership.{In}
use Rattle.bril_tree.proofs.Elements.{zip-find}
use Rattle.pass_edit_laws.specs.plan.Plan.{PointItemsMatch}
use Rattle.pass_edit_laws.specs.walks.Matched.{IsHarmless}

same_test : (A : Location → Location → Type 0) (test : Op → Bool) (of : Option Instr → Bool) → ((d : Option ℕ) (t : Option Ty) (o : Op) (args fns ls : List ℕ) → of (Some (Act d t o args fns ls)) ≡ test o) → ((l : ℕ) → of (Some (Label l)) ≡ of (Some (Label 0)))
    → ((x : ℕ) (t : Ty) (v : Lit) (y : ℕ) (s : Ty) (w : Lit) → of (Some (Const x t v)) ≡ of (Some (Const y s w))) → (o u : Option Instr) → PointItemsMatch A o u → of o ≡ of u
same_test A test of act label const None None s = refl
same_test A test of act label const None (Some y) s = absurd s
same_test A test of act label const (Some x) None s = absurd s
same_test A test of act label const (Some (Label l)) (Some (Label m)) s = label l ∙ sym (label m)
same_test A test of act label const (Some (Label l)) (Some (Const y t w)) s = absurd s
same_test A test of act label const (Some (Label l)) (Some (Act e t u result_args gns ms)) s = absurd s
same_test A test of act label const (Some (Const x t v)) (Some (Label m)) s = absurd s
same_test A test of act label const (Some (Const x t v)) (Some (Const y r w)) s = const x t v y r w
same_test A test of act label const (Some (Const x t v)) (Some (Act e r u result_args gns ms)) s = absurd s
same_test A test of act label const (Some (Act d t o args fns ls)) (Some (Label m)) s = absurd s
same_test A test of act label const (Some (Act d t o args fns ls)) (Some (Const y r w)) s = absurd s
same_test A test of act label const (Some (Act d t o args fns ls)) (Some (Act e r u result_args gns ms)) s = act d t o args fns ls ∙ ap test s.operation ∙ sym (act e r u result_args gns ms)

leaving : Op → Bool
leaving o = leaves_frame (Some (Act None None o [] [] []))

needing : Op → Bool
needing o = needs_site (Some (Act None None o [] [] []))

pub leaves_same : (A : Location → Location → Type 0) (o u : Option Instr) → PointItemsMatch A o u → leaves_frame o ≡ leaves_frame u
unfolding leaving
leaves_same A = same_test A leaving leaves_frame act (λ l. refl) (λ x t v y s w. refl)
  where
    act : (d : Option ℕ) (t : Option Ty) (o : Op) (args fns ls : List ℕ) → leaves_frame (Some (Act d t o args fns ls)) ≡ leaving o
    act d t op.Call args fns ls = refl
    act d t op.Ret args fns ls = refl
    act d t _ args fns ls = refl

pub needs_same : (A : Location → Location → Type 0) (o u : Option Instr) → PointItemsMatch A o u → needs_site o ≡ needs_site u
unfolding needing
needs_same A = same_test A needing needs_site act (λ l. refl) (λ x t v y s w. refl)
  where
    act : (d : Option ℕ) (t : Option Ty) (o : Op) (args fns ls : List ℕ) → needs_site (Some (Act d t o args fns ls)) ≡ needing o
    act d t op.Commit args fns ls = refl
    act d t op.Guard args fns ls = refl
    act d t _ args fns ls = refl

-- what the second reads the first reads
pub reads_same : (A : Location → Location → Type 0) (o : Option Instr) (b : Instr) (y : Location) → PointItemsMatch A o (Some b) → In y (reads_of b) → (a : Instr) × (x : Location) × (o ≡ Some a) × In x (reads_of a) × A x y
reads_same A None b y s i = absurd s
reads_same A (Some (Label l)) (Label m) y s i = absurd i
reads_same A (Some (Label l)) (Const z t w) y s i = absurd s
reads_same A (Some (Label l)) (Act e t u result_args gns ms) y s i = absurd s
reads_same A (Some (Const x t v)) (Label m) y s i = absurd s
reads_same A (Some (Const x t v)) (Const z r w) y s i = absurd i
reads_same A (Some (Const x t v)) (Act e r u result_args gns ms) y s i = absurd s
reads_same A (Some (Act d t o args fns ls)) (Label m) y s i = absurd s
reads_same A (Some (Act d t o args fns ls)) (Const z r w) y s i = absurd s
reads_same A (Some (Act d t o args fns ls)) (Act e r u result_args gns ms) y s i =
    let f = zip-find A (locations_read (reading_of o) d args) (locations_read (reading_of o) e result_args) y s.reads (subst (λ z. In y (locations_read (reading_of z) e result_args)) (sym s.operation) i) in
    (Act d t o args fns ls, f.0, refl, f.1, f.2)

pub none_same : (A : Location → Location → Type 0) (o u : Option Instr) → u ≡ None → PointItemsMatch A o u → o ≡ None
none_same A None u e s = refl
none_same A (Some a) None e s = absurd s
none_same A (Some a) (Some b) e s = absurd cc

-- an item that reads nothing, leaves no frame and needs no site asks nothing
pub harmless_item : (Assured : Location → Type 0) (o : Option Instr) (b : Instr) → o ≡ Some b → reads_of b ≡ [] → leaves_frame (Some b) ≡ false → needs_site (Some b) ≡ false → IsHarmless Assured o
harmless_item Assured o b at none stays closed = subst (IsHarmless Assured) (sym at) (record { there = refl; alone = stays; closed = closed; reads = λ item same y among. absurd (subst (In y) (sym (ap reads_of (same_Some b item same)) ∙ none) among) })
