-- A plan with more matching locations is preserved.
use Rattle.std.proofs.Common.{ℕ, List, [], ◌∷◌, Option, Some, None, refl, inl, inr, ⊎_elim}
use Rattle.std.specs.List.{AllZip}
use Rattle.bril_tree.specs.declared.numbered.Instr.{Instr}
use Rattle.bril_tree.specs.declared.numbered.Instr.TheVariants.{Label, Const, Act}
use Rattle.bril_tree.specs.declared.program.Prog.{Prog}
use Rattle.bril_tree.specs.Assigned.{assigns_at}
use Rattle.bril_tree.specs.Edge.{branches_at}
use Rattle.bril_tree.specs.Operand.{Location, reading_of, locations_read}
use Rattle.bril_tree.specs.Step.{code_of, item_at}
use Rattle.bril_tree.specs.Membership.{In}
use Rattle.pass_edit_laws.specs.plan.Plan.{Plan, StaysMatched, PointItemsMatch, EdgesMatch, Preserves}
use Rattle.pass_edit_laws.specs.plan.Widening.{wide, Widens, WideningPreserves}

pub zip-wider : {X Y : Type 0} (R S : X → Y → Type 0) (xs : List X) (ys : List Y) → AllZip R xs ys → ((x : X) (y : Y) → In x xs → In y ys → R x y → S x y) → AllZip S xs ys
zip-wider R S [] [] z h = tt
zip-wider R S [] (y ∷ ys) z h = absurd z
zip-wider R S (x ∷ xs) [] z h = absurd z
zip-wider R S (x ∷ xs) (y ∷ ys) z h = (h x y (inl refl) (inl refl) z.0, zip-wider R S xs ys z.1 (λ a b i k. h a b (inr i) (inr k)))

pub same-wider : (A B : Location → Location → Type 0) → ((x y : Location) → A x y → B x y) → (o u : Option Instr) → PointItemsMatch A o u → PointItemsMatch B o u
same-wider A B h None None s = tt
same-wider A B h None (Some y) s = absurd s
same-wider A B h (Some x) None s = absurd s
same-wider A B h (Some (Label l)) (Some (Label m)) s = tt
same-wider A B h (Some (Label l)) (Some (Const y t w)) s = absurd s
same-wider A B h (Some (Label l)) (Some (Act e t u result_args gns ms)) s = absurd s
same-wider A B h (Some (Const x t v)) (Some (Label m)) s = absurd s
same-wider A B h (Some (Const x t v)) (Some (Const y r w)) s = s
same-wider A B h (Some (Const x t v)) (Some (Act e r u result_args gns ms)) s = absurd s
same-wider A B h (Some (Act d t o args fns ls)) (Some (Label m)) s = absurd s
same-wider A B h (Some (Act d t o args fns ls)) (Some (Const y r w)) s = absurd s
same-wider A B h (Some (Act d t o args fns ls)) (Some (Act e r u result_args gns ms)) s = record {
  operation = s.operation;
  ty = s.ty;
  dest = s.dest;
  count = s.count;
  funcs = s.funcs;
  reads = zip-wider A B (locations_read (reading_of o) d args) (locations_read (reading_of o) e result_args) s.reads (λ x y i k a. h x y a);
}

module _ (m : Plan) (X : (f i j : ℕ) → Location → Location → Type 0) where
  pub kept-wider : (ps qs : List Location) (A B : Location → Location → Type 0) (a b : Location) → (A a b → B a b) → StaysMatched ps qs A a b → StaysMatched ps qs B a b
  kept-wider ps qs A B a b h (inl k) = inl k
  kept-wider ps qs A B a b h (inr k) = inr (k.0, k.1, h k.2)

  pub widened : (P Q : Prog) → Preserves m P Q → Widens m X P Q → Preserves (wide m X) P Q
  widened P Q c w = record {
    main = c.main;
    types = c.types;
    start = c.start;
    start_known = c.start_known;
    fresh = λ f vs count a b h. ⊎_elim (c.fresh f vs count a b) (w.fresh f vs count a b) h;
    steps = λ f i j reached points regular.
        let st = c.steps f i j reached points regular in
        record {
          same = same-wider (m.LocationsMatch f i j) ((wide m X).LocationsMatch f i j) (λ x y h. inl h) (item_at P f i) (item_at Q f j) st.same;
          branches = zip-wider (EdgesMatch m P Q f i j (item_at P f i) (item_at Q f j)) (EdgesMatch (wide m X) P Q f i j (item_at P f i) (item_at Q f j)) (branches_at (code_of P f) i) (branches_at (code_of Q f) j) st.branches
              (λ a b i' k' al. record {
                aborts = al.aborts;
                points = al.points;
                learns = al.learns;
                remembers = al.remembers;
                kept = λ e x y h. ⊎_elim (λ g. kept-wider (assigns_at (item_at P f i)) (assigns_at (item_at Q f j)) (m.LocationsMatch f i j) ((wide m X).LocationsMatch f i j) x y (λ z. inl z) (al.kept e x y g)) (w.kept f i j reached points regular a b i' k' e x y) h;
                back = λ e walk is ends s t sites es bs rg x y h. ⊎_elim (λ g. inl (al.back e walk is ends s t sites es bs rg x y g)) (w.back f i j reached points regular a b i' k' e walk is ends s t sites es bs rg x y) h;
              });
        };
  }

pub widening_preserves : (plan : Prog → Prog → Plan) (more : Prog → Prog → (f i j : ℕ) → Location → Location → Type 0) → WideningPreserves plan more
widening_preserves plan more P Q preserves widens = widened (plan P Q) (more P Q) P Q preserves widens
