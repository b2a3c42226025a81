-- A pass that keeps names preserves the runs of its program: it gives each variable the name that it had.
use Rattle.std.proofs.Common.{◌≡◌, ℕ, List, Option, Some, None, refl, sym, ◌∙◌}
use Rattle.std.specs.Prelude.{slice_get}
use Rattle.bril_tree.specs.declared.numbered.Instr.{Instr}
use Rattle.bril_tree.specs.declared.numbered_function.Func.{Func}
use Rattle.bril_tree.specs.declared.program.Prog.{Prog}
use Rattle.bril_tree.specs.declared.value.Value.{Value}
use Rattle.bril_tree.specs.Accepted.{IsAccepted}
use Rattle.bril_tree.specs.Assigned.{assigns_at, assigns_of}
use Rattle.bril_tree.specs.Numbered.{names_of_functions, names_in, point_tree, tree_at}
use Rattle.bril_tree.specs.Operand.{Location}
use Rattle.bril_tree.specs.Step.{code_of, item_at}
use Rattle.bril_tree.specs.Walk.{IsReached}
use Rattle.bril_tree.specs.Membership.{In}
use Rattle.bril_tree.proofs.Trees.{nothing_at}
use Rattle.pass_edit_laws.specs.plan.Plan.{Preserves}
use Rattle.pass_edit_laws.specs.names.Named.{SameLocation}
use Rattle.pass_edit_laws.specs.names.NamedPlan.{NamePlan, NamesPreserve, KeepsKnown, plan, KeepsNames}
use Rattle.pass_edit_laws.specs.names.Renaming.{renamed_tree, Renames}
use Rattle.pass_edit_laws.proofs.lemmas.names.Heads.{main_same, main_types_same, start_agrees}
use Rattle.pass_edit_laws.proofs.lemmas.names.Locations.{to_left}
use Rattle.pass_edit_laws.proofs.lemmas.names.Points.{found, Differ-in}
use Rattle.pass_edit_laws.proofs.lemmas.names.Renaming.{items_share, renaming_preserves}

-- under its own names a point has its tree
pub own_tree : (fs : List (List ℕ)) (o : Option Func) (i : ℕ) → renamed_tree fs (names_in o) o i ≡ point_tree fs o i
own_tree fs None i = refl
own_tree fs (Some F) i = refl

module _ (P Q : Prog) (N : NamePlan) (accepted : IsAccepted P) (k : KeepsNames P Q N) where
  abbrev names : ℕ → List (List ℕ)
  names f = names_in (slice_get P.funcs f)

  module _ (f i j : ℕ) (reached : IsReached (code_of P f) i) (points : N.PointsMatch f i j) (regular : N.IsRegular f i j) where
    same : renamed_tree (names_of_functions P.funcs) (names f) (slice_get P.funcs f) i ≡ tree_at Q f j
    same = own_tree (names_of_functions P.funcs) (slice_get P.funcs f) i ∙ k.same f i j reached points regular

    -- the items assign locations of one name, and one location alone has a name
    apart : (x y : Location) → SameLocation (names f) (names_in (slice_get Q.funcs f)) x y → In y (assigns_at (item_at Q f j)) → In x (assigns_at (item_at P f i))
    apart x y named = by (item_at P f i) (item_at Q f j) refl refl
      where
        by : (o u : Option Instr) → item_at P f i ≡ o → item_at Q f j ≡ u → In y (assigns_at u) → In x (assigns_at o)
        by o None at bt h = absurd h
        by None (Some b) at bt h = absurd (let e = sym (nothing_at P f i at) ∙ k.same f i j reached points regular ∙ (found Q f j b bt).tree in cc)
        by (Some a) (Some b) at bt h =
            let shares = items_share P Q accepted k.heads.names f i j (names f) refl (N.Matters f i) same a b at bt (λ z m. k.reads f i j a z reached points regular at m) in
            to_left (names f) (names_in (slice_get Q.funcs f)) (Differ-in (slice_get P.funcs f)) x y named (assigns_of a) (assigns_of b) shares.assigns h

  renames : Renames P Q names N
  renames = record {
    heads = k.heads;
    main = main_same P Q k.heads;
    types = main_types_same P Q k.heads;
    sized = λ f. refl;
    start = k.start;
    fresh = λ f vs count a b h. start_agrees P Q k.heads f vs count a b h.0;
    same = same;
    next = k.next;
    labels = k.labels;
    reads = k.reads;
    flows = k.flows;
    apart = λ f i j w x y reached points regular among goes matters named h. apart f i j reached points regular x y named h;
    back = k.back;
    known = k.known;
  }

  pub names_preserve : Preserves (plan P Q N) P Q
  names_preserve = renaming_preserves P Q names N accepted renames

-- a pass that knows nothing keeps what it knows
pub knows_nothing : (P Q : Prog) (N : NamePlan) → ((f i : ℕ) (a : Location) (v : Value) → N.IsKnown f i a v → ⊥) → KeepsKnown P Q N
knows_nothing P Q N none = record {
  start = λ f vs count a v known. absurd (none f 0 a v known);
  learns = λ f i j w a v reached points regular among e known. absurd (none f w.to a v known);
  remembers = λ f w a v walk is among e s sites same known. absurd (none f w.to a v known);
}

pub names_preserving : (names : Prog → Prog → NamePlan) → NamesPreserve names
names_preserving names P Q accepted keeps = names_preserve P Q (names P Q) accepted keeps
