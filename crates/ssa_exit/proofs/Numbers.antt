-- No `get` or `set` is left, and no number of the program grows.
use Rattle.std.proofs.Common.{◌≡◌, ℕ, suc, ◌<◌, Bool, true, false, List, [], ◌∷◌, length, Option, Some, None, refl, sym, ap, subst, ◌∙◌, inl, ⊎_elim, arith}
use Rattle.std.specs.Prelude.{slice_get}
use Rattle.std.proofs.lemmas.List.Elements.{Contains-get_or}
use Rattle.std.proofs.lemmas.List.Folds.{Any-from_list_any}
use Rattle.std.proofs.lemmas.Option.{same_Some}
use Rattle.bril_tree.specs.declared.numbered.Instr.{Instr}
use Rattle.bril_tree.specs.declared.numbered.Instr.TheVariants.{Label, Const, Act}
use Rattle.bril_tree.specs.declared.numbered_function.Func.{Func}
use Rattle.bril_tree.specs.declared.operation.Op.{Op}
use Rattle.bril_tree.specs.declared.operation.Op.TheVariants as op
use Rattle.bril_tree.specs.declared.program.Prog.{Prog}
use Rattle.bril_tree.specs.declared.types.Ty.{Ty}
use Rattle.bril_tree.specs.Accepted.{IsAccepted}
use Rattle.bril_tree.specs.Edge.{Branch, branches_at, branches_from, item_branches, onward}
use Rattle.bril_tree.specs.FrameWords.{IsDepth, names_shadow}
use Rattle.bril_tree.specs.Leaving.{edge_of}
use Rattle.bril_tree.specs.Membership.{In}
use Rattle.bril_tree.specs.Numbered.{item_tree, named, tree_at, variable_names}
use Rattle.bril_tree.specs.Operand.{Location, Variable, Shadow}
use Rattle.bril_tree.specs.Sites.{sites_of}
use Rattle.bril_tree.specs.Step.{code_of, item_at, items_of}
use Rattle.bril_tree.specs.Walk.{end_of}
use Rattle.bril_tree.proofs.Elements.{in_get}
use Rattle.bril_tree.proofs.Members.{in_contains}
use Rattle.bril_tree.proofs.Trees.{found_at, nop-at, nothing_at}
use Rattle.bril_names.proofs.Functions.{Differ-variables}
use Rattle.bril_names.proofs.Naming.{one_number}
use Rattle.pass_edit_laws.specs.walks.Matched.{MatchedWalk, MatchesWalks}
use Rattle.pass_edit_laws.specs.numbers.Numbers.{FunctionWithin, NumbersWithin}
use Rattle.pass_edit_laws.proofs.lemmas.numbers.Arguments.{no-longer-arguments}
use Rattle.pass_edit_laws.proofs.lemmas.numbers.Depths.{depth-within}
use Rattle.pass_edit_laws.proofs.lemmas.numbers.Edges.{edge-back, label-back}
use Rattle.pass_edit_laws.proofs.lemmas.numbers.InPlace.{EdgeBack, branch-back, in_place-entries, in_place-width}
use Rattle.pass_edit_laws.proofs.lemmas.numbers.Items.{IsNamed, unchanged}
use Rattle.pass_edit_laws.proofs.lemmas.numbers.Locations.{IsLocationOf, location-listed, locations-counted, locations-few, locations_of}
use Rattle.pass_edit_laws.proofs.lemmas.numbers.Programs.{by-functions, functions_bound}
use Rattle.ssa_exit.specs.Unssaed.{names_a_shadow}
use Rattle.ssa_exit.proofs.Items.{at-point, copy_there, gives_there, names-long}
use Rattle.ssa_exit.proofs.Points.{Unssaed, Kind, Stays, Gets, Sets, kind, kept, Got, Copied, Undefined, got, Put, Given, Gone, put}
use Rattle.ssa_exit.proofs.Refines.{preserves, unssa_plan}
use Rattle.ssa_exit.proofs.Variables.{StandsFor, extra, of_items, variables}
use Rattle.ssa_exit.proofs.Walks.{Beside, beside, walks, was-reached}

-- ---- no `get` and no `set`

-- items of one tree name shadows alike
names_by : Op → Bool
names_by o = names_a_shadow (Some (Act None None o [] [] []))

names-act : (d : Option ℕ) (ty : Option Ty) (o : Op) (args fns ls : List ℕ) → names_a_shadow (Some (Act d ty o args fns ls)) ≡ names_by o
unfolding names_by
names-act d ty op.Get args fns ls = refl
names-act d ty op.Set args fns ls = refl
names-act d ty _ args fns ls = refl

names-alike : (fs gs V W lP lQ : List (List ℕ)) (a b : Instr) → item_tree fs V lP a ≡ item_tree gs W lQ b → names_a_shadow (Some a) ≡ names_a_shadow (Some b)
names-alike fs gs V W lP lQ (Label l) (Label m) e = refl
names-alike fs gs V W lP lQ (Label l) (Const x s v) e = refl
names-alike fs gs V W lP lQ (Label l) (Act c s u brgs gns ms) e = absurd cc
names-alike fs gs V W lP lQ (Const d ty v) (Label m) e = refl
names-alike fs gs V W lP lQ (Const d ty v) (Const x s w) e = refl
names-alike fs gs V W lP lQ (Const d ty v) (Act c s u brgs gns ms) e = absurd cc
names-alike fs gs V W lP lQ (Act d ty o args fns ls) (Label m) e = absurd cc
names-alike fs gs V W lP lQ (Act d ty o args fns ls) (Const x s w) e = absurd cc
names-alike fs gs V W lP lQ (Act d ty o args fns ls) (Act c s u brgs gns ms) e = let same : o ≡ u = cc in names-act d ty o args fns ls ∙ ap names_by same ∙ sym (names-act c s u brgs gns ms)

module _ (P Q : Prog) (fresh : ℕ → ℕ → List ℕ) (accepted : IsAccepted P) (t : Unssaed P Q fresh) where
  pub leaves-none : (f i : ℕ) → names_a_shadow (item_at Q f i) ≡ false
  leaves-none f i = by (kind P accepted f i)
    where
      stays : (o u : Option Instr) → item_at P f i ≡ o → item_at Q f i ≡ u → names_a_shadow o ≡ false → tree_at P f i ≡ tree_at Q f i → names_a_shadow u ≡ false
      stays o None at bt e same = refl
      stays None (Some b) at bt e same = absurd (let h = sym (nothing_at P f i at) ∙ same ∙ (found_at Q f i b bt).tree in cc)
      stays (Some a) (Some b) at bt e same = sym (names-alike _ _ _ _ _ _ a b (same_Some _ _ (sym (found_at P f i a at).tree ∙ same ∙ (found_at Q f i b bt).tree))) ∙ e

      by : Kind (item_at P f i) → names_a_shadow (item_at Q f i) ≡ false
      by (Stays e) = stays (item_at P f i) (item_at Q f i) refl refl e (kept P Q fresh t f i e)
      by (Gets x ty args fns ls at) = let h = found_at P f i _ at in of h.function h.there (got P Q fresh t f h.function h.there i x ty args fns ls at)
        where
          of : (F : Func) (p : slice_get P.funcs f ≡ Some F) → Got P Q fresh t f F p i x ty → names_a_shadow (item_at Q f i) ≡ false
          of F p (Copied w tree) = ap names_a_shadow (copy_there Q f i (named (variable_names F.vars) x) ty (fresh f x) tree).at
          of F p (Undefined w tree) = ap names_a_shadow (gives_there Q f i (named (variable_names F.vars) x) ty op.Undef [] tree).at
      by (Sets ty x y fns ls at) = let h = found_at P f i _ at in of h.function h.there (put P Q fresh t f h.function h.there i ty x y fns ls at)
        where
          of : (F : Func) (p : slice_get P.funcs f ≡ Some F) → Put P Q fresh t f F p i x y → names_a_shadow (item_at Q f i) ≡ false
          of F p (Given s typed tree) = ap names_a_shadow (copy_there Q f i (fresh f x) s (named (variable_names F.vars) y) tree).at
          of F p (Gone none tree) = ap names_a_shadow (nop-at Q f i tree)

  -- ---- the numbers of a function

  module _ (f : ℕ) (F G : Func) (p : slice_get P.funcs f ≡ Some F) (q : slice_get Q.funcs f ≡ Some G) where
    abbrev V : List (List ℕ)
    V = variable_names F.vars

    abbrev W : List (List ℕ)
    W = variable_names G.vars

    matches : MatchesWalks (unssa_plan P Q fresh accepted t) P Q f F.args G.args
    matches = walks P Q fresh accepted t f F G p q

    -- a label of Q is that of P
    one-label : (i l : ℕ) → slice_get G.code i ≡ Some (Label l) → (m : ℕ) × (slice_get F.code i ≡ Some (Label m)) × (named F.labels m ≡ named G.labels l)
    one-label i l at = by (kind P accepted f i)
      where
        no-act : (d : Option ℕ) (ty : Option Ty) (o : Op) (args fns ls : List ℕ) → item_at Q f i ≡ Some (Act d ty o args fns ls) → (m : ℕ) × (slice_get F.code i ≡ Some (Label m)) × (named F.labels m ≡ named G.labels l)
        no-act d ty o args fns ls bt = absurd (let e = same_Some _ _ (sym (at-point Q f G q i (Label l) at) ∙ bt) in cc)

        by : Kind (item_at P f i) → (m : ℕ) × (slice_get F.code i ≡ Some (Label m)) × (named F.labels m ≡ named G.labels l)
        by (Stays e) = label-back P Q f F G p q i i l (kept P Q fresh t f i e) at
        by (Gets x ty args fns ls here) = of (got P Q fresh t f F p i x ty args fns ls here)
          where
            of : Got P Q fresh t f F p i x ty → (m : ℕ) × (slice_get F.code i ≡ Some (Label m)) × (named F.labels m ≡ named G.labels l)
            of (Copied w tree) = no-act _ _ _ _ _ _ (copy_there Q f i (named V x) ty (fresh f x) tree).at
            of (Undefined w tree) = no-act _ _ _ _ _ _ (gives_there Q f i (named V x) ty op.Undef [] tree).at
        by (Sets ty x y fns ls here) = of (put P Q fresh t f F p i ty x y fns ls here)
          where
            of : Put P Q fresh t f F p i x y → (m : ℕ) × (slice_get F.code i ≡ Some (Label m)) × (named F.labels m ≡ named G.labels l)
            of (Given s typed tree) = no-act _ _ _ _ _ _ (copy_there Q f i (fresh f x) s (named V y) tree).at
            of (Gone none tree) = no-act _ _ _ _ _ _ (nop-at Q f i tree)

    -- an edge of Q is one of P
    edge-same : (v : List Branch) (b : Branch) → (l : MatchedWalk (unssa_plan P Q fresh accepted t) P Q f F.args G.args v) → In b (branches_at (code_of Q f) (end_of v)) → EdgeBack P f (edge_of (sites_of (code_of Q f) v) b).leave b.to
    edge-same v b l among = ⊎_elim regular on (beside P Q fresh accepted t f F G p q (end_of l.walk) (was-reached P Q fresh accepted t f F G p q v l))
      where
        regular : names_a_shadow (item_at P f (end_of l.walk)) ≡ false → EdgeBack P f (edge_of (sites_of (code_of Q f) v) b).leave b.to
        regular e =
            let back = edge-back (unssa_plan P Q fresh accepted t) P Q f F.args G.args (preserves P Q fresh accepted t) v b (record { walk = l.walk; matches = l.matches; regular = e }) among in
            record { edge = back.edge; is = back.is; leaves = back.leaves.0; goes = back.points }

        on : Beside P Q fresh accepted t f F G p q (end_of l.walk) → EdgeBack P f (edge_of (sites_of (code_of Q f) v) b).leave b.to
        on s =
            let i = end_of l.walk in
            let here : item_at Q f (end_of v) ≡ Some s.b = ap (item_at Q f) (sym l.matches.points) ∙ s.now in
            let branch : b ≡ onward (end_of v) = ⊎_elim (λ e. e) (λ n. absurd n)
            (subst (λ n. In b (onward n ∷ [])) l.matches.points (subst (In b) (s.goes (code_of Q f)) (subst (λ n. In b (item_branches (code_of Q f) n s.b)) (sym l.matches.points) (subst (λ o. In b (branches_from (code_of Q f) (end_of v) o)) here among)))) in
            let step : In (onward i) (branches_at (code_of P f) i) = subst (λ o. In (onward i) (branches_from (code_of P f) i o)) (sym s.was) (subst (In (onward i)) (sym (s.went (code_of P f))) (inl refl)) in
            branch-back P f l.walk l.matches.is (onward i) b step refl (ap (λ (w : Branch). w.aborts) branch) (l.matches.points ∙ ap (λ (w : Branch). w.from) (sym branch)) (ap suc l.matches.points ∙ ap (λ (w : Branch). w.to) (sym branch)) (sites_of (code_of Q f) v)

    -- ---- locations: what stands for a shadow takes its place

    abbrev Takes : Location → Location → Type 0
    Takes (Variable y) (Variable x) = (y < length G.vars) × (named V x ≡ named W y)
    Takes (Variable y) (Shadow x) = (y < length G.vars) × (fresh f x ≡ named W y)
    Takes (Shadow y) l = ⊥

    one-name : (y z : ℕ) (name : List ℕ) → y < length G.vars → z < length G.vars → name ≡ named W y → name ≡ named W z → y ≡ z
    one-name y z name low high a b = one_number W (Differ-variables G) y z (omega (arith, names-long Q f G q)) (omega (arith, names-long Q f G q)) (sym a ∙ b)

    one-takes : (l k x : Location) → Takes l x → Takes k x → l ≡ k
    one-takes (Variable y) (Variable z) (Variable x) a b = ap Variable (one-name y z (named V x) a.0 b.0 a.1 b.1)
    one-takes (Variable y) (Variable z) (Shadow x) a b = ap Variable (one-name y z (fresh f x) a.0 b.0 a.1 b.1)
    one-takes (Variable y) (Shadow z) x a b = absurd b
    one-takes (Shadow y) k x a b = absurd a

    names-some : (y : ℕ) (b : Instr) → names_shadow y b ≡ true → names_a_shadow (Some b) ≡ true
    names-some y (Label l) e = absurd cc
    names-some y (Const d ty v) e = absurd cc
    names-some y (Act d ty op.Get args fns ls) e = refl
    names-some y (Act d ty op.Set args fns ls) e = refl
    names-some y (Act d ty _ args fns ls) e = absurd cc

    takes : (l : Location) → IsLocationOf G l → (x : Location) × In x (locations_of F) × Takes l x
    takes (Variable y) low = ⊎_elim old stood (variables P Q fresh accepted t f F G p q y low)
      where
        old : IsNamed unchanged F G y → (x : Location) × In x (locations_of F) × Takes (Variable y) x
        old n = (Variable n.x, location-listed F (Variable n.x) n.low, (low, n.same))

        stood : StandsFor P Q fresh accepted t f F G p q y → (x : Location) × In x (locations_of F) × Takes (Variable y) x
        stood s = (Shadow s.x, location-listed F (Shadow s.x) (s.low, s.used), (low, s.same))
    takes (Shadow y) h =
        let s = Any-from_list_any (names_shadow y) G.code h.1 in
        let k = in_get s.1 G.code (subst (λ b. In b G.code) s.3 (in_contains _ G.code (Contains-get_or G.code s.0 s.1 s.2))) in
        absurd (let e = sym (names-some y s.1 s.4) ∙ ap names_a_shadow (sym (at-point Q f G q k.0 s.1 k.1)) ∙ leaves-none f k.0 in cc)

    function_within : FunctionWithin 0 F G
    function_within = record {
      locations = let few = locations-few G Takes (locations_of F) takes one-takes in let count = locations-counted F in omega (arith, few, count);
      arguments = no-longer-arguments unchanged (extra P Q fresh accepted t f F G p q) F G (of_items P Q fresh accepted t f F G p q);
      depth = λ d e a b. depth-within (unssa_plan P Q fresh accepted t) P Q f F.args G.args matches d e (subst (λ c. IsDepth c d) (sym (ap items_of p)) a) (subst (λ c. IsDepth c e) (sym (ap items_of q)) b);
      entries = in_place-entries (unssa_plan P Q fresh accepted t) P Q f F G p q matches one-label edge-same;
      width = in_place-width (unssa_plan P Q fresh accepted t) P Q f F G p q matches one-label edge-same;
    }

  pub numbers-within : NumbersWithin P Q 0
  numbers-within = functions_bound P Q 0 accepted (by-functions P Q t.heads.names (FunctionWithin 0) (λ f F G p q. function_within f F G p q))
