-- Each walk of the result is matched by the same walk of the program.
use Rattle.std.proofs.Common.{◌≡◌, ◌⊎◌, ℕ, suc, ◌<◌, false, List, [], ◌∷◌, ◌++◌, length, Option, Some, None, refl, sym, ap, subst, ◌∙◌, inl, inr, ⊎_elim, arith}
use Rattle.std.specs.Prelude.{is_some, slice_get}
use Rattle.std.proofs.lemmas.Option.{same_Some}
use Rattle.bril_tree.specs.declared.numbered.Instr.{Instr}
use Rattle.bril_tree.specs.declared.numbered.Instr.TheVariants.{Act}
use Rattle.bril_tree.specs.declared.numbered_function.Func.{Func}
use Rattle.bril_tree.specs.declared.operation.Op.TheVariants as op
use Rattle.bril_tree.specs.declared.program.Prog.{Prog}
use Rattle.bril_tree.specs.declared.types.Ty.{Ty}
use Rattle.bril_tree.specs.Accepted.{IsAccepted}
use Rattle.bril_tree.specs.Assigned.{assigned_of, assigns_of}
use Rattle.bril_tree.specs.Edge.{Branch, branches_at, branches_from, item_branches, onward}
use Rattle.bril_tree.specs.Membership.{In}
use Rattle.bril_tree.specs.Numbered.{named, names_in, nop, variable_names}
use Rattle.bril_tree.specs.Operand.{Location, Variable, Shadow, reads_of}
use Rattle.bril_tree.specs.Sites.{Keeps, item_change}
use Rattle.bril_tree.specs.Step.{code_of, item_at}
use Rattle.bril_tree.specs.Walk.{IsReached, IsWalk, end_of}
use Rattle.bril_tree.proofs.Acceptance.{walks_of}
use Rattle.bril_tree.proofs.Assignments.{went_on}
use Rattle.bril_tree.proofs.Trees.{nop-at}
use Rattle.bril_names.proofs.Naming.{one_number}
use Rattle.pass_edit_laws.specs.plan.Plan.{Plan}
use Rattle.pass_edit_laws.specs.walks.Matched.{Covers, IsHarmless, MatchedWalk, MatchesWalks, WalksMatch}
use Rattle.pass_edit_laws.proofs.lemmas.walks.Walks.{regular_branch_matched}
use Rattle.pass_edit_laws.specs.names.Named.{SameLocation}
use Rattle.pass_edit_laws.proofs.lemmas.names.Points.{Differ-in, found}
use Rattle.pass_edit_laws.proofs.lemmas.acceptance.Alone.{both_alone}
use Rattle.pass_edit_laws.proofs.lemmas.acceptance.Heads.{start-covers, start-shadow}
use Rattle.ssa_exit.specs.Unssaed.{names_a_shadow}
use Rattle.ssa_exit.proofs.Items.{CopyThere, copy_there, names-long}
use Rattle.ssa_exit.proofs.Points.{Unssaed, Kind, Stays, Gets, Sets, kind, Got, Copied, Undefined, got, Put, Given, Gone, put, read-assigned, reached-written}
use Rattle.ssa_exit.proofs.Refines.{preserves, unssa_plan}
use Rattle.ssa_exit.proofs.Variables.{none-stands}

module _ (P Q : Prog) (fresh : ℕ → ℕ → List ℕ) (accepted : IsAccepted P) (t : Unssaed P Q fresh) (f : ℕ) (F G : Func) (p : slice_get P.funcs f ≡ Some F) (q : slice_get Q.funcs f ≡ Some G) where
  abbrev V : List (List ℕ)
  V = names_in (slice_get P.funcs f)

  abbrev W : List (List ℕ)
  W = names_in (slice_get Q.funcs f)

  abbrev M : Plan
  M = unssa_plan P Q fresh accepted t

  abbrev Match : Location → Location → Type 0
  Match = M.LocationsMatch f 0 0

  -- what the result has where the program is at a `get` or a `set`: an item that goes on, too, assigns what matches, and reads
  -- what matches
  pub record Beside (i : ℕ) : Type 0 where
    pub a : Instr
    pub b : Instr
    pub was : item_at P f i ≡ Some a
    pub now : item_at Q f i ≡ Some b
    pub went : (code : List Instr) → item_branches code i a ≡ onward i ∷ []
    pub goes : (code : List Instr) → item_branches code i b ≡ onward i ∷ []
    pub kept : item_change (Some a) false ≡ Keeps
    pub keeps : item_change (Some b) false ≡ Keeps
    pub covers : (xs ys : List Location) → Covers Match xs ys → Covers Match (assigns_of a ++ xs) (assigns_of b ++ ys)
    pub asks : IsHarmless (λ y. (x : Location) × Match x y × In x (reads_of a)) (Some b)

  names-in : variable_names F.vars ≡ V
  names-in = sym (ap names_in p)

  module _ (i : ℕ) where
    of-get : IsReached (code_of P f) i → (x : ℕ) (ty : Ty) (args fns ls : List ℕ) → item_at P f i ≡ Some (Act (Some x) (Some ty) op.Get args fns ls) → Beside i
    of-get reached x ty args fns ls at = by (got P Q fresh t f F p i x ty args fns ls at)
      where
        low : x < length V
        low = (found P f i _ at).range.variables.0

        by : Got P Q fresh t f F p i x ty → Beside i
        by (Undefined w tree) = absurd (let h = sym w ∙ reached-written P Q fresh t f F p i accepted reached x (Some ty) args fns ls at in cc)
        by (Copied w tree) = record {
          a = Act (Some x) (Some ty) op.Get args fns ls;
          b = Act (Some c.dest) (Some ty) op.Id (c.source ∷ []) [] [];
          was = at;
          now = c.at;
          went = λ code. refl;
          goes = λ code. refl;
          kept = refl;
          keeps = refl;
          covers = λ xs ys h u v m k. ⊎_elim (λ e. inl (one u v m e)) (λ j. inr (h u v m j)) k;
          asks = record { there = refl; alone = refl; closed = refl; reads = λ b same y among. (Shadow x, subst (Match (Shadow x)) (sym (read b same y among)) (inr (low, c.source_in, c.source_is)), inl refl) };
        }
          where
            c : CopyThere Q f i (named (variable_names F.vars) x) ty (fresh f x)
            c = copy_there Q f i (named (variable_names F.vars) x) ty (fresh f x) tree

            read : (b : Instr) → Some (Act (Some c.dest) (Some ty) op.Id (c.source ∷ []) [] []) ≡ Some b → (y : Location) → In y (reads_of b) → y ≡ Variable c.source
            read b same y among = ⊎_elim (λ e. e) (λ n. absurd n) (subst (λ z. In y (reads_of z)) (sym (same_Some _ b same)) among)

            one : (u v : Location) → Match u v → u ≡ Variable x → v ≡ Variable c.dest
            one (Variable z) (Variable v) (inl h) e =
                let same : z ≡ x = cc in
                ap Variable (one_number W (Differ-in (slice_get Q.funcs f)) v c.dest h.0.1 c.dest_in (sym h.0.2 ∙ ap (named V) same ∙ ap (λ l. named l x) (sym names-in) ∙ sym c.dest_is))
            one (Variable z) (Shadow v) (inl h) e = absurd h.0
            one (Variable z) v (inr h) e = absurd h
            one (Shadow z) v m e = absurd cc

    of-set : (ty : Option Ty) (x y : ℕ) (fns ls : List ℕ) → item_at P f i ≡ Some (Act None ty op.Set (x ∷ y ∷ []) fns ls) → Beside i
    of-set ty x y fns ls at = by (put P Q fresh t f F p i ty x y fns ls at)
      where
        range : (x < length V) × (y < length V)
        range = let b = (found P f i _ at).range.variables in (b.0, b.1.0)

        by : Put P Q fresh t f F p i x y → Beside i
        by (Given s typed tree) = record {
          a = Act None ty op.Set (x ∷ y ∷ []) fns ls;
          b = Act (Some c.dest) (Some s) op.Id (c.source ∷ []) [] [];
          was = at;
          now = c.at;
          went = λ code. refl;
          goes = λ code. refl;
          kept = refl;
          keeps = refl;
          covers = λ xs ys h u v m k. ⊎_elim (λ e. inl (one u v m e)) (λ j. inr (h u v m j)) k;
          asks = record {
            there = refl;
            alone = refl;
            closed = refl;
            reads = λ b same z among. (Variable y, subst (Match (Variable y)) (sym (read b same z among)) (inl ((range.1, c.source_in, ap (λ l. named l y) (sym names-in) ∙ sym c.source_is), tt)), inl refl);
          };
        }
          where
            c : CopyThere Q f i (fresh f x) s (named (variable_names F.vars) y)
            c = copy_there Q f i (fresh f x) s (named (variable_names F.vars) y) tree

            read : (b : Instr) → Some (Act (Some c.dest) (Some s) op.Id (c.source ∷ []) [] []) ≡ Some b → (z : Location) → In z (reads_of b) → z ≡ Variable c.source
            read b same z among = ⊎_elim (λ e. e) (λ n. absurd n) (subst (λ d. In z (reads_of d)) (sym (same_Some _ b same)) among)

            one : (u v : Location) → Match u v → u ≡ Shadow x → v ≡ Variable c.dest
            one (Variable z) v m e = absurd cc
            one (Shadow z) (Variable v) (inl h) e = absurd h.0
            one (Shadow z) (Shadow v) (inl h) e = absurd h.1
            one (Shadow z) (Shadow v) (inr h) e = absurd h
            one (Shadow z) (Variable v) (inr h) e =
                let same : z ≡ x = cc in
                ap Variable (one_number W (Differ-in (slice_get Q.funcs f)) v c.dest h.1 c.dest_in (h.2 ∙ ap (fresh f) same ∙ sym c.dest_is))
        by (Gone none tree) = record {
          a = Act None ty op.Set (x ∷ y ∷ []) fns ls;
          b = nop;
          was = at;
          now = nop-at Q f i tree;
          went = λ code. refl;
          goes = λ code. refl;
          kept = refl;
          keeps = refl;
          covers = λ xs ys h u v m k. ⊎_elim (λ e. absurd (no u v m e)) (λ j. h u v m j) k;
          asks = record { there = refl; alone = refl; closed = refl; reads = λ b same z among. absurd (subst (λ d. In z (reads_of d)) (sym (same_Some nop b same)) among) };
        }
          where
            no : (u v : Location) → Match u v → u ≡ Shadow x → ⊥
            no (Variable z) v m e = cc
            no (Shadow z) (Variable v) (inl h) e = h.0
            no (Shadow z) (Shadow v) (inl h) e = h.1
            no (Shadow z) (Shadow v) (inr h) e = h
            no (Shadow z) (Variable v) (inr h) e =
                let same : z ≡ x = cc in
                let size : length V ≡ length F.vars = ap length (sym names-in) ∙ names-long P f F p in
                none-stands P Q fresh accepted t f F G p q x (omega (arith, size, range.0)) none v (subst (λ n. v < n) (ap (λ o. length (names_in o)) q ∙ names-long Q f G q) h.1) (sym (ap (λ o. named (names_in o) v) q) ∙ h.2 ∙ ap (fresh f) same)

    pub beside : IsReached (code_of P f) i → (names_a_shadow (item_at P f i) ≡ false) ⊎ Beside i
    beside reached = by (kind P accepted f i)
      where
        by : Kind (item_at P f i) → (names_a_shadow (item_at P f i) ≡ false) ⊎ Beside i
        by (Stays e) = inl e
        by (Gets x ty args fns ls at) = inr (of-get reached x ty args fns ls at)
        by (Sets ty x y fns ls at) = inr (of-set ty x y fns ls at)

  -- ---- walks

  abbrev Matched : List Branch → Type 0
  Matched v = MatchedWalk M P Q f F.args G.args v

  -- where the program is at the end of a walk that matches
  pub was-reached : (v : List Branch) → (l : Matched v) → IsReached (code_of P f) (end_of l.walk)
  was-reached v l = record { walk = l.walk; is = l.matches.is; ends = refl }

  goes_on : (v : List Branch) (b : Branch) → IsWalk (code_of Q f) v → Matched v → In b (branches_at (code_of Q f) (end_of v)) → Matched (b ∷ v)
  goes_on v b is l among =
      ⊎_elim (λ e. regular_branch_matched M P Q f F.args G.args accepted (preserves P Q fresh accepted t) v b (record { walk = l.walk; matches = l.matches; regular = e }) among) on (beside (end_of l.walk) (was-reached v l))
    where
      on : Beside (end_of l.walk) → Matched (b ∷ v)
      on s =
          let i = end_of l.walk in
          let here : item_at Q f (end_of v) ≡ Some s.b = ap (item_at Q f) (sym l.matches.points) ∙ s.now in
          let onwards : item_branches (code_of Q f) (end_of v) s.b ≡ onward (end_of v) ∷ [] = subst (λ n. item_branches (code_of Q f) n s.b ≡ onward n ∷ []) l.matches.points (s.goes (code_of Q f)) in
          let branch : b ≡ onward (end_of v) = ⊎_elim (λ e. e) (λ n. absurd n) (subst (In b) onwards (subst (λ o. In b (branches_from (code_of Q f) (end_of v) o)) here among)) in
          let mine = went_on (code_of P f) F.args l.walk s.a l.matches.is s.was (subst (In (onward i)) (sym (s.went (code_of P f))) (inl refl)) s.kept in
          let theirs = went_on (code_of Q f) G.args v s.b is here (subst (In (onward (end_of v))) (sym onwards) (inl refl)) s.keeps in
          record {
            walk = onward i ∷ l.walk;
            matches = subst (λ w. WalksMatch M P Q f F.args G.args (onward i ∷ l.walk) (w ∷ v)) (sym branch)
                (both_alone M P Q f F.args G.args l.walk v l.matches s.a s.b mine theirs (ap suc l.matches.points) (s.covers (assigned_of (code_of P f) F.args l.walk).locations (assigned_of (code_of Q f) G.args v).locations l.matches.locations));
          }

  abbrev Assured : List Branch → Location → Type 0
  Assured w y = (x : Location) × Match x y × In x (assigned_of (code_of P f) F.args w).locations

  -- a copy asks of walks what the program's item asks
  settled : (v : List Branch) → (l : Matched v) → (names_a_shadow (item_at P f (end_of l.walk)) ≡ false) ⊎ IsHarmless (Assured l.walk) (item_at Q f (end_of v))
  settled v l = ⊎_elim inl (λ s. inr (by s)) (beside (end_of l.walk) (was-reached v l))
    where
      by : Beside (end_of l.walk) → IsHarmless (Assured l.walk) (item_at Q f (end_of v))
      by s = subst (IsHarmless (Assured l.walk)) (sym s.now ∙ ap (item_at Q f) l.matches.points) (record {
        there = s.asks.there;
        alone = s.asks.alone;
        closed = s.asks.closed;
        reads = λ b same y among.
            let r = s.asks.reads b same y among in
            (r.0, r.1, read-assigned (code_of P f) F.args (is_some F.ret) (walks_of P accepted f F p) l.walk l.matches.is s.a s.was r.0 r.2);
      })

  start : Matched []
  start = record { walk = []; matches = record { is = tt; points = refl; locations = λ a b h i. covers a b h i; saved = tt } }
    where
      covers : Covers Match (assigned_of (code_of P f) F.args []).locations (assigned_of (code_of Q f) G.args []).locations
      covers (Variable x) b (inr h) i = absurd h
      covers (Shadow x) b h i = absurd (start-shadow F.args x i)
      covers (Variable x) b (inl h) i = start-covers P Q t.heads f F G p q (Variable x) b (subst (λ o. SameLocation (variable_names F.vars) (names_in o) (Variable x) b) q (subst (λ o. SameLocation (names_in o) W (Variable x) b) p h.0)) i

  pub walks : MatchesWalks M P Q f F.args G.args
  walks = record {
    old = λ j. j;
    start = start;
    branches = goes_on;
    drawn = λ v l. (l, l.matches.points);
    settled = λ v l e. settled v l;
    once = λ s u w b r c k. sym b ∙ c;
  }
