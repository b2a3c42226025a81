-- A program with `get`s and `set`s put in refines the one that it is made from.
use Rattle.std.proofs.Common.{◌≡◌, ◌⊎◌, ℕ, zero, suc, ◌-◌, ◌<◌, ◌≤◌, Bool, true, false, List, [], ◌∷◌, length, map, Option, Some, None, refl, sym, ap, subst, ◌∙◌, inl, inr, ⊎_elim, arith}
use Rattle.std.specs.Prelude.{slice_get}
use Rattle.std.specs.Option.{option_map}
use Rattle.std.proofs.lemmas.Option.{same_Some}
use Rattle.simulation.specs.System.{after}
use Rattle.simulation.proofs.After.{after-suc}
use Rattle.bril_tree.specs.declared.function_tree.Item.TheVariants as item
use Rattle.bril_tree.specs.declared.limits.Limits.{Limits}
use Rattle.bril_tree.specs.declared.numbered.Instr.{Instr}
use Rattle.bril_tree.specs.declared.numbered.Instr.TheVariants.{Label, Const, Act}
use Rattle.bril_tree.specs.declared.numbered_function.Func.{Func}
use Rattle.bril_tree.specs.declared.operation.Op.TheVariants as op
use Rattle.bril_tree.specs.declared.program.Prog.{Prog}
use Rattle.bril_tree.specs.declared.types.Ty.{Ty}
use Rattle.bril_tree.specs.Accepted.{IsAccepted}
use Rattle.bril_tree.specs.Assigned.{assigns_of, assigns_at}
use Rattle.bril_tree.specs.Edge.{Branch, branches_at, branches_from, item_branches, onward, jump, abort, leads_away}
use Rattle.bril_tree.specs.Numbered.{named, item_tree}
use Rattle.bril_tree.specs.Operand.{Location, Variable, Shadow, dest_of}
use Rattle.bril_tree.specs.Run.{Refines}
use Rattle.bril_tree.specs.State.{Frame, State}
use Rattle.bril_tree.specs.Step.{items_of, code_of, item_at, point_of, step}
use Rattle.bril_tree.specs.Walk.{IsReached, end_of}
use Rattle.bril_tree.specs.Membership.{In}
use Rattle.bril_tree.proofs.Branches.{item-onward}
use Rattle.bril_tree.proofs.Members.{contains_in}
use Rattle.bril_names.specs.Range.{IsInRange}
use Rattle.bril_tree.specs.Numbered.{names_of_functions}
use Rattle.bril_names.proofs.Functions.{Differ-functions}
use Rattle.pass_edit_laws.specs.plan.Plan.{Plan, ValuesMatch, StaysMatched, EdgesMatch, StepsMatch, Preserves, StatesMatch}
use Rattle.pass_edit_laws.proofs.lemmas.steps.Shapes.{shaped_here}
use Rattle.bril_tree.proofs.Shapes.{dest_none}
use Rattle.pass_edit_laws.proofs.lemmas.steps.Steps.{regular_steps_match}
use Rattle.pass_edit_laws.proofs.lemmas.steps.Moves.{result_moves}
use Rattle.pass_edit_laws.proofs.lemmas.steps.Moves.{both_move}
use Rattle.pass_edit_laws.specs.names.Named.{SameName}
use Rattle.bril_tree.specs.Numbered.{names_in, tree_at}
use Rattle.pass_edit_laws.proofs.lemmas.names.Heads.{main_same, main_types_same, start_agrees}
use Rattle.pass_edit_laws.specs.steps.Refinement.{Progress, BothMove}
use Rattle.pass_edit_laws.proofs.lemmas.steps.Refinement.{plan_refines}
use Rattle.pass_edit_laws.proofs.lemmas.names.Points.{Found, label_found, label_once, Differ-in}
use Rattle.pass_edit_laws.proofs.lemmas.names.Points.{found}
use Rattle.pass_edit_laws.proofs.lemmas.names.Branches.{branches-zip}
use Rattle.bril_tree.proofs.Trees.{nothing_at}
use Rattle.bril_names.proofs.Naming.{one_number}
use Rattle.bril_tree.specs.FunctionForm.{listed}
use Rattle.bril_tree.specs.Shape.{is_shaped, shape_of}
use Rattle.bril_tree.specs.Numbered.{nop_item}
use Rattle.ssa_laws.specs.inserted_copies.Inserted.{is_copy, is_jump, IsNamed, destination, source, sources, renamed, renamed_point, renamed_at, low, held, inserted_plan, AreInserted}
use Rattle.ssa_laws.proofs.lemmas.inserted_copies.Copies.{ran, copy-changes, copy-branches, copy-keeps, ran-value}
use Rattle.ssa_laws.proofs.lemmas.inserted_copies.Renamed.{Matches, item-matches}

-- ---- where control goes on the item is no jump, and else its branches are those of a jump

no-jump : (a : Instr) → leads_away (Some a) ≡ false → is_jump (Some a) ≡ false
no-jump (Label l) e = refl
no-jump (Const d ty v) e = refl
no-jump (Act d ty op.Jmp args fns ls) e = absurd cc
no-jump (Act d ty op.Br args fns ls) e = absurd cc
no-jump (Act d ty _ args fns ls) e = refl

a-jump : (code : List Instr) (i : ℕ) (a : Instr) (w : Branch) → leads_away (Some a) ≡ true → In w (item_branches code i a) → is_jump (Some a) ≡ true
a-jump code i (Label l) w e h = absurd cc
a-jump code i (Const d ty v) w e h = absurd cc
a-jump code i (Act d ty op.Jmp args fns ls) w e h = refl
a-jump code i (Act d ty op.Br args fns ls) w e h = refl
a-jump code i (Act d ty op.Ret args fns ls) w e h = absurd h
a-jump code i (Act d ty _ args fns ls) w e h = absurd cc

-- ---- trees under other names

pub renamed-found : (P : Prog) (f i : ℕ) (a : Instr) (r : ℕ → List ℕ) (w : List ℕ) → item_at P f i ≡ Some a → (F : Func) → slice_get P.funcs f ≡ Some F → renamed_at P r w f i ≡ Some (renamed (names_of_functions P.funcs) F.labels r w a)
renamed-found P f i a r w at F there =
    let here : slice_get F.code i ≡ Some a = ap (λ o. slice_get (items_of o) i) (sym there) ∙ at in
    ap (λ o. renamed_point (names_of_functions P.funcs) r w o i) there ∙ ap (option_map (renamed (names_of_functions P.funcs) F.labels r w)) here

pub renamed-none : (P : Prog) (f i : ℕ) (r : ℕ → List ℕ) (w : List ℕ) → item_at P f i ≡ None → renamed_at P r w f i ≡ None
renamed-none P f i r w at = by (slice_get P.funcs f) at
  where
    by : (o : Option Func) → slice_get (items_of o) i ≡ None → renamed_point (names_of_functions P.funcs) r w o i ≡ None
    by None e = refl
    by (Some F) e = ap (option_map (renamed (names_of_functions P.funcs) F.labels r w)) e

-- a `nop` in the tree
pub record NopThere (X : Prog) (f i : ℕ) : Type 0 where
  pub dest : Option ℕ
  pub ty : Option Ty
  pub args : List ℕ
  pub funcs : List ℕ
  pub labels : List ℕ
  pub at : item_at X f i ≡ Some (Act dest ty op.Nop args funcs labels)
  pub none : args ≡ []

pub nop_there : (X : Prog) (f i : ℕ) → tree_at X f i ≡ Some nop_item → NopThere X f i
nop_there X f i tree = by (item_at X f i) refl
  where
    empty : (args : List ℕ) → map (named (names_in (slice_get X.funcs f))) args ≡ [] → args ≡ []
    empty [] e = refl
    empty (x ∷ args) e = absurd cc

    by_item : (a : Instr) → item_at X f i ≡ Some a → (h : Found X f i a) → item_tree (names_of_functions X.funcs) (names_in (slice_get X.funcs f)) h.function.labels a ≡ nop_item → NopThere X f i
    by_item (Label l) at h e = absurd cc
    by_item (Const d ty v) at h e = absurd cc
    by_item (Act d ty o args fns ls) at h e =
        let eo : o ≡ op.Nop = cc in
        let ea : map (named (names_in (slice_get X.funcs f))) args ≡ [] = cc in
        record { dest = d; ty = ty; args = args; funcs = fns; labels = ls; at = at ∙ ap (λ z. Some (Act d ty z args fns ls)) eo; none = empty args ea }

    by : (o : Option Instr) → item_at X f i ≡ o → NopThere X f i
    by None at = absurd (let h = sym (nothing_at X f i at) ∙ tree in cc)
    by (Some a) at = let h = found X f i a at in by_item a at h (same_Some _ _ (sym h.tree ∙ tree))

module _ (P Q : Prog) (home : ℕ → ℕ → ℕ) (base : (f i : ℕ) → Location → Location → Type 0) (c : ℕ) (accepted : IsAccepted P) (t : AreInserted P Q home base c) where
  abbrev M : Plan
  M = inserted_plan P Q home base

  abbrev H : (f i j : ℕ) → Location → Location → Type 0
  H = held P Q home base

  -- ---- what is held at home is the base

  pub at_home : (f i : ℕ) (a b : Location) → base f i a b → H f i (home f i) a b
  at_home f i a b h = let none : home f i - home f i ≡ 0 = omega arith in (b, h, sym (ap (λ n. sources Q f n (home f i) b) none))

  from_home : (f i : ℕ) (a b : Location) → H f i (home f i) a b → base f i a b
  from_home f i a b h = let none : home f i - home f i ≡ 0 = omega arith in subst (base f i a) (sym (h.2 ∙ ap (λ n. sources Q f n (home f i) h.0) none)) h.1

  -- one copy less to look through
  pub one_less : (f i j : ℕ) (a b : Location) → j < home f i → H f i (suc j) a b → H f i j a (source (item_at Q f j) b)
  one_less f i j a b less h =
      let one : suc (home f i - suc j) ≡ home f i - j = omega arith in
      (h.0, h.1, ap (source (item_at Q f j)) h.2 ∙ ap (λ n. sources Q f n j h.0) one)

  kept-at_home : (f i : ℕ) (ps qs : List Location) (a b : Location) → StaysMatched ps qs (base f i) a b → StaysMatched ps qs (H f i (home f i)) a b
  kept-at_home f i ps qs a b (inl k) = inl k
  kept-at_home f i ps qs a b (inr k) = inr (k.0, k.1, at_home f i a b k.2)

  -- ---- items

  module _ (f i : ℕ) (reached : IsReached (code_of P f) i) (plain : is_copy (item_at P f i) ≡ false) where
    abbrev j : ℕ
    j = home f i

    module _ (a b : Instr) (at : item_at P f i ≡ Some a) (bt : item_at Q f j ≡ Some b) where
      abbrev fa : Found P f i a
      fa = found P f i a at

      abbrev fb : Found Q f j b
      fb = found Q f j b bt

      abbrev fs : List (List ℕ)
      fs = names_of_functions P.funcs

      abbrev W : List (List ℕ)
      W = names_in (slice_get Q.funcs f)

      abbrev V : List (List ℕ)
      V = names_in (slice_get P.funcs f)

      copies-not : is_copy (Some a) ≡ false
      copies-not = subst (λ o. is_copy o ≡ false) at plain

      matches : Matches fs V W fa.function.labels fb.function.labels (Differ-functions P) (t.reads f i) (t.writes f i) (H f i j) a b
      matches =
          let ns = t.heads.names in
          let range : IsInRange (length fs) (length W) (length fb.function.labels) b = subst (λ n. IsInRange (length n) (length W) (length fb.function.labels) b) (sym ns) fb.range in
          let tree : tree_at Q f j ≡ Some (item_tree fs W fb.function.labels b) = fb.tree ∙ ap (λ n. Some (item_tree n W fb.function.labels b)) (sym ns) in
          let same : renamed fs fa.function.labels (t.reads f i) (t.writes f i) a ≡ item_tree fs W fb.function.labels b =
          same_Some _ _ (sym (renamed-found P f i a (t.reads f i) (t.writes f i) at fa.function fa.there) ∙ t.same f i reached plain ∙ tree) in
          item-matches fs V W fa.function.labels fb.function.labels (Differ-functions P) (t.reads f i) (t.writes f i) (H f i j) a b copies-not same fa.range range
          (λ x y h l e. at_home f i (Variable x) (Variable y) (t.read f i a x y reached at copies-not h l e))

      abbrev among : Branch → Type 0
      among w = In w (item_branches (code_of P f) i a)

      at_branch : (w : Branch) → among w → In w (branches_at (code_of P f) i)
      at_branch w h = subst (λ o. In w (branches_from (code_of P f) i o)) (sym at) h

      branch_reached : (w : Branch) → among w → IsReached (code_of P f) w.to
      branch_reached w h = record {
        walk = w ∷ reached.walk;
        is = (contains_in w (branches_at (code_of P f) (end_of reached.walk)) (subst (λ n. In w (branches_at (code_of P f) n)) (sym reached.ends) (at_branch w h)), reached.is);
        ends = refl;
      }

      -- what both assign, by names
      assigns-plain : (x : Location) → In x (assigns_of a) → (z : ℕ) × (dest_of a ≡ Some z)
      assigns-plain x h = by a copies-not x h
        where
          by_dest : (d : Option ℕ) (x : Location) → In x (map Variable (listed d)) → (z : ℕ) × (d ≡ Some z)
          by_dest None x h = absurd h
          by_dest (Some z) x h = (z, refl)

          by : (a : Instr) → is_copy (Some a) ≡ false → (x : Location) → In x (assigns_of a) → (z : ℕ) × (dest_of a ≡ Some z)
          by (Label l) c x h = absurd h
          by (Const d ty v) c x h = (d, refl)
          by (Act d ty op.Set args fns ls) c x h = absurd cc
          by (Act d ty _ args fns ls) c x h = by_dest d x h

      is_named : (y : ℕ) (b' : Location) (m : List ℕ) → y < length W → named W y ≡ m → IsNamed W b' m → b' ≡ Variable y
      is_named y (Variable z) m l e h = ap Variable (one_number W (Differ-in (slice_get Q.funcs f)) z y h.0 l (h.1 ∙ sym e))
      is_named y (Shadow z) m l e h = absurd h

      both-kept : (x y : Location) → (In x (assigns_of a) × IsNamed W y (t.writes f i)) ⊎ ((In x (assigns_of a) → ⊥) × ((z : ℕ) → dest_of a ≡ Some z → IsNamed W y (t.writes f i) → ⊥) × base f i x y) → StaysMatched (assigns_of a) (assigns_of b) (H f i j) x y
      both-kept x y (inl k) =
          let z = assigns-plain x k.0 in
          let s = matches.some z.0 z.1 in
          inl (k.0, subst (In y) (sym s.1) (inl (is_named s.0 y (t.writes f i) s.2 s.3 k.1)))
      both-kept x y (inr k) = inr (k.0, not_in (dest_of a) refl, at_home f i x y k.2)
        where
          not_in : (d : Option ℕ) → dest_of a ≡ d → In y (assigns_of b) → ⊥
          not_in None e h = subst (In y) (matches.none e) h
          not_in (Some z) e h =
              let s = matches.some z e in
              ⊎_elim (λ (q : y ≡ Variable s.0). k.1 z e (subst (λ l. IsNamed W l (t.writes f i)) (sym q) (s.2, s.3))) (λ n. n) (subst (In y) s.1 h)

      on : is_jump (Some a) ≡ false → among (onward i) → EdgesMatch M P Q f i j (Some a) (Some b) (onward i) (onward j)
      on leap h = record {
        aborts = refl;
        points = (omega arith, t.order f (suc i));
        kept = λ _ x y matches. both-kept x y (subst (λ o. (In x (assigns_at o) × IsNamed W y (t.writes f i)) ⊎ ((In x (assigns_at o) → ⊥) × ((z : ℕ) → destination o ≡ Some z → IsNamed W y (t.writes f i) → ⊥) × base f i x y)) at
            (t.next f i x y reached plain (ap is_jump at ∙ leap) (at_branch (onward i) h) matches));
        back = λ wb. absurd (let e : false ≡ true = wb in cc);
        learns = λ _ x v known. absurd known;
        remembers = λ _ walk is ends s sites e x v known. absurd known;
      }

      -- an item that goes to its labels assigns nothing
      leaping-none : is_jump (Some a) ≡ true → dest_of a ≡ None
      leaping-none leap = let s = shaped_here P accepted f i a at in by a s.ret s.shaped leap
        where
          by : (a : Instr) (ret : Bool) → is_shaped ret a ≡ true → is_jump (Some a) ≡ true → dest_of a ≡ None
          by (Label l) ret s e = absurd cc
          by (Const d ty v) ret s e = absurd cc
          by (Act d ty op.Jmp args fns ls) ret s e = dest_none (shape_of ret op.Jmp) d (length args) (length fns) (length ls) refl s
          by (Act d ty op.Br args fns ls) ret s e = dest_none (shape_of ret op.Br) d (length args) (length fns) (length ls) refl s
          by (Act d ty _ args fns ls) ret s e = absurd cc

      none-kept : is_jump (Some a) ≡ true → (x y : Location) → base f i x y → StaysMatched (assigns_of a) (assigns_of b) (H f i j) x y
      none-kept leap x y h =
          let none = leaping-none leap in
          inr ((λ k. let z = assigns-plain x k in let n : None ≡ Some z.0 = sym none ∙ z.1 in cc), (λ k. subst (In y) (matches.none none) k), at_home f i x y h)

      -- labels of one name
      record Labelled (l m : ℕ) : Type 0 where
        name : List ℕ
        there : tree_at P f (point_of l (code_of P f)) ≡ Some (item.Label name)
        stands : point_of m (code_of Q f) ≡ home f (point_of l (code_of P f))

      labelled : (l m : ℕ) (w : Branch) → SameName fa.function.labels fb.function.labels l m → among w → w.to ≡ point_of l (code_of P f) → Labelled l m
      labelled l m w s h to = record { name = named fa.function.labels l; there = here; stands = label_once Q f (point_of m (code_of Q f)) (home f k) (named fa.function.labels l) other (by (item_at P f k) refl) }
        where
          k : ℕ
          k = point_of l (code_of P f)

          here : tree_at P f k ≡ Some (item.Label (named fa.function.labels l))
          here = label_found P f fa.function l fa.there s.0

          other : tree_at Q f (point_of m (code_of Q f)) ≡ Some (item.Label (named fa.function.labels l))
          other = label_found Q f fb.function m fb.there s.1 ∙ ap (λ n. Some (item.Label n)) (sym s.2)

          k_reached : IsReached (code_of P f) k
          k_reached = subst (IsReached (code_of P f)) to (branch_reached w h)

          by_item : (d : Instr) → item_at P f k ≡ Some d → (g : Found P f k d) → item_tree (names_of_functions P.funcs) (names_in (slice_get P.funcs f)) g.function.labels d ≡ item.Label (named fa.function.labels l) → tree_at Q f (home f k) ≡ Some (item.Label (named fa.function.labels l))
          by_item (Label n) dt g e = sym (t.same f k k_reached (ap is_copy dt)) ∙ renamed-found P f k (Label n) (t.reads f k) (t.writes f k) dt g.function g.there ∙ ap Some e
          by_item (Const d ty v) dt g e = absurd cc
          by_item (Act d ty o args fns ls) dt g e = absurd cc

          by : (o : Option Instr) → item_at P f k ≡ o → tree_at Q f (home f k) ≡ Some (item.Label (named fa.function.labels l))
          by None e = absurd (let n = sym (nothing_at P f k e) ∙ here in cc)
          by (Some d) e = let g = found P f k d e in by_item d e g (same_Some _ _ (sym g.tree ∙ here))

      beside_home : (k n : ℕ) → n ≡ home f k → (low P Q home base f k ≤ n) × (n ≤ home f k)
      beside_home k n e = let o = t.order f k in (subst (λ z. low P Q home base f k ≤ z) (sym e) o, omega (arith, e))

      base_there : (k n : ℕ) (x y : Location) → n ≡ home f k → H f k n x y → base f k x y
      base_there k n x y e h = from_home f k x y (subst (λ z. H f k z x y) e h)

      jumping : is_jump (Some a) ≡ true → (l m : ℕ) → SameName fa.function.labels fb.function.labels l m → among (jump (code_of P f) i l) → EdgesMatch M P Q f i j (Some a) (Some b) (jump (code_of P f) i l) (jump (code_of Q f) j m)
      jumping leap l m s h =
          let g = labelled l m (jump (code_of P f) i l) s h refl in
          record {
            aborts = refl;
            points = beside_home (point_of l (code_of P f)) (point_of m (code_of Q f)) g.stands;
            kept = λ _ x y matches. none-kept leap x y
                (t.jumps f i (jump (code_of P f) i l) g.name x y reached (ap is_jump at ∙ leap) (at_branch (jump (code_of P f) i l) h) g.there (base_there (point_of l (code_of P f)) (point_of m (code_of Q f)) x y g.stands matches));
            back = λ wb. absurd (let e : false ≡ true = wb in cc);
            learns = λ _ x v known. absurd known;
            remembers = λ _ walk is ends s' sites e x v known. absurd known;
          }

      aborting : (l m : ℕ) → SameName fa.function.labels fb.function.labels l m → among (abort (code_of P f) i l) → EdgesMatch M P Q f i j (Some a) (Some b) (abort (code_of P f) i l) (abort (code_of Q f) j m)
      aborting l m s h =
          let g = labelled l m (abort (code_of P f) i l) s h refl in
          record {
            aborts = refl;
            points = beside_home (point_of l (code_of P f)) (point_of m (code_of Q f)) g.stands;
            kept = λ wb. absurd (let e : true ≡ false = wb in cc);
            back = λ _ walk is ends s' u sites e bs rg x y matches. subst (λ z. H f s' z x y) (sym rg.0) (at_home f s' x y
                (t.back f (abort (code_of P f) i l) g.name walk is (subst (λ n. In (abort (code_of P f) i l) (branches_at (code_of P f) n)) (sym ends) (at_branch (abort (code_of P f) i l) h)) refl g.there s' sites e x y
                (base_there (point_of l (code_of P f)) (point_of m (code_of Q f)) x y g.stands matches)));
            learns = λ _ x v known. absurd known;
            remembers = λ _ walk is ends s' sites e x v known. absurd known;
          }

      item_steps : StepsMatch M P Q f i j (Some a) (Some b)
      item_steps = record {
        same = matches.same;
        branches = branches-zip (SameName fa.function.labels fb.function.labels) (EdgesMatch M P Q f i j (Some a) (Some b)) (code_of P f) (code_of Q f) i j (H f i j) a b matches.same matches.targets
            (λ stays. on (no-jump a stays) (item-onward (code_of P f) i a stays))
            (λ leads l m s h. jumping (a-jump (code_of P f) i a (jump (code_of P f) i l) leads h) l m s h)
            aborting;
      }

    point_steps : (o u : Option Instr) → item_at P f i ≡ o → item_at Q f j ≡ u → StepsMatch M P Q f i j o u
    point_steps None None at bt = record { same = tt; branches = tt }
    point_steps None (Some b) at bt = absurd (let h = sym (renamed-none P f i (t.reads f i) (t.writes f i) at) ∙ t.same f i reached plain ∙ (found Q f j b bt).tree in cc)
    point_steps (Some a) None at bt =
        absurd (let h = sym (nothing_at Q f j bt) ∙ sym (t.same f i reached plain) ∙ renamed-found P f i a (t.reads f i) (t.writes f i) at (found P f i a at).function (found P f i a at).there in cc)
    point_steps (Some a) (Some b) at bt = item_steps a b at bt

  pub preserves : Preserves M P Q
  preserves = record {
    main = main_same P Q t.heads;
    types = main_types_same P Q t.heads;
    start = λ f. (omega arith, omega arith);
    fresh = λ f vs count a b h. start_agrees P Q t.heads f vs count a b (t.start f a b h);
    start_known = λ f vs count a v known. absurd known;
    steps = λ f i n reached points regular.
        subst (λ z. StepsMatch M P Q f i z (item_at P f i) (item_at Q f z)) (sym regular.0) (point_steps f i reached regular.1 (item_at P f i) (item_at Q f (home f i)) refl refl);
  }

  -- ---- states

  module _ (limits : Limits) where
    abbrev R : State → State → Type 0
    R = StatesMatch M P Q

    -- Q stands at its home
    record AtHome (s u : State) : Type 0 where
      matches : StatesMatch M P Q s u
      home_is : matches.result_frame.point ≡ home matches.frame.function matches.frame.point

    reached_here : (s u : State) (r : StatesMatch M P Q s u) → IsReached (code_of P r.frame.function) r.frame.point
    reached_here s u r = record { walk = r.newest.contents.walk; is = r.newest.contents.is; ends = r.newest.contents.ends }

    -- one copy
    copy-step : (s u : State) (r : StatesMatch M P Q s u) → s.ended ≡ None → r.result_frame.point < home r.frame.function r.frame.point
        → (n : StatesMatch M P Q s (step Q limits u)) × (n.frame ≡ r.frame) × (n.result_frame.point ≡ suc r.result_frame.point)
    copy-step s u r runs less = by (item_at Q k G.point) refl
      where
        G : Frame
        G = r.result_frame

        k : ℕ
        k = r.frame.function

        i : ℕ
        i = r.frame.point

        is : is_copy (item_at Q k G.point) ≡ true
        is = t.copies k i G.point (reached_here s u r) r.newest.contents.points.0 less

        by : (o : Option Instr) → item_at Q k G.point ≡ o → (n : StatesMatch M P Q s (step Q limits u)) × (n.frame ≡ r.frame) × (n.result_frame.point ≡ suc r.result_frame.point)
        by None e = absurd (let z = ap is_copy (sym e) ∙ is in cc)
        by (Some b) e =
            let copy : is_copy (Some b) ≡ true = ap is_copy (sym e) ∙ is in
            let at : item_at Q G.function G.point ≡ Some b = ap (λ n. item_at Q n G.point) (sym r.newest.function) ∙ e in
            let agree : ValuesMatch (H k i (suc G.point)) r.frame.locations (ran b G.locations) =
            λ x y h. r.newest.contents.locations x (source (Some b) y) (subst (λ o. H k i G.point x (source o y)) e (one_less k i G.point x y less h)) ∙ sym (ran-value b G.locations y) in
            let low' = r.newest.contents.points.0 in
            let n = result_moves M P Q limits accepted preserves s u r runs b at (ran b G.locations) (λ older v. copy-changes Q limits b G copy older v) (omega (arith, low'), omega (arith, less)) agree in
            (n.0, n.1, ap (λ (z : Frame). z.point) n.2)

    -- all copies that are left
    comes : (n : ℕ) (s u : State) (r : StatesMatch M P Q s u) → s.ended ≡ None → home r.frame.function r.frame.point - r.result_frame.point ≡ n → AtHome s (after (step Q limits) n u)
    comes zero s u r runs e = let h = r.newest.contents.points.1 in record { matches = r; home_is = omega (arith, e, h) }
    comes (suc n) s u r runs e =
        let one = copy-step s u r runs (omega (arith, e)) in
        let same : home one.0.frame.function one.0.frame.point ≡ home r.frame.function r.frame.point = ap (λ (z : Frame). home z.function z.point) one.1 in
        comes n s (step Q limits u) one.0 runs (let p = one.2 in omega (arith, same, p, e))

    -- P copies, and Q passes a nop
    copies : (s u : State) (h : AtHome s u) → s.ended ≡ None → (a : Instr) → item_at P h.matches.frame.function h.matches.frame.point ≡ Some a → is_copy (Some a) ≡ true → StatesMatch M P Q (step P limits s) (step Q limits u)
    copies s u h runs a at copy =
        let r = h.matches in
        let F = r.frame in
        let G = r.result_frame in
        let k = F.function in
        let i = F.point in
        let reached = reached_here s u r in
        let is : is_copy (item_at P k i) ≡ true = ap is_copy at ∙ copy in
        let there = nop_there Q k (home k i) (t.gone k i reached is) in
        let bt : item_at Q G.function G.point ≡ Some (Act there.dest there.ty op.Nop there.args there.funcs there.labels) = ap (λ n. item_at Q n G.point) (sym r.newest.function) ∙ ap (item_at Q k) h.home_is ∙ there.at in
        let agree : ValuesMatch (H k (suc i) (suc G.point)) (ran a F.locations) G.locations =
        λ x y z. ran-value a F.locations x ∙ r.newest.contents.locations (source (Some a) x) y
        (subst (λ n. H k i n (source (Some a) x) y) (sym h.home_is) (at_home k i (source (Some a) x) y (subst (λ o. base k i (source o x) y) at (t.copied k i x y reached is (subst (λ n. H k (suc i) (suc n) x y) h.home_is z))))) in
        let low' : suc G.point ≡ suc (home k i) = ap suc h.home_is in
        let order' = t.order k (suc i) in
        both_move M P Q limits accepted preserves s u r runs a (Act there.dest there.ty op.Nop there.args there.funcs there.labels) at bt (copy-branches a copy (code_of P k) i) (copy-keeps a copy)
        (ran a F.locations) G.locations (copy-changes P limits a F copy) (λ older v. refl) (omega (arith, low'), omega (arith, low', order')) agree (λ x v known. absurd known)

    together : (s u : State) (h : AtHome s u) → s.ended ≡ None → StatesMatch M P Q (step P limits s) (step Q limits u)
    together s u h runs = by (item_at P h.matches.frame.function h.matches.frame.point) (is_copy (item_at P h.matches.frame.function h.matches.frame.point)) refl refl
      where
        by : (o : Option Instr) (b : Bool) → item_at P h.matches.frame.function h.matches.frame.point ≡ o → is_copy (item_at P h.matches.frame.function h.matches.frame.point) ≡ b → StatesMatch M P Q (step P limits s) (step Q limits u)
        by o false at e = regular_steps_match M P Q limits accepted preserves s u h.matches runs (h.home_is, e)
        by None true at e = absurd (let z = ap is_copy (sym at) ∙ e in cc)
        by (Some a) true at e = copies s u h runs a at (ap is_copy (sym at) ∙ e)

    progress : (s u : State) → StatesMatch M P Q s u → s.ended ≡ None → Progress M P Q limits (suc c) (λ z. 0) s u
    progress s u r runs =
        let n = home r.frame.function r.frame.point - r.result_frame.point in
        let few = t.few r.frame.function r.frame.point in
        let low' = r.newest.contents.points.0 in
        BothMove (record {
          early = 0;
          moves = n;
          within = (let l : low P Q home base r.frame.function r.frame.point ≤ r.result_frame.point = low' in omega (arith, few, l));
          quiet = refl;
          running = runs;
          again = inl (subst (λ z. StatesMatch M P Q (step P limits s) z) (sym (after-suc (step Q limits) n u)) (together s (after (step Q limits) n u) (comes n s u r runs refl) runs));
        })

pub copies-refine : (P Q : Prog) (home : ℕ → ℕ → ℕ) (base : (f i : ℕ) → Location → Location → Type 0) (c : ℕ) → IsAccepted P → AreInserted P Q home base c → Refines P Q (suc c)
copies-refine P Q home base c accepted t =
    plan_refines (λ _ _. inserted_plan P Q home base) P Q (suc c) accepted (preserves P Q home base c accepted t) (omega arith) (λ limits. record { distance = λ z. 0; progress = progress P Q home base c accepted t limits })
