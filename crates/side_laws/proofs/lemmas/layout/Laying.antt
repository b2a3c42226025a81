-- The splice: where the items of a program with side exits stand.
use Rattle.std.proofs.Common.{◌≡◌, ◌⊎◌, ℕ, zero, suc, ◌+◌, ◌<◌, ◌≤◌, Bool, true, false, List, [], ◌∷◌, ◌++◌, length, Option, Some, None, refl, sym, ap, subst, ◌∙◌, inl, inr, ⊎_elim, arith}
use Rattle.std.specs.Prelude.{slice_get, ◌==◌, if◌then◌else◌}
use Rattle.std.specs.Option.{option_map}
use Rattle.std.proofs.lemmas.Bool.{eqb-true, eq-eqb}
use Rattle.std.proofs.lemmas.List.{length-append, length-map}
use Rattle.std.proofs.lemmas.Option.{same_Some}
use Rattle.bril_tree.specs.declared.function_tree.Item.{Item}
use Rattle.bril_tree.specs.declared.numbered.Instr.{Instr}
use Rattle.bril_tree.specs.declared.numbered_function.Func.{Func}
use Rattle.bril_tree.specs.declared.program.Prog.{Prog}
use Rattle.bril_tree.specs.Accepted.{IsAccepted}
use Rattle.bril_tree.specs.Membership.{In}
use Rattle.bril_tree.specs.Numbered.{function_tree, item_tree, names_of_functions, point_tree, tree_at, tree_of, variable_names}
use Rattle.bril_tree.specs.Step.{code_of, item_at, items_of, point_of}
use Rattle.bril_tree.specs.Edge.{leads_away}
use Rattle.bril_tree.proofs.Elements.{get_in}
use Rattle.bril_tree.proofs.Members.{in_append_cases}
use Rattle.bril_tree.proofs.Trees.{function_at, tree_at-function}
use Rattle.bril_tree.proofs.Branches.{label_within}
use Rattle.bril_names.specs.Faults.{SameHead}
use Rattle.pass_edit_laws.specs.names.NamedPlan.{SameHeads}
use Rattle.pass_edit_laws.proofs.lemmas.names.Heads.{no_partner, partner}
use Rattle.pass_edit_laws.proofs.lemmas.names.Points.{found}
use Rattle.pass_edit_laws.proofs.lemmas.names.Trees.{heads-of_trees}
use Rattle.pass_edit_laws.specs.plan.Spliced.{position_of, spliced, start_of}
use Rattle.pass_edit_laws.proofs.lemmas.plan.Splicing.{before-position, get-left, get-right, item-position, in-spliced}
use Rattle.pass_edit_laws.proofs.lemmas.plan.Elements.{zip-by_place}
use Rattle.pass_edit_laws.specs.labels.Fresh.{labels_in}
use Rattle.side_laws.specs.Passage.{IsPaired}
use Rattle.side_laws.specs.Sided.{SideExit, AreAllExits, IsSided, HasSideExits, retargeted, retargeted_by, exit_lines, sided_items, exit_at, exits_before}
use Rattle.side_laws.specs.Laid.{Stands, StandsBefore, Sort, Old, Retargeted, Line, Laid}
use Rattle.side_laws.proofs.lemmas.pairs.Placed.{paired}
use Rattle.side_laws.proofs.lemmas.pairs.Runs.{runs-at, exit-pair}

-- ---- exits

pub exit_at-owner : (exits : List SideExit) (i : ℕ) (w : SideExit) → exit_at exits i ≡ Some w → In w exits × (w.pair.guard ≡ i)
exit_at-owner [] i w e = absurd cc
exit_at-owner (x ∷ exits) i w e = by (x.pair.guard == i) refl (exit_at-owner exits i w)
  where
    by : (b : Bool) → (x.pair.guard == i) ≡ b → (exit_at exits i ≡ Some w → In w exits × (w.pair.guard ≡ i)) → In w (x ∷ exits) × (w.pair.guard ≡ i)
    by true h rest =
        let s : x ≡ w = same_Some x w (sym (ap (λ b. if b then Some x else exit_at exits i) h) ∙ e) in
        (inl (sym s), ap (λ (z : SideExit). z.pair.guard) (sym s) ∙ eqb-true x.pair.guard i h)
    by false h rest = let r = rest (sym (ap (λ b. if b then Some x else exit_at exits i) h) ∙ e) in (inr r.0, r.1)

-- ---- the items, retargeted

sided-get : (exits : List SideExit) (k : ℕ) (items : List Item) (n : ℕ) → slice_get (sided_items exits k items) n ≡ option_map (retargeted_by (exit_at exits (k + n))) (slice_get items n)
sided-get exits k [] n = refl
sided-get exits k (a ∷ items) zero = let e : k ≡ k + 0 = omega arith in ap (λ m. Some (retargeted_by (exit_at exits m) a)) e
sided-get exits k (a ∷ items) (suc n) = let e : suc k + n ≡ k + suc n = omega arith in sided-get exits (suc k) items n ∙ ap (λ m. option_map (retargeted_by (exit_at exits m)) (slice_get items n)) e

pub sided-at : (exits : List SideExit) (items : List Item) (n : ℕ) → slice_get (sided_items exits 0 items) n ≡ option_map (retargeted_by (exit_at exits n)) (slice_get items n)
sided-at exits items n = let e : 0 + n ≡ n = omega arith in sided-get exits 0 items n ∙ ap (λ m. option_map (retargeted_by (exit_at exits m)) (slice_get items n)) e

pub sided-long : (exits : List SideExit) (k : ℕ) (items : List Item) → length (sided_items exits k items) ≡ length items
sided-long exits k [] = refl
sided-long exits k (a ∷ items) = ap suc (sided-long exits (suc k) items)

-- ---- what stands before an item

module _ (P : Prog) (f : ℕ) where
  -- the lines of an exit among others
  pub record InFront (w : SideExit) (lines : List Item) : Type 0 where
    pub offset : ℕ
    pub within : offset + length (exit_lines (tree_at P f) (labels_in P f) w) ≤ length lines
    pub at : (n : ℕ) → n < length (exit_lines (tree_at P f) (labels_in P f) w) → slice_get lines (offset + n) ≡ slice_get (exit_lines (tree_at P f) (labels_in P f) w) n

  pub in-front : (exits : List SideExit) (w : SideExit) → In w exits → InFront w (exits_before (tree_at P f) (labels_in P f) (code_of P f) exits (point_of w.pair.bail (code_of P f)))
  in-front [] w among = absurd among
  in-front (x ∷ exits) w (inl e) = subst (λ z. InFront w (exits_before (tree_at P f) (labels_in P f) (code_of P f) (z ∷ exits) (point_of w.pair.bail (code_of P f)))) e (by (b == b) refl)
    where
      b : ℕ
      b = point_of w.pair.bail (code_of P f)

      by : (t : Bool) → (b == b) ≡ t → InFront w (if b == b then exit_lines (tree_at P f) (labels_in P f) w ++ exits_before (tree_at P f) (labels_in P f) (code_of P f) exits b else exits_before (tree_at P f) (labels_in P f) (code_of P f) exits b)
      by false h = absurd (let z : true ≡ false = sym (eq-eqb b b refl) ∙ h in cc)
      by true h = subst (λ t. InFront w (if t then exit_lines (tree_at P f) (labels_in P f) w ++ exits_before (tree_at P f) (labels_in P f) (code_of P f) exits b else exits_before (tree_at P f) (labels_in P f) (code_of P f) exits b)) (sym h) (record {
        offset = 0;
        within = let l = length-append (exit_lines (tree_at P f) (labels_in P f) w) (exits_before (tree_at P f) (labels_in P f) (code_of P f) exits b) in omega (arith, l);
        at = λ n less. let z : 0 + n ≡ n = omega arith in ap (slice_get (exit_lines (tree_at P f) (labels_in P f) w ++ exits_before (tree_at P f) (labels_in P f) (code_of P f) exits b)) z ∙ get-left (exit_lines (tree_at P f) (labels_in P f) w) (exits_before (tree_at P f) (labels_in P f) (code_of P f) exits b) n less;
      })
  in-front (x ∷ exits) w (inr m) = by (point_of x.pair.bail (code_of P f) == b) refl (in-front exits w m)
    where
      b : ℕ
      b = point_of w.pair.bail (code_of P f)

      by : (t : Bool) → (point_of x.pair.bail (code_of P f) == b) ≡ t → InFront w (exits_before (tree_at P f) (labels_in P f) (code_of P f) exits b) → InFront w (if point_of x.pair.bail (code_of P f) == b then exit_lines (tree_at P f) (labels_in P f) x ++ exits_before (tree_at P f) (labels_in P f) (code_of P f) exits b else exits_before (tree_at P f) (labels_in P f) (code_of P f) exits b)
      by false h rest = subst (λ t. InFront w (if t then exit_lines (tree_at P f) (labels_in P f) x ++ exits_before (tree_at P f) (labels_in P f) (code_of P f) exits b else exits_before (tree_at P f) (labels_in P f) (code_of P f) exits b)) (sym h) rest
      by true h rest = subst (λ t. InFront w (if t then exit_lines (tree_at P f) (labels_in P f) x ++ exits_before (tree_at P f) (labels_in P f) (code_of P f) exits b else exits_before (tree_at P f) (labels_in P f) (code_of P f) exits b)) (sym h) (record {
        offset = length (exit_lines (tree_at P f) (labels_in P f) x) + rest.offset;
        within = let l = length-append (exit_lines (tree_at P f) (labels_in P f) x) (exits_before (tree_at P f) (labels_in P f) (code_of P f) exits b) in let r = rest.within in omega (arith, l, r);
        at = λ n less. let z : length (exit_lines (tree_at P f) (labels_in P f) x) + rest.offset + n ≡ length (exit_lines (tree_at P f) (labels_in P f) x) + (rest.offset + n) = omega arith in
            ap (slice_get (exit_lines (tree_at P f) (labels_in P f) x ++ exits_before (tree_at P f) (labels_in P f) (code_of P f) exits b)) z ∙ get-right (exit_lines (tree_at P f) (labels_in P f) x) (exits_before (tree_at P f) (labels_in P f) (code_of P f) exits b) (rest.offset + n) ∙ rest.at n less;
      })

  pub front-owner : (exits : List SideExit) (i : ℕ) (a : Item) → In a (exits_before (tree_at P f) (labels_in P f) (code_of P f) exits i) → (w : SideExit) × In w exits × (point_of w.pair.bail (code_of P f) ≡ i) × In a (exit_lines (tree_at P f) (labels_in P f) w)
  front-owner [] i a among = absurd among
  front-owner (x ∷ exits) i a among = by (point_of x.pair.bail (code_of P f) == i) refl (front-owner exits i a)
    where
      by : (t : Bool) → (point_of x.pair.bail (code_of P f) == i) ≡ t → (In a (exits_before (tree_at P f) (labels_in P f) (code_of P f) exits i) → (w : SideExit) × In w exits × (point_of w.pair.bail (code_of P f) ≡ i) × In a (exit_lines (tree_at P f) (labels_in P f) w))
          → (w : SideExit) × In w (x ∷ exits) × (point_of w.pair.bail (code_of P f) ≡ i) × In a (exit_lines (tree_at P f) (labels_in P f) w)
      by false h rest = let r = rest (subst (λ t. In a (if t then exit_lines (tree_at P f) (labels_in P f) x ++ exits_before (tree_at P f) (labels_in P f) (code_of P f) exits i else exits_before (tree_at P f) (labels_in P f) (code_of P f) exits i)) h among) in (r.0, inr r.1, r.2, r.3)
      by true h rest = ⊎_elim (λ m. (x, inl refl, eqb-true (point_of x.pair.bail (code_of P f)) i h, m)) (λ m. let r = rest m in (r.0, inr r.1, r.2, r.3))
          (in_append_cases a (exit_lines (tree_at P f) (labels_in P f) x) (exits_before (tree_at P f) (labels_in P f) (code_of P f) exits i) (subst (λ t. In a (if t then exit_lines (tree_at P f) (labels_in P f) x ++ exits_before (tree_at P f) (labels_in P f) (code_of P f) exits i else exits_before (tree_at P f) (labels_in P f) (code_of P f) exits i)) h among))

  front-none : (exits : List SideExit) (i : ℕ) → ((w : SideExit) → In w exits → point_of w.pair.bail (code_of P f) ≡ i → ⊥) → length (exits_before (tree_at P f) (labels_in P f) (code_of P f) exits i) ≡ 0
  front-none exits i none = by (exits_before (tree_at P f) (labels_in P f) (code_of P f) exits i) refl
    where
      by : (lines : List Item) → exits_before (tree_at P f) (labels_in P f) (code_of P f) exits i ≡ lines → length lines ≡ 0
      by [] e = refl
      by (a ∷ lines) e = absurd (let o = front-owner exits i a (subst (In a) (sym e) (inl refl)) in none o.0 o.1 o.2)

stands-from : (P Q : Prog) (f j : ℕ) (lines : List Item) → ((n : ℕ) → n < length lines → tree_at Q f (j + n) ≡ slice_get lines n) → Stands P Q f j lines
stands-from P Q f j [] h = tt
stands-from P Q f j (a ∷ lines) h = (
  (let e : j ≡ j + 0 = omega arith in ap (tree_at Q f) e ∙ h 0 (omega arith)),
  stands-from P Q f (suc j) lines (λ n less. let e : suc j + n ≡ j + suc n = omega arith in ap (tree_at Q f) e ∙ h (suc n) (omega (arith, less))),
)

-- ---- the record

module _ (P Q : Prog) (accepted : IsAccepted P) (exits : ℕ → List SideExit) (all : AreAllExits P exits) (sp : HasSideExits P exits (tree_of Q)) where
  abbrev before : ℕ → ℕ → List Item
  before f = exits_before (tree_at P f) (labels_in P f) (code_of P f) (exits f)

  abbrev behind : ℕ → List Item
  behind = λ i. []

  abbrev old : ℕ → ℕ → ℕ
  old f i = position_of (before f) behind i

  abbrev front : ℕ → ℕ → ℕ
  front f i = length (before f i)

  heads : SameHeads P Q
  heads = heads-of_trees P Q (zip-by_place SameHead (tree_of P).funcs (tree_of Q).funcs sp.many (λ i F G p q. (sp.functions i F G p q).head))

  exit-paired : (f : ℕ) (w : SideExit) → In w (exits f) → IsPaired (code_of P f) w.pair
  exit-paired f w among = paired P accepted f (all.pairs f) (all.are_pairs f) w.pair (exit-pair (labels_in P f) 1 (all.pairs f) (exits f) (all.are_exits f) w among)

  record Both (f : ℕ) (F : Func) : Type 0 where
    code : List Item
    size : length code ≡ length F.code
    ofP : (i : ℕ) → tree_at P f i ≡ slice_get code i
    ofQ : (i : ℕ) → tree_at Q f i ≡ slice_get (spliced (before f) behind 0 (sided_items (exits f) 0 code)) i

  both : (f : ℕ) (F : Func) → slice_get P.funcs f ≡ Some F → Both f F
  both f F there =
      let g = partner P Q heads f F there in
      let tP = function_tree (names_of_functions P.funcs) F in
      let tQ = function_tree (names_of_functions Q.funcs) g.0 in
      let hP = function_at P f F there in
      let hQ = function_at Q f g.0 g.1 in
      record {
        code = tP.code;
        size = length-map F.code (item_tree (names_of_functions P.funcs) (variable_names F.vars) F.labels);
        ofP = λ i. tree_at-function P f i tP hP;
        ofQ = λ i. tree_at-function Q f i tQ hQ ∙ ap (λ l. slice_get l i) (sp.functions f tP tQ hP hQ).code;
      }

  code_long : (f : ℕ) (F : Func) → slice_get P.funcs f ≡ Some F → length (code_of P f) ≡ length F.code
  code_long f F e = ap (λ o. length (items_of o)) e

  placed : (f i : ℕ) → i ≤ length (code_of P f) → tree_at Q f (old f i) ≡ option_map (retargeted_by (exit_at (exits f) i)) (tree_at P f i)
  placed f i h = by (slice_get P.funcs f) refl
    where
      by : (o : Option Func) → slice_get P.funcs f ≡ o → tree_at Q f (old f i) ≡ option_map (retargeted_by (exit_at (exits f) i)) (tree_at P f i)
      by None e = no_partner P Q heads f e (old f i) ∙ ap (option_map (retargeted_by (exit_at (exits f) i))) (sym (ap (λ o. point_tree (names_of_functions P.funcs) o i) e))
      by (Some F) e =
          let b = both f F e in
          let c = code_long f F e in
          let s = b.size in
          let l = sided-long (exits f) 0 b.code in
          b.ofQ (old f i) ∙ item-position (before f) behind (sided_items (exits f) 0 b.code) i (omega (arith, h, c, s, l)) ∙ sided-at (exits f) b.code i
          ∙ ap (option_map (retargeted_by (exit_at (exits f) i))) (sym (b.ofP i))

  -- an exit's label isn't the first item, and what stands before it leads away
  not-first : (f : ℕ) (w : SideExit) → In w (exits f) → point_of w.pair.bail (code_of P f) ≡ 0 → ⊥
  not-first f w among e =
      let p = exit-paired f w among in
      let b = p.is.bail_at in
      let same : point_of w.pair.bail (code_of P f) ≡ point_of p.run.bail (code_of P f) = ap (λ n. point_of n (code_of P f)) p.fine.bail in
      omega (arith, e, b, same)

  alone : (f i : ℕ) (a : Instr) → item_at P f i ≡ Some a → leads_away (Some a) ≡ false → front f (suc i) ≡ 0
  alone f i a at stays = front-none P f (exits f) (suc i) none
    where
      none : (w : SideExit) → In w (exits f) → point_of w.pair.bail (code_of P f) ≡ suc i → ⊥
      none w among e =
          let p = exit-paired f w among in
          let b = p.is.bail_at in
          let same : point_of w.pair.bail (code_of P f) ≡ point_of p.run.bail (code_of P f) = ap (λ n. point_of n (code_of P f)) p.fine.bail in
          let here : p.is.before ≡ i = omega (arith, e, b, same) in
          let leads : leads_away (Some a) ≡ true = ap leads_away (sym at) ∙ ap (λ n. leads_away (item_at P f n)) (sym here) ∙ p.is.away in
          let z : true ≡ false = sym leads ∙ stays in cc

  start : (f : ℕ) → old f 0 ≡ 0
  start f = let z = front-none P f (exits f) 0 (not-first f) in omega (arith, z)

  -- the function is there, and the label lies in it
  exit-function : (f : ℕ) (w : SideExit) → In w (exits f) → (F : Func) × (slice_get P.funcs f ≡ Some F)
  exit-function f w among = let p = exit-paired f w among in let h = found P f p.run.start _ p.is.opens in (h.function, h.there)

  stands-before : (f : ℕ) (w : SideExit) → In w (exits f) → StandsBefore P Q old front f w
  stands-before f w among =
      let b = point_of w.pair.bail (code_of P f) in
      let fun = exit-function f w among in
      let both = both f fun.0 fun.1 in
      let i = in-front P f (exits f) w among in
      let low = i.within in
      let s = both.size in
      let c = code_long f fun.0 fun.1 in
      let l = sided-long (exits f) 0 both.code in
      let inside = label_within w.pair.bail (code_of P f) in
      record {
        point = start_of (before f) behind b + i.offset;
        lines = stands-from P Q f (start_of (before f) behind b + i.offset) (exit_lines (tree_at P f) (labels_in P f) w) (λ n less.
            let e : start_of (before f) behind b + i.offset + n ≡ start_of (before f) behind b + (i.offset + n) = omega arith in
            both.ofQ (start_of (before f) behind b + i.offset + n) ∙ ap (slice_get (spliced (before f) behind 0 (sided_items (exits f) 0 both.code))) e
            ∙ before-position (before f) behind (sided_items (exits f) 0 both.code) b (i.offset + n) (omega (arith, inside, s, c, l)) (omega (arith, low, less)) ∙ i.at n less);
        low = omega arith;
        high = omega (arith, low);
      }

  sorts : (f j : ℕ) (a : Item) → tree_at Q f j ≡ Some a → Sort P Q exits f a
  sorts f j a at = by_function (slice_get P.funcs f) refl
    where
      by_item : (i : ℕ) (o : Option SideExit) → exit_at (exits f) i ≡ o → (b : Option Item) → tree_at P f i ≡ b → option_map (retargeted_by o) b ≡ Some a → Sort P Q exits f a
      by_item i o h None e same = absurd (let z : None ≡ Some a = same in cc)
      by_item i None h (Some b) e same = Old i h (e ∙ same)
      by_item i (Some w) h (Some b) e same = Retargeted i w b h e (sym (same_Some (retargeted w.name b) a same))

      by_function : (o : Option Func) → slice_get P.funcs f ≡ o → Sort P Q exits f a
      by_function None e = absurd (let z : None ≡ Some a = sym (no_partner P Q heads f e j) ∙ at in cc)
      by_function (Some F) e = by (in-spliced (before f) behind a 0 (sided_items (exits f) 0 b.code) (get_in (spliced (before f) behind 0 (sided_items (exits f) 0 b.code)) j a (sym (b.ofQ j) ∙ at)))
        where
          b : Both f F
          b = both f F e

          by : ((i : ℕ) × (slice_get (sided_items (exits f) 0 (both f F e).code) i ≡ Some a)) ⊎ (((i : ℕ) × In a (before f i)) ⊎ ((i : ℕ) × In a (behind i))) → Sort P Q exits f a
          by (inl h) = by_item h.0 (exit_at (exits f) h.0) refl (tree_at P f h.0) refl (ap (option_map (retargeted_by (exit_at (exits f) h.0))) ((both f F e).ofP h.0) ∙ sym (sided-at (exits f) (both f F e).code h.0) ∙ h.1)
          by (inr (inl h)) = let o = front-owner P f (exits f) h.0 a h.1 in Line o.0 o.1 o.3
          by (inr (inr h)) = absurd h.1

  pub laid : Laid P Q
  laid = record {
    heads = heads;
    exits = exits;
    old = old;
    front = front;
    start = start;
    next = λ f i. omega arith;
    placed = placed;
    alone = alone;
    stands = stands-before;
    paired = exit-paired;
    runs = λ f i. runs-at P accepted f (labels_in P f) (all.pairs f) (exits f) (all.are_pairs f) (all.are_exits f) i;
    owners = λ f i w e. exit_at-owner (exits f) i w e;
    sorts = sorts;
  }

  pub laid-exits : (f : ℕ) → laid.exits f ≡ exits f
  unfolding laid
  laid-exits f = refl

pub sided-laid : (P Q : Prog) → IsAccepted P → IsSided P Q → Laid P Q
sided-laid P Q accepted made = laid P Q accepted made.exits made.are_exits made.made
