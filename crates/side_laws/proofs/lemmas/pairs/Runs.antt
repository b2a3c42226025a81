-- Runs have no items in common, so guards are paired once; and at each point a run begins or none does.
use Rattle.std.proofs.Common.{◌≡◌, ◌⊎◌, ℕ, zero, suc, ◌+◌, ◌-◌, ◌<◌, ◌≤◌, Bool, true, false, List, [], ◌∷◌, ◌++◌, length, Option, Some, refl, sym, ap, subst, ◌∙◌, inl, inr, ⊎_elim, arith}
use Rattle.std.specs.Prelude.{slice_get, ◌==◌, if◌then◌else◌}
use Rattle.std.proofs.lemmas.Bool.{cases_eq, cases_lt, eq-eqb, eqb-true}
use Rattle.std.proofs.lemmas.Option.{slice_get_within}
use Rattle.bril_tree.specs.declared.numbered.Instr.{Instr}
use Rattle.bril_tree.specs.declared.numbered.Instr.TheVariants.{Label, Const, Act}
use Rattle.bril_tree.specs.declared.operation.Op.{Op}
use Rattle.bril_tree.specs.declared.program.Prog.{Prog}
use Rattle.bril_tree.specs.declared.types.Ty.{Ty}
use Rattle.bril_tree.specs.declared.operation.Op.TheVariants as op
use Rattle.bril_tree.specs.Accepted.{IsAccepted}
use Rattle.bril_tree.specs.Membership.{In}
use Rattle.bril_tree.specs.Step.{code_of, point_of}
use Rattle.bril_tree.specs.Edge.{leads_away}
use Rattle.bril_tree.proofs.Members.{in_append_cases, in_append_left, in_append_right}
use Rattle.side_laws.specs.Paired.{item_place, Within, Commits, Breaks, operation_place, Run, IsRun, Inverts, Pairs, Keeps, Ends, Pair, Pairing, BeginsWith, stands, pairs_by, PairsFrom, PairsOf, PairsWithin, ArePairs, Walker, settled}
use Rattle.side_laws.specs.Sided.{SideExit, AreExits, exit_at}
use Rattle.side_laws.specs.Laid.{HasRun}
use Rattle.side_laws.proofs.lemmas.pairs.Placed.{pairs_fine, run_label}

-- ---- runs

act-stays : (o : Op) (d : Option ℕ) (t : Option Ty) (args fns ls : List ℕ) → operation_place o ≡ Within → leads_away (Some (Act d t o args fns ls)) ≡ false
act-stays op.Jmp d t args fns ls e = absurd cc
act-stays op.Br d t args fns ls e = absurd cc
act-stays op.Ret d t args fns ls e = absurd cc
act-stays _ d t args fns ls e = refl

pub within-stays : (a : Instr) → item_place (Some a) ≡ Within → leads_away (Some a) ≡ false
within-stays (Label l) e = absurd cc
within-stays (Const d t v) e = refl
within-stays (Act d t o args fns ls) e = act-stays o d t args fns ls e

module _ (code : List Instr) where
  -- the `speculate` of a run is in no other
  pub run-apart : (r s : Run) → IsRun code r → IsRun code s → r.start < s.start → suc (r.start + r.size) < s.start
  run-apart r s a b less = ⊎_elim (λ l. l) (λ h. absurd (⊎_elim (λ e. last e) (λ n. inside (omega (arith, h, n))) (cases_eq s.start (suc (r.start + r.size))))) (cases_lt (suc (r.start + r.size)) s.start)
    where
      breaks : item_place (slice_get code s.start) ≡ Breaks
      breaks = ap item_place b.opens

      last : s.start ≡ suc (r.start + r.size) → ⊥
      last e = let z : Breaks ≡ Commits = sym breaks ∙ ap (λ n. item_place (slice_get code n)) e ∙ a.closes in cc

      inside : s.start < suc (r.start + r.size) → ⊥
      inside l =
          let n : ℕ = s.start - suc r.start in
          let same : s.start ≡ suc (r.start + (s.start - suc r.start)) = omega (arith, less) in
          let z : Breaks ≡ Within = sym breaks ∙ ap (λ n. item_place (slice_get code n)) same ∙ a.within (s.start - suc r.start) (omega (arith, less, l)) in cc

  -- two runs with one `speculate` are of one size
  pub run-size : (r s : Run) → IsRun code r → IsRun code s → r.start ≡ s.start → r.size < s.size → ⊥
  run-size r s a b e less =
      let same : suc (r.start + r.size) ≡ suc (s.start + r.size) = ap (λ n. suc (n + r.size)) e in
      let z : Commits ≡ Within = sym a.closes ∙ ap (λ n. item_place (slice_get code n)) same ∙ b.within r.size less in cc

-- ---- guards in the order of items

abbrev pub Rising : ℕ → List Pair → Type 0
Rising lo [] = Unit {0}
Rising lo (p ∷ pairs) = (lo ≤ p.guard) × Rising (suc p.guard) pairs

rising-lower : (lo hi : ℕ) (pairs : List Pair) → lo ≤ hi → Rising hi pairs → Rising lo pairs
rising-lower lo hi [] l h = tt
rising-lower lo hi (p ∷ pairs) l h = (let g = h.0 in omega (arith, l, g), h.1)

rising-least : (lo : ℕ) (pairs : List Pair) → Rising lo pairs → (pair : Pair) → In pair pairs → lo ≤ pair.guard
rising-least lo [] h pair among = absurd among
rising-least lo (p ∷ pairs) h pair (inl e) = subst (λ (z : Pair). lo ≤ z.guard) (sym e) h.0
rising-least lo (p ∷ pairs) h pair (inr m) = let l = rising-least (suc p.guard) pairs h.1 pair m in let g = h.0 in omega (arith, l, g)

rising-append : (lo hi : ℕ) (xs ys : List Pair) → Rising lo xs → ((p : Pair) → In p xs → p.guard < hi) → lo ≤ hi → Rising hi ys → Rising lo (xs ++ ys)
rising-append lo hi [] ys h below l r = rising-lower lo hi ys l r
rising-append lo hi (x ∷ xs) ys h below l r = (h.0, rising-append (suc x.guard) hi xs ys h.1 (λ p m. below p (inr m)) (let b = below x (inl refl) in omega (arith, b)) r)

module _ (code : List Instr) (bail : ℕ) where
  abbrev AreRising : Pairing → Type 0
  AreRising X = (i : ℕ) (w : Walker) (kept : List ℕ) (pairs : List Pair) → X i w kept pairs → Rising i pairs

  nil-rising : (lo : ℕ) (pairs : List Pair) → pairs ≡ [] → Rising lo pairs
  nil-rising lo pairs e = subst (Rising lo) (sym e) tt

  begins-rising : (i : ℕ) (first : Pair) (X : List Pair → Type 0) (pairs : List Pair) → i ≤ first.guard → ((rest : List Pair) → X rest → Rising (suc first.guard) rest) → BeginsWith first X pairs → Rising i pairs
  begins-rising i first X [] low rest h = absurd h
  begins-rising i first X (p ∷ pairs) low rest h = (subst (λ (z : Pair). i ≤ z.guard) (sym h.0) low, subst (λ (z : Pair). Rising (suc z.guard) pairs) (sym h.0) (rest pairs h.1))

  met-rising : (X Y : Pairing) → AreRising X → AreRising Y → AreRising (pairs_by code bail X Y)
  met-rising X Y rx ry i w kept pairs h = by h
    where
      standing : (left : ℕ) → stands code bail X Y i left (settled code w.left w.point).point kept pairs → Rising i pairs
      standing zero e = nil-rising i pairs e
      standing (suc left) (Inverts c on off g, x) =
          begins-rising i (record { guard = suc i; bail = bail; kept = kept; other = on }) (Y (suc (suc i)) (record { left = left; point = point_of off code }) kept) pairs (omega arith) (λ rest x'. ry (suc (suc i)) (record { left = left; point = point_of off code }) kept rest x') x
      standing (suc left) (Pairs c on off n g, x) =
          begins-rising i (record { guard = i; bail = bail; kept = kept; other = off }) (X (suc i) (record { left = left; point = point_of on code }) kept) pairs (omega arith) (λ rest x'. rx (suc i) (record { left = left; point = point_of on code }) kept rest x') x
      standing (suc left) (Keeps n m g, x) = rising-lower i (suc i) pairs (omega arith) (rx (suc i) (record { left = left; point = suc (settled code w.left w.point).point }) (kept ++ i ∷ []) pairs x)
      standing (suc left) (Ends n m g, x) = nil-rising i pairs x

      by : pairs_by code bail X Y i w kept pairs → Rising i pairs
      by (inl h) = rising-lower i (suc i) pairs (omega arith) (rx (suc i) w kept pairs h.1)
      by (inr h) = standing (settled code w.left w.point).left h.1

  pub from-rising : (room : ℕ) → AreRising (PairsFrom code bail room)
  from-rising zero i w kept pairs h = nil-rising i pairs h
  from-rising (suc zero) i w kept pairs h = met-rising (PairsFrom code bail zero) (λ i w kept pairs. ⊥) (from-rising zero) (λ i w kept pairs x. absurd x) i w kept pairs h
  from-rising (suc (suc room)) i w kept pairs h = met-rising (PairsFrom code bail (suc room)) (PairsFrom code bail room) (from-rising (suc room)) (from-rising room) i w kept pairs h

-- ---- exits by their guards

pub pair-exit : (taken : List (List ℕ)) (J : ℕ) (pairs : List Pair) (exits : List SideExit) → AreExits taken J pairs exits → (pair : Pair) → In pair pairs → (w : SideExit) × In w exits × (w.pair ≡ pair)
pair-exit taken J [] exits h pair among = absurd among
pair-exit taken J (p ∷ pairs) [] h pair among = absurd h
pair-exit taken J (p ∷ pairs) (w ∷ exits) h pair (inl e) = (w, inl refl, h.0 ∙ sym e)
pair-exit taken J (p ∷ pairs) (w ∷ exits) h pair (inr m) = let r = pair-exit taken (suc J) pairs exits h.2 pair m in (r.0, inr r.1, r.2)

pub exit-pair : (taken : List (List ℕ)) (J : ℕ) (pairs : List Pair) (exits : List SideExit) → AreExits taken J pairs exits → (w : SideExit) → In w exits → In w.pair pairs
exit-pair taken J [] exits h w among = absurd (subst (In w) h among)
exit-pair taken J (p ∷ pairs) [] h w among = absurd h
exit-pair taken J (p ∷ pairs) (x ∷ exits) h w (inl e) = inl (ap (λ (z : SideExit). z.pair) e ∙ h.0)
exit-pair taken J (p ∷ pairs) (x ∷ exits) h w (inr m) = inr (exit-pair taken (suc J) pairs exits h.2 w m)

first-exit : (taken : List (List ℕ)) (J lo : ℕ) (pairs : List Pair) (exits : List SideExit) → AreExits taken J pairs exits → Rising lo pairs → (w : SideExit) → In w exits → exit_at exits w.pair.guard ≡ Some w
first-exit taken J lo [] exits h r w among = absurd (subst (In w) h among)
first-exit taken J lo (p ∷ pairs) [] h r w among = absurd h
first-exit taken J lo (p ∷ pairs) (x ∷ exits) h r w (inl e) =
    ap (λ b. if b then Some x else exit_at exits w.pair.guard) (eq-eqb x.pair.guard w.pair.guard (ap (λ (z : SideExit). z.pair.guard) (sym e))) ∙ ap Some (sym e)
first-exit taken J lo (p ∷ pairs) (x ∷ exits) h r w (inr m) = by (x.pair.guard == w.pair.guard) refl (first-exit taken (suc J) (suc p.guard) pairs exits h.2 r.1 w m)
  where
    later : suc p.guard ≤ w.pair.guard
    later = rising-least (suc p.guard) pairs r.1 w.pair (exit-pair taken (suc J) pairs exits h.2 w m)

    by : (b : Bool) → (x.pair.guard == w.pair.guard) ≡ b → exit_at exits w.pair.guard ≡ Some w → exit_at (x ∷ exits) w.pair.guard ≡ Some w
    by true e rest = absurd (let s = eqb-true x.pair.guard w.pair.guard e in let g = ap (λ (z : Pair). z.guard) h.0 in omega (arith, s, g, later))
    by false e rest = ap (λ b. if b then Some x else exit_at exits w.pair.guard) e ∙ rest

-- ---- where runs begin

module _ (P : Prog) (accepted : IsAccepted P) (k : ℕ) where
  abbrev code : List Instr
  code = code_of P k

  run-high : (r : Run) → IsRun code r → (here : List Pair) → PairsOf code r here → (p : Pair) → In p here → p.guard < suc (r.start + r.size)
  run-high r is here h p among = let l = run_label P accepted k r is in (pairs_fine P accepted k r is l.number l.at here h p among).high

  within-rising : (count j lo : ℕ) (pairs : List Pair) → ((r : Run) → IsRun code r → j ≤ r.start → lo ≤ suc r.start) → PairsWithin code count j pairs → Rising lo pairs
  within-rising zero j lo pairs least h = subst (Rising lo) (sym h) tt
  within-rising (suc count) j lo pairs least (inl h) =
      let r = h.0 in
      let first = from-rising code h.0.bail h.0.size (suc h.0.start) (record { left = 1023; point = suc (point_of h.0.bail code) }) [] h.3 h.4 in
      let same = h.1 in
      let low = least h.0 h.2 (omega (arith, same)) in
      let rest = within-rising count (suc j) (suc (h.0.start + h.0.size)) h.5 (λ s is l. let a = run-apart code h.0 s h.2 is (omega (arith, l, same)) in omega (arith, a)) h.6 in
      subst (Rising lo) (sym h.7) (rising-append lo (suc (h.0.start + h.0.size)) h.3 h.5 (rising-lower lo (suc h.0.start) h.3 low first) (run-high h.0 h.2 h.3 h.4) (omega (arith, low)) rest)
  within-rising (suc count) j lo pairs least (inr h) = within-rising count (suc j) lo pairs (λ r is l. least r is (omega (arith, l))) h.1

  pub pairs-rising : (pairs : List Pair) → ArePairs code pairs → Rising 0 pairs
  pairs-rising pairs h = within-rising (length code) 0 0 pairs (λ r is l. omega arith) h

  -- a run with its pairs, among those of the function
  record RunAt (pairs : List Pair) (i : ℕ) : Type 0 where
    run : Run
    is : IsRun (code_of P k) run
    begins : run.start ≡ i
    here : List Pair
    of : PairsOf (code_of P k) run here
    among : (p : Pair) → In p here → In p pairs
    only : (p : Pair) → In p pairs → suc run.start ≤ p.guard → p.guard < suc (run.start + run.size) → In p here

  find : (count j : ℕ) (pairs : List Pair) → PairsWithin code count j pairs → (i : ℕ) → j ≤ i → i < j + count → RunAt pairs i ⊎ ((r : Run) → IsRun code r → r.start ≡ i → ⊥)
  find zero j pairs h i low high = absurd (omega (arith, low, high))
  find (suc count) j pairs (inl h) i low high =
      ⊎_elim
      (λ e. inl (record {
        run = h.0;
        is = h.2;
        begins = h.1 ∙ e;
        here = h.3;
        of = h.4;
        among = λ p m. subst (In p) (sym h.7) (in_append_left p h.3 h.5 m);
        only = λ p m lo hi. ⊎_elim (λ n. n)
            (λ n. absurd (let same = h.1 in let least = rising-least (suc (h.0.start + h.0.size)) h.5 (within-rising count (suc j) (suc (h.0.start + h.0.size)) h.5 (λ s is l. let a = run-apart code h.0 s h.2 is (omega (arith, l, same)) in omega (arith, a)) h.6) p n in omega (arith, least, hi)))
            (in_append_cases p h.3 h.5 (subst (In p) h.7 m));
      }))
      (λ n. ⊎_elim
      (λ r. inl (record {
        run = r.run;
        is = r.is;
        begins = r.begins;
        here = r.here;
        of = r.of;
        among = λ p m. subst (In p) (sym h.7) (in_append_right p h.3 h.5 (r.among p m));
        only = λ p m lo hi. ⊎_elim
            (λ o. absurd (let b = run-high h.0 h.2 h.3 h.4 p o in let same = h.1 in let at = r.begins in let a = run-apart code h.0 r.run h.2 r.is (omega (arith, same, at, low, n)) in omega (arith, b, a, lo)))
            (λ o. r.only p o lo hi) (in_append_cases p h.3 h.5 (subst (In p) h.7 m));
      }))
      inr (find count (suc j) h.5 h.6 i (omega (arith, low, n)) (omega (arith, high))))
      (cases_eq j i)
  find (suc count) j pairs (inr h) i low high =
      ⊎_elim (λ e. inr (λ r is at. h.0 r (at ∙ sym e) is)) (λ n. find count (suc j) pairs h.1 i (omega (arith, low, n)) (omega (arith, high))) (cases_eq j i)

  pub runs-at : (taken : List (List ℕ)) (pairs : List Pair) (exits : List SideExit) → ArePairs code pairs → AreExits taken 1 pairs exits → (i : ℕ) → HasRun code exits i ⊎ ((r : Run) → IsRun code r → r.start ≡ i → ⊥)
  runs-at taken pairs exits are are_exits i = ⊎_elim (λ low. ⊎_elim (λ r. inl (one r)) inr (find (length code) 0 pairs are i (omega arith) (omega (arith, low)))) (λ high. inr (λ r is at. let w = slice_get_within code r.start _ is.opens in omega (arith, high, at, w))) (cases_lt i (length code))
    where
      one : RunAt pairs i → HasRun code exits i
      one r = record {
        run = r.run;
        is = r.is;
        begins = r.begins;
        here = r.here;
        of = r.of;
        exits_of = λ p m.
            let w = pair-exit taken 1 pairs exits are_exits p (r.among p m) in
            (w.0, ap (exit_at exits) (ap (λ (z : Pair). z.guard) (sym w.2)) ∙ first-exit taken 1 0 pairs exits are_exits (pairs-rising pairs are) w.0 w.1, w.2);
        only = λ w m lo hi. r.only w.pair (exit-pair taken 1 pairs exits are_exits w m) lo hi;
      }
