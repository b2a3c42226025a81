-- A function has one list of pairs, so a program has one bound.
use Rattle.std.proofs.Common.{◌≡◌, ◌⊎◌, ℕ, zero, suc, ◌+◌, ◌<◌, ◌≤◌, true, false, List, [], ◌∷◌, ◌++◌, length, Option, refl, sym, ap, subst, ◌∙◌, inl, inr, arith}
use Rattle.std.specs.Prelude.{slice_get, slice_index}
use Rattle.std.specs.List.{sum_by}
use Rattle.std.proofs.lemmas.Bool.{cases_lt}
use Rattle.std.proofs.lemmas.List.Sums.{sum_by-cons}
use Rattle.bril_tree.specs.declared.numbered.Instr.{Instr}
use Rattle.bril_tree.specs.declared.program.Prog.{Prog}
use Rattle.bril_tree.specs.Size.{item_count}
use Rattle.bril_tree.specs.Step.{code_of, point_of}
use Rattle.side_laws.specs.Paired.{is_guard, labels_of_item, Run, IsRun, Inverts, Pairs, Keeps, Ends, Pair, Pairing, BeginsWith, stands, pairs_by, PairsFrom, PairsOf, PairsWithin, ArePairs, Walker, settled, IsBranchOn}
use Rattle.side_laws.specs.Sided.{SideExit, AreExits, IsSideBound, exit_size, exits_size}
use Rattle.side_laws.proofs.lemmas.pairs.Runs.{run-size}

same-turn : (o : Option Instr) (c d on off on' off' : ℕ) → IsBranchOn o c on off → IsBranchOn o d on' off' → (on ≡ on') × (off ≡ off')
same-turn o c d on off on' off' a b =
    let e : on ∷ off ∷ [] ≡ on' ∷ off' ∷ [] = ap labels_of_item (sym a ∙ b) in
    (ap (λ l. slice_index l 0) e, ap (λ l. slice_index l 1) e)

nil-one : (xs ys : List Pair) → xs ≡ [] → ys ≡ [] → xs ≡ ys
nil-one xs ys a b = a ∙ sym b

begins-one : (first first' : Pair) → first ≡ first' → (X X' : List Pair → Type 0) → ((xs ys : List Pair) → X xs → X' ys → xs ≡ ys) → (xs ys : List Pair) → BeginsWith first X xs → BeginsWith first' X' ys → xs ≡ ys
begins-one first first' e X X' one [] ys a b = absurd a
begins-one first first' e X X' one (x ∷ xs) [] a b = absurd b
begins-one first first' e X X' one (x ∷ xs) (y ∷ ys) a b = let s : x ≡ y = a.0 ∙ e ∙ sym b.0 in let r = one xs ys a.1 b.1 in λ i. s i ∷ r i

module _ (code : List Instr) (bail : ℕ) where
  abbrev AreOne : Pairing → Type 0
  AreOne X = (i : ℕ) (w : Walker) (kept : List ℕ) (xs ys : List Pair) → X i w kept xs → X i w kept ys → xs ≡ ys

  met-one : (X Y : Pairing) → AreOne X → AreOne Y → AreOne (pairs_by code bail X Y)
  met-one X Y ox oy i w kept xs ys = by
    where
      a : ℕ
      a = (settled code w.left w.point).point

      standing : (left : ℕ) → stands code bail X Y i left (settled code w.left w.point).point kept xs → stands code bail X Y i left (settled code w.left w.point).point kept ys → xs ≡ ys
      standing zero h g = nil-one xs ys h g
      standing (suc left) (Inverts c on off h, x) (Inverts d on' off' g, y) =
          let s = same-turn (slice_get code (settled code w.left w.point).point) c d on off on' off' h.turns g.turns in
          begins-one (record { guard = suc i; bail = bail; kept = kept; other = on }) (record { guard = suc i; bail = bail; kept = kept; other = on' }) (λ z. record { guard = suc i; bail = bail; kept = kept; other = s.0 z })
          (Y (suc (suc i)) (record { left = left; point = point_of off code }) kept) (Y (suc (suc i)) (record { left = left; point = point_of off' code }) kept)
          (λ xs' ys' x' y'. oy (suc (suc i)) (record { left = left; point = point_of off code }) kept xs' ys' x' (subst (λ o. Y (suc (suc i)) (record { left = left; point = point_of o code }) kept ys') (sym s.1) y')) xs ys x y
      standing (suc left) (Inverts c on off h, x) (Pairs d on' off' n g, y) = absurd (n c on off h)
      standing (suc left) (Inverts c on off h, x) (Keeps n m g, y) = absurd (n c on off h)
      standing (suc left) (Inverts c on off h, x) (Ends n m g, y) = absurd (n c on off h)
      standing (suc left) (Pairs c on off n h, x) (Inverts d on' off' g, y) = absurd (n d on' off' g)
      standing (suc left) (Pairs c on off n h, x) (Pairs d on' off' m g, y) =
          let s = same-turn (slice_get code (settled code w.left w.point).point) c d on off on' off' h.turns g.turns in
          begins-one (record { guard = i; bail = bail; kept = kept; other = off }) (record { guard = i; bail = bail; kept = kept; other = off' }) (λ z. record { guard = i; bail = bail; kept = kept; other = s.1 z })
          (X (suc i) (record { left = left; point = point_of on code }) kept) (X (suc i) (record { left = left; point = point_of on' code }) kept)
          (λ xs' ys' x' y'. ox (suc i) (record { left = left; point = point_of on code }) kept xs' ys' x' (subst (λ o. X (suc i) (record { left = left; point = point_of o code }) kept ys') (sym s.0) y')) xs ys x y
      standing (suc left) (Pairs c on off n h, x) (Keeps m k g, y) = absurd (k c on off h)
      standing (suc left) (Pairs c on off n h, x) (Ends m k g, y) = absurd (k c on off h)
      standing (suc left) (Keeps n m h, x) (Inverts d on' off' g, y) = absurd (n d on' off' g)
      standing (suc left) (Keeps n m h, x) (Pairs d on' off' k g, y) = absurd (m d on' off' g)
      standing (suc left) (Keeps n m h, x) (Keeps k j g, y) = ox (suc i) (record { left = left; point = suc (settled code w.left w.point).point }) (kept ++ i ∷ []) xs ys x y
      standing (suc left) (Keeps n m h, x) (Ends k j g, y) = absurd (g h)
      standing (suc left) (Ends n m h, x) (Inverts d on' off' g, y) = absurd (n d on' off' g)
      standing (suc left) (Ends n m h, x) (Pairs d on' off' k g, y) = absurd (m d on' off' g)
      standing (suc left) (Ends n m h, x) (Keeps k j g, y) = absurd (h g)
      standing (suc left) (Ends n m h, x) (Ends k j g, y) = nil-one xs ys x y

      by : pairs_by code bail X Y i w kept xs → pairs_by code bail X Y i w kept ys → xs ≡ ys
      by (inl h) (inl g) = ox (suc i) w kept xs ys h.1 g.1
      by (inl h) (inr g) = absurd (let z : true ≡ false = sym h.0 ∙ g.0 in cc)
      by (inr h) (inl g) = absurd (let z : true ≡ false = sym g.0 ∙ h.0 in cc)
      by (inr h) (inr g) = standing (settled code w.left w.point).left h.1 g.1

  pub from-one : (room : ℕ) → AreOne (PairsFrom code bail room)
  from-one zero i w kept xs ys h g = nil-one xs ys h g
  from-one (suc zero) i w kept xs ys h g = met-one (PairsFrom code bail zero) (λ i w kept pairs. ⊥) (from-one zero) (λ i w kept xs ys x y. absurd x) i w kept xs ys h g
  from-one (suc (suc room)) i w kept xs ys h g = met-one (PairsFrom code bail (suc room)) (PairsFrom code bail room) (from-one (suc room)) (from-one room) i w kept xs ys h g

module _ (code : List Instr) where
  run-one : (r s : Run) → IsRun code r → IsRun code s → r.start ≡ s.start → r ≡ s
  run-one r s a b start =
      let size : r.size ≡ s.size = same (cases_lt r.size s.size) (cases_lt s.size r.size) in
      let there : suc (r.start + a.guard) ≡ suc (s.start + a.guard) = ap (λ n. suc (n + a.guard)) start in
      let mine = a.guards a.guard a.guard_in a.guard_is in
      let less = a.guard_in in
      let theirs = b.guards a.guard (omega (arith, less, size)) (ap (λ n. is_guard (slice_get code n)) (sym there) ∙ a.guard_is) in
      let labels : r.bail ∷ [] ≡ s.bail ∷ [] = sym mine ∙ ap (λ n. labels_of_item (slice_get code n)) there ∙ theirs in
      let bail : r.bail ≡ s.bail = ap (λ l. slice_index l 0) labels in
      λ i. record { start = start i; size = size i; bail = bail i }
    where
      same : (r.size < s.size) ⊎ (s.size ≤ r.size) → (s.size < r.size) ⊎ (r.size ≤ s.size) → r.size ≡ s.size
      same (inl l) d = absurd (run-size code r s a b start l)
      same (inr h) (inl l) = absurd (run-size code s r b a (sym start) l)
      same (inr h) (inr k) = omega (arith, h, k)

  within-one : (count k : ℕ) (xs ys : List Pair) → PairsWithin code count k xs → PairsWithin code count k ys → xs ≡ ys
  within-one zero k xs ys h g = nil-one xs ys h g
  within-one (suc count) k xs ys (inl h) (inl g) =
      let r : h.0 ≡ g.0 = run-one h.0 g.0 h.2 g.2 (h.1 ∙ sym g.1) in
      let here : h.3 ≡ g.3 = from-one code g.0.bail g.0.size (suc g.0.start) (record { left = 1023; point = suc (point_of g.0.bail code) }) [] h.3 g.3 (subst (λ z. PairsOf code z h.3) r h.4) g.4 in
      let rest : h.5 ≡ g.5 = within-one count (suc k) h.5 g.5 h.6 g.6 in
      h.7 ∙ (λ i. here i ++ rest i) ∙ sym g.7
  within-one (suc count) k xs ys (inl h) (inr g) = absurd (g.0 h.0 h.1 h.2)
  within-one (suc count) k xs ys (inr h) (inl g) = absurd (h.0 g.0 g.1 g.2)
  within-one (suc count) k xs ys (inr h) (inr g) = within-one count (suc k) xs ys h.1 g.1

  pub pairs-one : (xs ys : List Pair) → ArePairs code xs → ArePairs code ys → xs ≡ ys
  pairs-one xs ys h g = within-one (length code) 0 xs ys h g

-- ---- the bound

abbrev pub pair_size : Pair → ℕ
pair_size p = length p.kept + 2

pub exits-sum : (taken : List (List ℕ)) (J : ℕ) (pairs : List Pair) (exits : List SideExit) → AreExits taken J pairs exits → sum_by exit_size exits ≡ sum_by pair_size pairs
exits-sum taken J [] exits h = ap (sum_by exit_size) h
exits-sum taken J (p ∷ pairs) [] h = absurd h
exits-sum taken J (p ∷ pairs) (w ∷ exits) h =
    let rest = exits-sum taken (suc J) pairs exits h.2 in
    let one = ap pair_size h.0 in
    let a = sum_by-cons exit_size w exits in
    let b = sum_by-cons pair_size p pairs in
    omega (arith, rest, one, a, b)

pub bound-one : (P : Prog) (j k : ℕ) → IsSideBound P j → IsSideBound P k → j ≡ k
bound-one P j k a b = a.is ∙ ap (λ n. item_count P + n) (sizes (length P.funcs)) ∙ sym b.is
  where
    each : (f : ℕ) → sum_by exit_size (a.exits f) ≡ sum_by exit_size (b.exits f)
    each f =
        exits-sum _ 1 (a.are_exits.pairs f) (a.exits f) (a.are_exits.are_exits f) ∙ ap (sum_by pair_size) (pairs-one (code_of P f) (a.are_exits.pairs f) (b.are_exits.pairs f) (a.are_exits.are_pairs f) (b.are_exits.are_pairs f))
        ∙ sym (exits-sum _ 1 (b.are_exits.pairs f) (b.exits f) (b.are_exits.are_exits f))

    sizes : (n : ℕ) → exits_size a.exits n ≡ exits_size b.exits n
    sizes zero = refl
    sizes (suc n) = let r = sizes n in let e = each n in omega (arith, r, e)
