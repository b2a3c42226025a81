-- `get`s and `set`s by definitions, and what they are by numbers.
use Rattle.std.proofs.Common.{◌≡◌, ◌⊎◌, ℕ, suc, ◌+◌, ◌<◌, Bool, true, false, List, [], ◌∷◌, ◌++◌, length, map, Option, Some, None, refl, sym, ap, subst, ◌∙◌, inl, inr, ⊎_elim, cond, arith}
use Rattle.std.specs.Prelude.{slice_get, slice_index, ◌==◌}
use Rattle.std.proofs.lemmas.Bool.{eqb-true, eqb-false}
use Rattle.std.proofs.lemmas.Option.{same_Some}
use Rattle.bril_tree.specs.declared.function_tree.Dest.{Dest}
use Rattle.bril_tree.specs.declared.numbered.Instr.{Instr}
use Rattle.bril_tree.specs.declared.numbered.Instr.TheVariants.{Label, Const, Act}
use Rattle.bril_tree.specs.declared.operation.Op.TheVariants as op
use Rattle.bril_tree.specs.declared.program.Prog.{Prog}
use Rattle.bril_tree.specs.declared.types.Ty.{Ty}
use Rattle.bril_tree.specs.FunctionForm.{listed}
use Rattle.bril_tree.specs.Numbered.{named, typed_name, dest_tree, item_tree}
use Rattle.bril_tree.specs.Operand.{Location, Variable, Shadow}
use Rattle.bril_tree.specs.Step.{item_at}
use Rattle.bril_tree.specs.Membership.{In}
use Rattle.bril_names.specs.Range.{AreBelow}
use Rattle.bril_tree.specs.Numbered.{names_of_functions}
use Rattle.bril_names.proofs.Naming.{one_number}
use Rattle.bril_tree.specs.Numbered.{names_in, tree_at}
use Rattle.pass_edit_laws.proofs.lemmas.names.Points.{Found, Differ-in}
use Rattle.pass_edit_laws.proofs.lemmas.names.Points.{found}
use Rattle.bril_tree.proofs.Trees.{nothing_at}
use Rattle.ssa_laws.specs.inserted_copies.Inserted.{got, put, source, sources}
use Rattle.ssa_laws.specs.layout.Laid.{Setting, get_tree, set_tree}

-- what holds a location: a definition's variable or its shadow
pub data Slot : Type 0 where
  InVariable : (y : ℕ) → Slot
  InShadow : (y : ℕ) → Slot

abbrev pub fetched : ℕ → Slot → Slot
fetched y (InVariable u) = cond (u == y) (InShadow u) (InVariable u)
fetched y (InShadow u) = InShadow u

abbrev pub stored : Setting → Slot → Slot
stored s (InVariable u) = InVariable u
stored s (InShadow u) = cond (u == s.get) (InVariable s.from) (InShadow u)

abbrev pub through_gets : List ℕ → Slot → Slot
through_gets [] c = c
through_gets (y ∷ ys) c = fetched y (through_gets ys c)

abbrev pub through_sets : List Setting → Slot → Slot
through_sets [] c = c
through_sets (s ∷ ss) c = stored s (through_sets ss c)

-- ---- what they give

sets-variable : (ss : List Setting) (u : ℕ) → through_sets ss (InVariable u) ≡ InVariable u
sets-variable [] u = refl
sets-variable (s ∷ ss) u = ap (stored s) (sets-variable ss u)

pub sets-keep : (ss : List Setting) (u : ℕ) → through_sets ss (InVariable u) ≡ InVariable u
sets-keep = sets-variable

-- a shadow that is set is where it is set from
pub sets-give : (ss : List Setting) (u z : ℕ) → In (record { get = u; from = z }) ss → (s : Setting) × In s ss × (s.get ≡ u) × (through_sets ss (InShadow u) ≡ InVariable s.from)
sets-give [] u z i = absurd i
sets-give (s ∷ ss) u z i = by (through_sets ss (InShadow u)) refl (rest ss)
  where
    -- the rest gives the shadow itself, or has set it
    rest : (ss : List Setting) → (through_sets ss (InShadow u) ≡ InShadow u) ⊎ ((r : Setting) × In r ss × (r.get ≡ u) × (through_sets ss (InShadow u) ≡ InVariable r.from))
    rest [] = inl refl
    rest (r ∷ rs) = more r rs (rest rs)
      where
        more : (r : Setting) (rs : List Setting) → (through_sets rs (InShadow u) ≡ InShadow u) ⊎ ((q : Setting) × In q rs × (q.get ≡ u) × (through_sets rs (InShadow u) ≡ InVariable q.from))
            → (through_sets (r ∷ rs) (InShadow u) ≡ InShadow u) ⊎ ((q : Setting) × In q (r ∷ rs) × (q.get ≡ u) × (through_sets (r ∷ rs) (InShadow u) ≡ InVariable q.from))
        more r rs (inl e) = test (u == r.get) refl
          where
            test : (d : Bool) → (u == r.get) ≡ d → (through_sets (r ∷ rs) (InShadow u) ≡ InShadow u) ⊎ ((q : Setting) × In q (r ∷ rs) × (q.get ≡ u) × (through_sets (r ∷ rs) (InShadow u) ≡ InVariable q.from))
            test true h = inr (r, inl refl, sym (eqb-true u r.get h), ap (stored r) e ∙ ap (λ d. cond d (InVariable r.from) (InShadow u)) h)
            test false h = inl (ap (stored r) e ∙ ap (λ d. cond d (InVariable r.from) (InShadow u)) h)
        more r rs (inr q) = inr (q.0, inr q.1, q.2, ap (stored r) q.3)

    by : (c : Slot) → through_sets ss (InShadow u) ≡ c → (through_sets ss (InShadow u) ≡ InShadow u) ⊎ ((r : Setting) × In r ss × (r.get ≡ u) × (through_sets ss (InShadow u) ≡ InVariable r.from))
        → (r : Setting) × In r (s ∷ ss) × (r.get ≡ u) × (through_sets (s ∷ ss) (InShadow u) ≡ InVariable r.from)
    by c e (inr q) = (q.0, inr q.1, q.2, ap (stored s) q.3)
    by c e (inl k) = test (u == s.get) refl
      where
        test : (d : Bool) → (u == s.get) ≡ d → (r : Setting) × In r (s ∷ ss) × (r.get ≡ u) × (through_sets (s ∷ ss) (InShadow u) ≡ InVariable r.from)
        test true h = (s, inl refl, sym (eqb-true u s.get h), ap (stored s) k ∙ ap (λ d. cond d (InVariable s.from) (InShadow u)) h)
        test false h = absurd (unset i k)
          where
            unset : In (record { get = u; from = z }) (s ∷ ss) → through_sets ss (InShadow u) ≡ InShadow u → ⊥
            unset (inl q) k = eqb-false u s.get h (ap (λ (x : Setting). x.get) q)
            unset (inr q) k = hit ss q k
              where
                hit : (ss : List Setting) → In (record { get = u; from = z }) ss → through_sets ss (InShadow u) ≡ InShadow u → ⊥
                hit [] q k = q
                hit (r ∷ rs) q k = go r rs q (through_sets rs (InShadow u)) refl k (λ q e. hit rs q e)
                  where
                    go : (r : Setting) (rs : List Setting) → In (record { get = u; from = z }) (r ∷ rs) → (c : Slot) → through_sets rs (InShadow u) ≡ c → stored r (through_sets rs (InShadow u)) ≡ InShadow u → (In (record { get = u; from = z }) rs → through_sets rs (InShadow u) ≡ InShadow u → ⊥) → ⊥
                    go r rs q (InVariable w) e k rec = let x : InVariable w ≡ InShadow u = sym (ap (stored r) e) ∙ k in cc
                    go r rs q (InShadow w) e k rec = at (w == r.get) refl q
                      where
                        at : (d : Bool) → (w == r.get) ≡ d → In (record { get = u; from = z }) (r ∷ rs) → ⊥
                        at true g q = let x : InVariable r.from ≡ InShadow u = sym (ap (λ d. cond d (InVariable r.from) (InShadow w)) g) ∙ sym (ap (stored r) e) ∙ k in cc
                        at false g q =
                            let x : InShadow w ≡ InShadow u = sym (ap (λ d. cond d (InVariable r.from) (InShadow w)) g) ∙ sym (ap (stored r) e) ∙ k in
                            let wu : w ≡ u = cc in
                            ⊎_elim (λ p. eqb-false w r.get g (wu ∙ ap (λ (x : Setting). x.get) p)) (λ p. rec p (e ∙ x)) q

-- a variable that is got is in its shadow before
pub gets-give : (ys : List ℕ) (u : ℕ) → (In u ys × (through_gets ys (InVariable u) ≡ InShadow u)) ⊎ ((In u ys → ⊥) × (through_gets ys (InVariable u) ≡ InVariable u))
gets-give [] u = inr ((λ h. h), refl)
gets-give (y ∷ ys) u = by (gets-give ys u) (u == y) refl
  where
    by : (In u ys × (through_gets ys (InVariable u) ≡ InShadow u)) ⊎ ((In u ys → ⊥) × (through_gets ys (InVariable u) ≡ InVariable u)) → (d : Bool) → (u == y) ≡ d
        → (In u (y ∷ ys) × (through_gets (y ∷ ys) (InVariable u) ≡ InShadow u)) ⊎ ((In u (y ∷ ys) → ⊥) × (through_gets (y ∷ ys) (InVariable u) ≡ InVariable u))
    by (inl h) d e = inl (inr h.0, ap (fetched y) h.1)
    by (inr h) true e = inl (inl (eqb-true u y e), ap (fetched y) h.1 ∙ ap (λ d. cond d (InShadow u) (InVariable u)) e)
    by (inr h) false e = inr ((λ i. ⊎_elim (λ s. eqb-false u y e s) h.0 i), ap (fetched y) h.1 ∙ ap (λ d. cond d (InShadow u) (InVariable u)) e)

-- ---- slots and locations

module _ (Q : Prog) (f : ℕ) (name : ℕ → List ℕ) (injective : (y z : ℕ) → name y ≡ name z → y ≡ z) where
  abbrev pub W : List (List ℕ)
  W = names_in (slice_get Q.funcs f)

  abbrev pub Stands : Slot → Location → Type 0
  Stands (InVariable u) (Variable x) = (x < length (names_in (slice_get Q.funcs f))) × (named (names_in (slice_get Q.funcs f)) x ≡ name u)
  Stands (InVariable u) (Shadow x) = ⊥
  Stands (InShadow u) (Variable x) = ⊥
  Stands (InShadow u) (Shadow x) = (x < length (names_in (slice_get Q.funcs f))) × (named (names_in (slice_get Q.funcs f)) x ≡ name u)

  pub one : (x d : ℕ) → x < length W → d < length W → named W x ≡ named W d → x ≡ d
  one x d l k e = one_number W (Differ-in (slice_get Q.funcs f)) x d l k e

  -- a `get`
  got-stands : (y d : ℕ) → d < length W → named W d ≡ name y → (c : Slot) (b : Location) → Stands c b → Stands (fetched y c) (got (Some d) b)
  got-stands y d dl dy (InVariable u) (Shadow x) h = absurd h
  got-stands y d dl dy (InShadow u) (Variable x) h = absurd h
  got-stands y d dl dy (InShadow u) (Shadow x) h = h
  got-stands y d dl dy (InVariable u) (Variable x) h = by (u == y) (x == d) refl refl
    where
      by : (s t : Bool) → (u == y) ≡ s → (x == d) ≡ t → Stands (cond (u == y) (InShadow u) (InVariable u)) (cond (x == d) (Shadow d) (Variable x))
      by true true s t = subst (λ s. Stands (cond s (InShadow u) (InVariable u)) (cond (x == d) (Shadow d) (Variable x))) (sym s) (subst (λ t. Stands (InShadow u) (cond t (Shadow d) (Variable x))) (sym t) (dl, dy ∙ ap name (sym (eqb-true u y s))))
      by false false s t = subst (λ s. Stands (cond s (InShadow u) (InVariable u)) (cond (x == d) (Shadow d) (Variable x))) (sym s) (subst (λ t. Stands (InVariable u) (cond t (Shadow d) (Variable x))) (sym t) h)
      by true false s t = absurd (eqb-false x d t (one x d h.0 dl (h.1 ∙ ap name (eqb-true u y s) ∙ sym dy)))
      by false true s t = absurd (eqb-false u y s (injective u y (sym h.1 ∙ ap (named W) (eqb-true x d t) ∙ dy)))

  -- a `set`
  put-stands : (s : Setting) (d e : ℕ) → d < length W → named W d ≡ name s.get → e < length W → named W e ≡ name s.from → (c : Slot) (b : Location) → Stands c b → Stands (stored s c) (put d e b)
  put-stands s d e dl ds el es (InVariable u) (Shadow x) h = absurd h
  put-stands s d e dl ds el es (InShadow u) (Variable x) h = absurd h
  put-stands s d e dl ds el es (InVariable u) (Variable x) h = h
  put-stands s d e dl ds el es (InShadow u) (Shadow x) h = by (u == s.get) (x == d) refl refl
    where
      by : (g t : Bool) → (u == s.get) ≡ g → (x == d) ≡ t → Stands (cond (u == s.get) (InVariable s.from) (InShadow u)) (cond (x == d) (Variable e) (Shadow x))
      by true true g t = subst (λ g. Stands (cond g (InVariable s.from) (InShadow u)) (cond (x == d) (Variable e) (Shadow x))) (sym g) (subst (λ t. Stands (InVariable s.from) (cond t (Variable e) (Shadow x))) (sym t) (el, es))
      by false false g t = subst (λ g. Stands (cond g (InVariable s.from) (InShadow u)) (cond (x == d) (Variable e) (Shadow x))) (sym g) (subst (λ t. Stands (InShadow u) (cond t (Variable e) (Shadow x))) (sym t) h)
      by true false g t = absurd (eqb-false x d t (one x d h.0 dl (h.1 ∙ ap name (eqb-true u s.get g) ∙ sym ds)))
      by false true g t = absurd (eqb-false u s.get g (injective u s.get (sym h.1 ∙ ap (named W) (eqb-true x d t) ∙ ds)))

  -- ---- the items

  get-there : (j y : ℕ) (ty : Ty) (c : Slot) (b : Location) → tree_at Q f j ≡ Some (get_tree (name y) ty) → Stands c b → Stands (fetched y c) (source (item_at Q f j) b)
  get-there j y ty c b tree h = by (item_at Q f j) refl
    where
      parts : (d : Option ℕ) (t : Option Ty) → dest_tree W d t ≡ Some (typed_name (name y) ty) → AreBelow (length W) (listed d) → Stands (fetched y c) (got d b)
      parts None t e r = absurd cc
      parts (Some d) None e r = absurd cc
      parts (Some d) (Some t) e r = got-stands y d r.0 (ap (λ (z : Dest). z.name) (same_Some (typed_name (named W d) t) (typed_name (name y) ty) e)) c b h

      below : (d : Option ℕ) (args : List ℕ) → AreBelow (length W) (listed d ++ args) → AreBelow (length W) (listed d)
      below None args r = tt
      below (Some x) args r = (r.0, tt)

      by_item : (a : Instr) → (g : Found Q f j a) → item_tree (names_of_functions Q.funcs) W g.function.labels a ≡ get_tree (name y) ty → Stands (fetched y c) (source (Some a) b)
      by_item (Label l) g e = absurd cc
      by_item (Const d t v) g e = absurd cc
      by_item (Act d t o args fns ls) g e =
          let eo : op.Get ≡ o = cc in
          let ed : dest_tree W d t ≡ Some (typed_name (name y) ty) = cc in
          subst (λ z. Stands (fetched y c) (source (Some (Act d t z args fns ls)) b)) eo (parts d t ed (below d args g.range.variables))

      by : (o : Option Instr) → item_at Q f j ≡ o → Stands (fetched y c) (source o b)
      by None e = absurd (let x = sym (nothing_at Q f j e) ∙ tree in cc)
      by (Some a) e = let g = found Q f j a e in by_item a g (same_Some _ _ (sym g.tree ∙ tree))

  set-there : (j : ℕ) (s : Setting) (c : Slot) (b : Location) → tree_at Q f j ≡ Some (set_tree (name s.get) (name s.from)) → Stands c b → Stands (stored s c) (source (item_at Q f j) b)
  set-there j s c b tree h = by (item_at Q f j) refl
    where
      parts : (d : Option ℕ) (args : List ℕ) → map (named W) args ≡ name s.get ∷ name s.from ∷ [] → AreBelow (length W) args → Stands (stored s c) (put (slice_index args 0) (slice_index args 1) b)
      parts d [] e r = absurd cc
      parts d (x ∷ []) e r = absurd cc
      parts d (x ∷ y ∷ z ∷ args) e r = absurd cc
      parts d (x ∷ y ∷ []) e r =
          let ex : named W x ≡ name s.get = cc in
          let ey : named W y ≡ name s.from = cc in
          put-stands s x y r.0 ex r.1.0 ey c b h

      below : (d : Option ℕ) (args : List ℕ) → AreBelow (length W) (listed d ++ args) → AreBelow (length W) args
      below None args r = r
      below (Some x) args r = r.1

      by_item : (a : Instr) → (g : Found Q f j a) → item_tree (names_of_functions Q.funcs) W g.function.labels a ≡ set_tree (name s.get) (name s.from) → Stands (stored s c) (source (Some a) b)
      by_item (Label l) g e = absurd cc
      by_item (Const d t v) g e = absurd cc
      by_item (Act d t o args fns ls) g e =
          let eo : op.Set ≡ o = cc in
          let ea : map (named W) args ≡ name s.get ∷ name s.from ∷ [] = cc in
          subst (λ z. Stands (stored s c) (source (Some (Act d t z args fns ls)) b)) eo (parts d args ea (below d args g.range.variables))

      by : (o : Option Instr) → item_at Q f j ≡ o → Stands (stored s c) (source o b)
      by None e = absurd (let x = sym (nothing_at Q f j e) ∙ tree in cc)
      by (Some a) e = let g = found Q f j a e in by_item a g (same_Some _ _ (sym g.tree ∙ tree))

  -- ---- lists of them

  pub sets-there : (ss : List Setting) (j : ℕ) (c : Slot) (b : Location) → ((t : ℕ) (s : Setting) → slice_get ss t ≡ Some s → tree_at Q f (j + t) ≡ Some (set_tree (name s.get) (name s.from))) → Stands c b → Stands (through_sets ss c) (sources Q f (length ss) j b)
  sets-there [] j c b trees h = h
  sets-there (s ∷ ss) j c b trees h =
      let here : j + 0 ≡ j = omega arith in
      set-there j s (through_sets ss c) (sources Q f (length ss) (suc j) b) (ap (tree_at Q f) (sym here) ∙ trees 0 s refl)
      (sets-there ss (suc j) c b (λ t r e. (let n : suc j + t ≡ j + suc t = omega arith in ap (tree_at Q f) n) ∙ trees (suc t) r e) h)

  pub gets-there : (ys : List ℕ) (j n : ℕ) (c : Slot) (b : Location) → ((t y : ℕ) → slice_get ys t ≡ Some y → (ty : Ty) × (tree_at Q f (j + t) ≡ Some (get_tree (name y) ty))) → Stands c (sources Q f n (j + length ys) b) → Stands (through_gets ys c) (sources Q f (length ys + n) j b)
  gets-there [] j n c b trees h =
      let e : 0 + n ≡ n = omega arith in
      let k : j + 0 ≡ j = omega arith in
      subst (λ m. Stands c (sources Q f m j b)) (sym e) (subst (λ m. Stands c (sources Q f n m b)) k h)
  gets-there (y ∷ ys) j n c b trees h =
      let here : j + 0 ≡ j = omega arith in
      let first = trees 0 y refl in
      let e : suc (length ys + n) ≡ suc (length ys) + n = omega arith in
      let k : j + suc (length ys) ≡ suc j + length ys = omega arith in
      subst (λ m. Stands (fetched y (through_gets ys c)) (sources Q f m j b)) e
      (get-there j y first.0 (through_gets ys c) (sources Q f (length ys + n) (suc j) b) (ap (tree_at Q f) (sym here) ∙ first.1)
      (gets-there ys (suc j) n c b (λ t r q. let z = trees (suc t) r q in (z.0, (let m : suc j + t ≡ j + suc t = omega arith in ap (tree_at Q f) m) ∙ z.1)) (subst (λ m. Stands c (sources Q f n m b)) k h)))
