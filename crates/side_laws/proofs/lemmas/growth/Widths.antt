-- From one leave point at most as many labels more are entered as a function has exits; and all numbers of a program.
use Rattle.std.proofs.Common.{◌≡◌, ◌⊎◌, ℕ, zero, suc, ◌+◌, ◌*◌, ◌<◌, ◌≤◌, false, List, [], ◌∷◌, length, Option, Some, None, refl, sym, ap, subst, ◌∙◌, inl, inr, ⊎_elim, arith}
use Rattle.std.specs.Prelude.{slice_get}
use Rattle.std.specs.List.{range_with_len, sum_by}
use Rattle.std.proofs.lemmas.Bool.{cases_eq, cases_lt}
use Rattle.std.proofs.lemmas.List.{length-map}
use Rattle.std.proofs.lemmas.List.Sums.{sum_by-cons}
use Rattle.std.proofs.lemmas.Option.{same_Some, slice_get_within}
use Rattle.program_numbers.specs.Entries.{AreSoMany, Enters, IsEntryWidth}
use Rattle.bril_tree.specs.declared.numbered.Instr.{Instr}
use Rattle.bril_tree.specs.declared.numbered_function.Func.{Func}
use Rattle.bril_tree.specs.declared.program.Prog.{Prog}
use Rattle.bril_tree.specs.Accepted.{IsAccepted}
use Rattle.bril_tree.specs.Membership.{In}
use Rattle.bril_tree.specs.Numbered.{named, tree_at}
use Rattle.bril_tree.specs.Sites.{Opens, item_change}
use Rattle.bril_tree.specs.Step.{code_of, items_of, point_of}
use Rattle.bril_tree.proofs.Assignments.{site_speculates}
use Rattle.bril_tree.proofs.Branches.{label_within}
use Rattle.bril_names.proofs.Naming.{one_number}
use Rattle.pass_edit_laws.specs.numbers.Numbers.{FunctionGrows, adding}
use Rattle.pass_edit_laws.proofs.lemmas.numbers.Edges.{edge-leaves}
use Rattle.pass_edit_laws.proofs.lemmas.numbers.Entering.{labels-within}
use Rattle.pass_edit_laws.proofs.lemmas.numbers.Programs.{functions_grow}
use Rattle.pass_edit_laws.proofs.lemmas.walks.Blocks.{later-item, later-old}
use Rattle.pass_edit_laws.specs.labels.Fresh.{labels_in}
use Rattle.side_laws.specs.Laws.{SideExitsKeepNumbers}
use Rattle.side_laws.specs.Side.{side_growth}
use Rattle.side_laws.specs.Sided.{SideExit, exit_lines, exits_count}
use Rattle.side_laws.specs.Laid.{Laid}
use Rattle.side_laws.proofs.lemmas.acceptance.Accepting.{laid-accepted}
use Rattle.side_laws.proofs.lemmas.layout.Bound.{front, front-last}
use Rattle.side_laws.proofs.lemmas.growth.Entering.{Brought, FromGuard, FromJmp, Entered, L, IsNew, entries-within, entry, tokens}
use Rattle.side_laws.proofs.lemmas.layout.Laying.{laid, laid-exits}
use Rattle.side_laws.proofs.lemmas.growth.Numbers.{arguments-within, depth-within, locations-within}

-- ---- the labels that are entered from one leave point

module _ (P Q : Prog) (accepted : IsAccepted P) (st : Laid P Q) (f : ℕ) (F G : Func) (p : slice_get P.funcs f ≡ Some F) (q : slice_get Q.funcs f ≡ Some G) where
  next-item : (i : ℕ) → i < length (code_of P f) → suc (st.old f i) + st.front f (suc i) ≤ st.old f (suc i)
  next-item i less = let n = st.next f i in omega (arith, n)

  later : (i k : ℕ) → i < k → k ≤ length (code_of P f) → suc (st.old f i) + st.front f k ≤ st.old f k
  later i k less inside = later-item (st.old f) (st.front f) (length (code_of P f)) next-item i k less inside

  old-one : (i k : ℕ) → i ≤ length (code_of P f) → k ≤ length (code_of P f) → st.old f i ≡ st.old f k → i ≡ k
  old-one i k a b e = ⊎_elim (λ l. absurd (let h = later i k l b in omega (arith, h, e))) (λ h. ⊎_elim (λ l. absurd (let g = later k i l a in omega (arith, g, e))) (λ g. omega (arith, h, g)) (cases_lt k i)) (cases_lt i k)

  -- the item of P that stands at a point, if one does
  find-old : (count n : ℕ) → ((i : ℕ) × (i < count) × (st.old f i ≡ n)) ⊎ ((i : ℕ) → i < count → st.old f i ≡ n → ⊥)
  find-old zero n = inr (λ i l e. omega (arith, l))
  find-old (suc count) n = ⊎_elim (λ e. inl (count, omega arith, e)) (λ m. ⊎_elim (λ r. let l = r.1 in inl (r.0, omega (arith, l), r.2)) (λ none. inr (λ i l e. ⊎_elim (λ s. m (ap (st.old f) (sym s) ∙ e)) (λ d. none i (omega (arith, l, d)) e) (cases_eq i count))) (find-old count n)) (cases_eq (st.old f count) n)

  -- where an edge of P leaves there is an item
  from-inside : (i m : ℕ) → Enters F.code (Some i) m → i < length (code_of P f)
  from-inside i m e =
      let a = edge-leaves F.code e.0 e.1 in
      let w = slice_get_within F.code e.0.leave a.0 a.1 in
      subst (λ o. i < length (items_of o)) (sym p) (subst (λ n. n < length F.code) e.2 w)

  site-inside : (s : ℕ) → item_change (slice_get (code_of P f) s) false ≡ Opens → s < length (code_of P f)
  site-inside s opens = by (slice_get (code_of P f) s) refl
    where
      by : (o : Option Instr) → slice_get (code_of P f) s ≡ o → s < length (code_of P f)
      by None e = absurd (let h = ap (λ o. item_change o false) (sym e) ∙ opens in cc)
      by (Some a) e = slice_get_within (code_of P f) s a e

  -- the last line of an exit is no old item
  jmp-apart : (w : SideExit) (among : In w (st.exits f)) (n i : ℕ) → n + 1 ≡ (st.stands f w among).point + length (exit_lines (tree_at P f) (labels_in P f) w) → i ≤ length (code_of P f) → st.old f i ≡ n → ⊥
  jmp-apart w among n i e inside at = ⊎_elim (λ l. before l) (λ h. behind h) (cases_lt i b)
    where
      b : ℕ
      b = point_of w.pair.bail (code_of P f)

      low : st.old f (point_of w.pair.bail (code_of P f)) ≤ (st.stands f w among).point + st.front f (point_of w.pair.bail (code_of P f))
      low = (st.stands f w among).low

      high : (st.stands f w among).point + length (exit_lines (tree_at P f) (labels_in P f) w) ≤ st.old f (point_of w.pair.bail (code_of P f))
      high = (st.stands f w among).high

      before : i < point_of w.pair.bail (code_of P f) → ⊥
      before l = let h = later i (point_of w.pair.bail (code_of P f)) l (label_within w.pair.bail (code_of P f)) in omega (arith, h, low, e, at)

      behind : point_of w.pair.bail (code_of P f) ≤ i → ⊥
      behind h = let g = later-old (st.old f) (st.front f) (length (code_of P f)) next-item (point_of w.pair.bail (code_of P f)) i h inside in omega (arith, g, high, e, at)

  -- from the place of an item, to side labels; from the last line of an exit, to its other label
  SideLabel : ℕ → SideExit → Type 0
  SideLabel l w = named G.labels l ≡ w.name

  OtherLabel : ℕ → SideExit → Type 0
  OtherLabel l w = named G.labels l ≡ named (labels_in P f) w.pair.other

  In' : SideExit → Type 0
  In' w = In w (st.exits f)

  token-in : (exits : List SideExit) (x : SideExit × Brought) → In x (tokens exits) → In x.0 exits
  token-in [] x i = absurd i
  token-in (w ∷ exits) x (inl e) = inl (ap (λ (z : SideExit × Brought). z.0) e)
  token-in (w ∷ exits) x (inr (inl e)) = inl (ap (λ (z : SideExit × Brought). z.0) e)
  token-in (w ∷ exits) x (inr (inr i)) = inr (token-in exits x i)

  from-start : (d e : ℕ) → IsEntryWidth F.code d → AreSoMany (Enters G.code None) e → e ≤ d + length (st.exits f)
  from-start d e a b = labels-within F G SideExit (st.exits f) None (record { from = None; IsExtra = (λ l w. named G.labels l ≡ w.name); one = (λ l k w low high r s. one_number G.labels G.formed.labels_differ l k low high (r ∙ sym s)); labels = labels }) d e a b
    where
      labels : (l : ℕ) → Enters G.code None l → ((w : SideExit) × In w (st.exits f) × (named G.labels l ≡ w.name)) ⊎ ((m : ℕ) × Enters F.code None m × (named F.labels m ≡ named G.labels l))
      labels l enters = by (entry P Q accepted st f F G p q None l enters)
        where
          old : (from : Option ℕ) (m : ℕ) → Enters F.code from m → L P Q accepted st f F G p q None l from → named F.labels m ≡ named G.labels l → (m : ℕ) × Enters F.code None m × (named F.labels m ≡ named G.labels l)
          old None m e r s = (m, e, s)
          old (Some i) m e r s = absurd (let z : None ≡ Some (st.old f i) = r in cc)

          new : (x : SideExit × Brought) → IsNew P Q accepted st f F G p q None l x → ⊥
          new (w, FromGuard) n = let z : None ≡ Some (st.old f n.1.3.0) = n.1.3.3 in cc
          new (w, FromJmp) n = let z : None ≡ Some n.1.1 = n.1.2 in cc

          by : Entered P Q accepted st f F G p q None l → ((w : SideExit) × In w (st.exits f) × (named G.labels l ≡ w.name)) ⊎ ((m : ℕ) × Enters F.code None m × (named F.labels m ≡ named G.labels l))
          by (inl m) = inr (old m.from m.to m.enters m.leaves m.same)
          by (inr n) = absurd (new n.0 n.2)

  from-point : (n d e : ℕ) → IsEntryWidth F.code d → AreSoMany (Enters G.code (Some n)) e → e ≤ d + length (st.exits f)
  from-point n d e a b = ⊎_elim at-old elsewhere (find-old (length (code_of P f)) n)
    where
      at-old : (i : ℕ) × (i < length (code_of P f)) × (st.old f i ≡ n) → e ≤ d + length (st.exits f)
      at-old h = labels-within F G SideExit (st.exits f) (Some n) (record { from = (Some h.0); IsExtra = (λ l w. named G.labels l ≡ w.name); one = (λ l k w low high r s. one_number G.labels G.formed.labels_differ l k low high (r ∙ sym s)); labels = labels }) d e a b
        where
          labels : (l : ℕ) → Enters G.code (Some n) l → ((w : SideExit) × In w (st.exits f) × (named G.labels l ≡ w.name)) ⊎ ((m : ℕ) × Enters F.code (Some h.0) m × (named F.labels m ≡ named G.labels l))
          labels l enters = by (entry P Q accepted st f F G p q (Some n) l enters)
            where
              old : (from : Option ℕ) (m : ℕ) → Enters F.code from m → L P Q accepted st f F G p q (Some n) l from → named F.labels m ≡ named G.labels l → (m : ℕ) × Enters F.code (Some h.0) m × (named F.labels m ≡ named G.labels l)
              old None m e r s = absurd (let z : Some n ≡ None = r in cc)
              old (Some i) m e r s =
                  let less = from-inside i m e in
                  let mine = h.1 in
                  let same : i ≡ h.0 = old-one i h.0 (omega (arith, less)) (omega (arith, mine)) (sym (same_Some n (st.old f i) r) ∙ sym h.2) in
                  (m, subst (λ z. Enters F.code (Some z) m) same e, s)

              new : (x : SideExit × Brought) → In x (tokens (st.exits f)) → IsNew P Q accepted st f F G p q (Some n) l x → (w : SideExit) × In w (st.exits f) × (named G.labels l ≡ w.name)
              new (w, FromGuard) i r = (w, token-in (st.exits f) (w, FromGuard) i, r.0)
              new (w, FromJmp) i r = let mine = h.1 in absurd (jmp-apart w r.1.0 r.1.1 h.0 r.1.3 (omega (arith, mine)) (h.2 ∙ same_Some n r.1.1 r.1.2))

              by : Entered P Q accepted st f F G p q (Some n) l → ((w : SideExit) × In w (st.exits f) × (named G.labels l ≡ w.name)) ⊎ ((m : ℕ) × Enters F.code (Some h.0) m × (named F.labels m ≡ named G.labels l))
              by (inl m) = inr (old m.from m.to m.enters m.leaves m.same)
              by (inr r) = inl (new r.0 r.1 r.2)

      elsewhere : ((i : ℕ) → i < length (code_of P f) → st.old f i ≡ n → ⊥) → e ≤ d + length (st.exits f)
      elsewhere none = labels-within F G SideExit (st.exits f) (Some n) (record { from = None; IsExtra = (λ l w. named G.labels l ≡ named (labels_in P f) w.pair.other); one = (λ l k w low high r s. one_number G.labels G.formed.labels_differ l k low high (r ∙ sym s)); labels = labels }) d e a b
        where
          labels : (l : ℕ) → Enters G.code (Some n) l → ((w : SideExit) × In w (st.exits f) × (named G.labels l ≡ named (labels_in P f) w.pair.other)) ⊎ ((m : ℕ) × Enters F.code None m × (named F.labels m ≡ named G.labels l))
          labels l enters = by (entry P Q accepted st f F G p q (Some n) l enters)
            where
              old : (from : Option ℕ) (m : ℕ) → Enters F.code from m → L P Q accepted st f F G p q (Some n) l from → ⊥
              old None m e r = let z : Some n ≡ None = r in cc
              old (Some i) m e r = none i (from-inside i m e) (sym (same_Some n (st.old f i) r))

              new : (x : SideExit × Brought) → In x (tokens (st.exits f)) → IsNew P Q accepted st f F G p q (Some n) l x → (w : SideExit) × In w (st.exits f) × (named G.labels l ≡ named (labels_in P f) w.pair.other)
              new (w, FromGuard) i r =
                  let opens = site_speculates (code_of P f) r.1.0 r.1.3.0 (subst (In r.1.3.0) (sym r.1.3.2) (inl refl)) in
                  absurd (none r.1.3.0 (site-inside r.1.3.0 opens) (sym (same_Some n (st.old f r.1.3.0) r.1.3.3)))
              new (w, FromJmp) i r = (w, token-in (st.exits f) (w, FromJmp) i, r.0)

              by : Entered P Q accepted st f F G p q (Some n) l → ((w : SideExit) × In w (st.exits f) × (named G.labels l ≡ named (labels_in P f) w.pair.other)) ⊎ ((m : ℕ) × Enters F.code None m × (named F.labels m ≡ named G.labels l))
              by (inl m) = absurd (old m.from m.to m.enters m.leaves)
              by (inr r) = inl (new r.0 r.1 r.2)

  pub width-within : (d e : ℕ) → IsEntryWidth F.code d → IsEntryWidth G.code e → e ≤ d + length (st.exits f)
  width-within d e a b = by b.widest b.has
    where
      by : (leave : Option ℕ) → AreSoMany (Enters G.code leave) e → e ≤ d + length (st.exits f)
      by None h = from-start d e a h
      by (Some n) h = from-point n d e a h

-- ---- programs

range-front : (size : ℕ → ℕ) (k n : ℕ) → sum_by size (range_with_len k n) ≡ front size k n
range-front size k zero = refl
range-front size k (suc n) = let s = sum_by-cons size k (range_with_len (k + 1) n) in let r = range-front size (k + 1) n in let e : k + 1 ≡ suc k = omega arith in let z = ap (λ m. front size m n) e in omega (arith, s, r, z)

twice-front : (size : ℕ → ℕ) (k n : ℕ) → front (λ f. 2 * size f) k n ≡ 2 * front size k n
twice-front size k zero = refl
twice-front size k (suc n) = let r = twice-front size (suc k) n in omega (arith, r)

counts-front : (exits : ℕ → List SideExit) (n : ℕ) → exits_count exits n ≡ front (λ f. length (exits f)) 0 n
counts-front exits zero = refl
counts-front exits (suc n) = let r = counts-front exits n in let l = front-last (λ f. length (exits f)) 0 n in let z : 0 + n ≡ n = omega arith in let e = ap (λ f. length (exits f)) z in omega (arith, r, l, e)

count-one : (exits : ℕ → List SideExit) (n f : ℕ) → f < n → length (exits f) ≤ exits_count exits n
count-one exits zero f less = absurd (omega (arith, less))
count-one exits (suc n) f less = ⊎_elim (λ e. let z = ap (λ m. length (exits m)) e in omega (arith, z)) (λ d. let r = count-one exits n f (omega (arith, less, d)) in omega (arith, r)) (cases_eq f n)

pub exits-keep_numbers : SideExitsKeepNumbers
exits-keep_numbers P Q accepted made =
    functions_grow P Q (side_growth g) more accepted
    (record { locations = λ m n less. less; arguments = λ m n less. less; depth = λ m n less. less; width = λ m n less. omega (arith, less) })
    (λ n. let s = range-front more 0 (length P.funcs) in let t = twice-front (λ f. length (made.exits f)) 0 (length P.funcs) in let c = counts-front made.exits (length P.funcs) in omega (arith, s, t, c))
    (sym (length-map P.funcs (λ (f : Func). f.name)) ∙ ap length (st).heads.names ∙ length-map Q.funcs (λ (f : Func). f.name))
    each
  where
    st : Laid P Q
    st = laid P Q accepted made.exits made.are_exits made.made

    same : (f : ℕ) → (laid P Q accepted made.exits made.are_exits made.made).exits f ≡ made.exits f
    same f = laid-exits P Q accepted made.exits made.are_exits made.made f

    g : ℕ
    g = exits_count made.exits (length P.funcs)

    more : ℕ → ℕ
    more f = 2 * length (made.exits f)

    each : (f : ℕ) (F G : Func) → slice_get P.funcs f ≡ Some F → slice_get Q.funcs f ≡ Some G → FunctionGrows (adding (side_growth (exits_count made.exits (length P.funcs))) (2 * length (made.exits f))) F G
    each f F G p q =
        let st = laid P Q accepted made.exits made.are_exits made.made in
        let long = ap length (same f) in
        let one = count-one made.exits (length P.funcs) f (slice_get_within P.funcs f F p) in
        record {
          locations = locations-within P Q accepted st f F G p q (laid-accepted P Q accepted st);
          arguments = arguments-within P Q accepted st f F G p q;
          depth = depth-within P Q accepted st f F G p q;
          entries = λ d e a b. let h = entries-within P Q accepted st f F G p q d e a b in omega (arith, h, long);
          width = λ d e a b. let h = width-within P Q accepted st f F G p q d e a b in omega (arith, h, long, one);
        }
