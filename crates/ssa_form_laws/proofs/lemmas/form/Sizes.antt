-- How long laid code is: at most two items more for each live entry of its function.
use Rattle.std.proofs.Common.{◌≡◌, ◌≢◌, ◌⊎◌, ℕ, zero, suc, ◌+◌, ◌-◌, ◌*◌, ◌≤◌, ◌/◌, Bool, true, false, List, [], ◌∷◌, ◌++◌, length, map, Option, Some, None, refl, sym, ap, subst, ◌∙◌, inl, inr, ⊎_elim, arith}
use Rattle.std.specs.Prelude.{slice_get, slice_index, slice_index_or}
use Rattle.std.specs.List.{AllPairs, flat_map, range_with_len, sum_by}
use Rattle.std.proofs.lemmas.Bool.{cases_lt}
use Rattle.std.proofs.lemmas.List.{length-append, length-map}
use Rattle.std.proofs.lemmas.List.Concat.{length-flat_map}
use Rattle.std.proofs.lemmas.List.Kept.{AllPairs-cons}
use Rattle.std.proofs.lemmas.List.Sums.{sum_by-cons}
use Rattle.std.proofs.lemmas.Option.{same_Some}
use Rattle.bril_tree.specs.declared.function_tree.FuncTree.{FuncTree}
use Rattle.bril_tree.specs.declared.function_tree.Item.{Item}
use Rattle.bril_tree.specs.declared.numbered.Instr.TheVariants.{Label}
use Rattle.bril_tree.specs.declared.numbered.VarInfo.{VarInfo}
use Rattle.bril_tree.specs.declared.numbered_function.Func.{Func}
use Rattle.bril_tree.specs.declared.program.Prog.{Prog}
use Rattle.bril_tree.specs.declared.types.Ty.{Ty}
use Rattle.bril_tree.specs.Accepted.{IsAcceptedFunction}
use Rattle.bril_tree.specs.Membership.{In}
use Rattle.bril_tree.specs.Numbered.{function_tree}
use Rattle.bril_tree.specs.Operand.{Location}
use Rattle.bril_tree.specs.Typing.{variable_type}
use Rattle.bril_tree.proofs.Counting.{differ-first, differ-rest, no_more, no_more_items}
use Rattle.bril_tree.proofs.LabelPoints.{label-one}
use Rattle.bril_tree.proofs.Members.{in_append_cases, in_contains, in_flat_map_source, in_map_source}
use Rattle.flow_graph.specs.Location.{number_of}
use Rattle.ssa_laws.specs.live_entries.LiveEntries.{IsLiveEntry, IsLiveEntryCount}
use Rattle.pass_edit_laws.proofs.lemmas.numbers.Different.{differ-both, differ-map, range-differ}
use Rattle.pass_edit_laws.proofs.lemmas.plan.Elements.{in_all}
use Rattle.program_numbers.specs.Entries.{Enters}
use Rattle.ssa_search.specs.accesses.Entries.{EntersAt}
use Rattle.ssa_build.specs.code.Items.{get_item, get_items, name_in, set_item, typed_get}
use Rattle.ssa_build.specs.code.Sweep.{falls_at, laid_items, sets_falling, sets_to}
use Rattle.ssa_search.specs.gets.Wants.{gets_of}
use Rattle.ssa_build.specs.operands.Operands.{HasTwoSources, base_of}
use Rattle.ssa_build.specs.sources.Sweeping.{leave_at, told_at}
use Rattle.ssa_build.proofs.lemmas.sources.Leaving.{source-set}
use Rattle.ssa_search.specs.declared.renaming.now.WantedGet.{WantedGet}
use Rattle.ssa_laws.specs.reaching_definitions.Laws.{IsTabled}
use Rattle.ssa_build.specs.tree.Made.{IsLaidFunction}
use Rattle.ssa_form_laws.proofs.lemmas.form.Edges.{row-edge}
use Rattle.ssa_form_laws.proofs.lemmas.form.Fronts.{Apart, IsStaying, apart-first, apart-rest, falls-part, gets-part, is-staying, leaves-part, staying, staying-apart}
use Rattle.ssa_form_laws.proofs.lemmas.form.Points.{code-made, front, layout, long, now, own, piece}

-- ---- lengths of pieces

laid-long : (b : ℕ → List Item) (f : ℕ → Item → Item) (k : ℕ) (xs : List Item) → length (laid_items (piece b f) k xs ++ b (k + length xs)) ≡ length xs + sum_by (λ i. length (b i)) (range_with_len k (suc (length xs)))
laid-long b f k [] =
    let e : k + 0 ≡ k = omega arith in
    let one : length (b (k + 0)) ≡ length (b k) = ap (λ n. length (b n)) e in
    let s = sum_by-cons (λ i. length (b i)) k [] in
    omega arith
laid-long b f k (x ∷ xs) =
    let e : k + length (x ∷ xs) ≡ k + 1 + length xs = omega arith in
    let end : length (b (k + length (x ∷ xs))) ≡ length (b (k + 1 + length xs)) = ap (λ n. length (b n)) e in
    let rest = laid-long b f (k + 1) xs in
    let parts = length-append (laid_items (piece b f) (k + 1) xs) (b (k + 1 + length xs)) in
    let all = length-append (laid_items (piece b f) k (x ∷ xs)) (b (k + length (x ∷ xs))) in
    let mine = length-append (b k ++ f k x ∷ []) (laid_items (piece b f) (k + 1) xs) in
    let first = length-append (b k) (f k x ∷ []) in
    let s = sum_by-cons (λ i. length (b i)) k (range_with_len (k + 1) (suc (length xs))) in
    omega arith

-- ---- sums

sums-three : (h a b c : ℕ → ℕ) (xs : List ℕ) → ((i : ℕ) → h i ≤ a i + b i + c i) → sum_by h xs ≤ sum_by a xs + sum_by b xs + sum_by c xs
sums-three h a b c [] each = omega arith
sums-three h a b c (x ∷ xs) each =
    let rest = sums-three h a b c xs each in
    let here = each x in
    let p = sum_by-cons h x xs in
    let q = sum_by-cons a x xs in
    let r = sum_by-cons b x xs in
    let s = sum_by-cons c x xs in
    omega arith

-- the number before
abbrev before : (ℕ → ℕ) → ℕ → ℕ
before f zero = 0
before f (suc k) = f k

sum-before : (f : ℕ → ℕ) (k n : ℕ) → sum_by (before f) (range_with_len (suc k) n) ≡ sum_by f (range_with_len k n)
sum-before f k zero = refl
sum-before f k (suc n) =
    let e : suc k + 1 ≡ suc (k + 1) = omega arith in
    let rest : sum_by (before f) (range_with_len (suc k + 1) n) ≡ sum_by f (range_with_len (k + 1) n) = ap (λ m. sum_by (before f) (range_with_len m n)) e ∙ sum-before f (k + 1) n in
    let p = sum_by-cons (before f) (suc k) (range_with_len (suc k + 1) n) in
    let q = sum_by-cons f k (range_with_len (k + 1) n) in
    omega arith

sum-longer : (f : ℕ → ℕ) (k n : ℕ) → sum_by f (range_with_len k n) ≤ sum_by f (range_with_len k (suc n))
sum-longer f k zero = omega arith
sum-longer f k (suc n) =
    let rest = sum-longer f (k + 1) n in
    let p = sum_by-cons f k (range_with_len (k + 1) n) in
    let q = sum_by-cons f k (range_with_len (k + 1) (suc n)) in
    omega arith

before-less : (f : ℕ → ℕ) (n : ℕ) → sum_by (before f) (range_with_len 0 (suc n)) ≤ sum_by f (range_with_len 0 (suc n))
before-less f n =
    let p = sum_by-cons (before f) 0 (range_with_len (0 + 1) n) in
    let e : sum_by (before f) (range_with_len (0 + 1) n) ≡ sum_by (before f) (range_with_len 1 n) = refl in
    let s = sum-before f 0 n in
    let l = sum-longer f 0 n in
    omega arith

-- ---- lists of different things

differ-flat : {A B : Type 0} (f : A → List B) (xs : List A) → AllPairs (λ a b. a ≢ b) xs → ((x : A) → AllPairs (λ a b. a ≢ b) (f x)) → ((x y : A) (b : B) → In b (f x) → In b (f y) → x ≡ y) → AllPairs (λ a b. a ≢ b) (flat_map f xs)
differ-flat f [] differ each one = λ i j d less inside. absurd (omega arith)
differ-flat f (x ∷ xs) differ each one =
    differ-both (f x) (flat_map f xs) (each x) (differ-flat f xs (differ-rest x xs differ) each one)
    (λ b i j. let s = in_flat_map_source f b xs j in differ-first x xs differ s.0 s.1 (one x s.0 b i s.2))

-- ---- lengths of what stands before items

few-items : (vars : List VarInfo) (names : List (List ℕ)) (gets : List WantedGet) → length (get_items vars names gets) ≤ length gets
few-items vars names [] = omega arith
few-items vars names (w ∷ gets) =
    let rest = few-items vars names gets in
    let both = length-append (get_item vars names w) (get_items vars names gets) in
    let one = few (variable_type vars (w.location / 2)) in
    omega arith
  where
    few : (o : Option Ty) → length (typed_get o (name_in names w.definition)) ≤ 1
    few None = omega arith
    few (Some ty) = omega arith

-- a `get` by the point before which it is set, and by its label
record Put : Type 0 where
  point : ℕ
  label : ℕ
  get : WantedGet

module _ (fs : List (List ℕ)) (F : Func) (g : FuncTree) (x : IsLaidFunction F (function_tree fs F) g) where
  abbrev count : ℕ → ℕ
  count k = length (staying fs F g x k)

  abbrev row : ℕ → List ℕ
  row i = slice_index_or x.rows i []

  abbrev points : List ℕ
  points = range_with_len 0 (suc (length F.code))

  gets-few : (i : ℕ) → length (gets-part fs F g x i) ≤ before count i
  gets-few zero = omega arith
  gets-few (suc k) = few-items F.vars x.names (staying fs F g x k)

  falls-few : (i : ℕ) → length (falls-part fs F g x i) ≤ count i
  falls-few i = by (falls_at F.code x.graph.sites i)
    where
      by : (b : Bool) → length (sets_falling (layout fs F g x) (now fs F g x i) b i) ≤ count i
      by true = let s = length-map (staying fs F g x i) (set_item x.names x.find (now fs F g x i)) in omega arith
      by false = omega arith

  leaves-sum : (i : ℕ) (ks : List ℕ) → length (flat_map (sets_to (layout fs F g x) (now fs F g x i)) ks) ≡ sum_by count ks
  leaves-sum i [] = refl
  leaves-sum i (k ∷ ks) =
      let both = length-append (sets_to (layout fs F g x) (now fs F g x i) k) (flat_map (sets_to (layout fs F g x) (now fs F g x i)) ks) in
      let one = length-map (staying fs F g x k) (set_item x.names x.find (now fs F g x i)) in
      let rest = leaves-sum i ks in
      let s = sum_by-cons count k ks in
      omega arith

  front-few : (i : ℕ) → length (front fs F g x i) ≤ before count i + count i + sum_by count (row i)
  front-few i =
      let both = length-append (gets-part fs F g x i ++ falls-part fs F g x i) (leaves-part fs F g x i) in
      let two = length-append (gets-part fs F g x i) (falls-part fs F g x i) in
      let a = gets-few i in
      let b = falls-few i in
      let c = leaves-sum i (row i) in
      omega arith

  -- all `get`s that stay, once, and all of them by where they are set before items
  abbrev all-staying : List WantedGet
  all-staying = flat_map (staying fs F g x) points

  abbrev put-by : ℕ → ℕ → WantedGet → Put
  put-by i k get = record { point = i; label = k; get = get }

  abbrev puts-at : ℕ → List Put
  puts-at i = flat_map (λ k. map (put-by i k) (staying fs F g x k)) (row i)

  abbrev all-puts : List Put
  all-puts = flat_map puts-at points

  puts-sum : (i : ℕ) (ks : List ℕ) → length (flat_map (λ k. map (put-by i k) (staying fs F g x k)) ks) ≡ sum_by count ks
  puts-sum i [] = refl
  puts-sum i (k ∷ ks) =
      let both = length-append (map (put-by i k) (staying fs F g x k)) (flat_map (λ k. map (put-by i k) (staying fs F g x k)) ks) in
      let one = length-map (staying fs F g x k) (put-by i k) in
      let rest = puts-sum i ks in
      let s = sum_by-cons count k ks in
      omega arith

  all-puts-long : (is : List ℕ) → length (flat_map puts-at is) ≡ sum_by (λ i. sum_by count (row i)) is
  all-puts-long [] = refl
  all-puts-long (i ∷ is) =
      let both = length-append (puts-at i) (flat_map puts-at is) in
      let one = puts-sum i (row i) in
      let rest = all-puts-long is in
      let s = sum_by-cons (λ i. sum_by count (row i)) i is in
      omega arith

  code-long : length g.code ≤ length F.code + 2 * length all-staying + length all-puts
  code-long =
      let l : length (function_tree fs F).code ≡ length F.code = long fs F g x in
      let end : length F.code ≡ 0 + length (function_tree fs F).code = omega arith in
      let made : length g.code ≡ length (laid_items (piece (front fs F g x) (own fs F g x)) 0 (function_tree fs F).code ++ front fs F g x (0 + length (function_tree fs F).code)) =
      ap length (code-made fs F g x ∙ x.laid.is) ∙ ap (λ n. length (laid_items (piece (front fs F g x) (own fs F g x)) 0 (function_tree fs F).code ++ front fs F g x n)) end in
      let pieces = laid-long (front fs F g x) (own fs F g x) 0 (function_tree fs F).code in
      let range : sum_by (λ i. length (front fs F g x i)) (range_with_len 0 (suc (length (function_tree fs F).code))) ≡ sum_by (λ i. length (front fs F g x i)) points = ap (λ n. sum_by (λ i. length (front fs F g x i)) (range_with_len 0 (suc n))) l in
      let three = sums-three (λ i. length (front fs F g x i)) (before count) count (λ i. sum_by count (row i)) points front-few in
      let gets = before-less count (length F.code) in
      let stay = length-flat_map (staying fs F g x) points in
      let puts = all-puts-long points in
      omega arith

  -- ---- live entries for them

  get-one : (v w : WantedGet) → v.location ≡ w.location → v.definition ≡ w.definition → v ≡ w
  get-one v w a b = λ i. record { location = a i; definition = b i }

  -- a put in the row of a point is a live entry
  record IsEntryOf (t : Put) (e : Option ℕ × ℕ × Location) : Type 0 where
    leave : e.0 ≡ Some t.point
    label : slice_get F.code t.label ≡ Some (Label e.1)
    location : t.get.location ≡ number_of e.2
    got : gets_of x.wants t.label e.2 ≡ Some t.get.definition

  one-put : (t u : Put) (e : Option ℕ × ℕ × Location) → IsEntryOf t e → IsEntryOf u e → t ≡ u
  one-put t u e a b =
      let p : t.point ≡ u.point = same_Some _ _ (sym a.leave ∙ b.leave) in
      let q : t.label ≡ u.label = label-one F t.label u.label e.1 a.label b.label in
      let d : t.get.definition ≡ u.get.definition = same_Some _ _ (sym a.got ∙ ap (λ k. gets_of x.wants k e.2) q ∙ b.got) in
      let r : t.get ≡ u.get = get-one t.get u.get (a.location ∙ sym b.location) d in
      λ i. record { point = p i; label = q i; get = r i }

  staying-differ : (k : ℕ) → AllPairs (λ a b. a ≢ b) (staying fs F g x k)
  staying-differ k i j d less inside e = staying-apart fs F g x k i j d less inside (ap (λ (w : WantedGet). w.definition) e)

  row-differ : (i : ℕ) → AllPairs (λ a b. a ≢ b) (row i)
  row-differ i = ⊎_elim (λ low. (x.are_rows.each i low).differ) (λ past. subst (AllPairs (λ a b. a ≢ b)) (sym (none past)) (λ i j d less inside. absurd (omega arith))) (cases_lt i (length F.code))
    where
      none : length F.code ≤ i → row i ≡ []
      none past = past-end x.rows i (let l = x.are_rows.long in omega arith)
        where
          past-end : (xs : List (List ℕ)) (i : ℕ) → length xs ≤ i → slice_index_or xs i [] ≡ []
          past-end [] i h = refl
          past-end (y ∷ ys) zero h = absurd (omega arith)
          past-end (y ∷ ys) (suc i) h = past-end ys i (omega arith)

  puts-differ : AllPairs (λ a b. a ≢ b) all-puts
  puts-differ = differ-flat puts-at points (range-differ (suc (length F.code)))
      (λ i. differ-flat (λ k. map (put-by i k) (staying fs F g x k)) (row i) (row-differ i)
      (λ k. differ-map (put-by i k) (λ v w e. ap (λ (t : Put). t.get) e) (staying fs F g x k) (staying-differ k))
      (λ k j t a b.
      let s = in_map_source (put-by i k) t (staying fs F g x k) a in
      let u = in_map_source (put-by i j) t (staying fs F g x j) b in
      ap (λ (t : Put). t.label) (sym s.2 ∙ u.2)))
      (λ i j t a b.
      let s = in_flat_map_source (λ k. map (put-by i k) (staying fs F g x k)) t (row i) a in
      let u = in_flat_map_source (λ k. map (put-by j k) (staying fs F g x k)) t (row j) b in
      let v = in_map_source (put-by i s.0) t (staying fs F g x s.0) s.2 in
      let w = in_map_source (put-by j u.0) t (staying fs F g x u.0) u.2 in
      ap (λ (t : Put). t.point) (sym v.2 ∙ w.2))

  module _ (P : Prog) (ok : IsAcceptedFunction P F) (tabled : IsTabled F.code F.args (gets_of x.wants)) (n : ℕ) (entries : IsLiveEntryCount F.code n) where
    abbrev gets : ℕ → Location → Option ℕ
    gets = gets_of x.wants

    -- a `get` that stays is entered from two leave points
    record Two (get : WantedGet) : Type 0 where
      label : ℕ
      name : ℕ
      at : slice_get F.code label ≡ Some (Label name)
      location : Location
      got : gets label location ≡ Some get.definition
      first : Option ℕ
      second : Option ℕ
      enters_first : Enters F.code first name
      enters_second : Enters F.code second name
      differ : first ≢ second

    entered : (leave : Option ℕ) (k l : ℕ) → slice_get F.code k ≡ Some (Label l) → EntersAt F.code leave k → Enters F.code leave l
    entered None k l at e = ap (slice_get F.code) (sym e.1) ∙ at
    entered (Some p) k l at e = (e.1.0, e.1.1, e.1.2, ap (slice_get F.code) e.1.3 ∙ at)

    leave-one : (p q : ℕ) → leave_at p ≡ leave_at q → p ≡ q
    leave-one zero zero e = refl
    leave-one zero (suc q) e = absurd (let h : None ≡ Some q = e in cc)
    leave-one (suc p) zero e = absurd (let h : Some p ≡ None = e in cc)
    leave-one (suc p) (suc q) e = ap suc (same_Some p q e)

    -- both operands are told where edges leave, at different places
    two-of : (k : ℕ) (get : WantedGet) → IsStaying fs F g x k get → Two get
    two-of k get stay = by (x.solved.needed k get.definition stay.location stay.got stay.stays)
      where
        by : HasTwoSources F.code F.args gets (λ d. slice_index x.find d) k get.definition stay.location → Two get
        by two =
            let above = stay.low in
            let t : ℕ = get.definition - base_of F.code F.args in
            let same : get.definition ≡ base_of F.code F.args + t = omega arith in
            let first = source-set F.code F.args gets ok.sites tabled k t two.first stay.location (stay.got ∙ ap Some same) two.is_first in
            let second = source-set F.code F.args gets ok.sites tabled k t two.second stay.location (stay.got ∙ ap Some same) two.is_second in
            let l = tabled.wanted.label k get.definition stay.location stay.got in
            let one = tabled.wanted.once first.2.label k (base_of F.code F.args + t) first.2.location stay.location first.2.get (stay.got ∙ ap Some same) in
            let other = tabled.wanted.once second.2.label k (base_of F.code F.args + t) second.2.location stay.location second.2.get (stay.got ∙ ap Some same) in
            record {
              label = k;
              name = l.0;
              at = l.1;
              location = stay.location;
              got = stay.got;
              first = leave_at first.0;
              second = leave_at second.0;
              enters_first = entered (leave_at first.0) k l.0 l.1 (subst (EntersAt F.code (leave_at first.0)) one.0 first.2.enters);
              enters_second = entered (leave_at second.0) k l.0 l.1 (subst (EntersAt F.code (leave_at second.0)) other.0 second.2.enters);
              differ = λ e.
                  let key = leave-one first.0 second.0 e in
                  two.differ (ap (slice_index x.find) (same_Some _ _ (sym first.2.told ∙ ap (λ n. told_at F.code F.args gets n first.2.location) key ∙ ap (told_at F.code F.args gets second.0) (one.1 ∙ sym other.1) ∙ second.2.told)));
            }

    -- ---- two entries for each

    abbrev Entry : Type 0
    Entry = Option ℕ × ℕ × Location

    pairs : (list : List WantedGet) → ((get : WantedGet) → In get list → Two get) → List Entry
    pairs [] two = []
    pairs (get ∷ list) two = let t = two get (inl refl) in (t.first, t.name, t.location) ∷ (t.second, t.name, t.location) ∷ pairs list (λ w i. two w (inr i))

    pairs-long : (list : List WantedGet) (two : (get : WantedGet) → In get list → Two get) → length (pairs list two) ≡ 2 * length list
    unfolding pairs
    pairs-long [] two = refl
    pairs-long (get ∷ list) two = let rest = pairs-long list (λ w i. two w (inr i)) in omega arith

    -- of which `get` an entry is one
    record OfGet (list : List WantedGet) (e : Entry) : Type 0 where
      get : WantedGet
      among : In get list
      two : Two get
      is : (e ≡ (two.first, two.name, two.location)) ⊎ (e ≡ (two.second, two.name, two.location))

    of_get : (list : List WantedGet) (two : (get : WantedGet) → In get list → Two get) (e : Entry) → In e (pairs list two) → OfGet list e
    unfolding pairs
    of_get [] two e i = absurd i
    of_get (get ∷ list) two e (inl s) = record { get = get; among = inl refl; two = two get (inl refl); is = inl s }
    of_get (get ∷ list) two e (inr (inl s)) = record { get = get; among = inl refl; two = two get (inl refl); is = inr s }
    of_get (get ∷ list) two e (inr (inr i)) = let r = of_get list (λ w j. two w (inr j)) e i in record { get = r.get; among = inr r.among; two = r.two; is = r.is }

    entry-label : (list : List WantedGet) (e : Entry) (o : OfGet list e) → (e.1 ≡ o.two.name) × (e.2 ≡ o.two.location)
    entry-label list e o = ⊎_elim (λ s. (ap (λ (z : Entry). z.1) s, ap (λ (z : Entry). z.2) s)) (λ s. (ap (λ (z : Entry). z.1) s, ap (λ (z : Entry). z.2) s)) o.is

    -- entries of one label and location are of one `get`
    same-definition : (v w : WantedGet) (s : Two v) (t : Two w) → s.name ≡ t.name → s.location ≡ t.location → v.definition ≡ w.definition
    same-definition v w s t a b =
        let k : s.label ≡ t.label = label-one F s.label t.label t.name (s.at ∙ ap (λ l. Some (Label l)) a) t.at in
        same_Some _ _ (sym s.got ∙ ap (λ n. gets n s.location) k ∙ ap (gets t.label) b ∙ t.got)

    pairs-differ : (list : List WantedGet) (two : (get : WantedGet) → In get list → Two get) → Apart list → AllPairs (λ a b. a ≢ b) (pairs list two)
    unfolding pairs
    pairs-differ [] two apart = λ i j d less inside. absurd (omega arith)
    pairs-differ (get ∷ list) two apart =
        let t : Two get = two get (inl refl) in
        let more : (w : WantedGet) → In w list → Two w = λ w i. two w (inr i) in
        let other : (e : Entry) → e.1 ≡ t.name → e.2 ≡ t.location → (z : Entry) → In z (pairs list more) → e ≡ z → ⊥ =
        λ e a b z i s.
        let o = of_get list more z i in
        let l = entry-label list z o in
        apart-first get list apart o.get o.among (same-definition get o.get t o.two (sym a ∙ ap (λ (y : Entry). y.1) s ∙ l.0) (sym b ∙ ap (λ (y : Entry). y.2) s ∙ l.1)) in
        AllPairs-cons (λ a b. a ≢ b) (t.first, t.name, t.location) ((t.second, t.name, t.location) ∷ pairs list more)
        (in_all (λ z. (t.first, t.name, t.location) ≢ z) ((t.second, t.name, t.location) ∷ pairs list more)
        (λ z i. ⊎_elim (λ s. λ e. t.differ (ap (λ (y : Entry). y.0) (e ∙ s))) (λ j. other (t.first, t.name, t.location) refl refl z j) i))
        (AllPairs-cons (λ a b. a ≢ b) (t.second, t.name, t.location) (pairs list more) (in_all (λ z. (t.second, t.name, t.location) ≢ z) (pairs list more) (λ z i. other (t.second, t.name, t.location) refl refl z i)) (pairs-differ list more (apart-rest get list apart)))

    -- ---- all of them

    all-apart : (ks : List ℕ) → AllPairs (λ a b. a ≢ b) ks → Apart (flat_map (staying fs F g x) ks)
    all-apart [] differ = λ i j d less inside. absurd (omega arith)
    all-apart (k ∷ ks) differ = apart-both (staying fs F g x k) (flat_map (staying fs F g x) ks) (staying-apart fs F g x k) (all-apart ks (differ-rest k ks differ))
        (λ v w i j e.
        let s = in_flat_map_source (staying fs F g x) w ks j in
        let a = is-staying fs F g x k v i in
        let b = is-staying fs F g x s.0 w s.2 in
        differ-first k ks differ s.0 s.1 (tabled.wanted.once k s.0 w.definition a.location b.location (a.got ∙ ap Some e) b.got).0)
      where
        apart-both : (vs ws : List WantedGet) → Apart vs → Apart ws → ((v w : WantedGet) → In v vs → In w ws → v.definition ≡ w.definition → ⊥) → Apart (vs ++ ws)
        apart-both [] ws a b other = b
        apart-both (v ∷ vs) ws a b other =
            AllPairs-cons (λ (p q : WantedGet). p.definition ≢ q.definition) v (vs ++ ws)
            (in_all (λ (q : WantedGet). v.definition ≢ q.definition) (vs ++ ws) (λ q i. ⊎_elim (λ j. apart-first v vs a q j) (λ j. other v q (inl refl) j) (in_append_cases q vs ws i)))
            (apart-both vs ws (apart-rest v vs a) b (λ p q i j. other p q (inr i) j))

    two-all : (get : WantedGet) → In get all-staying → Two get
    two-all get i = let s = in_flat_map_source (staying fs F g x) get points i in two-of s.0 get (is-staying fs F g x s.0 get s.2)

    two-live : (get : WantedGet) (t : Two get) (leave : Option ℕ) → Enters F.code leave t.name → IsLiveEntry F.code (leave, t.name, t.location)
    two-live get t leave enters = record { enters = enters; point = t.label; label = t.at; live = tabled.wanted.live t.label get.definition t.location t.got }

    among : (e : Entry) → IsLiveEntry F.code e → In e entries.members
    among e live = in_contains e entries.members (entries.all e live)

    staying-few : 2 * length all-staying ≤ n
    staying-few =
        let few = no_more_items (pairs all-staying two-all) entries.members (pairs-differ all-staying two-all (all-apart points (range-differ (suc (length F.code)))))
        (λ e i.
        let o = of_get all-staying two-all e i in
        among e (⊎_elim (λ s. subst (IsLiveEntry F.code) (sym s) (two-live o.get o.two o.two.first o.two.enters_first)) (λ s. subst (IsLiveEntry F.code) (sym s) (two-live o.get o.two o.two.second o.two.enters_second)) o.is)) in
        let size = pairs-long all-staying two-all in
        let c = entries.count in
        omega arith

    puts-few : length all-puts ≤ n
    puts-few =
        let few = no_more IsEntryOf all-puts entries.members puts-differ each one-put in
        let c = entries.count in
        omega arith
      where
        each : (t : Put) → In t all-puts → (e : Entry) × In e entries.members × IsEntryOf t e
        each t i =
            let s = in_flat_map_source puts-at t points i in
            let u = in_flat_map_source (λ k. map (put-by s.0 k) (staying fs F g x k)) t (row s.0) s.2 in
            let v = in_map_source (put-by s.0 u.0) t (staying fs F g x u.0) u.2 in
            let stay = is-staying fs F g x u.0 v.0 v.1 in
            let l = tabled.wanted.label u.0 v.0.definition stay.location stay.got in
            let edge = row-edge F.code x.graph x.is_graph ok.sites x.rows x.are_rows s.0 u.0 u.1 in
            let e : Entry = (Some s.0, l.0, stay.location) in (
              e,
              among e (record { enters = (edge.0, edge.1, edge.2, ap (slice_get F.code) edge.3 ∙ l.1); point = u.0; label = l.1; live = tabled.wanted.live u.0 v.0.definition stay.location stay.got }),
              subst (λ q. IsEntryOf q e) (sym v.2) (record { leave = refl; label = l.1; location = stay.numbered; got = stay.got }),
            )

    -- two items more for each live entry
    pub few-more : length g.code ≤ length F.code + 2 * n
    few-more = let l = code-long in let a = staying-few in let b = puts-few in omega arith
