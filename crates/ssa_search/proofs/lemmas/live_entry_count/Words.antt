-- The bits of the words that a search of 64 locations leaves are live entries.
use Rattle.std.proofs.Common.{◌≡◌, ◌≢◌, ℕ, ◌+◌, ◌-◌, ◌*◌, ◌^◌, ◌<◌, ◌≤◌, true, List, [], ◌∷◌, length, get_or, min, Option, Some, None, refl, sym, ap, subst, ◌∙◌, inl, inr, ⊎_elim, arith}
use Rattle.std.specs.Prelude.{is_some, slice_get, slice_index}
use Rattle.std.specs.Int.RustNames.{count_ones}
use Rattle.std.specs.List.{All, AllPairs}
use Rattle.std.proofs.lemmas.List.Elements.{All-head, All-tail, Contains-get_or}
use Rattle.std.proofs.lemmas.Bool.{cases_lt}
use Rattle.bril_tree.specs.declared.edge.Edge.{Edge}
use Rattle.bril_tree.specs.declared.numbered.Instr.{Instr}
use Rattle.bril_tree.specs.declared.numbered.Instr.TheVariants.{Label, Const, Act}
use Rattle.bril_tree.specs.declared.numbered_function.Func.{Func}
use Rattle.bril_tree.specs.Live.{IsLive}
use Rattle.bril_tree.specs.Membership.{In}
use Rattle.bril_tree.specs.Operand.{Location}
use Rattle.bril_tree.specs.Shape.{shape_fault_of}
use Rattle.bril_tree.specs.Walk.{IsReached}
use Rattle.bril_tree.proofs.Counting.{differ-first, differ-rest}
use Rattle.bril_tree.proofs.LabelPoints.{label-one}
use Rattle.bril_tree.proofs.Members.{contains_in, in_contains}
use Rattle.flow_graph.specs.Location.{number_of}
use Rattle.flow_graph.proofs.Locations.{number-one}
use Rattle.graph_search.specs.Sets.{has_bit}
use Rattle.ssa_laws.specs.live_entries.LiveEntries.{IsLiveEntry, IsLiveEntryCount}
use Rattle.ssa_search.specs.live_entry_count.Counted.{AreWords, IsLiveBetween, TellsCount, ones_in}
use Rattle.ssa_search.specs.live_entry_count.Lanes.{AreWordsOf}
use Rattle.ssa_search.proofs.lemmas.live_entry_count.Adding.{so-both, so-made, so-none, so-same}
use Rattle.ssa_search.proofs.lemmas.live_entry_count.Bits.{word-bits}
use Rattle.program_numbers.specs.Entries.{AreSoMany, Enters}
use Rattle.ssa_search.specs.declared.accesses.entries.Entry.{Entry}
use Rattle.ssa_search.specs.accesses.Entries.{AreEntriesOf, EntersAt}
use Rattle.ssa_search.proofs.lemmas.accesses.Labels.{label-within, enters-label}
use Rattle.ssa_search.proofs.lemmas.accesses.Tracking.{location-of}
use Rattle.ssa_search.specs.gets.Found.{IsLiveNumber}
use Rattle.ssa_search.proofs.lemmas.gets.Finding.{live-below}
use Rattle.ssa_search.specs.placing.Wanted.{is_label}

abbrev Triple : Type 0
Triple = Option ℕ × ℕ × Location

module _ (code : List Instr) where
  -- where an edge leads a walk does
  enters-reached : (leave : Option ℕ) (k : ℕ) → EntersAt code leave k → IsReached code k
  enters-reached None k en = record { walk = []; is = tt; ends = sym en.1 }
  enters-reached (Some p) k en =
      let e = en.1.1 in
      record { walk = e.branch ∷ e.walk; is = (e.at, e.is); ends = ap (λ (x : Edge). x.to) (sym e.are) ∙ en.1.3 }

  module _ (base : ℕ) (words : List ℕ) (are : AreWordsOf code base words) where
    -- those of one entry
    abbrev OfEntry : Entry → Triple → Type 0
    OfEntry e x = (x.0 ≡ e.leave) × (x.1 ≡ e.label) × IsLiveBetween code base (base + 64) x

    entry-counted : (e : Entry) → EntersAt code e.leave e.label → slice_index words e.label < 2 ^ 64 → AreSoMany (OfEntry e) (count_ones (slice_index words e.label))
    entry-counted e enters fits = so-made (λ k. (k < 64) × (has_bit (slice_index words e.label) k ≡ true)) (OfEntry e) triple (count_ones (slice_index words e.label)) (word-bits (slice_index words e.label) fits) one to from
      where
        triple : ℕ → Triple
        triple k = (e.leave, e.label, (location-of (base + k)).0)

        one : (j k : ℕ) → (j < 64) × (has_bit (slice_index words e.label) j ≡ true) → (k < 64) × (has_bit (slice_index words e.label) k ≡ true) → triple j ≡ triple k → j ≡ k
        one j k g h same =
            let m = sym (location-of (base + j)).1 ∙ ap (λ (x : Triple). number_of x.2) same ∙ (location-of (base + k)).1 in
            omega (arith, m)

        to : (k : ℕ) → (k < 64) × (has_bit (slice_index words e.label) k ≡ true) → OfEntry e (triple k)
        to k h =
            let n = (are e.label k h.0).0 h.1 in
            let number = (location-of (base + k)).1 in
            let same : n.location ≡ (location-of (base + k)).0 = number-one n.location (location-of (base + k)).0 (n.number ∙ sym number) in
            let low = h.0 in
            (refl, refl, record { enters = enters; live = subst (λ a. IsLive code a e.label) same n.live.live; low = omega (arith, number); high = omega (arith, number, low) })

        from : (x : Triple) → OfEntry e x → (k : ℕ) × ((k < 64) × (has_bit (slice_index words e.label) k ≡ true)) × (triple k ≡ x)
        from x (leave, label, between) =
            let low = between.low in
            let high = between.high in
            let k = number_of x.2 - base in
            let sum : base + k ≡ number_of x.2 = omega (arith, low) in
            let small : k < 64 = omega (arith, low, high) in
            let live : IsLive code x.2 e.label = subst (λ i. IsLive code x.2 i) label between.live in
            let number : IsLiveNumber code e.label (base + k) = record { location = x.2; number = sym sum; live = record { label = enters-label code e.leave e.label enters; reached = enters-reached e.leave e.label enters; live = live } } in
            let same : (location-of (base + k)).0 ≡ x.2 = number-one (location-of (base + k)).0 x.2 ((location-of (base + k)).1 ∙ sum) in
            (k, (small, (are e.label k small).1 number), (λ i. (sym leave i, sym label i, same i)))

    -- those of some entries
    abbrev OfEntries : List Entry → Triple → Type 0
    OfEntries entries x = In {A = Entry} (record { leave = x.0; label = x.1 }) entries × IsLiveBetween code base (base + 64) x

    entries-counted : (entries : List Entry) → AllPairs (λ d e. d ≢ e) entries → ((e : Entry) → In e entries → EntersAt code e.leave e.label) → AreWords words entries → AreSoMany (OfEntries entries) (ones_in words entries)
    entries-counted [] differ enters fits = so-none (OfEntries []) (λ x h. h.0)
    entries-counted (e ∷ entries) differ enters fits =
        so-both (OfEntry e) (OfEntries entries) (OfEntries (e ∷ entries)) (count_ones (slice_index words e.label)) (ones_in words entries)
        (entry-counted e (enters e (inl refl)) (All-head (λ (x : Entry). slice_index words x.label < 2 ^ 64) e entries fits))
        (entries-counted entries (differ-rest e entries differ) (λ d i. enters d (inr i)) (All-tail (λ (x : Entry). slice_index words x.label < 2 ^ 64) e entries fits))
        (λ x h g. differ-first e entries differ (record { leave = x.0; label = x.1 }) g.0 (λ i. record { leave = sym h.0 i; label = sym h.1 i }))
        (λ x h. ⊎_elim (λ s. inl (ap (λ (d : Entry). d.leave) s, ap (λ (d : Entry). d.label) s, h.1)) (λ i. inr (i, h.1)) h.0)
        (λ x h. (inl (λ i. record { leave = h.0 i; label = h.1 i }), h.2))
        (λ x h. (inr h.0, h.1))

    pub all-counted : (entries : List Entry) → AreEntriesOf code entries → AreWords words entries → AreSoMany (IsLiveBetween code base (base + 64)) (ones_in words entries)
    all-counted entries all fits =
        so-same (OfEntries entries) (IsLiveBetween code base (base + 64)) (ones_in words entries) (entries-counted entries all.differ (λ e i. all.only e (contains_in e entries i)) fits)
        (λ x h. h.1)
        (λ x b. (in_contains (record { leave = x.0; label = x.1 }) entries (all.there x.0 x.1 b.enters), b))

  -- 64 locations more
  pub count-more : (base m n : ℕ) → AreSoMany (IsLiveBetween code 0 base) m → AreSoMany (IsLiveBetween code base (base + 64)) n → AreSoMany (IsLiveBetween code 0 (base + 64)) (m + n)
  count-more base m n before new =
      so-both (IsLiveBetween code 0 base) (IsLiveBetween code base (base + 64)) (IsLiveBetween code 0 (base + 64)) m n before new
      (λ x b c. let h = b.high in let l = c.low in omega (arith, h, l))
      (λ x r. ⊎_elim
      (λ less. inl (record { enters = r.enters; live = r.live; low = r.low; high = less }))
      (λ over. inr (record { enters = r.enters; live = r.live; low = over; high = r.high }))
      (cases_lt (number_of x.2) base))
      (λ x b. record { enters = b.enters; live = b.live; low = b.low; high = let h = b.high in omega (arith, h) })
      (λ x c. record { enters = c.enters; live = c.live; low = omega arith; high = c.high })

  pub count-none : AreSoMany (IsLiveBetween code 0 0) 0
  count-none = so-none (IsLiveBetween code 0 0) (λ x b. let h = b.high in omega (arith, h))

-- ---- the live entries of a function

label-number : Option Instr → ℕ
label-number (Some (Label l)) = l
label-number _ = 0

label-is : (l : ℕ) → label-number (Some (Label l)) ≡ l
unfolding label-number
label-is l = refl

label-stands : (o : Option Instr) → is_label o ≡ true → o ≡ Some (Label (label-number o))
unfolding label-number
label-stands None e = absurd cc
label-stands (Some (Label l)) e = refl
label-stands (Some (Const d ty v)) e = absurd cc
label-stands (Some (Act d ty o args fns ls)) e = absurd cc

module _ (F : Func) (shaped : shape_fault_of (is_some F.ret) F.code ≡ None) where
  abbrev labelled : Triple → Triple
  labelled x = (x.0, label-number (slice_get F.code x.1), x.2)

  stands : (leave : Option ℕ) (k : ℕ) → EntersAt F.code leave k → slice_get F.code k ≡ Some (Label (label-number (slice_get F.code k)))
  stands leave k en = label-stands (slice_get F.code k) (enters-label F.code leave k en)

  enters-numbered : (leave : Option ℕ) (k : ℕ) → EntersAt F.code leave k → Enters F.code leave (label-number (slice_get F.code k))
  enters-numbered None k en = ap (slice_get F.code) (sym en.1) ∙ stands None k en
  enters-numbered (Some p) k en = (en.1.0, en.1.1, en.1.2, ap (slice_get F.code) en.1.3 ∙ stands (Some p) k en)

  entered-at : (leave : Option ℕ) (l k : ℕ) → Enters F.code leave l → slice_get F.code k ≡ Some (Label l) → EntersAt F.code leave k
  entered-at None l k e at = (ap is_label at, label-one F k 0 l at e)
  entered-at (Some p) l k e at = (ap is_label at, (e.0, e.1, e.2, label-one F e.0.to k l e.3 at))

  pub function-counted : (bound n : ℕ) → 2 * length F.vars ≤ bound → AreSoMany (IsLiveBetween F.code 0 bound) n → IsLiveEntryCount F.code n
  function-counted bound n high counted = so-made (IsLiveBetween F.code 0 bound) (IsLiveEntry F.code) labelled n counted one to from
    where
      one : (x y : Triple) → IsLiveBetween F.code 0 bound x → IsLiveBetween F.code 0 bound y → labelled x ≡ labelled y → x ≡ y
      one x y a b same =
          let numbers = ap (λ (z : Triple). z.1) same in
          let points : x.1 ≡ y.1 = label-one F x.1 y.1 (label-number (slice_get F.code y.1)) (stands x.0 x.1 a.enters ∙ ap (λ l. Some (Label l)) numbers) (stands y.0 y.1 b.enters) in
          λ i. (ap (λ (z : Triple). z.0) same i, points i, ap (λ (z : Triple). z.2) same i)

      to : (x : Triple) → IsLiveBetween F.code 0 bound x → IsLiveEntry F.code (labelled x)
      to x b = record { enters = enters-numbered x.0 x.1 b.enters; point = x.1; label = stands x.0 x.1 b.enters; live = b.live }

      from : (y : Triple) → IsLiveEntry F.code y → (x : Triple) × IsLiveBetween F.code 0 bound x × (labelled x ≡ y)
      from y e =
          let number : label-number (slice_get F.code e.point) ≡ y.1 = ap label-number e.label ∙ label-is y.1 in
          ((y.0, e.point, y.2), record { enters = entered-at y.0 y.1 e.point e.enters e.label; live = e.live; low = omega arith; high = let b = live-below F shaped y.2 e.point e.live in omega (arith, b, high) }, (λ i. (y.0, number i, y.2)))

-- the labels of entries are items
pub labels-within : (code : List Instr) (entries : List Entry) → AreEntriesOf code entries → (many : ℕ) → many ≡ length code → All (λ (e : Entry). e.label < many) entries
labels-within code entries all many same i d low =
    let entry = get_or entries i d in
    let w = label-within code (slice_get code entry.label) entry.label refl (enters-label code entry.leave entry.label (all.only entry (Contains-get_or entries i d low))) in
    omega (arith, w, same)

-- the count of 64 locations more
pub tells-more : (code : List Instr) (base old word new n : ℕ) → TellsCount (IsLiveBetween code 0 base) old → AreSoMany (IsLiveBetween code base (base + 64)) n → word ≡ min n 18446744073709551615 → new ≡ min (old + word) 18446744073709551615 → TellsCount (IsLiveBetween code 0 (base + 64)) new
tells-more code base old word new n t counted told sum =
    let before = t.tells in
    record { count = t.count + n; is = count-more code base t.count n t.is counted; tells = omega (arith, before, told, sum) }

pub tells-none : (code : List Instr) → TellsCount (IsLiveBetween code 0 0) 0
tells-none code = record { count = 0; is = count-none code; tells = refl }
