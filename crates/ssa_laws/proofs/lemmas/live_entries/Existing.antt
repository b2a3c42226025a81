-- A function has a number of live entries, and an accepted program has their sum and a greatest width of entries.
use Rattle.std.proofs.Common.{◌≡◌, ℕ, ◌+◌, ◌≤◌, List, [], ◌∷◌, ◌++◌, length, map, Option, Some, None, refl, sym, ap, subst, ◌∙◌, inl, inr, ⊎_elim, arith, le_antisymm}
use Rattle.std.specs.Prelude.{slice_get}
use Rattle.std.specs.List.{flat_map}
use Rattle.std.specs.Option.{option_map}
use Rattle.std.proofs.lemmas.Bool.{cases_eq, cases_lt}
use Rattle.std.proofs.lemmas.Option.{same_Some}
use Rattle.bril_tree.specs.Accepted.{IsAccepted}
use Rattle.bril_tree.specs.declared.edge.Edge.{Edge}
use Rattle.bril_tree.specs.declared.numbered.Instr.{Instr}
use Rattle.bril_tree.specs.declared.numbered.Instr.TheVariants.{Label, Const, Act}
use Rattle.bril_tree.specs.declared.numbered_function.Func.{Func}
use Rattle.bril_tree.specs.declared.program.Prog.{Prog}
use Rattle.bril_tree.specs.Live.{IsLive}
use Rattle.bril_tree.specs.Membership.{In}
use Rattle.bril_tree.specs.Operand.{Location, reads_of}
use Rattle.bril_tree.specs.ProgramForm.{main_name}
use Rattle.bril_tree.specs.Sites.{AreSitesSound}
use Rattle.bril_tree.specs.Step.{point_of}
use Rattle.bril_tree.proofs.Acceptance.{accepted_function}
use Rattle.bril_tree.proofs.Assignments.{same_location}
use Rattle.bril_tree.proofs.Elements.{get_in, in_get}
use Rattle.bril_tree.proofs.LabelPoints.{label-at_point}
use Rattle.bril_tree.proofs.Members.{contains_in, in_append_cases, in_append_left, in_append_right, in_contains, in_flat_map, in_flat_map_source, in_map, in_map_source}
use Rattle.program_numbers.specs.Entries.{AreSoMany, Enters, IsEntryWidth}
use Rattle.program_numbers.specs.ProgramNumbers.{IsGreatestWidth, IsSum}
use Rattle.program_numbers.proofs.Measures.{AreSoMany-one, IsSum-one}
use Rattle.pass_edit_laws.proofs.lemmas.plan.Elements.{all_in}
use Rattle.ssa_laws.specs.live_entries.Laws.{LiveEntriesAreOne, LiveEntriesAreThere, LiveEntryCountsAreOne, LiveEntryCountsAreThere, WidthsAreThere}
use Rattle.ssa_laws.specs.live_entries.LiveEntries.{IsLiveEntry, IsLiveEntryCount}
use Rattle.ssa_laws.proofs.lemmas.live_entries.Deciding.{all-edges, decide-live, edge-only, edge-there, live-read}
use Rattle.bril_tree.proofs.Deciding.{Decided, same-option}
use Rattle.ssa_laws.proofs.lemmas.live_entries.Selecting.{in-select, select, select-in, so-many}

-- ---- equal pairs

record Pair : Type 0 where
  leave : Option ℕ
  label : ℕ

abbrev Entry : Type 0
Entry = Option ℕ × ℕ × Location

same-entry : (x y : Entry) → Decided (x ≡ y)
same-entry (l, k, a) (m, j, b) = ⊎_elim
    (λ e. ⊎_elim
    (λ f. ⊎_elim
    (λ g. inl (λ i. (e i, f i, g i)))
    (λ n. inr (λ h. n (ap (λ (z : Entry). z.2) h)))
    (same_location a b))
    (λ n. inr (λ h. n (ap (λ (z : Entry). z.1) h)))
    (cases_eq k j))
    (λ n. inr (λ h. n (ap (λ (z : Entry). z.0) h)))
    (same-option cases_eq l m)

module _ (code : List Instr) (sound : AreSitesSound code) where
  -- ---- pairs of a leave point and a label

  pairs-at : Option Instr → Option ℕ → List Pair
  pairs-at None leave = []
  pairs-at (Some (Label l)) leave = record { leave = leave; label = l } ∷ []
  pairs-at (Some (Const d ty v)) leave = []
  pairs-at (Some (Act d ty o args fns ls)) leave = []

  pairs-at-in : (o : Option Instr) (leave : Option ℕ) (pair : Pair) → In pair (pairs-at o leave) → (o ≡ Some (Label pair.label)) × (pair.leave ≡ leave)
  unfolding pairs-at
  pairs-at-in None leave pair i = absurd i
  pairs-at-in (Some (Label l)) leave pair (inl e) = (ap (λ (p : Pair). Some (Label p.label)) (sym e), ap (λ (p : Pair). p.leave) e)
  pairs-at-in (Some (Label l)) leave pair (inr i) = absurd i
  pairs-at-in (Some (Const d ty v)) leave pair i = absurd i
  pairs-at-in (Some (Act d ty o args fns ls)) leave pair i = absurd i

  in-pairs-at : (o : Option Instr) (leave : Option ℕ) (l : ℕ) → o ≡ Some (Label l) → In (record { leave = leave; label = l }) (pairs-at o leave)
  unfolding pairs-at
  in-pairs-at o leave l e = subst (λ q. In (record { leave = leave; label = l }) (pairs-at q leave)) (sym e) (inl refl)

  abbrev edge-pairs : Edge → List Pair
  edge-pairs edge = pairs-at (slice_get code edge.to) (Some edge.leave)

  abbrev all-pairs : List Pair
  all-pairs = pairs-at (slice_get code 0) None ++ flat_map edge-pairs (all-edges code sound)

  pair-there : (leave : Option ℕ) (l : ℕ) → Enters code leave l → In (record { leave = leave; label = l }) all-pairs
  pair-there None l e = in_append_left (record { leave = None; label = l }) (pairs-at (slice_get code 0) None) (flat_map edge-pairs (all-edges code sound)) (in-pairs-at (slice_get code 0) None l e)
  pair-there (Some p) l e =
      in_append_right (record { leave = Some p; label = l }) (pairs-at (slice_get code 0) None) (flat_map edge-pairs (all-edges code sound))
      (in_flat_map edge-pairs e.0 (record { leave = Some p; label = l }) (all-edges code sound) (edge-there code sound e.0 e.1)
      (subst (λ q. In (record { leave = Some q; label = l }) (edge-pairs e.0)) e.2 (in-pairs-at (slice_get code e.0.to) (Some e.0.leave) l e.3)))

  pair-only : (pair : Pair) → In pair all-pairs → Enters code pair.leave pair.label
  pair-only pair i = ⊎_elim
      (λ j. let h = pairs-at-in (slice_get code 0) None pair j in subst (λ l. Enters code l pair.label) (sym h.1) h.0)
      (λ j.
      let s = in_flat_map_source edge-pairs pair (all-edges code sound) j in
      let h = pairs-at-in (slice_get code s.0.to) (Some s.0.leave) pair s.2 in
      subst (λ l. Enters code l pair.label) (sym h.1) (s.0, edge-only code sound s.0 s.1, refl, h.0))
      (in_append_cases pair (pairs-at (slice_get code 0) None) (flat_map edge-pairs (all-edges code sound)) i)

  -- ---- widths

  decide-leave : (leave : Option ℕ) (pair : Pair) → Decided (pair.leave ≡ leave)
  decide-leave leave pair = same-option cases_eq pair.leave leave

  abbrev labels-from : Option ℕ → List ℕ
  labels-from leave = map (λ (pair : Pair). pair.label) (select (λ (pair : Pair). pair.leave ≡ leave) (decide-leave leave) all-pairs)

  pub width-of : (leave : Option ℕ) → (n : ℕ) × AreSoMany (Enters code leave) n
  width-of leave = so-many cases_eq (Enters code leave) (labels-from leave)
      (λ l i.
      let m = in_map_source (λ (pair : Pair). pair.label) l (select (λ (pair : Pair). pair.leave ≡ leave) (decide-leave leave) all-pairs) i in
      let k = select-in (λ (pair : Pair). pair.leave ≡ leave) (decide-leave leave) all-pairs m.0 m.1 in
      subst (λ q. Enters code leave q) (sym m.2) (subst (λ q. Enters code q m.0.label) k.1 (pair-only m.0 k.0)))
      (λ l e. in_map (λ (pair : Pair). pair.label) (record { leave = leave; label = l }) (select (λ (pair : Pair). pair.leave ≡ leave) (decide-leave leave) all-pairs)
      (in-select (λ (pair : Pair). pair.leave ≡ leave) (decide-leave leave) all-pairs (record { leave = leave; label = l }) (pair-there leave l e) refl))

  record Widest (leaves : List (Option ℕ)) : Type 0 where
    best : Option ℕ
    width : ℕ
    has : AreSoMany (Enters code best) width
    most : (leave : Option ℕ) (n : ℕ) → In leave leaves → AreSoMany (Enters code leave) n → n ≤ width

  widest : (leaves : List (Option ℕ)) → Widest leaves
  widest [] = let w = width-of None in record { best = None; width = w.0; has = w.1; most = λ leave n i h. absurd i }
  widest (first ∷ leaves) = by (widest leaves) (width-of first)
    where
      by : Widest leaves → (n : ℕ) × AreSoMany (Enters code first) n → Widest (first ∷ leaves)
      by w f = ⊎_elim
          (λ less. record {
            best = first;
            width = f.0;
            has = f.1;
            most = λ leave n i h. ⊎_elim
                (λ e. let s = AreSoMany-one (Enters code first) n f.0 (subst (λ l. AreSoMany (Enters code l) n) e h) f.1 in omega (arith, s))
                (λ j. let m = w.most leave n j h in omega (arith, m, less))
                i;
          })
          (λ over. record {
            best = w.best;
            width = w.width;
            has = w.has;
            most = λ leave n i h. ⊎_elim
                (λ e. let s = AreSoMany-one (Enters code first) n f.0 (subst (λ l. AreSoMany (Enters code l) n) e h) f.1 in omega (arith, s, over))
                (λ j. w.most leave n j h)
                i;
          })
          (cases_lt w.width f.0)

  pub width-there : (n : ℕ) × IsEntryWidth code n
  width-there = by (widest (map (λ (pair : Pair). pair.leave) all-pairs))
    where
      by : Widest (map (λ (pair : Pair). pair.leave) all-pairs) → (n : ℕ) × IsEntryWidth code n
      by w = (w.width, record { widest = w.best; has = w.has; most = λ leave n h. all leave n h h.members refl })
        where
          all : (leave : Option ℕ) (n : ℕ) (h : AreSoMany (Enters code leave) n) (members : List ℕ) → h.members ≡ members → n ≤ w.width
          all leave n h [] e = let c = h.count in let l = ap length e in omega (arith, c, l)
          all leave n h (l ∷ members) e =
              let enters = all_in (Enters code leave) h.members h.are l (subst (In l) (sym e) (inl refl)) in
              w.most leave n (in_map (λ (pair : Pair). pair.leave) (record { leave = leave; label = l }) all-pairs (pair-there leave l enters)) h

-- ---- live entries of a function

module _ (F : Func) (sound : AreSitesSound F.code) where
  abbrev locations : List Location
  locations = flat_map reads_of F.code

  abbrev entry_of : Pair → Location → Entry
  entry_of pair a = (pair.leave, pair.label, a)

  abbrev live-at : ℕ → List Location
  live-at point = select (λ a. IsLive F.code a point) (λ a. decide-live F.code sound a point) (flat_map reads_of F.code)

  abbrev entries-at : Pair → List Entry
  entries-at pair = map (entry_of pair) (live-at (point_of pair.label F.code))

  label-stands : (l j : ℕ) → slice_get F.code j ≡ Some (Label l) → point_of l F.code ≡ j
  label-stands l j at = label-at_point 0 (length F.labels) F.code F.formed.placed j l at

  entered-label : (leave : Option ℕ) (l : ℕ) → Enters F.code leave l → (j : ℕ) × (slice_get F.code j ≡ Some (Label l))
  entered-label None l e = (0, e)
  entered-label (Some p) l e = (e.0.to, e.3)

  live-only : (e : Entry) → In e (flat_map entries-at (all-pairs F.code sound)) → IsLiveEntry F.code e
  live-only e i =
      let s = in_flat_map_source entries-at e (all-pairs F.code sound) i in
      let m = in_map_source (entry_of s.0) e (live-at (point_of s.0.label F.code)) s.2 in
      let k = select-in (λ a. IsLive F.code a (point_of s.0.label F.code)) (λ a. decide-live F.code sound a (point_of s.0.label F.code)) (flat_map reads_of F.code) m.0 m.1 in
      let enters = pair-only F.code sound s.0 s.1 in
      let l = entered-label s.0.leave s.0.label enters in
      subst (IsLiveEntry F.code) (sym m.2) (record {
        enters = enters;
        point = point_of s.0.label F.code;
        label = ap (slice_get F.code) (label-stands s.0.label l.0 l.1) ∙ l.1;
        live = k.1;
      })

  live-there : (e : Entry) → IsLiveEntry F.code e → In e (flat_map entries-at (all-pairs F.code sound))
  live-there e x =
      let pair : Pair = record { leave = e.0; label = e.1 } in
      let stands = label-stands e.1 x.point x.label in
      let r = live-read F.code sound e.2 x.point x.live in
      let among = in_flat_map reads_of r.1 e.2 F.code (get_in F.code r.0 r.1 r.2) r.3 in
      let live = subst (IsLive F.code e.2) (sym stands) x.live in
      in_flat_map entries-at pair e (all-pairs F.code sound) (pair-there F.code sound e.0 e.1 x.enters)
      (in_map (entry_of pair) e.2 (live-at (point_of e.1 F.code)) (in-select (λ a. IsLive F.code a (point_of e.1 F.code)) (λ a. decide-live F.code sound a (point_of e.1 F.code)) (flat_map reads_of F.code) e.2 among live))

  pub count-there : (n : ℕ) × IsLiveEntryCount F.code n
  count-there = so-many same-entry (IsLiveEntry F.code) (flat_map entries-at (all-pairs F.code sound)) live-only live-there

-- ---- programs

pub sum-there : (P : Func → ℕ → Type 0) (funcs : List Func) → ((F : Func) → In F funcs → (n : ℕ) × P F n) → (n : ℕ) × IsSum P funcs n
sum-there P [] each = (0, refl)
sum-there P (F ∷ funcs) each =
    let f = each F (inl refl) in
    let r = sum-there P funcs (λ G i. each G (inr i)) in
    (f.0 + r.0, (f.0, r.0, f.1, r.1, refl))

record GreatestOf (P : Func → ℕ → Type 0) (funcs : List Func) : Type 0 where
  func : Func
  among : In func funcs
  number : ℕ
  has : P func number
  most : (other : Func) (n : ℕ) → In other funcs → P other n → n ≤ number

greatest-there : (P : Func → ℕ → Type 0) → ((F : Func) (m n : ℕ) → P F m → P F n → m ≡ n) → (F : Func) (funcs : List Func) → ((G : Func) → In G (F ∷ funcs) → (n : ℕ) × P G n) → GreatestOf P (F ∷ funcs)
greatest-there P one F [] each =
    let f = each F (inl refl) in
    record { func = F; among = inl refl; number = f.0; has = f.1; most = λ other n i h. ⊎_elim (λ e. let s = one F n f.0 (subst (λ G. P G n) e h) f.1 in omega (arith, s)) (λ j. absurd j) i }
greatest-there P one F (G ∷ funcs) each = by (greatest-there P one G funcs (λ H i. each H (inr i))) (each F (inl refl))
  where
    by : GreatestOf P (G ∷ funcs) → (n : ℕ) × P F n → GreatestOf P (F ∷ G ∷ funcs)
    by w f = ⊎_elim
        (λ less. record {
          func = F;
          among = inl refl;
          number = f.0;
          has = f.1;
          most = λ other n i h. ⊎_elim
              (λ e. let s = one F n f.0 (subst (λ H. P H n) e h) f.1 in omega (arith, s))
              (λ j. let m = w.most other n j h in omega (arith, m, less))
              i;
        })
        (λ over. record {
          func = w.func;
          among = inr w.among;
          number = w.number;
          has = w.has;
          most = λ other n i h. ⊎_elim
              (λ e. let s = one F n f.0 (subst (λ H. P H n) e h) f.1 in omega (arith, s, over))
              (λ j. w.most other n j h)
              i;
        })
        (cases_lt w.number f.0)

function-sound : (p : Prog) → IsAccepted p → (F : Func) → In F p.funcs → AreSitesSound F.code
function-sound p accepted F i = let g = in_get F p.funcs i in (accepted_function p g.0 F accepted g.1).sites

width-one : (F : Func) (m n : ℕ) → IsEntryWidth F.code m → IsEntryWidth F.code n → m ≡ n
width-one F m n a b = le_antisymm (b.most a.widest m a.has) (a.most b.widest n b.has)

pub live-entries-there : LiveEntriesAreThere
live-entries-there p accepted = sum-there (λ f n. IsLiveEntryCount f.code n) p.funcs (λ F i. count-there F (function-sound p accepted F i))

pub live-entries-one : LiveEntriesAreOne
live-entries-one p m n = IsSum-one (λ f n. IsLiveEntryCount f.code n) (λ f i j. AreSoMany-one (IsLiveEntry f.code) i j) p.funcs m n

pub live-counts-one : LiveEntryCountsAreOne
live-counts-one code m n = AreSoMany-one (IsLiveEntry code) m n

pub live-counts-there : LiveEntryCountsAreThere
live-counts-there F sound = count-there F sound

pub widths-there : WidthsAreThere
widths-there p accepted = by p.funcs refl
  where
    by : (funcs : List Func) → p.funcs ≡ funcs → (n : ℕ) × IsGreatestWidth p n
    by [] e = absurd (let h : ◌≡◌ {A = Option (List ℕ)} None (Some main_name) = ap (λ fs. option_map (λ (f : Func). f.name) (slice_get fs p.main)) (sym e) ∙ p.formed.main_is in cc)
    by (F ∷ funcs) e =
        let g = greatest-there (λ f n. IsEntryWidth f.code n) width-one F funcs (λ G i. width-there G.code (function-sound p accepted G (subst (In G) (sym e) i))) in
        (g.number, record { func = g.func; is = contains_in g.func p.funcs (subst (In g.func) (sym e) g.among); has = g.has; most = λ other n i h. g.most other n (subst (In other) e (in_contains other p.funcs i)) h })
