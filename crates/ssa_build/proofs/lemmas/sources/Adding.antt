-- The operands of one place of the sweep.
use Rattle.std.proofs.Common.{◌≡◌, ◌⊎◌, ℕ, zero, suc, ◌+◌, ◌-◌, ◌<◌, ◌≤◌, List, ◌++◌, length, map, get_or, Option, Some, None, refl, sym, ap, subst, ◌∙◌, inl, inr, ⊎_elim, arith}
use Rattle.std.specs.Prelude.{slice_get, slice_index}
use Rattle.std.specs.List.{All, Contains}
use Rattle.std.proofs.lemmas.Bool.{cases_eq, cases_lt}
use Rattle.std.proofs.lemmas.List.{get_or-map}
use Rattle.std.proofs.lemmas.List.Elements.{Contains-append_cases, Contains-append_left, Contains-append_right, Contains-get_or}
use Rattle.std.proofs.lemmas.Option.{get_or_from_slice_get, same_Some, slice_get-get_or, slice_get_within}
use Rattle.bril_tree.specs.declared.numbered.Instr.{Instr}
use Rattle.bril_tree.specs.declared.numbered_function.Func.{Func}
use Rattle.bril_tree.specs.Operand.{Location}
use Rattle.bril_tree.specs.Sites.{AreSitesSound}
use Rattle.bril_tree.proofs.Elements.{get_in, in_get}
use Rattle.bril_tree.proofs.Members.{contains_in, in_contains, in_map, in_map_source}
use Rattle.flow_graph.specs.Location.{number_of}
use Rattle.graph_search.specs.Adjacency.{EndsRow}
use Rattle.ssa_search.specs.declared.accesses.entries.Entry.{Entry}
use Rattle.flow_graph.specs.Graph.{GraphView, IsGraphOf}
use Rattle.flow_graph.proofs.Told.{edge_listed}
use Rattle.ssa_search.specs.accesses.Entries.{AreEntriesOf, EntersAt}
use Rattle.ssa_search.proofs.lemmas.accesses.Labels.{label-within}
use Rattle.ssa_search.proofs.lemmas.placing.Arcs.{edge-within}
use Rattle.ssa_build.specs.declared.trivial_phis.operands.Operand.{Operand}
use Rattle.ssa_search.specs.gets.Wants.{AreWantsOf, WantsView, gets_of, row_of}
use Rattle.ssa_build.specs.operands.Operands.{base_of}
use Rattle.ssa_build.specs.sources.Sweeping.{AddsRow, AreEdgesOf, AreOperandsBefore, IsGiven, IsSetAt, entry_key, key_of, leave_at, operand_of, told_at}
use Rattle.ssa_build.proofs.lemmas.sources.Leaving.{told-there}
use Rattle.ssa_search.specs.declared.renaming.now.WantedGet.{WantedGet}
use Rattle.ssa_search.specs.renaming.Tells.{TellsNow}
use Rattle.ssa_laws.specs.reaching_definitions.Laws.{IsTabled}

-- ---- a row of entries

module _ (entries : List Entry) (wants : WantsView) (now : List ℕ) (base key : ℕ) where
  -- the entries of the row from a place on were passed
  pub record RowPassed (end : ℕ) (old new : List Operand) : Type 0 where
    pub bound : ℕ
    pub within : bound ≤ length entries
    pub row : EndsRow (map entry_key entries) key bound end
    pub kept : (o : Operand) → Contains old o → Contains new o
    pub passed : (place : ℕ) (entry : Entry) → end ≤ place → slice_get entries place ≡ Some entry → entry_key entry ≡ key → (get : WantedGet) → Contains (row_of wants entry.label) get → Contains new (operand_of base now get)
    pub only : (o : Operand) → Contains new o → Contains old o ⊎ IsGiven entries wants now base key o

  key-at : (place : ℕ) (entry : Entry) → slice_get entries place ≡ Some entry → slice_index (map entry_key entries) place ≡ entry_key entry
  key-at place entry at = get_or-map entry_key entries place entry 0 (slice_get_within entries place entry at) ∙ ap entry_key (get_or_from_slice_get entries place entry entry at)

  pub row-start : (end : ℕ) (old : List Operand) → EndsRow (map entry_key entries) key (length (map entry_key entries)) end → length (map entry_key entries) ≡ length entries → RowPassed end old old
  row-start end old row long = record {
    bound = length (map entry_key entries);
    within = omega (arith, long);
    row = row;
    kept = λ o c. c;
    passed = λ place entry late at is get c. absurd (row.last place late (let w = slice_get_within entries place entry at in omega (arith, w, long)) (key-at place entry at ∙ is));
    only = λ o c. inl c;
  }

  pub row-next : (end place earlier : ℕ) (entry : Entry) (old mid new : List Operand) → place + 1 ≡ end → slice_get entries place ≡ Some entry → RowPassed end old mid
      → EndsRow (map entry_key entries) (slice_index (map entry_key entries) place) place earlier → new ≡ mid ++ map (operand_of base now) (row_of wants entry.label) → RowPassed earlier old new
  row-next end place earlier entry old mid new here at d ends grew = record {
    bound = place;
    within = let w = d.within in let b = d.row.within in omega (arith, here, w, b);
    row = rest;
    kept = λ o c. keep o (d.kept o c);
    passed = passed;
    only = only;
  }
    where
      gives : List Operand
      gives = map (operand_of base now) (row_of wants entry.label)

      is-key : slice_index (map entry_key entries) place ≡ key
      is-key = d.row.stands place here

      rest : EndsRow (map entry_key entries) key place earlier
      rest = subst (λ k. EndsRow (map entry_key entries) k place earlier) is-key ends

      keep : (o : Operand) → Contains mid o → Contains new o
      keep o c = subst (λ l. Contains l o) (sym grew) (Contains-append_left mid (map (operand_of base now) (row_of wants entry.label)) o c)

      own : (get : WantedGet) → Contains (row_of wants entry.label) get → Contains new (operand_of base now get)
      own get c = subst (λ l. Contains l (operand_of base now get)) (sym grew)
          (Contains-append_right mid (map (operand_of base now) (row_of wants entry.label)) (operand_of base now get)
          (contains_in (operand_of base now get) (map (operand_of base now) (row_of wants entry.label)) (in_map (operand_of base now) get (row_of wants entry.label) (in_contains get (row_of wants entry.label) c))))

      passed : (p : ℕ) (e : Entry) → earlier ≤ p → slice_get entries p ≡ Some e → entry_key e ≡ key → (get : WantedGet) → Contains (row_of wants e.label) get → Contains new (operand_of base now get)
      passed p e late found is get c = ⊎_elim
          (λ less. absurd (rest.last p late less (key-at p e found ∙ is)))
          (λ above. ⊎_elim
          (λ same.
          let e-is : e ≡ entry = same_Some e entry (sym found ∙ ap (slice_get entries) same ∙ at) in
          own get (subst (λ (x : Entry). Contains (row_of wants x.label) get) e-is c))
          (λ differs. keep (operand_of base now get) (d.passed p e (omega (arith, here, above, differs)) found is get c))
          (cases_eq p place))
          (cases_lt p place)

      only : (o : Operand) → Contains new o → Contains old o ⊎ IsGiven entries wants now base key o
      only o c = ⊎_elim
          (λ i. d.only o i)
          (λ i.
          let s = in_map_source (operand_of base now) o (row_of wants entry.label) (in_contains o (map (operand_of base now) (row_of wants entry.label)) i) in
          inr (record { entry = entry; listed = contains_in entry entries (get_in entries place entry at); leaves = sym (key-at place entry at) ∙ is-key; get = s.0; behind_label = contains_in s.0 (row_of wants entry.label) s.1; is = s.2 }))
          (Contains-append_cases mid (map (operand_of base now) (row_of wants entry.label)) o (subst (λ l. Contains l o) grew c))

  pub row-all : (end : ℕ) (old new : List Operand) → end ≡ 0 → RowPassed end old new → AddsRow entries wants now base key old new
  row-all end old new none d = record {
    kept = d.kept;
    there = λ o g.
        let at = in_get g.entry entries (in_contains g.entry entries g.listed) in
        subst (Contains new) (sym g.is) (d.passed at.0 g.entry (omega (arith, none)) at.1 g.leaves g.get g.behind_label);
    only = d.only;
  }

-- ---- what they are

leave-key : (key : ℕ) → key_of (leave_at key) ≡ key
leave-key zero = refl
leave-key (suc p) = refl

key-leave : (leave : Option ℕ) (key : ℕ) → key_of leave ≡ key → leave ≡ leave_at key
key-leave None key e = ap leave_at e
key-leave (Some p) key e = ap leave_at e

module _ (F : Func) (wants : WantsView) (is : AreWantsOf F wants) (sound : AreSitesSound F.code) (tabled : IsTabled F.code F.args (gets_of wants)) (entries : List Entry) (keys base : ℕ) (edges : AreEdgesOf F.code F.args entries keys base)
    (now : List ℕ) (key : ℕ) (tells : TellsNow (told_at F.code F.args (gets_of wants) key) now) where
  abbrev gets : ℕ → Location → Option ℕ
  gets = gets_of wants

  given-set : (o : Operand) → IsGiven entries wants now base key o → IsSetAt F.code F.args (gets_of wants) key o.get o.from
  given-set o g =
      let en : EntersAt F.code (leave_at key) g.entry.label = subst (λ l. EntersAt F.code l g.entry.label) (key-leave g.entry.leave key g.leaves) (edges.entries.only g.entry g.listed) in
      let r = (is.rows g.entry.label).only g.get g.behind_label in
      let told = told-there F.code F.args (gets_of wants) sound tabled key g.entry.label g.get.definition r.0 en r.2 in
      let l = is.listed g.entry.label g.get g.behind_label in
      let number = is.numbered l.0 g.get l.1 in
      let base-is = edges.base in
      let t : o.get ≡ l.0 = ap (λ (x : Operand). x.get) g.is ∙ (let z : g.get.definition - base ≡ l.0 = omega (arith, number, base-is) in z) in
      let z : o.from ≡ told.0 = ap (λ (x : Operand). x.from) g.is ∙ ap (slice_index now) r.1 ∙ tells r.0 told.0 told.1 in
      record {
        label = g.entry.label;
        location = r.0;
        enters = en;
        get = r.2 ∙ ap Some (number ∙ ap (λ i. base_of F.code F.args + i) (sym t));
        told = told.1 ∙ ap Some (sym z);
      }

  set-given : (t z : ℕ) → IsSetAt F.code F.args (gets_of wants) key t z → IsGiven entries wants now base key (record { get = t; from = z })
  set-given t z x =
      let entry : Entry = record { leave = leave_at key; label = x.label } in
      let get : WantedGet = record { location = number_of x.location; definition = base_of F.code F.args + t } in
      let base-is = edges.base in
      let first : t ≡ base_of F.code F.args + t - base = omega (arith, base-is) in
      let second : z ≡ slice_index now (number_of x.location) = sym (tells x.location z x.told) in
      record {
        entry = entry;
        listed = edges.entries.there (leave_at key) x.label x.enters;
        leaves = leave-key key;
        get = get;
        behind_label = (is.rows x.label).there x.location (base_of F.code F.args + t) x.get;
        is = ap (λ a. record { get = a; from = z }) first ∙ ap (λ b. record { get = base_of F.code F.args + t - base; from = b }) second;
      }

  pub operands-more : (old new : List Operand) → AreOperandsBefore F.code F.args (gets_of wants) key old → AddsRow entries wants now base key old new → AreOperandsBefore F.code F.args (gets_of wants) (suc key) new
  operands-more old new b adds = record {
    there = λ k t z less x. ⊎_elim
        (λ same. adds.there (record { get = t; from = z }) (set-given t z (subst (λ i. IsSetAt F.code F.args (gets_of wants) i t z) same x)))
        (λ differs. adds.kept (record { get = t; from = z }) (b.there k t z (omega (arith, less, differs)) x))
        (cases_eq k key);
    only = λ o c. ⊎_elim
        (λ i. let r = b.only o i in (r.0, (let l = r.1 in omega (arith, l)), r.2))
        (λ g. (key, omega arith, given-set o g))
        (adds.only o c);
  }

pub wants-above : (F : Func) (wants : WantsView) → AreWantsOf F wants → (base : ℕ) → base ≡ base_of F.code F.args → All (λ (get : WantedGet). base ≤ get.definition) wants.list
wants-above F wants is base e i d low = let n = is.numbered i (get_or wants.list i d) (slice_get-get_or wants.list i d low) in omega (arith, e, n)

-- the places of entries in the order of the sweep, and their labels
pub entries-keys : (code : List Instr) (graph : GraphView) → IsGraphOf code graph → AreSitesSound code → (entries : List Entry) → AreEntriesOf code entries → All (λ entry. entry_key entry < length code + 1) entries
entries-keys code graph is sound entries are i d low = by (get_or entries i d).leave refl
  where
    enters : EntersAt code (get_or entries i d).leave (get_or entries i d).label
    enters = are.only (get_or entries i d) (Contains-get_or entries i d low)

    leave-low : (p : ℕ) → EntersAt code (Some p) (get_or entries i d).label → suc p < length code + 1
    leave-low p en = let l = edge-within code graph is sound en.1.0 (edge_listed code graph is sound en.1.0 en.1.1) in let e = en.1.2 in omega (arith, l, e)

    by : (leave : Option ℕ) → (get_or entries i d).leave ≡ leave → key_of (get_or entries i d).leave < length code + 1
    by None e = let z = ap key_of e in omega (arith, z)
    by (Some p) e = let z = ap key_of e in let l = leave-low p (subst (λ o. EntersAt code o (get_or entries i d).label) e enters) in omega (arith, z, l)

pub entries-labels : (code : List Instr) (entries : List Entry) → AreEntriesOf code entries → (many : ℕ) → many ≡ length code + 1 → All (λ (entry : Entry). entry.label + 1 < many) entries
entries-labels code entries are many e i d low =
    let entry = get_or entries i d in
    let w = label-of (are.only entry (Contains-get_or entries i d low)) in
    omega (arith, e, w)
  where
    label-of : EntersAt code (get_or entries i d).leave (get_or entries i d).label → (get_or entries i d).label < length code
    label-of en = by (get_or entries i d).leave en
      where
        by : (leave : Option ℕ) → EntersAt code leave (get_or entries i d).label → (get_or entries i d).label < length code
        by None en = label-within code (slice_get code (get_or entries i d).label) (get_or entries i d).label refl en.0
        by (Some p) en = label-within code (slice_get code (get_or entries i d).label) (get_or entries i d).label refl en.0
