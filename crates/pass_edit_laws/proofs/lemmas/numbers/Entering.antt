-- The entries of labels of a function, where each is matched by one of the function that it was made of.
use Rattle.std.proofs.Common.{◌≡◌, ◌≢◌, ◌⊎◌, ℕ, zero, suc, ◌+◌, ◌<◌, ◌≤◌, List, [], ◌++◌, length, map, Option, Some, None, refl, sym, ap, subst, ◌∙◌, inl, inr, ⊎_elim, arith}
use Rattle.std.specs.List.{AllPairs, range_with_len}
use Rattle.std.proofs.lemmas.Bool.{cases_lt}
use Rattle.std.proofs.lemmas.List.{length-append, length-map}
use Rattle.std.proofs.lemmas.Option.{same_Some}
use Rattle.bril_tree.specs.declared.numbered.Instr.TheVariants.{Label}
use Rattle.bril_tree.specs.declared.numbered_function.Func.{Func}
use Rattle.program_numbers.specs.Entries.{AreSoMany, Enters, IsEntryCount, IsEntryWidth}
use Rattle.bril_tree.specs.FunctionForm.{label_at}
use Rattle.bril_tree.specs.Membership.{In}
use Rattle.bril_tree.specs.Numbered.{named}
use Rattle.bril_tree.proofs.LabelPoints.{in_range, range_high}
use Rattle.bril_tree.proofs.Members.{contains_in, in_contains, in_append_left, in_append_right, in_flat_map, in_map}
use Rattle.bril_tree.proofs.Elements.{get_in}
use Rattle.bril_names.proofs.Naming.{one_number}
use Rattle.pass_edit_laws.proofs.lemmas.plan.Elements.{all_in, in_all}
use Rattle.bril_tree.proofs.Counting.{no_more}
use Rattle.pass_edit_laws.proofs.lemmas.numbers.Counting.{not_uncounted}
use Rattle.pass_edit_laws.proofs.lemmas.numbers.Existing.{label_point}
use Rattle.pass_edit_laws.proofs.lemmas.numbers.Different.{range-differ}

-- a label that is entered is one of the function
pub label-low : (F : Func) (leave : Option ℕ) (l : ℕ) → Enters F.code leave l → l < length F.labels
label-low F leave l e =
    let p = label_point F.code leave l e in
    let low = range_high 0 (length F.labels) l (subst (In l) F.formed.placed (in_flat_map label_at (Label l) l F.code (get_in F.code p.0 (Label l) p.2) (inl refl))) in
    omega arith

-- the leave point before a point
abbrev pub point_before : ℕ → Option ℕ
point_before zero = None
point_before (suc n) = Some n

pub point_before-one : (n q : ℕ) → Some q ≡ point_before n → n ≡ suc q
point_before-one zero q e = absurd (let h : Some q ≡ None = e in cc)
point_before-one (suc n) q e = ap suc (sym (same_Some q n e))

module _ (F G : Func) where
  -- the labels have one name
  abbrev pub SameLabel : ℕ → ℕ → Type 0
  SameLabel l m = (l < length G.labels) × (named F.labels m ≡ named G.labels l)

  pub one_named_label : (l k m : ℕ) → SameLabel l m → SameLabel k m → l ≡ k
  one_named_label l k m a b = one_number G.labels G.formed.labels_differ l k a.0 b.0 (sym a.1 ∙ b.1)

  -- an entry of G is matched by one of F, from a related leave point
  pub record EntryMatched (L : Option ℕ → ℕ → Option ℕ → Type 0) (leave : Option ℕ) (label : ℕ) : Type 0 where
    pub from : Option ℕ
    pub to : ℕ
    pub enters : Enters F.code from to
    pub leaves : L leave label from
    pub same : named F.labels to ≡ named G.labels label

  -- ---- how many entries

  abbrev Entry : Type 0
  Entry = Option ℕ × ℕ

  module _ (X : Type 0) (L : Option ℕ → ℕ → Option ℕ → Type 0) (IsNew : Option ℕ → ℕ → X → Type 0) (extra : List X)
      (matched : (leave : Option ℕ) (label : ℕ) → Enters G.code leave label → EntryMatched L leave label ⊎ ((x : X) × In x extra × IsNew leave label x))
      (one_leave : (a c b : Option ℕ) (l k : ℕ) → L a l b → L c k b → a ≡ c)
      (one_new : (a c : Option ℕ) (l k : ℕ) (x : X) → l < length G.labels → k < length G.labels → IsNew a l x → IsNew c k x → (a ≡ c) × (l ≡ k)) where
    abbrev was : Entry → Entry ⊎ X
    was y = inl y

    abbrev new : X → Entry ⊎ X
    new x = inr x

    -- the entry of F that an entry of G was, or the new one that it is
    abbrev StandsFor : Entry → Entry ⊎ X → Type 0
    StandsFor a (inl y) = SameLabel a.1 y.1 × L a.0 a.1 y.0
    StandsFor a (inr x) = (a.1 < length G.labels) × IsNew a.0 a.1 x

    one_entry : (a c : Entry) (y : Entry ⊎ X) → StandsFor a y → StandsFor c y → a ≡ c
    one_entry a c (inl y) r s = λ i. (one_leave a.0 c.0 y.0 a.1 c.1 r.1 s.1 i, one_named_label a.1 c.1 y.1 r.0 s.0 i)
    one_entry a c (inr x) r s = let e = one_new a.0 c.0 a.1 c.1 x r.0 s.0 r.1 s.1 in λ i. (e.0 i, e.1 i)

    -- at most so many entries more as there are new ones
    pub few-entries : (d e : ℕ) → IsEntryCount F.code d → IsEntryCount G.code e → e ≤ d + length extra
    few-entries d e a b =
        let few = no_more StandsFor b.members (map was a.members ++ map new extra) b.differ (λ x i. stands x (all_in (λ (x : Entry). Enters G.code x.0 x.1) b.members b.are x i)) one_entry in
        let both = length-append (map was a.members) (map new extra) in
        let old_ones : length (map was a.members) ≡ length a.members = length-map a.members was in
        let new_ones : length (map new extra) ≡ length extra = length-map extra new in
        let m = a.count in
        let n = b.count in
        omega arith
      where
        stands : (x : Entry) → Enters G.code x.0 x.1 → (y : Entry ⊎ X) × In y (map was a.members ++ map new extra) × StandsFor x y
        stands x enters = ⊎_elim old fresh (matched x.0 x.1 enters)
          where
            old : EntryMatched L x.0 x.1 → (y : Entry ⊎ X) × In y (map was a.members ++ map new extra) × StandsFor x y
            old m = (was (m.from, m.to), in_append_left (was (m.from, m.to)) (map was a.members) (map new extra) (in_map was (m.from, m.to) a.members (in_contains (m.from, m.to) a.members (a.all (m.from, m.to) m.enters))), ((label-low G x.0 x.1 enters, m.same), m.leaves))

            fresh : (y : X) × In y extra × IsNew x.0 x.1 y → (y : Entry ⊎ X) × In y (map was a.members ++ map new extra) × StandsFor x y
            fresh n = (new n.0, in_append_right (new n.0) (map was a.members) (map new extra) (in_map new n.0 extra n.1), (label-low G x.0 x.1 enters, n.2))

  -- no entries more, where none is new
  pub fewer-entries : (L : Option ℕ → ℕ → Option ℕ → Type 0) → ((leave : Option ℕ) (label : ℕ) → Enters G.code leave label → EntryMatched L leave label) → ((a c b : Option ℕ) (l k : ℕ) → L a l b → L c k b → a ≡ c) → (d e : ℕ) → IsEntryCount F.code d → IsEntryCount G.code e → e ≤ d
  fewer-entries L matched one d e a b =
      let few = few-entries ℕ L (λ leave label x. ⊥) [] (λ leave label enters. inl (matched leave label enters)) one (λ a c l k x low high r s. absurd r) d e a b in
      omega arith

  -- ---- how many labels from one leave point

  -- The labels that are entered from one leave point of G are those from one of F, but for extra ones, each of which has one of
  -- some things to itself.
  pub record LeaveMatched (X : Type 0) (extra : List X) (leave : Option ℕ) : Type 1 where
    pub from : Option ℕ
    pub IsExtra : ℕ → X → Type 0
    pub one : (l k : ℕ) (x : X) → l < length G.labels → k < length G.labels → IsExtra l x → IsExtra k x → l ≡ k
    pub labels : (l : ℕ) → Enters G.code leave l → ((x : X) × In x extra × IsExtra l x) ⊎ ((m : ℕ) × Enters F.code from m × (named F.labels m ≡ named G.labels l))

  -- those from one leave point of G are no more than F's width, and the extra ones
  pub labels-within : (X : Type 0) (extra : List X) (leave : Option ℕ) → LeaveMatched X extra leave → (d e : ℕ) → IsEntryWidth F.code d → AreSoMany (Enters G.code leave) e → e ≤ d + length extra
  labels-within X extra leave l d e a b = ⊎_elim (λ less. absurd (not_uncounted (Enters F.code l.from) (range_with_len 0 (length F.labels)) (range-differ (length F.labels)) (against less))) (λ le. le) (cases_lt (d + length extra) e)
    where
      was : ℕ → ℕ ⊎ X
      was m = inl m

      new : X → ℕ ⊎ X
      new x = inr x

      Related : ℕ → ℕ ⊎ X → Type 0
      Related k (inl m) = SameLabel k m
      Related k (inr x) = (k < length G.labels) × l.IsExtra k x

      one_for : (k z : ℕ) (y : ℕ ⊎ X) → Related k y → Related z y → k ≡ z
      one_for k z (inl m) r s = one_named_label k z m r s
      one_for k z (inr x) r s = l.one k z x r.0 s.0 r.1 s.1

      against : d + length extra < e → (ys : List ℕ) → AllPairs (λ x y. x ≢ y) ys → ((y : ℕ) → In y ys → Enters F.code l.from y × In y (range_with_len 0 (length F.labels))) → ((y : ℕ) → In y (range_with_len 0 (length F.labels)) → Enters F.code l.from y → In y ys) → ⊥
      against less ys differ are all =
          let there : (y : ℕ) → Enters F.code l.from y → In y ys = λ y h. all y (in_range 0 (length F.labels) y (omega arith) (let low = label-low F l.from y h in omega arith)) h in
          let most = a.most l.from (length ys) (record { members = ys; differ = differ; are = in_all (Enters F.code l.from) ys (λ y i. (are y i).0); all = λ y h. contains_in y ys (there y h); count = refl }) in
          let few = no_more Related b.members (map new extra ++ map was ys) b.differ
          (λ k i.
          let enters = all_in (Enters G.code leave) b.members b.are k i in
          let low = label-low G leave k enters in
          ⊎_elim (λ r. (new r.0, in_append_left (new r.0) (map new extra) (map was ys) (in_map new r.0 extra r.1), (low, r.2)))
          (λ r. (was r.0, in_append_right (was r.0) (map new extra) (map was ys) (in_map was r.0 ys (there r.0 r.1)), (low, r.2))) (l.labels k enters)) one_for in
          let both = length-append (map new extra) (map was ys) in
          let size = length-map ys was in
          let more = length-map extra new in
          let count = b.count in
          omega arith

  -- so are those from all
  pub width-within : (X : Type 0) (extra : List X) → ((leave : Option ℕ) → LeaveMatched X extra leave) → (d e : ℕ) → IsEntryWidth F.code d → IsEntryWidth G.code e → e ≤ d + length extra
  width-within X extra matched d e a b = labels-within X extra b.widest (matched b.widest) d e a b.has
