-- The depth and the width of an accepted function can't fail to be.
use Rattle.std.proofs.Common.{◌≡◌, ℕ, ◌≤◌, List, [], ◌∷◌, length, Option, Some, None, refl, sym, ap, ◌∙◌, inl, ⊎_elim, arith}
use Rattle.std.specs.Prelude.{slice_get}
use Rattle.std.specs.List.{range_with_len}
use Rattle.std.proofs.lemmas.Option.{same_Some, slice_get_within}
use Rattle.std.proofs.lemmas.List.FromFn.{length-range_with_len}
use Rattle.bril_tree.specs.declared.numbered.Instr.{Instr}
use Rattle.bril_tree.specs.declared.numbered.Instr.TheVariants.{Label, Const, Act}
use Rattle.bril_tree.specs.Edge.{Branch}
use Rattle.program_numbers.specs.Entries.{AreSoMany, Enters, IsEntryWidth}
use Rattle.bril_tree.specs.FrameWords.{IsDepth}
use Rattle.bril_tree.specs.Membership.{In}
use Rattle.bril_tree.specs.Sites.{AreSitesSound, sites_of}
use Rattle.bril_tree.specs.Walk.{IsWalk}
use Rattle.bril_tree.proofs.LabelPoints.{in_range}
use Rattle.bril_tree.proofs.Members.{contains_in}
use Rattle.pass_edit_laws.proofs.lemmas.walks.Based.{few_sites}
use Rattle.pass_edit_laws.proofs.lemmas.plan.Elements.{all_in, in_all}
use Rattle.bril_tree.proofs.Counting.{no_more}
use Rattle.pass_edit_laws.proofs.lemmas.numbers.Counting.{not_unbounded}

-- ---- depth

record HasDepth (code : List Instr) (n : ℕ) : Type 0 where
  walk : List Branch
  is : IsWalk code walk
  reaches : length (sites_of code walk) ≡ n

pub not_bottomless : (code : List Instr) → AreSitesSound code → ((n : ℕ) → IsDepth code n → ⊥) → ⊥
not_bottomless code sound none =
    not_unbounded (HasDepth code) 8 (λ n h. let l = few_sites code sound h.walk h.is in let r = h.reaches in omega arith) 0 (record { walk = []; is = tt; reaches = refl })
    (λ m h most. none m (record { deepest = h.walk; is = h.is; reaches = h.reaches; most = λ w is. most (length (sites_of code w)) (record { walk = w; is = is; reaches = refl }) }))

-- ---- width

-- at most one label stands at a point
pub one_label : (o : Option Instr) (l m : ℕ) → o ≡ Some (Label l) → o ≡ Some (Label m) → l ≡ m
one_label o l m a b = let s : Label l ≡ Label m = same_Some _ _ (sym a ∙ b) in cc

record HasLabels (code : List Instr) (n : ℕ) : Type 0 where
  leave : Option ℕ
  has : AreSoMany (Enters code leave) n

-- each label stands at a point
pub label_point : (code : List Instr) (leave : Option ℕ) (l : ℕ) → Enters code leave l → (p : ℕ) × In p (range_with_len 0 (length code)) × (slice_get code p ≡ Some (Label l))
label_point code None l e = (0, in_range 0 (length code) 0 (omega arith) (let w = slice_get_within code 0 (Label l) e in omega arith), e)
label_point code (Some q) l e = (e.0.to, in_range 0 (length code) e.0.to (omega arith) (let w = slice_get_within code e.0.to (Label l) e.3 in omega arith), e.3)

few-labels : (code : List Instr) (n : ℕ) → HasLabels code n → n ≤ length code
few-labels code n h =
    let few = no_more (λ l p. slice_get code p ≡ Some (Label l)) h.has.members (range_with_len 0 (length code)) h.has.differ (λ l i. label_point code h.leave l (all_in (Enters code h.leave) h.has.members h.has.are l i)) (λ l m p e d. one_label (slice_get code p) l m e d) in
    let size = length-range_with_len 0 (length code) in
    let count = h.has.count in
    omega arith

some-labels : (code : List Instr) → (n : ℕ) × HasLabels code n
some-labels code = by (slice_get code 0) refl
  where
    none : ((l : ℕ) → slice_get code 0 ≡ Some (Label l) → ⊥) → (n : ℕ) × HasLabels code n
    none lacks = (0, record { leave = None; has = record { members = []; differ = λ i j d less inside. absurd (omega arith); are = in_all (Enters code None) [] (λ x i. absurd i); all = λ l e. absurd (lacks l e); count = refl } })

    one : (l : ℕ) → slice_get code 0 ≡ Some (Label l) → (n : ℕ) × HasLabels code n
    one l e = (
      1,
      record {
        leave = None;
        has = record {
          members = l ∷ [];
          differ = λ i j d less inside. absurd (omega arith);
          are = in_all (Enters code None) (l ∷ []) (λ x i. ⊎_elim (λ same. e ∙ ap (λ m. Some (Label m)) (sym same)) (λ n. absurd n) i);
          all = λ m d. contains_in m (l ∷ []) (inl (one_label (slice_get code 0) m l d e));
          count = refl;
        };
      },
    )

    by : (o : Option Instr) → slice_get code 0 ≡ o → (n : ℕ) × HasLabels code n
    by None e = none (λ l d. let n : None ≡ Some (Label l) = sym e ∙ d in cc)
    by (Some (Label l)) e = one l e
    by (Some (Const dest ty value)) e = none (λ l d. let n : Const dest ty value ≡ Label l = same_Some _ _ (sym e ∙ d) in cc)
    by (Some (Act dest ty o args funcs labels)) e = none (λ l d. let n : Act dest ty o args funcs labels ≡ Label l = same_Some _ _ (sym e ∙ d) in cc)

pub not_widthless : (code : List Instr) → ((n : ℕ) → IsEntryWidth code n → ⊥) → ⊥
not_widthless code none =
    let some = some-labels code in
    not_unbounded (HasLabels code) (length code) (few-labels code) some.0 some.1
    (λ m h most. none m (record { widest = h.leave; has = h.has; most = λ leave count has. most count (record { leave = leave; has = has }) }))
