-- Each `get` of laid code has two `set`s that differ, and neither is set from the `get` itself.
use Rattle.std.proofs.Common.{◌≡◌, ◌⊎◌, ℕ, zero, suc, ◌+◌, ◌-◌, ◌<◌, ◌≤◌, Bool, true, false, cond, List, [], length, Option, Some, None, refl, sym, ap, subst, ◌∙◌, inl, inr, arith, eq-eqb}
use Rattle.std.specs.Prelude.{is_some, slice_get, slice_index, slice_index_or}
use Rattle.std.proofs.lemmas.Option.{same_Some, slice_get_within}
use Rattle.bril_tree.specs.declared.function_tree.FuncTree.{FuncTree}
use Rattle.bril_tree.specs.declared.numbered.Instr.{Instr}
use Rattle.bril_tree.specs.declared.numbered.Instr.TheVariants.{Label, Const, Act}
use Rattle.bril_tree.specs.declared.numbered_function.Func.{Func}
use Rattle.bril_tree.specs.declared.operation.Op.TheVariants as op
use Rattle.bril_tree.specs.declared.program.Prog.{Prog}
use Rattle.bril_tree.specs.Accepted.{IsAcceptedFunction}
use Rattle.bril_tree.specs.Membership.{In}
use Rattle.bril_tree.specs.Numbered.{function_tree}
use Rattle.bril_tree.specs.Operand.{Location}
use Rattle.bril_tree.specs.Shape.{is_shaped, shape_of}
use Rattle.bril_tree.specs.Sites.{Opens, item_change}
use Rattle.bril_tree.proofs.Elements.{get_in}
use Rattle.bril_tree.proofs.Members.{in_contains, in_flat_map, in_map}
use Rattle.bril_tree.proofs.Shapes.{dest_none}
use Rattle.flow_graph.specs.Location.{number_of}
use Rattle.pass_edit_laws.proofs.lemmas.numbers.Different.{in_filter}
use Rattle.pass_edit_laws.proofs.lemmas.plan.Elements.{all_in}
use Rattle.ssa_build.specs.code.Items.{name_in, set_item, stays}
use Rattle.ssa_build.specs.code.Sweep.{falls_at, row_in, sets_falling, sets_to, told}
use Rattle.ssa_laws.specs.inserted_copies.Inserted.{destination, is_copy, is_jump, source}
use Rattle.ssa_search.specs.gets.Wants.{gets_of}
use Rattle.ssa_laws.specs.layout.Form.{IsGetAt, IsGetOf}
use Rattle.ssa_laws.specs.layout.Laid.{set_tree}
use Rattle.ssa_build.specs.operands.Operands.{HasTwoSources, base_of}
use Rattle.ssa_build.specs.sources.Sweeping.{IsSetAt, told_at}
use Rattle.ssa_build.proofs.lemmas.sources.Leaving.{source-set}
use Rattle.ssa_search.specs.declared.renaming.now.WantedGet.{WantedGet}
use Rattle.ssa_laws.specs.reaching_definitions.Laws.{IsTabled}
use Rattle.ssa_laws.specs.reaching_definitions.Tables.{behind, else_passed, is_dest, passed}
use Rattle.ssa_laws.specs.reaching_definitions.Told.{argument, into_at, table_of}
use Rattle.ssa_laws.proofs.lemmas.reaching_definitions.Tabled.{few}
use Rattle.ssa_laws.proofs.lemmas.reaching_definitions.Made.{entered-same}
use Rattle.ssa_build.specs.tree.Made.{IsLaidFunction}
use Rattle.ssa_form_laws.specs.form.Form.{HasTwoSets, IsSet}
use Rattle.ssa_form_laws.proofs.lemmas.form.Edges.{Fallen, InRow, SetWay, set-way}
use Rattle.ssa_form_laws.proofs.lemmas.form.Following.{got-behind}
use Rattle.ssa_form_laws.proofs.lemmas.form.Fronts.{falls-part, get-high, gets-part, is-got, is-staying, leaves-part, put-front, staying, total}
use Rattle.ssa_form_laws.proofs.lemmas.form.Points.{begin, front-item, layout, now}
use Rattle.ssa_form_laws.proofs.lemmas.form.Single.{names-one}

-- ---- an item before which `set`s stand for the edges that leave from it

abbrev Departs : Option Instr → Type 0
Departs o = (is_jump o ≡ true) ⊎ (item_change o false ≡ Opens)

-- it assigns nothing, and is no label
record IsPlain (o : Option Instr) : Type 0 where
  copies : is_copy o ≡ false
  assigns : destination o ≡ None
  other : (l : ℕ) → o ≡ Some (Label l) → ⊥

departs-plain : (returns : Bool) (a : Instr) → is_shaped returns a ≡ true → Departs (Some a) → IsPlain (Some a)
departs-plain returns (Label l) s (inl e) = absurd cc
departs-plain returns (Label l) s (inr e) = absurd cc
departs-plain returns (Const d ty v) s (inl e) = absurd cc
departs-plain returns (Const d ty v) s (inr e) = absurd cc
departs-plain returns (Act d ty op.Jmp args fns ls) s h = record { copies = refl; assigns = dest_none (shape_of returns op.Jmp) d (length args) (length fns) (length ls) refl s; other = λ l e. cc }
departs-plain returns (Act d ty op.Br args fns ls) s h = record { copies = refl; assigns = dest_none (shape_of returns op.Br) d (length args) (length fns) (length ls) refl s; other = λ l e. cc }
departs-plain returns (Act d ty op.Speculate args fns ls) s h = record { copies = refl; assigns = dest_none (shape_of returns op.Speculate) d (length args) (length fns) (length ls) refl s; other = λ l e. cc }
departs-plain returns (Act d ty op.Commit args fns ls) s (inl e) = absurd cc
departs-plain returns (Act d ty op.Commit args fns ls) s (inr e) = absurd cc
departs-plain returns (Act d ty op.Guard args fns ls) s (inl e) = absurd cc
departs-plain returns (Act d ty op.Guard args fns ls) s (inr e) = absurd cc
departs-plain returns (Act d ty _ args fns ls) s (inl e) = absurd cc
departs-plain returns (Act d ty _ args fns ls) s (inr e) = absurd cc

module _ (fs : List (List ℕ)) (F : Func) (g : FuncTree) (x : IsLaidFunction F (function_tree fs F) g) (P : Prog) (ok : IsAcceptedFunction P F) (tabled : IsTabled F.code F.args (gets_of x.wants)) where
  abbrev gets : ℕ → Location → Option ℕ
  gets = gets_of x.wants

  abbrev Told : ℕ → Location → Option ℕ
  Told = told F x.graph.sites (layout fs F g x) gets

  -- ---- tables tell definitions

  module _ (i : ℕ) (before : (a : Location) (z : ℕ) → into_at F.code F.args gets i a ≡ Some z → z < total fs F g x) (a : Location) (z : ℕ) where
    dest-high : (o : Option Instr) → slice_get F.code i ≡ o → is_dest (destination o) a ≡ true → F.args + i < total fs F g x
    dest-high None at e = absurd (let h : false ≡ true = e in cc)
    dest-high (Some b) at e = let low = slice_get_within F.code i b at in omega arith

    passed-high : (c d : Bool) → is_copy (slice_get F.code i) ≡ c → is_dest (destination (slice_get F.code i)) a ≡ d → passed (table_of F.code F.args gets) (slice_get F.code i) i a ≡ Some z → z < total fs F g x
    passed-high true d copies dest e =
        before (source (slice_get F.code i) a) z
        (sym (ap (λ b. cond b (into_at F.code F.args gets i (source (slice_get F.code i) a)) (cond (is_dest (destination (slice_get F.code i)) a) (Some (F.args + i)) (into_at F.code F.args gets i a))) copies) ∙ e)
    passed-high false true copies dest e =
        let same : Some (F.args + i) ≡ Some z =
        sym (ap (λ b. cond b (into_at F.code F.args gets i (source (slice_get F.code i) a)) (cond (is_dest (destination (slice_get F.code i)) a) (Some (F.args + i)) (into_at F.code F.args gets i a))) copies
        ∙ ap (λ b. cond b (Some (F.args + i)) (into_at F.code F.args gets i a)) dest) ∙ e in
        subst (λ n. n < total fs F g x) (same_Some _ _ same) (dest-high (slice_get F.code i) refl dest)
    passed-high false false copies dest e =
        before a z
        (sym (ap (λ b. cond b (into_at F.code F.args gets i (source (slice_get F.code i) a)) (cond (is_dest (destination (slice_get F.code i)) a) (Some (F.args + i)) (into_at F.code F.args gets i a))) copies
        ∙ ap (λ b. cond b (Some (F.args + i)) (into_at F.code F.args gets i a)) dest) ∙ e)

    behind-high : behind F.code (table_of F.code F.args gets) i a ≡ Some z → z < total fs F g x
    behind-high e = by (gets i a) refl e
      where
        by : (o : Option ℕ) → gets i a ≡ o → else_passed o (passed (table_of F.code F.args gets) (slice_get F.code i) i a) ≡ Some z → z < total fs F g x
        by None h e = passed-high (is_copy (slice_get F.code i)) (is_dest (destination (slice_get F.code i)) a) refl refl e
        by (Some y) h e = get-high fs F g x i z a (h ∙ e)

  into-high : (i : ℕ) (a : Location) (z : ℕ) → into_at F.code F.args gets i a ≡ Some z → z < total fs F g x
  into-high zero a z e = let low = few F.args z (a, entered-same (slice_get F.code 0) (argument F.args a) z e) in omega arith
  into-high (suc i) a z e = behind-high i (into-high i) a z (entered-same (slice_get F.code (suc i)) (behind F.code (table_of F.code F.args gets) i a) z e)

  told-high : (key : ℕ) (a : Location) (z : ℕ) → told_at F.code F.args gets key a ≡ Some z → z < total fs F g x
  told-high zero a z e = let low = few F.args z (a, e) in omega arith
  told-high (suc p) a z e = behind-high p (into-high p) a z e

  -- ---- what a departing item's `set`s are set from

  shaped : (p : ℕ) (a : Instr) → slice_get F.code p ≡ Some a → is_shaped (is_some F.ret) a ≡ true
  shaped p a at = all_in (λ b. is_shaped (is_some F.ret) b ≡ true) F.code ok.shaped a (get_in F.code p a at)

  plain-at : (p : ℕ) → p < length F.code → Departs (slice_get F.code p) → IsPlain (slice_get F.code p)
  plain-at p low d = by (slice_get F.code p) refl
    where
      by : (o : Option Instr) → slice_get F.code p ≡ o → IsPlain (slice_get F.code p)
      by None at = record { copies = ap is_copy at; assigns = ap destination at; other = λ l e. let h : None ≡ Some (Label l) = sym at ∙ e in cc }
      by (Some a) at = subst IsPlain (sym at) (departs-plain (is_some F.ret) a (shaped p a at) (subst Departs at d))

  into-told : (p : ℕ) (a : Location) (z : ℕ) → into_at F.code F.args gets p a ≡ Some z → Told p a ≡ Some z
  into-told zero a z e = entered-same (slice_get F.code 0) (argument F.args a) z e
  into-told (suc p) a z e = entered-same (slice_get F.code (suc p)) (behind F.code (table_of F.code F.args gets) p a) z e

  -- behind such an item the tables tell what they tell before it
  departs-told : (p : ℕ) → p < length F.code → Departs (slice_get F.code p) → (a : Location) (z : ℕ) → behind F.code (table_of F.code F.args gets) p a ≡ Some z → Told p a ≡ Some z
  departs-told p low d a z e =
      into-told p a z
      (sym (ap (λ o. else_passed o (passed (table_of F.code F.args gets) (slice_get F.code p) p a)) (none (gets p a) refl)
      ∙ ap (λ b. cond b (into_at F.code F.args gets p (source (slice_get F.code p) a)) (cond (is_dest (destination (slice_get F.code p)) a) (Some (F.args + p)) (into_at F.code F.args gets p a))) plain.copies
      ∙ ap (λ o. cond (is_dest o a) (Some (F.args + p)) (into_at F.code F.args gets p a)) plain.assigns) ∙ e)
    where
      plain : IsPlain (slice_get F.code p)
      plain = plain-at p low d

      none : (o : Option ℕ) → gets p a ≡ o → gets p a ≡ None
      none None h = h
      none (Some y) h = absurd (let l = tabled.wanted.label p y a h in plain.other l.0 l.1)

  -- ---- each source has its `set`

  stay-in : (k y : ℕ) (a : Location) → gets k a ≡ Some y → slice_index x.find y ≡ y → In (record { location = number_of a; definition = y }) (staying fs F g x k)
  stay-in k y a got stay =
      let get : WantedGet = record { location = number_of a; definition = y } in
      in_filter (stays x.find) (row_in x.wants.starts x.wants.list k) get (in_contains get (row_in x.wants.starts x.wants.list k) ((x.are_gets k).there a y got)) (eq-eqb (slice_index x.find y) y stay)

  -- a `set` put in before an item stands in the code
  put-stands : (i y z : ℕ) (a : Location) → i ≤ length F.code → Told i a ≡ Some z
      → In (set_item x.names x.find (now fs F g x i) (record { location = number_of a; definition = y })) (falls-part fs F g x i) ⊎ In (set_item x.names x.find (now fs F g x i) (record { location = number_of a; definition = y })) (leaves-part fs F g x i)
      → IsSet g.code (name_in x.names y) (name_in x.names (slice_index x.find z))
  put-stands i y z a low tells among =
      let put = set_item x.names x.find (now fs F g x i) (record { location = number_of a; definition = y }) in
      let p = put-front fs F g x i put among in
      let has : slice_index (now fs F g x i) (number_of a) ≡ z = x.laid.tells i low a z tells in
      (begin fs F g x i + p.0, front-item fs F g x i p.0 put low p.1 ∙ ap (λ n. Some (set_tree (name_in x.names y) (name_in x.names (slice_index x.find n)))) has)

  falls-in : (i y : ℕ) (a : Location) → falls_at F.code x.graph.sites i ≡ true → In (record { location = number_of a; definition = y }) (staying fs F g x i) → In (set_item x.names x.find (now fs F g x i) (record { location = number_of a; definition = y })) (falls-part fs F g x i)
  falls-in i y a falls among =
      let get : WantedGet = record { location = number_of a; definition = y } in
      subst (λ b. In (set_item x.names x.find (now fs F g x i) get) (sets_falling (layout fs F g x) (now fs F g x i) b i)) (sym falls) (in_map (set_item x.names x.find (now fs F g x i)) get (staying fs F g x i) among)

  set-stands : (key t z : ℕ) → slice_index x.find (base_of F.code F.args + t) ≡ base_of F.code F.args + t → IsSetAt F.code F.args gets key t z → IsSet g.code (name_in x.names (base_of F.code F.args + t)) (name_in x.names (slice_index x.find z))
  set-stands zero t z stay s =
      let y = base_of F.code F.args + t in
      let start : gets 0 s.location ≡ Some y = ap (λ k. gets k s.location) (sym s.enters.1) ∙ s.get in
      put-stands 0 y z s.location (omega arith) s.told (inl (falls-in 0 y s.location refl (stay-in 0 y s.location start stay)))
  set-stands (suc p) t z stay s = by (set-way F.code x.graph x.is_graph ok.sites x.rows x.are_rows p s.label s.enters)
    where
      y : ℕ
      y = base_of F.code F.args + t

      get : WantedGet
      get = record { location = number_of s.location; definition = y }

      by : SetWay F.code x.graph x.is_graph ok.sites x.rows p s.label → IsSet g.code (name_in x.names (base_of F.code F.args + t)) (name_in x.names (slice_index x.find z))
      by (InRow low departs row) =
          put-stands p (base_of F.code F.args + t) z s.location (omega arith) (departs-told p low departs s.location z s.told)
          (inr (in_flat_map (sets_to (layout fs F g x) (now fs F g x p)) s.label (set_item x.names x.find (now fs F g x p) (record { location = number_of s.location; definition = base_of F.code F.args + t })) (slice_index_or x.rows p []) row
          (in_map (set_item x.names x.find (now fs F g x p)) (record { location = number_of s.location; definition = base_of F.code F.args + t }) (staying fs F g x s.label) (stay-in s.label (base_of F.code F.args + t) s.location s.get stay))))
      by (Fallen next falls) =
          let l = tabled.wanted.label s.label (base_of F.code F.args + t) s.location s.get in
          let low = slice_get_within F.code s.label (Label l.0) l.1 in
          put-stands s.label (base_of F.code F.args + t) z s.location (omega arith) (ap (λ i. Told i s.location) next ∙ s.told)
          (inl (falls-in s.label (base_of F.code F.args + t) s.location falls (stay-in s.label (base_of F.code F.args + t) s.location s.get stay)))

  source-high : (key t z : ℕ) → IsSetAt F.code F.args gets key t z → z < total fs F g x
  source-high key t z s = told-high key s.location z s.told

  -- what stands for a definition is one
  find-high : (z : ℕ) → z < total fs F g x → slice_index x.find z < total fs F g x
  find-high z low = let l = x.long in let w = x.solved.within z (omega (arith, low)) in omega arith

  two-sets : (k y : ℕ) (a : Location) → gets k a ≡ Some y → slice_index x.find y ≡ y → HasTwoSources F.code F.args gets (λ d. slice_index x.find d) k y a → HasTwoSets g.code (name_in x.names y)
  two-sets k y a got stay two =
      let above = tabled.wanted.above k y a got in
      let t : ℕ = y - base_of F.code F.args in
      let same : y ≡ base_of F.code F.args + t = omega arith in
      let first = source-set F.code F.args gets ok.sites tabled k t two.first a (got ∙ ap Some same) two.is_first in
      let second = source-set F.code F.args gets ok.sites tabled k t two.second a (got ∙ ap Some same) two.is_second in
      let stays' : slice_index x.find (base_of F.code F.args + t) ≡ base_of F.code F.args + t = ap (slice_index x.find) (sym same) ∙ stay ∙ same in
      let one = find-high two.first (source-high first.0 t two.first first.2) in
      let other = find-high two.second (source-high second.0 t two.second second.2) in
      let own = get-high fs F g x k y a got in
      record {
        first = name_in x.names (slice_index x.find two.first);
        second = name_in x.names (slice_index x.find two.second);
        is_first = subst (λ n. IsSet g.code (name_in x.names n) (name_in x.names (slice_index x.find two.first))) (sym same) (set-stands first.0 t two.first stays' first.2);
        is_second = subst (λ n. IsSet g.code (name_in x.names n) (name_in x.names (slice_index x.find two.second))) (sym same) (set-stands second.0 t two.second stays' second.2);
        differ = λ e. two.differ (names-one fs F g x (slice_index x.find two.first) (slice_index x.find two.second) one other e);
        other_first = λ e. two.other_first (names-one fs F g x (slice_index x.find two.first) y one own e);
        other_second = λ e. two.other_second (names-one fs F g x (slice_index x.find two.second) y other own e);
      }

  pub needed : (j : ℕ) (name : List ℕ) → IsGetAt g.code j name → HasTwoSets g.code name
  needed j name get =
      let b = got-behind fs F g x j name get in
      let s = is-got F.vars x.names (staying fs F g x b.label) get.0 (get_in (gets-part fs F g x (suc b.label)) b.index get.0 b.stands) in
      let stay = is-staying fs F g x b.label s.get s.among in
      let named : Some (name_in x.names s.get.definition) ≡ Some name = subst (IsGetOf name) s.is get.2 in
      subst (HasTwoSets g.code) (same_Some _ _ named) (two-sets b.label s.get.definition stay.location stay.got stay.stays (x.solved.needed b.label s.get.definition stay.location stay.got stay.stays))
