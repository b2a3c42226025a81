-- The lines that are put around items, entry by entry.
use Rattle.std.proofs.lemmas.Bool.{eq-eqb}
use Rattle.bril_tree.specs.declared.function_tree.Item.TheVariants as item
use Rattle.std.proofs.Common.{◌≡◌, ◌⊎◌, ℕ, zero, suc, ◌<◌, ◌≤◌, Bool, true, false, List, [], ◌∷◌, length, Option, Some, None, refl, sym, ap, subst, ◌∙◌, inl, inr, cond, arith}
use Rattle.std.specs.Prelude.{slice_get, ◌==◌, ◌&&◌, not}
use Rattle.std.proofs.lemmas.Bool.{and_parts, eqb-true}
use Rattle.std.proofs.lemmas.Option.{slice_get_within, same_Some}
use Rattle.bril_tree.specs.declared.numbered.Instr.{Instr}
use Rattle.bril_tree.specs.declared.program.Prog.{Prog}
use Rattle.bril_tree.specs.Numbered.{named, tree_at, names_in}
use Rattle.bril_tree.specs.Step.{item_at, point_of}
use Rattle.trace_paths.specs.Path.{path_from, path_by, stopped, Meeting, Over, To, Lays, Turns, Stops, item_met, chosen}
use Rattle.trace_laws.specs.lines.Traced.{Trace, Laying, stops_before, stop_lines, trace_of, trace_at}
use Rattle.trace_paths.specs.Fits.{fit_path}
use Rattle.trace_laws.specs.lines.Names.{is_label_item}
use Rattle.bril_tree.specs.Membership.{In}
use Rattle.bril_tree.proofs.Branches.{label_within}

-- ---- points inside a function

-- a path stops inside
abbrev StopsInside : List Instr → ℕ → ℕ → Type 0
StopsInside code own fuel = (room : ℕ) (choices : List Bool) (i : ℕ) → i ≤ length code → (path_from code own fuel room choices i).stop ≤ length code

met_within : (code : List Instr) (own fuel : ℕ) → StopsInside code own fuel → (m : Meeting) (room : ℕ) (choices : List Bool) (i : ℕ) → i ≤ length code → (((m ≡ Over) ⊎ (m ≡ Lays)) → suc i ≤ length code) → (path_by code (path_from code own fuel) m room choices i).stop ≤ length code
met_within code own fuel rest Over room choices i h more = rest room choices (suc i) (more (inl refl))
met_within code own fuel rest (To l) room choices i h more = rest room choices (point_of l code) (label_within l code)
met_within code own fuel rest Lays zero choices i h more = h
met_within code own fuel rest Lays (suc room) choices i h more = rest room choices (suc i) (more (inr refl))
met_within code own fuel rest (Turns on off) zero choices i h more = h
met_within code own fuel rest (Turns on off) (suc room) [] i h more = h
met_within code own fuel rest (Turns on off) (suc room) (c ∷ choices) i h more = rest room choices (point_of (chosen c on off) code) (label_within (chosen c on off) code)
met_within code own fuel rest Stops room choices i h more = h

more_of : (code : List Instr) (i : ℕ) (o : Option Instr) → slice_get code i ≡ o → ((item_met o ≡ Over) ⊎ (item_met o ≡ Lays)) → suc i ≤ length code
more_of code i None at (inl e) = absurd (cc)
more_of code i None at (inr e) = absurd (cc)
more_of code i (Some a) at e = let w = slice_get_within code i a at in omega arith

own_within : (code : List Instr) (own fuel : ℕ) → StopsInside code own fuel → (room : ℕ) (choices : List Bool) (i : ℕ) → i ≤ length code → (b : Bool) → (cond b (stopped i) (path_by code (path_from code own fuel) (item_met (slice_get code i)) room choices i)).stop ≤ length code
own_within code own fuel rest room choices i h true = h
own_within code own fuel rest room choices i h false = met_within code own fuel rest (item_met (slice_get code i)) room choices i h (more_of code i (slice_get code i) refl)

pub stop_within : (code : List Instr) (own fuel : ℕ) → StopsInside code own fuel
stop_within code own zero room choices i h = h
stop_within code own (suc fuel) room choices i h = own_within code own fuel (stop_within code own fuel) room choices i h (i == own)

-- what is asked of each laid entry
pub record IsLayable (P : Prog) (x : Laying) : Type 0 where
  pub label : List ℕ
  pub labelled : tree_at P x.fit.function x.fit.point ≡ Some (item.Label label)
  pub apart : (n v : ℕ) → v < length (names_in (slice_get P.funcs x.fit.function)) → named (names_in (slice_get P.funcs x.fit.function)) v ≡ x.names.nots n → ⊥
  pub at_label : is_label_item (item_at P x.fit.function (fit_path P x.fit).stop) ≡ true → tree_at P x.fit.function (fit_path P x.fit).stop ≡ Some (item.Label x.names.stop)

-- a number among those that a label is found at
pub record Located (P : Prog) (laid : List Laying) (f i : ℕ) (t : Trace) : Type 0 where
  pub x : Laying
  pub among : In x laid
  pub function : x.fit.function ≡ f
  pub point : x.fit.point ≡ i
  pub is : trace_of x ≡ t

pub located : (P : Prog) (laid : List Laying) (f i : ℕ) (t : Trace) → trace_at laid f i ≡ Some t → Located P laid f i t
located P [] f i t e = absurd (cc)
located P (x ∷ laid) f i t e = by ((x.fit.function == f) && (x.fit.point == i)) refl e (λ h. located P laid f i t h)
  where
    by : (b : Bool) → ((x.fit.function == f) && (x.fit.point == i)) ≡ b → cond b (Some (trace_of x)) (trace_at laid f i) ≡ Some t → (trace_at laid f i ≡ Some t → Located P laid f i t) → Located P (x ∷ laid) f i t
    by true h e rest =
        let both = and_parts (x.fit.function == f) (x.fit.point == i) h in
        record { x = x; among = inl refl; function = eqb-true x.fit.function f both.0; point = eqb-true x.fit.point i both.1; is = same_Some _ _ e }
    by false h e rest = let r = rest e in record { x = r.x; among = inr r.among; function = r.function; point = r.point; is = r.is }

module _ (P : Prog) where
  -- a line before an item
  pub record StopLine (laid : List Laying) (f i n : ℕ) : Type 0 where
    pub x : Laying
    pub among : In x laid
    pub function : x.fit.function ≡ f
    pub stop : (fit_path P x.fit).stop ≡ i
    pub no_label : is_label_item (item_at P f i) ≡ false
    pub is : slice_get (stop_lines P laid f i) n ≡ Some (item.Label x.names.stop)

  not-false : (b : Bool) → not b ≡ true → b ≡ false
  not-false true e = absurd (cc)
  not-false false e = refl

  pub parts : (x : Laying) (f i : ℕ) → stops_before P x f i ≡ true → (x.fit.function ≡ f) × ((fit_path P x.fit).stop ≡ i) × (is_label_item (item_at P f i) ≡ false)
  parts x f i e =
      let a = and_parts (x.fit.function == f) (((fit_path P x.fit).stop == i) && not (is_label_item (item_at P f i))) e in
      let b = and_parts ((fit_path P x.fit).stop == i) (not (is_label_item (item_at P f i))) a.1 in
      (eqb-true x.fit.function f a.0, eqb-true (fit_path P x.fit).stop i b.0, not-false (is_label_item (item_at P f i)) b.1)

  pub stop_line : (laid : List Laying) (f i n : ℕ) → n < length (stop_lines P laid f i) → StopLine laid f i n
  stop_line [] f i n less = absurd (omega arith)
  stop_line (x ∷ laid) f i n less = by (stops_before P x f i) refl n less (λ m l. stop_line laid f i m l)
    where
      wider : (n m : ℕ) → slice_get (stop_lines P (x ∷ laid) f i) m ≡ slice_get (stop_lines P laid f i) n → StopLine laid f i n → StopLine (x ∷ laid) f i m
      wider n m e r = record { x = r.x; among = inr r.among; function = r.function; stop = r.stop; no_label = r.no_label; is = e ∙ r.is }

      by : (b : Bool) → stops_before P x f i ≡ b → (n : ℕ) → n < length (cond b (item.Label x.names.stop ∷ stop_lines P laid f i) (stop_lines P laid f i)) → ((m : ℕ) → m < length (stop_lines P laid f i) → StopLine laid f i m) → StopLine (x ∷ laid) f i n
      by true h zero less rest = let p = parts x f i h in record { x = x; among = inl refl; function = p.0; stop = p.1; no_label = p.2; is = ap (λ b. slice_get (cond b (item.Label x.names.stop ∷ stop_lines P laid f i) (stop_lines P laid f i)) 0) h }
      by true h (suc n) less rest = wider n (suc n) (ap (λ b. slice_get (cond b (item.Label x.names.stop ∷ stop_lines P laid f i) (stop_lines P laid f i)) (suc n)) h) (rest n (omega arith))
      by false h n less rest = wider n n (ap (λ b. slice_get (cond b (item.Label x.names.stop ∷ stop_lines P laid f i) (stop_lines P laid f i)) n) h) (rest n less)

  -- no more than entries
  pub few_stops : (laid : List Laying) (f i : ℕ) → length (stop_lines P laid f i) ≤ length laid
  few_stops [] f i = omega arith
  few_stops (x ∷ laid) f i = by (stops_before P x f i) (few_stops laid f i)
    where
      by : (b : Bool) → length (stop_lines P laid f i) ≤ length laid → length (cond b (item.Label x.names.stop ∷ stop_lines P laid f i) (stop_lines P laid f i)) ≤ suc (length laid)
      by true h = omega arith
      by false h = omega arith

  -- none before a label
  pub none_before : (laid : List Laying) (f i : ℕ) → is_label_item (item_at P f i) ≡ true → length (stop_lines P laid f i) ≡ 0
  none_before laid f i is = by (length (stop_lines P laid f i)) refl
    where
      by : (n : ℕ) → length (stop_lines P laid f i) ≡ n → length (stop_lines P laid f i) ≡ 0
      by zero e = e
      by (suc n) e = absurd (let s = stop_line laid f i 0 (omega arith) in let h = sym is ∙ s.no_label in cc)

  -- the line of an entry that stops before an item that is no label
  pub record StopNumber (laid : List Laying) (f i : ℕ) (name : List ℕ) : Type 0 where
    pub number : ℕ
    pub less : number < length (stop_lines P laid f i)
    pub is : slice_get (stop_lines P laid f i) number ≡ Some (item.Label name)

  pub stop_number : (laid : List Laying) (x : Laying) → In x laid → (f i : ℕ) → x.fit.function ≡ f → (fit_path P x.fit).stop ≡ i → is_label_item (item_at P f i) ≡ false → StopNumber laid f i x.names.stop
  stop_number [] x among f i ef es no_label = absurd among
  stop_number (y ∷ laid) x among f i ef es no_label = by_in among (λ j. stop_number laid x j f i ef es no_label)
    where
      holds : stops_before P x f i ≡ true
      holds = let a : (x.fit.function == f) ≡ true = eq-eqb x.fit.function f ef in let b : ((fit_path P x.fit).stop == i) ≡ true = eq-eqb (fit_path P x.fit).stop i es in
          ap (λ c. c && (((fit_path P x.fit).stop == i) && not (is_label_item (item_at P f i)))) a ∙ ap (λ c. c && not (is_label_item (item_at P f i))) b ∙ ap not no_label

      behind : (b : Bool) → stops_before P y f i ≡ b → StopNumber laid f i x.names.stop → StopNumber (y ∷ laid) f i x.names.stop
      behind true h r =
          let l = r.less in
          record {
            number = suc r.number;
            less = subst (λ b. suc r.number < length (cond b (item.Label y.names.stop ∷ stop_lines P laid f i) (stop_lines P laid f i))) (sym h) (omega arith);
            is = ap (λ b. slice_get (cond b (item.Label y.names.stop ∷ stop_lines P laid f i) (stop_lines P laid f i)) (suc r.number)) h ∙ r.is;
          }
      behind false h r = record {
        number = r.number;
        less = subst (λ b. r.number < length (cond b (item.Label y.names.stop ∷ stop_lines P laid f i) (stop_lines P laid f i))) (sym h) r.less;
        is = ap (λ b. slice_get (cond b (item.Label y.names.stop ∷ stop_lines P laid f i) (stop_lines P laid f i)) r.number) h ∙ r.is;
      }

      by_in : (x ≡ y) ⊎ In x laid → (In x laid → StopNumber laid f i x.names.stop) → StopNumber (y ∷ laid) f i x.names.stop
      by_in (inl e) rest =
          let h : stops_before P y f i ≡ true = subst (λ z. stops_before P z f i ≡ true) e holds in
          record {
            number = 0;
            less = subst (λ b. 0 < length (cond b (item.Label y.names.stop ∷ stop_lines P laid f i) (stop_lines P laid f i))) (sym h) (omega arith);
            is = ap (λ b. slice_get (cond b (item.Label y.names.stop ∷ stop_lines P laid f i) (stop_lines P laid f i)) 0) h ∙ ap (λ (z : Laying). Some (item.Label z.names.stop)) (sym e);
          }
      by_in (inr j) rest = behind (stops_before P y f i) refl (rest j)
