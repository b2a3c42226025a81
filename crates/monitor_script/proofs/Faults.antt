-- First lines that break the form, and scripts.
use Rattle.std.proofs.Common.{◌≡◌, ◌≢◌, ℕ, suc, ◌+◌, ◌≤◌, List, [], ◌∷◌, ◌++◌, length, Result, Ok, Err, refl, sym, ap, subst, ◌∙◌, arith, append_assoc, append-nil, length-append}
use Rattle.std.specs.Prelude.{IfOk, IfErr, IsErrOf, MatchResult}
use Rattle.std.specs.List.{All}
use Rattle.std.proofs.lemmas.List.Concat.{flat_map-append}
use Rattle.std.proofs.lemmas.List.Elements.{All-push, All-same}
use Rattle.monitor_script.specs.declared.order.Order.{Order}
use Rattle.monitor_script.specs.declared.fault.ScriptFault.{ScriptFault}
use Rattle.monitor_script.specs.declared.fault.ScriptFault.TheVariants.{Line, Memory}
use Rattle.monitor_script.specs.Form.{Lacks, IsOrder, IsScript, order_line, script_text}
use Rattle.monitor_script.specs.Fault.{HasNoOrder, IsFirstFault, IsFaultOf}
use Rattle.monitor_script.specs.Laws.{FaultsAreOne, ScriptsDiffer, ScriptsHaveNoFault}
use Rattle.monitor_script.proofs.Cuts.{cut_once, lacks_at}
use Rattle.monitor_script.proofs.Orders.{line_front, line_lacks, orders_same}

-- ---- laws

none_left : HasNoOrder []
none_left order after valid e = by (order_line order) e
  where
    by : (line : List ℕ) → [] ≡ line ++ 10 ∷ after → ⊥
    by [] e = let h : [] ≡ 10 ∷ after = e in cc
    by (b ∷ bytes) e = let h : [] ≡ b ∷ (bytes ++ 10 ∷ after) = e in cc

whole : (orders : List Order) (source : List ℕ) → IsScript source orders → script_text orders ++ [] ≡ source
whole orders source s = append-nil (script_text orders) ∙ s.text

pub scripts_differ : ScriptsDiffer
scripts_differ source xs ys f g = (orders_same xs ys [] [] f.all g.all none_left none_left (whole xs source f ∙ sym (whole ys source g))).orders

pub faults_are_one : FaultsAreOne
faults_are_one source m n f g =
    let s = orders_same f.before g.before f.rest g.rest f.begun g.begun f.broken g.broken (sym f.is ∙ g.is) in
    f.place ∙ ap (λ (z : List Order). suc (length z)) s.orders ∙ sym g.place

pub scripts_have_no_fault : ScriptsHaveNoFault
scripts_have_no_fault source orders line t f = f.there (orders_same f.before orders f.rest [] f.begun t.all f.broken none_left (sym f.is ∙ sym (whole orders source t))).rest

-- ---- what reading answers

pub reads_text : (source : List ℕ) (r : Result (List Order) ScriptFault) → IfOk r (λ orders. IsScript source orders) → IfErr r (IsFaultOf source)
    → (orders : List Order) → IsScript source orders → MatchResult r (λ found. found ≡ orders) (λ fault. fault ≡ Memory)
reads_text source (Ok found) text fault orders t = scripts_differ source found orders text t
reads_text source (Err (Line line)) text fault orders t = absurd (scripts_have_no_fault source orders line t fault)
reads_text source (Err Memory) text fault orders t = refl

pub tells_fault : (source : List ℕ) (r : Result (List Order) ScriptFault) → IfOk r (λ orders. IsScript source orders) → IfErr r (IsFaultOf source)
    → (line : ℕ) → IsFirstFault source line → IsErrOf r (Line line)
tells_fault source (Ok found) text fault line f = absurd (scripts_have_no_fault source found line text f)
tells_fault source (Err (Line other)) text fault line f = ap (λ z. Err (Line z)) (faults_are_one source other line fault f)
tells_fault source (Err Memory) text fault line f = absurd (scripts_have_no_fault source fault.orders line fault.text f)

-- ---- where a line is no order's

-- the line behind so many, counted from 1
pub line_at : (before : ℕ) → Line (before + 1) ≡ Line (suc before)
line_at before = ap Line (let e : before + 1 ≡ suc before = omega arith in e)

pub no_line : (rest : List ℕ) → Lacks 10 rest → HasNoOrder rest
no_line rest l order after valid e = lacks_at 10 rest (order_line order) after l e

pub other_line : (rest first behind : List ℕ) → rest ≡ first ++ 10 ∷ behind → Lacks 10 first → ((order : Order) → IsOrder order → first ≡ order_line order → ⊥) → HasNoOrder rest
other_line rest first behind is l none order after valid e = none order valid (cut_once 10 first (order_line order) behind after l (line_lacks order valid) (sym is ∙ e)).0

-- ---- lines that were looked at

-- The source begins with the lines of these orders, so many; behind them stands the rest.
pub record AreReadTo (source rest : List ℕ) (before : ℕ) (orders : List Order) : Type 0 where
  pub same : script_text orders ++ rest ≡ source
  pub all : All IsOrder orders
  pub place : before ≡ length orders

pub record IsReadTo (source rest : List ℕ) (before : ℕ) : Type 0 where
  pub orders : List Order
  pub so_far : AreReadTo source rest before orders

pub read_more : (source rest after : List ℕ) (before : ℕ) (orders more : List Order) (order : Order) → AreReadTo source rest before orders → more ≡ orders ++ order ∷ [] → IsOrder order → rest ≡ order_line order ++ 10 ∷ after
    → AreReadTo source after (before + 1) more
read_more source rest after before orders more order so_far is valid first =
    let size : length more ≡ length orders + 1 = ap length is ∙ length-append orders (order ∷ []) in
    record {
      same = ap (λ (z : List Order). script_text z ++ after) is
          ∙ ap (λ z. z ++ after) (flat_map-append (λ (order : Order). order_line order ++ 10 ∷ []) orders (order ∷ []))
          ∙ append_assoc (script_text orders) (script_text (order ∷ [])) after
          ∙ ap (λ z. script_text orders ++ z) (line_front order [] after ∙ sym first) ∙ so_far.same;
      all = All-same IsOrder more (orders ++ order ∷ []) is (All-push IsOrder orders order so_far.all valid);
      place = (let h = so_far.place in omega arith);
    }

-- a line and its LF are taken from what is left
pub less_left : (source rest line after : List ℕ) (before : ℕ) → before + length rest ≤ length source → rest ≡ line ++ 10 ∷ after → before + 1 + length after ≤ length source
less_left source rest line after before within is = let l : length rest ≡ length line + suc (length after) = ap length is ∙ length-append line (10 ∷ after) in omega arith

pub fault_at : (source rest : List ℕ) (before : ℕ) (fault : ScriptFault) → IsReadTo source rest before → rest ≢ [] → (fault ≡ Line (suc before)) × HasNoOrder rest → IsFaultOf source fault
fault_at source rest before fault read there why =
    let so_far = read.so_far in
    subst (IsFaultOf source) (sym why.0)
    (record { before = read.orders; rest = rest; is = sym so_far.same; place = ap suc so_far.place; begun = so_far.all; broken = why.1; there = there })

-- no line is left
pub read_all : (source rest : List ℕ) (before : ℕ) (orders : List Order) → AreReadTo source rest before orders → rest ≡ [] → IsScript source orders
read_all source rest before orders so_far none = record { all = so_far.all; text = sym (append-nil (script_text orders)) ∙ ap (λ z. script_text orders ++ z) (sym none) ∙ so_far.same }
