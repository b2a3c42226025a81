-- What a state shows, and counts as they are kept.
use Rattle.std.proofs.Common.{◌≡◌, ℕ, ◌+◌, ◌-◌, ◌^◌, ◌<◌, min, Bool, true, false, List, [], length, map, get_or, Option, Some, None, refl, sym, ap, ap₂, ◌∙◌}
use Rattle.std.specs.Prelude.{is_some, not, nat_lt, slice_get, slice_set, slice_index}
use Rattle.std.specs.Option.{option_map}
use Rattle.std.proofs.lemmas.Bool.{ltb-true}
use Rattle.std.proofs.lemmas.List.{get_or-map, map-set}
use Rattle.std.proofs.lemmas.Option.{same_Some, slice_get-get_or}
use Rattle.bril_interpreter.specs.declared.answer.Here.{Here}
use Rattle.bril_interpreter.specs.Interpreter.{place_in}
use Rattle.bril_tree.specs.declared.numbered.Instr.{Instr}
use Rattle.bril_tree.specs.declared.program.Prog.{Prog}
use Rattle.bril_tree.specs.State.{Frame}
use Rattle.bril_tree.specs.Step.{item_at}
use Rattle.trace_recorder.specs.declared.arrival.Arrival.{Arrival}
use Rattle.trace_recorder.specs.Sight.{Sight, sight_in, sight_at, choice_at, arrival, label_at}
use Rattle.trace_recorder.specs.Counts.{counted_in, with_number}

-- ---- lists

pub get-item : {X : Type 0} (xs : List X) (k : ℕ) (x : X) → true ≡ nat_lt k (length xs) → x ≡ get_or xs k x → slice_get xs k ≡ Some x
get-item xs k x less at = slice_get-get_or xs k x (ltb-true k (length xs) (sym less)) ∙ ap Some (sym at)

-- ---- the item of a state

pub seen_is : (P : Prog) (o : Option Frame) (h : Here) (item : Instr) (choice : Bool) → Some h ≡ option_map place_in o → item_at P h.func h.item ≡ Some item → ((frame : Frame) → o ≡ Some frame → choice ≡ choice_at item frame.locations)
    → Some (let s : Sight = record { function = h.func; point = h.item; item = item; choice = choice } in s) ≡ sight_in P o
seen_is P None h item choice here at goes = absurd (let n : Some h ≡ None = here in cc)
seen_is P (Some f) h item choice here at goes =
    let same : h ≡ place_in f = same_Some h (place_in f) here in
    let func : h.func ≡ f.function = ap (λ (z : Here). z.func) same in
    let point : h.item ≡ f.point = ap (λ (z : Here). z.item) same in
    let there : item_at P f.function f.point ≡ Some item = ap₂ (λ a b. item_at P a b) (sym func) (sym point) ∙ at in
    let goes_so : choice ≡ choice_at item f.locations = goes f refl in
    (λ i. Some (record { function = func i; point = point i; item = item; choice = goes_so i })) ∙ sym (ap (sight_at f) there)

module _ (P : Prog) (f : Frame) (h : Here) (here : h ≡ place_in f) where
  pub item_there : item_at P f.function f.point ≡ item_at P h.func h.item
  item_there = ap₂ (λ a b. item_at P a b) (sym (ap (λ (z : Here). z.func) here)) (sym (ap (λ (z : Here). z.item) here))

pub arrival_is : (P : Prog) (o : Option Frame) (h : Here) (item : Instr) → Some h ≡ option_map place_in o → item_at P h.func h.item ≡ Some item → label_at h.func h.item item ≡ arrival (sight_in P o)
arrival_is P None h item here at = absurd (let n : Some h ≡ None = here in cc)
arrival_is P (Some f) h item here at =
    let same : h ≡ place_in f = same_Some h (place_in f) here in
    ap₂ (λ a b. label_at a b item) (ap (λ (z : Here). z.func) same) (ap (λ (z : Here). z.item) same)
    ∙ sym (ap (λ i. arrival (sight_at f i)) (item_there P f h same ∙ at))

-- ---- counts as they are kept

pub number_row : {V : Type 0} (g : V → List ℕ) (rows : List V) (a : Arrival) (n : ℕ) (row new : V) → a.func < length rows → row ≡ get_or rows a.func row
    → g new ≡ slice_set (g row) a.label n → map g (slice_set rows a.func new) ≡ with_number (map g rows) a n
number_row g rows a n row new less at made =
    let here : get_or (map g rows) a.func [] ≡ g row = get_or-map g rows a.func row [] less ∙ ap g (sym at) in
    map-set g rows a.func new ∙ ap (slice_set (map g rows) a.func) (made ∙ ap (λ r. slice_set r a.label n) (sym here))

pub count_row : {V : Type 0} (g : V → List ℕ) (rows : List V) (a : Arrival) (row new : V) → a.func < length rows → row ≡ get_or rows a.func row
    → g new ≡ slice_set (g row) a.label (min (slice_index (g row) a.label + 1) (2 ^ 32 - 1)) → map g (slice_set rows a.func new) ≡ counted_in (map g rows) a
count_row g rows a row new less at made =
    let here : get_or (map g rows) a.func [] ≡ g row = get_or-map g rows a.func row [] less ∙ ap g (sym at) in
    map-set g rows a.func new ∙ ap (slice_set (map g rows) a.func) (made ∙ ap (λ r. slice_set r a.label (min (slice_index r a.label + 1) (2 ^ 32 - 1))) (sym here))

pub none_from : {X : Type 0} (o : Option X) (b : Bool) → is_some o ≡ not b → b ≡ true → o ≡ None
none_from None b e t = refl
none_from (Some x) b e t = absurd (let h : true ≡ false = e ∙ ap not t in cc)
