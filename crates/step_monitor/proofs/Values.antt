-- The word at a home, and what it shows.
use Rattle.std.proofs.Common.{◌≡◌, ℕ, ◌+◌, ◌*◌, Option, Some, None, refl, sym, ap, ◌∙◌, subst}
use Rattle.bril_tree.specs.declared.home.Home.{Home}
use Rattle.bril_tree.specs.declared.home.Home.TheVariants.{Reg, Frame}
use Rattle.bril_tree.specs.declared.value.Value.{Value}
use Rattle.bril_tree.specs.Run.{Suits}
use Rattle.bril_tree.specs.Value.{word_of}
use Rattle.rv64_image_laws.proofs.PointValues.{value_one}
use Rattle.rv64_image_laws.specs.Stops.{IsValueOf, ShownBy, home_word}
use Rattle.rv64_machine.specs.StepAnswers.{unprinted}
use Rattle.rv64_words.specs.declared.points.HomeAt.{HomeAt}
use Rattle.rv64_words.specs.Region.{Address, InCells, InStack, InTable, Sizes, address_at}
use Rattle.rv64_words.specs.StackWords.{word_in_stack}
use Rattle.rv64_words.specs.State.{State}
use Rattle.step_monitor.specs.declared.entry.EntryValue.{EntryValue}
use Rattle.step_monitor.specs.MonitorView.{IsShownEntry}

-- ---- what an entry shows

pub shows_none : (z : Sizes) (t : State) (o : Option HomeAt) (answer : Option Value) → o ≡ None → answer ≡ None → ShownBy z t o answer
shows_none z t o answer none is = subst (λ e. ShownBy z t e answer) (sym none) is

pub shows_nowhere : (z : Sizes) (t : State) (o : Option HomeAt) (h : HomeAt) (answer : Option Value) → o ≡ Some h → home_word z t h.home ≡ None → answer ≡ None → ShownBy z t o answer
shows_nowhere z t o h answer some none is = subst (λ e. ShownBy z t e answer) (sym some) (subst (λ w. IsValueOf h.ty w answer) (sym none) is)

pub shows_word : (z : Sizes) (t : State) (o : Option HomeAt) (h : HomeAt) (word : ℕ) (answer : Option Value) → o ≡ Some h → home_word z t h.home ≡ Some word → IsValueOf h.ty (Some word) answer → ShownBy z t o answer
shows_word z t o h word answer some at is = subst (λ e. ShownBy z t e answer) (sym some) (subst (λ w. IsValueOf h.ty w answer) (sym at) is)

-- ---- what the entry at a place shows

pub entry_none : (z : Sizes) (t : State) (o : Option HomeAt) (answer : Option EntryValue) → o ≡ None → answer ≡ None → IsShownEntry z t o answer
entry_none z t o answer none is = subst (λ e. IsShownEntry z t e answer) (sym none) is

pub entry_nothing : (z : Sizes) (t : State) (o : Option HomeAt) (h : HomeAt) (answer : Option EntryValue) → o ≡ Some h → IsValueOf h.ty (home_word z t h.home) None → answer ≡ None → IsShownEntry z t o answer
entry_nothing z t o h answer some none is = subst (λ e. IsShownEntry z t e answer) (sym some) (subst (IsShownEntry z t (Some h)) (sym is) none)

pub entry_value : (z : Sizes) (t : State) (o : Option HomeAt) (h : HomeAt) (value : Value) → o ≡ Some h → IsValueOf h.ty (home_word z t h.home) (Some value) → IsShownEntry z t o (Some (record { var = h.var; value = value }))
entry_value z t o h value some is = subst (λ e. IsShownEntry z t e (Some (record { var = h.var; value = value }))) (sym some) (refl, is)

-- where the word is that of a value of the entry's type
pub entry_read : (z : Sizes) (t : State) (h : HomeAt) (v : Value) (answer : Option EntryValue) → Suits v (Some h.ty) → home_word z t h.home ≡ Some (word_of v) → IsShownEntry z t (Some h) answer → answer ≡ Some (record { var = h.var; value = v })
entry_read z t h v None suits at is = absurd (let none : IsValueOf h.ty (Some (word_of v)) None = subst (λ w. IsValueOf h.ty w None) at is in none v suits refl)
entry_read z t h v (Some entry) suits at is =
    let own : IsValueOf h.ty (Some (word_of v)) (Some entry.value) = subst (λ w. IsValueOf h.ty w (Some entry.value)) at is.1 in
    let same : entry.value ≡ v = value_one h.ty entry.value v own.0 suits own.1 in
    ap (entry_of_value entry.value) is.0 ∙ ap (λ u. entry_of_value u h.var) same
  where
    entry_of_value : Value → ℕ → Option EntryValue
    entry_of_value value var = Some (record { var = var; value = value })

-- ---- what was printed shows nowhere

stack_printed : (t : State) (o : Option Address) → word_in_stack (unprinted t) o ≡ word_in_stack t o
stack_printed t None = refl
stack_printed t (Some (InStack k)) = refl
stack_printed t (Some (InTable k)) = refl
stack_printed t (Some (InCells k)) = refl

home_printed : (z : Sizes) (t : State) (home : Home) → home_word z (unprinted t) home ≡ home_word z t home
home_printed z t (Reg r) = refl
home_printed z t (Frame o) = stack_printed t (address_at z (t.registers 2 + 8 * o))

pub shown_printed : (z : Sizes) (t : State) (o : Option HomeAt) (answer : Option Value) → ShownBy z (unprinted t) o answer → ShownBy z t o answer
shown_printed z t None answer is = is
shown_printed z t (Some h) answer is = subst (λ w. IsValueOf h.ty w answer) (home_printed z t h.home) is

pub entry_printed : (z : Sizes) (t : State) (h : HomeAt) (answer : Option EntryValue) → IsShownEntry z (unprinted t) (Some h) answer → IsShownEntry z t (Some h) answer
entry_printed z t h None is = subst (λ w. IsValueOf h.ty w None) (home_printed z t h.home) is
entry_printed z t h (Some entry) is = (is.0, subst (λ w. IsValueOf h.ty w (Some entry.value)) (home_printed z t h.home) is.1)
