-- A function has one count of entries and one width of them, and a program one sum of entries and one cost.
use Rattle.std.proofs.Common.{◌≡◌, ℕ, ◌+◌, ◌*◌, List, [], ◌∷◌, All, sym, ap, ◌∙◌, subst, inl, inr, arith, le_antisymm}
use Rattle.std.proofs.lemmas.List.Elements.{All-head, All-tail}
use Rattle.bril_tree.specs.declared.numbered.Instr.{Instr}
use Rattle.bril_tree.specs.declared.numbered_function.Func.{Func}
use Rattle.bril_tree.specs.declared.program.Prog.{Prog}
use Rattle.bril_tree.specs.FrameWords.{AreFrameWords}
use Rattle.bril_tree.specs.Membership.{In}
use Rattle.bril_tree.proofs.Counting.{no_more_items}
use Rattle.bril_tree.proofs.Members.{in_contains}
use Rattle.program_numbers.specs.Cost.{IsCost, longest_arguments}
use Rattle.program_numbers.specs.Entries.{AreSoMany, IsEntryWidth}
use Rattle.program_numbers.specs.ProgramNumbers.{IsGreatest, IsSum}

-- ---- numbers of programs

-- the greatest of the functions' numbers is one
pub IsGreatest-one : (P : Func → ℕ → Type 0) (p : Prog) (m n : ℕ) → IsGreatest P p m → IsGreatest P p n → m ≡ n
IsGreatest-one P p m n a b = le_antisymm (b.most a.func m a.is a.has) (a.most b.func n b.is b.has)

-- and so is their sum, where each function has one number
pub IsSum-one : (P : Func → ℕ → Type 0) → ((f : Func) (m n : ℕ) → P f m → P f n → m ≡ n) → (funcs : List Func) (m n : ℕ) → IsSum P funcs m → IsSum P funcs n → m ≡ n
IsSum-one P one [] m n a b = a ∙ sym b
IsSum-one P one (f ∷ funcs) m n (i, j, first, rest, e) (k, l, first', rest', e') =
    let here : i ≡ k = one f i k first first' in
    let there : j ≡ l = IsSum-one P one funcs j l rest rest' in
    omega (arith, e, e', here, there)

pub IsCost-one : (p : Prog) (m n : ℕ) → IsCost p m → IsCost p n → m ≡ n
IsCost-one p m n a b = a.is ∙ ap (λ w. 128 + 8 * (w + longest_arguments p)) (IsGreatest-one AreFrameWords p a.frame b.frame a.largest b.largest) ∙ sym b.is

-- ---- counts of different things

all_in : {A : Type 0} (P : A → Type 0) (xs : List A) (z : A) → All P xs → In z xs → P z
all_in P [] z all i = absurd i
all_in P (x ∷ xs) z all (inl e) = subst P (sym e) (All-head P x xs all)
all_in P (x ∷ xs) z all (inr i) = all_in P xs z (All-tail P x xs all) i

pub AreSoMany-one : {A : Type 0} (P : A → Type 0) (m n : ℕ) → AreSoMany P m → AreSoMany P n → m ≡ n
AreSoMany-one P m n a b =
    let less = no_more_items a.members b.members a.differ (λ z i. in_contains z b.members (b.all z (all_in P a.members z a.are i))) in
    let more = no_more_items b.members a.members b.differ (λ z i. in_contains z a.members (a.all z (all_in P b.members z b.are i))) in
    let first = a.count in
    let second = b.count in
    omega arith

pub IsEntryWidth-one : (code : List Instr) (m n : ℕ) → IsEntryWidth code m → IsEntryWidth code n → m ≡ n
IsEntryWidth-one code m n a b = le_antisymm (b.most a.widest m a.has) (a.most b.widest n b.has)
