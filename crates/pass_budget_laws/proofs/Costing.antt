-- What a step costs is within what the numbers of the program say.
use Rattle.std.proofs.Common.{ℕ, ◌+◌, ◌*◌, ◌≤◌, max, List, [], ◌∷◌, map, Option, sym, subst, inl, inr, ⊎_elim, arith}
use Rattle.std.proofs.lemmas.Bool.{cases_lt}
use Rattle.std.proofs.lemmas.Nat.{mul-le}
use Rattle.bril_tree.specs.declared.numbered_function.Func.{Func}
use Rattle.bril_tree.specs.declared.program.Prog.{Prog}
use Rattle.bril_tree.specs.Accepted.{IsAccepted}
use Rattle.bril_tree.specs.FrameWords.{IsDepth, location_count}
use Rattle.bril_tree.specs.Membership.{In}
use Rattle.bril_tree.proofs.Members.{in_contains}
use Rattle.program_numbers.specs.Cost.{IsCost}
use Rattle.program_numbers.specs.ProgramNumbers.{greatest}
use Rattle.program_numbers.proofs.Measures.{IsGreatest-one, IsSum-one, AreSoMany-one}
use Rattle.program_numbers.specs.Entries.{Enters, IsEntryCount, IsEntryWidth}
use Rattle.pass_budget_laws.specs.Budget.{step_words}
use Rattle.pass_budget_laws.specs.Laws.{OwnNumbersAreWithin}
use Rattle.pass_budget_laws.specs.Numbers.{Numbers, AreWithin}
use Rattle.pass_budget_laws.proofs.Existing.{not_depthless}

-- the number of a function of a list is at most the greatest
pub greatest-all : (size : Func → ℕ) (funcs : List Func) (f : Func) → In f funcs → size f ≤ greatest (map size funcs)
greatest-all size [] f i = absurd i
greatest-all size (g ∷ funcs) f (inl e) = subst (λ h. size h ≤ max (size g) (greatest (map size funcs))) (sym e) (omega arith)
greatest-all size (g ∷ funcs) f (inr i) = let r = greatest-all size funcs f i in omega arith

pub cost-within : (p : Prog) (n : Numbers) (cost : ℕ) → IsAccepted p → AreWithin p n → IsCost p cost → cost ≤ step_words n
cost-within p n cost accepted within c =
    let words = c.largest.has in
    let locations = greatest-all location_count p.funcs c.largest.func (in_contains c.largest.func p.funcs c.largest.is) in
    let most = within.locations in
    let deep : words.depth ≤ n.depth = ⊎_elim
    (λ less. absurd (not_depthless p accepted (λ d is. let l = within.depth d is in let m = is.most c.largest.func words.depth c.largest.is words.is in omega (arith, l, m, less))))
    (λ l. l) (cases_lt n.depth words.depth) in
    let frame : location_count c.largest.func * (1 + words.depth) ≤ n.locations * (1 + n.depth) = mul-le (location_count c.largest.func) (1 + words.depth) n.locations (1 + n.depth) (omega (arith, locations, most)) (omega (arith, deep)) in
    let are = words.are in
    let is = c.is in
    let longest = within.longest in
    omega (arith, frame, are, is, longest)

pub own-within : OwnNumbersAreWithin
own-within p n are = record {
  items = let e = are.items in omega arith;
  entries = λ entries h. let e = IsSum-one (λ f m. IsEntryCount f.code m) (λ f. AreSoMany-one (λ (pair : Option ℕ × ℕ). Enters f.code pair.0 pair.1)) p.funcs entries n.entries h are.entries in omega (arith, e);
  locations = let e = are.locations in omega arith;
  width = λ width h. let e = IsGreatest-one (λ f m. IsEntryWidth f.code m) p width n.width h are.width in omega (arith, e);
  depth = λ depth h. let e = IsGreatest-one (λ f m. IsDepth f.code m) p depth n.depth h are.depth in omega (arith, e);
  longest = let e = are.longest in omega arith;
}
