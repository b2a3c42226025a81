-- The rows of the passes that make no program longer.
use Rattle.std.proofs.Common.{◌≡◌, ℕ, ◌+◌, ◌≤◌, List, arith}
use Rattle.bril_profile.specs.declared.profile.Profile.{Profile}
use Rattle.bril_tree.specs.declared.program.Prog.{Prog}
use Rattle.bril_tree.specs.Accepted.{IsAccepted}
use Rattle.bril_tree.specs.Size.{item_count}
use Rattle.pass_budget_laws.specs.Laws.{IsWithinRow}
use Rattle.pass_budget_laws.specs.Numbers.{Numbers, AreWithin}
use Rattle.pass_budget_laws.specs.Rows.{keeps, widens}
use Rattle.pass_law.specs.Meaning.{Meaning, Link}
use Rattle.pass_edit_laws.specs.numbers.Numbers.{NumbersWithin, widened}
use Rattle.pass_budget_laws.proofs.Growing.{Leads, grows-within}

leads-wider : (more : ℕ) (n : Numbers) → Leads (widened more) n (record n { width = n.width + more })
leads-wider more n = record {
  locations = λ x l. l;
  arguments = λ x l. l;
  depth = λ x l. l;
  entries = λ x l. l;
  width = λ x l. omega (arith, l);
}

leads-same : (n : Numbers) → Leads (widened 0) n n
leads-same n = record {
  locations = λ x l. l;
  arguments = λ x l. l;
  depth = λ x l. l;
  entries = λ x l. l;
  width = λ x l. omega (arith, l);
}

-- What the passes here have in common: one step of one, and no item more.
pub record MakesNoMore (m : Meaning) : Type 0 where
  pub factor : (P : Prog) (profile : Profile) (k : ℕ) → m.IsFactor P profile k → k ≡ 1
  pub bound : (P : Prog) (profile : Profile) (k : ℕ) → m.IsBound P profile k → k ≡ item_count P

no-more_items : (m : Meaning) → MakesNoMore m → (P Q : Prog) (profile : Profile) (n : Numbers) → AreWithin P n → Link m profile P Q → item_count Q ≤ n.items
no-more_items m more P Q profile n within link = let b = more.bound P profile link.bound link.is_bound in let i = link.within in let w = within.items in omega (arith, b, i, w)

pub keeps-row : (m : Meaning) (name : List ℕ) → MakesNoMore m → ((P Q : Prog) (profile : Profile) → IsAccepted P → Link m profile P Q → NumbersWithin P Q 0) → IsWithinRow m (keeps name)
keeps-row m name more numbers = record {
  factor = λ P profile n k accepted within is. let e = more.factor P profile k is in omega (arith, e);
  after = λ P Q profile n accepted within link. grows-within P Q (widened 0) n n accepted within (numbers P Q profile accepted link) (leads-same n) (no-more_items m more P Q profile n within link);
}

pub widens-row : (m : Meaning) (name : List ℕ) (wider : ℕ) → MakesNoMore m → ((P Q : Prog) (profile : Profile) → IsAccepted P → Link m profile P Q → NumbersWithin P Q wider) → IsWithinRow m (widens wider name)
widens-row m name wider more numbers = record {
  factor = λ P profile n k accepted within is. let e = more.factor P profile k is in omega (arith, e);
  after = λ P Q profile n accepted within link. grows-within P Q (widened wider) n (record n { width = n.width + wider }) accepted within (numbers P Q profile accepted link) (leads-wider wider n) (no-more_items m more P Q profile n within link);
}
