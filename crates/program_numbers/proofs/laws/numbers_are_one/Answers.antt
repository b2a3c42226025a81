use Rattle.program_numbers.proofs.Measures.{AreSoMany-one, IsEntryWidth-one, IsSum-one, IsCost-one}
use Rattle.program_numbers.proofs.laws.numbers_are_one.Goals as goal

pub returns-clause-entries : goal.returns-clause-entries
returns-clause-entries c = λ code m n. AreSoMany-one _ m n

pub returns-clause-width : goal.returns-clause-width
returns-clause-width c = IsEntryWidth-one

pub returns-clause-cost : goal.returns-clause-cost
returns-clause-cost c = IsCost-one

pub returns-clause-sum : goal.returns-clause-sum
returns-clause-sum c = λ p m n. IsSum-one _ (λ f i j. AreSoMany-one _ i j) p.funcs m n
