use Rattle.std.proofs.Common.{refl, sym, subst}
use Rattle.std.proofs.Common.{◌*◌, true≢false}
use Rattle.flow_graph.specs.Reads.{reads_from}
use Rattle.side_pairs.specs.Readers.{AreReadersOf}
use Rattle.side_pairs.proofs.Reading.{alone-many, alone-nobody, alone-one}
use Rattle.side_pairs.proofs.readers.is_alone.Goals as goal

pub returns-in-Nobody : goal.returns-in-Nobody
returns-in-Nobody c = λ code are. ((λ _. alone-nobody code c.args.variable c.args.item (subst (AreReadersOf (reads_from 0 code) (2 * c.args.variable)) (sym c.in-Nobody.ensures) (are.at (2 * c.args.variable)))), (λ _. refl))

pub returns-in-One : goal.returns-in-One
returns-in-One c = λ code are. alone-one code c.args.variable c.args.item c.in-One.reader (subst (AreReadersOf (reads_from 0 code) (2 * c.args.variable)) (sym c.in-One.ensures) (are.at (2 * c.args.variable)))

pub returns-in-Many : goal.returns-in-Many
returns-in-Many c = λ code are. ((λ e. absurd (true≢false (sym e))), (λ alone. absurd (alone-many code c.args.variable c.args.item (subst (AreReadersOf (reads_from 0 code) (2 * c.args.variable)) (sym c.in-Many.ensures) (are.at (2 * c.args.variable))) alone)))
