-- A function has one list of pairs.
use Rattle.side_laws.specs.Laws.{PairsAreOneList}
use Rattle.side_laws.proofs.lemmas.pairs.Existing.{pairs-there}
use Rattle.side_laws.proofs.lemmas.pairs.Unique.{pairs-one}

pub pairs-are-one_list : PairsAreOneList
pairs-are-one_list code = record {
  pairs = (pairs-there code).0;
  are = (pairs-there code).1;
  only = λ others are. pairs-one code others (pairs-there code).0 are (pairs-there code).1;
}
