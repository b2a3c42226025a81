use Rattle.rv64_image_laws.proofs.Stopping.{firsts_are_least, none_is_left, none_is_passed}
use Rattle.rv64_image_laws.proofs.laws.stops_are_least.Goals as goal

pub returns-clause-least : goal.returns-clause-least
returns-clause-least c = firsts_are_least

pub returns-clause-passed : goal.returns-clause-passed
returns-clause-passed c = none_is_passed

pub returns-clause-left : goal.returns-clause-left
returns-clause-left c = none_is_left
