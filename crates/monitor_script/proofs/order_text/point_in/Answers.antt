use Rattle.monitor_script.proofs.Orders.{no_item, no_name, no_space, point_is}
use Rattle.monitor_script.proofs.order_text.point_in.Goals as goal

pub returns-in_default : goal.returns-in_default
returns-in_default c = no_space c.args.rest.now c.in_default.ensures

pub returns-in_default-identifier_in : goal.returns-in_default-identifier_in
returns-in_default-identifier_in c = no_name c.args.rest.now c.in-Some.name.now c.in-Some.digits.now c.in-Some.ensures.0 c.in-Some.ensures.1 c.in_default-identifier_in.ensures

pub returns-in_default-read_item : goal.returns-in_default-read_item
returns-in_default-read_item c = no_item c.args.rest.now c.in-Some.name.now c.in-Some.digits.now c.in-Some.ensures.0 c.in-Some.ensures.1 c.in_default-read_item.ensures

pub returns : goal.returns
returns c = point_is c.args.rest.now c.in-Some.name.now c.in-Some.digits.now c.in-Some-identifier_in.func.now c.in-Some-read_item.item c.in-Some.ensures.0 c.in-Some-identifier_in.ensures c.in-Some-read_item.ensures
