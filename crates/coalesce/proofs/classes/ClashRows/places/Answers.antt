use Rattle.coalesce.proofs.Firsts.{places-within, places-all, places-only}
use Rattle.coalesce.proofs.classes.ClashRows.places.Goals as goal

pub returns-clause-within : goal.returns-clause-within
returns-clause-within c = places-within c.args.self.now.list.items c.args.self.now.rows.list c.args.self.now.keyed c.args.x c.in_ok-places.places.items c.in_ok-places.ensures

pub returns-clause-all : goal.returns-clause-all
returns-clause-all c = places-all c.args.self.now.list.items c.args.self.now.rows.list c.args.self.now.keyed c.args.x c.in_ok-places.places.items c.in_ok-places.ensures

pub returns-clause-only : goal.returns-clause-only
returns-clause-only c = places-only c.args.self.now.list.items c.args.self.now.rows.list c.args.self.now.keyed c.args.x c.in_ok-places.places.items c.in_ok-places.ensures
