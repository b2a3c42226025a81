use Rattle.std.proofs.Common.{◌≡◌, take}
use Rattle.variable_coloring.specs.Growing.{StampsClasses}
use Rattle.variable_coloring.proofs.classes.Classes.stamp_all.Given as goal

abbrev pub invariant-loop-y : goal.invariant-loop-y
invariant-loop-y l = record {
  class : l.self.class.items ≡ l.initial.self.class.items;
  placed : l.self.placed.items ≡ l.initial.self.placed.items;
  shadow : l.self.shadow.items ≡ l.initial.self.shadow.items;
  stamps : StampsClasses l.turn l.initial.self.class.items (take l.y-index l.met) l.initial.self.stamps.items l.self.stamps.items;
}
