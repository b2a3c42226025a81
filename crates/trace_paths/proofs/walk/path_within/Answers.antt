use Rattle.std.proofs.Common.{◌≡◌, ◌-◌, ◌+◌, ◌++◌, ◌∷◌, [], map, drop, suc, sym, ap, subst, ◌∙◌}
use Rattle.std.proofs.lemmas.List.{map_push}
use Rattle.trace_paths.specs.Path as path
use Rattle.trace_paths.specs.Path.{path_from}
use Rattle.trace_paths.specs.Walked.{leg_of, behind_legs, later}
use Rattle.trace_paths.specs.declared.walk.Leg.TheVariants as kept
use Rattle.trace_paths.proofs.Steps.{stops-legs, stops-at, walks, lays, later-drop, used-more}
use Rattle.trace_paths.proofs.walk.path_within.Goals as goal

pub returns-in-Stop-clause-legs : goal.returns-in-Stop-clause-legs
returns-in-Stop-clause-legs c =
    stops-legs c.args.code.now c.args.own c.items.fuel (map leg_of c.items.legs.items) (path_from c.args.code.now c.args.own c.args.most 256 c.args.choices.now (suc c.args.own)) c.items.room (drop c.items.used c.args.choices.now) c.items.at c.items.invariant.same
    c.items-test.true c.if-at-own.true c.in-Stop.ensures.path

pub returns-in-Stop-clause-stop : goal.returns-in-Stop-clause-stop
returns-in-Stop-clause-stop c =
    stops-at c.args.code.now c.args.own c.items.fuel (map leg_of c.items.legs.items) (path_from c.args.code.now c.args.own c.args.most 256 c.args.choices.now (suc c.args.own)) c.items.room (drop c.items.used c.args.choices.now) c.items.at c.items.invariant.same
    c.items-test.true c.if-at-own.true c.in-Stop.ensures.path

pub items-preserved-in-Walk : goal.items-preserved-in-Walk
items-preserved-in-Walk c = record {
  within = c.in-Walk.ensures.inside;
  used = c.items.invariant.used;
  same = walks c.args.code.now c.args.own c.items.fuel (map leg_of c.items.legs.items) (path_from c.args.code.now c.args.own c.args.most 256 c.args.choices.now (suc c.args.own)) c.items.room (drop c.items.used c.args.choices.now) c.items.at c.items.invariant.same
      c.items-test.true c.if-at-own.true c.in-Walk.to c.in-Walk.ensures.path;
}

pub items-preserved-in-Lay : goal.items-preserved-in-Lay
items-preserved-in-Lay c =
    let pushed : map leg_of c.push.new.self.items ≡ map leg_of c.items.legs.items ++ path.Straight c.items.at ∷ [] = ap (map leg_of) c.in_ok-push-in-Lay.ensures.items ∙ map_push leg_of c.items.legs.items (kept.Straight c.items.at) in
    record {
      within = c.in-Lay.ensures.inside;
      used = c.items.invariant.used;
      same = subst (λ ls. behind_legs ls (path_from c.args.code.now c.args.own (c.items.fuel - 1) (c.items.room - 1) (drop c.items.used c.args.choices.now) c.in-Lay.to) ≡ path_from c.args.code.now c.args.own c.args.most 256 c.args.choices.now (suc c.args.own)) (sym pushed)
          (lays c.args.code.now c.args.own c.items.fuel (map leg_of c.items.legs.items) (path_from c.args.code.now c.args.own c.args.most 256 c.args.choices.now (suc c.args.own)) c.items.room (drop c.items.used c.args.choices.now) c.items.at c.items.invariant.same
          c.items-test.true c.if-at-own.true c.in-Lay.to (c.items.room - 1) (drop c.items.used c.args.choices.now) (path.Straight c.items.at) c.in-Lay.ensures.path);
    }

pub items-preserved : goal.items-preserved
items-preserved c =
    let pushed : map leg_of c.push-in-Choose.new.self.items ≡ map leg_of c.items.legs.items ++ path.Turn c.items.at c.in-Choose.choice ∷ [] = ap (map leg_of) c.in_ok-push-in-Choose.ensures.items ∙ map_push leg_of c.items.legs.items (kept.Choice c.items.at c.in-Choose.choice) in
    let rest : path_from c.args.code.now c.args.own (c.items.fuel - 1) (c.items.room - 1) (later (drop c.items.used c.args.choices.now)) c.in-Choose.to ≡ path_from c.args.code.now c.args.own (c.items.fuel - 1) (c.items.room - 1) (drop (c.items.used + 1) c.args.choices.now) c.in-Choose.to =
    ap (λ cs. path_from c.args.code.now c.args.own (c.items.fuel - 1) (c.items.room - 1) cs c.in-Choose.to) (sym (later-drop c.items.used c.args.choices.now)) in
    record {
      within = c.in-Choose.ensures.inside;
      used = let r = c.in-Choose.ensures.room in used-more c.items.used c.args.choices.now r.1;
      same = subst (λ ls. behind_legs ls (path_from c.args.code.now c.args.own (c.items.fuel - 1) (c.items.room - 1) (drop (c.items.used + 1) c.args.choices.now) c.in-Choose.to) ≡ path_from c.args.code.now c.args.own c.args.most 256 c.args.choices.now (suc c.args.own)) (sym pushed)
          (ap (behind_legs (map leg_of c.items.legs.items ++ path.Turn c.items.at c.in-Choose.choice ∷ [])) (sym rest)
          ∙ lays c.args.code.now c.args.own c.items.fuel (map leg_of c.items.legs.items) (path_from c.args.code.now c.args.own c.args.most 256 c.args.choices.now (suc c.args.own)) c.items.room (drop c.items.used c.args.choices.now) c.items.at c.items.invariant.same
          c.items-test.true c.if-at-own.true c.in-Choose.to (c.items.room - 1) (later (drop c.items.used c.args.choices.now)) (path.Turn c.items.at c.in-Choose.choice) c.in-Choose.ensures.path);
    }
