use Rattle.std.proofs.Common.{ℕ, ◌≡◌, ◌≤◌, ◌∷◌, [], List, length, drop, refl, sym, ap, subst, ◌∙◌, arith}
use Rattle.std.proofs.lemmas.List.{drop-append-le, drop_all, length-append}
use Rattle.side_pairs.specs.Runs.{run_of}
use Rattle.side_pairs.proofs.Adding.{Continues, adds-pair, begins, ends, first-closes, further-closes, keeps, passes, room-ends}
use Rattle.side_pairs.proofs.pairs.pair_run.Goals as goal

pub items-init : goal.items-init
items-init c =
    let d = c.args.draft.now in
    let n = c.kept_count-first.result in
    let all : length d.kept ≤ n = omega (arith, c.kept_count-first.ensures) in
    let few : n ≤ length d.kept = omega (arith, c.kept_count-first.ensures) in
    record {
      closes = first-closes c.args.code.now c.args.run c.first_spot-spot.result c.first_spot-spot.ensures c.requires.run;
      first = few;
      goes = begins c.args.code.now c.args.run d.pairs c.first_spot-spot.result (drop n d.kept) c.first_spot-spot.ensures (drop_all n d.kept all);
    }

pub returns-in-Ends : goal.returns-in-Ends
returns-in-Ends c =
    let d = c.items.draft in
    let kept = drop c.kept_count-first.result d.kept in
    ends c.args.code.now (run_of c.args.run) c.args.draft.now.pairs c.items.spot kept d.pairs c.items.invariant.goes (c.in-Ends.ensures.goes c.args.run.bail kept [] refl)

pub items-preserved-in-Passes : goal.items-preserved-in-Passes
items-preserved-in-Passes c =
    let d = c.items.draft in
    let kept = drop c.kept_count-first.result d.kept in
    record {
      closes = further-closes c.args.code.now c.items.spot c.in-Passes.next c.in-Passes.ensures.before c.items.invariant.closes;
      first = c.items.invariant.first;
      goes = passes c.args.code.now (run_of c.args.run) c.args.draft.now.pairs c.items.spot kept d.pairs c.items.invariant.goes c.in-Passes.next (c.in-Passes.ensures.goes c.args.run.bail kept);
    }

pub items-preserved-in-Keeps : goal.items-preserved-in-Keeps
items-preserved-in-Keeps c =
    let d = c.items.draft in
    let n = c.kept_count-first.result in
    let kept = drop n d.kept in
    let made = c.keep.new.self in
    let e = c.in_ok-keep-in-Keeps.ensures in
    let more = ap (drop n) e.kept ∙ drop-append-le n d.kept (c.items.spot.item ∷ []) c.items.invariant.first in
    let long = ap length e.kept ∙ length-append d.kept (c.items.spot.item ∷ []) in
    record {
      closes = further-closes c.args.code.now c.items.spot c.in-Keeps.next c.in-Keeps.ensures.before c.items.invariant.closes;
      first = omega (arith, long, c.items.invariant.first);
      goes = subst (Continues c.args.code.now (run_of c.args.run) c.args.draft.now.pairs c.args.run.bail c.in-Keeps.next (drop n made.kept)) (sym e.pairs)
          (keeps c.args.code.now (run_of c.args.run) c.args.draft.now.pairs c.items.spot kept d.pairs c.items.invariant.goes c.in-Keeps.next (drop n made.kept) more (c.in-Keeps.ensures.goes c.args.run.bail kept));
    }

pub items-preserved : goal.items-preserved
items-preserved c =
    let d = c.items.draft in
    let n = c.kept_count-first.result in
    let kept = drop n d.kept in
    let made = c.pair.new.self in
    let e = c.in_ok-pair-in-Pairs.ensures in
    record {
      closes = further-closes c.args.code.now c.items.spot c.in-Pairs.next c.in-Pairs.ensures.before c.items.invariant.closes;
      first = subst (λ (ks : List ℕ). n ≤ length ks) (sym e.kept) c.items.invariant.first;
      goes = subst (λ (ks : List ℕ). Continues c.args.code.now (run_of c.args.run) c.args.draft.now.pairs c.args.run.bail c.in-Pairs.next (drop n ks) made.pairs) (sym e.kept)
          (adds-pair c.args.code.now (run_of c.args.run) c.args.draft.now.pairs c.items.spot kept d.pairs c.items.invariant.goes c.in-Pairs.next (record { guard = c.in-Pairs.guard; bail = c.args.run.bail; kept = kept; other = c.in-Pairs.other }) made.pairs e.pairs
          (c.in-Pairs.ensures.goes c.args.run.bail kept));
    }

pub returns : goal.returns
returns c =
    let d = c.items.draft in
    let none : c.items.spot.room ≡ 0 = omega (arith, c.items-test.false) in
    room-ends c.args.code.now (run_of c.args.run) c.args.draft.now.pairs c.items.spot (drop c.kept_count-first.result d.kept) d.pairs c.items.invariant.goes none
