-- One run more, or the first that is free.
use Rattle.std.proofs.Common.{◌≡◌, ◌∙◌, ◌+◌, ◌<◌, ◌≤◌, ℕ, List, sym, subst, arith, true, false, true≢false, inl, inr}
use Rattle.std.specs.List.{list_any}
use Rattle.std.proofs.lemmas.Bool.{cases_lt}
use Rattle.import_linker.specs.Linked.{begins_so}
use Rattle.import_linker.specs.Names.{function_names}
use Rattle.import_linker.proofs.fresh_run.fresh_run.Goals as goal

-- a run that a name has is no longer than the longest
not_longer : (names : List (List ℕ)) (run longest : ℕ) → (longest < run → list_any (begins_so run) names ≡ false) → list_any (begins_so run) names ≡ true → run ≤ longest
not_longer names run longest none some = elim (cases_lt longest run) [
  | inl less ↦ absurd (true≢false (sym some ∙ none less))
  | inr le ↦ le
]

one_more : (names : List (List ℕ)) (run : ℕ) → ((m : ℕ) → 0 < m → m < run → list_any (begins_so m) names ≡ true) → list_any (begins_so run) names ≡ true
    → (m : ℕ) → 0 < m → m < run + 1 → list_any (begins_so m) names ≡ true
one_more names run before here m some less = elim (cases_lt m run) [
  | inl inside ↦ before m some inside
  | inr past ↦ let same : run ≡ m = omega arith in subst (λ k. list_any (begins_so k) names ≡ true) same here
]

pub loop-run-preserved : goal.loop-run-preserved
loop-run-preserved c =
    let names = function_names c.args.functions.now in
    let run = c.loop-run.run in
    let here : list_any (begins_so run) names ≡ true = sym (c.in_ok-longest.ensures.runs run) ∙ sym c.loop-run-test.ensures in
    let le = not_longer names run c.in_ok-longest.longest (c.in_ok-longest.ensures.longest run) here in
    record {
      some = omega arith;
      within = omega (arith, le);
      shortest = one_more names run c.loop-run.invariant.shortest here;
    }

pub returns : goal.returns
returns c =
    record {
      some = c.loop-run.invariant.some;
      fresh = sym (c.in_ok-longest.ensures.runs c.loop-run.run) ∙ sym c.loop-run-test.ensures;
      shortest = c.loop-run.invariant.shortest;
    }
