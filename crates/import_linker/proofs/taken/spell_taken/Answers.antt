-- One function more.
use Rattle.std.proofs.Common.{◌≡◌, ◌∙◌, ◌++◌, ◌∷◌, [], Some, None, ap, cond, refl, sym, Bool, true, false, get_or, map, take, drop, ◌+◌, List, ℕ}
use Rattle.std.specs.Prelude.{not, option_map}
use Rattle.std.specs.Option.{option_or}
use Rattle.std.proofs.lemmas.List.{map_push}
use Rattle.bril_tree.specs.declared.import.Taken.{Taken}
use Rattle.import_linker.specs.Linked.{spelled}
use Rattle.import_linker.specs.Names.{contains, taken_function, taken_functions}
use Rattle.import_linker.specs.Tables.{first_outside}
use Rattle.import_linker.proofs.Firsts.{found_here, none_more, outside-append}
use Rattle.import_linker.proofs.Repeating.{map_more, step_names}
use Rattle.import_linker.proofs.taken.spell_taken.Goals as goal

-- whether one function is outside
one_outside : (table : List (List ℕ)) (x : Taken) → (b : Bool) → contains table x.name ≡ b
    → first_outside table (x ∷ []) ≡ cond b None (Some x.name)
one_outside table x true e = ap (λ b. option_map (λ (t : Taken). t.name) (cond (not b) (Some x) None)) e
one_outside table x false e = ap (λ b. option_map (λ (t : Taken). t.name) (cond (not b) (Some x) None)) e

pub loop-function-preserved : goal.loop-function-preserved
loop-function-preserved c =
    let file = c.args.file in
    let table = get_or c.args.tables.now file [] in
    let taken = c.args.taken.now in
    let i = c.loop-function.function-index in
    let x = c.function-item.result in
    let before = taken_functions file (take i taken) in
    let there : contains table x.name ≡ true = sym (c.is_there.ensures ∙ ap (contains table) c.as_bytes.ensures.value) ∙ c.if-not-is_there.false in
    let push = c.in_ok-push.ensures.ok ∙ ap (λ (y : List ℕ). c.loop-function.names ++ y ∷ []) c.in_ok-spelled.ensures in
    let more = ap (map (spelled c.args.run)) (map_more (taken_function file) taken i x c.loop-function-test.true c.function-item.is) ∙ map_push (spelled c.args.run) before (taken_function file x) in
    record {
      names = step_names c.args.names.now (map (spelled c.args.run) before) c.loop-function.names c.push.new.self (spelled c.args.run (taken_function file x) ∷ []) c.loop-function.invariant.names push
          ∙ ap (λ (l : List (List ℕ)). c.args.names.now ++ l) (sym more);
      none = none_more (first_outside table) (outside-append table) taken i x c.loop-function-test.true c.function-item.is c.loop-function.invariant.none (one_outside table x true there);
    }

pub returns-then-not-is_there-clause-all : goal.returns-then-not-is_there-clause-all
returns-then-not-is_there-clause-all c =
    let table = get_or c.args.tables.now c.args.file [] in
    let i = c.loop-function.function-index in
    let x = c.function-item.result in
    let lacks : contains table x.name ≡ false = sym (c.is_there.ensures ∙ ap (contains table) c.as_bytes.ensures.value) ∙ c.if-not-is_there.true in
    let found = found_here (first_outside table) (outside-append table) c.args.taken.now i x c.loop-function-test.true c.function-item.is c.loop-function.invariant.none in
    rw c.in_ok-not_there.ensures (refl, found ∙ ap (λ o. option_or o (first_outside table (drop (i + 1) c.args.taken.now))) (one_outside table x false lacks))
