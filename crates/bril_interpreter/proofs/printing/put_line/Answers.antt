use Rattle.std.proofs.Common.{◌≡◌, [], ◌∷◌, ◌++◌, ℕ, get_or, refl}
use Rattle.std.proofs.lemmas.Result.{err_from_is_err_and, on_err_weaker, on_ok_weaker}
use Rattle.bril_outside.proofs.SinkWrites.{PutAll-none, PutAll-one, PutSome-one}
use Rattle.bril_tree.specs.declared.value.Value.{Value}
use Rattle.bril_tree.specs.State.{read}
use Rattle.bril_tree.specs.Value.{shown}
use Rattle.bril_heap.specs.Heap.{entries_of}
use Rattle.bril_interpreter.proofs.Lines.{piece_is, line-next, line-end, no_items, IsLeft-all, IsLeft-less, IsLeft-none, IsLeft-failed}
use Rattle.bril_interpreter.proofs.printing.put_line.Goals as goal

pub returns-in_default-clause-err : goal.returns-in_default-clause-err
returns-in_default-clause-err g c =
    let none = no_items c.args.args.now c.in_default.ensures.cases in
    rw none (on_err_weaker c.put.result (λ failed. PutSome-one failed.0 c.put.ensures.times failed.1) c.put.ensures.err)

pub loop-x-init : goal.loop-x-init
loop-x-init g c =
    let whole : c.args.args.now ≡ c.in-Some.others.now ++ c.in-Some.last.now ∷ [] = c.in-Some.ensures.cases.0 in
    rw whole (IsLeft-all _ _)

pub returns-in_err-put_value-clause-err : goal.returns-in_err-put_value-clause-err
returns-in_err-put_value-clause-err g c =
    let value : ℕ → Value = read (entries_of c.args.locations.now.vars) in
    let others = c.in-Some.others.now in
    let k = c.loop-x.x-index in
    let bytes = shown c.variable.result ++ 32 ∷ [] in
    let piece = piece_is bytes c.variable.result (value (get_or others k 0)) 32 refl c.variable.ensures in
    let failed = c.in_err-put_value.ensures in
    let is = err_from_is_err_and c.from_residual.result c.from_residual.ensures.1 in
    rw is.1 (IsLeft-failed _ _ (bytes ∷ []) _ _ _ _ c.loop-x.invariant (line-next value others c.in-Some.last.now k bytes piece c.loop-x-test.true) (PutSome-one failed.err.0 failed.times failed.err.1))

pub loop-x-preserved : goal.loop-x-preserved
loop-x-preserved g c =
    let value : ℕ → Value = read (entries_of c.args.locations.now.vars) in
    let others = c.in-Some.others.now in
    let k = c.loop-x.x-index in
    let bytes = shown c.variable.result ++ 32 ∷ [] in
    let piece = piece_is bytes c.variable.result (value (get_or others k 0)) 32 refl c.variable.ensures in
    IsLeft-less _ _ (bytes ∷ []) _ _ _ _ c.loop-x.invariant (line-next value others c.in-Some.last.now k bytes piece c.loop-x-test.true) (PutAll-one c.in_ok-put_value.ensures.ok c.in_ok-put_value.ensures.times)

pub returns-clause-ok : goal.returns-clause-ok
returns-clause-ok g c =
    let value : ℕ → Value = read (entries_of c.args.locations.now.vars) in
    let others = c.in-Some.others.now in
    let last = c.in-Some.last.now in
    let bytes = shown c.variable-2.result ++ 10 ∷ [] in
    let piece = piece_is bytes c.variable-2.result (value last) 10 refl c.variable-2.ensures in
    let end = line-end value others last c.loop-x.x-index bytes piece c.loop-x-test.false in
    on_ok_weaker c.put_value-2.result
    (λ took. IsLeft-none _ [] _ _ _ (IsLeft-less _ _ (bytes ∷ []) [] _ _ _ c.loop-x.invariant end (PutAll-one took c.put_value-2.ensures.times)) (PutAll-none _))
    c.put_value-2.ensures.ok

pub returns-clause-err : goal.returns-clause-err
returns-clause-err g c =
    let value : ℕ → Value = read (entries_of c.args.locations.now.vars) in
    let others = c.in-Some.others.now in
    let last = c.in-Some.last.now in
    let bytes = shown c.variable-2.result ++ 10 ∷ [] in
    let piece = piece_is bytes c.variable-2.result (value last) 10 refl c.variable-2.ensures in
    on_err_weaker c.put_value-2.result
    (λ failed. IsLeft-failed _ _ (bytes ∷ []) [] _ _ _ c.loop-x.invariant (line-end value others last c.loop-x.x-index bytes piece c.loop-x-test.false) (PutSome-one failed.0 c.put_value-2.ensures.times failed.1))
    c.put_value-2.ensures.err
