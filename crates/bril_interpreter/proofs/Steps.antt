-- What the parts of a step leave.
use Rattle.std.proofs.Common.{◌≡◌, ℕ, suc, ◌<◌, List, ◌∷◌, length, Option, Some, None, Err, refl, ap, sym, ◌∙◌, subst}
use Rattle.bril_outside.specs.Sink.{SinkSeen, PutAll, PutSome, TookBy}
use Rattle.bril_outside.proofs.SinkWrites.{TookBy-none, TookBy-pieces, FailedAfter-none}
use Rattle.bril_tree.specs.declared.limits.Fault.{Fault}
use Rattle.bril_tree.specs.declared.limits.Fault.TheVariants as fault
use Rattle.bril_tree.specs.declared.limits.Limits.{Limits}
use Rattle.bril_tree.specs.declared.program.Prog.{Prog}
use Rattle.bril_tree.specs.declared.value.Value.{Value}
use Rattle.bril_tree.specs.Memory.{held}
use Rattle.bril_tree.specs.State.{Values, Frame, Block, State}
use Rattle.bril_tree.specs.Step.{with_frames, faulted, gives, advances, prints, line_of, advanced, with_locations, shadowed, with_failure, stores, loads, loads_held}
use Rattle.bril_heap.specs.Heap.{load_answer, stored_or_fault, Stores}
use Rattle.bril_heap.proofs.Entries.{entries-set}
use Rattle.bril_interpreter.specs.Frames.{FrameView, frame_of, with_dest, with_shadow, HasLocation}
use Rattle.bril_interpreter.specs.Interpreter.{InterpView, count_at, state_of}
use Rattle.bril_interpreter.specs.Line.{line_pieces}
use Rattle.bril_interpreter.specs.Steps.{Did, Executed, CannotWrite, newest_of, older_of}
use Rattle.bril_interpreter.proofs.Held.{with_dest-locations}
use Rattle.bril_interpreter.proofs.Lines.{joined-line_pieces, length-line_pieces, line_pieces-some}

-- what prints nothing is done with a sink that stays
pub Executed-quiet : (t : State) (old new : InterpView) (s : SinkSeen) → Did old t new → Executed t None old new s s
Executed-quiet t old new s did =
    let own : Executed (state_of new) None old new s s = record {
      printed = TookBy-none s;
      did = record { became = record { state = refl; checked = did.became.checked; limits = did.became.limits }; failed = did.failed };
    } in
    subst (λ t. Executed t None old new s s) did.became.state own

-- a print that was put
pub Executed-print : (p : Prog) (limits : Limits) (vs : List Value) (old new : InterpView) (before after : SinkSeen) → PutAll before (line_pieces vs) after
    → Did old (advances p limits (newest_of old) (older_of old) (state_of old)) new → Executed (prints p limits vs (newest_of old) (older_of old) (state_of old)) (Some vs) old new before after
Executed-print p limits vs old new before after put did = record {
  printed =
      subst (λ puts. TookBy before (line_of vs) puts after) (length-line_pieces vs)
      (subst (λ bytes. TookBy before bytes (length (line_pieces vs)) after) (joined-line_pieces p limits vs)
      (TookBy-pieces (line_pieces-some p limits vs) put));
  did = did;
}

-- a print of which the first was put
pub CannotWrite-print : (p : Prog) (limits : Limits) (vs : List Value) (old : InterpView) (before after : SinkSeen) → PutSome before (line_pieces vs) after
    → CannotWrite (prints p limits vs (newest_of old) (older_of old) (state_of old)) (Some vs) old old before after
CannotWrite-print p limits vs old before after put = record {
  same = refl;
  line = sym (joined-line_pieces p limits vs);
  prints = line_pieces-some p limits vs;
  put = FailedAfter-none put;
}

-- what is done from a state on the way
pub Did-from : (old mid new : InterpView) (s t : State) → Did mid t new → t ≡ s → mid.checked ≡ old.checked → mid.limits ≡ old.limits → mid.has_failed ≡ old.has_failed → Did old s new
Did-from old mid new s t did same checked limits failed = record {
  became = record { state = did.became.state ∙ same; checked = did.became.checked ∙ checked; limits = did.became.limits ∙ limits };
  failed = did.failed ∙ failed;
}

-- a change of the newest frame alone
pub Did-newest : (old : InterpView) (f : FrameView) (g : Frame) → frame_of f ≡ g → Did old (with_frames (g ∷ older_of old) (state_of old)) (record old { newest = f })
Did-newest old f g e = record {
  became = record { state = ap (λ (h : Frame). with_frames (h ∷ older_of old) (state_of old)) e; checked = refl; limits = refl };
  failed = refl;
}

-- a value for a destination
pub gives-did : (old : InterpView) (dest : Option ℕ) (v : Value) → HasLocation dest (length old.newest.locations.vars)
    → Did old (gives old.checked.prog old.limits dest v (newest_of old) (older_of old) (state_of old)) (record old { newest = record old.newest { point = suc old.newest.point; locations = with_dest dest v old.newest.locations } })
gives-did old dest v h =
    Did-newest old _ _ (ap (λ locations. advanced (with_locations locations (newest_of old))) (with_dest-locations dest v old.newest.locations h))

-- a value for a shadow
pub shades-did : (old : InterpView) (x : ℕ) (v : Value) → x < length old.newest.locations.shadows
    → Did old (advances old.checked.prog old.limits (with_locations (shadowed x v (newest_of old).locations) (newest_of old)) (older_of old) (state_of old)) (record old { newest = record old.newest { point = suc old.newest.point; locations = with_shadow x v old.newest.locations } })
shades-did old x v h =
    Did-newest old _ _
    (ap (λ (values : Values). advanced (with_locations (record (newest_of old).locations { shadows = values }) (newest_of old))) (entries-set old.newest.locations.shadows x v h))

-- a failure of the guard at which the newest frame stands
pub failure-did : (old : InterpView) (rows : List (List ℕ)) → count_at rows ≡ (with_failure old.checked.prog old.limits (newest_of old) (state_of old)).failures
    → Did old (with_failure old.checked.prog old.limits (newest_of old) (state_of old)) (record old { failures = rows })
failure-did old rows e = record {
  became = record { state = ap (λ (failures : ℕ → ℕ → ℕ). record (state_of old) { failures = failures }) e; checked = refl; limits = refl };
  failed = refl;
}

-- ---- faults of memory

module _ (p : Prog) (limits : Limits) (f : Frame) (older : List Frame) (s : State) where
  pub stores-fault : (cell : Option ℕ) (kind : Fault) (pointer v : Value) (after : List Block) → Stores (Err kind) s.blocks pointer cell v after → faulted kind (record s { blocks = after }) ≡ stores p limits cell pointer v f older s
  stores-fault None kind pointer v after h =
      let k : kind ≡ fault.Access = (let e = h.0 in cc) in
      ap (λ (k : Fault). faulted k (record s { blocks = after })) k ∙ ap (λ (blocks : List Block). faulted fault.Access (record s { blocks = blocks })) h.1
  stores-fault (Some n) kind pointer v after h = absurd (let e = h.0 in cc)

  held-fault : (o : Option Value) (kind : Fault) (dest : Option ℕ) → Err kind ≡ stored_or_fault o → faulted kind s ≡ loads_held p limits o dest f older s
  held-fault None kind dest h = ap (λ (k : Fault). faulted k s) (let k : kind ≡ fault.Uninit = cc in k)
  held-fault (Some v) kind dest h = absurd (cc)

  pub loads-fault : (cell : Option ℕ) (kind : Fault) (pointer : Value) (dest : Option ℕ) → Err kind ≡ load_answer s.blocks pointer cell → faulted kind s ≡ loads p limits cell pointer dest f older s
  loads-fault None kind pointer dest h = ap (λ (k : Fault). faulted k s) (let k : kind ≡ fault.Access = cc in k)
  loads-fault (Some n) kind pointer dest h = held-fault (held s.blocks pointer n) kind dest h
