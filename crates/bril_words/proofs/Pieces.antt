-- A walk over the words of pieces.
use Rattle.std.proofs.Common.{◌≡◌, ◌∙◌, refl, sym, ap, Bool, true, false, ℕ, List, [], ◌∷◌, ◌++◌, Option, Some, None, min, ◌+◌, codes, append_assoc, append-nil, inl, inr, subst}
use Rattle.std.specs.Prelude.{fold}
use Rattle.bril_tree.specs.Membership.{In}
use Rattle.clap.specs.Lexer.{usize_max}
use Rattle.clap.specs.Kinds.{Kinds, or_else}
use Rattle.clap.specs.Walk.{Row, Text, Walk, arg_by_id, arg_by_index, arg_by_long, has_row, settled_rows, used, walked}
use Rattle.clap.specs.Simple.{Shape}
use Rattle.clap.specs.Faults.{settle_fault, turn_fault, walk_fault}
use Rattle.bril_words.specs.declared.subcommands.Subcommand.{Subcommand}
use Rattle.bril_words.specs.declared.options.Operand.{Operand}
use Rattle.bril_words.specs.Options.{option_name, flag_name, operand_id}
use Rattle.bril_words.specs.Subcommands.{options_of, flags_of}
use Rattle.bril_words.specs.Plain.{Piece, apart, joined, flag, operand, dashed, written, FitPieces}
use Rattle.bril_words.proofs.OptionWords.{option_word, joined_word, flag_word, same_option}
use Rattle.bril_words.proofs.Steps.{taking, flagging, given, held_at, walk_at, walk_waiting, plain_word_is, use_free, used_taking, used_flagging, opens, opens_free, takes_value, value_free, joins, joins_free, flags, flags_free, stands, stands_free}

-- ---- what is known of the arguments of a built command

pub record HasOption (s : Shape) (id : Text) : Type 0 where
  pub long : arg_by_long s.rules id ≡ Some (taking id (Some id) None false)
  pub by_id : arg_by_id s.rules id ≡ Some (taking id (Some id) None false)

abbrev pub HasFlag : Shape → Text → Type 0
HasFlag s id = arg_by_long s.rules id ≡ Some (flagging id)

pub record HasOperand (s : Shape) (position : ℕ) (id : Text) : Type 0 where
  pub by_index : arg_by_index s.rules position ≡ Some (taking id None (Some position) true)
  pub by_id : arg_by_id s.rules id ≡ Some (taking id None (Some position) true)

abbrev pub HaveOperands : Shape → ℕ → List Operand → Type 0
HaveOperands s position [] = Unit {0}
HaveOperands s position (o ∷ os) = HasOperand s position (operand_id o) × HaveOperands s (min (position + 1) usize_max) os

abbrev pub AllOf : {X : Type 0} → (X → Type 0) → List X → Type 0
AllOf P [] = Unit {0}
AllOf P (x ∷ xs) = P x × AllOf P xs

pub all_in : {X : Type 0} (P : X → Type 0) (xs : List X) (x : X) → AllOf P xs → In x xs → P x
all_in P [] x all i = absurd i
all_in P (y ∷ ys) x all (inl e) = subst P (sym e) all.0
all_in P (y ∷ ys) x all (inr i) = all_in P ys x all.1 i

-- each row is new where it comes
abbrev pub AreNew : List Row → List Operand → List Piece → Type 0
AreNew rows os [] = Unit {0}
AreNew rows os (apart x v ∷ ps) = (has_row (option_name x) rows ≡ false) × AreNew (rows ++ given (option_name x) (v ∷ []) ∷ []) os ps
AreNew rows os (joined x v ∷ ps) = (has_row (option_name x) rows ≡ false) × AreNew (rows ++ given (option_name x) (v ∷ []) ∷ []) os ps
AreNew rows os (flag x ∷ ps) = (has_row (flag_name x) rows ≡ false) × AreNew (rows ++ given (flag_name x) (codes "true" ∷ []) ∷ []) os ps
AreNew rows [] (operand v ∷ ps) = ⊥
AreNew rows (o ∷ os) (operand v ∷ ps) = (has_row (operand_id o) rows ≡ false) × AreNew (rows ++ given (operand_id o) (v ∷ []) ∷ []) os ps

-- the rows of pieces
abbrev pub rows_in : List Operand → List Piece → List Row
rows_in os [] = []
rows_in os (apart x v ∷ ps) = given (option_name x) (v ∷ []) ∷ rows_in os ps
rows_in os (joined x v ∷ ps) = given (option_name x) (v ∷ []) ∷ rows_in os ps
rows_in os (flag x ∷ ps) = given (flag_name x) (codes "true" ∷ []) ∷ rows_in os ps
rows_in [] (operand v ∷ ps) = rows_in [] ps
rows_in (o ∷ os) (operand v ∷ ps) = given (operand_id o) (v ∷ []) ∷ rows_in os ps

pub or_else_free : (a b : Kinds) → a ≡ [] → b ≡ [] → or_else a b ≡ []
or_else_free a b e f = rw (e, f) refl

module _ (s : Shape) where
  -- where a walk over words comes out, from these rows and this pending argument
  pub record Ends (rows : List Row) (pending : Option (Text × List Text)) (position : ℕ) (words : List Text) (all : List Row) : Type 0 where
    pub rows_after : List Row
    pub pending_after : Option (Text × List Text)
    pub position_after : ℕ
    pub fault : walk_fault s [] (walk_at rows pending position) words ≡ []
    pub walk : fold (walked s.rules []) (walk_at rows pending position) words ≡ walk_at rows_after pending_after position_after
    pub settled : settled_rows s.rules pending_after rows_after ≡ all
    pub free : settle_fault s.rules s.args_override_self (held_at rows_after pending_after) ≡ []

  -- one word, and the rest
  fault_more : (w v : Walk) (word : Text) (words : List Text) → turn_fault s [] w word ≡ [] → walked s.rules [] w word ≡ v → walk_fault s [] v words ≡ []
      → walk_fault s [] w (word ∷ words) ≡ []
  unfolding walk_fault
  fault_more w v word words turn step rest =
      or_else_free (turn_fault s [] w word) (walk_fault s [] (walked s.rules [] w word) words) turn (ap (λ (u : Walk). walk_fault s [] u words) step ∙ rest)

  walk_more : (w v u : Walk) (word : Text) (words : List Text) → walked s.rules [] w word ≡ v → fold (walked s.rules []) v words ≡ u
      → fold (walked s.rules []) w (word ∷ words) ≡ u
  walk_more w v u word words step rest = ap (λ (x : Walk). fold (walked s.rules []) x words) step ∙ rest

  -- what one more word makes of where the rest comes out
  ends_more : (rows : List Row) (pending : Option (Text × List Text)) (position : ℕ) (more : List Row) (next : Option (Text × List Text)) (after : ℕ) (word : Text)
      (words : List Text) (all : List Row) → turn_fault s [] (walk_at rows pending position) word ≡ []
      → walked s.rules [] (walk_at rows pending position) word ≡ walk_at more next after → Ends more next after words all → Ends rows pending position (word ∷ words) all
  ends_more rows pending position more next after word words all turn step e = record {
    rows_after = e.rows_after;
    pending_after = e.pending_after;
    position_after = e.position_after;
    fault = fault_more (walk_at rows pending position) (walk_at more next after) word words turn step e.fault;
    walk = walk_more (walk_at rows pending position) (walk_at more next after) (walk_at e.rows_after e.pending_after e.position_after) word words step e.walk;
    settled = e.settled;
    free = e.free;
  }

  -- and two words
  ends_more_two : (rows : List Row) (pending : Option (Text × List Text)) (position : ℕ) (middle : Walk) (more : List Row) (next : Option (Text × List Text)) (after : ℕ)
      (word value : Text) (words : List Text) (all : List Row) → turn_fault s [] (walk_at rows pending position) word ≡ []
      → walked s.rules [] (walk_at rows pending position) word ≡ middle → turn_fault s [] middle value ≡ [] → walked s.rules [] middle value ≡ walk_at more next after
      → Ends more next after words all → Ends rows pending position (word ∷ value ∷ words) all
  ends_more_two rows pending position middle more next after word value words all turn step turn_two step_two e = record {
    rows_after = e.rows_after;
    pending_after = e.pending_after;
    position_after = e.position_after;
    fault = fault_more (walk_at rows pending position) middle word (value ∷ words) turn step (fault_more middle (walk_at more next after) value words turn_two step_two e.fault);
    walk = walk_more (walk_at rows pending position) middle (walk_at e.rows_after e.pending_after e.position_after) word (value ∷ words) step
        (walk_more middle (walk_at more next after) (walk_at e.rows_after e.pending_after e.position_after) value words step_two e.walk);
    settled = e.settled;
    free = e.free;
  }

  -- a pending value is settled to a row at the end
  pending_settles : (id v : Text) (long : Option Text) (index : Option ℕ) (required : Bool) (rows all : List Row) → arg_by_id s.rules id ≡ Some (taking id long index required)
      → rows ≡ all → has_row id all ≡ false → settled_rows s.rules (Some (id, v ∷ [])) rows ≡ all ++ given id (v ∷ []) ∷ []
  pending_settles id v long index required rows all found same fresh = rw (found, same) (used_taking id v long index required all fresh)

  pending_free : (id v : Text) (long : Option Text) (index : Option ℕ) (required : Bool) (rows all : List Row) → arg_by_id s.rules id ≡ Some (taking id long index required)
      → rows ≡ all → has_row id all ≡ false → settle_fault s.rules s.args_override_self (held_at rows (Some (id, v ∷ []))) ≡ []
  pending_free id v long index required rows all found same fresh = rw (found, same) (use_free s.args_override_self id v long index required all fresh)

  pub walk_pieces : (c : Subcommand) → AllOf (λ x. HasOption s (option_name x)) (options_of c) → AllOf (λ x. HasFlag s (flag_name x)) (flags_of c)
      → (ps : List Piece) (os : List Operand) (rows : List Row) (pending : Option (Text × List Text)) (position : ℕ) (all : List Row)
      → FitPieces c ps → HaveOperands s position os → AreNew all os ps
      → settled_rows s.rules pending rows ≡ all → settle_fault s.rules s.args_override_self (held_at rows pending) ≡ []
      → Ends rows pending position (written ps) (all ++ rows_in os ps)
  unfolding walk_fault
  walk_pieces c options flags_ [] os rows pending position all fit have new settled free = record {
    rows_after = rows;
    pending_after = pending;
    position_after = position;
    fault = refl;
    walk = refl;
    settled = settled ∙ sym (append-nil all);
    free = free;
  }
  walk_pieces c options flags_ (apart x v ∷ ps) os rows pending position all fit have new settled free =
      let id = option_name x in
      let known = all_in (λ y. HasOption s (option_name y)) (options_of c) x options fit.0.0 in
      let plain = plain_word_is v fit.0.1 in
      let here = settled_rows s.rules pending rows in
      let rest = walk_pieces c options flags_ ps os here (Some (id, v ∷ [])) position (all ++ given id (v ∷ []) ∷ []) fit.1 have new.1
      (pending_settles id v (Some id) None false here all known.by_id settled new.0) (pending_free id v (Some id) None false here all known.by_id settled new.0) in
      subst (Ends rows pending position (dashed id ∷ v ∷ written ps)) (append_assoc all (given id (v ∷ []) ∷ []) (rows_in os ps))
      (ends_more_two rows pending position (walk_waiting here id position) here (Some (id, v ∷ [])) position (dashed id) v (written ps) _
      (opens_free s rows pending position (dashed id) id false (option_word x) known.long free)
      (opens s rows pending position (dashed id) id false (option_word x) known.long)
      (value_free s here position v id false plain known.by_id)
      (takes_value s here position v id false plain (same_option x) known.by_id)
      rest)
  walk_pieces c options flags_ (joined x v ∷ ps) os rows pending position all fit have new settled free =
      let id = option_name x in
      let known = all_in (λ y. HasOption s (option_name y)) (options_of c) x options fit.0.0 in
      let here = settled_rows s.rules pending rows in
      let fresh : has_row id here ≡ false = ap (has_row id) settled ∙ new.0 in
      let word = dashed id ++ 61 ∷ v in
      let rest = walk_pieces c options flags_ ps os (used (taking id (Some id) None false) (v ∷ []) here) None position (all ++ given id (v ∷ []) ∷ []) fit.1 have new.1
      (used_taking id v (Some id) None false here fresh ∙ ap (λ (r : List Row). r ++ given id (v ∷ []) ∷ []) settled) refl in
      subst (Ends rows pending position (word ∷ written ps)) (append_assoc all (given id (v ∷ []) ∷ []) (rows_in os ps))
      (ends_more rows pending position (used (taking id (Some id) None false) (v ∷ []) here) None position word (written ps) _
      (joins_free s rows pending position word v id false (joined_word x v) known.long free fresh)
      (joins s rows pending position word v id false (joined_word x v) known.long)
      rest)
  walk_pieces c options flags_ (flag x ∷ ps) os rows pending position all fit have new settled free =
      let id = flag_name x in
      let known = all_in (λ y. HasFlag s (flag_name y)) (flags_of c) x flags_ fit.0 in
      let here = settled_rows s.rules pending rows in
      let fresh : has_row id here ≡ false = ap (has_row id) settled ∙ new.0 in
      let rest = walk_pieces c options flags_ ps os (used (flagging id) [] here) None position (all ++ given id (codes "true" ∷ []) ∷ []) fit.1 have new.1
      (used_flagging id here fresh ∙ ap (λ (r : List Row). r ++ given id (codes "true" ∷ []) ∷ []) settled) refl in
      subst (Ends rows pending position (dashed id ∷ written ps)) (append_assoc all (given id (codes "true" ∷ []) ∷ []) (rows_in os ps))
      (ends_more rows pending position (used (flagging id) [] here) None position (dashed id) (written ps) _
      (flags_free s rows pending position (dashed id) id (flag_word x) known free fresh)
      (flags s rows pending position (dashed id) id (flag_word x) known)
      rest)
  walk_pieces c options flags_ (operand v ∷ ps) [] rows pending position all fit have new settled free = absurd new
  walk_pieces c options flags_ (operand v ∷ ps) (o ∷ os) rows pending position all fit have new settled free =
      let id = operand_id o in
      let known = have.0 in
      let plain = plain_word_is v fit.0 in
      let here = settled_rows s.rules pending rows in
      let rest = walk_pieces c options flags_ ps os here (Some (id, v ∷ [])) (min (position + 1) usize_max) (all ++ given id (v ∷ []) ∷ []) fit.1 have.1 new.1
      (pending_settles id v None (Some position) true here all known.by_id settled new.0) (pending_free id v None (Some position) true here all known.by_id settled new.0) in
      subst (Ends rows pending position (v ∷ written ps)) (append_assoc all (given id (v ∷ []) ∷ []) (rows_in os ps))
      (ends_more rows pending position here (Some (id, v ∷ [])) (min (position + 1) usize_max) v (written ps) _
      (stands_free s rows pending position v id plain known.by_index free)
      (stands s rows pending position v id plain known.by_index)
      rest)
