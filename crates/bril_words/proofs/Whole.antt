-- Words of the plain form are taken, and ask for what their pieces say.
use Rattle.std.proofs.Common.{◌≡◌, ◌∙◌, refl, sym, ap, ap₂, Bool, true, false, not, ℕ, List, [], ◌∷◌, ◌++◌, true≢false, codes, length, arith, append_assoc, append-nil, Option, Some, None, is_some, inl, inr, drop, take, suc, ◌+◌, Result, Err}
use Rattle.std.specs.Prelude.{fold, option_and_then, slice_get, if◌then◌else◌}
use Rattle.std.proofs.Math.Seq.{take-append_seam}
use Rattle.std.proofs.lemmas.Bool.{or_parts}
use Rattle.std.specs.List.{list_any, before_first, after_first, position_or_len}
use Rattle.std.specs.Option.{option_map_or}
use Rattle.std.specs.Str.{bytes_eq}
use Rattle.bril_tree.specs.Membership.{In}
use Rattle.clap.specs.Facts.{explicit_source}
use Rattle.clap.specs.Kinds.{Kinds}
use Rattle.clap.specs.Walk.{Held, Row, Rule, Text, Walk, finished, first_of, has_row, is_empty, nothing_held, rows_after, settled, settled_rows, stop_after, walk, walk_from, walked}
use Rattle.clap.specs.Simple.{App, Shape, built, entered, names_of, rows_at}
use Rattle.clap.specs.Faults.{built_fault, check_fault, defaults_fault, entered_fault, level_fault, settle_fault, walk_fault}
use Rattle.clap.specs.Takes.{is_given}
use Rattle.bril_words.specs.App.{whole_app}
use Rattle.bril_words.specs.Plain.{Piece, apart, joined, flag, operand, FitPieces, IsPlainLine, IsTail, are_distinct, found_in, names_in, operands_in, written}
use Rattle.bril_words.specs.CommandLine.{arg_words, given_words, is_end, is_refused, is_true, matched, takes_args, texts_ask, texts_found, words_ask, matches_ask, Refusal, not_taken}
use Rattle.bril_words.specs.Request.{Asked}
use Rattle.bril_words.specs.Options.{flag_name, operand_id, option_name}
use Rattle.bril_words.specs.Subcommands.{has_args, name_of, operands_of, subcommand_named}
use Rattle.bril_words.specs.declared.options.Operand.{Operand}
use Rattle.bril_words.specs.declared.options.Operand.TheVariants.{File, Script, Functions}
use Rattle.bril_words.specs.declared.options.Setting.TheVariants.{Passes, Profile, Frames, Cells, Steps, Hot, Most}
use Rattle.bril_words.specs.declared.subcommands.Subcommand.{Subcommand}
use Rattle.bril_words.specs.declared.subcommands.Subcommand.TheVariants as subcommand
use Rattle.bril_words.proofs.Defaults.{defaults_harmless, defaults_kept, defaults_quiet, defaults_spared, find_id}
use Rattle.bril_words.proofs.Found.{all_operands, first_found, given_there, operand_there}
use Rattle.bril_words.proofs.Fresh.{OperandsDiffer, are_new}
use Rattle.bril_words.proofs.OptionWords.{flag_word, joined_word, option_word}
use Rattle.bril_words.specs.declared.options.Flag.TheVariants.{Stats}
use Rattle.bril_words.proofs.Pieces.{AllOf, Ends, or_else_free, rows_in, walk_pieces}
use Rattle.bril_words.proofs.Ready.{Meets, Ready, meets, ready, ready_shape, stopped_at}
use Rattle.bril_words.proofs.Steps.{plain_word_is}
use Rattle.bril_words.proofs.Taken.{matched_is, refused_is}

-- ---- one command

module _ (s : Shape) (c : Subcommand) (known : Ready s c) (ps : List Piece) (fit : FitPieces c ps) (once : are_distinct (names_in ps) ≡ true)
    (differ : OperandsDiffer (operands_of c)) (count : length (operands_in ps) ≡ length (operands_of c)) where
  all : List Row
  all = rows_in (operands_of c) ps

  none_yet : (xs : List Text) → AllOf (λ x. has_row x [] ≡ false) xs
  none_yet [] = tt
  none_yet (x ∷ xs) = (refl, none_yet xs)

  no_operand_yet : (os : List Operand) → AllOf (λ o. has_row (operand_id o) [] ≡ false) os
  no_operand_yet [] = tt
  no_operand_yet (o ∷ os) = (refl, no_operand_yet os)

  comes_out : Ends s [] None 1 (written ps) (rows_in (operands_of c) ps)
  comes_out = walk_pieces s c known.options known.flags ps (operands_of c) [] None 1 [] fit known.operands
      (are_new ps (operands_of c) [] (none_yet (names_in ps)) (no_operand_yet (operands_of c)) once differ count) refl refl

  end : Held
  end = (walk s.rules [] nothing_held (written ps)).held

  rows_are : settled_rows s.rules (walk s.rules [] nothing_held (written ps)).held.pending (walk s.rules [] nothing_held (written ps)).held.rows ≡ rows_in (operands_of c) ps
  rows_are = ap (λ (w : Walk). settled_rows s.rules w.held.pending w.held.rows) comes_out.walk ∙ comes_out.settled

  operand_given : (o : Operand) → In o (operands_of c) → is_given (operand_id o) (finished s.rules (walk s.rules [] nothing_held (written ps)).held) ≡ true
  operand_given o i =
      let there = operand_there (operands_of c) ps o i count in
      ap (λ (f : Option Row). option_map_or (λ (r : Row). explicit_source r.source) f false)
      (defaults_kept s.rules (operand_id o) _ (ap (has_row (operand_id o)) rows_are ∙ there) ∙ ap (find_id (operand_id o)) rows_are)
      ∙ given_there (operands_of c) ps (operand_id o) there

  pub leaf_free : level_fault s [] nothing_held (written ps) false [] ≡ []
  leaf_free =
      or_else_free _ _ comes_out.fault
      (or_else_free _ _ (ap (λ (w : Walk). settle_fault s.rules s.args_override_self w.held) comes_out.walk ∙ comes_out.free)
      (or_else_free _ _ (defaults_harmless s.rules _ known.harmless)
      (known.check _ (all_operands (operands_of c) _ operand_given))))

  -- what is found under an id that no default has
  pub found_is : (id : Text) → bytes_eq (codes "stats") id ≡ false → first_of id (rows_after s.rules [] (written ps)) ≡ found_in (operands_of c) ps id
  found_is id other =
      ap (option_and_then (λ (r : Row). slice_get r.values 0)) (defaults_spared s.rules id _ (known.others id other) ∙ ap (find_id id) rows_are)
      ∙ first_found (operands_of c) ps id

  pub flag_is : (id : Text) → is_true (first_of id (rows_after s.rules [] (written ps))) ≡ is_true (found_in (operands_of c) ps id)
  flag_is id = defaults_quiet s.rules id _ known.quiet ∙ ap (λ (r : List Row). is_true (first_of id r)) rows_are ∙ ap is_true (first_found (operands_of c) ps id)

-- ---- all commands

stopped_more : (rules : List Rule) (names : _) (name : Text) (before words : List Text) → fold (walked rules names) (stopped_at name before) words ≡ stopped_at name (before ++ words)
unfolding walked
stopped_more rules names name before [] = ap (stopped_at name) (sym (append-nil before))
stopped_more rules names name before (word ∷ words) =
    stopped_more rules names name (before ++ word ∷ []) words ∙ ap (stopped_at name) (append_assoc before (word ∷ []) words)

stopped_free : (s : Shape) (names : _) (name : Text) (before words : List Text) → walk_fault s names (stopped_at name before) words ≡ []
unfolding walk_fault walked
stopped_free s names name before [] = refl
stopped_free s names name before (word ∷ words) = stopped_free s names name (before ++ word ∷ []) words

module _ (a : App) (c : Subcommand) (s : Shape) (known : Meets a c s) (words : List Text) where
  stops : walk a.top.rules (names_of a) nothing_held (name_of c ∷ words) ≡ stopped_at (name_of c) words
  stops = ap (λ (w : Walk). fold (walked a.top.rules (names_of a)) w words) known.first ∙ stopped_more a.top.rules (names_of a) (name_of c) [] words

  walk_free : walk_fault a.top (names_of a) (walk_from nothing_held) (name_of c ∷ words) ≡ []
  unfolding walk_fault
  walk_free = or_else_free _ _ known.free
      (ap (λ (w : Walk). walk_fault a.top (names_of a) w words) known.first ∙ stopped_free a.top (names_of a) (name_of c) [] words)

  enters : entered a (Some (name_of c, words)) ≡ Some (rows_at s words)
  enters = rw known.leaf refl

  pub whole_enters : entered a (stop_after a.top.rules (names_of a) (name_of c ∷ words)) ≡ Some (rows_at s words)
  whole_enters = ap (λ (w : Walk). entered a w.stopped) stops ∙ enters

  entered_free : level_fault s [] nothing_held words false [] ≡ [] → entered_fault a (Some (name_of c, words)) ≡ []
  entered_free free = rw (known.leaf, free) refl

  pub whole_free : level_fault s [] nothing_held words false [] ≡ [] → built_fault a nothing_held (name_of c ∷ words) ≡ []
  whole_free free =
      or_else_free _ _ walk_free
      (or_else_free _ _ (ap (λ (w : Walk). entered_fault a w.stopped) stops ∙ entered_free free)
      (or_else_free _ _ (ap (λ (w : Walk). settle_fault a.top.rules a.top.args_override_self w.held) stops)
      (or_else_free _ _ (ap (λ (w : Walk). defaults_fault (settled a.top.rules w.held).rows a.top.rules) stops ∙ known.defaults)
      (ap (λ (w : Walk). check_fault a.top (finished a.top.rules w.held) (is_some (entered a w.stopped))) stops
      ∙ ap (λ (o : Option (Text × List Row)). check_fault a.top (finished a.top.rules nothing_held) (is_some o)) enters ∙ known.check))))

-- ---- the words

-- no word of pieces is `--`
no_end : (c : Subcommand) (ps : List Piece) → FitPieces c ps → list_any is_end (written ps) ≡ false
no_end c [] fit = refl
no_end c (apart x v ∷ ps) fit = rw ((option_word x).dash, (plain_word_is v fit.0.1).dash) (no_end c ps fit.1)
no_end c (joined x v ∷ ps) fit = rw ((joined_word x v).dash) (no_end c ps fit.1)
no_end c (flag x ∷ ps) fit = rw ((flag_word x).dash) (no_end c ps fit.1)
no_end c (operand v ∷ ps) fit = rw ((plain_word_is v fit.0).dash) (no_end c ps fit.1)

operands_differ : (c : Subcommand) → OperandsDiffer (operands_of c)
operands_differ subcommand.Monitor = ((refl, tt), (tt, tt))
operands_differ _ = (tt, tt)

takes_args_is : (c : Subcommand) → takes_args (name_of c) ≡ has_args c
takes_args_is c = ap (λ (o : Option Subcommand). option_map_or has_args o false) (ready c).named

-- ---- the cut

at_end : (xs ys : List Text) (y : Text) → list_any is_end xs ≡ false → is_end y ≡ true → position_or_len is_end (xs ++ y ∷ ys) ≡ length xs
at_end [] ys y e hit = rw hit refl
at_end (x ∷ xs) ys y e hit =
    let both = or_parts (is_end x) (list_any is_end xs) e in
    let rest = at_end xs ys y both.1 hit in
    rw (both.0, rest) (omega arith)

at_none : (xs : List Text) → list_any is_end xs ≡ false → position_or_len is_end xs ≡ length xs
at_none [] e = refl
at_none (x ∷ xs) e =
    let both = or_parts (is_end x) (list_any is_end xs) e in
    let rest = at_none xs both.1 in
    rw (both.0, rest) (omega arith)

drop_seam : (xs ys : List Text) (y : Text) → drop (suc (length xs)) (xs ++ y ∷ ys) ≡ ys
drop_seam [] ys y = refl
drop_seam (x ∷ xs) ys y = drop_seam xs ys y

take_whole : (xs : List Text) → take (length xs) xs ≡ xs
take_whole [] = refl
take_whole (x ∷ xs) = ap (λ (r : List Text). x ∷ r) (take_whole xs)

drop_whole : (xs : List Text) → drop (suc (length xs)) xs ≡ []
drop_whole [] = refl
drop_whole (x ∷ xs) = drop_whole xs

next : (n : ℕ) → n + 1 ≡ suc n
next n = omega arith

cut_before : (xs args : List Text) → list_any is_end xs ≡ false → before_first is_end (xs ++ codes "--" ∷ args) ≡ xs
cut_before xs args e = rw (at_end xs args (codes "--") e refl) (take-append_seam xs (codes "--" ∷ args))

cut_after : (xs args : List Text) → list_any is_end xs ≡ false → after_first is_end (xs ++ codes "--" ∷ args) ≡ args
cut_after xs args e = rw (at_end xs args (codes "--") e refl, next) (drop_seam xs args (codes "--"))

uncut_before : (xs : List Text) → list_any is_end xs ≡ false → before_first is_end xs ≡ xs
uncut_before xs e = rw (at_none xs e) (take_whole xs)

uncut_after : (xs : List Text) → list_any is_end xs ≡ false → after_first is_end xs ≡ []
uncut_after xs e = rw (at_none xs e, next) (drop_whole xs)

module _ (program : List ℕ) (c : Subcommand) (ps : List Piece) (args tail : List (List ℕ)) (fit : FitPieces c ps) where
  before : IsTail c args tail → before_first is_end (written ps ++ tail) ≡ written ps
  before (inl none) = rw (none.1, append-nil) (uncut_before (written ps) (no_end c ps fit))
  before (inr some) = rw some.1 (cut_before (written ps) args (no_end c ps fit))

  after : IsTail c args tail → after_first is_end (written ps ++ tail) ≡ args
  after (inl none) = rw (none.1, none.0, append-nil) (uncut_after (written ps) (no_end c ps fit))
  after (inr some) = rw some.1 (cut_after (written ps) args (no_end c ps fit))

  whole : IsTail c args tail → has_args c ≡ false → written ps ++ tail ≡ written ps
  whole (inl none) lacks = rw none.1 (append-nil (written ps))
  whole (inr some) lacks = absurd (true≢false (sym some.0 ∙ lacks))

  no_args : IsTail c args tail → has_args c ≡ false → [] ≡ args
  no_args (inl none) lacks = sym none.0
  no_args (inr some) lacks = absurd (true≢false (sym some.0 ∙ lacks))

  given_is : IsTail c args tail → given_words (program ∷ name_of c ∷ (written ps ++ tail)) ≡ program ∷ name_of c ∷ written ps
  given_is ends = go (has_args c) refl
    where
      go : (b : Bool) → has_args c ≡ b → given_words (program ∷ name_of c ∷ (written ps ++ tail)) ≡ program ∷ name_of c ∷ written ps
      go true has = let is : takes_args (name_of c) ≡ true = takes_args_is c ∙ has in rw is (ap (λ (r : List Text). program ∷ name_of c ∷ r) (before ends))
      go false has = let is : takes_args (name_of c) ≡ false = takes_args_is c ∙ has in rw is (ap (λ (r : List Text). program ∷ name_of c ∷ r) (whole ends has))

  args_are : IsTail c args tail → arg_words (program ∷ name_of c ∷ (written ps ++ tail)) ≡ args
  args_are ends = go (has_args c) refl
    where
      go : (b : Bool) → has_args c ≡ b → arg_words (program ∷ name_of c ∷ (written ps ++ tail)) ≡ args
      go true has = let is : takes_args (name_of c) ≡ true = takes_args_is c ∙ has in rw is (after ends)
      go false has = let is : takes_args (name_of c) ≡ false = takes_args_is c ∙ has in rw is (no_args ends has)

-- what words ask for, where `clap` is given these
asks_of : List (List ℕ) → List (List ℕ) → Result Asked Refusal
asks_of given args = if is_refused given then Err not_taken else matches_ask args (matched given)

asks_is : (words : List (List ℕ)) → words_ask words ≡ asks_of (given_words words) (arg_words words)
unfolding words_ask asks_of
asks_is words = refl

asks_taken : (given args : List (List ℕ)) (c : Subcommand) (s : Shape) (words : List Text) → is_refused given ≡ false → matched given ≡ Some (rows_at s words) → subcommand_named s.name ≡ Some c
    → asks_of given args ≡ texts_ask c args (texts_found (λ id. first_of id (rows_after s.rules [] words)))
unfolding asks_of
asks_taken given args c s words taken rows named_is_ = rw (taken, rows, named_is_) refl

module _ (c : Subcommand) (ps : List Piece) (fit : FitPieces c ps) (once : are_distinct (names_in ps) ≡ true) (count : length (operands_in ps) ≡ length (operands_of c)) where
  found : (id : Text) → bytes_eq (codes "stats") id ≡ false → first_of id (rows_after (ready_shape c).rules [] (written ps)) ≡ found_in (operands_of c) ps id
  found = found_is (ready_shape c) c (ready c) ps fit once (operands_differ c) count

  texts_same : texts_found (λ id. first_of id (rows_after (ready_shape c).rules [] (written ps))) ≡ texts_found (found_in (operands_of c) ps)
  texts_same =
      let file_ = found (operand_id File) refl in
      let script_ = found (operand_id Script) refl in
      let passes_ = found (option_name Passes) refl in
      let profile_ = found (option_name Profile) refl in
      let frames_ = found (option_name Frames) refl in
      let cells_ = found (option_name Cells) refl in
      let steps_ = found (option_name Steps) refl in
      let hot_ = found (option_name Hot) refl in
      let most_ = found (option_name Most) refl in
      let functions_ = found (operand_id Functions) refl in
      let stats_ = flag_is (ready_shape c) c (ready c) ps fit once (operands_differ c) count (flag_name Stats) in
      λ i. record {
        file = file_ i;
        script = script_ i;
        passes = passes_ i;
        profile = profile_ i;
        frames = frames_ i;
        cells = cells_ i;
        steps = steps_ i;
        hot = hot_ i;
        most = most_ i;
        stats = stats_ i;
        functions = functions_ i;
      }

  taken : (program : List ℕ) → is_refused (program ∷ name_of c ∷ written ps) ≡ false
  taken program =
      refused_is (program ∷ name_of c ∷ written ps)
      ∙ ap (λ (k : Kinds). not (is_empty k)) (whole_free (built whole_app) c (ready_shape c) (meets c) (written ps) (leaf_free (ready_shape c) c (ready c) ps fit once (operands_differ c) count))

  rows : (program : List ℕ) → matched (program ∷ name_of c ∷ written ps) ≡ Some (rows_at (ready_shape c) (written ps))
  rows program = matched_is (program ∷ name_of c ∷ written ps) ∙ whole_enters (built whole_app) c (ready_shape c) (meets c) (written ps)

pub plain_asks : (words : List (List ℕ)) (c : Subcommand) (ps : List Piece) (args : List (List ℕ)) → IsPlainLine words c ps args
    → words_ask words ≡ texts_ask c args (texts_found (found_in (operands_of c) ps))
plain_asks words c ps args line =
    ap words_ask line.words_are ∙ asks_is (line.program ∷ name_of c ∷ (written ps ++ line.tail))
    ∙ ap₂ asks_of (given_is line.program c ps args line.tail line.fit line.ends) (args_are line.program c ps args line.tail line.fit line.ends)
    ∙ asks_taken (line.program ∷ name_of c ∷ written ps) args c (ready_shape c) (written ps) (taken c ps line.fit line.once line.operands line.program)
    (rows c ps line.fit line.once line.operands line.program) (ap subcommand_named (ready c).name ∙ (ready c).named)
    ∙ ap (texts_ask c args) (texts_same c ps line.fit line.once line.operands)
