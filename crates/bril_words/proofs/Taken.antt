-- Words that `clap` takes name a command.
use Rattle.std.proofs.Common.{◌≡◌, ◌∙◌, refl, sym, ap, Bool, true, false, not, List, [], ◌∷◌, map, drop, Option, Some, None, is_some, cond, Result, Err, true≢false}
use Rattle.std.proofs.lemmas.Bool.{not-false}
use Rattle.std.specs.Prelude.{find}
use Rattle.std.specs.Option.{option_map}
use Rattle.clap.specs.Kinds.{Kinds, or_else}
use Rattle.clap.specs.Walk.{Row, Text, finished, is_empty, nothing_held, answers_to, settled, stop_after, walk, walk_from}
use Rattle.clap.specs.Simple.{App, Shape, built, entered, label_of, names_of, rows_at}
use Rattle.clap.specs.Faults.{built_fault, check_fault, defaults_fault, entered_fault, settle_fault, walk_fault}
use Rattle.clap.specs.declared.error.kind.ErrorKind.TheVariants as kind
use Rattle.clap.specs.Walk.{first_of}
use Rattle.clap.proofs.SimpleLemmas.{is_nil}
use Rattle.bril_words.specs.App.{whole_app}
use Rattle.bril_words.specs.CommandLine.{Refusal, or_bad, or_bad_functions, Texts, arg_words, given_words, is_refused, list_of, matched, matches_ask, not_taken, texts_ask, texts_found, value_of, words_ask}
use Rattle.bril_words.specs.Request.{Asked}
use Rattle.bril_words.specs.Subcommands.{subcommand_named, subcommands}
use Rattle.bril_words.specs.declared.subcommands.Subcommand.{Subcommand}
use Rattle.bril_words.specs.Defaults.{most_frames, most_functions, most_cells, most_entries, most_hot, most_steps, default_frames, default_cells, default_entries, default_hot, default_steps}
use Rattle.bril_words.specs.declared.options.Setting.{Setting}
use Rattle.bril_words.specs.declared.options.Setting.TheVariants.{Passes, Frames, Cells, Steps, Hot, Most}
use Rattle.bril_words.proofs.Pieces.{AllOf}
use Rattle.bril_words.proofs.Ready.{ready, ready_shape}

both_nil : (a b : Kinds) → or_else a b ≡ [] → (a ≡ []) × (b ≡ [])
both_nil [] b e = (refl, e)
both_nil (k ∷ ks) b e = cc

-- the shape is that of a command
abbrev IsCommand : Shape → Type 0
IsCommand s = (c : Subcommand) × (subcommand_named s.name ≡ Some c)

commands_of : (cs : List Subcommand) → AllOf IsCommand (map ready_shape cs)
commands_of [] = tt
commands_of (c ∷ cs) = ((c, ap subcommand_named (ready c).name ∙ (ready c).named), commands_of cs)

whole_commands : AllOf IsCommand (built whole_app).subs
unfolding whole_app
whole_commands = commands_of subcommands

whole_wants : ((built whole_app).top.subcommand_required ≡ true) × ((built whole_app).top.arg_required_else_help ≡ false)
unfolding whole_app
whole_wants = (refl, refl)

found_command : (p : Shape → Bool) (subs : List Shape) (s : Shape) → AllOf IsCommand subs → find p subs ≡ Some s → IsCommand s
found_command p [] s all e = cc
found_command p (t ∷ subs) s all e = go (p t) (λ h. found_command p subs s all.1 h) e
  where
    go : (b : Bool) → (find p subs ≡ Some s → IsCommand s) → cond b (Some t) (find p subs) ≡ Some s → IsCommand s
    go true rest h = let same : t ≡ s = cc in (all.0.0, ap (λ (x : Shape). subcommand_named x.name) (sym same) ∙ all.0.1)
    go false rest h = rest h

-- a command that wants a subcommand and has none is at fault
wants : (s : Shape) (rows : List Row) (has : Bool) → s.subcommand_required ≡ true → s.arg_required_else_help ≡ false → check_fault s rows has ≡ [] → has ≡ true
wants s rows true required help e = refl
wants s rows false required help e = let bad : kind.MissingSubcommand ∷ [] ≡ [] = rw (required, help) at e in cc

module _ (a : App) (all : AllOf IsCommand a.subs) where
  entered_at : (found : Option Shape) (words : List Text) → is_some (option_map (λ s. rows_at s words) found) ≡ true → ((s : Shape) → found ≡ Some s → IsCommand s)
      → (m : Text × List Row) × (option_map (λ s. rows_at s words) found ≡ Some m) × ((c : Subcommand) × (subcommand_named m.0 ≡ Some c))
  entered_at None words some are = absurd (true≢false (sym some))
  entered_at (Some s) words some are = (rows_at s words, refl, are s refl)

  entered_command : (stop : Option (Text × List Text)) → is_some (entered a stop) ≡ true → (m : Text × List Row) × (entered a stop ≡ Some m) × ((c : Subcommand) × (subcommand_named m.0 ≡ Some c))
  entered_command None some = absurd (true≢false (sym some))
  entered_command (Some p) some =
      entered_at (find (λ s. answers_to p.0 (label_of s)) a.subs) p.1 some (λ s e. found_command (λ t. answers_to p.0 (label_of t)) a.subs s all e)

  has_it : (words : List Text) → a.top.subcommand_required ≡ true → a.top.arg_required_else_help ≡ false → built_fault a nothing_held words ≡ []
      → is_some (entered a (stop_after a.top.rules (names_of a) words)) ≡ true
  has_it words required help none =
      let last : check_fault a.top (finished a.top.rules (walk a.top.rules (names_of a) nothing_held words).held) (is_some (entered a (stop_after a.top.rules (names_of a) words))) ≡ [] =
      (both_nil (defaults_fault (settled a.top.rules (walk a.top.rules (names_of a) nothing_held words).held).rows a.top.rules) _
      (both_nil (settle_fault a.top.rules a.top.args_override_self (walk a.top.rules (names_of a) nothing_held words).held) _
      (both_nil (entered_fault a (stop_after a.top.rules (names_of a) words)) _
      (both_nil (walk_fault a.top (names_of a) (walk_from nothing_held) words) _ none).1).1).1).1 in
      wants a.top (finished a.top.rules (walk a.top.rules (names_of a) nothing_held words).held) (is_some (entered a (stop_after a.top.rules (names_of a) words))) required help last

pub refused_is : (given : List Text) → is_refused given ≡ not (is_empty (built_fault (built whole_app) nothing_held (drop 1 given)))
unfolding is_refused whole_app
refused_is given = refl

pub matched_is : (given : List Text) → matched given ≡ entered (built whole_app) (stop_after (built whole_app).top.rules (names_of (built whole_app)) (drop 1 given))
unfolding matched whole_app
matched_is given = refl

taken_command : (given : List Text) → is_refused given ≡ false → (m : Text × List Row) × (matched given ≡ Some m) × ((c : Subcommand) × (subcommand_named m.0 ≡ Some c))
taken_command given taken =
    let none = is_nil (built_fault (built whole_app) nothing_held (drop 1 given)) (not-false _ (sym (refused_is given) ∙ taken)) in
    let met = entered_command (built whole_app) whole_commands _ (has_it (built whole_app) whole_commands (drop 1 given) whole_wants.0 whole_wants.1 none) in
    (met.0, matched_is given ∙ met.1, met.2)

-- ---- values never say that the words weren't taken

never : {X : Type 0} (setting : Setting) (o : Option X) (next : X → Result Asked Refusal) → ((x : X) → next x ≡ Err not_taken → ⊥) → or_bad setting o next ≡ Err not_taken → ⊥
never setting None next rest e = cc
never setting (Some x) next rest e = rest x e

never_functions : {X : Type 0} (o : Option X) (next : X → Result Asked Refusal) → ((x : X) → next x ≡ Err not_taken → ⊥) → or_bad_functions o next ≡ Err not_taken → ⊥
never_functions None next rest e = cc
never_functions (Some x) next rest e = rest x e

texts_never : (c : Subcommand) (args : List Text) (t : Texts) → texts_ask c args t ≡ Err not_taken → ⊥
texts_never c args t =
    never Passes (list_of t.passes) _ (λ list.
    never Frames (value_of most_frames default_frames t.frames) _ (λ frames.
    never Cells (value_of most_cells default_cells t.cells) _ (λ cells.
    never Steps (value_of most_steps default_steps t.steps) _ (λ steps.
    never Hot (value_of most_hot default_hot t.hot) _ (λ hot.
    never Most (value_of most_entries default_entries t.most) _ (λ most.
    never_functions (value_of most_functions 1 t.functions) _ (λ functions h. cc)))))))

asks_never : (args : List Text) (m : Text × List Row) (c : Subcommand) → subcommand_named m.0 ≡ Some c → matches_ask args (Some m) ≡ Err not_taken → ⊥
asks_never args m c is e =
    let same : matches_ask args (Some m) ≡ texts_ask c args (texts_found (λ id. first_of id m.1)) = rw is refl in
    texts_never c args (texts_found (λ id. first_of id m.1)) (sym same ∙ e)

pub refused_alone : (words : List Text) → words_ask words ≡ Err not_taken → is_refused (given_words words) ≡ true
unfolding words_ask
refused_alone words = go (is_refused (given_words words)) refl
  where
    go : (b : Bool) → is_refused (given_words words) ≡ b → cond b (Err not_taken) (matches_ask (arg_words words) (matched (given_words words))) ≡ Err not_taken → b ≡ true
    go true is e = refl
    go false is e =
        let taken = taken_command (given_words words) is in
        absurd (asks_never (arg_words words) taken.0 taken.2.0 taken.2.1 (ap (matches_ask (arg_words words)) (sym taken.1) ∙ e))
