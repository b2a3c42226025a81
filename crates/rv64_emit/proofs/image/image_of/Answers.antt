use Rattle.std.proofs.Common.{◌≡◌, ◌++◌, length, map, ap, ◌∙◌, arith, length-append}
use Rattle.std.proofs.lemmas.List.{length-map}
use Rattle.rv64_words.specs.Encoding.{encoded}
use Rattle.rv64_emit_laws.specs.layout.Image.{joined, start_at, head_words, function_words_at, image_guards, main_moves}
use Rattle.rv64_emit_laws.proofs.lemmas.layout.Laid.{head_length}
use Rattle.rv64_emit_laws.proofs.lemmas.layout.Placing.{starts_most}
use Rattle.rv64_words_laws.specs.sequences.Moves.{restore_size}
use Rattle.rv64_emit.proofs.Appending.{put_then}
use Rattle.rv64_emit.specs.Placed.{all_homes}
use Rattle.rv64_emit.specs.SlotMoves.{all_moves}
use Rattle.rv64_emit.proofs.Placed.{starts_are}
use Rattle.rv64_emit.proofs.image.image_of.Goals as goal

pub place-requires-clause-few : goal.place-requires-clause-few
place-requires-clause-few c =
    let starts = c.as_slice-starts.ensures ∙ (c.in_ok-tables.ensures {u = tt}).starts in
    λ k. omega (arith, starts_are (all_homes c.args.homes.now) c.args.slots.now c.as_slice-starts.result.now starts k, starts_most (all_homes c.args.homes.now) c.args.slots.now k, c.requires.fits.few)

pub put_head-requires-clause-few : goal.put_head-requires-clause-few
put_head-requires-clause-few c =
    let size = ap restore_size c.main_moves_of.ensures.moves in
    let few = c.requires.fits.few in
    omega arith

pub put_functions-requires-clause-here : goal.put_functions-requires-clause-here
put_functions-requires-clause-here c =
    let moves = all_moves c.main_moves_of.result in
    let words = head_words c.args.limits moves c.place.result in
    let size = ap restore_size c.main_moves_of.ensures.moves in
    omega (
      arith,
      ap length (c.in_ok-put_head.ensures {u = tt}),
      ap length c.new-words.ensures,
      length-append c.new-words.result (map encoded words),
      length-map words encoded,
      head_length c.args.limits moves c.place.result,
      size,
    )

pub returns : goal.returns
returns c =
    let slots = c.args.slots.now in
    let starts = c.as_slice-starts.ensures ∙ (c.in_ok-tables.ensures {u = tt}).starts in
    let main : c.place.result ≡ start_at (all_homes c.args.homes.now) slots slots.main = c.place.ensures.value ∙ starts_are (all_homes c.args.homes.now) slots c.as_slice-starts.result.now starts slots.main in
    let head = c.in_ok-put_head.ensures {u = tt} in
    let all = c.in_ok-put_functions.ensures {u = tt} in
    let functions = joined (function_words_at (all_homes c.args.homes.now) slots) (length slots.funcs) in
    record {
      words = put_then c.new-words.result c.put_head.new.code c.put_functions.new.code (head_words c.args.limits (all_moves c.main_moves_of.result) c.place.result) functions head all.words
          ∙ ap (λ m. c.new-words.result ++ map encoded (head_words c.args.limits (all_moves c.main_moves_of.result) m ++ functions)) main
          ∙ ap (λ moves. c.new-words.result ++ map encoded (head_words c.args.limits moves (start_at (all_homes c.args.homes.now) slots slots.main) ++ functions)) c.main_moves_of.ensures.moves
          ∙ ap (λ before. before ++ map encoded (head_words c.args.limits (main_moves (all_homes c.args.homes.now) slots) (start_at (all_homes c.args.homes.now) slots slots.main) ++ functions)) c.new-words.ensures;
      guards = all.guards ∙ ap (λ before. before ++ image_guards (all_homes c.args.homes.now) slots) c.new-guards.ensures;
      stack = c.requires.stack;
    }
