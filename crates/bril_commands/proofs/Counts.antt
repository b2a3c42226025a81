-- The counts of a run, guard by guard.
use Rattle.std.proofs.Common.{◌≡◌, ℕ, suc, ◌+◌, ◌<◌, List, [], ◌∷◌, ◌++◌, length, take, get_or, IfSome, sym, ap, ◌∙◌, arith, append_assoc, append-nil}
use Rattle.std.specs.Prelude.{slice_get}
use Rattle.std.specs.List.{flat_map}
use Rattle.std.proofs.Math.Seq.{take-suc}
use Rattle.std.proofs.lemmas.Grind.{flat_map-append}
use Rattle.std.proofs.lemmas.Option.{slice_get-get_or}
use Rattle.bril_report.specs.Stats.{words_pieces, guard_pieces, function_name}
use Rattle.bril_tree.specs.declared.program.Prog.{Prog}
use Rattle.rv64_words.specs.State.{State}
use Rattle.rv64_words.specs.declared.image.GuardAt.{GuardAt}
use Rattle.bril_commands.specs.Stats.{guard_told}

module _ (p : Prog) (t : State) (guards : List GuardAt) where
  -- the pieces up to a guard
  abbrev pub pieces_to : ℕ → List (List ℕ)
  pieces_to i = words_pieces t.done ++ flat_map (guard_told p t) (take i guards)

  pieces_more : (i : ℕ) (d : GuardAt) → i < length guards → pieces_to (i + 1) ≡ pieces_to i ++ guard_told p t (get_or guards i d)
  pieces_more i d inside =
      let next : i + 1 ≡ suc i = omega arith in
      ap pieces_to next
      ∙ ap (λ xs. words_pieces t.done ++ flat_map (guard_told p t) xs) (take-suc guards i d inside)
      ∙ ap (λ ps. words_pieces t.done ++ ps) (flat_map-append (guard_told p t) (take i guards) (get_or guards i d ∷ []))
      ∙ sym (append_assoc (words_pieces t.done) (flat_map (guard_told p t) (take i guards)) (flat_map (guard_told p t) (get_or guards i d ∷ [])))
      ∙ ap (λ ps. pieces_to i ++ ps) (append-nil (guard_told p t (get_or guards i d)))

  module _ (i : ℕ) (d : GuardAt) (fails : ℕ) (inside : i < length guards) (counted : IfSome (slice_get guards i) (λ at. fails ≡ t.arrivals at.word)) where
    count_is : fails ≡ t.arrivals (get_or guards i d).word
    count_is = rw (slice_get-get_or guards i d inside) at counted

    told_is : guard_pieces (function_name p (get_or guards i d).func) (get_or guards i d).item fails ≡ guard_told p t (get_or guards i d)
    told_is = ap (guard_pieces (function_name p (get_or guards i d).func) (get_or guards i d).item) count_is

    -- the pieces of one more guard
    pub stats-more : pieces_to i ++ guard_pieces (function_name p (get_or guards i d).func) (get_or guards i d).item fails ≡ pieces_to (i + 1)
    stats-more = ap (λ ps. pieces_to i ++ ps) told_is ∙ sym (pieces_more i d inside)
