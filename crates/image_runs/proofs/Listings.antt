-- The listing of words, word by word.
use Rattle.std.proofs.Common.{◌≡◌, ℕ, suc, ◌+◌, ◌<◌, List, [], ◌∷◌, ◌++◌, length, take, drop, get_or, sym, ap, ◌∙◌, subst, drop-cons, arith}
use Rattle.std.proofs.Math.Seq.{take-suc}
use Rattle.std.proofs.lemmas.List.{map-append, take-append-drop}
use Rattle.bril_outside.proofs.SinkWrites.{PutSome-one, PutSome-after, PutSome-longer}
use Rattle.bril_outside.specs.Sink.{SinkSeen, Rose, TookAll, TookSome, PutTimes, PutSome}
use Rattle.bril_report.proofs.Puts.{PutsAll-one, PutsAll-append}
use Rattle.bril_report.specs.Puts.{PutsAll}
use Rattle.bril_commands.specs.commands.Emit.{listing, word_line}

module _ (words : List ℕ) (i d : ℕ) (inside : i < length words) where
  listing-at : listing words ≡ listing (take i words) ++ word_line (get_or words i d) ∷ listing (drop (suc i) words)
  listing-at =
      sym (ap listing (take-append-drop i words))
      ∙ map-append word_line (take i words) (drop i words)
      ∙ ap (λ rest. listing (take i words) ++ listing rest) (drop-cons words i d inside)

  listing-next : listing (take i words) ++ word_line (get_or words i d) ∷ [] ≡ listing (take (i + 1) words)
  listing-next =
      let next : suc i ≡ i + 1 = omega arith in
      sym (map-append word_line (take i words) (get_or words i d ∷ []))
      ∙ ap listing (sym (take-suc words i d inside))
      ∙ ap (λ n. listing (take n words)) next

  module _ {s t u : SinkSeen} (before : PutsAll s (listing (take i words)) t) (times : PutTimes t 1 u) where
    -- the line of one word more was put
    pub listing-more : TookAll t (word_line (get_or words i d)) u → PutsAll s (listing (take (i + 1) words)) u
    listing-more took = subst (λ ps. PutsAll s ps u) listing-next (PutsAll-append before (PutsAll-one took times))

    -- the put of a word's line failed
    pub listing-failed : TookSome t (word_line (get_or words i d)) u → Rose t.faults u.faults → PutSome s (listing words) u
    listing-failed some rose =
        subst (λ ps. PutSome s ps u) (sym listing-at)
        (PutSome-after before.put (PutSome-longer (listing (drop (suc i) words)) (PutSome-one some times rose)))
