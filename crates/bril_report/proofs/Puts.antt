-- Pieces that are put one after another.
use Rattle.std.proofs.Common.{◌≡◌, ℕ, List, [], ◌∷◌, ◌++◌, refl, ◌∙◌, ⊎_elim}
use Rattle.bril_outside.proofs.SinkWrites.{PutAll-none, PutAll-one, PutAll-append, Rose-after}
use Rattle.bril_outside.specs.Sink.{SinkSeen, Rose, TookAll, PutTimes}
use Rattle.bril_report.specs.Puts.{PutsAll, WritesSome}

pub no_pieces : (ps qs : List (List ℕ)) → ps ++ qs ≡ [] → (ps ≡ []) × (qs ≡ [])
no_pieces [] qs e = (refl, e)
no_pieces (p ∷ ps) qs e = cc

pub a_piece : {p : List ℕ} {ps : List (List ℕ)} → p ∷ ps ≡ [] → ⊥
a_piece e = cc

-- nothing is put
pub PutsAll-none : (s : SinkSeen) → PutsAll s [] s
PutsAll-none s = record { put = PutAll-none s; quiet = λ _. refl }

-- one piece
pub PutsAll-one : {s t : SinkSeen} {piece : List ℕ} → TookAll s piece t → PutTimes s 1 t → PutsAll s (piece ∷ []) t
PutsAll-one took times = record { put = PutAll-one took times; quiet = λ none. absurd (a_piece none) }

-- some pieces and then some more
pub PutsAll-append : {s t u : SinkSeen} {ps qs : List (List ℕ)} → PutsAll s ps t → PutsAll t qs u → PutsAll s (ps ++ qs) u
PutsAll-append {s} {t} {u} {ps} {qs} one two = record {
  put = PutAll-append one.put two.put;
  quiet = λ none. let each = no_pieces ps qs none in two.quiet each.1 ∙ one.quiet each.0;
}

-- a failure is counted
pub WritesSome-rose : {s t : SinkSeen} {pieces : List (List ℕ)} → WritesSome s pieces t → Rose s.faults t.faults
WritesSome-rose {s} {t} some = ⊎_elim (λ put. put.rose) (λ lost. Rose-after _ _ _ lost.puts.put.took.took.faults lost.rose) some
