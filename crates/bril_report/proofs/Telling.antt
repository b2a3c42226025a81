-- What is told by pieces one after another.
use Rattle.std.proofs.Common.{◌≡◌, ℕ, Bool, true, false, List, [], ◌∷◌, ◌++◌, refl, sym, ap, ◌∙◌, subst, inl, inr, true≢false}
use Rattle.bril_outside.specs.Sink.{SinkSeen, Rose, TookSome, PutTimes, PutAll, PutSome}
use Rattle.bril_outside.proofs.SinkWrites.{PutAll-none, PutAll-append, PutSome-one, PutSome-longer, PutSome-after}
use Rattle.bril_report.proofs.Puts.{no_pieces, a_piece}
use Rattle.bril_report.specs.Puts.{Puts}
use Rattle.bril_report.specs.Told.{Heard, Told, heard, Tells}
use Rattle.bril_report.specs.declared.error_output.ErrorOutput.{ErrorOutput}

module _ {e f g : Heard} {ps qs : List (List ℕ)} (one : Told e ps f) (two : Told f qs g) where
  all_of : (b : Bool) → f.failed ≡ b → e.failed ≡ false → g.failed ≡ false → PutAll e.seen (ps ++ qs) g.seen
  all_of true failed before after = absurd (true≢false (sym failed ∙ ap (λ (h : Heard). h.failed) (sym (two.silent failed)) ∙ after))
  all_of false failed before after = PutAll-append (one.all before failed) (two.all failed after)

  some_of : (b : Bool) → f.failed ≡ b → e.failed ≡ false → g.failed ≡ true → PutSome e.seen (ps ++ qs) g.seen
  some_of true failed before after =
      subst (λ (h : Heard). PutSome e.seen (ps ++ qs) h.seen) (sym (two.silent failed)) (PutSome-longer qs (one.some before failed))
  some_of false failed before after = PutSome-after (one.all before failed) (two.some failed after)

  -- some pieces and then some more
  pub Told-append : Told e (ps ++ qs) g
  Told-append = record {
    all = all_of f.failed refl;
    some = some_of f.failed refl;
    silent = λ before. two.silent (ap (λ (h : Heard). h.failed) (one.silent before) ∙ before) ∙ one.silent before;
    quiet = λ none. let each = no_pieces ps qs none in two.quiet each.1 ∙ one.quiet each.0;
  }

-- nothing
pub Told-none : (e : Heard) → Told e [] e
Told-none e = record {
  all = λ _ _. PutAll-none e.seen;
  some = λ before after. absurd (true≢false (sym after ∙ before));
  silent = λ _. refl;
  quiet = λ _. refl;
}

-- a put that failed
pub Told-failure : {e f : Heard} {piece : List ℕ} → TookSome e.seen piece f.seen × Rose e.seen.faults f.seen.faults → PutTimes e.seen 1 f.seen → e.failed ≡ false → f.failed ≡ true
    → Told e (piece ∷ []) f
Told-failure took times before failed = record {
  all = λ _ after. absurd (true≢false (sym failed ∙ after));
  some = λ _ _. PutSome-one took.0 times took.1;
  silent = λ already. absurd (true≢false (sym already ∙ before));
  quiet = λ none. absurd (a_piece none);
}

-- ---- what was put by it

module _ {e f : Heard} {pieces : List (List ℕ)} (told : Told e pieces f) (before : e.failed ≡ false) where
  puts_by : (b : Bool) → f.failed ≡ b → Puts e.seen pieces f.seen
  puts_by true failed = inr (told.some before failed)
  puts_by false failed = inl (record { put = told.all before failed; quiet = λ none. ap (λ (h : Heard). h.seen) (told.quiet none) })

  -- from an output on which no put failed
  pub Told-puts : Puts e.seen pieces f.seen
  Told-puts = puts_by f.failed refl

-- ---- by an output

module _ {E : Type 0} (seen : E → SinkSeen) where
  pub Tells-none : (a : ErrorOutput E) → Tells seen a [] a
  Tells-none a = record { same_sink = refl; told = Told-none (heard seen a) }

  pub Tells-append : {a b c : ErrorOutput E} {ps qs : List (List ℕ)} → Tells seen a ps b → Tells seen b qs c → Tells seen a (ps ++ qs) c
  Tells-append one two = record { same_sink = two.same_sink ∙ one.same_sink; told = Told-append one.told two.told }
