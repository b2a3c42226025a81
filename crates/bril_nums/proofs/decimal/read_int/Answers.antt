use Rattle.std.proofs.Common.{◌≡◌, Result, Ok, Err, None, Some, MatchResult, IsUtf8, ap, subst, sym, ◌∙◌}
use Rattle.std.specs.Result.{result_ok}
use Rattle.bril_nums.proofs.IntText.{int_of-parsed, int_of-none, IsUtf8-from_IsInt}
use Rattle.bril_nums.specs.Decimal.{int_of}
use Rattle.bril_nums.proofs.decimal.read_int.Goals as goal

-- what `from_utf8` says where it gives no text
no_text : {T E : Type 0} (r : Result T E) (P : T → Type 0) (Q : E → Type 0) (U : Type 0) → MatchResult r P (λ e. (U → ⊥) × Q e) → result_ok r ≡ None → U → ⊥
no_text (Ok x) P Q U h e u = cc
no_text (Err x) P Q U h e u = h.0 u

-- and where it gives one
some_text : {T E : Type 0} (r : Result T E) (t : T) (P : T → Type 0) (Q : E → Type 0) → MatchResult r P Q → result_ok r ≡ Some t → P t
some_text (Ok x) t P Q h e = let same : x ≡ t = cc in subst P same h
some_text (Err x) t P Q h e = cc

pub returns-in_err-text-clause-value : goal.returns-in_err-text-clause-value
returns-in_err-text-clause-value c =
    let no : IsUtf8 c.args.bytes.now → ⊥ = no_text c.from_utf8.result _ _ _ c.from_utf8.ensures.cases (sym c.ok.ensures.value ∙ c.in_err-text.was) in
    c.from_residual.ensures ∙ sym (int_of-none c.args.bytes.now (λ z f i. no (IsUtf8-from_IsInt c.args.bytes.now z i)))

pub returns-in_err-text-clause-each : goal.returns-in_err-text-clause-each
returns-in_err-text-clause-each c = λ z f i.
    let no : IsUtf8 c.args.bytes.now → ⊥ = no_text c.from_utf8.result _ _ _ c.from_utf8.ensures.cases (sym c.ok.ensures.value ∙ c.in_err-text.was) in
    absurd (no (IsUtf8-from_IsInt c.args.bytes.now z i))

pub returns-clause-value : goal.returns-clause-value
returns-clause-value c =
    let t = some_text c.from_utf8.result c.in_ok-text.text _ _ c.from_utf8.ensures.cases (sym c.in_ok-text.ensures.value) in
    c.ok-2.ensures.value ∙ int_of-parsed c.in_ok-text.text.now c.parse.result c.parse.ensures.value.0 ∙ ap int_of t.0
