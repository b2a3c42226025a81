-- The token that is found, or none.
use Rattle.std.proofs.Common.{◌≡◌, ◌∙◌, ◌≤◌, ℕ, List, Option, Some, None, Result, Ok, Err, ap, length, subst, sym}
use Rattle.std.specs.Prelude.{IfOk, find}
use Rattle.std.specs.List.{All}
use Rattle.bril_lex.specs.Cut.{AreInOrder}
use Rattle.bril_lex.specs.Lexeme.{Lexeme, lexemes_of}
use Rattle.bril_lex.specs.Spelling.{IsTokenOf}
use Rattle.bril_lex.specs.declared.cut.LexFault.{LexFault}
use Rattle.bril_lex.specs.declared.cut.LexFault.TheVariants.{At, Memory}
use Rattle.bril_lex.specs.declared.token.Token.{Token}
use Rattle.bril_text.proofs.Whole.{all_in}
use Rattle.bril_explain.specs.Locate.{is_named, spot_at}
use Rattle.bril_explain.specs.Message.{IsInside}
use Rattle.bril_explain.specs.declared.located.Spot.{Spot}
use Rattle.bril_explain.specs.declared.located.Spot.TheVariants as spot
use Rattle.bril_explain.proofs.Tokens.{found_inside}
use Rattle.bril_explain.proofs.locate.named_spot.Goals as goal

pub named_among-requires : goal.named_among-requires
named_among-requires c =
    let tokens = c.as_slice.ensures in
    all_in c.args.source.now c.as_slice.result.now 0
    (subst (λ ts. AreInOrder 0 ts (length c.args.source.now)) (sym tokens) c.in-Ok.ensures.in_order)
    (subst (λ ts. All (λ (l : Lexeme). IsTokenOf l.kind l.text) (lexemes_of c.args.source.now ts)) (sym tokens) c.in-Ok.ensures.spelled)

pub returns-in-Some-clause-is : goal.returns-in-Some-clause-is
returns-in-Some-clause-is c = λ ts are.
    let source = c.args.source.now in
    let test = is_named c.args.name.now source in
    let found : find test ts ≡ Some c.in-Some.token = ap (find test) (sym (c.as_slice.ensures ∙ c.in-Ok.ensures.reads ts are)) ∙ sym c.named_among.ensures ∙ c.in-Some.is in
    subst (λ (o : Option Token). IfOk c.spot_in.result (λ (s : Spot). s ≡ spot_at source o)) (sym found) c.spot_in.ensures

-- a byte of a source is inside
inside : {E : Type 0} (r : Result Spot E) (source : List ℕ) (at : ℕ) → at ≤ length source → IfOk r (λ (s : Spot). s ≡ spot.Byte source at) → IfOk r IsInside
inside (Ok s) source at within is = subst IsInside (sym is) within
inside (Err e) source at within is = is

pub returns-in-Some-clause-inside : goal.returns-in-Some-clause-inside
returns-in-Some-clause-inside c =
    let source = c.args.source.now in
    let test = is_named c.args.name.now source in
    let found : find test c.in-Ok.found.list ≡ Some c.in-Some.token = ap (find test) (sym c.as_slice.ensures) ∙ sym c.named_among.ensures ∙ c.in-Some.is in
    inside c.spot_in.result source c.in-Some.token.from (found_inside test c.in-Ok.found.list 0 (length source) c.in-Some.token c.in-Ok.ensures.in_order found) c.spot_in.ensures

pub returns-in-Ok-clause-is : goal.returns-in-Ok-clause-is
returns-in-Ok-clause-is c = λ ts are.
    let source = c.args.source.now in
    let test = is_named c.args.name.now source in
    let found : find test ts ≡ None = ap (find test) (sym (c.as_slice.ensures ∙ c.in-Ok.ensures.reads ts are)) ∙ sym c.named_among.ensures ∙ c.in-None.is in
    ap (spot_at source) (sym found)

pub unreachable-requires : goal.unreachable-requires
unreachable-requires c =
    let both : ◌≡◌ {A = LexFault} (At c.in-Err-At.field-0-0) Memory = sym c.in-Err-At.field-0-is ∙ c.in-Err-At.ensures.reads c.requires.cut.0 c.requires.cut.1 in
    cc
