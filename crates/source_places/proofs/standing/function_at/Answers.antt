-- What the search leaves begins where the grammar has it.
use Rattle.std.proofs.Common.{◌≡◌, ◌∙◌, ◌-◌, List, [], ap, drop, length, map, subst, sym}
use Rattle.std.proofs.lemmas.Result.{err_from_is_err_and}
use Rattle.bril_grammar.specs.Terminal.{Terminal}
use Rattle.bril_grammar.specs.Written.{Source}
use Rattle.bril_lex.specs.Cut.{AreTokens}
use Rattle.bril_text.specs.Reading.{position_of}
use Rattle.source_places.specs.Search.{head}
use Rattle.source_places.specs.Sign.{sign_in}
use Rattle.source_places.specs.Standing.{BeforeFunction, IsFunctionAt}
use Rattle.source_places.specs.declared.sign.Sign.{Sign}
use Rattle.source_places.proofs.Found.{begins, function_found, tokens_in}
use Rattle.source_places.proofs.standing.function_at.Goals as goal

pub signs_of-requires : goal.signs_of-requires
signs_of-requires c = tokens_in c.args.source.now _ _ c.as_slice-list.ensures c.in_ok-found.ensures.in_order c.in_ok-found.ensures.spelled

pub position_of-requires : goal.position_of-requires
position_of-requires c = tokens_in c.args.source.now _ _ c.as_slice-list.ensures c.in_ok-found.ensures.in_order c.in_ok-found.ensures.spelled

pub returns-clause-at : goal.returns-clause-at
returns-clause-at c =
    let source = c.args.source.now in
    let ts = c.as_slice-list.result.now in
    let search : List Sign → List Sign = λ (signs : List Sign). head signs c.args.func [] in
    let are : AreTokens source ts = subst (AreTokens source) (sym c.as_slice-list.ensures) c.in_ok-found.ensures.ok in
    let signs : c.as_slice.result.now ≡ map (sign_in source) ts = c.as_slice.ensures ∙ c.in_ok-signs.ensures in
    let left : c.head-left.result.now ≡ search (map (sign_in source) ts) = c.head-left.ensures ∙ ap search signs in
    subst (IsFunctionAt c.args.source.now c.args.func) (sym (c.position_of.ensures.at ∙ ap (λ (s : List Sign). position_of source (drop (length ts - length s) ts)) left))
    (begins source ts search (λ (w : Source) (before : List Terminal). BeforeFunction w c.args.func before) (λ w before h. function_found w c.args.func before h) are)

pub returns-in_err-found-clause-cut : goal.returns-in_err-found-clause-cut
returns-in_err-found-clause-cut c =
    let e = err_from_is_err_and c.from_residual.result c.from_residual.ensures.1 in
    λ ts are. rw (e.1, e.2) (c.in_err-found.ensures.reads ts are)
