use Rattle.std.proofs.lemmas.Result.{err_from_is_err_and}
use Rattle.std.proofs.Common.{◌≡◌, sym, ap, ◌∙◌, subst, Ok, length}
use Rattle.std.specs.Prelude.{◌⊎◌}
use Rattle.bril_text.specs.declared.fault.TextFault.TheVariants.{Memory}
use Rattle.std.specs.List.{All}
use Rattle.bril_lex.specs.Cut.{AreTokens, AreInOrder}
use Rattle.bril_lex.specs.Lexeme.{Lexeme, lexemes_of}
use Rattle.bril_lex.specs.Spelling.{IsTokenOf}
use Rattle.bril_grammar.specs.Machine.{read}
use Rattle.bril_text.specs.Parse.{Fails}
use Rattle.bril_text.specs.Reading.{lexed, IsFaultOf}
use Rattle.bril_text.proofs.Whole.{all_in, lex_fault, lex_faults, parse_within, parse_reads, parse_fault, parse_faults, parse_no_fault, parse_one, spells_read}
use Rattle.bril_text.proofs.reading.read_text.Goals as goal

pub returns-in_err-found-clause-reads : goal.returns-in_err-found-clause-reads
returns-in_err-found-clause-reads c =
    let p = err_from_is_err_and c.from_residual.result c.from_residual.ensures.1 in
    λ tree s. rw (p.1, p.2) (ap lexed (c.in_err-found.ensures.reads s.tokens s.are))

pub returns-in_err-found-clause-fault : goal.returns-in_err-found-clause-fault
returns-in_err-found-clause-fault c =
    let p = err_from_is_err_and c.from_residual.result c.from_residual.ensures.1 in
    rw (p.1, p.2) (lex_fault c.args.source.now c.in_err-found.field-0.0 c.in_err-found.ensures.fault)

pub returns-in_err-found-clause-faults : goal.returns-in_err-found-clause-faults
returns-in_err-found-clause-faults c =
    let p = err_from_is_err_and c.from_residual.result c.from_residual.ensures.1 in
    λ why h. rw (p.1, p.2) (lex_faults c.args.source.now c.in_err-found.field-0.0 c.in_err-found.ensures.fault why h)

pub new-requires : goal.new-requires
new-requires c =
    let tokens = c.as_slice-list.ensures in
    all_in c.args.source.now c.as_slice-list.result.now 0
    (subst (λ ts. AreInOrder 0 ts (length c.args.source.now)) (sym tokens) c.in_ok-found.ensures.in_order)
    (subst (λ ts. All (λ (l : Lexeme). IsTokenOf l.kind l.text) (lexemes_of c.args.source.now ts)) (sym tokens) c.in_ok-found.ensures.spelled)

pub returns-in-Ok-clause-found : goal.returns-in-Ok-clause-found
returns-in-Ok-clause-found c =
    spells_read c.args.source.now c.as_slice-list.result.now c.in-Ok.tree (subst (AreTokens c.args.source.now) (sym c.as_slice-list.ensures) c.in_ok-found.ensures.ok) (subst (λ w. read w ≡ Ok c.in-Ok.tree) c.new.ensures c.in-Ok.ensures)

pub returns-in-Ok-clause-reads : goal.returns-in-Ok-clause-reads
returns-in-Ok-clause-reads c = λ tree s.
    parse_one c.args.source.now c.as_slice-list.result.now (subst (AreTokens c.args.source.now) (sym c.as_slice-list.ensures) c.in_ok-found.ensures.ok) c.in-Ok.tree tree (subst (λ w. read w ≡ Ok c.in-Ok.tree) c.new.ensures c.in-Ok.ensures) s

pub returns-in-Ok-clause-faults : goal.returns-in-Ok-clause-faults
returns-in-Ok-clause-faults c = λ why h.
    parse_no_fault c.args.source.now c.as_slice-list.result.now (subst (AreTokens c.args.source.now) (sym c.as_slice-list.ensures) c.in_ok-found.ensures.ok) c.in-Ok.tree (subst (λ w. read w ≡ Ok c.in-Ok.tree) c.new.ensures c.in-Ok.ensures) why h

pub text_fault-requires-clause-within : goal.text_fault-requires-clause-within
text_fault-requires-clause-within c =
    parse_within c.args.source.now c.as_slice-list.result.now (subst (AreTokens c.args.source.now) (sym c.as_slice-list.ensures) c.in_ok-found.ensures.ok) c.in-Err.fault (subst (λ w. Fails (read w) c.in-Err.fault) c.new.ensures c.in-Err.ensures)

pub returns-clause-reads : goal.returns-clause-reads
returns-clause-reads c = λ tree s.
    c.text_fault.ensures ∙ parse_reads c.args.source.now c.as_slice-list.result.now (subst (AreTokens c.args.source.now) (sym c.as_slice-list.ensures) c.in_ok-found.ensures.ok) c.in-Err.fault (subst (λ w. Fails (read w) c.in-Err.fault) c.new.ensures c.in-Err.ensures) tree s

pub returns-clause-fault : goal.returns-clause-fault
returns-clause-fault c =
    subst (IsFaultOf c.args.source.now) (sym c.text_fault.ensures) (parse_fault c.args.source.now c.as_slice-list.result.now (subst (AreTokens c.args.source.now) (sym c.as_slice-list.ensures) c.in_ok-found.ensures.ok) c.in-Err.fault (subst (λ w. Fails (read w) c.in-Err.fault) c.new.ensures c.in-Err.ensures))

pub returns-clause-faults : goal.returns-clause-faults
returns-clause-faults c = λ why h.
    subst (λ f. (f ≡ why) ⊎ (f ≡ Memory)) (sym c.text_fault.ensures) (parse_faults c.args.source.now c.as_slice-list.result.now (subst (AreTokens c.args.source.now) (sym c.as_slice-list.ensures) c.in_ok-found.ensures.ok) c.in-Err.fault (subst (λ w. Fails (read w) c.in-Err.fault) c.new.ensures c.in-Err.ensures) why h)
