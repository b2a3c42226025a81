use Rattle.std.proofs.Common.{◌≡◌, ◌+◌, ◌++◌, ◌∷◌, [], ℕ, List, map, pos, false, cond, arith, sym, ap, ◌∙◌, subst}
use Rattle.std.specs.Prelude.{OnOk}
use Rattle.rv64_emit.specs.Tables.{table_at}
use Rattle.rv64_emit_laws.specs.layout.Items.{branch_words, is_next, way_words}
use Rattle.rv64_words.specs.declared.word.Condition.TheVariants as tests
use Rattle.rv64_words.specs.declared.word.Word.{Word}
use Rattle.rv64_words.specs.declared.word.Word.TheVariants.{Jal}
use Rattle.rv64_words.specs.Encoding.{encoded}
use Rattle.rv64_words.specs.Mnemonics.{beq}
use Rattle.rv64_words_laws.specs.sequences.Sequences.{jump_offset}
use Rattle.rv64_emit.proofs.items.put_ways.Goals as goal

-- a branch over the first of two jumps, which begin at words a and b and lead to words x and y
three : (condition a b x y : ℕ) → List Word
three condition a b x y = beq condition 0 (pos 8) ∷ Jal 0 (jump_offset a x) ∷ Jal 0 (jump_offset b y) ∷ []

pub returns : goal.returns
unfolding three
returns c =
    let g = c.args.func.now in
    let entry = table_at c.args.entries.now in
    let point = c.args.point in
    let at = c.args.at in
    let r = c.args.condition in
    let to = c.args.then_to in
    let other = c.args.else_to in
    let first = way_words g entry point at tests.Ne tests.Eq r to in
    let second = way_words g entry point at tests.Eq tests.Ne r other in
    let all = three r (at + 1) (at + 2) (entry to) (entry other) in
    let else_later : is_next point other ≡ false = sym c.is_next.ensures ∙ c.if-is_next.false in
    let then_later : is_next point to ≡ false = sym c.is_next-2.ensures ∙ c.if-is_next-2.false in
    let chosen : branch_words g entry point at r to other ≡ all = ap (λ t. cond t first (cond (is_next point to) second all)) else_later ∙ ap (λ t. cond t second all) then_later in
    let behind : at + 1 + 1 ≡ at + 2 = omega arith in
    let words : c.ways.result ≡ all =
    c.ways.ensures
    ∙ (ap (λ n. three r (at + 1) n c.place-then_word.result c.place.result) behind
    ∙ (ap (λ n. three r (at + 1) (at + 2) n c.place.result) c.place-then_word.ensures.value
    ∙ ap (λ n. three r (at + 1) (at + 2) (entry to) n) c.place.ensures.value)) in
    subst (λ ws. OnOk c.put.result (c.put.new.code ≡ c.args.code.now ++ map encoded ws)) (words ∙ sym chosen) c.put.ensures
