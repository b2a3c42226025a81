use Rattle.std.proofs.Common.{◌+◌, ◌*◌, ◌∙◌, arith}
use Rattle.pass_edit_laws.proofs.lemmas.numbers.Edges.{lands}
use Rattle.ssa_search.proofs.lemmas.live_entry_count.Words.{all-counted, labels-within, tells-more, tells-none}
use Rattle.ssa_search.proofs.live_entry_count.count.count_locations.Goals as goal

pub loop-base-init : goal.loop-base-init
loop-base-init c = record {
  heads = c.in_ok-lanes.ensures.heads ∙ c.nodes.ensures;
  above = λ head lane low small. c.in_ok-lanes.ensures.above (64 * head + lane) (let e = c.nodes.ensures in omega (arith, low, small, e));
  nodes = c.in_ok-words.ensures.nodes ∙ c.nodes-2.ensures;
  few = omega arith;
  counted = tells-none c.args.func.now.code;
}

pub count_words-requires : goal.count_words-requires
count_words-requires c =
    labels-within c.args.func.now.code c.args.entries.now c.requires.entries c.search_lanes.new.words.nodes (c.in_ok-search_lanes.ensures.nodes ∙ c.loop-base.invariant.nodes ∙ c.requires.blocks.nodes)

pub loop-base-preserved : goal.loop-base-preserved
loop-base-preserved c =
    let code = c.args.func.now.code in
    let inv = c.loop-base.invariant in
    let base = c.loop-base.base in
    let words = c.search_lanes.new.words.words in
    let are = c.in_ok-search_lanes.ensures.words code c.requires.few (λ p w among. lands c.args.func.now p w among) c.requires.blocks in
    let low = c.loop-base-test.true in
    let few = c.requires.locations in
    record {
      heads = c.in_ok-search_lanes.ensures.heads ∙ inv.heads;
      above = c.in_ok-search_lanes.ensures.above;
      nodes = c.in_ok-search_lanes.ensures.nodes ∙ inv.nodes;
      few = omega (arith, low, few);
      counted = tells-more code base c.loop-base.count c.count_words.result c.saturating_add-count.result _ inv.counted (all-counted code base words are c.args.entries.now c.requires.entries c.count_words.ensures.words) c.count_words.ensures.count c.saturating_add-count.ensures;
    }

pub returns : goal.returns
returns c = record { reach = c.loop-base.base; enough = let over = c.loop-base-test.false in omega (arith, over); counted = c.loop-base.invariant.counted }
