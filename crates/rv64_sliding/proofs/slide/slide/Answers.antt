use Rattle.std.proofs.Common.{◌≡◌, ◌≢◌, suc, ◌+◌, ◌-◌, ◌*◌, ◌/◌, ◌^◌, ◌<◌, ◌≤◌, refl, sym, ◌∙◌, subst, arith}
use Rattle.rv64_words.specs.Region.{cells_base}
use Rattle.rv64_sliding.specs.Order.{IsMovable, cells_moved, table_moved}
use Rattle.rv64_processor.specs.RegionView.{words_in, size_in}
use Rattle.rv64_sliding.proofs.Sliding.{Slides, slides_first, freed_at, slides_more, slides_within, slides_last, movable}
use Rattle.rv64_sliding.proofs.slide.slide.Goals as goal

pub overflow_sub-to : goal.overflow_sub-to
overflow_sub-to c =
    let some = c.requires.tight.some in
    let low : c.args.low ≡ suc (c.args.low - 1) = omega arith in
    let freed = c.requires.freed in
    let at : cells_base ≤ words_in c.args.table.now (2 * c.args.low) = freed_at (words_in c.args.table.now) (words_in c.args.cells.now) c.args.blocks c.args.free c.requires.ordered c.args.low (c.args.low - 1) c.requires.tight low (omega arith) in
    omega (arith, at, c.read.ensures)

pub loop-slid-init : goal.loop-slid-init
loop-slid-init c =
    let some = c.requires.tight.some in
    let low : c.args.low ≡ suc (c.args.low - 1) = omega arith in
    let freed = c.requires.freed in
    record {
      slides = subst (λ x. Slides (words_in c.args.table.now) (words_in c.args.cells.now) c.args.blocks (c.args.low - 1) (words_in c.args.table.now) (words_in c.args.cells.now) ((x - 1073741824) / 16)) (sym c.read.ensures)
          (slides_first (words_in c.args.table.now) (words_in c.args.cells.now) c.args.blocks c.args.free c.requires.ordered c.args.low (c.args.low - 1) c.requires.tight low (omega arith));
      table_size = refl;
      cells_size = refl;
    }

pub slide_block-to-requires-clause-movable : goal.slide_block-to-requires-clause-movable
slide_block-to-requires-clause-movable c = λ some.
    let one : suc c.loop-slid.slid ≡ c.loop-slid.slid + 1 = omega arith in
    let size : size_in c.args.cells.now ≡ size_in c.loop-slid.cells = sym c.loop-slid.invariant.cells_size in
    subst (λ n. IsMovable (words_in c.loop-slid.table) n c.loop-slid.to (size_in c.loop-slid.cells)) one
    (movable (words_in c.args.table.now) (words_in c.args.cells.now) c.args.blocks c.args.free c.requires.ordered c.loop-slid.slid (words_in c.loop-slid.table) (words_in c.loop-slid.cells) c.loop-slid.to (size_in c.loop-slid.cells) c.loop-slid.invariant.slides
    c.loop-slid-test.true (omega (arith, c.requires.room, size)) (subst (λ n. words_in c.loop-slid.table (2 * n + 1) ≢ 0) (sym one) some))

pub slide_block-to-requires-clause-inside : goal.slide_block-to-requires-clause-inside
slide_block-to-requires-clause-inside c =
    let within = slides_within (words_in c.args.table.now) (words_in c.args.cells.now) c.args.blocks c.args.free c.requires.ordered c.loop-slid.slid (words_in c.loop-slid.table) (words_in c.loop-slid.cells) c.loop-slid.to c.loop-slid.invariant.slides in
    omega (arith, within, c.requires.room, c.loop-slid.invariant.cells_size)

pub loop-slid-preserved : goal.loop-slid-preserved
loop-slid-preserved c =
    let one : suc c.loop-slid.slid ≡ c.loop-slid.slid + 1 = omega arith in
    let more = slides_more (words_in c.args.table.now) (words_in c.args.cells.now) c.args.blocks c.args.free c.requires.ordered c.loop-slid.slid (words_in c.loop-slid.table) (words_in c.loop-slid.cells) c.loop-slid.to c.loop-slid.invariant.slides c.loop-slid-test.true in
    let moved : Slides (words_in c.args.table.now) (words_in c.args.cells.now) c.args.blocks (c.loop-slid.slid + 1) (table_moved (words_in c.loop-slid.table) (c.loop-slid.slid + 1) c.loop-slid.to) (cells_moved (words_in c.loop-slid.table) (words_in c.loop-slid.cells) (c.loop-slid.slid + 1) c.loop-slid.to)
    (c.loop-slid.to + words_in c.loop-slid.table (2 * (c.loop-slid.slid + 1) + 1)) =
    subst (λ n. Slides (words_in c.args.table.now) (words_in c.args.cells.now) c.args.blocks n (table_moved (words_in c.loop-slid.table) n c.loop-slid.to) (cells_moved (words_in c.loop-slid.table) (words_in c.loop-slid.cells) n c.loop-slid.to) (c.loop-slid.to + words_in c.loop-slid.table (2 * n + 1))) one more in
    record {
      slides =
          subst (λ f. Slides (words_in c.args.table.now) (words_in c.args.cells.now) c.args.blocks (c.loop-slid.slid + 1) f (words_in c.slide_block-to.new.cells) c.slide_block-to.result) (sym c.slide_block-to.ensures.table)
          (subst (λ f. Slides (words_in c.args.table.now) (words_in c.args.cells.now) c.args.blocks (c.loop-slid.slid + 1) (table_moved (words_in c.loop-slid.table) (c.loop-slid.slid + 1) c.loop-slid.to) f c.slide_block-to.result) (sym c.slide_block-to.ensures.cells)
          (subst (λ x. Slides (words_in c.args.table.now) (words_in c.args.cells.now) c.args.blocks (c.loop-slid.slid + 1) (table_moved (words_in c.loop-slid.table) (c.loop-slid.slid + 1) c.loop-slid.to) (cells_moved (words_in c.loop-slid.table) (words_in c.loop-slid.cells) (c.loop-slid.slid + 1) c.loop-slid.to) x) (sym c.slide_block-to.ensures.next) moved));
      table_size = c.slide_block-to.ensures.sizes.0 ∙ c.loop-slid.invariant.table_size;
      cells_size = c.slide_block-to.ensures.sizes.1 ∙ c.loop-slid.invariant.cells_size;
    }

pub overflow_mul-to : goal.overflow_mul-to
overflow_mul-to c =
    let within = slides_within (words_in c.args.table.now) (words_in c.args.cells.now) c.args.blocks c.args.free c.requires.ordered c.loop-slid.slid (words_in c.loop-slid.table) (words_in c.loop-slid.cells) c.loop-slid.to c.loop-slid.invariant.slides in
    let small : 2 * c.loop-slid.to < 2 ^ 64 = omega (arith, within, c.requires.room, c.requires.few_cells) in
    record { fits = small }

pub returns-clause-cells : goal.returns-clause-cells
returns-clause-cells c =
    let within = c.loop-slid.invariant.slides.within in
    let end : c.loop-slid.slid ≡ c.args.blocks = omega (arith, within, c.loop-slid-test.false) in
    let whole : Slides (words_in c.args.table.now) (words_in c.args.cells.now) c.args.blocks c.args.blocks (words_in c.loop-slid.table) (words_in c.loop-slid.cells) c.loop-slid.to =
    subst (λ n. Slides (words_in c.args.table.now) (words_in c.args.cells.now) c.args.blocks n (words_in c.loop-slid.table) (words_in c.loop-slid.cells) c.loop-slid.to) end c.loop-slid.invariant.slides in
    let last = slides_last (words_in c.args.table.now) (words_in c.args.cells.now) c.args.blocks c.args.free c.requires.ordered (words_in c.loop-slid.table) (words_in c.loop-slid.cells) c.loop-slid.to whole in
    c.clear_from.ensures.words ∙ last.1
