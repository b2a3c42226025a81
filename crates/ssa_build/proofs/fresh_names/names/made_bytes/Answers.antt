use Rattle.std.proofs.Common.{◌≡◌, ℕ, ◌<◌, ◌^◌, ◌-◌, ◌∙◌, ◌++◌, ◌∷◌, [], take, ap, ap₂, sym, List, arith, append_assoc}
use Rattle.std.specs.Prelude.{replicate}
use Rattle.ssa_build.specs.fresh_names.Names.{marks, number_text, stem_of}
use Rattle.ssa_build.proofs.lemmas.fresh_names.Texts.{number-decimal}
use Rattle.ssa_build.proofs.fresh_names.names.made_bytes.Goals as goal

pub returns : goal.returns
returns c =
    let stem = stem_of c.args.name.now in
    let end : take c.stem_end.result c.args.name.now ≡ stem = ap (λ n. take n c.args.name.now) c.stem_end.ensures.end in
    let count : c.saturating_sub.result ≡ c.args.front - marks stem = c.saturating_sub.ensures ∙ ap (λ n. c.args.front - n) (c.marks.ensures.marks ∙ ap marks end) in
    let small : c.args.number < 2 ^ 64 = omega arith in
    let text : c.as_bytes.result.now ≡ number_text c.args.number = c.as_bytes.ensures.value ∙ c.format.ensures.text ∙ sym (number-decimal c.args.number small) in
    let marked : c.in_ok-bytes.bytes.items ≡ replicate (c.args.front - marks stem) 95 = c.in_ok-bytes.ensures.items_if_clones_equal (λ y e. e) ∙ ap (λ n. replicate n 95) count in
    let before : c.extend_from_slice.new.self.items ≡ replicate (c.args.front - marks stem) 95 ++ stem = c.in_ok-extend_from_slice.ensures.items ∙ ap₂ (λ (a b : List ℕ). a ++ b) marked end in
    c.in_ok-extend_from_slice-2.ensures.items ∙ ap₂ (λ (a b : List ℕ). a ++ b) (c.in_ok-push.ensures.items ∙ ap (λ (a : List ℕ). a ++ 46 ∷ []) before) text
    ∙ append_assoc (replicate (c.args.front - marks stem) 95 ++ stem) (46 ∷ []) (number_text c.args.number)
