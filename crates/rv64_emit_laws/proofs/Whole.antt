-- What related states show of each other, and that the machine tracks the program.
use Rattle.std.proofs.Common.{◌≡◌, ◌+◌, ◌*◌, List, ◌∷◌, length, Some, None, refl, sym, ap, ◌∙◌, subst, arith}
use Rattle.std.specs.Prelude.{slice_get}
use Rattle.simulation.specs.Simulation.{Tracks}
use Rattle.simulation.proofs.Tracks.{Tracks-from_star}
use Rattle.bril_tree.specs.declared.home.Home.{Home}
use Rattle.bril_tree.specs.declared.home.Home.TheVariants.{Reg, Frame}
use Rattle.bril_tree.specs.declared.limits.End.{End}
use Rattle.bril_tree.specs.declared.value.Value.{Value}
use Rattle.bril_tree.specs.Live.{IsLive}
use Rattle.bril_tree.specs.Locals.{location_value}
use Rattle.bril_tree.specs.Run.{first_state}
use Rattle.bril_tree.specs.State as bril
use Rattle.bril_tree.specs.Step.{code_of, items_of}
use Rattle.bril_tree.specs.Value.{word_of}
use Rattle.rv64_image_laws.specs.Home.{IsAt}
use Rattle.rv64_image_laws.specs.Implements.{CountsFailures, ShowsLive, image_system, program_system}
use Rattle.rv64_image_laws.proofs.Systems.{image_is_system, mapped_is_system}
use Rattle.rv64_words_laws.specs.sequences.Moves.{IsHomeInside, home_word}
use Rattle.rv64_words_laws.specs.stretches.Core.{machine}
use Rattle.rv64_words_laws.proofs.lemmas.stretches.Steps.{stack_address}
use Rattle.rv64_words.specs.Region.{address_at, stack_base}
use Rattle.rv64_words.specs.State.{State, start}
use Rattle.rv64_emit_laws.specs.Homes.{homes_of}
use Rattle.rv64_emit_laws.proofs.Arriving.{distance}
use Rattle.rv64_emit_laws.proofs.Frames.{live_in}
use Rattle.rv64_emit_laws.proofs.Holding.{home_inside}
use Rattle.rv64_emit_laws.proofs.Items.{simulation}
use Rattle.placement_laws.specs.Homes.{slot_of}
use Rattle.placement_laws.specs.Needed.{Live}
use Rattle.rv64_emit_laws.proofs.Relation.{HasWord, Related, RunsAlike, run, over}
use Rattle.rv64_emit_laws.proofs.Setting.{Setting, entry_of, sizes}
use Rattle.rv64_emit_laws.proofs.Starting.{start_cheap, start_related, start_steps}

-- where a home has the word of a value, the machine shows it there
module _ (S : Setting) (s : bril.State) (t : State) (r : RunsAlike S s t) (value : Value) where
  shown : (home : Home) → IsHomeInside (sizes S) r.holds.base home → HasWord (length s.blocks) value (home_word r.core r.holds.base home) →
      IsAt (sizes S) (machine (entry_of S r.frame.function r.frame.point) r.core r.done) home (word_of value)
  shown (Reg q) inside word = word.is
  shown (Frame o) inside word =
      let base = r.holds.base in
      let sum : stack_base + 8 * base + 8 * o ≡ stack_base + 8 * (base + o) = omega arith in
      let address = ap (λ x. address_at (sizes S) (x + 8 * o)) r.holds.at ∙ (ap (address_at (sizes S)) sum ∙ stack_address (sizes S) (base + o) (inside o refl)) in
      (base + o, address, word.is)

module _ (S : Setting) where
  -- live locations are at their homes
  pub shows : (s : bril.State) (t : State) → Related S s t → ShowsLive (homes_of S.homes) S.image S.p S.limits s t
  shows s t (over r) frame older func location value frames running there live held = absurd (clash r.how (sym r.ended ∙ running))
    where
      clash : (how : End) → Some how ≡ None → ⊥
      clash how e = cc
  shows s t (run r) frame older func location value frames running there live held =
      subst (λ f. slice_get S.p.funcs f.function ≡ Some func → IsLive func.code location f.point → location_value f.locations location ≡ Some value → IsAt (sizes S) t (homes_of S.homes f.function location) (word_of value))
      (same_head r.frame frame r.older older (sym r.frames ∙ frames)) at_home there live held
    where
      same_head : (f g : bril.Frame) (fs gs : List bril.Frame) → f ∷ fs ≡ g ∷ gs → f ≡ g
      same_head f g fs gs e = cc

      at_home : slice_get S.p.funcs r.frame.function ≡ Some func → IsLive func.code location r.frame.point → location_value r.frame.locations location ≡ Some value → IsAt (sizes S) t (homes_of S.homes r.frame.function location) (word_of value)
      at_home there live held =
          let h = r.holds in
          let own : IsLive (code_of S.p r.frame.function) location r.frame.point = subst (λ c. IsLive c location r.frame.point) (sym (ap items_of there)) live in
          let in_g = live_in S r.frame h.function h.there location r.frame.point own in
          subst (λ x. IsAt (sizes S) x (homes_of S.homes r.frame.function location) (word_of value)) (sym r.state)
          (shown S s t r value (homes_of S.homes r.frame.function location) (home_inside S (length s.blocks) r.frame r.older r.core h (slot_of location) in_g) (h.holds.homes_hold.at location value (Live own) held))

  pub counts : (s : bril.State) (t : State) → Related S s t → CountsFailures S.image.guards s t
  counts s t (run r) = λ g guard there. ap (λ x. x.arrivals guard.word) r.state ∙ r.guards g guard there
  counts s t (over r) = r.guards

  pub tracks : Tracks (program_system S.p S.limits) (image_system S.image S.limits) S.cost (Related S) (first_state S.p S.limits S.args) (start S.args)
  tracks = Tracks-from_star (program_system S.p S.limits) (image_system S.image S.limits) (Related S) (mapped_is_system S.p S.limits) (image_is_system S.image S.limits) S.cost (distance S) (simulation S)
      (first_state S.p S.limits S.args) (start S.args) (start_steps S) (start_cheap S) (start_related S)
