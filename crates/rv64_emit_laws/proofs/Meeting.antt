-- One count tells what the image does, and where the machine is at items.
use Rattle.std.proofs.Common.{◌≡◌, ℕ, zero, suc, ◌+◌, ◌*◌, ◌<◌, ◌≤◌, arith}
use Rattle.rv64_image_laws.specs.Implements.{ImplementsRun}
use Rattle.rv64_emit_laws.specs.Entered.{IsEntered, IsFullItem, MeetsItems}
use Rattle.rv64_emit_laws.specs.Homes.{homes_of}
use Rattle.rv64_emit_laws.proofs.Entries.{HasWords}
use Rattle.rv64_emit_laws.proofs.Items.{related_agree}
use Rattle.rv64_emit_laws.proofs.Setting.{Setting}
use Rattle.rv64_emit_laws.proofs.Starting.{main_room, start_cheap}
use Rattle.rv64_emit_laws.proofs.Whole.{counts, shows, tracks}
use Rattle.rv64_image_laws.specs.Stands.{StandsAt}
use Rattle.rv64_emit_laws.proofs.Counting.{Alone, Rests, Together, Way, count, first_count, machine_after, program_after, related_at, way}
use Rattle.rv64_emit_laws.proofs.AtItems.{found}
use Rattle.rv64_emit_laws.proofs.Rising.{at_entry, count_rises, later}

module _ (S : Setting) where
  bounded : (n : ℕ) → count S n ≤ S.cost * (n + 1)
  bounded zero = let first = first_count S in let cheap = start_cheap S in omega arith
  bounded (suc n) = by (bounded n) (way S n)
    where
      by : count S n ≤ S.cost * (n + 1) → Way S n (count S n) (count S (suc n)) → count S (suc n) ≤ S.cost * (suc n + 1)
      by h (Rests final same) = omega arith
      by h (Alone nearer same) = omega arith
      by h (Together i cheap same none full) = omega arith

  -- the image does what the program does, by this count
  pub implements_run : ImplementsRun (homes_of S.homes) S.image S.p S.limits S.args
  implements_run = record {
    room = main_room S;
    count = count S;
    cost = S.cost;
    is_cost = S.is_cost;
    bounded = bounded;
    rising = count_rises S;
    agrees = λ n. related_agree S (program_after S n) (machine_after S (count S n)) (related_at S n);
    shows = λ n. shows S (program_after S n) (machine_after S (count S n)) (related_at S n);
    fails = λ n. counts S (program_after S n) (machine_after S (count S n)) (related_at S n);
    ends_only = (tracks S).ends_only;
    prints_only = (tracks S).prints_only;
  }

  full : (f point : ℕ) (is : IsFullItem S.homes S.slots f point) → HasWords S f point is.function is.item
  full f point is = record { there = is.is_function; here = is.is_item; some = is.has_words }

  entered : (n f point : ℕ) → StandsAt (program_after S n) f point → IsFullItem S.homes S.slots f point → IsEntered S.homes S.slots (machine_after S (count S n)) f point
  entered n f point stands is =
      let at = at_entry S (program_after S n) (machine_after S (count S n)) f point (related_at S n) stands in
      record { function = is.function; item = is.item; is_function = is.is_function; is_item = is.is_item; has_words = is.has_words; running = at.0; at_entry = at.1 }

  rises : (n m f i g j : ℕ) → n < m → StandsAt (program_after S n) f i → IsFullItem S.homes S.slots f i → StandsAt (program_after S m) g j → IsFullItem S.homes S.slots g j → count S n < count S m
  rises n m f i g j less stands is others other =
      later S n m f i g j less (record { stands = stands; function = is.function; item = is.item; has = full f i is }) (record { stands = others; function = other.function; item = other.item; has = full g j other })

  only : (m f point : ℕ) → IsEntered S.homes S.slots (machine_after S m) f point → (n : ℕ) × (count S n ≡ m) × StandsAt (program_after S n) f point
  only m f point is =
      let own : IsFullItem S.homes S.slots f point = record { function = is.function; item = is.item; is_function = is.is_function; is_item = is.is_item; has_words = is.has_words } in
      let r = found S m f point is.function is.item (full f point own) is.running is.at_entry in
      (r.steps, r.there, r.stands)

  pub meets : MeetsItems (homes_of S.homes) S.homes S.slots S.image S.p S.limits S.args
  unfolding implements_run
  meets = record { run = implements_run; there = entered; rising = rises; only = only }
