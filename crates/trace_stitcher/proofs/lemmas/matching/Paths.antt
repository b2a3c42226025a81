-- The path that was found is that of the entry.
use Rattle.std.proofs.Common.{◌≡◌, ◌≢◌, ℕ, suc, Bool, true, false, List, [], ◌∷◌, length, map, refl, ap, ◌∙◌}
use Rattle.std.specs.Prelude.{◌==◌}
use Rattle.std.proofs.lemmas.Bool.{eqb-true, eqb-false}
use Rattle.std.proofs.lemmas.List.{nil_from_length}
use Rattle.bril_tree.specs.declared.numbered.Instr.{Instr}
use Rattle.trace_paths.specs.declared.walk.Leg as kept
use Rattle.trace_paths.specs.Path.{Leg, path_from, path_of}
use Rattle.trace_paths.specs.Walked.{leg_of}

module _ (code slice : List Instr) (choices : List Bool) (own point : ℕ) (same : slice ≡ code) (is : own ≡ point) where
  pub path-legs : (legs : List Leg) → legs ≡ (path_from slice own 1023 256 choices (suc own)).legs → legs ≡ (path_of code point choices).legs
  path-legs legs e = e ∙ ap (λ z. (path_of z own choices).legs) same ∙ ap (λ n. (path_of code n choices).legs) is

  pub path-stop : (stop : ℕ) → stop ≡ (path_from slice own 1023 256 choices (suc own)).stop → stop ≡ (path_of code point choices).stop
  path-stop stop e = e ∙ ap (λ z. (path_of z own choices).stop) same ∙ ap (λ n. (path_of code n choices).stop) is

pub no-legs : (legs : List kept.Leg) → (length legs == 0) ≡ true → map leg_of legs ≡ []
no-legs legs e = ap (map leg_of) (nil_from_length legs (eqb-true (length legs) 0 e))

pub some-legs : (legs : List kept.Leg) → (length legs == 0) ≡ false → map leg_of legs ≢ []
some-legs [] e h = eqb-false 0 0 e refl
some-legs (x ∷ legs) e h = cc
