use Rattle.std.proofs.Common.{◌≡◌, ℕ, false, take, Some}
use Rattle.std.specs.Prelude.{slice_get}
use Rattle.std.specs.List.{Contains}
use Rattle.coalesce.specs.Classes.{keeps_apart}
use Rattle.coalesce.specs.declared.clashes.Clash.{Clash}
use Rattle.coalesce.proofs.classes.Classes.clashes.Given as goal

abbrev pub invariant-loop-place : goal.invariant-loop-place
invariant-loop-place l = (place : ℕ) (c : Clash) → Contains (take l.place-index l.place-items) place → slice_get l.clashes.list.items place ≡ Some c → keeps_apart l.func.code l.self.class.items l.class c ≡ false
