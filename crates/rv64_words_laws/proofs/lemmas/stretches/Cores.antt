-- What is read of a core after a change.
use Rattle.std.proofs.Common.{◌≡◌, ◌≢◌, ℕ, zero, suc, IsTrue, true, false, true≢false, refl, sym, ap, ◌∙◌}
use Rattle.bril_tree.specs.Home.{is_home_register}
use Rattle.rv64_words.proofs.Assigned.{assigned_twice, assigned_same, assigned_here, assigned_other}
use Rattle.rv64_words_laws.specs.stretches.Core.{Core, written}

pub written_twice : (e : Core) (r a b : ℕ) → written (written e r a) r b ≡ written e r b
written_twice e zero a b = refl
written_twice e (suc r) a b = ap (λ f. record e { registers = f }) (assigned_twice e.registers (suc r) a b)

pub written_same : (e : Core) (r : ℕ) → written e r (e.registers r) ≡ e
written_same e zero = refl
written_same e (suc r) = ap (λ f. record e { registers = f }) (assigned_same e.registers (suc r))

pub written_here : (e : Core) (r v : ℕ) → r ≢ 0 → (written e r v).registers r ≡ v
written_here e zero v ne = absurd (ne refl)
written_here e (suc r) v ne = assigned_here e.registers (suc r) v

pub written_other : (e : Core) (r v s : ℕ) → s ≢ r → (written e r v).registers s ≡ e.registers s
written_other e zero v s ne = refl
written_other e (suc r) v s ne = assigned_other e.registers (suc r) v s ne

-- a register in which a location may be isn't one of the others
pub apart_from : (r s : ℕ) → is_home_register r ≡ false → IsTrue (is_home_register s) → s ≢ r
apart_from r s none some same = absurd (true≢false (sym some ∙ (ap is_home_register same ∙ none)))
