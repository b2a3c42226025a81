use Rattle.std.proofs.Common.{◌≢◌, sym, subst, ◌∙◌}
use Rattle.definite_assignment.proofs.Windows.{other-window, other-place}
use Rattle.variable_coloring.proofs.windows.Window.bits_past.Goals as goal

pub returns-then-window_of-self : goal.returns-then-window_of-self
returns-then-window_of-self c = λ k low.
    let place = c.place_of.ensures.place in
    let past = c.all_but.ensures k low in
    let other = other-place c.args.self.now.number c.args.location k low (sym c.window_of.ensures ∙ c.if-window_of-self.true) in
    ((λ h. other.0 (subst (λ p. k ≢ p) place (past.0 h))), (λ h. past.1 (subst (λ p. k ≢ p) (sym place) (other.1 h))))

pub returns : goal.returns
returns c = λ k low.
    let other = other-window c.args.self.now.number c.args.location k low (λ e. c.if-window_of-self.false (c.window_of.ensures ∙ e)) in
    ((λ h. other), (λ h. c.all_bits.ensures k low))
