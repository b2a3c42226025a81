-- The entries that are laid are those that fit.
use Rattle.std.proofs.Common.{◌≡◌, ℕ, suc, ◌≤◌, List, [], ◌∷◌, length, sym, ap, subst, ◌∙◌, inl, inr, arith}
use Rattle.std.specs.Prelude.{slice_get}
use Rattle.bril_tree.specs.declared.program.Prog.{Prog}
use Rattle.bril_tree.specs.Numbered.{names_in}
use Rattle.bril_profile.specs.declared.profile.Entry.{Entry}
use Rattle.bril_profile.specs.declared.profile.Profile.{Profile}
use Rattle.trace_paths.specs.Fits.{Fit, IsFit, FitsAre, count_of}
use Rattle.trace_paths.specs.Taken.{taken}
use Rattle.trace_paths.proofs.Order.{length-taken}
use Rattle.pass_edit_laws.proofs.lemmas.labels.Listed.{named-in}
use Rattle.trace_laws.specs.lines.Names.{Bases, AreNames}
use Rattle.trace_laws.specs.lines.Traced.{Laying, AreLaid}
use Rattle.trace_laws.proofs.lemmas.lines.Layings.{IsLayable}
use Rattle.bril_tree.specs.Membership.{In}

-- each fitting entry is one of the profile
pub fits-few : (P : Prog) (seen : List Fit) (entries : List Entry) (fits : List Fit) → FitsAre P seen entries fits → length fits ≤ length entries
fits-few P seen [] fits h = let e = ap length h in omega arith
fits-few P seen (e ∷ entries) [] h = omega arith
fits-few P seen (e ∷ entries) (x ∷ fits) (inl h) = let r = fits-few P (x ∷ seen) entries fits h.2 in omega arith
fits-few P seen (e ∷ entries) (x ∷ fits) (inr h) = let r = fits-few P seen entries (x ∷ fits) h.1 in omega arith

-- as many are taken as the profile has
pub taken-few : (profile : Profile) → length (taken count_of profile.entries) ≤ 64
taken-few profile =
    let long = length-taken count_of profile.entries in
    let few = profile.few in
    omega (arith, long, few)

pub fit-of : (P : Prog) (seen : List Fit) (entries : List Entry) (fits : List Fit) (x : Fit) → FitsAre P seen entries fits → In x fits → (e : Entry) × IsFit P e x
fit-of P seen [] fits x h i = absurd (subst (In x) h i)
fit-of P seen (e ∷ entries) [] x h i = absurd i
fit-of P seen (e ∷ entries) (y ∷ fits) x (inl h) (inl s) = (e, subst (IsFit P e) (sym s) h.0)
fit-of P seen (e ∷ entries) (y ∷ fits) x (inl h) (inr i) = fit-of P (y ∷ seen) entries fits x h.2 i
fit-of P seen (e ∷ entries) (y ∷ fits) x (inr h) i = fit-of P seen entries (y ∷ fits) x h.1 i

pub laid-few : (bases : Bases) (P : Prog) (K : ℕ) (fits : List Fit) (laid : List Laying) → AreLaid bases P K fits laid → length laid ≤ length fits
laid-few bases P K [] laid h = let e = ap length h in omega arith
laid-few bases P K (x ∷ fits) [] h = absurd h
laid-few bases P K (x ∷ fits) (y ∷ laid) h = let r = laid-few bases P (suc K) fits laid h.2 in omega arith

pub record OfFit (bases : Bases) (P : Prog) (fits : List Fit) (y : Laying) : Type 0 where
  pub among : In y.fit fits
  pub number : ℕ
  pub names : AreNames bases P number y.fit y.names

pub laid-of : (bases : Bases) (P : Prog) (K : ℕ) (fits : List Fit) (laid : List Laying) (y : Laying) → AreLaid bases P K fits laid → In y laid → OfFit bases P fits y
laid-of bases P K [] laid y h i = absurd (subst (In y) h i)
laid-of bases P K (x ∷ fits) [] y h i = absurd h
laid-of bases P K (x ∷ fits) (z ∷ laid) y h (inl s) =
    let same : y.fit ≡ x = ap (λ (w : Laying). w.fit) s ∙ h.0 in
    record { among = inl same; number = K; names = subst (λ w. AreNames bases P K w y.names) (sym same) (subst (λ (w : Laying). AreNames bases P K x w.names) (sym s) h.1) }
laid-of bases P K (x ∷ fits) (z ∷ laid) y h (inr i) = let r = laid-of bases P (suc K) fits laid y h.2 i in record { among = inr r.among; number = r.number; names = r.names }

pub layable : (bases : Bases) (P : Prog) (entries : List Entry) (fits : List Fit) (laid : List Laying) → FitsAre P [] entries fits → AreLaid bases P 1 fits laid → (y : Laying) → In y laid → IsLayable P y
layable bases P entries fits laid hf hl y i =
    let o = laid-of bases P 1 fits laid y hl i in
    let e = fit-of P [] entries fits y.fit hf o.among in
    record {
      label = e.0.label;
      labelled = e.1.label;
      apart = λ n v less same. (o.names.nots n).new (subst (λ m. In m (names_in (slice_get P.funcs y.fit.function))) same (named-in (names_in (slice_get P.funcs y.fit.function)) v less));
      at_label = o.names.at_label;
    }
