-- A program can't fail to have a greatest of a number that no function can fail to have.
use Rattle.std.proofs.Common.{◌≡◌, ℕ, ◌≤◌, List, [], ◌∷◌, Option, Some, None, refl, sym, ap, subst, ◌∙◌, inl, inr, ⊎_elim, arith}
use Rattle.std.specs.Prelude.{slice_get}
use Rattle.std.specs.Option.{option_map}
use Rattle.std.proofs.lemmas.Bool.{cases_lt}
use Rattle.bril_tree.specs.declared.numbered_function.Func.{Func}
use Rattle.bril_tree.specs.declared.program.Prog.{Prog}
use Rattle.bril_tree.specs.Accepted.{IsAccepted, IsAcceptedFunction}
use Rattle.bril_tree.specs.FrameWords.{IsDepth}
use Rattle.bril_tree.specs.Membership.{In}
use Rattle.bril_tree.specs.ProgramForm.{main_name}
use Rattle.bril_tree.proofs.Measures.{IsDepth-one}
use Rattle.bril_tree.proofs.Members.{contains_in, in_contains}
use Rattle.pass_edit_laws.proofs.lemmas.numbers.Existing.{not_bottomless}
use Rattle.pass_edit_laws.proofs.lemmas.plan.Elements.{all_in}
use Rattle.program_numbers.specs.ProgramNumbers.{IsGreatest, IsGreatestDepth}

module _ (R : Func → ℕ → Type 0) (one : (f : Func) (m n : ℕ) → R f m → R f n → m ≡ n) where
  -- the greatest number of some functions
  record GreatestOf (funcs : List Func) : Type 0 where
    func : Func
    among : In func funcs
    number : ℕ
    has : R func number
    most : (other : Func) (n : ℕ) → In other funcs → R other n → n ≤ number

  first-greatest : (f : Func) (funcs : List Func) (n : ℕ) → R f n → ((other : Func) (m : ℕ) → In other funcs → R other m → m ≤ n) → GreatestOf (f ∷ funcs)
  first-greatest f funcs n r rest = record {
    func = f;
    among = inl refl;
    number = n;
    has = r;
    most = λ other m i h. ⊎_elim (λ e. let s = one f m n (subst (λ g. R g m) e h) r in omega (arith, s)) (λ j. rest other m j h) i;
  }

  later-greatest : (f : Func) (funcs : List Func) (n : ℕ) → R f n → (w : GreatestOf funcs) → n ≤ w.number → GreatestOf (f ∷ funcs)
  later-greatest f funcs n r w over = record {
    func = w.func;
    among = inr w.among;
    number = w.number;
    has = w.has;
    most = λ other m i h. ⊎_elim (λ e. let s = one f m n (subst (λ g. R g m) e h) r in omega (arith, s, over)) (λ j. w.most other m j h) i;
  }

  not_greatestless : (f : Func) (funcs : List Func) → ((g : Func) → In g (f ∷ funcs) → ((n : ℕ) → R g n → ⊥) → ⊥) → (GreatestOf (f ∷ funcs) → ⊥) → ⊥
  not_greatestless f [] each none = each f (inl refl) (λ n r. none (first-greatest f [] n r (λ other m i h. absurd i)))
  not_greatestless f (g ∷ funcs) each none = each f (inl refl) (λ n r. not_greatestless g funcs (λ h i. each h (inr i)) (λ w.
      none (⊎_elim
      (λ less. first-greatest f (g ∷ funcs) n r (λ other m i h. let l = w.most other m i h in omega (arith, l, less)))
      (λ over. later-greatest f (g ∷ funcs) n r w over)
      (cases_lt w.number n))))

  pub not_without : (p : Prog) → ((f : Func) → In f p.funcs → ((n : ℕ) → R f n → ⊥) → ⊥) → ((n : ℕ) → IsGreatest R p n → ⊥) → ⊥
  not_without p each none = by p.funcs refl
    where
      by : (funcs : List Func) → p.funcs ≡ funcs → ⊥
      by [] e = let h : ◌≡◌ {A = Option (List ℕ)} None (Some main_name) = ap (λ fs. option_map (λ (f : Func). f.name) (slice_get fs p.main)) (sym e) ∙ p.formed.main_is in cc
      by (f ∷ funcs) e = not_greatestless f funcs (λ g i. each g (subst (In g) (sym e) i)) (λ w.
          none w.number (record {
            func = w.func;
            is = contains_in w.func p.funcs (subst (In w.func) (sym e) w.among);
            has = w.has;
            most = λ other n c h. w.most other n (subst (In other) e (in_contains other p.funcs c)) h;
          }))

-- an accepted program can't fail to have a greatest number of open sites
pub not_depthless : (p : Prog) → IsAccepted p → ((n : ℕ) → IsGreatestDepth p n → ⊥) → ⊥
not_depthless p accepted = not_without (λ f n. IsDepth f.code n) (λ f. IsDepth-one f.code) p (λ f i. not_bottomless f.code (all_in (IsAcceptedFunction p) p.funcs accepted.functions f i).sites)
