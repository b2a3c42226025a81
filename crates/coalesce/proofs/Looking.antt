-- What a look at a copy does.
use Rattle.std.proofs.Common.{◌≡◌, ℕ, suc, ◌+◌, ◌<◌, ◌≤◌, Bool, true, false, List, length, get_or, set, take, Some, sym, ap, subst, ◌∙◌, ⊎_elim, arith}
use Rattle.std.specs.Prelude.{slice_get}
use Rattle.std.specs.List.{Contains}
use Rattle.std.proofs.lemmas.Bool.{cases_eq}
use Rattle.std.proofs.lemmas.List.{take_all}
use Rattle.std.proofs.lemmas.List.Elements.{Contains-push_cases}
use Rattle.std.proofs.Math.Seq.{take-suc}
use Rattle.std.proofs.lemmas.Option.{slice_get-get_or, same_Some}
use Rattle.bril_tree.specs.declared.numbered.Instr.{Instr}
use Rattle.bril_tree.specs.declared.numbered_function.Func.{Func}
use Rattle.graph_search.specs.Marks.{is_marked}
use Rattle.variable_renaming.specs.Classes.{class_of}
use Rattle.coalesce.specs.meaning.Linked.{AreLinked}
use Rattle.coalesce.specs.Classes.{AreRelated, Fits, Grows, IsNextState, IsRoundState, MayLookAt, NoneKeepsApart, SomeKeepsApart, keeps_apart, shadows_joined}
use Rattle.coalesce.specs.declared.clashes.Clash.{Clash}
use Rattle.coalesce.proofs.lemmas.meaning.Linking.{linked-onwards, linked-turned}
use Rattle.coalesce.proofs.Joining.{class-here, class-other, put-state}

module _ (F : Func) (related : List Bool) (list : List Clash) (class : List ℕ) (alone shadow : List Bool) (joined : Bool) (x y : ℕ) (may : MayLookAt F related list class alone shadow joined x y)
    (there : is_marked alone x ≡ true) (behind : F.args ≤ x) (k : ℕ) (is : k ≡ class_of class y) (fits : Fits F list class shadow x k) where
  abbrev s : IsRoundState F related class alone shadow joined
  s = may.state

  abbrev both : AreRelated F related x y
  both = may.both

  names : class_of class k ≡ k
  names = ap (class_of class) is ∙ s.are.named y ∙ sym is

  joined-state : IsRoundState F related (set class x k) (set (set alone x false) k false) (shadows_joined shadow x k) true
  joined-state =
      put-state F related list may.clashes class alone shadow joined s x k there behind names (subst (λ n. n < length F.vars) (sym is) (s.are.inside y both.second_below)) (λ e. both.differ (sym (s.single x y there (sym is ∙ sym e)))) both.first_marked
      (⊎_elim (λ e. subst (λ n. is_marked related n ≡ true) (sym e) both.second_marked) (λ n. s.relates k y n (names ∙ is)) (cases_eq k y)) (subst (AreLinked F x) (sym is) (linked-onwards F x y (class_of class y) may.linked (s.linked y))) fits

  -- what is of one class stays so, and x is of the class of y
  put-grows : (class' : List ℕ) → class' ≡ set class x k → Grows class class'
  put-grows class' a p q e = subst (λ l. class_of l p ≡ class_of l q) (sym a) (⊎_elim (λ c. ⊎_elim (λ d. ap (class_of (set class x k)) (c ∙ sym d)) (λ n. absurd (n (s.single x q there (sym e ∙ ap (class_of class) c ∙ s.own x there)))) (cases_eq q x))
      (λ n. ⊎_elim (λ d. absurd (n (s.single x p there (e ∙ ap (class_of class) d ∙ s.own x there)))) (λ m. class-other class x k p n ∙ e ∙ sym (class-other class x k q m)) (cases_eq q x)) (cases_eq p x))

  pub put-within : (class' : List ℕ) → class' ≡ set class x k → class_of class' x ≡ class_of class' y
  put-within class' a = let inside = both.first_below in subst (λ l. class_of l x ≡ class_of l y) (sym a) (class-here class x k (omega (arith, s.are.long)) ∙ is ∙ sym (class-other class x k y (λ e. both.differ (sym e))))

  pub put-next : (class' : List ℕ) (alone' shadow' : List Bool) (joined' : Bool) → class' ≡ set class x k → alone' ≡ set (set alone x false) k false → shadow' ≡ shadows_joined shadow x k → joined' ≡ true → IsNextState F related class class' alone' shadow' joined joined'
  put-next class' alone' shadow' joined' a b c d = record {
    state = subst (λ z. IsRoundState F related z alone' shadow' joined') (sym a)
        (subst (λ z. IsRoundState F related (set class x k) z shadow' joined') (sym b)
        (subst (λ z. IsRoundState F related (set class x k) (set (set alone x false) k false) z joined') (sym c)
        (subst (IsRoundState F related (set class x k) (set (set alone x false) k false) (shadows_joined shadow x k)) (sym d) joined-state)));
    grows = put-grows class' a;
    kept = λ e. absurd (let h : true ≡ false = sym d ∙ e in cc);
  }

-- the variables the other way round
pub turned-look : (F : Func) (related : List Bool) (list : List Clash) (class : List ℕ) (alone shadow : List Bool) (joined : Bool) (x y : ℕ) → MayLookAt F related list class alone shadow joined x y → MayLookAt F related list class alone shadow joined y x
turned-look F related list class alone shadow joined x y may = record {
  clashes = may.clashes;
  state = may.state;
  both = let r = may.both in record { differ = λ e. r.differ (sym e); first_below = r.second_below; second_below = r.first_below; first_marked = r.second_marked; second_marked = r.first_marked };
  linked = linked-turned F x y may.linked;
}

-- ---- the loop over clashes

-- what stands at a place
pub at-place : (list : List Clash) (place : ℕ) (c : Clash) → place < length list → c ≡ get_or list place c → slice_get list place ≡ Some c
at-place list place c low e = slice_get-get_or list place c low ∙ ap Some (sym e)

pub some-clash : (code : List Instr) (list : List Clash) (class : List ℕ) (x k place : ℕ) (c : Clash) → place < length list → c ≡ get_or list place c → c.one ≡ x → keeps_apart code class k c ≡ true → SomeKeepsApart code list class x k
some-clash code list class x k place c low e one keeps = (c, (place, low, sym e), one, keeps)

pub take-next : (xs : List ℕ) (n : ℕ) (d place : ℕ) → n < length xs → Contains (take (n + 1) xs) place → (place ≡ get_or xs n d → ⊥) → Contains (take n xs) place
take-next xs n d place low c other = ⊎_elim (λ h. h) (λ e. absurd (other (sym e))) (Contains-push_cases (take n xs) (get_or xs n d) place (subst (λ l. Contains l place) (take-suc xs n d low) (subst (λ m. Contains (take m xs) place) (let h : n + 1 ≡ suc n = omega arith in h) c)))

pub clash-more : (code : List Instr) (list : List Clash) (class : List ℕ) (k : ℕ) (places : List ℕ) (n : ℕ) (d : ℕ) (c : Clash) → n < length places → get_or places n d < length list → c ≡ get_or list (get_or places n d) c → keeps_apart code class k c ≡ false
    → ((place : ℕ) (e : Clash) → Contains (take n places) place → slice_get list place ≡ Some e → keeps_apart code class k e ≡ false)
    → (place : ℕ) (e : Clash) → Contains (take (n + 1) places) place → slice_get list place ≡ Some e → keeps_apart code class k e ≡ false
clash-more code list class k places n d c low inside is keeps before place e i at =
    ⊎_elim
    (λ h. let same : c ≡ e = same_Some c e (sym (at-place list (get_or places n d) c inside is) ∙ ap (slice_get list) (sym h) ∙ at) in ap (keeps_apart code class k) (sym same) ∙ keeps)
    (λ h. before place e (take-next places n d place low i h) at)
    (cases_eq place (get_or places n d))

pub none-clash : (code : List Instr) (list : List Clash) (class : List ℕ) (x k : ℕ) (places : List ℕ) (n : ℕ) → length places ≤ n
    → ((place : ℕ) (c : Clash) → slice_get list place ≡ Some c → c.one ≡ x → Contains places place)
    → ((place : ℕ) (c : Clash) → Contains (take n places) place → slice_get list place ≡ Some c → keeps_apart code class k c ≡ false) → NoneKeepsApart code list class x k
none-clash code list class x k places n all there done c i one =
    let at : slice_get list i.0 ≡ Some c = slice_get-get_or list i.0 c i.1 ∙ ap Some i.2 in
    done i.0 c (subst (λ l. Contains l i.0) (sym (take_all n places all)) (there i.0 c at one)) at
