-- The program of a tree in SSA form is accepted.
use Rattle.std.proofs.Common.{◌≡◌, ℕ, suc, ◌+◌, ◌*◌, ◌<◌, length, Option, Some, sym, ap, subst, ◌∙◌}
use Rattle.std.specs.Prelude.{slice_get}
use Rattle.bril_tree.specs.declared.numbered.Instr.{Instr}
use Rattle.bril_tree.specs.declared.numbered_function.Func.{Func}
use Rattle.bril_tree.specs.declared.program.Prog.{Prog}
use Rattle.bril_tree.specs.declared.tree.Tree.{Tree}
use Rattle.bril_tree.specs.declared.types.Ty.{Ty}
use Rattle.bril_tree.specs.Accepted.{IsAccepted}
use Rattle.bril_tree.specs.Numbered.{Numbered, named, names_in}
use Rattle.bril_tree.specs.Operand.{Location}
use Rattle.bril_tree.specs.Sites.{AreSitesSound}
use Rattle.bril_tree.specs.Step.{code_of, item_at, items_of}
use Rattle.bril_tree.specs.Walk.{IsReached}
use Rattle.bril_tree.proofs.Acceptance.{walks_of}
use Rattle.bril_tree.proofs.Elements.{get_in}
use Rattle.ssa_laws.proofs.lemmas.live_entries.Existing.{widths-there}
use Rattle.program_numbers.specs.ProgramNumbers.{IsGreatestWidth, most_locations}
use Rattle.ssa_laws.specs.layout.Accepted.{Cover, Covered, Dead, Get, Home, IsGiven, Set, Unreached}
use Rattle.ssa_laws.specs.layout.Laid.{Laid, Setting}
use Rattle.ssa_laws.proofs.lemmas.layout.Accepted.{laid-accepted}
use Rattle.ssa_laws.proofs.lemmas.layout.Given.{given-argument, given-behind, given-told}
use Rattle.ssa_laws.specs.reaching_definitions.Tables.{else_passed, passed}
use Rattle.ssa_build.specs.tree.Made.{IsLaidTree}
use Rattle.ssa_form_laws.specs.laid.Laws.{LaidTreesAreAccepted}
use Rattle.ssa_form_laws.specs.laid.Tables.{FunctionTables, gets, names, sets, tables, tables_at}
use Rattle.ssa_form_laws.proofs.lemmas.laid.Covering.{covered-at, type-of}
use Rattle.ssa_form_laws.proofs.lemmas.laid.Functions.{tables-there}
use Rattle.ssa_form_laws.proofs.lemmas.laid.Laid.{laid-all, laid-heads, laid-parts}
use Rattle.ssa_form_laws.proofs.lemmas.laid.Parts.{CoverAt, DeadAt, FallenAt, GetAt, HomeAt, IsCoveredAt, IsTightAt, LeftAt, PutAt, SetAt, StartedAt, UnreachedAt}
use Rattle.ssa_form_laws.proofs.lemmas.laid.Tables.{tight-at}

module _ (P Q : Prog) (tree : Tree) (accepted : IsAccepted P) (t : IsLaidTree P tree) (numbered : Numbered tree Q) (width : ℕ) (is : IsGreatestWidth P width) (f : ℕ) (F R : Func) (p : slice_get P.funcs f ≡ Some F) (q : slice_get Q.funcs f ≡ Some R) where
  abbrev c : ℕ
  c = 2 * most_locations P * (width + 1)

  abbrev t' : Laid P Q (tables P tree t) (names P tree t) (gets P tree t) (sets P tree t) c
  t' = laid-all P Q tree accepted t numbered width is

  abbrev U : FunctionTables
  U = tables_at P tree t f

  sound : AreSitesSound (code_of P f)
  sound = (walks_of P accepted f F p).sites

  tight : IsTightAt P Q f (slice_get P.funcs f) U
  tight =
      let h = tables-there P tree t f F p in
      subst (λ o. IsTightAt P Q f o U) (sym p) (subst (λ (T : FunctionTables). IsTightAt P Q f (Some F) T) (sym h.3) (tight-at P Q tree accepted numbered f F p h.0 h.2 h.1))

  abbrev types : ℕ → Option Ty
  types = let h = tables-there P tree t f F p in type-of P Q tree accepted numbered f F p h.0 h.2 h.1

  parts : IsCoveredAt P Q f F R U types
  parts =
      let h = tables-there P tree t f F p in
      subst (λ (T : FunctionTables). IsCoveredAt P Q f F R T types) (sym h.3) (covered-at P Q tree accepted numbered f F p h.0 h.2 h.1 (laid-heads P Q tree accepted t numbered) R q)

  -- ---- what is given

  abbrev Given : ℕ → Type 0
  Given y = IsGiven P Q (tables P tree t) (names P tree t) (gets P tree t) (sets P tree t) f R y

  got-given : (k y : ℕ) (a : Location) → (tables P tree t f).gets k a ≡ Some y → Given y
  got-given k y a e =
      given-behind P Q (tables P tree t) (names P tree t) (gets P tree t) (sets P tree t) c t' f F R p q sound k (tight.reached k y a e) a y
      (ap (λ o. else_passed o (passed (tables P tree t f) (slice_get (code_of P f) k) k a)) e)

  set-given : (i : ℕ) (s : Setting) → SetAt P Q f (slice_get P.funcs f) U i s → Given s.get × Given s.from
  set-given i s (StartedAt a e got begins) = (got-given 0 s.get a got, given-argument P Q (tables P tree t) (names P tree t) (gets P tree t) (sets P tree t) c t' f F R p q sound s.from (a, begins))
  set-given i s (FallenAt a j e r got told) = (got-given (suc j) s.get a got, given-behind P Q (tables P tree t) (names P tree t) (gets P tree t) (sets P tree t) c t' f F R p q sound j r a s.from told)
  set-given i s (LeftAt a k r leaves got told) = (got-given k s.get a got, given-told P Q (tables P tree t) (names P tree t) (gets P tree t) (sets P tree t) c t' f F R p q sound i r a s.from told)

  -- ---- covers

  cover : (j : ℕ) → CoverAt P Q f (slice_get P.funcs f) U j → Cover P Q (tables P tree t) (names P tree t) (gets P tree t) (sets P tree t) f j
  cover j (HomeAt i r e) = Home i r e
  cover j (GetAt i k y r at e) = Get i k y r at e
  cover j (PutAt i k s r at e) = Set i k s r at e
  cover j (DeadAt e) = Dead e
  cover j (UnreachedAt name e) = Unreached name e

  reached-in : (i : ℕ) → IsReached (code_of P f) i → IsReached F.code i
  reached-in i r = subst (λ o. IsReached (items_of o) i) p r

  at-in : (i : ℕ) (a : Instr) → item_at P f i ≡ Some a → slice_get F.code i ≡ Some a
  at-in i a e = ap (λ o. slice_get (items_of o) i) (sym p) ∙ e

  pub laid-covered : Covered P Q (tables P tree t) (names P tree t) (gets P tree t) (sets P tree t) f F R
  laid-covered = record {
    types = types;
    covers = record {
      covers = λ j b at. cover j (subst (λ o. CoverAt P Q f o U j) (sym p) (parts.covers j b (ap (λ o. slice_get (items_of o) j) (sym q) ∙ at)));
      argued = λ v y low has. parts.argued v y low (subst (λ o. (v < length (names_in o)) × (named (names_in o) v ≡ names P tree t f y)) q has);
      arg_typed = λ i v y a r at copy i-named e. parts.arg_typed i v y a (reached-in i r) (at-in i a at) copy i-named e;
      dest_typed = λ i v a r at copy d. parts.dest_typed i v a (reached-in i r) (at-in i a at) copy d;
      got_typed = λ i k y ty r at e. parts.got_typed i k y ty (reached-in i r) at e;
      set_typed = λ i k s r at. parts.set_typed i k s (reached-in i r) at;
      set_given = λ i k s r at. set-given i s ((laid-parts P Q tree accepted t numbered f).sets_are i s r (get_in (sets P tree t f i) k s at));
    };
    tight = record {
      reached = tight.reached;
      goes = tight.goes;
      alone = tight.alone;
    };
  }

pub trees-accepted : LaidTreesAreAccepted
trees-accepted P Q tree accepted t numbered =
    let w = widths-there P accepted in
    laid-accepted P Q (tables P tree t) (names P tree t) (gets P tree t) (sets P tree t) (2 * most_locations P * (w.0 + 1)) accepted (laid-all P Q tree accepted t numbered w.0 w.1)
    (λ f F G p q. laid-covered P Q tree accepted t numbered w.0 w.1 f F G p q)
