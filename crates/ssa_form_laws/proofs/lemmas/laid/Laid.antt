-- The tables of all functions are those of laid code.
use Rattle.std.proofs.Common.{◌≡◌, ◌⊎◌, ℕ, suc, ◌+◌, ◌*◌, ◌≤◌, true, false, List, [], ◌∷◌, length, Some, None, refl, sym, ap, subst, ◌∙◌, inl, inr, arith}
use Rattle.std.specs.Prelude.{slice_get}
use Rattle.std.specs.List.{AllZip}
use Rattle.bril_names.specs.Faults.{SameHead}
use Rattle.bril_tree.specs.declared.function_tree.FuncTree.{FuncTree}
use Rattle.bril_tree.specs.declared.program.Prog.{Prog}
use Rattle.bril_tree.specs.declared.tree.Tree.{Tree}
use Rattle.bril_tree.specs.Accepted.{IsAccepted}
use Rattle.bril_tree.specs.Edge.{Branch, branches_at}
use Rattle.bril_tree.specs.Numbered.{Numbered, function_tree, names_of_functions, tree_at, tree_of}
use Rattle.bril_tree.specs.Operand.{Location}
use Rattle.bril_tree.specs.Walk.{IsReached, IsWalk, end_of}
use Rattle.bril_tree.proofs.Acceptance.{accepted_function, shaped_function}
use Rattle.bril_tree.proofs.Members.{in_contains}
use Rattle.pass_make.proofs.Each.{heads-each}
use Rattle.pass_edit_laws.specs.names.NamedPlan.{SameHeads}
use Rattle.pass_edit_laws.proofs.lemmas.names.Heads.{no_partner}
use Rattle.pass_edit_laws.proofs.lemmas.names.Trees.{heads-of_trees}
use Rattle.program_numbers.specs.ProgramNumbers.{IsGreatestWidth, most_locations}
use Rattle.ssa_laws.specs.layout.Laid.{Falls, IsSetBefore, Laid, Leaves, Setting, Starts}
use Rattle.ssa_laws.proofs.lemmas.layout.Refines.{laid-refine}
use Rattle.ssa_laws.specs.reaching_definitions.Tables.{AreConsistent, Defines, Gets, Writes}
use Rattle.ssa_build.specs.tree.Made.{IsLaidFunction, IsLaidTree}
use Rattle.ssa_form_laws.specs.laid.Laws.{LaidTreesAreLaid, LaidTreesRefine}
use Rattle.ssa_form_laws.specs.laid.Tables.{FunctionTables, gets, names, no_tables, sets, tables, tables_at}
use Rattle.ssa_form_laws.proofs.lemmas.laid.Counting.{few-in}
use Rattle.ssa_form_laws.proofs.lemmas.laid.Functions.{IsMadeOf, IsNone, tables-of}
use Rattle.ssa_form_laws.proofs.lemmas.laid.Names.{no-names-apart}
use Rattle.ssa_form_laws.proofs.lemmas.laid.Parts.{BeginsAt, FallenAt, IsLaidAt, LeftAt, SetAt, StartedAt}
use Rattle.ssa_form_laws.proofs.lemmas.laid.Tables.{laid-at}
use Rattle.bril_tree.specs.Run.{Refines}

-- ---- a function that isn't there

none-walk : (walk : List Branch) → IsWalk [] walk → end_of walk ≡ 0
none-walk [] is = refl
none-walk (b ∷ walk) is = absurd (in_contains b (branches_at [] (end_of walk)) is.0)

none-reached : (i : ℕ) → IsReached [] i → i ≡ 0
none-reached i r = sym r.ends ∙ none-walk r.walk r.is

none-defines : (i y : ℕ) → Defines [] no_tables.table i y → ⊥
none-defines i y (Writes x copy d e) = cc
none-defines i y (Gets a e) = cc

none-consistent : (A : ℕ → Type 0) → AreConsistent [] no_tables.table A
none-consistent A = record {
  start = λ a y e. absurd (let h : None ≡ Some y = e in cc);
  next = λ walk w a y is among ab e. absurd among;
  back = λ walk w a y is among ab s sites are e. absurd among;
  once = λ i j y ri rj d e. none-reached i ri ∙ sym (none-reached j rj);
  apart = λ i y r d arg. none-defines i y d;
  single = λ i y a b r e h. absurd (let k : None ≡ Some y = e in cc);
  plain = λ i y a r e. absurd (let k : None ≡ Some y = e in cc);
}

pub none-laid : (P Q : Prog) (f : ℕ) → ((i : ℕ) → tree_at Q f i ≡ None) → IsLaidAt P Q f None no_tables
none-laid P Q f none = record {
  injective = no-names-apart;
  consistent = none-consistent (λ y. (a : Location) × BeginsAt P Q f None no_tables a y);
  begin = λ a y e. absurd (let h : None ≡ Some y = e in cc);
  same = λ i r copy. sym (none _);
  gone = λ i r copy. absurd (let h : false ≡ true = copy in cc);
  read = λ i x item r at copy reads. absurd (let h : None ≡ Some item = at in cc);
  got = λ i t y r at. absurd (let h : None ≡ Some y = at in cc);
  no_gets = refl;
  gets_are = λ i y h. absurd h;
  gets_all = λ i y a e. absurd (let h : None ≡ Some y = e in cc);
  put = λ i t s r at. absurd (let h : None ≡ Some s = at in cc);
  sets_are = λ i s r h. absurd h;
  sets_fall = λ i y a r plain among e. absurd among;
  sets_start = λ y a e. absurd (let h : None ≡ Some y = e in cc);
  sets_leave = λ i k y a r leaves e. absurd (let h : None ≡ Some y = e in cc);
}

module _ (P Q : Prog) (tree : Tree) (accepted : IsAccepted P) (t : IsLaidTree P tree) (numbered : Numbered tree Q) where
  abbrev fs : List (List ℕ)
  fs = names_of_functions P.funcs

  -- names, arguments and results of functions stay
  pub laid-heads : SameHeads P Q
  laid-heads =
      heads-of_trees P Q (subst (AllZip SameHead (tree_of P).funcs) numbered.functions
      (heads-each P (λ F g. IsLaidFunction F (function_tree fs F) g) (λ F g x. record {
        name = sym (ap (λ (h : FuncTree). h.name) x.tree);
        args = sym (ap (λ (h : FuncTree). h.args) x.tree);
        ret = sym (ap (λ (h : FuncTree). h.ret) x.tree);
      }) tree.funcs t.functions))

  pub laid-parts : (f : ℕ) → IsLaidAt P Q f (slice_get P.funcs f) (tables_at P tree t f)
  laid-parts f = by (tables-of P tree t f)
    where
      by : IsMadeOf fs P.funcs tree.funcs f (tables_at P tree t f) ⊎ IsNone P.funcs f (tables_at P tree t f) → IsLaidAt P Q f (slice_get P.funcs f) (tables_at P tree t f)
      by (inl m) =
          subst (λ o. IsLaidAt P Q f o (tables_at P tree t f)) (sym m.there) (subst (λ (T : FunctionTables). IsLaidAt P Q f (Some m.func) T) (sym m.is) (laid-at P Q tree accepted numbered f m.func m.there m.tree m.made m.laid))
      by (inr n) =
          subst (λ o. IsLaidAt P Q f o (tables_at P tree t f)) (sym n.none) (subst (λ (T : FunctionTables). IsLaidAt P Q f None T) (sym n.is) (none-laid P Q f (no_partner P Q laid-heads f n.none)))

  set-before : (f i : ℕ) (s : Setting) → SetAt P Q f (slice_get P.funcs f) (tables_at P tree t f) i s → IsSetBefore P Q (tables P tree t) (names P tree t) (gets P tree t) (sets P tree t) f i s
  set-before f i s (StartedAt a e got begins) = Starts a e got begins
  set-before f i s (FallenAt a p e r got told) = Falls a p e (ap (λ j. (tables P tree t f).gets j a) e ∙ got) told
  set-before f i s (LeftAt a k r leaves got told) = Leaves a k leaves got told

  module _ (width : ℕ) (is : IsGreatestWidth P width) where
    few : (f i : ℕ) → length (gets P tree t f i) + length (sets P tree t f i) ≤ 2 * most_locations P * (width + 1)
    few f i = by (tables-of P tree t f)
      where
        by : IsMadeOf fs P.funcs tree.funcs f (tables_at P tree t f) ⊎ IsNone P.funcs f (tables_at P tree t f) → length (gets P tree t f i) + length (sets P tree t f i) ≤ 2 * most_locations P * (width + 1)
        by (inl m) =
            let facts = accepted_function P f m.func accepted m.there in
            subst (λ (T : FunctionTables). length (T.gets i) + length (T.sets i) ≤ 2 * most_locations P * (width + 1)) (sym m.is)
            (few-in P width is f m.func m.there (function_tree fs m.func) m.tree m.laid (shaped_function P m.func facts) facts.sites i)
        by (inr n) = subst (λ (T : FunctionTables). length (T.gets i) + length (T.sets i) ≤ 2 * most_locations P * (width + 1)) (sym n.is) (omega arith)

    pub laid-all : Laid P Q (tables P tree t) (names P tree t) (gets P tree t) (sets P tree t) (2 * most_locations P * (width + 1))
    laid-all = record {
      heads = laid-heads;
      few = few;
      injective = λ f. (laid-parts f).injective;
      consistent = λ f. (laid-parts f).consistent;
      begin = λ f. (laid-parts f).begin;
      same = λ f. (laid-parts f).same;
      gone = λ f. (laid-parts f).gone;
      read = λ f. (laid-parts f).read;
      got = λ f. (laid-parts f).got;
      no_gets = λ f. (laid-parts f).no_gets;
      gets_are = λ f. (laid-parts f).gets_are;
      gets_all = λ f. (laid-parts f).gets_all;
      put = λ f. (laid-parts f).put;
      sets_are = λ f i s r h. set-before f i s ((laid-parts f).sets_are i s r h);
      sets_fall = λ f. (laid-parts f).sets_fall;
      sets_start = λ f. (laid-parts f).sets_start;
      sets_leave = λ f. (laid-parts f).sets_leave;
    }

pub trees-laid : LaidTreesAreLaid
trees-laid P Q tree accepted t numbered width is = laid-all P Q tree accepted t numbered width is

pub trees-refine : LaidTreesRefine
trees-refine P Q tree accepted t numbered width is =
    let c = 2 * most_locations P * (width + 1) in
    let steps : suc c ≡ 1 + c = omega arith in
    subst (Refines P Q) steps (laid-refine P Q (tables P tree t) (names P tree t) (gets P tree t) (sets P tree t) c accepted (trees-laid P Q tree accepted t numbered width is))
