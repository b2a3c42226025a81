-- From the tree that classes make to its program: it is the given one under sound new names, which are those of the classes.
use Rattle.std.proofs.Common.{◌≡◌, ℕ, zero, suc, ◌<◌, Bool, true, false, List, [], ◌∷◌, length, map, Option, Some, None, refl, sym, ap, subst, ◌∙◌, inl, inr}
use Rattle.std.specs.Prelude.{slice_get, is_some}
use Rattle.std.specs.List.{AllZip}
use Rattle.std.specs.Option.{option_map}
use Rattle.std.proofs.lemmas.List.{length-map}
use Rattle.std.proofs.lemmas.Option.{slice_get-map, same_Some}
use Rattle.bril_tree.specs.declared.function_tree.FuncTree.{FuncTree}
use Rattle.bril_tree.specs.declared.numbered_function.Func.{Func}
use Rattle.bril_tree.specs.declared.program.Prog.{Prog}
use Rattle.bril_tree.specs.Accepted.{IsAccepted}
use Rattle.bril_tree.specs.Numbered.{function_tree, item_tree, named, names_in, names_of_functions, nop_item, tree_at, tree_of, variable_names}
use Rattle.bril_tree.specs.Shape.{shape_fault_of}
use Rattle.bril_tree.specs.Step.{code_of, items_of}
use Rattle.bril_tree.specs.Walk.{IsReached}
use Rattle.bril_tree.proofs.Acceptance.{accepted_function, shaped_function}
use Rattle.bril_tree.proofs.Trees.{nothing_at, tree_at-function}
use Rattle.bril_names.specs.Faults.{SameHead}
use Rattle.pass_make.proofs.Each.{heads-each}
use Rattle.pass_edit_laws.proofs.lemmas.names.Trees.{heads-of_trees}
use Rattle.pass_edit_laws.proofs.lemmas.names.Heads.{no_partner}
use Rattle.pass_edit_laws.specs.names.NamedPlan.{SameHeads}
use Rattle.pass_edit_laws.specs.names.Renaming.{renamed_tree}
use Rattle.pass_edit_laws.specs.plan.Marked.{with_nops}
use Rattle.pass_edit_laws.proofs.lemmas.plan.Marked.{with_nops-alive, with_nops-dead}
use Rattle.graph_search.specs.Marks.{is_marked}
use Rattle.variable_renaming.specs.Classes.{AreSoundClasses, class_of}
use Rattle.variable_renaming.specs.Made.{CopyWithin, IsRenamedByClasses, IsRenamedTree}
use Rattle.variable_renaming.specs.Renamed.{IsRenamedAt, IsRenaming, IsSelfCopy, IsSound, KeepsNames, name_of, renamed_item}
use Rattle.variable_renaming.proofs.Copying.{copy-below}
use Rattle.variable_renaming.proofs.Names.{tree-renamed}
use Rattle.variable_renaming.proofs.Naming.{classes-named, classes-sound, has-name, names-renamed, new-is, one-class, one-name, renamed-other, renamed_by}

-- the new names of a function's variables are those of sound classes, of which this is known
pub record HasNamesOfClasses (Knows : Func → List ℕ → Type 0) (F : Func) (rename : List ℕ → List ℕ) : Type 0 where
  pub class : List ℕ
  pub are : AreSoundClasses F class
  pub known : Knows F class
  pub named : (x : ℕ) → x < length F.vars → rename (name_of F x) ≡ name_of F (class_of class x)
  pub one_class : (x y : ℕ) → x < length F.vars → y < length F.vars → rename (name_of F x) ≡ rename (name_of F y) → class_of class x ≡ class_of class y

module _ (Knows : Func → List ℕ → Type 0) (P : Prog) (accepted : IsAccepted P) where
  abbrev fs : List (List ℕ)
  fs = names_of_functions P.funcs

  abbrev IsRenamed : Func → FuncTree → Type 0
  IsRenamed = IsRenamedByClasses Knows P

  -- the new names of the functions, by their numbers
  pub rename_in : (xs : List Func) (ys : List FuncTree) → AllZip IsRenamed xs ys → ℕ → List ℕ → List ℕ
  rename_in [] ys z f n = n
  rename_in (F ∷ xs) [] z f n = n
  rename_in (F ∷ xs) (g ∷ ys) z zero n = renamed_by (variable_names F.vars) z.0.made.news n
  rename_in (F ∷ xs) (g ∷ ys) z (suc f) n = rename_in xs ys z.1 f n

  record RenamedAt (F : Func) (ys : List FuncTree) (f : ℕ) (rename : List ℕ → List ℕ) : Type 0 where
    g : FuncTree
    at : slice_get ys f ≡ Some g
    by : IsRenamed F g
    same : rename ≡ renamed_by (variable_names F.vars) by.made.news

  renamed_at : (xs : List Func) (ys : List FuncTree) (z : AllZip IsRenamed xs ys) (f : ℕ) (F : Func) → slice_get xs f ≡ Some F → RenamedAt F ys f (rename_in xs ys z f)
  unfolding rename_in
  renamed_at [] ys z f F p = absurd (let n : None ≡ Some F = p in cc)
  renamed_at (H ∷ xs) [] z f F p = absurd z
  renamed_at (H ∷ xs) (g ∷ ys) z zero F p = subst (λ (K : Func). RenamedAt K (g ∷ ys) 0 (rename_in (H ∷ xs) (g ∷ ys) z 0)) (same_Some H F p) (record { g = g; at = refl; by = z.0; same = refl })
  renamed_at (H ∷ xs) (g ∷ ys) z (suc f) F p = let r = renamed_at xs ys z.1 f F p in record { g = r.g; at = r.at; by = r.by; same = r.same }

  head : (F : Func) (g : FuncTree) → IsRenamed F g → SameHead (function_tree fs F) g
  head F g t = subst (SameHead (function_tree fs F)) (sym t.made.tree) (record { name = refl; args = refl; ret = refl })

  module _ (Q : Prog) (makes : IsRenamedTree Knows P (tree_of Q)) where
    abbrev pub rename : ℕ → List ℕ → List ℕ
    rename = rename_in P.funcs (tree_of Q).funcs makes.functions

    heads : SameHeads P Q
    heads = heads-of_trees P Q (heads-each P IsRenamed head (tree_of Q).funcs makes.functions)

    module _ (f : ℕ) (F : Func) (p : slice_get P.funcs f ≡ Some F) where
      abbrev m : RenamedAt F (tree_of Q).funcs f (rename f)
      m = renamed_at P.funcs (tree_of Q).funcs makes.functions f F p

      abbrev class : List ℕ
      class = m.by.class

      abbrev news : List (List ℕ)
      news = m.by.made.news

      abbrev marks : List Bool
      marks = m.by.made.marks

      abbrev own : List ℕ → List ℕ
      own = renamed_by (variable_names F.vars) news

      shaped : shape_fault_of (is_some F.ret) F.code ≡ None
      shaped = shaped_function P F (accepted_function P f F accepted p)

      code : code_of P f ≡ F.code
      code = ap items_of p

      names-own : KeepsNames F own
      names-own = classes-named P f F p class m.by.are news m.by.made.names

      sound-own : IsSound P f F own
      sound-own = classes-sound P f F p class m.by.are news m.by.made.names

      classes-own : HasNamesOfClasses Knows F own
      classes-own = record {
        class = class;
        are = m.by.are;
        known = m.by.known;
        named = has-name P f F p class m.by.are news m.by.made.names;
        one_class = one-name P f F p class m.by.are news m.by.made.names;
      }

      tree-now : (i : ℕ) → tree_at Q f i ≡ slice_get (with_nops nop_item marks (map (item_tree fs news F.labels) F.code)) i
      tree-now i = tree_at-function Q f i m.g m.at ∙ ap (λ (g : FuncTree). slice_get g.code i) m.by.made.tree

      -- copies inside a class, by names and by numbers
      to-self : (i : ℕ) → CopyWithin F class i → IsSelfCopy P f own i
      to-self i c =
          let below = copy-below F shaped i c.item c.at c.x c.y c.copies in
          record {
            reached = subst (λ l. IsReached l i) (sym code) c.reached;
            item = c.item;
            at = ap (λ l. slice_get l i) code ∙ c.at;
            x = c.x;
            y = c.y;
            copies = c.copies;
            same = new-is P f F p class m.by.are news m.by.made.names c.x below.0 ∙ ap (named (variable_names F.vars)) c.same ∙ sym (new-is P f F p class m.by.are news m.by.made.names c.y below.1);
          }

      from-self : (i : ℕ) → IsSelfCopy P f own i → CopyWithin F class i
      from-self i s =
          let at : slice_get F.code i ≡ Some s.item = ap (λ l. slice_get l i) (sym code) ∙ s.at in
          let below = copy-below F shaped i s.item at s.x s.y s.copies in
          record { reached = subst (λ l. IsReached l i) code s.reached; item = s.item; at = at; x = s.x; y = s.y; copies = s.copies; same = one-class P f F p class m.by.are news m.by.made.names s.x s.y below.0 below.1 s.same }

      points-own : (i : ℕ) → IsRenamedAt P f own Q i
      points-own i = by (is_marked marks i) refl
        where
          by : (b : Bool) → is_marked marks i ≡ b → IsRenamedAt P f own Q i
          by true e = inl (to-self i (m.by.made.marked.only i e), tree-now i ∙ with_nops-dead nop_item marks (map (item_tree fs news F.labels) F.code) i (m.by.made.marked.long ∙ sym (length-map F.code (item_tree fs news F.labels))) e)
          by false e = inr (
            (λ s. m.by.made.marked.all i e (from-self i s)),
            tree-now i ∙ with_nops-alive nop_item marks (map (item_tree fs news F.labels) F.code) i e ∙ slice_get-map (item_tree fs news F.labels) F.code i
                ∙ ap (λ l. option_map (item_tree fs l F.labels) (slice_get F.code i)) (sym (names-renamed P f F p class m.by.are news m.by.made.names))
                ∙ ap (λ o. renamed_tree fs (map own (names_in o)) o i) (sym p) ∙ sym (tree-renamed P f i own),
          )

    points : (f i : ℕ) → IsRenamedAt P f (rename f) Q i
    points f i = by (slice_get P.funcs f) refl
      where
        by : (o : Option Func) → slice_get P.funcs f ≡ o → IsRenamedAt P f (rename f) Q i
        by None n = inr (
          (λ s. let h : None ≡ Some s.item = ap (λ o. slice_get (items_of o) i) (sym n) ∙ s.at in cc),
          no_partner P Q heads f n i ∙ sym (ap (option_map (renamed_item (rename f))) (nothing_at P f i (ap (λ o. slice_get (items_of o) i) n))),
        )
        by (Some F) p = subst (λ r. IsRenamedAt P f r Q i) (sym (m f F p).same) (points-own f F p i)

    pub tree-renaming : IsRenaming P Q rename
    tree-renaming = record {
      heads = heads;
      names = λ f F p. subst (KeepsNames F) (sym (m f F p).same) (names-own f F p);
      others = λ f F p name lacks. ap (λ r. r name) (m f F p).same ∙ renamed-other (variable_names F.vars) (news f F p) name lacks;
      points = points;
      sound = λ f F p. subst (IsSound P f F) (sym (m f F p).same) (sound-own f F p);
    }

    pub tree-classes : (f : ℕ) (F : Func) → slice_get P.funcs f ≡ Some F → HasNamesOfClasses Knows F (rename f)
    tree-classes f F p = subst (HasNamesOfClasses Knows F) (sym (m f F p).same) (classes-own f F p)
