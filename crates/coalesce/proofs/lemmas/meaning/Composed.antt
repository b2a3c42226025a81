-- Rounds one after another: the result of all of them has other names of variables and `nop` for copies, by the program that
-- the first of them was given.
use Rattle.std.proofs.Common.{◌≡◌, ℕ, suc, ◌<◌, Bool, true, List, [], ◌∷◌, length, map, Option, Some, None, refl, sym, ap, subst, ◌∙◌, inl, inr, ⊎_elim, arith}
use Rattle.std.specs.Prelude.{slice_get, slice_index}
use Rattle.std.specs.List.{AllZip}
use Rattle.std.specs.Option.{option_map}
use Rattle.std.proofs.lemmas.List.{get_or-take, length-map, take-map}
use Rattle.std.proofs.lemmas.Option.{same_Some}
use Rattle.bril_tree.specs.declared.function_tree.Dest.{Dest}
use Rattle.bril_tree.specs.declared.function_tree.Item.{Item}
use Rattle.bril_tree.specs.declared.function_tree.Item.TheVariants as item
use Rattle.bril_tree.specs.declared.numbered.Instr.{Instr}
use Rattle.bril_tree.specs.declared.numbered.Instr.TheVariants.{Label, Const, Act}
use Rattle.bril_tree.specs.declared.numbered.VarInfo.{VarInfo}
use Rattle.bril_tree.specs.declared.numbered_function.Func.{Func}
use Rattle.bril_tree.specs.declared.operation.Op.TheVariants as op
use Rattle.bril_tree.specs.declared.program.Prog.{Prog}
use Rattle.bril_tree.specs.Accepted.{IsAccepted}
use Rattle.bril_tree.specs.Edge.{Branch, branches_at, branches_from, onward}
use Rattle.bril_tree.specs.FunctionForm.{listed}
use Rattle.bril_tree.specs.Membership.{In}
use Rattle.bril_tree.specs.Numbered.{named, names_in, names_of_functions, nop, nop_item, tree_at, variable_names}
use Rattle.bril_tree.specs.Operand.{Location, dest_of}
use Rattle.bril_tree.specs.Shape.{is_shaped, shape_of}
use Rattle.bril_tree.specs.Step.{code_of, item_at, items_of}
use Rattle.bril_tree.specs.Walk.{IsReached}
use Rattle.bril_tree.proofs.Acceptance.{accepted_function, shaped_function}
use Rattle.bril_tree.proofs.Branches.{reached_on}
use Rattle.bril_tree.proofs.Shapes.{shape-parts}
use Rattle.bril_tree.proofs.Trees.{nop-at}
use Rattle.bril_names.proofs.Functions.{Differ-functions}
use Rattle.pass_edit_laws.proofs.lemmas.acceptance.Reaching.{ReachedBeside, regular-reaches, reached_points}
use Rattle.pass_edit_laws.specs.names.Named.{args_of, SameName}
use Rattle.pass_edit_laws.specs.names.NamedPlan.{SameHeads}
use Rattle.pass_edit_laws.proofs.lemmas.names.Heads.{partner, same_args}
use Rattle.pass_edit_laws.proofs.lemmas.names.Items.{item-shares, zip-at}
use Rattle.pass_edit_laws.specs.plan.Plan.{ItemsMatch}
use Rattle.pass_edit_laws.proofs.lemmas.steps.Shapes.{shaped_here}
use Rattle.pass_edit_laws.proofs.lemmas.walks.Accepting.{matched}
use Rattle.variable_renaming.proofs.Accepted.{walks}
use Rattle.variable_renaming.proofs.Copying.{copy-is, copy-below}
use Rattle.variable_renaming.proofs.Names.{named-map}
use Rattle.variable_renaming.proofs.Numbers.{numbers-kept}
use Rattle.variable_renaming.proofs.Points.{both, no-item, no-older}
use Rattle.variable_renaming.proofs.Refines.{copy-nop, renaming_plan, preserves}
use Rattle.variable_renaming.specs.Apart.{Copies, source_in}
use Rattle.variable_renaming.specs.Renamed.{IsRenamedAt, IsRenaming, IsSelfCopy, renamed_dest, renamed_item}
use Rattle.coalesce.specs.meaning.Merged.{AreNewNames, IsMerged, IsRenamed, IsRound, NoneApart}
use Rattle.coalesce.proofs.lemmas.meaning.Linking.{copy-links}
use Rattle.coalesce.proofs.lemmas.meaning.Renamings.{AreOldCopies, OldCopy, names-twice}

-- ---- a renaming reaches the same points

module _ (P Q : Prog) (rename : ℕ → List ℕ → List ℕ) (t : IsRenaming P Q rename) (accepted : IsAccepted P) (f : ℕ) where
  onwards : (i : ℕ) → IsReached (code_of P f) i → ReachedBeside (renaming_plan P Q rename t) P Q f i → (w : Branch) → In w (branches_at (code_of P f) i) → ReachedBeside (renaming_plan P Q rename t) P Q f w.to
  onwards i was r w among = ⊎_elim (λ s. copied s.0) (λ k. regular-reaches (renaming_plan P Q rename t) P Q f (preserves P Q rename t accepted) i r.j was r.points r.reached k.0 w among) (t.points f i)
    where
      copied : IsSelfCopy P f (rename f) i → ReachedBeside (renaming_plan P Q rename t) P Q f w.to
      copied s =
          let c = copy-is s.item s.x s.y s.copies in
          let at : item_at P f i ≡ Some (Act (Some s.x) c.ty op.Id c.args c.funcs c.labels) = s.at ∙ ap Some c.is in
          let branch : w ≡ onward i = ⊎_elim (λ e. e) (λ n. absurd n) (subst (λ o. In w (branches_from (code_of P f) i o)) at among) in
          let here : In (onward i) (branches_at (code_of Q f) i) = subst (λ o. In (onward i) (branches_from (code_of Q f) i o)) (sym (copy-nop P Q rename t f i s)) (inl refl) in
          record { j = suc i; points = ap (λ (v : Branch). v.to) branch; reached = reached_on (code_of Q f) i (onward i) (subst (IsReached (code_of Q f)) (sym r.points) r.reached) here }

  pub renaming-reaches : (i : ℕ) → IsReached (code_of P f) i → IsReached (code_of Q f) i
  renaming-reaches i was = let r = reached_points (renaming_plan P Q rename t) P Q f (preserves P Q rename t accepted) onwards i was in subst (IsReached (code_of Q f)) (sym r.points) r.reached

  pub renaming-was : (F G : Func) → slice_get P.funcs f ≡ Some F → slice_get Q.funcs f ≡ Some G → (i : ℕ) → IsReached (code_of Q f) i → IsReached (code_of P f) i
  renaming-was F G p q i now =
      let l = matched (renaming_plan P Q rename t) P Q f F.args G.args (walks P Q rename t accepted f F G p q) now.walk now.is in
      record { walk = l.walk; is = l.matches.is; ends = l.matches.points ∙ now.ends }

-- ---- copies beside each other

record CopyBeside (V W : List (List ℕ)) (b : Instr) (x y : ℕ) : Type 0 where
  x' : ℕ
  y' : ℕ
  copies : Copies b x' y'
  dest : SameName V W x x'
  source : SameName V W y y'

dest-beside : (V W : List (List ℕ)) (e : Option ℕ) (x : ℕ) → AllZip (SameName V W) (listed (Some x)) (listed e) → (x' : ℕ) × (e ≡ Some x') × SameName V W x x'
dest-beside V W None x z = absurd z
dest-beside V W (Some x') x z = (x', refl, z.0)

copy-beside : (A : Location → Location → Type 0) (V W : List (List ℕ)) (a b : Instr) → ItemsMatch A a b → AllZip (SameName V W) (listed (dest_of a)) (listed (dest_of b)) → AllZip (SameName V W) (args_of a) (args_of b) → length (args_of a) ≡ 1 → (x y : ℕ) → Copies a x y → CopyBeside V W b x y
copy-beside A V W (Label l) b same dz oz one x y c = absurd (let e = c.1 in cc)
copy-beside A V W (Const d ty v) b same dz oz one x y c = absurd (let e = c.1 in cc)
copy-beside A V W (Act d s o args fns ls) (Label m) same dz oz one x y c = absurd same
copy-beside A V W (Act d s o args fns ls) (Const z t v) same dz oz one x y c = absurd same
copy-beside A V W (Act d s o args fns ls) (Act e t u bargs gns ms) same dz oz one x y c =
    let k = copy-is (Act d s o args fns ls) x y c in
    let id : o ≡ op.Id = (let h = k.is in cc) in
    let first : slice_index args 0 ≡ y = (let h : Some (slice_index args 0) ≡ Some y = ap (λ z. source_in z args) (sym id) ∙ c.1 in cc) in
    let dest = dest-beside V W e x (subst (λ z. AllZip (SameName V W) (listed z) (listed e)) c.0 dz) in
    record {
      x' = dest.0;
      y' = slice_index bargs 0;
      copies = (dest.1, ap (λ z. source_in z bargs) (sym same.operation ∙ id));
      dest = dest.2;
      source = subst (λ n. SameName V W n (slice_index bargs 0)) first (zip-at (SameName V W) args bargs 0 (omega (arith, one)) oz);
    }

one-argument : (ret : Bool) (a : Instr) (x y : ℕ) → is_shaped ret a ≡ true → Copies a x y → length (args_of a) ≡ 1
one-argument ret a x y shaped c =
    let k = copy-is a x y c in
    ap (λ z. length (args_of z)) k.is
    ∙ (shape-parts (shape_of ret op.Id) true (length k.args) (length k.funcs) (length k.labels) (subst (λ (z : Instr). is_shaped ret z ≡ true) k.is shaped)).args_are

-- ---- an argument's name

module _ (P Q : Prog) (heads : SameHeads P Q) (f : ℕ) (F G : Func) (p : slice_get P.funcs f ≡ Some F) (q : slice_get Q.funcs f ≡ Some G) where
  argument-name : (x : ℕ) → x < F.args → (x < G.args) × (named (variable_names F.vars) x ≡ named (variable_names G.vars) x)
  argument-name x less =
      let both = same_args P Q heads f F G p q in
      let few : x < G.args = omega (arith, both.count) in (
        few,
        sym (get_or-take F.args (variable_names F.vars) x [] less)
            ∙ ap (λ names. named names x) (take-map (λ (v : VarInfo). v.name) F.args F.vars ∙ ap (map (λ (v : VarInfo). v.name)) both.variables ∙ sym (take-map (λ (v : VarInfo). v.name) G.args G.vars))
            ∙ get_or-take G.args (variable_names G.vars) x [] few,
      )

-- ---- items

renamed-twice : (r s : List ℕ → List ℕ) (i : Item) → renamed_item s (renamed_item r i) ≡ renamed_item (λ n. s (r n)) i
renamed-twice r s (item.Label n) = refl
renamed-twice r s (item.Const d ty v) = refl
renamed-twice r s (item.Act d o args fns ls) = λ i. item.Act (dests d i) o (names args i) fns ls
  where
    dests : (d : Option Dest) → renamed_dest s (renamed_dest r d) ≡ renamed_dest (λ n. s (r n)) d
    dests None = refl
    dests (Some d) = refl

    names : (xs : List (List ℕ)) → map s (map r xs) ≡ map (λ n. s (r n)) xs
    names [] = refl
    names (x ∷ xs) = λ i. s (r x) ∷ names xs i

option-twice : (r s : List ℕ → List ℕ) (o : Option Item) → option_map (renamed_item s) (option_map (renamed_item r) o) ≡ option_map (renamed_item (λ n. s (r n))) o
option-twice r s None = refl
option-twice r s (Some i) = ap Some (renamed-twice r s i)

-- ---- a renamed point

module _ (P Q : Prog) (heads : SameHeads P Q) (accepted : IsAccepted P) (accepted_q : IsAccepted Q) (f i : ℕ) (r : List ℕ → List ℕ) (same : tree_at Q f i ≡ option_map (renamed_item r) (tree_at P f i)) where
  abbrev V : List (List ℕ)
  V = names_in (slice_get P.funcs f)

  abbrev N : List (List ℕ)
  N = map r V

  abbrev W : List (List ℕ)
  W = names_in (slice_get Q.funcs f)

  abbrev fs : List (List ℕ)
  fs = names_of_functions P.funcs

  name-of : (x : ℕ) → x < length N → named N x ≡ r (named V x)
  name-of x less = named-map r V x (let l = length-map V r in omega arith)

  record CopyThere (x y : ℕ) : Type 0 where
    b : Instr
    bt : item_at Q f i ≡ Some b
    x' : ℕ
    y' : ℕ
    copies : Copies b x' y'
    dest : r (named V x) ≡ named W x'
    source : r (named V y) ≡ named W y'

  copy-there : (a : Instr) → item_at P f i ≡ Some a → (x y : ℕ) → Copies a x y → CopyThere x y
  copy-there a at x y c = by (item_at Q f i) refl
    where
      by : (o : Option Instr) → item_at Q f i ≡ o → CopyThere x y
      by None bt = absurd (no-item P Q heads f i r same bt a at)
      by (Some b) bt =
          let k = both P Q heads f i r same a b at bt in
          let facts = shaped_here P accepted f i a at in
          let h = item-shares fs N W k.function.labels k.result.labels (Differ-functions P) (λ z. Unit {0}) facts.ret a b facts.shaped k.one k.range k.result_range (λ z m. tt) in
          let m = copy-beside _ N W a b h.same h.dests h.operands (one-argument facts.ret a x y facts.shaped c) x y c in
          record { b = b; bt = bt; x' = m.x'; y' = m.y'; copies = m.copies; dest = sym (name-of x m.dest.0) ∙ m.dest.2; source = sym (name-of y m.source.0) ∙ m.source.2 }

  record CopyBack (x' y' : ℕ) : Type 0 where
    a : Instr
    at : item_at P f i ≡ Some a
    x : ℕ
    y : ℕ
    copies : Copies a x y
    dest : r (named V x) ≡ named W x'
    source : r (named V y) ≡ named W y'

  copy-back : (b : Instr) → item_at Q f i ≡ Some b → (x' y' : ℕ) → Copies b x' y' → CopyBack x' y'
  copy-back b bt x' y' c = by (item_at P f i) refl
    where
      by : (o : Option Instr) → item_at P f i ≡ o → CopyBack x' y'
      by None at = absurd (no-older P Q heads f i r same at b bt)
      by (Some a) at =
          let k = both P Q heads f i r same a b at bt in
          let facts = shaped_here Q accepted_q f i b bt in
          let h = item-shares fs W N k.result.labels k.function.labels (Differ-functions P) (λ z. Unit {0}) facts.ret b a facts.shaped (sym k.one) k.result_range k.range (λ z m. tt) in
          let m = copy-beside _ W N b a h.same h.dests h.operands (one-argument facts.ret b x' y' facts.shaped c) x' y' c in
          record { a = a; at = at; x = m.x'; y = m.y'; copies = m.copies; dest = sym (name-of m.x' m.dest.1) ∙ sym m.dest.2; source = sym (name-of m.y' m.source.1) ∙ sym m.source.2 }

-- ---- one round more

pub new-names : (P Q : Prog) (rename : ℕ → List ℕ → List ℕ) → IsRound P Q rename → (f : ℕ) (F : Func) → slice_get P.funcs f ≡ Some F → AreNewNames F (rename f)
new-names P Q rename t f F p = let k = t.renaming.names f F p in record { arguments = k.arguments; own = k.own; linked = t.linked f F p }

-- what rounds made so far
pub record IsMadeSoFar (P Q : Prog) : Type 0 where
  pub heads : SameHeads P Q
  pub renamed : (f : ℕ) (F : Func) → slice_get P.funcs f ≡ Some F → IsRenamed P Q f F
  pub reaches : (f i : ℕ) → IsReached (code_of P f) i → IsReached (code_of Q f) i
  pub was : (f : ℕ) (F : Func) → slice_get P.funcs f ≡ Some F → (i : ℕ) → IsReached (code_of Q f) i → IsReached (code_of P f) i
  pub accepted : IsAccepted Q

module _ (P Q R : Prog) (so_far : IsMadeSoFar P Q) (accepted : IsAccepted P) (rename : ℕ → List ℕ → List ℕ) (t : IsRound Q R rename) (accepted_r : IsAccepted R) where
  module _ (f : ℕ) (F G : Func) (p : slice_get P.funcs f ≡ Some F) (q : slice_get Q.funcs f ≡ Some G) where
    abbrev m : IsRenamed P Q f F
    m = so_far.renamed f F p

    abbrev twice : List ℕ → List ℕ
    twice n = rename f (m.rename n)

    further : (i : ℕ) → IsRenamedAt P f twice R i
    further i = ⊎_elim (λ s. inl (gone s.0, still s.1)) kept (m.points i)
      where
        gone : IsSelfCopy P f m.rename i → IsSelfCopy P f twice i
        gone s = record { reached = s.reached; item = s.item; at = s.at; x = s.x; y = s.y; copies = s.copies; same = ap (rename f) s.same }

        -- a `nop` stays
        still : tree_at Q f i ≡ Some nop_item → tree_at R f i ≡ Some nop_item
        still n = ⊎_elim (λ s. s.1) (λ k. k.1 ∙ ap (option_map (renamed_item (rename f))) n) (t.renaming.points f i)

        kept : (IsSelfCopy P f m.rename i → ⊥) × (tree_at Q f i ≡ option_map (renamed_item m.rename) (tree_at P f i)) → IsRenamedAt P f twice R i
        kept k = ⊎_elim (λ s. inl (back s.0, s.1)) (λ n. inr ((λ s. n.0 (there s)), n.1 ∙ ap (option_map (renamed_item (rename f))) k.1 ∙ option-twice m.rename (rename f) (tree_at P f i))) (t.renaming.points f i)
          where
            back : IsSelfCopy Q f (rename f) i → IsSelfCopy P f twice i
            back s =
                let c = copy-back P Q so_far.heads accepted so_far.accepted f i m.rename k.1 s.item s.at s.x s.y s.copies in
                record { reached = so_far.was f F p i s.reached; item = c.a; at = c.at; x = c.x; y = c.y; copies = c.copies; same = ap (rename f) c.dest ∙ s.same ∙ sym (ap (rename f) c.source) }

            there : IsSelfCopy P f twice i → IsSelfCopy Q f (rename f) i
            there s =
                let c = copy-there P Q so_far.heads accepted so_far.accepted f i m.rename k.1 s.item s.at s.x s.y s.copies in
                record { reached = so_far.reaches f i s.reached; item = c.b; at = c.bt; x = c.x'; y = c.y'; copies = c.copies; same = sym (ap (rename f) c.dest) ∙ s.same ∙ ap (rename f) c.source }

    -- a reached copy of the later program stands for one of the first
    old-copy : AreOldCopies F G m.rename
    old-copy i b reached at v w copies = ⊎_elim (λ s. absurd (no-copy (same_Some nop b (sym (nop-at Q f i s.1) ∙ here)))) kept (m.points i)
      where
        here : item_at Q f i ≡ Some b
        here = ap (λ o. slice_get (items_of o) i) q ∙ at

        no-copy : nop ≡ b → ⊥
        no-copy e = let h : None ≡ Some v = ap dest_of e ∙ copies.0 in cc

        kept : (IsSelfCopy P f m.rename i → ⊥) × (tree_at Q f i ≡ option_map (renamed_item m.rename) (tree_at P f i)) → OldCopy F G m.rename v w
        kept k =
            let c = copy-back P Q so_far.heads accepted so_far.accepted f i m.rename k.1 b here v w copies in
            let there : slice_get F.code i ≡ Some c.a = ap (λ o. slice_get (items_of o) i) (sym p) ∙ c.at in
            let below = copy-below F (shaped_function P F (accepted_function P f F accepted p)) i c.a there c.x c.y c.copies in
            let was = subst (λ o. IsReached (items_of o) i) p (so_far.was f F p i (subst (λ o. IsReached (items_of o) i) (sym q) reached)) in
            record {
              x = c.x;
              y = c.y;
              first = record { below = below.0; name = ap (λ o. m.rename (named (names_in o) c.x)) (sym p) ∙ c.dest ∙ ap (λ o. named (names_in o) v) q };
              second = record { below = below.1; name = ap (λ o. m.rename (named (names_in o) c.y)) (sym p) ∙ c.source ∙ ap (λ o. named (names_in o) w) q };
              linked = copy-links F i c.a was there c.x c.y c.copies;
            }

    once_more : IsRenamed P R f F
    once_more = record {
      rename = twice;
      names = names-twice F G m.rename m.names (rename f) (new-names Q R rename t f G q) (t.renaming.others f G q) old-copy (argument-name P Q so_far.heads f F G p q);
      points = further;
    }

  pub one-more : IsMadeSoFar P R
  one-more = record {
    heads = record {
      names = so_far.heads.names ∙ t.renaming.heads.names;
      args = λ f F H p h. let G = partner P Q so_far.heads f F p in so_far.heads.args f F G.0 p G.1 ∙ t.renaming.heads.args f G.0 H G.1 h;
      ret = λ f F H p h. let G = partner P Q so_far.heads f F p in so_far.heads.ret f F G.0 p G.1 ∙ t.renaming.heads.ret f G.0 H G.1 h;
    };
    renamed = λ f F p. let G = partner P Q so_far.heads f F p in once_more f F G.0 p G.1;
    reaches = λ f i reached. renaming-reaches Q R rename t.renaming so_far.accepted f i (so_far.reaches f i reached);
    was = λ f F p i reached.
        let G = partner P Q so_far.heads f F p in
        let H = partner Q R t.renaming.heads f G.0 G.1 in
        so_far.was f F p i (renaming-was Q R rename t.renaming so_far.accepted f G.0 H.0 G.1 H.1 i reached);
    accepted = accepted_r;
  }

-- the first round
pub first-round : (P Q : Prog) (rename : ℕ → List ℕ → List ℕ) → IsRound P Q rename → IsAccepted P → IsAccepted Q → IsMadeSoFar P Q
first-round P Q rename t accepted accepted_q = record {
  heads = t.renaming.heads;
  renamed = λ f F p. record { rename = rename f; names = new-names P Q rename t f F p; points = t.renaming.points f };
  reaches = λ f i reached. renaming-reaches P Q rename t.renaming accepted f i reached;
  was = λ f F p i reached. let G = partner P Q t.renaming.heads f F p in renaming-was P Q rename t.renaming accepted f F G.0 p G.1 i reached;
  accepted = accepted_q;
}

-- where no copy is apart any more, it is what the pass makes
pub all-made : (P Q : Prog) → IsMadeSoFar P Q → IsAccepted P → ((f : ℕ) (F : Func) → slice_get Q.funcs f ≡ Some F → NoneApart F) → IsMerged P Q
all-made P Q m accepted none = record { heads = m.heads; renamed = m.renamed; none = none; numbers = numbers-kept P Q accepted m.accepted m.heads (λ f F p. let n = m.renamed f F p in record { rename = n.rename; arguments = n.names.arguments; points = n.points }) }
