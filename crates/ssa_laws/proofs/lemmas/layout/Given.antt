-- What the tables tell at a reached point is an argument of the result, or the destination of one of its items.
use Rattle.std.proofs.Common.{◌≡◌, ◌⊎◌, ℕ, suc, ◌+◌, ◌<◌, true, List, [], ◌∷◌, ◌++◌, length, Option, Some, None, refl, sym, ap, subst, ◌∙◌, inl, inr, ⊎_elim, arith}
use Rattle.std.specs.Prelude.{slice_get}
use Rattle.std.proofs.lemmas.Option.{same_Some}
use Rattle.bril_tree.specs.declared.function_tree.Dest.{Dest}
use Rattle.bril_tree.specs.declared.numbered.Instr.{Instr}
use Rattle.bril_tree.specs.declared.numbered.Instr.TheVariants.{Label, Const, Act}
use Rattle.bril_tree.specs.declared.numbered_function.Func.{Func}
use Rattle.bril_tree.specs.declared.program.Prog.{Prog}
use Rattle.bril_tree.specs.declared.types.Ty.{Ty}
use Rattle.bril_tree.specs.Edge.{branches_at, branches_from, onward}
use Rattle.bril_names.specs.Range.{AreBelow}
use Rattle.bril_tree.specs.FunctionForm.{both_or_neither, dest_is_typed, listed}
use Rattle.bril_tree.specs.Numbered.{named, names_in, names_of_functions, variable_names, tree_at, typed_name, dest_tree, item_tree}
use Rattle.bril_tree.specs.Operand.{Location, Variable, Shadow, dest_of}
use Rattle.bril_tree.specs.Sites.{AreSitesSound}
use Rattle.bril_tree.specs.Step.{items_of, code_of, item_at}
use Rattle.bril_tree.specs.Walk.{IsReached, end_of}
use Rattle.bril_tree.specs.Membership.{In}
use Rattle.bril_tree.proofs.Members.{contains_in}
use Rattle.bril_tree.proofs.Trees.{nothing_at}
use Rattle.bril_names.proofs.Naming.{one_number}
use Rattle.bril_tree.proofs.Typings.{IsDestination}
use Rattle.pass_edit_laws.specs.names.Named.{SameName}
use Rattle.pass_edit_laws.specs.names.NamedPlan.{SameHeads}
use Rattle.pass_edit_laws.proofs.lemmas.names.Heads.{argument-stays}
use Rattle.pass_edit_laws.proofs.lemmas.names.Points.{Found, found, found_under, Differ-in}
use Rattle.ssa_laws.specs.inserted_copies.Inserted.{destination, renamed, renamed_at, renamed_dest}
use Rattle.ssa_laws.specs.reaching_definitions.Tables.{Tables, Defines, Writes, Gets, behind}
use Rattle.ssa_laws.specs.layout.Laid.{Setting, args_in, get_tree, home, first, Begins, name_of, Laid}
use Rattle.ssa_laws.proofs.lemmas.inserted_copies.Refines.{renamed-found}
use Rattle.ssa_laws.proofs.lemmas.reaching_definitions.Dominance.{PassedBy, behind-cases, comes-from, part-walk}

module _ (P Q : Prog) (heads : SameHeads P Q) (f : ℕ) where
  abbrev W : List (List ℕ)
  W = names_in (slice_get Q.funcs f)

  -- an item of the result assigns the variable of this name
  pub record AssignsName (n : List ℕ) : Type 0 where
    pub point : ℕ
    pub item : Instr
    pub variable : ℕ
    pub at : item_at Q f point ≡ Some item
    pub dest : dest_of item ≡ Some variable
    pub within : variable < length W
    pub is : named W variable ≡ n

  -- a renamed item with a destination
  moved-assigns : (i j : ℕ) (a : Instr) (x : ℕ) (r : ℕ → List ℕ) (w : List ℕ) → item_at P f i ≡ Some a → dest_of a ≡ Some x → renamed_at P r w f i ≡ tree_at Q f j → AssignsName w
  moved-assigns i j a x r w at d same = by (item_at Q f j) refl
    where
      fa : Found P f i a
      fa = found P f i a at

      there : renamed_at P r w f i ≡ Some (renamed (names_of_functions P.funcs) fa.function.labels r w a)
      there = renamed-found P f i a r w at fa.function fa.there

      dest : (e : Option ℕ) (s : Option Ty) (e' : Option ℕ) (s' : Option Ty) → e ≡ Some x → both_or_neither e s ≡ true → renamed_dest e s w ≡ dest_tree W e' s' → (v : ℕ) × (e' ≡ Some v) × (named W v ≡ w)
      dest None s e' s' q b h = absurd cc
      dest (Some y) None e' s' q b h = absurd cc
      dest (Some y) (Some t) None s' q b h = absurd cc
      dest (Some y) (Some t) (Some v) None q b h = absurd cc
      dest (Some y) (Some t) (Some v) (Some t') q b h = let one = same_Some (typed_name w t) (typed_name (named W v) t') h in (v, refl, sym (ap (λ (z : Dest). z.name) one))

      by_items : (a : Instr) (b : Instr) → dest_of a ≡ Some x → dest_is_typed a ≡ true → (lP lQ : List (List ℕ)) → renamed (names_of_functions P.funcs) lP r w a ≡ item_tree (names_of_functions P.funcs) W lQ b → (v : ℕ) × (dest_of b ≡ Some v) × (named W v ≡ w)
      by_items (Label l) b d t lP lQ h = absurd cc
      by_items (Const y s c) (Label l) d t lP lQ h = absurd cc
      by_items (Const y s c) (Const v s' c') d t lP lQ h = let n : w ≡ named W v = cc in (v, refl, sym n)
      by_items (Const y s c) (Act e s' o args fns ls) d t lP lQ h = absurd cc
      by_items (Act e s o args fns ls) (Label l) d t lP lQ h = absurd cc
      by_items (Act e s o args fns ls) (Const v s' c') d t lP lQ h = absurd cc
      by_items (Act e s o args fns ls) (Act e' s' o' args' fns' ls') d t lP lQ h = let q : renamed_dest e s w ≡ dest_tree W e' s' = cc in dest e s e' s' d t q

      below : (b : Instr) (v : ℕ) → (g : Found Q f j b) → dest_of b ≡ Some v → v < length W
      below (Label l) v g d = absurd cc
      below (Const y s c) v g d = let e : y ≡ v = cc in subst (λ z. z < length W) e g.range.variables.0
      below (Act None s o args fns ls) v g d = absurd cc
      below (Act (Some y) s o args fns ls) v g d = let e : y ≡ v = cc in subst (λ z. z < length W) e g.range.variables.0

      by : (o : Option Instr) → item_at Q f j ≡ o → AssignsName w
      by None e = absurd (let h = sym there ∙ same ∙ nothing_at Q f j e in cc)
      by (Some b) e =
          let fb = found Q f j b e in
          let under = found_under (names_of_functions P.funcs) Q heads.names f j b fb in
          let tree = same_Some _ _ (sym there ∙ same ∙ under.tree) in
          let v = by_items a b d fa.range.typed fa.function.labels fb.function.labels tree in
          record { point = j; item = b; variable = v.0; at = e; dest = v.1; within = below b v.0 fb v.1; is = v.2 }

  -- a `get`
  got-assigns : (j : ℕ) (n : List ℕ) (ty : Ty) → tree_at Q f j ≡ Some (get_tree n ty) → AssignsName n
  got-assigns j n ty tree = by (item_at Q f j) refl
    where
      dest : (e : Option ℕ) (s : Option Ty) → dest_tree W e s ≡ Some (typed_name n ty) → (v : ℕ) × (e ≡ Some v) × (named W v ≡ n)
      dest None s h = absurd cc
      dest (Some v) None h = absurd cc
      dest (Some v) (Some t) h = (v, refl, ap (λ (z : Dest). z.name) (same_Some (typed_name (named W v) t) (typed_name n ty) h))

      by_item : (b : Instr) → item_at Q f j ≡ Some b → (g : Found Q f j b) → item_tree (names_of_functions Q.funcs) W g.function.labels b ≡ get_tree n ty → AssignsName n
      by_item (Label l) e g h = absurd cc
      by_item (Const y s c) e g h = absurd cc
      by_item (Act d s o args fns ls) e g h = have d s refl (dest d s (let q : dest_tree W d s ≡ Some (typed_name n ty) = cc in q)) g.range.variables
        where
          have : (d' : Option ℕ) (s' : Option Ty) → d ≡ d' → (v : ℕ) × (d ≡ Some v) × (named W v ≡ n) → AreBelow (length W) (listed d ++ args) → AssignsName n
          have d' s' q v below = record { point = j; item = Act d s o args fns ls; variable = v.0; at = e; dest = v.1; within = (subst (λ z. AreBelow (length W) (listed z ++ args)) v.1 below).0; is = v.2 }

      by : (o : Option Instr) → item_at Q f j ≡ o → AssignsName n
      by None e = absurd (let h = sym (nothing_at Q f j e) ∙ tree in cc)
      by (Some b) e = let g = found Q f j b e in by_item b e g (same_Some _ _ (sym g.tree ∙ tree))

module _ (P Q : Prog) (table : ℕ → Tables) (name : ℕ → ℕ → List ℕ) (gets : ℕ → ℕ → List ℕ) (sets : ℕ → ℕ → List Setting) (c : ℕ) (t : Laid P Q table name gets sets c) (f : ℕ) (F G : Func) (p : slice_get P.funcs f ≡ Some F) (q : slice_get Q.funcs f ≡ Some G) (sound : AreSitesSound (code_of P f)) where
  abbrev code : List Instr
  code = code_of P f

  abbrev Args : ℕ → Type 0
  Args y = (a : Location) × Begins P Q table name gets sets f a y

  index : (x : ℕ) (xs : List ℕ) → In x xs → (k : ℕ) × (slice_get xs k ≡ Some x)
  index x [] i = absurd i
  index x (y ∷ xs) (inl e) = (0, ap Some (sym e))
  index x (y ∷ xs) (inr i) = let r = index x xs i in (suc r.0, r.1)

  -- a definition has its name as a destination of the result
  defined : (i y : ℕ) → IsReached code i → Defines code (table f) i y → AssignsName P Q t.heads f (name f y)
  defined i y r (Writes x copy d e) = by (item_at P f i) refl
    where
      by : (o : Option Instr) → item_at P f i ≡ o → AssignsName P Q t.heads f (name f y)
      by None at = absurd (let h = sym (ap destination at) ∙ d in cc)
      by (Some a) at = subst (λ z. AssignsName P Q t.heads f (name f z)) e (moved-assigns P Q t.heads f i (home P Q table name gets sets f i) a x (λ x. name_of P Q table name gets sets f ((table f).into i (Variable x))) (name f ((table f).writes i)) at (sym (ap destination at) ∙ d) (t.same f i r copy))
  defined i y r (Gets a g) =
      let l = (t.consistent f).plain i y a r g in
      let k = index y (gets f (suc i)) (t.gets_all f i y a g) in
      let among : In (onward i) (branches_at code i) = subst (λ o. In (onward i) (branches_from code i o)) (sym l.1) (inl refl) in
      let next : IsReached code (suc i) = record { walk = onward i ∷ r.walk; is = (contains_in (onward i) (branches_at code (end_of r.walk)) (subst (λ n. In (onward i) (branches_at code n)) (sym r.ends) among), r.is); ends = refl } in
      let tree = t.got f (suc i) k.0 y next k.1 in
      got-assigns P Q t.heads f (first P Q table name gets sets f (suc i) + k.0) (name f y) tree.0 tree.1

  abbrev IsNameOf : ℕ → ℕ → Type 0
  IsNameOf y v = (v < length (names_in (slice_get Q.funcs f))) × (named (names_in (slice_get Q.funcs f)) v ≡ name f y)

  abbrev IsHad : ℕ → Type 0
  IsHad v = (v < G.args) ⊎ IsDestination G.code v

  pub given-argument : (y : ℕ) → Args y → (v : ℕ) → IsNameOf y v → IsHad v
  given-argument y (Variable x, b) v has =
      let same : SameName (variable_names F.vars) (variable_names G.vars) x v = subst (λ o. SameName (variable_names F.vars) (names_in o) x v) q (subst (λ o. SameName (names_in o) (names_in (slice_get Q.funcs f)) x v) p (b.0, has.0, b.1 ∙ sym has.1)) in
      let less : x < F.args = subst (λ o. x < args_in o) p b.2 in
      inl (argument-stays P Q t.heads f F G p q x v same less)
  given-argument y (Shadow x, b) v has = absurd b

  given-defined : (i y : ℕ) → IsReached code i → Defines code (table f) i y → (v : ℕ) → IsNameOf y v → IsHad v
  given-defined i y r d v has =
      let n = defined i y r d in
      let one : n.variable ≡ v = one_number (names_in (slice_get Q.funcs f)) (Differ-in (slice_get Q.funcs f)) n.variable v n.within has.0 (n.is ∙ sym has.1) in
      inr (record { point = n.point; item = n.item; at = sym (ap (λ o. slice_get (items_of o) n.point) q) ∙ n.at; dest = n.dest ∙ ap Some one })

  pub given-told : (i : ℕ) → IsReached code i → (a : Location) (y : ℕ) → (table f).into i a ≡ Some y → (v : ℕ) → (v < length (names_in (slice_get Q.funcs f))) × (named (names_in (slice_get Q.funcs f)) v ≡ name f y) → (v < G.args) ⊎ IsDestination G.code v
  given-told i r a y h v has = ⊎_elim (λ k. given-argument y k v has) passed (comes-from code sound (table f) Args (t.consistent f) (length r.walk) r.walk (omega arith) r.is a y (ap (λ k. (table f).into k a) r.ends ∙ h))
    where
      passed : PassedBy code sound (table f) Args (t.consistent f) r.walk y → IsHad v
      passed d =
          let is' = part-walk code (d.branch ∷ d.rest) r.walk d.part r.is in
          given-defined (end_of d.rest) y (record { walk = d.rest; is = is'.1; ends = refl }) d.defines v has

  -- the same of what is told behind an item and its `get`s
  pub given-behind : (i : ℕ) → IsReached code i → (a : Location) (y : ℕ) → behind code (table f) i a ≡ Some y → (v : ℕ) → (v < length (names_in (slice_get Q.funcs f))) × (named (names_in (slice_get Q.funcs f)) v ≡ name f y) → (v < G.args) ⊎ IsDestination G.code v
  given-behind i r a y h v has = ⊎_elim (λ d. given-defined i y r d v has) (λ b. given-told i r b.0 y b.1 v has) (behind-cases code sound (table f) Args (t.consistent f) i y a h)
