-- A program with side exits is accepted.
use Rattle.std.proofs.Common.{◌≡◌, ◌⊎◌, ℕ, suc, ◌+◌, ◌<◌, ◌≤◌, Bool, true, false, List, [], ◌∷◌, length, map, Option, Some, None, refl, sym, ap, subst, ◌∙◌, inl, inr, ⊎_elim, arith, true≢false}
use Rattle.std.specs.Prelude.{slice_get, slice_index, is_some, IsTrue, ◌&&◌}
use Rattle.std.specs.Option.{option_map}
use Rattle.std.proofs.lemmas.Bool.{cases_lt}
use Rattle.std.proofs.lemmas.List.{length-map, nil_from_length}
use Rattle.std.proofs.lemmas.Option.{same_Some, slice_get_within}
use Rattle.bril_tree.specs.declared.function_tree.Item.{Item}
use Rattle.bril_tree.specs.declared.numbered.Instr.{Instr}
use Rattle.bril_tree.specs.declared.numbered.Instr.TheVariants.{Label, Act}
use Rattle.bril_tree.specs.declared.numbered_function.Func.{Func}
use Rattle.bril_tree.specs.declared.operation.Op.{Op}
use Rattle.bril_tree.specs.declared.program.Prog.{Prog}
use Rattle.bril_tree.specs.declared.numbered.VarInfo.{VarInfo}
use Rattle.bril_tree.specs.declared.function_tree.Item.TheVariants as item
use Rattle.bril_tree.specs.declared.operation.Op.TheVariants as op
use Rattle.bril_tree.specs.declared.types.Base.TheVariants as base
use Rattle.bril_tree.specs.Accepted.{IsAccepted, IsAcceptedFunction, AreWalksAccepted, leaves_frame}
use Rattle.bril_tree.specs.Assigned.{assigned_of}
use Rattle.bril_tree.specs.Edge.{Branch}
use Rattle.bril_tree.specs.FunctionForm.{listed}
use Rattle.bril_tree.specs.Membership.{In}
use Rattle.bril_tree.specs.Numbered.{item_tree, named, names_in, names_of_functions, tree_at, variable_names}
use Rattle.bril_tree.specs.Operand.{Location, Variable, dest_of, reads_of}
use Rattle.bril_tree.specs.Sites.{needs_site, sites_of, most_sites}
use Rattle.bril_tree.specs.Step.{code_of, item_at, items_of}
use Rattle.bril_tree.specs.Typing.{variable_type, if_typed, is_plain, type_fault, wrong_unless}
use Rattle.bril_tree.specs.Walk.{IsWalk, end_of}
use Rattle.bril_tree.proofs.Acceptance.{walks_of}
use Rattle.bril_tree.proofs.Assignments.{in_or_not}
use Rattle.bril_tree.proofs.Branches.{walk_within}
use Rattle.bril_tree.proofs.Elements.{All-at}
use Rattle.bril_tree.proofs.Members.{contains_in, in_contains, in_append_cases, in_map, in_map_source}
use Rattle.bril_tree.proofs.Typings.{IsDestination, typed_by}
use Rattle.bril_names.specs.Range.{AreBelow}
use Rattle.bril_names.proofs.Naming.{AreBelow-append}
use Rattle.flow_graph.proofs.Told.{some_site}
use Rattle.pass_edit_laws.specs.acceptance.Edited.{Edits, IsNew, IsOld, KeepsTypes, LosesNoDestination}
use Rattle.pass_edit_laws.specs.acceptance.Stays.{FitsByItself}
use Rattle.pass_edit_laws.proofs.lemmas.acceptance.Edited.{bare-new, edit_accepted}
use Rattle.pass_edit_laws.proofs.lemmas.acceptance.Heads.{start_matched}
use Rattle.pass_edit_laws.proofs.lemmas.acceptance.Left.{dest-there}
use Rattle.pass_edit_laws.specs.names.Named.{SameName}
use Rattle.pass_edit_laws.proofs.lemmas.names.Points.{Found, found, same_name-of}
use Rattle.pass_edit_laws.proofs.lemmas.names.Heads.{argument-stays}
use Rattle.pass_edit_laws.proofs.lemmas.names.Standing.{ActionAt, action_at, label_at}
use Rattle.pass_edit_laws.specs.walks.Matched.{MatchedWalk}
use Rattle.pass_edit_laws.proofs.lemmas.walks.Based.{Based, Fine, based_walks_accepted, few_sites, regular-fine, same_length}
use Rattle.pass_edit_laws.proofs.lemmas.walks.Blocks.{IsInBlock, one-block}
use Rattle.pass_edit_laws.proofs.lemmas.walks.Items.{reads_same}
use Rattle.pass_edit_laws.specs.plan.Lines.{jmp_line, listed_item}
use Rattle.pass_edit_laws.specs.labels.Fresh.{labels_in}
use Rattle.pass_edit_laws.proofs.lemmas.names.Items.{name-none, name-source, one-of, no-dest}
use Rattle.pass_edit_laws.proofs.lemmas.acceptance.Typed.{second-holds}
use Rattle.side_laws.specs.Laws.{SideExitsAreAccepted}
use Rattle.side_laws.specs.Sided.{SideExit, kept_lines, retargeted, lines_behind, exit_lines, exit_at}
use Rattle.side_laws.specs.Laid.{Laid, Sort, Old, Retargeted, Line}
use Rattle.side_laws.proofs.lemmas.layout.Laying.{sided-laid}
use Rattle.side_laws.proofs.lemmas.layout.Plans.{A, W, walking, untouched, walking-preserves}
use Rattle.side_laws.proofs.lemmas.acceptance.Walking.{At, Outside, AtLabel, AtLine, AtGuard, From, InExit, all-at, at-guard, at-kept, attempted-asks, bail, same-attempted}

module _ (P Q : Prog) (accepted : IsAccepted P) (st : Laid P Q) (f args result_args : ℕ) (ret : Bool) (was : AreWalksAccepted (code_of P f) args ret) where
  abbrev C : List Instr
  C = code_of P f

  abbrev D : List Instr
  D = code_of Q f

  abbrev V : List (List ℕ)
  V = names_in (slice_get P.funcs f)

  abbrev U : List (List ℕ)
  U = names_in (slice_get Q.funcs f)

  abbrev IsFine : List Branch → Type 0
  IsFine v = Fine (W P Q accepted st) P Q f args result_args ret v

  fine-at : (v : List Branch) (y : Instr) → item_at Q f (end_of v) ≡ Some y → (IsTrue (needs_site (Some y)) → sites_of D v ≡ [] → ⊥) → leaves_frame (Some y) ≡ false → ((x : Location) → In x (reads_of y) → In x (assigned_of (code_of Q f) result_args v).locations) → IsFine v
  fine-at v y at needs stays reads = record {
    needs = λ n s. needs (subst (λ o. IsTrue (needs_site o)) at n) s;
    alone = λ l. absurd (true≢false (sym l ∙ ap leaves_frame at ∙ stays));
    reads = λ z place az i. reads place (subst (λ k. In place (reads_of k)) (sym (same_Some _ _ (sym at ∙ az))) i);
    returns = λ _ none. absurd (let h : None ≡ Some y = sym none ∙ at in cc);
  }

  -- what P's item reads is assigned on P's walk
  assigned-there : (u : List Branch) → IsWalk C u → (a : Instr) → item_at P f (end_of u) ≡ Some a → (x : Location) → In x (reads_of a) → In x (assigned_of C args u).locations
  assigned-there u is a at x i =
      ⊎_elim (λ j. j)
      (λ n. absurd (was.assigned (end_of u) a x at (contains_in x (reads_of a) i) (record { walk = u; is = is; ends = refl; lacks = λ c. n (in_contains x _ c) })))
      (in_or_not x (assigned_of (code_of P f) args u).locations)

  few : (u : List Branch) → IsWalk C u → 0 + length (sites_of C u) ≤ most_sites
  few u is = by (cases_lt most_sites (length (sites_of (code_of P f) u)))
    where
      by : (most_sites < length (sites_of (code_of P f) u)) ⊎ (length (sites_of (code_of P f) u) ≤ most_sites) → 0 + length (sites_of (code_of P f) u) ≤ most_sites
      by (inl l) = absurd (let h = few_sites (code_of P f) was.sites u is in omega (arith, l, h))
      by (inr l) = omega (arith, l)

  pub next-item : (i : ℕ) → i < length C → suc (st.old f i) + st.front f (suc i) ≤ st.old f (suc i)
  next-item i less = let n = st.next f i in omega (arith, n)

  abbrev Block : ℕ → ℕ → Type 0
  Block i point = IsInBlock (st.old f) (st.front f) (length (code_of P f)) next-item i point

  pub record Sum (v : List Branch) : Type 0 where
    pub based : Based (W P Q accepted st) P Q f args result_args ret v
    pub none : based.own ≡ []
    pub block : IsInBlock (st.old f) (st.front f) (length (code_of P f)) next-item (end_of based.base) (end_of v)

  outside-fine : (v : List Branch) (l : MatchedWalk (W P Q accepted st) P Q f args result_args v) → IsFine v
  outside-fine v l = by (exit_at (st.exits f) (end_of l.walk)) refl
    where
      by : (o : Option SideExit) → exit_at (st.exits f) (end_of l.walk) ≡ o → IsFine v
      by None none = regular-fine (W P Q accepted st) P Q f args result_args ret was accepted (walking-preserves P Q accepted st) v l none
      by (Some w) is = guarded (at-guard P Q accepted st f args result_args ret was v (end_of l.walk) w l.matches.points (walk_within C l.walk l.matches.is) is)
        where
          guarded : AtGuard P Q accepted st f args result_args ret was v (end_of l.walk) w → IsFine v
          guarded g = fine-at v (Act g.q.assigned g.q.ty op.Guard g.q.arguments g.q.callees g.q.targets) g.q.at needs refl reads
            where
              needs : IsTrue (needs_site (Some (Act g.q.assigned g.q.ty op.Guard g.q.arguments g.q.callees g.q.targets))) → sites_of D v ≡ [] → ⊥
              needs n none =
                  let counted = same_length (W P Q accepted st) P Q f args result_args (sites_of C l.walk) (sites_of D v) (assigned_of C args l.walk).saved (assigned_of D result_args v).saved l.matches.saved in
                  some_site C l.walk was.sites l.matches.is (ap needs_site g.atP) (nil_from_length (sites_of C l.walk) (counted ∙ ap length none))

              reads : (x : Location) → In x (map Variable g.q.arguments) → In x (assigned_of (code_of Q f) result_args v).locations
              reads x i =
                  let s = in_map_source Variable x g.q.arguments i in
                  let below = (AreBelow-append (length U) (listed g.q.assigned) g.q.arguments g.q.range.variables).1 in
                  let n = name-source V U (g.c ∷ []) g.q.arguments (sym g.q.has_args) (g.below, tt) below s.0 s.1 in
                  subst (λ z. In z (assigned_of (code_of Q f) result_args v).locations) (sym s.2)
                  (l.matches.locations (Variable n.0) (Variable s.0) (n.2, tt) (assigned-there l.walk l.matches.is (Act None None op.Guard (g.c ∷ []) [] (g.label ∷ [])) g.atP (Variable n.0) (in_map Variable n.0 (g.c ∷ []) n.1)))

  outside-sum : (v : List Branch) → MatchedWalk (W P Q accepted st) P Q f args result_args v → Sum v
  outside-sum v l =
      let point = l.matches.points in
      let n = st.next f (end_of l.walk) in
      record {
        based = record {
          base = l.walk;
          is = l.matches.is;
          own = [];
          rest = sites_of (code_of Q f) v;
          xs = (assigned_of (code_of P f) args l.walk).saved;
          ys = (assigned_of (code_of Q f) result_args v).saved;
          sites = refl;
          zipped = l.matches.saved;
          few = few l.walk l.matches.is;
          fine = outside-fine v l;
        };
        none = refl;
        block = record { inside = walk_within C l.walk l.matches.is; low = omega (arith, point); high = λ less. omega (arith, point, n) };
      }

  -- in an exit
  exit-sum : (v : List Branch) (w : SideExit) (among : In w (st.exits f)) → From P Q accepted st f args result_args ret was w v → (count : ℕ) → 0 < count → InExit P Q accepted st f args result_args ret was w among (end_of v) count → IsFine v → Sum v
  exit-sum v w among from count some place fine =
      let least = place.from in
      let exact = place.exact in
      let before = (st.stands f w among).low in
      let within = (st.stands f w among).high in
      let ends = from.ends in
      let n = st.next f (bail P Q accepted st f args result_args ret was w) in
      record {
        based = record {
          base = from.base;
          is = from.is;
          own = [];
          rest = sites_of (code_of Q f) v;
          xs = (assigned_of (code_of P f) args from.base).saved;
          ys = (assigned_of (code_of Q f) result_args v).saved;
          sites = refl;
          zipped = from.saved;
          few = few from.base from.is;
          fine = fine;
        };
        none = refl;
        block = subst (λ i. IsInBlock (st.old f) (st.front f) (length (code_of P f)) next-item i (end_of v)) (sym from.ends)
            (record { inside = subst (λ i. i ≤ length (code_of P f)) from.ends (walk_within C from.base from.is); low = omega (arith, least, before); high = λ less. omega (arith, exact, within, some, n) });
      }

  pub summed : (v : List Branch) → At P Q accepted st f args result_args ret was v → Sum v
  summed v (Outside l) = outside-sum v l
  summed v (AtLabel w among from place lines u ends o) =
      let l = label_at Q f (end_of v) w.name lines.0 in
      exit-sum v w among from (length (exit_lines (tree_at P f) (labels_in P f) w)) (omega arith) place (fine-at v (Label l.number) l.at (λ n. absurd (true≢false (sym n))) refl (λ x i. absurd i))
  summed v (AtLine w among from [] place lines u p o) =
      let j = action_at Q f (end_of v) None op.Jmp [] [] (named (labels_in P f) w.pair.other ∷ []) lines.0 in
      exit-sum v w among from (length (lines_behind (tree_at P f) (labels_in P f) [] w.pair.other)) (omega arith) place
      (fine-at v (Act j.assigned j.ty op.Jmp j.arguments j.callees j.targets) j.at (λ n. absurd (true≢false (sym n))) refl (λ x i. let s = in_map_source Variable x j.arguments i in absurd (name-none U j.arguments j.has_args s.0 s.1)))
  summed v (AtLine w among from (i ∷ rest) place lines u p o) =
      let h = at-kept P Q accepted st f args result_args ret was v u i rest w.pair.other (st.paired f w among).fine.turning.stands lines p o in
      let asks = attempted-asks h.both.item (sym (same-attempted (A P Q accepted st f) h.item h.both.item h.both.same) ∙ h.attempted) in
      let count = h.count in
      exit-sum v w among from (length (lines_behind (tree_at P f) (labels_in P f) (i ∷ rest) w.pair.other)) (omega (arith, count)) place
      (fine-at v h.both.item h.both.at (λ n. absurd (true≢false (sym n ∙ asks.closed))) asks.stays
      (λ x i. let q = reads_same (A P Q accepted st f) (Some h.item) h.both.item x h.both.same i in
      h.over.locations q.1 x q.4 (assigned-there h.walk h.over.is q.0 (h.at ∙ q.2) q.1 q.3)))

  once : (s t u : ℕ) → t ≡ st.old f s → exit_at (st.exits f) s ≡ None → u ≡ st.old f s → exit_at (st.exits f) s ≡ None → t ≡ u
  once s t u b r c k = b ∙ sym c

  pub laid-walks : MatchedWalk (W P Q accepted st) P Q f args result_args [] → AreWalksAccepted (code_of Q f) result_args ret
  laid-walks start =
      based_walks_accepted (W P Q accepted st) P Q f args result_args ret was once all
      (λ v v' is is' e. (
        (sum v is).none ∙ sym (sum v' is').none,
        one-block (st.old f) (st.front f) (length (code_of P f)) next-item (end_of v) (end_of (sum v is).based.base) (end_of (sum v' is').based.base) (sum v is).block
            (subst (λ n. IsInBlock (st.old f) (st.front f) (length (code_of P f)) next-item (end_of (sum v' is').based.base) n) (sym e) (sum v' is').block),
      ))
    where
      sum : (v : List Branch) → IsWalk (code_of Q f) v → Sum v
      sum v is = summed v (all-at P Q accepted st f args result_args ret was start v is)

      all : (v : List Branch) → IsWalk (code_of Q f) v → Based (W P Q accepted st) P Q f args result_args ret v
      all v is = (sum v is).based

-- ---- items

nil-of : {X Y : Type 0} (g : X → Y) (xs : List X) → map g xs ≡ [] → xs ≡ []
nil-of g [] e = refl
nil-of g (x ∷ xs) e = absurd cc

module _ (P Q : Prog) (accepted : IsAccepted P) (st : Laid P Q) (f : ℕ) (F G : Func) (p : slice_get P.funcs f ≡ Some F) (q : slice_get Q.funcs f ≡ Some G) where
  inP : names_in (slice_get P.funcs f) ≡ variable_names F.vars
  inP = ap names_in p

  inQ : names_in (slice_get Q.funcs f) ≡ variable_names G.vars
  inQ = ap names_in q

  -- an item of Q of which the tree is known
  exact : (o : Op) (j : ℕ) (args labels : List (List ℕ)) (n : ActionAt Q f j None o args [] labels) (xs ls : List ℕ) → n.arguments ≡ xs → n.targets ≡ ls → item_at Q f j ≡ Some (Act None None o xs [] ls)
  exact o j args labels n xs ls ex el =
      let d = no-dest (names_in (slice_get Q.funcs f)) n.assigned n.ty n.range.typed n.has_dest in
      n.at ∙ (λ i. Some (Act (d.0 i) (d.1 i) o (ex i) (nil-of (named (names_of_functions Q.funcs)) n.callees n.has_funcs i) (el i)))

  new-at : (j : ℕ) (b c : Instr) → item_at Q f j ≡ Some b → item_at Q f j ≡ Some c → IsNew P Q f F G c → IsNew P Q f F G b
  new-at j b c at ct h = subst (IsNew P Q f F G) (same_Some _ _ (sym ct ∙ at)) h

  -- a destination of P stays one, since all of P's items but guards stand in Q
  dest-stays : (x y : ℕ) → SameName (variable_names F.vars) (variable_names G.vars) x y → (i : ℕ) (a : Instr) → item_at P f i ≡ Some a → dest_of a ≡ Some x → IsDestination G.code y
  dest-stays x y name i a at dest = dest-there P Q st.heads f F G p q x y name i a at dest (st.old f i) (sym (untouched P Q accepted st f i inside (unpaired (exit_at (st.exits f) i) refl)))
    where
      inside : i ≤ length (code_of P f)
      inside = let w = slice_get_within (code_of P f) i a at in omega (arith, w)

      unpaired : (o : Option SideExit) → exit_at (st.exits f) i ≡ o → exit_at (st.exits f) i ≡ None
      unpaired None e = e
      unpaired (Some w) e =
          let o = st.owners f i w e in
          let g = (st.paired f w o.0).fine in
          let same : a ≡ Act None None op.Guard (g.tested ∷ []) [] (g.guards.0 ∷ []) = same_Some _ _ (sym at ∙ ap (item_at P f) (sym o.1) ∙ g.guards.1) in
          absurd (let z : None ≡ Some x = sym (ap dest_of same) ∙ dest in cc)

  loses-none : (b : Instr) → LosesNoDestination P Q f F G b
  loses-none b x y name among i a at dest = dest-stays x y name i a at dest

  -- a variable of P with a type is an argument of Q, or has a destination there
  typed-left : (x y : ℕ) → SameName (variable_names F.vars) (variable_names G.vars) x y → if_typed (is_plain base.Bool) (variable_type F.vars x) ≡ true → (y < G.args) ⊎ IsDestination G.code y
  typed-left x y name typed = ⊎_elim (λ l. inl (argument-stays P Q st.heads f F G p q x y name l)) (λ r. ⊎_elim dest none r) (typed_by F x (let c = length-map F.vars (λ (v : VarInfo). v.name) in let n = name.0 in omega (arith, c, n)))
    where
      dest : IsDestination F.code x → (y < G.args) ⊎ IsDestination G.code y
      dest d = inr (dest-stays x y name d.point d.item (ap (λ o. slice_get (items_of o) d.point) p ∙ d.at) d.dest)

      none : variable_type F.vars x ≡ None → (y < G.args) ⊎ IsDestination G.code y
      none n = absurd (let z : true ≡ false = sym typed ∙ ap (if_typed (is_plain base.Bool)) n in cc)

  old-item : (j : ℕ) (b : Instr) (i : ℕ) → tree_at Q f j ≡ tree_at P f i → IsOld P Q f F G j b
  old-item j b i e = record { i = i; tree = e; stays = inr (loses-none b) }

  -- a guard tests a bool
  guard-fits : (j : ℕ) (b : Instr) → item_at Q f j ≡ Some b → (i : ℕ) (w : SideExit) (a : Item) → exit_at (st.exits f) i ≡ Some w → tree_at P f i ≡ Some a → tree_at Q f j ≡ Some (retargeted w.name a) → IsNew P Q f F G b
  guard-fits j b at i w a is ta tq =
      new-at j b (Act None None op.Guard (slice_index n.arguments 0 ∷ []) [] (slice_index n.targets 0 ∷ [])) at item
      (record { dest = λ x y name d. absurd (let e : None ≡ Some y = d in cc); fits = fits })
    where
      o : In w (st.exits f) × (w.pair.guard ≡ i)
      o = st.owners f i w is

      c : ℕ
      c = (st.paired f w (st.owners f i w is).0).fine.tested

      label : ℕ
      label = (st.paired f w (st.owners f i w is).0).fine.guards.0

      atP : item_at P f i ≡ Some (Act None None op.Guard ((st.paired f w (st.owners f i w is).0).fine.tested ∷ []) [] ((st.paired f w (st.owners f i w is).0).fine.guards.0 ∷ []))
      atP = ap (item_at P f) (sym (st.owners f i w is).1) ∙ (st.paired f w (st.owners f i w is).0).fine.guards.1

      name : List ℕ
      name = named (names_in (slice_get P.funcs f)) (st.paired f w (st.owners f i w is).0).fine.tested

      treeQ : tree_at Q f j ≡ Some (item.Act None op.Guard (named (names_in (slice_get P.funcs f)) (st.paired f w (st.owners f i w is).0).fine.tested ∷ []) [] (w.name ∷ []))
      treeQ = tq ∙ ap (option_map (retargeted w.name)) (sym ta ∙ (found P f i (Act None None op.Guard ((st.paired f w (st.owners f i w is).0).fine.tested ∷ []) [] ((st.paired f w (st.owners f i w is).0).fine.guards.0 ∷ [])) atP).tree)

      n : ActionAt Q f j None op.Guard (named (names_in (slice_get P.funcs f)) (st.paired f w (st.owners f i w is).0).fine.tested ∷ []) [] (w.name ∷ [])
      n = action_at Q f j None op.Guard (named (names_in (slice_get P.funcs f)) (st.paired f w (st.owners f i w is).0).fine.tested ∷ []) [] (w.name ∷ []) treeQ

      one : n.arguments ≡ slice_index n.arguments 0 ∷ []
      one = one-of (named (names_in (slice_get Q.funcs f))) n.arguments (named (names_in (slice_get P.funcs f)) (st.paired f w (st.owners f i w is).0).fine.tested) n.has_args

      item : item_at Q f j ≡ Some (Act None None op.Guard (slice_index n.arguments 0 ∷ []) [] (slice_index n.targets 0 ∷ []))
      item = exact op.Guard j (named (names_in (slice_get P.funcs f)) (st.paired f w (st.owners f i w is).0).fine.tested ∷ []) (w.name ∷ []) n (slice_index n.arguments 0 ∷ []) (slice_index n.targets 0 ∷ []) one (one-of (named n.function.labels) n.targets w.name n.has_labels)

      fits : KeepsTypes F G → FitsByItself Q G (Act None None op.Guard (slice_index n.arguments 0 ∷ []) [] (slice_index n.targets 0 ∷ []))
      fits types = record { shaped = refl; calls = refl; typed = ap (λ z. wrong_unless (true && z)) bit }
        where
          below : AreBelow (length (names_in (slice_get Q.funcs f))) n.arguments
          below = (AreBelow-append (length (names_in (slice_get Q.funcs f))) (listed n.assigned) n.arguments n.range.variables).1

          cP : ℕ
          cP = (st.paired f w (st.owners f i w is).0).fine.tested

          belowP : (st.paired f w (st.owners f i w is).0).fine.tested < length (names_in (slice_get P.funcs f))
          belowP = (found P f i (Act None None op.Guard ((st.paired f w (st.owners f i w is).0).fine.tested ∷ []) [] ((st.paired f w (st.owners f i w is).0).fine.guards.0 ∷ [])) atP).range.variables.0

          source : (x : ℕ) × In x ((st.paired f w (st.owners f i w is).0).fine.tested ∷ []) × SameName (names_in (slice_get P.funcs f)) (names_in (slice_get Q.funcs f)) x (slice_index n.arguments 0)
          source = name-source (names_in (slice_get P.funcs f)) (names_in (slice_get Q.funcs f)) ((st.paired f w (st.owners f i w is).0).fine.tested ∷ []) n.arguments (sym n.has_args) (belowP, tt) below (slice_index n.arguments 0)
              (subst (In (slice_index n.arguments 0)) (sym one) (inl refl))

          same : source.0 ≡ (st.paired f w (st.owners f i w is).0).fine.tested
          same = ⊎_elim (λ e. e) (λ z. absurd z) source.1

          names : SameName (variable_names F.vars) (variable_names G.vars) (st.paired f w (st.owners f i w is).0).fine.tested (slice_index n.arguments 0)
          names = same_name-of P Q f F G p q (st.paired f w (st.owners f i w is).0).fine.tested (slice_index n.arguments 0) (subst (λ x. SameName (names_in (slice_get P.funcs f)) (names_in (slice_get Q.funcs f)) x (slice_index n.arguments 0)) same source.2)

          facts : IsAcceptedFunction P F
          facts = All-at (IsAcceptedFunction P) P.funcs f F accepted.functions p

          typed : type_fault P F (Act None None op.Guard ((st.paired f w (st.owners f i w is).0).fine.tested ∷ []) [] ((st.paired f w (st.owners f i w is).0).fine.guards.0 ∷ [])) ≡ None
          typed = All-at (λ (z : Instr). type_fault P F z ≡ None) F.code i (Act None None op.Guard ((st.paired f w (st.owners f i w is).0).fine.tested ∷ []) [] ((st.paired f w (st.owners f i w is).0).fine.guards.0 ∷ [])) facts.typed
              (ap (λ o. slice_get (items_of o) i) (sym p) ∙ atP)

          was : if_typed (is_plain base.Bool) (variable_type F.vars (st.paired f w (st.owners f i w is).0).fine.tested) ≡ true
          was = second-holds true (if_typed (is_plain base.Bool) (variable_type F.vars (st.paired f w (st.owners f i w is).0).fine.tested)) typed

          -- the variable is an argument or has a destination left
          bit : if_typed (is_plain base.Bool) (variable_type G.vars (slice_index n.arguments 0)) ≡ true
          bit = ap (if_typed (is_plain base.Bool)) (sym (keeps types)) ∙ was
            where
              keeps : KeepsTypes F G → variable_type F.vars (st.paired f w (st.owners f i w is).0).fine.tested ≡ variable_type G.vars (slice_index n.arguments 0)
              keeps types = types (st.paired f w (st.owners f i w is).0).fine.tested (slice_index n.arguments 0) names left
                where
                  left : (slice_index n.arguments 0 < G.args) ⊎ IsDestination G.code (slice_index n.arguments 0)
                  left = typed-left (st.paired f w (st.owners f i w is).0).fine.tested (slice_index n.arguments 0) names was

  pub kept-line : (kept : List ℕ) (a : Item) → In a (kept_lines (tree_at P f) kept) → (i : ℕ) × (tree_at P f i ≡ Some a)
  kept-line [] a among = absurd among
  kept-line (i ∷ kept) a among = ⊎_elim (λ m. (i, here (tree_at P f i) m)) (λ m. kept-line kept a m) (in_append_cases a (listed_item (tree_at P f i)) (kept_lines (tree_at P f) kept) among)
    where
      here : (o : Option Item) → In a (listed_item o) → o ≡ Some a
      here None m = absurd m
      here (Some c) (inl e) = ap Some (sym e)
      here (Some c) (inr m) = absurd m

  items : (j : ℕ) (b : Instr) → item_at Q f j ≡ Some b → IsNew P Q f F G b ⊎ IsOld P Q f F G j b
  items j b at = by_tree (found Q f j b at)
    where
      by : (a : Item) → tree_at Q f j ≡ Some a → Sort P Q st.exits f a → IsNew P Q f F G b ⊎ IsOld P Q f F G j b
      by a ta (Old i none e) = inr (old-item j b i (ta ∙ sym e))
      by a ta (Retargeted i w c is tc e) = inl (guard-fits j b at i w c is tc (ta ∙ ap Some e))
      by a ta (Line w among (inl e)) =
          let l = label_at Q f j w.name (ta ∙ ap Some e) in
          inl (new-at j b (Label l.number) at l.at (bare-new P Q f F G (Label l.number) refl (record { shaped = refl; calls = refl; typed = refl })))
      by a ta (Line w among (inr m)) = ⊎_elim (λ k. let i = kept-line w.pair.kept a k in inr (old-item j b i.0 (ta ∙ sym i.1))) (λ k. ⊎_elim (λ e. inl (jmp e)) (λ z. absurd z) k)
          (in_append_cases a (kept_lines (tree_at P f) w.pair.kept) (jmp_line (named (labels_in P f) w.pair.other) ∷ []) m)
        where
          jmp : a ≡ jmp_line (named (labels_in P f) w.pair.other) → IsNew P Q f F G b
          jmp e =
              let l = named (labels_in P f) w.pair.other in
              let n = action_at Q f j None op.Jmp [] [] (named (labels_in P f) w.pair.other ∷ []) (ta ∙ ap Some e) in
              new-at j b (Act None None op.Jmp [] [] (slice_index n.targets 0 ∷ [])) at
              (exact op.Jmp j [] (named (labels_in P f) w.pair.other ∷ []) n [] (slice_index n.targets 0 ∷ []) (nil-of (named (names_in (slice_get Q.funcs f))) n.arguments n.has_args) (one-of (named n.function.labels) n.targets (named (labels_in P f) w.pair.other) n.has_labels))
              (bare-new P Q f F G (Act None None op.Jmp [] [] (slice_index n.targets 0 ∷ [])) refl (record { shaped = refl; calls = refl; typed = refl }))

      by_tree : (h : Found Q f j b) → IsNew P Q f F G b ⊎ IsOld P Q f F G j b
      by_tree h = by (item_tree (names_of_functions Q.funcs) (names_in (slice_get Q.funcs f)) h.function.labels b) h.tree (st.sorts f j (item_tree (names_of_functions Q.funcs) (names_in (slice_get Q.funcs f)) h.function.labels b) h.tree)

  edits : Edits (W P Q accepted st) P Q f F G
  edits = record {
    items = items;
    walks = inr (subst (λ r. AreWalksAccepted (code_of Q f) G.args (is_some r)) (st.heads.ret f F G p q)
        (laid-walks P Q accepted st f F.args G.args (is_some F.ret) (walks_of P accepted f F p) (start_matched P Q st.heads f F G p q (walking P Q accepted st) (sym (st.start f)))));
  }

pub laid-accepted : (P Q : Prog) → IsAccepted P → Laid P Q → IsAccepted Q
laid-accepted P Q accepted st = edit_accepted (λ X Y. W P Q accepted st) P Q accepted (walking-preserves P Q accepted st) st.heads (λ f F G p q. edits P Q accepted st f F G p q)

pub exits-accepted : SideExitsAreAccepted
exits-accepted P Q accepted made = laid-accepted P Q accepted (sided-laid P Q accepted made)
