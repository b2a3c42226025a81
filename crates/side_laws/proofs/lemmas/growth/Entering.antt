-- The entries of labels of a program with side exits: each is one of the program, or one of two that an exit has.
use Rattle.std.proofs.Common.{◌≡◌, ◌⊎◌, ℕ, suc, ◌+◌, ◌*◌, ◌<◌, ◌≤◌, true, List, [], ◌∷◌, ◌++◌, length, map, Option, Some, None, refl, sym, ap, subst, ◌∙◌, inl, inr, arith}
use Rattle.std.specs.Prelude.{slice_get, is_some}
use Rattle.std.specs.Option.{option_map}
use Rattle.std.proofs.lemmas.Option.{same_Some}
use Rattle.program_numbers.specs.Entries.{Enters, IsEntryCount}
use Rattle.bril_tree.specs.declared.edge.Edge.{Edge}
use Rattle.bril_tree.specs.declared.function_tree.Item.{Item}
use Rattle.bril_tree.specs.declared.numbered.Instr.{Instr}
use Rattle.bril_tree.specs.declared.numbered.Instr.TheVariants.{Label, Const, Act}
use Rattle.bril_tree.specs.declared.numbered_function.Func.{Func}
use Rattle.bril_tree.specs.declared.program.Prog.{Prog}
use Rattle.bril_tree.specs.declared.function_tree.Item.TheVariants as item
use Rattle.bril_tree.specs.declared.operation.Op.TheVariants as op
use Rattle.bril_tree.specs.Accepted.{IsAccepted, AreWalksAccepted}
use Rattle.bril_tree.specs.Edge.{Branch, branches_at, branches_from, item_branches, onward, jump, abort}
use Rattle.bril_tree.specs.Leaving.{IsEdge, edge_of, leave_of}
use Rattle.bril_tree.specs.Membership.{In}
use Rattle.bril_tree.specs.Numbered.{item_tree, named, names_in, names_of_functions, point_tree, tree_at, variable_names}
use Rattle.bril_tree.specs.Operand.{Location}
use Rattle.bril_tree.specs.Sites.{needs_site, sites_of}
use Rattle.bril_tree.specs.Step.{code_of, item_at, items_of, point_of}
use Rattle.bril_tree.specs.Walk.{IsWalk, end_of}
use Rattle.bril_tree.proofs.Acceptance.{walks_of}
use Rattle.bril_tree.proofs.Branches.{walk_within}
use Rattle.bril_tree.proofs.Members.{contains_in, in_contains, in_map_source}
use Rattle.bril_names.proofs.Naming.{one_number}
use Rattle.flow_graph.proofs.Told.{some_site, same_sites}
use Rattle.pass_edit_laws.proofs.lemmas.names.Points.{found, label_once}
use Rattle.pass_edit_laws.proofs.lemmas.names.Standing.{action_at, one_target, label_at}
use Rattle.pass_edit_laws.proofs.lemmas.numbers.Edges.{edge-back, label-back}
use Rattle.pass_edit_laws.proofs.lemmas.numbers.Entering.{EntryMatched, few-entries}
use Rattle.pass_edit_laws.proofs.lemmas.steps.Attempts.{is_attempted}
use Rattle.pass_edit_laws.specs.walks.Matched.{MatchedWalk, SavedSetsMatch}
use Rattle.pass_edit_laws.specs.plan.Lines.{jmp_line, listed_item}
use Rattle.pass_edit_laws.specs.labels.Fresh.{labels_in}
use Rattle.side_laws.specs.Passage.{Passage}
use Rattle.side_laws.specs.Sided.{SideExit, kept_lines, retargeted_by, lines_behind, exit_lines, exit_at}
use Rattle.side_laws.specs.Laid.{Laid, Stands}
use Rattle.side_laws.proofs.lemmas.growth.Numbers.{start}
use Rattle.side_laws.proofs.lemmas.pairs.Passages.{attempted-goes}
use Rattle.side_laws.proofs.lemmas.layout.Plans.{W, walking-preserves}
use Rattle.side_laws.proofs.lemmas.acceptance.Walking.{At, Outside, AtLabel, AtLine, AtGuard, all-at, at-guard, at-kept, other-label, same-attempted}

one-branch : (b c : Branch) → In b (c ∷ []) → b ≡ c
one-branch b c (inl e) = e
one-branch b c (inr n) = absurd n

-- what is kept is no label
pub attempted-named : (fs vs ls : List (List ℕ)) (a : Instr) (name : List ℕ) → is_attempted a ≡ true → item_tree fs vs ls a ≡ item.Label name → ⊥
attempted-named fs vs ls (Label l) name e s = cc
attempted-named fs vs ls (Const d t v) name e s = cc
attempted-named fs vs ls (Act d t o args fns ms) name e s = cc

pub retargeted-back : (o : Option SideExit) (t : Option Item) (name : List ℕ) → option_map (retargeted_by o) t ≡ Some (item.Label name) → t ≡ Some (item.Label name)
retargeted-back o None name e = absurd (let n : None ≡ Some (item.Label name) = e in cc)
retargeted-back None (Some a) name e = e
retargeted-back (Some w) (Some (item.Label n)) name e = e
retargeted-back (Some w) (Some (item.Const d t v)) name e = absurd cc
retargeted-back (Some w) (Some (item.Act d o args fns ls)) name e = absurd cc

-- ---- what an exit brings

pub data Brought : Type 0 where
  FromGuard : Brought
  FromJmp : Brought

abbrev pub tokens : List SideExit → List (SideExit × Brought)
tokens [] = []
tokens (w ∷ exits) = (w, FromGuard) ∷ (w, FromJmp) ∷ tokens exits

tokens-length : (exits : List SideExit) → length (tokens exits) ≡ 2 * length exits
tokens-length [] = refl
tokens-length (w ∷ exits) = let r = tokens-length exits in omega (arith, r)

tokens-in : (exits : List SideExit) (w : SideExit) (k : Brought) → In w exits → In (w, k) (tokens exits)
tokens-in [] w k i = absurd i
tokens-in (x ∷ exits) w FromGuard (inl e) = inl (ap (λ (z : SideExit). (z, FromGuard)) e)
tokens-in (x ∷ exits) w FromJmp (inl e) = inr (inl (ap (λ (z : SideExit). (z, FromJmp)) e))
tokens-in (x ∷ exits) w k (inr i) = inr (inr (tokens-in exits w k i))

module _ (P Q : Prog) (accepted : IsAccepted P) (st : Laid P Q) (f : ℕ) (F G : Func) (p : slice_get P.funcs f ≡ Some F) (q : slice_get Q.funcs f ≡ Some G) where
  abbrev C : List Instr
  C = code_of P f

  abbrev D : List Instr
  D = code_of Q f

  here : code_of P f ≡ F.code
  here = ap items_of p

  there : code_of Q f ≡ G.code
  there = ap items_of q

  was : AreWalksAccepted (code_of P f) F.args (is_some F.ret)
  was = walks_of P accepted f F p

  -- a label of G by its name
  name-there : (j l : ℕ) → slice_get G.code j ≡ Some (Label l) → tree_at Q f j ≡ Some (item.Label (named G.labels l))
  name-there j l at = ap (λ o. point_tree (names_of_functions Q.funcs) o j) q ∙ ap (option_map (item_tree (names_of_functions Q.funcs) (variable_names G.vars) G.labels)) at

  named-so : (j l : ℕ) (name : List ℕ) → slice_get G.code j ≡ Some (Label l) → tree_at Q f j ≡ Some (item.Label name) → named G.labels l ≡ name
  named-so j l name at is = let e : item.Label (named G.labels l) ≡ item.Label name = same_Some _ _ (sym (name-there j l at) ∙ is) in cc

  -- a leave point of Q stands where that of P does
  abbrev pub L : Option ℕ → ℕ → Option ℕ → Type 0
  L a l None = a ≡ None
  L a l (Some i) = a ≡ Some (st.old f i)

  one-leave : (a c b : Option ℕ) (l k : ℕ) → L a l b → L c k b → a ≡ c
  one-leave a c None l k r s = r ∙ sym s
  one-leave a c (Some i) l k r s = r ∙ sym s

  -- the entries of an exit: from the speculation of its guard to its label, and from its `jmp` to the other label
  abbrev pub IsNew : Option ℕ → ℕ → SideExit × Brought → Type 0
  IsNew leave l (w, FromGuard) = (named G.labels l ≡ w.name) × ((u : List Branch) × IsWalk (code_of P f) u × (end_of u ≡ w.pair.guard) × ((s : ℕ) × (rest : List ℕ) × (sites_of (code_of P f) u ≡ s ∷ rest) × (leave ≡ Some (st.old f s))))
  IsNew leave l (w, FromJmp) = (named G.labels l ≡ named (labels_in P f) w.pair.other) × ((among : In w (st.exits f)) × (n : ℕ) × (leave ≡ Some n) × (n + 1 ≡ (st.stands f w among).point + length (exit_lines (tree_at P f) (labels_in P f) w)))

  one-new : (a c : Option ℕ) (l k : ℕ) (x : SideExit × Brought) → l < length G.labels → k < length G.labels → IsNew a l x → IsNew c k x → (a ≡ c) × (l ≡ k)
  one-new a c l k (w, FromGuard) low high g h =
      let x = g.1 in
      let y = h.1 in
      let same : g.1.3.0 ∷ g.1.3.1 ≡ h.1.3.0 ∷ h.1.3.1 = sym g.1.3.2 ∙ same_sites (code_of P f) was.sites g.1.0 h.1.0 g.1.1 h.1.1 (g.1.2 ∙ sym h.1.2) ∙ h.1.3.2 in
      let site : g.1.3.0 ≡ h.1.3.0 = cc in
      (g.1.3.3 ∙ ap (λ s. Some (st.old f s)) site ∙ sym h.1.3.3, one_number G.labels G.formed.labels_differ l k low high (g.0 ∙ sym h.0))
  one-new a c l k (w, FromJmp) low high g h =
      let mine = st.stands f w g.1.0 in
      let theirs = st.stands f w h.1.0 in
      let same = label_once Q f mine.point theirs.point w.name mine.lines.0 theirs.lines.0 in
      let e = g.1.3 in
      let d = h.1.3 in
      let n : g.1.1 ≡ h.1.1 = omega (arith, same, e, d) in
      (g.1.2 ∙ ap Some n ∙ sym h.1.2, one_number G.labels G.formed.labels_differ l k low high (g.0 ∙ sym h.0))

  abbrev pub Entered : Option ℕ → ℕ → Type 0
  Entered leave l = EntryMatched F G L leave l ⊎ ((x : SideExit × Brought) × In x (tokens (st.exits f)) × IsNew leave l x)

  -- an edge of P to an item at which Q has the label
  at-old : (edge : Edge) → IsEdge (code_of P f) edge → (l leave j : ℕ) → j ≡ st.old f edge.to → slice_get G.code j ≡ Some (Label l) → leave ≡ st.old f edge.leave → Entered (Some leave) l
  at-old edge is l leave j to at leaves =
      let inside : edge.to ≤ length (code_of P f) = subst (λ n. n ≤ length (code_of P f)) (sym (ap (λ (d : Edge). d.to) is.are)) (walk_within (code_of P f) (is.branch ∷ is.walk) (is.at, is.is)) in
      let tree = retargeted-back (exit_at (st.exits f) edge.to) (tree_at P f edge.to) (named G.labels l) (sym (st.placed f edge.to inside) ∙ ap (tree_at Q f) (sym to) ∙ name-there j l at) in
      let m = label-back P Q f F G p q edge.to j l (tree ∙ sym (name-there j l at)) at in
      inl (record { from = Some edge.leave; to = m.0; enters = (edge, subst (λ c. IsEdge c edge) here is, refl, m.1); leaves = ap Some leaves; same = m.2 })

  -- what comes next in an exit is no label
  plain-head : (j : ℕ) (kept : List ℕ) (other from to : ℕ) → Passage (code_of P f) from kept to → Stands P Q f j (lines_behind (tree_at P f) (labels_in P f) kept other) → (name : List ℕ) → tree_at Q f j ≡ Some (item.Label name) → ⊥
  plain-head j [] other from to passage s name e = let g = sym s.0 ∙ e in cc
  plain-head j (i ∷ kept) other from to passage s name e =
      let h = passage.2 in
      let g = found P f i h.item h.at in
      let tree = item_tree (names_of_functions P.funcs) (names_in (slice_get P.funcs f)) g.function.labels h.item in
      let first : Stands P Q f j (item_tree (names_of_functions P.funcs) (names_in (slice_get P.funcs f)) g.function.labels h.item ∷ lines_behind (tree_at P f) (labels_in P f) kept other) = subst (λ z. Stands P Q f j ((listed_item z ++ kept_lines (tree_at P f) kept) ++ jmp_line (named (labels_in P f) other) ∷ [])) g.tree s in
      attempted-named (names_of_functions P.funcs) (names_in (slice_get P.funcs f)) g.function.labels h.item name passage.3 (same_Some _ _ (sym first.0 ∙ e))

  module _ (v : List Branch) (b : Branch) (among : In b (branches_at (code_of Q f) (end_of v))) (leave l : ℕ) (leaves : leave ≡ (edge_of (sites_of (code_of Q f) v) b).leave) (at : slice_get G.code b.to ≡ Some (Label l)) where
    only-onward : (y : Instr) → item_at Q f (end_of v) ≡ Some y → item_branches D (end_of v) y ≡ onward (end_of v) ∷ [] → b ≡ onward (end_of v)
    only-onward y is goes = one-branch b (onward (end_of v)) (subst (In b) goes (subst (λ o. In b (branches_from D (end_of v) o)) is among))

    on-here : b ≡ onward (end_of v) → slice_get G.code (suc (end_of v)) ≡ Some (Label l)
    on-here e = subst (λ (c : Branch). slice_get G.code c.to ≡ Some (Label l)) e at

    none-on : b ≡ onward (end_of v) → (kept : List ℕ) (other from to : ℕ) → Passage (code_of P f) from kept to → Stands P Q f (suc (end_of v)) (lines_behind (tree_at P f) (labels_in P f) kept other) → Entered (Some leave) l
    none-on e kept other from to passage s = absurd (plain-head (suc (end_of v)) kept other from to passage s (named G.labels l) (name-there (suc (end_of v)) l (on-here e)))

    -- ---- at an old item

    abbrev Pair : ℕ → ℕ → Type 0
    Pair s t = t ≡ st.old f s

    newest : (ss ts : List ℕ) (xs ys : List (List Location)) → SavedSetsMatch (W P Q accepted st) P Q f F.args G.args ss ts xs ys → (ss ≡ [] → ⊥) → (s : ℕ) × (rest : List ℕ) × (ss ≡ s ∷ rest) × ((from : ℕ) → leave_of true from ts ≡ st.old f s)
    newest [] [] [] [] h some = absurd (some refl)
    newest (s ∷ ss) (t ∷ ts) (x ∷ xs) (y ∷ ys) h some = (s, ss, refl, λ from. h.0.0)
    newest _ _ _ _ h some = absurd h

    guard-entry : (m : MatchedWalk (W P Q accepted st) P Q f F.args G.args v) (w : SideExit) → AtGuard P Q accepted st f F.args G.args (is_some F.ret) was v (end_of m.walk) w → end_of m.walk ≡ w.pair.guard → Entered (Some leave) l
    guard-entry m w g place = by (subst (λ z. In b (branches_from D (end_of v) z)) g.q.at among)
      where
        by : In b (onward (end_of v) ∷ map (abort (code_of Q f) (end_of v)) g.q.targets) → Entered (Some leave) l
        by (inl e) =
            let edge = edge_of (sites_of (code_of P f) m.walk) (onward (end_of m.walk)) in
            let is : IsEdge (code_of P f) (edge_of (sites_of (code_of P f) m.walk) (onward (end_of m.walk))) = record { walk = m.walk; is = m.matches.is; branch = onward (end_of m.walk); at = contains_in (onward (end_of m.walk)) (branches_at (code_of P f) (end_of m.walk)) (subst (λ o. In (onward (end_of m.walk)) (branches_from (code_of P f) (end_of m.walk) o)) (sym g.atP) (inl refl)); are = refl } in
            let n = st.next f (end_of m.walk) in
            let z = st.alone f (end_of m.walk) (Act None None op.Guard (g.c ∷ []) [] (g.label ∷ [])) g.atP refl in
            let point = m.matches.points in
            at-old (edge_of (sites_of (code_of P f) m.walk) (onward (end_of m.walk))) is l leave (suc (end_of v)) (omega (arith, n, z, point)) (on-here e) (leaves ∙ ap (λ c. (edge_of (sites_of (code_of Q f) v) c).leave) e ∙ point)
        by (inr k) =
            let s = in_map_source (abort (code_of Q f) (end_of v)) b g.q.targets k in
            let before = st.stands f w g.among in
            let to = ap (λ (z : Branch). z.to) s.2 ∙ one_target Q f (end_of v) None op.Guard (named (names_in (slice_get P.funcs f)) g.c ∷ []) [] w.name g.q before.point before.lines.0 s.0 s.1 in
            let name = named-so b.to l w.name at (ap (tree_at Q f) to ∙ before.lines.0) in
            let some : sites_of C m.walk ≡ [] → ⊥ = some_site C m.walk was.sites m.matches.is (ap needs_site g.atP) in
            let site = newest (sites_of C m.walk) (sites_of D v) _ _ m.matches.saved some in
            let left : leave ≡ st.old f site.0 = leaves ∙ ap (λ c. (edge_of (sites_of (code_of Q f) v) c).leave) s.2 ∙ site.3 (end_of v) in
            inr ((w, FromGuard), tokens-in (st.exits f) w FromGuard g.among, (name, (m.walk, m.matches.is, place, (site.0, site.1, site.2, ap Some left))))

    outside-entry : MatchedWalk (W P Q accepted st) P Q f F.args G.args v → Entered (Some leave) l
    outside-entry m = by (exit_at (st.exits f) (end_of m.walk)) refl
      where
        by : (o : Option SideExit) → exit_at (st.exits f) (end_of m.walk) ≡ o → Entered (Some leave) l
        by None none =
            let e = edge-back (W P Q accepted st) P Q f F.args G.args (walking-preserves P Q accepted st) v b (record { walk = m.walk; matches = m.matches; regular = none }) among in
            at-old e.edge e.is l leave b.to e.points at (leaves ∙ e.leaves.0)
        by (Some w) is = guard-entry m w (at-guard P Q accepted st f F.args G.args (is_some F.ret) was v (end_of m.walk) w m.matches.points (walk_within (code_of P f) m.walk m.matches.is) is) (sym (st.owners f (end_of m.walk) w is).1)

    edge-entry : At P Q accepted st f F.args G.args (is_some F.ret) was v → Entered (Some leave) l
    edge-entry (Outside m) = outside-entry m
    edge-entry (AtLabel w own from place lines u ends o) =
        let k = label_at Q f (end_of v) w.name lines.0 in
        let t = (st.paired f w own).fine.turning in
        none-on (only-onward (Label k.number) k.at refl) w.pair.kept w.pair.other (point_of w.pair.bail (code_of P f)) t.stands t.passage lines.1
    edge-entry (AtLine w own from (i ∷ rest) place lines u p' o) =
        let h = at-kept P Q accepted st f F.args G.args (is_some F.ret) was v u i rest w.pair.other (st.paired f w own).fine.turning.stands lines p' o in
        let gb = attempted-goes h.both.item (sym (same-attempted _ h.item h.both.item h.both.same) ∙ h.attempted) in
        none-on (only-onward h.both.item h.both.at (gb.branches D (end_of v))) rest w.pair.other (suc (end_of h.walk)) (st.paired f w own).fine.turning.stands h.passage h.lines
    edge-entry (AtLine w own from [] place lines u p' o) =
        let j = action_at Q f (end_of v) None op.Jmp [] [] (named (labels_in P f) w.pair.other ∷ []) lines.0 in
        let s = in_map_source (jump (code_of Q f) (end_of v)) b j.targets (subst (λ z. In b (branches_from D (end_of v) z)) j.at among) in
        let ol = other-label P Q accepted st f F.args G.args (is_some F.ret) was w own in
        let to = ap (λ (z : Branch). z.to) s.2 ∙ one_target Q f (end_of v) None op.Jmp [] [] (named (labels_in P f) w.pair.other) j (st.old f ol.point) ol.there s.0 s.1 in
        let name = named-so b.to l (named (labels_in P f) w.pair.other) at (ap (tree_at Q f) to ∙ ol.there) in
        let left : leave ≡ end_of v = leaves ∙ ap (λ c. (edge_of (sites_of (code_of Q f) v) c).leave) s.2 in
        let exact = place.exact in
        inr ((w, FromJmp), tokens-in (st.exits f) w FromJmp own, (name, (own, end_of v, ap Some left, exact)))

  pub entry : (leave : Option ℕ) (l : ℕ) → Enters G.code leave l → Entered leave l
  entry None l at =
      let z = st.start f in
      let tree = retargeted-back (exit_at (st.exits f) 0) (tree_at P f 0) (named G.labels l) (sym (st.placed f 0 (omega arith)) ∙ ap (tree_at Q f) (st.start f) ∙ name-there 0 l at) in
      let m = label-back P Q f F G p q 0 0 l (tree ∙ sym (name-there 0 l at)) at in
      inl (record { from = None; to = m.0; enters = m.1; leaves = refl; same = m.2 })
  entry (Some point) l e =
      let edge : IsEdge (code_of Q f) e.0 = subst (λ c. IsEdge c e.0) (sym there) e.1 in
      edge-entry edge.walk edge.branch (in_contains edge.branch (branches_at (code_of Q f) (end_of edge.walk)) edge.at) point l (sym e.2 ∙ ap (λ (d : Edge). d.leave) edge.are)
      (ap (λ (d : Edge). slice_get G.code d.to) (sym edge.are) ∙ e.3)
      (all-at P Q accepted st f F.args G.args (is_some F.ret) was (start P Q accepted st f F G p q) edge.walk edge.is)

  pub entries-within : (d e : ℕ) → IsEntryCount F.code d → IsEntryCount G.code e → e ≤ d + 2 * length (st.exits f)
  entries-within d e a b =
      let few = few-entries F G (SideExit × Brought) L IsNew (tokens (st.exits f)) entry one-leave one-new d e a b in
      let t = tokens-length (st.exits f) in
      omega (arith, few, t)
