-- Each `set` of laid code gives to the shadow of a variable that a `get` there assigns.
use Rattle.std.proofs.Common.{◌≡◌, ℕ, suc, ◌+◌, ◌*◌, ◌/◌, true, false, List, [], ◌∷◌, Some, refl, sym, ap, subst, ◌∙◌, inl, arith}
use Rattle.std.proofs.lemmas.Option.{slice_get_within}
use Rattle.bril_tree.specs.declared.function_tree.FuncTree.{FuncTree}
use Rattle.bril_tree.specs.declared.function_tree.Item.{Item}
use Rattle.bril_tree.specs.declared.function_tree.Item.TheVariants as item
use Rattle.bril_tree.specs.declared.numbered.Instr.TheVariants.{Label}
use Rattle.bril_tree.specs.declared.numbered_function.Func.{Func}
use Rattle.bril_tree.specs.declared.program.Prog.{Prog}
use Rattle.bril_tree.specs.declared.types.Ty.{Ty}
use Rattle.bril_tree.specs.Accepted.{IsAcceptedFunction}
use Rattle.bril_tree.specs.Live.{IsLive}
use Rattle.bril_tree.specs.Locals.{location_type}
use Rattle.bril_tree.specs.Membership.{In}
use Rattle.bril_tree.specs.Numbered.{function_tree}
use Rattle.bril_tree.specs.Operand.{Location, Shadow, Variable, reads_of}
use Rattle.bril_tree.specs.Typing.{variable_type}
use Rattle.bril_tree.proofs.Acceptance.{shaped_at, typed_at}
use Rattle.bril_tree.proofs.Elements.{get_in, in_get}
use Rattle.bril_tree.proofs.Members.{contains_in, in_flat_map}
use Rattle.flow_graph.specs.Location.{number_of}
use Rattle.ssa_laws.proofs.lemmas.live_entries.Deciding.{live-read}
use Rattle.ssa_build.specs.code.Items.{get_item, got_item, name_in, typed_get}
use Rattle.ssa_laws.specs.layout.Form.{IsGetAt, IsGetOf}
use Rattle.ssa_laws.specs.layout.Laid.{set_tree}
use Rattle.ssa_search.specs.declared.renaming.now.WantedGet.{WantedGet}
use Rattle.ssa_build.specs.tree.Made.{IsLaidFunction}
use Rattle.type_soundness.proofs.Locals.{reads-there}
use Rattle.ssa_form_laws.specs.form.Form.{IsSet, is_get_or_set}
use Rattle.ssa_form_laws.proofs.lemmas.form.Others.{own-other}
use Rattle.ssa_form_laws.proofs.lemmas.form.Fronts.{AtLabel, Falls, InFront, IsPut, Leaves, gets-part, got-front, in-front, is-staying, staying}
use Rattle.ssa_form_laws.proofs.lemmas.form.Points.{Front, Home, Point, begin, front, front-item, now, point, tree_in}

-- ---- items

abbrev first_of : List (List ℕ) → List ℕ
first_of [] = []
first_of (name ∷ names) = name

-- the first argument
abbrev first_name : Item → List ℕ
first_name (item.Label l) = []
first_name (item.Const dest ty value) = []
first_name (item.Act dest o args funcs labels) = first_of args

-- ---- types

half-even : (v : ℕ) → 2 * v / 2 ≡ v
half-even v = omega arith

half-odd : (v : ℕ) → (2 * v + 1) / 2 ≡ v
half-odd v = omega arith

number-type : (F : Func) (a : Location) → variable_type F.vars (number_of a / 2) ≡ location_type F a
number-type F (Variable v) = ap (variable_type F.vars) (half-even v)
number-type F (Shadow v) = ap (variable_type F.vars) (half-odd v)

module _ (fs : List (List ℕ)) (F : Func) (g : FuncTree) (x : IsLaidFunction F (function_tree fs F) g) (P : Prog) (ok : IsAcceptedFunction P F) where
  -- what is live has a type
  live-typed : (k : ℕ) (b : Location) → IsLive F.code b k → (ty : Ty) × (location_type F b ≡ Some ty)
  live-typed k b live =
      let r = live-read F.code ok.sites b k live in
      reads-there P F r.1 b (shaped_at P F ok r.0 r.1 r.2) (typed_at P F ok r.0 r.1 r.2) (contains_in b (reads_of r.1) r.3)

  -- a `get` that stays stands in the code
  got-there : (k : ℕ) (get : WantedGet) → In get (staying fs F g x k) → (j : ℕ) × IsGetAt g.code j (name_in x.names get.definition)
  got-there k get i =
      let stay = is-staying fs F g x k get i in
      let ty = live-typed k stay.location (x.are_wants.wanted.live k get.definition stay.location stay.got) in
      let typed : variable_type F.vars (get.location / 2) ≡ Some ty.0 = ap (λ n. variable_type F.vars (n / 2)) stay.numbered ∙ number-type F stay.location ∙ ty.1 in
      let y : Item = got_item (name_in x.names get.definition) ty.0 in
      let among : In y (gets-part fs F g x (suc k)) =
      in_flat_map (get_item F.vars x.names) get y (staying fs F g x k) i (subst (λ o. In y (typed_get o (name_in x.names get.definition))) (sym typed) (inl refl)) in
      let n = in_get y (gets-part fs F g x (suc k)) among in
      let l = x.are_wants.wanted.label k get.definition stay.location stay.got in
      let low = slice_get_within F.code k (Label l.0) l.1 in
      (begin fs F g x (suc k) + n.0, (y, front-item fs F g x (suc k) n.0 y (omega arith) (got-front fs F g x k n.0 y n.1), refl))

  put-there : (k : ℕ) (array : List ℕ) (name from : List ℕ) → IsPut x.names x.find array (staying fs F g x k) (set_tree name from) → (j : ℕ) × IsGetAt g.code j name
  put-there k array name from p = subst (λ n. (j : ℕ) × IsGetAt g.code j n) (sym (ap first_name p.is)) (got-there k p.get p.among)

  pub given : (name from : List ℕ) → IsSet g.code name from → (i : ℕ) × IsGetAt g.code i name
  given name from s = by (point fs F g x s.0 (set_tree name from) s.1)
    where
      ahead : (i : ℕ) → InFront fs F g x i (set_tree name from) → (j : ℕ) × IsGetAt g.code j name
      ahead i (AtLabel k e got) = absurd (subst (IsGetOf (name_in x.names got.get.definition)) (sym got.is) refl)
      ahead i (Falls e p) = put-there i (now fs F g x i) name from p
      ahead i (Leaves k among p) = put-there k (now fs F g x i) name from p

      by : Point fs F g x s.0 (set_tree name from) → (j : ℕ) × IsGetAt g.code j name
      by (Home i b at there is) = absurd (let h : true ≡ false = ap is_get_or_set is ∙ own-other fs F g x i (tree_in fs F b) in cc)
      by (Front i n low at there) = ahead i (in-front fs F g x i (set_tree name from) (get_in (front fs F g x i) n (set_tree name from) at))
