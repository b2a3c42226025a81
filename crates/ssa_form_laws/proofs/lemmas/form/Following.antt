-- Each `get` of laid code stands behind a label, with only `get`s between.
use Rattle.std.proofs.Common.{◌≡◌, ℕ, zero, suc, ◌+◌, Bool, true, false, List, Some, refl, sym, ap, subst, ◌∙◌, inl, inr, map, arith}
use Rattle.std.specs.Prelude.{slice_get}
use Rattle.std.proofs.lemmas.Option.{slice_get_within}
use Rattle.bril_tree.specs.declared.function_tree.FuncTree.{FuncTree}
use Rattle.bril_tree.specs.declared.function_tree.Item.{Item}
use Rattle.bril_tree.specs.declared.function_tree.Item.TheVariants as item
use Rattle.bril_tree.specs.declared.numbered.Instr.TheVariants.{Label}
use Rattle.bril_tree.specs.declared.numbered_function.Func.{Func}
use Rattle.bril_tree.specs.Numbered.{function_tree, named}
use Rattle.bril_tree.proofs.Elements.{get_in, get_inside}
use Rattle.ssa_build.specs.code.Items.{laid_item, name_in, read_name}
use Rattle.ssa_build.specs.code.Sweep.{item_args, reached_at}
use Rattle.ssa_laws.specs.layout.Form.{FollowsLabel, IsGetAt, IsGetOf}
use Rattle.ssa_build.specs.tree.Made.{IsLaidFunction}
use Rattle.ssa_form_laws.specs.form.Form.{is_get_or_set}
use Rattle.ssa_form_laws.proofs.lemmas.form.Others.{get-counts, own-other}
use Rattle.ssa_form_laws.proofs.lemmas.form.Fronts.{FrontAt, GotAt, PutAt, front-at, gets-part, got-front, is-got, is-staying, staying}
use Rattle.ssa_form_laws.proofs.lemmas.form.Points.{Front, Home, Point, begin, front-item, home, home-item, now, point, tree_in}

-- a label stays as it is
pub own-label : (r : Bool) (args : List (List ℕ)) (w l : List ℕ) → laid_item r args w (item.Label l) ≡ item.Label l
own-label true args w l = refl
own-label false args w l = refl

module _ (fs : List (List ℕ)) (F : Func) (g : FuncTree) (x : IsLaidFunction F (function_tree fs F) g) where
  label-home : (k l : ℕ) → slice_get F.code k ≡ Some (Label l) → slice_get g.code (home fs F g x k) ≡ Some (item.Label (named F.labels l))
  label-home k l at =
      home-item fs F g x k (Label l) at ∙ ap Some (own-label (reached_at (slice_get x.graph.sites k)) (map (read_name x.names x.find (now fs F g x k)) (item_args (slice_get F.code k))) (name_in x.names (F.args + k)) (named F.labels l))

  -- what stands before the n-th `get` behind label k
  follows : (k l : ℕ) → slice_get F.code k ≡ Some (Label l) → (n : ℕ) (y : Item) → slice_get (gets-part fs F g x (suc k)) n ≡ Some y → (j : ℕ) → j ≡ home fs F g x k + n → FollowsLabel g.code (suc j)
  follows k l at zero y stands j e =
      let here : home fs F g x k ≡ j = omega arith in
      inl (named F.labels l, ap (slice_get g.code) (sym here) ∙ label-home k l at)
  follows k l at (suc n) y stands j e =
      let within = slice_get_within (gets-part fs F g x (suc k)) (suc n) y stands in
      let b = get_inside (gets-part fs F g x (suc k)) n (omega arith) in
      let s = is-got F.vars x.names (staying fs F g x k) b.0 (get_in (gets-part fs F g x (suc k)) n b.0 b.1) in
      let here : begin fs F g x (suc k) + n ≡ j = omega arith in
      let there : suc (home fs F g x k + n) ≡ j = omega arith in
      let low = slice_get_within F.code k (Label l) at in
      inr (
        name_in x.names s.get.definition,
        (b.0, ap (slice_get g.code) (sym here) ∙ front-item fs F g x (suc k) n b.0 (omega arith) (got-front fs F g x k n b.0 b.1), subst (IsGetOf (name_in x.names s.get.definition)) (sym s.is) refl),
        subst (FollowsLabel g.code) there (follows k l at n b.0 b.1 (home fs F g x k + n) refl),
      )

  -- which `get` an item is
  pub record GotBehind (j : ℕ) (y : Item) : Type 0 where
    pub label : ℕ
    pub index : ℕ
    pub stands : slice_get (gets-part fs F g x (suc label)) index ≡ Some y
    pub place : j ≡ begin fs F g x (suc label) + index

  pub got-behind : (j : ℕ) (name : List ℕ) (get : IsGetAt g.code j name) → GotBehind j get.0
  got-behind j name get = by (point fs F g x j get.0 get.1)
    where
      front-by : (i n : ℕ) → j ≡ begin fs F g x i + n → FrontAt fs F g x i n get.0 → GotBehind j get.0
      front-by i n there (GotAt k e at) = record { label = k; index = n; stands = at; place = there ∙ ap (λ m. begin fs F g x m + n) e }
      front-by i n there (PutAt p) = absurd (subst (IsGetOf name) p.2 get.2)

      by : Point fs F g x j get.0 → GotBehind j get.0
      by (Home i b at there is) = absurd (let h : true ≡ false = sym (get-counts get.0 name get.2) ∙ ap is_get_or_set is ∙ own-other fs F g x i (tree_in fs F b) in cc)
      by (Front i n low at there) = front-by i n there (front-at fs F g x i n get.0 at)

  pub behind : (j : ℕ) (name : List ℕ) → IsGetAt g.code j name → FollowsLabel g.code j
  behind j name get =
      let b = got-behind j name get in
      let s = is-got F.vars x.names (staying fs F g x b.label) get.0 (get_in (gets-part fs F g x (suc b.label)) b.index get.0 b.stands) in
      let stay = is-staying fs F g x b.label s.get s.among in
      let l = x.are_wants.wanted.label b.label s.get.definition stay.location stay.got in
      let place = b.place in
      let there : suc (home fs F g x b.label + b.index) ≡ j = omega arith in
      subst (FollowsLabel g.code) there (follows b.label l.0 l.1 b.index get.0 b.stands (home fs F g x b.label + b.index) refl)
