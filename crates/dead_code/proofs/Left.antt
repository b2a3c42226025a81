-- Nothing removable is left in the result, by its own numbers: its items, its walks and what is live there are those of what
-- remains.
use Rattle.std.proofs.Common.{◌≡◌, ◌⊎◌, ℕ, suc, Bool, true, List, [], ◌∷◌, Option, Some, None, refl, sym, ap, subst, ◌∙◌, inl, inr, ⊎_elim, true≢false}
use Rattle.std.specs.Prelude.{slice_get}
use Rattle.std.specs.List.{AllZip, Contains}
use Rattle.std.proofs.lemmas.Option.{same_Some}
use Rattle.bril_tree.specs.declared.numbered.Instr.{Instr}
use Rattle.bril_tree.specs.declared.numbered.Instr.TheVariants.{Label, Const, Act}
use Rattle.bril_tree.specs.declared.operation.Op.{Op}
use Rattle.bril_tree.specs.declared.operation.Op.TheVariants as op
use Rattle.bril_tree.specs.declared.program.Prog.{Prog}
use Rattle.bril_tree.specs.declared.types.Ty.{Ty}
use Rattle.bril_tree.specs.Accepted.{IsAccepted}
use Rattle.bril_tree.specs.Assigned.{assigns_at, assigns_of}
use Rattle.bril_tree.specs.Edge.{Branch, branches_at, branches_from, onward}
use Rattle.bril_tree.specs.Leaving.{Leaves}
use Rattle.bril_tree.specs.Live.{IsLive, Here, Later}
use Rattle.bril_tree.specs.Membership.{In}
use Rattle.bril_tree.specs.Numbered.{names_in, names_of_functions, nop, tree_at}
use Rattle.bril_tree.specs.Operand.{Location, locations_read, reading_of, reads_of}
use Rattle.bril_tree.specs.Sites.{change_of, item_change, operation_change, sites_changed, sites_of}
use Rattle.bril_tree.specs.Step.{code_of, item_at}
use Rattle.bril_tree.specs.Walk.{IsReached, end_of}
use Rattle.bril_tree.proofs.Branches.{reached_on}
use Rattle.bril_tree.proofs.Elements.{zip-partner}
use Rattle.bril_tree.proofs.Liveness.{live-reads}
use Rattle.bril_tree.proofs.Members.{contains_in, in_contains}
use Rattle.bril_tree.proofs.Trees.{nothing_at}
use Rattle.pass_edit_laws.specs.names.Named.{SameLocation}
use Rattle.pass_edit_laws.specs.plan.Plan.{ItemsMatch}
use Rattle.pass_edit_laws.proofs.lemmas.names.Locations.{kept-apart, to_left}
use Rattle.pass_edit_laws.proofs.lemmas.names.Points.{Differ-in, found}
use Rattle.pass_edit_laws.proofs.lemmas.names.Preserving.{own_tree}
use Rattle.pass_edit_laws.proofs.lemmas.names.Renaming.{items_share}
use Rattle.pass_edit_laws.proofs.lemmas.names.Standing.{OneName}
use Rattle.dead_code.specs.Removable.{IsIdle, IsRemovable, IsUnused, is_computation, is_silent, only_computes}
use Rattle.dead_code.proofs.Accepted.{also_reached, branch-there, walk-there}
use Rattle.dead_code.proofs.Chain.{was_reached}
use Rattle.dead_code.proofs.Points.{Deadened}
use Rattle.dead_code.proofs.Refines.{gone-nop, staying-tree}
use Rattle.dead_code.proofs.Step.{computation-on, reached-next}
use Rattle.dead_code.proofs.Working.{computation-loud}

-- ---- two items that do the same

silent_by : Op → Bool
silent_by o = is_silent (Act None None o [] [] [])

silent-act : (d : Option ℕ) (ty : Option Ty) (o : Op) (args fns ls : List ℕ) → is_silent (Act d ty o args fns ls) ≡ silent_by o
unfolding silent_by
silent-act d ty op.Nop args fns ls = refl
silent-act d ty _ args fns ls = refl

record Alike (A : Location → Location → Type 0) (a b : Instr) : Type 0 where
  computes : is_computation a ≡ is_computation b
  silent : is_silent a ≡ is_silent b
  change : (aborts : Bool) → item_change (Some a) aborts ≡ item_change (Some b) aborts
  reads : AllZip A (reads_of a) (reads_of b)

alike : (A : Location → Location → Type 0) (a b : Instr) → ItemsMatch A a b → Alike A a b
alike A (Label l) (Label m) s = record { computes = refl; silent = refl; change = λ aborts. refl; reads = tt }
alike A (Label l) (Const y t w) s = absurd s
alike A (Label l) (Act e t u brgs gns ms) s = absurd s
alike A (Const x t v) (Label m) s = absurd s
alike A (Const x t v) (Const y r w) s = record { computes = refl; silent = refl; change = λ aborts. refl; reads = tt }
alike A (Const x t v) (Act e r u brgs gns ms) s = absurd s
alike A (Act d t o args fns ls) (Label m) s = absurd s
alike A (Act d t o args fns ls) (Const y r w) s = absurd s
alike A (Act d t o args fns ls) (Act e r u brgs gns ms) s = record {
  computes = ap only_computes s.operation;
  silent = silent-act d t o args fns ls ∙ ap silent_by s.operation ∙ sym (silent-act e r u brgs gns ms);
  change = λ aborts. ap (λ z. operation_change z aborts) s.operation;
  reads = subst (λ z. AllZip A (locations_read (reading_of o) d args) (locations_read (reading_of z) e brgs)) s.operation s.reads;
}

module _ (P Q : Prog) (made : ℕ → List Instr) (accepted : IsAccepted P) (t : Deadened P Q made) (f : ℕ) where
  abbrev V : List (List ℕ)
  V = names_in (slice_get P.funcs f)

  abbrev W : List (List ℕ)
  W = names_in (slice_get Q.funcs f)

  -- a location of P has one of the same name at most
  one-name : (x y z : Location) → SameLocation V W x y → SameLocation V W x z → y ≡ z
  one-name x y z a b = ⊎_elim (λ h. only h.1) (λ h. absurd (h.0 (inl refl))) (kept-apart V W (Differ-in (slice_get Q.funcs f)) (λ l. Unit {0}) (x ∷ []) (z ∷ []) (b, tt) x y a (λ n. tt) (λ i. inl refl))
    where
      only : In y (z ∷ []) → y ≡ z
      only (inl e) = e
      only (inr n) = absurd n

  -- ---- items

  -- what remains at a point, and the item of Q there
  data Beside (i : ℕ) : Type 0 where
    End : slice_get (made f) i ≡ None → item_at Q f i ≡ None → Beside i
    Pair : (a b : Instr) → slice_get (made f) i ≡ Some a → item_at Q f i ≡ Some b → ItemsMatch (OneName P Q f) a b → AllZip (SameLocation V W) (assigns_of a) (assigns_of b) → Beside i

  beside : (i : ℕ) → Beside i
  beside i = ⊎_elim stays (λ g. Pair nop nop g.is (gone-nop P Q made t f i g) (record { operation = refl; ty = refl; dest = refl; count = refl; reads = tt; funcs = refl }) tt) ((t.chain f).became i)
    where
      stays : slice_get (made f) i ≡ item_at P f i → Beside i
      stays same = by (item_at P f i) (item_at Q f i) refl refl
        where
          equal : tree_at P f i ≡ tree_at Q f i
          equal = staying-tree P Q made t f i same

          by : (o u : Option Instr) → item_at P f i ≡ o → item_at Q f i ≡ u → Beside i
          by None None at bt = End (same ∙ at) bt
          by None (Some b) at bt = absurd (let h = sym (nothing_at P f i at) ∙ equal ∙ (found Q f i b bt).tree in cc)
          by (Some a) None at bt = absurd (let h = sym (nothing_at Q f i bt) ∙ sym equal ∙ (found P f i a at).tree in cc)
          by (Some a) (Some b) at bt =
              let tree = own_tree (names_of_functions P.funcs) (slice_get P.funcs f) i ∙ equal in
              let shares = items_share P Q accepted t.heads.names f i i V refl (λ x. Unit {0}) tree a b at bt (λ x k. tt) in
              Pair a b (same ∙ at) bt shares.same shares.assigns

  change-there : (i : ℕ) (aborts : Bool) → item_change (slice_get (made f) i) aborts ≡ item_change (item_at Q f i) aborts
  change-there i aborts = by (beside i)
    where
      by : Beside i → item_change (slice_get (made f) i) aborts ≡ item_change (item_at Q f i) aborts
      by (End none bt) = ap (λ o. item_change o aborts) (none ∙ sym bt)
      by (Pair a b here bt same assigns) = ap (λ o. item_change o aborts) here ∙ (alike (OneName P Q f) a b same).change aborts ∙ ap (λ o. item_change o aborts) (sym bt)

  -- a location that isn't assigned there isn't in Q
  unassigned : (i : ℕ) (x y : Location) → SameLocation V W x y → ¬ Contains (assigns_at (slice_get (made f) i)) x → Contains (assigns_at (item_at Q f i)) y → ⊥
  unassigned i x y named none c = by (beside i) (in_contains y (assigns_at (item_at Q f i)) c)
    where
      by : Beside i → In y (assigns_at (item_at Q f i)) → ⊥
      by (End nothing bt) k = subst (λ o. In y (assigns_at o)) bt k
      by (Pair a b here bt same assigns) k =
          let before = to_left V W (Differ-in (slice_get P.funcs f)) x y named (assigns_of a) (assigns_of b) assigns (subst (λ o. In y (assigns_at o)) bt k) in
          none (contains_in x (assigns_at (slice_get (made f) i)) (subst (λ o. In x (assigns_at o)) (sym here) before))

  -- ---- branches

  sites-there : (w : List Branch) → sites_of (made f) w ≡ sites_of (code_of Q f) w
  sites-there [] = refl
  sites-there (b ∷ w) = ap (λ c. sites_changed c b.from (sites_of (made f) w)) (change-there b.from b.aborts) ∙ ap (sites_changed (change_of (code_of Q f) b) b.from) (sites-there w)

  goes-there : (i : ℕ) (b : Branch) → IsReached (made f) i → Contains (branches_at (made f) i) b → Contains (branches_at (code_of Q f) i) b
  goes-there i b reached c =
      let was = was_reached (code_of P f) (made f) (t.chain f) i reached in
      contains_in b (branches_at (code_of Q f) i) (branch-there P Q made accepted t f i b was (subst (In b) ((t.chain f).branches i was) (in_contains b (branches_at (made f) i) c)))

  leaves-there : (i : ℕ) (b : Branch) → IsReached (made f) i → Leaves (made f) i b → Leaves (code_of Q f) i b
  leaves-there i b reached (inl on) = inl (goes-there i b reached on.0, on.1)
  leaves-there i b reached (inr a) = inr (record {
    aborts = a.aborts;
    walk = a.walk;
    is = walk-there P Q made accepted t f a.walk ((t.chain f).were a.walk a.is);
    at = goes-there (end_of a.walk) b (record { walk = a.walk; is = a.is; ends = refl }) a.at;
    older = a.older;
    sites = sym (sites-there a.walk) ∙ a.sites;
  })

  -- ---- what is live

  live-there : (x y : Location) → SameLocation V W x y → (i : ℕ) → IsReached (made f) i → IsLive (made f) x i → IsLive (code_of Q f) y i
  live-there x y named i reached (Here _ item at reads) = by (beside i)
    where
      by : Beside i → IsLive (code_of Q f) y i
      by (End none bt) = absurd (let n : None ≡ Some item = sym none ∙ at in cc)
      by (Pair a b here bt same assigns) =
          let one : item ≡ a = same_Some item a (sym at ∙ here) in
          let read = zip-partner (OneName P Q f) (reads_of a) (reads_of b) x (alike (OneName P Q f) a b same).reads (subst (λ (z : Instr). In x (reads_of z)) one (in_contains x (reads_of item) reads)) in
          live-reads (code_of Q f) i b y bt (subst (λ l. In l (reads_of b)) (one-name x read.0 y read.2.0 named) read.1)
  live-there x y named i reached (Later _ b leaves none live) =
      Later i b (leaves-there i b reached leaves) (unassigned i x y named none) (live-there x y named b.to (reached-next (made f) i b reached leaves) live)

  -- ---- what is removable

  was-removable : (i : ℕ) → IsRemovable (code_of Q f) i → IsRemovable (made f) i
  was-removable i r = by (beside i)
    where
      by : Beside i → IsRemovable (made f) i
      by (End none bt) = absurd (let n : None ≡ Some r.item = sym bt ∙ r.here in cc)
      by (Pair a b here bt same assigns) = record { item = a; here = here; why = ⊎_elim unused idle r.why }
        where
          is : b ≡ r.item
          is = same_Some b r.item (sym bt ∙ r.here)

          both : Alike (OneName P Q f) a b
          both = alike (OneName P Q f) a b same

          unused : IsUnused (code_of Q f) i r.item → IsUnused (made f) i a ⊎ IsIdle (made f) i a
          unused u =
              let computes : is_computation a ≡ true = both.computes ∙ ap is_computation is ∙ u.computes in
              let reached : IsReached (made f) i = ⊎_elim (λ s. absurd (true≢false (sym s ∙ computation-loud a computes))) (λ h. h) (t.stays f i a here) in
              let next : IsReached (made f) (suc i) = reached_on (made f) i (onward i) reached (subst (λ o. In (onward i) (branches_from (made f) i o)) (sym here) (subst (In (onward i)) (sym (computation-on (made f) i a computes)) (inl refl))) in
              inl (record {
                computes = computes;
                unused = λ x c live.
                    let one = zip-partner (SameLocation V W) (assigns_of a) (assigns_of b) x assigns (in_contains x (assigns_of a) c) in
                    u.unused one.0 (contains_in one.0 (assigns_of r.item) (subst (λ (z : Instr). In one.0 (assigns_of z)) is one.1)) (live-there x one.0 one.2 (suc i) next live);
              })

          idle : IsIdle (code_of Q f) i r.item → IsUnused (made f) i a ⊎ IsIdle (made f) i a
          idle u = inr (record {
            unreached = λ h. u.unreached (also_reached P Q made accepted t f i (was_reached (code_of P f) (made f) (t.chain f) i h));
            does = both.silent ∙ ap is_silent is ∙ u.does;
          })

  pub none-removable : (i : ℕ) → IsRemovable (code_of Q f) i → ⊥
  none-removable i r = t.none f i (was-removable i r)
