-- The work list: one more item is dead.
use Rattle.std.proofs.Common.{◌≡◌, ◌⊎◌, ℕ, zero, suc, ◌+◌, ◌<◌, Bool, true, false, List, [], ◌∷◌, length, map, get_or, set, Option, Some, None, refl, sym, ap, subst, ◌∙◌, inl, inr, ⊎_elim, arith, true≢false}
use Rattle.std.specs.Prelude.{slice_get}
use Rattle.std.proofs.lemmas.Bool.{cases_Bool, cases_eq}
use Rattle.std.proofs.lemmas.List.{get_or-set_same, get_or-set_other, length-set}
use Rattle.std.proofs.lemmas.Option.{same_Some}
use Rattle.bril_tree.specs.declared.numbered.Instr.{Instr}
use Rattle.bril_tree.specs.declared.numbered.Instr.TheVariants.{Label, Const, Act}
use Rattle.bril_tree.specs.declared.operation.Op.{Op}
use Rattle.bril_tree.specs.declared.operation.Op.TheVariants as op
use Rattle.bril_tree.specs.Edge.{branches_at, branches_from, onward}
use Rattle.bril_tree.specs.Live.{IsLive}
use Rattle.bril_tree.specs.Membership.{In}
use Rattle.bril_tree.specs.Numbered.{nop}
use Rattle.bril_tree.specs.Operand.{Location, reads_of}
use Rattle.bril_tree.specs.Walk.{IsReached}
use Rattle.bril_tree.proofs.Branches.{reached_on}
use Rattle.bril_tree.proofs.Members.{contains_in, in_map}
use Rattle.flow_graph.specs.Location.{number_of}
use Rattle.dead_code.specs.Removable.{is_computation, is_silent, only_computes, IsRemovable}
use Rattle.graph_search.specs.Marks.{is_marked}
use Rattle.dead_code.specs.Work.{IsReadBy, IsSearched, IsSettled, IsSound, IsWork, NoneIdle, Queues, reads_left, remaining}
use Rattle.dead_code.proofs.Chain.{Chain, chain, still_reached, was_reached}
use Rattle.pass_edit_laws.proofs.lemmas.plan.Marked.{with_nops-set, with_nops-alive, with_nops-dead}
use Rattle.dead_code.proofs.Step.{live-was, live-now, computation-on}

-- a `nop` reads nothing, so fewer reads are left
reads-fewer : (items : List Instr) (k : ℕ) (item : Instr) → slice_get items k ≡ Some item → reads_left (set items k nop) + length (reads_of item) ≡ reads_left items
reads-fewer [] k item at = absurd (let n : None ≡ Some item = at in cc)
reads-fewer (x ∷ items) zero item at = let same = ap (λ (a : Instr). length (reads_of a)) (same_Some x item at) in omega arith
reads-fewer (x ∷ items) (suc k) item at = let rest = reads-fewer items k item at in omega arith

-- a computation isn't silent
operation-loud : (o : Op) (d : Option ℕ) (ty : _) (args fns ls : List ℕ) → only_computes o ≡ true → is_silent (Act d ty o args fns ls) ≡ false
operation-loud op.Nop d ty args fns ls c = absurd cc
operation-loud _ d ty args fns ls c = refl

pub computation-loud : (item : Instr) → is_computation item ≡ true → is_silent item ≡ false
computation-loud (Label l) c = absurd cc
computation-loud (Const d ty v) c = refl
computation-loud (Act d ty o args fns ls) c = operation-loud o d ty args fns ls c

-- walks of what remains are those of the code
pub remaining-chain : (code : List Instr) (dead : List Bool) → IsSound code dead → Chain code (remaining code dead)
remaining-chain code dead s = subst (Chain code) (sym s.is) (chain code s.points s.were)

-- a computation that remains is reached
pub computation-reached : (code : List Instr) (dead : List Bool) → NoneIdle code dead → (p : ℕ) (item : Instr) → slice_get (remaining code dead) p ≡ Some item → is_computation item ≡ true → IsReached code p
computation-reached code dead none p item at c = ⊎_elim (λ s. absurd (true≢false (sym s ∙ computation-loud item c))) (λ r. r) (none p item at)

-- and so is the next point
pub next-reached : (code : List Instr) (dead : List Bool) → IsSound code dead → (p : ℕ) (item : Instr) → slice_get (remaining code dead) p ≡ Some item → is_computation item ≡ true → IsReached code p → IsReached code (suc p)
next-reached code dead s p item at c reached =
    let made = remaining code dead in
    let k = remaining-chain code dead s in
    let there = still_reached code made k p reached in
    let among : In (onward p) (branches_at made p) = subst (λ o. In (onward p) (branches_from made p o)) (sym at) (subst (In (onward p)) (sym (computation-on made p item c)) (inl refl)) in
    was_reached code made k (suc p) (reached_on made p (onward p) there among)

-- ---- one item more is dead

module _ (code : List Instr) (dead : List Bool) (sound : IsSound code dead) (k : ℕ) (low : k < length dead) (r : IsRemovable (remaining code dead) k) where
  abbrev pub more : List Bool
  more = set dead k true

  pub more-is : remaining code more ≡ set (remaining code dead) k nop
  more-is = with_nops-set nop dead code k sound.long low

  pub more-sound : IsSound code more
  more-sound = record {
    long = length-set dead k true ∙ sound.long;
    points = k ∷ sound.points;
    were = (subst (λ c. IsRemovable c k) sound.is r, sound.were);
    is = more-is ∙ ap (λ c. set c k nop) sound.is;
  }

  -- an item that still remains remained before, and is another
  pub remains : (p : ℕ) (item : Instr) → slice_get (remaining code more) p ≡ Some item → (item ≡ nop) ⊎ ((p ≡ k → ⊥) × (slice_get (remaining code dead) p ≡ Some item))
  remains p item at = ⊎_elim here other (cases_eq p k)
    where
      here : p ≡ k → (item ≡ nop) ⊎ ((p ≡ k → ⊥) × (slice_get (remaining code dead) p ≡ Some item))
      here e =
          let marked : get_or more p false ≡ true = ap (λ n. get_or more n false) e ∙ get_or-set_same dead k true false low in
          inl (same_Some item nop (sym at ∙ with_nops-dead nop more code p (length-set dead k true ∙ sound.long) marked))

      other : (p ≡ k → ⊥) → (item ≡ nop) ⊎ ((p ≡ k → ⊥) × (slice_get (remaining code dead) p ≡ Some item))
      other d = inr (d, by (cases_Bool (get_or dead p false)))
        where
          same : get_or more p false ≡ get_or dead p false
          same = get_or-set_other dead k p true false d

          by : (get_or dead p false ≡ true) ⊎ (get_or dead p false ≡ false) → slice_get (remaining code dead) p ≡ Some item
          by (inl m) = with_nops-dead nop dead code p sound.long m ∙ sym (with_nops-dead nop more code p (length-set dead k true ∙ sound.long) (same ∙ m)) ∙ at
          by (inr m) = with_nops-alive nop dead code p m ∙ sym (with_nops-alive nop more code p (same ∙ m)) ∙ at

  pub more-none_idle : NoneIdle code dead → NoneIdle code more
  more-none_idle none p item at = ⊎_elim (λ e. inl (ap is_silent e)) (λ h. none p item h.1) (remains p item at)

  -- what is live without being read by the item is still live, and nothing becomes live
  pub still-live : (x : Location) (p : ℕ) → (In x (reads_of r.item) → ⊥) → IsReached code p → IsLive (remaining code dead) x p → IsLive (remaining code more) x p
  still-live x p unread reached live = subst (λ c. IsLive c x p) (sym more-is) (live-now (remaining code dead) k r x unread p (still_reached code (remaining code dead) (remaining-chain code dead sound) p reached) live)

  pub was-live : (x : Location) (p : ℕ) → IsReached code p → IsLive (remaining code more) x p → IsLive (remaining code dead) x p
  was-live x p reached live = live-was (remaining code dead) k r x p (still_reached code (remaining code dead) (remaining-chain code dead sound) p reached) (subst (λ c. IsLive c x p) more-is live)

  pub more-settled : (x : Location) → (In x (reads_of r.item) → ⊥) → IsSettled code dead x → IsSettled code more x
  more-settled x unread settled p item at computes assigns reached = ⊎_elim none old (remains p item at)
    where
      none : item ≡ nop → IsLive (remaining code more) x (suc p)
      none e = absurd (let f : false ≡ true = ap is_computation (sym e) ∙ computes in cc)

      old : (p ≡ k → ⊥) × (slice_get (remaining code dead) p ≡ Some item) → IsLive (remaining code more) x (suc p)
      old h = still-live x (suc p) unread (next-reached code dead sound p item h.1 computes reached) (settled p item h.1 computes assigns reached)

  pub fewer-reads : reads_left (remaining code more) + length (reads_of r.item) ≡ reads_left (remaining code dead)
  fewer-reads = ap (λ c. reads_left c + length (reads_of r.item)) more-is ∙ reads-fewer (remaining code dead) k r.item r.here

  -- ---- with the locations that it reads queued

  module _ (queue longer : List ℕ) (queued marked : List Bool) (q : Queues (IsReadBy r.item) (length (reads_of r.item)) queue longer queued marked) where
    -- a location that isn't queued isn't read by the item
    unread : (x : Location) → number_of x < length queued → is_marked marked (number_of x) ≡ false → In x (reads_of r.item) → ⊥
    unread x inside off i = true≢false (sym (q.all (number_of x) (contains_in (number_of x) (map number_of (reads_of r.item)) (in_map number_of x (reads_of r.item) i)) inside) ∙ off)

    still-off : (l : ℕ) → is_marked marked l ≡ false → is_marked queued l ≡ false
    still-off l off = ⊎_elim (λ on. absurd (true≢false (sym (q.kept l on) ∙ off))) (λ e. e) (cases_Bool (is_marked queued l))

    pub more-work : (except : ℕ → Type 0) → IsWork code dead queue queued except → IsWork code more longer marked except
    more-work except w = record {
      sound = more-sound;
      none_idle = more-none_idle w.none_idle;
      are = q.are;
      settled = λ x inside off free.
          let within : number_of x < length queued = subst (λ n. number_of x < n) q.long inside in
          more-settled x (unread x within off) (w.settled x within (still-off (number_of x) off) free);
    }

    pub more-searched : (number : ℕ) (found : List ℕ) → number < length queued → IsSearched code dead queued number found → IsSearched code more marked number found
    more-searched number found inside s = record {
      live = λ x is off p reached there.
          let e : number_of x < length queued = subst (λ n. n < length queued) (sym is) inside in
          still-live x p (unread x e (ap (is_marked marked) is ∙ off)) reached (s.live x is (still-off number off) p reached there);
      not_live = λ x is p reached away live. s.not_live x is p reached away (was-live x p reached live);
    }
