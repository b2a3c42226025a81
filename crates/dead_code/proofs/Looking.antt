-- Looking at a location: the search, its items one after another, and what is settled then.
use Rattle.std.proofs.Common.{◌≡◌, ◌⊎◌, ◌↔◌, ℕ, suc, ◌+◌, ◌<◌, ◌≤◌, Bool, true, false, List, [], ◌∷◌, ◌++◌, length, get_or, set, take, Some, sym, ap, subst, ◌∙◌, inl, inr, ⊎_elim, arith}
use Rattle.std.specs.Prelude.{slice_get}
use Rattle.std.specs.List.{All, Contains}
use Rattle.std.proofs.lemmas.Bool.{cases_Bool, cases_eq}
use Rattle.std.proofs.lemmas.List.{get_or-set_same, get_or-set_other, take_more}
use Rattle.std.proofs.lemmas.List.Elements.{All-push, All-weaker}
use Rattle.std.proofs.lemmas.Option.{same_Some, slice_get_within}
use Rattle.bril_tree.specs.declared.numbered.Instr.{Instr}
use Rattle.bril_tree.specs.Membership.{In}
use Rattle.bril_tree.specs.Numbered.{nop}
use Rattle.bril_tree.specs.Operand.{Location, reads_of}
use Rattle.bril_tree.proofs.Members.{in_contains, contains_in}
use Rattle.flow_graph.specs.Location.{number_of}
use Rattle.graph_search.specs.Path.{IsReached as IsFound, other_than}
use Rattle.graph_search.specs.declared.graph.Arc.{Arc}
use Rattle.live_sets.specs.Arcs.{AreBackArcs}
use Rattle.flow_graph.specs.Accesses.{Accesses}
use Rattle.flow_graph.specs.Reads.{reads_from}
use Rattle.flow_graph.specs.declared.reads.Access.{Access}
use Rattle.live_sets.proofs.Law.{AreReaders}
use Rattle.live_sets.proofs.Readers.{readers_are}
use Rattle.flow_graph.proofs.ReadLists.{reads-inside}
use Rattle.pass_edit_laws.proofs.lemmas.plan.Elements.{all_in, in_all}
use Rattle.graph_search.specs.Marks.{is_marked}
use Rattle.dead_code.specs.Work.{IsLookedAt, IsLooking, IsReadBy, IsSearched, IsSound, IsWork, Queues, assignments_from, reads_left, remaining}
use Rattle.dead_code.proofs.Clearing.{is_assignment, removable, settled}
use Rattle.pass_edit_laws.proofs.lemmas.plan.Marked.{with_nops-alive, with_nops-dead}
use Rattle.dead_code.proofs.Searching.{found-live, live-found}
use Rattle.dead_code.proofs.Working.{remaining-chain, more, fewer-reads, more-work, more-searched}

-- ---- the search

module _ (code : List Instr) (dead : List Bool) (list : List Access) (reads : list ≡ reads_from 0 code) (number : ℕ) (readers : List ℕ) (exact : (item : ℕ) → Contains readers item ↔ Accesses list number item) where
  pub readers-within : All (λ item. item < length code) readers
  readers-within = in_all (λ item. item < length code) readers (λ item i.
      let c = (exact item).0 (contains_in item readers i) in
      let all : All (λ (a : Access). a.item < 0 + length code) list = subst (All (λ (a : Access). a.item < 0 + length code)) (sym reads) (reads-inside 0 code) in
      let low : item < 0 + length code = all_in (λ (a : Access). a.item < 0 + length code) list all (record { item = item; location = number }) (in_contains _ list c) in
      omega arith)

  module _ (sound : IsSound code dead) (alive : List ℕ) (living : (item : ℕ) → Contains alive item ↔ (Contains readers item × (is_marked dead item ≡ false))) where
    pub alive-within : (points : ℕ) → points ≡ length code + 1 → All (λ item. item < points) alive
    alive-within points total = in_all (λ item. item < points) alive (λ item i.
        let c = (living item).0 (contains_in item alive i) in
        let low = all_in (λ n. n < length code) readers readers-within item (in_contains item readers c.0) in
        omega arith)

    -- the items that read the location in what remains
    alive-readers : (x : Location) → number_of x ≡ number → AreReaders (remaining code dead) x alive
    alive-readers x is = record { there = there; only = only }
      where
        all : AreReaders code x readers
        all = readers_are code x readers (λ item. let e = exact item in subst (λ n. (Contains readers item → Accesses (reads_from 0 code) n item) × (Accesses (reads_from 0 code) n item → Contains readers item)) (sym is) (subst (λ l. (Contains readers item → Accesses l number item) × (Accesses l number item → Contains readers item)) reads (e.0, e.1)))

        there : (p : ℕ) (item : Instr) → slice_get (remaining code dead) p ≡ Some item → Contains (reads_of item) x → Contains alive p
        there p item at c = by (cases_Bool (is_marked dead p))
          where
            by : (is_marked dead p ≡ true) ⊎ (is_marked dead p ≡ false) → Contains alive p
            by (inl m) = absurd (let n : nop ≡ item = same_Some nop item (sym (with_nops-dead nop dead code p sound.long m) ∙ at) in subst (In x) (sym (ap reads_of n)) (in_contains x (reads_of item) c))
            by (inr m) = (living p).1 (all.there p item (sym (with_nops-alive nop dead code p m) ∙ at) c, m)

        only : (p : ℕ) → Contains alive p → (item : Instr) × (slice_get (remaining code dead) p ≡ Some item) × Contains (reads_of item) x
        only p c = let l = (living p).0 c in let r = all.only p l.0 in (r.0, with_nops-alive nop dead code p l.1 ∙ r.1, r.2)

    pub searched : (arcs : List Arc) → AreBackArcs code arcs → (seeds found : List ℕ) → seeds ≡ alive → ((p : ℕ) → Contains found p ↔ IsFound arcs seeds (other_than number) p) → (queued : List Bool) → IsSearched code dead queued number found
    searched arcs are seeds found same search queued = record {
      live = λ x is off p reached c.
          found-live code (remaining code dead) (remaining-chain code dead sound) arcs are x alive (alive-readers x is) p (subst (λ n. IsFound arcs alive (other_than n) p) (sym is) (subst (λ s. IsFound arcs s (other_than number) p) same ((search p).0 c))) reached;
      not_live = λ x is p reached away live.
          away ((search p).1 (subst (λ s. IsFound arcs s (other_than number) p) (sym same) (subst (λ n. IsFound arcs alive (other_than n) p) is (live-found code (remaining code dead) (remaining-chain code dead sound) arcs are x alive (alive-readers x is) p reached live))));
    }

-- ---- one item

-- what looking at an item leaves
pub record Looked (code : List Instr) (dead more : List Bool) (queue longer : List ℕ) (queued marked : List Bool) (number : ℕ) (found : List ℕ) (item : ℕ) : Type 0 where
  pub looking : IsLooking code more longer marked number found
  pub looked : IsLookedAt more found item
  pub kept : (k : ℕ) → is_marked dead k ≡ true → is_marked more k ≡ true
  pub less : reads_left (remaining code more) + length longer ≤ reads_left (remaining code dead) + length queue

pub item-within : (code : List Instr) (number item : ℕ) → Accesses (assignments_from 0 code) number item → item < length code
item-within code number item a = let r = is_assignment code number item a in slice_get_within code item r.item r.at

pub look-dead : (code : List Instr) (dead : List Bool) (queue longer : List ℕ) (queued marked : List Bool) (number item : ℕ) (found : List ℕ) (instr : Instr) → IsLooking code dead queue queued number found → Accesses (assignments_from 0 code) number item
    → is_marked dead item ≡ false → (Contains found (suc item) → ⊥) → slice_get code item ≡ Some instr → Queues (IsReadBy instr) (length (reads_of instr)) queue longer queued marked → Looked code dead (set dead item true) queue longer queued marked number found item
look-dead code dead queue longer queued marked number item found instr l access alive away at q =
    let w = l.work in
    let a = is_assignment code number item access in
    let r = removable code dead queued number item found w.sound w.none_idle l.searched a alive away in
    let same : instr ≡ r.0.item = same_Some instr a.item (sym at ∙ a.at) ∙ sym r.1 in
    let queues : Queues (IsReadBy r.0.item) (length (reads_of r.0.item)) queue longer queued marked = subst (λ (i : Instr). Queues (IsReadBy i) (length (reads_of i)) queue longer queued marked) same q in
    let low : item < length dead = (let d = w.sound.long in let k = item-within code number item access in omega arith) in
    let fewer = fewer-reads code dead w.sound item low r.0 in
    let few = queues.few in
    record {
      looking = record {
        inside = subst (λ n. number < n) (sym queues.long) l.inside;
        work = more-work code dead w.sound item low r.0 queue longer queued marked queues (λ n. n ≡ number) w;
        searched = more-searched code dead w.sound item low r.0 queue longer queued marked queues number found l.inside l.searched;
      };
      looked = inl (get_or-set_same dead item true false low);
      kept = λ k e. ⊎_elim (λ h. ap (is_marked (set dead item true)) h ∙ get_or-set_same dead item true false low) (λ d. get_or-set_other dead item k true false d ∙ e) (cases_eq k item);
      less = omega arith;
    }

-- ---- several items

pub looked-more : (dead more : List Bool) (found items : List ℕ) (i item : ℕ) → i < length items → item ≡ get_or items i 0 → ((k : ℕ) → is_marked dead k ≡ true → is_marked more k ≡ true) → All (IsLookedAt dead found) (take i items) → IsLookedAt more found item → All (IsLookedAt more found) (take (i + 1) items)
looked-more dead more found items i item low is kept all one =
    subst (All (IsLookedAt more found)) (sym (take_more items i 0 low ∙ ap (λ k. take i items ++ k ∷ []) (sym is)))
    (All-push (IsLookedAt more found) (take i items) item (All-weaker (IsLookedAt dead found) (IsLookedAt more found) (λ k h. ⊎_elim (λ m. inl (kept k m)) inr h) (take i items) all) one)

-- ---- a location

pub looked-at : (code : List Instr) (dead : List Bool) (queue : List ℕ) (queued : List Bool) (number : ℕ) (found items : List ℕ) (list : List Access) → list ≡ assignments_from 0 code → ((item : ℕ) → Contains items item ↔ Accesses list number item) → All (IsLookedAt dead found) items
    → IsLooking code dead queue queued number found → IsWork code dead queue queued (λ n. ⊥)
looked-at code dead queue queued number found items list same exact all l = record {
  sound = l.work.sound;
  none_idle = l.work.none_idle;
  are = l.work.are;
  settled = λ x inside off free. ⊎_elim
      (λ e. settled code dead queued number found l.work.sound l.work.none_idle l.searched (ap (is_marked queued) (sym e) ∙ off)
      (λ k a. all_in (IsLookedAt dead found) items all k (in_contains k items ((exact k).1 (subst (λ c. Accesses c number k) (sym same) a)))) x e)
      (λ d. l.work.settled x inside off d) (cases_eq (number_of x) number);
}

-- the items of a location are assignments
pub items-assign : (code : List Instr) (number : ℕ) (items : List ℕ) (list : List Access) → list ≡ assignments_from 0 code → ((item : ℕ) → Contains items item ↔ Accesses list number item) → All (Accesses (assignments_from 0 code) number) items
items-assign code number items list same exact = in_all (Accesses (assignments_from 0 code) number) items (λ k i. subst (λ l. Accesses l number k) same ((exact k).0 (contains_in k items i)))
