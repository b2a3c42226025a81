-- The queue of locations.
use Rattle.std.proofs.Common.{◌≡◌, ◌⊎◌, ◌↔◌, ℕ, ◌+◌, ◌<◌, ◌≤◌, Bool, true, false, cond, append-nil, List, [], ◌∷◌, ◌++◌, length, map, get_or, take, replicate, refl, sym, ap, subst, ◌∙◌, inl, inr, ⊎_elim, arith, true≢false}
use Rattle.std.specs.List.{Contains}
use Rattle.std.proofs.lemmas.Bool.{cases_Bool, cases_eq, cases_lt}
use Rattle.std.proofs.lemmas.List.{get_or-replicate, get_or_past, length-replicate, length-map, take_more}
use Rattle.bril_tree.specs.declared.numbered.Instr.{Instr}
use Rattle.bril_tree.specs.Membership.{In}
use Rattle.bril_tree.specs.Operand.{Location, reads_of}
use Rattle.bril_tree.proofs.Members.{in_contains, contains_in, in_append_left, in_append_right, in_append_cases}
use Rattle.flow_graph.specs.Location.{number_of}
use Rattle.flow_graph.specs.Reads.{access_at, item_reads}
use Rattle.flow_graph.specs.declared.reads.Access.{Access}
use Rattle.pass_edit_laws.proofs.lemmas.plan.Elements.{in_all}
use Rattle.graph_search.specs.Marks.{is_marked}
use Rattle.dead_code.specs.Work.{AreQueued, IsReadBy, Queues}

only_one : (n l : ℕ) → In n (l ∷ []) → n ≡ l
only_one n l (inl e) = e
only_one n l (inr i) = absurd i

-- a mark is among the marks
marked-within : (marks : List Bool) (l : ℕ) → is_marked marks l ≡ true → l < length marks
marked-within marks l e = ⊎_elim (λ low. low) (λ past. absurd (true≢false (sym e ∙ get_or_past marks l false past))) (cases_lt l (length marks))

-- ---- several

pub queues-none : (P : ℕ → Type 0) (queue : List ℕ) (queued : List Bool) → AreQueued queue queued → ((n : ℕ) → P n → ⊥) → Queues P 0 queue queue queued queued
queues-none P queue queued are none = record { are = are; long = refl; kept = λ n e. e; all = λ n p low. absurd (none n p); few = omega arith }

pub queues-more : (P R : ℕ → Type 0) (m l : ℕ) (a b c : List ℕ) (qa qb qc : List Bool) → Queues P m a b qa qb → Queues (λ n. n ≡ l) 1 b c qb qc → ((n : ℕ) → R n → P n ⊎ (n ≡ l)) → Queues R (m + 1) a c qa qc
queues-more P R m l a b c qa qb qc first second split = record {
  are = second.are;
  long = second.long ∙ first.long;
  kept = λ n e. second.kept n (first.kept n e);
  all = λ n r low. ⊎_elim (λ p. second.kept n (first.all n p low)) (λ e. second.all n e (let h = first.long in omega (arith, h, low))) (split n r);
  few = let f = first.few in let g = second.few in omega arith;
}

-- the reads of an item so far
abbrev pub IsAmong : List Access → ℕ → Type 0
IsAmong reads n = Contains (map (λ (access : Access). access.location) reads) n

pub among-none : (n : ℕ) → IsAmong [] n → ⊥
among-none n h = in_contains n [] h

pub among-more : (reads : List Access) (read : Access) (n : ℕ) → In n (map (λ (access : Access). access.location) (reads ++ read ∷ [])) → In n (map (λ (access : Access). access.location) reads) ⊎ (n ≡ read.location)
among-more [] read n (inl e) = inr e
among-more [] read n (inr i) = absurd i
among-more (r ∷ reads) read n (inl e) = inl (inl e)
among-more (r ∷ reads) read n (inr i) = ⊎_elim (λ h. inl (inr h)) inr (among-more reads read n i)

pub read-queued : (reads : List Access) (i : ℕ) (read : Access) (a b c : List ℕ) (qa qb qc : List Bool) → i < length reads → read ≡ get_or reads i read → Queues (IsAmong (take i reads)) i a b qa qb → Queues (λ n. n ≡ read.location) 1 b c qb qc → Queues (IsAmong (take (i + 1) reads)) (i + 1) a c qa qc
read-queued reads i read a b c qa qb qc low is first second =
    queues-more (IsAmong (take i reads)) (IsAmong (take (i + 1) reads)) i read.location a b c qa qb qc first second
    (λ n h. ⊎_elim (λ k. inl (contains_in n _ k)) inr (among-more (take i reads) read n (subst (λ l. In n (map (λ (access : Access). access.location) l)) (take_more reads i read low ∙ ap (λ r. take i reads ++ r ∷ []) (sym is)) (in_contains n _ h))))

pub numbers-read : (item : ℕ) (xs : List Location) → map (λ (access : Access). access.location) (map (access_at item) xs) ≡ map number_of xs
numbers-read item [] = refl
numbers-read item (x ∷ xs) = ap (λ l. number_of x ∷ l) (numbers-read item xs)

-- all reads of an item
pub all-queued : (item : ℕ) (instr : Instr) (reads : List Access) (i : ℕ) (a c : List ℕ) (qa qc : List Bool) → reads ≡ item_reads item instr → take i reads ≡ reads → i ≤ length reads → Queues (IsAmong (take i reads)) i a c qa qc → Queues (IsReadBy instr) (length (reads_of instr)) a c qa qc
all-queued item instr reads i a c qa qc is all within q = record {
  are = q.are;
  long = q.long;
  kept = q.kept;
  all = λ n h low. q.all n (subst (λ l. Contains l n) (sym (numbers-read item (reads_of instr)) ∙ ap (map (λ (access : Access). access.location)) (sym is ∙ sym all)) h) low;
  few = let f = q.few in let l = ap length is ∙ length-map (reads_of instr) (access_at item) in omega arith;
}

-- ---- the start

pub all-are-queued : (queue : List ℕ) (queued : List Bool) (count : ℕ) → queued ≡ replicate count true → ((n : ℕ) → Contains queue n ↔ (n < count)) → AreQueued queue queued
all-are-queued queue queued count is exact = record {
  inside = in_all (λ n. n < length queued) queue (λ n i. let l = ap length is ∙ length-replicate count true in let k = (exact n).0 (contains_in n queue i) in omega arith);
  there = λ n e. (exact n).1 (let l = ap length is ∙ length-replicate count true in let k = marked-within queued n e in omega arith);
}

pub none-off : (queued : List Bool) (count n : ℕ) {X : Type 0} → queued ≡ replicate count true → n < length queued → is_marked queued n ≡ false → X
none-off queued count n is low off =
    absurd (true≢false (sym (get_or-replicate count n true false (let l = ap length is ∙ length-replicate count true in omega arith)) ∙ ap (λ q. get_or q n false) (sym is) ∙ off))

-- the numbers so far
pub one-number : (numbers more : List ℕ) (n : ℕ) → ((m : ℕ) → Contains numbers m ↔ (m < n)) → more ≡ numbers ++ n ∷ [] → (m : ℕ) → Contains more m ↔ (m < n + 1)
one-number numbers more n exact is m = (
  (λ c. ⊎_elim (λ i. let k = (exact m).0 (contains_in m numbers i) in omega arith) (λ i. let e = only_one m n i in omega arith) (in_append_cases m numbers (n ∷ []) (subst (In m) is (in_contains m more c)))),
  (λ low. contains_in m more (subst (In m) (sym is) (⊎_elim (λ e. in_append_right m numbers (n ∷ []) (inl e)) (λ d. in_append_left m numbers (n ∷ []) (in_contains m numbers ((exact m).1 (less m n low d)))) (cases_eq m n)))),
)
  where
    less : (m n : ℕ) → m < n + 1 → (m ≡ n → ⊥) → m < n
    less m n low d = ⊎_elim (λ l. l) (λ g. absurd (d (omega arith))) (cases_lt m n)

-- ---- items that aren't dead

pub alive-more : (dead : List Bool) (items alive more : List ℕ) (i : ℕ) → i < length items → ((m : ℕ) → Contains alive m ↔ (Contains (take i items) m × (is_marked dead m ≡ false))) → more ≡ alive ++ cond (is_marked dead (get_or items i 0)) [] (get_or items i 0 ∷ [])
    → (m : ℕ) → Contains more m ↔ (Contains (take (i + 1) items) m × (is_marked dead m ≡ false))
alive-more dead items alive more i low exact is m = by (cases_Bool (is_marked dead item))
  where
    item : ℕ
    item = get_or items i 0

    step : take (i + 1) items ≡ take i items ++ get_or items i 0 ∷ []
    step = take_more items i 0 low

    earlier : Contains (take i items) m → Contains (take (i + 1) items) m
    earlier c = contains_in m (take (i + 1) items) (subst (In m) (sym step) (in_append_left m (take i items) (get_or items i 0 ∷ []) (in_contains m (take i items) c)))

    split : Contains (take (i + 1) items) m → Contains (take i items) m ⊎ (m ≡ get_or items i 0)
    split c = ⊎_elim (λ h. inl (contains_in m (take i items) h)) (λ h. inr (only_one m (get_or items i 0) h)) (in_append_cases m (take i items) (get_or items i 0 ∷ []) (subst (In m) step (in_contains m (take (i + 1) items) c)))

    by : (is_marked dead (get_or items i 0) ≡ true) ⊎ (is_marked dead (get_or items i 0) ≡ false) → Contains more m ↔ (Contains (take (i + 1) items) m × (is_marked dead m ≡ false))
    by (inl marked) =
        let same : more ≡ alive = is ∙ ap (λ b. alive ++ cond b [] (get_or items i 0 ∷ [])) marked ∙ append-nil alive in (
          (λ c. let k = (exact m).0 (subst (λ l. Contains l m) same c) in (earlier k.0, k.1)),
          (λ k. subst (λ l. Contains l m) (sym same) ((exact m).1 (⊎_elim (λ c. c) (λ e. absurd (true≢false (sym marked ∙ ap (is_marked dead) (sym e) ∙ k.1))) (split k.0), k.1))),
        )
    by (inr free) =
        let same : more ≡ alive ++ get_or items i 0 ∷ [] = is ∙ ap (λ b. alive ++ cond b [] (get_or items i 0 ∷ [])) free in (
          (λ c. ⊎_elim (λ h. let k = (exact m).0 (contains_in m alive h) in (earlier k.0, k.1))
              (λ h. let e = only_one m (get_or items i 0) h in (contains_in m (take (i + 1) items) (subst (In m) (sym step) (in_append_right m (take i items) (get_or items i 0 ∷ []) (inl e))), ap (is_marked dead) e ∙ free))
              (in_append_cases m alive (get_or items i 0 ∷ []) (subst (In m) same (in_contains m more c)))),
          (λ k. contains_in m more (subst (In m) (sym same) (⊎_elim (λ c. in_append_left m alive (get_or items i 0 ∷ []) (in_contains m alive ((exact m).1 (c, k.1)))) (λ e. in_append_right m alive (get_or items i 0 ∷ []) (inl e)) (split k.0)))),
        )
