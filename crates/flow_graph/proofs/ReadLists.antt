-- The list of reads has exactly the reads of the items.
use Rattle.std.proofs.Common.{◌≡◌, ℕ, zero, suc, ◌+◌, ◌<◌, List, [], ◌∷◌, length, Some, None, refl, sym, ap, subst, ◌∙◌, ⊎_elim, arith}
use Rattle.std.specs.Prelude.{slice_get}
use Rattle.std.specs.List.{All}
use Rattle.std.proofs.lemmas.List.Elements.{All-map, All-append, All-weaker, All-nil}
use Rattle.std.proofs.lemmas.Option.{same_Some}
use Rattle.bril_tree.specs.declared.numbered.Instr.{Instr}
use Rattle.bril_tree.specs.Membership.{In}
use Rattle.bril_tree.specs.Operand.{Location, reads_of}
use Rattle.bril_tree.proofs.Members.{in_map, in_map_source, in_append_left, in_append_right, in_append_cases}
use Rattle.flow_graph.specs.Reads.{item_reads, access_at, reads_from}
use Rattle.flow_graph.specs.declared.reads.Access.{Access}

-- each read of an item is in the list
pub read-there : (first : ℕ) (code : List Instr) (k : ℕ) (item : Instr) (x : Location) → slice_get code k ≡ Some item → In x (reads_of item) → In (access_at (first + k) x) (reads_from first code)
read-there first [] k item x at i = absurd (let n : None ≡ Some item = at in cc)
read-there first (instr ∷ code) zero item x at i =
    let z : first + zero ≡ first = omega arith in
    let same : instr ≡ item = same_Some instr item at in
    in_append_left _ (item_reads first instr) (reads_from (suc first) code) (subst (λ n. In (access_at n x) (item_reads first instr)) (sym z) (in_map (access_at first) x (reads_of instr) (subst (λ (a : Instr). In x (reads_of a)) (sym same) i)))
read-there first (instr ∷ code) (suc k) item x at i =
    let z : suc first + k ≡ first + suc k = omega arith in
    in_append_right _ (item_reads first instr) (reads_from (suc first) code) (subst (λ n. In (access_at n x) (reads_from (suc first) code)) z (read-there (suc first) code k item x at i))

-- the read is one of an item
pub record ReadBy (first : ℕ) (code : List Instr) (read : Access) : Type 0 where
  pub k : ℕ
  pub item : Instr
  pub at : slice_get code k ≡ Some item
  pub x : Location
  pub among : In x (reads_of item)
  pub is : read ≡ access_at (first + k) x

pub read_by : (first : ℕ) (code : List Instr) (read : Access) → In read (reads_from first code) → ReadBy first code read
read_by first [] read i = absurd i
read_by first (instr ∷ code) read i = ⊎_elim here (λ r. later (read_by (suc first) code read r)) (in_append_cases read (item_reads first instr) (reads_from (suc first) code) i)
  where
    here : In read (item_reads first instr) → ReadBy first (instr ∷ code) read
    here h =
        let s = in_map_source (access_at first) read (reads_of instr) h in
        let z : first ≡ first + 0 = omega arith in
        record { k = 0; item = instr; at = refl; x = s.0; among = s.1; is = s.2 ∙ ap (λ n. access_at n s.0) z }

    later : ReadBy (suc first) code read → ReadBy first (instr ∷ code) read
    later r = let z : suc first + r.k ≡ first + suc r.k = omega arith in record { k = suc r.k; item = r.item; at = r.at; x = r.x; among = r.among; is = r.is ∙ ap (λ n. access_at n r.x) z }

-- items that read have numbers of the list
pub reads-inside : (first : ℕ) (code : List Instr) → All (λ read. read.item < first + length code) (reads_from first code)
reads-inside first [] = All-nil (λ read. read.item < first + 0)
reads-inside first (instr ∷ code) =
    All-append (λ read. read.item < first + suc (length code)) (item_reads first instr) (reads_from (suc first) code)
    (All-map (λ read. read.item < first + suc (length code)) (access_at first) (reads_of instr) (λ k d low. omega arith))
    (All-weaker (λ read. read.item < suc first + length code) (λ read. read.item < first + suc (length code)) (λ read h. omega arith) (reads_from (suc first) code) (reads-inside (suc first) code))
