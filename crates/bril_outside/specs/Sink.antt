-- What contracts say of a sink of bytes.
use Rattle.std.specs.Prelude.{ℕ, ◌≡◌, ◌+◌, ◌-◌, ◌^◌, ◌≤◌, Bool, true, min, nat_lt, nat_le, List, [], ◌∷◌, ◌++◌, length, Option, Some, None, if◌then◌else◌}
use Rattle.std.specs.Option.{option_map}

-- What is told of a sink: the bytes that were written to it, how many they are, and by how many puts, those that
-- failed among them, where it tells these; how many of its writes failed; and whether all that was written is out, which
-- is false where the sink may hold some of it back. The count of faults never falls, and stays at the end of its type.
pub record SinkSeen : Type 0 where
  pub written : Option (List ℕ)
  pub amount : Option ℕ
  pub puts : Option ℕ
  pub faults : ℕ
  pub is_out : Bool

-- a count of faults rose, or stands at the end of its type
abbrev pub Rose : ℕ → ℕ → Type 0
Rose before now = min (before + 1) (2 ^ 64 - 1) ≤ now

-- the next of a count that stays at 2 ^ 64 - 1, the end of its type
abbrev pub next_count : ℕ → ℕ
next_count n = if nat_lt n (2 ^ 64 - 1) then n + 1 else n

-- an amount, or a number of puts, with so many more; past 2 ^ 64 - 1, the end of its type, nothing is told
abbrev pub amount_after : Option ℕ → ℕ → Option ℕ
amount_after None more = None
amount_after (Some n) more = if nat_le more ((2 ^ 64 - 1) - n) then Some (n + more) else None

-- the sink took these bytes, and may have counted faults
pub record Took (s : SinkSeen) (bytes : List ℕ) (t : SinkSeen) : Type 0 where
  pub written : t.written ≡ option_map (λ w. w ++ bytes) s.written
  pub amount : t.amount ≡ amount_after s.amount (length bytes)
  pub faults : s.faults ≤ t.faults

-- the sink took all of the bytes, and counted no fault
pub record TookAll (s : SinkSeen) (bytes : List ℕ) (t : SinkSeen) : Type 0 where
  pub took : Took s bytes t
  pub sound : t.faults ≡ s.faults

-- the sink took the first of the bytes
pub record TookSome (s : SinkSeen) (bytes : List ℕ) (t : SinkSeen) : Type 0 where
  pub part : List ℕ
  pub rest : List ℕ
  pub whole : bytes ≡ part ++ rest
  pub took : Took s part t

-- What was put is told as it was; the faults may have risen.
pub record Flushed (s t : SinkSeen) : Type 0 where
  pub written : t.written ≡ s.written
  pub amount : t.amount ≡ s.amount
  pub puts : t.puts ≡ s.puts
  pub faults : s.faults ≤ t.faults

-- all that was put is out, and no fault was counted on the way
pub record HandedOn (s t : SinkSeen) : Type 0 where
  pub out : t.is_out ≡ true
  pub sound : t.faults ≡ s.faults

-- ---- puts

-- the sink was put to so many times
pub record PutTimes (s : SinkSeen) (puts : ℕ) (t : SinkSeen) : Type 0 where
  pub told : t.puts ≡ amount_after s.puts puts

-- the bytes of the pieces, one after another
abbrev pub joined : List (List ℕ) → List ℕ
joined [] = []
joined (piece ∷ []) = piece
joined (piece ∷ next ∷ more) = piece ++ joined (next ∷ more)

-- each of the pieces was put by one put, in this order, and the sink took all of them and counted no fault
pub record PutAll (s : SinkSeen) (pieces : List (List ℕ)) (t : SinkSeen) : Type 0 where
  pub took : TookAll s (joined pieces) t
  pub times : PutTimes s (length pieces) t

-- The pieces were put, each by one put, in this order, up to one whose put failed, of which the sink took the first
-- part; none was put after it.
pub record PutSome (s : SinkSeen) (pieces : List (List ℕ)) (t : SinkSeen) : Type 0 where
  pub front : List (List ℕ)
  pub part : List ℕ
  pub rest : List ℕ
  pub unput : List (List ℕ)
  pub whole : pieces ≡ front ++ (part ++ rest) ∷ unput
  pub took : Took s (joined (front ++ part ∷ [])) t
  pub times : PutTimes s (length (front ++ part ∷ [])) t
  pub rose : Rose s.faults t.faults

-- the sink took the bytes by so many puts, and stays where there is nothing to take
pub record TookBy (s : SinkSeen) (bytes : List ℕ) (puts : ℕ) (t : SinkSeen) : Type 0 where
  pub took : TookAll s bytes t
  pub times : PutTimes s puts t
  pub silent : bytes ≡ [] → t ≡ s

-- The sink took all of the bytes by so many puts. Then the pieces were put, each by one put, up to one whose put failed,
-- of which the sink took the first part; none was put after it.
pub record FailedAfter (s : SinkSeen) (bytes : List ℕ) (puts : ℕ) (pieces : List (List ℕ)) (t : SinkSeen) : Type 0 where
  pub front : List (List ℕ)
  pub part : List ℕ
  pub rest : List ℕ
  pub unput : List (List ℕ)
  pub whole : pieces ≡ front ++ (part ++ rest) ∷ unput
  pub took : Took s (bytes ++ joined (front ++ part ∷ [])) t
  pub times : PutTimes s (puts + length (front ++ part ∷ [])) t
  pub rose : Rose s.faults t.faults

-- ---- the amount and the bytes

-- the number is the length of the list, where both are there
abbrev pub IsLengthWhereTold : Option (List ℕ) → Option ℕ → Type 0
IsLengthWhereTold None amount = Unit {0}
IsLengthWhereTold (Some bytes) None = Unit {0}
IsLengthWhereTold (Some bytes) (Some n) = n ≡ length bytes

-- the amount of a sink is the length of what was written to it, where it tells both
abbrev pub AmountIsLength : SinkSeen → Type 0
AmountIsLength s = IsLengthWhereTold s.written s.amount

-- ---- a sink that counts

-- how many bytes it took by how many puts, as long as it knows these
pub record Counted : Type 0 where
  pub amount : Option ℕ
  pub puts : Option ℕ

-- it tells both
abbrev pub count_seen : Counted → SinkSeen
count_seen c = record { written = None; amount = c.amount; puts = c.puts; faults = 0; is_out = true }

-- after a put of so many bytes
abbrev pub counted_after : Counted → ℕ → Counted
counted_after c more = record { amount = amount_after c.amount more; puts = amount_after c.puts 1 }
