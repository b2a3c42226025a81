-- Locations after an assignment.
use Rattle.std.proofs.Common.{◌≡◌, ◌⊎◌, ℕ, List, [], ◌∷◌, length, map, Option, Some, None, sym, ◌∙◌, inl, inr, ◌<◌}
use Rattle.std.specs.Prelude.{slice_index, is_some}
use Rattle.std.specs.List.{AllZip}
use Rattle.bril_tree.specs.declared.value.Value.{Value}
use Rattle.bril_tree.specs.FunctionForm.{listed}
use Rattle.bril_tree.specs.Operand.{Location, Variable, Shadow}
use Rattle.bril_tree.specs.State.{Locals, read}
use Rattle.bril_tree.specs.Step.{assigned, shadowed}
use Rattle.bril_tree.specs.Membership.{In}
use Rattle.bril_tree.specs.Locals.{value_at}
use Rattle.bril_tree.proofs.HeldValues.{read-alike, read-held, assigned-same as held_assigned-same, assigned-other as held_assigned-other, shadowed-same as held_shadowed-same, shadowed-other as held_shadowed-other}
use Rattle.bril_tree.proofs.Outcomes.{ReadAlike, arguments-same, argument-same}
use Rattle.pass_edit_laws.specs.plan.Plan.{ValuesMatch, HoldsKnown, StaysMatched}

pub assigned-same : (x : ℕ) (v : Value) (p : Locals) (a : Location) → a ≡ Variable x → value_at (assigned (Some x) v p) a ≡ v
assigned-same x v p a e = read-held (assigned (Some x) v p) a v (held_assigned-same x v p a e)

pub assigned-other : (x : ℕ) (v : Value) (p : Locals) (a : Location) → (a ≡ Variable x → ⊥) → value_at (assigned (Some x) v p) a ≡ value_at p a
assigned-other x v p a n = read-alike (assigned (Some x) v p) p a a (held_assigned-other x v p a n)

pub shadowed-same : (x : ℕ) (v : Value) (p : Locals) (a : Location) → a ≡ Shadow x → value_at (shadowed x v p) a ≡ v
shadowed-same x v p a e = read-held (shadowed x v p) a v (held_shadowed-same x v p a e)

pub shadowed-other : (x : ℕ) (v : Value) (p : Locals) (a : Location) → (a ≡ Shadow x → ⊥) → value_at (shadowed x v p) a ≡ value_at p a
shadowed-other x v p a n = read-alike (shadowed x v p) p a a (held_shadowed-other x v p a n)

only : {X : Type 0} (a b : X) → In a (b ∷ []) → a ≡ b
only a b (inl e) = e
only a b (inr h) = absurd h

module _ (A B : Location → Location → Type 0) (p q : Locals) (agree : ValuesMatch A p q) where
  -- nothing is assigned
  pub agree-none : ((a b : Location) → B a b → StaysMatched [] [] A a b) → ValuesMatch B p q
  agree-none kept a b h = by (kept a b h)
    where
      by : StaysMatched [] [] A a b → value_at p a ≡ value_at q b
      by (inl i) = absurd i.0
      by (inr k) = agree a b k.2

  -- one value is assigned on both sides
  pub agree-assigned : (d e : Option ℕ) (v : Value) → is_some d ≡ is_some e → ((a b : Location) → B a b → StaysMatched (map Variable (listed d)) (map Variable (listed e)) A a b) → ValuesMatch B (assigned d v p) (assigned e v q)
  agree-assigned None None v s kept a b h = agree-none kept a b h
  agree-assigned None (Some y) v s kept a b h = absurd (cc)
  agree-assigned (Some x) None v s kept a b h = absurd (cc)
  agree-assigned (Some x) (Some y) v s kept a b h = by (kept a b h)
    where
      by : StaysMatched (Variable x ∷ []) (Variable y ∷ []) A a b → value_at (assigned (Some x) v p) a ≡ value_at (assigned (Some y) v q) b
      by (inl i) = assigned-same x v p a (only a (Variable x) i.0) ∙ sym (assigned-same y v q b (only b (Variable y) i.1))
      by (inr k) = assigned-other x v p a (λ e. k.0 (inl e)) ∙ agree a b k.2 ∙ sym (assigned-other y v q b (λ e. k.1 (inl e)))

  pub agree-shadowed : (x y : ℕ) (v : Value) → ((a b : Location) → B a b → StaysMatched (Shadow x ∷ []) (Shadow y ∷ []) A a b) → ValuesMatch B (shadowed x v p) (shadowed y v q)
  agree-shadowed x y v kept a b h = by (kept a b h)
    where
      by : StaysMatched (Shadow x ∷ []) (Shadow y ∷ []) A a b → value_at (shadowed x v p) a ≡ value_at (shadowed y v q) b
      by (inl i) = shadowed-same x v p a (only a (Shadow x) i.0) ∙ sym (shadowed-same y v q b (only b (Shadow y) i.1))
      by (inr k) = shadowed-other x v p a (λ e. k.0 (inl e)) ∙ agree a b k.2 ∙ sym (shadowed-other y v q b (λ e. k.1 (inl e)))

  pub read-agree : (x y : ℕ) → A (Variable x) (Variable y) → read p.vars x ≡ read q.vars y
  read-agree x y h = agree (Variable x) (Variable y) h

  -- what matches reads the same
  pub zip-alike : (xs ys : List Location) → AllZip A xs ys → AllZip (ReadAlike p q) xs ys
  zip-alike [] [] h = tt
  zip-alike [] (y ∷ ys) h = absurd h
  zip-alike (x ∷ xs) [] h = absurd h
  zip-alike (x ∷ xs) (y ∷ ys) h = (agree x y h.0, zip-alike xs ys h.1)

  -- the values of the arguments
  pub reads-agree : (xs ys : List ℕ) → AllZip A (map Variable xs) (map Variable ys) → map (read p.vars) xs ≡ map (read q.vars) ys
  reads-agree xs ys h = arguments-same p q xs ys (zip-alike (map Variable xs) (map Variable ys) h)

  -- one of them
  pub read_at-agree : (xs ys : List ℕ) (k : ℕ) → k < length xs → AllZip A (map Variable xs) (map Variable ys) → read p.vars (slice_index xs k) ≡ read q.vars (slice_index ys k)
  read_at-agree xs ys k l h = argument-same p q xs ys k l (zip-alike (map Variable xs) (map Variable ys) h)

-- what is known after an assignment
module _ (K L : Location → Value → Type 0) (p : Locals) (holds : HoldsKnown K p) where
  pub holds-assigned : (d : Option ℕ) (v : Value) → ((a : Location) (u : Value) → L a u → ((In a (map Variable (listed d)) → ⊥) × K a u) ⊎ (In a (map Variable (listed d)) × (v ≡ u))) → HoldsKnown L (assigned d v p)
  holds-assigned None v learned a u l = by (learned a u l)
    where
      by : ((In a [] → ⊥) × K a u) ⊎ (In a [] × (v ≡ u)) → value_at p a ≡ u
      by (inl k) = holds a u k.1
      by (inr k) = absurd k.0
  holds-assigned (Some x) v learned a u l = by (learned a u l)
    where
      by : ((In a (Variable x ∷ []) → ⊥) × K a u) ⊎ (In a (Variable x ∷ []) × (v ≡ u)) → value_at (assigned (Some x) v p) a ≡ u
      by (inl k) = assigned-other x v p a (λ e. k.0 (inl e)) ∙ holds a u k.1
      by (inr k) = assigned-same x v p a (only a (Variable x) k.0) ∙ k.1

  pub holds-shadowed : (x : ℕ) (v : Value) → ((a : Location) (u : Value) → L a u → ((In a (Shadow x ∷ []) → ⊥) × K a u) ⊎ (In a (Shadow x ∷ []) × (v ≡ u))) → HoldsKnown L (shadowed x v p)
  holds-shadowed x v learned a u l = by (learned a u l)
    where
      by : ((In a (Shadow x ∷ []) → ⊥) × K a u) ⊎ (In a (Shadow x ∷ []) × (v ≡ u)) → value_at (shadowed x v p) a ≡ u
      by (inl k) = shadowed-other x v p a (λ e. k.0 (inl e)) ∙ holds a u k.1
      by (inr k) = shadowed-same x v p a (only a (Shadow x) k.0) ∙ k.1
