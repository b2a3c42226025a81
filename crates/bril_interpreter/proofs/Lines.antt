-- What one `print` prints, piece by piece.
use Rattle.std.specs.Prelude.{max}
use Rattle.std.proofs.Common.{◌≡◌, ◌≢◌, ℕ, suc, ◌+◌, ◌<◌, ◌≤◌, length, map, drop, get_or, List, [], ◌∷◌, ◌++◌, refl, sym, ap, ◌∙◌, subst, append_assoc, arith}
use Rattle.std.proofs.lemmas.List.{map-append, drop_more, drop_all}
use Rattle.bril_outside.specs.Sink.{SinkSeen, joined, PutAll, PutSome}
use Rattle.bril_outside.proofs.SinkWrites.{joined-cons, PutAll-none, PutAll-append, PutSome-after, PutSome-longer}
use Rattle.bril_tree.specs.declared.limits.Limits.{Limits}
use Rattle.bril_tree.specs.declared.program.Prog.{Prog}
use Rattle.bril_tree.specs.declared.value.Value.{Value}
use Rattle.bril_tree.specs.Step.{line_of}
use Rattle.bril_tree.specs.Value.{shown}
use Rattle.bril_interpreter.specs.Line.{line_pieces}

-- the pieces of a line are the line
pub joined-line_pieces : (p : Prog) (limits : Limits) (vs : List Value) → joined (line_pieces vs) ≡ line_of vs
joined-line_pieces p limits [] = refl
joined-line_pieces p limits (v ∷ []) = refl
joined-line_pieces p limits (v ∷ w ∷ vs) =
    let more : List (List ℕ) = line_pieces (w ∷ vs) in
    joined-cons (shown v ++ 32 ∷ []) more
    ∙ append_assoc (shown v) (32 ∷ []) (joined more)
    ∙ ap (λ bytes. shown v ++ 32 ∷ bytes) (joined-line_pieces p limits (w ∷ vs))

-- they are as many as the values, and at least one
pub length-line_pieces : (vs : List Value) → length (line_pieces vs) ≡ max (length vs) 1
length-line_pieces [] = refl
length-line_pieces (v ∷ []) = refl
length-line_pieces (v ∷ w ∷ vs) = let more : length (line_pieces (w ∷ vs)) ≡ max (length (w ∷ vs)) 1 = length-line_pieces (w ∷ vs) in omega arith

some_behind : (xs ys : List ℕ) (x : ℕ) → (xs ++ x ∷ ys) ≢ []
some_behind [] ys x e = let f : x ∷ ys ≡ [] = e in cc
some_behind (z ∷ xs) ys x e = let f : z ∷ (xs ++ x ∷ ys) ≡ [] = e in cc

-- a print prints something
pub line_of-some : (p : Prog) (limits : Limits) (vs : List Value) → line_of vs ≢ []
line_of-some p limits [] = some_behind [] [] 10
line_of-some p limits (v ∷ []) = some_behind (shown v) [] 10
line_of-some p limits (v ∷ w ∷ vs) = some_behind (shown v) (line_of (w ∷ vs)) 32

pub line_pieces-some : (p : Prog) (limits : Limits) (vs : List Value) → joined (line_pieces vs) ≢ []
line_pieces-some p limits vs e = line_of-some p limits vs (sym (joined-line_pieces p limits vs) ∙ e)

-- the piece of a value, and the byte after it
pub piece_is : (bytes : List ℕ) (v w : Value) (end : ℕ) → bytes ≡ shown v ++ end ∷ [] → v ≡ w → bytes ≡ shown w ++ end ∷ []
piece_is bytes v w end e same = e ∙ ap (λ (u : Value). shown u ++ end ∷ []) same

-- one value of several
pub line_pieces-more : (v : Value) (ws : List Value) (l : Value) → line_pieces (v ∷ (ws ++ l ∷ [])) ≡ (shown v ++ 32 ∷ []) ∷ line_pieces (ws ++ l ∷ [])
line_pieces-more v [] l = refl
line_pieces-more v (w ∷ ws) l = refl

-- a list without items
pub no_items : (xs : List ℕ) → length xs ≡ 0 → xs ≡ []
no_items [] e = refl
no_items (x ∷ xs) e = absurd (let clash : suc (length xs) ≡ 0 = e in cc)

-- the rest of the pieces is left to be put
pub record IsLeft (whole rest : List (List ℕ)) (before now : SinkSeen) : Type 0 where
  pub done : List (List ℕ)
  pub is : whole ≡ done ++ rest
  pub put : PutAll before done now

pub IsLeft-all : (whole : List (List ℕ)) (s : SinkSeen) → IsLeft whole whole s s
IsLeft-all whole s = record { done = []; is = refl; put = PutAll-none s }

pub IsLeft-less : (whole rest pieces rest' : List (List ℕ)) (before now after : SinkSeen) → IsLeft whole rest before now → rest ≡ pieces ++ rest' → PutAll now pieces after → IsLeft whole rest' before after
IsLeft-less whole rest pieces rest' before now after left e put = record {
  done = left.done ++ pieces;
  is = left.is ∙ ap (λ r. left.done ++ r) e ∙ sym (append_assoc left.done pieces rest');
  put = PutAll-append left.put put;
}

pub IsLeft-none : (whole rest : List (List ℕ)) (before now after : SinkSeen) → IsLeft whole rest before now → PutAll now rest after → PutAll before whole after
IsLeft-none whole rest before now after left put = subst (λ w. PutAll before w after) (sym left.is) (PutAll-append left.put put)

pub IsLeft-failed : (whole rest pieces rest' : List (List ℕ)) (before now after : SinkSeen) → IsLeft whole rest before now → rest ≡ pieces ++ rest' → PutSome now pieces after → PutSome before whole after
IsLeft-failed whole rest pieces rest' before now after left e put =
    subst (λ w. PutSome before w after) (sym (left.is ∙ ap (λ r. left.done ++ r) e)) (PutSome-after left.put (PutSome-longer rest' put))

module _ (value : ℕ → Value) (others : List ℕ) (last k : ℕ) where
  -- the value at a place before the last, whose piece is this
  pub line-next : (bytes : List ℕ) → bytes ≡ shown (value (get_or others k 0)) ++ 32 ∷ [] → k < length others
      → line_pieces (map value (drop k others ++ last ∷ [])) ≡ (bytes ∷ []) ++ line_pieces (map value (drop (k + 1) others ++ last ∷ []))
  line-next bytes e h =
      let v : Value = value (get_or others k 0) in
      let more : List ℕ = drop (k + 1) others in
      let apart : map value (more ++ last ∷ []) ≡ map value more ++ value last ∷ [] = map-append value more (last ∷ []) in
      ap (λ xs. line_pieces (map value (xs ++ last ∷ []))) (drop_more others k 0 h)
      ∙ ap (λ (vs : List Value). line_pieces (v ∷ vs)) apart
      ∙ line_pieces-more v (map value more) (value last)
      ∙ ap (λ (vs : List Value). (shown v ++ 32 ∷ []) ∷ line_pieces vs) (sym apart)
      ∙ ap (λ (piece : List ℕ). piece ∷ line_pieces (map value (more ++ last ∷ []))) (sym e)

  -- the last value, whose piece is this
  pub line-end : (bytes : List ℕ) → bytes ≡ shown (value last) ++ 10 ∷ [] → length others ≤ k → line_pieces (map value (drop k others ++ last ∷ [])) ≡ (bytes ∷ []) ++ []
  line-end bytes e h = ap (λ xs. line_pieces (map value (xs ++ last ∷ []))) (drop_all k others h) ∙ ap (λ (piece : List ℕ). piece ∷ []) (sym e)
