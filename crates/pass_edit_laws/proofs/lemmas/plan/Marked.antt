-- A list with another item in place of those that are marked.
use Rattle.std.proofs.Common.{◌≡◌, ℕ, zero, suc, ◌<◌, Bool, true, false, cond, List, [], ◌∷◌, ◌++◌, length, map, get_or, set, Some, refl, ap, arith}
use Rattle.std.specs.Prelude.{slice_get}
use Rattle.pass_edit_laws.specs.plan.Marked.{with_nops}

-- one mark more among those that there are
pub with_nops-set : {X : Type 0} (e : X) (dead : List Bool) (items : List X) (k : ℕ) → length dead ≡ length items → k < length dead → with_nops e (set dead k true) items ≡ set (with_nops e dead items) k e
with_nops-set e [] items k long low = absurd (omega arith)
with_nops-set e (d ∷ dead) [] k long low = absurd (omega arith)
with_nops-set e (d ∷ dead) (x ∷ items) zero long low = refl
with_nops-set e (d ∷ dead) (x ∷ items) (suc k) long low = ap (λ l. cond d e x ∷ l) (with_nops-set e dead items k (omega arith) (omega arith))

-- what isn't marked stays
pub with_nops-alive : {X : Type 0} (e : X) (dead : List Bool) (items : List X) (k : ℕ) → get_or dead k false ≡ false → slice_get (with_nops e dead items) k ≡ slice_get items k
with_nops-alive e [] items k alive = refl
with_nops-alive e (d ∷ dead) [] k alive = refl
with_nops-alive e (d ∷ dead) (x ∷ items) zero alive = ap (λ b. Some (cond b e x)) alive
with_nops-alive e (d ∷ dead) (x ∷ items) (suc k) alive = with_nops-alive e dead items k alive

-- what is marked went
pub with_nops-dead : {X : Type 0} (e : X) (dead : List Bool) (items : List X) (k : ℕ) → length dead ≡ length items → get_or dead k false ≡ true → slice_get (with_nops e dead items) k ≡ Some e
with_nops-dead e [] items k long is = absurd cc
with_nops-dead e (d ∷ dead) [] k long is = absurd (omega arith)
with_nops-dead e (d ∷ dead) (x ∷ items) zero long is = ap (λ b. Some (cond b e x)) is
with_nops-dead e (d ∷ dead) (x ∷ items) (suc k) long is = with_nops-dead e dead items k (omega arith) is

pub length-with_nops : {X : Type 0} (e : X) (dead : List Bool) (items : List X) → length (with_nops e dead items) ≡ length items
length-with_nops e [] items = refl
length-with_nops e (d ∷ dead) [] = refl
length-with_nops e (d ∷ dead) (x ∷ items) = ap suc (length-with_nops e dead items)

pub with_nops-map : {X Y : Type 0} (f : X → Y) (e : X) (dead : List Bool) (items : List X) → map f (with_nops e dead items) ≡ with_nops (f e) dead (map f items)
with_nops-map f e [] items = refl
with_nops-map f e (d ∷ dead) [] = refl
with_nops-map f e (d ∷ dead) (x ∷ items) = λ i. one d i ∷ with_nops-map f e dead items i
  where
    one : (b : Bool) → f (cond b e x) ≡ cond b (f e) (f x)
    one true = refl
    one false = refl

-- ---- one item more at the end

pub nops-nil : {X : Type 0} (e : X) (dead : List Bool) → with_nops e dead [] ≡ []
nops-nil e [] = refl
nops-nil e (d ∷ dead) = refl

pub nops-push : {X : Type 0} (e : X) (dead : List Bool) (items : List X) (x : X) → with_nops e dead (items ++ x ∷ []) ≡ with_nops e dead items ++ cond (get_or dead (length items) false) e x ∷ []
nops-push e [] items x = refl
nops-push e (d ∷ dead) [] x = ap (λ l. cond d e x ∷ l) (nops-nil e dead)
nops-push e (d ∷ dead) (y ∷ items) x = ap (λ l. cond d e y ∷ l) (nops-push e dead items x)

-- ---- one mark more at the end

pub nops-true : {X : Type 0} (e : X) (dead : List Bool) (items : List X) → length dead < length items → with_nops e (dead ++ true ∷ []) items ≡ set (with_nops e dead items) (length dead) e
nops-true e [] [] low = absurd (omega arith)
nops-true e [] (x ∷ items) low = refl
nops-true e (d ∷ dead) [] low = absurd (omega arith)
nops-true e (d ∷ dead) (x ∷ items) low = ap (λ l. cond d e x ∷ l) (nops-true e dead items (omega arith))

pub nops-false : {X : Type 0} (e : X) (dead : List Bool) (items : List X) → with_nops e (dead ++ false ∷ []) items ≡ with_nops e dead items
nops-false e [] [] = refl
nops-false e [] (x ∷ items) = refl
nops-false e (d ∷ dead) [] = refl
nops-false e (d ∷ dead) (x ∷ items) = ap (λ l. cond d e x ∷ l) (nops-false e dead items)

pub nops-before : {X : Type 0} (e : X) (b : Bool) (dead : List Bool) (items : List X) (p : ℕ) → p < length dead → slice_get (with_nops e (dead ++ b ∷ []) items) p ≡ slice_get (with_nops e dead items) p
nops-before e b [] items p low = absurd (omega arith)
nops-before e b (d ∷ dead) [] p low = refl
nops-before e b (d ∷ dead) (x ∷ items) zero low = refl
nops-before e b (d ∷ dead) (x ∷ items) (suc p) low = nops-before e b dead items p (omega arith)
