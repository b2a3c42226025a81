-- Lines of orders: what they lack, that they tell the order, and which lines they are.
use Rattle.std.proofs.Common.{◌≡◌, ◌≢◌, ℕ, ◌<◌, ◌^◌, true, false, not, append_assoc, List, [], ◌∷◌, ◌++◌, IsUtf8, refl, sym, ap, ap₂, subst, ◌∙◌, arith}
use Rattle.std.specs.Fmt.{decimal}
use Rattle.std.specs.Prelude.{codes, IsTrue, ◌==◌}
use Rattle.std.specs.List.{All, list_all}
use Rattle.std.proofs.lemmas.Bool.Decides.{Decides-eqb, nat_tests}
use Rattle.std.proofs.lemmas.Fmt.{decimal_injective}
use Rattle.std.proofs.lemmas.List.{append_cancel_left}
use Rattle.std.proofs.lemmas.List.Elements.{All-head, All-tail, All-append, All-weaker}
use Rattle.std.proofs.lemmas.List.Sums.{AllPass-from_list_all}
use Rattle.std.proofs.lemmas.Str.{IsUtf8-from_ascii}
use Rattle.std.proofs.lemmas.Str.Ascii.{IsAscii-from_all}
use Rattle.bril_tree.specs.Identifier.{is_identifier, continues_identifier}
use Rattle.bril_tree.proofs.Identifiers.{identifier_continues}
use Rattle.monitor_script.specs.declared.order.Order.{Order}
use Rattle.monitor_script.specs.declared.order.Order.TheVariants.{Break, Clear, Go, Step, Show}
use Rattle.monitor_script.specs.Form.{Lacks, IsOrder, IsPoint, order_line, point_text, script_text}
use Rattle.monitor_script.specs.Fault.{HasNoOrder}
use Rattle.monitor_script.proofs.Cuts.{cut_once, lacks_at}
use Rattle.monitor_script.proofs.Items.{item_lacks}

-- ---- names

-- a byte that no identifier has
pub name_lacks : (b : ℕ) (name : List ℕ) → continues_identifier b ≡ false → is_identifier name ≡ true → Lacks b name
name_lacks b name out h =
    All-weaker (λ c. continues_identifier c ≡ true) (λ c. c ≢ b) other name (AllPass-from_list_all continues_identifier name (identifier_continues name h))
  where
    other : (c : ℕ) → continues_identifier c ≡ true → c ≢ b
    other c inside e = let k : true ≡ false = sym inside ∙ ap continues_identifier e ∙ out in cc

continues_below : (b : ℕ) → continues_identifier b ≡ true → b < 128
continues_below b e = grind (arith, nat_tests)

-- an identifier is text
pub name_is_text : (name : List ℕ) → is_identifier name ≡ true → IsUtf8 name
name_is_text name h =
    IsUtf8-from_ascii name (IsAscii-from_all name (All-weaker (λ c. continues_identifier c ≡ true) (λ c. c < 128) continues_below name (AllPass-from_list_all continues_identifier name (identifier_continues name h))))

-- ---- what lines lack

-- bytes of a literal, none of which is LF
plain_lacks : (bytes : List ℕ) → list_all (λ b. not (b == 10)) bytes ≡ true → Lacks 10 bytes
plain_lacks bytes h = All-weaker (λ b. not (b == 10) ≡ true) (λ b. b ≢ 10) other bytes (AllPass-from_list_all (λ b. not (b == 10)) bytes h)
  where
    other : (c : ℕ) → not (c == 10) ≡ true → c ≢ 10
    other c inside e = let k : true ≡ false = sym inside ∙ ap (λ b. not (b == 10)) e in cc

point_lacks : (func : List ℕ) (item : ℕ) → IsPoint func item → Lacks 10 (point_text func item)
point_lacks func item valid =
    All-append (λ c. c ≢ 10) func (32 ∷ decimal item) (name_lacks 10 func refl valid.named)
    (All-append (λ c. c ≢ 10) (32 ∷ []) (decimal item) (plain_lacks (32 ∷ []) refl) (item_lacks 10 item (omega arith) valid.low))

pub line_lacks : (order : Order) → IsOrder order → Lacks 10 (order_line order)
line_lacks (Break func item) valid = All-append (λ c. c ≢ 10) (codes "break @") (point_text func item) (plain_lacks (codes "break @") refl) (point_lacks func item valid)
line_lacks (Clear func item) valid = All-append (λ c. c ≢ 10) (codes "clear @") (point_text func item) (plain_lacks (codes "clear @") refl) (point_lacks func item valid)
line_lacks Go valid = plain_lacks (codes "go") refl
line_lacks Step valid = plain_lacks (codes "step") refl
line_lacks Show valid = plain_lacks (codes "show") refl

-- ---- what lines tell

-- the second letter, which tells the kind of an order
abbrev pub second : List ℕ → ℕ
second [] = 0
second (a ∷ []) = 0
second (a ∷ b ∷ bytes) = b

pub apart : (xs ys : List ℕ) → (second xs == second ys) ≡ false → xs ≡ ys → ⊥
apart xs ys other e = let k : true ≡ false = sym ((Decides-eqb (second xs) (second ys)).1 (ap second e)) ∙ other in cc

point_same : (f g : List ℕ) (m n : ℕ) → IsPoint f m → IsPoint g n → point_text f m ≡ point_text g n → (f ≡ g) × (m ≡ n)
point_same f g m n vf vg e =
    let p = cut_once 32 f g (decimal m) (decimal n) (name_lacks 32 f refl vf.named) (name_lacks 32 g refl vg.named) e in
    (p.0, decimal_injective m n (let h = vf.low in omega arith) (let h = vg.low in omega arith) p.1)

pub order_same : (a b : Order) → IsOrder a → IsOrder b → order_line a ≡ order_line b → a ≡ b
order_same (Break f m) (Break g n) va vb e = let p = point_same f g m n va vb (append_cancel_left (codes "break @") (point_text f m) (point_text g n) e) in ap₂ Break p.0 p.1
order_same (Clear f m) (Clear g n) va vb e = let p = point_same f g m n va vb (append_cancel_left (codes "clear @") (point_text f m) (point_text g n) e) in ap₂ Clear p.0 p.1
order_same Go Go va vb e = refl
order_same Step Step va vb e = refl
order_same Show Show va vb e = refl
order_same (Break f m) (Clear g n) va vb e = absurd (apart (order_line (Break f m)) (order_line (Clear g n)) refl e)
order_same (Break f m) Go va vb e = absurd (apart (order_line (Break f m)) (order_line Go) refl e)
order_same (Break f m) Step va vb e = absurd (apart (order_line (Break f m)) (order_line Step) refl e)
order_same (Break f m) Show va vb e = absurd (apart (order_line (Break f m)) (order_line Show) refl e)
order_same (Clear f m) (Break g n) va vb e = absurd (apart (order_line (Clear f m)) (order_line (Break g n)) refl e)
order_same (Clear f m) Go va vb e = absurd (apart (order_line (Clear f m)) (order_line Go) refl e)
order_same (Clear f m) Step va vb e = absurd (apart (order_line (Clear f m)) (order_line Step) refl e)
order_same (Clear f m) Show va vb e = absurd (apart (order_line (Clear f m)) (order_line Show) refl e)
order_same Go (Break g n) va vb e = absurd (apart (order_line Go) (order_line (Break g n)) refl e)
order_same Go (Clear g n) va vb e = absurd (apart (order_line Go) (order_line (Clear g n)) refl e)
order_same Go Step va vb e = absurd (apart (order_line Go) (order_line Step) refl e)
order_same Go Show va vb e = absurd (apart (order_line Go) (order_line Show) refl e)
order_same Step (Break g n) va vb e = absurd (apart (order_line Step) (order_line (Break g n)) refl e)
order_same Step (Clear g n) va vb e = absurd (apart (order_line Step) (order_line (Clear g n)) refl e)
order_same Step Go va vb e = absurd (apart (order_line Step) (order_line Go) refl e)
order_same Step Show va vb e = absurd (apart (order_line Step) (order_line Show) refl e)
order_same Show (Break g n) va vb e = absurd (apart (order_line Show) (order_line (Break g n)) refl e)
order_same Show (Clear g n) va vb e = absurd (apart (order_line Show) (order_line (Clear g n)) refl e)
order_same Show Go va vb e = absurd (apart (order_line Show) (order_line Go) refl e)
order_same Show Step va vb e = absurd (apart (order_line Show) (order_line Step) refl e)

-- ---- where a line is no order's

pub no_space : (rest : List ℕ) → Lacks 32 rest → (func : List ℕ) (item : ℕ) → IsPoint func item → rest ≡ point_text func item → ⊥
no_space rest lacks func item valid e = lacks_at 32 rest func (decimal item) lacks e

module _ (rest name digits : List ℕ) (is : rest ≡ name ++ 32 ∷ digits) (lacks : Lacks 32 name) where
  parts_of : (func : List ℕ) (item : ℕ) → IsPoint func item → rest ≡ point_text func item → (name ≡ func) × (digits ≡ decimal item)
  parts_of func item valid e = cut_once 32 name func digits (decimal item) lacks (name_lacks 32 func refl valid.named) (sym is ∙ e)

  pub no_name : is_identifier name ≡ false → (func : List ℕ) (item : ℕ) → IsPoint func item → rest ≡ point_text func item → ⊥
  no_name out func item valid e = let k : true ≡ false = sym valid.named ∙ ap is_identifier (sym (parts_of func item valid e).0) ∙ out in cc

  pub no_item : ((item : ℕ) → item < 2 ^ 32 → digits ≡ decimal item → ⊥) → (func : List ℕ) (item : ℕ) → IsPoint func item → rest ≡ point_text func item → ⊥
  no_item none func item valid e = none item valid.low (parts_of func item valid e).1

pub point_is : (rest name digits func : List ℕ) (item : ℕ) → rest ≡ name ++ 32 ∷ digits → (func ≡ name) × IsTrue (is_identifier name) → (digits ≡ decimal item) × (item < 2 ^ 32) → (rest ≡ point_text func item) × IsPoint func item
point_is rest name digits func item is named spelled =
    (is ∙ ap₂ (λ (xs ys : List ℕ). xs ++ 32 ∷ ys) (sym named.0) spelled.0, record { named = subst (λ z. IsTrue (is_identifier z)) (sym named.0) named.1; low = spelled.1 })

pub no_clear : (line rest : List ℕ) → line ≡ codes "clear @" ++ rest → ((func : List ℕ) (item : ℕ) → IsPoint func item → rest ≡ point_text func item → ⊥)
    → (func : List ℕ) (item : ℕ) → IsPoint func item → line ≡ order_line (Clear func item) → ⊥
no_clear line rest is none func item valid e = none func item valid (append_cancel_left (codes "clear @") rest (point_text func item) (sym is ∙ e))

-- ---- scripts

-- the line of the first order, its LF, and what follows
pub line_front : (order : Order) (orders : List Order) (rest : List ℕ) → script_text (order ∷ orders) ++ rest ≡ order_line order ++ 10 ∷ (script_text orders ++ rest)
line_front order orders rest = append_assoc (order_line order ++ 10 ∷ []) (script_text orders) rest ∙ append_assoc (order_line order) (10 ∷ []) (script_text orders ++ rest)

-- Of two readings of one source, to where no order follows: the orders are the same, and what is left.
pub record AreSame (xs ys : List Order) (r s : List ℕ) : Type 0 where
  pub orders : xs ≡ ys
  pub rest : r ≡ s

pub orders_same : (xs ys : List Order) (r s : List ℕ) → All IsOrder xs → All IsOrder ys → HasNoOrder r → HasNoOrder s → script_text xs ++ r ≡ script_text ys ++ s → AreSame xs ys r s
orders_same [] [] r s vx vy nr ns e = record { orders = refl; rest = e }
orders_same [] (y ∷ ys) r s vx vy nr ns e = absurd (nr y (script_text ys ++ s) (All-head IsOrder y ys vy) (e ∙ line_front y ys s))
orders_same (x ∷ xs) [] r s vx vy nr ns e = absurd (ns x (script_text xs ++ r) (All-head IsOrder x xs vx) (sym e ∙ line_front x xs r))
orders_same (x ∷ xs) (y ∷ ys) r s vx vy nr ns e =
    let first = All-head IsOrder x xs vx in
    let other = All-head IsOrder y ys vy in
    let p = cut_once 10 (order_line x) (order_line y) (script_text xs ++ r) (script_text ys ++ s) (line_lacks x first) (line_lacks y other) (sym (line_front x xs r) ∙ e ∙ line_front y ys s) in
    let q = orders_same xs ys r s (All-tail IsOrder x xs vx) (All-tail IsOrder y ys vy) nr ns p.1 in
    record { orders = ap₂ (λ z (zs : List Order). z ∷ zs) (order_same x y first other p.0) q.orders; rest = q.rest }
