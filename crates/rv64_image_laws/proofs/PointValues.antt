-- A word is that of one value of a type, and at a point that of the variable's.
use Rattle.std.proofs.Common.{◌≡◌, ℕ, zero, suc, ◌+◌, ◌*◌, ◌^◌, ◌<◌, Bool, true, false, cond, eqb, List, [], ◌∷◌, Option, Some, None, ℤ, pos, negsuc, refl, sym, ap, ◌∙◌, subst, arith}
use Rattle.std.specs.Prelude.{FitsSigned, nat_lt, slice_get}
use Rattle.std.specs.Int.{cast_signed, cast_unsigned, from_bool, w32, w64}
use Rattle.std.specs.List.{find}
use Rattle.std.proofs.lemmas.Bool.{eqb-true}
use Rattle.std.proofs.lemmas.Bool.Decides.{nat_tests}
use Rattle.std.proofs.lemmas.Int.{to_z-of_z}
use Rattle.bril_tree.specs.declared.home.Home.{Home}
use Rattle.bril_tree.specs.declared.home.Home.TheVariants.{Reg, Frame}
use Rattle.bril_tree.specs.declared.types.Base.{Base}
use Rattle.bril_tree.specs.declared.types.Base.TheVariants as base
use Rattle.bril_tree.specs.declared.types.Ty.{Ty}
use Rattle.bril_tree.specs.declared.value.Value.{Value}
use Rattle.bril_tree.specs.declared.value.Value.TheVariants.{Int, Bool as Boolean, Char, Ptr}
use Rattle.bril_tree.specs.Run.{Suits}
use Rattle.bril_tree.specs.Value.{IsInRange, IsOfBase, IsOfDepth, word_of}
use Rattle.rv64_image_laws.specs.Home.{IsAt}
use Rattle.rv64_words.specs.Region.{Sizes, sizes_of}
use Rattle.rv64_words.specs.State as rv64
use Rattle.rv64_words.specs.declared.points.HomeAt.{HomeAt}
use Rattle.rv64_image_laws.specs.PointsShown.{IsHomeNamed}
use Rattle.rv64_words.specs.StackWords.{word_in_stack}
use Rattle.rv64_image_laws.specs.Stops.{IsValueOf, ShownBy, ValuesAreShown, entry_of, home_word}

-- ---- one value

ints_one : (a b : ℤ) → FitsSigned w64 a → FitsSigned w64 b → cast_unsigned w64 a ≡ cast_unsigned w64 b → a ≡ b
ints_one a b fa fb e = sym (to_z-of_z w64 a fa) ∙ (ap (cast_signed w64) e ∙ to_z-of_z w64 b fb)

offsets_one : (a b : ℤ) → FitsSigned w32 a → FitsSigned w32 b → cast_unsigned w32 a ≡ cast_unsigned w32 b → a ≡ b
offsets_one a b fa fb e = sym (to_z-of_z w32 a fa) ∙ (ap (cast_signed w32) e ∙ to_z-of_z w32 b fb)

bools_one : (a b : Bool) → from_bool a ≡ from_bool b → a ≡ b
bools_one true true e = refl
bools_one true false e = absurd (let f : ◌≡◌ {A = ℕ} 1 0 = e in omega arith)
bools_one false true e = absurd (let f : ◌≡◌ {A = ℕ} 0 1 = e in omega arith)
bools_one false false e = refl

-- an offset's word has 32 bits
small : (o : ℤ) → FitsSigned w32 o → cast_unsigned w32 o < 2 ^ 32
small (pos n) fits = let f = fits.sfits in omega arith
small (negsuc n) fits = let f = fits.sfits in omega arith

pointers_one : (a b : ℕ) (x y : ℤ) → FitsSigned w32 x → FitsSigned w32 y → a * 2 ^ 32 + cast_unsigned w32 x ≡ b * 2 ^ 32 + cast_unsigned w32 y → Ptr a x ≡ Ptr b y
pointers_one a b x y fx fy e =
    let p = small x fx in
    let q = small y fy in
    let block : a ≡ b = omega arith in
    let words : cast_unsigned w32 x ≡ cast_unsigned w32 y = omega arith in
    ap (λ k. Ptr k x) block ∙ ap (Ptr b) (offsets_one x y fx fy words)

base_one : (b : Base) (v w : Value) → IsInRange v → IsInRange w → IsOfBase b v → IsOfBase b w → word_of v ≡ word_of w → v ≡ w
base_one base.Int (Int m) (Int n) fv fw ov ow e = ap Int (ints_one m n fv fw e)
base_one base.Bool (Boolean m) (Boolean n) fv fw ov ow e = ap Boolean (bools_one m n e)
base_one base.Char (Char m) (Char n) fv fw ov ow e = ap Char e
base_one base.Int (Boolean m) w fv fw ov ow e = absurd ov
base_one base.Int (Char m) w fv fw ov ow e = absurd ov
base_one base.Int (Ptr m o) w fv fw ov ow e = absurd ov
base_one base.Int (Int m) (Boolean n) fv fw ov ow e = absurd ow
base_one base.Int (Int m) (Char n) fv fw ov ow e = absurd ow
base_one base.Int (Int m) (Ptr n o) fv fw ov ow e = absurd ow
base_one base.Bool (Int m) w fv fw ov ow e = absurd ov
base_one base.Bool (Char m) w fv fw ov ow e = absurd ov
base_one base.Bool (Ptr m o) w fv fw ov ow e = absurd ov
base_one base.Bool (Boolean m) (Int n) fv fw ov ow e = absurd ow
base_one base.Bool (Boolean m) (Char n) fv fw ov ow e = absurd ow
base_one base.Bool (Boolean m) (Ptr n o) fv fw ov ow e = absurd ow
base_one base.Char (Int m) w fv fw ov ow e = absurd ov
base_one base.Char (Boolean m) w fv fw ov ow e = absurd ov
base_one base.Char (Ptr m o) w fv fw ov ow e = absurd ov
base_one base.Char (Char m) (Int n) fv fw ov ow e = absurd ow
base_one base.Char (Char m) (Boolean n) fv fw ov ow e = absurd ow
base_one base.Char (Char m) (Ptr n o) fv fw ov ow e = absurd ow

depth_one : (d : ℕ) (b : Base) (v w : Value) → IsInRange v → IsInRange w → IsOfDepth d b v → IsOfDepth d b w → word_of v ≡ word_of w → v ≡ w
depth_one zero b v w fv fw ov ow e = base_one b v w fv fw ov ow e
depth_one (suc d) b (Ptr m x) (Ptr n y) fv fw ov ow e = pointers_one m n x y fv.1 fw.1 e
depth_one (suc d) b (Int m) w fv fw ov ow e = absurd ov
depth_one (suc d) b (Boolean m) w fv fw ov ow e = absurd ov
depth_one (suc d) b (Char m) w fv fw ov ow e = absurd ov
depth_one (suc d) b (Ptr m x) (Int n) fv fw ov ow e = absurd ow
depth_one (suc d) b (Ptr m x) (Boolean n) fv fw ov ow e = absurd ow
depth_one (suc d) b (Ptr m x) (Char n) fv fw ov ow e = absurd ow

-- two values of a type that have one word are one
pub value_one : (ty : Ty) (v w : Value) → Suits v (Some ty) → Suits w (Some ty) → word_of v ≡ word_of w → v ≡ w
value_one ty v w a b e = depth_one ty.depth ty.base v w a.0 b.0 a.1 b.1 e

-- ---- the word at a home

pub home_read : (z : Sizes) (t : rv64.State) (home : Home) (w : ℕ) → IsHomeNamed home → IsAt z t home w → home_word z t home ≡ Some w
home_read z t (Reg r) w named at = ap (λ b. cond b (Some (t.registers r)) None) low ∙ ap Some at
  where
    low : nat_lt r 32 ≡ true
    low = grind (arith, nat_tests)
home_read z t (Frame o) w named at = ap (word_in_stack t) at.1 ∙ ap Some at.2

read_is : (ty : Ty) (v : Value) (answer : Option Value) → Suits v (Some ty) → IsValueOf ty (Some (word_of v)) answer → answer ≡ Some v
read_is ty v None suits none = absurd (none v suits refl)
read_is ty v (Some u) suits is = ap Some (value_one ty u v is.0 suits is.1)

-- ---- the entry of a variable

found_in : (x : ℕ) (homes : List HomeAt) (h : HomeAt) → entry_of x homes ≡ Some h → (k : ℕ) × (slice_get homes k ≡ Some h) × (h.var ≡ x)
found_in x [] h e = absurd (let none : None ≡ Some h = e in cc)
found_in x (g ∷ homes) h e = by (found_in x homes h) (eqb g.var x) refl
  where
    by : (entry_of x homes ≡ Some h → (k : ℕ) × (slice_get homes k ≡ Some h) × (h.var ≡ x)) → (b : Bool) → eqb g.var x ≡ b → (k : ℕ) × (slice_get (g ∷ homes) k ≡ Some h) × (h.var ≡ x)
    by more true is =
        let here : Some g ≡ Some h = ap (λ b. cond b (Some g) (find (λ a. eqb a.var x) homes)) (sym is) ∙ e in
        (0, here, (let same : g ≡ h = cc in sym (ap (λ a. a.var) same) ∙ eqb-true g.var x is))
    by more false is = let further = more (ap (λ b. cond b (Some g) (find (λ a. eqb a.var x) homes)) (sym is) ∙ e) in (suc further.0, further.1, further.2)

pub values_are_shown : ValuesAreShown
values_are_shown image p limits s t at shows x h answer first is =
    let entry = found_in x at.homes h first in
    let home = shows.homes entry.0 h entry.1 in
    let own : IsValueOf h.ty (home_word (sizes_of image limits.cells) t h.home) answer = subst (λ o. ShownBy (sizes_of image limits.cells) t o answer) first is in
    let word = home_read (sizes_of image limits.cells) t h.home (word_of home.value) home.named home.at_home in
    let value = read_is h.ty home.value answer home.suits (subst (λ o. IsValueOf h.ty o answer) word own) in
    value ∙ (sym home.holds ∙ ap shows.stops.stands.frame.locations.vars entry.2)
