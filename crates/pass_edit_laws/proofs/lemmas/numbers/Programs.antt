-- From the numbers of functions to those of programs.
use Rattle.std.proofs.Common.{◌≡◌, ℕ, zero, suc, ◌+◌, ◌≤◌, List, [], ◌∷◌, length, map, Some, refl, sym, ap, subst, ◌∙◌, ⊎_elim, arith}
use Rattle.std.specs.Prelude.{slice_get}
use Rattle.std.specs.List.{AllZip, range_with_len, sum_by}
use Rattle.std.proofs.lemmas.Bool.{cases_lt}
use Rattle.std.proofs.lemmas.List.{length-map}
use Rattle.std.proofs.lemmas.List.Sums.{sum_by-cons}
use Rattle.std.proofs.lemmas.Option.{slice_get_within}
use Rattle.bril_tree.specs.Accepted.{IsAcceptedFunction}
use Rattle.program_numbers.specs.Cost.{longest_in}
use Rattle.program_numbers.specs.Entries.{IsEntryCount, IsEntryWidth}
use Rattle.bril_tree.specs.FrameWords.{IsDepth, location_count}
use Rattle.bril_tree.specs.Membership.{In}
use Rattle.bril_tree.specs.Numbered.{names_of_functions}
use Rattle.program_numbers.specs.ProgramNumbers.{IsGreatest, IsSum, greatest}
use Rattle.bril_tree.specs.Step.{items_of}
use Rattle.bril_tree.specs.declared.numbered_function.Func.{Func}
use Rattle.bril_tree.specs.declared.program.Prog.{Prog}
use Rattle.bril_tree.proofs.Elements.{get_in, get_inside, in_get, zip-get, zip-long}
use Rattle.bril_tree.proofs.Members.{contains_in, in_contains}
use Rattle.pass_edit_laws.proofs.lemmas.plan.Elements.{all_in}
use Rattle.pass_edit_laws.specs.plan.Plan.{Plan}
use Rattle.pass_edit_laws.specs.walks.Matched.{MatchesWalks}
use Rattle.pass_edit_laws.specs.numbers.Numbers.{FunctionWithin, FunctionsBound, FunctionsGrow, widened}
use Rattle.pass_edit_laws.proofs.lemmas.numbers.Arguments.{no-longer-arguments}
use Rattle.pass_edit_laws.proofs.lemmas.numbers.Depths.{depth-within}
use Rattle.pass_edit_laws.proofs.lemmas.numbers.Existing.{not_bottomless, not_widthless}
use Rattle.pass_edit_laws.proofs.lemmas.numbers.Items.{IsOfItems}
use Rattle.pass_edit_laws.proofs.lemmas.numbers.Locations.{accepted-locations}
use Rattle.bril_tree.specs.Accepted.{IsAccepted}

-- ---- functions of one number

-- what is so of each two functions of one number
abbrev pub OfEach : (ℕ → Func → Func → Type 0) → List Func → List Func → Type 0
OfEach R xs ys = (i : ℕ) (F G : Func) → slice_get xs i ≡ Some F → slice_get ys i ≡ Some G → R i F G

zip-by_number : (R : Func → Func → Type 0) (xs ys : List Func) → length xs ≡ length ys → OfEach (λ i. R) xs ys → AllZip R xs ys
zip-by_number R [] [] same h = tt
zip-by_number R [] (G ∷ ys) same h = absurd (omega (arith, same))
zip-by_number R (F ∷ xs) [] same h = absurd (omega (arith, same))
zip-by_number R (F ∷ xs) (G ∷ ys) same h = (h 0 F G refl refl, zip-by_number R xs ys (omega (arith, same)) (λ f A B a b. h (suc f) A B a b))

pub as-many_functions : (P Q : Prog) → names_of_functions P.funcs ≡ names_of_functions Q.funcs → length P.funcs ≡ length Q.funcs
as-many_functions P Q names = sym (length-map P.funcs (λ (f : Func). f.name)) ∙ ap length names ∙ length-map Q.funcs (λ (f : Func). f.name)

pub by-functions : (P Q : Prog) → names_of_functions P.funcs ≡ names_of_functions Q.funcs → (R : Func → Func → Type 0) → ((f : ℕ) (F G : Func) → slice_get P.funcs f ≡ Some F → slice_get Q.funcs f ≡ Some G → R F G) → AllZip R P.funcs Q.funcs
by-functions P Q names R h = zip-by_number R P.funcs Q.funcs (as-many_functions P Q names) h

-- ---- the greatest numbers

abbrev Rises : (ℕ → ℕ) → Type 0
Rises g = (m n : ℕ) → m ≤ n → g m ≤ g n

-- the greatest number, where that of each function is no greater than it may be
greatest-grows : (size : Func → ℕ) (g : ℕ → ℕ) → Rises g → (xs ys : List Func) → length xs ≡ length ys → OfEach (λ i F G. size G ≤ g (size F)) xs ys → greatest (map size ys) ≤ g (greatest (map size xs))
greatest-grows size g rises [] [] same h = omega arith
greatest-grows size g rises [] (y ∷ ys) same h = absurd (omega (arith, same))
greatest-grows size g rises (x ∷ xs) [] same h = absurd (omega (arith, same))
greatest-grows size g rises (x ∷ xs) (y ∷ ys) same h =
    let one = h 0 x y refl refl in
    let rest = greatest-grows size g rises xs ys (omega (arith, same)) (λ i F G a b. h (suc i) F G a b) in
    let here = rises (size x) (greatest (map size (x ∷ xs))) (omega arith) in
    let there = rises (greatest (map size xs)) (greatest (map size (x ∷ xs))) (omega arith) in
    omega arith

-- a number that is some function's and the greatest, where that of each function can't fail to be
number-grows : (R : Func → ℕ → Type 0) (g : ℕ → ℕ) → Rises g → (P Q : Prog) → length P.funcs ≡ length Q.funcs → ((F : Func) → In F P.funcs → ((n : ℕ) → R F n → ⊥) → ⊥) → OfEach (λ i F G. (d e : ℕ) → R F d → R G e → e ≤ g d) P.funcs Q.funcs → (d e : ℕ) → IsGreatest R P d → IsGreatest R Q e → e ≤ g d
number-grows R g rises P Q same exists each d e a b =
    let k = in_get b.func Q.funcs (in_contains b.func Q.funcs b.is) in
    let inside = slice_get_within Q.funcs k.0 b.func k.1 in
    let F = get_inside P.funcs k.0 (omega arith) in
    let among = get_in P.funcs k.0 F.0 F.1 in
    ⊎_elim
    (λ less. absurd (exists F.0 among (λ n r. let l = each k.0 F.0 b.func F.1 k.1 n e r b.has in let m = rises n d (a.most F.0 n (contains_in F.0 P.funcs among) r) in omega arith)))
    (λ l. l) (cases_lt (g d) e)

-- ---- the sum of entries

abbrev IsEntryCountOf : Func → ℕ → Type 0
IsEntryCountOf f n = IsEntryCount f.code n

entries-grow : (more : ℕ → ℕ) (k : ℕ) (xs ys : List Func) → length xs ≡ length ys → OfEach (λ i F G. (d e : ℕ) → IsEntryCountOf F d → IsEntryCountOf G e → e ≤ d + more (k + i)) xs ys
    → (d e : ℕ) → IsSum IsEntryCountOf xs d → IsSum IsEntryCountOf ys e → e ≤ d + sum_by more (range_with_len k (length xs))
entries-grow more k [] [] same h d e a b = omega (arith, a, b)
entries-grow more k [] (y ∷ ys) same h d e a b = absurd (omega (arith, same))
entries-grow more k (x ∷ xs) [] same h d e a b = absurd (omega (arith, same))
entries-grow more k (x ∷ xs) (y ∷ ys) same h d e a b =
    let first : k + 0 ≡ k = omega arith in
    let one : b.0 ≤ a.0 + more k = subst (λ n. b.0 ≤ a.0 + more n) first (h 0 x y refl refl a.0 b.0 a.2 b.2) in
    let rest = entries-grow more (k + 1) xs ys (omega (arith, same)) (λ i F G p q m n r s. let next : k + suc i ≡ (k + 1) + i = omega arith in subst (λ l. n ≤ m + more l) next (h (suc i) F G p q m n r s)) a.1 b.1 a.3 b.3 in
    let sum = sum_by-cons more k (range_with_len (k + 1) (length xs)) in
    omega (arith, a.4, b.4, one, rest, sum)

-- ---- programs

pub functions_grow : FunctionsGrow
functions_grow P Q growth more accepted rising few same each = record {
  locations = greatest-grows location_count growth.locations rising.locations P.funcs Q.funcs same (λ f F G p q. (each f F G p q).locations);
  arguments = greatest-grows longest_in growth.arguments rising.arguments P.funcs Q.funcs same (λ f F G p q. (each f F G p q).arguments);
  depth = number-grows (λ f n. IsDepth f.code n) growth.depth rising.depth P Q same (λ F i. not_bottomless F.code (all_in (IsAcceptedFunction P) P.funcs accepted.functions F i).sites) (λ f F G p q. (each f F G p q).depth);
  entries = λ d e a b.
      let most = entries-grow more 0 P.funcs Q.funcs same (λ f F G p q m n r s. let first : f ≡ 0 + f = omega arith in subst (λ l. n ≤ m + more l) first ((each f F G p q).entries m n r s)) d e a b in
      let all = few d in
      omega arith;
  width = number-grows (λ f n. IsEntryWidth f.code n) growth.width rising.width P Q same (λ F i. not_widthless F.code) (λ f F G p q. (each f F G p q).width);
}

-- nothing, added up
pub none-added : (k n : ℕ) → sum_by (λ (f : ℕ). 0) (range_with_len k n) ≡ 0
none-added k zero = refl
none-added k (suc n) = let one = sum_by-cons (λ (f : ℕ). 0) k (range_with_len (k + 1) n) in let rest = none-added (k + 1) n in omega arith

pub functions_bound : FunctionsBound
functions_bound P Q wider accepted z =
    functions_grow P Q (widened wider) (λ f. 0) accepted
    (record { locations = λ m n less. less; arguments = λ m n less. less; depth = λ m n less. less; width = λ m n less. omega arith })
    (λ n. let none = none-added 0 (length P.funcs) in omega arith) (zip-long (FunctionWithin wider) P.funcs Q.funcs z)
    (λ f F G p q. let w = zip-get (FunctionWithin wider) P.funcs Q.funcs f F G z p q in record {
      locations = w.locations;
      arguments = w.arguments;
      depth = w.depth;
      entries = λ d e a b. let l = w.entries d e a b in omega arith;
      width = w.width;
    })

-- ---- functions

-- A function whose items come from those of the program's, and whose walks are matched, has no greater numbers, where its
-- entries are no more and their width is so much greater.
pub function-within : (m : Plan) (rename : List ℕ → List ℕ) (P Q : Prog) → IsAccepted Q → (f : ℕ) (F G : Func) → slice_get P.funcs f ≡ Some F → slice_get Q.funcs f ≡ Some G → MatchesWalks m P Q f F.args G.args → IsOfItems rename [] F G → (wider : ℕ)
    → ((d e : ℕ) → IsEntryCount F.code d → IsEntryCount G.code e → e ≤ d) → ((d e : ℕ) → IsEntryWidth F.code d → IsEntryWidth G.code e → e ≤ d + wider) → FunctionWithin wider F G
function-within m rename P Q accepted f F G p q walks of_items wider entries width = record {
  locations = let few = accepted-locations rename [] F G of_items Q accepted f q in omega arith;
  arguments = no-longer-arguments rename [] F G of_items;
  depth = λ d e a b. depth-within m P Q f F.args G.args walks d e (subst (λ c. IsDepth c d) (sym (ap items_of p)) a) (subst (λ c. IsDepth c e) (sym (ap items_of q)) b);
  entries = entries;
  width = width;
}
