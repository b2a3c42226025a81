-- The pairs that a search finds.
use Rattle.std.proofs.Common.{◌≡◌, ◌⊎◌, ℕ, suc, ◌+◌, ◌*◌, ◌-◌, ◌<◌, ◌≤◌, true, cond, List, [], ◌∷◌, ◌++◌, length, get_or, set, take, Option, Some, None, refl, sym, ap, subst, ◌∙◌, inl, inr, ⊎_elim, arith}
use Rattle.std.specs.Prelude.{slice_index}
use Rattle.std.specs.List.{Contains}
use Rattle.std.proofs.lemmas.Bool.{cases_eq, cases_lt, lt-ltb, le-ltb}
use Rattle.std.proofs.lemmas.List.{get_or-set_other, get_or-set_same, get_or_append_left, get_or_push, length-set}
use Rattle.std.proofs.lemmas.List.Elements.{Contains-push_cases}
use Rattle.std.proofs.lemmas.Option.{slice_get_within}
use Rattle.std.proofs.Math.Seq.{take-suc}
use Rattle.bril_tree.specs.declared.numbered.Instr.{Instr}
use Rattle.bril_tree.specs.declared.numbered.Instr.TheVariants.{Label, Const, Act}
use Rattle.bril_tree.specs.declared.numbered_function.Func.{Func}
use Rattle.bril_tree.specs.FunctionForm.{listed, variables_of}
use Rattle.bril_tree.specs.Live.{IsLive}
use Rattle.bril_tree.specs.Membership.{In}
use Rattle.bril_tree.specs.Operand.{Variable, dest_of}
use Rattle.bril_tree.proofs.Formed.{variable_below}
use Rattle.bril_tree.proofs.Members.{in_append_left}
use Rattle.flow_graph.specs.Accesses.{Accesses}
use Rattle.flow_graph.specs.declared.reads.Access.{Access}
use Rattle.variable_renaming.specs.Clashes.{Clashes}
use Rattle.graph_search.specs.Sets.{has_bit}
use Rattle.variable_coloring.specs.LiveWords.{variable_in}
use Rattle.variable_coloring.specs.Pairs.{AddsPair, AddsPairs, AreDests, AreDone, ArePairs, IsPair, IsPairOf, pair}

-- ---- what a clash assigns

dest-in : (a : Instr) (x : ℕ) → dest_of a ≡ Some x → In x (variables_of a)
dest-in (Label l) x e = absurd cc
dest-in (Const dest ty value) x e = inl (let h : x ≡ dest = cc in h)
dest-in (Act dest ty op args funcs labels) x e = in_append_left x (listed dest) args (subst (λ d. In x (listed d)) (sym e) (inl refl))

pub clash-below : (F : Func) (item x y : ℕ) → Clashes F.code item x y → x < length F.vars
clash-below F item x y c = variable_below F item c.instr c.at x (dest-in c.instr x c.dest)

-- ---- what items assign, by points

pub dests-more : (code : List Instr) (old new : List (Option ℕ)) (n : ℕ) (d : Option ℕ) → length old ≡ n + 1 → new ≡ old ++ d ∷ [] → ((y x : ℕ) → Clashes code n y x → d ≡ Some y)
    → ((item y x : ℕ) → item < n → Clashes code item y x → get_or old (suc item) None ≡ Some y) → (item y x : ℕ) → item < n + 1 → Clashes code item y x → get_or new (suc item) None ≡ Some y
dests-more code old new n d long e here before item y x low c = ⊎_elim
    (λ s. ap (λ l. get_or l (suc item) None) e ∙ get_or_push old d None (suc item) (omega (arith, long, s)) ∙ here y x (subst (λ i. Clashes code i y x) s c))
    (λ s. ap (λ l. get_or l (suc item) None) e ∙ get_or_append_left old (d ∷ []) None (suc item) (less s) ∙ before item y x (lower s) c)
    (cases_eq item n)
  where
    lower : (item ≡ n → ⊥) → item < n
    lower s = ⊎_elim (λ l. l) (λ high. absurd (s (omega (arith, low, high)))) (cases_lt item n)

    less : (item ≡ n → ⊥) → suc item < length old
    less s = let l = lower s in omega (arith, l, long)

pub dests-all : (code : List Instr) (dests : List (Option ℕ)) (n : ℕ) → n ≤ length code → length code ≤ n → length dests ≡ n + 1 → ((item y x : ℕ) → item < n → Clashes code item y x → get_or dests (suc item) None ≡ Some y) → AreDests code dests
dests-all code dests n within over long tells = record {
  long = (omega (arith, within, over, long));
  tells = λ item y x c. tells item y x (let l = slice_get_within code item c.instr c.at in omega (arith, l, over)) c;
}

-- ---- one pair

pair-below : (x y : ℕ) → x < y → pair x y ≡ record { item = x; location = y }
pair-below x y less = ap (λ b. cond b (record { item = x; location = y }) (record { item = y; location = x })) (lt-ltb x y less)

pair-above : (x y : ℕ) → y ≤ x → pair x y ≡ record { item = y; location = x }
pair-above x y less = ap (λ b. cond b (record { item = x; location = y }) (record { item = y; location = x })) (le-ltb x y less)

-- the pair of two variables that clash
pair-of : (F : Func) (item x y : ℕ) → x < length F.vars → Clashes F.code item y x → IsPairOf F (pair x y)
pair-of F item x y low c = ⊎_elim
    (λ less. subst (IsPairOf F) (sym (pair-below x y less)) (record { order = less; below = clash-below F item y x c; meet = record { item = item; clash = inl c } }))
    (λ less. let d = c.differ in subst (IsPairOf F) (sym (pair-above x y less)) (record { order = ⊎_elim (λ l. l) (λ high. absurd (d (omega (arith, less, high)))) (cases_lt y x); below = low; meet = record { item = item; clash = inr c } }))
    (cases_lt x y)

-- ---- pairs are added

module _ (F : Func) (block : ℕ) where
  -- they are there already
  pub adds-there : (old : List Access) (P : ℕ → ℕ → Type 0) → ((item y k : ℕ) → P k (suc item) → Clashes F.code item y (variable_in block k) → Contains old (pair (variable_in block k) y)) → AddsPairs F block P old old
  adds-there old P there = record { kept = λ a i. i; only = λ a i. inl i; all = there }

  pub adds-one : (old new : List Access) (k point y : ℕ) → variable_in block k < length F.vars → 1 ≤ point → ((item : ℕ) → suc item ≡ point → Clashes F.code item y (variable_in block k))
      → ((item z : ℕ) → suc item ≡ point → Clashes F.code item z (variable_in block k) → z ≡ y) → AddsPair (variable_in block k) y old new → AddsPairs F block (λ j p. (j ≡ k) × (p ≡ point)) old new
  adds-one old new k point y low after some alone a = record {
    kept = a.kept;
    only = λ b i. ⊎_elim inl (λ e. inr (subst (IsPairOf F) e (pair-of F (point - 1) (variable_in block k) y low (some (point - 1) (omega (arith, after)))))) (a.only b i);
    all = λ item z j p c.
        let here = subst (λ i. Clashes F.code item z (variable_in block i)) p.0 c in
        subst (λ i. Contains new (pair (variable_in block i) z)) (sym p.0) (subst (λ v. Contains new (pair (variable_in block k) v)) (sym (alone item z p.1 here)) a.there);
  }

  -- first some, then others
  pub adds-then : (first middle last : List Access) (P Q R : ℕ → ℕ → Type 0) → AddsPairs F block P first middle → AddsPairs F block Q middle last
      → ((item y k : ℕ) → R k (suc item) → Clashes F.code item y (variable_in block k) → P k (suc item) ⊎ Q k (suc item)) → AddsPairs F block R first last
  adds-then first middle last P Q R a b split = record {
    kept = λ c i. b.kept c (a.kept c i);
    only = λ c i. ⊎_elim (λ h. a.only c h) inr (b.only c i);
    all = λ item y k r c. ⊎_elim (λ p. b.kept (pair (variable_in block k) y) (a.all item y k p c)) (λ q. b.all item y k q c) (split item y k r c);
  }

  -- the same of others, whose pairs were there
  pub adds-as : (old new : List Access) (P R : ℕ → ℕ → Type 0) → AddsPairs F block P old new
      → ((item y k : ℕ) → R k (suc item) → Clashes F.code item y (variable_in block k) → P k (suc item) ⊎ Contains old (pair (variable_in block k) y)) → AddsPairs F block R old new
  adds-as old new P R a split = record {
    kept = a.kept;
    only = a.only;
    all = λ item y k r c. ⊎_elim (λ p. a.all item y k p c) (λ h. a.kept (pair (variable_in block k) y) h) (split item y k r c);
  }

pub take-next : (xs : List ℕ) (n place : ℕ) → n < length xs → Contains (take (n + 1) xs) place → Contains (take n xs) place ⊎ (place ≡ get_or xs n 0)
take-next xs n place low c = ⊎_elim inl (λ e. inr (sym e)) (Contains-push_cases (take n xs) (get_or xs n 0) place (subst (λ l. Contains l place) (take-suc xs n 0 low) (subst (λ m. Contains (take m xs) place) (let h : n + 1 ≡ suc n = omega arith in h) c)))

-- ---- the pairs of the variables below a number

pub record AreFoundBelow (F : Func) (x : ℕ) (list : List Access) : Type 0 where
  pub all : (item y z : ℕ) → z < x → Clashes F.code item y z → Contains list (pair z y)
  pub only : (a : Access) → Contains list a → IsPairOf F a

module _ (F : Func) where
  pub none-found : (list : List Access) → list ≡ [] → AreFoundBelow F 0 list
  none-found list e = record { all = λ item y z low c. absurd (omega arith); only = λ a i. absurd (nothing a (subst (λ l. Contains l a) e i)) }
    where
      nothing : (a : Access) → Contains [] a → ⊥
      nothing a i = let l = i.1 in omega arith

  -- and those of a block
  pub more-found : (block : ℕ) (list more : List Access) → AreFoundBelow F (64 * block) list
      → AddsPairs F block (λ k p. (k < 64) × IsLive F.code (Variable (variable_in block k)) p) list more → AreFoundBelow F (64 * (block + 1)) more
  more-found block list more a b = record {
    all = λ item y z low c. ⊎_elim (λ less. b.kept (pair z y) (a.all item y z less c)) (λ past. here item y z past low c) (cases_lt z (64 * block));
    only = λ c i. ⊎_elim (λ h. a.only c h) (λ h. h) (b.only c i);
  }
    where
      here : (item y z : ℕ) → 64 * block ≤ z → z < 64 * (block + 1) → Clashes F.code item y z → Contains more (pair z y)
      here item y z past low c =
          let k = z - 64 * block in
          let is : z ≡ variable_in block k = omega (arith, past) in
          let few : k < 64 = omega (arith, past, low) in
          subst (λ v. Contains more (pair v y)) (sym is) (b.all item y k (few, subst (λ v. IsLive F.code (Variable v) (suc item)) is c.live) (subst (Clashes F.code item y) is c))

  pub all-found : (x : ℕ) (list : List Access) → length F.vars ≤ x → AreFoundBelow F x list → ArePairs F list
  all-found x list long a larger smaller = (a.only (record { item = smaller; location = larger }), there)
    where
      there : IsPair F larger smaller → Accesses list larger smaller
      there p =
          let order = p.order in
          let below = p.below in
          ⊎_elim
          (λ c. subst (Contains list) (pair-below smaller larger order) (a.all p.meet.item larger smaller (omega (arith, order, below)) c))
          (λ c. subst (Contains list) (pair-above larger smaller (omega (arith, order))) (a.all p.meet.item smaller larger (omega (arith, below)) c))
          p.meet.clash

-- ---- what is there

module _ (count : ℕ) (list : List Access) (blocks words : List ℕ) where
  pub done-none : length blocks ≡ count → length words ≡ count → ((y : ℕ) → slice_index blocks y ≡ 0) → AreDone count list blocks words
  done-none long words-long none = record { long = long; words_long = words-long; there = λ y block k e h. absurd (let z = none y in omega (arith, z, e)) }

  -- another word of y, whose bits are variables of the block whose pairs with it are there
  pub done-put : (more : List Access) (block number y word : ℕ) → AreDone count list blocks words → number ≡ suc block → y < count → ((a : Access) → Contains list a → Contains more a)
      → ((k : ℕ) → has_bit word k ≡ true → Contains more (pair (variable_in block k) y)) → AreDone count more (set blocks y number) (set words y word)
  done-put more block number y word d is low kept bits = record {
    long = length-set blocks y number ∙ d.long;
    words_long = length-set words y word ∙ d.words_long;
    there = λ z other k e h. ⊎_elim (λ same. here z other k same e h) (λ ne. kept (pair (variable_in other k) z) (d.there z other k (sym (get_or-set_other blocks y z number 0 ne) ∙ e) (subst (λ w. has_bit w k ≡ true) (get_or-set_other words y z word 0 ne) h))) (cases_eq z y);
  }
    where
      here : (z other k : ℕ) → z ≡ y → slice_index (set blocks y number) z ≡ suc other → has_bit (slice_index (set words y word) z) k ≡ true → Contains more (pair (variable_in other k) z)
      here z other k same e h =
          let inside : y < length blocks = (let l = d.long in omega (arith, l, low)) in
          let words-inside : y < length words = (let l = d.words_long in omega (arith, l, low)) in
          let number-there : slice_index (set blocks y number) z ≡ number = ap (slice_index (set blocks y number)) same ∙ get_or-set_same blocks y number 0 inside in
          let block-is : block ≡ other = omega (arith, number-there, e, is) in
          let word-there : slice_index (set words y word) z ≡ word = ap (slice_index (set words y word)) same ∙ get_or-set_same words y word 0 words-inside in
          subst (λ b. Contains more (pair (variable_in b k) z)) block-is (subst (λ v. Contains more (pair (variable_in block k) v)) (sym same) (bits k (subst (λ w. has_bit w k ≡ true) word-there h)))
