-- What a source spells, and its one fault.
use Rattle.std.proofs.Common.{◌≡◌, ℕ, ◌-◌, ◌≤◌, List, [], ◌∷◌, length, drop, Result, Ok, Err, refl, sym, ap, ◌∙◌, subst, inl, inr, arith, length-append}
use Rattle.std.specs.Prelude.{◌⊎◌}
use Rattle.std.specs.List.{All}
use Rattle.std.proofs.lemmas.List.{length-map}
use Rattle.std.proofs.lemmas.List.Elements.{All-nil, All-cons, All-head, All-tail}
use Rattle.bril_tree.specs.declared.tree.Tree.{Tree}
use Rattle.bril_lex.specs.Cut.{AreTokens, StopsAt, AreInOrder}
use Rattle.bril_lex.specs.Laws.{CutsOrStops}
use Rattle.bril_lex.specs.Lexeme.{Lexeme, lexeme_of, lexemes_of}
use Rattle.bril_lex.specs.Spelling.{IsTokenOf}
use Rattle.bril_lex.specs.declared.token.Token.{Token}
use Rattle.bril_lex.proofs.Cuts.{cuts_in_one_way}
use Rattle.bril_grammar.specs.declared.fault.Fault.{Fault}
use Rattle.bril_grammar.specs.declared.fault.FaultKind.{FaultKind}
use Rattle.bril_grammar.specs.declared.fault.FaultKind.TheVariants as kind
use Rattle.bril_grammar.specs.Machine.{read}
use Rattle.bril_grammar.specs.Terminal.{terminal_of, terminals_of}
use Rattle.bril_grammar.proofs.Whole.{programs_are_read, readings_are_spellings, read_fault_is_first, first_fault_is_read}
use Rattle.bril_text.specs.declared.fault.TextFault.{TextFault}
use Rattle.bril_text.specs.declared.fault.TextFault.TheVariants.{Lex, Grammar, IntRange, Float, Deep, Memory}
use Rattle.bril_tree.specs.SourceLaws.{SourcesSpellOneTree, SourcesHaveOneFault, SpelledHaveNoFault, EachHasTreeOrFault}
use Rattle.bril_text.specs.Reading.{Spells, HasFaultAt, HasFault, position_of, fault_of_kind, lexed, IsFaultOf, IsWithin, text_fault}
use Rattle.bril_text.specs.Parse.{Fails}
use Rattle.bril_text.specs.declared.parse.ParseFault.{ParseFault}
use Rattle.bril_text.specs.declared.parse.ParseFault.TheVariants as parse
use Rattle.bril_lex.specs.Cut.{IsFaultOf as IsLexFaultOf}
use Rattle.bril_lex.specs.declared.cut.LexFault.{LexFault}
use Rattle.bril_lex.specs.declared.cut.LexFault.TheVariants as lex
use Rattle.bril_text.specs.Terminals.{IsTokenIn}

-- ---- tokens are in their source

order_end : (at : ℕ) (ts : List Token) (end : ℕ) → AreInOrder at ts end → at ≤ end
order_end at [] end o = o
order_end at (t ∷ ts) end o = let rest = order_end t.to ts end o.2 in omega (arith, o.0, o.1)

pub all_in : (source : List ℕ) (ts : List Token) (at : ℕ) → AreInOrder at ts (length source) → All (λ (l : Lexeme). IsTokenOf l.kind l.text) (lexemes_of source ts) → All (IsTokenIn source) ts
all_in source [] at o s = All-nil (IsTokenIn source)
all_in source (t ∷ ts) at o s =
    let P : Lexeme → Type 0 = λ l. IsTokenOf l.kind l.text in
    let end = order_end t.to ts (length source) o.2 in
    All-cons (IsTokenIn source) t ts
    (record { forward = omega (arith, o.1); inside = end; spelled = All-head P (lexeme_of source t) (lexemes_of source ts) s })
    (all_in source ts t.to o.2 (All-tail P (lexeme_of source t) (lexemes_of source ts) s))

-- ---- what the machine reads of a source's tokens

pub spells_read : (source : List ℕ) (ts : List Token) (tree : Tree) → AreTokens source ts → read (lexemes_of source ts) ≡ Ok tree → Spells source tree
spells_read source ts tree are e = record { tokens = ts; are = are; spell = readings_are_spellings (lexemes_of source ts) tree e }

pub read_spells : (source : List ℕ) (ts : List Token) (tree : Tree) → AreTokens source ts → Spells source tree → read (lexemes_of source ts) ≡ Ok tree
read_spells source ts tree are s =
    let same = cuts_in_one_way.tokens source s.tokens ts s.are are in
    subst (λ t. read (lexemes_of source t) ≡ Ok tree) same (programs_are_read (lexemes_of source s.tokens) tree s.spell)

pub has_fault_read : (source : List ℕ) (ts : List Token) (f : Fault) → AreTokens source ts → read (lexemes_of source ts) ≡ Err f → HasFaultAt source f.kind (position_of source (drop (length ts - f.left) ts))
has_fault_read source ts f are e = record { tokens = ts; are = are; left = f.left; first = read_fault_is_first (lexemes_of source ts) f e; position = refl }

-- the machine's answer at a fault
pub record Stopped (source : List ℕ) (ts : List Token) (k : FaultKind) (at : ℕ) : Type 0 where
  pub left : ℕ
  pub stops : read (lexemes_of source ts) ≡ Err (record { kind = k; left = left })
  pub position : at ≡ position_of source (drop (length ts - left) ts)

pub read_fault : (source : List ℕ) (ts : List Token) (k : FaultKind) (at : ℕ) → AreTokens source ts → HasFaultAt source k at → Stopped source ts k at
read_fault source ts k at are h =
    let same = cuts_in_one_way.tokens source h.tokens ts h.are are in
    subst (λ t. Stopped source t k at) same (record { left = h.left; stops = first_fault_is_read (lexemes_of source h.tokens) (record { kind = k; left = h.left }) h.first; position = h.position })

pub fault_is : (source : List ℕ) (k : FaultKind) (at : ℕ) → HasFaultAt source k at → HasFault source (fault_of_kind k at)
fault_is source kind.Float at h = h
fault_is source kind.IntRange at h = h
fault_is source kind.Deep at h = h
fault_is source kind.Grammar at h = h

-- a fault of the bytes, or one of the tokens
abbrev IsLex : List ℕ → TextFault → Type 0
IsLex source f = (at : ℕ) × (f ≡ Lex at) × StopsAt source at

abbrev IsOfToken : List ℕ → TextFault → Type 0
IsOfToken source f = (k : FaultKind) × (at : ℕ) × (f ≡ fault_of_kind k at) × HasFaultAt source k at

which : (source : List ℕ) (f : TextFault) → HasFault source f → IsLex source f ⊎ IsOfToken source f
which source (Lex at) h = inl (at, refl, h)
which source (Grammar at) h = inr (kind.Grammar, at, refl, h)
which source (IntRange at) h = inr (kind.IntRange, at, refl, h)
which source (Float at) h = inr (kind.Float, at, refl, h)
which source (Deep at) h = inr (kind.Deep, at, refl, h)
which source Memory h = absurd h

-- ---- the laws

pub one_tree : SourcesSpellOneTree Spells
one_tree source t u s r =
    let first = read_spells source s.tokens t s.are s in
    let second = read_spells source s.tokens u s.are r in
    cc

faults_same : (f g : Fault) (r : Result Tree Fault) → r ≡ Err f → r ≡ Err g → f ≡ g
faults_same f g r a b = cc

same_fault : (source : List ℕ) (ts : List Token) (k l : FaultKind) (at to : ℕ) → Stopped source ts k at → Stopped source ts l to → fault_of_kind k at ≡ fault_of_kind l to
same_fault source ts k l at to s r =
    let faults = faults_same (record { kind = k; left = s.left }) (record { kind = l; left = r.left }) (read (lexemes_of source ts)) s.stops r.stops in
    let kinds : k ≡ l = ap (λ (f : Fault). f.kind) faults in
    let lefts : s.left ≡ r.left = ap (λ (f : Fault). f.left) faults in
    let positions : at ≡ to = s.position ∙ ap (λ n. position_of source (drop (length ts - n) ts)) lefts ∙ sym r.position in
    (λ i. fault_of_kind (kinds i) (positions i))

pub one_fault : SourcesHaveOneFault HasFault
one_fault source f g hf hg = by (which source f hf) (which source g hg)
  where
    by : IsLex source f ⊎ IsOfToken source f → IsLex source g ⊎ IsOfToken source g → f ≡ g
    by (inl a) (inl b) = a.1 ∙ ap Lex (cuts_in_one_way.stops source a.0 b.0 a.2 b.2) ∙ sym b.1
    by (inl a) (inr b) = absurd (cuts_in_one_way.never_both source b.3.tokens a.0 b.3.are a.2)
    by (inr a) (inl b) = absurd (cuts_in_one_way.never_both source a.3.tokens b.0 a.3.are b.2)
    by (inr a) (inr b) = a.2 ∙ same_fault source a.3.tokens a.0 b.0 a.1 b.1 (read_fault source a.3.tokens a.0 a.1 a.3.are a.3) (read_fault source a.3.tokens b.0 b.1 a.3.are b.3) ∙ sym b.2

pub no_fault : SpelledHaveNoFault Spells HasFault
no_fault source tree f s h = by (which source f h)
  where
    by : IsLex source f ⊎ IsOfToken source f → ⊥
    by (inl a) = cuts_in_one_way.never_both source s.tokens a.0 s.are a.2
    by (inr a) =
        let tree_is = read_spells source s.tokens tree s.are s in
        let fault = (read_fault source s.tokens a.0 a.1 s.are a.3).stops in
        cc

pub tree_or_fault : EachHasTreeOrFault Spells HasFault
tree_or_fault source = by (cuts_in_one_way.either source)
  where
    of_tokens : (ts : List Token) → AreTokens source ts → (r : Result Tree Fault) → read (lexemes_of source ts) ≡ r → ((tree : Tree) × Spells source tree) ⊎ ((f : TextFault) × HasFault source f)
    of_tokens ts are (Ok tree) e = inl (tree, spells_read source ts tree are e)
    of_tokens ts are (Err f) e =
        let at = position_of source (drop (length ts - f.left) ts) in
        inr (fault_of_kind f.kind at, fault_is source f.kind at (has_fault_read source ts f are e))

    by : CutsOrStops source → ((tree : Tree) × Spells source tree) ⊎ ((f : TextFault) × HasFault source f)
    by (inl c) = of_tokens c.0 c.1 (read (lexemes_of source c.0)) refl
    by (inr s) = inr (Lex s.0, s.1)

-- the fault is at one of the tokens or at the end
pub left_within : (source : List ℕ) (ts : List Token) (f : Fault) → read (lexemes_of source ts) ≡ Err f → f.left ≤ length ts
left_within source ts f e =
    let first = read_fault_is_first (lexemes_of source ts) f e in
    let terminals : length (terminals_of (lexemes_of source ts)) ≡ length ts = length-map (lexemes_of source ts) terminal_of ∙ length-map ts (lexeme_of source) in
    omega (arith, first.left, ap length first.cut, length-append first.before first.rest, terminals)

-- ---- faults as they are returned

pub lex_fault : (source : List ℕ) (e : LexFault) → IsLexFaultOf source e → IsFaultOf source (lexed e)
lex_fault source (lex.At at) h = inr h
lex_fault source lex.Memory h = inl refl

pub lex_faults : (source : List ℕ) (e : LexFault) → IsLexFaultOf source e → (why : TextFault) → HasFault source why → (lexed e ≡ why) ⊎ (lexed e ≡ Memory)
lex_faults source (lex.At at) h why w = inl (one_fault source (Lex at) why h w)
lex_faults source lex.Memory h why w = inr refl

module _ (source : List ℕ) (ts : List Token) (are : AreTokens source ts) where
  pub parse_within : (e : ParseFault) → Fails (read (lexemes_of source ts)) e → IsWithin ts e
  parse_within (parse.At f) h = left_within source ts f h
  parse_within parse.Memory h = tt

  pub parse_reads : (e : ParseFault) → Fails (read (lexemes_of source ts)) e → (tree : Tree) → Spells source tree → text_fault source ts e ≡ Memory
  parse_reads (parse.At f) h tree s = let e = read_spells source ts tree are s in cc
  parse_reads parse.Memory h tree s = refl

  pub parse_has : (f : Fault) → read (lexemes_of source ts) ≡ Err f → HasFault source (text_fault source ts (parse.At f))
  parse_has f h = fault_is source f.kind (position_of source (drop (length ts - f.left) ts)) (has_fault_read source ts f are h)

  pub parse_fault : (e : ParseFault) → Fails (read (lexemes_of source ts)) e → IsFaultOf source (text_fault source ts e)
  parse_fault (parse.At f) h = inr (parse_has f h)
  parse_fault parse.Memory h = inl refl

  pub parse_faults : (e : ParseFault) → Fails (read (lexemes_of source ts)) e → (why : TextFault) → HasFault source why → (text_fault source ts e ≡ why) ⊎ (text_fault source ts e ≡ Memory)
  parse_faults (parse.At f) h why w = inl (one_fault source (text_fault source ts (parse.At f)) why (parse_has f h) w)
  parse_faults parse.Memory h why w = inr refl

  pub parse_no_fault : (tree : Tree) → read (lexemes_of source ts) ≡ Ok tree → (why : TextFault) → HasFault source why → ⊥
  parse_no_fault tree e why w = no_fault source tree why (spells_read source ts tree are e) w

  pub parse_one : (tree other : Tree) → read (lexemes_of source ts) ≡ Ok tree → Spells source other → tree ≡ other
  parse_one tree other e s = one_tree source tree other (spells_read source ts tree are e) s
