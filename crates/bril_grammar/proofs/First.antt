-- The machine's fault is the first fault, and the first fault is the machine's.
use Rattle.std.proofs.Common.{◌≡◌, ℕ, zero, suc, ◌≤◌, ◌<◌, Bool, true, false, cond, nat_lt, List, [], ◌∷◌, ◌++◌, length, replicate, Some, None, Result, Ok, Err, codes, refl, sym, ap, ◌∙◌, subst, arith, inl, inr, ◌⊎◌, ◌↔◌, ltb-true, subst₂, length-append, append_assoc, append-nil}
use Rattle.std.proofs.lemmas.Bool.{cases_lt}
use Rattle.bril_tree.specs.declared.tree.Tree.{Tree}
use Rattle.bril_tree.specs.declared.types.Base.TheVariants as base
use Rattle.bril_tree.specs.declared.types.Ty.{Ty}
use Rattle.bril_grammar.specs.declared.fault.Fault.{Fault}
use Rattle.bril_grammar.specs.declared.fault.FaultKind.{FaultKind}
use Rattle.bril_grammar.specs.declared.fault.FaultKind.TheVariants.{Float, IntRange, Deep, Grammar}
use Rattle.bril_grammar.specs.declared.keyword.Keyword.TheVariants as keyword
use Rattle.bril_grammar.specs.declared.mark.Mark.TheVariants.{Colon, Less, Greater}
use Rattle.bril_grammar.specs.Keyword.{keyword_of}
use Rattle.bril_grammar.specs.Machine.{Move, Goes, GoesBeforeColon, FloatUnlessColon, Fails, type_of, typed, closing, type_keyword, move, same_mark, is_colon, begins_with_colon, decided, go_on, at_end, run}
use Rattle.bril_grammar.specs.State.{TypePosition, ArgumentType, ReturnType, DestinationType, State, AtImport, AtFunction, AtType, Expect}
use Rattle.bril_grammar.specs.Terminal.{Terminal, Name, Number, Punctuation}
use Rattle.bril_grammar.specs.Written.{pointer_terminals}
use Rattle.bril_grammar.specs.Fault.{Readable, front, NoReading, FloatLiteral, FloatTypeName, FloatOperationName, Holds, rank, IsFirstFault}
use Rattle.bril_grammar.proofs.Complete.{spelling-run}
use Rattle.bril_grammar.proofs.Keywords.{Means, keyword_base, keyword_ptr, means}
use Rattle.bril_grammar.proofs.Positions.{inner_base, label_item, number_const, deep_base, ReadsType, ReadsOperation, IsKeyword, WhyFails, Why, why, literal_position, type_position, operation_position}
use Rattle.bril_grammar.proofs.Sound.{spelled}
use Rattle.bril_grammar.proofs.Steps.{goes, mark_same}
use Rattle.bril_grammar.proofs.Viable.{CanRead, number, viable}

-- inside a type: as many `>` may follow as there are `ptr <` before

closed_deep : (n k : ℕ) (position : TypePosition) (ty : Ty) (x : List Terminal) (t : Tree) → run (closing k (typed position ty)) (replicate n (Punctuation Greater) ++ x) ≡ Ok t → n ≤ k
closed_deep zero k position ty x t e = omega arith
closed_deep (suc n) zero (ArgumentType b name) ty x t e = cc
closed_deep (suc n) zero (ReturnType b) ty x t e = cc
closed_deep (suc n) zero (DestinationType b name) ty x t e = cc
closed_deep (suc n) (suc k) position ty x t e = let below = closed_deep n k position ty x t e in omega arith

not_below : (k : ℕ) → 32 ≤ k → nat_lt k 32 ≡ false
not_below k h = by (nat_lt k 32) refl
  where
    by : (b : Bool) → nat_lt k 32 ≡ b → nat_lt k 32 ≡ false
    by true e = let below : k < 32 = ltb-true k 32 e in absurd (omega arith)
    by false e = e

deep_position : (s : State) → CanRead s deep_base → (text : List ℕ) → keyword_of text ≡ keyword.Ptr → move s (Name text) ≡ Fails Deep
unfolding keyword_of
deep_position (AtType position k) h text e =
    let closers : List Terminal = replicate 32 (Punctuation Greater) ++ h.0 in
    let based = goes (AtType position k) (Name (codes "int")) closers (closing k (typed position (type_of k base.Int))) (ap (type_keyword position k) (keyword_base base.Int)) in
    let high : 32 ≤ k = closed_deep 32 k position (type_of k base.Int) h.0 h.1 (sym based ∙ h.2) in
    ap (type_keyword position k) e ∙ ap (λ b. cond b (Goes (Expect Less (AtType position (suc k)))) (Fails Deep)) (not_below k high)
deep_position _ h text e = cc

-- the terminals p lead from the start to the state s

start : State
start = AtImport []

Leads : List Terminal → State → Type 0
Leads p s = (x : List Terminal) (t : Tree) → (run (AtImport []) (p ++ x) ≡ Ok t) ↔ (run s x ≡ Ok t)

colon_needed : (next : State) (x : List Terminal) (t : Tree) → begins_with_colon x ≡ false → run (Expect Colon next) x ≡ Ok t → ⊥
colon_needed next [] t e h = cc
colon_needed next (Punctuation m ∷ ws) t e h =
    let fails : run (Expect Colon next) (Punctuation m ∷ ws) ≡ Err (record { kind = Grammar; left = suc (length ws) }) =
    ap (λ b. go_on (decided (cond b (Goes next) (Fails Grammar)) (begins_with_colon ws)) (λ n. run n ws) (suc (length ws))) e in
    cc
colon_needed next (w ∷ ws) t e h = cc

-- one step, forward and back
one_step : (m : Move) (colon : Bool) (next : State) → decided m colon ≡ Ok next → (x : List Terminal) (t : Tree) → (go_on (decided m (begins_with_colon x)) (λ n. run n x) (suc (length x)) ≡ Ok t) ↔ (run next x ≡ Ok t)
one_step (Goes n) colon next e x t =
    let same : n ≡ next = cc in
    (λ h. subst (λ k. run k x ≡ Ok t) same h, λ h. subst (λ k. run k x ≡ Ok t) (sym same) h)
one_step (GoesBeforeColon n) true next e x t =
    let same : Expect Colon n ≡ next = cc in
    by (begins_with_colon x) refl same
  where
    by : (b : Bool) → begins_with_colon x ≡ b → Expect Colon n ≡ next → (go_on (decided (GoesBeforeColon n) b) (λ k. run k x) (suc (length x)) ≡ Ok t) ↔ (run next x ≡ Ok t)
    by true c same = (λ h. subst (λ k. run k x ≡ Ok t) same h, λ h. subst (λ k. run k x ≡ Ok t) (sym same) h)
    by false c same = (λ h. cc, λ h. absurd (colon_needed n x t c (subst (λ k. run k x ≡ Ok t) (sym same) h)))
one_step (GoesBeforeColon n) false next e x t = cc
one_step FloatUnlessColon true next e x t = cc
one_step FloatUnlessColon false next e x t = cc
one_step (Fails kind) colon next e x t = cc

leads_on : (p : List Terminal) (s : State) (w : Terminal) (colon : Bool) (next : State) → Leads p s → decided (move s w) colon ≡ Ok next → Leads (p ++ (w ∷ [])) next
unfolding Leads
leads_on p s w colon next l e x t =
    let shown = ap (run (AtImport [])) (append_assoc p (w ∷ []) x) in
    let step = one_step (move s w) colon next e x t in
    let before = l (w ∷ x) t in
    (λ h. step.0 (before.0 (sym shown ∙ h)), λ h. shown ∙ before.1 (step.1 h))

to_readable : (p : List Terminal) (s : State) (u : List Terminal) → Leads p s → CanRead s u → Readable (p ++ u)
unfolding Leads
to_readable p s u l h =
    (h.0, h.1, spelled ((p ++ u) ++ h.0) h.1 (ap (run (AtImport [])) (append_assoc p u h.0) ∙ (l (u ++ h.0) h.1).1 h.2))

from_readable : (p : List Terminal) (s : State) (u : List Terminal) → Leads p s → Readable (p ++ u) → CanRead s u
unfolding Leads
from_readable p s u l h =
    (h.0, h.1, (l (u ++ h.0) h.1).0 (sym (ap (run (AtImport [])) (append_assoc p u h.0)) ∙ spelling-run ((p ++ u) ++ h.0) h.1 h.2))

readable_here : (p : List Terminal) (s : State) → Leads p s → Readable p
readable_here p s l = subst Readable (append-nil p) (to_readable p s [] l (viable s))

-- where no terminal fits, nothing is read

no_reading : (p : List Terminal) (s : State) (w : Terminal) (v : List Terminal) → Leads p s → ((colon : Bool) (next : State) → decided (move s w) colon ≡ Ok next → ⊥) → NoReading p (w ∷ v)
unfolding Leads
no_reading p s w v l refuse [] t e h = cc
no_reading p s w v l refuse (u ∷ x) t e h =
    let same : u ≡ w = cc in
    let read : run s (u ∷ x) ≡ Ok t = (l (u ∷ x) t).0 (spelling-run (p ++ (u ∷ x)) t h) in
    let here : run s (w ∷ x) ≡ Ok t = subst (λ y. run s (y ∷ x) ≡ Ok t) same read in
    by (decided (move s w) (begins_with_colon x)) refl here
  where
    by : (d : Result State FaultKind) → decided (move s w) (begins_with_colon x) ≡ d → go_on d (λ n. run n x) (suc (length x)) ≡ Ok t → ⊥
    by (Ok next) e f = refuse (begins_with_colon x) next e
    by (Err kind) e f = cc

no_end : (p : List Terminal) (s : State) (f : Fault) → Leads p s → at_end s ≡ Err f → NoReading p []
unfolding Leads
no_end p s f l e [] t g h = let read : at_end s ≡ Ok t = (l [] t).0 (spelling-run (p ++ []) t h) in cc
no_end p s f l e (u ∷ x) t g h = cc

never : (m : Move) → decided m true ≡ Err Grammar → (colon : Bool) (next : State) → decided m colon ≡ Ok next → ⊥
never (Goes n) e colon next h = cc
never (GoesBeforeColon n) e colon next h = cc
never FloatUnlessColon e true next h = cc
never FloatUnlessColon e false next h = cc
never (Fails k) e colon next h = cc

no_colon : (v : List Terminal) → begins_with_colon v ≡ false → front v ≡ Some (Punctuation Colon) → ⊥
no_colon [] e h = cc
no_colon (w ∷ ws) e h =
    let same : w ≡ Punctuation Colon = cc in
    let test : is_colon w ≡ true = ap is_colon same in
    cc

type_samples : (p : List Terminal) (s : State) → Leads p s → ReadsType s → Readable (p ++ pointer_terminals) ⊎ Readable (p ++ inner_base)
type_samples p s l (inl h) = inl (to_readable p s pointer_terminals l h)
type_samples p s l (inr h) = inr (to_readable p s inner_base l h)

operation_samples : (p : List Terminal) (s : State) → Leads p s → ReadsOperation s → Readable (p ++ label_item) ⊎ Readable (p ++ number_const)
operation_samples p s l (inl h) = inl (to_readable p s label_item l h)
operation_samples p s l (inr h) = inr (to_readable p s number_const l h)

type_reads_back : (p : List Terminal) (s : State) → Leads p s → Readable (p ++ pointer_terminals) ⊎ Readable (p ++ inner_base) → ReadsType s
type_reads_back p s l (inl h) = inl (from_readable p s pointer_terminals l h)
type_reads_back p s l (inr h) = inr (from_readable p s inner_base l h)

operation_reads_back : (p : List Terminal) (s : State) → Leads p s → Readable (p ++ label_item) ⊎ Readable (p ++ number_const) → ReadsOperation s
operation_reads_back p s l (inl h) = inl (from_readable p s label_item l h)
operation_reads_back p s l (inr h) = inr (from_readable p s number_const l h)

float_operation_holds : (p : List Terminal) (s : State) (w : Terminal) (v : List Terminal) → Leads p s → begins_with_colon v ≡ false → IsKeyword keyword.FloatOperation w × ReadsOperation s → Holds Float p (w ∷ v)
float_operation_holds p s w v l c h = FloatOperationName h.0.0 v (ap (λ u. u ∷ v) h.0.1) h.0.2 (no_colon v c) (operation_samples p s l h.1)

-- the machine's fault holds
holds : (p : List Terminal) (s : State) (w : Terminal) (v : List Terminal) (kind : FaultKind) → Leads p s → decided (move s w) (begins_with_colon v) ≡ Err kind → Holds kind p (w ∷ v)
holds p s w v kind l e = by (move s w) refl (why s w) (begins_with_colon v) refl e
  where
    fails : (k : FaultKind) → move s w ≡ Fails k → WhyFails s w k → Holds k p (w ∷ v)
    fails Float e (inl h) = FloatLiteral v (ap (λ u. u ∷ v) h.0) (to_readable p s number l h.1)
    fails Float e (inr h) = FloatTypeName h.0.0 v (ap (λ u. u ∷ v) h.0.1) h.0.2 (type_samples p s l h.1)
    fails IntRange e h = (v, ap (λ u. u ∷ v) h.0, to_readable p s number l h.1)
    fails Deep e h =
        let key = h.0 in
        let text : key.0 ≡ codes "ptr" = subst (Means key.0) key.2 (means key.0) in
        (v, ap (λ u. u ∷ v) (key.1 ∙ ap Name text), to_readable p s deep_base l h.1)
    fails Grammar e h = no_reading p s w v l (λ colon next d. never (Fails Grammar) refl colon next (sym (ap (λ m. decided m colon) e) ∙ d))

    by : (m : Move) → move s w ≡ m → Why s w m → (colon : Bool) → begins_with_colon v ≡ colon → decided m colon ≡ Err kind → Holds kind p (w ∷ v)
    by (Goes next) e h colon c d = cc
    by (GoesBeforeColon next) e h true c d = cc
    by (GoesBeforeColon next) e h false c d = let same : Float ≡ kind = cc in subst (λ k. Holds k p (w ∷ v)) same (float_operation_holds p s w v l c h)
    by FloatUnlessColon e h true c d =
        let same : Grammar ≡ kind = cc in
        subst (λ k. Holds k p (w ∷ v)) same (no_reading p s w v l (λ colon next g. never FloatUnlessColon refl colon next (sym (ap (λ m. decided m colon) e) ∙ g)))
    by FloatUnlessColon e h false c d = let same : Float ≡ kind = cc in subst (λ k. Holds k p (w ∷ v)) same (float_operation_holds p s w v l c h)
    by (Fails k) e h colon c d = let same : k ≡ kind = cc in subst (λ j. Holds j p (w ∷ v)) same (fails k e h)

-- a fault other than Grammar that holds is the machine's

colon_false : (v : List Terminal) → (front v ≡ Some (Punctuation Colon) → ⊥) → begins_with_colon v ≡ false
colon_false [] refuse = refl
colon_false (Punctuation m ∷ ws) refuse = by (same_mark m Colon) refl
  where
    by : (b : Bool) → same_mark m Colon ≡ b → same_mark m Colon ≡ false
    by true e = absurd (refuse (ap (λ n. Some (Punctuation n)) (mark_same m Colon e)))
    by false e = e
colon_false (_ ∷ ws) refuse = refl

found : (p : List Terminal) (s : State) (kind : FaultKind) (w : Terminal) (v : List Terminal) → Leads p s → (kind ≡ Grammar → ⊥) → Holds kind p (w ∷ v) → decided (move s w) (begins_with_colon v) ≡ Err kind
found p s Float w v l refuse (FloatLiteral r e h) =
    let same : w ≡ Terminal.Float = cc in
    let fails = (literal_position s (from_readable p s number l h)).0 in
    ap (λ u. decided (move s u) (begins_with_colon v)) same ∙ ap (λ m. decided m (begins_with_colon v)) fails
found p s Float w v l refuse (FloatTypeName text r e key h) =
    let same : w ≡ Name text = cc in
    let fails = type_position s (type_reads_back p s l h) text key in
    ap (λ u. decided (move s u) (begins_with_colon v)) same ∙ ap (λ m. decided m (begins_with_colon v)) fails
found p s Float w v l refuse (FloatOperationName text r e key other h) =
    let same : w ≡ Name text = cc in
    let rest : v ≡ r = cc in
    let alone : begins_with_colon v ≡ false = ap begins_with_colon rest ∙ colon_false r other in
    let fails = operation_position s (operation_reads_back p s l h) text key in
    ap (λ u. decided (move s u) (begins_with_colon v)) same ∙ (ap (decided (move s (Name text))) alone ∙ fails)
found p s IntRange w v l refuse h =
    let e = h.1 in
    let same : w ≡ Number None = cc in
    let fails = (literal_position s (from_readable p s number l h.2)).1 in
    ap (λ u. decided (move s u) (begins_with_colon v)) same ∙ ap (λ m. decided m (begins_with_colon v)) fails
found p s Deep w v l refuse h =
    let e = h.1 in
    let same : w ≡ Name (codes "ptr") = cc in
    let fails = deep_position s (from_readable p s deep_base l h.2) (codes "ptr") keyword_ptr in
    ap (λ u. decided (move s u) (begins_with_colon v)) same ∙ ap (λ m. decided m (begins_with_colon v)) fails
found p s Grammar w v l refuse h = absurd (refuse refl)

-- where the machine goes on, no fault holds
none_holds : (p : List Terminal) (s : State) (kind : FaultKind) (w : Terminal) (v : List Terminal) (next : State) → Leads p s → decided (move s w) (begins_with_colon v) ≡ Ok next → Holds kind p (w ∷ v) → ⊥
unfolding Leads
none_holds p s Grammar w v next l e h =
    let rest = viable next in
    let read : run s (w ∷ rest.0) ≡ Ok rest.1 = (one_step (move s w) (begins_with_colon v) next e rest.0 rest.1).1 rest.2 in
    h (w ∷ rest.0) rest.1 refl (spelled (p ++ (w ∷ rest.0)) rest.1 ((l (w ∷ rest.0) rest.1).1 read))
none_holds p s Float w v next l e h = let d = found p s Float w v l (λ g. cc) h in cc
none_holds p s IntRange w v next l e h = let d = found p s IntRange w v l (λ g. cc) h in cc
none_holds p s Deep w v next l e h = let d = found p s Deep w v l (λ g. cc) h in cc

end_holds : (p : List Terminal) (kind : FaultKind) → (kind ≡ Grammar → ⊥) → Holds kind p [] → ⊥
end_holds p Float refuse (FloatLiteral r e h) = cc
end_holds p Float refuse (FloatTypeName text r e key h) = cc
end_holds p Float refuse (FloatOperationName text r e key other h) = cc
end_holds p IntRange refuse h = let e = h.1 in cc
end_holds p Deep refuse h = let e = h.1 in cc
end_holds p Grammar refuse h = refuse refl

-- no fault holds before p ends

Clean : List Terminal → List Terminal → Type 0
Clean p ws = (a b : List Terminal) (kind : FaultKind) → p ++ ws ≡ a ++ b → length a < length p → Holds kind a b → ⊥

append_cut : (p a u b : List Terminal) → p ++ u ≡ a ++ b → length p ≡ length a → (p ≡ a) × (u ≡ b)
append_cut [] [] u b e l = (refl, e)
append_cut [] (x ∷ a) u b e l = absurd (omega arith)
append_cut (w ∷ p) [] u b e l = absurd (omega arith)
append_cut (w ∷ p) (x ∷ a) u b e l =
    let head : w ≡ x = cc in
    let tail : p ++ u ≡ a ++ b = cc in
    let rest = append_cut p a u b tail (omega arith) in
    (cc (head, rest.0), rest.1)

clean_on : (p : List Terminal) (s : State) (w : Terminal) (ws : List Terminal) (next : State) → Leads p s → Clean p (w ∷ ws) → decided (move s w) (begins_with_colon ws) ≡ Ok next → Clean (p ++ (w ∷ [])) ws
unfolding Clean
clean_on p s w ws next l clean e a b kind cut short h =
    let whole : p ++ (w ∷ ws) ≡ a ++ b = sym (append_assoc p (w ∷ []) ws) ∙ cut in
    let size = length-append p (w ∷ []) in
    by (cases_lt (length a) (length p)) whole (omega arith)
  where
    by : (length a < length p) ⊎ (length p ≤ length a) → p ++ (w ∷ ws) ≡ a ++ b → length a ≤ length p → ⊥
    by (inl lt) whole le = clean a b kind whole lt h
    by (inr ge) whole le =
        let parts = append_cut p a (w ∷ ws) b whole (omega arith) in
        let moved : Holds kind p (w ∷ ws) = subst₂ (Holds kind) (sym parts.0) (sym parts.1) h in
        none_holds p s kind w ws next l e moved

ended_grammar : (s : State) (f : Fault) → at_end s ≡ Err f → f ≡ record { kind = Grammar; left = 0 }
ended_grammar (AtImport imports) f e = cc
ended_grammar (AtFunction imports funcs) f e = cc
ended_grammar _ f e = cc

lower_kind : (kind : FaultKind) → rank kind < rank Grammar → kind ≡ Grammar → ⊥
lower_kind kind h e = let same : rank kind ≡ 3 = ap rank e in omega arith

-- at the end of the terminals
end_fault : (p : List Terminal) (s : State) (f : Fault) → Leads p s → Clean p [] → at_end s ≡ Err f → IsFirstFault (p ++ []) f
unfolding Clean
end_fault p s f l clean e =
    let is = ended_grammar s f e in
    let fault : IsFirstFault (p ++ []) (record { kind = Grammar; left = 0 }) = record {
      before = p;
      rest = [];
      cut = refl;
      left = refl;
      readable = readable_here p s l;
      holds = no_end p s f l e;
      earlier = λ a b kind cut short h. clean a b kind cut short h;
      order = λ kind low h. end_holds p kind (lower_kind kind low) h;
    } in
    subst (IsFirstFault (p ++ [])) (sym is) fault

-- at a terminal
terminal_fault : (p : List Terminal) (s : State) (w : Terminal) (ws : List Terminal) (kind : FaultKind) → Leads p s → Clean p (w ∷ ws) → decided (move s w) (begins_with_colon ws) ≡ Err kind → IsFirstFault (p ++ (w ∷ ws)) (record { kind = kind; left = suc (length ws) })
unfolding Clean
terminal_fault p s w ws kind l clean e = record {
  before = p;
  rest = w ∷ ws;
  cut = refl;
  left = refl;
  readable = readable_here p s l;
  holds = holds p s w ws kind l e;
  earlier = λ a b k cut short h. clean a b k cut short h;
  order = λ k low h. other k low h;
}
  where
    below_grammar : (k j : FaultKind) → rank k < rank j → k ≡ Grammar → ⊥
    below_grammar k Float low e = omega arith
    below_grammar k IntRange low e = let same : rank k ≡ 3 = ap rank e in omega arith
    below_grammar k Deep low e = let same : rank k ≡ 3 = ap rank e in omega arith
    below_grammar k Grammar low e = let same : rank k ≡ 3 = ap rank e in omega arith

    other : (k : FaultKind) → rank k < rank kind → Holds k p (w ∷ ws) → ⊥
    other k low h =
        let d = found p s k w ws l (below_grammar k kind low) h in
        let same : k ≡ kind = cc in
        let ranks : rank k ≡ rank kind = ap rank same in
        omega arith

first : (ws p : List Terminal) (s : State) (f : Fault) → Leads p s → Clean p ws → run s ws ≡ Err f → IsFirstFault (p ++ ws) f
first [] p s f l clean e = end_fault p s f l clean e
first (w ∷ ws) p s f l clean e = by (decided (move s w) (begins_with_colon ws)) refl e (λ next. first ws (p ++ (w ∷ [])) next f)
  where
    by : (d : Result State FaultKind) → decided (move s w) (begins_with_colon ws) ≡ d → go_on d (λ n. run n ws) (suc (length ws)) ≡ Err f
        → ((next : State) → Leads (p ++ (w ∷ [])) next → Clean (p ++ (w ∷ [])) ws → run next ws ≡ Err f → IsFirstFault ((p ++ (w ∷ [])) ++ ws) f) → IsFirstFault (p ++ (w ∷ ws)) f
    by (Ok next) d g ih =
        subst (λ xs. IsFirstFault xs f) (append_assoc p (w ∷ []) ws) (ih next (leads_on p s w (begins_with_colon ws) next l d) (clean_on p s w ws next l clean d) g)
    by (Err kind) d g ih =
        let is : record { kind = kind; left = suc (length ws) } ≡ f = cc in
        subst (IsFirstFault (p ++ (w ∷ ws))) is (terminal_fault p s w ws kind l clean d)

leads_nowhere : Leads [] (AtImport [])
unfolding Leads
leads_nowhere x t = (λ h. h, λ h. h)

clean_nowhere : (ws : List Terminal) → Clean [] ws
unfolding Clean
clean_nowhere ws a b kind cut short h = omega arith

-- the machine's fault is the first
pub fault-first : (ws : List Terminal) (f : Fault) → run (AtImport []) ws ≡ Err f → IsFirstFault ws f
fault-first ws f e = first ws [] (AtImport []) f leads_nowhere (clean_nowhere ws) e

-- where the terminals are a program, no fault holds anywhere

program_clean : (ws p : List Terminal) (s : State) (t : Tree) → Leads p s → Clean p ws → run s ws ≡ Ok t → (a b : List Terminal) (kind : FaultKind) → p ++ ws ≡ a ++ b → Holds kind a b → ⊥
unfolding Leads Clean
program_clean [] p s t l clean e a b kind cut h = by (cases_lt (length a) (length p))
  where
    grammar : Holds Grammar p [] → ⊥
    grammar g = g [] t refl (spelled (p ++ []) t ((l [] t).1 e))

    here : (k : FaultKind) → Holds k p [] → ⊥
    here Grammar g = grammar g
    here Float g = end_holds p Float (λ i. cc) g
    here IntRange g = end_holds p IntRange (λ i. cc) g
    here Deep g = end_holds p Deep (λ i. cc) g

    by : (length a < length p) ⊎ (length p ≤ length a) → ⊥
    by (inl lt) = clean a b kind cut lt h
    by (inr ge) =
        let sizes = ap length cut in
        let left = length-append p [] in
        let right = length-append a b in
        let parts = append_cut p a [] b cut (omega arith) in
        here kind (subst₂ (Holds kind) (sym parts.0) (sym parts.1) h)
program_clean (w ∷ ws) p s t l clean e a b kind cut h = by (decided (move s w) (begins_with_colon ws)) refl e (λ next. program_clean ws (p ++ (w ∷ [])) next t)
  where
    by : (d : Result State FaultKind) → decided (move s w) (begins_with_colon ws) ≡ d → go_on d (λ n. run n ws) (suc (length ws)) ≡ Ok t
        → ((next : State) → Leads (p ++ (w ∷ [])) next → Clean (p ++ (w ∷ [])) ws → run next ws ≡ Ok t → (a b : List Terminal) (kind : FaultKind) → (p ++ (w ∷ [])) ++ ws ≡ a ++ b → Holds kind a b → ⊥) → ⊥
    by (Ok next) d g ih = ih next (leads_on p s w (begins_with_colon ws) next l d) (clean_on p s w ws next l clean d) g a b kind (append_assoc p (w ∷ []) ws ∙ cut) h
    by (Err k) d g ih = cc

-- there is at most one first fault

rank_same : (k j : FaultKind) → rank k ≡ rank j → k ≡ j
rank_same Float Float e = refl
rank_same IntRange IntRange e = refl
rank_same Deep Deep e = refl
rank_same Grammar Grammar e = refl
rank_same _ _ e = absurd (omega arith)

one_fault : (ws : List Terminal) (f g : Fault) → IsFirstFault ws f → IsFirstFault ws g → f ≡ g
one_fault ws f g F G = by (cases_lt (length F.before) (length G.before)) (cases_lt (length G.before) (length F.before))
  where
    kinds : F.before ≡ G.before → F.rest ≡ G.rest → (rank f.kind < rank g.kind) ⊎ (rank g.kind ≤ rank f.kind) → (rank g.kind < rank f.kind) ⊎ (rank f.kind ≤ rank g.kind) → f.kind ≡ g.kind
    kinds b r (inl lt) other = absurd (G.order f.kind lt (subst₂ (Holds f.kind) b r F.holds))
    kinds b r (inr ge) (inl lt) = absurd (F.order g.kind lt (subst₂ (Holds g.kind) (sym b) (sym r) G.holds))
    kinds b r (inr ge) (inr le) = rank_same f.kind g.kind (omega arith)

    by : (length F.before < length G.before) ⊎ (length G.before ≤ length F.before) → (length G.before < length F.before) ⊎ (length F.before ≤ length G.before) → f ≡ g
    by (inl lt) other = absurd (G.earlier F.before F.rest f.kind F.cut lt F.holds)
    by (inr ge) (inl lt) = absurd (F.earlier G.before G.rest g.kind G.cut lt G.holds)
    by (inr ge) (inr le) =
        let parts = append_cut F.before G.before F.rest G.rest (sym F.cut ∙ G.cut) (omega arith) in
        let kind = kinds parts.0 parts.1 (cases_lt (rank f.kind) (rank g.kind)) (cases_lt (rank g.kind) (rank f.kind)) in
        let left : f.left ≡ g.left = F.left ∙ (ap length parts.1 ∙ sym G.left) in
        λ i. record { kind = kind i; left = left i }

-- the first fault is the machine's
pub first-fault : (ws : List Terminal) (f : Fault) → IsFirstFault ws f → run (AtImport []) ws ≡ Err f
first-fault ws f F = by (run (AtImport []) ws) refl
  where
    by : (r : Result Tree Fault) → run (AtImport []) ws ≡ r → r ≡ Err f
    by (Ok t) e = absurd (program_clean ws [] (AtImport []) t leads_nowhere (clean_nowhere ws) e F.before F.rest f.kind F.cut F.holds)
    by (Err g) e = ap Err (one_fault ws g f (fault-first ws g e) F)
