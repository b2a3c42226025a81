-- Edges, and those that go to a point.
use Rattle.std.proofs.Common.{◌≡◌, ℕ, suc, ◌+◌, ◌<◌, ◌≤◌, true, false, cond, eqb, List, [], ◌∷◌, ◌++◌, length, get_or, set, take, drop, Option, Some, None, refl, sym, ap, ◌∙◌, subst, inl, inr, arith, append-nil, append_assoc, length-set}
use Rattle.std.specs.Prelude.{◌⊎◌, slice_get}
use Rattle.std.specs.List.{All}
use Rattle.std.proofs.lemmas.Bool.{cases_eq, eq-eqb, ne_eqb, cond-true, cond-false}
use Rattle.std.proofs.lemmas.List.{drop_more, take_more}
use Rattle.std.proofs.lemmas.List.Elements.{filter-append, All-nil, All-cons}
use Rattle.std.proofs.lemmas.Option.{slice_get-get_or, get_or_from_slice_get}
use Rattle.bril_tree.specs.declared.numbered.Instr.{Instr}
use Rattle.bril_tree.specs.Edge.{branches_at}
use Rattle.bril_tree.specs.declared.edge.Edge.{Edge}
use Rattle.flow_graph.specs.declared.branches.Branches.{Branches}
use Rattle.bril_tree.specs.Leaving.{edge_of}
use Rattle.flow_graph.specs.Graph.{ArePreds, edges_at, edges_from, edges_to}
use Rattle.flow_graph.specs.Branches.{branches_of, edges_on, AreBranchRows}
use Rattle.bril_tree.specs.Membership.{In}
use Rattle.bril_tree.proofs.Members.{in_append_cases, in_map_source}
use Rattle.bril_tree.proofs.Branches.{branch_inside}
use Rattle.flow_graph.proofs.Searching.{get_set_same, get_set_other}

at_point : (code : List Instr) (p : ℕ) (sites : Option (List ℕ)) → edges_on (branches_at code p) sites ≡ edges_at code p sites
at_point code p None = refl
at_point code p (Some sites) = refl

-- a turn of the loop over the points
pub edges_turn : (code : List Instr) (rows : List Branches) (sites : List (Option (List ℕ))) (i : ℕ) (d : Branches) (here : Option (List ℕ)) (edges edges' whole : List Edge) → AreBranchRows code rows → i < length rows → i < length sites → here ≡ get_or sites i here → edges' ≡ edges ++ edges_on (branches_of (get_or rows i d)) here → edges ++ edges_from code i (drop i sites) ≡ whole → edges' ++ edges_from code (i + 1) (drop (i + 1) sites) ≡ whole
edges_turn code rows sites i d here edges edges' whole are l m at pushed so_far =
    let row : branches_of (get_or rows i d) ≡ branches_at code i = are.at i (get_or rows i d) (slice_get-get_or rows i d l) in
    let next : suc i ≡ i + 1 = omega arith in
    let rest : drop i sites ≡ here ∷ drop (i + 1) sites = drop_more sites i here m ∙ ap (λ s. s ∷ drop (i + 1) sites) (sym at) in
    let new = edges_on (branches_of (get_or rows i d)) here in
    let later = edges_from code (i + 1) (drop (i + 1) sites) in
    let is_new : new ≡ edges_at code i here = ap (λ ws. edges_on ws here) row ∙ at_point code i here in
    ap (λ es. es ++ later) pushed
    ∙ append_assoc edges new later
    ∙ ap (λ es. edges ++ (es ++ later)) is_new
    ∙ ap (λ n. edges ++ (edges_at code i here ++ edges_from code n (drop (i + 1) sites))) (sym next)
    ∙ ap (λ ss. edges ++ edges_from code i ss) (sym rest)
    ∙ so_far

-- ---- edges go to points of the function

inside_at : (code : List Instr) (p : ℕ) (sites : Option (List ℕ)) (e : Edge) → In e (edges_at code p sites) → e.to ≤ length code
inside_at code p None e h = absurd h
inside_at code p (Some sites) e h =
    let s = in_map_source (edge_of sites) e (branches_at code p) h in
    omega (arith, ap (λ (x : Edge). x.to) s.2, branch_inside code p s.0 s.1)

inside_either : (code : List Instr) (p : ℕ) (s : Option (List ℕ)) (sites : List (Option (List ℕ))) (e : Edge) → In e (edges_at code p s) ⊎ In e (edges_from code (suc p) sites) → (In e (edges_from code (suc p) sites) → e.to ≤ length code) → e.to ≤ length code
inside_either code p s sites e (inl i) rest = inside_at code p s e i
inside_either code p s sites e (inr i) rest = rest i

inside_from : (code : List Instr) (p : ℕ) (sites : List (Option (List ℕ))) (e : Edge) → In e (edges_from code p sites) → e.to ≤ length code
inside_from code p [] e h = absurd h
inside_from code p (s ∷ sites) e h =
    inside_either code p s sites e (in_append_cases e (edges_at code p s) (edges_from code (suc p) sites) h) (λ i. inside_from code (suc p) sites e i)

all_in : (P : Edge → Type 0) (edges : List Edge) → ((e : Edge) → In e edges → P e) → All P edges
all_in P [] h = All-nil P
all_in P (e ∷ edges) h = All-cons P e edges (h e (inl refl)) (all_in P edges (λ f i. h f (inr i)))

pub edges_inside : (code : List Instr) (sites : List (Option (List ℕ))) (edges : List Edge) (many : ℕ) → edges ≡ edges_from code 0 sites → many ≡ length code + 1 → All (λ e. e.to < many) edges
edges_inside code sites edges many is m =
    all_in (λ e. e.to < many) edges (λ e i. omega (arith, inside_from code 0 sites e (subst (λ es. In e es) is i)))

-- ---- the edges that go to a point

same_point : (many : ℕ) (before : List Edge) (e : Edge) (preds : List (List Edge)) → ArePreds many before preds → e.to < many → (p : ℕ) → p < many → (p ≡ e.to) ⊎ (p ≡ e.to → ⊥) → slice_get (set preds e.to (get_or preds e.to [] ++ e ∷ [])) p ≡ Some (edges_to p before ++ cond (eqb e.to p) (e ∷ []) [])
same_point many before e preds are inside p h (inl same) =
    let own : get_or preds e.to [] ≡ edges_to e.to before = get_or_from_slice_get preds e.to (edges_to e.to before) [] (are.at e.to inside) in
    let passes : eqb e.to p ≡ true = eq-eqb e.to p (sym same) in
    ap (λ n. slice_get (set preds e.to (get_or preds e.to [] ++ e ∷ [])) n) same
    ∙ get_set_same preds e.to (get_or preds e.to [] ++ e ∷ []) (omega (arith, are.points))
    ∙ ap (λ es. Some (es ++ e ∷ [])) own
    ∙ ap (λ n. Some (edges_to n before ++ e ∷ [])) (sym same)
    ∙ ap (λ es. Some (edges_to p before ++ es)) (sym (cond-true (eqb e.to p) (e ∷ []) [] passes))
same_point many before e preds are inside p h (inr differs) =
    let fails : eqb e.to p ≡ false = ne_eqb e.to p (λ same. differs (sym same)) in
    get_set_other preds e.to p (get_or preds e.to [] ++ e ∷ []) differs
    ∙ are.at p h
    ∙ ap (λ es. Some es) (sym (append-nil (edges_to p before)))
    ∙ ap (λ es. Some (edges_to p before ++ es)) (sym (cond-false (eqb e.to p) (e ∷ []) [] fails))

-- a turn of the loop over the edges
pub preds_turn : (many : ℕ) (edges : List Edge) (i : ℕ) (d : Edge) (preds preds' : List (List Edge)) → i < length edges → ArePreds many (take i edges) preds → (get_or edges i d).to < many → preds' ≡ set preds (get_or edges i d).to (get_or preds (get_or edges i d).to [] ++ get_or edges i d ∷ []) → ArePreds many (take (i + 1) edges) preds'
preds_turn many edges i d preds preds' l are inside is =
    let e = get_or edges i d in
    let more = take_more edges i d l in
    record {
      points = ap length is ∙ length-set preds e.to (get_or preds e.to [] ++ e ∷ []) ∙ are.points;
      at = λ p h. ap (λ ps. slice_get ps p) is
          ∙ same_point many (take i edges) e preds are inside p h (cases_eq p e.to)
          ∙ ap (λ es. Some es) (sym (ap (λ es. edges_to p es) more ∙ filter-append (λ (x : Edge). eqb x.to p) (take i edges) (e ∷ [])));
    }
