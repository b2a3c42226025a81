-- The loop of the search for first walks.
use Rattle.std.proofs.Common.{◌≡◌, ℕ, zero, suc, ◌+◌, ◌*◌, ◌<◌, List, [], ◌∷◌, ◌++◌, length, map, set, replicate, Option, Some, None, refl, sym, ap, ◌∙◌, subst, inl, arith, length-append}
use Rattle.std.specs.Prelude.{slice_get}
use Rattle.std.proofs.lemmas.List.{map-append}
use Rattle.bril_tree.specs.declared.numbered.Instr.{Instr}
use Rattle.bril_tree.specs.Edge as edge
use Rattle.bril_tree.specs.Edge.{branches_at}
use Rattle.bril_tree.specs.Walk.{end_of}
use Rattle.flow_graph.specs.declared.visits.Visit.{Visit}
use Rattle.flow_graph.specs.declared.branches.Branch.{Branch}
use Rattle.flow_graph.specs.declared.branches.Branches.{Branches}
use Rattle.flow_graph.specs.Visits.{AreVisits, none_open, visit_behind}
use Rattle.flow_graph.specs.Branches.{branch_of, branches_of, visiting, AreBranchRows}
use Rattle.bril_tree.proofs.Branches.{branch_inside}
use Rattle.flow_graph.proofs.Searching.{Pending, Searching, Entering, candidate, pend, at_start, get_inside, pass, enter, start, searched, few_waiting}

-- the branches wait in a search
pub record IsSearching (code : List Instr) (visits : List (Option Visit)) (waiting : List Branch) : Type 0 where
  pub done : List (List edge.Branch)
  pub wait : List Pending
  pub waits : map (λ (c : Pending). c.branch) wait ≡ waiting
  pub search : Searching code visits done wait

-- the first branch that waits, and the rest
record First (wait : List Pending) (branch : Branch) (rest : List Branch) : Type 0 where
  first : Pending
  others : List Pending
  is : wait ≡ first ∷ others
  branch_is : first.branch ≡ branch
  rest_is : map (λ (c : Pending). c.branch) others ≡ rest

first_waiting : (wait : List Pending) (branch : Branch) (rest : List Branch) → map (λ (c : Pending). c.branch) wait ≡ branch ∷ rest → First wait branch rest
first_waiting [] branch rest e = absurd (let f : [] ≡ branch ∷ rest = e in cc)
first_waiting (c ∷ cs) branch rest e =
    let f : c.branch ∷ map (λ (d : Pending). d.branch) cs ≡ branch ∷ rest = e in
    record { first = c; others = cs; is = refl; branch_is = cc; rest_is = cc }

branches_pending : (v : List edge.Branch) (branches : List Branch) → map (λ (c : Pending). c.branch) (map (pend v) branches) ≡ branches
branches_pending v [] = refl
branches_pending v (w ∷ branches) = ap (λ ws. w ∷ ws) (branches_pending v branches)

pub begun : (code : List Instr) (rows : List Branches) (visits : List (Option Visit)) (waiting : List Branch) → AreBranchRows code rows → visits ≡ set (replicate (length rows) None) 0 (Some none_open) → ((row : Branches) → slice_get rows 0 ≡ Some row → waiting ≡ [] ++ visiting row) → IsSearching code visits waiting
begun code rows visits waiting are v w =
    let row = get_inside rows 0 (omega (arith, are.points)) in
    let same : at_start code ≡ visits = ap (λ n. set (replicate n None) 0 (Some none_open)) (sym are.points) ∙ sym v in
    record {
      done = [] ∷ [];
      wait = map (pend []) (visiting row.0);
      waits = branches_pending [] (visiting row.0) ∙ sym (w row.0 row.1);
      search = subst (λ x. Searching code x ([] ∷ []) (map (pend []) (visiting row.0))) same (start code row.0 (are.at 0 row.0 row.1));
    }

pub branch_to : (code : List Instr) (visits : List (Option Visit)) (waiting rest : List Branch) (branch : Branch) → IsSearching code visits waiting → waiting ≡ branch ∷ rest → branch.to < length visits
branch_to code visits waiting rest branch s e =
    let f = first_waiting s.wait branch rest (s.waits ∙ e) in
    let search = subst (λ w. Searching code visits s.done w) f.is s.search in
    let came = search.came f.first (inl refl) in
    let inside = branch_inside code (end_of f.first.before) (branch_of f.first.branch) came.branch in
    let long = search.long in
    let to : f.first.branch.to ≡ branch.to = ap (λ (w : Branch). w.to) f.branch_is in
    omega arith

-- what a turn of the loop does
pub record Turn (code : List Instr) (rows : List Branches) (visits : List (Option Visit)) (rest : List Branch) (branch : Branch) (visits' : List (Option Visit)) (waiting' : List Branch) : Type 0 where
  pub passed : (visit : Visit) → slice_get visits branch.to ≡ Some (Some visit) → (visits' ≡ visits) × (waiting' ≡ rest)
  pub entered : (row : Branches) → slice_get visits branch.to ≡ Some None → slice_get rows branch.to ≡ Some row → (visits' ≡ set visits branch.to (Some (visit_behind code visits (branch_of branch)))) × (waiting' ≡ rest ++ visiting row)

-- how many points were not visited yet
pub unseen : List (Option Visit) → ℕ
unseen [] = 0
unseen (None ∷ visits) = suc (unseen visits)
unseen (Some visit ∷ visits) = unseen visits

unseen-set : (visits : List (Option Visit)) (p : ℕ) (visit : Visit) → slice_get visits p ≡ Some None → suc (unseen (set visits p (Some visit))) ≡ unseen visits
unfolding unseen
unseen-set [] p visit h = absurd (let e : ◌≡◌ {A = Option (Option Visit)} None (Some None) = h in cc)
unseen-set (None ∷ visits) zero visit h = refl
unseen-set (Some v ∷ visits) zero visit h = absurd (let e : ◌≡◌ {A = Option (Option Visit)} (Some (Some v)) (Some None) = h in cc)
unseen-set (None ∷ visits) (suc p) visit h = ap suc (unseen-set visits p visit h)
unseen-set (Some v ∷ visits) (suc p) visit h = unseen-set visits p visit h

-- it falls with each turn
pub left : List (Option Visit) → List Branch → ℕ
left visits waiting = 3 * unseen visits + length waiting

-- a turn keeps the search and lowers what is left
record Result (code : List Instr) (visits : List (Option Visit)) (waiting : List Branch) (visits' : List (Option Visit)) (waiting' : List Branch) : Type 0 where
  search : IsSearching code visits' waiting'
  falls : left visits' waiting' < left visits waiting

turn_pass : (code : List Instr) (rows : List Branches) (visits : List (Option Visit)) (waiting rest : List Branch) (branch : Branch) (visits' : List (Option Visit)) (waiting' : List Branch) (s : IsSearching code visits waiting) → waiting ≡ branch ∷ rest → First s.wait branch rest → (visit : Visit) → slice_get visits branch.to ≡ Some (Some visit) → visits' ≡ visits → waiting' ≡ rest → Result code visits waiting visits' waiting'
unfolding left
turn_pass code rows visits waiting rest branch visits' waiting' s e f visit at same_visits same_waiting =
    let search = subst (λ w. Searching code visits s.done w) f.is s.search in
    let own = search.only branch.to visit at in
    let to : f.first.branch.to ≡ branch.to = ap (λ (w : Branch). w.to) f.branch_is in
    let next = pass code visits s.done f.first f.others search own.0 own.1 (own.2 ∙ sym to) in
    record {
      search = record {
        done = s.done;
        wait = f.others;
        waits = f.rest_is ∙ sym same_waiting;
        search = subst (λ v. Searching code v s.done f.others) (sym same_visits) next;
      };
      falls = omega (arith, ap unseen same_visits, ap length same_waiting, ap length e);
    }

turn_enter : (code : List Instr) (rows : List Branches) (visits : List (Option Visit)) (waiting rest : List Branch) (branch : Branch) (visits' : List (Option Visit)) (waiting' : List Branch) (s : IsSearching code visits waiting) → waiting ≡ branch ∷ rest → (f : First s.wait branch rest) → (row : Branches) → slice_get visits branch.to ≡ Some None → branches_of row ≡ branches_at code branch.to → visits' ≡ set visits branch.to (Some (visit_behind code visits (branch_of branch))) → waiting' ≡ rest ++ visiting row → Result code visits waiting visits' waiting'
unfolding left
turn_enter code rows visits waiting rest branch visits' waiting' s e f row at is visits_are waiting_is =
    let search = subst (λ w. Searching code visits s.done w) f.is s.search in
    let to : f.first.branch.to ≡ branch.to = ap (λ (w : Branch). w.to) f.branch_is in
    let entering : Entering code rows visits s.done f.first f.others row = record {
      search = search;
      new = ap (λ p. slice_get visits p) to ∙ at;
      is = is ∙ ap (λ p. branches_at code p) (sym to);
    } in
    let next = enter code rows visits s.done f.first f.others row entering in
    let same : set visits f.first.branch.to (Some (visit_behind code visits (branch_of f.first.branch))) ≡ visits' =
    ap (λ (w : Branch). set visits w.to (Some (visit_behind code visits (branch_of w)))) f.branch_is ∙ sym visits_are in
    let news = map (pend (candidate f.first)) (visiting row) in
    record {
      search = record {
        done = candidate f.first ∷ s.done;
        wait = f.others ++ news;
        waits = map-append (λ (c : Pending). c.branch) f.others news
            ∙ ap (λ ws. ws ++ map (λ (c : Pending). c.branch) news) f.rest_is
            ∙ ap (λ ws. rest ++ ws) (branches_pending (candidate f.first) (visiting row))
            ∙ sym waiting_is;
        search = subst (λ v. Searching code v (candidate f.first ∷ s.done) (f.others ++ news)) same next;
      };
      falls = omega (arith, ap unseen visits_are, unseen-set visits branch.to (visit_behind code visits (branch_of branch)) at, ap length waiting_is, length-append rest (visiting row), few_waiting row, ap length e);
    }

turn_by : (code : List Instr) (rows : List Branches) (visits : List (Option Visit)) (waiting rest : List Branch) (branch : Branch) (visits' : List (Option Visit)) (waiting' : List Branch) → AreBranchRows code rows → (s : IsSearching code visits waiting) → waiting ≡ branch ∷ rest → Turn code rows visits rest branch visits' waiting' → (target : Option Visit) → slice_get visits branch.to ≡ Some target → Result code visits waiting visits' waiting'
turn_by code rows visits waiting rest branch visits' waiting' are s e t (Some visit) at =
    let same = t.passed visit at in
    turn_pass code rows visits waiting rest branch visits' waiting' s e (first_waiting s.wait branch rest (s.waits ∙ e)) visit at same.0 same.1
turn_by code rows visits waiting rest branch visits' waiting' are s e t None at =
    let inside = branch_to code visits waiting rest branch s e in
    let row = get_inside rows branch.to (omega (arith, are.points, s.search.long)) in
    let new = t.entered row.0 at row.1 in
    turn_enter code rows visits waiting rest branch visits' waiting' s e (first_waiting s.wait branch rest (s.waits ∙ e)) row.0 at (are.at branch.to row.0 row.1) new.0 new.1

turned : (code : List Instr) (rows : List Branches) (visits : List (Option Visit)) (waiting rest : List Branch) (branch : Branch) (visits' : List (Option Visit)) (waiting' : List Branch) → AreBranchRows code rows → IsSearching code visits waiting → waiting ≡ branch ∷ rest → Turn code rows visits rest branch visits' waiting' → Result code visits waiting visits' waiting'
turned code rows visits waiting rest branch visits' waiting' are s e t =
    let target = get_inside visits branch.to (branch_to code visits waiting rest branch s e) in
    turn_by code rows visits waiting rest branch visits' waiting' are s e t target.0 target.1

pub turn_searches : (code : List Instr) (rows : List Branches) (visits : List (Option Visit)) (waiting rest : List Branch) (branch : Branch) (visits' : List (Option Visit)) (waiting' : List Branch) → AreBranchRows code rows → IsSearching code visits waiting → waiting ≡ branch ∷ rest → Turn code rows visits rest branch visits' waiting' → IsSearching code visits' waiting'
turn_searches code rows visits waiting rest branch visits' waiting' are s e t = (turned code rows visits waiting rest branch visits' waiting' are s e t).search

pub turn_falls : (code : List Instr) (rows : List Branches) (visits : List (Option Visit)) (waiting rest : List Branch) (branch : Branch) (visits' : List (Option Visit)) (waiting' : List Branch) → AreBranchRows code rows → IsSearching code visits waiting → waiting ≡ branch ∷ rest → Turn code rows visits rest branch visits' waiting' → left visits' waiting' < left visits waiting
turn_falls code rows visits waiting rest branch visits' waiting' are s e t = (turned code rows visits waiting rest branch visits' waiting' are s e t).falls

none_waits : (wait : List Pending) → map (λ (c : Pending). c.branch) wait ≡ [] → wait ≡ []
none_waits [] e = refl
none_waits (c ∷ cs) e = absurd (let f : c.branch ∷ map (λ (d : Pending). d.branch) cs ≡ [] = e in cc)

pub ended : (code : List Instr) (visits : List (Option Visit)) (waiting : List Branch) → IsSearching code visits waiting → waiting ≡ [] → AreVisits code visits
ended code visits waiting s e =
    searched code visits s.done (subst (λ w. Searching code visits s.done w) (none_waits s.wait (s.waits ∙ e)) s.search)
