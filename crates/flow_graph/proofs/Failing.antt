-- Where the open sites fail shows in what is kept for each point.
use Rattle.std.proofs.Common.{◌≡◌, ℕ, ◌+◌, ◌<◌, ◌≤◌, min, List, [], ◌∷◌, length, get_or, Option, Some, None, refl, sym, ap, ◌∙◌, subst, inl, inr, arith}
use Rattle.std.specs.Prelude.{◌⊎◌, MatchOption, slice_get}
use Rattle.std.specs.List.{Contains}
use Rattle.std.proofs.lemmas.Bool.{cases_lt, cases_order}
use Rattle.std.proofs.lemmas.Option.{slice_get_within, slice_get-get_or}
use Rattle.bril_tree.specs.declared.numbered.Instr.{Instr}
use Rattle.bril_tree.specs.Edge as edge
use Rattle.bril_tree.specs.Edge.{branches_at}
use Rattle.bril_tree.specs.Walk.{IsWalk}
use Rattle.bril_tree.specs.Sites.{AreFirstSites, AreSitesSound, SitesFail, TooMany, NoSite, Others, sites_of, sites_behind}
use Rattle.flow_graph.specs.Graph.{IsLeastFailing}
use Rattle.flow_graph.specs.Faults.{IsLeastOf, lesser, Lacks, Brings, FailsAhead, FailsFrom, FailsAt, FailsBefore}
use Rattle.flow_graph.specs.Visits.{Keep, IsVisited, AreVisits, visit_or_none, visit_at, visit_behind}
use Rattle.flow_graph.specs.Branches.{branch_of, branches_of, AreBranchRows}
use Rattle.flow_graph.specs.declared.visits.Visit.{Visit}
use Rattle.flow_graph.specs.declared.branches.Branches.{Branches}
use Rattle.flow_graph.specs.declared.branches.Branches.TheVariants.{Nowhere, Single, Either}
use Rattle.bril_tree.specs.Membership.{In}
use Rattle.bril_tree.proofs.Members.{in_contains, contains_in}
use Rattle.flow_graph.proofs.OpenSites.{one_list}
use Rattle.bril_tree.proofs.Branches.{branch_from}
use Rattle.flow_graph.proofs.Searching.{get_inside, keep_count, keep_behind}

-- ---- the least of two

least_is : (P Q : ℕ → Type 0) (x y : ℕ) → P x → Q y → (x < y) ⊎ (y ≤ x) → P (min x y) ⊎ Q (min x y)
least_is P Q x y a b (inl l) = let same : x ≡ min x y = omega arith in inl (subst P same a)
least_is P Q x y a b (inr l) = let same : y ≡ min x y = omega arith in inr (subst Q same b)

least_below : (P Q : ℕ → Type 0) (x y : ℕ) → ((p : ℕ) → P p → x ≤ p) → ((p : ℕ) → Q p → y ≤ p) → (p : ℕ) → P p ⊎ Q p → min x y ≤ p
least_below P Q x y f g p (inl h) = omega (arith, f p h)
least_below P Q x y f g p (inr h) = omega (arith, g p h)

neither : (P Q : ℕ → Type 0) → ((p : ℕ) → P p → ⊥) → ((p : ℕ) → Q p → ⊥) → (p : ℕ) → P p ⊎ Q p → ⊥
neither P Q f g p (inl h) = f p h
neither P Q f g p (inr h) = g p h

first_least : (P Q : ℕ → Type 0) (x : ℕ) → ((p : ℕ) → P p → x ≤ p) → ((p : ℕ) → Q p → ⊥) → (p : ℕ) → P p ⊎ Q p → x ≤ p
first_least P Q x f g p (inl h) = f p h
first_least P Q x f g p (inr h) = absurd (g p h)

second_least : (P Q : ℕ → Type 0) (y : ℕ) → ((p : ℕ) → P p → ⊥) → ((p : ℕ) → Q p → y ≤ p) → (p : ℕ) → P p ⊎ Q p → y ≤ p
second_least P Q y f g p (inl h) = absurd (f p h)
second_least P Q y f g p (inr h) = g p h

least_both : (P Q : ℕ → Type 0) (x y : ℕ) → P x × ((p : ℕ) → P p → x ≤ p) → Q y × ((p : ℕ) → Q p → y ≤ p) → (x < y) ⊎ (y ≤ x) → (P (min x y) ⊎ Q (min x y)) × ((p : ℕ) → P p ⊎ Q p → min x y ≤ p)
least_both P Q x y a b h = (least_is P Q x y a.0 b.0 h, least_below P Q x y a.1 b.1)

pub least_or : (P Q : ℕ → Type 0) (a b : Option ℕ) → IsLeastOf P a → IsLeastOf Q b → IsLeastOf (λ p. P p ⊎ Q p) (lesser a b)
least_or P Q None None f g = neither P Q f g
least_or P Q None (Some y) f g = (inr g.0, second_least P Q y f g.1)
least_or P Q (Some x) None f g = (inl f.0, first_least P Q x f.1 g)
least_or P Q (Some x) (Some y) f g = least_both P Q x y f g (cases_lt x y)

pub least_same : (P Q : ℕ → Type 0) (o : Option ℕ) → ((p : ℕ) → P p → Q p) → ((p : ℕ) → Q p → P p) → IsLeastOf P o → IsLeastOf Q o
least_same P Q None to from h = λ p q. h p (from p q)
least_same P Q (Some x) to from h = (to x h.0, λ p q. h.1 p (from p q))

-- ---- one point more

fails_more : (code : List Instr) (rows : List Branches) (visits : List (Option Visit)) (i : ℕ) (row : Branches) → slice_get rows i ≡ Some row → (p : ℕ) → FailsBefore code rows visits i p ⊎ FailsAt code row visits i p → FailsBefore code rows visits (i + 1) p
fails_more code rows visits i row at p (inl f) = record { source = f.source; before = omega (arith, f.before); row = f.row; at = f.at; fails = f.fails }
fails_more code rows visits i row at p (inr f) = record { source = i; before = omega arith; row = row; at = at; fails = f }

fails_split : (code : List Instr) (rows : List Branches) (visits : List (Option Visit)) (i : ℕ) (row : Branches) → slice_get rows i ≡ Some row → (p : ℕ) (f : FailsBefore code rows visits (i + 1) p) → (f.source ≡ i) ⊎ ((f.source < i) ⊎ (i < f.source)) → FailsBefore code rows visits i p ⊎ FailsAt code row visits i p
fails_split code rows visits i row at p f (inl e) =
    let twice : Some f.row ≡ Some row = sym f.at ∙ ap (λ n. slice_get rows n) e ∙ at in
    let same : f.row ≡ row = cc in
    inr (subst (λ n. FailsAt code row visits n p) e (subst (λ r. FailsAt code r visits f.source p) same f.fails))
fails_split code rows visits i row at p f (inr (inl l)) = inl record { source = f.source; before = l; row = f.row; at = f.at; fails = f.fails }
fails_split code rows visits i row at p f (inr (inr l)) = absurd (omega (arith, f.before))

pub least_more : (code : List Instr) (rows : List Branches) (visits : List (Option Visit)) (i : ℕ) (row : Branches) (a b : Option ℕ) → slice_get rows i ≡ Some row → IsLeastOf (FailsBefore code rows visits i) a → IsLeastOf (FailsAt code row visits i) b → IsLeastOf (FailsBefore code rows visits (i + 1)) (lesser a b)
least_more code rows visits i row a b at f g =
    least_same (λ p. FailsBefore code rows visits i p ⊎ FailsAt code row visits i p) (FailsBefore code rows visits (i + 1)) (lesser a b)
    (fails_more code rows visits i row at)
    (λ p h. fails_split code rows visits i row at p h (cases_order h.source i))
    (least_or (FailsBefore code rows visits i) (FailsAt code row visits i) a b f g)

-- ---- what is kept tells the sites

newest_of_empty : (visits : List (Option Visit)) (v : Visit) (sites : List ℕ) → v.newest ≡ None → Keep visits v sites → sites ≡ []
newest_of_empty visits v [] e k = refl
newest_of_empty visits v (s ∷ sites) e k = absurd (let f : ◌≡◌ {A = Option ℕ} None (Some s) = sym e ∙ k.0 in cc)

keep_same : (visits : List (Option Visit)) (v w : Visit) (sites others : List ℕ) → Keep visits v sites → Keep visits w others → v.newest ≡ w.newest → sites ≡ others
keep_same visits v w [] others k m e = sym (newest_of_empty visits w others (sym e ∙ k.0) m)
keep_same visits v w (s ∷ sites) [] k m e = newest_of_empty visits v (s ∷ sites) (e ∙ m.0) k
keep_same visits v w (s ∷ sites) (t ∷ others) k m e =
    let top : ◌≡◌ {A = Option ℕ} (Some s) (Some t) = sym k.0 ∙ e ∙ m.0 in
    let same : s ≡ t = cc in
    let inner : ◌≡◌ {A = Option (Option Visit)} (Some (Some k.2.0)) (Some (Some m.2.0)) = sym k.2.1 ∙ ap (λ n. slice_get visits n) same ∙ m.2.1 in
    let one : k.2.0 ≡ m.2.0 = cc in
    let rest = keep_same visits k.2.0 m.2.0 sites others k.2.2 m.2.2 (ap (λ (x : Visit). x.newest) one) in
    cc

keep_newest : (visits : List (Option Visit)) (v w : Visit) (sites : List ℕ) → Keep visits v sites → Keep visits w sites → v.newest ≡ w.newest
keep_newest visits v w [] k m = k.0 ∙ sym m.0
keep_newest visits v w (s ∷ sites) k m = k.0 ∙ sym m.0

-- what is kept for a point where first walks bring these sites
record Known (code : List Instr) (visits : List (Option Visit)) (p : ℕ) (sites : List ℕ) : Type 0 where
  visit : Visit
  at : slice_get visits p ≡ Some (Some visit)
  keep : Keep visits visit sites

known : (code : List Instr) (visits : List (Option Visit)) → AreVisits code visits → (p : ℕ) (sites : List ℕ) → AreFirstSites code p sites → Known code visits p sites
known code visits are p sites first =
    let r = are.reached p (record { walk = first.walk; is = first.first.is; ends = first.first.ends }) in
    let v = are.visited p r.0 r.1 in
    let same = one_list code p (sites_of code v.walk) sites (record { walk = v.walk; first = v.first; are = refl }) first in
    record { visit = r.0; at = r.1; keep = subst (λ s. Keep visits r.0 s) same v.kept }

-- ---- where sites fail, it shows

at_visit : (code : List Instr) (rows : List Branches) (visits : List (Option Visit)) → AreBranchRows code rows → AreVisits code visits → (source p : ℕ) (visit : Visit) → slice_get visits source ≡ Some (Some visit) → ((row : Branches) → branches_of row ≡ branches_at code source → FailsFrom code row visits source (Some (Some visit)) p) → FailsBefore code rows visits (length rows) p
at_visit code rows visits are_rows are source p visit at f =
    let inside = slice_get_within visits source (Some visit) at in
    let within : source < length rows = omega (arith, are.points, are_rows.points) in
    let row = get_inside rows source within in
    record {
      source = source;
      before = within;
      row = row.0;
      at = row.1;
      fails = subst (λ o. FailsFrom code row.0 visits source o p) (sym at) (f row.0 (are_rows.at source row.0 row.1));
    }

brings_ahead : (code : List Instr) (visits : List (Option Visit)) (row : Branches) (branch : edge.Branch) (p : ℕ) → In branch (branches_of row) → Brings code visits branch p → FailsAhead code visits row p
brings_ahead code visits Nowhere branch p i b = i
brings_ahead code visits (Single a) branch p (inl e) b = subst (λ w. Brings code visits w p) e b
brings_ahead code visits (Single a) branch p (inr h) b = absurd h
brings_ahead code visits (Either a c) branch p (inl e) b = inl (subst (λ w. Brings code visits w p) e b)
brings_ahead code visits (Either a c) branch p (inr (inl e)) b = inr (subst (λ w. Brings code visits w p) e b)
brings_ahead code visits (Either a c) branch p (inr (inr h)) b = absurd h

pub failing_shows : (code : List Instr) (rows : List Branches) (visits : List (Option Visit)) → AreBranchRows code rows → AreVisits code visits → (p : ℕ) → SitesFail code p → FailsBefore code rows visits (length rows) p
failing_shows code rows visits are_rows are p (TooMany h) =
    let k = known code visits are p h.sites h.first in
    at_visit code rows visits are_rows are p p k.visit k.at
    (λ row is. inl (refl, inl (omega (arith, keep_count visits k.visit h.sites k.keep, h.many))))
failing_shows code rows visits are_rows are p (NoSite h) =
    let k = known code visits are p [] h.first in
    at_visit code rows visits are_rows are p p k.visit k.at (λ row is. inl (refl, inr (k.keep.0, h.needs)))
failing_shows code rows visits are_rows are p (Others h) =
    let q = known code visits are h.branch.from h.before h.first_before in
    let k = known code visits are p h.sites h.first in
    let behind = keep_behind code visits h.branch q.visit h.before q.at q.keep in
    let here : visit_at visits h.branch.to ≡ k.visit = ap (λ n. visit_at visits n) h.to ∙ ap visit_or_none k.at in
    at_visit code rows visits are_rows are h.branch.from p q.visit q.at
    (λ row is. inr (brings_ahead code visits row h.branch p
    (subst (λ ws. In h.branch ws) (sym is) (in_contains h.branch (branches_at code h.branch.from) h.at))
    (h.to, λ same. h.other (keep_same visits (visit_behind code visits h.branch) k.visit (sites_behind code h.branch h.before) h.sites behind k.keep (same ∙ ap (λ (x : Visit). x.newest) here)))))

-- ---- what shows fails

ahead_brings : (code : List Instr) (visits : List (Option Visit)) (row : Branches) (p : ℕ) → FailsAhead code visits row p → (branch : edge.Branch) × In branch (branches_of row) × Brings code visits branch p
ahead_brings code visits Nowhere p h = absurd h
ahead_brings code visits (Single a) p h = (branch_of a, inl refl, h)
ahead_brings code visits (Either a c) p (inl h) = (branch_of a, inl refl, h)
ahead_brings code visits (Either a c) p (inr h) = (branch_of c, inr (inl refl), h)

brought_others : (code : List Instr) (rows : List Branches) (visits : List (Option Visit)) → AreVisits code visits → (source : ℕ) (visit : Visit) → slice_get visits source ≡ Some (Some visit) → (branch : edge.Branch) (p : ℕ) → In branch (branches_at code source) → Brings code visits branch p → SitesFail code p
brought_others code rows visits are source visit at branch p i b =
    let v = are.visited source visit at in
    let from = branch_from code source branch i in
    let here = contains_in branch (branches_at code source) i in
    let walks : IsWalk code (branch ∷ v.walk) = (subst (λ n. Contains (branches_at code n) branch) (sym v.first.ends) here, v.first.is) in
    let r = are.reached branch.to (record { walk = branch ∷ v.walk; is = walks; ends = refl }) in
    let w = are.visited branch.to r.0 r.1 in
    let behind = keep_behind code visits branch visit (sites_of code v.walk) (ap (λ n. slice_get visits n) from ∙ at) v.kept in
    let first_before : AreFirstSites code source (sites_of code v.walk) = record { walk = v.walk; first = v.first; are = refl } in
    let first : AreFirstSites code branch.to (sites_of code w.walk) = record { walk = w.walk; first = w.first; are = refl } in
    let kept_there : visit_at visits branch.to ≡ r.0 = ap visit_or_none r.1 in
    let fails : SitesFail code branch.to = Others record {
      branch = branch;
      at = subst (λ n. Contains (branches_at code n) branch) (sym from) here;
      to = refl;
      before = sites_of code v.walk;
      sites = sites_of code w.walk;
      first_before = subst (λ n. AreFirstSites code n (sites_of code v.walk)) (sym from) first_before;
      first = first;
      other = λ same. b.1 (keep_newest visits (visit_behind code visits branch) r.0 (sites_of code w.walk)
          (subst (λ s. Keep visits (visit_behind code visits branch) s) same behind) w.kept ∙ sym (ap (λ (x : Visit). x.newest) kept_there));
    } in
    subst (λ n. SitesFail code n) b.0 fails

lacking_fails : (code : List Instr) (visits : List (Option Visit)) (p : ℕ) (visit : Visit) → IsVisited code visits p visit → Lacks code visit p → SitesFail code p
lacking_fails code visits p visit v (inl many) =
    TooMany record {
      sites = sites_of code v.walk;
      first = record { walk = v.walk; first = v.first; are = refl };
      many = omega (arith, keep_count visits visit (sites_of code v.walk) v.kept);
    }
lacking_fails code visits p visit v (inr h) =
    NoSite record {
      first = record { walk = v.walk; first = v.first; are = newest_of_empty visits visit (sites_of code v.walk) h.0 v.kept };
      needs = h.1;
    }

from_visit : (code : List Instr) (rows : List Branches) (visits : List (Option Visit)) → AreVisits code visits → (row : Branches) (source p : ℕ) → branches_of row ≡ branches_at code source → (kept : Option (Option Visit)) → slice_get visits source ≡ kept → FailsFrom code row visits source kept p → SitesFail code p
from_visit code rows visits are row source p is None at h = absurd h
from_visit code rows visits are row source p is (Some None) at h = absurd h
from_visit code rows visits are row source p is (Some (Some visit)) at (inl h) =
    subst (λ n. SitesFail code n) h.0 (lacking_fails code visits source visit (are.visited source visit at) h.1)
from_visit code rows visits are row source p is (Some (Some visit)) at (inr h) =
    let b = ahead_brings code visits row p h in
    brought_others code rows visits are source visit at b.0 p (subst (λ ws. In b.0 ws) is b.1) b.2

pub shown_fails : (code : List Instr) (rows : List Branches) (visits : List (Option Visit)) → AreBranchRows code rows → AreVisits code visits → (p end : ℕ) → FailsBefore code rows visits end p → SitesFail code p
shown_fails code rows visits are_rows are p end f =
    from_visit code rows visits are f.row f.source p (are_rows.at f.source f.row f.at) (slice_get visits f.source) refl f.fails

at_least : (code : List Instr) (o : Option ℕ) → IsLeastOf (SitesFail code) o → MatchOption o (AreSitesSound code) (IsLeastFailing code)
at_least code None h = h
at_least code (Some x) h = record { fails = h.0; least = λ p l f. omega (arith, h.1 p f) }

pub least_fails : (code : List Instr) (rows : List Branches) (visits : List (Option Visit)) → AreBranchRows code rows → AreVisits code visits → (o : Option ℕ) → IsLeastOf (FailsBefore code rows visits (length rows)) o → MatchOption o (AreSitesSound code) (IsLeastFailing code)
least_fails code rows visits are_rows are o h =
    at_least code o (least_same (FailsBefore code rows visits (length rows)) (SitesFail code) o
    (λ p f. shown_fails code rows visits are_rows are p (length rows) f)
    (failing_shows code rows visits are_rows are) h)

-- a turn of the loop over the points
pub least_turn : (code : List Instr) (rows : List Branches) (visits : List (Option Visit)) (i : ℕ) (d : Branches) (e : Option Visit) (a b : Option ℕ) → i < length rows → i < length visits → IsLeastOf (FailsBefore code rows visits i) a → IsLeastOf (FailsFrom code (get_or rows i d) visits i (Some (get_or visits i e))) b → IsLeastOf (FailsBefore code rows visits (i + 1)) (lesser a b)
least_turn code rows visits i d e a b l m f g =
    let row = slice_get-get_or rows i d l in
    let here : slice_get visits i ≡ Some (get_or visits i e) = slice_get-get_or visits i e m in
    least_more code rows visits i (get_or rows i d) a b row f
    (subst (λ o. IsLeastOf (FailsFrom code (get_or rows i d) visits i o) b) (sym here) g)

by_order : (code : List Instr) (p q : ℕ) → IsLeastFailing code p → IsLeastFailing code q → (p ≡ q) ⊎ ((p < q) ⊎ (q < p)) → p ≡ q
by_order code p q a b (inl e) = e
by_order code p q a b (inr (inl l)) = absurd (b.least p l a.fails)
by_order code p q a b (inr (inr l)) = absurd (a.least q l b.fails)

pub one_least : (code : List Instr) (p q : ℕ) → IsLeastFailing code p → IsLeastFailing code q → p ≡ q
one_least code p q a b = by_order code p q a b (cases_order p q)
