-- The points of a function's items, one by one.
use Rattle.std.proofs.Common.{◌≡◌, ℕ, ◌+◌, ◌<◌, ◌≤◌, true, List, [], ◌∷◌, ◌++◌, length, get_or, Some, refl, sym, ap, subst, ◌∙◌, arith}
use Rattle.std.specs.Prelude.{IsTrue, slice_get}
use Rattle.std.proofs.lemmas.List.{get_or_default}
use Rattle.std.specs.List.{AllZip}
use Rattle.std.proofs.lemmas.Option.{same_Some, slice_get-get_or}
use Rattle.bril_tree.specs.declared.numbered.Instr.{Instr}
use Rattle.bril_tree.specs.declared.numbered_function.Func.{Func}
use Rattle.bril_tree.specs.declared.program.Prog.{Prog}
use Rattle.bril_tree.specs.Accepted.{IsAccepted}
use Rattle.bril_tree.specs.Step.{code_of, items_of}
use Rattle.bril_tree.specs.Walk.{IsReached}
use Rattle.bril_tree.proofs.Acceptance.{accepted_function}
use Rattle.bril_tree.proofs.Elements.{get_inside, zip-get, zip-long}
use Rattle.live_sets.specs.declared.live.Live.{Live}
use Rattle.live_sets.specs.Liveness.{TellsLive}
use Rattle.rv64_emit_laws.specs.Homes.{homes_of}
use Rattle.rv64_emit_laws.specs.layout.Homes.{FunctionHomes, variable_home}
use Rattle.rv64_words.specs.declared.points.HomeAt.{HomeAt}
use Rattle.rv64_words.specs.declared.points.PointAt.{PointAt}
use Rattle.rv64_words.specs.Points.{IsStopAt, is_stop}
use Rattle.rv64_image_laws.specs.ProgramPoints.{AreHomesOf}
use Rattle.shadow_place.specs.Placement.{TellsLiveIn}
use Rattle.rv64_emit.specs.LiveVariables.{AreLiveRows, AreLiveVariables}
use Rattle.rv64_emit.specs.PointLists.{AreHomesFor, ArePointsBefore, AreTyped}
use Rattle.rv64_emit.proofs.PointHomes.{are_typed, homes_are}
use Rattle.rv64_emit.proofs.PointLists.{next_function, no_point, one_point}

-- ---- what a program has for a number

pub function_there : (p : Prog) (funcs : List Func) → funcs ≡ p.funcs → (number : ℕ) (func : Func) → number < length p.funcs → func ≡ get_or funcs number func → slice_get p.funcs number ≡ Some func
function_there p funcs all number func low is = slice_get-get_or p.funcs number func low ∙ ap Some (sym (subst (λ fs. func ≡ get_or fs number func) all is))

pub told_there : (p : Prog) (lives : List Live) → AllZip TellsLiveIn p.funcs lives → (number : ℕ) (live : Live) → number < length p.funcs → live ≡ get_or lives number live → TellsLive (code_of p number) live
told_there p lives told number live low is =
    let func = get_inside p.funcs number low in
    let inside : number < length lives = omega (arith, low, zip-long TellsLiveIn p.funcs lives told) in
    let at : slice_get lives number ≡ Some live = slice_get-get_or lives number live inside ∙ ap Some (sym is) in
    subst (λ code. TellsLive code live) (sym (ap items_of func.1)) (zip-get TellsLiveIn p.funcs lives number func.0 live told func.1 at)

-- ---- one function

module _ (p : Prog) (accepted : IsAccepted p) (number : ℕ) (func : Func) (there : slice_get p.funcs number ≡ Some func) (live : Live) (tells : TellsLive (code_of p number) live) where
  code_same : code_of p number ≡ func.code
  code_same = ap items_of there

  -- the variables that are live at an item
  module _ (rows : List (List ℕ)) (are : AreLiveRows live (length func.vars) rows) (item : ℕ) (inside : item < length rows) (variables default : List ℕ) (is : variables ≡ get_or rows item default) where
    live_here : AreLiveVariables live (length func.vars) item variables
    live_here = subst (AreLiveVariables live (length func.vars) item) (sym (is ∙ get_or_default rows item default [] inside)) (are item inside)

    pub typed_here : AreTyped func.vars variables
    typed_here = are_typed p func (accepted_function p number func accepted there) live (subst (λ code. TellsLive code live) code_same tells) item variables live_here

    pub homes_here : (homes : ℕ → FunctionHomes) (own : FunctionHomes) (hs : List HomeAt) → own ≡ homes number → AreHomesFor (variable_home own) func.vars variables (length variables) hs → AreHomesOf (homes_of homes number) func item hs
    homes_here homes own hs own_is for =
        homes_are p func (accepted_function p number func accepted there) live (subst (λ code. TellsLive code live) code_same tells) item variables live_here (homes_of homes number) hs
        (subst (λ o. AreHomesFor (variable_home o) func.vars variables (length variables) hs) own_is for)

  module _ (homes : ℕ → FunctionHomes) (entry : ℕ → ℕ → ℕ) (item : ℕ) (instruction : Instr) (here : slice_get func.code item ≡ Some instruction) (points : List PointAt) (so_far : ArePointsBefore (homes_of homes) entry p number item points) where
    -- an item without a point
    pub unpointed : (IsTrue (is_stop instruction) × IsReached func.code item → ⊥) → ArePointsBefore (homes_of homes) entry p number (item + 1) points
    unpointed none = no_point (homes_of homes) entry p number item points (λ stop reached. none (stops stop, subst (λ code. IsReached code item) code_same reached)) so_far
      where
        stops : IsStopAt p number item → IsTrue (is_stop instruction)
        stops stop =
            let found : slice_get func.code item ≡ Some stop.item = ap (λ code. slice_get code item) (sym code_same) ∙ stop.is_item in
            let same : stop.item ≡ instruction = same_Some stop.item instruction (sym found ∙ here) in
            subst (λ i. is_stop i ≡ true) same stop.stops

    -- an item with a point
    pub pointed : IsTrue (is_stop instruction) → IsReached func.code item → (word : ℕ) → word ≡ entry number item → (hs : List HomeAt) → AreHomesOf (homes_of homes number) func item hs → (more : List PointAt) →
        more ≡ points ++ record { word = word; func = number; item = item; homes = hs } ∷ [] → ArePointsBefore (homes_of homes) entry p number (item + 1) more
    pointed stops reached word is_entry hs are more pushed = one_point (homes_of homes) entry p number item points more (record { word = word; func = number; item = item; homes = hs }) pushed refl refl (record {
      stop = record { item = instruction; is_item = ap (λ code. slice_get code item) code_same ∙ here; stops = stops };
      reached = subst (λ code. IsReached code item) (sym code_same) reached;
      word = is_entry;
      homes = λ f e. (let same : func ≡ f = same_Some func f (sym there ∙ e) in subst (λ g. AreHomesOf (homes_of homes number) g item hs) same are);
    }) so_far

  -- after the last item
  pub past_items : (homes : ℕ → FunctionHomes) (entry : ℕ → ℕ → ℕ) (item : ℕ) (points : List PointAt) → length func.code ≤ item → ArePointsBefore (homes_of homes) entry p number item points → ArePointsBefore (homes_of homes) entry p (number + 1) 0 points
  past_items homes entry item points end so_far = next_function (homes_of homes) entry p number item points (let long = ap length code_same in omega arith) so_far
