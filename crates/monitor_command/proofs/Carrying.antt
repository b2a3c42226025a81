-- The orders of a script, one after another.
use Rattle.std.proofs.Common.{◌≡◌, ℕ, zero, suc, ◌+◌, ◌<◌, ◌≤◌, length, get_or, drop, drop-cons, List, [], ◌∷◌, ◌++◌, Option, Some, refl, ◌∙◌, inl, arith, append-nil, append_assoc, ap, sym, subst}
use Rattle.bril_commands.specs.Outcome.{ShowsPartly, ShowsPut, Works}
use Rattle.bril_commands.specs.commands.Monitor.{Session, ShowsScript, first_session, monitored}
use Rattle.bril_commands.proofs.Works.{Works-as}
use Rattle.bril_outside.proofs.SinkWrites.{PutSome-after, PutSome-longer}
use Rattle.bril_outside.specs.Sink.{PutSome, SinkSeen}
use Rattle.bril_report.proofs.Puts.{PutsAll-append, PutsAll-none}
use Rattle.bril_report.specs.Puts.{PutsAll}
use Rattle.bril_report.specs.declared.status.Status.{Status}
use Rattle.bril_tree.specs.declared.limits.End.TheVariants.{Ended}
use Rattle.bril_tree.specs.declared.limits.End.{End}
use Rattle.bril_tree.specs.declared.program.Prog.{Prog}
use Rattle.bril_tree.specs.declared.value.Value.{Value}
use Rattle.monitor_command.proofs.Total.{carries_out_total}
use Rattle.monitor_command.specs.Carried.{BreaksOff, CameTo, Follows, GoesOn, IsOver, IsShown, carries, run_of, scripted}
use Rattle.monitor_command.specs.declared.progress.Progress.{Progress}
use Rattle.monitor_command.specs.declared.target.Target.{Target}
use Rattle.monitor_script.specs.declared.order.Order.TheVariants as order
use Rattle.monitor_script.specs.declared.order.Order.{Order}
use Rattle.rv64_image_laws.specs.ListsPoints.{ListsPoints}

-- the next of the orders
pub order_here : (orders : List Order) (k : ℕ) (next : Order) → k < length orders → next ≡ get_or orders k next → drop k orders ≡ next ∷ drop (k + 1) orders
order_here orders k next within is =
    let one : suc k ≡ k + 1 = omega arith in
    drop-cons orders k next within ∙ (ap (λ x. x ∷ drop (suc k) orders) (sym is) ∙ ap (λ n. next ∷ drop n orders) one)

-- none is left
pub none_left : (orders : List Order) (k : ℕ) → length orders ≤ k → drop k orders ≡ []
none_left [] zero past = refl
none_left [] (suc k) past = refl
none_left (o ∷ orders) zero past = absurd (omega arith)
none_left (o ∷ orders) (suc k) past = none_left orders k (omega arith)

module _ (on : Target) (is : IsShown on) where
  -- `show` goes on with what it puts
  pub show_goes_on : (s : Session) (progress : Progress) (before after : SinkSeen) → Follows on s progress → PutsAll before s.lines after → GoesOn on is order.Show s progress before after
  show_goes_on s progress before after follows puts = record { session = s; follows = follows; pieces = s.lines; puts = puts; comes = λ rest ended more goes. (more, refl, goes) }

  -- or a put of it fails
  pub show_breaks_off : (s : Session) (before after : SinkSeen) → PutSome before s.lines after → (rest : List Order) → BreaksOff on is order.Show s rest before after
  show_breaks_off s before after put rest =
      let more = carries_out_total on.image.now on.points.now on.program.now on.settings.limits on.values.now (run_of on is) is.shows.points_in is.shows.implements is.fits on.settings.steps rest s in
      record { ended = more.0; output = s.lines ++ more.1; comes = (more.1, refl, more.2); put = PutSome-longer more.1 put }

  module _ (orders : List Order) where
    -- none is carried out yet
    pub came_first : (progress : Progress) (t : SinkSeen) → Follows on first_session progress → CameTo on is orders orders progress t t
    came_first progress t follows = record { session = first_session; follows = follows; pieces = []; puts = PutsAll-none t; comes = λ ended more goes. goes }

    module _ (next : Order) (rest : List Order) (progress : Progress) (before mid after : SinkSeen) (came : CameTo on is orders (next ∷ rest) progress before mid) where
      -- one more is
      pub came_more : (new : Progress) → GoesOn on is next came.session new mid after → CameTo on is orders rest new before after
      came_more new goes = record {
        session = goes.session;
        follows = goes.follows;
        pieces = came.pieces ++ goes.pieces;
        puts = PutsAll-append came.puts goes.puts;
        comes = λ ended more comes.
            subst (λ output. carries on is orders first_session ended output) (sym (append_assoc came.pieces goes.pieces more))
            (came.comes ended (goes.pieces ++ more) (goes.comes rest ended more comes));
      }

      -- the script is over with it
      pub came_over : (ended : Option End) → IsOver on is next came.session ended mid after → ShowsPut (scripted on is orders) ended [] before after
      came_over ended over = record {
        output = came.pieces ++ over.pieces;
        shows = (refl, came.comes ended over.pieces (over.comes rest));
        puts = PutsAll-append came.puts over.puts;
      }

      -- a put of it failed
      pub came_off : BreaksOff on is next came.session rest mid after → ShowsPartly (scripted on is orders) before after
      came_off off = record {
        ended = off.ended;
        told = [];
        output = came.pieces ++ off.output;
        shows = (refl, came.comes off.ended off.output off.comes);
        took = inl (PutSome-after came.puts.put off.put);
      }

    -- all are
    pub came_last : (progress : Progress) (before after : SinkSeen) → CameTo on is orders [] progress before after → ShowsPut (scripted on is orders) (Some Ended) [] before after
    came_last progress before after came = record {
      output = came.pieces;
      shows = (refl, subst (λ output. carries on is orders first_session (Some Ended) output) (append-nil came.pieces) (came.comes (Some Ended) [] (refl, refl)));
      puts = came.puts;
    }

  -- what the script comes to, in the words of the command
  pub script_works : (orders : List Order) (IsScript : List Order → Type 0) → IsScript orders → ListsPoints on.program.now on.points.now → (how : Status) (told : List (List ℕ)) (s t : SinkSeen) → Works (scripted on is orders) how told s t
      → Works (monitored on.program.now on.values.now IsScript on.settings.limits.frames on.settings.limits.cells on.settings.steps) how told s t
  script_works orders IsScript script lists how told s t works =
      Works-as (scripted on is orders) (monitored on.program.now on.values.now IsScript on.settings.limits.frames on.settings.limits.cells on.settings.steps) refl refl shows (λ trap said output none. none) (λ output none. none) told s t how works
    where
      shows : (ended : Option End) (said output : List (List ℕ)) → (said ≡ []) × carries on is orders first_session ended output → (said ≡ []) × ShowsScript on.program.now on.values.now IsScript on.settings.limits.frames on.settings.limits.cells on.settings.steps ended output
      shows ended said output shown = (
        shown.0,
        record {
          limits = on.settings.limits;
          are = (refl, refl);
          image = on.image.now;
          points = on.points.now;
          shows = is.shows;
          lists = lists;
          fits = is.fits;
          orders = orders;
          script = script;
          carried = shown.1;
        },
      )

-- so where the orders are all
pub script_does : (how : Status) (s t : SinkSeen) (orders : List Order) (on : Target) → ((is : IsShown on) → Works (scripted on is orders) how [] s t) → IsShown on → ListsPoints on.program.now on.points.now
    → Works (monitored on.program.now on.values.now (λ script. script ≡ orders) on.settings.limits.frames on.settings.limits.cells on.settings.steps) how [] s t
script_does how s t orders on works is lists = script_works on is orders (λ script. script ≡ orders) refl lists how [] s t (works is)

-- and where these are the orders
pub works_script : (p : Prog) (values : List Value) (orders : List Order) (IsScript : List Order → Type 0) (frames cells steps : ℕ) → IsScript orders → (how : Status) (told : List (List ℕ)) (s t : SinkSeen)
    → Works (monitored p values (λ script. script ≡ orders) frames cells steps) how told s t → Works (monitored p values IsScript frames cells steps) how told s t
works_script p values orders IsScript frames cells steps script how told s t works =
    Works-as (monitored p values (λ os. os ≡ orders) frames cells steps) (monitored p values IsScript frames cells steps) refl refl shows (λ trap said output none. none) (λ output none. none) told s t how works
  where
    shows : (ended : Option End) (said output : List (List ℕ)) → (said ≡ []) × ShowsScript p values (λ os. os ≡ orders) frames cells steps ended output → (said ≡ []) × ShowsScript p values IsScript frames cells steps ended output
    shows ended said output shown = (
      shown.0,
      record {
        limits = shown.1.limits;
        are = shown.1.are;
        image = shown.1.image;
        points = shown.1.points;
        shows = shown.1.shows;
        lists = shown.1.lists;
        fits = shown.1.fits;
        orders = shown.1.orders;
        script = subst IsScript (sym shown.1.script) script;
        carried = shown.1.carried;
      },
    )
