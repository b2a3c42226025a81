-- What is said of the image and the points that are laid out from a front.
use Rattle.std.proofs.Common.{◌≡◌, ℕ, ◌*◌, ◌<◌, Bool, true, List, length, Some, sym, ap, ◌∙◌, subst}
use Rattle.std.specs.Prelude.{slice_get}
use Rattle.bril_tree.specs.declared.home.Home.{Home}
use Rattle.bril_tree.specs.declared.home.Home.TheVariants.{Reg, Frame}
use Rattle.bril_tree.specs.declared.limits.Limits.{Limits}
use Rattle.bril_tree.specs.declared.numbered_function.Func.{Func}
use Rattle.bril_tree.specs.declared.program.Prog.{Prog}
use Rattle.bril_tree.specs.Accepted.{IsAccepted}
use Rattle.bril_tree.specs.Literals.{AreLiteralsInRange}
use Rattle.bril_tree.specs.Operand.{Variable}
use Rattle.bril_tree.specs.Size.{IsCounted}
use Rattle.rv64_image_laws.specs.Home.{IsHomeWithin}
use Rattle.rv64_image_laws.specs.PointsShown.{IsHomeNamed, Shows}
use Rattle.rv64_image_laws.specs.ProgramPoints.{AreHomesOf, ArePointsOf}
use Rattle.rv64_emit_laws.specs.Homes.{AllHomesServe, homes_of}
use Rattle.rv64_emit_laws.specs.layout.Homes.{FunctionHomes}
use Rattle.rv64_emit_laws.specs.layout.Image.{IsImageOf, entry_at, largest_frame}
use Rattle.rv64_emit_laws.proofs.Homes.{homes_within}
use Rattle.rv64_emit_laws.proofs.Showing.{image_shows}
use Rattle.rv64_emit_laws.proofs.Sources.{lowered_at}
use Rattle.rv64_words.specs.declared.image.Image.{Image}
use Rattle.rv64_words.specs.declared.points.HomeAt.{HomeAt}
use Rattle.rv64_words.specs.declared.points.PointAt.{PointAt}
use Rattle.rv64_words.specs.declared.points.Points.{Points}
use Rattle.rv64_emit.specs.declared.front.Front.{Front}
use Rattle.rv64_emit.specs.Front.{IsFrontOf}
use Rattle.rv64_image_laws.specs.ListsPoints.{ListsPoints}
use Rattle.rv64_emit.specs.Placed.{placed_homes}
use Rattle.rv64_emit.specs.Tables.{SlotsFit}
use Rattle.rv64_emit.proofs.Emitting.{IsEmitted, emitted, slots_fit, stack_is}
use Rattle.rv64_emit.proofs.PointHomes.{typed_inside}
use Rattle.rv64_emit.proofs.PointLists.{function_of}
use Rattle.rv64_emit.proofs.Serving.{IsPlacedBy, all_serve}

named_within : (words : ℕ) (home : Home) → IsHomeWithin words home → IsHomeNamed home
named_within words (Reg r) h = h
named_within words (Frame o) h = tt

module _ (p : Prog) (limits : Limits) (accepted : IsAccepted p) (literals : AreLiteralsInRange p) (front : Front) (is : IsFrontOf p limits front) (marked : Bool) (homes : ℕ → FunctionHomes) (same : homes ≡ placed_homes marked front.slots front.placed front.lives) where
  by : IsPlacedBy p front.slots front.lives front.placed
  by = record { are = is.placed; tells = is.tells }

  serve : AllHomesServe homes p front.slots
  serve = subst (λ h. AllHomesServe h p front.slots) (sym same) (all_serve marked p front.slots front.lives front.placed by is.lowered)

  pub front_fits : IsCounted p → SlotsFit homes front.slots
  front_fits counted = subst (λ h. SlotsFit h front.slots) (sym same) (slots_fit marked p front.slots limits accepted literals is.lowered is.within front.lives front.placed by counted)

  pub front_stack : front.stack ≡ limits.frames * largest_frame front.slots
  front_stack = stack_is marked p front.slots limits accepted literals is.lowered is.within front.lives front.placed by front.stack is.stack

  pub front_emitted : (image : Image) → IsImageOf homes front.slots limits image → IsEmitted p limits image
  front_emitted image laid =
      emitted marked p front.slots limits accepted literals is.lowered is.within front.lives front.placed by front.stack is.stack image
      (subst (λ h. IsImageOf h front.slots limits image) same laid)

  module _ (points : Points) (its : ArePointsOf (homes_of homes) (entry_at homes front.slots) p points) where
    pub front_shown : marked ≡ true → (image : Image) → IsImageOf homes front.slots limits image → Shows image points p limits
    front_shown told image laid = image_shows p homes front.slots limits image points accepted literals is.lowered is.within serve (λ f. ap (λ h. (h f).marked) same ∙ told) laid its

    pub front_listed : ListsPoints p points
    front_listed = record { homes = homes_of homes; entry = entry_at homes front.slots; are = its; named = named }
      where
        in_function : (number : ℕ) (f : Func) (point : ℕ) (hs : List HomeAt) → slice_get p.funcs number ≡ Some f → AreHomesOf (homes_of homes number) f point hs → (j : ℕ) (h : HomeAt) → slice_get hs j ≡ Some h → IsHomeNamed h.home
        in_function number f point hs there are j h e =
            let g = lowered_at p front.slots is.lowered number f there in
            let inside : h.var < length f.vars = typed_inside f.vars h.var h.ty (are.typed j h e) in
            let home = homes_within p front.slots homes is.lowered serve number f g.function.words (Variable h.var) there g.is.words inside in
            subst IsHomeNamed (sym (are.there j h e)) (named_within g.function.words (homes_of homes number (Variable h.var)) home)

        named : (k j : ℕ) (at : PointAt) (h : HomeAt) → slice_get points.points k ≡ Some at → slice_get at.homes j ≡ Some h → IsHomeNamed h.home
        named k j at h there e =
            let point = its.are k at there in
            let f = function_of p at.func at.item point.stop.item point.stop.is_item in
            in_function at.func f.0 at.item at.homes f.1 (point.homes f.0 f.1) j h e
