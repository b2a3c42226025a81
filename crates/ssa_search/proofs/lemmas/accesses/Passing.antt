-- What the item at a point reads and assigns is within an array of two locations for each variable.
use Rattle.std.proofs.Common.{◌≡◌, ℕ, ◌*◌, ◌<◌, List, length, get_or, Option, Some, None, refl, sym, ap, subst, ◌∙◌, MatchOption, arith}
use Rattle.std.specs.Prelude.{is_some, slice_get}
use Rattle.std.specs.Option.{option_map}
use Rattle.std.specs.List.{All}
use Rattle.std.proofs.lemmas.List.Elements.{All-map, Contains-get_or}
use Rattle.std.proofs.lemmas.Option.{slice_get-get_or}
use Rattle.bril_tree.specs.Assigned.{assigns_of}
use Rattle.bril_tree.specs.declared.numbered.Instr.{Instr}
use Rattle.bril_tree.specs.declared.numbered_function.Func.{Func}
use Rattle.bril_tree.specs.Membership.{In}
use Rattle.bril_tree.specs.Operand.{Location, reads_of}
use Rattle.bril_tree.specs.Shape.{shape_fault_of}
use Rattle.bril_tree.proofs.Elements.{get_in}
use Rattle.bril_tree.proofs.Members.{in_contains}
use Rattle.flow_graph.specs.declared.reads.Access.{Access}
use Rattle.flow_graph.specs.Location.{number_at, number_of}
use Rattle.flow_graph.specs.Reads.{access_at, item_reads}
use Rattle.ssa_search.proofs.lemmas.accesses.Within.{assigns-below, function-below, reads-below, shaped-at}

module _ (F : Func) (shaped : shape_fault_of (is_some F.ret) F.code ≡ None) (k : ℕ) (item : Instr) (at : slice_get F.code k ≡ Some item) (many : ℕ) (long : many ≡ 2 * length F.vars) where
  pub read-low : (a : Location) → In a (reads_of item) → number_of a < many
  read-low a i = subst (λ n. number_of a < n) (sym long) (reads-below (is_some F.ret) (length F.vars) item (shaped-at F shaped k item at) (function-below F k item at) a i)

  pub write-low : (a : Location) → In a (assigns_of item) → number_of a < many
  write-low a i = subst (λ n. number_of a < n) (sym long) (assigns-below (is_some F.ret) (length F.vars) item (shaped-at F shaped k item at) (function-below F k item at) a i)

  pub reads-low : (point : ℕ) (reads : List Access) → reads ≡ item_reads point item → All (λ (read : Access). read.location < many) reads
  reads-low point reads e =
      subst (All (λ (read : Access). read.location < many)) (sym e)
      (All-map (λ (read : Access). read.location < many) (access_at point) (reads_of item) (λ i d low. read-low (get_or (reads_of item) i d) (in_contains (get_or (reads_of item) i d) (reads_of item) (Contains-get_or (reads_of item) i d low))))

  pub number-low : (x : Option ℕ) → x ≡ number_at (Some item) → MatchOption x (Unit {0}) (λ y. y < many)
  number-low x e = subst (λ o. MatchOption o (Unit {0}) (λ y. y < many)) (sym e) (by (slice_get (assigns_of item) 0) refl)
    where
      by : (o : Option Location) → slice_get (assigns_of item) 0 ≡ o → MatchOption (option_map number_of o) (Unit {0}) (λ y. y < many)
      by None h = tt
      by (Some a) h = write-low a (get_in (assigns_of item) 0 a h)

-- the item at a point
pub item-at : (items code : List Instr) → items ≡ code → (k : ℕ) (item : Instr) → k < length code → item ≡ get_or items k item → slice_get code k ≡ Some item
item-at items code same k item low is =
    let inside : k < length items = let l = ap length same in omega (arith, l, low) in
    subst (λ list. slice_get list k ≡ Some item) same (slice_get-get_or items k item inside ∙ ap Some (sym is))
