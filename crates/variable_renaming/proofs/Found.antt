-- The clash that an item has.
use Rattle.std.proofs.Common.{◌≡◌, ℕ, suc, ◌-◌, ◌<◌, List, length, get_or, Some, sym, ap, subst, ◌∙◌, arith}
use Rattle.std.specs.Prelude.{slice_get}
use Rattle.std.proofs.lemmas.Option.{slice_get-get_or, same_Some}
use Rattle.bril_tree.specs.declared.numbered.Instr.{Instr}
use Rattle.bril_tree.specs.Live.{IsLive}
use Rattle.bril_tree.specs.Operand.{Variable, dest_of}
use Rattle.bril_tree.specs.Walk.{IsReached}
use Rattle.variable_renaming.specs.Apart.{source_of}
use Rattle.variable_renaming.specs.Clashes.{Clashes}

pub clash-here : (code : List Instr) (point item x dest : ℕ) (instr : Instr) → suc item ≡ point → IsReached code (point - 1) → point - 1 < length code → instr ≡ get_or code (point - 1) instr → dest_of instr ≡ Some dest → (dest ≡ x → ⊥) → (source_of instr ≡ Some x → ⊥) → IsLive code (Variable x) point → Clashes code item dest x
clash-here code point item x dest instr e reached low is d differ other live =
    let here : point - 1 ≡ item = omega (arith, e) in
    record {
      reached = subst (IsReached code) here reached;
      instr = instr;
      at = ap (slice_get code) (sym here) ∙ slice_get-get_or code (point - 1) instr low ∙ ap Some (sym is);
      dest = d;
      differ = differ;
      other = other;
      live = subst (IsLive code (Variable x)) (sym e) live;
    }

pub clash-alone : (code : List Instr) (point item x y dest : ℕ) (instr : Instr) → suc item ≡ point → point - 1 < length code → instr ≡ get_or code (point - 1) instr → dest_of instr ≡ Some dest → Clashes code item y x → y ≡ dest
clash-alone code point item x y dest instr e low is d c =
    let here : point - 1 ≡ item = omega (arith, e) in
    let same : instr ≡ c.instr = same_Some instr c.instr (ap Some is ∙ sym (slice_get-get_or code (point - 1) instr low) ∙ ap (slice_get code) here ∙ c.at) in
    let h : Some y ≡ Some dest = sym c.dest ∙ ap dest_of (sym same) ∙ d in cc
