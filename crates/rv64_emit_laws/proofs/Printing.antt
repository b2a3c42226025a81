-- The item that prints.
use Rattle.std.proofs.Common.{◌≡◌, ℕ, suc, ◌+◌, ◌-◌, ◌*◌, ◌%◌, ◌^◌, ◌<◌, ◌≤◌, Bool, true, false, refl, sym, ap, ◌∙◌, subst, arith, List, [], ◌∷◌, ◌++◌, append_assoc, append-nil, length, map, Some, inl}
use Rattle.std.specs.Prelude.{encode_utf8, slice_get}
use lib.Utf8.{scalar}
use Rattle.std.specs.Fmt.{signed_decimal}
use Rattle.std.specs.Int.{w64, cast_signed, from_bool}
use Rattle.std.specs.List.{AllByRecursion}
use Rattle.std.proofs.lemmas.Int.{to_z-of_z}
use Rattle.bril_tree.specs.declared.types.Base.{Base}
use Rattle.bril_tree.specs.declared.types.Base.TheVariants as base
use Rattle.bril_tree.specs.declared.value.Value.{Value}
use Rattle.bril_tree.specs.declared.value.Value.TheVariants.{Int, Bool as Boolean, Char}
use Rattle.bril_tree.specs.State as bril
use Rattle.bril_tree.specs.Edge.{onward}
use Rattle.bril_tree.specs.Live.{IsLive}
use Rattle.bril_tree.specs.Operand as location
use Rattle.bril_tree.specs.Step.{code_of, advanced, line_of, prints}
use Rattle.bril_tree.specs.Value.{bool_text, shown}
use Rattle.rv64_emit_laws.specs.layout.Homes.{FunctionHomes, variable_home}
use Rattle.rv64_emit_laws.specs.layout.Items.{environment_words, print_call, print_size, print_words, spaced_size, spaced_words, value_words}
use Rattle.rv64_emit_laws.proofs.lemmas.layout.Bounding.{print_most}
use Rattle.rv64_words_laws.specs.stretches.Core.{Core, Keeps, said, written}
use Rattle.rv64_words_laws.proofs.lemmas.stretches.Calls.{print_bool, print_char, print_int, print_line_end, print_space}
use Rattle.rv64_words_laws.proofs.lemmas.stretches.Going.{Going, begin, is_place, plain}
use Rattle.rv64_words_laws.specs.sequences.Moves.{fetch_size, fetch_words}
use Rattle.rv64_words_laws.proofs.lemmas.values.Kept.{keeps_itself, keeps_written}
use Rattle.rv64_words.specs.declared.word.Word.{Word}
use Rattle.rv64_words.specs.declared.word.Word.TheVariants.{Ecall}
use Rattle.rv64_words.specs.Environment.{truth_text}
use Rattle.rv64_words.specs.State.{State}
use Rattle.slot_code.specs.declared.item.Printed.{Printed}
use Rattle.slot_code.specs.declared.item.Slot.TheVariants.{Variable}
use Rattle.slot_code.specs.declared.item.SlotItem.TheVariants.{Print}
use Rattle.slot_code.specs.Laws.{IsSlotOf}
use Rattle.rv64_emit_laws.proofs.Acting.{each_printed, leads}
use Rattle.rv64_emit_laws.proofs.Standing.{standing}
use Rattle.slot_code.specs.Meaning.{read_printed}
use Rattle.rv64_emit_laws.proofs.Arriving.{Moves, arrive, guards_by, here, memory_by, onto_next, step_at}
use Rattle.rv64_emit_laws.proofs.Asking.{Asked, asks}
use Rattle.rv64_emit_laws.proofs.Holding.{SameHomes, keeps_homes, moved_holds}
use Rattle.rv64_emit_laws.proofs.Operands.{read_is, reads}
use Rattle.rv64_emit_laws.proofs.Ready.{HoldsKind}
use Rattle.rv64_emit_laws.proofs.Relation.{RunsAlike}
use Rattle.rv64_emit_laws.proofs.Setting.{Setting, entry_of, its_words, next_entry, sizes}
use Rattle.rv64_emit_laws.proofs.Stretches.{landed, with_end}

-- ---- what is printed

-- each value after a space
spaced_text : List Value → List ℕ
spaced_text [] = []
spaced_text (v ∷ vs) = 32 ∷ (shown v ++ spaced_text vs)

line_is : (v : Value) (vs : List Value) → line_of (v ∷ vs) ≡ shown v ++ (spaced_text vs ++ 10 ∷ [])
unfolding spaced_text
line_is v [] = refl
line_is v (w ∷ vs) = ap (λ l. shown v ++ 32 ∷ l) (line_is w vs ∙ sym (append_assoc (shown w) (spaced_text vs) (10 ∷ [])))

truth_is : (b : Bool) → truth_text (from_bool b) ≡ bool_text b
truth_is true = refl
truth_is false = refl

-- the machine printed a text, and nothing else of what other code relies on changed
record Says (c e : Core) (text : List ℕ) : Type 0 where
  same : SameHomes c e
  table : e.table ≡ c.table
  cells : e.cells ≡ c.cells
  blocks : e.blocks ≡ c.blocks
  next_free : e.next_free ≡ c.next_free
  arrivals : e.arrivals ≡ c.arrivals
  printed : e.printed ≡ c.printed ++ text

says_nothing : (c : Core) → Says c c []
says_nothing c = record { same = keeps_homes c c (keeps_itself c); table = refl; cells = refl; blocks = refl; next_free = refl; arrivals = refl; printed = sym (append-nil c.printed) }

-- more is said, behind a stretch that says nothing
says_more : (c e f : Core) (text more : List ℕ) → Says c e text → Keeps e f → Says c (said f more) (text ++ more)
says_more c e f text more h k = record {
  same = record {
    zero_register = k.zero_register ∙ h.same.zero_register;
    link_register = k.link_register ∙ h.same.link_register;
    frame_register = k.frame_register ∙ h.same.frame_register;
    frames_left = k.frames_left ∙ h.same.frames_left;
    homes = λ x is. k.homes x is ∙ h.same.homes x is;
    stack = k.stack ∙ h.same.stack;
  };
  table = k.table ∙ h.table;
  cells = k.cells ∙ h.cells;
  blocks = k.blocks ∙ h.blocks;
  next_free = k.next_free ∙ h.next_free;
  arrivals = k.arrivals ∙ h.arrivals;
  printed = ap (λ l. l ++ more) (k.printed ∙ h.printed) ∙ append_assoc c.printed text more;
}

module _ (S : Setting) (s : bril.State) (t : State) (r : RunsAlike S s t) where
  abbrev homes : FunctionHomes
  homes = S.homes r.frame.function

  -- so far the machine said a text, by so many words
  record Said (n j : ℕ) (text : List ℕ) (ws : List Word) : Type 0 where
    core : Core
    says : Says r.core core text
    going : Going S.image (sizes S) (here S s t r) r.core n j core ws

  -- an environment call that prints a constant text
  space_said : {n j : ℕ} {text : List ℕ} {ws : List Word} → Said n j text (environment_words 4 ++ ws) → Said (n + 2) (j + 2) (text ++ 32 ∷ []) ws
  space_said {n} {j} {text} {ws} q =
      let null : q.core.registers 0 ≡ 0 = q.says.same.zero_register ∙ r.holds.zero_is in
      let four : (q.core.registers 0 + 4) % 2 ^ 64 ≡ 4 = ap (λ x. (x + 4) % 2 ^ 64) null in
      let called = written q.core 17 ((q.core.registers 0 + 4) % 2 ^ 64) in
      record {
        core = said called (32 ∷ []);
        says = says_more r.core q.core called text (32 ∷ []) q.says (keeps_written q.core q.core 16 ((q.core.registers 0 + 4) % 2 ^ 64) refl refl refl refl refl (keeps_itself q.core));
        going = is_place S.image (sizes S) (n + 2) (j + 2) (omega arith) (omega arith) (print_space S.image (sizes S) four (plain S.image (sizes S) tt q.going));
      }

  line_end_said : {n j : ℕ} {text : List ℕ} {ws : List Word} → Said n j text (environment_words 5 ++ ws) → Said (n + 2) (j + 2) (text ++ 10 ∷ []) ws
  line_end_said {n} {j} {text} {ws} q =
      let null : q.core.registers 0 ≡ 0 = q.says.same.zero_register ∙ r.holds.zero_is in
      let five : (q.core.registers 0 + 5) % 2 ^ 64 ≡ 5 = ap (λ x. (x + 5) % 2 ^ 64) null in
      let called = written q.core 17 ((q.core.registers 0 + 5) % 2 ^ 64) in
      record {
        core = said called (10 ∷ []);
        says = says_more r.core q.core called text (10 ∷ []) q.says (keeps_written q.core q.core 16 ((q.core.registers 0 + 5) % 2 ^ 64) refl refl refl refl refl (keeps_itself q.core));
        going = is_place S.image (sizes S) (n + 2) (j + 2) (omega arith) (omega arith) (print_line_end S.image (sizes S) five (plain S.image (sizes S) tt q.going));
      }

  -- a value
  value_said : {n j : ℕ} {text : List ℕ} {ws : List Word} → (a : Printed) → HoldsKind r.frame.locations a.kind a.variable → IsSlotOf r.holds.function (Variable a.variable) → IsLive (code_of S.p r.frame.function) (location.Variable a.variable) r.frame.point →
      Said n j text (value_words homes a ++ ws) → Said (n + (fetch_size (variable_home homes a.variable) + 2)) (j + (fetch_size (variable_home homes a.variable) + 2)) (text ++ shown (read_printed r.frame.locations a)) ws
  value_said {n} {j} {text} {ws} a held in_g live q =
      by_kind a.kind held (subst (λ xs. Going S.image (sizes S) (here S s t r) r.core n j q.core xs) (append_assoc (fetch_words 10 (variable_home homes a.variable)) (environment_words (print_call a.kind)) ws) q.going)
    where
      asked : (number : ℕ) (v : Value) → number < 2 ^ 64 → r.frame.locations.vars a.variable ≡ Some v → Going S.image (sizes S) (here S s t r) r.core n j q.core (fetch_words 10 (variable_home homes a.variable) ++ (environment_words number ++ ws)) →
          Asked S s t r number a.variable v n j q.core (Ecall ∷ ws)
      asked number v small is g = asks S s t r number a.variable v small (record { used = in_g; live = live; is = is }) q.says.same g

      saying : (number : ℕ) (v : Value) (more : List ℕ) (d : Asked S s t r number a.variable v n j q.core (Ecall ∷ ws)) → more ≡ shown v → r.frame.locations.vars a.variable ≡ Some v →
          Going S.image (sizes S) (here S s t r) r.core (n + fetch_size (variable_home homes a.variable) + 1 + 1) (j + fetch_size (variable_home homes a.variable) + 1 + 1) (said d.core more) ws →
          Said (n + (fetch_size (variable_home homes a.variable) + 2)) (j + (fetch_size (variable_home homes a.variable) + 2)) (text ++ shown (read_printed r.frame.locations a)) ws
      saying number v more d same is g = record {
        core = said d.core more;
        says = subst (λ l. Says r.core (said d.core more) (text ++ l)) (same ∙ ap shown (sym (read_is r.frame.locations (Variable a.variable) v is))) (says_more r.core q.core d.core text more q.says d.keeps);
        going = is_place S.image (sizes S) (n + (fetch_size (variable_home homes a.variable) + 2)) (j + (fetch_size (variable_home homes a.variable) + 2)) (omega arith) (omega arith) g;
      }

      by_kind : (b : Base) → HoldsKind r.frame.locations b a.variable → Going S.image (sizes S) (here S s t r) r.core n j q.core (fetch_words 10 (variable_home homes a.variable) ++ (environment_words (print_call b) ++ ws)) →
          Said (n + (fetch_size (variable_home homes a.variable) + 2)) (j + (fetch_size (variable_home homes a.variable) + 2)) (text ++ shown (read_printed r.frame.locations a)) ws
      by_kind base.Int held g =
          let d = asked 1 (Int held.number) (omega arith) held.is g in
          let number : cast_signed w64 (d.core.registers 10) ≡ held.number = ap (cast_signed w64) d.word.is ∙ to_z-of_z w64 held.number held.fits in
          saying 1 (Int held.number) (signed_decimal (cast_signed w64 (d.core.registers 10))) d (ap signed_decimal number) held.is (print_int S.image (sizes S) d.number_is d.going)
      by_kind base.Bool held g =
          let d = asked 2 (Boolean held.truth) (omega arith) held.is g in
          saying 2 (Boolean held.truth) (truth_text (d.core.registers 10)) d (ap truth_text d.word.is ∙ truth_is held.truth) held.is (print_bool S.image (sizes S) d.number_is d.going)
      by_kind base.Char held g =
          let d = asked 3 (Char held.number) (omega arith) held.is g in
          saying 3 (Char held.number) (encode_utf8 (d.core.registers 10)) d (ap encode_utf8 d.word.is) held.is (print_char S.image (sizes S) d.number_is (ap scalar d.word.is ∙ held.scalar) d.going)

  -- the values after the first
  spaced_said : (args : List Printed) {n j : ℕ} {text : List ℕ} {ws : List Word} → AllByRecursion (λ a. HoldsKind r.frame.locations a.kind a.variable) args → AllByRecursion (λ a. IsSlotOf r.holds.function (Variable a.variable)) args → AllByRecursion (λ a. IsLive (code_of S.p r.frame.function) (location.Variable a.variable) r.frame.point) args →
      Said n j text (spaced_words homes args ++ ws) → Said (n + spaced_size homes args) (j + spaced_size homes args) (text ++ spaced_text (map (read_printed r.frame.locations) args)) ws
  unfolding spaced_text
  spaced_said [] {n} {j} {text} {ws} held used lives q = record {
    core = q.core;
    says = subst (Says r.core q.core) (sym (append-nil text)) q.says;
    going = is_place S.image (sizes S) (n + 0) (j + 0) (omega arith) (omega arith) q.going;
  }
  spaced_said (a ∷ args) {n} {j} {text} {ws} held used lives q =
      let v = read_printed r.frame.locations a in
      let rest = spaced_text (map (read_printed r.frame.locations) args) in
      let words : (environment_words 4 ++ (value_words homes a ++ spaced_words homes args)) ++ ws ≡ environment_words 4 ++ (value_words homes a ++ (spaced_words homes args ++ ws)) = ap (λ xs. environment_words 4 ++ xs) (append_assoc (value_words homes a) (spaced_words homes args) ws) in
      let q0 : Said n j text (environment_words 4 ++ (value_words homes a ++ (spaced_words homes args ++ ws))) = record { core = q.core; says = q.says; going = subst (λ xs. Going S.image (sizes S) (here S s t r) r.core n j q.core xs) words q.going } in
      let q1 = space_said q0 in
      let q2 = value_said a held.0 used.0 lives.0 q1 in
      let q3 = spaced_said args held.1 used.1 lives.1 q2 in
      let texts : ((text ++ 32 ∷ []) ++ shown v) ++ rest ≡ text ++ (32 ∷ (shown v ++ rest)) = append_assoc (text ++ 32 ∷ []) (shown v) rest ∙ append_assoc text (32 ∷ []) (shown v ++ rest) in
      record {
        core = q3.core;
        says = subst (Says r.core q3.core) texts q3.says;
        going = is_place S.image (sizes S) (n + spaced_size homes (a ∷ args)) (j + spaced_size homes (a ∷ args)) (omega arith) (omega arith) q3.going;
      }

  line_said : (args : List Printed) → AllByRecursion (λ a. HoldsKind r.frame.locations a.kind a.variable) args → AllByRecursion (λ a. IsSlotOf r.holds.function (Variable a.variable)) args → AllByRecursion (λ a. IsLive (code_of S.p r.frame.function) (location.Variable a.variable) r.frame.point) args →
      Said 0 (here S s t r) [] (print_words homes args) → Said (print_size homes args) (here S s t r + print_size homes args) (line_of (map (read_printed r.frame.locations) args)) []
  unfolding spaced_text
  line_said [] held used lives q = let q1 = line_end_said q in record { core = q1.core; says = q1.says; going = is_place S.image (sizes S) 2 (here S s t r + 2) (omega arith) refl q1.going }
  line_said (a ∷ args) held used lives q =
      let v = read_printed r.frame.locations a in
      let vs = map (read_printed r.frame.locations) args in
      let q1 = value_said a held.0 used.0 lives.0 q in
      let q2 = spaced_said args held.1 used.1 lives.1 q1 in
      let q3 = line_end_said (record { core = q2.core; says = q2.says; going = with_end (environment_words 5) q2.going }) in
      let texts : (([] ++ shown v) ++ spaced_text vs) ++ 10 ∷ [] ≡ line_of (v ∷ vs) = append_assoc (shown v) (spaced_text vs) (10 ∷ []) ∙ sym (line_is v vs) in
      record {
        core = q3.core;
        says = subst (Says r.core q3.core) texts q3.says;
        going = is_place S.image (sizes S) (print_size homes (a ∷ args)) (here S s t r + print_size homes (a ∷ args)) (omega arith) (omega arith) q3.going;
      }

  print_some : (args : List Printed) → 2 ≤ print_size homes args
  print_some [] = omega arith
  print_some (a ∷ args) = omega arith

  pub print_moves : (args : List Printed) → slice_get r.holds.function.code r.frame.point ≡ Some (Print args) → AllByRecursion (λ a. HoldsKind r.frame.locations a.kind a.variable) args →
      AllByRecursion (λ a. IsSlotOf r.holds.function (Variable a.variable)) args → 128 + 8 * length args ≤ S.cost → Moves S s t
  print_moves args item held used dear =
      let h = r.holds in
      let k = here S s t r in
      let has = its_words S r.frame.function h.function r.frame.point (Print args) h.there item in
      let q = line_said args held used (each_printed (λ x. IsLive (code_of S.p r.frame.function) x r.frame.point) args (reads S s t r (Print args) item)) (record { core = r.core; says = says_nothing r.core; going = begin S.image (sizes S) k r.core (print_words homes args) has }) in
      let there = next_entry S r.frame.function h.function r.frame.point (Print args) h.there item in
      let some = print_some args in
      let count : print_size homes args ≡ suc (print_size homes args - 1) = omega arith in
      let at : k + print_size homes args ≡ entry_of S r.frame.function (suc r.frame.point) = omega arith in
      let vs = map (read_printed r.frame.locations) args in
      arrive S s t r (prints S.p S.limits vs r.frame r.older s) (advanced r.frame) r.older q.core (print_size homes args - 1) (step_at S s t r (Some (Print args)) item) refl r.running
      (ap (λ l. l ++ line_of vs) r.printed ∙ sym q.says.printed)
      (moved_holds S (length s.blocks) r.frame r.older r.core h (standing S s t r) (suc r.frame.point) (leads S r.frame h.function h.there (Print args) item (onward r.frame.point) (inl refl) refl refl) q.core q.says.same)
      (memory_by S s.blocks r.core q.core q.says.table q.says.cells q.says.blocks q.says.next_free r.memory)
      (guards_by S s t r q.core q.says.arrivals)
      (onto_next S s t r (landed (suc (print_size homes args - 1)) (entry_of S r.frame.function (suc r.frame.point)) count at q.going)) (let most = print_most homes args in omega arith)
