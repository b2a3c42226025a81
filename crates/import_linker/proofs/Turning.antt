-- One turn of the reading of files.
use Rattle.std.proofs.Common.{◌≡◌, ◌∙◌, refl, sym, ap, subst, ℕ, zero, suc, ◌+◌, ◌-◌, ◌<◌, ◌≤◌, List, [], ◌∷◌, ◌++◌, length, arith, Option, Some, None, inl, inr}
use Rattle.std.specs.Prelude.{slice_get}
use Rattle.std.proofs.lemmas.List.{length-append}
use Rattle.bril_outside.specs.Files.{FileMap, FilesSeen, LacksFile, MayFail, MayHold, ReadTimes}
use Rattle.bril_outside.proofs.SinkWrites.{Rose-after, amount_after-twice}
use Rattle.bril_outside.specs.Sink.{amount_after}
use Rattle.import_linker.specs.Adding.{AddsTooMany}
use Rattle.import_linker.specs.Order.{all_added, known_after, most_files, named_by}
use Rattle.import_linker.specs.Reading.{AreNext, IsNext, IsNextPath, IsRead, IsTriedOnce, RefusesReading, RefusesSource, bytes_of}
use Rattle.import_linker.specs.formats.Format.{format_of}
use Rattle.import_linker.specs.formats.Reading.{IsOnlyFault, most_bytes}
use Rattle.import_linker.specs.declared.fault.LinkFault.{LinkFault}
use Rattle.import_linker.specs.declared.fault.LinkFault.TheVariants as fault
use Rattle.import_linker.specs.declared.sources.Source.{Source}
use Rattle.import_linker.proofs.Knowing.{all_added_grows, known_more}

-- a read that may fail, seen from before steps that led to it
fails_after : (s t u : FilesSeen) (path : List ℕ) → t.holds ≡ s.holds → s.faults ≤ t.faults → MayFail t u path → MayFail s u path
fails_after s t u path stay le (inl rose) = inl (Rose-after s.faults t.faults u.faults le rose)
fails_after s t u path stay le (inr lacks) = inr (subst (λ (h : Option FileMap). LacksFile h path) stay lacks)

-- some reads and one more
read_again : (s t u : FilesSeen) (n : ℕ) → ReadTimes s n t → ReadTimes t 1 u → ReadTimes s (n + 1) u
read_again s t u n one two = record { told = two.told ∙ ap (λ a. amount_after a 1) one.told ∙ amount_after-twice s.reads n 1 }

pub read_more : (s t u : FilesSeen) (sources : List Source) (x : Source) → ReadTimes s (length sources) t → ReadTimes t 1 u → ReadTimes s (length (sources ++ x ∷ [])) u
read_more s t u sources x one two = subst (λ n. ReadTimes s n u) (sym (length-append sources (x ∷ []))) (read_again s t u (length sources) one two)

pub got_inside : {X : Type 0} (xs : List X) (i : ℕ) (x : X) → slice_get xs i ≡ Some x → i < length xs
got_inside [] zero x e = cc
got_inside [] (suc i) x e = cc
got_inside (y ∷ ys) zero x e = omega arith
got_inside (y ∷ ys) (suc i) x e = let rest = got_inside ys i x e in omega (arith, rest)

module _ (root : List ℕ) (sources : List Source) (known : List (List ℕ)) (is : known ≡ known_after root sources) where
  pub is_next_path : (path : List ℕ) → slice_get known (length sources) ≡ Some path → IsNextPath root sources path
  is_next_path path at = ap (λ (k : List (List ℕ)). slice_get k (length sources)) (sym is) ∙ at

  pub knows : (s : Source) (more : List (List ℕ)) → more ≡ all_added known (named_by s) → more ≡ known_after root (sources ++ s ∷ [])
  knows s more e = e ∙ ap (λ (k : List (List ℕ)). all_added k (named_by s)) is ∙ sym (known_more root sources s)

  pub next_is : (holds seen : Option FileMap) (s : Source) (path : List ℕ) (total : ℕ) (more : List (List ℕ)) → slice_get known (length sources) ≡ Some path → s.path ≡ path
      → seen ≡ holds → IsRead seen s → total ≡ bytes_of sources → total + s.size ≤ most_bytes → more ≡ all_added known (named_by s) → length more ≤ most_files
      → IsNext holds root sources s
  next_is holds seen s path total more at path_is holds_is read total_is short adds few = record {
    named = is_next_path path at ∙ ap Some (sym path_is);
    read = subst (λ (h : Option FileMap). IsRead h s) holds_is read;
    short = subst (λ (n : ℕ). n + s.size ≤ most_bytes) total_is short;
    few = subst (λ (k : List (List ℕ)). length k ≤ most_files) (knows s more adds) few;
  }

  -- as many files as are known, at most
  pub started_more : (s : Source) (path : List ℕ) (more : List (List ℕ)) → slice_get known (length sources) ≡ Some path → more ≡ all_added known (named_by s)
      → length (sources ++ s ∷ []) ≤ length more
  started_more s path more at adds =
      let inside = got_inside known (length sources) path at in
      let grows = all_added_grows known (named_by s) in
      let same : length more ≡ length (all_added known (named_by s)) = ap length adds in
      simp length-append (omega (arith, inside, grows, same))

  pub all_read : slice_get known (length sources) ≡ None → length sources ≤ length known → length (known_after root sources) ≡ length sources
  all_read none started = sym (ap length is) ∙ past known (length sources) none started
    where
      past : (xs : List (List ℕ)) (i : ℕ) → slice_get xs i ≡ None → i ≤ length xs → length xs ≡ i
      past [] zero e le = refl
      past [] (suc i) e le = absurd (omega arith)
      past (x ∷ xs) zero e le = cc
      past (x ∷ xs) (suc i) e le = ap suc (past xs i e (omega arith))

  -- ---- what stops the reading

  module _ (before : FilesSeen) (read : AreNext before.holds root [] sources) where
    pub refuses_adding : (after : FilesSeen) (e : LinkFault) (seen : Option FileMap) (s : Source) (path : List ℕ) (total : ℕ) → slice_get known (length sources) ≡ Some path
        → s.path ≡ path → seen ≡ before.holds → IsRead seen s → total ≡ bytes_of sources → total + s.size ≤ most_bytes → AddsTooMany e known (named_by s)
        → RefusesReading e before after root
    refuses_adding after (fault.Read other) seen s path total at path_is holds_is has total_is short h = absurd h
    refuses_adding after (fault.Bad other why) seen s path total at path_is holds_is has total_is short h = absurd h
    refuses_adding after (fault.NotThere other name) seen s path total at path_is holds_is has total_is short h = absurd h
    refuses_adding after (fault.Clash other name) seen s path total at path_is holds_is has total_is short h = absurd h
    refuses_adding after fault.TooManyFiles seen s path total at path_is holds_is has total_is short h = record {
      done = sources;
      last = s;
      stops = record { read = read; next = is_next_path path at ∙ ap Some (sym path_is) };
      read = subst (λ (m : Option FileMap). IsRead m s) holds_is has;
      short = subst (λ (n : ℕ). n + s.size ≤ most_bytes) total_is short;
      many = subst (λ (k : List (List ℕ)). most_files < length k) (knows s (all_added known (named_by s)) refl) h;
    }
    refuses_adding after fault.TooManyBytes seen s path total at path_is holds_is has total_is short h = absurd h
    refuses_adding after fault.Memory seen s path total at path_is holds_is has total_is short h = tt

    pub refuses_source : (middle after : FilesSeen) (e : LinkFault) (path : List ℕ) (total : ℕ) → slice_get known (length sources) ≡ Some path → middle.holds ≡ before.holds
        → before.faults ≤ middle.faults → total ≡ bytes_of sources → total ≤ most_bytes → RefusesSource e middle after path (most_bytes - total)
        → RefusesReading e before after root
    refuses_source middle after (fault.Read other) path total at holds_is le total_is short h = record {
      done = sources;
      stops = record { read = read; next = is_next_path path at ∙ ap Some (sym h.0) };
      fails = subst (λ (p : List ℕ). MayFail before after p) (sym h.0) (fails_after before middle after path holds_is le h.1);
    }
    refuses_source middle after (fault.Bad other why) path total at holds_is le total_is short h = record {
      done = sources;
      stops = record { read = read; next = is_next_path path at ∙ ap Some (sym h.0) };
      bytes = h.1.0;
      held = subst (λ (p : List ℕ). MayHold before.holds p h.1.0) (sym h.0) (subst (λ (m : Option FileMap). MayHold m path h.1.0) holds_is h.1.1);
      short = let same = total_is in omega (arith, h.1.2);
      has = subst (λ (p : List ℕ). IsOnlyFault (format_of p) h.1.0 why) (sym h.0) h.1.3;
    }
    refuses_source middle after (fault.NotThere other name) path total at holds_is le total_is short h = absurd h
    refuses_source middle after (fault.Clash other name) path total at holds_is le total_is short h = absurd h
    refuses_source middle after fault.TooManyFiles path total at holds_is le total_is short h = absurd h
    refuses_source middle after fault.TooManyBytes path total at holds_is le total_is short h = record {
      done = sources;
      path = path;
      stops = record { read = read; next = is_next_path path at };
      bytes = h.0;
      held = subst (λ (m : Option FileMap). MayHold m path h.0) holds_is h.1;
      long = let same = total_is in omega (arith, h.2);
    }
    refuses_source middle after fault.Memory path total at holds_is le total_is short h = tt

    pub tried_source : (middle after : FilesSeen) (e : LinkFault) (path : List ℕ) (most : ℕ) → slice_get known (length sources) ≡ Some path → ReadTimes before (length sources) middle
        → ReadTimes middle 1 after → RefusesSource e middle after path most → IsTriedOnce e before after root
    tried_source middle after (fault.Read other) path most at one two h = record {
      done = sources;
      stops = record { read = read; next = is_next_path path at ∙ ap Some (sym h.0) };
      times = read_again before middle after (length sources) one two;
    }
    tried_source middle after (fault.Bad other why) path most at one two h = tt
    tried_source middle after (fault.NotThere other name) path most at one two h = tt
    tried_source middle after (fault.Clash other name) path most at one two h = tt
    tried_source middle after fault.TooManyFiles path most at one two h = tt
    tried_source middle after fault.TooManyBytes path most at one two h = tt
    tried_source middle after fault.Memory path most at one two h = tt

-- another file than can be known isn't read
pub tried_adding : (before after : FilesSeen) (root : List ℕ) (e : LinkFault) (known more : List (List ℕ)) → AddsTooMany e known more → IsTriedOnce e before after root
tried_adding before after root (fault.Read other) known more h = absurd h
tried_adding before after root (fault.Bad other why) known more h = tt
tried_adding before after root (fault.NotThere other name) known more h = tt
tried_adding before after root (fault.Clash other name) known more h = tt
tried_adding before after root fault.TooManyFiles known more h = tt
tried_adding before after root fault.TooManyBytes known more h = tt
tried_adding before after root fault.Memory known more h = tt
