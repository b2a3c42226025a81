-- What the pass makes is accepted.
use Rattle.std.proofs.Common.{◌≡◌, ◌<◌, ◌≤◌, true, List, [], length, refl, arith}
use Rattle.bril_profile.specs.declared.profile.Entry.{Entry}
use Rattle.trace_paths.specs.Fits.{count_of}
use Rattle.trace_paths.specs.Taken.{taken}
use Rattle.bril_tree.specs.declared.program.Prog.{Prog}
use Rattle.bril_tree.specs.declared.types.Base.TheVariants as base
use Rattle.bril_tree.specs.declared.types.Ty.{Ty}
use Rattle.bril_tree.specs.Accepted.{IsAccepted}
use Rattle.bril_tree.specs.Edge.{Branch}
use Rattle.bril_tree.specs.Membership.{In}
use Rattle.bril_tree.specs.Numbered.{tree_of}
use Rattle.bril_tree.specs.Sites.{sites_of, most_sites}
use Rattle.bril_tree.specs.Step.{code_of}
use Rattle.bril_tree.specs.Typing.{same_type, is_plain}
use Rattle.bril_tree.specs.Walk.{IsWalk, end_of}
use Rattle.trace_laws.specs.lines.Lines.{bool_type}
use Rattle.trace_laws.specs.lines.Names.{Bases, trace_bases}
use Rattle.trace_laws.specs.lines.Traced.{IsLaid, Laying}
use Rattle.trace_laws.proofs.lemmas.lines.Entries.{fit-of, fits-few, laid-few, laid-of, layable, taken-few}
use Rattle.trace_laws.specs.acceptance.Laws.{TracesAreAccepted}
use Rattle.trace_laws.proofs.lemmas.acceptance.Accepting.{spliced-accepted}

pub laid-accepted : (bases : Bases) (P Q : Prog) (bool : Ty) → same_type bool bool ≡ true → is_plain base.Bool bool ≡ true → (entries : List Entry) → IsAccepted P → length entries ≤ 64 → IsLaid bases P bool entries (tree_of Q) → IsAccepted Q
laid-accepted bases P Q bool same plain entries accepted few l =
    spliced-accepted P Q bool same plain accepted l.laid (layable bases P entries l.fits l.laid l.are_fits l.are_laid)
    (let a = fits-few P [] entries l.fits l.are_fits in let b = laid-few bases P 1 l.fits l.laid l.are_laid in omega arith) roomy l.spliced_so
  where
    roomy : (x : Laying) → In x l.laid → (w : List Branch) → IsWalk (code_of P x.fit.function) w → end_of w ≡ x.fit.point → length (sites_of (code_of P x.fit.function) w) < most_sites
    roomy x among w is ends =
        let o = laid-of bases P 1 l.fits l.laid x l.are_laid among in
        let e = fit-of P [] entries l.fits x.fit l.are_fits o.among in
        e.1.few w is ends

pub traces-accepted : TracesAreAccepted
traces-accepted P Q profile accepted made = laid-accepted trace_bases P Q bool_type refl refl (taken count_of profile.entries) accepted (taken-few profile) made
