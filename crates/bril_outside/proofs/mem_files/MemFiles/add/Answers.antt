-- The file is put in place of the first that has the path, or at the end.
use Rattle.std.proofs.Common.{◌≡◌, ◌++◌, Some, None, ap, ◌∙◌}
use Rattle.std.specs.List.{position}
use Rattle.std.specs.Str.{bytes_eq}
use Rattle.bril_outside.specs.declared.stored_file.StoredFile.{StoredFile}
use Rattle.bril_outside.proofs.Stored.{ChangesFile-set, ChangesFile-push}
use Rattle.bril_outside.proofs.mem_files.MemFiles.add.Goals as goal

pub returns-in-Some-clause-ok : goal.returns-in-Some-clause-ok
returns-in-Some-clause-ok c =
    let bytes : c.add.new.self ≡ c.args.bytes.now = c.in_ok-add.ensures.ok ∙ ap (λ v. v ++ c.args.bytes.now) c.new-copy.ensures in
    let place : position (λ (f : StoredFile). bytes_eq f.path c.args.path.now) c.self.inside.files.items ≡ Some c.in-Some.place =
    cc (c.place_of.ensures, c.as_slice.ensures.value, c.in-Some.is) in
    rw (← c.self.view_is)
    (ChangesFile-set c.self.inside.files.items c.args.path.now c.in-Some.place c.index_mut.result.now (record { path = c.index_mut.result.now.path; bytes = c.add.new.self }) place (ap (λ f. f.path) c.index_mut.ensures.value) c.args.bytes.now bytes)

pub returns-in_ok-push-in-None-clause-ok : goal.returns-in_ok-push-in-None-clause-ok
returns-in_ok-push-in-None-clause-ok c =
    let bytes : c.add.new.self ≡ c.args.bytes.now = c.in_ok-add.ensures.ok ∙ ap (λ v. v ++ c.args.bytes.now) c.new-copy.ensures in
    let path : c.in_ok-path-in-None.path ≡ c.args.path.now = c.in_ok-path-in-None.ensures ∙ c.as_str.ensures in
    let place : position (λ (f : StoredFile). bytes_eq f.path c.args.path.now) c.self.inside.files.items ≡ None =
    cc (c.place_of.ensures, c.as_slice.ensures.value, c.in-None.is) in
    rw (← c.self.view_is, c.in_ok-push-in-None.ensures.items)
    (ChangesFile-push c.self.inside.files.items (record { path = c.in_ok-path-in-None.path; bytes = c.add.new.self }) c.args.path.now c.args.bytes.now path bytes place)
