use Rattle.std.proofs.Common.{◌≡◌, drop}
use Rattle.rv64_listing.specs.Table.{form_among}
use Rattle.rv64_listing.proofs.form.first_named.Given as goal

abbrev pub invariant-forms : goal.invariant-forms
invariant-forms l = form_among (drop l.form-index l.forms) l.name ≡ form_among l.forms l.name
