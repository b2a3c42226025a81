use Rattle.rv64_listing.specs.Table.{form_named}
use Rattle.rv64_listing.proofs.form.form_named.Goals as goal

pub returns : goal.returns
unfolding form_named
returns c = c.first_named.ensures
