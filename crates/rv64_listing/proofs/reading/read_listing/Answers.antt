use Rattle.rv64_listing.proofs.Listings.{is_fault, is_listing, reads_listing, tells_fault}
use Rattle.rv64_listing.proofs.reading.read_listing.Goals as goal

pub returns-clause-found : goal.returns-clause-found
returns-clause-found c = is_listing c.args.source.now c.listing_of.result c.listing_of.ensures.found

pub returns-clause-reads : goal.returns-clause-reads
returns-clause-reads c = reads_listing c.args.source.now c.listing_of.result c.listing_of.ensures.found c.listing_of.ensures.fault

pub returns-clause-fault : goal.returns-clause-fault
returns-clause-fault c = is_fault c.args.source.now c.listing_of.result c.listing_of.ensures.fault

pub returns-clause-faults : goal.returns-clause-faults
returns-clause-faults c = tells_fault c.args.source.now c.listing_of.result c.listing_of.ensures.found c.listing_of.ensures.fault
