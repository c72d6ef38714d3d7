use Rattle.std.specs.Prelude.{None}
use Rattle.binding_laws.proofs.PlacedLemmas.{contains-among, among-contains}
use Rattle.address_laws.specs.Addresses.{entry_leaves, leaf_at, said_of_row}
use Rattle.address_laws.specs.EntryAddresses.{address_in, last_step}
use Rattle.address_laws.proofs.EntryLeaves.{entry-leaf}
use Rattle.address_laws.proofs.laws.entries_have_their_leaves.Goals as goal

pub returns : goal.returns
returns c es row term e said invoice fits among outer inner k =
    among-contains (leaf_at (address_in e.context row.path) said) (entry_leaves es row)
    (entry-leaf es invoice.numbered row term fits e (contains-among e es among) outer inner said
    (contains-among said (said_of_row es row e.context (last_step None row.path)) k))
