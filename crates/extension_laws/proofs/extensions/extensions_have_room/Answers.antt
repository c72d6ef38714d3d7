use Rattle.bind_run.proofs.RoomLemmas.{rooms-each, steps-each, numbers-each}
use Rattle.extension_laws.proofs.extensions.extensions_have_room.Goals as goal

pub returns-clause-rooms : goal.returns-clause-rooms
returns-clause-rooms c = rooms-each

pub returns-clause-steps : goal.returns-clause-steps
returns-clause-steps c = steps-each

pub returns-clause-numbers : goal.returns-clause-numbers
returns-clause-numbers c = numbers-each
