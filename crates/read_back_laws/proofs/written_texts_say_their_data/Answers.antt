use Rattle.read_back_laws.proofs.Values.{written_is_read}
use Rattle.read_back_laws.proofs.Depth.{read_is_written}
use Rattle.read_back_laws.proofs.Spelling.{written_is_said}
use Rattle.read_back_laws.proofs.Unique.{said_is_one}
use Rattle.read_back_laws.proofs.written_texts_say_their_data.Goals as goal

pub returns-clause-items : goal.returns-clause-items
returns-clause-items c = written_is_read

pub returns-clause-nothing_else : goal.returns-clause-nothing_else
returns-clause-nothing_else c = read_is_written

pub returns-clause-says : goal.returns-clause-says
returns-clause-says c = written_is_said

pub returns-clause-alone : goal.returns-clause-alone
returns-clause-alone c = said_is_one
