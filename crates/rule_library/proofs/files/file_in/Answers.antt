use Rattle.std.proofs.lemmas.List.{get_or_read}
use Rattle.rule_library.specs.Readings.{no_file}
use Rattle.rule_library.proofs.files.file_in.Goals as goal

pub returns : goal.returns
returns c = get_or_read c.args.files.now _ _ c.requires c.index-files-k.is no_file
