use Rattle.extension_files.proofs.ExtensionLemmas.{file-fine}
use Rattle.extension_files.proofs.extension.file_terms_are_extensions.Goals as goal

pub returns : goal.returns
returns c = file-fine
