use Rattle.std.proofs.Common.{◌∙◌, Some, None, lit<}
use Rattle.std.proofs.lemmas.Str.Pattern.{split_once_first}
use Rattle.extension_files.proofs.PathLemmas.{parts-around, parts-without}
use Rattle.extension_files.proofs.paths.parts_of.Goals as goal

pub returns-in-Some : goal.returns-in-Some
returns-in-Some c =
    let around = split_once_first 58 c.args.text.now (Some (c.in-Some.prefix, c.in-Some.local)) c.in-Some.ensures.cases (lit< tt) in
    c.parts_by.ensures ∙ parts-around c.args.spaces.now c.args.text.now c.in-Some.prefix.now c.in-Some.local.now around.1 around.2

pub returns-in-None : goal.returns-in-None
returns-in-None c = parts-without c.args.spaces.now c.args.text.now (split_once_first 58 c.args.text.now None c.in-None.ensures.cases (lit< tt))
