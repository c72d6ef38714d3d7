use Rattle.std.proofs.Common.{sym, ap, ◌∙◌, option_copied}
use Rattle.inv_base.proofs.TextLemmas.{encode-chars}
use Rattle.schematron_entries.specs.Seen.{seen_entries}
use Rattle.schematron_expansion.proofs.CountedLemmas.{got_at, pattern_found, pattern_got}
use Rattle.schematron_expansion.proofs.file.pattern_of_text.Goals as goal

pub returns-in-Some : goal.returns-in-Some
returns-in-Some c = pattern_got c.args.entries.now _ c.args.id.now c.in-Some.at c.place_of_name.result (option_copied c.get.result) c.requires
    (encode-chars c.args.id.now c.utf8.id)
    c.place_of_name.ensures c.in-Some.is c.get.ensures

pub returns-in-None : goal.returns-in-None
returns-in-None c = sym (ap (got_at (seen_entries c.args.entries.now)) c.in-None.is)
    ∙ pattern_found c.args.entries.now _ c.args.id.now c.place_of_name.result c.requires (encode-chars c.args.id.now c.utf8.id) c.place_of_name.ensures
