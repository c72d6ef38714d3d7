use Rattle.std.proofs.Common.{sym, ap, ◌∙◌, option_copied}
use Rattle.schematron_entries.specs.Seen.{seen_entries}
use Rattle.schematron_expansion.proofs.CountedLemmas.{listed_at, entry_found, entry_got}
use Rattle.schematron_expansion.proofs.counting.entry_at.Goals as goal

pub returns-in-Some : goal.returns-in-Some
returns-in-Some c = entry_got c.args.entries.now c.args.nodes.now c.args.n c.in-Some.at c.first.result (option_copied c.get.result) c.requires c.first.ensures
    c.in-Some.is c.get.ensures

pub returns-in-None : goal.returns-in-None
returns-in-None c = sym (ap (listed_at (seen_entries c.args.entries.now)) c.in-None.is) ∙ entry_found c.args.entries.now c.args.nodes.now c.args.n
    c.first.result c.requires c.first.ensures
