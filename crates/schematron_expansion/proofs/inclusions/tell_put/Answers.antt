use Rattle.std.proofs.Common.{map, ap, ◌∙◌}
use Rattle.std.proofs.lemmas.List.{map-append}
use Rattle.schematron_entries.specs.Seen.{seen_entry}
use Rattle.schematron_meaning.specs.Expansion.{put_at_stand}
use Rattle.schematron_expansion.specs.Seen.{seen_put}
use Rattle.schematron_expansion.proofs.PutLemmas.{tells_put}
use Rattle.schematron_expansion.proofs.inclusions.tell_put.Goals as goal

pub returns-in_ok-push : goal.returns-in_ok-push
returns-in_ok-push c =
    tells_put c.args.firsts.now.told.keys c.insert.new.self.keys (map seen_put c.args.firsts.now.found.items) (map seen_put c.push.new.self.items)
    (put_at_stand c.args.stand (seen_entry c.args.entry.now)) c.number.result c.in_ok-insert.field-0 c.number.ensures c.in_ok-insert.ensures.added
    c.if-branch.true c.in_ok-insert.ensures.keys
    (ap (map seen_put) c.in_ok-push.ensures.items ∙ map-append seen_put c.args.firsts.now.found.items _)
