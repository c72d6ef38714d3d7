use Rattle.std.proofs.Common.{refl}
use Rattle.xpath_plan.proofs.NameLaws.{stored-name}
use Rattle.xpath_plan.proofs.names.NameTable.number.Goals as goal

pub returns-clause-number : goal.returns-clause-number
returns-clause-number c =
    let stored = c.in_ok-number.ensures.stored in
    stored-name c.args.uri.now c.args.local.now (record { uri = c.in_ok-uri.uri; local = c.in_ok-local.local }) stored.0 c.insert_full.new.self.keys
    c.in_ok-number.number _ refl c.in_ok-uri.ensures.ok c.in_ok-local.ensures.ok stored.2 stored.1
