use Rattle.std.proofs.Common.{ap, sym}
use Rattle.bind_terms.specs.ParsedValues.{parsed_of, all_parsed}
use Rattle.bind_terms.specs.Telling.{context_in}
use Rattle.bind_terms.proofs.Pass.{alone-placed, first-placed, second-placed, tells-same, tells-both}
use Rattle.bind_terms.specs.Inputs.{currency_of, nodes_of}
use Rattle.bind_terms.proofs.telling.tell_all.Goals as goal

pub tell-requires-clause-placed : goal.tell-requires-clause-placed
tell-requires-clause-placed g c = alone-placed (context_in c.args.rowed.now.pick.now) c.args.parsed_values c.requires.placed c.in-One.one c.in-One.is

pub tell-requires-in-Two-clause-placed : goal.tell-requires-in-Two-clause-placed
tell-requires-in-Two-clause-placed g c =
    first-placed (context_in c.args.rowed.now.pick.now) c.args.parsed_values c.requires.placed c.in-Two.one c.in-Two.other c.in-Two.is

pub tell-requires-in-Two-2-clause-placed : goal.tell-requires-in-Two-2-clause-placed
tell-requires-in-Two-2-clause-placed g c =
    second-placed (context_in c.args.rowed.now.pick.now) c.args.parsed_values c.requires.placed c.in-Two.one c.in-Two.other c.in-Two.is

pub returns-in-One : goal.returns-in-One
returns-in-One g c =
    tells-same c.tell.result (nodes_of c.args.input.now) c.args.input.now.lists.now
    (currency_of c.args.input.now) c.args.rowed.now.pick.now c.args.rowed.now.row.now
    _ (all_parsed c.args.parsed_values) _ _ _ _ (ap all_parsed (sym c.in-One.is)) c.tell.ensures

pub returns-in_ok-tell-in-Two : goal.returns-in_ok-tell-in-Two
returns-in_ok-tell-in-Two g c =
    tells-both c.tell-in-Two-2.result (nodes_of c.args.input.now) c.args.input.now.lists.now
    (currency_of c.args.input.now) c.args.rowed.now.pick.now c.args.rowed.now.row.now
    (parsed_of c.in-Two.one) (parsed_of c.in-Two.other) (all_parsed c.args.parsed_values) _ _ _ _ _ _
    (ap all_parsed (sym c.in-Two.is)) c.in_ok-tell-in-Two.ensures c.tell-in-Two-2.ensures
