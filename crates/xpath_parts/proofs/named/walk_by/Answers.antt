use Rattle.std.proofs.Common.{sym}
use Rattle.xpath_parts.proofs.NamedLemmas.{by_chain, by_no_chain, chain_some}
use Rattle.xpath_parts.proofs.named.walk_by.Goals as goal

pub returns-then-is_chain-clause-form : goal.returns-then-is_chain-clause-form
returns-then-is_chain-clause-form c = by_chain c.args.kind.now c.args.parts.now c.chain_walk.result (sym c.if-is_chain.ensures) c.chain_walk.ensures.form

pub returns-then-is_chain-clause-work : goal.returns-then-is_chain-clause-work
returns-then-is_chain-clause-work c = chain_some c.args.kind.now c.args.parts.now c.chain_walk.result (sym c.if-is_chain.ensures) c.chain_walk.ensures.parts

pub returns-else-is_chain-clause-form : goal.returns-else-is_chain-clause-form
returns-else-is_chain-clause-form c = by_no_chain c.args.kind.now c.args.parts.now (sym c.if-is_chain.ensures)
