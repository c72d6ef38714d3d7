use Rattle.std.proofs.Common.{true, false, sym, ap, ◌∙◌}
use Rattle.inv_terms.specs.Listing.{is_behind_last}
use Rattle.inv_terms.specs.LastEntry.{is_next_behind}
use Rattle.inv_terms.proofs.PushLemmas.{next_is, refusal-behind}
use Rattle.inv_terms.proofs.listing.why_refused.Goals as goal

pub returns-then-is_next_behind : goal.returns-then-is_next_behind
returns-then-is_next_behind c =
    let behind = sym (c.is_behind.ensures ∙ ap (λ o. is_behind_last o c.args.e.now) c.last_entry-last.ensures) ∙ c.if-not-is_behind.false in
    let next = sym (next_is c.args.entries.now c.args.e.now c.requires.listed behind)
    ∙ (sym (c.is_next_behind.ensures ∙ ap (λ o. is_next_behind o c.args.e.now.context) c.last_entry-last.ensures) ∙ c.if-is_next_behind.true) in
    let found = sym c.is_placed.ensures ∙ c.if-not-is_placed.false in
    sym (refusal-behind c.args.entries.now c.args.e.now true found behind next)

pub returns-else-is_next_behind : goal.returns-else-is_next_behind
returns-else-is_next_behind c =
    let behind = sym (c.is_behind.ensures ∙ ap (λ o. is_behind_last o c.args.e.now) c.last_entry-last.ensures) ∙ c.if-not-is_behind.false in
    let next = sym (next_is c.args.entries.now c.args.e.now c.requires.listed behind)
    ∙ (sym (c.is_next_behind.ensures ∙ ap (λ o. is_next_behind o c.args.e.now.context) c.last_entry-last.ensures) ∙ c.if-is_next_behind.false) in
    let found = sym c.is_placed.ensures ∙ c.if-not-is_placed.false in
    sym (refusal-behind c.args.entries.now c.args.e.now false found behind next)
