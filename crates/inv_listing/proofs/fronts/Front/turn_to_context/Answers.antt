use Rattle.std.proofs.Common.{sym, ◌∙◌, arith}
use Rattle.std.proofs.lemmas.List.{take_all}
use Rattle.inv_listing.proofs.FrontLemmas.{same_context-text}
use Rattle.inv_listing.proofs.fronts.Front.turn_to_context.Goals as goal

pub returns-then-is_same : goal.returns-then-is_same
returns-then-is_same c =
    let same = same_context-text c.args.self.now.context c.args.context (sym c.is_same.ensures ∙ c.if-is_same.true) in
    let text = c.truncate.ensures.items ∙ c.requires.text in
    let whole = take_all c.args.self.now.context_len c.truncate.new.self.items (omega (arith, c.truncate.ensures.len, c.requires.within)) in
    record {
      begins = record { text = whole ∙ text; within = omega (arith, c.truncate.ensures.len, c.requires.within); short = c.requires.short };
      items = text ∙ same;
      alone = omega (arith, c.truncate.ensures.len, c.requires.within);
    }
