use Rattle.std.proofs.Common.{ℕ, List, Bor, sym, ◌∙◌}
use Rattle.inv_base.proofs.TextLemmas.{encode-chars}
use Rattle.schematron_expansion.proofs.NameLemmas.{name_kept, name_put}
use Rattle.schematron_expansion.proofs.abstracts.add_text.Goals as goal

pub returns-then-contains_key : goal.returns-then-contains_key
returns-then-contains_key c =
    name_kept (λ (key : Bor (List ℕ)). key.now) c.args.names.now.entries c.args.id.now c.args.place (encode-chars c.args.id.now c.utf8.id)
    (sym c.contains_key.ensures ∙ c.if-contains_key.true)

pub returns : goal.returns
returns c =
    name_put (λ (key : Bor (List ℕ)). key.now) c.args.names.now.entries c.insert.new.self.entries c.args.id c.args.place (encode-chars c.args.id.now c.utf8.id)
    (sym c.contains_key.ensures ∙ c.if-contains_key.false) c.in_ok-insert.ensures.entries
