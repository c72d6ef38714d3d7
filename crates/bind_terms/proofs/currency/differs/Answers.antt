use Rattle.std.proofs.Common.{Option, Some, List, ℕ, map, option_map, refl, sym, ap, ◌∙◌}
use Rattle.std.specs.Borrow.{Bor}
use Rattle.std.specs.Prelude.{codes}
use Rattle.std.specs.Str.{chars}
use Rattle.node_arena.specs.Moves.{tree_nodes}
use Rattle.bind_meaning.specs.Elements.{attributes_named}
use Rattle.bind_meaning.specs.Currencies.{amount_currency, first_full}
use Rattle.bind_meaning.specs.Judging.{differs}
use Rattle.bind_terms.specs.Kinds.{trimmed_at}
use Rattle.bind_terms.proofs.Images.{literal}
use Rattle.bind_terms.proofs.Literals.{along}
use Rattle.bind_terms.proofs.currency.differs.Goals as goal

pub returns-in_ok-found-in-Some : goal.returns-in_ok-found-in-Some
returns-in_ok-found-in-Some g c =
    along _ _ _ (ap (λ ms. differs (Some (chars c.in-Some.invoice.now)) (first_full (map (trimmed_at (tree_nodes c.args.doc.now)) ms)))
    (c.deref.ensures.value ∙ (c.in_ok-found-in-Some.ensures.nodes
    ∙ ap (λ local. attributes_named (tree_nodes c.args.doc.now) local c.args.n) (literal (codes "currencyID") refl)))
    ∙ ap (λ (invoice : Option (Bor (List ℕ))). differs (option_map (λ (text : Bor (List ℕ)). chars text.now) invoice)
    (amount_currency (tree_nodes c.args.doc.now) c.args.n)) (sym c.in-Some.is)) c.is_other_currency.ensures
