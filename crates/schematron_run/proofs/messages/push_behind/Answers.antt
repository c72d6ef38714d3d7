use Rattle.std.proofs.Common.{List, [], ◌∷◌, map, refl}
use Rattle.xpath_items.specs.declared.item.Item.{Item}
use Rattle.xpath_meaning.specs.Items.{text_of}
use Rattle.xpath_meaning.specs.Texts.{behind_separator}
use Rattle.schematron_run.specs.Inputs.{nodes_of, count}
use Rattle.schematron_run.proofs.ListLemmas.{item_at}
use Rattle.schematron_run.proofs.MessageLemmas.{says_next, says_all}
use Rattle.schematron_run.proofs.messages.push_behind.Goals as goal

pub push_spaced-requires : goal.push_spaced-requires
push_spaced-requires c = item_at (count c.args.input.now) c.args.items.now c.items.item-index c.item-item.result c.requires c.item-item.is c.items-test.true

pub items-preserved : goal.items-preserved
items-preserved c =
    let nodes = nodes_of c.args.input.now in
    says_next (λ (item : Item). 32 ∷ text_of nodes item) (λ (items : List Item). behind_separator (32 ∷ []) (map (text_of nodes) items)) (λ x xs. refl)
    c.args.items.now c.items.item-index c.item-item.result c.args.message.now c.items.message c.push_spaced.new.message c.item-item.is c.items-test.true
    c.in_ok-push_spaced.ensures c.items.invariant

pub returns : goal.returns
returns c =
    let nodes = nodes_of c.args.input.now in
    says_all (λ (item : Item). 32 ∷ text_of nodes item) (λ (items : List Item). behind_separator (32 ∷ []) (map (text_of nodes) items)) (λ x xs. refl)
    c.args.items.now c.items.item-index c.args.message.now c.items.message refl c.items-test.false c.items.invariant
