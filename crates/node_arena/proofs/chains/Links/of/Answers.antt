use Rattle.std.proofs.Common.{◌≡◌, ◌<◌, length, get_or, None, IfSome, subst, ap, sym, ◌∙◌, arith}
use Rattle.std.specs.Vec.{with_items}
use Rattle.std.proofs.lemmas.List.{with_items_is, length-replicate}
use Rattle.node_arena.specs.Document.{node_at}
use Rattle.node_arena.specs.Keys.{is_attribute_kind, keys, next_keyed}
use Rattle.node_arena.specs.Moves.{nearest}
use Rattle.node_arena.specs.Slots.{kept}
use Rattle.node_arena.specs.declared.chains.Family.TheVariants as families
use Rattle.node_arena.proofs.KeptLemmas.{kept_length, parent_within, if_not, if_so}
use Rattle.node_arena.proofs.ChainLemmas.{none_yet}
use Rattle.node_arena.proofs.chains.Links.of.Goals as goal

pub link-requires-clause-keys : goal.link-requires-clause-keys
link-requires-clause-keys c = λ n h.
    let node = node_at (kept c.args.nodes.now) n in
    let long : length c.deref_mut.result.now ≡ length c.args.nodes.now =
    ap length c.deref_mut.ensures.value ∙ (ap length c.in_ok-links.ensures.first_child ∙ length-replicate (length c.args.nodes.now) None) in
    if_not (is_attribute_kind node.kind) (nearest node.above) (length c.deref_mut.result.now)
    (subst (λ count. IfSome (nearest node.above) (λ key. key < count)) (sym long) (parent_within c.args.nodes.now n c.requires.below h))

pub link-requires-2-clause-keys : goal.link-requires-2-clause-keys
link-requires-2-clause-keys c = λ n h.
    let node = node_at (kept c.args.nodes.now) n in
    let long : length c.deref_mut-3.result.now ≡ length c.args.nodes.now =
    ap length c.deref_mut-3.ensures.value ∙ (ap length c.in_ok-links.ensures.first_attribute ∙ length-replicate (length c.args.nodes.now) None) in
    if_so (is_attribute_kind node.kind) (nearest node.above) (length c.deref_mut-3.result.now)
    (subst (λ count. IfSome (nearest node.above) (λ key. key < count)) (sym long) (parent_within c.args.nodes.now n c.requires.below h))

pub returns : goal.returns
returns c =
    let slots = c.args.nodes.now in
    let all = kept_length slots in
    let child = with_items_is c.in_ok-links.links.first_child c.link.new.first (c.link.ensures.first_long ∙ c.deref_mut.ensures.len) in
    let attribute = with_items_is c.in_ok-links.links.first_attribute c.link-2.new.first (c.link-2.ensures.first_long ∙ c.deref_mut-3.ensures.len) in
    let before = with_items_is c.in_ok-links.links.next_beside c.link.new.next (c.link.ensures.next_long ∙ c.deref_mut-2.ensures.len) in
    let beside = with_items_is (with_items c.in_ok-links.links.next_beside c.link.new.next) c.link-2.new.next
    (c.link-2.ensures.next_long ∙ c.deref_mut-4.ensures.len) in
    let named = with_items_is c.in_ok-links.links.next_named c.link-3.new.next (c.link-3.ensures.next_long ∙ c.deref_mut-6.ensures.len) in
    let names = with_items_is c.in_ok-links.links.first_named c.link-3.new.first (c.link-3.ensures.first_long ∙ c.deref_mut-5.ensures.len) in
    let child_count : length c.deref_mut.result.now ≡ length slots =
    ap length c.deref_mut.ensures.value ∙ (ap length c.in_ok-links.ensures.first_child ∙ length-replicate (length slots) None) in
    let attribute_count : length c.deref_mut-3.result.now ≡ length slots =
    ap length c.deref_mut-3.ensures.value ∙ (ap length c.in_ok-links.ensures.first_attribute ∙ length-replicate (length slots) None) in
    let beside_count : length c.deref_mut-2.result.now ≡ length slots =
    ap length c.deref_mut-2.ensures.value ∙ (ap length c.in_ok-links.ensures.next_beside ∙ length-replicate (length slots) None) in
    let named_count : length c.deref_mut-6.result.now ≡ length slots =
    ap length c.deref_mut-6.ensures.value ∙ (ap length c.in_ok-links.ensures.next_named ∙ length-replicate (length slots) None) in
    let names_count : length c.deref_mut-5.result.now ≡ c.args.names =
    ap length c.deref_mut-5.ensures.value ∙ (ap length c.in_ok-links.ensures.first_named ∙ length-replicate c.args.names None) in
    let second : c.deref_mut-4.result.now ≡ c.link.new.next = c.deref_mut-4.ensures.value ∙ before in
    rw (child, attribute, beside, named, names) (record {
      first_child = λ n h. c.link.ensures.first n (omega (arith, h, all, child_count));
      first_attribute = λ n h. c.link-2.ensures.first n (omega (arith, h, all, attribute_count));
      next_beside = λ n h. c.link-2.ensures.next n (omega (arith, h, all))
          ∙ ap (λ other. next_keyed other n (keys families.Attributes (kept slots))) (ap (λ links. get_or links n None) second
          ∙ (c.link.ensures.next n (omega (arith, h, all))
          ∙ ap (λ other. next_keyed other n (keys families.Children (kept slots)))
          (none_yet c.deref_mut-2.result.now (length slots) (c.deref_mut-2.ensures.value ∙ c.in_ok-links.ensures.next_beside) n
          (omega (arith, h, all, beside_count)))));
      next_named = λ n h. c.link-3.ensures.next n (omega (arith, h, all))
          ∙ ap (λ other. next_keyed other n (keys families.Named (kept slots)))
          (none_yet c.deref_mut-6.result.now (length slots) (c.deref_mut-6.ensures.value ∙ c.in_ok-links.ensures.next_named) n
          (omega (arith, h, all, named_count)));
      first_named = λ name h. c.link-3.ensures.first name (omega (arith, h, names_count));
      child_long = c.link.ensures.first_long ∙ (child_count ∙ sym all);
      attribute_long = c.link-2.ensures.first_long ∙ (attribute_count ∙ sym all);
      beside_long = c.link-2.ensures.next_long ∙ (ap length second ∙ (c.link.ensures.next_long ∙ (beside_count ∙ sym all)));
      named_long = c.link-3.ensures.next_long ∙ (named_count ∙ sym all);
      names_long = c.link-3.ensures.first_long ∙ names_count;
    })
