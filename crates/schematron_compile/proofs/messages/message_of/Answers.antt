use Rattle.std.proofs.Common.{◌∙◌, sym, ap, map, length}
use Rattle.schematron_meaning.specs.Entries.{Entry}
use Rattle.schematron_meaning.specs.Lookup.{is_part, inside}
use Rattle.schematron_meaning.specs.Rules as spec
use Rattle.schematron_entries.specs.Seen.{seen_entry}
use Rattle.schematron_rules.specs.Seen.{seen_part}
use Rattle.schematron_compile.proofs.BuiltLemmas.{map_begun, map_on, map_over, less}
use Rattle.schematron_compile.proofs.messages.message_of.Goals as goal

pub parts-init : goal.parts-init
parts-init c =
    let gives = c.into_iter-part-iterator.ensures.into_iter_gives in (
      map_begun seen_part (λ e. seen_entry e.now) (λ (part : Entry). spec.part_by part.role c.args.params.now c.args.scope.now part) _ _ _ _ c.new-parts.ensures
          gives.0
          (ap (map (λ (part : Entry). spec.part_by part.role c.args.params.now c.args.scope.now part))
          (c.in_ok-inside.ensures ∙ ap (inside is_part c.args.file.now.entries) c.number.ensures)),
      gives.1 ∙ (c.in_ok-inside.inside.ok.0 ∙ sym (ap length gives.0)),
    )

pub parts-preserved : goal.parts-preserved
parts-preserved c = (
  map_on seen_part (λ e. seen_entry e.now) (λ (part : Entry). spec.part_by part.role c.args.params.now c.args.scope.now part) _ _ _ _ _ _ _
      c.in-Some.ensures.steps.0 c.in_ok-push.ensures.ok c.in_ok-part_of.ensures c.parts.invariant.0,
  less _ _ _ _ _ c.in-Some.ensures.steps.0 c.in-Some.ensures.steps.1 c.parts.invariant.1,
)

pub returns : goal.returns
returns c = map_over seen_part (λ e. seen_entry e.now) (λ (part : Entry). spec.part_by part.role c.args.params.now c.args.scope.now part) _ _ _ _
    c.in-None.ensures.steps.0 c.parts.invariant.1 c.parts.invariant.0
