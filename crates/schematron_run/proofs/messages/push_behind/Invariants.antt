use Rattle.std.proofs.Common.{[], ◌∷◌, map, drop}
use Rattle.xpath_meaning.specs.Items.{text_of}
use Rattle.xpath_meaning.specs.Texts.{behind_separator}
use Rattle.schematron_texts.specs.Messages.{Written}
use Rattle.schematron_run.specs.Inputs.{nodes_of}
use Rattle.schematron_run.specs.Telling.{Says}
use Rattle.schematron_run.proofs.messages.push_behind.Given as goal

-- What the items to come say here, all say from the first on.
abbrev pub invariant-items : goal.invariant-items
invariant-items l =
    (new : Written) → Says (behind_separator (32 ∷ []) (map (text_of (nodes_of l.input)) (drop l.item-index l.items))) l.message new
    → Says (behind_separator (32 ∷ []) (map (text_of (nodes_of l.input)) l.items)) l.initial.message new
