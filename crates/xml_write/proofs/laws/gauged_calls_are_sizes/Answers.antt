use Rattle.std.proofs.Common.{ap, sym, ◌∙◌, map, length, zero-add}
use Rattle.xml_write.specs.declared.gauge.Gauge.{Gauge}
use Rattle.xml_write.specs.declared.pen.PenState.TheVariants.{Fresh}
use Rattle.xml_write.specs.Calls.{calls_of, encoded, appended_by_all}
use Rattle.xml_write.specs.Sizes.{stopped, tag_stopped, unmeasured}
use lib.Utf8.{encodes}
use Rattle.xml_write.proofs.CallsLemmas.{calls_of-append}
use Rattle.xml_write.proofs.EncodingLemmas.{encodes-appended_by_all}
use Rattle.xml_write.proofs.SizeLemmas.{told-bytes, gauged_by_all-stopped, calls_of-Whole}
use Rattle.xml_write.proofs.laws.gauged_calls_are_sizes.Goals as goal

pub returns-clause-bytes : goal.returns-clause-bytes
returns-clause-bytes c = λ declarations document.
    ap (λ (g : Gauge). g.bytes) (gauged_by_all-stopped unmeasured (calls_of declarations document))
    ∙ ap stopped
    (told-bytes unmeasured (calls_of declarations document)
    ∙ (zero-add (length (appended_by_all Fresh (map encoded (calls_of declarations document))))
    ∙ ap length (sym (encodes-appended_by_all Fresh (calls_of declarations document)) ∙ ap encodes (calls_of-append declarations document))))

pub returns-clause-longest_tag : goal.returns-clause-longest_tag
returns-clause-longest_tag c = λ declarations document.
    ap (λ (g : Gauge). g.longest_tag) (gauged_by_all-stopped unmeasured (calls_of declarations document))
    ∙ ap tag_stopped (calls_of-Whole declarations document).longest_tag

pub returns-clause-nodes : goal.returns-clause-nodes
returns-clause-nodes c = λ declarations document is.
    ap (λ (g : Gauge). g.nodes) (gauged_by_all-stopped unmeasured (calls_of declarations document))
    ∙ ap stopped ((calls_of-Whole declarations document).nodes is.inside is.name is.attributes is.root is.joined)
