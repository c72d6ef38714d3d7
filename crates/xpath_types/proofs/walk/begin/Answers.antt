use Rattle.std.proofs.Common.{◌≡◌, sym, ap, ◌∙◌, None, false}
use Rattle.xpath_types.specs.Parts.{begins_at_root}
use Rattle.xpath_types.specs.Kinds.{no_kinds}
use Rattle.xpath_types.proofs.WalkLemmas.{labels-viewed}
use Rattle.xpath_types.proofs.walk.begin.Goals as goal

pub returns-clause-walked : goal.returns-clause-walked
returns-clause-walked c =
    let root = c.begins_at_root.ensures ∙ ap (begins_at_root c.args.form.now) (sym (labels-viewed c.args.parts.now)) in
    λ i. record {
      facts = record {
        kinds = no_kinds;
        refused = c.in_ok-refused.ensures.told i;
        uses = record { position = false; root = root i; item = false };
        lowest =
            None;
      };
      end = c.args.token;
    }
