use Rattle.std.proofs.Common.{length, ap, ◌∙◌}
use Rattle.xml_profile.specs.Readers.{kept}
use Rattle.xml_profile.proofs.KeptLemmas.{sound-kept}
use Rattle.xml_profile.proofs.reader.Reader.kept.Goals as goal

pub returns : goal.returns
returns c = ap length c.as_slice.ensures.value ∙ (sound-kept _ _ _ _ _ c.self.invariant ∙ ap kept c.self.view_is)
