use Rattle.std.proofs.Common.{ap, sym, ◌∙◌}
use Rattle.std.proofs.lemmas.Str.{IsUtf8-string_bytes}
use Rattle.xml_events.specs.Events.{has_text}
use Rattle.node_arena.specs.Document.{after}
use Rattle.node_arena.proofs.BuilderLemmas.{text_more, text_begun, lent_alone}
use Rattle.node_arena.proofs.builder.Builder.text_lent.Goals as goal

pub returns-in_ok-push_str-in-Some : goal.returns-in_ok-push_str-in-Some
returns-in_ok-push_str-in-Some c =
    text_more _ _ _ _ _ _ _ _ _ c.in-Some.is c.in_ok-push_str-in-Some.ensures.bytes (IsUtf8-string_bytes c.self.inside.text) c.utf8.piece ∙
    ap (after (has_text _ _)) c.self.view_is

pub returns-in-None : goal.returns-in-None
returns-in-None c =
    text_begun _ _ _ _ _ _ _ c.in-None.is (sym (lent_alone c.args.piece.now _ c.clear.ensures.bytes)) ∙ ap (after (has_text _ _)) c.self.view_is
