use Rattle.std.proofs.Common.{◌++◌, ap, sym, ◌∙◌, refl}
use Rattle.std.proofs.lemmas.Str.{IsUtf8-string_bytes}
use Rattle.xml_events.specs.Events.{has_text}
use Rattle.node_arena.specs.Document.{after}
use Rattle.node_arena.proofs.BuiltLemmas.{Takes-after}
use Rattle.node_arena.proofs.BuilderLemmas.{text_more, text_begun, copied_alone}
use Rattle.node_arena.proofs.builder.BuilderEvents.text.Goals as goal

pub returns-in_ok-push_str-in-Some : goal.returns-in_ok-push_str-in-Some
returns-in_ok-push_str-in-Some c =
    Takes-after _ _ _ (text_more _ _ _ _ _ _ _ _ _ c.in-Some.is c.in_ok-push_str-in-Some.ensures.bytes (IsUtf8-string_bytes c.self.inside.text) c.utf8.piece
    ∙ ap (after (has_text _ _)) c.self.view_is)

pub returns-in_ok-push_str-in-None : goal.returns-in_ok-push_str-in-None
returns-in_ok-push_str-in-None c =
    Takes-after _ _ _ (text_begun _ _ _ _ _ _ _ c.in-None.is
    (sym (copied_alone _ _ _ refl (sym (c.in_ok-push_str-in-None.ensures.bytes ∙ ap (λ t. t ++ c.args.piece.now) c.clear.ensures.bytes))))
    ∙ ap (after (has_text _ _)) c.self.view_is)
