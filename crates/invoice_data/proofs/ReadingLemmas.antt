-- What a whole text tells.
use Rattle.std.proofs.Common.{◌≡◌, ℕ, List, ap, ◌∙◌}
use Rattle.code_lists.specs.CodeFiles.{Lists}
use Rattle.json_reading.specs.declared.item.Item.{Item}
use Rattle.extension_files.specs.declared.terms.ExtTerm.{ExtTerm}
use Rattle.invoice_data.specs.Names.{Source}
use Rattle.invoice_data.specs.Told.{Told, nothing, both}
use Rattle.invoice_data.specs.Members.{told}
use Rattle.invoice_data.proofs.ToldLemmas.{nothing_both}

abbrev pub source_of : List ℕ → List ExtTerm → Lists → Source
source_of bytes added lists = record { bytes = bytes; added = added; lists = lists }

pub whole : (bytes : List ℕ) (added added' : List ExtTerm) (lists : Lists) (items items' : List Item) (before after : Told)
    → after ≡ both before (told (source_of bytes added lists) items) → before ≡ nothing → added ≡ added' → items ≡ items'
    → after ≡ told (source_of bytes added' lists) items'
whole bytes added added' lists items items' before after put none same_added same_items =
    put
    ∙ (ap (λ t. both t (told (source_of bytes added lists) items)) none
    ∙ (nothing_both (told (source_of bytes added lists) items)
    ∙ (ap (λ es. told (source_of bytes es lists) items) same_added ∙ ap (told (source_of bytes added' lists)) same_items)))
