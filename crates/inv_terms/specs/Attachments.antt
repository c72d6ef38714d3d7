-- The attached documents of an invoice (BT-125), which stand in it as base64 (RFC 4648, section 4). What base64 is, is
-- what the crate `base64` encodes and decodes by its standard engine.
use Rattle.std.specs.Prelude.{◌≡◌, ℕ, zero, suc, not, List, Option, Some, None, Result, Ok, Err, filter, slice_get, encode_utf8_all, bytes_eq, if◌then◌else◌}
use Rattle.std.specs.List.{filter_map}
use Rattle.base64.specs.GeneralPurpose.{encode_of, decode_of}
use Rattle.base64.specs.Engines.{standard}
use Rattle.inv_base.specs.Characters.{is_white_space}
use Rattle.inv_base.specs.Outside.{SinkView}
use Rattle.inv_base.specs.Writing.{WritesAll, WritesFront}
use Rattle.term_table.specs.declared.terms.Term.{Term}
use Rattle.inv_terms.specs.declared.values.Value.{Value}
use Rattle.inv_terms.specs.declared.values.Value.TheVariants as values
use Rattle.inv_terms.specs.declared.entries.Entry.{Entry}
use Rattle.inv_terms.specs.declared.attachments.AttachFault.{AttachFault}
use Rattle.inv_terms.specs.declared.attachments.AttachFault.TheVariants as faults
use Rattle.term_table.specs.SemanticModel.{same_term}

abbrev pub attached_document : Term
attached_document = record { number = 125; part = 0 }

abbrev pub base64_in : Value → Option (List ℕ)
base64_in (values.Base64 text) = Some text
base64_in (values.Text _) = None
base64_in (values.Identifier _) = None
base64_in (values.Code _) = None
base64_in (values.Amount _) = None
base64_in (values.Quantity _) = None
base64_in (values.Percent _) = None
base64_in (values.Date _) = None

abbrev pub document_in : Entry → Option (List ℕ)
document_in e = if same_term e.term attached_document then base64_in e.value else None

-- the base64 texts of the attached documents
abbrev pub documents : List Entry → List (List ℕ)
documents es = filter_map document_in es

-- the k-th of them, from 1
abbrev pub document : List Entry → ℕ → Option (List ℕ)
document es zero = None
document es (suc k) = slice_get (documents es) k

abbrev pub without_white_space : List ℕ → List ℕ
without_white_space text = filter (λ c. not (is_white_space c)) text

-- the bytes whose encoding the text is
abbrev pub decoded : List ℕ → Option (List ℕ)
decoded text = elim (decode_of standard text) [ Err e ↦ None | Ok bytes ↦ if bytes_eq (encode_of standard bytes) text then Some bytes else None ]

abbrev pub bytes_of : List ℕ → Result (List ℕ) AttachFault
bytes_of text = elim (decoded (encode_utf8_all (without_white_space text))) [ None ↦ Err faults.NotBase64 | Some bytes ↦ Ok bytes ]

-- the bytes of the k-th attached document
abbrev pub attached : List Entry → ℕ → Result (List ℕ) AttachFault
attached es k = elim (document es k) [ None ↦ Err faults.NoSuch | Some text ↦ bytes_of text ]

-- The sink took the bytes of the document, or a front of them and then failed, or nothing where there is no such
-- document.
abbrev pub Attaches : Result (Unit {0}) AttachFault → Result (List ℕ) AttachFault → SinkView → SinkView → Type 0
Attaches (Ok _) wanted before after = (bytes : List ℕ) × (wanted ≡ Ok bytes) × WritesAll bytes before after
Attaches (Err faults.NoSuch) wanted before after = (wanted ≡ Err faults.NoSuch) × (after ≡ before)
Attaches (Err faults.NotBase64) wanted before after = (wanted ≡ Err faults.NotBase64) × (after ≡ before)
Attaches (Err faults.WriteFault) wanted before after = (bytes : List ℕ) × (wanted ≡ Ok bytes) × WritesFront bytes before after
Attaches (Err faults.Memory) wanted before after = after ≡ before
