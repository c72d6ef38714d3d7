-- A fault of a document, by its kind and its place.
use Rattle.std.specs.Prelude.{ℕ}
use Rattle.xml_tokens.specs.declared.kind.XmlKind.{XmlKind}
use Rattle.xml_state.specs.declared.fault.XmlFault.{XmlFault}

-- the fault of this kind, behind so many bytes, the byte order mark among them
abbrev pub fault_at : XmlKind → ℕ → XmlFault
fault_at kind place = record { kind = kind; place = record { byte = place } }
