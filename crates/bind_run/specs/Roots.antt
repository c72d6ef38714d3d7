-- Which syntax a document is written in, by the expanded name of its root (CEN/TS 16931-3-2 and 16931-3-3).
use Rattle.std.specs.Prelude.{List, Option, Some, None, Result, Ok, Err, option_and_then, codes, if◌then◌else◌}
use Rattle.inv_base.specs.Tree.{Name, Node}
use Rattle.inv_terms.specs.declared.violations.Name.TheVariants as violations
use Rattle.node_arena.specs.Moves.{tree_node}
use Rattle.bind_rows.specs.declared.names.Namespace.TheVariants as spaces
use Rattle.bind_rows.specs.Namespaces.{uri_of}
use Rattle.bind_meaning.specs.declared.fault.BindKind.TheVariants as kinds
use Rattle.bind_meaning.specs.declared.fault.BindFault.{BindFault}
use Rattle.bind_meaning.specs.Names.{is_spelled}
use Rattle.bind_rows.specs.declared.tables.DocumentType.{DocumentType}
use Rattle.bind_rows.specs.declared.tables.DocumentType.TheVariants as syntaxes

-- the syntax whose root has the name
abbrev pub document_type_named : Name → Option DocumentType
document_type_named name =
    if is_spelled (uri_of spaces.UblInvoice) (codes "Invoice") name then Some syntaxes.Invoice
    else (if is_spelled (uri_of spaces.UblCreditNote) (codes "CreditNote") name then Some syntaxes.CreditNote
    else (if is_spelled (uri_of spaces.CiiInvoice) (codes "CrossIndustryInvoice") name then Some syntaxes.Cii else None))

-- the syntax of a document, by its root, which is the node behind the document's own
abbrev pub document_type_of : List Node → Option DocumentType
document_type_of nodes = option_and_then document_type_named (tree_node nodes 1).name

-- A root of another name is at fault, and no term or group is.
abbrev pub unknown_root : BindFault
unknown_root = record { kind = kinds.UnknownRoot; name = violations.Nothing; node = 1 }

abbrev pub known : Option DocumentType → Result DocumentType BindFault
known None = Err unknown_root
known (Some document_type) = Ok document_type
