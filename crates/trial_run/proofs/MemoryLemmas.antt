-- Documents that are written to memory and read from it.
use Rattle.std.proofs.Common.{◌≡◌, ℕ, List, [], ◌++◌, Option, Some, None, refl, ap, ◌∙◌}
use Rattle.std.specs.Prelude.{encode_utf8_all}
use Rattle.inv_base.specs.Tree.{Node}
use Rattle.inv_base.specs.Memory.{Taken, sink_of}
use Rattle.inv_base.specs.Writing.{WritesAll}
use Rattle.code_lists.specs.CodeFiles.{built_in_lists}
use Rattle.inv_terms.specs.declared.entries.Entry.{Entry}
use Rattle.bind_meaning.specs.declared.tables.Syntax.{Syntax}
use Rattle.bind_meaning.specs.Tables.{rows_of}
use Rattle.bind_meaning.specs.Terms.{terms_of}
use Rattle.bind_write.specs.Documents.{document_text}
use Rattle.bind_carrying.specs.Tables.{target}
use Rattle.bind_run.specs.Reading.{by_root, invoice_by, invoice_of, rows_in}
use Rattle.bind_run.specs.Roots.{document_type_of}
use Rattle.trial_run.specs.declared.reading.Means.{Means}
use Rattle.trial_run.specs.Memory.{written, AreBuiltIn}

pub found-same : {A : Type 0} (x y : A) → Some x ≡ Some y → x ≡ y
found-same x y e = cc

-- ---- written

pub written-kept : (syntax : Syntax) (es : List Entry) (text : List ℕ) (before after : Taken)
    → text ≡ encode_utf8_all (document_text (rows_of (target es syntax)) es) → before.bytes ≡ [] → WritesAll text (sink_of before) (sink_of after)
    → after.bytes ≡ written syntax es
unfolding written
written-kept syntax es text before after is none w =
    found-same after.bytes (before.bytes ++ text) w.told ∙ (λ i. none i ++ is i)

-- ---- read

by-option : {X Y : Type 0} (f g : Option X → Y) → f None ≡ g None → ((x : X) → f (Some x) ≡ g (Some x)) → (o : Option X) → f o ≡ g o
by-option f g none some None = none
by-option f g none some (Some x) = some x

-- by the built-in tables and lists
pub by-built_in : (means : Means) → AreBuiltIn means → (nodes : List Node)
    → invoice_by (rows_in means.tables) nodes means.lists ≡ invoice_of nodes built_in_lists
by-built_in means are nodes =
    by-option (by_root (rows_in means.tables) nodes means.lists) (by_root rows_of nodes means.lists) refl
    (λ table. ap (λ rows. terms_of nodes rows means.lists) (are.tables table)) (document_type_of nodes)
    ∙ ap (invoice_of nodes) are.lists
