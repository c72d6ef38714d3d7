-- Rows that part by their names part in the lines, both ways round.
use Rattle.std.proofs.Common.{◌≡◌, Bool, true, false, ◌&&◌, List, [], ◌∷◌, refl, sym, ap, ◌∙◌}
use Rattle.std.specs.Str.{bytes_eq}
use Rattle.bind_rows.specs.declared.names.Namespace.{Namespace}
use Rattle.bind_rows.specs.declared.names.Namespace.TheVariants as spaces
use Rattle.bind_rows.specs.declared.names.ElementName.{ElementName}
use Rattle.bind_rows.specs.declared.rows.Step.{Step}
use Rattle.bind_rows.specs.Same.{same_namespace, same_name, same_step, choose}
use Rattle.bind_rows.specs.Namespaces.{uri_of}
use Rattle.binding_laws.specs.Apart.{is_called}
use Rattle.extension_laws.specs.Ways.{part}
use Rattle.bind_table.specs.Crossings.{part_by_name}

-- namespaces are told by their names
uris : (a b : Namespace) → bytes_eq (uri_of a) (uri_of b) ≡ same_namespace a b
uris spaces.UblInvoice spaces.UblInvoice = refl
uris spaces.UblInvoice spaces.UblCreditNote = refl
uris spaces.UblInvoice spaces.UblAggregate = refl
uris spaces.UblInvoice spaces.UblBasic = refl
uris spaces.UblInvoice spaces.CiiInvoice = refl
uris spaces.UblInvoice spaces.CiiAggregate = refl
uris spaces.UblInvoice spaces.CiiUnqualified = refl
uris spaces.UblInvoice spaces.CiiQualified = refl
uris spaces.UblCreditNote spaces.UblInvoice = refl
uris spaces.UblCreditNote spaces.UblCreditNote = refl
uris spaces.UblCreditNote spaces.UblAggregate = refl
uris spaces.UblCreditNote spaces.UblBasic = refl
uris spaces.UblCreditNote spaces.CiiInvoice = refl
uris spaces.UblCreditNote spaces.CiiAggregate = refl
uris spaces.UblCreditNote spaces.CiiUnqualified = refl
uris spaces.UblCreditNote spaces.CiiQualified = refl
uris spaces.UblAggregate spaces.UblInvoice = refl
uris spaces.UblAggregate spaces.UblCreditNote = refl
uris spaces.UblAggregate spaces.UblAggregate = refl
uris spaces.UblAggregate spaces.UblBasic = refl
uris spaces.UblAggregate spaces.CiiInvoice = refl
uris spaces.UblAggregate spaces.CiiAggregate = refl
uris spaces.UblAggregate spaces.CiiUnqualified = refl
uris spaces.UblAggregate spaces.CiiQualified = refl
uris spaces.UblBasic spaces.UblInvoice = refl
uris spaces.UblBasic spaces.UblCreditNote = refl
uris spaces.UblBasic spaces.UblAggregate = refl
uris spaces.UblBasic spaces.UblBasic = refl
uris spaces.UblBasic spaces.CiiInvoice = refl
uris spaces.UblBasic spaces.CiiAggregate = refl
uris spaces.UblBasic spaces.CiiUnqualified = refl
uris spaces.UblBasic spaces.CiiQualified = refl
uris spaces.CiiInvoice spaces.UblInvoice = refl
uris spaces.CiiInvoice spaces.UblCreditNote = refl
uris spaces.CiiInvoice spaces.UblAggregate = refl
uris spaces.CiiInvoice spaces.UblBasic = refl
uris spaces.CiiInvoice spaces.CiiInvoice = refl
uris spaces.CiiInvoice spaces.CiiAggregate = refl
uris spaces.CiiInvoice spaces.CiiUnqualified = refl
uris spaces.CiiInvoice spaces.CiiQualified = refl
uris spaces.CiiAggregate spaces.UblInvoice = refl
uris spaces.CiiAggregate spaces.UblCreditNote = refl
uris spaces.CiiAggregate spaces.UblAggregate = refl
uris spaces.CiiAggregate spaces.UblBasic = refl
uris spaces.CiiAggregate spaces.CiiInvoice = refl
uris spaces.CiiAggregate spaces.CiiAggregate = refl
uris spaces.CiiAggregate spaces.CiiUnqualified = refl
uris spaces.CiiAggregate spaces.CiiQualified = refl
uris spaces.CiiUnqualified spaces.UblInvoice = refl
uris spaces.CiiUnqualified spaces.UblCreditNote = refl
uris spaces.CiiUnqualified spaces.UblAggregate = refl
uris spaces.CiiUnqualified spaces.UblBasic = refl
uris spaces.CiiUnqualified spaces.CiiInvoice = refl
uris spaces.CiiUnqualified spaces.CiiAggregate = refl
uris spaces.CiiUnqualified spaces.CiiUnqualified = refl
uris spaces.CiiUnqualified spaces.CiiQualified = refl
uris spaces.CiiQualified spaces.UblInvoice = refl
uris spaces.CiiQualified spaces.UblCreditNote = refl
uris spaces.CiiQualified spaces.UblAggregate = refl
uris spaces.CiiQualified spaces.UblBasic = refl
uris spaces.CiiQualified spaces.CiiInvoice = refl
uris spaces.CiiQualified spaces.CiiAggregate = refl
uris spaces.CiiQualified spaces.CiiUnqualified = refl
uris spaces.CiiQualified spaces.CiiQualified = refl

pub called-name : (a b : ElementName) → is_called a b ≡ same_name a b
called-name a b = by (bytes_eq a.local b.local) (same_namespace a.namespace b.namespace) (uris a.namespace b.namespace)
  where
    by : (x y : Bool) → bytes_eq (uri_of a.namespace) (uri_of b.namespace) ≡ y
        → (elim x [ true ↦ bytes_eq (uri_of a.namespace) (uri_of b.namespace) | false ↦ false ]) ≡ (y && x)
    by true true e = e
    by true false e = e
    by false true e = refl
    by false false e = refl

pub part-named : (p q : List Step) → part_by_name p q ≡ part p q
part-named [] q = refl
part-named (s ∷ p) [] = refl
part-named (s ∷ p) (t ∷ q) = by (same_name s.name t.name) (same_step s t) (part-named p q) ∙
    ap (λ b. elim b [ true ↦ same_step s t && part p q | false ↦ true ]) (sym (called-name s.name t.name))
  where
    by : (a b : Bool) → part_by_name p q ≡ part p q
        → choose a (λ _. choose b (λ _. part_by_name p q) (λ _. false)) (λ _. true) ≡ elim a [ true ↦ b && part p q | false ↦ true ]
    by true true e = e
    by true false e = refl
    by false b e = refl
