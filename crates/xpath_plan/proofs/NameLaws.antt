-- The table of names.
use Rattle.std.proofs.Common.{◌≡◌, ℕ, ◌<◌, Bool, true, false, List, ◌++◌, Option, Some, None, length, slice_get, option_map, refl, sym, ap, ◌∙◌, arith}
use Rattle.std.proofs.Common.{length-append, ◌&&◌, string_bytes, chars}
use Rattle.std.specs.Str.{bytes_eq}
use Rattle.std.proofs.lemmas.List.{get_or_append_left}
use Rattle.std.proofs.lemmas.Option.{slice_get_within, slice_get-get_or, get_or_from_slice_get, slice_get-map}
use Rattle.std.proofs.lemmas.Slice.Eq.{bytes_eq-Decides}
use Rattle.inv_base.specs.Tree.{Name}
use Rattle.xpath_meaning.specs.Expressions as e
use Rattle.xpath_meaning.specs.Expressions.{NodeTest}
use Rattle.xpath_plan.specs.declared.names.Kept.{Kept}
use Rattle.xpath_plan.specs.declared.plan_node.StepTest.TheVariants as t
use Rattle.xpath_plan.specs.Names.{name_of, names_of}
use Rattle.xpath_plan.specs.Plans.{test_seen}

both : (a b : Bool) → (a && b) ≡ true → (a ≡ true) × (b ≡ true)
both true b e = (refl, e)
both false b e = cc

-- the name that is kept is the one that was sought
pub stored-name : (uri local : List ℕ) (sought kept : Kept) (keys : List Kept) (n : ℕ) (same : Bool)
    → same ≡ (bytes_eq (string_bytes sought.uri) (string_bytes kept.uri) && bytes_eq (string_bytes sought.local) (string_bytes kept.local))
    → string_bytes sought.uri ≡ uri → string_bytes sought.local ≡ local → same ≡ true → slice_get keys n ≡ Some kept
    → slice_get (names_of keys) n ≡ Some (record { uri = chars uri; local = chars local })
stored-name uri local sought kept keys n same is uri_is local_is holds at =
    let parts = both (bytes_eq (string_bytes sought.uri) (string_bytes kept.uri)) (bytes_eq (string_bytes sought.local) (string_bytes kept.local))
    (sym is ∙ holds) in
    let first : string_bytes kept.uri ≡ uri = sym ((bytes_eq-Decides (string_bytes sought.uri) (string_bytes kept.uri)).0 parts.0) ∙ uri_is in
    let second : string_bytes kept.local ≡ local = sym ((bytes_eq-Decides (string_bytes sought.local) (string_bytes kept.local)).0 parts.1) ∙ local_is in
    slice_get-map name_of keys n ∙ (ap (option_map name_of) at ∙ (λ j. Some (record { uri = chars (first j); local = chars (second j) })))

-- a name stays where it is, however many come behind
pub named-seen : (names later : List Name) (n : ℕ) (name : Name) → slice_get names n ≡ Some name → test_seen (names ++ later) (t.Named n) ≡ Some (e.named name)
named-seen names later n name at =
    let within : n < length names = slice_get_within names n name at in
    let longer : n < length (names ++ later) = omega (arith, within, length-append names later) in
    ap (λ (found : Option Name). elim found as (λ _. Option NodeTest) [ None ↦ None | Some name ↦ Some (e.named name) ])
    (slice_get-get_or (names ++ later) n name longer ∙ ap Some (get_or_append_left names later name n within ∙ get_or_from_slice_get names n name name at))
