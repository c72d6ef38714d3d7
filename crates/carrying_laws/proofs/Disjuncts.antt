-- From one way in which a row is covered to what it writes of an entry.
use Rattle.std.proofs.Common.{◌≡◌, Bool, true, false, ◌&&◌, ◌||◌, List, ◌⊎◌, inl, inr, refl, ap, ◌∙◌}
use Rattle.std.specs.List.{list_any}
use Rattle.std.proofs.lemmas.Bool.{false≢true}
use Rattle.term_table.specs.declared.terms.Term.{Term}
use Rattle.term_table.specs.SemanticModel.{same_term}
use Rattle.inv_terms.specs.declared.entries.Entry.{Entry}
use Rattle.bind_rows.specs.declared.rows.Content.{Content}
use Rattle.bind_rows.specs.declared.rows.Content.TheVariants as contents
use Rattle.bind_rows.specs.declared.rows.Row.{Row}
use Rattle.bind_table.specs.Lines.{Plan}
use Rattle.bind_meaning.specs.Trees.{either}
use Rattle.bind_meaning.specs.Values.{subject_code}
use Rattle.binding_laws.specs.Known.{known_of}
use Rattle.binding_laws.specs.Plain.{is_plain_in, is_plain_with, is_spread_in, is_spread_with, is_plain_attribute_in, is_plain_attribute_with}
use Rattle.binding_laws.specs.Plain.{is_spread_attribute_in, is_written_by}
use Rattle.binding_laws.specs.Covered.{is_filled_in, is_total_in, is_pair_in, is_noted_in, writes_beside, writes_known_beside, writes_known, writes_code}
use Rattle.binding_laws.specs.Covered.{writes_plainly, is_written_plainly_in}
use Rattle.binding_laws.proofs.ReachLemmas.{Among, any-among}
use Rattle.carrying_laws.specs.Complete.{also, is_covered_for, is_covered_beside}

-- ---- truth values

pub either-or : (a : Bool) (b : Unit {0} → Bool) → either a b ≡ true → (a ≡ true) ⊎ (b tt ≡ true)
either-or true b h = inl refl
either-or false b h = inr h

pub also-both : (a : Bool) (b : Unit {0} → Bool) → also a b ≡ true → (a ≡ true) × (b tt ≡ true)
also-both true b h = (refl, h)
also-both false b h = absurd (false≢true h)

pub or-first : (a b : Bool) → a ≡ true → (a || b) ≡ true
or-first a b h = ap (λ x. x || b) h

pub or-second : (a b : Bool) → b ≡ true → (a || b) ≡ true
or-second true b h = refl
or-second false b h = h

pub or-either : (a b : Bool) → (a || b) ≡ true → (a ≡ true) ⊎ (b ≡ true)
or-either true b h = inl refl
or-either false b h = inr h

pub and-true : (a b : Bool) → a ≡ true → b ≡ true → (a && b) ≡ true
and-true a b h k = ap (λ x. x && b) h ∙ k

-- ---- a row at an element

-- one of the ways, where ways beside other rows stand between them
ways : (p s f t v a b n w z y c : Bool) →
    either p (λ _. either s (λ _. either f (λ _. either t (λ _. either v (λ _. either a (λ _. either b (λ _. n))))))) ≡ true → w ≡ true
    → ((p && w) || ((s && w) || (z || ((f && w) || ((t && w) || ((v && w) || (((a && w) || ((b && w) || y)) || ((n && w) || c)))))))) ≡ true
ways true s f t v a b n w z y c h k = or-first w _ k
ways false true f t v a b n w z y c h k = or-first w _ k
ways false false true t v a b n w z y c h k = or-second z _ (or-first w _ k)
ways false false false true v a b n w z y c h k = or-second z _ (or-first w _ k)
ways false false false false true a b n w z y c h k = or-second z _ (or-first w _ k)
ways false false false false false true b n w z y c h k = or-second z _ (or-first (w || ((b && w) || y)) _ (or-first w _ k))
ways false false false false false false true n w z y c h k = or-second z _ (or-first (w || y) _ (or-first w _ k))
ways false false false false false false false n w z y c h k = or-second z _ (or-second y _ (or-first (n && w) _ (and-true n w h k)))

pub element-writes : (plan : Plan) (rows : List Row) (es : List Entry) (e : Entry) (row : Row) → is_covered_for plan (known_of rows) rows e.term row ≡ true →
    is_written_by row e.term es e.context ≡ true → writes_plainly plan rows es e row ≡ true
element-writes plan rows es e row h k =
    ways (is_plain_in plan row e.term) (is_spread_in plan row e.term) (is_filled_in plan row e.term) (is_total_in plan rows row e.term)
    (is_pair_in plan rows row e.term)
    (is_plain_with (known_of rows) plan row e.term) (is_spread_with (known_of rows) plan row e.term) (is_noted_in plan rows row e.term)
    (is_written_by row e.term es e.context)
    (list_any (writes_beside plan es e row) rows) (list_any (writes_known_beside (known_of rows) plan es e row) rows) (writes_code plan rows es e row) h k

-- ---- a row at an attribute

beside-main : (plan : Plan) (es : List Entry) (e : Entry) (row main : Row) (term : Term) → main.content ≡ contents.Term term
    → (is_plain_attribute_in plan row e.term main term || is_spread_attribute_in plan row e.term main term) ≡ true → is_written_by main term es e.context ≡ true
    → writes_beside plan es e row main ≡ true
beside-main plan es e row main term content h k =
    ap (λ (x : Content). elim x [
      | (contents.Term t) ↦ (is_plain_attribute_in plan row e.term main t || is_spread_attribute_in plan row e.term main t) && is_written_by main t es e.context
      | (contents.Constant text) ↦ false
    ]) content
    ∙ and-true (is_plain_attribute_in plan row e.term main term || is_spread_attribute_in plan row e.term main term) (is_written_by main term es e.context) h k

known-beside : (plan : Plan) (rows : List Row) (es : List Entry) (e : Entry) (row main : Row) (term : Term) → main.content ≡ contents.Term term
    → is_plain_attribute_with (known_of rows) plan row e.term main term ≡ true → is_written_by main term es e.context ≡ true →
    writes_known_beside (known_of rows) plan es e row main ≡ true
known-beside plan rows es e row main term content h k =
    ap (λ (x : Content). elim x [
      | (contents.Term t) ↦ is_plain_attribute_with (known_of rows) plan row e.term main t && is_written_by main t es e.context
      | (contents.Constant text) ↦ false
    ]) content
    ∙ and-true (is_plain_attribute_with (known_of rows) plan row e.term main term) (is_written_by main term es e.context) h k

behind-six : (a b c d e f g : Bool) → g ≡ true → (a || (b || (c || (d || (e || (f || g)))))) ≡ true
behind-six a b c d e f g h =
    or-second a (b || (c || (d || (e || (f || g)))))
    (or-second b (c || (d || (e || (f || g)))) (or-second c (d || (e || (f || g))) (or-second d (e || (f || g)) (or-second e (f || g) (or-second f g h)))))

pub attribute-writes : (plan : Plan) (rows : List Row) (es : List Entry) (e : Entry) (row main : Row) (term : Term) → Among main rows →
    main.content ≡ contents.Term term
    → is_covered_beside plan (known_of rows) e.term row main term ≡ true → is_written_by main term es e.context ≡ true →
    writes_plainly plan rows es e row ≡ true
attribute-writes plan rows es e row main term a content h k =
    go (is_plain_attribute_in plan row e.term main term) refl (is_spread_attribute_in plan row e.term main term) refl h
  where
    plainly : (is_plain_attribute_in plan row e.term main term || is_spread_attribute_in plan row e.term main term) ≡ true →
        writes_plainly plan rows es e row ≡ true
    plainly p =
        or-second (is_plain_in plan row e.term && is_written_by row e.term es e.context) _
        (or-second (is_spread_in plan row e.term && is_written_by row e.term es e.context) _
        (or-first (list_any (writes_beside plan es e row) rows) _
        (any-among (writes_beside plan es e row) main rows (beside-main plan es e row main term content p k) a)))

    by-known : is_plain_attribute_with (known_of rows) plan row e.term main term ≡ true → writes_plainly plan rows es e row ≡ true
    by-known p =
        behind-six (is_plain_in plan row e.term && is_written_by row e.term es e.context)
        (is_spread_in plan row e.term && is_written_by row e.term es e.context) (list_any (writes_beside plan es e row) rows)
        (is_filled_in plan row e.term && is_written_by row e.term es e.context) (is_total_in plan rows row e.term && is_written_by row e.term es e.context)
        (is_pair_in plan rows row e.term && is_written_by row e.term es e.context) _
        (or-first (writes_known (known_of rows) plan rows es e row) _
        (or-second (is_plain_with (known_of rows) plan row e.term && is_written_by row e.term es e.context) _
        (or-second (is_spread_with (known_of rows) plan row e.term && is_written_by row e.term es e.context) _
        (any-among (writes_known_beside (known_of rows) plan es e row) main rows (known-beside plan rows es e row main term content p k) a))))

    go : (b : Bool) → is_plain_attribute_in plan row e.term main term ≡ b → (c : Bool) → is_spread_attribute_in plan row e.term main term ≡ c
        → either b (λ _. either c (λ _. is_plain_attribute_with (known_of rows) plan row e.term main term)) ≡ true → writes_plainly plan rows es e row ≡ true
    go true is c at w = plainly (or-first (is_plain_attribute_in plan row e.term main term) _ is)
    go false is true at w = plainly (or-second (is_plain_attribute_in plan row e.term main term) _ at)
    go false is false at w = by-known w

-- ---- a subject code

pub code-writes : (plan : Plan) (rows : List Row) (es : List Entry) (e : Entry) (row : Row) (term : Term) → row.content ≡ contents.Term term →
    same_term e.term subject_code ≡ true
    → is_noted_in plan rows row term ≡ true → is_written_by row term es e.context ≡ true → writes_plainly plan rows es e row ≡ true
code-writes plan rows es e row term content code h k =
    behind-six (is_plain_in plan row e.term && is_written_by row e.term es e.context) (is_spread_in plan row e.term && is_written_by row e.term es e.context)
    (list_any (writes_beside plan es e row) rows)
    (is_filled_in plan row e.term && is_written_by row e.term es e.context) (is_total_in plan rows row e.term && is_written_by row e.term es e.context)
    (is_pair_in plan rows row e.term && is_written_by row e.term es e.context) _
    (or-second (writes_known (known_of rows) plan rows es e row) _
    (or-second (is_noted_in plan rows row e.term && is_written_by row e.term es e.context) (writes_code plan rows es e row)
    (ap (λ (x : Content). elim x [
      | (contents.Term t) ↦ same_term e.term subject_code && (is_noted_in plan rows row t && is_written_by row t es e.context)
      | (contents.Constant text) ↦ false
    ]) content
    ∙ and-true (same_term e.term subject_code) (is_noted_in plan rows row term && is_written_by row term es e.context) code
    (and-true (is_noted_in plan rows row term) (is_written_by row term es e.context) h k))))

-- ---- the table

pub written-by-row : (plan : Plan) (rows : List Row) (es : List Entry) (e : Entry) (row : Row) → Among row rows → writes_plainly plan rows es e row ≡ true →
    is_written_plainly_in plan rows es e ≡ true
written-by-row plan rows es e row a h = any-among (writes_plainly plan rows es e) row rows h a
