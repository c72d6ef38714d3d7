-- The definitions on worked texts.
use Rattle.std.specs.Prelude.{◌≡◌, true, false, codes, refl}
use Rattle.page_laws.specs.Tags.{each_begins_one, has_tags_alone, has_references_alone, values_in}

tagged : has_tags_alone (codes "<p><bdi title=\"BT-1 Invoice number\">A&lt;b> \"1\"</bdi></p>\n") ≡ true
unfolding has_tags_alone each_begins_one
tagged = refl

script : has_tags_alone (codes "<p><script>1</script></p>") ≡ false
unfolding has_tags_alone each_begins_one
script = refl

-- A value's quote would end its attribute.
quoted : has_tags_alone (codes "<a title=\"x\" download=\"y\" onclick=\"z\" href=\"data:text/csv;base64,\">") ≡ false
unfolding has_tags_alone each_begins_one
quoted = refl

saved : has_tags_alone (codes "<a title=\"x\" download=\"y &quot;z\" href=\"data:text/csv;base64,YQ==\">save</a>") ≡ true
unfolding has_tags_alone each_begins_one
saved = refl

-- A tag that isn't whole is none.
cut : has_tags_alone (codes "<p><bdi title=\"x") ≡ false
unfolding has_tags_alone each_begins_one
cut = refl

referring : has_references_alone (codes "a &lt; b &amp;&amp; c") ≡ true
unfolding has_references_alone each_begins_one
referring = refl

bare_ampersand : has_references_alone (codes "a & b") ≡ false
unfolding has_references_alone each_begins_one
bare_ampersand = refl

two_values : values_in (codes "<p><bdi title=\"x\">a</bdi> <a title=\"y\" download=\"\" href=\"data:text/csv;base64,\">save</a> &lt;bdi </p>") ≡ 2
unfolding values_in
two_values = refl
