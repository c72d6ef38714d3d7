-- Keys as they are kept and as they are seen.
use Rattle.std.proofs.Common.{◌≡◌, ℕ, Bool, true, false, ◌&&◌, ◌||◌, nat_eq, List, [], ◌∷◌, ◌++◌, map, chars, encode_utf8_all, refl, ap, sym, ◌∙◌}
use Rattle.std.proofs.Common.{if◌then◌else◌}
use Rattle.std.specs.List.{list_any}
use Rattle.std.specs.Str.{bytes_eq}
use Rattle.std.proofs.lemmas.List.{map-append}
use Rattle.std.proofs.lemmas.Slice.Eq.{bytes_eq-Decides}
use Rattle.std.specs.Bool.{one_answer}
use Rattle.std.proofs.lemmas.Bool.Decides.{Decides-like}
use Rattle.schematron_entries.specs.declared.keys.Sort.{Sort}
use Rattle.schematron_entries.specs.declared.keys.Sort.TheVariants as t
use Rattle.schematron_entries.specs.declared.keys.Key.{Key}
use Rattle.schematron_entries.specs.contracts.keys.KeyPartialEq.TheImpl as key_eq
use Rattle.schematron_entries.specs.contracts.keys.SortPartialEq.TheImpl as sort_eq
use Rattle.schematron_entries.specs.Keys as spec

text_same : (a b : List ℕ) → encode_utf8_all (chars a) ≡ a → encode_utf8_all (chars b) ≡ b → bytes_eq a b ≡ bytes_eq (chars a) (chars b)
text_same a b ta tb = one_answer (bytes_eq a b) (bytes_eq (chars a) (chars b)) (bytes_eq-Decides a b)
    (Decides-like (bytes_eq (chars a) (chars b)) (λ e. sym ta ∙ (ap encode_utf8_all e ∙ tb)) (λ e. ap chars e) (bytes_eq-Decides (chars a) (chars b)))

sort_same : (a b : Sort) → sort_eq.eq-value.it a b ≡ spec.is_same_sort a b
sort_same t.Patterns t.Patterns = refl
sort_same t.Patterns _ = refl
sort_same t.Rules t.Rules = refl
sort_same t.Rules _ = refl
sort_same t.Phases t.Phases = refl
sort_same t.Phases _ = refl
sort_same t.Variables t.Variables = refl
sort_same t.Variables _ = refl
sort_same t.Judged t.Judged = refl
sort_same t.Judged _ = refl
sort_same t.AbstractPatterns t.AbstractPatterns = refl
sort_same t.AbstractPatterns _ = refl
sort_same t.AbstractRules t.AbstractRules = refl
sort_same t.AbstractRules _ = refl

pub key_same : (a b : Key) → encode_utf8_all (chars a.name.now) ≡ a.name.now → encode_utf8_all (chars b.name.now) ≡ b.name.now
    → key_eq.eq-value.it a b ≡ spec.is_same (spec.seen_key a) (spec.seen_key b)
key_same a b ta tb = λ i. sort_same a.sort b.sort i && (nat_eq a.reach b.reach && text_same a.name.now b.name.now ta tb i)

pub any_same : (k : Key) (keys : List Key) → encode_utf8_all (chars k.name.now) ≡ k.name.now → spec.AreTexts keys
    → list_any (key_eq.eq-value.it k) keys ≡ list_any (spec.is_same (spec.seen_key k)) (map spec.seen_key keys)
any_same k [] t ts = refl
any_same k (m ∷ keys) t ts = λ i. key_same k m t ts.0 i || any_same k keys t ts.1 i

seen_put : (k : Key) (keys : List Key) (b : Bool) →
    map spec.seen_key (if b then keys else keys ++ k ∷ []) ≡ (if b then map spec.seen_key keys else map spec.seen_key keys ++ spec.seen_key k ∷ [])
seen_put k keys true = refl
seen_put k keys false = map-append spec.seen_key keys (k ∷ [])

pub put_same : (k : Key) (keys more : List Key) (seen : List spec.SeenKey) → encode_utf8_all (chars k.name.now) ≡ k.name.now → spec.AreTexts keys →
    map spec.seen_key keys ≡ seen
    → more ≡ (if list_any (key_eq.eq-value.it k) keys then keys else keys ++ k ∷ []) → map spec.seen_key more ≡ spec.with_key seen (spec.seen_key k)
put_same k keys more seen t ts v e = ap (map spec.seen_key) e ∙ (seen_put k keys (list_any (key_eq.eq-value.it k) keys)
    ∙ (ap (λ (b : Bool). if b then map spec.seen_key keys else map spec.seen_key keys ++ spec.seen_key k ∷ []) (any_same k keys t ts) ∙
    ap (λ x. spec.with_key x (spec.seen_key k)) v))
