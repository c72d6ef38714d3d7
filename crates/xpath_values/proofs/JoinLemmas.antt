-- Texts joined.
use Rattle.std.proofs.Common.{◌≡◌, ℕ, zero, suc, ◌+◌, ◌<◌, ◌≤◌, Bool, true, false, List, [], ◌∷◌, ◌++◌, length, map, drop, get_or, Result, Ok, Err, refl, ap}
use Rattle.std.proofs.Common.{sym, ◌∙◌, subst, arith, append_assoc}
use Rattle.std.specs.List.{list_all}
use Rattle.std.proofs.lemmas.Bool.{false≢true}
use Rattle.std.proofs.lemmas.List.{append-nil, at_drop_all}
use Rattle.inv_base.specs.Tree.{Node}
use Rattle.xpath_items.specs.declared.fault.Fault.{Fault}
use Rattle.xpath_items.specs.declared.fault.Fault.TheVariants as f
use Rattle.xpath_items.specs.declared.item.Item.{Item}
use Rattle.xpath_items.specs.declared.item.Item.TheVariants as i
use Rattle.xpath_items.specs.declared.outcome.DynError.{DynError}
use Rattle.xpath_items.specs.declared.outcome.DynError.TheVariants as e
use Rattle.xpath_items.specs.Faults.{Gives}
use Rattle.xpath_meaning.specs.Values.{then_}
use Rattle.xpath_meaning.specs.Collections.{all_taken}
use Rattle.xpath_meaning.specs.Items.{atomised}
use Rattle.xpath_meaning.specs.Functions.{concatenated, string_in, string_join, text_argument, text}
use Rattle.xpath_meaning.specs.Texts.{behind_separator, with_separator}
use Rattle.xpath_operators.specs.Nodes.{AreWithin, AllWithin}
use Rattle.xpath_values.specs.Alike.{is_text, text_in, one_text, joined_by}
use Rattle.xpath_values.proofs.CharacterLemmas.{rest_at}

-- strings and untyped texts

pub texts_taken : (items : List Item) → list_all is_text items ≡ true → all_taken string_in items ≡ Ok (map text_in items)
texts_taken [] h = refl
texts_taken (i.Node n ∷ items) h = absurd (false≢true h)
texts_taken (i.Boolean b ∷ items) h = absurd (false≢true h)
texts_taken (i.Number z ∷ items) h = absurd (false≢true h)
texts_taken (i.String s ∷ items) h = ap (λ r. then_ r (λ ys. Ok (s ∷ ys))) (texts_taken items h)
texts_taken (i.Untyped s ∷ items) h = ap (λ r. then_ r (λ ys. Ok (s ∷ ys))) (texts_taken items h)
texts_taken (i.Date day ∷ items) h = absurd (false≢true h)

pub texts_refused : (items : List Item) → list_all is_text items ≡ false → all_taken string_in items ≡ Err e.XPTY0004
texts_refused [] h = absurd (false≢true (sym h))
texts_refused (i.Node n ∷ items) h = refl
texts_refused (i.Boolean b ∷ items) h = refl
texts_refused (i.Number z ∷ items) h = refl
texts_refused (i.String s ∷ items) h = ap (λ r. then_ r (λ ys. Ok (s ∷ ys))) (texts_refused items h)
texts_refused (i.Untyped s ∷ items) h = ap (λ r. then_ r (λ ys. Ok (s ∷ ys))) (texts_refused items h)
texts_refused (i.Date day ∷ items) h = refl

-- `concat`

then_ok : (r : Result (List ℕ) DynError) → r ≡ then_ r (λ t. Ok t)
then_ok (Ok t) = refl
then_ok (Err error) = refl

-- what is behind the text
abbrev behind : List ℕ → Result (List ℕ) DynError → Result (List ℕ) DynError
behind s r = then_ r (λ t. Ok (s ++ t))

concat_step : (nodes : List Node) (x : List Item) (arguments : List (List Item)) →
    concatenated nodes (x ∷ arguments) ≡ then_ (one_text nodes x) (λ s. behind s (concatenated nodes arguments))
concat_step nodes [] arguments = then_ok (concatenated nodes arguments)
concat_step nodes (x ∷ []) arguments = refl
concat_step nodes (x ∷ (y ∷ items)) arguments = refl

behind_both : (out s : List ℕ) (r : Result (List ℕ) DynError) → behind out (behind s r) ≡ behind (out ++ s) r
behind_both out s (Ok t) = ap Ok (sym (append_assoc out s t))
behind_both out s (Err error) = refl

pub concat_more : (nodes : List Node) (arguments : List (List Item)) (k : ℕ) (x : List Item) (out s grown : List ℕ) → k < length arguments →
    x ≡ get_or arguments k x
    → behind out (concatenated nodes (drop k arguments)) ≡ concatenated nodes arguments → one_text nodes x ≡ Ok s → grown ≡ out ++ s
    → behind grown (concatenated nodes (drop (k + 1) arguments)) ≡ concatenated nodes arguments
concat_more nodes arguments k x out s grown l at h g e =
    ap (λ t. behind t (concatenated nodes (drop (k + 1) arguments))) e
    ∙ (sym (behind_both out s (concatenated nodes (drop (k + 1) arguments)))
    ∙ (sym (ap (behind out) (ap (concatenated nodes) (rest_at arguments k x (l, at)) ∙
    (concat_step nodes x (drop (k + 1) arguments) ∙ ap (λ r. then_ r (λ t. behind t (concatenated nodes (drop (k + 1) arguments)))) g))) ∙ h))

pub concat_erred : (nodes : List Node) (arguments : List (List Item)) (k : ℕ) (x : List Item) (out : List ℕ) (fault : Fault) → k < length arguments →
    x ≡ get_or arguments k x
    → behind out (concatenated nodes (drop k arguments)) ≡ concatenated nodes arguments → Gives (Err fault) (one_text nodes x) →
    Gives (Err fault) (concatenated nodes arguments)
concat_erred nodes arguments k x out f.Memory l at h g = tt
concat_erred nodes arguments k x out (f.Error error) l at h g =
    sym h ∙ ap (behind out) (ap (concatenated nodes) (rest_at arguments k x (l, at)) ∙
    (concat_step nodes x (drop (k + 1) arguments) ∙ ap (λ r. then_ r (λ t. behind t (concatenated nodes (drop (k + 1) arguments)))) g))

pub concat_end : (nodes : List Node) (arguments : List (List Item)) (k : ℕ) (out : List ℕ) → length arguments ≤ k →
    behind out (concatenated nodes (drop k arguments)) ≡ concatenated nodes arguments → concatenated nodes arguments ≡ Ok out
concat_end nodes arguments k out l h = sym h ∙ (at_drop_all (λ x. behind out (concatenated nodes x)) arguments k l ∙ ap Ok (append-nil out))

pub value_within : (count : ℕ) (values : List (List Item)) (k : ℕ) (x : List Item) → AllWithin count values → k < length values → x ≡ get_or values k x →
    AreWithin count x
value_within count [] k x h l at = absurd (omega arith)
value_within count (y ∷ values) zero x h l at = subst (AreWithin count) (sym at) h.0
value_within count (y ∷ values) (suc k) x h l at = value_within count values k x h.1 (omega arith) at

-- separators

pub separated_more : (separator : List ℕ) (items : List Item) (k : ℕ) (x : Item) (start middle out grown whole : List ℕ) → k < length items →
    x ≡ get_or items k x
    → out ++ behind_separator separator (map text_in (drop k items)) ≡ whole → middle ≡ out ++ separator → grown ≡ middle ++ text_in x
    → grown ++ behind_separator separator (map text_in (drop (k + 1) items)) ≡ whole
separated_more separator items k x start middle out grown whole l at h m g =
    ap (λ t. t ++ behind_separator separator (map text_in (drop (k + 1) items))) (g ∙ ap (λ t. t ++ text_in x) m)
    ∙ (append_assoc (out ++ separator) (text_in x) (behind_separator separator (map text_in (drop (k + 1) items)))
    ∙ (append_assoc out separator (text_in x ++ behind_separator separator (map text_in (drop (k + 1) items)))
    ∙ (sym (ap (λ t. out ++ behind_separator separator (map text_in t)) (rest_at items k x (l, at))) ∙ h)))

pub join_refused : (nodes : List Node) (x y texts : List Item) (b : Bool) → texts ≡ atomised nodes x → b ≡ list_all is_text texts → b ≡ false →
    string_join nodes x y ≡ Err e.XPTY0004
join_refused nodes x y texts b same e h =
    ap (λ r. then_ r (λ ts. then_ (text_argument nodes y) (λ separator. text (with_separator separator ts))))
    (ap (all_taken string_in) (sym same) ∙ texts_refused texts (sym e ∙ h))

pub join_goes : (nodes : List Node) (x y texts : List Item) (b : Bool) (r : Result (List Item) Fault) → texts ≡ atomised nodes x → b ≡ list_all is_text texts →
    b ≡ true
    → Gives r (joined_by nodes texts y) → Gives r (string_join nodes x y)
join_goes nodes x y texts b r same e h g =
    subst (Gives r) (sym (ap (λ t. then_ t (λ ts. then_ (text_argument nodes y) (λ separator. text (with_separator separator ts))))
    (ap (all_taken string_in) (sym same) ∙ texts_taken texts (sym e ∙ h)))) g

pub concat_start : (out : List ℕ) (r : Result (List ℕ) DynError) → out ≡ [] → behind out r ≡ r
concat_start out r e = ap (λ s. behind s r) e ∙ sym (then_ok r)
