-- The functions with one argument by what they are of, which part the definition's cases.
use Rattle.std.specs.Prelude.{not, List, length, map, reverse, Ok, Err}
use Rattle.inv_base.specs.Tree.{Node}
use Rattle.inv_decimal.specs.Arithmetic as d
use Rattle.xpath_grammar.specs.declared.functions.Function.{Function}
use Rattle.xpath_grammar.specs.declared.functions.Function.TheVariants as f
use Rattle.xpath_items.specs.declared.item.Item.{Item}
use Rattle.xpath_items.specs.declared.item.Item.TheVariants as i
use Rattle.xpath_items.specs.declared.outcome.DynError.TheVariants as e
use Rattle.xpath_meaning.specs.Values.{Value, then_, one}
use Rattle.xpath_meaning.specs.Items.{atomised, truth, is_empty}
use Rattle.xpath_meaning.specs.Reading.{type_called}
use Rattle.xpath_meaning.specs.Numbers.{in_range, number, counted}
use Rattle.xpath_meaning.specs.Comparing.{boolean}
use Rattle.xpath_meaning.specs.Collections.{sum, least, greatest, distinct}
use Rattle.xpath_meaning.specs.Texts.{normalised, upper, lower}
use Rattle.xpath_meaning.specs.Functions.{string, text, of_text, of_number, absolute, yes_or_no, name_part, local_part, uri_part}
use Rattle.xpath_values.specs.declared.domains.Domain.{Domain}
use Rattle.xpath_values.specs.declared.domains.Domain.TheVariants as t

abbrev pub called_on_items : List Node → Function → List Item → Value
called_on_items nodes f.Not x = boolean (then_ (truth x) (λ b. Ok (not b)))
called_on_items nodes f.Boolean x = boolean (truth x)
called_on_items nodes f.Exists x = yes_or_no (not (is_empty x))
called_on_items nodes f.Empty x = yes_or_no (is_empty x)
called_on_items nodes f.Count x = counted (length x)
called_on_items nodes f.Reverse x = Ok (reverse x)
called_on_items nodes f.Data x = Ok (atomised nodes x)
called_on_items nodes f.DistinctValues x = Ok (distinct (atomised nodes x))
called_on_items nodes f.LocalName x = name_part nodes local_part x
called_on_items nodes f.NamespaceUri x = name_part nodes uri_part x
called_on_items nodes _ x = Err e.XPTY0004

abbrev pub called_on_text : List Node → Function → List Item → Value
called_on_text nodes f.String x = string nodes x
called_on_text nodes f.StringLength x = of_text nodes (λ s. counted (length s)) x
called_on_text nodes f.NormalizeSpace x = of_text nodes (λ s. text (normalised s)) x
called_on_text nodes f.UpperCase x = of_text nodes (λ s. text (map upper s)) x
called_on_text nodes f.LowerCase x = of_text nodes (λ s. text (map lower s)) x
called_on_text nodes f.XsString x = type_called nodes f.XsString (atomised nodes x)
called_on_text nodes f.XsDecimal x = type_called nodes f.XsDecimal (atomised nodes x)
called_on_text nodes f.XsInteger x = type_called nodes f.XsInteger (atomised nodes x)
called_on_text nodes f.XsDate x = type_called nodes f.XsDate (atomised nodes x)
called_on_text nodes f.XsBoolean x = type_called nodes f.XsBoolean (atomised nodes x)
called_on_text nodes _ x = Err e.XPTY0004

abbrev pub called_on_numbers : List Node → Function → List Item → Value
called_on_numbers nodes f.Abs x = of_number nodes (λ z. one (i.Number (absolute z))) x
called_on_numbers nodes f.Floor x = of_number nodes (λ z. number (in_range (d.rounded_down z))) x
called_on_numbers nodes f.Ceiling x = of_number nodes (λ z. number (in_range (d.rounded_up z))) x
called_on_numbers nodes f.Round x = of_number nodes (λ z. number (in_range (d.rounded z))) x
called_on_numbers nodes f.Sum x = sum (atomised nodes x)
called_on_numbers nodes f.Min x = least (atomised nodes x)
called_on_numbers nodes f.Max x = greatest (atomised nodes x)
called_on_numbers nodes _ x = Err e.XPTY0004

abbrev pub domain : Function → Domain
domain f.Not = t.Items
domain f.Boolean = t.Items
domain f.Exists = t.Items
domain f.Empty = t.Items
domain f.Count = t.Items
domain f.Reverse = t.Items
domain f.Data = t.Items
domain f.DistinctValues = t.Items
domain f.LocalName = t.Items
domain f.NamespaceUri = t.Items
domain f.Abs = t.Numbers
domain f.Floor = t.Numbers
domain f.Ceiling = t.Numbers
domain f.Round = t.Numbers
domain f.Sum = t.Numbers
domain f.Min = t.Numbers
domain f.Max = t.Numbers
domain _ = t.Texts
