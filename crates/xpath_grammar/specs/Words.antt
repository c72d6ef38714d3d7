-- The words of axes and of tests of a kind are ASCII.
use Rattle.std.specs.Prelude.{◌≡◌, refl}
use Rattle.std.specs.Str.{chars}
use Rattle.xpath_grammar.specs.declared.step.Axis.{Axis}
use Rattle.xpath_grammar.specs.declared.step.Axis.TheVariants as a
use Rattle.xpath_grammar.specs.declared.step.KindTest.{KindTest}
use Rattle.xpath_grammar.specs.declared.step.KindTest.TheVariants as q
use Rattle.xpath_grammar.specs.Grammar.{axis_word, kind_word}

pub chars-axis_word : (axis : Axis) → chars (axis_word axis) ≡ axis_word axis
unfolding chars
chars-axis_word a.Child = refl
chars-axis_word a.Descendant = refl
chars-axis_word a.DescendantOrSelf = refl
chars-axis_word a.Itself = refl
chars-axis_word a.Attribute = refl
chars-axis_word a.Parent = refl
chars-axis_word a.Ancestor = refl
chars-axis_word a.AncestorOrSelf = refl
chars-axis_word a.FollowingSibling = refl
chars-axis_word a.PrecedingSibling = refl
chars-axis_word a.Following = refl
chars-axis_word a.Preceding = refl

pub chars-kind_word : (kind : KindTest) → chars (kind_word kind) ≡ kind_word kind
unfolding chars
chars-kind_word q.Node = refl
chars-kind_word q.Text = refl
chars-kind_word q.Element = refl
chars-kind_word q.Attribute = refl
chars-kind_word q.DocumentNode = refl
