use Rattle.std.proofs.Common.{refl}
use Rattle.std.specs.Prelude.{codes}
use Rattle.std.specs.Str.{chars}
use Rattle.bind_terms.proofs.Images.{written, first-image, second-image, third-image, no-image}
use Rattle.bind_terms.proofs.values.image_of.Goals as goal

pub returns-then-is_same_text : goal.returns-then-is_same_text
returns-then-is_same_text c =
    first-image _ (chars c.args.written.now)
    (written (codes "5") (chars c.args.written.now) _ _ refl c.is_same_text.ensures c.if-is_same_text.true) c.some_code.ensures

pub returns-then-is_same_text-2 : goal.returns-then-is_same_text-2
returns-then-is_same_text-2 c =
    second-image _ (chars c.args.written.now) (written (codes "5") (chars c.args.written.now) _ _ refl c.is_same_text.ensures c.if-is_same_text.false)
    (written (codes "29") (chars c.args.written.now) _ _ refl c.is_same_text-2.ensures c.if-is_same_text-2.true) c.some_code-then-is_same_text-2.ensures

pub returns-then-is_same_text-3 : goal.returns-then-is_same_text-3
returns-then-is_same_text-3 c =
    third-image _ (chars c.args.written.now) (written (codes "5") (chars c.args.written.now) _ _ refl c.is_same_text.ensures c.if-is_same_text.false)
    (written (codes "29") (chars c.args.written.now) _ _ refl c.is_same_text-2.ensures c.if-is_same_text-2.false)
    (written (codes "72") (chars c.args.written.now) _ _ refl c.is_same_text-3.ensures c.if-is_same_text-3.true) c.some_code-then-is_same_text-3.ensures

pub returns : goal.returns
returns c =
    no-image (chars c.args.written.now) (written (codes "5") (chars c.args.written.now) _ _ refl c.is_same_text.ensures c.if-is_same_text.false)
    (written (codes "29") (chars c.args.written.now) _ _ refl c.is_same_text-2.ensures c.if-is_same_text-2.false)
    (written (codes "72") (chars c.args.written.now) _ _ refl c.is_same_text-3.ensures c.if-is_same_text-3.false)
