use Rattle.std.proofs.Common.{◌^◌, sym, arith}
use Rattle.inv_decimal.proofs.Products.{product_of_parts, product_is_large}
use Rattle.inv_decimal.proofs.wide.scaled_product.Goals as goal

pub returns-then-whole-ge-UNIT : goal.returns-then-whole-ge-UNIT
returns-then-whole-ge-UNIT c =
    λ small. omega (
      arith,
      product_is_large c.args.a c.args.b (10 ^ 18) _ _
          (omega arith) c.split-a_whole.ensures.whole c.split-b_whole.ensures.whole c.if-whole-ge-UNIT.true,
    )

pub returns-then-product-lt-LIMIT : goal.returns-then-product-lt-LIMIT
returns-then-product-lt-LIMIT c =
    let parts = product_of_parts c.args.a c.args.b (10 ^ 18) _ _ _ _
    (omega arith) c.split-a_whole.ensures.whole c.split-a_whole.ensures.rest c.split-b_whole.ensures.whole c.split-b_whole.ensures.rest in
    (omega arith, sym parts)

pub returns-else-product-lt-LIMIT : goal.returns-else-product-lt-LIMIT
returns-else-product-lt-LIMIT c =
    λ small. omega (
      arith,
      product_of_parts c.args.a c.args.b (10 ^ 18) _ _ _ _
          (omega arith) c.split-a_whole.ensures.whole c.split-a_whole.ensures.rest c.split-b_whole.ensures.whole c.split-b_whole.ensures.rest,
    )
