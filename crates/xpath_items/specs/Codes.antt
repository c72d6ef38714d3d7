-- The codes of errors of evaluation (XPath 2.0, appendix G; Functions and Operators, appendix C).
use Rattle.std.specs.Prelude.{ℕ, List, codes}
use Rattle.xpath_items.specs.declared.outcome.DynError.{DynError}
use Rattle.xpath_items.specs.declared.outcome.DynError.TheVariants as e

abbrev pub code_text : DynError → List ℕ
code_text e.FOAR0001 = codes "FOAR0001"
code_text e.FOAR0002 = codes "FOAR0002"
code_text e.FORG0001 = codes "FORG0001"
code_text e.FORG0006 = codes "FORG0006"
code_text e.XPTY0004 = codes "XPTY0004"
code_text e.XPTY0018 = codes "XPTY0018"
code_text e.XPTY0019 = codes "XPTY0019"
code_text e.XPTY0020 = codes "XPTY0020"
